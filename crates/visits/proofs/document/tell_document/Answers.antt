-- What is left to store into the part comes to what was to be stored in all: a selector stores its block if it has a style, and the others stand behind it.
use native.Mathlib.Omega.{arith}
use Rattle.visits.proofs.CodeTellLaws as laws
use Rattle.visits.proofs.document.tell_document.Goals as goal

pub put_styled-requires : goal.put_styled-requires
put_styled-requires c = let t = laws.tell-lent _ _ _ _ _ _ _ c.loop-left.invariant (omega arith) _ c.skip_selector.ensures _ c.in-Ok.is in record { near = t.0; reads = t.1 }

pub loop-left-preserved : goal.loop-left-preserved
loop-left-preserved c = laws.tell-more _ _ _ _ _ _ _ c.loop-left.invariant (omega arith) _ c.skip_selector.ensures _ c.in-Ok.is _ c.put_styled.ensures

pub returns-in_default : goal.returns-in_default
returns-in_default c = laws.tell-fault _ _ _ _ _ _ _ c.loop-left.invariant (omega arith) _ c.skip_selector.ensures _ c.in_default.is

pub returns : goal.returns
returns c = laws.tell-end _ _ _ _ _ _ _ c.loop-left.invariant (omega arith)
