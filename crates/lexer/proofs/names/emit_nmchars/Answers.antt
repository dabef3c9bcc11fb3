-- At each turn what is left to read and to write has the result of the whole (`Chars`); the text is at most two bytes longer than `s`, so its length fits.
use Rattle.std.proofs.Common.{refl, rules, ◌∙◌}
use native.Mathlib.Omega.{arith}
use Rattle.lexer.proofs.Writing.{writing-begin}
use Rattle.lexer.proofs.CharacterRuns as laws
use Rattle.lexer.proofs.names.emit_nmchars.Goals as goal

pub loop-c-init : goal.loop-c-init
loop-c-init c = record { same = refl; work = writing-begin _ _ _ _ }

pub overflow_add-n : goal.overflow_add-n
overflow_add-n c = omega (arith, laws.chars-small _ _ _ _ _ (laws.chars-more _ _ _ _ _ c.loop-c.invariant.work _ c.nmchar.ensures _ _ c.in-Some.is _ c.emit_scalar.ensures.written _ c.length_of-n.ensures))

pub overflow_add-i : goal.overflow_add-i
overflow_add-i c = omega (arith, (laws.chars-more _ _ _ _ _ c.loop-c.invariant.work _ c.nmchar.ensures _ _ c.in-Some.is _ c.emit_scalar.ensures.written _ c.length_of-n.ensures).within_text)

pub loop-c-smaller : goal.loop-c-smaller
loop-c-smaller c = omega (arith, (laws.chars-more _ _ _ _ _ c.loop-c.invariant.work _ c.nmchar.ensures _ _ c.in-Some.is _ c.emit_scalar.ensures.written _ c.length_of-n.ensures).within_text, laws.chars-some _ _ c.nmchar.ensures _ _ c.in-Some.is)

pub loop-c-preserved : goal.loop-c-preserved
loop-c-preserved c = record {
  same = c.emit_scalar.ensures.same_store ∙ c.loop-c.invariant.same;
  work = laws.chars-more _ _ _ _ _ c.loop-c.invariant.work _ c.nmchar.ensures _ _ c.in-Some.is _ c.emit_scalar.ensures.written _ c.length_of-n.ensures;
}

pub returns : goal.returns
returns c = let t = laws.chars-stop _ _ _ _ _ c.loop-c.invariant.work _ c.nmchar.ensures c.in_default.is in record { taken_value = t.0; store_after = let e = t.1 in search rules }
