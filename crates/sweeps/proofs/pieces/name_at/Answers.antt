-- A short component with a text is told by its size, and any other by its answer; the other answers are no name.
use Rattle.sweeps.proofs.CodePieceLaws as laws
use Rattle.sweeps.proofs.pieces.name_at.Goals as goal

pub returns : goal.returns
returns c = laws.short-name _ _ _ c.in-Some.ensures c.if-short-gt-MARK_SIZE.true _ c.from.ensures

pub returns-in_err-component : goal.returns-in_err-component
returns-in_err-component c = rw c.from_residual.ensures (laws.dropped _ _ c.ok.ensures.value c.in_err-component.was _ (λ f q. laws.fault-unnamed _ _ _ c.read_component.ensures.value f q))

pub returns-in-Name : goal.returns-in-Name
returns-in-Name c = laws.long-name _ _ _ c.read_component.ensures.value _ (laws.kept _ _ c.ok.ensures.value _ c.in_ok-component.was) _ _ c.in-Name.is

pub returns-in_default : goal.returns-in_default
returns-in_default c = laws.unnamed _ _ _ c.read_component.ensures.value _ (laws.kept _ _ c.ok.ensures.value _ c.in_ok-component.was) c.in_default-2.not-Name
