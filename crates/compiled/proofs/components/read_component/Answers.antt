-- A kind in its range is read on from behind it; any other is a fault where it starts. What is read ends within the bytes.
use Rattle.compiled.proofs.Answers.{raised}
use Rattle.compiled.proofs.ComponentCode as laws
use Rattle.compiled.proofs.components.read_component.Goals as goal

pub returns-in_err-kind : goal.returns-in_err-kind
returns-in_err-kind c = let t : goal.returns-in_err-kind-raw c = laws.component-fault _ _ _ c.read_ranged.ensures.value _ c.in_err-kind.was _ (raised _ _ c.from_residual.ensures.1) in record { value = t.0; component_within = t.1 }

pub returns : goal.returns
returns c = let t : goal.returns-raw c = laws.component-read _ _ _ c.read_ranged.ensures.value _ c.in_ok-kind.was _ c.read_body.ensures in record { value = t.0; component_within = t.1 }
