-- The number that was read lies within the range, or it is a fault where it starts.
use mathlib.Core.Path.{sym, ◌∙◌}
use Rattle.combinators.proofs.Rules.{within-true}
use Rattle.compiled.proofs.Answers.{raised}
use Rattle.compiled.proofs.NumberReading as laws
use Rattle.compiled.proofs.numbers.read_ranged.Goals as goal

pub returns-in_err-number : goal.returns-in_err-number
returns-in_err-number c = let t : goal.returns-in_err-number-raw c = laws.ranged-fault _ _ _ _ _ c.read_number.ensures.value _ c.in_err-number.was _ (raised _ _ c.from_residual.ensures.1) in record { value = t.0; read_within = t.1 }

pub returns-then-contains : goal.returns-then-contains
returns-then-contains c =
    let n = c.new.ensures in
    let w = within-true _ _ _ (sym (laws.contained _ _ _ _ _ _ _ n.start n.end n.exhausted c.contains.ensures.value) ∙ c.if-contains.true) in
    let t : goal.returns-then-contains-raw c = laws.ranged-in _ _ _ _ _ c.read_number.ensures.value _ c.in_ok-number.was w.0 w.1 in
    record { value = t.0; read_within = t.1 }

pub returns-else-contains : goal.returns-else-contains
returns-else-contains c =
    let n = c.new.ensures in
    let w = sym (laws.contained _ _ _ _ _ _ _ n.start n.end n.exhausted c.contains.ensures.value) ∙ c.if-contains.false in
    let t : goal.returns-else-contains-raw c = laws.ranged-out _ _ _ _ _ c.read_number.ensures.value _ c.in_ok-number.was w in
    record { value = t.0; read_within = t.1 }
