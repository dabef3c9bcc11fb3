-- The three numbers are read one behind the other, or the first fault is the head's. What is read ends within the bytes.
use mathlib.Core.Path.{◌∙◌, ◌≡◌}
use Rattle.std.proofs.Common.{rules}
use Rattle.syntax.specs.RuleLayout.{pseudo_number}
use Rattle.compiled.proofs.Answers.{raised}
use Rattle.compiled.proofs.SheetCode as laws
use Rattle.compiled.proofs.sheets.read_long_head.Goals as goal

pub returns-in_err-origin : goal.returns-in_err-origin
unfolding pseudo_number
returns-in_err-origin c = let t : goal.returns-in_err-origin-raw c = laws.bounded _ _ _ _ (raised _ _ c.from_residual.ensures.1 ∙ laws.origin-fault _ _ _ _ c.read_ranged.ensures.value _ c.in_err-origin.was) in record { value = t.0; read_within = t.1 }

pub returns-in_err-pseudo : goal.returns-in_err-pseudo
unfolding pseudo_number
returns-in_err-pseudo c = let t : goal.returns-in_err-pseudo-raw c = laws.bounded _ _ _ _ (raised _ _ c.from_residual-in_err-pseudo.ensures.1 ∙ laws.pseudo-fault _ _ _ _ c.read_ranged.ensures.value _ c.in_ok-origin.was _ c.read_ranged-2.ensures.value _ c.in_err-pseudo.was) in record { value = t.0; read_within = t.1 }

pub returns-in_err-read_number : goal.returns-in_err-read_number
unfolding pseudo_number
returns-in_err-read_number c = let t : goal.returns-in_err-read_number-raw c = laws.bounded _ _ _ _ (raised _ _ c.from_residual-in_err-read_number.ensures.1 ∙ laws.count-fault _ _ _ _ c.read_ranged.ensures.value _ c.in_ok-origin.was _ c.read_ranged-2.ensures.value _ c.in_ok-pseudo.was _ c.read_number.ensures.value _ c.in_err-read_number.was) in record { value = t.0; read_within = t.1 }

pub returns : goal.returns
unfolding pseudo_number
returns c =
    let e : c.map.result.value ≡ record { origin = c.in_ok-origin.origin.value; pseudo = c.in_ok-pseudo.pseudo.value; count = c.in_ok-read_number.field-0.value } = search rules in
    let t : goal.returns-raw c =
    laws.bounded _ _ _ _
    (rw (c.map.ensures.next, e) (laws.whole-head _ _ _ _ c.read_ranged.ensures.value _ c.in_ok-origin.was _ c.read_ranged-2.ensures.value _ c.in_ok-pseudo.was _ c.read_number.ensures.value _ c.in_ok-read_number.was)) in
    record { value = t.0; read_within = t.1 }
