-- The mark of importance is 0 or 1, and start, slot and value are read on behind it. What is read ends within the bytes.
use mathlib.Core.Path.{◌∙◌, ◌≡◌, refl}
use Rattle.std.proofs.Common.{rules}
use Rattle.combinators.specs.Choice.{is}
use Rattle.syntax.specs.Layout.{flag_of}
use Rattle.compiled.proofs.Answers.{raised}
use Rattle.compiled.proofs.StyleCode as laws
use Rattle.compiled.proofs.bytes.SheetBytes.read_style.Goals as goal

pub returns-in_err-important : goal.returns-in_err-important
returns-in_err-important c = let t : goal.returns-in_err-important-raw c = laws.bounded _ _ _ (raised _ _ c.from_residual.ensures.1 ∙ laws.mark-fault _ _ _ c.read_ranged.ensures.value _ c.in_err-important.was) in record { value = t.0; read_within = t.1 }

pub returns-in_err-start : goal.returns-in_err-start
returns-in_err-start c = let t : goal.returns-in_err-start-raw c = laws.bounded _ _ _ (raised _ _ c.from_residual-in_err-start.ensures.1 ∙ laws.start-fault _ _ _ c.read_ranged.ensures.value _ c.in_ok-important.was _ c.read_number.ensures.value _ c.in_err-start.was) in record { value = t.0; read_within = t.1 }

pub returns-in_err-slot : goal.returns-in_err-slot
returns-in_err-slot c = let t : goal.returns-in_err-slot-raw c = laws.bounded _ _ _ (raised _ _ c.from_residual-in_err-slot.ensures.1 ∙ laws.slot-fault _ _ _ c.read_ranged.ensures.value _ c.in_ok-important.was _ c.read_number.ensures.value _ c.in_ok-start.was _ c.read_ranged-2.ensures.value _ c.in_err-slot.was) in record { value = t.0; read_within = t.1 }

pub returns-in_err-value : goal.returns-in_err-value
returns-in_err-value c = let t : goal.returns-in_err-value-raw c = laws.bounded _ _ _ (raised _ _ c.from_residual-in_err-value.ensures.1 ∙ laws.value-fault _ _ _ c.read_ranged.ensures.value _ c.in_ok-important.was _ c.read_number.ensures.value _ c.in_ok-start.was _ c.read_ranged-2.ensures.value _ c.in_ok-slot.was _ c.read_value.ensures _ c.in_err-value.was) in record { value = t.0; read_within = t.1 }

pub returns : goal.returns
unfolding flag_of is
returns c =
    let e : c.map.result.value ≡ record { slot = c.in_ok-slot.slot.value; important = flag_of c.in_ok-important.important.value; value = c.in_ok-value.value.value } = search rules in
    let t : goal.returns-raw c =
    laws.bounded _ _ _
    (rw (c.map.ensures.next, e) (laws.whole-style _ _ _ c.read_ranged.ensures.value _ c.in_ok-important.was _ c.read_number.ensures.value _ c.in_ok-start.was _ c.read_ranged-2.ensures.value _ c.in_ok-slot.was _ c.read_value.ensures _ c.in_ok-value.was _ refl)) in
    record { value = t.0; read_within = t.1 }
