-- What was read and what is still to be read make up the whole at each turn (`Reading-on`); each return is the law of its case.
use mathlib.Core.Path.{◌∙◌, ap}
use Rattle.std.proofs.Common.{Ok, Err}
use native.Mathlib.Omega.{arith}
use Rattle.combinators.proofs.LentLaws.{same-none, same-then, work-none, work-then}
use Rattle.selectors.proofs.SelectorLists as laws
use Rattle.selectors.proofs.selector_lists.parse_selectors.Goals as goal

pub loop-selector-init : goal.loop-selector-init
loop-selector-init c = record { same = same-none; work = work-none; reading = laws.begin _ _ _ _ _ }

pub parse_selector-requires : goal.parse_selector-requires
parse_selector-requires c = record { row_room = laws.next-rows c.loop-selector.invariant.reading c.requires.row_room c.requires.text_room; text_room = laws.next-texts c.loop-selector.invariant.reading c.requires.row_room c.requires.text_room }

pub returns-in-Ok-None : goal.returns-in-Ok-None
returns-in-Ok-None c = let t : goal.returns-in-Ok-None-raw c = (same-then c.loop-selector.invariant.same c.parse_selector.ensures.same, (work-then c.loop-selector.invariant.work c.parse_selector.ensures.work_unchanged, laws.no-selector c.loop-selector.invariant.reading c.requires.row_room c.requires.text_room (c.parse_selector.ensures.value, (c.parse_selector.ensures.rules_after, c.parse_selector.ensures.texts_after)) (c.in-Ok-None.is ∙ ap Ok c.in-Ok-None.field-0-is))) in record { same = t.0; work_unchanged = t.1.0; value = t.1.1.0; rules_after = t.1.1.1.0; texts_after = t.1.1.1.1 }

pub behind-requires : goal.behind-requires
behind-requires c = omega (arith, c.requires.row_room.bits, laws.panic-within c.loop-selector.invariant.reading c.requires.row_room c.requires.text_room (c.parse_selector.ensures.value, (c.parse_selector.ensures.rules_after, c.parse_selector.ensures.texts_after)) c.in-Err.is)

pub returns-in-Err : goal.returns-in-Err
returns-in-Err c = let t = laws.panics-left c.loop-selector.invariant.reading c.requires.row_room c.requires.text_room (c.parse_selector.ensures.value, (c.parse_selector.ensures.rules_after, c.parse_selector.ensures.texts_after)) c.in-Err.is c.take_back.ensures.rules_after c.take_back.ensures.texts_after in record { same = same-then (same-then c.loop-selector.invariant.same c.parse_selector.ensures.same) c.take_back.ensures.same; work_unchanged = work-then (work-then c.loop-selector.invariant.work c.parse_selector.ensures.work_unchanged) c.take_back.ensures.work_unchanged; value = ap Err c.behind.ensures ∙ t.0; rules_after = t.1.0; texts_after = t.1.1 }

pub overflow_add-read : goal.overflow_add-read
overflow_add-read c = omega (arith, c.requires.row_room.bits, laws.taken-within c.loop-selector.invariant.reading c.requires.row_room c.requires.text_room (c.parse_selector.ensures.value, (c.parse_selector.ensures.rules_after, c.parse_selector.ensures.texts_after)) (c.in-Ok-Some.is ∙ ap Ok c.in-Ok-Some.field-0-is))

pub overflow_add-read-in-Ok-Some-2 : goal.overflow_add-read-in-Ok-Some-2
overflow_add-read-in-Ok-Some-2 c = omega (arith, c.requires.row_room.bits, laws.taken-within c.loop-selector.invariant.reading c.requires.row_room c.requires.text_room (c.parse_selector.ensures.value, (c.parse_selector.ensures.rules_after, c.parse_selector.ensures.texts_after)) (c.in-Ok-Some.is ∙ ap Ok c.in-Ok-Some.field-0-is), laws.numbers-few c.loop-selector.invariant.reading c.requires.row_room c.requires.text_room (c.parse_selector.ensures.value, (c.parse_selector.ensures.rules_after, c.parse_selector.ensures.texts_after)) (c.in-Ok-Some.is ∙ ap Ok c.in-Ok-Some.field-0-is))

pub overflow_add-read-in-Ok-Some-3 : goal.overflow_add-read-in-Ok-Some-3
overflow_add-read-in-Ok-Some-3 c = omega (arith, c.requires.text_room.bits, laws.taken-within c.loop-selector.invariant.reading c.requires.row_room c.requires.text_room (c.parse_selector.ensures.value, (c.parse_selector.ensures.rules_after, c.parse_selector.ensures.texts_after)) (c.in-Ok-Some.is ∙ ap Ok c.in-Ok-Some.field-0-is), laws.text-few c.loop-selector.invariant.reading c.requires.row_room c.requires.text_room (c.parse_selector.ensures.value, (c.parse_selector.ensures.rules_after, c.parse_selector.ensures.texts_after)) (c.in-Ok-Some.is ∙ ap Ok c.in-Ok-Some.field-0-is))

pub overflow_add-read-in-Ok-Some-4 : goal.overflow_add-read-in-Ok-Some-4
overflow_add-read-in-Ok-Some-4 c = omega (arith, c.requires.row_room.bits, laws.comma-within c.loop-selector.invariant.reading c.requires.row_room c.requires.text_room (c.parse_selector.ensures.value, (c.parse_selector.ensures.rules_after, c.parse_selector.ensures.texts_after)) (c.in-Ok-Some.is ∙ ap Ok c.in-Ok-Some.field-0-is) c.byte_is.ensures c.if-not-byte_is.false)

pub skip_from-next-requires : goal.skip_from-next-requires
skip_from-next-requires c = omega (arith, laws.comma-within c.loop-selector.invariant.reading c.requires.row_room c.requires.text_room (c.parse_selector.ensures.value, (c.parse_selector.ensures.rules_after, c.parse_selector.ensures.texts_after)) (c.in-Ok-Some.is ∙ ap Ok c.in-Ok-Some.field-0-is) c.byte_is.ensures c.if-not-byte_is.false)

pub loop-selector-preserved : goal.loop-selector-preserved
loop-selector-preserved c = record { same = same-then c.loop-selector.invariant.same c.parse_selector.ensures.same; work = work-then c.loop-selector.invariant.work c.parse_selector.ensures.work_unchanged; reading = laws.goes c.loop-selector.invariant.reading c.requires.row_room c.requires.text_room (c.parse_selector.ensures.value, (c.parse_selector.ensures.rules_after, c.parse_selector.ensures.texts_after)) (c.in-Ok-Some.is ∙ ap Ok c.in-Ok-Some.field-0-is) c.byte_is.ensures c.if-not-byte_is.false c.skip_from-next.ensures.value c.skip_from-next.ensures.upper_bound }

pub returns-then-not-byte_is : goal.returns-then-not-byte_is
returns-then-not-byte_is c = let t : goal.returns-then-not-byte_is-raw c = (same-then c.loop-selector.invariant.same c.parse_selector.ensures.same, (work-then c.loop-selector.invariant.work c.parse_selector.ensures.work_unchanged, laws.no-comma c.loop-selector.invariant.reading c.requires.row_room c.requires.text_room (c.parse_selector.ensures.value, (c.parse_selector.ensures.rules_after, c.parse_selector.ensures.texts_after)) (c.in-Ok-Some.is ∙ ap Ok c.in-Ok-Some.field-0-is) c.byte_is.ensures c.if-not-byte_is.true)) in record { same = t.0; work_unchanged = t.1.0; value = t.1.1.0; rules_after = t.1.1.1.0; texts_after = t.1.1.1.1 }
