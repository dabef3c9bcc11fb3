-- What was read and what is still to be read make up the whole at each turn (`Reading-on`); each return is the law of its case.
use mathlib.Core.Path.{◌∙◌, ap}
use Rattle.std.proofs.Common.{Ok, Err}
use native.Mathlib.Omega.{arith}
use Rattle.combinators.proofs.LentLaws.{same-none, same-then, work-none, work-then}
use Rattle.selectors.proofs.ComponentTurns as laws
use Rattle.selectors.proofs.selectors.parse_body.Goals as goal

pub loop-read-init : goal.loop-read-init
loop-read-init c = record { same = same-none; work = work-none; reading = laws.begin _ _ _ _ _ }

pub parse_next-requires : goal.parse_next-requires
parse_next-requires c = laws.next-room c.loop-read.invariant.reading c.requires.row_room c.requires.text_room

pub put_component-requires : goal.put_component-requires
put_component-requires c = rw c.from-row.ensures (laws.fits c.loop-read.invariant.reading c.requires.row_room c.requires.text_room (c.parse_next.ensures.value, c.parse_next.ensures.store_after) (c.in-Ok-Some.is ∙ ap Ok c.in-Ok-Some.field-0-is))

pub overflow_add-body : goal.overflow_add-body
overflow_add-body c = omega (arith, c.requires.text_room.bits, laws.taken-within c.loop-read.invariant.reading c.requires.row_room c.requires.text_room (c.parse_next.ensures.value, c.parse_next.ensures.store_after) (c.in-Ok-Some.is ∙ ap Ok c.in-Ok-Some.field-0-is))

pub text_length-requires : goal.text_length-requires
text_length-requires c = omega (arith, c.requires.text_room.bits, laws.taken-within c.loop-read.invariant.reading c.requires.row_room c.requires.text_room (c.parse_next.ensures.value, c.parse_next.ensures.store_after) (c.in-Ok-Some.is ∙ ap Ok c.in-Ok-Some.field-0-is), laws.text-short c.loop-read.invariant.reading c.requires.row_room c.requires.text_room (c.parse_next.ensures.value, c.parse_next.ensures.store_after) (c.in-Ok-Some.is ∙ ap Ok c.in-Ok-Some.field-0-is))

pub overflow_add-body-in-Ok-Some : goal.overflow_add-body-in-Ok-Some
overflow_add-body-in-Ok-Some c = omega (arith, c.text_length.ensures, c.requires.text_room.bits, laws.taken-within c.loop-read.invariant.reading c.requires.row_room c.requires.text_room (c.parse_next.ensures.value, c.parse_next.ensures.store_after) (c.in-Ok-Some.is ∙ ap Ok c.in-Ok-Some.field-0-is), laws.text-short c.loop-read.invariant.reading c.requires.row_room c.requires.text_room (c.parse_next.ensures.value, c.parse_next.ensures.store_after) (c.in-Ok-Some.is ∙ ap Ok c.in-Ok-Some.field-0-is))

pub loop-read-smaller-then-is_kept : goal.loop-read-smaller-then-is_kept
loop-read-smaller-then-is_kept c = omega (arith, laws.taken-within c.loop-read.invariant.reading c.requires.row_room c.requires.text_room (c.parse_next.ensures.value, c.parse_next.ensures.store_after) (c.in-Ok-Some.is ∙ ap Ok c.in-Ok-Some.field-0-is), laws.taken_more c.loop-read.invariant.reading c.requires.row_room c.requires.text_room (c.parse_next.ensures.value, c.parse_next.ensures.store_after) (c.in-Ok-Some.is ∙ ap Ok c.in-Ok-Some.field-0-is))

pub loop-read-smaller : goal.loop-read-smaller
loop-read-smaller c = omega (arith, laws.taken-within c.loop-read.invariant.reading c.requires.row_room c.requires.text_room (c.parse_next.ensures.value, c.parse_next.ensures.store_after) (c.in-Ok-Some.is ∙ ap Ok c.in-Ok-Some.field-0-is), laws.taken_more c.loop-read.invariant.reading c.requires.row_room c.requires.text_room (c.parse_next.ensures.value, c.parse_next.ensures.store_after) (c.in-Ok-Some.is ∙ ap Ok c.in-Ok-Some.field-0-is))

pub loop-read-preserved-then-is_kept : goal.loop-read-preserved-then-is_kept
loop-read-preserved-then-is_kept c = record { same = record { rules = c.loop-read.invariant.same.rules; tokens = c.loop-read.invariant.same.tokens; brackets = c.loop-read.invariant.same.brackets; texts = c.loop-read.invariant.same.texts }; work = record { tokens = c.loop-read.invariant.work.tokens; brackets = c.loop-read.invariant.work.brackets }; reading = laws.keeps-row c.loop-read.invariant.reading c.requires.row_room c.requires.text_room (c.parse_next.ensures.value, c.parse_next.ensures.store_after) (c.in-Ok-Some.is ∙ ap Ok c.in-Ok-Some.field-0-is) c.if-is_kept.ensures (rw c.from-row.ensures at c.put_component.ensures) c.text_length.ensures }

pub loop-read-preserved : goal.loop-read-preserved
loop-read-preserved c = record { same = record { rules = c.loop-read.invariant.same.rules; tokens = c.loop-read.invariant.same.tokens; brackets = c.loop-read.invariant.same.brackets; texts = c.loop-read.invariant.same.texts }; work = record { tokens = c.loop-read.invariant.work.tokens; brackets = c.loop-read.invariant.work.brackets }; reading = laws.drops-row c.loop-read.invariant.reading c.requires.row_room c.requires.text_room (c.parse_next.ensures.value, c.parse_next.ensures.store_after) (c.in-Ok-Some.is ∙ ap Ok c.in-Ok-Some.field-0-is) c.if-is_kept.ensures c.text_length.ensures }

pub returns : goal.returns
returns c = let t = laws.ends-there c.loop-read.invariant.reading c.requires.row_room c.requires.text_room (c.parse_next.ensures.value, c.parse_next.ensures.store_after) (c.in-Ok-None.is ∙ ap Ok c.in-Ok-None.field-0-is) in record { same = record { rules = c.loop-read.invariant.same.rules; tokens = c.loop-read.invariant.same.tokens; brackets = c.loop-read.invariant.same.brackets; texts = c.loop-read.invariant.same.texts }; work_unchanged = record { tokens = c.loop-read.invariant.work.tokens; brackets = c.loop-read.invariant.work.brackets }; value = ap Ok c.then_some.ensures ∙ t.0; rules_after = t.1.0; texts_after = t.1.1 }

pub behind-requires : goal.behind-requires
behind-requires c = omega (arith, c.requires.text_room.bits, laws.panic-within c.loop-read.invariant.reading c.requires.row_room c.requires.text_room (c.parse_next.ensures.value, c.parse_next.ensures.store_after) c.in-Err.is)

pub returns-in-Err : goal.returns-in-Err
returns-in-Err c = let t = laws.panics-left c.loop-read.invariant.reading c.requires.row_room c.requires.text_room (c.parse_next.ensures.value, c.parse_next.ensures.store_after) c.in-Err.is c.take_back.ensures.rules_after c.take_back.ensures.texts_after in record { same = same-then (record { rules = c.loop-read.invariant.same.rules; tokens = c.loop-read.invariant.same.tokens; brackets = c.loop-read.invariant.same.brackets; texts = c.loop-read.invariant.same.texts }) c.take_back.ensures.same; work_unchanged = work-then (record { tokens = c.loop-read.invariant.work.tokens; brackets = c.loop-read.invariant.work.brackets }) c.take_back.ensures.work_unchanged; value = ap Err c.behind.ensures ∙ t.0; rules_after = t.1.0; texts_after = t.1.1 }
