-- The components as `parse_body` leaves them, without a blank at the end and behind the head: the row of the selector.
use mathlib.Core.Path.{◌∙◌, ap}
use Rattle.std.proofs.Common.{Ok}
use Rattle.std.proofs.lemmas.Result.{err_from_is_err_and}
use native.Mathlib.Omega.{arith}
use Rattle.syntax.specs.RuleLayout.{pseudo_number}
use Rattle.selectors.proofs.Selecting as laws
use Rattle.selectors.proofs.selectors.parse_selector.Goals as goal

pub parse_body-requires : goal.parse_body-requires
parse_body-requires c = record { row_room = laws.body-rows c.requires.row_room c.requires.text_room; text_room = c.requires.text_room }

pub returns-in_default : goal.returns-in_default
returns-in_default c = let t : goal.returns-in_default-raw c = (c.parse_body.ensures.same, (c.parse_body.ensures.work_unchanged, laws.fails-left c.requires.row_room c.requires.text_room (c.parse_body.ensures.value, (c.parse_body.ensures.rules_after, c.parse_body.ensures.texts_after)) (c.in_ok-body.was ∙ ap Ok c.in_default.is))) in record { same = t.0; work_unchanged = t.1.0; value = t.1.1.0; rules_after = t.1.1.1.0; texts_after = t.1.1.1.1 }

pub returns-in_err-body : goal.returns-in_err-body
returns-in_err-body c = let p = err_from_is_err_and c.from_residual.result c.from_residual.ensures.1 in let t = laws.panics-left c.requires.row_room c.requires.text_room (c.parse_body.ensures.value, (c.parse_body.ensures.rules_after, c.parse_body.ensures.texts_after)) c.in_err-body.was in record { same = c.parse_body.ensures.same; work_unchanged = c.parse_body.ensures.work_unchanged; value = rw (p.1, p.2) t.0; rules_after = t.1.0; texts_after = t.1.1 }

pub drop_blank-kept-requires : goal.drop_blank-kept-requires
drop_blank-kept-requires c = laws.rows-bits c.requires.row_room c.requires.text_room (c.parse_body.ensures.value, (c.parse_body.ensures.rules_after, c.parse_body.ensures.texts_after)) (c.in_ok-body.was ∙ ap Ok c.in-Some.is)

pub slice_bounds-parse_pseudo_element-count : goal.slice_bounds-parse_pseudo_element-count
slice_bounds-parse_pseudo_element-count c = omega (arith, laws.n_within c.requires.row_room c.requires.text_room (c.parse_body.ensures.value, (c.parse_body.ensures.rules_after, c.parse_body.ensures.texts_after)) (c.in_ok-body.was ∙ ap Ok c.in-Some.is))

pub slice_bounds-parse_pseudo_element-start : goal.slice_bounds-parse_pseudo_element-start
slice_bounds-parse_pseudo_element-start c = omega (arith, laws.n_within c.requires.row_room c.requires.text_room (c.parse_body.ensures.value, (c.parse_body.ensures.rules_after, c.parse_body.ensures.texts_after)) (c.in_ok-body.was ∙ ap Ok c.in-Some.is))

pub put_selector_head-requires : goal.put_selector_head-requires
put_selector_head-requires c = omega (arith, laws.kept-few c.requires.row_room c.requires.text_room (c.parse_body.ensures.value, (c.parse_body.ensures.rules_after, c.parse_body.ensures.texts_after)) (c.in_ok-body.was ∙ ap Ok c.in-Some.is) c.drop_blank-kept.ensures.value c.drop_blank-kept.ensures.rules_after, c.requires.text_room.bits)

pub overflow_add-result : goal.overflow_add-result
overflow_add-result c = omega (arith, c.requires.text_room.bits, laws.taken-few c.requires.row_room c.requires.text_room (c.parse_body.ensures.value, (c.parse_body.ensures.rules_after, c.parse_body.ensures.texts_after)) (c.in_ok-body.was ∙ ap Ok c.in-Some.is) c.drop_blank-kept.ensures.value c.drop_blank-kept.ensures.rules_after (c.parse_pseudo_element-pseudo.ensures.0, c.pseudo_number.ensures ∙ ap pseudo_number c.parse_pseudo_element-pseudo.ensures.1))

pub overflow_mul-result : goal.overflow_mul-result
overflow_mul-result c = omega (arith, laws.kept-few c.requires.row_room c.requires.text_room (c.parse_body.ensures.value, (c.parse_body.ensures.rules_after, c.parse_body.ensures.texts_after)) (c.in_ok-body.was ∙ ap Ok c.in-Some.is) c.drop_blank-kept.ensures.value c.drop_blank-kept.ensures.rules_after, c.requires.text_room.bits)

pub overflow_add-result-2 : goal.overflow_add-result-2
overflow_add-result-2 c = omega (arith, laws.kept-few c.requires.row_room c.requires.text_room (c.parse_body.ensures.value, (c.parse_body.ensures.rules_after, c.parse_body.ensures.texts_after)) (c.in_ok-body.was ∙ ap Ok c.in-Some.is) c.drop_blank-kept.ensures.value c.drop_blank-kept.ensures.rules_after, c.requires.text_room.bits)

pub returns : goal.returns
returns c = let t : goal.returns-raw c = (record { rules = c.parse_body.ensures.same.rules; tokens = c.parse_body.ensures.same.tokens; brackets = c.parse_body.ensures.same.brackets; texts = c.parse_body.ensures.same.texts }, (record { tokens = c.parse_body.ensures.work_unchanged.tokens; brackets = c.parse_body.ensures.work_unchanged.brackets }, laws.reads-left c.requires.row_room c.requires.text_room (c.parse_body.ensures.value, (c.parse_body.ensures.rules_after, c.parse_body.ensures.texts_after)) (c.in_ok-body.was ∙ ap Ok c.in-Some.is) c.drop_blank-kept.ensures.value c.drop_blank-kept.ensures.rules_after (c.parse_pseudo_element-pseudo.ensures.0, c.pseudo_number.ensures ∙ ap pseudo_number c.parse_pseudo_element-pseudo.ensures.1) c.put_selector_head.ensures)) in record { same = t.0; work_unchanged = t.1.0; value = t.1.1.0; rules_after = t.1.1.1.0; texts_after = t.1.1.1.1 }
