-- A colon, the name `nth-child` and arguments, or nothing; a panic in these is told from the colon on.
use mathlib.Core.Path.{◌∙◌, ap}
use Rattle.std.proofs.Common.{Ok, Err}
use Rattle.std.proofs.lemmas.Result.{err_from_is_err_and}
use Rattle.selectors.proofs.PseudoLaws as laws
use Rattle.selectors.proofs.ReadingLaws.{moved-fits, moved-ok, moved-err}
use borrow.Author.Rules.{rules}
use Rattle.selectors.proofs.components.parse_pseudo_class.Goals as goal

pub returns-then-not-byte_is : goal.returns-then-not-byte_is
returns-then-not-byte_is c = let t : goal.returns-then-not-byte_is-raw c = laws.pseudo-missing _ _ _ c.byte_is.ensures c.if-not-byte_is.true in record { value = t.0; store_unchanged = t.1 }

pub slice_bounds-nth_child_name-count : goal.slice_bounds-nth_child_name-count
slice_bounds-nth_child_name-count c = let h = (laws.colon-there c.args.s.now _ c.byte_is.ensures c.if-not-byte_is.false) in search rules

pub slice_bounds-nth_child_name-start : goal.slice_bounds-nth_child_name-start
slice_bounds-nth_child_name-start c = let h = (laws.colon-there c.args.s.now _ c.byte_is.ensures c.if-not-byte_is.false) in search rules

pub returns-in_default : goal.returns-in_default
returns-in_default c = let t : goal.returns-in_default-raw c = laws.pseudo-other _ _ _ c.byte_is.ensures c.if-not-byte_is.false _ _ (c.nth_child_name.ensures.value, c.nth_child_name.ensures.store_unchanged) c.in_default.is in record { value = t.0; store_unchanged = t.1 }

pub overflow_add-n : goal.overflow_add-n
overflow_add-n c = let h = laws.child-le c.args.s.now c.args.store.now _ c.byte_is.ensures c.if-not-byte_is.false _ _ (c.nth_child_name.ensures.value, c.nth_child_name.ensures.store_unchanged) _ c.in-Some.is (laws.colon-there c.args.s.now _ c.byte_is.ensures c.if-not-byte_is.false) in search rules

pub slice_bounds-parse_nth_child_args-count : goal.slice_bounds-parse_nth_child_args-count
slice_bounds-parse_nth_child_args-count c = let h = laws.child-le c.args.s.now c.args.store.now _ c.byte_is.ensures c.if-not-byte_is.false _ _ (c.nth_child_name.ensures.value, c.nth_child_name.ensures.store_unchanged) _ c.in-Some.is (laws.colon-there c.args.s.now _ c.byte_is.ensures c.if-not-byte_is.false) in search rules

pub slice_bounds-parse_nth_child_args-start : goal.slice_bounds-parse_nth_child_args-start
slice_bounds-parse_nth_child_args-start c = let h = laws.child-le c.args.s.now c.args.store.now _ c.byte_is.ensures c.if-not-byte_is.false _ _ (c.nth_child_name.ensures.value, c.nth_child_name.ensures.store_unchanged) _ c.in-Some.is (laws.colon-there c.args.s.now _ c.byte_is.ensures c.if-not-byte_is.false) in search rules

pub overflow_add-n-2 : goal.overflow_add-n-2
overflow_add-n-2 c = let h = laws.child-le c.args.s.now c.args.store.now _ c.byte_is.ensures c.if-not-byte_is.false _ _ (c.nth_child_name.ensures.value, c.nth_child_name.ensures.store_unchanged) _ c.in-Some.is (laws.colon-there c.args.s.now _ c.byte_is.ensures c.if-not-byte_is.false) in search rules

pub moved-requires : goal.moved-requires
moved-requires c = moved-fits _ _ (λ q e. let h = laws.pseudo-panic-le c.args.s.now c.args.store.now _ c.byte_is.ensures c.if-not-byte_is.false _ _ (c.nth_child_name.ensures.value, c.nth_child_name.ensures.store_unchanged) _ c.in-Some.is _ c.parse_nth_child_args.ensures q.place e (laws.colon-there c.args.s.now _ c.byte_is.ensures c.if-not-byte_is.false) in search rules)

pub overflow_add-result : goal.overflow_add-result
overflow_add-result c = let h = laws.pseudo-le c.args.s.now c.args.store.now _ c.byte_is.ensures c.if-not-byte_is.false _ _ (c.nth_child_name.ensures.value, c.nth_child_name.ensures.store_unchanged) _ c.in-Some.is _ c.parse_nth_child_args.ensures _ _ (moved-ok _ _ _ c.moved.ensures _ (c.in_ok-nth.was ∙ ap Ok c.in-Some-2.is)) (laws.colon-there c.args.s.now _ c.byte_is.ensures c.if-not-byte_is.false) in search rules

pub overflow_add-result-2 : goal.overflow_add-result-2
overflow_add-result-2 c = let h = laws.pseudo-le c.args.s.now c.args.store.now _ c.byte_is.ensures c.if-not-byte_is.false _ _ (c.nth_child_name.ensures.value, c.nth_child_name.ensures.store_unchanged) _ c.in-Some.is _ c.parse_nth_child_args.ensures _ _ (moved-ok _ _ _ c.moved.ensures _ (c.in_ok-nth.was ∙ ap Ok c.in-Some-2.is)) (laws.colon-there c.args.s.now _ c.byte_is.ensures c.if-not-byte_is.false) in search rules

pub returns : goal.returns
returns c = let t = laws.pseudo-nth _ _ _ c.byte_is.ensures c.if-not-byte_is.false _ _ (c.nth_child_name.ensures.value, c.nth_child_name.ensures.store_unchanged) _ c.in-Some.is _ c.parse_nth_child_args.ensures _ _ (moved-ok _ _ _ c.moved.ensures _ (c.in_ok-nth.was ∙ ap Ok c.in-Some-2.is)) in record { value = t.0; store_unchanged = t.1 }

pub returns-in_default-2 : goal.returns-in_default-2
returns-in_default-2 c = let t = laws.pseudo-none _ _ _ c.byte_is.ensures c.if-not-byte_is.false _ _ (c.nth_child_name.ensures.value, c.nth_child_name.ensures.store_unchanged) _ c.in-Some.is _ c.parse_nth_child_args.ensures (moved-ok _ _ _ c.moved.ensures _ (c.in_ok-nth.was ∙ ap Ok c.in_default-2.is)) in record { value = t.0; store_unchanged = t.1 }

pub returns-in_err-nth : goal.returns-in_err-nth
returns-in_err-nth c =
    let p = err_from_is_err_and c.from_residual.result c.from_residual.ensures.1 in
    let m = moved-err _ _ _ c.moved.ensures _ c.in_err-nth.was in
    let t = laws.pseudo-panic _ _ _ c.byte_is.ensures c.if-not-byte_is.false _ _ (c.nth_child_name.ensures.value, c.nth_child_name.ensures.store_unchanged) _ c.in-Some.is _ c.parse_nth_child_args.ensures m.0 m.1 in
    record { value = rw (p.1, p.2) (ap Err m.2 ∙ t.0); store_unchanged = t.1 }
