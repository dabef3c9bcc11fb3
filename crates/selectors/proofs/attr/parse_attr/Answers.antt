-- Each alternative of the definition in its order; where none reads, what was written is wiped.
use mathlib.Core.Path.{◌∙◌, ap}
use Rattle.std.proofs.Common.{Ok}
use Rattle.selectors.proofs.AttrLaws as laws
use borrow.Author.Rules.{rules}
use Rattle.selectors.proofs.attr.parse_attr.Goals as goal

pub slice_bounds-parse_ident-count : goal.slice_bounds-parse_ident-count
slice_bounds-parse_ident-count c = let h = laws.attr-there c.args.s.now _ c.byte_is.ensures c.if-not-byte_is.false in search rules

pub slice_bounds-parse_ident-start : goal.slice_bounds-parse_ident-start
slice_bounds-parse_ident-start c = let h = laws.attr-there c.args.s.now _ c.byte_is.ensures c.if-not-byte_is.false in search rules

pub overflow_add-at : goal.overflow_add-at
overflow_add-at c = let h = laws.attr-name-le c.args.s.now c.args.store.now _ _ c.byte_is.ensures c.if-not-byte_is.false _ _ (c.parse_ident.ensures.value, c.parse_ident.ensures.store_after) _ _ c.in_ok-name.was (laws.attr-there c.args.s.now _ c.byte_is.ensures c.if-not-byte_is.false) in search rules

pub overflow_add-result : goal.overflow_add-result
overflow_add-result c = let h = laws.attr-closed-le c.args.s.now c.args.store.now _ _ c.byte_is.ensures c.if-not-byte_is.false _ _ (c.parse_ident.ensures.value, c.parse_ident.ensures.store_after) _ _ c.in_ok-name.was _ c.byte_is-2.ensures c.if-byte_is.true in search rules

pub returns-then-byte_is : goal.returns-then-byte_is
returns-then-byte_is c = let t = laws.attr-closed _ _ _ _ c.byte_is.ensures c.if-not-byte_is.false _ _ (c.parse_ident.ensures.value, c.parse_ident.ensures.store_after) _ _ c.in_ok-name.was _ c.byte_is-2.ensures c.if-byte_is.true in record { value = t.0; store_after = t.1 }

pub parse_attr_equal-requires : goal.parse_attr_equal-requires
parse_attr_equal-requires c = record { at_in_bounds = laws.equal-before c.args.s.now c.args.store.now _ _ c.byte_is.ensures c.if-not-byte_is.false _ _ (c.parse_ident.ensures.value, c.parse_ident.ensures.store_after) _ _ c.in_ok-name.was _ c.byte_is-2.ensures c.if-byte_is.false _ c.byte_is-3.ensures c.if-byte_is-2.true; clean = laws.equal-clean c.args.s.now c.args.store.now _ _ c.byte_is.ensures c.if-not-byte_is.false _ _ (c.parse_ident.ensures.value, c.parse_ident.ensures.store_after) _ _ c.in_ok-name.was _ c.byte_is-2.ensures c.if-byte_is.false _ c.byte_is-3.ensures c.if-byte_is-2.true c.requires }

pub returns-then-byte_is-2 : goal.returns-then-byte_is-2
returns-then-byte_is-2 c = let t : goal.returns-then-byte_is-2-raw c = laws.attr-equal _ _ _ _ c.byte_is.ensures c.if-not-byte_is.false _ _ (c.parse_ident.ensures.value, c.parse_ident.ensures.store_after) _ _ c.in_ok-name.was _ c.byte_is-2.ensures c.if-byte_is.false _ c.byte_is-3.ensures c.if-byte_is-2.true c.requires.zeros _ _ (c.parse_attr_equal.ensures.value, c.parse_attr_equal.ensures.store_after) in record { value = t.0; store_after = t.1 }

pub returns : goal.returns
returns c = let t : goal.returns-raw c = laws.attr-open _ _ _ _ c.byte_is.ensures c.if-not-byte_is.false _ _ (c.parse_ident.ensures.value, c.parse_ident.ensures.store_after) _ _ c.in_ok-name.was _ c.byte_is-2.ensures c.if-byte_is.false _ c.byte_is-3.ensures c.if-byte_is-2.false c.requires.zeros _ c.fill_part.ensures in record { value = t.0; store_after = t.1 }

pub returns-in_err-name : goal.returns-in_err-name
returns-in_err-name c = let t = laws.attr-unnamed _ _ _ _ c.byte_is.ensures c.if-not-byte_is.false _ _ (c.parse_ident.ensures.value, c.parse_ident.ensures.store_after) c.in_err-name.was in record { value = ap Ok c.from_residual.ensures ∙ t.0; store_after = t.1 }

pub returns-then-not-byte_is : goal.returns-then-not-byte_is
returns-then-not-byte_is c = let t : goal.returns-then-not-byte_is-raw c = laws.attr-missing _ _ _ _ c.byte_is.ensures c.if-not-byte_is.true in record { value = t.0; store_after = t.1 }
