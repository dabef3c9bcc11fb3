-- By the name behind the number: it is read back from the store, and what stands behind it decides.
use mathlib.Core.List.{[]}
use mathlib.Core.Path.{refl}
use Rattle.lengths.proofs.TokenLaws as laws
use borrow.Author.Rules.{rules}
use Rattle.lengths.proofs.tokens.length_behind.Goals as goal

pub returns-in-None-clause-value : goal.returns-in-None-clause-value
returns-in-None-clause-value c = laws.number-alone _ _ _ _ c.requires _ _ (c.parse_ident.ensures.value, c.parse_ident.ensures.store_after) c.in-None.is _ c.only_whitespace.ensures c.if-only_whitespace.true _ c.number_length.ensures

pub slice_bounds-only_whitespace-count : goal.slice_bounds-only_whitespace-count
slice_bounds-only_whitespace-count c = let h = laws.unit-within 0 [] _ _ c.requires _ _ (c.parse_ident.ensures.value, c.parse_ident.ensures.store_after) _ _ c.in-Some.is in search rules

pub slice_bounds-only_whitespace-start : goal.slice_bounds-only_whitespace-start
slice_bounds-only_whitespace-start c = let h = laws.unit-within 0 [] _ _ c.requires _ _ (c.parse_ident.ensures.value, c.parse_ident.ensures.store_after) _ _ c.in-Some.is in search rules

pub returns-in-Some-clause-value : goal.returns-in-Some-clause-value
returns-in-Some-clause-value c = laws.unit-alone _ _ _ _ c.requires _ _ (c.parse_ident.ensures.value, c.parse_ident.ensures.store_after) _ _ c.in-Some.is _ c.if-only_whitespace-2.ensures refl _ c.part_of.ensures _ c.dimension_length.ensures

pub returns-in_default-clause-value : goal.returns-in_default-clause-value
returns-in_default-clause-value c = laws.number-followed _ _ _ _ c.requires _ _ (c.parse_ident.ensures.value, c.parse_ident.ensures.store_after) c.in-None.is _ c.only_whitespace.ensures c.if-only_whitespace.false

pub returns-in_default-2-clause-value : goal.returns-in_default-2-clause-value
returns-in_default-2-clause-value c = laws.unit-followed _ _ _ _ c.requires _ _ (c.parse_ident.ensures.value, c.parse_ident.ensures.store_after) _ _ c.in-Some.is _ c.if-only_whitespace-2.ensures refl
