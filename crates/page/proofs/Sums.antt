-- On an accepted page the texts of all rows together end within the byte text, and the attributes within the attribute rows lent.
use mathlib.Core.Path.{◌≡◌}
use mathlib.Core.Bool.{true}
use mathlib.Core.Logic.{◌⊎◌, inl, inr}
use mathlib.Core.List.{List}
use Prim.Native.Nat.{ℕ, zero, suc, ◌+◌, ◌≤◌, ◌<◌}
use native.Mathlib.Omega.{arith}
use lib.ListN.{length}
use Rattle.combinators.proofs.Rules.{and-true, is_true}
use Rattle.page.specs.Rows.{node_count, node_at, element_kind, other_kind, attribute_rows, attribute_at}
use Rattle.page.specs.Accepted.{attributes_before, attributes_end, texts_end, bytes_before, ends_in_zeros, attributes_follow, element_follows, attribute_text_right, attribute_texts_right}
use Rattle.page.proofs.AcceptedPages.{Accepted}
use Rattle.page.proofs.RowLaws.{no-texts, no_more}
use Rattle.page.proofs.RowFacts.{text-facts, texts-of, document-zeros, kind-of-row, name-inside, name-follows, attributes-follow, attributes-lent}

-- attribute rows whose texts lie end to end, each within the byte text, end within it
attributes-within : (attributes text : List ℕ) (k at start : ℕ) → attributes_follow attributes k at start ≡ true → attribute_texts_right attributes text k at ≡ true
    → start ≤ length text → attributes_end attributes k at start ≤ length text
unfolding attributes_follow attribute_texts_right attribute_text_right attributes_end
attributes-within attributes text zero at start f t h = h
attributes-within attributes text (suc k) at start f t h =
    let g = and-true _ _ f in
    let v = and-true _ _ g.1 in
    let u = and-true _ _ t in
    let e : (attribute_at attributes at).value_start ≡ start + (attribute_at attributes at).name_length = is_true _ _ v.0 in
    let l = (text-facts text _ _ (and-true _ _ u.0).1).0 in
    attributes-within attributes text k (at + 1) _ v.1 u.1 (omega arith)

module _ (nodes attributes text : List ℕ) (ok : Accepted nodes attributes text) where
  abbrev Within : ℕ → Type 0
  Within row = (bytes_before nodes attributes row ≤ length text) × (attributes_before nodes row ≤ attribute_rows attributes)

  -- a row that ends in zeros adds nothing
  zeros_within : (row : ℕ) → ends_in_zeros (node_at nodes row) ≡ true → Within row → Within (suc row)
  unfolding bytes_before attributes_before
  zeros_within row z w =
      let b = no-texts attributes (node_at nodes row) 0 (bytes_before nodes attributes row) z in
      let a = no_more attributes (node_at nodes row) (attributes_before nodes row) 0 z in
      (omega (arith, b, w.0), omega (arith, a, w.1))

  -- an element's texts end within the byte text
  element-within : (row : ℕ) → suc row < node_count nodes → (node_at nodes (suc row)).kind ≡ element_kind
      → element_follows attributes (node_at nodes (suc row)) (attributes_before nodes (suc row)) (bytes_before nodes attributes (suc row)) ≡ true → Within (suc (suc row))
  unfolding bytes_before attributes_before texts_end element_follows
  element-within row l e f =
      let n = name-follows nodes attributes text ok (suc row) l (omega arith) e in
      let a = attributes-follow nodes attributes text ok (suc row) l (omega arith) e in
      let m = attributes-lent nodes attributes text ok (suc row) l (omega arith) e in
      let i = name-inside nodes attributes text ok (suc row) l in
      let g : attributes_follow attributes (node_at nodes (suc row)).attribute_count (node_at nodes (suc row)).first_attribute (bytes_before nodes attributes (suc row) + (node_at nodes (suc row)).name_length) ≡ true =
      rw a (and-true _ _ (and-true _ _ f).1).1 in
      (attributes-within attributes text _ _ _ g (texts-of nodes attributes text ok (suc row) l).1 (omega arith), omega arith)

  -- a row behind row 0, by its kind
  later-within : (row : ℕ) → suc row < node_count nodes → Within (suc row)
      → (((node_at nodes (suc row)).kind ≡ other_kind) × (ends_in_zeros (node_at nodes (suc row)) ≡ true))
      ⊎ (((node_at nodes (suc row)).kind ≡ element_kind) × (element_follows attributes (node_at nodes (suc row)) (attributes_before nodes (suc row)) (bytes_before nodes attributes (suc row)) ≡ true))
      → Within (suc (suc row))
  later-within row l w (inl t) = zeros_within (suc row) t.1 w
  later-within row l w (inr t) = element-within row l t.0 t.1

  -- before row 0 the totals are 0
  nothing-within : Within 0
  unfolding bytes_before attributes_before
  nothing-within = (omega arith, omega arith)

  -- the totals before any row of the page lie within what is lent
  within : (row : ℕ) → row ≤ node_count nodes → Within row
  within zero l = nothing-within
  within (suc zero) l = zeros_within 0 (document-zeros nodes attributes text ok) nothing-within
  within (suc (suc row)) l = later-within row (omega arith) (within (suc row) (omega arith)) (kind-of-row nodes attributes text ok (suc row) (omega arith) (omega arith))

  -- the texts of the rows before a row end within the byte text
  pub bytes-within : (row : ℕ) → row ≤ node_count nodes → bytes_before nodes attributes row ≤ length text
  bytes-within row l = (within row l).0

  -- their attributes within the attribute rows lent
  pub attributes-before-within : (row : ℕ) → row ≤ node_count nodes → attributes_before nodes row ≤ attribute_rows attributes
  attributes-before-within row l = (within row l).1
