-- What holds of the rows of an accepted page, each as a fact of its own.
use mathlib.Core.Path.{◌≡◌, refl, sym, ◌∙◌}
use mathlib.Core.Bool.{Bool, true, false}
use mathlib.Core.Logic.{◌⊎◌, inl, inr}
use mathlib.Core.List.{List}
use Prim.Native.Nat.{ℕ, zero, suc, ◌+◌, ◌-◌, ◌≤◌, ◌<◌}
use native.Mathlib.Omega.{arith}
use native.Mathlib.Nat.{not-suc-le-zero}
use borrow.Author.Tests.{leb-true}
use lib.ListN.{length}
use Rattle.combinators.specs.Choice.{pick, and, is}
use Rattle.combinators.specs.Part.{part}
use Rattle.combinators.specs.All.{member}
use Rattle.combinators.proofs.Rules.{and-true, either, is_true}
use Rattle.characters.specs.Utf8.{valid}
use Rattle.page.specs.Rows.{node_count, node_at, document_kind, element_kind, other_kind, attribute_rows, attribute_at, attribute_value}
use Rattle.page.specs.Ancestors.{line_of, depth_of}
use Rattle.page.specs.Accepted.{attributes_before, bytes_before, ends_in_zeros, is_document, is_parent, parent_right, depth_limit, element_follows, kind_right, row_right, text_right, attribute_text_right, attribute_texts_right, texts_right}
use Rattle.page.proofs.Ancestry.{below-depth, depth-most}
use Rattle.page.proofs.RowLaws.{later-right, line_before}
use Rattle.page.proofs.AcceptedPages.{Accepted}

-- what a row has whose kind asks the right things of it
either-kind : (a b c : Bool) → pick a b c ≡ true → ((a ≡ true) × (b ≡ true)) ⊎ ((a ≡ false) × (c ≡ true))
unfolding pick
either-kind true b c e = inl (refl, e)
either-kind false b c e = inr (refl, e)

-- a text that is right lies within the byte text, and is UTF-8
pub text-facts : (text : List ℕ) (start n : ℕ) → text_right text start n ≡ true → (start + n ≤ length text) × (valid (part text start n) ≡ true)
unfolding text_right
text-facts text start n e = let t = and-true _ _ e in (leb-true _ _ t.0, t.1)

-- each of some attribute rows is right where all are
each_right : (attributes text : List ℕ) (k at j : ℕ) → attribute_texts_right attributes text k at ≡ true → j < k → attribute_text_right attributes text (at + j) ≡ true
unfolding attribute_texts_right
each_right attributes text zero at j e l = absurd (not-suc-le-zero l)
each_right attributes text (suc k) at zero e l = let z : at + 0 ≡ at = omega arith in rw z (and-true _ _ e).0
each_right attributes text (suc k) at (suc j) e l =
    let z : at + suc j ≡ at + 1 + j = omega arith in
    rw z (each_right attributes text k (at + 1) j (and-true _ _ e).1 (omega arith))

module _ (nodes attributes text : List ℕ) (ok : Accepted nodes attributes text) where
  -- row 0 is the document: its kind, its parent and all else is 0
  document : ((node_at nodes 0).kind ≡ document_kind) × ((node_at nodes 0).parent ≡ 0) × (ends_in_zeros (node_at nodes 0) ≡ true)
  unfolding row_right is_document
  document =
      let a = and-true _ _ (ok.rules 0 ok.some) in
      let b = and-true _ _ a.0 in
      (is_true _ _ b.0, is_true _ _ b.1, a.1)

  -- row 0 is the document
  pub document-kind : (node_at nodes 0).kind ≡ document_kind
  document-kind = document.0

  -- row 0 ends in zeros
  pub document-zeros : ends_in_zeros (node_at nodes 0) ≡ true
  document-zeros = document.2

  module _ (row : ℕ) (there : row < node_count nodes) where
    -- ---- texts
    -- the texts of a row lie within the byte text and are UTF-8
    pub texts-of : (text_right text (node_at nodes row).name_start (node_at nodes row).name_length ≡ true)
        × (attribute_texts_right attributes text (node_at nodes row).attribute_count (node_at nodes row).first_attribute ≡ true)
    unfolding texts_right
    texts-of = let t = and-true _ _ (ok.texts row there) in (t.0, t.1)

    -- a name lies within the byte text
    pub name-inside : (node_at nodes row).name_start + (node_at nodes row).name_length ≤ length text
    name-inside = (text-facts text _ _ texts-of.0).0

    module _ (j : ℕ) (l : j < (node_at nodes row).attribute_count) where
      -- the row of one of its attributes
      at : ℕ
      at = (node_at nodes row).first_attribute + j

      -- both texts of an attribute are right
      attribute-texts : (text_right text (attribute_at attributes at).name_start (attribute_at attributes at).name_length ≡ true)
          × (text_right text (attribute_at attributes at).value_start (attribute_at attributes at).value_length ≡ true)
      unfolding attribute_text_right at
      attribute-texts = let t = and-true _ _ (each_right attributes text _ _ j texts-of.1 l) in (t.0, t.1)

      -- the value of an attribute is UTF-8
      pub attribute-value-valid : valid (attribute_value attributes text ((node_at nodes row).first_attribute + j)) ≡ true
      unfolding attribute_value at
      attribute-value-valid = (text-facts text _ _ attribute-texts.1).1

    -- ---- a row behind row 0
    module _ (later : 0 < row) where
      -- the rules, one by one
      rules-of : (is_parent nodes (node_at nodes row).parent ≡ true) × (member (node_at nodes row).parent (line_of nodes (row - 1)) ≡ true)
          × (depth_of nodes row ≤ depth_limit) × (kind_right attributes (node_at nodes row) (attributes_before nodes row) (bytes_before nodes attributes row) ≡ true)
      unfolding parent_right
      rules-of =
          let a = and-true _ _ (sym (later-right nodes attributes row later) ∙ ok.rules row there) in
          let b = and-true _ _ a.0 in
          let c = and-true _ _ a.1 in
          (b.0, b.1, leb-true _ _ c.0, c.1)

      -- its parent is row 0 or an element
      pub parent-kind : ((node_at nodes row).parent ≡ 0) ⊎ ((node_at nodes (node_at nodes row).parent).kind ≡ element_kind)
      unfolding is_parent
      parent-kind =
          either (((node_at nodes row).parent ≡ 0) ⊎ ((node_at nodes (node_at nodes row).parent).kind ≡ element_kind)) _ _ rules-of.0 (λ e. inl (is_true _ _ e)) (λ e. inr (is_true _ _ e))

      -- it is the row before or an ancestor of it
      pub parent-open : member (node_at nodes row).parent (line_of nodes (row - 1)) ≡ true
      parent-open = rules-of.1

      -- the parent of the row comes before it
      pub parent-before : (node_at nodes row).parent < row
      parent-before = let l = line_before nodes (row - 1) (node_at nodes row).parent parent-open in omega arith

      -- and the row lies one deeper
      pub one_deeper : depth_of nodes row ≡ suc (depth_of nodes (node_at nodes row).parent)
      one_deeper = below-depth nodes row parent-before

      -- its kind is that of an element, or of other content that ends in zeros
      pub kind-of-row : (((node_at nodes row).kind ≡ other_kind) × (ends_in_zeros (node_at nodes row) ≡ true))
          ⊎ (((node_at nodes row).kind ≡ element_kind) × (element_follows attributes (node_at nodes row) (attributes_before nodes row) (bytes_before nodes attributes row) ≡ true))
      unfolding kind_right
      kind-of-row = go (either-kind _ _ _ rules-of.3)
        where
          go : ((is (node_at nodes row).kind other_kind ≡ true) × (ends_in_zeros (node_at nodes row) ≡ true))
              ⊎ ((is (node_at nodes row).kind other_kind ≡ false) × (and (is (node_at nodes row).kind element_kind) (element_follows attributes (node_at nodes row) (attributes_before nodes row) (bytes_before nodes attributes row)) ≡ true))
              → (((node_at nodes row).kind ≡ other_kind) × (ends_in_zeros (node_at nodes row) ≡ true))
              ⊎ (((node_at nodes row).kind ≡ element_kind) × (element_follows attributes (node_at nodes row) (attributes_before nodes row) (bytes_before nodes attributes row) ≡ true))
          go (inl t) = inl (is_true _ _ t.0, t.1)
          go (inr t) = let e = and-true _ _ t.1 in inr (is_true _ _ e.0, e.1)

      -- what follows on in an element: its name, its attributes, and these end within the attribute rows lent
      module _ (element : (node_at nodes row).kind ≡ element_kind) where
        -- an element starts where the texts and attributes of the rows before it end
        follows : element_follows attributes (node_at nodes row) (attributes_before nodes row) (bytes_before nodes attributes row) ≡ true
        follows = go kind-of-row
          where
            go : (((node_at nodes row).kind ≡ other_kind) × (ends_in_zeros (node_at nodes row) ≡ true))
                ⊎ (((node_at nodes row).kind ≡ element_kind) × (element_follows attributes (node_at nodes row) (attributes_before nodes row) (bytes_before nodes attributes row) ≡ true))
                → element_follows attributes (node_at nodes row) (attributes_before nodes row) (bytes_before nodes attributes row) ≡ true
            go (inl t) = absurd (let z = t.0 in omega arith)
            go (inr t) = t.1

        -- its name starts where the texts before it end
        pub name-follows : (node_at nodes row).name_start ≡ bytes_before nodes attributes row
        unfolding element_follows
        name-follows = is_true _ _ (and-true _ _ (and-true _ _ follows).0).0

        -- its first attribute is behind those of the rows before
        pub attributes-follow : (node_at nodes row).first_attribute ≡ attributes_before nodes row
        unfolding element_follows
        attributes-follow = is_true _ _ (and-true _ _ (and-true _ _ follows).0).1

        -- its attribute rows are lent
        pub attributes-lent : (node_at nodes row).first_attribute + (node_at nodes row).attribute_count ≤ attribute_rows attributes
        unfolding element_follows
        attributes-lent =
            let l : attributes_before nodes row + (node_at nodes row).attribute_count ≤ attribute_rows attributes = leb-true _ _ (and-true _ _ (and-true _ _ follows).1).0 in
            rw attributes-follow l

  -- ---- every row
  -- no row lies deeper than 64
  pub shallow : (row : ℕ) → row < node_count nodes → depth_of nodes row ≤ depth_limit
  shallow zero there = omega (arith, depth-most nodes 0)
  shallow (suc row) there = (rules-of (suc row) there (omega arith)).2
