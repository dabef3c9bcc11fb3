-- What a row hands to its step: a part of the node list and one of the attribute list, read from their starts, are the row and its attributes as the page has them.
use Prim.Native.Nat.{ℕ, zero, suc, ◌+◌, ◌*◌, ◌≤◌, ◌<◌}
use mathlib.Core.Path.{◌≡◌, refl, ap, ap₂, ◌∙◌}
use mathlib.Core.Logic.{◌⊎◌, inl, inr}
use mathlib.Core.Bool.{true}
use mathlib.Core.List.{List}
use native.Mathlib.Omega.{arith}
use lib.ListN.{length, get_or, drop, length-drop}
use lib.Seq.{length-take-le}
use Rattle.combinators.specs.Part.{part}
use Rattle.combinators.proofs.Rules.{and-true, is_true}
use Rattle.page.specs.Accepted.{ends_in_zeros}
use Rattle.page.specs.PathOf.{attributes_from}
use Rattle.page.specs.Rows.{node_width, node_count, node_number, node_at, NodeRow, name_of, element_kind, other_kind, attribute_width, attribute_rows}
use Rattle.page.proofs.AcceptedPages.{Accepted}
use Rattle.page.proofs.OwnAttributes as owned
use Rattle.page.proofs.RowFacts.{document-zeros, kind-of-row, attributes-lent}
use Rattle.page.specs.Lent.{Page}
use Rattle.runner.specs.Run.{handed_from, handed_at}
use Rattle.runner.proofs.StateParts.{part-number}

-- ---- the row of a node, as it is handed
module _ (nodes : List ℕ) (i : ℕ) where
  abbrev own : List ℕ
  own = part nodes (i * node_width) node_width

  -- a number of the node row that is handed is that of the page's row
  pub node-number : (column : ℕ) → column < node_width → node_number own 0 column ≡ node_number nodes i column
  unfolding node_number
  node-number column h =
      let z : 0 * node_width + column ≡ column = omega arith in
      ap (λ (j : ℕ). get_or own j 0) z ∙ part-number nodes (i * node_width) node_width column h

  -- the name read from the row that is handed is the row's name in the page
  pub node-name : (text : List ℕ) → name_of own text 0 ≡ name_of nodes text i
  unfolding name_of
  node-name text = ap₂ (part text) (node-number 2 (omega arith)) (node-number 3 (omega arith))

-- ---- the attributes of a node, as they are handed
module _ (attributes text : List ℕ) (first count : ℕ) (lent : first * attribute_width + count * attribute_width ≤ length attributes) where
  -- as many as the row says
  pub attributes-count : attribute_rows (owned.own attributes text first count) ≡ count
  unfolding part
  attributes-count =
      let l : length (part attributes (first * attribute_width) (count * attribute_width)) ≡ count * attribute_width =
      length-take-le (count * attribute_width) (drop (first * attribute_width) attributes) (omega (arith, length-drop (first * attribute_width) attributes)) in
      omega (arith, l)

  -- all attributes that are handed are those that the page has for the row
  pub attributes-all : attributes_from (owned.own attributes text first count) text (attribute_rows (owned.own attributes text first count)) 0 ≡ attributes_from attributes text count first
  attributes-all =
      let rows : List ℕ = owned.own attributes text first count in
      ap (λ (k : ℕ). attributes_from rows text k 0) attributes-count ∙ owned.own-all attributes text first count first count refl refl rows refl

-- ---- on an accepted page
module _ (g : Page) where
  -- the kind that is handed, on any page
  pub handed-kind : (i : ℕ) → (handed_at g i).kind ≡ (node_at g.nodes i).kind
  unfolding handed_at handed_from
  handed-kind i = node-number g.nodes i 0 (omega arith)

  -- a row that ends in zeros has no attributes
  none_lent : (n : NodeRow) → ends_in_zeros n ≡ true → n.first_attribute + n.attribute_count ≤ attribute_rows g.attributes
  unfolding ends_in_zeros
  none_lent n e =
      let t = and-true _ _ (and-true _ _ e).1 in
      let a : n.first_attribute ≡ 0 = is_true _ _ t.0 in
      let b : n.attribute_count ≡ 0 = is_true _ _ t.1 in
      omega (arith, a, b)

  module _ (ok : Accepted g.nodes g.attributes g.text) where
    -- the attribute rows of every row are lent
    pub all-lent : (i : ℕ) → i < node_count g.nodes → (node_at g.nodes i).first_attribute + (node_at g.nodes i).attribute_count ≤ attribute_rows g.attributes
    all-lent zero there = none_lent (node_at g.nodes 0) (document-zeros g.nodes g.attributes g.text ok)
    all-lent (suc i) there = go (kind-of-row g.nodes g.attributes g.text ok (suc i) there (omega arith))
      where
        go : {B : Type 0} → (((node_at g.nodes (suc i)).kind ≡ other_kind) × (ends_in_zeros (node_at g.nodes (suc i)) ≡ true)) ⊎ (((node_at g.nodes (suc i)).kind ≡ element_kind) × B)
            → (node_at g.nodes (suc i)).first_attribute + (node_at g.nodes (suc i)).attribute_count ≤ attribute_rows g.attributes
        go (inl t) = none_lent (node_at g.nodes (suc i)) t.1
        go (inr t) = attributes-lent g.nodes g.attributes g.text ok (suc i) there (omega arith) t.0

    -- what is handed is the row as the page has it
    pub handed-right : (i : ℕ) → i < node_count g.nodes
        → handed_at g i ≡ record {
          kind = (node_at g.nodes i).kind;
          name = name_of g.nodes g.text i;
          attributes = attributes_from g.attributes g.text (node_at g.nodes i).attribute_count (node_at g.nodes i).first_attribute;
        }
    unfolding handed_at handed_from
    handed-right i there =
        let n = node_at g.nodes i in
        let lent : n.first_attribute * attribute_width + n.attribute_count * attribute_width ≤ length g.attributes = omega (arith, all-lent i there) in
        rw (node-number g.nodes i 0 (omega arith), node-name g.nodes i g.text, attributes-all g.attributes g.text n.first_attribute n.attribute_count lent)
