-- The first of a row and its ancestors from which a descendant combinator is reached.
use Prim.Native.Nat.{ℕ, ◌<◌}
use mathlib.Core.Bool.{true, false}
use mathlib.Core.List.{List}
use mathlib.Core.Path.{◌≡◌, refl, sym, ap, ◌∙◌}
use Rattle.combinators.specs.Choice.{pick}
use Rattle.combinators.proofs.Rules.{pick_true, pick-false, pick-holds}
use Rattle.syntax.specs.Selector.{Component}
use Rattle.page.specs.Ancestors.{ancestors_from, ancestors_of, line_of}
use Rattle.page.specs.Rows.{node_at}
use Rattle.page.proofs.Ancestry.{below-ancestors}
use Rattle.matching.specs.Rows.{Rooted}
use Rattle.matching.specs.Climb.{reaches, climb_of, first_reaching}
use Rattle.matching.specs.declared.matcher.Climbed.{Climbed}
use Rattle.matching.proofs.PathLaws.{parent-before}

module _ (nodes attributes text : List ℕ) (cs : List Component) where
  abbrev Climb : ℕ → Climbed
  Climb row = climb_of nodes attributes text cs row

  abbrev pub First : ℕ → ℕ
  First row = first_reaching nodes attributes text cs (line_of nodes row)

  -- the document comes to nothing
  pub first-document : First 0 ≡ 0
  unfolding first_reaching ancestors_of ancestors_from
  first-document = pick-holds (λ (n : ℕ). n ≡ 0) (reaches (Climb 0)) 0 0 (λ _. refl) (λ _. refl)

  -- from an element it is the element, or the first from its parent
  pub first-opened : (row : ℕ) → (node_at nodes row).parent < row → First row ≡ pick (reaches (Climb row)) row (First (node_at nodes row).parent)
  unfolding first_reaching
  first-opened row l = ap (λ (rows : List ℕ). pick (reaches (Climb row)) row (first_reaching nodes attributes text cs rows)) (below-ancestors nodes row l)

  module _ (row : ℕ) (r : Rooted nodes row) (z : ¬ (row ≡ 0)) where
    -- the element, where it is reached from there
    pub first-here : reaches (Climb row) ≡ true → First row ≡ row
    first-here e = first-opened row (parent-before nodes row r z _ refl) ∙ sym (pick_true _ _ _ _ e refl)

    -- where it is not reached from there, the first is that of the parent
    pub first_above : reaches (Climb row) ≡ false → First row ≡ First (node_at nodes row).parent
    first_above e = first-opened row (parent-before nodes row r z _ refl) ∙ sym (pick-false _ _ _ _ e refl)
