-- Laws from Selectors Level 3: what a combinator, nth-child and the specificity of a selector mean.
use Prim.Native.Nat.{ℕ, ◌+◌}
use mathlib.Core.Bool.{Bool, true}
use mathlib.Core.List.{List, [], ◌∷◌}
use mathlib.Core.Path.{◌≡◌, refl, ap, ◌∙◌}
use lib.IntN.{ℤ}
use Rattle.combinators.specs.Choice.{pick, or, and, is}
use Rattle.combinators.proofs.Rules.{never, either, or_left, and_both, and-true, or-second, Exactly}
use Rattle.syntax.specs.Selector.{Component, star, class, element, hash, child, descendant, nth, attribute, attribute_equal}
use Rattle.syntax.specs.RuleLayout.{component_kind, star_kind}
use Rattle.cascade.specs.Specificity.{specificity_of, no_specificity, sum}
use Rattle.page.specs.Path.{Element, Path}
use Rattle.matching.specs.Matches.{here, on_parent, on_ancestors, step, matches}
use Rattle.matching.specs.Nth.{nth_matches, NthChild}
use Rattle.matching.specs.Selectors.{Parent, Ancestor, is_id_selector, is_class_selector, is_type_selector, count_of}
use Rattle.matching.specs.Selectors.Parent.{above}
use Rattle.matching.specs.Selectors.Ancestor.{parent, higher}
use Rattle.matching.specs.Specificity.{added, specificity}
use Rattle.matching.proofs.Multiples.{nth-sound, nth-complete}

-- ---- the document

-- it matches star, where what is left does, and no other component
pub document-step : (c : Component) (cs : List Component) → matches (c ∷ cs) [] ≡ and (is (component_kind c) star_kind) (matches cs [])
unfolding matches step here on_parent on_ancestors component_kind and is
document-step star cs = refl
document-step (class c) cs = refl
document-step (element n) cs = refl
document-step (hash h) cs = refl
document-step child cs = refl
document-step descendant cs = refl
document-step (nth a b) cs = refl
document-step (attribute n) cs = refl
document-step (attribute_equal n v) cs = refl

-- ---- combinators

-- the parent, or a proper ancestor, that the components match
abbrev pub ParentMatches : List Component → Path → Type 0
ParentMatches cs p = (q : Path) × (Parent p q × (matches cs q ≡ true))

abbrev pub AncestorMatches : List Component → Path → Type 0
AncestorMatches cs p = (q : Path) × (Ancestor p q × (matches cs q ≡ true))

-- where f passes the parent of a path, it passes on the parent
on-parent : (f : Path → Bool) (p q : Path) → Parent p q → f q ≡ true → on_parent f p ≡ true
unfolding on_parent
on-parent f p q above e = e

-- a child step matches exactly if the parent matches what is left
pub child-step : (cs : List Component) (p : Path) → Exactly (matches (child ∷ cs) p ≡ true) (ParentMatches cs p)
unfolding matches step on_parent
child-step cs [] = ((λ e. never e), (λ w. on-parent (matches cs) [] w.0 w.1.0 w.1.1))
child-step cs (e ∷ up) = ((λ h. (up, (above, h))), (λ w. on-parent (matches cs) (e ∷ up) w.0 w.1.0 w.1.1))

module _ (f : Path → Bool) where
  -- where f is found above a path, some ancestor passes it
  ancestor-found : (p : Path) → on_ancestors f p ≡ true → (q : Path) × (Ancestor p q × (f q ≡ true))
  unfolding on_ancestors
  ancestor-found [] h = never h
  ancestor-found (e ∷ up) h =
      either ((q : Path) × (Ancestor (e ∷ up) q × (f q ≡ true))) (f up) (on_ancestors f up) h
      (λ m. (up, (parent above, m)))
      (λ m. let w = ancestor-found up m in (w.0, (higher above w.1.0, w.1.1)))

  -- where f passes the parent of a path, it is found above the path
  by-parent : (p q : Path) → Parent p q → f q ≡ true → on_ancestors f p ≡ true
  unfolding on_ancestors
  by-parent p q (above {up = up}) m = or_left (f up) (on_ancestors f up) m

  -- where f is found above the parent, it is found above the path
  by-higher : (p q : Path) → Parent p q → on_ancestors f q ≡ true → on_ancestors f p ≡ true
  unfolding on_ancestors
  by-higher p q (above {up = up}) m = or-second (f up) (on_ancestors f up) m

  -- where f passes some ancestor, it is found above the path
  pub ancestor-seen : (p q : Path) → Ancestor p q → f q ≡ true → on_ancestors f p ≡ true
  ancestor-seen p q (parent a) m = by-parent p q a m
  ancestor-seen p q (higher {q = r} a w) m = by-higher p r a (ancestor-seen r q w m)

-- a descendant step matches exactly if some proper ancestor matches what is left; the document is one, where star lets it
pub descendant-step : (cs : List Component) (p : Path) → Exactly (matches (descendant ∷ cs) p ≡ true) (AncestorMatches cs p)
unfolding matches step
descendant-step cs p =
    ((λ e. ancestor-found (matches cs) p e), (λ w. ancestor-seen (matches cs) p w.0 w.1.0 w.1.1))

-- ---- nth-child

-- nth-child(an+b) matches an element exactly if its place is a·n + b for some n of 0 or more, and what is left matches
pub nth-step : (a b : ℤ) (cs : List Component) (e : Element) (up : Path)
    → Exactly (matches (nth a b ∷ cs) (e ∷ up) ≡ true) (NthChild a b e.place × (matches cs (e ∷ up) ≡ true))
unfolding matches step here
nth-step a b cs e up = (
  (λ h. let w = and-true (nth_matches a b e.place) (matches cs (e ∷ up)) h in (nth-sound a b e.place w.0, w.1)),
  (λ w. and_both (nth_matches a b e.place) (matches cs (e ∷ up)) (nth-complete a b e.place w.0) w.1),
)

-- ---- specificity

-- the counts of a component in front
more : (c : Component) (i k t : ℕ)
    → sum (added c) (specificity_of i k t) ≡ specificity_of (pick (is_id_selector c) 1 0 + i) (pick (is_class_selector c) 1 0 + k) (pick (is_type_selector c) 1 0 + t)
unfolding sum added specificity_of no_specificity is_id_selector is_class_selector is_type_selector component_kind pick or is
more star i k t = refl
more (class c) i k t = refl
more (element n) i k t = refl
more (hash h) i k t = refl
more child i k t = refl
more descendant i k t = refl
more (nth a b) i k t = refl
more (attribute n) i k t = refl
more (attribute_equal n v) i k t = refl

-- "count the number of ID selectors, the number of class selectors, attributes selectors, and pseudo-classes, the number of type selectors; ignore
-- the universal selector". Pseudo elements, which the document counts with type selectors, are not among the components, as in the crate.
pub specificity-counts : (cs : List Component) → specificity cs ≡ specificity_of (count_of is_id_selector cs) (count_of is_class_selector cs) (count_of is_type_selector cs)
unfolding specificity count_of no_specificity
specificity-counts [] = refl
specificity-counts (c ∷ cs) = ap (sum (added c)) (specificity-counts cs) ∙ more c (count_of is_id_selector cs) (count_of is_class_selector cs) (count_of is_type_selector cs)
