-- What `match_recursively` gives is so: `Matches` exactly where the components match, `FailsCompletely` only where they match neither the path nor
-- that of an ancestor.
use mathlib.Core.Bool.{Bool, true, false}
use mathlib.Core.List.{List, [], ◌∷◌}
use mathlib.Core.Path.{◌≡◌, refl, sym, ap, subst, ◌∙◌}
use Rattle.combinators.specs.Choice.{pick, or, and}
use Rattle.combinators.proofs.Rules.{never, or_left, or_right, or-none, and_both, and_left, and_right, neither, and_yes, Exactly}
use Rattle.syntax.specs.Selector.{Component, star, class, element, hash, child, descendant, nth, attribute, attribute_equal}
use Rattle.page.specs.Path.{Element, Path}
use Rattle.matching.specs.Matches.{has_class, has_id, has_attribute, attribute_is, name_is, here, on_parent, on_ancestors, step, matches}
use Rattle.matching.specs.Nth.{nth_matches}
use Rattle.matching.specs.Recursion.{on_ancestors_or_self, ResultHolds, result_on_parent, or_else, result_on_ancestors, by_combinator, result_step, match_recursively}
use Rattle.matching.specs.declared.matcher.SelectorMatch.{SelectorMatch}
use Rattle.matching.specs.declared.matcher.SelectorMatch.TheVariants.{Matches, FailsLocally, FailsCompletely}
use Rattle.matching.specs.Selectors.{Ancestor}
use Rattle.matching.proofs.Selectors.{ancestor-seen}

-- where f fails on all ancestors, what fails without f on an ancestor fails on the path and on all ancestors
module _ (f g : Path → Bool) (weaker : (q : Path) → on_ancestors f q ≡ false → g q ≡ false) where
  -- where f fails on all ancestors of a path, g fails on the path and on all its ancestors
  none_above : (p : Path) → on_ancestors f p ≡ false → on_ancestors_or_self g p ≡ false
  unfolding on_ancestors_or_self on_ancestors
  none_above [] e = or-none (g []) false (weaker [] e) refl
  none_above (x ∷ up) e = or-none (g (x ∷ up)) _ (weaker (x ∷ up) e) (none_above up (neither (f up) (on_ancestors f up) e).1)

-- where f fails on the path and on all ancestors, what fails without f fails there too
module _ (f g : Path → Bool) (weaker : (q : Path) → f q ≡ false → g q ≡ false) where
  -- where f fails on a path and on all its ancestors, so does g
  none_beside : (p : Path) → on_ancestors_or_self f p ≡ false → on_ancestors_or_self g p ≡ false
  unfolding on_ancestors_or_self on_ancestors
  none_beside [] e = or-none (g []) false (weaker [] (neither (f []) false e).0) refl
  none_beside (x ∷ up) e =
      let w = neither (f (x ∷ up)) (or (f up) (on_ancestors f up)) e in
      or-none (g (x ∷ up)) _ (weaker (x ∷ up) w.0) (none_beside up w.1)

-- ---- one step: child, descendant or simple selector
module _ (f : Path → Bool) where
  -- what fails on all ancestors fails on the parent
  parent-fails : (q : Path) → on_ancestors f q ≡ false → on_parent f q ≡ false
  unfolding on_ancestors on_parent
  parent-fails [] e = refl
  parent-fails (x ∷ up) e = (neither (f up) (on_ancestors f up) e).0

  -- a child step has the parent's result
  child-holds : (x : Element) (up : Path) (r : SelectorMatch) → ResultHolds f up r → ResultHolds (on_parent f) (x ∷ up) r
  unfolding ResultHolds on_parent on_ancestors on_ancestors_or_self
  child-holds x up Matches h = h
  child-holds x up FailsLocally h = h
  child-holds x up FailsCompletely h = none_above f (on_parent f) parent-fails (x ∷ up) h

  -- a descendant step has the parent's result, or else that of the parent's own ancestors
  descendant-holds : (x : Element) (up : Path) (r s : SelectorMatch) → ResultHolds f up r → ResultHolds (on_ancestors f) up s
      → ResultHolds (on_ancestors f) (x ∷ up) (or_else r s)
  unfolding ResultHolds on_ancestors on_ancestors_or_self or_else
  descendant-holds x up Matches s h i = or_left (f up) _ h
  descendant-holds x up FailsCompletely s h i = none_above f (on_ancestors f) (λ q e. e) (x ∷ up) h
  descendant-holds x up FailsLocally Matches h i = or_right (f up) _ h i
  descendant-holds x up FailsLocally FailsLocally h i = or-none (f up) _ h i
  descendant-holds x up FailsLocally FailsCompletely h i =
      none_above f (on_ancestors f) (λ q e. e) (x ∷ up) (or-none (f up) _ h (neither (on_ancestors f up) _ i).0)

  -- a simple selector t that the path passes leaves the result of what is left, and fails locally otherwise
  module _ (t g : Path → Bool) (both : (q : Path) → g q ≡ and (t q) (f q)) (p : Path) where
    -- where the path passes t, the result of what is left is right; where it does not, `FailsLocally` is
    simple-holds : (b : Bool) (r : SelectorMatch) → t p ≡ b → ResultHolds f p r → ResultHolds g p (pick b r FailsLocally)
    unfolding ResultHolds pick
    simple-holds true Matches e h = both p ∙ and_both (t p) (f p) e h
    simple-holds true FailsLocally e h = both p ∙ and_right (t p) (f p) h
    simple-holds true FailsCompletely e h = none_beside f g (λ q i. both q ∙ and_right (t q) (f q) i) p h
    simple-holds false r e h = both p ∙ and_left (t p) (f p) e

-- ---- all of them, where s is the result of f
module _ (f : Path → Bool) (s : Path → SelectorMatch) (holds : (p : Path) → ResultHolds f p (s p)) where
  -- what holds of the result at the parent holds of a child combinator's
  at-child : (p : Path) → ResultHolds (on_parent f) p (result_on_parent s p)
  unfolding ResultHolds on_parent on_ancestors on_ancestors_or_self result_on_parent or
  at-child [] = refl
  at-child (x ∷ up) = child-holds f x up (s up) (holds up)

  -- what holds of the results at the ancestors holds of a descendant combinator's
  at-descendant : (p : Path) → ResultHolds (on_ancestors f) p (result_on_ancestors s p)
  unfolding ResultHolds on_ancestors on_ancestors_or_self result_on_ancestors or
  at-descendant [] = refl
  at-descendant (x ∷ up) = descendant-holds f x up (s up) (result_on_ancestors s up) (holds up) (at-descendant up)

  -- what holds of the result of what is left holds of star's
  at-star : (p : Path) → ResultHolds f p (pick (matches (star ∷ []) p) (s p) FailsLocally)
  unfolding matches step pick
  at-star p = holds p

  -- what holds of the result of what is left holds of any other simple selector's
  at-simple : (c : Component) (u : Element → Bool) → ((q : Path) → and (here u q) true ≡ matches (c ∷ []) q) → (p : Path)
      → ResultHolds (λ q. and (here u q) (f q)) p (pick (matches (c ∷ []) p) (s p) FailsLocally)
  at-simple c u e p =
      simple-holds f (matches (c ∷ [])) (λ q. and (here u q) (f q)) (λ q. ap (λ (b : Bool). and b (f q)) (sym (and_yes (here u q)) ∙ e q)) p
      (matches (c ∷ []) p) (s p) refl (holds p)

-- with no component left the selector matches
nothing_left : (p : Path) → ResultHolds (matches []) p Matches
unfolding ResultHolds matches
nothing_left p = refl

-- what the result says of the components is so
pub result-holds : (cs : List Component) (p : Path) → ResultHolds (matches cs) p (match_recursively cs p)
unfolding matches step match_recursively result_step by_combinator
result-holds [] p = nothing_left p
result-holds (star ∷ cs) p = at-star (matches cs) (match_recursively cs) (result-holds cs) p
result-holds (class c ∷ cs) p = at-simple (matches cs) (match_recursively cs) (result-holds cs) (class c) (has_class c) (λ q. refl) p
result-holds (element n ∷ cs) p = at-simple (matches cs) (match_recursively cs) (result-holds cs) (element n) (name_is n) (λ q. refl) p
result-holds (hash h ∷ cs) p = at-simple (matches cs) (match_recursively cs) (result-holds cs) (hash h) (has_id h) (λ q. refl) p
result-holds (child ∷ cs) p = at-child (matches cs) (match_recursively cs) (result-holds cs) p
result-holds (descendant ∷ cs) p = at-descendant (matches cs) (match_recursively cs) (result-holds cs) p
result-holds (nth a b ∷ cs) p = at-simple (matches cs) (match_recursively cs) (result-holds cs) (nth a b) (λ e. nth_matches a b e.place) (λ q. refl) p
result-holds (attribute n ∷ cs) p = at-simple (matches cs) (match_recursively cs) (result-holds cs) (attribute n) (has_attribute n) (λ q. refl) p
result-holds (attribute_equal n v ∷ cs) p =
    at-simple (matches cs) (match_recursively cs) (result-holds cs) (attribute_equal n v) (attribute_is n v) (λ q. refl) p

-- ---- the returns of `do_matches`
module _ (cs : List Component) (p : Path) (r : SelectorMatch) (e : r ≡ match_recursively cs p) where
  -- what the result says is so
  holds_of : {s : SelectorMatch} → r ≡ s → ResultHolds (matches cs) p s
  holds_of h = subst (ResultHolds (matches cs) p) (sym e ∙ h) (result-holds cs p)

  -- the result `Matches` says that the components match
  pub selector-matches : r ≡ Matches → true ≡ matches cs p
  unfolding ResultHolds
  selector-matches h = sym (holds_of h)

  -- the result `FailsLocally` says that the components do not match
  pub fails-locally : r ≡ FailsLocally → false ≡ matches cs p
  unfolding ResultHolds
  fails-locally h = sym (holds_of h)

  -- the result `FailsCompletely` says that the components do not match
  pub fails-here : r ≡ FailsCompletely → false ≡ matches cs p
  unfolding ResultHolds on_ancestors_or_self
  fails-here h = let z : on_ancestors_or_self (matches cs) p ≡ false = holds_of h in sym (neither (matches cs p) _ z).0

-- ---- in the words of Selectors Level 3
module _ (cs : List Component) (p : Path) where
  -- where the components match, the result is `Matches`
  no_other : matches cs p ≡ true → (r : SelectorMatch) → r ≡ match_recursively cs p → r ≡ Matches
  no_other m Matches e = refl
  no_other m FailsLocally e = never (fails-locally cs p FailsLocally e refl ∙ m)
  no_other m FailsCompletely e = never (fails-here cs p FailsCompletely e refl ∙ m)

  -- any other result says that they do not
  pub selector-fails : (r : SelectorMatch) → r ≡ match_recursively cs p → ¬ (r ≡ Matches) → false ≡ matches cs p
  selector-fails Matches e d = absurd (d refl)
  selector-fails FailsLocally e d = fails-locally cs p FailsLocally e refl
  selector-fails FailsCompletely e d = fails-here cs p FailsCompletely e refl

  -- the result is `Matches` exactly where the components match
  pub matches-exactly : Exactly (match_recursively cs p ≡ Matches) (matches cs p ≡ true)
  matches-exactly = ((λ h. sym (selector-matches cs p (match_recursively cs p) refl h)), (λ m. no_other m (match_recursively cs p) refl))

  -- where the result is `FailsCompletely`, they match neither the path nor any ancestor, the document among them
  pub fails-completely : match_recursively cs p ≡ FailsCompletely → (matches cs p ≡ false) × ((q : Path) → Ancestor p q → ¬ (matches cs q ≡ true))
  unfolding ResultHolds on_ancestors_or_self
  fails-completely h =
      let z : on_ancestors_or_self (matches cs) p ≡ false = holds_of cs p (match_recursively cs p) refl h in
      let w = neither (matches cs p) _ z in
      (w.0, (λ q a m. never (sym w.1 ∙ ancestor-seen (matches cs) p q a m)))
