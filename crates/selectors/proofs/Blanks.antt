-- Blanks: told by the kind of a row; without a text, so that one that is dropped at either end changes no texts.
use mathlib.Core.Path.{◌≡◌, refl, ap, sym, ◌∙◌}
use mathlib.Core.Bool.{Bool, true, false}
use mathlib.Core.List.{List, [], ◌∷◌, ◌++◌, append-nil}
use Prim.Native.Nat.{ℕ}
use lib.ListN.{length}
use Rattle.combinators.specs.Choice.{pick, is}
use Rattle.combinators.proofs.Rules.{never}
use Rattle.syntax.specs.RuleLayout.{descendant_kind, component_kind, component_text, component_row, component_texts}
use Rattle.syntax.specs.Selector.{Component, star, class, element, hash, child, descendant, nth, attribute, attribute_equal}
use Rattle.syntax.specs.Stream.{rows_many, texts_many}
use Rattle.syntax.proofs.Streams.{texts-append}
use Rattle.selectors.specs.Selector.{without_blank}
use Rattle.selectors.specs.Components.{kept_of}
use Rattle.selectors.proofs.BodyLaws.{is_descendant, without_last, kept-is, blank-last, without-first, no_end, first-none}
use Rattle.selectors.proofs.Gathering.{one-text}

-- by the kind of its row
pub blank-told : (c : Component) → is (component_kind c) descendant_kind ≡ is_descendant c
unfolding component_kind is_descendant is
blank-told star = refl
blank-told (class t) = refl
blank-told (element t) = refl
blank-told (hash t) = refl
blank-told child = refl
blank-told descendant = refl
blank-told (nth a b) = refl
blank-told (attribute n) = refl
blank-told (attribute_equal n v) = refl

-- a blank has no texts
pub blank-text : (c : Component) → is_descendant c ≡ true → component_text c ≡ []
unfolding component_text is_descendant
blank-text star e = refl
blank-text (class t) e = never e
blank-text (element t) e = never e
blank-text (hash t) e = never e
blank-text child e = refl
blank-text descendant e = refl
blank-text (nth a b) e = refl
blank-text (attribute n) e = never e
blank-text (attribute_equal n v) e = never e

-- ---- what is kept of a component: how many, their row and their text
module _ (c : Component) (f : ℕ) where
  -- by whether it is a blank and stands at the start: how many rows a component has, which, and that its text is the same
  by-kept : (start d : Bool) → is_descendant c ≡ d
      → (pick start (pick d 0 1) 1 ≡ length (pick start (pick d [] (c ∷ [])) (c ∷ [])))
      × (pick (is (length (pick start (pick d [] (c ∷ [])) (c ∷ []))) 0) [] (component_row f c) ≡ rows_many component_row component_text f (pick start (pick d [] (c ∷ [])) (c ∷ [])))
      × (texts_many component_text (pick start (pick d [] (c ∷ [])) (c ∷ [])) ≡ component_text c)
  unfolding pick is rows_many texts_many
  by-kept true true e = (refl, refl, sym (blank-text c e))
  by-kept true false e = (refl, sym (append-nil (component_row f c)), append-nil (component_text c))
  by-kept false d e = (refl, sym (append-nil (component_row f c)), append-nil (component_text c))

  module _ (start : Bool) where
    -- none is kept of a blank at the start, and one of any other component
    pub kept-count : pick start (pick (is (component_kind c) descendant_kind) 0 1) 1 ≡ length (kept_of start c)
    kept-count = rw (kept-is start c, blank-told c) (by-kept start (is_descendant c) refl).0

    -- the row of one that is kept
    pub kept_row : pick (is (length (kept_of start c)) 0) [] (component_row f c) ≡ rows_many component_row component_text f (kept_of start c)
    kept_row = rw (kept-is start c) (by-kept start (is_descendant c) refl).1

    -- the text, kept or not
    pub kept-text : texts_many component_text (kept_of start c) ≡ component_text c
    kept-text = rw (kept-is start c) (by-kept start (is_descendant c) refl).2

-- ---- the last of a list
pub data Ended (ds : List Component) : Type 0 where
  empty : ds ≡ [] → Ended ds
  ends : (xs : List Component) (c : Component) → ds ≡ xs ++ c ∷ [] → Ended ds

-- a list with one more in front has a last one
one_more : (d : Component) (ds : List Component) → Ended ds → Ended (d ∷ ds)
one_more d ds (empty e) = ends [] d (ap (λ (cs : List Component). d ∷ cs) e)
one_more d ds (ends xs c e) = ends (d ∷ xs) c (ap (λ (cs : List Component). d ∷ cs) e)

-- every list has a last one or none
pub ended : (ds : List Component) → Ended ds
ended [] = empty refl
ended (d ∷ ds) = one_more d ds (ended ds)

-- ---- a blank at the end has no texts
-- components with a last one have the same texts without it, where it is a blank
by_end : (xs : List Component) (c : Component) (b : Bool) → is_descendant c ≡ b → component_texts (xs ++ pick b [] (c ∷ [])) ≡ component_texts (xs ++ c ∷ [])
unfolding pick component_texts
by_end xs c true e = rw (append-nil xs) (sym (texts-append component_row component_text xs (c ∷ []) ∙ rw (one-text component_row component_text c, blank-text c e) (append-nil (texts_many component_text xs))))
by_end xs c false e = refl

-- dropping a blank at the end changes no texts
pub end-texts : (ds : List Component) → Ended ds → component_texts (without_last ds) ≡ component_texts ds
end-texts ds (empty e) = rw e (ap component_texts no_end)
end-texts ds (ends xs c e) = rw e (ap component_texts (blank-last xs c) ∙ by_end xs c (is_descendant c) refl)

-- dropping one at the start changes none either
kept-texts : (c : Component) (cs : List Component) → component_texts (kept_of true c ++ cs) ≡ component_texts (c ∷ cs)
unfolding component_texts texts_many
kept-texts c cs = texts-append component_row component_text (kept_of true c) cs ∙ ap (λ (l : List ℕ). l ++ texts_many component_text cs) (kept-text c 0 true)

-- dropping a blank at the start changes no texts
pub first-texts : (cs : List Component) → component_texts (without_blank cs) ≡ component_texts cs
first-texts [] = ap component_texts first-none
first-texts (c ∷ cs) = ap component_texts (without-first c cs) ∙ kept-texts c cs
