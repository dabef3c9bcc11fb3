-- Laws from Selectors Level 3: what each simple selector matches, as an 'exactly if', and what the document matches. Combinators, nth-child and specificities
-- are in proofs/Selectors.antt. The document's text is not at hand: the numbers of its sections are from memory, and nothing is quoted.
use Prim.Native.Nat.{ℕ, zero, suc, ◌+◌, ◌<◌}
use mathlib.Core.Bool.{Bool, true, false}
use mathlib.Core.List.{List, [], ◌∷◌, ◌++◌}
use mathlib.Core.Logic.{◌⊎◌, inl, inr, ⊎_elim}
use mathlib.Core.Path.{◌≡◌, refl, sym, ap, subst, ◌∙◌}
use native.Mathlib.Omega.{arith}
use lib.ListN.{length}
use Rattle.combinators.specs.All.{All}
use Rattle.combinators.specs.Choice.{pick, or, and}
use Rattle.combinators.specs.Word.{same_text}
use Rattle.combinators.proofs.AllLaws.{all_weaker, of-all}
use Rattle.combinators.proofs.Rules.{never, either, or_left, and_both, and-true, or-second, Exactly}
use Rattle.combinators.proofs.Words.{same-is, same_self}
use Rattle.characters.specs.Literal.{text}
use Rattle.characters.specs.Utf8.{valid}
use Rattle.characters.specs.WhiteSpace.{is_white_space}
use Rattle.characters.proofs.Texts.{is-valid}
use Rattle.syntax.specs.Selector.{Component, star, class, element, hash, child, descendant, nth, attribute, attribute_equal}
use Rattle.page.specs.Path.{Attribute, Element, Path}
use Rattle.page.specs.PathOf.{attributes_from, element_at}
use Rattle.page.specs.Rows.{node_count, node_at, attribute_value}
use Rattle.page.proofs.AcceptedPages.{Accepted}
use Rattle.page.proofs.RowFacts.{attribute-value-valid}
use Rattle.matching.specs.Matches.{any_attribute, is_named, is_class, has_class, is_id, has_id, has_attribute, first_is, attribute_is, name_is, here, on_parent, on_ancestors, step, matches}
use Rattle.matching.specs.Texts.{has_word}
use Rattle.matching.specs.Documents.{Some, is_selectors_white_space, WordOf, PlainText, Named, FirstValue, Distinct, Simple}
use Rattle.matching.proofs.WordList.{exactly-then, exactly-either, word-exactly, plain_word}

-- ---- tests

-- two texts are the same bytes exactly if they are equal
same-exactly : (s t : List ℕ) → Exactly (same_text s t ≡ true) (s ≡ t)
same-exactly s t = (same-is s t, (λ e. ap (same_text s) (sym e) ∙ same_self s))

-- two tests hold exactly if each does
both-exactly : (a b : Bool) (P Q : Type 0) → Exactly (a ≡ true) P → Exactly (b ≡ true) Q → Exactly (and a b ≡ true) (P × Q)
both-exactly a b P Q f g =
    ((λ e. let w = and-true a b e in (f.0 w.0, g.0 w.1)), (λ w. and_both a b (f.1 w.0) (g.1 w.1)))

-- one of two does exactly if either does
either-exactly : (a b : Bool) → Exactly (or a b ≡ true) ((a ≡ true) ⊎ (b ≡ true))
either-exactly a b =
    ((λ e. either ((a ≡ true) ⊎ (b ≡ true)) a b e inl inr), ⊎_elim (λ (e : a ≡ true). or_left a b e) (λ (e : b ≡ true). or-second a b e))

-- a test beside one that holds
alone : (a : Bool) → Exactly (and a true ≡ true) (a ≡ true)
alone a = ((λ e. (and-true a true e).0), (λ e. and_both a true e refl))

-- two tests hold exactly if the first does, alone, and the second
beside : (a b : Bool) → Exactly (and a b ≡ true) ((and a true ≡ true) × (b ≡ true))
beside a b = both-exactly a b (and a true ≡ true) (b ≡ true) ((alone a).1, (alone a).0) ((λ e. e), (λ e. e))

-- some attribute passes exactly if it has what the test asks for
any-exactly : (f : Attribute → Bool) (P : Attribute → Type 0) (l : List Attribute) → All (λ a. Exactly (f a ≡ true) (P a)) l → Exactly (any_attribute f l ≡ true) (Some P l)
unfolding any_attribute
any-exactly f P [] h = ((λ e. never e), (λ q. absurd q))
any-exactly f P (a ∷ l) h = exactly-then _ _ _ (either-exactly (f a) (any_attribute f l)) (exactly-either _ _ _ _ h.0 (any-exactly f P l h.1))

-- an attribute passes the test for a name exactly if it has that name
named-exactly : (n : List ℕ) (a : Attribute) → Exactly (is_named n a ≡ true) (Named n a)
unfolding is_named
named-exactly n a = same-exactly a.name n

-- ---- simple selectors, on an element

module _ (e : Element) (up : Path) where
  -- by section 6.1, a type selector represents an element of that name
  pub type-exactly : (n : List ℕ) → Exactly (matches (element n ∷ []) (e ∷ up) ≡ true) (e.name ≡ n)
  unfolding matches step here name_is
  type-exactly n = exactly-then _ _ _ (alone (same_text e.name n)) (same-exactly e.name n)

  -- by section 6.3.1, [name] represents an element with the attribute, whatever its value
  pub attribute-exactly : (n : List ℕ) → Exactly (matches (attribute n ∷ []) (e ∷ up) ≡ true) (Some (Named n) e.attributes)
  unfolding matches step here has_attribute
  attribute-exactly n =
      exactly-then _ _ _ (alone (any_attribute (is_named n) e.attributes)) (any-exactly (is_named n) (Named n) e.attributes (of-all _ (named-exactly n) e.attributes))

  -- by section 6.5, an ID selector represents an element whose `id` has that value
  pub id-exactly : (h : List ℕ) → Exactly (matches (hash h ∷ []) (e ∷ up) ≡ true) (Some (λ a. Named (text "id") a × (a.value ≡ h)) e.attributes)
  unfolding matches step here has_id is_id
  id-exactly h =
      exactly-then _ _ _ (alone (any_attribute (is_id h) e.attributes))
      (any-exactly (is_id h) _ e.attributes (of-all _ (λ a. both-exactly _ _ _ _ (named-exactly (text "id") a) (same-exactly a.value h)) e.attributes))

  -- by section 6.4, a class selector represents an element whose `class` is a whitespace-separated list of words, one of which is exactly the name; white
  -- space is that of Unicode. Values are in UTF-8, as on every accepted page (`accepted-values`).
  pub class-exactly : (c : List ℕ) → All (λ a. valid a.value ≡ true) e.attributes
      → Exactly (matches (class c ∷ []) (e ∷ up) ≡ true) (Some (λ a. Named (text "class") a × WordOf is_white_space c a.value) e.attributes)
  unfolding matches step here has_class is_class
  class-exactly c h =
      exactly-then _ _ _ (alone (any_attribute (is_class c) e.attributes))
      (any-exactly (is_class c) _ e.attributes
      (all_weaker _ _ (λ a v. both-exactly _ _ _ _ (named-exactly (text "class") a) (word-exactly c a.value v)) e.attributes h))

  -- the same with the document's own white space, where the values have no other
  pub class-by-document : (c : List ℕ) → All (λ a. PlainText a.value) e.attributes
      → Exactly (matches (class c ∷ []) (e ∷ up) ≡ true) (Some (λ a. Named (text "class") a × WordOf is_selectors_white_space c a.value) e.attributes)
  unfolding matches step here has_class is_class
  class-by-document c h =
      exactly-then _ _ _ (alone (any_attribute (is_class c) e.attributes))
      (any-exactly (is_class c) _ e.attributes
      (all_weaker _ _ (λ a p. both-exactly _ _ _ _ (named-exactly (text "class") a) (plain-exactly a.value p)) e.attributes h))
    where
      plain-exactly : (t : List ℕ) → PlainText t → Exactly (has_word c t ≡ true) (WordOf is_selectors_white_space c t)
      plain-exactly t p = exactly-then _ _ _ (word-exactly c t (ap valid p.in-utf8 ∙ is-valid p.characters p.scalars)) (plain_word c t p)

-- ---- the value of an attribute

-- the first of a list, or else d; and those behind it
abbrev first_or : Attribute → List Attribute → Attribute
first_or d [] = d
first_or d (a ∷ l) = a

abbrev behind_first : List Attribute → List Attribute
behind_first [] = []
behind_first (a ∷ l) = l

-- the value of the first attribute of a name
module _ (n v : List ℕ) where
  -- it is the first of the list
  first-here : (a : Attribute) (l : List Attribute) → Named n a → Exactly (same_text a.value v ≡ true) (FirstValue n v (a ∷ l))
  first-here a l h = (there, back)
    where
      there : same_text a.value v ≡ true → FirstValue n v (a ∷ l)
      there e = record { earlier = []; which = a; later = l; split = refl; others = tt; named = h; valued = same-is a.value v e }

      back : FirstValue n v (a ∷ l) → same_text a.value v ≡ true
      back f = go f.earlier f.split f.others
        where
          go : (b : List Attribute) → a ∷ l ≡ b ++ (f.which ∷ f.later) → All (λ x. ¬ (Named n x)) b → same_text a.value v ≡ true
          go [] e o = (same-exactly a.value v).1 (ap (λ (x : Attribute). x.value) (ap (first_or a) e) ∙ f.valued)
          go (x ∷ b) e o = absurd (o.0 (subst (Named n) (ap (first_or a) e) h))

  -- or it is among the others
  first-later : (a : Attribute) (l : List Attribute) → ¬ (Named n a) → Exactly (FirstValue n v l) (FirstValue n v (a ∷ l))
  first-later a l h = (there, back)
    where
      there : FirstValue n v l → FirstValue n v (a ∷ l)
      there f =
          record { earlier = a ∷ f.earlier; which = f.which; later = f.later; split = ap (λ (m : List Attribute). a ∷ m) f.split; others = (h, f.others); named = f.named; valued = f.valued }

      back : FirstValue n v (a ∷ l) → FirstValue n v l
      back f = go f.earlier f.split f.others
        where
          go : (b : List Attribute) → a ∷ l ≡ b ++ (f.which ∷ f.later) → All (λ x. ¬ (Named n x)) b → FirstValue n v l
          go [] e o = absurd (h (subst (Named n) (sym (ap (first_or a) e)) f.named))
          go (x ∷ b) e o = record { earlier = b; which = f.which; later = f.later; split = ap behind_first e; others = o.1; named = f.named; valued = f.valued }

  -- the empty list has no first attribute of the name
  no-first : ¬ (FirstValue n v [])
  no-first f = go f.earlier f.split
    where
      go : (b : List Attribute) → [] ≡ b ++ (f.which ∷ f.later) → ⊥
      go [] e = absurd (omega (arith, ap length e))
      go (x ∷ b) e = absurd (omega (arith, ap length e))

  -- by whether the first of the list has the name, its own value decides or the list behind it does
  first_by : (a : Attribute) (l : List Attribute) → Exactly (first_is n v l ≡ true) (FirstValue n v l) → (t : Bool) → is_named n a ≡ t
      → Exactly (pick t (same_text a.value v) (first_is n v l) ≡ true) (FirstValue n v (a ∷ l))
  unfolding pick
  first_by a l f true e = first-here a l ((named-exactly n a).0 e)
  first_by a l f false e = exactly-then _ _ _ f (first-later a l (λ d. never (sym e ∙ (named-exactly n a).1 d)))

  -- the test holds exactly if the first attribute of the name has the value
  first-exactly : (l : List Attribute) → Exactly (first_is n v l ≡ true) (FirstValue n v l)
  unfolding first_is
  first-exactly [] = ((λ e. never e), (λ f. absurd (no-first f)))
  first-exactly (a ∷ l) = first_by a l (first-exactly l) (is_named n a) refl

  -- where no two attributes have a name in common, any is the first of its name
  abbrev Valued : Attribute → Type 0
  Valued a = Named n a × (a.value ≡ v)

  -- where no two names are the same, an attribute with the name and the value is the first of its name
  valued-first : (l : List Attribute) → Distinct l → Some Valued l → FirstValue n v l
  valued-first [] d q = absurd q
  valued-first (a ∷ l) d q =
      ⊎_elim (λ (w : Valued a). (first-here a l w.0).0 ((same-exactly a.value v).1 w.1))
      (λ (r : Some Valued l). let f = valued-first l d.1 r in (first-later a l (λ h. other l d.0 f h)).0 f) q
    where
      other : (l : List Attribute) → All (λ b. ¬ (b.name ≡ a.name)) l → FirstValue n v l → ¬ (Named n a)
      other l o f h = all-at f.earlier (subst (All (λ b. ¬ (b.name ≡ a.name))) f.split o) (f.named ∙ sym h)
        where
          all-at : (b : List Attribute) → All (λ b. ¬ (b.name ≡ a.name)) (b ++ (f.which ∷ f.later)) → ¬ (f.which.name ≡ a.name)
          all-at [] o = o.0
          all-at (x ∷ b) o = all-at b o.1

  -- a list in which such an attribute stands, at any place, has some such attribute
  some_at : (b l : List Attribute) (a : Attribute) → Valued a → Some Valued (b ++ (a ∷ l))
  some_at [] l a w = inl w
  some_at (x ∷ b) l a w = inr (some_at b l a w)

  -- the first attribute of the name, where it has the value, is some attribute with both
  first-valued : (l : List Attribute) → FirstValue n v l → Some Valued l
  first-valued l f = subst (Some Valued) (sym f.split) (some_at f.earlier f.later f.which (f.named, f.valued))

module _ (e : Element) (up : Path) (n v : List ℕ) where
  -- by section 6.3.1, [name=value] represents an element with the attribute whose value is exactly that; of several of the name the first counts, as in the crate
  pub attribute-equal-exactly : Exactly (matches (attribute_equal n v ∷ []) (e ∷ up) ≡ true) (FirstValue n v e.attributes)
  unfolding matches step here attribute_is
  attribute-equal-exactly = exactly-then _ _ _ (alone (first_is n v e.attributes)) (first-exactly n v e.attributes)

  -- on an element as documents have them, where no name stands twice, there is nothing to choose
  pub attribute-equal-by-document : Distinct e.attributes → Exactly (matches (attribute_equal n v ∷ []) (e ∷ up) ≡ true) (Some (λ a. Named n a × (a.value ≡ v)) e.attributes)
  attribute-equal-by-document d = exactly-then _ _ _ attribute-equal-exactly (first-valued n v e.attributes, valued-first n v e.attributes d)

-- ---- all elements, several selectors, the document

-- by section 6.2, the universal selector represents any element; here the document too
pub universal : (p : Path) → matches (star ∷ []) p ≡ true
unfolding matches step
universal p = refl

-- by section 4, a sequence of simple selectors represents an element that satisfies each of them
pub sequence-exactly : (c : Component) (cs : List Component) (p : Path) → Simple c → Exactly (matches (c ∷ cs) p ≡ true) ((matches (c ∷ []) p ≡ true) × (matches cs p ≡ true))
unfolding matches step
sequence-exactly star cs p s = ((λ e. (refl, e)), (λ w. w.1))
sequence-exactly child cs p s = absurd (s.no-child refl)
sequence-exactly descendant cs p s = absurd (s.no-descendant refl)
sequence-exactly (class c) cs p s = beside (here (has_class c) p) (matches cs p)
sequence-exactly (element n) cs p s = beside (here (name_is n) p) (matches cs p)
sequence-exactly (hash h) cs p s = beside (here (has_id h) p) (matches cs p)
sequence-exactly (nth a b) cs p s = beside _ (matches cs p)
sequence-exactly (attribute n) cs p s = beside (here (has_attribute n) p) (matches cs p)
sequence-exactly (attribute_equal n v) cs p s = beside (here (attribute_is n v) p) (matches cs p)

-- a component that matches the document, the empty path, is star
document-star : (c : Component) → matches (c ∷ []) [] ≡ true → c ≡ star
unfolding matches step here on_parent on_ancestors and
document-star star e = refl
document-star child e = never e
document-star descendant e = never e
document-star (class c) e = never e
document-star (element n) e = never e
document-star (hash h) e = never e
document-star (nth a b) e = never e
document-star (attribute n) e = never e
document-star (attribute_equal n v) e = never e

-- the document (row 0, the empty path) has neither name nor attributes: only the universal selector matches it, which is the crate's choice
pub document-exactly : (c : Component) → Exactly (matches (c ∷ []) [] ≡ true) (c ≡ star)
document-exactly c = (document-star c, (λ e. ap (λ (d : Component). matches (d ∷ []) []) e ∙ universal []))

-- ---- on an accepted page the values of every element are in UTF-8, as `class-exactly` asks
-- attributes have values in UTF-8, where those of their rows are
values-from : (attributes bytes : List ℕ) (k at : ℕ) → ((j : ℕ) → j < k → valid (attribute_value attributes bytes (at + j)) ≡ true)
    → All (λ a. valid a.value ≡ true) (attributes_from attributes bytes k at)
unfolding attributes_from
values-from attributes bytes zero at h = tt
values-from attributes bytes (suc k) at h = (
  ap (λ n. valid (attribute_value attributes bytes n)) (omega arith) ∙ h 0 (omega arith),
  values-from attributes bytes k (at + 1) (λ j l. ap (λ n. valid (attribute_value attributes bytes n)) (omega arith) ∙ h (suc j) (omega arith)),
)

-- on an accepted page the attribute values of every row are in UTF-8, as refusal 7 asks
pub accepted-values : (nodes attributes bytes : List ℕ) → Accepted nodes attributes bytes → (row : ℕ) → row < node_count nodes
    → All (λ a. valid a.value ≡ true) (element_at nodes attributes bytes row).attributes
unfolding element_at
accepted-values nodes attributes bytes ok row there =
    values-from attributes bytes (node_at nodes row).attribute_count (node_at nodes row).first_attribute (λ j l. attribute-value-valid nodes attributes bytes ok row there j l)
