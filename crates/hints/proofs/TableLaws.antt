-- The table of a hint: texts are marked one by one, and what is marked stays.
use Prim.Native.Nat.{ℕ, zero, suc, ◌+◌, ◌*◌, ◌%◌, ◌≤◌, ◌<◌}
use mathlib.Core.Path.{◌≡◌, refl, ap, subst, ◌∙◌}
use mathlib.Core.Bool.{Bool, true, false}
use mathlib.Core.List.{List, [], ◌∷◌}
use mathlib.Core.Logic.{◌⊎◌, inl, inr, ⊎_elim}
use native.Mathlib.Omega.{arith}
use borrow.Author.Count.{below_more}
use lib.ListN.{length, get_or, set}
use Rattle.combinators.specs.Word.{same_text}
use Rattle.combinators.proofs.Rules.{never, either}
use Rattle.combinators.proofs.Words.{same-is}
use Rattle.syntax.specs.RuleLayout.{class_kind, hash_kind, attribute_kind}
use Rattle.page.specs.Path.{Attribute}
use Rattle.page.specs.PathOf.{attributes_from}
use Rattle.page.specs.Rows.{attribute_name, attribute_value}
use Rattle.matching.specs.Matches.{any_attribute, is_class, is_id, is_named}
use Rattle.matching.specs.Rows.{attribute_of}
use Rattle.matching.specs.Texts.{NoWord, FirstWord, has_word}
use Rattle.matching.proofs.AttributeLaws.{class-named, class-other, id-named, id_other}
use Rattle.matching.proofs.Words.{Splitting, split-begin, split-end, split-more}
use Rattle.hints.specs.Hints.{starts, spread, start_of, place_of, may_begin, marked, MayHave, Covers, Keeps, AttributesFit}
use Rattle.hints.specs.declared.hints.Hint.{Hint}

-- ---- the return of `start_of`
-- a length counts by what is left of it
pub start-left : (size byte : ℕ) → (byte + spread * (size % starts)) % starts ≡ start_of size byte
unfolding start_of
start-left size byte = omega arith

-- ---- a text that is marked
-- a place that is set is set, or lies behind the table
set-here : (may : List Bool) (i : ℕ) → get_or (set may i true) i true ≡ true
set-here [] i = refl
set-here (a ∷ may) zero = refl
set-here (a ∷ may) (suc i) = set-here may i

-- what was set stays
set-kept : (may : List Bool) (i j : ℕ) → get_or may j true ≡ true → get_or (set may i true) j true ≡ true
set-kept [] i j e = e
set-kept (a ∷ may) zero zero e = refl
set-kept (a ∷ may) zero (suc j) e = e
set-kept (a ∷ may) (suc i) zero e = e
set-kept (a ∷ may) (suc i) (suc j) e = set-kept may i j e

module _ (h r : Hint) (kind : ℕ) (x : List ℕ) (e : r.may ≡ marked h.may kind x) where
  -- what was marked stays
  pub mark-keeps : Keeps h r
  unfolding may_begin marked
  mark-keeps k size byte t =
      ap (λ (m : List Bool). get_or m (place_of k size byte) true) e ∙ set-kept h.may (place_of kind (length x) (get_or x 0 0)) (place_of k size byte) t

  -- and the text is marked
  pub mark-has : MayHave r kind x
  unfolding may_begin marked
  mark-has =
      let i : ℕ = place_of kind (length x) (get_or x 0 0) in
      ap (λ (m : List Bool). get_or m i true) e ∙ set-here h.may i

-- what a hint covers is covered by one that keeps what may be
pub covers-kept : (h r : Hint) → Keeps h r → (kind : ℕ) (asks : List ℕ → Bool) → Covers h kind asks → Covers r kind asks
covers-kept h r keep kind asks c x t = keep kind (length x) (get_or x 0 0) (c x t)

-- ---- the loop of `mark_words`
pub record Wording (s : List ℕ) (h r : Hint) (left : List ℕ) : Type 0 where
  pub keeps : Keeps h r
  pub told : (w : List ℕ) → MayHave r class_kind w ⊎ Splitting w s left

-- no word is met yet
pub words-begin : (s : List ℕ) (h : Hint) → Wording s h h s
words-begin s h = record { keeps = λ k size byte t. t; told = λ w. inr (split-begin w s) }

module _ (s : List ℕ) (h r : Hint) (left : List ℕ) (v : Wording s h r left) where
  -- where no word is left, every word of the text is marked
  pub words-end : NoWord left → Covers r class_kind (λ w. has_word w s)
  words-end n w t = ⊎_elim (λ m. m) (λ (x : Splitting w s left). never (split-end w s left x n ∙ t)) (v.told w)

  module _ (found others : List ℕ) (f : FirstWord left found others) (r₁ : Hint) (e : r₁.may ≡ marked r.may class_kind found) where
    -- what is sought is the word, or stands behind it
    sought : (w : List ℕ) → Splitting w s left → (t : Bool) → same_text found w ≡ t → MayHave r₁ class_kind w ⊎ Splitting w s others
    sought w x true q = inl (subst (λ (y : List ℕ). MayHave r₁ class_kind y) (same-is found w q) (mark-has r r₁ class_kind found e))
    sought w x false q = inr (split-more w s left x found others f q)

    -- the word is marked, and the loop goes on behind it
    pub words_more : Wording s h r₁ others
    words_more =
        let keep : Keeps r r₁ = mark-keeps r r₁ class_kind found e in
        record {
          keeps = λ k size byte t. keep k size byte (v.keeps k size byte t);
          told = λ w. ⊎_elim (λ (y : MayHave r class_kind w). inl (keep class_kind (length w) (get_or w 0 0) y)) (λ (x : Splitting w s left). sought w x (same_text found w) refl) (v.told w);
        }

-- ---- one attribute
module _ (rows text : List ℕ) (row : ℕ) where
  module _ (t : Bool) (is : t ≡ is_named (0x63 ∷ 0x6c ∷ 0x61 ∷ 0x73 ∷ 0x73 ∷ []) (attribute_of rows text row)) (h : Hint) where
    -- a `class` has the words of its value
    pub classes-met : t ≡ true → (v : List ℕ) → v ≡ attribute_value rows text row → Covers h class_kind (λ w. has_word w v) → Covers h class_kind (λ c. is_class c (attribute_of rows text row))
    classes-met y v ev w c x = w c (class-named rows text row c t is y v ev (has_word c v) refl ∙ x)

    -- an attribute of another name has no classes
    pub classes-none : t ≡ false → Covers h class_kind (λ c. is_class c (attribute_of rows text row))
    classes-none n c x = never (class-other rows text row c t is n ∙ x)

  module _ (t : Bool) (is : t ≡ is_named (0x69 ∷ 0x64 ∷ []) (attribute_of rows text row)) (h : Hint) where
    -- an `id` is its value
    pub id-met : t ≡ true → (v : List ℕ) → v ≡ attribute_value rows text row → MayHave h hash_kind v → Covers h hash_kind (λ i. is_id i (attribute_of rows text row))
    id-met y v ev m i x =
        subst (λ (z : List ℕ). MayHave h hash_kind z) (ev ∙ same-is (attribute_value rows text row) i (id-named rows text row i t is y (same_text (attribute_value rows text row) i) refl ∙ x)) m

    -- an attribute of another name is none
    pub id-none : t ≡ false → Covers h hash_kind (λ i. is_id i (attribute_of rows text row))
    id-none n i x = never (id_other rows text row i t is n ∙ x)

  -- an attribute has its name
  name-met : (v : List ℕ) → v ≡ attribute_name rows text row → (h : Hint) → MayHave h attribute_kind v → Covers h attribute_kind (λ n. is_named n (attribute_of rows text row))
  unfolding is_named attribute_of
  name-met v ev h m n x = subst (λ (z : List ℕ). MayHave h attribute_kind z) (ev ∙ same-is (attribute_name rows text row) n x) m

-- ---- the loop of `mark_attributes`
-- what the attribute in a row has is marked
pub record RowFits (rows text : List ℕ) (h : Hint) (row : ℕ) : Type 0 where
  pub classes : Covers h class_kind (λ c. is_class c (attribute_of rows text row))
  pub ids : Covers h hash_kind (λ i. is_id i (attribute_of rows text row))
  pub names : Covers h attribute_kind (λ n. is_named n (attribute_of rows text row))

-- what holds where one of the attributes passes holds where any does
from-any : (f : Attribute → Bool) (P : Type 0) (rows text : List ℕ) (count at : ℕ) → ((k : ℕ) → k < at + count → f (attribute_of rows text k) ≡ true → P)
    → any_attribute f (attributes_from rows text count at) ≡ true → P
unfolding any_attribute attributes_from attribute_of
from-any f P rows text zero at h t = never t
from-any f P rows text (suc count) at h t =
    either P _ _ t (h at (omega arith))
    (from-any f P rows text count (at + 1) (λ k l. h k (omega arith)))

module _ (rows text : List ℕ) where
  -- what is marked of an attribute stays
  row-kept : (h r : Hint) → Keeps h r → (row : ℕ) → RowFits rows text h row → RowFits rows text r row
  row-kept h r keep row v =
      record {
        classes = covers-kept h r keep class_kind _ v.classes;
        ids = covers-kept h r keep hash_kind _ v.ids;
        names = covers-kept h r keep attribute_kind _ v.names;
      }

  -- what the attributes so far have is marked
  pub record Gathering (h r : Hint) (i : ℕ) : Type 0 where
    pub keeps : Keeps h r
    pub told : (k : ℕ) → k < i → RowFits rows text r k

  module _ (h r : Hint) (i : ℕ) (v : Gathering h r i) where
    -- where all are met, what they have is marked
    pub gather-end : (count : ℕ) → count ≤ i → AttributesFit r (attributes_from rows text count 0)
    gather-end count l =
        record {
          classes = λ x. from-any (is_class x) (MayHave r class_kind x) rows text count 0 (λ k b t. (v.told k (omega arith)).classes x t);
          ids = λ x. from-any (is_id x) (MayHave r hash_kind x) rows text count 0 (λ k b t. (v.told k (omega arith)).ids x t);
          names = λ x. from-any (is_named x) (MayHave r attribute_kind x) rows text count 0 (λ k b t. (v.told k (omega arith)).names x t);
        }

    -- the name of an attribute is marked, its classes, and the value of an `id`
    pub gather-more : (name : List ℕ) → name ≡ attribute_name rows text i → (a b c : Hint) → a.may ≡ marked r.may attribute_kind name
        → Keeps a b → Covers b class_kind (λ x. is_class x (attribute_of rows text i)) → Keeps b c → Covers c hash_kind (λ x. is_id x (attribute_of rows text i)) → Gathering h c (i + 1)
    gather-more name en a b c ea kb classes kc ids =
        let ka : Keeps r a = mark-keeps r a attribute_kind name ea in
        let keep : Keeps r c = λ k size byte t. kc k size byte (kb k size byte (ka k size byte t)) in
        let here : RowFits rows text c i =
        record {
          classes = covers-kept b c kc class_kind _ classes;
          ids = ids;
          names = covers-kept b c kc attribute_kind _ (covers-kept a b kb attribute_kind _ (name-met rows text i name en a (mark-has r a attribute_kind name ea)));
        } in
        record {
          keeps = λ k size byte t. keep k size byte (v.keeps k size byte t);
          told = below_more _ _ (λ k l. row-kept r c keep k (v.told k l)) here;
        }
