-- Words compared, what they stand for in tables, and their places there.
use Rattle.std.proofs.Common.{◌≡◌, refl, sym, ap, ◌∙◌, Bool, ◌&&◌, ◌||◌, true, false, cond, eqb, ℕ, suc, ◌+◌, ◌≤◌, ◌<◌, add-one, add-zero, zero-add, arith, List, [], ◌∷◌, length, get_or, take, drop, drop-cons, Option, Some, None, map, option_map, Bor}
use Rattle.std.specs.List.{find, list_any}
use Rattle.std.proofs.lemmas.List.{drop_min}
use lib.Pointwise.{pointwise}
use lib.ListN.{length-take, length-drop, drop_of_length-le}
use lib.Seq.{drop-drop}
use Rattle.combinators.specs.Choice.{pick, is, and}
use Rattle.combinators.specs.Word.{same_text}
use Rattle.combinators.specs.All.{All}
use Rattle.combinators.specs.Part.{part}
use Rattle.combinators.proofs.Rules.{pick_true, pick-false, told}
use Rattle.values.specs.Words.{Entry, Found, found, missing, lookup, on_found, entries, split, word_place}
use Rattle.values.specs.Property.{any_of}

-- slices that `==` compares are compared byte by byte
pub same_bytes : (s t : List ℕ) → pointwise eqb s t ≡ same_text s t
unfolding same_text is and
same_bytes [] [] = refl
same_bytes [] (y ∷ t) = refl
same_bytes (x ∷ s) [] = refl
same_bytes (x ∷ s) (y ∷ t) = go (eqb x y) _ _ (same_bytes s t)
  where
    go : (b p q : Bool) → p ≡ q → (b && p) ≡ and b q
    go true p q e = e
    go false p q e = refl

-- the test of a word, as the code makes it
abbrev pub is_word : List ℕ → Bor (List ℕ) → Bool
is_word s w = pointwise eqb s w.now

-- a word is one of a list where the code's test finds it there
pub any-told : (s : List ℕ) (ws : List (Bor (List ℕ))) → list_any (is_word s) ws ≡ any_of s (map (λ w. w.now) ws)
unfolding any_of pick
any-told s [] = refl
any-told s (w ∷ ws) = rw (same_bytes s w.now, any-told s ws) (go (same_text s w.now) (any_of s (map (λ w. w.now) ws)))
  where
    go : (b r : Bool) → (b || r) ≡ pick b true r
    go true r = refl
    go false r = refl

-- ---- what is found

-- what holds by whatever is found, and where nothing is
pub found-holds : {A B : Type 0} (P : B → Type 0) (x : Found A) (f : A → B) (b : B) → ((a : A) → x ≡ found a → P (f a)) → P b → P (on_found x f b)
unfolding on_found
found-holds P (found a) f b h m = h a refl
found-holds P missing f b h m = m

-- what holds of a row, and of what is found behind it
pub or-holds : {A : Type 0} (P : Found A → Type 0) (t : Bool) (a : A) (x : Found A) → P (found a) → P x → P (pick t (found a) x)
unfolding pick
or-holds P true a x h m = h
or-holds P false a x h m = m

-- what holds of every row of a table, and where there is none
pub lookup-holds : {A : Type 0} (P : Found A → Type 0) (w : List ℕ) (es : List (Entry A)) → All (λ e. P (found e.means)) es → P missing → P (lookup w es)
unfolding lookup
lookup-holds P w [] h m = m
lookup-holds P w (e ∷ es) h m = or-holds P (same_text w e.word) e.means (lookup w es) h.0 (lookup-holds P w es h.1 m)

-- ---- tables

-- the test of a row of the code's table, as the code makes it
abbrev pub is_row : {A : Type 0} → List ℕ → Bor (List ℕ) × A → Bool
is_row s r = pointwise eqb s r.0.now

-- the first row that has the word is the one that is looked up
pub row-found : {A : Type 0} (s : List ℕ) (rows : List (Bor (List ℕ) × A))
    → option_map (λ (r : Bor (List ℕ) × A). r.1) (find (is_row s) rows) ≡ on_found (lookup s (entries rows)) Some None
unfolding lookup on_found pick
row-found s [] = refl
row-found {A} s (r ∷ rs) = go _ _ _ _ (same_bytes s r.0.now) (row-found s rs)
  where
    go : (b t : Bool) (x : Option (Bor (List ℕ) × A)) (y : Found A) → b ≡ t → option_map (λ (r : Bor (List ℕ) × A). r.1) x ≡ on_found y Some None
        → option_map (λ (r : Bor (List ℕ) × A). r.1) (cond b (Some r) x) ≡ on_found (pick t (found r.1) y) Some None
    go true true x y e h = refl
    go false false x y e h = h
    go true false x y e h = absurd (cc)
    go false true x y e h = absurd (cc)

-- the rows of a table, with f of what they stand for
unfoldable pub mapped : {A B : Type 0} → (A → B) → List (Entry A) → List (Entry B)
mapped f [] = []
mapped f (e ∷ es) = record { word = e.word; means = f e.means } ∷ mapped f es

-- f of what is found
unfoldable pub found_as : {A B : Type 0} → (A → B) → Found A → Found B
found_as f x = on_found x (λ a. found (f a)) missing

-- by cases on what is found, f of it is taken or not
pub on-found-as : {A B C : Type 0} (f : A → B) (x : Found A) (g : B → C) (c : C) → on_found (found_as f x) g c ≡ on_found x (λ a. g (f a)) c
unfolding found_as on_found
on-found-as f (found a) g c = refl
on-found-as f missing g c = refl

-- a word stands for f of what it stands for
pub lookup-mapped : {A B : Type 0} (f : A → B) (w : List ℕ) (es : List (Entry A)) → lookup w (mapped f es) ≡ found_as f (lookup w es)
unfolding lookup mapped
lookup-mapped f w [] = unfold found_as on_found in refl
lookup-mapped f w (e ∷ es) = rw (lookup-mapped f w es) (go (same_text w e.word) (lookup w es))
  where
    go : (t : Bool) (x : Found _) → pick t (found (f e.means)) (found_as f x) ≡ found_as f (pick t (found e.means) x)
    go true x = unfold pick found_as on_found in refl
    go false x = unfold pick in refl

-- ---- `place_of`: the place among the words left, and those passed, is the place among all
pub record Placing (s joined lengths : List ℕ) (at i : ℕ) : Type 0 where
  pub left : word_place s (split joined lengths) ≡ i + word_place s (split (drop at joined) (drop i lengths))
  pub inside : at ≤ length joined

-- before the first word none is compared, and all are left
pub placing-begin : (s joined lengths : List ℕ) → Placing s joined lengths 0 0
placing-begin s joined lengths = record { left = sym (zero-add _); inside = omega arith }

-- one word and the rest
place-first : (s joined : List ℕ) (n : ℕ) (ns : List ℕ)
    → word_place s (split joined (n ∷ ns)) ≡ pick (same_text s (take n joined)) 0 (suc (word_place s (split (drop n joined) ns)))
unfolding word_place split
place-first s joined n ns = refl

-- behind a part that is cut at the end lies what lies behind the whole part
drop-taken : (n : ℕ) (l : List ℕ) → drop (length (take n l)) l ≡ drop n l
drop-taken n l = ap (λ k. drop k l) (length-take n l) ∙ drop_min n l

module _ (s joined lengths : List ℕ) (at i : ℕ) (c : Placing s joined lengths at i) where
  -- with no word left, the place is past the last
  pub placing-done : i ≡ length lengths → length lengths ≡ word_place s (split joined lengths)
  unfolding word_place split
  placing-done e = sym (c.left ∙ rw (drop_of_length-le lengths {i = i} (omega arith)) (add-zero i) ∙ e)

  -- the next word, of n bytes or as many as are left
  module _ (h : i < length lengths) (n : ℕ) (en : n ≡ get_or lengths i 0) (word : List ℕ) (ew : word ≡ part joined at n) where
    -- is made of the bytes that are left
    word-is : word ≡ take (get_or lengths i 0) (drop at joined)
    unfolding part
    word-is = ew ∙ ap (λ k. take k (drop at joined)) en

    -- it ends within the joined ones
    pub placing-end : at + length word ≤ length joined
    placing-end = omega (arith, c.inside, ap length word-is, length-take (get_or lengths i 0) (drop at joined), length-drop at joined)

    -- it is the word that is looked for, or one behind it is
    turn : word_place s (split joined lengths)
        ≡ i + pick (same_text s word) 0 (suc (word_place s (split (drop (at + length word) joined) (drop (i + 1) lengths))))
    turn =
        let k = get_or lengths i 0 in
        let r : drop (at + length word) joined ≡ drop k (drop at joined) =
        sym (drop-drop (length word) at joined) ∙ ap (λ (w : List ℕ). drop (length w) (drop at joined)) word-is ∙ drop-taken k (drop at joined)
        in
        c.left ∙ rw (r, word-is, drop-cons lengths i 0 h, add-one i) (ap (λ x. i + x) (place-first s (drop at joined) k (drop (suc i) lengths)))

    module _ (r : Bool) (er : r ≡ same_text s word) where
      -- a word of the table that is the one sought: its place is found
      pub placing-hit : r ≡ true → i ≡ word_place s (split joined lengths)
      placing-hit p = sym (turn ∙ ap (λ x. i + x) (sym (pick_true _ _ _ _ (told _ _ _ er p) refl)) ∙ add-zero i)

      -- a word that is another: the next one is asked
      pub placing-more : r ≡ false → Placing s joined lengths (at + length word) (i + 1)
      placing-more p =
          record {
            left = turn ∙ ap (λ x. i + x) (sym (pick-false _ _ _ _ (told _ _ _ er p) refl)) ∙ omega arith;
            inside = placing-end;
          }
