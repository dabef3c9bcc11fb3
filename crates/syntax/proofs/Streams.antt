-- Reading a list of values back from their rows, for every kind of value; and from what a writer leaves to what a reader asks for.
use mathlib.Core.Path.{◌≡◌, refl, ap, sym, ◌∙◌}
use mathlib.Core.List.{List, [], ◌∷◌, ◌++◌, map, append_assoc}
use Prim.Native.Nat.{ℕ, ◌+◌, ◌≤◌}
use native.Mathlib.Nat.{add-zero}
use native.Mathlib.Omega.{arith}
use lib.ListN.{length, take, drop, length-append}
use lib.Seq.{sets, sets-eq, length-take-le, drop_at, take-append_seam, drop-append_seam, drop-drop}
use Rattle.combinators.specs.All.{All}
use Rattle.combinators.specs.Part.{part}
use Rattle.syntax.specs.Stream.{Read, read_many, texts_many, rows_many}

-- the store has xs from f on
pub record Held (store : List ℕ) (f : ℕ) (xs : List ℕ) : Type 0 where
  pub more : List ℕ
  pub held : drop f store ≡ xs ++ more

-- a text held is held in its parts
module _ (store : List ℕ) (f : ℕ) (xs ys : List ℕ) (h : Held store f (xs ++ ys)) where
  -- the first of two texts in a row is held where both are
  pub held-left : Held store f xs
  held-left = record { more = ys ++ h.more; held = h.held ∙ append_assoc xs ys h.more }

  -- the second is held behind it
  pub held-right : Held store (f + length xs) ys
  held-right =
      record {
        more = h.more;
        held = sym (drop-drop (length xs) f store) ∙ ap (drop (length xs)) (h.held ∙ append_assoc xs ys h.more) ∙ drop-append_seam xs (ys ++ h.more);
      }

-- a text held is read by its start and its length
pub held-part : (store : List ℕ) (f : ℕ) (xs : List ℕ) → Held store f xs → part store f (length xs) ≡ xs
unfolding part
held-part store f xs h = ap (take (length xs)) h.held ∙ take-append_seam xs h.more

-- where a value that P holds of is read from its row as v of it, its text ending at m or before, so is a list of them
module _ {A B : Type 0} (store : List ℕ) (w : ℕ → A → List ℕ) (x : A → List ℕ) (u : List ℕ → Read B) (v : A → B) (P : A → Type 0) (m : ℕ)
    (back : (f : ℕ) (a : A) (t : List ℕ) → P a → Held store f (x a) → f + length (x a) ≤ m → u (w f a ++ t) ≡ record { value = v a; rest = t }) where
  -- a list of values is read back from its rows, and what stands behind them is left
  pub many-back : (xs : List A) (f : ℕ) (t : List ℕ) → All P xs → Held store f (texts_many x xs) → f + length (texts_many x xs) ≤ m
      → read_many u (length xs) (rows_many w x f xs ++ t) ≡ record { value = map v xs; rest = t }
  unfolding read_many rows_many texts_many
  many-back [] f t p h l = refl
  many-back (a ∷ xs) f t p h l =
      let e : length (x a ++ texts_many x xs) ≡ length (x a) + length (texts_many x xs) = length-append (x a) (texts_many x xs) in
      rw (
        append_assoc (w f a) (rows_many w x (f + length (x a)) xs) t,
        back f a (rows_many w x (f + length (x a)) xs ++ t) p.0 (held-left store f (x a) (texts_many x xs) h) (omega arith),
        many-back xs (f + length (x a)) t p.1 (held-right store f (x a) (texts_many x xs) h) (omega arith),
      )

-- what was stored at i is held there
module _ (l : List ℕ) (i : ℕ) (xs : List ℕ) (h : i + length xs ≤ length l) where
  -- from i on lie what was stored there, and what lay behind it before
  pub sets-drop : drop i (sets l i xs) ≡ xs ++ drop (i + length xs) l
  sets-drop =
      ap (drop i) (sets-eq xs l i h ∙ append_assoc (take i l) xs (drop (i + length xs) l))
      ∙ drop_at (take i l) (xs ++ drop (i + length xs) l) i (length-take-le i l (omega arith))

  -- what was stored within a store is held where it was stored
  pub sets-held : Held (sets l i xs) i xs
  sets-held = record { more = drop (i + length xs) l; held = sets-drop }

-- the texts and the rows of two lists, one behind the other
module _ {A : Type 0} (w : ℕ → A → List ℕ) (x : A → List ℕ) where
  -- the texts of two lists, one behind the other, are those of the lists joined
  pub texts-append : (xs ys : List A) → texts_many x (xs ++ ys) ≡ texts_many x xs ++ texts_many x ys
  unfolding texts_many
  texts-append [] ys = refl
  texts-append (a ∷ xs) ys = rw (texts-append xs ys) (sym (append_assoc (x a) (texts_many x xs) (texts_many x ys)))

  -- rows, whose second texts start behind the first
  pub rows_append : (xs ys : List A) (f : ℕ) → rows_many w x f (xs ++ ys) ≡ rows_many w x f xs ++ rows_many w x (f + length (texts_many x xs)) ys
  unfolding rows_many texts_many
  rows_append [] ys f = ap (λ n. rows_many w x n ys) (sym (add-zero f))
  rows_append (a ∷ xs) ys f =
      let g = f + length (x a) in
      let e : f + length (x a ++ texts_many x xs) ≡ g + length (texts_many x xs) = omega (arith, length-append (x a) (texts_many x xs)) in
      rw (rows_append xs ys g, e) (sym (append_assoc (w f a) (rows_many w x g xs) (rows_many w x (g + length (texts_many x xs)) ys)))
