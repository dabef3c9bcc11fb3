-- The laws of `many` and `texts`, for every reader: a turn that takes bytes, a turn that takes none, the end of the text.
use mathlib.Core.Path.{◌≡◌, refl, ap, sym, ◌∙◌}
use mathlib.Core.List.{List, [], ◌∷◌, ◌++◌}
use Prim.Native.Nat.{ℕ, zero, suc, ◌+◌, ◌≤◌, ◌<◌}
use native.Mathlib.Nat.{add-zero}
use native.Mathlib.Omega.{arith}
use lib.ListN.{length, drop, drop_of_length-le}
use lib.Seq.{drop-drop}
use Rattle.combinators.specs.Repeat.{many, texts, took}

-- ---- where the repetition stops
module _ (u : List ℕ → ℕ) where
  -- k bytes that are passed over are counted, and the repetition goes on behind them
  many-pass : (s : List ℕ) (i k : ℕ) → k ≤ length s → many u i k s ≡ many u (i + k) 0 (drop k s)
  unfolding many took
  many-pass [] i zero h = sym (add-zero i)
  many-pass [] i (suc k) h = absurd (omega arith)
  many-pass (x ∷ r) i zero h = ap (λ n. many u n 0 (x ∷ r)) (sym (add-zero i))
  many-pass (x ∷ r) i (suc k) h = many-pass r (i + 1) k (omega arith) ∙ ap (λ n. many u n 0 (drop k r)) (omega arith)

  -- the reader takes n bytes
  pub many-took : (l : List ℕ) (i n : ℕ) → n ≤ length l → u l ≡ n → ¬ (n ≡ 0) → many u i 0 l ≡ many u (i + n) 0 (drop n l)
  unfolding many took
  many-took l i zero h e d = absurd (d refl)
  many-took [] i (suc n) h e d = absurd (omega arith)
  many-took (x ∷ r) i (suc n) h e d = rw e (many-pass r (i + 1) n (omega arith) ∙ ap (λ k. many u k 0 (drop n r)) (omega arith))

  -- the same at the index i of a text
  pub many_more : (s : List ℕ) (i n : ℕ) → n ≤ length (drop i s) → u (drop i s) ≡ n → ¬ (n ≡ 0)
      → many u i 0 (drop i s) ≡ many u (i + n) 0 (drop (i + n) s)
  many_more s i n h e d = many-took (drop i s) i n h e d ∙ ap (λ l. many u (i + n) 0 l) (drop-drop n i s)

  -- where the reader takes none, the repetition stops there
  pub many-stop : (l : List ℕ) (i : ℕ) → u l ≡ 0 → many u i 0 l ≡ i
  unfolding many took
  many-stop [] i e = refl
  many-stop (x ∷ r) i e = rw e

  -- behind the end of the text nothing more is counted
  pub many-end : (s : List ℕ) (j i : ℕ) → length s ≤ i → many u j 0 (drop i s) ≡ j
  unfolding many took
  many-end s j i h = rw (drop_of_length-le s h)

-- what a reader took is at most m, whether it took none or some, where both are
took-le : (n i m : ℕ) (f : ℕ → ℕ) → i ≤ m → ((k : ℕ) → f k ≤ m) → took n i f ≤ m
unfolding took
took-le zero i m f h g = h
took-le (suc n) i m f h g = g n

-- what a reader took is at least i, where all that follows is
took-ge : (n i : ℕ) (f : ℕ → ℕ) → ((k : ℕ) → i ≤ f k) → i ≤ took n i f
unfolding took
took-ge zero i f g = omega arith
took-ge (suc n) i f g = g n

-- a repetition stays within the text
pub many-le : (u : List ℕ → ℕ) (s : List ℕ) (i k : ℕ) → many u i k s ≤ i + length s
unfolding many took
many-le u [] i k = omega arith
many-le u (x ∷ r) i zero = took-le (u (x ∷ r)) i (i + suc (length r)) (λ n. many u (i + 1) n r) (omega arith) (λ n. omega (arith, many-le u r (i + 1) n))
many-le u (x ∷ r) i (suc k) = omega (arith, many-le u r (i + 1) k)

-- and does not go back
pub many-ge : (u : List ℕ → ℕ) (s : List ℕ) (i k : ℕ) → i ≤ many u i k s
unfolding many took
many-ge u [] i k = omega arith
many-ge u (x ∷ r) i zero = took-ge (u (x ∷ r)) i (λ n. many u (i + 1) n r) (λ n. omega (arith, many-ge u r (i + 1) n))
many-ge u (x ∷ r) i (suc k) = omega (arith, many-ge u r (i + 1) k)

-- what was taken, where all ends later by j
took_from : (j n i : ℕ) (f g : ℕ → ℕ) → ((k : ℕ) → g k ≡ j + f k) → took n (j + i) g ≡ j + took n i f
unfolding took
took_from j zero i f g e = refl
took_from j (suc n) i f g e = e n

-- a repetition that begins later by j ends later by j
pub many-from : (j : ℕ) (u : List ℕ → ℕ) (s : List ℕ) (i k : ℕ) → many u (j + i) k s ≡ j + many u i k s
unfolding many
many-from j u [] i k = refl
many-from j u (x ∷ r) i zero =
    took_from j (u (x ∷ r)) i (λ n. many u (i + 1) n r) (λ n. many u (j + i + 1) n r)
    (λ n. ap (λ m. many u m n r) (omega arith) ∙ many-from j u r (i + 1) n)
many-from j u (x ∷ r) i (suc k) = ap (λ m. many u m k r) (omega arith) ∙ many-from j u r (i + 1) k

module _ (u : List ℕ → ℕ) (x : ℕ) (r : List ℕ) where
  -- a byte passed over, with k more: as the rest does
  stopped_more : (k : ℕ) → (many u 0 k r < length r → u (drop (many u 0 k r) r) ≡ 0)
      → many u 1 k r < length (x ∷ r) → u (drop (many u 1 k r) (x ∷ r)) ≡ 0
  stopped_more k f h =
      let m = many u 0 k r in
      let p : many u 1 k r ≡ suc m = many-from 1 u r 0 k ∙ omega arith in
      ap (λ i. u (drop i (x ∷ r))) p ∙ f (omega arith)

  -- the reader takes n bytes
  stopped-took : ((k : ℕ) → many u 0 k r < length r → u (drop (many u 0 k r) r) ≡ 0) → (n : ℕ) → u (x ∷ r) ≡ n
      → took n 0 (λ k. many u 1 k r) < length (x ∷ r) → u (drop (took n 0 (λ k. many u 1 k r)) (x ∷ r)) ≡ 0
  unfolding took
  stopped-took f zero e h = e
  stopped-took f (suc n) e h = stopped_more n (f n) h

-- where a repetition of u stops before the end of the text, u takes none
pub many-stopped : (u : List ℕ → ℕ) (s : List ℕ) (k : ℕ) → many u 0 k s < length s → u (drop (many u 0 k s) s) ≡ 0
unfolding many
many-stopped u [] k h = absurd (omega arith)
many-stopped u (x ∷ r) zero h = stopped-took u x r (many-stopped u r) (u (x ∷ r)) refl h
many-stopped u (x ∷ r) (suc k) h = stopped_more u x r k (many-stopped u r k) h

-- ---- the text that it stands for
module _ (u : List ℕ → ℕ) (b : List ℕ → List ℕ) where
  -- the text behind k bytes that are passed over is that of what follows them
  texts-pass : (s : List ℕ) (k : ℕ) → k ≤ length s → texts u b k s ≡ texts u b 0 (drop k s)
  unfolding texts
  texts-pass [] zero h = refl
  texts-pass [] (suc k) h = refl
  texts-pass (x ∷ r) zero h = refl
  texts-pass (x ∷ r) (suc k) h = texts-pass r k (omega arith)

  -- the reader takes n bytes
  pub texts-took : (l : List ℕ) (n : ℕ) → n ≤ length l → u l ≡ n → ¬ (n ≡ 0) → texts u b 0 l ≡ b l ++ texts u b 0 (drop n l)
  unfolding texts took
  texts-took l zero h e d = absurd (d refl)
  texts-took [] (suc n) h e d = absurd (omega arith)
  texts-took (x ∷ r) (suc n) h e d = rw e (ap (λ t. b (x ∷ r) ++ t) (texts-pass r n (omega arith)))

  -- the same at the index i of a text
  pub texts-more : (s : List ℕ) (i n : ℕ) → n ≤ length (drop i s) → u (drop i s) ≡ n → ¬ (n ≡ 0)
      → texts u b 0 (drop i s) ≡ b (drop i s) ++ texts u b 0 (drop (i + n) s)
  texts-more s i n h e d = texts-took (drop i s) n h e d ∙ ap (λ t. b (drop i s) ++ texts u b 0 t) (drop-drop n i s)

  -- where the reader takes none, the text that is left is empty
  pub texts-stop : (l : List ℕ) → u l ≡ 0 → texts u b 0 l ≡ []
  unfolding texts took
  texts-stop [] e = refl
  texts-stop (x ∷ r) e = rw e

  -- where all that is left is passed over, the text is empty
  pub texts-all : (r : List ℕ) (n : ℕ) → n ≡ length r → texts u b n r ≡ []
  unfolding texts
  texts-all [] n e = refl
  texts-all (x ∷ r) zero e = absurd (omega arith)
  texts-all (x ∷ r) (suc n) e = texts-all r n (omega arith)

-- and the repetition stops at the end
pub many-all : (u : List ℕ → ℕ) (r : List ℕ) (i n : ℕ) → n ≡ length r → many u i n r ≡ i + length r
unfolding many
many-all u [] i n e = sym (add-zero i)
many-all u (x ∷ r) i zero e = absurd (omega arith)
many-all u (x ∷ r) i (suc n) e = many-all u r (i + 1) n (omega arith) ∙ omega arith
