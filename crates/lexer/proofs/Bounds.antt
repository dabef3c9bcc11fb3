-- How long the text is that a reader stands for, for every reader: no longer than the bytes taken, or two bytes longer where a
-- backslash ends the text.
use mathlib.Core.Path.{◌≡◌, refl, ap, sym, ◌∙◌}
use mathlib.Core.List.{List, [], ◌∷◌, ◌++◌}
use mathlib.Core.Logic.{◌⊎◌, inl, inr, ⊎_elim}
use Prim.Native.Nat.{ℕ, zero, suc, ◌+◌, ◌-◌, ◌<◌, ◌≤◌}
use native.Mathlib.Nat.{add-zero}
use native.Mathlib.Omega.{arith}
use lib.ListN.{length, get_or, drop, length-append, length-drop}
use lib.Seq.{get_or-drop}
use Prim.Native.Char.{code as ascii}
use Rattle.combinators.specs.Parsed.{Parsed, ok, err, behind}
use Rattle.combinators.specs.Repeat.{many, texts, took}
use Rattle.combinators.proofs.Lists.{nil-of}
use Rattle.combinators.proofs.Rules.{lt-or-ge}
use Rattle.combinators.proofs.Repeats.{texts-all, many-all, many-stopped, many-le}

-- the bytes b that n bytes at the start of s stand for: no more than n, or two more where a lone backslash ends the text there
pub data Bound (s : List ℕ) (n : ℕ) (b : List ℕ) : Type 0 where
  short : length b ≤ n → Bound s n b
  lone : length b ≤ n + 2 → n ≡ length s → get_or s (n - 1) 0 ≡ ascii "\\" → Bound s n b

-- two bytes more at most
pub bound-two : {s : List ℕ} {n : ℕ} {b : List ℕ} → Bound s n b → length b ≤ n + 2
bound-two (short h) = omega arith
bound-two (lone h e l) = h

-- none more where the text goes on
pub bound-short : {s : List ℕ} {n : ℕ} {b : List ℕ} → Bound s n b → n < length s → length b ≤ n
bound-short (short h) l = h
bound-short (lone h e k) l = absurd (omega arith)

-- what takes nothing stands for nothing
pub none_of : (s b : List ℕ) → Bound s 0 b → b ≡ []
none_of s b (short h) = nil-of b h
none_of [] b (lone h e l) = absurd (omega arith)
none_of (x ∷ s) b (lone h e l) = absurd (omega arith)

-- ---- a reading: it takes a byte or more, no more than there are, and its text b keeps to the bound
pub record Fits (s : List ℕ) (n : ℕ) (b : List ℕ) : Type 0 where
  pub some : 1 ≤ n
  pub within_text : n ≤ length s
  pub bound : Bound s n b

-- behind k bytes that stand for a text a, which is no longer, the bound is kept
bound-after : (s : List ℕ) (k n : ℕ) (a b : List ℕ) → k ≤ length s → length a ≤ k → 1 ≤ n → Bound (drop k s) n b → Bound s (k + n) (a ++ b)
bound-after s k n a b h i j (short l) = short (omega (arith, length-append a b))
bound-after s k n a b h i j (lone l e x) =
    let q : k + n - 1 ≡ k + (n - 1) = omega arith in
    lone (omega (arith, length-append a b)) (omega (arith, length-drop k s))
    (ap (λ j. get_or s j 0) q ∙ sym (get_or-drop k s (n - 1) 0) ∙ x)

-- so both are one reading
pub fits_after : (s : List ℕ) (k n : ℕ) (a b : List ℕ) → k ≤ length s → length a ≤ k → Fits (drop k s) n b → Fits s (k + n) (a ++ b)
fits_after s k n a b h i f =
    record {
      some = omega (arith, f.some);
      within_text = omega (arith, f.within_text, length-drop k s);
      bound = bound-after s k n a b h i f.some f.bound;
    }

-- and so is a reading behind k bytes that stand for nothing
pub fits-behind : (s : List ℕ) (k n : ℕ) (b : List ℕ) → k ≤ length s → Fits (drop k s) n b → Fits s (k + n) b
fits-behind s k n b h f = fits_after s k n [] b h (omega arith) f

-- an answer whose value stands for the text `text a`: where it reads, it is such a reading
abbrev pub Keeps : {A : Type 0} → (A → List ℕ) → List ℕ → Parsed A → Type 0
Keeps text s (ok n a) = Fits s n (text a)
Keeps text s err = Unit

-- the same behind k bytes
pub behind-keeps : {A : Type 0} (text : A → List ℕ) (s : List ℕ) (k : ℕ) (p : Parsed A) → k ≤ length s → Keeps text (drop k s) p
    → Keeps text s (behind k p)
unfolding behind
behind-keeps text s k (ok n a) h f = fits-behind s k n (text a) h f
behind-keeps text s k err h f = tt

-- ---- repetition
-- the text t of the repetition from i on, k bytes of s passed over first; m is where it stops
data Span (s : List ℕ) (i k m : ℕ) (t : List ℕ) : Type 0 where
  fits : length t + (i + k) ≤ m → Span s i k m t
  ends : length t + (i + k) ≤ m + 2 → m ≡ i + length s → get_or s (length s - 1) 0 ≡ ascii "\\" → Span s i k m t

-- the last byte of a text is the last behind one byte more
last_cons : (x : ℕ) (r : List ℕ) → get_or r (length r - 1) 0 ≡ ascii "\\" → get_or (x ∷ r) (suc (length r) - 1) 0 ≡ ascii "\\"
last_cons x [] e = absurd (omega arith)
last_cons x (y ∷ r) e =
    let p : suc (suc (length r)) - 1 ≡ suc (length r) = omega arith in
    let q : suc (length r) - 1 ≡ length r = omega arith in
    rw p (rw q at e)

module _ (u : List ℕ → ℕ) (b : List ℕ → List ℕ) (le : (l : List ℕ) → u l ≤ length l) (fine : (l : List ℕ) → Bound l (u l) (b l)) where
  -- a byte that is passed over
  pass : (x : ℕ) (r : List ℕ) (i k m : ℕ) (t : List ℕ) → Span r (i + 1) k m t → Span (x ∷ r) i (suc k) m t
  pass x r i k m t (fits h) = fits (omega arith)
  pass x r i k m t (ends h e l) = ends (omega arith) (e ∙ omega arith) (last_cons x r l)

  -- a byte where a reading begins
  turn : (x : ℕ) (r : List ℕ) (i n : ℕ) → Bound (x ∷ r) (suc n) (b (x ∷ r)) → Span r (i + 1) n (many u (i + 1) n r) (texts u b n r)
      → Span (x ∷ r) i 0 (many u (i + 1) n r) (b (x ∷ r) ++ texts u b n r)
  turn x r i n (short h) (fits g) = fits (omega (arith, length-append (b (x ∷ r)) (texts u b n r)))
  turn x r i n (short h) (ends g e l) =
      ends (omega (arith, length-append (b (x ∷ r)) (texts u b n r))) (e ∙ omega arith) (last_cons x r l)
  turn x r i n (lone h e l) s =
      let q : n ≡ length r = omega arith in
      let m = many-all u r (i + 1) n q in
      ends (omega (arith, length-append (b (x ∷ r)) (texts u b n r), ap length (texts-all u b r n q))) (m ∙ omega arith) (rw q at l)

  -- by what the reader takes there
  at : (x : ℕ) (r : List ℕ) (i : ℕ) → ((n : ℕ) → n ≤ length r → Span r (i + 1) n (many u (i + 1) n r) (texts u b n r))
      → (n : ℕ) → u (x ∷ r) ≡ n → Span (x ∷ r) i 0 (many u i 0 (x ∷ r)) (texts u b 0 (x ∷ r))
  unfolding many texts took
  at x r i f zero e = rw e (fits (omega arith))
  at x r i f (suc n) e = rw e (turn x r i n (rw e at (fine (x ∷ r))) (f n (omega (arith, le (x ∷ r), e))))

  -- from any byte on, a repetition stands for no more than it takes, but for two bytes where a lone backslash ends the text
  span : (s : List ℕ) (i k : ℕ) → k ≤ length s → Span s i k (many u i k s) (texts u b k s)
  unfolding many texts took
  span [] i k h = fits (omega arith)
  span (x ∷ r) i zero h = at x r i (λ n l. span r (i + 1) n l) (u (x ∷ r)) refl
  span (x ∷ r) i (suc k) h = pass x r i k _ _ (span r (i + 1) k (omega arith))

  -- from the start, a span is the bound
  bounded : (s : List ℕ) (m : ℕ) (t : List ℕ) → Span s 0 0 m t → Bound s m t
  bounded s m t (fits h) = short (omega arith)
  bounded s m t (ends h e l) = let q : m ≡ length s = omega arith in lone (omega arith) q (rw q l)

  -- the repetition keeps to the bound of its reader
  pub repeated : (s : List ℕ) → Bound s (many u 0 0 s) (texts u b 0 s)
  repeated s = bounded s _ _ (span s 0 0 (omega arith))

-- ---- a reader that stands for no more than it takes, wherever the text ends
module _ (u : List ℕ → ℕ) (b : List ℕ → List ℕ) (le : (l : List ℕ) → u l ≤ length l) (small : (l : List ℕ) → length (b l) ≤ u l) where
  -- by what the reader takes
  at-short : (x : ℕ) (r : List ℕ) (i : ℕ) → ((n : ℕ) → n ≤ length r → length (texts u b n r) + (i + 1 + n) ≤ many u (i + 1) n r)
      → (n : ℕ) → u (x ∷ r) ≡ n → length (texts u b 0 (x ∷ r)) + i ≤ many u i 0 (x ∷ r)
  unfolding many texts took
  at-short x r i f zero e = rw e (omega arith)
  at-short x r i f (suc n) e =
      let h = f n (omega (arith, le (x ∷ r), e)) in
      rw e (omega (arith, length-append (b (x ∷ r)) (texts u b n r), small (x ∷ r), e))

  -- from any byte on, a repetition stands for no more than it takes
  run_short : (s : List ℕ) (i k : ℕ) → k ≤ length s → length (texts u b k s) + (i + k) ≤ many u i k s
  unfolding many texts
  run_short [] i k h = omega arith
  run_short (x ∷ r) i zero h = rw (add-zero i) (at-short x r i (λ n l. run_short r (i + 1) n l) (u (x ∷ r)) refl)
  run_short (x ∷ r) i (suc k) h = omega (arith, run_short r (i + 1) k (omega arith))

  -- a reader that stands for no more than it takes, repeated, stands for no more than it takes
  pub repeated-short : (s : List ℕ) → length (texts u b 0 s) ≤ many u 0 0 s
  repeated-short s = omega (arith, run_short s 0 0 (omega arith))

-- a repetition is at the end of the text, or stands where its reader takes none
pub many-stops : (u : List ℕ → ℕ) (s : List ℕ) → (many u 0 0 s ≡ length s) ⊎ (u (drop (many u 0 0 s) s) ≡ 0)
many-stops u s =
    ⊎_elim (λ h. inr (many-stopped u s 0 h)) (λ h. inl (omega (arith, many-le u s 0 0))) (lt-or-ge (many u 0 0 s) (length s))
