-- A loop that repeats a reader u over a text and counts what it took.
use mathlib.Core.Path.{◌≡◌, ap, sym, ◌∙◌}
use mathlib.Core.List.{List}
use Prim.Native.Nat.{ℕ, ◌+◌, ◌-◌, ◌≤◌}
use native.Mathlib.Omega.{arith}
use lib.ListN.{length, take, drop, length-drop}
use Rattle.combinators.specs.Repeat.{many}
use Rattle.combinators.proofs.Lists.{rest}
use Rattle.combinators.proofs.Repeats.{many_more, many-stop, many-end}

-- at i: what is left to count, with what was counted, is the whole
pub record Repeating (u : List ℕ → ℕ) (s : List ℕ) (i : ℕ) : Type 0 where
  pub within_text : i ≤ length s
  pub left : many u i 0 (drop i s) ≡ many u 0 0 s

-- what u took of the part of the text that it was lent, it takes of the rest of the text
pub lent : (u : List ℕ → ℕ) (s : List ℕ) (i n : ℕ) → n ≡ u (take (length s - i) (drop i s)) → u (drop i s) ≡ n
lent u s i n e = ap u (sym (rest s i)) ∙ sym e

-- a reader that stays within its text stays within the text that it was lent a part of
pub lent-le : (u : List ℕ → ℕ) → ((l : List ℕ) → u l ≤ length l) → (s : List ℕ) (i n : ℕ) → i ≤ length s
    → n ≡ u (take (length s - i) (drop i s)) → i + n ≤ length s
lent-le u le s i n h e = let p = lent u s i n e in omega (arith, le (drop i s), length-drop i s)

module _ (u : List ℕ → ℕ) (s : List ℕ) (i : ℕ) (c : Repeating u s i) where
  -- where u takes n bytes, not 0, the repetition goes on behind them
  pub repeat-more : (n : ℕ) → u (drop i s) ≡ n → i + n ≤ length s → ¬ (n ≡ 0) → Repeating u s (i + n)
  repeat-more n e h d =
      record { within_text = h; left = sym (many_more u s i n (omega (arith, length-drop i s)) e d) ∙ c.left }

  -- where the reader takes nothing, the repetition stops: what was counted is all that it takes
  pub repeat-stop : u (drop i s) ≡ 0 → i ≡ many u 0 0 s
  repeat-stop e = sym (many-stop u (drop i s) i e) ∙ c.left

  -- the text is at its end
  pub repeat-end : length s ≤ i → i ≡ many u 0 0 s
  repeat-end h = sym (many-end u s i i h) ∙ c.left
