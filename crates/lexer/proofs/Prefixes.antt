-- As many bytes as pass a test from the start of a text on, as `take_while` counts them.
use Rattle.std.specs.List.{prefix_len}
use Rattle.std.proofs.Common.{cond}
use mathlib.Core.Path.{◌≡◌, refl, ap, sym, ◌∙◌}
use mathlib.Core.List.{List, [], ◌∷◌}
use mathlib.Core.Bool.{Bool, true, false}
use Prim.Native.Nat.{ℕ, zero, suc, ◌+◌}
use native.Mathlib.Omega.{arith}
use lib.ListN.{take}
use Rattle.combinators.specs.Choice.{pick, or, and, within}
use Rattle.combinators.specs.Repeat.{many, took}
use Rattle.combinators.proofs.Repeats.{many-from}
use Rattle.lexer.specs.Name.{is_hex_digit, hex_run}
use Rattle.lexer.specs.Number.{is_digit, one_digit, digits}

module _ (p : ℕ → Bool) (u : List ℕ → ℕ) (h : (x : ℕ) (r : List ℕ) → u (x ∷ r) ≡ pick (p x) 1 0) where
  -- one byte that passes and those behind it, or none
  one-more : (b : Bool) (n : ℕ) (r : List ℕ) → n ≡ many u 0 0 r → cond b (1 + n) 0 ≡ took (pick b 1 0) 0 (λ k. many u 1 k r)
  unfolding took pick
  one-more true n r e = ap (λ k. 1 + k) e ∙ sym (many-from 1 u r 0 0)
  one-more false n r e = refl

  -- a reader that takes one byte where it passes the test, repeated
  prefix-many : (s : List ℕ) → prefix_len p s ≡ many u 0 0 s
  unfolding many
  prefix-many [] = refl
  prefix-many (x ∷ r) = rw (h x r) (one-more (p x) _ r (prefix-many r))

-- digits are such a reader's
pub digits-prefix : (s : List ℕ) → prefix_len is_digit s ≡ digits s
unfolding digits one_digit
digits-prefix s = prefix-many is_digit one_digit (λ x r. refl) s

-- one hex digit and those behind it, or none
hex-more : (b : Bool) (i n m : ℕ) → (i + 1) + n ≡ m → i + cond b (1 + n) 0 ≡ pick b m i
unfolding pick
hex-more true i n m e = omega (arith, e)
hex-more false i n m e = omega arith

-- at the end of a text there is none
hex-empty : (k i : ℕ) → i + 0 ≡ hex_run i (suc k) []
unfolding hex_run is_hex_digit or within and pick
hex-empty k i = omega arith

-- the run of at most k hex digits, counted on from i
pub hex-prefix : (k i : ℕ) (s : List ℕ) → i + prefix_len is_hex_digit (take k s) ≡ hex_run i k s
unfolding hex_run
hex-prefix zero i s = omega arith
hex-prefix (suc k) i [] = hex-empty k i
hex-prefix (suc k) i (x ∷ r) = hex-more (is_hex_digit x) i _ _ (hex-prefix k (i + 1) r)
