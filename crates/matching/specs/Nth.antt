-- nth-child(an+b): "idx counts element children up to this one (..): a = 0 needs idx = b, else idx - b must be a multiple of a with quotient 0 or more."
use Rattle.std.specs.Prelude.{ℕ, ◌≤◌, ◌^◌, Bool, true, false, ◌≡◌, refl, ℤ, pos, negsuc, nat_abs, ◌+ℤ◌, ◌-ℤ◌, ◌*ℤ◌}
use Rattle.std.specs.Int.Signed.{le_z, quot_z, rem_z}
use Rattle.combinators.specs.Choice.{pick, is}

unfoldable pub is_zero : ℤ → Bool
is_zero z = is (nat_abs z) 0

-- "The sums are exact; where the crate's 32 bits overflow, that is a difference": integers have no bounds
unfoldable pub nth_matches : ℤ → ℤ → ℕ → Bool
nth_matches a b idx =
    let offset = pos idx -ℤ b in
    pick (is_zero a) (is_zero offset) (pick (is_zero (rem_z offset a)) (le_z (pos 0) (quot_z offset a)) false)

-- what is asked, so that 64 bits hold all sums: a and b are numbers of 32 bits, as in the crate, and a page has fewer nodes
pub record Small (a b : ℤ) (idx : ℕ) : Type 0 where
  pub a_small : nat_abs a ≤ 2 ^ 31
  pub b-small : nat_abs b ≤ 2 ^ 31
  pub idx-small : idx ≤ 2 ^ 62

-- the same in the words of Selectors Level 3: idx is a·n + b for some n of 0 or more
abbrev pub NthChild : ℤ → ℤ → ℕ → Type 0
NthChild a b idx = (n : ℕ) × (pos idx ≡ a *ℤ pos n +ℤ b)

-- `-n+3` matches 1, 2 and 3 and not 4; `2n+1` matches 3 and not 2; `2` matches 2 alone
test-nth : (nth_matches (negsuc 0) (pos 3) 1 ≡ true) × (nth_matches (negsuc 0) (pos 3) 2 ≡ true) × (nth_matches (negsuc 0) (pos 3) 3 ≡ true)
    × (nth_matches (negsuc 0) (pos 3) 4 ≡ false) × (nth_matches (pos 2) (pos 1) 3 ≡ true) × (nth_matches (pos 2) (pos 1) 2 ≡ false)
    × (nth_matches (pos 0) (pos 2) 2 ≡ true) × (nth_matches (pos 0) (pos 2) 4 ≡ false)
unfolding nth_matches is_zero pick is
test-nth = (refl, refl, refl, refl, refl, refl, refl, refl)
