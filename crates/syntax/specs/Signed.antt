-- Numbers with a sign as numbers without one, as in the compiled sheet: v as 2v, negative as -2v-1.
use Rattle.std.specs.Prelude.{ℕ, ◌+◌, ◌*◌, ◌/◌, ◌%◌, ℤ, pos, negsuc}
use Rattle.combinators.specs.Choice.{pick, is}

unfoldable pub signed_number : ℤ → ℕ
signed_number (pos n) = 2 * n
signed_number (negsuc n) = 2 * n + 1

unfoldable pub signed_of : ℕ → ℤ
signed_of n = pick (is (n % 2) 0) (pos (n / 2)) (negsuc (n / 2))
