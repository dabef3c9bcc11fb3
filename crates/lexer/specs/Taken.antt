-- The bytes that a reader takes, as the code answers them: none where it takes no byte.
use Rattle.std.specs.Prelude.{ℕ, Option, Some, None}
use Rattle.combinators.specs.Choice.{pick, is}

unfoldable pub taken_answer : ℕ → Option ℕ
taken_answer n = pick (is n 0) None (Some n)
