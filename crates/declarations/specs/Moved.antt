-- What `move_down` asks: the bytes lie in the store, and go no further up.
use Rattle.std.specs.Prelude.{ℕ, ◌+◌, ◌≤◌, List, length}

-- n bytes from a place on, that go down to another
pub record Downward (store : List ℕ) (from to n : ℕ) : Type 0 where
  pub down : to ≤ from
  pub inside : from + n ≤ length store
