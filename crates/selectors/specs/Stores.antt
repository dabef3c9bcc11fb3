-- What the readers of components ask of the text store. What an alternative wrote that then fails is wiped, so the store must be zero there.
use Rattle.std.specs.Prelude.{ℕ, ◌+◌, ◌≤◌, List, length}
use Rattle.combinators.specs.Store.{Zeros}

-- zero from the fill on, with room for the text of n bytes and two more
pub record Clean (n fill : ℕ) (store : List ℕ) : Type 0 where
  pub zeros : Zeros store fill
  pub room : fill + n + 2 ≤ length store
