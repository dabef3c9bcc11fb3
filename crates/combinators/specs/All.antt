-- Lists of which something holds value by value, and which numbers a list has.
use Rattle.std.specs.Prelude.{ℕ, List, [], ◌∷◌, Bool, false}
use Rattle.combinators.specs.Choice.{or, is}

-- P holds of every value of a list
abbrev pub All : {A : Type 0} → (A → Type 0) → List A → Type 0
All P [] = Unit
All P (a ∷ xs) = P a × All P xs

-- whether v is in a list
unfoldable pub member : ℕ → List ℕ → Bool
member v [] = false
member v (x ∷ xs) = or (is v x) (member v xs)
