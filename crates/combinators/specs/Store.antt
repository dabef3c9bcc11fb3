-- Lent stores: bytes emitted from a fill on, and zeros from a place on, to the end or so many.
use Rattle.std.specs.Prelude.{ℕ, zero, suc, ◌+◌, List, [], ◌∷◌, ◌≡◌, leb, ltb, length, set, replicate}
use Rattle.std.proofs.lemmas.List.Edits.{sets}
use Rattle.combinators.specs.Choice.{pick}

-- a store and how far it is filled; a fill one above the store's length says that something did not fit
pub record Store (A : Type 0) : Type 0 where
  pub bytes : List A
  pub fill : ℕ

-- one byte more, or one number
unfoldable pub step : {A : Type 0} → Store A → A → Store A
step o x =
    pick (ltb o.fill (length o.bytes))
    (record { bytes = set o.bytes o.fill x; fill = o.fill + 1 })
    (record { bytes = o.bytes; fill = length o.bytes + 1 })

-- bytes one after the other, or numbers
unfoldable pub emits : {A : Type 0} → Store A → List A → Store A
emits o [] = o
emits o (x ∷ xs) = emits (step o x) xs

-- one value from the place n on
unfoldable pub filled_from : {A : Type 0} → A → ℕ → List A → List A
filled_from z n [] = []
filled_from z zero (x ∷ xs) = z ∷ filled_from z zero xs
filled_from z (suc n) (x ∷ xs) = x ∷ filled_from z n xs

-- one value n times from a place on, as far as the store goes
unfoldable pub filled_part : {A : Type 0} → A → ℕ → ℕ → List A → List A
filled_part z from n l = sets l from (replicate n z)

-- zeros from the place n on
abbrev pub cleared : ℕ → List ℕ → List ℕ
cleared n l = filled_from 0 n l

-- n zeros from a place on, as far as the store goes
abbrev pub wiped : ℕ → ℕ → List ℕ → List ℕ
wiped from n l = filled_part 0 from n l

-- zero from a place on: wiping it there changes nothing
pub record Zeros (l : List ℕ) (from : ℕ) : Type 0 where
  pub wiping : (n : ℕ) → wiped from n l ≡ l

-- the greater of two numbers
unfoldable pub most : ℕ → ℕ → ℕ
most a b = pick (leb a b) b a
