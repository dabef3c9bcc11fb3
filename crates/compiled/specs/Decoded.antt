-- What reading the bytes of a compiled sheet comes to: the place behind what was read and its value, or the place of the fault. All places
-- count from the first byte of the sheet.
use Rattle.std.specs.Prelude.{ℕ, zero, suc, List, [], ◌∷◌}

pub data Decoded (A : Type 0) : Type 0 where
  read : ℕ → A → Decoded A
  fault : ℕ → Decoded A

-- by cases
unfoldable pub on_decoded : {A B : Type 0} → Decoded A → (ℕ → A → B) → (ℕ → B) → B
on_decoded (read n a) f g = f n a
on_decoded (fault p) f g = g p

-- what is read behind it, where it is read; the first fault is the fault
unfoldable pub and_then : {A B : Type 0} → Decoded A → (ℕ → A → Decoded B) → Decoded B
and_then (read n a) f = f n a
and_then (fault p) f = fault p

-- as f of what was read
unfoldable pub mapped : {A B : Type 0} → (A → B) → Decoded A → Decoded B
mapped f (read n a) = read n (f a)
mapped f (fault p) = fault p

-- k values from the place i on, one behind the other (nom's `count`)
unfoldable pub counted : {A : Type 0} → (ℕ → Decoded A) → ℕ → ℕ → Decoded (List A)
counted u zero i = read i []
counted u (suc k) i = and_then (u i) (λ n a. mapped (λ r. a ∷ r) (counted u k n))
