-- Texts that lie within another, at a place.
use mathlib.Core.Path.{◌≡◌, refl, ap, ◌∙◌}
use mathlib.Core.List.{List, ◌++◌, append_assoc}
use Prim.Native.Nat.{ℕ, ◌+◌, ◌≤◌}
use native.Mathlib.Omega.{arith}
use lib.ListN.{length, length-append}
use lib.Seq.{drop-append-le}
use Rattle.syntax.proofs.Streams.{Held, held-left, held-right}

-- t has xs from f on, and does not end before them
pub record Lies (t : List ℕ) (f : ℕ) (xs : List ℕ) : Type 0 where
  pub within : f + length xs ≤ length t
  pub there : Held t f xs

-- what lies there does so in its parts
module _ (t : List ℕ) (f : ℕ) (xs ys : List ℕ) (h : Lies t f (xs ++ ys)) where
  -- where two texts lie one behind the other, the first lies there
  pub lies-left : Lies t f xs
  lies-left = record { within = omega (arith, h.within, length-append xs ys); there = held-left t f xs ys h.there }

  -- and the one behind it
  pub lies-right : Lies t (f + length xs) ys
  lies-right = record { within = omega (arith, h.within, length-append xs ys); there = held-right t f xs ys h.there }

-- the same place by another number
pub lies_at : (t : List ℕ) (f g : ℕ) (xs : List ℕ) → f ≡ g → Lies t f xs → Lies t g xs
lies_at t f g xs e h = rw (← e) h

-- a text lies at the start of itself and whatever stands behind it
pub lies-first : (xs more : List ℕ) → Lies (xs ++ more) 0 xs
lies-first xs more = record { within = omega (arith, length-append xs more); there = record { more = more; held = refl } }

-- what lies in a text lies there too where more follows it
pub lies_more : (t more : List ℕ) (f : ℕ) (xs : List ℕ) → Lies t f xs → Lies (t ++ more) f xs
lies_more t more f xs h =
    record {
      within = omega (arith, h.within, length-append t more);
      there = record {
        more = h.there.more ++ more;
        held = drop-append-le f t more (omega (arith, h.within)) ∙ ap (λ (l : List ℕ). l ++ more) h.there.held ∙ append_assoc xs h.there.more more;
      };
    }
