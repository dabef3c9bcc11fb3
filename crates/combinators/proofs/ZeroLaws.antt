-- Stores that are zero from a place on.
use mathlib.Core.Path.{◌≡◌, refl, ap, sym, ◌∙◌}
use mathlib.Core.List.{List}
use Prim.Native.Nat.{ℕ, ◌+◌, ◌≤◌}
use native.Mathlib.Omega.{arith}
use lib.ListN.{length, replicate}
use lib.Seq.{sets}
use Rattle.combinators.specs.Store.{wiped, cleared, Zeros}
use Rattle.combinators.proofs.Cleared.{cleared-throughout}
use Rattle.combinators.proofs.Wiped.{wiped-add, wiped-apart, wiped-over, wiped-zero}

module _ (l : List ℕ) (f : ℕ) (z : Zeros l f) where
  -- from a later place on they are zero too
  pub zeros-later : (k : ℕ) → Zeros l (f + k)
  zeros-later k = record { wiping = λ n. ap (wiped (f + k) n) (sym (z.wiping k)) ∙ sym (wiped-add f k n l) ∙ z.wiping (k + n) }

  -- behind what was stored there
  pub zeros-behind : (xs : List ℕ) → Zeros (sets l f xs) (f + length xs)
  zeros-behind xs =
      record {
        wiping = λ n. wiped-apart l f (f + length xs) n xs (omega arith) ∙ ap (λ (r : List ℕ). sets r f xs) ((zeros-later (length xs)).wiping n);
      }

  -- what was stored there is taken back by wiping it
  pub zeros-back : (xs : List ℕ) (n : ℕ) → length xs ≤ n → wiped f n (sets l f xs) ≡ l
  zeros-back xs n h = wiped-over l f n xs h ∙ z.wiping n

  -- behind bytes that were stored from the fill on, the store is zero still
  pub zeros-after : (xs : List ℕ) (m : ℕ) → m ≡ length xs → (z' : List ℕ) → z' ≡ sets l f xs → Zeros z' (f + m)
  zeros-after xs m em z' ez = rw (em, ez) (zeros-behind xs)

-- a store that is zero throughout
pub zeros-all : (m f : ℕ) → Zeros (replicate m 0) f
zeros-all m f = record { wiping = λ n. wiped-zero n f m }

-- a store that was cleared is zero from its start on
pub clear-zeros : (l : List ℕ) → Zeros (cleared 0 l) 0
clear-zeros l = rw (cleared-throughout l l (cleared 0 l) refl refl) (zeros-all (length l) 0)
