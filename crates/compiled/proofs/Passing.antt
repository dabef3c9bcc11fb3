-- A loop that passes over so many values, one behind the other.
use mathlib.Core.Path.{◌≡◌, refl, sym, ap, ◌∙◌}
use mathlib.Core.List.{◌∷◌}
use Prim.Native.Nat.{ℕ, zero, suc, ◌+◌, ◌-◌, ◌≤◌, ◌<◌}
use native.Mathlib.Omega.{arith}
use Rattle.compiled.specs.Decoded.{Decoded, read, fault, mapped, counted}
use Rattle.compiled.specs.Answer.{place_answer}
use Rattle.compiled.specs.declared.places.Fault.{Fault}
use Rattle.std.proofs.Common.{Result, Ok, Err}
use Rattle.compiled.proofs.Answers.{place-mapped, place_read, place-fault}
use Rattle.compiled.proofs.Following.{then-read, then-fault}

module _ {A : Type 0} (u : ℕ → Decoded A) where
  -- what is left to pass over at i is what was to be passed over
  abbrev pub Passing : ℕ → ℕ → ℕ → ℕ → Type 0
  Passing k at left i = place_answer (counted u left i) ≡ place_answer (counted u k at)

  -- passing over one value, and then over the others from behind it, ends where passing over all ends
  one_more : (left i n : ℕ) (a : A) → 0 < left → u i ≡ read n a → place_answer (counted u (left - 1) n) ≡ place_answer (counted u left i)
  unfolding counted
  one_more zero i n a h e = absurd (omega arith)
  one_more (suc k) i n a h e =
      let q : suc k - 1 ≡ k = omega arith in
      rw q (sym (ap place_answer (then-read (u i) _ n a e) ∙ place-mapped _ (counted u k n)))

  -- a fault of the first value is that of all
  one-fault : (left i : ℕ) (f : Fault) → 0 < left → u i ≡ fault f.place → Err f ≡ place_answer (counted u left i)
  unfolding counted place_answer
  one-fault zero i f h e = absurd (omega arith)
  one-fault (suc k) i f h e = ap place_answer (sym (then-fault (u i) (λ n a. mapped (λ r. a ∷ r) (counted u k n)) f.place e))

  -- with none left, passing over them ends here
  all_done : (left i : ℕ) → left ≤ 0 → Ok i ≡ place_answer (counted u left i)
  unfolding counted place_answer
  all_done zero i h = refl
  all_done (suc k) i h = absurd (omega arith)

  module _ (k at done i : ℕ) (c : Passing k at (k - done) i) where
    -- with one value passed over, the others are left from behind it
    pub passing-more : done < k → (r : Result ℕ Fault) → r ≡ place_answer (u i) → (n : ℕ) → r ≡ Ok n → Passing k at (k - (done + 1)) n
    passing-more h r e n p =
        let w = place_read (u i) r e n p in
        let q : k - (done + 1) ≡ k - done - 1 = omega arith in
        rw q (one_more (k - done) i n w.0 (omega arith) w.1 ∙ c)

    -- a fault in the next value is that of all
    pub passing-fault : done < k → (r : Result ℕ Fault) → r ≡ place_answer (u i) → (f : Fault) → r ≡ Err f → Err f ≡ place_answer (counted u k at)
    passing-fault h r e f q = one-fault (k - done) i f (omega arith) (place-fault (u i) r e f q) ∙ c

    -- with none left, passing over all of them ends here
    pub passing-done : k ≤ done → Ok i ≡ place_answer (counted u k at)
    passing-done h = all_done (k - done) i (omega arith) ∙ c
