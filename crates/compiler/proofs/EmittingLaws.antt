-- A loop that reads values one behind the other and writes the bytes of each, until the store is full.
use Rattle.combinators.specs.Choice.{is}
use mathlib.Core.Path.{◌≡◌, refl, sym, ap, ◌∙◌}
use mathlib.Core.Bool.{Bool, true}
use mathlib.Core.List.{List, [], ◌++◌}
use mathlib.Core.Logic.{⊎_elim}
use borrow.Author.Tests.{le-ltb, eq-eqb, ne_eqb}
use lib.Dec.{eqb, ltb}
use Prim.Native.Nat.{ℕ, zero, suc, ◌+◌, ◌-◌, ◌≤◌, ◌<◌}
use native.Mathlib.Omega.{arith}
use lib.ListN.{length, drop}
use Rattle.combinators.specs.Store.{Store, emits}
use Rattle.combinators.proofs.Emitted.{emits_none, onto, full}
use Rattle.combinators.proofs.Rules.{is-no, is_true, same-or-other}
use Rattle.syntax.specs.Stream.{Read, read_many, texts_many}
use Rattle.compiler.specs.Writing.{past}

-- ---- bytes passed the end of a store
module _ (n f : ℕ) where
  -- a fill within the room is not past it
  pub before-end : f ≤ n → ltb n f ≡ past n f
  unfolding past
  before-end h = le-ltb n f h ∙ sym (is-no f (n + 1) (λ (e : f ≡ n + 1). omega (arith, h, e)))

  -- a fill past the room tells that bytes passed its end exactly if it is one past
  pub beyond-end : n < f → eqb (f - n) 1 ≡ past n f
  unfolding past is
  beyond-end h =
      ⊎_elim (λ (e : f - n ≡ 1). eq-eqb _ _ e ∙ sym (eq-eqb f (n + 1) (omega arith))) (λ (e : ¬ (f - n ≡ 1)). ne_eqb _ _ e ∙ sym (ne_eqb f (n + 1) (λ k. e (omega arith)))) (same-or-other (f - n) 1)

  -- where the test says that bytes passed the end, the fill is one past the room
  pub past-known : {r : Bool} → r ≡ past n f → r ≡ true → f ≡ n + 1
  unfolding past
  past-known e t = is_true f (n + 1) (sym e ∙ t)

-- ---- a loop

module _ {A : Type 0} (u : List ℕ → Read A) (w : A → List ℕ) (rows : List ℕ) (count at : ℕ) (o₀ : Store ℕ) where
  -- what is left to write of n values from a place on is what was to be written
  pub record Emitting (n place : ℕ) (o : Store ℕ) : Type 0 where
    pub left : emits o (texts_many w (read_many u n (drop place rows)).value) ≡ emits o₀ (texts_many w (read_many u count (drop at rows)).value)

  -- the bytes of n values are those of the first and of the n - 1 behind it
  one_less : (n place next : ℕ) → 0 < n → drop next rows ≡ (u (drop place rows)).rest
      → texts_many w (read_many u n (drop place rows)).value ≡ w (u (drop place rows)).value ++ texts_many w (read_many u (n - 1) (drop next rows)).value
  unfolding read_many texts_many
  one_less zero place next h e = absurd (omega arith)
  one_less (suc k) place next h e = let q : suc k - 1 ≡ k = omega arith in rw (q, e)

  -- no values have no bytes
  none_left : (n : ℕ) (t : List ℕ) → n ≤ 0 → texts_many w (read_many u n t).value ≡ []
  unfolding read_many texts_many
  none_left zero t h = refl
  none_left (suc k) t h = absurd (omega arith)

  module _ (n place : ℕ) (o : Store ℕ) (c : Emitting n place o) where
    -- a turn: one value is read and its bytes are written
    pub emitting-more : 0 < n → (o₁ : Store ℕ) → o₁ ≡ emits o (w (u (drop place rows)).value) → (next : ℕ) → drop next rows ≡ (u (drop place rows)).rest
        → Emitting (n - 1) next o₁
    emitting-more h o₁ e next d = record { left = onto _ _ _ _ e ∙ sym (ap (emits o) (one_less n place next h d)) ∙ c.left }

    -- with none left the bytes of all values are written
    pub emitting-done : n ≤ 0 → o ≡ emits o₀ (texts_many w (read_many u count (drop at rows)).value)
    emitting-done h = sym (ap (emits o) (none_left n (drop place rows) h) ∙ emits_none _) ∙ c.left

    -- with the store full, what is left to write changes nothing more
    pub emitting-past : o.fill ≡ length o.bytes + 1 → o ≡ emits o₀ (texts_many w (read_many u count (drop at rows)).value)
    emitting-past h =
        let xs : List ℕ = texts_many w (read_many u n (drop place rows)).value in
        let f : o ≡ record { bytes = o.bytes; fill = length o.bytes + 1 } = ap (λ (k : ℕ). record { bytes = o.bytes; fill = k }) h in
        f ∙ sym (full o.bytes xs) ∙ sym (ap (λ (x : Store ℕ). emits x xs) f) ∙ c.left

  -- a turn, by how many values were read before
  pub emitting-next : (i place : ℕ) (o : Store ℕ) → Emitting (count - i) place o → i < count → (o₁ : Store ℕ)
      → o₁ ≡ emits o (w (u (drop place rows)).value) → (next : ℕ) → drop next rows ≡ (u (drop place rows)).rest → Emitting (count - (i + 1)) next o₁
  emitting-next i place o c h o₁ e next d =
      let q : count - (i + 1) ≡ count - i - 1 = omega arith in
      rw q (emitting-more (count - i) place o c (omega arith) o₁ e next d)
