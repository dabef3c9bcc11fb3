-- What a text begins with, by the row of its first byte, and the loop of `is_valid`.
use Rattle.std.proofs.Common.{Option, Some, None}
use mathlib.Core.Path.{◌≡◌, refl, ap, sym, ◌∙◌}
use mathlib.Core.List.{List}
use Prim.Native.Nat.{ℕ, ◌+◌, ◌-◌, ◌<◌, ◌≤◌}
use native.Mathlib.Omega.{arith}
use lib.ListN.{length, get_or, take, drop, length-drop}
use lib.Dec.{eqb}
use borrow.Author.Tests.{ne_eqb}
use mathlib.Core.Bool.{true, false}
use Rattle.std.proofs.lemmas.List.{get_or-drop}
use Rattle.combinators.specs.Choice.{is}
use Rattle.combinators.proofs.Rules.{pick-false, is-yes, is-no, at_most, above}
use Rattle.combinators.proofs.Lists.{rest}
use Rattle.combinators.proofs.Repeating.{Repeating, repeat-more, repeat-stop, repeat-end}
use Rattle.characters.specs.Utf8.{lead_of, scalar_by, scalar_of, taken_of, scalar_taken, valid}
use Rattle.combinators.specs.declared.taken.Taken.{Taken}
use Rattle.characters.specs.declared.utf8.Lead.{Lead}
use Rattle.characters.proofs.Scalars.{scalar-some}

-- ---- what a text begins with, by its first byte a
module _ (s : List ℕ) (some : ¬ (length s ≡ 0)) (a : ℕ) (ea : a ≡ get_or s 0 0) where
  -- a byte of ASCII is read as itself
  pub at_ascii : a ≤ 0x7f → Some (record { taken = 1; value = a }) ≡ scalar_of s
  unfolding scalar_of
  at_ascii h = rw (← ea) (pick-false _ _ _ _ (is-no (length s) 0 some) (at_most _ _ _ a 0x7f h refl))

  -- any other byte reads by its row
  pub by_row : 0x7f < a → (l : Option Lead) → l ≡ lead_of a → scalar_of s ≡ scalar_by l s
  unfolding scalar_of
  by_row h l e = sym (rw (← ea, ← e) (pick-false _ _ _ _ (is-no (length s) 0 some) (above _ _ _ a 0x7f h refl)))

  -- where it starts no sequence, nothing is read
  pub at_none : 0x7f < a → None ≡ lead_of a → None ≡ scalar_of s
  unfolding scalar_by
  at_none h e = sym (by_row h None e)

-- what begins with a scalar value of one byte takes one
ascii-taken : (s : List ℕ) (a : ℕ) → Some (record { taken = 1; value = a }) ≡ scalar_of s → scalar_taken s ≡ 1
unfolding scalar_taken taken_of
ascii-taken s a e = rw (← e) refl

-- ---- `is_valid`: a turn of the loop at i, and its end
module _ (s : List ℕ) (i : ℕ) (c : Repeating scalar_taken s i) where
  module _ (r : Option (Taken ℕ)) (e : r ≡ scalar_of (take (length s - i) (drop i s))) where
    -- what the call on the rest of the text says of the text at i
    here : scalar_of (drop i s) ≡ r
    here = ap scalar_of (sym (rest s i)) ∙ sym e

    module _ (n v : ℕ) (h : r ≡ Some (record { taken = n; value = v })) where
      -- a scalar value was read
      pub checking-step : (1 ≤ n) × (i + n ≤ length s)
      checking-step = let p = scalar-some (drop i s) n v (here ∙ h) in (p.0, omega (arith, p.1, length-drop i s, c.within_text))

      -- the bytes that it takes
      taken : scalar_taken (drop i s) ≡ n
      unfolding scalar_taken taken_of
      taken = rw (here, h)

      -- and the loop goes on behind it
      pub checking-more : Repeating scalar_taken s (i + n)
      checking-more = repeat-more scalar_taken s i c n taken checking-step.1 (λ z. omega (arith, checking-step.0))

    -- where there is none, it takes no byte
    none : r ≡ None → scalar_taken (drop i s) ≡ 0
    unfolding scalar_taken taken_of
    none h = rw (here, h)

    -- where no well-formed sequence stands, the text is well formed if it ends there
    pub checking-stop : r ≡ None → eqb i (length s) ≡ valid s
    unfolding valid is
    checking-stop h = ap (λ n. eqb n (length s)) (repeat-stop scalar_taken s i c (none h))

    -- where no well-formed sequence stands before the end, the text is not well formed
    pub checking-fault : i < length s → r ≡ None → false ≡ valid s
    checking-fault l h = sym (ne_eqb i (length s) (λ z. omega (arith, l, z))) ∙ checking-stop h

  -- a byte of ASCII is a scalar value, and the loop goes on behind it
  pub checking-ascii : i < length s → (a : ℕ) → a ≡ get_or s i 0 → a ≤ 0x7f → Repeating scalar_taken s (i + 1)
  checking-ascii h a ea l =
      let there : ¬ (length (drop i s) ≡ 0) = λ z. omega (arith, z, length-drop i s, h) in
      let first : a ≡ get_or (drop i s) 0 0 = ea ∙ ap (λ (n : ℕ). get_or s n 0) (omega arith) ∙ sym (get_or-drop i s 0 0) in
      repeat-more scalar_taken s i c 1 (ascii-taken (drop i s) a (at_ascii (drop i s) there a first l)) (omega (arith, h)) (λ z. omega arith)

  -- where the end is reached without a fault, the text is well formed
  pub checking-done : length s ≤ i → true ≡ valid s
  unfolding valid
  checking-done h = sym (is-yes _ _ (sym (repeat-end scalar_taken s i c h) ∙ omega (arith, c.within_text)))
