-- The loop of `emit_number`: what is left to write at a group is what was to be written.
use mathlib.Core.Path.{◌≡◌, refl, sym, ap, ◌∙◌}
use mathlib.Core.List.{[], ◌∷◌}
use Prim.Native.Nat.{ℕ, zero, suc, ◌+◌, ◌/◌, ◌%◌, ◌≤◌, ◌<◌}
use native.Mathlib.Omega.{arith}
use Rattle.combinators.specs.Store.{Store, emits}
use Rattle.combinators.proofs.Emitted.{onto}
use Rattle.compiled.specs.Number.{group_values, number_limit, group_bytes, number_bytes}
use Rattle.compiled.proofs.NumberBack.{values, group-last, group-more}

-- `groups` + 1 groups hold what is left
pub record Writing (v : ℕ) (o₀ o : Store ℕ) (left : ℕ) : Type 0 where
  pub groups : ℕ
  pub held : left < values groups
  pub work : emits o (group_bytes groups left) ≡ emits o₀ (number_bytes v)

-- before the first group the whole number is left to write
pub writing-begin : (v : ℕ) (o : Store ℕ) → v < number_limit → Writing v o o v
unfolding number_bytes
writing-begin v o h = record { groups = 4; held = omega arith; work = refl }

-- a number of more than one group writes its lowest group, and then the rest with one group less
more-groups : (k left : ℕ) → group_values ≤ left → left < values k
    → (j : ℕ) × (left / group_values < values j) × (group_bytes k left ≡ (left % group_values + group_values) ∷ group_bytes j (left / group_values))
more-groups zero left h b = absurd (omega arith)
more-groups (suc k) left h b = (k, omega arith, group-more k left h)

module _ (v : ℕ) (o₀ o : Store ℕ) (left : ℕ) (c : Writing v o₀ o left) (o₁ : Store ℕ) where
  -- a group that is not the last
  pub writing_more : group_values ≤ left → o₁ ≡ emits o ((left % group_values + group_values) ∷ []) → Writing v o₀ o₁ (left / group_values)
  writing_more h e =
      let m = more-groups c.groups left h c.held in
      record {
        groups = m.0;
        held = m.1;
        work = onto _ _ _ (group_bytes m.0 (left / group_values)) e ∙ sym (ap (emits _) m.2) ∙ c.work;
      }

  -- a number below 128 is its own last group
  pub writing-done : left < group_values → o₁ ≡ emits o (left ∷ []) → o₁ ≡ emits o₀ (number_bytes v)
  writing-done h e = e ∙ sym (ap (emits _) (group-last c.groups left h)) ∙ c.work
