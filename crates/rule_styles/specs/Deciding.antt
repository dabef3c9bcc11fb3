-- Which styles of a rule decide. All styles of a rule come to a slot with one origin and one specificity, so at most two of them matter there: the last normal one
-- and the last important one, in an order that depends on whether an important one stands behind a normal one. A rule is then merged in a bounded number of
-- steps for each of its selectors, however many declarations it has; that nothing else changes is the law `deciding-same`.
use Rattle.std.specs.Prelude.{ℕ, zero, suc, Bool, true, false, ◌≡◌, refl}
use mathlib.Core.List.{List, [], ◌∷◌, ◌++◌, foldl}
use Rattle.combinators.specs.Choice.{pick, or, is}
use Rattle.values.specs.Words.{Found, found, missing, on_found}
use Rattle.cascade.specs.Record.{slot_count, Styled}
use Rattle.styles.specs.Said.{StyledRule}

-- what is known of the styles for one slot so far: the last normal one, the last important one, and whether an important one stands behind a normal one
pub record Sifted (A : Type 0) : Type 0 where
  pub normal : Found (Styled A)
  pub important : Found (Styled A)
  pub behind : Bool

unfoldable pub nothing_sifted : {A : Type 0} → Sifted A
nothing_sifted = record { normal = missing; important = missing; behind = false }

-- one style more; those for other slots do not count
unfoldable pub sift : {A : Type 0} → ℕ → Sifted A → Styled A → Sifted A
sift k s x =
    pick (is x.slot k)
    (pick x.important
    (record { normal = s.normal; important = found x; behind = or s.behind (on_found s.normal (λ _. true) false) })
    (record { normal = found x; important = s.important; behind = s.behind }))
    s

unfoldable pub listed : {A : Type 0} → Found A → List A
listed x = on_found x (λ a. a ∷ []) []

-- those that decide
unfoldable pub sifted_styles : {A : Type 0} → Sifted A → List (Styled A)
sifted_styles s = pick s.behind (listed s.normal ++ listed s.important) (listed s.important ++ listed s.normal)

unfoldable pub deciding_for : {A : Type 0} → ℕ → List (Styled A) → List (Styled A)
deciding_for k xs = sifted_styles (foldl (sift k) nothing_sifted xs)

-- for n slots from k on, and for all slots
unfoldable pub deciding_from : {A : Type 0} → ℕ → ℕ → List (Styled A) → List (Styled A)
deciding_from zero k xs = []
deciding_from (suc n) k xs = deciding_for k xs ++ deciding_from n (suc k) xs

unfoldable pub deciding : {A : Type 0} → List (Styled A) → List (Styled A)
deciding xs = deciding_from slot_count 0 xs

-- a rule with the styles that decide
unfoldable pub deciding_rule : {A : Type 0} → StyledRule A → StyledRule A
deciding_rule r = record { selectors = r.selectors; styles = deciding r.styles }

-- ---- important, normal, normal: the important one and the last normal one; important, normal, important: a normal one, and the last; slots by their numbers
abbrev case : ℕ → Bool → ℕ → Styled ℕ
case k i v = record { slot = k; important = i; value = v }

test-deciding :
    (deciding (case 0 true 1 ∷ case 0 false 2 ∷ case 0 false 3 ∷ []) ≡ case 0 true 1 ∷ case 0 false 3 ∷ [])
    × (deciding (case 0 true 1 ∷ case 0 false 2 ∷ case 0 true 3 ∷ []) ≡ case 0 false 2 ∷ case 0 true 3 ∷ [])
    × (deciding (case 2 false 1 ∷ case 0 false 2 ∷ case 2 false 3 ∷ []) ≡ case 0 false 2 ∷ case 2 false 3 ∷ [])
unfolding deciding deciding_from deciding_for sifted_styles listed sift nothing_sifted on_found pick or is
test-deciding = (refl, refl, refl)
