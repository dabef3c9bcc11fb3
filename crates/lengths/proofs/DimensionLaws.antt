-- Returns of `with_unit`, `dimension_length` and `number_length`: what the code's number, digits up to the most, says of the number itself.
use Prim.Native.Nat.{ℕ, zero, suc, ◌+◌, ◌-◌, ◌*◌, ◌^◌, ◌<◌, ◌≤◌}
use mathlib.Core.Path.{◌≡◌, refl, sym, ap, ◌∙◌}
use mathlib.Core.Bool.{Bool, true, false}
use mathlib.Core.Logic.{◌⊎◌, ⊎_elim}
use mathlib.Core.List.{List, [], ◌∷◌}
use native.Mathlib.Nat.{mul-le-mul_left, mul-le-mul_right, le_of_mul-le-mul_right}
use native.Mathlib.Omega.{arith}
use borrow.Author.Tests.{lt-ltb, le-ltb}
use lib.Dec.{ltb, eqb}
use lib.ListN.{get_or}
use Rattle.combinators.specs.Choice.{pick, or, and}
use Rattle.combinators.proofs.Rules.{lt-or-ge, pick_true, pick-false, or_left, or_right, or-none, and_both, and_left, and_right, is-yes, is-no}
use Rattle.values.specs.Words.{Found, found, missing, on_found, lookup}
use Rattle.values.proofs.ColourLaws.{product-fits}
use Rattle.values.proofs.WordLaws.{mapped, lookup-mapped, on-found-as}
use Rattle.std.proofs.lemmas.Option.{same_Some, none-some}
use Rattle.lengths.specs.Length.{measured, ten, most_decimals, most_number, digits_number, decimals, is_negative, is_too_fine, is_above, is_below, is_bad, ten_thousandths, with_unit, dimension_length, number_length}
use Rattle.lengths.specs.Numeral.{most_digits, capped, numeral_of}
use Rattle.lengths.specs.Unit.{LengthUnit, units}
use Rattle.lengths.specs.declared.numerals.Numeral.{Numeral}
use Rattle.std.specs.Prelude.{Option, Some, None, Result, Ok, Err}
use Rattle.std.specs.Bool.{then_some}
use Rattle.std.proofs.lemmas.Bool.{eqb-true, eqb-false}
use Rattle.lengths.specs.declared.answers.Kind.{Kind}
use Rattle.lengths.specs.declared.answers.Kind.TheVariants.{Units}
use Rattle.lengths.specs.declared.answers.Length.{Length}
use Rattle.lengths.specs.declared.answers.LengthError.{LengthError}
use Rattle.lengths.specs.declared.answers.LengthError.TheVariants.{BadLength}
use Rattle.lengths.proofs.NumeralLaws.{capped-within, capped-over, capped_le}

-- ---- the table of scales
abbrev pub scales : List ℕ
scales = 10000 ∷ 1000 ∷ 100 ∷ 10 ∷ 1 ∷ []

-- what the scale s is for d decimals: it makes ten-thousandths of the number, and the most of 10,000
pub record Scale (d s : ℕ) : Type 0 where
  pub makes : s ≡ ten ^ (most_decimals - d)
  pub whole : most_number * ten ^ d * s ≡ most_digits
  pub some : 1 ≤ s
  pub small : s ≤ most_number

-- each entry of the table is one
pub scale_at : (d : ℕ) → d < 5 → Scale d (get_or scales d 0)
scale_at zero h = record { makes = refl; whole = refl; some = omega arith; small = omega arith }
scale_at (suc zero) h = record { makes = refl; whole = refl; some = omega arith; small = omega arith }
scale_at (suc (suc zero)) h = record { makes = refl; whole = refl; some = omega arith; small = omega arith }
scale_at (suc (suc (suc zero))) h = record { makes = refl; whole = refl; some = omega arith; small = omega arith }
scale_at (suc (suc (suc (suc zero)))) h = record { makes = refl; whole = refl; some = omega arith; small = omega arith }
scale_at (suc (suc (suc (suc (suc d))))) h = absurd (omega arith)

-- ---- the number v, up to the most, times the scale s, where l times s is the most
module _ (v l s : ℕ) (e : l * s ≡ most_digits) (h : 1 ≤ s) where
  -- above the most: the number is above l
  scaled-above : most_digits < capped v * s → l < v
  scaled-above m =
      ⊎_elim (λ (k : l < v). k)
      (λ (k : v ≤ l).
      let p : l * 1 ≤ l * s = mul-le-mul_left l h in
      let q : v * s ≤ l * s = mul-le-mul_right s k in
      let w : capped v ≡ v = capped-within v (omega arith) in
      absurd (let r : capped v * s ≡ v * s = ap (λ (x : ℕ). x * s) w in omega arith))
      (lt-or-ge l v)

  -- not above it: neither is the number, and the code's is the number itself
  scaled-within : capped v * s ≤ most_digits → (v ≤ l) × (capped v ≡ v)
  scaled-within m =
      ⊎_elim
      (λ (k : most_digits < v).
      let p : (most_digits + 1) * 1 ≤ (most_digits + 1) * s = mul-le-mul_left (most_digits + 1) h in
      let r : capped v * s ≡ (most_digits + 1) * s = ap (λ (x : ℕ). x * s) (capped-over v k) in
      absurd (omega arith))
      (λ (k : v ≤ most_digits).
      let w : capped v ≡ v = capped-within v k in
      let r : capped v * s ≡ v * s = ap (λ (x : ℕ). x * s) w in
      let q : v * s ≤ l * s = omega arith in
      (le_of_mul-le-mul_right q (omega arith), w))
      (lt-or-ge most_digits v)

-- ---- refusal 12, or the number's ten-thousandths: negative b, with d decimals and the digits v
module _ {A : Type 0} (b : Bool) (d v : ℕ) (bad : A) (good : ℕ → A) where
  abbrev judged : A
  judged =
      pick (or (ltb most_decimals d) (or (ltb (most_number * ten ^ d) v) (and b (ltb 0 v)))) bad (good (v * ten ^ (most_decimals - d)))

  -- a number of more than four decimals is refused
  fine-bad : most_decimals < d → bad ≡ judged
  fine-bad h = pick_true _ _ _ _ (or_left _ _ (lt-ltb most_decimals d h)) refl

  module _ (h : d < 5) (s : ℕ) (e : s ≡ get_or scales d 0) where
    -- the scale that was looked up is that of d decimals
    scale : Scale d s
    scale = rw e (scale_at d h)

    -- four decimals or fewer are not too many
    few : ltb most_decimals d ≡ false
    few = le-ltb most_decimals d (omega arith)

    -- a number above 10,000 is refused
    above-bad : most_digits < capped v * s → bad ≡ judged
    above-bad m =
        pick_true _ _ _ _ (or_right _ _ few (or_left _ _ (lt-ltb _ v (scaled-above v (most_number * ten ^ d) s scale.whole scale.some m)))) refl

    module _ (m : capped v * s ≤ most_digits) where
      -- the number is at most 10,000, and the code's digits are the number's
      within : (v ≤ most_number * ten ^ d) × (capped v ≡ v)
      within = scaled-within v (most_number * ten ^ d) s scale.whole scale.some m

      -- the number is not above 10,000
      not-above : ltb (most_number * ten ^ d) v ≡ false
      not-above = le-ltb (most_number * ten ^ d) v within.0

      -- the digits, capped and scaled by their decimals, are the number's ten-thousandths
      amount : capped v * s ≡ v * ten ^ (most_decimals - d)
      amount = ap (λ (x : ℕ). x * s) within.1 ∙ ap (λ (x : ℕ). v * x) scale.makes

      -- a number with a '-' that is not zero is below zero, and refused
      below-bad : b ≡ true → 0 < capped v * s → bad ≡ judged
      below-bad n p =
          pick_true _ _ _ _ (or_right _ _ few (or_right _ _ not-above (and_both _ _ n (lt-ltb 0 v (some v within.1))))) refl
        where
          some : (x : ℕ) → capped v ≡ x → 0 < x
          some zero z = absurd (let q : capped v * s ≡ 0 * s = ap (λ (y : ℕ). y * s) z in omega arith)
          some (suc x) z = omega arith

      -- a number that is not below zero is worth its ten-thousandths
      not-below : and b (ltb 0 v) ≡ false → good (capped v * s) ≡ judged
      not-below n = pick-false _ _ _ _ (or-none _ _ few (or-none _ _ not-above n)) (ap good amount)

      -- a number without a '-' is worth its ten-thousandths
      positive-good : b ≡ false → good (capped v * s) ≡ judged
      positive-good n = not-below (and_left _ _ n)

      -- a zero is worth its ten-thousandths, with a '-' or without
      zero-good : capped v * s ≤ 0 → good (capped v * s) ≡ judged
      zero-good z =
          let q : capped v * 1 ≤ capped v * s = mul-le-mul_left (capped v) scale.some in
          let w : v ≤ 0 = omega (arith, within.1) in
          not-below (and_right _ _ (le-ltb 0 v w))

-- the digits that the code has are the number's, up to the most
digits_are : (n : List ℕ) (x : Numeral) → x ≡ numeral_of n → x.digits ≡ capped (digits_number n)
unfolding numeral_of
digits_are n x e = ap (λ (y : Numeral). y.digits) e

-- ---- `with_unit`: a number in ten-thousandths, times the factor of its unit
module _ (place : ℕ) (kind : Kind) (factor : ℕ) (n : List ℕ) (x : Numeral) (e : x ≡ numeral_of n) where
  -- the decimals that the code counted are the number's
  decimals-are : x.decimals ≡ decimals n
  unfolding numeral_of
  decimals-are = ap (λ (y : Numeral). y.decimals) e

  -- the sign that the code found is the number's
  negative-is : x.negative ≡ is_negative n
  unfolding numeral_of
  negative-is = ap (λ (y : Numeral). y.negative) e

  abbrev whole : (Result (Option Length) LengthError)
  whole = with_unit place n kind factor

  abbrev length-of : ℕ → (Result (Option Length) LengthError)
  length-of m = measured kind (m * factor)

  -- the return where the number has more than four decimals: refusal 12
  pub too_fine : 5 ≤ x.decimals → Err (BadLength place) ≡ whole
  unfolding with_unit is_bad is_too_fine is_above is_below ten_thousandths
  too_fine h = fine-bad (is_negative n) (decimals n) (digits_number n) (Err (BadLength place)) length-of (omega (arith, decimals-are))

  module _ (h : x.decimals < 5) (s : ℕ) (es : s ≡ get_or scales x.decimals 0) where
    -- the number has four decimals or fewer
    few-decimals : decimals n < 5
    few-decimals = omega (arith, decimals-are)

    -- the scale that was looked up is that of the number's decimals
    scale-is : s ≡ get_or scales (decimals n) 0
    scale-is = es ∙ ap (λ (d : ℕ). get_or scales d 0) decimals-are

    -- the product that the code made is that of the number's digits, up to the most, and the scale
    amount-is : x.digits * s ≡ capped (digits_number n) * s
    amount-is = ap (λ (v : ℕ). v * s) (digits_are n x e)

    -- the product is no more than this
    pub amount-fits : x.digits * s ≤ 1000100000000
    amount-fits =
        let p = capped_le (digits_number n) in
        let k : Scale (decimals n) s = rw scale-is (scale_at (decimals n) few-decimals) in
        let q : x.digits * s ≤ (most_digits + 1) * s = mul-le-mul_right s (omega (arith, digits_are n x e)) in
        omega (arith, k.small)

    -- the return where the number is above 10,000: refusal 12
    pub too_much : most_digits < x.digits * s → Err (BadLength place) ≡ whole
    unfolding with_unit is_bad is_too_fine is_above is_below ten_thousandths
    too_much m = above-bad (is_negative n) (decimals n) (digits_number n) (Err (BadLength place)) length-of few-decimals s scale-is (omega (arith, amount-is))

    module _ (m : x.digits * s ≤ most_digits) where
      -- the number's digits, scaled, are not above the most
      lower : capped (digits_number n) * s ≤ most_digits
      lower = omega (arith, amount-is)

      -- the return where the number is below zero: refusal 12
      pub below-zero : x.negative ≡ true → 0 < x.digits * s → Err (BadLength place) ≡ whole
      unfolding with_unit is_bad is_too_fine is_above is_below ten_thousandths
      below-zero b p =
          below-bad (is_negative n) (decimals n) (digits_number n) (Err (BadLength place)) length-of few-decimals s scale-is lower (sym negative-is ∙ b) (omega (arith, amount-is))

      -- the return where the number is not below zero, or zero with a '-': its ten-thousandths times the unit's factor
      pub a-length : (x.negative ≡ true × x.digits * s ≤ 0) ⊎ (x.negative ≡ false) → measured kind (x.digits * s * factor) ≡ whole
      unfolding with_unit is_bad is_too_fine is_above is_below ten_thousandths
      a-length e =
          ap length-of amount-is
          ∙ ⊎_elim
          (λ (z : x.negative ≡ true × x.digits * s ≤ 0).
          zero-good (is_negative n) (decimals n) (digits_number n) (Err (BadLength place)) length-of few-decimals s scale-is lower (omega (arith, amount-is, z.1)))
          (λ (b : x.negative ≡ false).
          positive-good (is_negative n) (decimals n) (digits_number n) (Err (BadLength place)) length-of few-decimals s scale-is lower (sym negative-is ∙ b)) e

-- an amount within the most, times any factor of 32 bits
pub amount-product : (m factor : ℕ) → m ≤ most_digits → factor ≤ 0xffffffff → m * factor ≤ 0xffffffff * 0xffffffff
amount-product m factor h l = product-fits m factor (omega arith) l

-- ---- `dimension_length`, by the row of the unit's name
-- what the code has of a unit
abbrev pub kind_and_factor : LengthUnit → Kind × ℕ
kind_and_factor u = (u.kind, u.factor)

-- the code's table tells the kind and the factor of the definition's
pub unit-told : (unit : List ℕ) → on_found (lookup unit (mapped kind_and_factor units)) Some None ≡ on_found (lookup unit units) (λ u. Some (kind_and_factor u)) None
unit-told unit = ap (λ f. on_found f Some None) (lookup-mapped kind_and_factor unit units) ∙ on-found-as kind_and_factor (lookup unit units) Some None

module _ (place : ℕ) (n unit : List ℕ) (o : Option (Kind × ℕ)) (e : o ≡ on_found (lookup unit units) (λ u. Some (kind_and_factor u)) None) where
  -- by what is found
  known-by : (x : Found LengthUnit) (kind : Kind) (factor : ℕ) → on_found x (λ u. Some (kind_and_factor u)) None ≡ Some (kind, factor)
      → with_unit place n kind factor ≡ on_found x (λ u. with_unit place n u.kind u.factor) (Ok None)
  unfolding on_found
  known-by (found u) kind factor h = ap (λ (r : Kind × ℕ). with_unit place n r.0 r.1) (same_Some _ _ (sym h))
  known-by missing kind factor h = absurd (none-some _ h)

  unknown-by : (x : Found LengthUnit) → on_found x (λ u. Some (kind_and_factor u)) None ≡ None → Ok None ≡ on_found x (λ u. with_unit place n u.kind u.factor) (Ok None)
  unfolding on_found
  unknown-by (found u) h = absurd (none-some _ (sym h))
  unknown-by missing h = refl

  -- a dimension whose unit is one of the eight is a number with that unit's factor
  pub unit-known : (kind : Kind) (factor : ℕ) → o ≡ Some (kind, factor) → with_unit place n kind factor ≡ dimension_length place n unit
  unfolding dimension_length
  unit-known kind factor h = known-by (lookup unit units) kind factor (sym e ∙ h)

  -- a dimension whose unit is none of the eight is no length
  pub unit-unknown : o ≡ None → Ok None ≡ dimension_length place n unit
  unfolding dimension_length
  unit-unknown h = unknown-by (lookup unit units) (sym e ∙ h)

-- ---- `number_length`: a number without a unit is a length only if it is zero
module _ (n : List ℕ) (x : Numeral) (e : x ≡ numeral_of n) where
  -- a number without a unit that is exactly zero is the length 0
  number-zero : x.digits ≡ 0 → measured Units 0 ≡ number_length n
  unfolding number_length
  number-zero z = pick_true _ _ _ _ (is-yes _ _ (zero_of (digits_number n) (sym (digits_are n x e) ∙ z))) refl
    where
      zero_of : (v : ℕ) → capped v ≡ 0 → v ≡ 0
      zero_of v k =
          ⊎_elim (λ (h : most_digits < v). absurd (omega (arith, capped-over v h))) (λ (h : v ≤ most_digits). sym (capped-within v h) ∙ k) (lt-or-ge most_digits v)

  -- a number without a unit that is not zero is no length
  number-some : (x.digits ≡ 0 → ⊥) → Ok None ≡ number_length n
  unfolding number_length
  number-some d = pick-false _ _ _ _ (is-no _ _ (λ z. d (digits_are n x e ∙ ap capped z ∙ capped-within 0 (omega arith)))) refl

  -- by the code's test
  pub number-told : Ok (then_some (eqb x.digits 0) (record { kind = Units; amount = 0 })) ≡ number_length n
  number-told = by-zero (eqb x.digits 0) refl
    where
      by-zero : (b : Bool) → eqb x.digits 0 ≡ b → Ok (then_some b (record { kind = Units; amount = 0 })) ≡ number_length n
      by-zero true h = number-zero (eqb-true x.digits 0 h)
      by-zero false h = number-some (eqb-false x.digits 0 h)
