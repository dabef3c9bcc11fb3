-- What a length is worth: exactly what its digits say, in every unit; which of the three answers a value has; and that every amount fits 64 bits.
use Prim.Native.Nat.{ℕ, zero, suc, ◌-◌, ◌*◌, ◌^◌, ◌<◌, ◌≤◌}
use mathlib.Core.Path.{◌≡◌, refl, sym, ap, ◌∙◌}
use mathlib.Core.Bool.{Bool, true, false}
use mathlib.Core.List.{List, [], ◌∷◌}
use native.Mathlib.Nat.{mul_assoc, mul_comm, mul-le-mul_left, mul-le-mul_right}
use native.Mathlib.Omega.{arith}
use borrow.Author.Tests.{leb-true, ltb-false}
use lib.Dec.{ltb}
use Rattle.combinators.specs.All.{All}
use Rattle.combinators.specs.Choice.{pick, or}
use Rattle.combinators.proofs.Rules.{never, pick-holds, and-true, is_true}
use Rattle.lexer.specs.Token.{Token, number, dimension}
use Rattle.lexer.proofs.TokenBounds.{on-holds}
use Rattle.lexer.specs.Whitespace.{skip_whitespace}
use Rattle.values.specs.Words.{Entry, Found, found, missing, lookup, on_found}
use Rattle.values.proofs.WordLaws.{lookup-holds}
use Rattle.lengths.specs.Number.{numeric_token}
use Rattle.lengths.specs.Length.{measured, ten, most_decimals, most_number, digits_number, decimals, is_too_fine, is_above, is_below, is_bad, ten_thousandths, with_unit, dimension_length, number_length, token_length, length_of}
use Rattle.lengths.specs.Numeral.{most_digits}
use Rattle.lengths.specs.Unit.{LengthUnit, units, ten_thousand, every_row, is_exact, is_small, largest_factor, units-exact, units_small}
use Rattle.std.specs.Prelude.{Option, Some, None, Result, Ok, Err}
use Rattle.lengths.specs.declared.answers.Length.{Length}
use Rattle.lengths.specs.declared.answers.LengthError.{LengthError}
use Rattle.lengths.specs.declared.answers.LengthError.TheVariants.{TooLong, ShortStore, NotUtf8, BadLength}
use Rattle.lengths.proofs.DimensionLaws.{scale_at}

-- ---- the table of units
-- a test that holds of every row holds of what each stands for
all-rows : {A : Type 0} (p : A → Bool) (es : List (Entry A)) → every_row p es ≡ true → All (λ e. (a : A) → found e.means ≡ found a → p a ≡ true) es
unfolding every_row
all-rows p [] t = tt
all-rows p (x ∷ es) t =
    let q = and-true (p x.means) (every_row p es) t in
    ((λ a e. let s : x.means ≡ a = cc in ap p (sym s) ∙ q.0), all-rows p es q.1)

-- so of what is found
row-test : {A : Type 0} (p : A → Bool) (w : List ℕ) (es : List (Entry A)) (a : A) → every_row p es ≡ true → lookup w es ≡ found a → p a ≡ true
row-test {A} p w es a t e =
    lookup-holds (λ (x : Found A). (a : A) → x ≡ found a → p a ≡ true) w es (all-rows p es t)
    (λ a q. absurd (let z : ◌≡◌ {A = ℕ} 0 1 = cc in omega arith)) a e

-- each unit is 10,000 times its factor
pub unit-exact : (w : List ℕ) (u : LengthUnit) → lookup w units ≡ found u → u.amount ≡ ten_thousand * u.factor
unfolding is_exact
unit-exact w u e = is_true _ _ (row-test is_exact w units u units-exact e)

-- and no factor is above that of the inch
unit-small : (w : List ℕ) (u : LengthUnit) → lookup w units ≡ found u → u.factor ≤ largest_factor
unfolding is_small
unit-small w u e = leb-true _ _ (row-test is_small w units u units_small e)

-- ---- a number of four decimals or fewer, in a unit of f
-- its ten-thousandths are what its digits say: times ten for each decimal they are 10,000 times the digits
scaled : (n : List ℕ) → decimals n ≤ most_decimals → ten_thousandths n * ten ^ decimals n ≡ digits_number n * ten_thousand
unfolding ten_thousandths
scaled n h =
    let v = digits_number n in
    let p = ten ^ (most_decimals - decimals n) in
    let q : p * ten ^ decimals n ≡ ten_thousand = powers (decimals n) h in
    mul_assoc v p (ten ^ decimals n) ∙ ap (λ (x : ℕ). v * x) q
  where
    powers : (d : ℕ) → d ≤ most_decimals → ten ^ (most_decimals - d) * ten ^ d ≡ ten_thousand
    powers zero h = refl
    powers (suc zero) h = refl
    powers (suc (suc zero)) h = refl
    powers (suc (suc (suc zero))) h = refl
    powers (suc (suc (suc (suc zero)))) h = refl
    powers (suc (suc (suc (suc (suc d))))) h = absurd (omega arith)

-- "The exactness is shown once for all units": the answer, times ten for each decimal, is the digits read as one number times the unit's units
pub exact : (n : List ℕ) (u : LengthUnit) → u.amount ≡ ten_thousand * u.factor → decimals n ≤ most_decimals
    → ten_thousandths n * u.factor * ten ^ decimals n ≡ digits_number n * u.amount
exact n u e h =
    let m = ten_thousandths n in
    let f = u.factor in
    let p = ten ^ decimals n in
    let v = digits_number n in
    let a : m * f * p ≡ m * p * f = mul_assoc m f p ∙ ap (λ (x : ℕ). m * x) (mul_comm f p) ∙ sym (mul_assoc m p f) in
    a ∙ ap (λ (x : ℕ). x * f) (scaled n h) ∙ mul_assoc v ten_thousand f ∙ ap (λ (x : ℕ). v * x) (sym e)

-- ---- the answers
-- what a number that is not refused keeps to
pub record Fine (n : List ℕ) : Type 0 where
  pub few : decimals n ≤ most_decimals
  pub within : digits_number n ≤ most_number * ten ^ decimals n
  pub not-below : is_below n ≡ false

-- a number that is not refused has four decimals at most, is 10,000 at most and not below zero
fine_of : (n : List ℕ) → is_bad n ≡ false → Fine n
unfolding is_bad is_too_fine is_above
fine_of n e =
    let a = or_no (ltb most_decimals (decimals n)) (or (ltb (most_number * ten ^ decimals n) (digits_number n)) (is_below n)) e in
    let b = or_no (ltb (most_number * ten ^ decimals n) (digits_number n)) (is_below n) a.1 in
    record { few = ltb-false _ _ a.0; within = ltb-false _ _ b.0; not-below = b.1 }
  where
    or_no : (a b : Bool) → or a b ≡ false → (a ≡ false) × (b ≡ false)
    or_no true b k = never (sym (unfold or in k))
    or_no false b k = (refl, unfold or in k)

-- so its ten-thousandths are at most 100,000,000
fine-most : (n : List ℕ) → Fine n → ten_thousandths n ≤ most_digits
unfolding ten_thousandths
fine-most n o =
    let s = scale_at (decimals n) (omega (arith, o.few)) in
    let p = ten ^ (most_decimals - decimals n) in
    let q : digits_number n * p ≤ most_number * ten ^ decimals n * p = mul-le-mul_right p o.within in
    let r : most_number * ten ^ decimals n * p ≡ most_digits = ap (λ (x : ℕ). most_number * ten ^ decimals n * x) (sym s.makes) ∙ s.whole in
    omega arith

-- the largest amount: 10,000 inches
abbrev pub largest_amount : ℕ
largest_amount = 3657600000000

-- the largest amount is the most ten-thousandths times the largest factor, that of the inch
largest : largest_amount ≡ most_digits * largest_factor
largest = refl

-- what an answer for a number with a unit says: exactly one of the three
pub data Answered (place : ℕ) (n w : List ℕ) : (Result (Option Length) LengthError) → Type 0 where
  other : lookup w units ≡ missing → Answered place n w (Ok None)
  refused : (u : LengthUnit) → lookup w units ≡ found u → is_bad n ≡ true → Answered place n w (Err (BadLength place))
  known : (u : LengthUnit) (m : ℕ) → lookup w units ≡ found u → Fine n → m ≤ largest_amount → m * ten ^ decimals n ≡ digits_number n * u.amount
      → Answered place n w (measured u.kind m)

-- the answer for a number with a unit is that it is no unit of a length, that the number is refused, or its exact length
pub answered : (place : ℕ) (n w : List ℕ) → Answered place n w (dimension_length place n w)
unfolding dimension_length on_found with_unit
answered place n w = by-unit (lookup w units) refl
  where
    product : (u : LengthUnit) → lookup w units ≡ found u → Fine n → ten_thousandths n * u.factor ≤ largest_amount
    product u e o =
        let m = ten_thousandths n in
        let p : m * u.factor ≤ most_digits * u.factor = mul-le-mul_right u.factor (fine-most n o) in
        let q : most_digits * u.factor ≤ most_digits * largest_factor = mul-le-mul_left most_digits (unit-small w u e) in
        omega arith

    by-test : (u : LengthUnit) → lookup w units ≡ found u → (b : Bool) → is_bad n ≡ b → Answered place n w (pick b (Err (BadLength place)) (measured u.kind (ten_thousandths n * u.factor)))
    by-test u e true k = unfold pick in refused u e k
    by-test u e false k = let o = fine_of n k in unfold pick in known u (ten_thousandths n * u.factor) e o (product u e o) (exact n u (unit-exact w u e) o.few)

    by-unit : (x : Found LengthUnit) → lookup w units ≡ x
        → Answered place n w (on_found x (λ u. pick (is_bad n) (Err (BadLength place)) (measured u.kind (ten_thousandths n * u.factor))) (Ok None))
    by-unit (found u) e = by-test u e (is_bad n) refl
    by-unit missing e = other e

-- ---- a value
-- what an answer for a value whose token starts at a place keeps to: it is no length, a length, or refusal 12 at that place
abbrev pub Kept : ℕ → (Result (Option Length) LengthError) → Type 0
Kept place (Ok None) = Unit
Kept place (Ok (Some l)) = l.amount ≤ largest_amount
Kept place (Err TooLong) = ⊥
Kept place (Err ShortStore) = ⊥
Kept place (Err NotUtf8) = ⊥
Kept place (Err (BadLength p)) = p ≡ place

-- an answer for a number with a unit is no length, a length within the largest amount, or refusal 12 at the place
unit_kept : {place : ℕ} {n w : List ℕ} {a : (Result (Option Length) LengthError)} → Answered place n w a → Kept place a
unit_kept (other e) = tt
unit_kept (refused u e b) = refl
unit_kept (known u m e o l x) = l

-- so is the answer for any token
token-kept : (place : ℕ) (k : Token) → Kept place (token_length place k)
unfolding token_length number_length
token-kept place (dimension n u) = unit_kept (answered place n u)
token-kept place (number n) = pick-holds (Kept place) _ _ _ (λ _. omega arith) (λ _. tt)
token-kept place _ = tt

-- "Exactly one of": no length, a length whose amount fits 64 bits, or refusal 12, "place at the number, its sign included"
pub kept : (s : List ℕ) → Kept (skip_whitespace s) (length_of s)
unfolding length_of
kept s =
    on-holds (Kept (skip_whitespace s)) (numeric_token s) _ _
    (λ i k _. pick-holds (Kept (skip_whitespace s)) _ _ _ (λ _. token-kept (skip_whitespace s) k) (λ _. tt)) (λ _. tt)

-- the largest amount fits 64 bits
pub amount-bits : largest_amount < 2 ^ 64
amount-bits = omega arith
