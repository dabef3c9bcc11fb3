-- Numbers with a sign, from their digits: the returns of `signed_number`, `converted` and `signed_integer`.
use mathlib.Core.Path.{◌≡◌, refl, sym, ap, ◌∙◌}
use mathlib.Core.Bool.{Bool, true, false}
use mathlib.Core.List.{List, [], ◌∷◌}
use Prim.Native.Nat.{ℕ, zero, suc, ◌+◌, ◌-◌, ◌*◌, ◌≤◌}
use native.Mathlib.Omega.{arith}
use lib.Dec.{leb}
use lib.IntN.{ℤ}
use lib.ListN.{length, get_or, take, drop, length-drop}
use lib.Seq.{take-nil, length-take-le}
use Prim.Native.Char.{code as ascii}
use Rattle.combinators.specs.Choice.{pick, is}
use Rattle.combinators.specs.Repeat.{many, took}
use Rattle.combinators.proofs.Lists.{rest}
use Rattle.combinators.proofs.Repeats.{many-ge}
use Rattle.combinators.proofs.Rules.{pick_true, pick-false, is-no, and_both}
use Rattle.lexer.specs.Name.{hex_digit}
use Rattle.lexer.specs.Number as number
use Rattle.lexer.specs.Number.{is_digit, one_digit, digits}
use Rattle.lexer.proofs.Digits.{digits_le, sign_le}
use Rattle.syntax.specs.Signed.{signed_number}
use Rattle.values.specs.Words.{Found, found, missing, on_found}
use Rattle.values.specs.Colour.{all_of, numeral, digits_in}
use Rattle.values.specs.ColourAnswer.{is_digit_in, number_answer}
use Rattle.std.specs.Prelude.{Option, Some, None, ◌==◌}
use Rattle.values.proofs.ColourLaws.{decimal_digit, digits_same, number-found, number-missing, read-le}
use Rattle.selectors.specs.Outcome.{Outcome, reads, panics, on_outcome}
use Rattle.selectors.specs.Selector.{is_minus, signed, greatest, converted}
use Rattle.selectors.specs.NthAnswer.{integer_by, converted_answer, integer_of, greatest_signed}

-- ---- the number that digits write
-- what n digits from i on write, or 1 where there are none
unfoldable pub digits_worth : List ℕ → ℕ → ℕ → ℕ
digits_worth t i n = pick (is n 0) 1 (numeral 10 hex_digit 0 (take n (drop i t)))

-- it is converted where it fits
pub converted-is : {A : Type 0} (t : List ℕ) (i n : ℕ) (minus : Bool) (f : ℤ → Outcome A)
    → converted t i n minus f ≡ pick (leb (digits_worth t i n) greatest) (f (signed minus (digits_worth t i n))) (panics i)
unfolding converted digits_worth
converted-is t i n minus f = refl

-- a number that fits is answered in the form of the compiled sheet
fitted : (b : Bool) (z : ℤ) (i : ℕ) → on_outcome (pick b (reads 0 z) (panics i)) (λ _ v. Some (signed_number v)) None (λ _. None) ≡ pick b (Some (signed_number z)) None
unfolding on_outcome pick
fitted true z i = refl
fitted false z i = refl

-- so what digits write is answered where it fits
pub integer-is : (t : List ℕ) (i n : ℕ) (minus : Bool)
    → integer_by t i n minus ≡ pick (leb (digits_worth t i n) greatest) (Some (signed_number (signed minus (digits_worth t i n)))) None
unfolding integer_by converted digits_worth
integer-is t i n minus = fitted _ _ i

-- ---- a number with its sign

module _ (minus : Bool) where
  -- a number below 0 is written as an odd one
  pub signed-minus : (v : ℕ) → minus ≡ true → v * 2 - 1 ≡ signed_number (signed minus v)
  unfolding signed_number signed pick
  signed-minus zero e = refl
  signed-minus (suc n) e = rw e (omega arith)

  -- a number above 0 is written as an even one
  pub signed-plus : (v : ℕ) → minus ≡ false → v * 2 ≡ signed_number (signed minus v)
  unfolding signed_number signed pick
  signed-plus zero e = refl
  signed-plus (suc n) e = rw e (omega arith)

-- a number of `i32` keeps to the bound
pub signed_le : (minus : Bool) (v : ℕ) → v ≤ greatest → signed_number (signed minus v) ≤ greatest_signed
unfolding signed_number signed pick
signed_le minus zero h = omega arith
signed_le true (suc n) h = omega arith
signed_le false (suc n) h = omega arith

-- ---- the returns of `converted`
-- where there is no digit the number is 1, with its sign
pub converted-one : (d : List ℕ) (minus : Bool) (w : ℕ) → (length d == 0) ≡ true → w ≡ signed_number (signed minus 1) → Some w ≡ converted_answer d minus
unfolding converted_answer is
converted-one d minus w e ew = pick_true _ _ _ _ e (ap Some ew)

module _ (d : List ℕ) (x : Option ℕ) (ex : x ≡ number_answer (digits_in (is_digit_in 10) 10 hex_digit greatest d)) where
  -- the digits of the base are decimal
  decimal : x ≡ number_answer (digits_in is_digit 10 hex_digit greatest d)
  decimal = ex ∙ ap number_answer (digits_same (is_digit_in 10) is_digit decimal_digit 10 hex_digit greatest d)

  -- a number that is read fits
  pub converted-fits : (v : ℕ) → x ≡ Some v → v ≤ greatest
  converted-fits v h = read-le is_digit 10 hex_digit greatest d v (number-found x _ decimal v h)

  module _ (n : (length d == 0) ≡ false) (minus : Bool) where
    -- the number is too great
    pub converted-over : x ≡ None → None ≡ converted_answer d minus
    unfolding converted_answer on_found is
    converted-over h = pick-false _ _ _ _ n (rw (number-missing x _ decimal h))

    -- digits that fit `i32` are converted, with their sign
    pub converted-number : (v : ℕ) → x ≡ Some v → (w : ℕ) → w ≡ signed_number (signed minus v) → Some w ≡ converted_answer d minus
    unfolding converted_answer on_found is
    converted-number v h w ew = pick-false _ _ _ _ n (rw (number-found x _ decimal v h, ew))

-- ---- the digits that a text begins with are digits
-- by whether the first byte is a digit: the bytes of a run of digits are digits
run_by : (x : ℕ) (r : List ℕ) (i : ℕ) → all_of is_digit (take (many one_digit (i + 1) 0 r - (i + 1)) r) ≡ true → (t : Bool) → is_digit x ≡ t
    → all_of is_digit (take (many one_digit i 0 (x ∷ r) - i) (x ∷ r)) ≡ true
unfolding all_of many took one_digit pick
run_by x r i h true e =
    let l = many-ge one_digit r (i + 1) 0 in
    let q : many one_digit (i + 1) 0 r - i ≡ suc (many one_digit (i + 1) 0 r - (i + 1)) = omega arith in
    rw (e, q) (and_both _ _ e h)
run_by x r i h false e = let q : i - i ≡ 0 = omega arith in rw (e, q)

-- the digits that are counted from i on are all digits
run-all : (s : List ℕ) (i : ℕ) → all_of is_digit (take (many one_digit i 0 s - i) s) ≡ true
unfolding all_of
run-all [] i = rw (take-nil {A = ℕ} (many one_digit i 0 [] - i))
run-all (x ∷ r) i = run_by x r i (run-all r (i + 1)) (is_digit x) refl

-- the bytes that are taken as digits at the start of a text are digits
digits-all : (s : List ℕ) → all_of is_digit (take (digits s) s) ≡ true
unfolding digits
digits-all s = let q : many one_digit 0 0 s - 0 ≡ many one_digit 0 0 s = omega arith in rw q at (run-all s 0)

-- ---- the number that digits write
-- as found, and as answered
found-by : (b minus : Bool) (v : ℕ)
    → on_found (pick b (found v) missing) (λ v. Some (signed_number (signed minus v))) None ≡ pick b (Some (signed_number (signed minus v))) None
unfolding on_found pick
found-by true minus v = refl
found-by false minus v = refl

-- where all bytes of d are digits
all-converted : (d : List ℕ) (minus : Bool) → ¬ (length d ≡ 0) → all_of is_digit d ≡ true
    → converted_answer d minus ≡ pick (leb (numeral 10 hex_digit 0 d) greatest) (Some (signed_number (signed minus (numeral 10 hex_digit 0 d)))) None
unfolding converted_answer digits_in
all-converted d minus n e =
    let z = is-no (length d) 0 n in
    let read : digits_in is_digit 10 hex_digit greatest d ≡ pick (leb (numeral 10 hex_digit 0 d) greatest) (found (numeral 10 hex_digit 0 d)) missing = sym (pick-false _ _ _ _ z (pick_true _ _ _ _ e refl)) in
    sym (pick-false _ _ _ _ z (sym (ap (λ (f : Found ℕ). on_found f (λ v. Some (signed_number (signed minus v))) None) read ∙ found-by _ minus _)))

-- n digits from i on
module _ (t : List ℕ) (i : ℕ) (minus : Bool) where
  -- none is worth 1
  none-converted : converted_answer [] minus ≡ integer_by t i 0 minus
  unfolding converted_answer integer_by converted on_outcome pick is
  none-converted = refl

  -- some are worth what they write
  some-worth : (n : ℕ) → numeral 10 hex_digit 0 (take (suc n) (drop i t)) ≡ digits_worth t i (suc n)
  unfolding digits_worth
  some-worth n = pick-false _ _ _ _ (is-no _ _ (λ e. absurd (omega arith))) refl

  -- n digits are converted as the definition converts them
  count-converted : (n : ℕ) → n ≤ length (drop i t) → all_of is_digit (take n (drop i t)) ≡ true → converted_answer (take n (drop i t)) minus ≡ integer_by t i n minus
  count-converted zero h e = none-converted
  count-converted (suc n) h e =
      let l = length-take-le (suc n) (drop i t) h in
      all-converted (take (suc n) (drop i t)) minus (λ z. absurd (omega arith)) e
      ∙ ap (λ (v : ℕ). pick (leb v greatest) (Some (signed_number (signed minus v))) None) (some-worth n)
      ∙ sym (integer-is t i (suc n) minus)

  -- all digits that stand there are converted as the definition does
  integer-lent : converted_answer (take (digits (drop i t)) (drop i t)) minus ≡ integer_by t i (digits (drop i t)) minus
  integer-lent = count-converted (digits (drop i t)) (digits_le (drop i t)) (digits-all (drop i t))

-- ---- the return of `signed_integer`
module _ (s : List ℕ) (sign : ℕ) (es : sign ≡ number.sign s) (n : ℕ) (en : n ≡ digits (take (length s - sign) (drop sign s))) where
  -- the digits behind the sign
  count : n ≡ digits (drop sign s)
  count = en ∙ ap digits (rest s sign)

  -- both lie within the text
  pub taken-le : sign + n ≤ length s
  taken-le = omega (arith, count, digits_le (drop sign s), length-drop sign s, sign_le s)

  module _ (minus : Bool) (em : minus ≡ is (get_or s 0 0) (ascii "-")) (x : Option ℕ) (ex : x ≡ converted_answer (take (sign + n - sign) (drop sign s)) minus) where
    -- the number is that of the definition
    value : x ≡ integer_by s sign n (is_minus s 0)
    unfolding is_minus
    value =
        let q : sign + n - sign ≡ n = omega arith in
        rw (← em)
        (ex ∙ ap (λ (k : ℕ). converted_answer (take k (drop sign s)) minus) (q ∙ count)
        ∙ integer-lent s sign minus ∙ ap (λ (k : ℕ). integer_by s sign k minus) (sym count))

    -- sign, bytes and number together are those of the definition
    pub integer-read : record { sign = sign; taken = sign + n; value = x } ≡ integer_of s
    unfolding integer_of
    integer-read = rw (← es, ← count, ← value)

-- ---- a number that was converted, and what the definition makes of it
module _ (t : List ℕ) (i n : ℕ) (minus : Bool) where
  abbrev pub worth : ℕ
  worth = digits_worth t i n

  module _ (x : Option ℕ) (ex : x ≡ integer_by t i n minus) where
    -- by whether the digits fit
    fits_by : (w : ℕ) → x ≡ Some w → (b : Bool) → leb worth greatest ≡ b → (leb worth greatest ≡ true) × (w ≡ signed_number (signed minus worth))
    unfolding pick
    fits_by w h true l = (l, let e : ◌≡◌ {A = Option ℕ} (Some w) (Some (signed_number (signed minus worth))) = sym h ∙ ex ∙ integer-is t i n minus ∙ rw l in cc)
    fits_by w h false l = absurd (let e : ◌≡◌ {A = Option ℕ} (Some w) None = sym h ∙ ex ∙ integer-is t i n minus ∙ rw l in let z : ◌≡◌ {A = ℕ} 0 1 = cc in omega arith)

    -- an answer with a number says that it fits, and is the one with its sign
    pub number_fits : (w : ℕ) → x ≡ Some w → (leb worth greatest ≡ true) × (w ≡ signed_number (signed minus worth))
    number_fits w h = fits_by w h _ refl

    -- an answer without one says that it does not fit, whatever test is asked
    over_by : x ≡ None → (b : Bool) → leb worth greatest ≡ b → leb worth greatest ≡ false
    unfolding pick
    over_by h true l = absurd (let e : ◌≡◌ {A = Option ℕ} None (Some (signed_number (signed minus worth))) = sym h ∙ ex ∙ integer-is t i n minus ∙ rw l in let z : ◌≡◌ {A = ℕ} 0 1 = cc in omega arith)
    over_by h false l = l

    -- an answer without one says that it does not fit
    pub number-over : x ≡ None → leb worth greatest ≡ false
    number-over h = over_by h _ refl

  module _ {A : Type 0} (f : ℤ → Outcome A) where
    -- where they fit, the definition goes on with the number
    pub goes_on : leb worth greatest ≡ true → f (signed minus worth) ≡ converted t i n minus f
    unfolding converted digits_worth
    goes_on l = pick_true _ _ _ _ l refl

    -- where not, the crate panics
    pub stops : leb worth greatest ≡ false → panics i ≡ converted t i n minus f
    unfolding converted digits_worth
    stops l = pick-false _ _ _ _ l refl
