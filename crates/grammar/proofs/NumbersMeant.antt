-- What the engine makes of the digits of a number is what the grammar means by them: a part of a colour, and whether a length is zero.
use mathlib.Core.Path.{◌≡◌, refl, ap, sym, ◌∙◌}
use mathlib.Core.Bool.{Bool, true, false, not}
use mathlib.Core.List.{List, [], ◌∷◌, ◌++◌, append-nil}
use Prim.Native.Nat.{ℕ, zero, suc, ◌+◌, ◌-◌, ◌≤◌}
use native.Mathlib.Omega.{arith}
use borrow.Author.Tests.{leb-true, lt-ltb, le-ltb}
use lib.Dec.{leb, ltb}
use lib.ListN.{length, get_or, drop, replicate, drop_of_length-le}
use lib.Seq.{take-length}
use Prim.Native.Char.{code as ascii}
use Rattle.combinators.specs.Choice.{pick, or, and, is, within}
use Rattle.combinators.proofs.Rules.{never, either, and_both, and-true, same_test, is-yes, is-no, is_true, within-true}
use Rattle.decimal.specs.Decimal as decimal
use Rattle.decimal.specs.Decimal.{rounds_to_zero}
use Rattle.decimal.specs.Places.{places, all_zero, at_most}
use Rattle.decimal.proofs.Compare.{rounds-to-zero-digits}
use Rattle.decimal.proofs.Table.{digits-length}
use Rattle.lexer.specs.Name.{hex_digit}
use Rattle.lexer.specs.Number.{is_digit, digits, sign}
use Rattle.lexer.proofs.SyntaxName.{Each, none, more}
use Rattle.values.specs.Colour.{all_of, numeral}
use Rattle.values.specs.Property.{unsigned_zero, number_zero}
use Rattle.values.proofs.CssColour.{Integer}
use Rattle.grammar.specs.Nth.{Sign, unsigned, plus, minus, negative, worth}
use Rattle.grammar.specs.Tokens.{Numeral, means_sign, written_stop, means_numeral}
use Rattle.grammar.specs.Declarations.{is_zero, finest, Part}
use Rattle.grammar.proofs.NthRead.{digits-read, numeral-same}
use Rattle.grammar.proofs.Places.{differs}
use Rattle.grammar.proofs.TokensRead.{stop-digits, unsigned_first, unsigned-first, first-signs, signed-unskipped}

-- ---- a part of a colour
-- the text of a number without '-' and full stop is its digits
plain-text : (s : Sign) (f : Bool) (ds : List ℕ) → negative s ≡ false → f ≡ false → means_sign s ++ (written_stop f ++ ds) ≡ ds
unfolding means_sign written_stop negative
plain-text unsigned true ds h e = never (sym e)
plain-text unsigned false ds h e = refl
plain-text plus true ds h e = never (sym e)
plain-text plus false ds h e = refl
plain-text minus f ds h e = never (sym h)

-- a test that holds of each byte holds of all
all-of : (p : ℕ → Bool) {ds : List ℕ} → Each p ds → all_of p ds ≡ true
unfolding all_of
all-of p none = refl
all-of p (more h hs) = and_both _ _ h (all-of p hs)

-- digits, of which there are some, are worth what they write
worth-numeral : (ds : List ℕ) → 1 ≤ length ds → Each is_digit ds → numeral 10 hex_digit 0 ds ≡ worth ds
worth-numeral [] l h = absurd (omega arith)
worth-numeral (x ∷ ds) l h = unfold worth in numeral-same h 0

-- so it is an integer as CSS 2.1 has it
pub part-integer : (p : Part) → Integer (means_numeral p.numeral) (worth p.numeral.digits)
unfolding means_numeral
part-integer p =
    let n = p.numeral in
    rw (plain-text n.sign n.fraction n.digits p.positive p.whole)
    (record { some = n.some; digits = all-of is_digit n.are; worth = worth-numeral n.digits n.some n.are; byte = p.byte })

-- ---- zero or not
-- of a digit, the number is 0 exactly if the byte is `0`
digit-zero : (x : ℕ) → is_digit x ≡ true → is (decimal.digit x) 0 ≡ is x (ascii "0")
unfolding is_digit decimal.digit pick
digit-zero x h =
    let p = within-true x (ascii "0") (ascii "9") h in
    rw h (same_test _ _ (λ e. let q = is_true (x - ascii "0") 0 e in is-yes x (ascii "0") (omega arith)) (λ e. let q = is_true x (ascii "0") e in is-yes _ _ (omega arith)))

-- digits are all zero as numbers exactly if each is written as a 0
digits-zero : {ds : List ℕ} → Each is_digit ds → all_zero (decimal.digits ds) ≡ all_of (λ d. is d (ascii "0")) ds
unfolding decimal.digits all_zero all_of
digits-zero none = refl
digits-zero (more {x} {r} h hs) = rw (digit-zero x h, digits-zero hs)

-- behind a point, digits up to the last 0 of what they are compared with
at-most-zeros : (n : ℕ) (ds ts : List ℕ) → length ds ≤ n → at_most ds (replicate n 0 ++ ts) ≡ all_zero ds
unfolding at_most all_zero
at-most-zeros n [] ts h = refl
at-most-zeros zero (d ∷ ds) ts h = absurd (omega arith)
at-most-zeros (suc n) (d ∷ ds) ts h =
    rw (le-ltb d 0 (omega arith), at-most-zeros n ds ts (omega arith)) (leading d (all_zero ds))
  where
    leading : (d : ℕ) (b : Bool) → pick false true (pick (ltb 0 d) false b) ≡ and (is d 0) b
    leading zero b = unfold pick and is in refl
    leading (suc d) b = unfold pick and in rw (lt-ltb 0 (suc d) (omega arith), is-no (suc d) 0 (λ e. omega arith))

-- the first places of 2^-150 are 0
places-begin : places ≡ replicate finest 0 ++ drop finest places
unfolding places
places-begin = refl

-- with no digit before the point, those behind it decide
rounds-point : (ds : List ℕ) → rounds_to_zero [] ds ≡ at_most (decimal.digits ds) places
unfolding decimal.digits all_zero and
rounds-point ds = rounds-to-zero-digits [] ds

-- so as many digits behind a point round to zero exactly if they are zero
rounds-fraction : {ds : List ℕ} → Each is_digit ds → length ds ≤ finest → rounds_to_zero [] ds ≡ all_of (λ d. is d (ascii "0")) ds
rounds-fraction {ds} h l =
    rounds-point ds ∙ ap (at_most (decimal.digits ds)) places-begin
    ∙ at-most-zeros finest (decimal.digits ds) (drop finest places) (omega (arith, digits-length ds)) ∙ digits-zero h

-- zeros round to zero, however many they are
zeros-at-most : (ds ts : List ℕ) → all_zero ds ≡ true → at_most ds ts ≡ true
unfolding at_most all_zero
zeros-at-most [] ts h = refl
zeros-at-most (d ∷ ds) [] h = h
zeros-at-most (d ∷ ds) (t ∷ ts) h =
    let p = and-true (is d 0) (all_zero ds) h in
    let z = is_true d 0 p.0 in
    rw (le-ltb t d (omega arith), zeros-at-most ds ts p.1) (settled (ltb d t))
  where
    settled : (b : Bool) → pick b true (pick false false true) ≡ true
    settled true = unfold pick in refl
    settled false = unfold pick in refl

-- so says the test of the digits behind a point
rounds-zeros : {ds : List ℕ} → Each is_digit ds → all_of (λ d. is d (ascii "0")) ds ≡ true → rounds_to_zero [] ds ≡ true
rounds-zeros {ds} h z =
    rounds-point ds ∙ zeros-at-most (decimal.digits ds) places (digits-zero h ∙ z)

-- digits before a point round to zero exactly if they are zero
rounds-whole : {ds : List ℕ} → Each is_digit ds → rounds_to_zero ds [] ≡ all_of (λ d. is d (ascii "0")) ds
unfolding decimal.digits at_most
rounds-whole {ds} h = rounds-to-zero-digits ds [] ∙ unit (all_zero (decimal.digits ds)) ∙ digits-zero h
  where
    unit : (b : Bool) → and b true ≡ b
    unit true = unfold and in refl
    unit false = unfold and in refl

-- ---- the text of a number
-- what begins with a digit or a full stop has no sign
unsigned-zero : (u : List ℕ) → unsigned_first (get_or u 0 0) ≡ true → unsigned_zero (drop (sign u) u) ≡ unsigned_zero u
unfolding sign pick or
unsigned-zero u h =
    rw (differs unsigned_first (get_or u 0 0) (ascii "-") h first-signs.1, differs unsigned_first (get_or u 0 0) (ascii "+") h first-signs.0)

-- a '-' is passed over
minus-zero : (u : List ℕ) → unsigned_zero (drop (sign (ascii "-" ∷ u)) (ascii "-" ∷ u)) ≡ unsigned_zero u
unfolding sign pick or is
minus-zero u = refl

-- so is any sign
by_sign : (s : Sign) (u : List ℕ) → unsigned_first (get_or u 0 0) ≡ true → unsigned_zero (drop (sign (means_sign s ++ u)) (means_sign s ++ u)) ≡ unsigned_zero u
unfolding means_sign
by_sign unsigned u h = unsigned-zero u h
by_sign plus u h = unsigned-zero u h
by_sign minus u h = minus-zero u

-- so it does not matter
sign_zero : (s : Sign) (u : List ℕ) → unsigned_first (get_or u 0 0) ≡ true → number_zero (means_sign s ++ u) ≡ unsigned_zero u
unfolding number_zero
sign_zero s u h = rw (signed-unskipped s u h) (by_sign s u h)

-- digits alone, without a full stop, are zero exactly if each is a 0
whole-zero : {ds : List ℕ} → Each is_digit ds → unsigned_zero ds ≡ all_of (λ d. is d (ascii "0")) ds
unfolding unsigned_zero
whole-zero {ds} h =
    let e : digits ds ≡ length ds = ap digits (sym (append-nil ds)) ∙ digits-read h [] (unfold is_digit and within in refl) in
    rw (e, take-length ds, drop_of_length-le ds (past (length ds))) (rounds-whole h)
  where
    past : (n : ℕ) → n ≤ n + 1
    past n = omega arith

-- and behind a full stop
point-zero : (ds : List ℕ) → unsigned_zero (ascii "." ∷ ds) ≡ rounds_to_zero [] ds
unfolding unsigned_zero
point-zero ds = rw (stop-digits ds)

-- where there are not too many, or only zeros
fraction-zero : {ds : List ℕ} → Each is_digit ds → or (all_of (λ d. is d (ascii "0")) ds) (leb (length ds) finest) ≡ true
    → unsigned_zero (ascii "." ∷ ds) ≡ all_of (λ d. is d (ascii "0")) ds
fraction-zero {ds} h f =
    point-zero ds
    ∙ either (rounds_to_zero [] ds ≡ all_of (λ d. is d (ascii "0")) ds) _ _ f (λ z. rounds-zeros h z ∙ sym z) (λ l. rounds-fraction h (leb-true _ _ l))

-- by whether there is a full stop
stop-zero : (f : Bool) {ds : List ℕ} → Each is_digit ds → or (all_of (λ d. is d (ascii "0")) ds) (or (not f) (leb (length ds) finest)) ≡ true
    → unsigned_zero (written_stop f ++ ds) ≡ all_of (λ d. is d (ascii "0")) ds
unfolding written_stop
stop-zero true h e = fraction-zero h (unfold or in e)
stop-zero false h e = whole-zero h

-- a number of the grammar, where it does not have too many digits behind a full stop, is zero to the engine exactly if all its digits are
pub numeral-zero : (n : Numeral) → or (is_zero n) (or (not n.fraction) (leb (length n.digits) finest)) ≡ true → number_zero (means_numeral n) ≡ is_zero n
unfolding means_numeral is_zero
numeral-zero n e =
    let u = written_stop n.fraction ++ n.digits in
    let f : unsigned_first (get_or u 0 0) ≡ true =
    ap (λ (l : List ℕ). unsigned_first (get_or (written_stop n.fraction ++ l) 0 0)) (sym (append-nil n.digits)) ∙ unsigned-first n.fraction n.digits [] n.are n.some in
    sign_zero n.sign u f ∙ stop-zero n.fraction n.are e
