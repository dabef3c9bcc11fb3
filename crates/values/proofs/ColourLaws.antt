-- Numbers in a base, and colours.
use Prim.Native.Nat.{ℕ, ◌+◌, ◌*◌, ◌<◌, ◌≤◌}
use mathlib.Core.Path.{◌≡◌, refl, sym, ap, ◌∙◌}
use mathlib.Core.Bool.{Bool, true, false}
use mathlib.Core.List.{List, [], ◌∷◌}
use native.Mathlib.Numerals.{add-one}
use native.Mathlib.Nat.{mul-le-mul_left}
use native.Mathlib.Omega.{arith}
use borrow.Author.Tests.{le-leb, lt-leb, lt-ltb, leb-true, ltb-true}
use lib.Dec.{leb, ltb}
use lib.ListN.{length, get_or, take, drop, drop_of_length-le}
use lib.Seq.{drop-cons}
use Prim.Native.Char.{code as ascii}
use Rattle.combinators.specs.Choice.{or, and, is}
use Rattle.combinators.proofs.Rules.{never, pick_true, pick-false, pick-holds, is-yes, is-no, and-gives, and-gives-false, and_left, and_both, and-true, or_left, same_test, within-true, told}
use Rattle.lexer.specs.Name.{is_hex_digit, hex_digit}
use Rattle.lexer.specs.Number.{is_digit}
use Rattle.lexer.proofs.Escapes.{digit-le}
use Rattle.syntax.specs.Declaration.{Colour}
use Rattle.syntax.specs.Layout.{colour_number}
use Rattle.values.specs.Words.{Found, found, missing, on_found}
use Rattle.values.specs.Colour.{rgb, all_of, numeral, without_plus, digits_in, parse_u8, parse_hex, three_digits, six_digits, hash_colour, rgb_of, three_numbers}
use Rattle.values.specs.ColourAnswer.{is_digit_in, number_answer, colour_answer}
use Rattle.std.specs.Prelude.{Option, Some, None, MatchOption}
use lib.Pointwise.{pointwise}
use lib.Dec.{eqb}
use Rattle.std.specs.Prelude.{unwrap_or, ◌&&◌}
use Rattle.std.specs.Borrow.{Bor}
use Rattle.values.proofs.WordLaws.{mapped, on-found-as, lookup-mapped}
use Rattle.values.specs.Words.{lookup}
use Rattle.values.specs.Colour.{colours}

-- ---- answers

-- what the code answers, from what was found: no number
no_number : (f : Found ℕ) → missing ≡ f → None ≡ number_answer f
unfolding number_answer on_found
no_number f e = ap number_answer e

-- a number that was found is answered as it is
a-number : (f : Found ℕ) (v : ℕ) → found v ≡ f → Some v ≡ number_answer f
unfolding number_answer on_found
a-number f v e = ap number_answer e

-- where no colour is found the answer says so
pub no-colour : (f : Found Colour) → missing ≡ f → None ≡ colour_answer f
unfolding colour_answer on_found
no-colour f e = ap colour_answer e

-- a colour, as one number
pub a-colour : (f : Found Colour) (c : Colour) (w : ℕ) → w ≡ colour_number c → found c ≡ f → Some w ≡ colour_answer f
unfolding colour_answer on_found
a-colour f c w ew e = rw ew (ap colour_answer e)

-- what was found, from the answer
module _ (x : Option ℕ) (f : Found ℕ) (e : x ≡ number_answer f) where
  -- an answer with a number says that it was found
  pub number-found : (v : ℕ) → x ≡ Some v → f ≡ found v
  number-found v h = go f (sym e ∙ h)
    where
      go : (f : Found ℕ) → number_answer f ≡ Some v → f ≡ found v
      go (found w) k = unfold number_answer on_found in cc
      go missing k = absurd (let z : ◌≡◌ {A = ℕ} 0 1 = unfold number_answer on_found in cc in omega arith)

  -- an answer without one says that none was found
  pub number-missing : x ≡ None → f ≡ missing
  number-missing h = go f (sym e ∙ h)
    where
      go : (f : Found ℕ) → number_answer f ≡ None → f ≡ missing
      go (found w) k = absurd (let z : ◌≡◌ {A = ℕ} 0 1 = unfold number_answer on_found in cc in omega arith)
      go missing k = refl

-- a name is looked up with the number of its colour
pub named-told : (s : List ℕ) → on_found (lookup s (mapped colour_number colours)) Some None ≡ colour_answer (lookup s colours)
unfolding colour_answer
named-told s = ap (λ f. on_found f Some None) (lookup-mapped colour_number s colours) ∙ on-found-as colour_number (lookup s colours) Some None

-- ---- digits of a base

-- the test of a byte x, as the code makes it
module _ (base x : ℕ) (r : Bool) (er : r ≡ is_hex_digit x) where
  -- a hex digit is one in the base where it is worth less
  pub digit-by-worth : r ≡ true → (w : ℕ) → w ≡ hex_digit x → ltb w base ≡ is_digit_in base x
  unfolding is_digit_in
  digit-by-worth e w ew = and-gives _ _ _ (told _ _ _ er e) (rw ew)

  -- any other byte is none
  pub no-hex-digit : r ≡ false → false ≡ is_digit_in base x
  unfolding is_digit_in
  no-hex-digit e = and-gives-false _ _ (told _ _ _ er e)

-- a base that has a digit is not 0
pub base-pos : (base x : ℕ) → is_digit_in base x ≡ true → 0 < base
unfolding is_digit_in
base-pos base x e = let h = ltb-true (hex_digit x) base (and-true (is_hex_digit x) _ e).1 in omega arith

-- a hex digit that is no decimal digit is worth 10 or more
letter-worth : (x : ℕ) → is_digit x ≡ false → is_hex_digit x ≡ true → 10 ≤ hex_digit x
unfolding is_digit is_hex_digit hex_digit or
letter-worth x e h =
    pick-holds (λ (y : ℕ). 10 ≤ y) _ _ _ (λ t. never (sym e ∙ t))
    (λ f. pick-holds (λ (y : ℕ). 10 ≤ y) _ _ _ (λ _. omega arith)
    (λ g. pick-holds (λ (y : ℕ). 10 ≤ y) _ _ _ (λ _. omega arith) (λ k. never (sym (sym h ∙ rw (f, g, k))))))

-- a decimal digit is worth 9 at most
digit-worth : (x : ℕ) → is_digit x ≡ true → hex_digit x < 10
unfolding is_digit hex_digit
digit-worth x e = pick-holds (λ (y : ℕ). y < 10) _ _ _ (λ t. omega (arith, within-true x (ascii "0") (ascii "9") t)) (λ f. never (sym f ∙ e))

-- a decimal digit is a hex digit
digit-hex : (x : ℕ) → is_digit x ≡ true → is_hex_digit x ≡ true
unfolding is_digit is_hex_digit
digit-hex x e = or_left _ _ e

-- the digits of base 10 are the decimal digits
pub decimal_digit : (x : ℕ) → is_digit_in 10 x ≡ is_digit x
unfolding is_digit_in
decimal_digit x = same_test (and (is_hex_digit x) (ltb (hex_digit x) 10)) (is_digit x) to (λ e. and_both _ _ (digit-hex x e) (lt-ltb _ _ (digit-worth x e)))
  where
    go : (t : Bool) → is_digit x ≡ t → is_hex_digit x ≡ true → hex_digit x < 10 → t ≡ true
    go true e h l = refl
    go false e h l = absurd (let m = letter-worth x e h in omega arith)

    to : and (is_hex_digit x) (ltb (hex_digit x) 10) ≡ true → is_digit x ≡ true
    to e = let p = and-true (is_hex_digit x) (ltb (hex_digit x) 10) e in go (is_digit x) refl p.0 (ltb-true _ _ p.1)

-- and those of base 16 the hex digits
pub hexadecimal-digit : (x : ℕ) → is_digit_in 16 x ≡ is_hex_digit x
unfolding is_digit_in
hexadecimal-digit x =
    same_test (and (is_hex_digit x) (ltb (hex_digit x) 16)) (is_hex_digit x) (λ e. (and-true (is_hex_digit x) (ltb (hex_digit x) 16) e).0)
    (λ e. and_both _ _ e (lt-ltb (hex_digit x) 16 (omega (arith, digit-le x))))

-- tests that agree on every byte agree on texts
all_same : (p q : ℕ → Bool) → ((x : ℕ) → p x ≡ q x) → (t : List ℕ) → all_of p t ≡ all_of q t
unfolding all_of
all_same p q e [] = refl
all_same p q e (x ∷ t) = rw (e x, all_same p q e t)

-- and read the same numbers
pub digits_same : (p q : ℕ → Bool) → ((x : ℕ) → p x ≡ q x) → (base : ℕ) (d : ℕ → ℕ) (most : ℕ) (t : List ℕ)
    → digits_in p base d most t ≡ digits_in q base d most t
unfolding digits_in
digits_same p q e base d most t = rw (all_same p q e t)

-- ---- the number that digits write, where p says what a digit is, and d what it is worth
module _ (p : ℕ → Bool) (base : ℕ) (d : ℕ → ℕ) (most : ℕ) where
  -- digits behind a number do not make it less
  numeral-ge : 0 < base → (a : ℕ) (t : List ℕ) → a ≤ numeral base d a t
  unfolding numeral
  numeral-ge h a [] = omega arith
  numeral-ge h a (x ∷ t) =
      let m : a * 1 ≤ a * base = mul-le-mul_left a h in
      omega (arith, numeral-ge h (a * base + d x) t)

  module _ (t : List ℕ) where
    -- an empty text writes no number
    none_read : length t ≡ 0 → missing ≡ digits_in p base d most t
    unfolding digits_in
    none_read e = pick_true _ _ _ _ (is-yes _ _ e) refl

    -- a byte that is no digit
    pub bad-read : ¬ (length t ≡ 0) → all_of p t ≡ false → missing ≡ digits_in p base d most t
    unfolding digits_in
    bad-read n e = pick-false _ _ _ _ (is-no _ _ n) (pick-false _ _ _ _ e refl)

    -- a number above the bound
    over-read : most < numeral base d 0 t → missing ≡ digits_in p base d most t
    unfolding digits_in
    over-read h =
        pick-holds (λ (r : Found ℕ). missing ≡ r) _ _ _ (λ _. refl)
        (λ _. pick-holds (λ (r : Found ℕ). missing ≡ r) _ _ _ (λ _. pick-false _ _ _ _ (lt-leb _ _ h) refl) (λ _. refl))

    -- digits that are worth no more than the most are read as that number
    pub number_read : ¬ (length t ≡ 0) → all_of p t ≡ true → (v : ℕ) → numeral base d 0 t ≡ v → v ≤ most → found v ≡ digits_in p base d most t
    unfolding digits_in
    number_read n e v ev h = pick-false _ _ _ _ (is-no _ _ n) (pick_true _ _ _ _ e (rw ev (pick_true _ _ _ _ (le-leb v most h) refl)))

    -- so what is read is within it
    pub read-le : (v : ℕ) → digits_in p base d most t ≡ found v → v ≤ most
    unfolding digits_in
    read-le v =
        pick-holds (λ (r : Found ℕ). r ≡ found v → v ≤ most) _ _ _ (λ _ e. nothing e)
        (λ _. pick-holds (λ (r : Found ℕ). r ≡ found v → v ≤ most) _ _ _
        (λ _. pick-holds (λ (r : Found ℕ). r ≡ found v → v ≤ most) _ _ _ something (λ _ e. nothing e)) (λ _ e. nothing e))
      where
        nothing : missing ≡ found v → v ≤ most
        nothing e = absurd (let z : ◌≡◌ {A = ℕ} 0 1 = cc in omega arith)

        something : leb (numeral base d 0 t) most ≡ true → found (numeral base d 0 t) ≡ found v → v ≤ most
        something l e = let q : numeral base d 0 t ≡ v = cc in omega (arith, leb-true (numeral base d 0 t) most l)

    -- an empty text is no number
    pub digits-none : length t ≡ 0 → None ≡ number_answer (digits_in p base d most t)
    digits-none e = no_number _ (none_read e)

  -- the loop: the digits from i on, behind the number v, say what the whole says
  pub record Summing (t : List ℕ) (v i : ℕ) : Type 0 where
    pub digits : all_of p t ≡ all_of p (drop i t)
    pub value : numeral base d 0 t ≡ numeral base d v (drop i t)
    pub small : v ≤ most

  module _ (t : List ℕ) (v i : ℕ) (c : Summing t v i) where
    -- behind the last digit the sum is the number
    pub summing-done : ¬ (length t ≡ 0) → length t ≤ i → Some v ≡ number_answer (digits_in p base d most t)
    unfolding all_of numeral
    summing-done n h =
        let e = drop_of_length-le t h in
        a-number _ v (number_read t n (c.digits ∙ rw e) v (c.value ∙ rw e) c.small)

    module _ (h : i < length t) (r : Bool) (er : r ≡ p (get_or t i 0)) where
      -- a byte that is no digit makes the whole no number
      pub summing-stop : r ≡ false → None ≡ number_answer (digits_in p base d most t)
      unfolding all_of
      summing-stop e = no_number _ (bad-read t (λ z. omega arith) (c.digits ∙ rw (drop-cons t i 0 h) (and_left _ _ (told _ _ _ er e))))

      -- one is worth w
      module _ (w : ℕ) (ew : w ≡ d (get_or t i 0)) where
        -- the number goes on with it
        next : numeral base d 0 t ≡ numeral base d (v * base + w) (drop (i + 1) t)
        unfolding numeral
        next = c.value ∙ rw (drop-cons t i 0 h, add-one i, ew)

        -- the number grew above the bound, which it will not come below again
        pub summing-over : 0 < base → most < v * base + w → None ≡ number_answer (digits_in p base d most t)
        summing-over b l = no_number _ (over-read t (omega (arith, next, numeral-ge b (v * base + w) (drop (i + 1) t))))

        -- it stayed within the bound
        pub summing-more : r ≡ true → v * base + w ≤ most → Summing t (v * base + w) (i + 1)
        unfolding all_of
        summing-more e l =
            record {
              digits = c.digits ∙ rw (drop-cons t i 0 h, add-one i) (sym (and-gives _ _ _ (told _ _ _ er e) refl));
              value = next;
              small = l;
            }

-- ---- two numbers of 32 bits
module _ (v base : ℕ) (h : v ≤ 0xffffffff) (l : base ≤ 0xffffffff) where
  -- the product with the base fits 64 bits
  pub product-fits : v * base ≤ 0xffffffff * 0xffffffff
  product-fits = let m : v * base ≤ v * 0xffffffff = mul-le-mul_left v l in omega arith

-- ---- a '+' or none
module _ (s : List ℕ) (r : Bool) (er : r ≡ is (get_or s 0 0) (ascii "+")) where
  -- a text without one is whole
  pub no_plus : r ≡ false → s ≡ without_plus s
  unfolding without_plus
  no_plus e = ap (λ n. drop n s) (pick-false 0 _ _ _ (told _ _ _ er e) refl)

-- the code's test of the first byte
plus-told : (s : List ℕ) → pointwise eqb (take 1 s) (ascii "+" ∷ []) ≡ is (get_or s 0 0) (ascii "+")
unfolding is
plus-told [] = refl
plus-told (x ∷ s) = go (eqb x (ascii "+"))
  where
    go : (b : Bool) → (b && true) ≡ b
    go true = refl
    go false = refl

-- what is left where a '+' is stripped, or the whole
pub plus-stripped : (s : Bor (List ℕ)) (o : Option (Bor (List ℕ)))
    → MatchOption o (pointwise eqb (take 1 s.now) (ascii "+" ∷ []) ≡ false)
    (λ x. (pointwise eqb (take 1 s.now) (ascii "+" ∷ []) ≡ true) × (x.now ≡ drop 1 s.now) × (length x.now + 1 ≡ length s.now))
    → (unwrap_or o s).now ≡ without_plus s.now
unfolding without_plus
plus-stripped s None h = no_plus s.now _ refl (sym (plus-told s.now) ∙ h)
plus-stripped s (Some x) h = h.1 ∙ ap (λ n. drop n s.now) (pick_true _ _ _ _ (sym (plus-told s.now) ∙ h.0) refl)

-- ---- `hash_colour`: three or six hexadecimal digits
module _ (s : List ℕ) where
  -- no number is no colour
  hash-missing : parse_hex 0xffffffff s ≡ missing → missing ≡ hash_colour s
  unfolding hash_colour on_found
  hash-missing e =
      rw e
      (pick-holds (λ (r : Found Colour). missing ≡ r) _ _ _ (λ _. refl)
      (λ _. pick-holds (λ (r : Found Colour). missing ≡ r) _ _ _ (λ _. refl) (λ _. refl)))

  -- a number of three digits is the colour that each digit gives twice
  three-found : (v : ℕ) → parse_hex 0xffffffff s ≡ found v → length s ≡ 3 → found (three_digits v) ≡ hash_colour s
  unfolding hash_colour on_found
  three-found v e l = rw e (pick_true _ _ _ _ (is-yes _ _ l) refl)

  -- a number of six digits is the colour of its three bytes
  six-found : (v : ℕ) → parse_hex 0xffffffff s ≡ found v → length s ≡ 6 → found (six_digits v) ≡ hash_colour s
  unfolding hash_colour on_found
  six-found v e l = rw e (pick-false _ _ _ _ (is-no _ _ (λ z. omega arith)) (pick_true _ _ _ _ (is-yes _ _ l) refl))

  -- another count of bytes is no colour
  other-missing : ¬ (length s ≡ 3) → ¬ (length s ≡ 6) → missing ≡ hash_colour s
  unfolding hash_colour
  other-missing n m = pick-false _ _ _ _ (is-no _ _ n) (pick-false _ _ _ _ (is-no _ _ m) refl)

  -- the return where there are neither three nor six digits: no colour
  pub hash-other : ¬ (length s ≡ 3) → ¬ (length s ≡ 6) → None ≡ colour_answer (hash_colour s)
  hash-other n m = no-colour _ (other-missing n m)

  module _ (x : Option ℕ) (ex : x ≡ number_answer (parse_hex 0xffffffff s)) where
    -- a text that is no hexadecimal number is no colour
    pub hash-none : x ≡ None → None ≡ colour_answer (hash_colour s)
    hash-none h = no-colour _ (hash-missing (number-missing x _ ex h))

    module _ (v : ℕ) (h : x ≡ Some v) (w : ℕ) where
      -- the answer for three digits
      pub hash-three : length s ≡ 3 → w ≡ colour_number (three_digits v) → Some w ≡ colour_answer (hash_colour s)
      hash-three l ew = a-colour _ _ w ew (three-found v (number-found x _ ex v h) l)

      -- the answer for six digits
      pub hash-six : length s ≡ 6 → w ≡ colour_number (six_digits v) → Some w ≡ colour_answer (hash_colour s)
      hash-six l ew = a-colour _ _ w ew (six-found v (number-found x _ ex v h) l)

-- ---- `rgb_colour`

-- a number that is read is a byte
pub byte_le : (p : ℕ → Bool) (base : ℕ) (t : List ℕ) (x : Option ℕ) (v : ℕ) → x ≡ number_answer (digits_in p base hex_digit 255 t) → x ≡ Some v → v ≤ 255
byte_le p base t x v e h = read-le p base hex_digit 255 t v (number-found x _ e v h)

module _ (r g b : List ℕ) (x : Option ℕ) (ex : x ≡ number_answer (parse_u8 r)) where
  -- the first is no number
  pub red-none : x ≡ None → None ≡ colour_answer (three_numbers r g b)
  unfolding colour_answer on_found three_numbers rgb_of
  red-none h = rw (number-missing x _ ex h)

  module _ (i : ℕ) (hx : x ≡ Some i) (y : Option ℕ) (ey : y ≡ number_answer (parse_u8 g)) where
    -- where the second is no byte there is no colour
    pub green-none : y ≡ None → None ≡ colour_answer (three_numbers r g b)
    unfolding colour_answer on_found three_numbers rgb_of
    green-none h = rw (number-found x _ ex i hx, number-missing y _ ey h)

    module _ (j : ℕ) (hy : y ≡ Some j) (z : Option ℕ) (ez : z ≡ number_answer (parse_u8 b)) where
      -- where the third is no byte there is no colour
      pub blue-none : z ≡ None → None ≡ colour_answer (three_numbers r g b)
      unfolding colour_answer on_found three_numbers rgb_of
      blue-none h = rw (number-found x _ ex i hx, number-found y _ ey j hy, number-missing z _ ez h)

      -- three bytes are a colour
      pub three-numbers : (k : ℕ) → z ≡ Some k → (w : ℕ) → w ≡ colour_number (rgb i j k) → Some w ≡ colour_answer (three_numbers r g b)
      unfolding colour_answer on_found three_numbers rgb_of
      three-numbers k hz w ew = rw (number-found x _ ex i hx, number-found y _ ey j hy, number-found z _ ez k hz, ew)
