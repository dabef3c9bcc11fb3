-- The argument of `:nth-child()` is read whole.
use mathlib.Core.Path.{◌≡◌, refl, ap, sym, ◌∙◌}
use mathlib.Core.Bool.{Bool, true, false}
use mathlib.Core.List.{List, [], ◌∷◌, ◌++◌, append_assoc}
use Prim.Native.Nat.{ℕ, suc, ◌+◌, ◌-◌, ◌*◌, ◌≤◌}
use native.Mathlib.Nat.{zero-add, add-zero}
use native.Mathlib.Omega.{arith}
use borrow.Author.Tests.{le-leb}
use lib.IntN.{ℤ, pos}
use lib.ListN.{length, get_or, take, drop, length-append}
use lib.Seq.{drop-append_seam, take-append_seam}
use Prim.Native.Char.{code as ascii}
use Rattle.combinators.specs.Choice.{pick, or, and, is, within}
use Rattle.combinators.specs.Parsed.{ok, on_parsed}
use Rattle.combinators.specs.Repeat.{many, took}
use Rattle.combinators.specs.Word.{starts_with, same_text}
use Rattle.combinators.proofs.Repeats.{many-stop}
use Rattle.combinators.proofs.Lists.{first}
use Rattle.combinators.proofs.Rules.{is-no}
use Rattle.characters.specs.Literal.{text}
use Rattle.characters.specs.Utf8.{utf8, continuation}
use Rattle.lexer.specs.Name.{hex_digit, lower, ident_of}
use Rattle.lexer.specs.Number.{sign, is_digit, one_digit, digits}
use Rattle.lexer.specs.Whitespace.{is_whitespace, comment_of, whitespace_item, skip_whitespace}
use Rattle.lexer.proofs.SyntaxName.{Each, none, more, started, ident_start, ident_code_point, letter, ident-sequence}
use Rattle.lexer.proofs.SyntaxWhitespace.{skips-blank}
use Rattle.syntax.specs.Selector.{Component, nth}
use Rattle.values.specs.Colour.{numeral}
use Rattle.selectors.specs.Outcome as outcome
use Rattle.selectors.specs.Outcome.{Outcome, reads, fails, on_outcome, or_else}
use Rattle.selectors.specs.Selector.{is_minus, is_sign, signed, greatest, converted, both_of, just_a, just_b, worded, nth_of, nth_args_of, pseudo_class_of}
use Rattle.selectors.proofs.NthNumbers.{digits_worth, converted-is}
use Rattle.grammar.specs.Nth.{Blanks, Sign, unsigned, plus, minus, worth, Count, Integer, Argument, even, odd, multiple, sum, number, written_sign, sign_byte, written_argument, negative, means_argument}
use Rattle.grammar.proofs.Places.{differs, Unblank, blank-first, unblank-item, rest-on, rest-one, byte-on}

-- ---- digits
-- digits up to a byte that is none
digits_from : {ds : List ℕ} → Each is_digit ds → (t : List ℕ) (i : ℕ) → is_digit (get_or t 0 0) ≡ false → many one_digit i 0 (ds ++ t) ≡ i + length ds
unfolding many took one_digit pick
digits_from none t i e = many-stop one_digit t i (unfold one_digit pick in rw e) ∙ sym (add-zero i)
digits_from (more {x} {r} h hs) t i e = rw h (digits_from hs t (i + 1) e ∙ omega arith)

-- the same from the start
pub digits-read : {ds : List ℕ} → Each is_digit ds → (t : List ℕ) → is_digit (get_or t 0 0) ≡ false → digits (ds ++ t) ≡ length ds
unfolding digits
digits-read h t e = digits_from h t 0 e ∙ zero-add _

-- the worth of a decimal digit is its distance from `0`
digit-worth : (x : ℕ) → is_digit x ≡ true → hex_digit x ≡ x - ascii "0"
unfolding is_digit hex_digit pick
digit-worth x e = rw e

-- so what digits write is the same number
pub numeral-same : {ds : List ℕ} → Each is_digit ds → (a : ℕ) → numeral 10 hex_digit a ds ≡ numeral 10 (λ d. d - ascii "0") a ds
unfolding numeral
numeral-same none a = refl
numeral-same (more {x} {r} h hs) a = rw (digit-worth x h) (numeral-same hs (a * 10 + (x - ascii "0")))

-- the worth of digits in a text
worth-on : (t : List ℕ) (i : ℕ) (ds r : List ℕ) → Each is_digit ds → drop i t ≡ ds ++ r → digits_worth t i (length ds) ≡ worth ds
worth-on t i [] r h e = unfold digits_worth worth pick is in refl
worth-on t i (x ∷ ds) r h e =
    worth-some t i x ds (ap (take (suc (length ds))) e ∙ take-append_seam (x ∷ ds) r) h
  where
    worth-some : (t : List ℕ) (i x : ℕ) (ds : List ℕ) → take (suc (length ds)) (drop i t) ≡ x ∷ ds → Each is_digit (x ∷ ds) → digits_worth t i (suc (length ds)) ≡ worth (x ∷ ds)
    worth-some t i x ds e h = unfold digits_worth worth pick in rw (is-no (suc (length ds)) 0 (λ z. omega arith), e) (numeral-same h 0)

-- so digits that stand in a text are converted to the number that they write
converted-on : {A : Type 0} (t : List ℕ) (i : ℕ) (c : Count) (r : List ℕ) (m : Bool) (f : ℤ → Outcome A) → drop i t ≡ c.bytes ++ r
    → converted t i (length c.bytes) m f ≡ f (signed m (worth c.bytes))
unfolding pick
converted-on t i c r m f e = converted-is t i (length c.bytes) m f ∙ rw (worth-on t i c.bytes r c.digits e, le-leb (worth c.bytes) greatest c.fits)

-- ---- the sign
-- a byte that begins what stands behind a sign, and one that begins an argument with numbers
unfoldable unsigned_byte : ℕ → Bool
unsigned_byte x = or (is_digit x) (is x (ascii "n"))

unfoldable numeric_byte : ℕ → Bool
numeric_byte x = or (unsigned_byte x) (or (is x (ascii "+")) (is x (ascii "-")))

-- neither sign begins what stands behind a sign
unsigned-others : (unsigned_byte (ascii "+") ≡ false) × (unsigned_byte (ascii "-") ≡ false)
unfolding unsigned_byte is_digit or and within is
unsigned-others = (refl, refl)

record Starts (t : List ℕ) (i : ℕ) (m : Bool) : Type 0 where
  taken : sign t ≡ i
  negates : is_minus t 0 ≡ m
  numeric : numeric_byte (get_or t 0 0) ≡ true

-- a sign or none, before what begins without one
sign_read : (s : Sign) (u : List ℕ) → unsigned_byte (get_or u 0 0) ≡ true → Starts (written_sign s ++ u) (length (written_sign s)) (negative s)
unfolding written_sign negative sign is_sign is_minus numeric_byte pick or
sign_read unsigned u e =
    let p = differs unsigned_byte (get_or u 0 0) (ascii "+") e unsigned-others.0 in
    let m = differs unsigned_byte (get_or u 0 0) (ascii "-") e unsigned-others.1 in
    record { taken = rw (m, p); negates = m; numeric = rw e }
sign_read plus u e = unfold is in record { taken = refl; negates = refl; numeric = unfold unsigned_byte is_digit and within in refl }
sign_read minus u e = unfold is in record { taken = refl; negates = refl; numeric = unfold unsigned_byte is_digit and within in refl }

-- what begins with numbers is no word
no_words : (numeric_byte 0x65 ≡ false) × (numeric_byte 0x6f ≡ false)
unfolding numeric_byte unsigned_byte is_digit or and within is
no_words = (refl, refl)

-- a text with another first byte
pub starts-not : (w : ℕ) (ws t : List ℕ) → is (get_or t 0 0) w ≡ false → starts_with (w ∷ ws) t ≡ false
unfolding starts_with and
starts-not w ws [] e = refl
starts-not w ws (x ∷ t) e = rw e

-- so it is read by its numbers
unworded : (t : List ℕ) → numeric_byte (get_or t 0 0) ≡ true → nth_of t ≡ or_else (both_of t) (or_else (just_a t) (just_b t))
unfolding nth_of worded or_else text utf8 continuation pick
unworded t e =
    rw (
      starts-not 0x65 (0x76 ∷ 0x65 ∷ 0x6e ∷ []) t (differs numeric_byte (get_or t 0 0) 0x65 e no_words.0),
      starts-not 0x6f (0x64 ∷ 0x64 ∷ []) t (differs numeric_byte (get_or t 0 0) 0x6f e no_words.1),
    )

-- ---- an+b, an and b, by what stands behind the sign and the digits
module _ (t : List ℕ) (i n w m : ℕ) (minus₁ : Bool) (hi : sign t ≡ i) (hn : digits (drop i t) ≡ n) (hm : is_minus t 0 ≡ minus₁) where
  -- all of it is there
  both_by : get_or t (i + n) 0 ≡ ascii "n" → skip_whitespace (drop (i + n + 1) t) ≡ w → digits (drop (i + n + 1 + w + 1) t) ≡ m → is_sign t (i + n + 1 + w) ≡ true → 1 ≤ m
      → both_of t
      ≡ converted t i n minus₁
      (λ a. converted t (i + n + 1 + w + 1) m (is_minus t (i + n + 1 + w)) (λ b. reads (i + n + 1 + w + 1 + m) (nth a b)))
  unfolding both_of pick and is
  both_by b e d s l = rw (hi, hn, e, d, b, s, le-leb 1 m l, hm)

  -- no sign behind the `n`
  both-unsigned : get_or t (i + n) 0 ≡ ascii "n" → skip_whitespace (drop (i + n + 1) t) ≡ w → is_sign t (i + n + 1 + w) ≡ false → both_of t ≡ fails
  unfolding both_of pick and is
  both-unsigned b e s = rw (hi, hn, e, b, s)

  -- without `n` there is no an+b
  both-none : is (get_or t (i + n) 0) (ascii "n") ≡ false → both_of t ≡ fails
  unfolding both_of pick and
  both-none b = rw (hi, hn, b)

  -- with `n` behind the digits it is an
  a-by : get_or t (i + n) 0 ≡ ascii "n" → just_a t ≡ converted t i n minus₁ (λ a. reads (i + n + 1) (nth a (pos 0)))
  unfolding just_a pick is
  a-by b = rw (hi, hn, b, hm)

  -- without `n` behind the digits there is no an
  a-none : is (get_or t (i + n) 0) (ascii "n") ≡ false → just_a t ≡ fails
  unfolding just_a pick
  a-none b = rw (hi, hn, b)

  -- digits alone are b
  b-by : 1 ≤ n → just_b t ≡ converted t i n minus₁ (λ b. reads (i + n) (nth (pos 0) b))
  unfolding just_b pick
  b-by l = rw (hi, hn, le-leb 1 n l, hm)

-- ---- what follows the argument: white space or none, and `)`
module _ (c : Blanks) (r : List ℕ) where
  -- the text behind the argument: white space or none, and the closing bracket
  abbrev behind : List ℕ
  behind = c.bytes ++ (ascii ")" ∷ r)

  -- white space begins with no digit
  no_digit : Unblank is_digit
  unfolding is_digit and within
  no_digit = record { of_space = refl; of-tab = refl; of-line-feed = refl; of-carriage-return = refl; of-form-feed = refl; of-solidus = refl }

  -- white space and comments begin with no `n`
  no-n : Unblank (λ x. is x (ascii "n"))
  unfolding is
  no-n = record { of_space = refl; of-tab = refl; of-line-feed = refl; of-carriage-return = refl; of-form-feed = refl; of-solidus = refl }

  -- the closing bracket is no digit
  round-digit : is_digit (ascii ")") ≡ false
  unfolding is_digit and within
  round-digit = refl

  -- nor is it an `n`
  round-n : is (ascii ")") (ascii "n") ≡ false
  unfolding is
  round-n = refl

  -- at the closing bracket no white space begins
  round-item : whitespace_item (ascii ")" ∷ r) ≡ 0
  unfolding whitespace_item is_whitespace comment_of pick or is
  round-item = refl

  -- so digits end before it
  behind-digit : is_digit (get_or behind 0 0) ≡ false
  behind-digit = blank-first is_digit no_digit (ascii ")" ∷ r) c.blank round-digit

  -- and no `n` follows them
  behind-n : is (get_or behind 0 0) (ascii "n") ≡ false
  behind-n = blank-first (λ x. is x (ascii "n")) no-n (ascii ")" ∷ r) c.blank round-n

  -- its white space is passed over
  behind-skips : skip_whitespace behind ≡ length c.bytes
  behind-skips = skips-blank c.bytes (ascii ")" ∷ r) c.blank round-item

-- digits, and what stands behind them
digits-unsigned : {ds : List ℕ} → Each is_digit ds → (u : List ℕ) → unsigned_byte (get_or u 0 0) ≡ true → unsigned_byte (get_or (ds ++ u) 0 0) ≡ true
digits-unsigned none u e = e
digits-unsigned (more h hs) u e = unfold unsigned_byte or in rw h

-- where there are digits they decide
some-unsigned : {ds : List ℕ} → Each is_digit ds → 1 ≤ length ds → (u : List ℕ) → unsigned_byte (get_or (ds ++ u) 0 0) ≡ true
some-unsigned none l u = absurd (omega arith)
some-unsigned (more h hs) l u = unfold unsigned_byte or in rw h

-- an `n` is one such byte
n-unsigned : (u : List ℕ) → unsigned_byte (get_or (ascii "n" ∷ u) 0 0) ≡ true
unfolding unsigned_byte is_digit or and within is
n-unsigned u = refl

-- `n` is no digit
n-digit : is_digit (ascii "n") ≡ false
unfolding is_digit and within
n-digit = refl

-- a byte that is a sign, or none
sign-on : (t : List ℕ) (p : ℕ) (m : Bool) → get_or t p 0 ≡ sign_byte m → (is_sign t p ≡ true) × (is_minus t p ≡ m)
unfolding sign_byte is_sign is_minus or is
sign-on t p true e = rw e (refl, refl)
sign-on t p false e = rw e (refl, refl)

-- a closing bracket is none
unsign-on : (t : List ℕ) (p : ℕ) → get_or t p 0 ≡ ascii ")" → is_sign t p ≡ false
unfolding is_sign is_minus or is
unsign-on t p e = rw e

-- and no sign is white space
sign-item : (m : Bool) (l : List ℕ) → whitespace_item (sign_byte m ∷ l) ≡ 0
unfolding sign_byte whitespace_item is_whitespace comment_of pick or is
sign-item true l = refl
sign-item false l = refl

-- ---- the argument
-- where the first alternative fails the second decides
or_else-second : (a b c : Outcome Component) → a ≡ fails → b ≡ c → or_else a b ≡ c
unfolding or_else
or_else-second a b c e d = rw (e, d)

-- where the first alternative reads it decides
or_else-first : (a b : Outcome Component) (n : ℕ) (x : Component) → a ≡ reads n x → or_else a b ≡ reads n x
unfolding or_else
or_else-first a b n x e = rw e

module _ (c : Blanks) (r : List ℕ) where
  abbrev u : List ℕ
  u = behind c r

  -- an is read whole
  multiple-read : (s : Sign) (a : Count)
      → nth_of (written_sign s ++ (a.bytes ++ (ascii "n" ∷ u)))
      ≡ reads (length (written_sign s) + length a.bytes + 1) (nth (signed (negative s) (worth a.bytes)) (pos 0))
  multiple-read s a =
      let t = written_sign s ++ (a.bytes ++ (ascii "n" ∷ u)) in
      let i = length (written_sign s) in
      let n = length a.bytes in
      let g = sign_read s (a.bytes ++ (ascii "n" ∷ u)) (digits-unsigned a.digits (ascii "n" ∷ u) (n-unsigned u)) in
      let x : drop i t ≡ a.bytes ++ (ascii "n" ∷ u) = drop-append_seam (written_sign s) (a.bytes ++ (ascii "n" ∷ u)) in
      let hn : digits (drop i t) ≡ n = ap digits x ∙ digits-read a.digits (ascii "n" ∷ u) n-digit in
      let y : drop (i + n) t ≡ ascii "n" ∷ u = rest-on t i a.bytes (ascii "n" ∷ u) x in
      let z : drop (i + n + 1) t ≡ u = rest-one t (i + n) (ascii "n") u y in
      let b = byte-on t (i + n) (ascii "n") u y in
      let k = length c.bytes in
      let v : get_or t (i + n + 1 + k) 0 ≡ ascii ")" = byte-on t (i + n + 1 + k) (ascii ")") r (rest-on t (i + n + 1) c.bytes (ascii ")" ∷ r) z) in
      unworded t g.numeric
      ∙ or_else-second (both_of t) (or_else (just_a t) (just_b t)) _
      (both-unsigned t i n k 0 (negative s) g.taken hn g.negates b (ap skip_whitespace z ∙ behind-skips c r) (unsign-on t (i + n + 1 + k) v))
      (or_else-first (just_a t) (just_b t) _ _
      (a-by t i n k 0 (negative s) g.taken hn g.negates b ∙ converted-on t i a (ascii "n" ∷ u) (negative s) (λ a. reads (i + n + 1) (nth a (pos 0))) x))

  -- b is read whole
  number_read : (s : Sign) (b : Integer)
      → nth_of (written_sign s ++ (b.count.bytes ++ u)) ≡ reads (length (written_sign s) + length b.count.bytes) (nth (pos 0) (signed (negative s) (worth b.count.bytes)))
  number_read s b =
      let d = b.count.bytes in
      let t = written_sign s ++ (d ++ u) in
      let i = length (written_sign s) in
      let n = length d in
      let g = sign_read s (d ++ u) (some-unsigned b.count.digits b.some u) in
      let x : drop i t ≡ d ++ u = drop-append_seam (written_sign s) (d ++ u) in
      let hn : digits (drop i t) ≡ n = ap digits x ∙ digits-read b.count.digits u (behind-digit c r) in
      let y : drop (i + n) t ≡ u = rest-on t i d u x in
      let e : is (get_or t (i + n) 0) (ascii "n") ≡ false = ap (λ (l : ℕ). is l (ascii "n")) (sym (first t (i + n)) ∙ ap (λ (l : List ℕ). get_or l 0 0) y) ∙ behind-n c r in
      unworded t g.numeric
      ∙ or_else-second (both_of t) (or_else (just_a t) (just_b t)) _ (both-none t i n 0 0 (negative s) g.taken hn g.negates e)
      (or_else-second (just_a t) (just_b t) _ (a-none t i n 0 0 (negative s) g.taken hn g.negates e)
      (b-by t i n 0 0 (negative s) g.taken hn g.negates b.some ∙ converted-on t i b.count u (negative s) (λ b. reads (i + n) (nth (pos 0) b)) x))

  -- an+b is read whole
  sum-read : (s : Sign) (a : Count) (w : Blanks) (m : Bool) (b : Integer)
      → nth_of (written_sign s ++ (a.bytes ++ (ascii "n" ∷ (w.bytes ++ (sign_byte m ∷ (b.count.bytes ++ u))))))
      ≡ reads (length (written_sign s) + length a.bytes + 1 + length w.bytes + 1 + length b.count.bytes)
      (nth (signed (negative s) (worth a.bytes)) (signed m (worth b.count.bytes)))
  sum-read s a w m b =
      let d = b.count.bytes in
      let v = sign_byte m ∷ (d ++ u) in
      let q = w.bytes ++ v in
      let t = written_sign s ++ (a.bytes ++ (ascii "n" ∷ q)) in
      let i = length (written_sign s) in
      let n = length a.bytes in
      let k = length w.bytes in
      let p = i + n + 1 + k in
      let g = sign_read s (a.bytes ++ (ascii "n" ∷ q)) (digits-unsigned a.digits (ascii "n" ∷ q) (n-unsigned q)) in
      let x : drop i t ≡ a.bytes ++ (ascii "n" ∷ q) = drop-append_seam (written_sign s) (a.bytes ++ (ascii "n" ∷ q)) in
      let hn : digits (drop i t) ≡ n = ap digits x ∙ digits-read a.digits (ascii "n" ∷ q) n-digit in
      let y : drop (i + n) t ≡ ascii "n" ∷ q = rest-on t i a.bytes (ascii "n" ∷ q) x in
      let z : drop (i + n + 1) t ≡ q = rest-one t (i + n) (ascii "n") q y in
      let o : drop p t ≡ v = rest-on t (i + n + 1) w.bytes v z in
      let f : drop (p + 1) t ≡ d ++ u = rest-one t p (sign_byte m) (d ++ u) o in
      let h = sign-on t p m (byte-on t p (sign_byte m) (d ++ u) o) in
      unworded t g.numeric
      ∙ or_else-first (both_of t) (or_else (just_a t) (just_b t)) _ _
      (both_by t i n k (length d) (negative s) g.taken hn g.negates (byte-on t (i + n) (ascii "n") q y) (ap skip_whitespace z ∙ skips-blank w.bytes v w.blank (sign-item m (d ++ u)))
      (ap digits f ∙ digits-read b.count.digits u (behind-digit c r)) h.0 b.some
      ∙ converted-on t i a (ascii "n" ∷ q) (negative s) (λ a. converted t (p + 1) (length d) (is_minus t p) (λ b. reads (p + 1 + length d) (nth a b))) x
      ∙ converted-on t (p + 1) b.count u (is_minus t p) (λ y. reads (p + 1 + length d) (nth (signed (negative s) (worth a.bytes)) y)) f
      ∙ ap (λ (l : Bool). reads (p + 1 + length d) (nth (signed (negative s) (worth a.bytes)) (signed l (worth d)))) h.1)

-- ---- the whole argument
-- white space and comments begin with no byte that begins numbers
numeric-unblank : Unblank numeric_byte
unfolding numeric_byte unsigned_byte is_digit or and within is
numeric-unblank = record { of_space = refl; of-tab = refl; of-line-feed = refl; of-carriage-return = refl; of-form-feed = refl; of-solidus = refl }

-- so numbers begin no white space
numeric-item : (t : List ℕ) {i : ℕ} {m : Bool} → Starts t i m → whitespace_item t ≡ 0
numeric-item t g = unblank-item numeric_byte numeric-unblank t g.numeric

-- neither word begins with white space
word-items : (l : List ℕ) → (whitespace_item (text "even" ++ l) ≡ 0) × (whitespace_item (text "odd" ++ l) ≡ 0)
unfolding whitespace_item is_whitespace comment_of text utf8 continuation pick or is
word-items l = (refl, refl)

-- `even` is 2n, and `odd` is 2n+1
words-read : (l : List ℕ) → (nth_of (text "even" ++ l) ≡ reads (length (text "even")) (nth (pos 2) (pos 0)))
    × (nth_of (text "odd" ++ l) ≡ reads (length (text "odd")) (nth (pos 2) (pos 1)))
unfolding nth_of worded or_else starts_with text utf8 continuation pick and is
words-read l = (refl, refl)

-- what is written, with l behind it
multiple-onto : (s : Sign) (a : Count) (l : List ℕ) → written_argument (multiple s a) ++ l ≡ written_sign s ++ (a.bytes ++ (ascii "n" ∷ l))
unfolding written_argument
multiple-onto s a l =
    append_assoc (written_sign s) (a.bytes ++ (ascii "n" ∷ [])) l ∙ ap (λ (x : List ℕ). written_sign s ++ x) (append_assoc a.bytes (ascii "n" ∷ []) l)

-- an argument `an` is as long as its sign, its digits and the `n`
multiple-length : (s : Sign) (a : Count) → length (written_sign s) + length a.bytes + 1 ≡ length (written_argument (multiple s a))
unfolding written_argument
multiple-length s a = omega (arith, length-append (written_sign s) (a.bytes ++ (ascii "n" ∷ [])), length-append a.bytes (ascii "n" ∷ []))

-- an argument `b` with l behind it is its sign, its digits and l
number-onto : (s : Sign) (b : Integer) (l : List ℕ) → written_argument (number s b) ++ l ≡ written_sign s ++ (b.count.bytes ++ l)
unfolding written_argument
number-onto s b l = append_assoc (written_sign s) b.count.bytes l

-- an argument `b` is as long as its sign and its digits
number-length : (s : Sign) (b : Integer) → length (written_sign s) + length b.count.bytes ≡ length (written_argument (number s b))
unfolding written_argument
number-length s b = sym (length-append (written_sign s) b.count.bytes)

module _ (s : Sign) (a : Count) (w : Blanks) (m : Bool) (b : Integer) where
  -- an argument `an+b` with l behind it is its sign and digits, the `n`, white space, a sign, digits and l
  sum-onto : (l : List ℕ) → written_argument (sum s a w m b) ++ l ≡ written_sign s ++ (a.bytes ++ (ascii "n" ∷ (w.bytes ++ (sign_byte m ∷ (b.count.bytes ++ l)))))
  unfolding written_argument
  sum-onto l =
      let v = sign_byte m ∷ b.count.bytes in
      append_assoc (written_sign s) (a.bytes ++ (ascii "n" ∷ (w.bytes ++ v))) l
      ∙ ap (λ (x : List ℕ). written_sign s ++ x)
      (append_assoc a.bytes (ascii "n" ∷ (w.bytes ++ v)) l ∙ ap (λ (x : List ℕ). a.bytes ++ (ascii "n" ∷ x)) (append_assoc w.bytes v l))

  -- an argument `an+b` is as long as these parts together
  sum-length : length (written_sign s) + length a.bytes + 1 + length w.bytes + 1 + length b.count.bytes ≡ length (written_argument (sum s a w m b))
  unfolding written_argument
  sum-length =
      let v = sign_byte m ∷ b.count.bytes in
      omega (arith, length-append (written_sign s) (a.bytes ++ (ascii "n" ∷ (w.bytes ++ v))), length-append a.bytes (ascii "n" ∷ (w.bytes ++ v)), length-append w.bytes v)

-- it begins no white space
argument-item : (x : Argument) (l : List ℕ) → whitespace_item (written_argument x ++ l) ≡ 0
argument-item even l = unfold written_argument in (word-items l).0
argument-item odd l = unfold written_argument in (word-items l).1
argument-item (multiple s a) l =
    ap whitespace_item (multiple-onto s a l)
    ∙ numeric-item (written_sign s ++ (a.bytes ++ (ascii "n" ∷ l))) (sign_read s (a.bytes ++ (ascii "n" ∷ l)) (digits-unsigned a.digits (ascii "n" ∷ l) (n-unsigned l)))
argument-item (sum s a w m b) l =
    let q = w.bytes ++ (sign_byte m ∷ (b.count.bytes ++ l)) in
    ap whitespace_item (sum-onto s a w m b l)
    ∙ numeric-item (written_sign s ++ (a.bytes ++ (ascii "n" ∷ q))) (sign_read s (a.bytes ++ (ascii "n" ∷ q)) (digits-unsigned a.digits (ascii "n" ∷ q) (n-unsigned q)))
argument-item (number s b) l =
    ap whitespace_item (number-onto s b l)
    ∙ numeric-item (written_sign s ++ (b.count.bytes ++ l)) (sign_read s (b.count.bytes ++ l) (some-unsigned b.count.digits b.some l))

-- any argument of the grammar is read whole
argument-read : (x : Argument) (c : Blanks) (r : List ℕ) → nth_of (written_argument x ++ (c.bytes ++ (ascii ")" ∷ r))) ≡ reads (length (written_argument x)) (means_argument x)
unfolding means_argument
argument-read even c r = unfold written_argument in (words-read (c.bytes ++ (ascii ")" ∷ r))).0
argument-read odd c r = unfold written_argument in (words-read (c.bytes ++ (ascii ")" ∷ r))).1
argument-read (multiple s a) c r =
    ap nth_of (multiple-onto s a (c.bytes ++ (ascii ")" ∷ r))) ∙ multiple-read c r s a
    ∙ ap (λ (n : ℕ). reads n (nth (signed (negative s) (worth a.bytes)) (pos 0))) (multiple-length s a)
argument-read (sum s a w m b) c r =
    ap nth_of (sum-onto s a w m b (c.bytes ++ (ascii ")" ∷ r))) ∙ sum-read c r s a w m b
    ∙ ap (λ (n : ℕ). reads n (nth (signed (negative s) (worth a.bytes)) (signed m (worth b.count.bytes)))) (sum-length s a w m b)
argument-read (number s b) c r =
    ap nth_of (number-onto s b (c.bytes ++ (ascii ")" ∷ r))) ∙ number_read c r s b
    ∙ ap (λ (n : ℕ). reads n (nth (pos 0) (signed (negative s) (worth b.count.bytes)))) (number-length s b)

-- ---- `nth-child(`, the argument, and `)`
-- a bracket, white space, an argument, white space and a bracket are read as the argument
args_by : (t : List ℕ) (w n : ℕ) (x : Component) (k : ℕ) → get_or t 0 0 ≡ ascii "(" → 1 + skip_whitespace (drop 1 t) ≡ w → nth_of (drop w t) ≡ reads n x
    → skip_whitespace (drop (w + n) t) ≡ k → get_or t (w + n + k) 0 ≡ ascii ")" → nth_args_of t ≡ reads (w + n + k + 1) x
unfolding nth_args_of on_outcome pick is
args_by t w n x k o e p d b = rw (o, e, p, d, b)

-- so in brackets, with white space or none around it
pub args_read : (b : Blanks) (x : Argument) (c : Blanks) (r : List ℕ)
    → nth_args_of (ascii "(" ∷ (b.bytes ++ (written_argument x ++ (c.bytes ++ (ascii ")" ∷ r)))))
    ≡ reads (1 + length b.bytes + length (written_argument x) + length c.bytes + 1) (means_argument x)
args_read b x c r =
    let v = ascii ")" ∷ r in
    let u = c.bytes ++ v in
    let a = written_argument x in
    let t = ascii "(" ∷ (b.bytes ++ (a ++ u)) in
    let w = 1 + length b.bytes in
    let d : drop w t ≡ a ++ u = rest-on t 1 b.bytes (a ++ u) refl in
    let e : drop (w + length a) t ≡ u = rest-on t w a u d in
    args_by t w (length a) (means_argument x) (length c.bytes) refl (ap (λ (n : ℕ). 1 + n) (skips-blank b.bytes (a ++ u) b.blank (argument-item x u)))
    (ap nth_of d ∙ argument-read x c r) (ap skip_whitespace e ∙ skips-blank c.bytes v c.blank (round-item c r))
    (byte-on t (w + length a + length c.bytes) (ascii ")") r (rest-on t (w + length a) c.bytes v e))

-- the name, before the bracket
child-name : (l : List ℕ) → ident_of (text "nth-child" ++ (ascii "(" ∷ l)) ≡ ok 9 (text "nth-child")
unfolding text utf8 continuation lower pick and is ident_code_point ident_start letter or within
child-name l =
    ident-sequence (text "nth-child") (ascii "(" ∷ l)
    (started refl (more refl (more refl (more refl (more refl (more refl (more refl (more refl (more refl none)))))))))
    refl (λ q. omega arith)

-- so the pseudo class is read where its argument is
pub pseudo-by : (l : List ℕ) (n : ℕ) (c : Component) → nth_args_of (ascii "(" ∷ l) ≡ reads n c
    → pseudo_class_of (ascii ":" ∷ (text "nth-child" ++ (ascii "(" ∷ l))) ≡ reads (10 + n) c
unfolding pseudo_class_of on_parsed outcome.behind on_outcome same_text text utf8 continuation pick and is
pseudo-by l n c e = rw (child-name l, e)
