-- Escapes in the terms of CSS Syntax Level 3 (section 4.2, the definitions of hex digit, surrogate and maximum allowed code point;
-- section 4.3.7, Consume an escaped code point), where the reader agrees with the document. Where they part, a law leaves it out or
-- says so: in the document an escape takes one white space behind its digits, takes all of its digits at the end of the text too, and
-- zero stands for U+FFFD.
use Rattle.std.proofs.Common.{Some}
use mathlib.Core.Path.{◌≡◌, refl, ap, sym, ◌∙◌}
use mathlib.Core.List.{List, [], ◌∷◌, ◌++◌}
use mathlib.Core.Bool.{Bool, true, false}
use mathlib.Core.Logic.{◌⊎◌, inl, inr}
use Prim.Native.Nat.{ℕ, zero, suc, ◌+◌, ◌*◌, ◌<◌, ◌≤◌}
use native.Mathlib.Omega.{arith}
use borrow.Author.Tests.{lt-leb, lt-ltb, le-ltb}
use lib.Dec.{ltb}
use lib.ListN.{length, get_or, length-append}
use Rattle.combinators.specs.Choice.{pick, or, and, is, within}
use Prim.Native.Char.{code as ascii}
use Rattle.combinators.proofs.Rules.{within-past, within-yes, pick_true, pick-false, or_left, or_right, or-none, is-no, lt-or-ge, within-false}
use Rattle.characters.specs.Utf8.{is_scalar, or_replacement, replacement_character}
use Rattle.characters.proofs.Scalars.{or-replacement-same}
use Rattle.lexer.specs.Name.{is_nmstart, is_nmchar, folded_char, is_hex_digit, hex_digit, hex_run, maximum_digits, hex_value, escaped_of, ident_escape_of, nmchar_of}
use Rattle.lexer.specs.Number.{is_digit}
use Rattle.lexer.proofs.Escapes.{escaped-hex, short-of}
use Rattle.lexer.proofs.SyntaxName.{Each}
use Rattle.lexer.proofs.SyntaxName.Each.{none, more}

-- hex digit: a digit, or a letter from A to F or from a to f
abbrev pub HexDigits : List ℕ → Type 0
HexDigits ds = Each is_hex_digit ds

-- the number that hex digits write behind those that are worth a, the most significant first
unfoldable pub hexadecimal : ℕ → List ℕ → ℕ
hexadecimal a [] = a
hexadecimal a (d ∷ ds) = hexadecimal (a * 16 + hex_digit d) ds

-- surrogate: from U+D800 to U+DFFF
unfoldable pub surrogate : ℕ → Bool
surrogate n = within n 0xd800 0xdfff

-- maximum allowed code point: the greatest of Unicode, U+10FFFF
abbrev pub maximum_allowed_code_point : ℕ
maximum_allowed_code_point = 0x10ffff

-- U+FFFD for zero, for a surrogate and for what is greater than the maximum allowed code point; else the code point with that value
unfoldable pub code_point : ℕ → ℕ
code_point n = pick (is n 0) replacement_character (or_replacement n)

-- hex digits are counted up to k, or up to a byte that is none
counted : {ds : List ℕ} → HexDigits ds → (i k c : ℕ) (t : List ℕ) → length ds ≤ k → (length ds < k → is_hex_digit c ≡ false)
    → hex_run i k (ds ++ c ∷ t) ≡ i + length ds
unfolding hex_run
counted none i zero c t l e = omega arith
counted none i (suc k) c t l e = sym (pick-false _ _ _ _ (e (omega arith)) (omega arith))
counted (more h hs) i zero c t l e = absurd (omega arith)
counted (more h hs) i (suc k) c t l e =
    sym (pick_true _ _ _ _ h refl) ∙ counted hs (i + 1) k c t (omega arith) (λ q. e (omega arith)) ∙ omega arith

-- and are worth what they write
worth : (ds t : List ℕ) (a : ℕ) → hex_value a (length ds) (ds ++ t) ≡ hexadecimal a ds
unfolding hex_value hexadecimal
worth [] t a = refl
worth (d ∷ ds) t a = worth ds t (a * 16 + hex_digit d)

-- only zero is told apart from what the reader answers
code-point-some : (n : ℕ) → ¬ (n ≡ 0) → or_replacement n ≡ code_point n
unfolding code_point
code-point-some n d = pick-false _ _ _ _ (is-no n 0 d) refl

-- a backslash begins an escape
escape-begins : (l : List ℕ) → nmchar_of (ascii "\\" ∷ l) ≡ escaped_of l
unfolding nmchar_of folded_char is_nmchar is_nmstart is_digit ident_escape_of or and within is pick
escape-begins l = refl

-- the first of one or more is there
first-digit : {ds : List ℕ} → HexDigits ds → 1 ≤ length ds → (l : List ℕ) → is_hex_digit (get_or (ds ++ l) 0 0) ≡ true
first-digit none h l = absurd (omega arith)
first-digit (more e es) h l = e

-- the code point of an escape is the number that its one to six hex digits write; fewer than six end at a byte that is no hex digit.
-- The byte behind them is left to be read, and so is white space, which the document takes with the digits.
pub escaped-code-point : (ds : List ℕ) (c : ℕ) (t : List ℕ) → HexDigits ds → 1 ≤ length ds → length ds ≤ maximum_digits
    → (length ds < maximum_digits → is_hex_digit c ≡ false) → ¬ (hexadecimal 0 ds ≡ 0)
    → nmchar_of (ascii "\\" ∷ (ds ++ c ∷ t)) ≡ Some (record { taken = 1 + length ds; value = code_point (hexadecimal 0 ds) })
escaped-code-point ds c t h some six e d =
    let l = length-append ds (c ∷ t) in
    let run : length ds ≡ hex_run 0 maximum_digits (ds ++ c ∷ t) = sym (counted h 0 maximum_digits c t six e ∙ omega arith) in
    let count = short-of (ds ++ c ∷ t) (length ds) run (λ q. omega arith) in
    let value = sym (code-point-some _ d) ∙ ap or_replacement (sym (worth ds (c ∷ t) 0)) in
    escape-begins (ds ++ c ∷ t)
    ∙ sym (escaped-hex (ds ++ c ∷ t) (λ q. omega arith) _ refl _ refl (first-digit h some (c ∷ t)) (length ds) _ _ count refl value)

-- behind six hex digits an escape ends, whatever follows
pub six-digits : (ds : List ℕ) (c : ℕ) (t : List ℕ) → HexDigits ds → length ds ≡ maximum_digits → ¬ (hexadecimal 0 ds ≡ 0)
    → nmchar_of (ascii "\\" ∷ (ds ++ c ∷ t)) ≡ Some (record { taken = 1 + maximum_digits; value = code_point (hexadecimal 0 ds) })
six-digits ds c t h l d =
    escaped-code-point ds c t h (omega arith) (omega arith) (λ q. absurd (omega arith)) d
    ∙ ap (λ n. Some (record { taken = 1 + n; value = code_point (hexadecimal 0 ds) })) l

-- ---- the code point by the document's three conditions
-- the last two: a surrogate, or greater than the maximum allowed code point
abbrev replaced : ℕ → Bool
replaced n = or (surrogate n) (ltb maximum_allowed_code_point n)

module _ (n : ℕ) where
  -- what is below the surrogates stands for itself
  below-surrogates : n < 0xd800 → or_replacement n ≡ pick (replaced n) replacement_character n
  unfolding surrogate
  below-surrogates h =
      or-replacement-same n (omega arith) ∙ pick-false _ _ _ _ (or-none _ _ (sym (within-false n 0xd800 0xdfff h)) (le-ltb _ n (omega arith))) refl

  -- a surrogate is replaced
  among-surrogates : 0xd800 ≤ n → n < 0xe000 → or_replacement n ≡ pick (replaced n) replacement_character n
  unfolding surrogate or_replacement is_scalar
  among-surrogates h l =
      sym (pick-false _ _ _ _ (or-none _ _ (lt-leb n 0xd7ff h) (sym (within-false n 0xe000 0x10ffff l))) refl)
      ∙ pick_true _ _ _ _ (or_left _ _ (within-yes n 0xd800 0xdfff h (omega arith))) refl

  -- what is above them stands for itself, up to the maximum
  above-surrogates : 0xe000 ≤ n → n ≤ maximum_allowed_code_point → or_replacement n ≡ pick (replaced n) replacement_character n
  unfolding surrogate or_replacement is_scalar
  above-surrogates h l =
      sym (pick_true _ _ _ _ (or_right _ _ (lt-leb n 0xd7ff (omega arith)) (within-yes n 0xe000 0x10ffff h l)) refl)
      ∙ pick-false _ _ _ _ (or-none _ _ (within-past n 0xd800 0xdfff h) (le-ltb _ n l)) refl

  -- what is greater than the maximum is replaced
  above-maximum : maximum_allowed_code_point < n → or_replacement n ≡ pick (replaced n) replacement_character n
  unfolding surrogate or_replacement is_scalar
  above-maximum h =
      sym (pick-false _ _ _ _ (or-none _ _ (lt-leb n 0xd7ff (omega arith)) (within-past n 0xe000 0x10ffff h)) refl)
      ∙ pick_true _ _ _ _ (or_right _ _ (within-past n 0xd800 0xdfff (omega arith)) (lt-ltb _ n h)) refl

  -- so U+FFFD stands for these two and for nothing else
  or-replacement-is : or_replacement n ≡ pick (replaced n) replacement_character n
  or-replacement-is = go (lt-or-ge n 0xd800) (lt-or-ge n 0xe000) (lt-or-ge maximum_allowed_code_point n)
    where
      go : (n < 0xd800) ⊎ (0xd800 ≤ n) → (n < 0xe000) ⊎ (0xe000 ≤ n) → (maximum_allowed_code_point < n) ⊎ (n ≤ maximum_allowed_code_point)
          → or_replacement n ≡ pick (replaced n) replacement_character n
      go (inl a) b c = below-surrogates a
      go (inr a) (inl b) c = among-surrogates a b
      go (inr a) (inr b) (inl c) = above-maximum c
      go (inr a) (inr b) (inr c) = above-surrogates b c

-- two conditions for the same answer are one
either-of : (a b : Bool) (x y : ℕ) → pick a x (pick b x y) ≡ pick (or a b) x y
unfolding pick or
either-of true b x y = refl
either-of false b x y = refl

-- the code point is U+FFFD where the number is zero, a surrogate or greater than the maximum allowed code point, and else the number
pub code-point-conditions : (n : ℕ)
    → code_point n ≡ pick (or (is n 0) (or (surrogate n) (ltb maximum_allowed_code_point n))) replacement_character n
unfolding code_point
code-point-conditions n = ap (pick (is n 0) replacement_character) (or-replacement-is n) ∙ either-of (is n 0) _ _ _

-- `\41 `, `\0000412` and `\D800;`
test-escaped : (nmchar_of (92 ∷ 52 ∷ 49 ∷ 32 ∷ []) ≡ Some (record { taken = 3; value = 0x41 })) × (nmchar_of (92 ∷ 48 ∷ 48 ∷ 48 ∷ 48 ∷ 52 ∷ 49 ∷ 50 ∷ []) ≡ Some (record { taken = 7; value = 0x41 }))
    × (nmchar_of (92 ∷ 68 ∷ 56 ∷ 48 ∷ 48 ∷ 59 ∷ []) ≡ Some (record { taken = 5; value = replacement_character }))
unfolding hexadecimal hex_digit is_hex_digit code_point or_replacement is_scalar or and within is pick
test-escaped = (
  escaped-code-point (52 ∷ 49 ∷ []) 32 [] (more refl (more refl none)) (omega arith) (omega arith) (λ q. refl) (λ q. omega arith),
  six-digits (48 ∷ 48 ∷ 48 ∷ 48 ∷ 52 ∷ 49 ∷ []) 50 [] (more refl (more refl (more refl (more refl (more refl (more refl none)))))) refl (λ q. omega arith),
  escaped-code-point (68 ∷ 56 ∷ 48 ∷ 48 ∷ []) 59 [] (more refl (more refl (more refl (more refl none)))) (omega arith) (omega arith) (λ q. refl) (λ q. omega arith),
)

-- the numbers that `10fFfF` and `09aA` write
test-digits : (hexadecimal 0 (49 ∷ 48 ∷ 102 ∷ 70 ∷ 102 ∷ 70 ∷ []) ≡ 0x10ffff) × (hexadecimal 0 (48 ∷ 57 ∷ 97 ∷ 65 ∷ []) ≡ 0x9aa)
unfolding hexadecimal hex_digit or and within is pick
test-digits = (refl, refl)
