-- Colours as CSS 2.1, section 4.3.6, defines them, where the crate agrees: the hexadecimal notation, the names, and rgb() of three integers.
use mathlib.Core.Path.{◌≡◌, refl, sym, ap, ◌∙◌}
use mathlib.Core.Bool.{true, false}
use mathlib.Core.List.{List, [], ◌∷◌}
use Prim.Native.Nat.{ℕ, ◌+◌, ◌*◌, ◌/◌, ◌%◌, ◌≤◌, ◌<◌}
use native.Mathlib.Omega.{arith}
use lib.ListN.{length}
use Prim.Native.Char.{code as ascii}
use Rattle.combinators.specs.Choice as choice
use Rattle.combinators.specs.Choice.{pick, is}
use Rattle.combinators.specs.Word.{same_text}
use Rattle.combinators.specs.All.{All}
use Rattle.combinators.proofs.Rules.{is-no, and_both, and-true, never}
use Rattle.characters.specs.Literal.{text}
use Rattle.characters.specs.Utf8.{utf8, continuation}
use Rattle.lexer.specs.Name.{is_hex_digit, hex_digit}
use Rattle.lexer.specs.Number.{is_digit}
use Rattle.lexer.specs.Token.{function, number, comma, close_round}
use Rattle.lexer.proofs.Escapes.{digit-le}
use Rattle.values.specs.Words.{Entry, found, lookup, on_found}
use Rattle.values.specs.Colour.{rgb, colours, all_of, numeral, without_plus, digits_in, parse_u8, parse_hex, three_digits, six_digits, hash_colour, rgb_of, three_numbers, rgb_colour, colour_of}
use Rattle.values.proofs.ColourLaws.{number_read}

-- ---- the hexadecimal notation
-- a hex digit is no '+'
hex-no-plus : (x : ℕ) → is_hex_digit x ≡ true → is x (ascii "+") ≡ false
hex-no-plus x h = is-no x (ascii "+") (λ e. let p : is_hex_digit (ascii "+") ≡ false = unfold is_hex_digit choice.or choice.and choice.within in refl in never (sym p ∙ ap is_hex_digit (sym e) ∙ h))

-- nor is a decimal digit
digit-no-plus : (x : ℕ) → is_digit x ≡ true → is x (ascii "+") ≡ false
digit-no-plus x h = is-no x (ascii "+") (λ e. let p : is_digit (ascii "+") ≡ false = unfold is_digit choice.and choice.within in refl in never (sym p ∙ ap is_digit (sym e) ∙ h))

-- so digits are read as they are
module _ (x : ℕ) (t : List ℕ) (h : is_hex_digit x ≡ true) where
  -- a text that begins with a hex digit has no '+' to be left out
  digits-whole : without_plus (x ∷ t) ≡ x ∷ t
  unfolding without_plus pick
  digits-whole = rw (hex-no-plus x h)

  -- hex digits that are worth no more than 0xffffffff are read as what they are worth
  hex-read : all_of is_hex_digit t ≡ true → (v : ℕ) → numeral 16 hex_digit 0 (x ∷ t) ≡ v → v ≤ 0xffffffff → parse_hex 0xffffffff (x ∷ t) ≡ found v
  unfolding parse_hex all_of
  hex-read a v e l =
      ap (digits_in is_hex_digit 16 hex_digit 0xffffffff) digits-whole
      ∙ sym (number_read is_hex_digit 16 hex_digit 0xffffffff (x ∷ t) (λ z. omega arith) (and_both _ _ h a) v e l)

module _ (a b c d e f : ℕ) (ha : is_hex_digit a ≡ true) (hb : is_hex_digit b ≡ true) (hc : is_hex_digit c ≡ true) (hd : is_hex_digit d ≡ true) (he : is_hex_digit e ≡ true)
    (hf : is_hex_digit f ≡ true) where
  -- six digits are two for each of red, green and blue
  six-worth : (v : ℕ) → numeral 16 hex_digit 0 (a ∷ b ∷ c ∷ d ∷ e ∷ f ∷ []) ≡ v
      → hash_colour (a ∷ b ∷ c ∷ d ∷ e ∷ f ∷ []) ≡ found (rgb (hex_digit a * 16 + hex_digit b) (hex_digit c * 16 + hex_digit d) (hex_digit e * 16 + hex_digit f))
  unfolding hash_colour six_digits on_found numeral all_of pick is
  six-worth v ev =
      let la = digit-le a in
      let lb = digit-le b in
      let lc = digit-le c in
      let ld = digit-le d in
      let le = digit-le e in
      let lf = digit-le f in
      let r = hex-read a (b ∷ c ∷ d ∷ e ∷ f ∷ []) ha (and_both _ _ hb (and_both _ _ hc (and_both _ _ hd (and_both _ _ he (and_both _ _ hf refl))))) v ev (omega arith) in
      let x : v / 65536 % 256 ≡ hex_digit a * 16 + hex_digit b = omega arith in
      let y : v / 256 % 256 ≡ hex_digit c * 16 + hex_digit d = omega arith in
      let z : v % 256 ≡ hex_digit e * 16 + hex_digit f = omega arith in
      rw (r, x, y, z)

  -- the colour of six hex digits has two of them for each of red, green and blue
  pub six-digits : hash_colour (a ∷ b ∷ c ∷ d ∷ e ∷ f ∷ []) ≡ found (rgb (hex_digit a * 16 + hex_digit b) (hex_digit c * 16 + hex_digit d) (hex_digit e * 16 + hex_digit f))
  six-digits = six-worth _ refl

module _ (a b c : ℕ) (ha : is_hex_digit a ≡ true) (hb : is_hex_digit b ≡ true) (hc : is_hex_digit c ≡ true) where
  -- three digits are one for each, which stands twice
  three-digits : (v : ℕ) → numeral 16 hex_digit 0 (a ∷ b ∷ c ∷ []) ≡ v
      → hash_colour (a ∷ b ∷ c ∷ []) ≡ found (rgb (hex_digit a * 16 + hex_digit a) (hex_digit b * 16 + hex_digit b) (hex_digit c * 16 + hex_digit c))
  unfolding hash_colour three_digits on_found numeral all_of pick is
  three-digits v ev =
      let la = digit-le a in
      let lb = digit-le b in
      let lc = digit-le c in
      let r = hex-read a (b ∷ c ∷ []) ha (and_both _ _ hb (and_both _ _ hc refl)) v ev (omega arith) in
      let x : v / 256 % 16 * 17 ≡ hex_digit a * 16 + hex_digit a = omega arith in
      let y : v / 16 % 16 * 17 ≡ hex_digit b * 16 + hex_digit b = omega arith in
      let z : v % 16 * 17 ≡ hex_digit c * 16 + hex_digit c = omega arith in
      rw (r, x, y, z)

  -- `The three-digit RGB notation (#rgb) is converted into six-digit form (#rrggbb) by replicating digits'
  pub replicated : hash_colour (a ∷ b ∷ c ∷ []) ≡ hash_colour (a ∷ a ∷ b ∷ b ∷ c ∷ c ∷ [])
  replicated = three-digits _ refl ∙ sym (six-digits a a b b c c ha ha hb hb hc hc)

-- ---- the names, with the document's values
abbrev document : List (Entry (List ℕ))
document =
    record { word = text "maroon"; means = text "800000" }
    ∷ record { word = text "red"; means = text "ff0000" }
    ∷ record { word = text "orange"; means = text "ffa500" }
    ∷ record { word = text "yellow"; means = text "ffff00" }
    ∷ record { word = text "olive"; means = text "808000" }
    ∷ record { word = text "purple"; means = text "800080" }
    ∷ record { word = text "fuchsia"; means = text "ff00ff" }
    ∷ record { word = text "white"; means = text "ffffff" }
    ∷ record { word = text "lime"; means = text "00ff00" }
    ∷ record { word = text "green"; means = text "008000" }
    ∷ record { word = text "navy"; means = text "000080" }
    ∷ record { word = text "blue"; means = text "0000ff" }
    ∷ record { word = text "aqua"; means = text "00ffff" }
    ∷ record { word = text "teal"; means = text "008080" }
    ∷ record { word = text "black"; means = text "000000" }
    ∷ record { word = text "silver"; means = text "c0c0c0" }
    ∷ record { word = text "gray"; means = text "808080" }
    ∷ []

-- each name is the colour that the document gives, and there are no others
pub named : All (λ (e : Entry (List ℕ)). lookup e.word colours ≡ hash_colour e.means) document × (length colours ≡ length document)
unfolding lookup same_text rgb hash_colour six_digits on_found parse_hex digits_in without_plus numeral all_of is_hex_digit hex_digit text utf8 continuation choice.pick choice.and choice.or choice.is choice.within
named = ((refl, (refl, (refl, (refl, (refl, (refl, (refl, (refl, (refl, (refl, (refl, (refl, (refl, (refl, (refl, (refl, (refl, tt))))))))))))))))), refl)

-- ---- rgb() of three integers
-- a text of decimal digits that is worth v, up to 255
pub record Integer (t : List ℕ) (v : ℕ) : Type 0 where
  pub some : 0 < length t
  pub digits : all_of is_digit t ≡ true
  pub worth : numeral 10 hex_digit 0 t ≡ v
  pub byte : v ≤ 255

-- digits that are worth at most 255 are read as that byte
integer-read : (t : List ℕ) (v : ℕ) → Integer t v → parse_u8 t ≡ found v
unfolding parse_u8
integer-read [] v h = absurd (omega (arith, h.some))
integer-read (x ∷ t) v h =
    let p : without_plus (x ∷ t) ≡ x ∷ t = unfold without_plus pick in rw (digit-no-plus x (and-true (is_digit x) (all_of is_digit t) (unfold all_of in h.digits)).0) in
    ap (digits_in is_digit 10 hex_digit 255) p ∙ sym (number_read is_digit 10 hex_digit 255 (x ∷ t) (λ z. omega arith) h.digits v h.worth h.byte)

-- three integers in brackets, parted by commas, are red, green and blue
pub functional : (r g b : List ℕ) (x y z : ℕ) → Integer r x → Integer g y → Integer b z
    → colour_of (function (text "rgb") ∷ number r ∷ comma ∷ number g ∷ comma ∷ number b ∷ close_round ∷ []) ≡ found (rgb x y z)
unfolding colour_of rgb_colour three_numbers rgb_of on_found same_text text utf8 continuation pick choice.and choice.is
functional r g b x y z hr hg hb = rw (integer-read r x hr, integer-read g y hg, integer-read b z hb)
