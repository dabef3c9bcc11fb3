-- Every colour that is read is made of bytes.
use Prim.Native.Nat.{ℕ, ◌<◌}
use mathlib.Core.Path.{◌≡◌, refl, sym, ap}
use mathlib.Core.Bool.{Bool, true}
use mathlib.Core.List.{List, [], ◌∷◌}
use native.Mathlib.Omega.{arith}
use borrow.Author.Tests.{ltb-true}
use lib.Dec.{ltb}
use Rattle.combinators.specs.Choice.{pick, and}
use Rattle.combinators.specs.Word.{same_text}
use Rattle.combinators.proofs.Rules.{pick-holds, and-true}
use Rattle.lexer.specs.Token.{Token, ident, function, hash, number, comma, close_round}
use Rattle.syntax.specs.Declaration.{Colour}
use Rattle.syntax.proofs.Back.{OfBytes}
use Rattle.values.specs.Words.{Entry, Found, found, missing, lookup, on_found}
use Rattle.lexer.specs.Number.{is_digit}
use Rattle.values.specs.Colour.{without_plus, rgb, colours, parse_u8, parse_hex, three_digits, six_digits, hash_colour, rgb_of, three_numbers, rgb_colour, colour_of, behind_comma, background_of}
use Rattle.values.specs.ColourAnswer.{number_answer}
use Rattle.values.proofs.ColourLaws.{byte_le}
use Rattle.values.proofs.WordLaws.{found-holds, or-holds}

-- what is found is made of bytes
abbrev Bytes : Found Colour → Type 0
Bytes f = (c : Colour) → f ≡ found c → OfBytes c

-- where nothing is found there is nothing to show
none : Bytes missing
none c e = absurd (let z : ◌≡◌ {A = ℕ} 0 1 = cc in omega arith)

-- where a colour of bytes is found, what is found is made of bytes
one : (c : Colour) → OfBytes c → Bytes (found c)
one c h d e = go (let q : c ≡ d = cc in q)
  where
    go : c ≡ d → OfBytes d
    go q = rw (sym q) h

-- of two colours made of bytes either is
of_two : (t : Bool) (f g : Found Colour) → Bytes f → Bytes g → Bytes (pick t f g)
of_two t f g p q = pick-holds Bytes t f g (λ _. p) (λ _. q)

-- by a number, where there is one
by_number : (n : Found ℕ) (f : ℕ → Found Colour) → ((v : ℕ) → n ≡ found v → Bytes (f v)) → Bytes (on_found n f missing)
by_number n f p = found-holds Bytes n f missing p none

-- a colour of three bytes is made of bytes
rgb-of : (r g b : ℕ) → r < 256 → g < 256 → b < 256 → Bytes (found (rgb r g b))
unfolding rgb
rgb-of r g b hr hg hb = one (rgb r g b) (record { red = hr; green = hg; blue = hb })

-- ---- names

-- the three numbers are below 256
unfoldable small : Colour → Bool
small c = and (ltb c.red 256) (and (ltb c.green 256) (ltb c.blue 256))

-- those of every row
unfoldable all_small : List (Entry Colour) → Bool
all_small [] = true
all_small (e ∷ es) = and (small e.means) (all_small es)

-- a colour that passes the test
small_bytes : (c : Colour) → small c ≡ true → OfBytes c
unfolding small
small_bytes c e =
    let p = and-true (ltb c.red 256) _ e in
    let q = and-true (ltb c.green 256) _ p.1 in
    record { red = ltb-true _ _ p.0; green = ltb-true _ _ q.0; blue = ltb-true _ _ q.1 }

-- a table whose rows all pass
table-bytes : (w : List ℕ) (es : List (Entry Colour)) → all_small es ≡ true → Bytes (lookup w es)
unfolding lookup all_small
table-bytes w [] e = none
table-bytes w (r ∷ es) e =
    let p = and-true (small r.means) (all_small es) e in
    or-holds Bytes (same_text w r.word) r.means (lookup w es) (one r.means (small_bytes r.means p.0)) (table-bytes w es p.1)

-- the seventeen names do
names-small : all_small colours ≡ true
unfolding all_small small rgb and
names-small = refl

-- ---- '#'

-- a digit that stands twice is a byte
three-bytes : (v : ℕ) → Bytes (found (three_digits v))
unfolding three_digits
three-bytes v = rgb-of _ _ _ (omega arith) (omega arith) (omega arith)

-- and so are two digits
six-bytes : (v : ℕ) → Bytes (found (six_digits v))
unfolding six_digits
six-bytes v = rgb-of _ _ _ (omega arith) (omega arith) (omega arith)

-- the colour of hex digits behind '#' is of bytes
hash-bytes : (s : List ℕ) → Bytes (hash_colour s)
unfolding hash_colour
hash-bytes s =
    of_two _ _ _ (by_number (parse_hex 0xffffffff s) (λ v. found (three_digits v)) (λ v _. three-bytes v))
    (of_two _ _ _ (by_number (parse_hex 0xffffffff s) (λ v. found (six_digits v)) (λ v _. six-bytes v)) none)

-- ---- `rgb`

-- a number that is read is a byte
byte-lt : (s : List ℕ) (v : ℕ) → parse_u8 s ≡ found v → v < 256
unfolding number_answer on_found parse_u8
byte-lt s v e = omega (arith, byte_le is_digit 10 (without_plus s) (number_answer (parse_u8 s)) v refl (ap number_answer e))

-- a colour of three numbers is made of bytes
numbers-bytes : (r g b : List ℕ) → Bytes (three_numbers r g b)
unfolding three_numbers rgb_of
numbers-bytes r g b =
    by_number (parse_u8 r) _
    (λ x ex. by_number (parse_u8 g) _
    (λ y ey. by_number (parse_u8 b) _ (λ z ez. rgb-of x y z (byte-lt r x ex) (byte-lt g y ey) (byte-lt b z ez))))

-- the tokens behind the name
list-bytes : (ks : List Token) → Bytes (rgb_colour ks)
unfolding rgb_colour
list-bytes (number r ∷ comma ∷ number g ∷ comma ∷ number b ∷ close_round ∷ []) = numbers-bytes r g b
list-bytes _ = none

-- ---- values

-- the colour that `parse_color` reads
pub colour-bytes : (ks : List Token) (c : Colour) → colour_of ks ≡ found c → OfBytes c
unfolding colour_of
colour-bytes (ident b ∷ []) = table-bytes b colours names-small
colour-bytes (hash b ∷ []) = hash-bytes b
colour-bytes (function b ∷ ks) = of_two _ _ _ (list-bytes ks) none
colour-bytes _ = none

-- and the one that `parse_background_color` reads
pub background-bytes : (ks : List Token) (c : Colour) → background_of ks ≡ found c → OfBytes c
unfolding background_of
background-bytes ks = colour-bytes (behind_comma ks ks)
