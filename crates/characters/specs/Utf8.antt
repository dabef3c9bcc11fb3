-- UTF-8 by the Unicode Standard, section 3.9: the bytes of a scalar value, the scalar value that a text begins with, and
-- which texts are well formed.
use Rattle.std.specs.Prelude.{ℕ, ◌+◌, ◌*◌, ◌/◌, ◌%◌, Bool, true, false, List, [], ◌∷◌, ◌++◌, ◌≡◌, refl, leb, length, get_or, drop, Option, Some, None}
use Rattle.combinators.specs.Choice.{pick, or, and, is, within}
use Rattle.combinators.specs.Repeat.{many, took}
use Rattle.combinators.specs.declared.taken.Taken.{Taken}
use Rattle.characters.specs.declared.utf8.Lead.{Lead}

-- a scalar value: any code point but the surrogates (D76)
unfoldable pub is_scalar : ℕ → Bool
is_scalar v = or (leb v 0xd7ff) (within v 0xe000 0x10ffff)

abbrev pub replacement_character : ℕ
replacement_character = 0xfffd

-- `char::from_u32(v).unwrap_or('\u{fffd}')`
unfoldable pub or_replacement : ℕ → ℕ
or_replacement v = pick (is_scalar v) v replacement_character

-- a byte behind the first: 10 and the low six bits
unfoldable pub continuation : ℕ → ℕ
continuation v = 0x80 + v % 64

-- the bytes of a scalar value (Table 3-6)
unfoldable pub utf8 : ℕ → List ℕ
utf8 v =
    pick (leb v 0x7f) (v ∷ [])
    (pick (leb v 0x7ff) ((0xc0 + v / 64) ∷ continuation v ∷ [])
    (pick (leb v 0xffff) ((0xe0 + v / 4096) ∷ continuation (v / 64) ∷ continuation v ∷ [])
    ((0xf0 + v / 262144 % 8) ∷ continuation (v / 4096) ∷ continuation (v / 64) ∷ continuation v ∷ [])))

unfoldable pub is_continuation : ℕ → Bool
is_continuation x = within x 0x80 0xbf

-- Table 3-7 above ASCII, a row for each range of first bytes: how many bytes, and from where to where the second goes
unfoldable pub lead_of : ℕ → Option Lead
lead_of x =
    pick (leb x 0xc1) None
    (pick (leb x 0xdf) (Some (record { long = 2; low = 0x80; high = 0xbf }))
    (pick (leb x 0xe0) (Some (record { long = 3; low = 0xa0; high = 0xbf }))
    (pick (leb x 0xec) (Some (record { long = 3; low = 0x80; high = 0xbf }))
    (pick (leb x 0xed) (Some (record { long = 3; low = 0x80; high = 0x9f }))
    (pick (leb x 0xef) (Some (record { long = 3; low = 0x80; high = 0xbf }))
    (pick (leb x 0xf0) (Some (record { long = 4; low = 0x90; high = 0xbf }))
    (pick (leb x 0xf3) (Some (record { long = 4; low = 0x80; high = 0xbf }))
    (pick (leb x 0xf4) (Some (record { long = 4; low = 0x80; high = 0x8f }))
    None))))))))

-- the scalar value of two, three and four bytes
unfoldable pub two : ℕ → ℕ → ℕ
two a b = a % 32 * 64 + b % 64

unfoldable pub three : ℕ → ℕ → ℕ → ℕ
three a b c = a % 16 * 4096 + b % 64 * 64 + c % 64

unfoldable pub four : ℕ → ℕ → ℕ → ℕ → ℕ
four a b c d = a % 8 * 262144 + b % 64 * 4096 + c % 64 * 64 + d % 64

-- what a text begins with whose first two bytes fit a row of the table with so many bytes
unfoldable pub scalar_tail : ℕ → List ℕ → Option (Taken ℕ)
scalar_tail long s =
    let a = get_or s 0 0 in
    let b = get_or s 1 0 in
    let c = get_or s 2 0 in
    let d = get_or s 3 0 in
    pick (is long 2) (Some (record { taken = 2; value = two a b }))
    (pick (is_continuation c)
    (pick (is long 3) (Some (record { taken = 3; value = three a b c }))
    (pick (is_continuation d) (Some (record { taken = 4; value = four a b c d })) None))
    None)

-- what a text begins with, by the row of its first byte
unfoldable pub scalar_by : Option Lead → List ℕ → Option (Taken ℕ)
scalar_by (Some l) s = pick (within (get_or s 1 0) l.low l.high) (scalar_tail l.long s) None
scalar_by None s = None

-- the scalar value that a text begins with, and how many bytes it takes: a byte of ASCII is one by itself
unfoldable pub scalar_of : List ℕ → Option (Taken ℕ)
scalar_of s =
    let a = get_or s 0 0 in
    pick (is (length s) 0) None
    (pick (leb a 0x7f) (Some (record { taken = 1; value = a }))
    (scalar_by (lead_of a) s))

-- the bytes that it takes
unfoldable pub taken_of : {A : Type 0} → Option (Taken A) → ℕ
taken_of (Some c) = c.taken
taken_of None = 0

unfoldable pub scalar_taken : List ℕ → ℕ
scalar_taken s = taken_of (scalar_of s)

-- a text is well formed: scalar values, one behind the other, to its end (D85)
unfoldable pub valid : List ℕ → Bool
valid s = is (many scalar_taken 0 0 s) (length s)

-- the text of scalar values, and what it takes to be one
unfoldable pub encode : List ℕ → List ℕ
encode [] = []
encode (v ∷ vs) = utf8 v ++ encode vs

pub data Scalars : List ℕ → Type 0 where
  none : Scalars []
  more : {v : ℕ} {vs : List ℕ} → is_scalar v ≡ true → Scalars vs → Scalars (v ∷ vs)

-- a place of a text where a scalar value ends, or its start
pub data Cut : List ℕ → ℕ → Type 0 where
  start : {s : List ℕ} → Cut s 0
  behind : {s : List ℕ} {n v k : ℕ} → scalar_of s ≡ Some (record { taken = n; value = v }) → Cut (drop n s) k → Cut s (n + k)

-- `é`, U+FFFD and U+1F600; a surrogate, an overlong `/`, U+110000, a lone continuation byte, a cut sequence and the empty text
test_read : (scalar_of (0xc3 ∷ 0xa9 ∷ 0x78 ∷ []) ≡ Some (record { taken = 2; value = 0xe9 })) × (scalar_of (0xef ∷ 0xbf ∷ 0xbd ∷ []) ≡ Some (record { taken = 3; value = 0xfffd }))
    × (scalar_of (0xf0 ∷ 0x9f ∷ 0x98 ∷ 0x80 ∷ []) ≡ Some (record { taken = 4; value = 0x1f600 })) × (scalar_of (0xed ∷ 0xa0 ∷ 0x80 ∷ []) ≡ None)
    × (scalar_of (0xc0 ∷ 0xaf ∷ []) ≡ None) × (scalar_of (0xf4 ∷ 0x90 ∷ 0x80 ∷ 0x80 ∷ []) ≡ None) × (scalar_of (0x80 ∷ []) ≡ None)
    × (scalar_of (0xe2 ∷ 0x82 ∷ []) ≡ None) × (scalar_of [] ≡ None)
unfolding scalar_of scalar_by scalar_tail lead_of two three four is_continuation pick and is within
test_read = (refl, refl, refl, refl, refl, refl, refl, refl, refl)

test-written : (utf8 0xe9 ≡ 0xc3 ∷ 0xa9 ∷ []) × (utf8 0xfffd ≡ 0xef ∷ 0xbf ∷ 0xbd ∷ []) × (utf8 0x1f600 ≡ 0xf0 ∷ 0x9f ∷ 0x98 ∷ 0x80 ∷ [])
unfolding utf8 continuation pick
test-written = (refl, refl, refl)

test-valid : (valid (0x61 ∷ 0xc3 ∷ 0xa9 ∷ []) ≡ true) × (valid (0xc3 ∷ []) ≡ false) × (valid [] ≡ true)
unfolding valid many took scalar_taken taken_of scalar_of scalar_by scalar_tail lead_of two is_continuation pick and is within
test-valid = (refl, refl, refl)
