-- The line that the program prints of compiled bytes: "lower-case hexadecimal pairs parted by spaces on one line".
use Rattle.std.specs.Prelude.{ℕ, ◌+◌, ◌-◌, ◌*◌, ◌/◌, ◌%◌, ◌≤◌, ◌≡◌, refl, List, [], ◌∷◌, ◌++◌, ltb}
use Prim.Native.Char.{code as ascii}
use Rattle.combinators.specs.Choice.{pick}

abbrev pub base : ℕ
base = 16

abbrev pub decimal_base : ℕ
decimal_base = 10

-- what a byte takes of a line: its pair, and the space or the line feed behind it
abbrev pub pair_width : ℕ
pair_width = 3

-- how many bytes are written at once; no compiled sheet has more
abbrev pub piece_length : ℕ
piece_length = 65536

-- the digit of a number below the base
unfoldable pub hex_digit : ℕ → ℕ
hex_digit n = pick (ltb n decimal_base) (ascii "0" + n) (ascii "a" + (n - decimal_base))

-- the two digits of a byte
unfoldable pub hex_pair : ℕ → List ℕ
hex_pair b = hex_digit (b / base) ∷ hex_digit (b % base) ∷ []

-- a space and those of a byte behind others
abbrev pub next_pair : ℕ → List ℕ
next_pair b = ascii " " ∷ hex_pair b

-- pairs parted by spaces
unfoldable pub hex_pairs : List ℕ → List ℕ
hex_pairs [] = []
hex_pairs (b ∷ []) = hex_pair b
hex_pairs (b ∷ c ∷ r) = hex_pair b ++ (ascii " " ∷ hex_pairs (c ∷ r))

-- those of a piece, and a byte that ends them
abbrev pub ended_pairs : List ℕ → ℕ → List ℕ
ended_pairs bytes end = hex_pairs bytes ++ (end ∷ [])

-- those of all bytes, and the end of the line
unfoldable pub hex_line : List ℕ → List ℕ
hex_line bytes = hex_pairs bytes ++ (ascii "\n" ∷ [])

-- a piece of so many bytes, or of none, fits into so much room
abbrev pub RoomFor : ℕ → ℕ → Type 0
RoomFor count room = (1 ≤ room) × (pair_width * count ≤ room)

-- the bytes 0, 15, 160 and 255 are `00 0f a0 ff`
pub case-line : hex_line (0 ∷ 15 ∷ 160 ∷ 255 ∷ [])
    ≡ 0x30 ∷ 0x30 ∷ 0x20 ∷ 0x30 ∷ 0x66 ∷ 0x20 ∷ 0x61 ∷ 0x30 ∷ 0x20 ∷ 0x66 ∷ 0x66 ∷ 0x0a ∷ []
unfolding hex_line hex_pairs hex_pair hex_digit pick
case-line = refl
