-- White_Space and words: what `str::trim` takes off the start of a text, and where `str::split_whitespace` parts it.
use Rattle.std.specs.Prelude.{ℕ, List, [], ◌∷◌, ◌≡◌, refl, length, drop, Option, Some, None}
use Rattle.combinators.specs.Choice.{pick, or, and, is, within}
use Rattle.combinators.specs.Repeat.{many, took}
use Rattle.combinators.specs.All.{member}
use Rattle.characters.specs.Literal.{text}
use Rattle.characters.specs.Utf8.{utf8, continuation, is_continuation, lead_of, two, three, scalar_tail, scalar_by, scalar_of}
use Rattle.characters.specs.WhiteSpace.{is_white_space}
use Rattle.combinators.specs.declared.taken.Taken.{Taken}

-- one character of White_Space
unfoldable pub white_of : Option (Taken ℕ) → ℕ
white_of (Some c) = pick (is_white_space c.value) c.taken 0
white_of None = 0

unfoldable pub white_taken : List ℕ → ℕ
white_taken s = white_of (scalar_of s)

-- a text without the White_Space that it begins with
unfoldable pub trimmed_start : List ℕ → List ℕ
trimmed_start s = drop (many white_taken 0 0 s) s

-- one character that is no White_Space; a byte that begins no well-formed character counts as one
unfoldable pub word_of : Option (Taken ℕ) → ℕ
word_of (Some c) = pick (is_white_space c.value) 0 c.taken
word_of None = 1

-- at the end of the text there is none
unfoldable pub word_taken : List ℕ → ℕ
word_taken s = pick (is (length s) 0) 0 (word_of (scalar_of s))

-- "é b"; a lone continuation byte before U+3000, and one behind U+00A0; the empty text; U+00A0 and U+3000 before such a byte
test_words : (many word_taken 0 0 (text "é b") ≡ 2) × (many word_taken 0 0 (0x80 ∷ 0xe3 ∷ 0x80 ∷ 0x80 ∷ []) ≡ 1)
    × (many word_taken 0 0 (0xc2 ∷ 0xa0 ∷ 0x80 ∷ []) ≡ 0) × (many word_taken 0 0 [] ≡ 0)
    × (many white_taken 0 0 (0xc2 ∷ 0xa0 ∷ 0xe3 ∷ 0x80 ∷ 0x80 ∷ 0x80 ∷ []) ≡ 5)
unfolding many took word_taken word_of white_taken white_of text utf8 continuation is_continuation lead_of two three scalar_tail scalar_by scalar_of is_white_space member pick or and is within
test_words = (refl, refl, refl, refl, refl)
