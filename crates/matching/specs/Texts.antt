-- Texts of a page: the words that White_Space parts (`str::split_whitespace`).
use Rattle.std.specs.Prelude.{ℕ, zero, suc, ◌<◌, Bool, true, false, List, [], ◌≡◌, refl, length, take, drop}
use Rattle.combinators.specs.Choice.{pick, or, and, is, within}
use Rattle.combinators.specs.Repeat.{many, took}
use Rattle.combinators.specs.Word.{same_text}
use Rattle.combinators.specs.All.{member}
use Rattle.characters.specs.Literal.{text}
use Rattle.characters.specs.Trim.{white_of, white_taken, trimmed_start, word_of, word_taken}
use Rattle.characters.specs.Utf8.{utf8, continuation, is_continuation, lead_of, two, three, scalar_tail, scalar_by, scalar_of}
use Rattle.characters.specs.WhiteSpace.{is_white_space}

-- the bytes of the word that a text begins with
unfoldable pub word_length : List ℕ → ℕ
word_length s = many word_taken 0 0 s

-- w is one of the words of a text; the number is at least that of its words
unfoldable pub word_among : ℕ → List ℕ → List ℕ → Bool
word_among zero w s = false
word_among (suc k) w s =
    let t = trimmed_start s in
    let n = word_length t in
    pick (is n 0) false (or (same_text (take n t) w) (word_among k w (drop n t)))

-- a word has at least one byte; "Splitting classes at ASCII blanks" would be wrong: "the crate uses Unicode White_Space"
unfoldable pub has_word : List ℕ → List ℕ → Bool
has_word w s = word_among (length s) w s

-- no word is left of a text
pub record NoWord (s : List ℕ) : Type 0 where
  pub none : word_length (trimmed_start s) ≡ 0

-- a word is the first of a text, and some bytes are left behind it
pub record FirstWord (s w others : List ℕ) : Type 0 where
  pub some : ¬ (word_length (trimmed_start s) ≡ 0)
  pub word : w ≡ take (word_length (trimmed_start s)) (trimmed_start s)
  pub left : others ≡ drop (word_length (trimmed_start s)) (trimmed_start s)
  pub shorter : length others < length s

-- U+0085 and U+3000 part words, U+200B does not; the empty text is no word
test_words : (has_word (text "b") (text " a\u{85}b") ≡ true) × (has_word (text "a") (text "a\u{3000}b") ≡ true)
    × (has_word (text "a") (text "a\u{200b}b") ≡ false) × (has_word (text "a\u{200b}b") (text "c a\u{200b}b\t") ≡ true) × (has_word [] (text " a ") ≡ false)
unfolding has_word word_among trimmed_start word_length same_text many took word_taken word_of white_taken white_of text utf8 continuation is_continuation lead_of two three scalar_tail scalar_by scalar_of is_white_space member pick or and is within
test_words = (refl, refl, refl, refl, refl)
