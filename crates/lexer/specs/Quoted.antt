-- The characters of a quoted string: the loop of `parse_string_token` of src/css/parser.rs, behind the quote.
use Rattle.std.specs.Prelude.{ℕ, List, [], ◌≡◌, refl, length, get_or, Option, Some, None, option_to_list}
use Rattle.combinators.specs.Choice.{pick, is}
use Prim.Native.Char.{code as ascii}
use Rattle.combinators.specs.Repeat.{many, texts, took}
use Rattle.characters.specs.Literal.{text}
use Rattle.characters.specs.Utf8.{utf8, continuation, taken_of}
use Rattle.combinators.specs.declared.taken.Taken.{Taken}
use Rattle.lexer.specs.declared.Written.{Written}

-- n bytes that stand for the byte b, and n that stand for nothing
abbrev pub one_byte : ℕ → ℕ → Taken (Option ℕ)
one_byte n b = record { taken = n; value = Some b }

abbrev pub no_byte : ℕ → Taken (Option ℕ)
no_byte n = record { taken = n; value = None }

-- behind a backslash, where s begins with it: nothing at the end of the text, nothing for a line feed, else the next byte
unfoldable pub escaped_byte : List ℕ → Taken (Option ℕ)
escaped_byte s =
    pick (is (length s) 1) (no_byte 1)
    (pick (is (get_or s 1 0) (ascii "\n")) (no_byte 2)
    (one_byte 2 (get_or s 1 0)))

-- one turn, where q is the quote: it stops at the end of the text, at the quote and at a line feed
unfoldable pub quoted_of : ℕ → List ℕ → Option (Taken (Option ℕ))
quoted_of q s =
    pick (is (length s) 0) None
    (pick (is (get_or s 0 0) q) None
    (pick (is (get_or s 0 0) (ascii "\n")) None
    (pick (is (get_or s 0 0) (ascii "\\")) (Some (escaped_byte s))
    (Some (one_byte 1 (get_or s 0 0))))))

-- the byte, or nothing, as a text
unfoldable pub text_of : Option (Taken (Option ℕ)) → List ℕ
text_of (Some c) = option_to_list c.value
text_of None = []

-- as the code answers: the bytes taken and the length of the text, which lies in the store
unfoldable pub quoted_answer : Option (Taken (Option ℕ)) → Option Written
quoted_answer (Some c) = Some (record { taken = c.taken; length = length (option_to_list c.value) })
quoted_answer None = None

unfoldable pub quoted_taken : ℕ → List ℕ → ℕ
quoted_taken q s = taken_of (quoted_of q s)

unfoldable pub quoted_text : ℕ → List ℕ → List ℕ
quoted_text q s = text_of (quoted_of q s)

-- where the characters of the string end, and their text
unfoldable pub string_end : ℕ → List ℕ → ℕ
string_end q s = many (quoted_taken q) 0 0 s

unfoldable pub string_text : ℕ → List ℕ → List ℕ
string_text q s = texts (quoted_taken q) (quoted_text q) 0 s

-- `a\` ending the text, `a\"b"`, `a\` and a line feed before `b"`, `é"`, and a line feed
test-string : (string_end (ascii "\"") (text "a\\") ≡ 2) × (string_text (ascii "\"") (text "a\\") ≡ text "a")
    × (string_end (ascii "\"") (text "a\\\"b\"") ≡ 4) × (string_text (ascii "\"") (text "a\\\"b\"") ≡ text "a\"b")
    × (string_text (ascii "\"") (text "a\\\nb\"") ≡ text "ab") × (string_text (ascii "\"") (text "é\"") ≡ text "é")
    × (string_end (ascii "\"") (text "a\nb\"") ≡ 1)
unfolding string_end string_text quoted_taken quoted_text taken_of text_of quoted_of escaped_byte many texts took pick is text utf8 continuation
test-string = (refl, refl, refl, refl, refl, refl, refl)
