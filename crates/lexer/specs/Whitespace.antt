-- White space and comments: `match_comment`, `match_whitespace_item` and `skip_optional_whitespace` of src/css/parser.rs.
use Rattle.std.specs.Prelude.{ℕ, ◌+◌, Bool, List, [], ◌∷◌, ◌≡◌, refl, get_or, drop}
use Rattle.combinators.specs.Choice.{pick, or, and, is}
use Prim.Native.Char.{code as ascii}
use Rattle.combinators.specs.Repeat.{many, took}
use Rattle.characters.specs.Literal.{text}
use Rattle.characters.specs.Utf8.{utf8, continuation}

-- where the first "*/" ends, counted on from i; 0 where there is none (`take_until("*/")`, then `tag("*/")`)
unfoldable pub comment_end : ℕ → List ℕ → ℕ
comment_end i [] = 0
comment_end i (x ∷ r) =
    let more = comment_end (i + 1) r in
    pick (and (is x (ascii "*")) (is (get_or r 0 0) (ascii "/"))) (i + 2) more

-- `match_comment`: the bytes of the comment that a text begins with; 0 where it begins with none
unfoldable pub comment_of : List ℕ → ℕ
comment_of s = pick (is (get_or s 0 0) (ascii "/")) (pick (is (get_or s 1 0) (ascii "*")) (comment_end 2 (drop 2 s)) 0) 0

-- `one_of(" \t\r\n\x0c")`; not White_Space (crates/characters/specs/WhiteSpace.antt): five characters of ASCII
unfoldable pub is_whitespace : ℕ → Bool
is_whitespace x = or (is x (ascii " ")) (or (is x (ascii "\t")) (or (is x (ascii "\r")) (or (is x (ascii "\n")) (is x (ascii "\u{c}")))))

-- `match_whitespace_item`: one character of white space, or a comment
unfoldable pub whitespace_item : List ℕ → ℕ
whitespace_item s = pick (is_whitespace (get_or s 0 0)) 1 (comment_of s)

-- `skip_optional_whitespace`: how many bytes of white space and comments a text begins with
unfoldable pub skip_whitespace : List ℕ → ℕ
skip_whitespace s = many whitespace_item 0 0 s

-- " \t/* x */ /**/a"; an unclosed comment and "/*/" are none
test-skip : (skip_whitespace (text " \t/* x */ /**/a") ≡ 14)
    × (skip_whitespace (text " /* x * /") ≡ 1) × (skip_whitespace (text "/*/") ≡ 0)
unfolding skip_whitespace many took whitespace_item comment_of comment_end is_whitespace pick or and is text utf8 continuation
test-skip = (refl, refl, refl)
