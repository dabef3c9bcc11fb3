-- How the code reads a value: the number, and then what stands behind it. The unit's name goes to the text store.
use Rattle.std.specs.Prelude.{ℕ, Option, None, Result, Ok, List, [], get_or, drop}
use Prim.Native.Char.{code as ascii}
use Rattle.combinators.specs.Choice.{pick, is}
use Rattle.combinators.specs.Parsed.{on_parsed}
use Rattle.lexer.specs.Name.{ident_of, name_text}
use Rattle.lengths.specs.Number.{number, text_start}
use Rattle.lengths.specs.Length.{dimension_length, number_length, only_whitespace}
use Rattle.lengths.specs.declared.answers.Length.{Length}
use Rattle.lengths.specs.declared.answers.LengthError.{LengthError}

-- a number, of a token that starts at a place, with what stands behind it: a unit or none, and nothing but white space
unfoldable pub length_behind : ℕ → List ℕ → List ℕ → Result (Option Length) LengthError
length_behind place n t =
    on_parsed (ident_of t) (λ m unit. pick (only_whitespace (drop m t)) (dimension_length place n unit) (Ok None)) (pick (only_whitespace t) (number_length n) (Ok None))

-- the name behind a number of n bytes, unless a '%' stands there
unfoldable pub name_behind : List ℕ → ℕ → List ℕ
name_behind t n = pick (is n 0) [] (pick (is (get_or t n 0) (ascii "%")) [] (name_text (ident_of (drop n t))))

-- the name that reading a value leaves at the start of the text store
unfoldable pub unit_text : List ℕ → List ℕ
unit_text s =
    let t = drop (text_start s) s in
    name_behind t (number t)
