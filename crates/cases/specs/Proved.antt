-- The cases that document 01 marks P, in its order, as one list of statements; `all-proved` of proofs/Theorem.antt proves them all.
use Rattle.std.specs.Prelude.{ℕ, Bool, true, false, List, [], ◌∷◌, ◌++◌, ◌≡◌, replicate}
use Prim.Native.Char.{code as ascii}
use Rattle.combinators.specs.Parsed.{ok, on_parsed}
use Rattle.cascade.specs.Cases.{by_type, by_id}
use Rattle.cascade.specs.Record.{main_record, slot_in}
use Rattle.syntax.specs.Style.{agent_origin}
use Rattle.cascade.specs.Slot.{held}
use Rattle.compiled.specs.Number.{number_bytes}
use Rattle.declarations.specs.Attribute.{colour_attribute}
use Rattle.values.specs.Colour.{rgb}
use Rattle.values.specs.Property.{height_of}
use Rattle.declarations.specs.Rules.{declarations_of}
use Rattle.values.specs.Value.{value_of}
use Rattle.values.specs.Words.{Found, found, missing}
use Rattle.lexer.specs.Name.{ident_of}
use Rattle.matching.specs.Matches.{matches}
use Rattle.selectors.specs.Outcome.{reads, on_outcome}
use Rattle.selectors.specs.Selector.{selector_of}
use Rattle.sheets.specs.Sheet.{sheet_of}
use Rattle.syntax.specs.Declaration.{color, unknown}
use Rattle.syntax.specs.Layout.{colour_slot}
use Rattle.syntax.specs.Selector.{element, descendant, none}
use Rattle.characters.specs.Literal.{text}
use Rattle.styles.specs.Computed.{computed_style}
use Rattle.syntax.specs.Style as style
use Rattle.cascade.specs.declared.slots.Cascade.TheVariants.{Crate}
use Rattle.cases.specs.Styled.{sheets_of, element_of, having, by_author, from, styles_on}

-- every statement of a list
abbrev pub All : List (Type 0) → Type 0
All [] = Unit
All (p ∷ ps) = p × All ps

-- 45 zeros
abbrev pub zeros : List ℕ
zeros = replicate 45 (ascii "0")

-- what is read as the height `.`, 45 zeros and the rest
unfoldable pub tiny_height : List ℕ → Found Bool
tiny_height r = on_parsed (value_of (ascii "." ∷ (zeros ++ r))) (λ n v. height_of v.tokens) missing

-- whether the selector s matches an element of a name at a place, in the document
unfoldable pub selects : List ℕ → List ℕ → ℕ → Bool
selects s name place =
    on_outcome (selector_of s) (λ n selector. matches selector.components (record { name = name; attributes = []; place = place } ∷ [])) false (λ p. false)

-- "The P cases form one list with one theorem": each as it stands in the scope, and the statement that it is
abbrev pub cases : List (Type 0)
cases =
    -- `p{color:red}`: one rule, stop 12
    (sheet_of (text "p{color:red}")
    ≡ reads 12
    (record {
      selectors = record { components = element (text "p") ∷ []; pseudo = none } ∷ [];
      declarations = record { decl = color (rgb 255 0 0); important = false; start = 2 } ∷ [];
      start = 0;
    }
    ∷ []))
    -- `p{color:red;;color:blue}q{color:lime}`: no rule, stop 0
    ∷ (sheet_of (text "p{color:red;;color:blue}q{color:lime}") ≡ reads 0 [])
    -- `div *{color:red}` colours the div itself
    ∷ (slot_in (computed_style Crate (sheets_of [] (text "div *{color:red}")) styles_on (element_of (text "div") ∷ [])) main_record colour_slot
    ≡ held (by_author by_type (from 6 (style.colour (rgb 255 0 0)))))
    -- `a/**/b` is a descendant selector
    ∷ (selector_of (text "a/**/b") ≡ reads 6 (record { components = element (text "b") ∷ descendant ∷ element (text "a") ∷ []; pseudo = none }))
    -- Colour `#\+ff` is (0, 255, 255)
    ∷ (colour_attribute (text "#\\+ff") ≡ found (rgb 0 255 255))
    -- `\41` ending the text names U+0004, `1`; before a space it names `A`
    ∷ ((ident_of (text "\\41") ≡ ok 3 (text "\u{4}1")) × (ident_of (text "\\41 ") ≡ ok 3 (text "A")))
    -- Height `.`, 45 zeros, `7px` is zero; with `8` it is not
    ∷ ((tiny_height (text "7px") ≡ found true) × (tiny_height (text "8px") ≡ found false))
    -- `height:0.0px`: unknown declaration
    ∷ (declarations_of (text "height:0.0px")
    ≡ record { declarations = record { decl = unknown (text "height"); important = false; start = 0 } ∷ []; taken = 12 })
    -- `-n+3` matches idx 1, 2, 3, not 4
    ∷ ((selects (text ":nth-child(-n+3)") (text "p") 1 ≡ true) × (selects (text ":nth-child(-n+3)") (text "p") 2 ≡ true)
    × (selects (text ":nth-child(-n+3)") (text "p") 3 ≡ true) × (selects (text ":nth-child(-n+3)") (text "p") 4 ≡ false))
    -- Crate's cascade: agent normal, then author important: agent stays
    ∷ (slot_in (computed_style Crate (sheets_of (text "p{color:red}") (text "p{color:blue!important}")) styles_on (element_of (text "p") ∷ [])) main_record colour_slot
    ≡ held (record { weight = record { important = false; origin = agent_origin; spec = by_type }; value = from 2 (style.colour (rgb 255 0 0)) }))
    -- Crate's cascade: parent coloured by `#id`, child by class, both normal author: the parent's colour stays
    ∷ (slot_in (computed_style Crate (sheets_of [] (text "#id{color:red}.k{color:blue}")) styles_on (having (text "i") (text "class") (text "k") ∷ having (text "p") (text "id") (text "id") ∷ [])) main_record colour_slot
    ≡ held (by_author by_id (from 4 (style.colour (rgb 255 0 0)))))
    -- 127 is 7f, 128 is 80 01, 300 is ac 02
    ∷ ((number_bytes 127 ≡ 0x7f ∷ []) × (number_bytes 128 ≡ 0x80 ∷ 0x01 ∷ []) × (number_bytes 300 ≡ 0xac ∷ 0x02 ∷ []))
    ∷ []
