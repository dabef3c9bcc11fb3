-- S-3: "A start points at what it says: for a declaration read from a sheet, the bytes from its start on read as its name (a law over all sheets)." What that says of a
-- declaration and of a style; the laws are those of proofs/StartsRead.antt.
use Rattle.std.specs.Prelude.{◌≡◌, refl, true, false, List, [], ◌∷◌, ℕ, drop}
use Rattle.combinators.specs.All.{All}
use Rattle.combinators.specs.Parsed.{ok}
use Rattle.lexer.specs.Name.{ident_of}
use Rattle.lexer.specs.Token.{Token}
use Rattle.lexer.specs.Whitespace.{skip_whitespace}
use Rattle.syntax.specs.Declaration.{Declaration, color}
use Rattle.syntax.specs.Selector.{RuleSet, element, none}
use Rattle.syntax.specs.Style.{StyleDecl, display_none}
use Rattle.values.specs.Property.{decl_of}
use Rattle.declarations.specs.Rules.{declaration_of}
use Rattle.declarations.specs.Styles.{style_of, zero_height, styles_of}
use Rattle.combinators.specs.Choice as choice
use Rattle.combinators.specs.Parsed as parsed
use Rattle.combinators.specs.Repeat as repeat
use Rattle.combinators.specs.Word as word
use Rattle.characters.specs.Literal as literal
use Rattle.characters.specs.Utf8 as utf8
use Rattle.lexer.specs.Name as name
use Rattle.lexer.specs.Number as number
use Rattle.lexer.specs.Token as token
use Rattle.lexer.specs.TokenRow as row
use Rattle.lexer.specs.Whitespace as whitespace
use Rattle.values.specs.Colour as colour
use Rattle.values.specs.Property as property
use Rattle.declarations.specs.Rules as rules
use Rattle.values.specs.Value as value
use Rattle.values.specs.Words as words
use Rattle.selectors.specs.Outcome as outcome
use Rattle.selectors.specs.Selector as selector
use Rattle.selectors.specs.SelectorList as selector_list
use Rattle.sheets.specs.Sheet as sheet

-- a declaration of the text s stands where it says: at its start is no white space and no comment, the bytes from there on read as a name, it is the declaration of the
-- property of that name with some value, and the reader of declarations, handed these bytes, reads it at the first of them
pub record ReadsAtStart (s : List ℕ) (d : Declaration) : Type 0 where
  -- its property's name and how many bytes that takes, the tokens of its value, and the bytes of all
  pub name : List ℕ
  pub taken : ℕ
  pub value : List Token
  pub whole : ℕ
  pub directly : skip_whitespace (drop d.start s) ≡ 0
  pub named : ident_of (drop d.start s) ≡ ok taken name
  pub of-name : d.decl ≡ decl_of name value
  pub declares : declaration_of (drop d.start s) ≡ ok whole (record { decl = d.decl; important = d.important; start = 0 })

-- every declaration of every rule of a sheet with the text s stands where it says
abbrev pub SheetReadsAtStarts : List ℕ → List RuleSet → Type 0
SheetReadsAtStarts s rs = All (λ r. All (ReadsAtStart s) r.declarations) rs

-- ---- styles
-- what a declaration asks for: the style that it asks for by itself, or, where it sets a height to zero, the display that is made from that
pub data AsksFor (d : Declaration) : StyleDecl → Type 0 where
  itself : {x : StyleDecl} → style_of d.important d.start d.decl ≡ x ∷ [] → AsksFor d x
  zero-height : zero_height d.decl ≡ true → AsksFor d (record { value = record { style = display_none; start = d.start }; important = false })

-- a style that a declaration asks for of which P holds, and that starts where that does
pub record AskedFor (P : Declaration → Type 0) (x : StyleDecl) : Type 0 where
  pub declaration : Declaration
  pub holds : P declaration
  pub asks : AsksFor declaration x
  pub same_start : x.value.start ≡ declaration.start

-- every style of every rule of a sheet with the text s starts where a declaration stands that asks for it
abbrev pub SheetStylesRead : List ℕ → List RuleSet → Type 0
SheetStylesRead s rs = All (λ r. All (AskedFor (ReadsAtStart s)) (styles_of r.declarations)) rs

-- ---- a sheet with white space, comments and an escape: ` /**/p{ /*c*/\63olor:red}`
unfoldable escaped : List ℕ
escaped = literal.text " /**/p{ /*c*/\\63olor:red}"

-- its declaration starts at the backslash, and the seven bytes from there on read as its property's name
case-start :
    (sheet.sheet_of escaped
    ≡ outcome.reads 25 (record {
      selectors = record { components = element (literal.text "p") ∷ []; pseudo = none } ∷ [];
      declarations = record { decl = color (colour.rgb 255 0 0); important = false; start = 13 } ∷ [];
      start = 5;
    } ∷ []))
    × (ident_of (drop 13 escaped) ≡ ok 7 (literal.text "color"))
unfolding escaped outcome.on_outcome outcome.behind outcome.parsed outcome.or_else selector.class_of selector.hash_of selector.attr_of selector.pseudo_class_of selector.marked selector.blank_of selector.component_of selector.components_of selector.components_from selector.some_of selector.with_element_of selector.without_element_of selector.body_of selector.without_blank selector.pseudo_of selector.pseudo_taken selector.selector_of sheet.spaced sheet.before_end sheet.past_semicolon sheet.block_of sheet.ruleset_of sheet.at_rule_of sheet.statements_of sheet.moved_by sheet.sheet_from sheet.sheet_of selector_list.more_selectors selector_list.more_from selector_list.selectors_of choice.pick choice.or choice.and choice.is choice.within parsed.on_parsed parsed.behind repeat.took repeat.many repeat.texts word.starts_with word.same_text literal.text utf8.is_scalar utf8.or_replacement utf8.utf8 utf8.taken_of name.is_nmstart name.is_nmchar name.lower name.folded_char name.is_hex_digit name.hex_digit name.hex_run name.hex_count name.hex_value name.escaped_of name.ident_escape_of name.nmstart_of name.nmchar_of name.bytes_of name.char_taken name.char_text name.chars_end name.chars_text name.name_from name.dash name.name_of name.ident_of token.ident_like_of token.is_ident_start token.mark_of token.token_with token.token_at token.token_of token.is_quote whitespace.comment_end whitespace.comment_of whitespace.is_whitespace whitespace.whitespace_item whitespace.skip_whitespace colour.rgb colour.colour_of property.decl_of rules.colon_behind rules.property_of rules.value_behind rules.declaration_of rules.starts_at rules.more_rules rules.declarations_of value.bracket_of value.closing value.ending value.step_of value.stop value.cons value.on_step value.scan value.statement_of value.tokens_of value.is_mark value.marked value.value_from value.value_of words.is_word words.is_delim words.lookup words.on_found utf8.scalar_of utf8.scalar_by utf8.lead_of token.coded number.is_digit row.columns_of token.text_of
case-start = (refl, refl)
