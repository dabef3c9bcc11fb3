-- A run, computed: over rows and a state full of 255, down an accepted page with content of another kind between elements, to depth 5 and back.
use Rattle.std.specs.Prelude.{ℕ, ◌*◌, Bool, true, false, List, [], ◌∷◌, ◌++◌, map, ◌≡◌, refl, pos, replicate}
use Rattle.combinators.specs.All as all
use Rattle.combinators.specs.Choice as choice
use Rattle.combinators.specs.Parsed as parsed
use Rattle.combinators.specs.Part as part
use Rattle.combinators.specs.Refusal.{no_refusal}
use Rattle.combinators.specs.Repeat as repeat
use Rattle.combinators.specs.Word as word
use Rattle.characters.specs.Literal as literal
use Rattle.characters.specs.Utf8 as utf8
use Rattle.lexer.specs.Name as name
use Rattle.lexer.specs.Number as number
use Rattle.lexer.specs.Quoted as quoted
use Rattle.lexer.specs.Token as token
use Rattle.lexer.specs.TokenRow as row
use Rattle.lexer.specs.Whitespace as whitespace
use Rattle.syntax.specs.Layout as layout
use Rattle.syntax.specs.RuleLayout as rule_layout
use Rattle.syntax.specs.Stream as stream
use Rattle.values.specs.Property as property
use Rattle.values.specs.Value as value
use Rattle.values.specs.Words as words
use Rattle.declarations.specs.Attribute as attribute
use Rattle.declarations.specs.Rules as rules
use Rattle.declarations.specs.Styles as styles
use Rattle.cascade.specs.Specificity as specificity
use Rattle.cascade.specs.Slot as slot
use Rattle.cascade.specs.Record as style
use Rattle.cascade.specs.Row as style_row
use Rattle.matching.specs.Matches as matching
use Rattle.matching.specs.Nth as nth
use Rattle.matching.specs.Specificity as counts
use Rattle.styles.specs.Merged as merged
use Rattle.styles.specs.Said as said
use Rattle.syntax.specs.declared.styles.Value.{Value}
use Rattle.styles.specs.StyleCall as call
use Rattle.syntax.specs.Signed as signed
use Rattle.page.specs.Accepted as accepted
use Rattle.page.specs.Ancestors as ancestors
use Rattle.page.specs.PathOf as paths
use Rattle.page.specs.Rows as page
use Rattle.compiled.specs.Decoded as decoded
use Rattle.compiled.specs.Number as numbers
use Rattle.compiled.specs.Text as spans
use Rattle.compiled.specs.Component as components
use Rattle.compiled.specs.Style as compiled_styles
use Rattle.compiled.specs.Sheet as compiled_sheet
use Rattle.runner.specs.Walked as walked
use Rattle.segments.specs.Segments as segments
use Rattle.segments.specs.Sweep as sweep
use Rattle.segments.specs.Before as segment_before
use Rattle.segments.specs.Placed as placed
use Rattle.segments.specs.Visits as visits
use Rattle.segments.specs.Pass as pass
use Rattle.segments.specs.Document as document
use Rattle.segments.specs.Down as down
use Rattle.runner.specs.State as state
use Rattle.runner.specs.PageRows as page_rows
use Rattle.runner.specs.Run as run
use Rattle.syntax.specs.Declaration.{pre}
use Rattle.syntax.specs.Layout.{colour_slot, white_space_slot, content_slot}
use Rattle.syntax.specs.Selector.{element, child, descendant, nth, none, before}
use Rattle.syntax.specs.Style as kinds
use Rattle.syntax.specs.Style.{agent_origin, author_origin, StyleDecl}
use Rattle.cascade.specs.Cases.{red}
use Rattle.cascade.specs.Record.{main_record, before_record}
use Rattle.cascade.specs.Row.{slot_width, style_row_width}
use Rattle.page.specs.Rows.{element_kind}
use Rattle.compiled.specs.Sheet.{CompiledSelector}
use Rattle.page.specs.Lent.{Page}
use Rattle.page.specs.Cases.{other_row}
use Rattle.runner.specs.Run.{Running}
use Rattle.runner.specs.State.{part_width}

-- ---- the sheet

-- the agent's `a{white-space:pre}`
abbrev preserved : CompiledSelector StyleDecl
preserved =
    record { origin = agent_origin; pseudo = none; components = element (literal.text "a") ∷ []; styles = record { value = record { style = kinds.white_space pre; start = 2 }; important = false } ∷ [] }

-- the author's `a>b:nth-child(2)>c e{color:red}`
abbrev coloured : CompiledSelector StyleDecl
coloured =
    record {
      origin = author_origin;
      pseudo = none;
      components =
          element (literal.text "e") ∷ descendant ∷ element (literal.text "c") ∷ child ∷ nth (pos 0) (pos 2) ∷ element (literal.text "b") ∷ child ∷ element (literal.text "a") ∷ [];
      styles = record { value = record { style = kinds.colour (record { red = 255; green = 0; blue = 0 }); start = 21 }; important = false } ∷ [];
    }

-- the author's `a b>c>d::before{content:'r'}`
abbrev quoted-before : CompiledSelector StyleDecl
quoted-before =
    record {
      origin = author_origin;
      pseudo = before;
      components = element (literal.text "d") ∷ child ∷ element (literal.text "c") ∷ child ∷ element (literal.text "b") ∷ descendant ∷ element (literal.text "a") ∷ [];
      styles = record { value = record { style = kinds.content (literal.text "r"); start = 16 }; important = false } ∷ [];
    }

unfoldable sheet_bytes : List ℕ
sheet_bytes = compiled_sheet.encode (preserved ∷ coloured ∷ quoted-before ∷ [])

-- ---- the page: the document; a; other content; b; other content; b with a content of its own; c, d and e each in the one before; a in the document
unfoldable some_text : List ℕ
some_text = literal.text "abbstylecontent:'xy'cdea"

-- an element with a name of one byte at a start and its attributes from a row on
abbrev element_row : ℕ → ℕ → ℕ → ℕ → List ℕ
element_row parent start first count = element_kind ∷ parent ∷ start ∷ 1 ∷ first ∷ count ∷ []

unfoldable some_page : Page
some_page =
    record {
      nodes =
          replicate 6 0 ++ (element_row 0 0 0 0 ++ (other_row 1 ++ (element_row 1 1 0 0 ++ (other_row 1 ++ (element_row 1 2 0 1 ++ (element_row 5 20 1 0 ++ (element_row 6 21 1 0 ++ (element_row 7 22 1 0 ++ element_row 0 23 1 0))))))));
      attributes = 3 ∷ 5 ∷ 8 ∷ 12 ∷ [];
      text = some_text;
    }

-- ---- what is looked at in a row: two slots of the element's own record, its content as text, whether it has a record for ::before, and that one's content
record View : Type 0 where
  colour : List ℕ
  white_space : List ℕ
  content : List ℕ
  before-present : Bool
  before-content : List ℕ

unfoldable text_of : List ℕ → slot.Slot Value → List ℕ
text_of t slot.empty = []
text_of t (slot.held c) = part.part t c.value.number c.value.second

unfoldable text_in : List ℕ → style.ComputedStyle Value → ℕ → List ℕ
text_in t s r = text_of t (style.slot_in s r content_slot)

unfoldable view_at : List ℕ → Running → ℕ → View
view_at code r i =
    let s = style_row.style_at (page_rows.style_row_at r.rows i) in
    record {
      colour = style_row.slot_numbers (style.slot_in s main_record colour_slot);
      white_space = style_row.slot_numbers (style.slot_in s main_record white_space_slot);
      content = text_in (code ++ r.texts) s main_record;
      before-present = s.before.present;
      before-content = text_in (code ++ r.texts) s before_record;
    }

-- the run, where everything that is lent is full of 255, and the one without document styles
unfoldable run_with : Bool → Running
run_with on =
    run.run_of sheet_bytes (record { document_styles = on }) some_page (replicate (10 * style_row_width) 255) (replicate (65 * part_width sheet_bytes) 255)

abbrev some_run : Running
some_run = run_with true

abbrev plain_run : Running
plain_run = run_with false

abbrev unset : List ℕ
unset = replicate slot_width 0

-- a slot filled by the agent's selector, and one by the author's
abbrev by_agent : List ℕ
by_agent = 1 ∷ agent_origin ∷ 0 ∷ 0 ∷ 0 ∷ 1 ∷ 0 ∷ 1 ∷ 0 ∷ 2 ∷ []

abbrev by_author : List ℕ
by_author = 1 ∷ author_origin ∷ 0 ∷ 0 ∷ 1 ∷ 4 ∷ 0 ∷ red ∷ 0 ∷ 21 ∷ []

abbrev zeros : View
zeros = record { colour = unset; white_space = unset; content = []; before-present = false; before-content = [] }

abbrev plain : List ℕ → View
plain x = record { colour = unset; white_space = by_agent; content = x; before-present = false; before-content = [] }

-- the page is accepted; the second b counts as second child though other content lies between; its own content and what d has before it go down to e, which
-- alone is coloured; the last a has none of that. Without document styles b has no content, and there are no texts. By the selectors that match, the rows of the page are those of the run.
test-run : (accepted.page_refusal some_page.nodes some_page.attributes some_page.text ≡ no_refusal)
    × (map (view_at sheet_bytes some_run) (0 ∷ 1 ∷ 2 ∷ 3 ∷ 4 ∷ 5 ∷ 6 ∷ 7 ∷ 8 ∷ 9 ∷ [])
    ≡ zeros ∷ plain [] ∷ zeros ∷ plain [] ∷ zeros ∷ plain (literal.text "xy") ∷ plain (literal.text "xy")
    ∷ record { colour = unset; white_space = by_agent; content = literal.text "xy"; before-present = true; before-content = literal.text "r" }
    ∷ record { colour = by_author; white_space = by_agent; content = literal.text "xy"; before-present = true; before-content = literal.text "r" }
    ∷ plain []
    ∷ [])
    × (some_run.texts ≡ literal.text "xy")
    × (map (view_at sheet_bytes plain_run) (5 ∷ 6 ∷ []) ≡ plain [] ∷ plain [] ∷ []) × (plain_run.texts ≡ [])
    × (page_rows.page_rows sheet_bytes (record { document_styles = true }) some_page ≡ some_run.rows)
unfolding choice.pick choice.or choice.and choice.is choice.within parsed.on_parsed parsed.behind parsed.or_else parsed.taken repeat.took repeat.many repeat.texts word.starts_with word.same_text literal.text utf8.continuation utf8.utf8 utf8.is_continuation utf8.lead_of utf8.two utf8.three utf8.four utf8.scalar_tail utf8.scalar_by utf8.scalar_of utf8.taken_of utf8.scalar_taken utf8.valid name.is_nmstart name.is_nmchar name.lower name.folded_char name.is_hex_digit name.hex_digit name.hex_run name.hex_count name.hex_value name.behind_one name.escaped_of name.ident_escape_of name.nmstart_of name.nmchar_of name.bytes_of name.char_taken name.char_text name.chars_end name.chars_text name.name_from name.dash name.name_of name.ident_of name.chars_of name.identstring_of name.name_answer name.name_text number.is_digit number.one_digit number.digits number.decimal number.unsigned number.sign number.signed number.number quoted.escaped_byte quoted.quoted_of quoted.quoted_taken quoted.quoted_text quoted.string_end quoted.string_text token.numeric_from token.numeric_of token.ident_like_of token.string_from token.is_quote token.string_of token.is_ident_start token.mark_of token.hash_of token.plus_of token.minus_of token.less_of token.token_with token.token_at token.token_of token.coded token.text_of token.token_answer token.token_text token.lexed_answer token.or_delim row.columns_of row.word row.row_of row.token_row row.mark_from row.token_from row.token_in whitespace.comment_end whitespace.comment_of whitespace.is_whitespace whitespace.whitespace_item whitespace.skip_whitespace layout.flag layout.flag_of layout.white_space_number layout.colour_number layout.style_text_of layout.style_text layout.style_row layout.style_texts rule_layout.pseudo_number stream.texts_many part.part property.any_of property.first_word property.content_of property.decl_of value.bracket_of value.closing value.ending value.step_of value.stop value.cons value.on_step value.scan value.statement_of value.tokens_of value.is_mark value.marked value.value_from value.value_of words.is_word words.is_delim words.lookup words.on_found words.row_at attribute.style_attribute rules.colon_behind rules.property_of rules.value_behind rules.declaration_of rules.starts_at rules.more_rules rules.declarations_of styles.one styles.style_of styles.hides styles.hides_overflow styles.zero_height styles.any_decl styles.own_styles styles.first_zero styles.styles_of specificity.specificity_of specificity.no_specificity specificity.inline_specificity specificity.sum specificity.less_then specificity.less slot.held_by_importance slot.held_by_origin slot.held_against slot.maybe_update style.record_in style.slot_of style.slot_in style.empty_record style.empty_style style.update_record style.update_style style.is_named style.merge_by style.inherit style.from_rule style.from_attribute style_row.slot_numbers style_row.slots_numbers style_row.record_numbers style_row.row_of style_row.read_slot style_row.windows style_row.record_at style_row.style_at matching.is_named matching.name_is matching.here matching.step nth.is_zero nth.nth_matches counts.added counts.specificity call.attribute_contents call.inline_contents page.node_number page.attribute_number page.name_of page.attribute_name page.attribute_value ancestors.ancestors_from ancestors.ancestors_of ancestors.depth_of all.member paths.attributes_from accepted.within_limits accepted.attributes_before accepted.attributes_end accepted.texts_end accepted.bytes_before accepted.ends_in_zeros accepted.is_document accepted.is_parent accepted.parent_right accepted.attributes_follow accepted.element_follows accepted.kind_right accepted.row_right accepted.text_right accepted.attribute_text_right accepted.attribute_texts_right accepted.texts_right accepted.first_fault accepted.first_bad_row accepted.first_bad_text accepted.refused_row accepted.page_refusal decoded.on_decoded decoded.and_then decoded.mapped decoded.counted numbers.group_bytes numbers.number_bytes numbers.limited numbers.groups_at numbers.number_at numbers.ranged_at spans.text_bytes spans.span_at spans.text_in components.component_body components.component_bytes components.is_mark components.name_at components.body_at components.written_at components.mark_of components.named_of components.component_in components.component_at rule_layout.component_kind signed.signed_number signed.signed_of compiled_styles.style_body compiled_styles.style_bytes compiled_styles.content_at compiled_styles.number_up_to compiled_styles.value_at compiled_styles.style_numbers_at compiled_sheet.head_bytes compiled_sheet.styles_bytes compiled_sheet.selector_bytes compiled_sheet.encode compiled_sheet.head_at segments.piece segments.tested sweep.pair_at sweep.pair_bytes sweep.on_piece sweep.piece_at sweep.tests_pass sweep.compound_at sweep.mark_bytes sweep.marked_tests sweep.sweep_at segment_before.beginning segment_before.segment_before segment_before.fresh_bytes placed.has_style visits.block_bytes visits.awaits visits.ended_by visits.ended_at visits.decided visits.visit_at pass.matched_here pass.block_set pass.pass_from document.styled_from document.leftmost_at document.fresh_from down.pass_at down.fresh_in down.read_in compiled_sheet.styles_at compiled_sheet.selector_at compiled_styles.style_at layout.value_in layout.style_in layout.style_of layout.colour_of rule_layout.pseudo_from state.part_of state.raised state.opened run.row_below run.handed_from merged.merged_row merged.late_declared style_row.inherited_row style_row.present_row style_row.merge_row_by style_row.update_row style_row.slot_at run.document_step run.element_step run.open_step run.step_on run.handed_at page_rows.style_row_at run.run_step run.run_from run.run_of components.numbers_at quoted.text_of specificity.less_by_selector sheet_bytes some_text some_page text_in view_at run_with layout.style_slot_of layout.number_from layout.value_from layout.numbers_from layout.value_numbers layout.row_of_numbers slot.update_by style.inherit_by said.rule_style said.colour_styles said.attribute_styles said.attribute_style said.attribute_says said.counted_attributes call.attributes_contents call.in_numbers call.placed_styles call.placed_attributes page_rows.selectors_declare style_row.read_candidate text_of page_rows.row_contents page_rows.contents_before page_rows.style_below page_rows.line_style page_rows.page_row page_rows.rows_before page_rows.page_rows walked.walked matching.on_parent matching.on_ancestors matching.matches paths.element_at paths.elements_of paths.path_of ancestors.is_element_child ancestors.element_children ancestors.place_of compiled_sheet.selectors_at compiled_sheet.whole_at compiled_sheet.decode_by down.matching_of
test-run = (refl, refl, refl, refl, refl, refl)
