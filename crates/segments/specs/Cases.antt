-- Computed cases: three selectors, the second without styles, in parts that held other bytes.
use Rattle.std.specs.Prelude.{ℕ, suc, List, [], ◌∷◌, map, ◌≡◌, refl, length, replicate}
use Rattle.combinators.specs.Choice.{pick, or, and, is, within}
use Rattle.combinators.specs.Part.{part}
use Rattle.combinators.specs.Word.{starts_with, same_text}
use Rattle.characters.specs.Literal.{text}
use Rattle.characters.specs.Utf8.{utf8}
use Rattle.syntax.specs.Stream.{texts_many}
use Rattle.syntax.specs.Layout.{flag, flag_of, colour_number, colour_of, style_slot_of, style_of, value_in, style_in}
use Rattle.syntax.specs.RuleLayout.{component_kind, pseudo_number, pseudo_from}
use Rattle.syntax.specs.Selector.{star, element, child, descendant, none}
use Rattle.syntax.specs.Style.{author_origin}
use Rattle.matching.specs.Matches.{step, here, name_is, named}
use Rattle.compiled.specs.Decoded.{on_decoded, and_then, mapped, counted}
use Rattle.compiled.specs.Number.{group_bytes, number_bytes, limited, groups_at, number_at, ranged_at}
use Rattle.compiled.specs.Text.{text_bytes, span_at, text_in}
use Rattle.compiled.specs.Component.{component_body, component_bytes, is_mark, name_at, body_at, written_at, mark_of, named_of, component_in, component_at}
use Rattle.compiled.specs.Style.{style_body, style_bytes, number_up_to, value_at, style_numbers_at, style_at}
use Rattle.compiled.specs.Sheet.{red_selector, head_bytes, styles_bytes, selector_bytes, encode, head_at, styles_at, selector_at}
use Rattle.segments.specs.Segments.{piece, tested}
use Rattle.segments.specs.Sweep.{pair_at, pair_bytes, on_piece, piece_at, tests_pass, compound_at, mark_bytes, marked_tests, sweep_at}
use Rattle.segments.specs.Before.{beginning, segment_before, fresh_bytes}
use Rattle.segments.specs.Placed.{has_style}
use Rattle.segments.specs.Visits.{block_bytes, awaits, ended_by, ended_at, decided, visit_at}
use Rattle.segments.specs.Pass.{matched_here, block_set, pass_from}
use Rattle.segments.specs.Document.{styled_from, leftmost_at, fresh_from}
use Rattle.segments.specs.Down.{pass_at, fresh_in, passed_down}

-- `p{color:red}`, `p{}`, `a b > c{color:red}` and `* *{color:red}`: bytes 1 to 14, 15 to 21, 22 to 43 and 44 on
unfoldable sheet : List ℕ
sheet =
    encode (red_selector
    ∷ (record { origin = author_origin; pseudo = none; components = red_selector.components; styles = [] })
    ∷ (record {
      origin = author_origin;
      pseudo = none;
      components = element (text "c") ∷ child ∷ element (text "b") ∷ descendant ∷ element (text "a") ∷ [];
      styles = red_selector.styles;
    })
    ∷ (record { origin = author_origin; pseudo = none; components = star ∷ descendant ∷ star ∷ []; styles = red_selector.styles }) ∷ [])

-- the places of those that match at the first node of a path of these names
unfoldable found : List (List ℕ) → List ℕ
found names = (passed_down sheet (λ _. replicate (suc (length sheet)) 77) (replicate (suc (length sheet)) 3) (map named names)).matched

-- a p; a c in a b in an a; the b between them, and the c with another node between; a c whose b is in no a; the document
test-found : (found (text "p" ∷ []) ≡ 1 ∷ 44 ∷ []) × (found (text "c" ∷ text "b" ∷ text "a" ∷ []) ≡ 22 ∷ 44 ∷ [])
    × (found (text "c" ∷ text "b" ∷ text "p" ∷ text "a" ∷ []) ≡ 22 ∷ 44 ∷ []) × (found (text "b" ∷ text "a" ∷ []) ≡ 44 ∷ [])
    × (found (text "c" ∷ text "p" ∷ text "b" ∷ text "a" ∷ []) ≡ 44 ∷ []) × (found (text "c" ∷ text "b" ∷ []) ≡ 44 ∷ []) × (found [] ≡ [])
unfolding found sheet named text utf8 encode selector_bytes head_bytes styles_bytes texts_many pseudo_number component_bytes component_kind component_body text_bytes style_bytes style_slot_of style_body flag colour_number number_bytes group_bytes passed_down pass_at fresh_in styled_from leftmost_at fresh_from matched_here block_set pass_from block_bytes awaits ended_by ended_at decided visit_at has_style beginning segment_before fresh_bytes pair_at pair_bytes on_piece piece_at tests_pass compound_at mark_bytes marked_tests sweep_at piece tested step here name_is same_text starts_with head_at styles_at selector_at pseudo_from counted component_at component_in written_at body_at name_at is_mark mark_of named_of text_in span_at part style_at style_in value_in style_numbers_at value_at number_up_to style_of flag_of colour_of ranged_at number_at groups_at limited on_decoded and_then mapped pick or and is within
test-found = (refl, refl, refl, refl, refl, refl, refl)
