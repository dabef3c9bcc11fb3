-- The compiled sheet of the scope: how many selectors, then each with its origin, pseudo element, components rightmost first, and styles. Agent
-- selectors precede user, user author.
use Rattle.std.specs.Prelude.{ℕ, zero, suc, ◌≡◌, refl, false, List, [], ◌∷◌, ◌++◌, length}
use Rattle.combinators.specs.Choice.{pick, or, and, is, within}
use Rattle.combinators.specs.Part.{part}
use Rattle.syntax.specs.Selector.{Component, element, PseudoElement, none, after}
use Rattle.syntax.specs.Stream.{texts_many}
use Rattle.syntax.specs.Layout.{flag, flag_of, colour_number, colour_of, style_slot_of, style_of, value_in, style_in}
use Rattle.syntax.specs.RuleLayout.{component_kind, pseudo_number, pseudo_from}
use Rattle.syntax.specs.Style as style
use Rattle.syntax.specs.Style.{agent_origin, author_origin, StyleDecl}
use Rattle.compiled.specs.Decoded.{Decoded, read, fault, and_then, mapped, counted}
use Rattle.compiled.specs.Number.{group_bytes, number_bytes, limited, groups_at, number_at, ranged_at}
use Rattle.compiled.specs.Text.{text_bytes, span_at, text_in}
use Rattle.compiled.specs.Component.{component_body, component_bytes, is_mark, name_at, body_at, written_at, mark_of, named_of, component_in, component_at}
use Rattle.compiled.specs.declared.sheets.Head.{Head}
use Rattle.compiled.specs.Style.{style_body, style_bytes, number_up_to, value_at, style_numbers_at, style_at}

-- "compiled bytes over 65,536" are refused
abbrev pub compiled_limit : ℕ
compiled_limit = 65536

-- a selector with the styles of its rule, each an A; components rightmost first
pub record CompiledSelector (A : Type 0) : Type 0 where
  pub origin : ℕ
  pub pseudo : PseudoElement
  pub components : List Component
  pub styles : List A

-- ---- written

-- the numbers before a selector's components: the origin, the pseudo element, how many components
unfoldable pub head_bytes : ℕ → ℕ → ℕ → List ℕ
head_bytes origin pseudo count = number_bytes origin ++ (number_bytes pseudo ++ number_bytes count)

unfoldable pub styles_bytes : List StyleDecl → List ℕ
styles_bytes ds = number_bytes (length ds) ++ texts_many style_bytes ds

unfoldable pub selector_bytes : CompiledSelector StyleDecl → List ℕ
selector_bytes s =
    head_bytes s.origin (pseudo_number s.pseudo) (length s.components) ++ (texts_many component_bytes s.components ++ styles_bytes s.styles)

-- "Sheet: selector count; for each, origin 1 to 3 (agent, user, author), pseudo 0 to 2 (none, before, after), component count, components rightmost first,
-- style count, styles."
unfoldable pub encode : List (CompiledSelector StyleDecl) → List ℕ
encode ss = number_bytes (length ss) ++ texts_many selector_bytes ss

-- ---- read

-- the numbers before a selector's components, where the selector before is of the origin `least`
unfoldable pub head_at : List ℕ → ℕ → ℕ → Decoded Head
head_at t least i =
    and_then (ranged_at t i least author_origin) (λ n origin. and_then (ranged_at t n (pseudo_number none) (pseudo_number after)) (λ m pseudo.
    mapped (λ count. record { origin = origin; pseudo = pseudo; count = count }) (number_at t m)))

-- "style count, styles", by what reads a style at a place of t
module _ {A : Type 0} (style : ℕ → Decoded A) (t : List ℕ) where
  unfoldable pub styles_at : ℕ → Decoded (List A)
  styles_at i = and_then (number_at t i) (λ n count. counted style count n)

  -- a selector, where the one before is of the origin `least`
  unfoldable pub selector_at : ℕ → ℕ → Decoded (CompiledSelector A)
  selector_at least i =
      and_then (head_at t least i) (λ n h. and_then (counted (component_at t) h.count n)
      (λ m cs. mapped (λ ds. record { origin = h.origin; pseudo = pseudo_from h.pseudo; components = cs; styles = ds }) (styles_at m)))

  -- k selectors, none of an origin below that of the one before it
  unfoldable pub selectors_at : ℕ → ℕ → ℕ → Decoded (List (CompiledSelector A))
  selectors_at zero least i = read i []
  selectors_at (suc k) least i = and_then (selector_at least i) (λ n s. mapped (λ r. s ∷ r) (selectors_at k s.origin n))

  -- and the bytes end there, or the first left over is a fault
  unfoldable pub whole_at : ℕ → ℕ → Decoded (List (CompiledSelector A))
  whole_at count n = and_then (selectors_at count agent_origin n) (λ m ss. pick (is m (length t)) (read m ss) (fault m))

  unfoldable pub decode_by : Decoded (List (CompiledSelector A))
  decode_by = and_then (number_at t 0) (λ n count. whole_at count n)

-- with the styles themselves
unfoldable pub decode : List ℕ → Decoded (List (CompiledSelector StyleDecl))
decode t = decode_by (style_at t) t

-- ---- cases

-- the author's `p{color:red}`: "For the first case: `01 03 00 01 02 01 70 01 00 00 80 80 fc 07`", which with the start of its declaration "gains `02`" behind the
-- important mark (S-3)
abbrev pub red_selector : CompiledSelector StyleDecl
red_selector =
    record {
      origin = author_origin;
      pseudo = none;
      components = element (0x70 ∷ []) ∷ [];
      styles = record { value = record { style = style.colour (record { red = 255; green = 0; blue = 0 }); start = 2 }; important = false } ∷ [];
    }

abbrev pub red_bytes : List ℕ
red_bytes = 0x01 ∷ 0x03 ∷ 0x00 ∷ 0x01 ∷ 0x02 ∷ 0x01 ∷ 0x70 ∷ 0x01 ∷ 0x00 ∷ 0x02 ∷ 0x00 ∷ 0x80 ∷ 0x80 ∷ 0xfc ∷ 0x07 ∷ []

pub case-encode : encode (red_selector ∷ []) ≡ red_bytes
unfolding encode selector_bytes head_bytes styles_bytes texts_many pseudo_number component_bytes component_kind component_body text_bytes style_bytes style_slot_of style_body flag colour_number number_bytes group_bytes pick
case-encode = refl

pub case-decode : decode red_bytes ≡ read 15 (red_selector ∷ [])
unfolding decode decode_by whole_at selectors_at selector_at head_at pseudo_number styles_at pseudo_from counted component_at component_in written_at body_at name_at is_mark mark_of named_of text_in span_at part style_at style_in value_in style_numbers_at value_at number_up_to style_of flag_of colour_of ranged_at number_at groups_at limited and_then mapped pick or and is within
case-decode = refl

-- no selector; of the program that compiles one sheet "The other two sheets are empty; empty input prints `00`."
pub case-empty : decode (0x00 ∷ []) ≡ read 1 []
unfolding decode decode_by whole_at selectors_at number_at groups_at limited and_then pick is
case-empty = refl

-- an origin that goes back: a user selector behind an author one, neither with components or styles
pub case-origin : decode (0x02 ∷ 0x03 ∷ 0x00 ∷ 0x00 ∷ 0x00 ∷ 0x02 ∷ 0x00 ∷ 0x00 ∷ 0x00 ∷ []) ≡ fault 5
unfolding decode decode_by whole_at selectors_at selector_at head_at pseudo_number styles_at counted ranged_at number_at groups_at limited and_then mapped pick and is within
case-origin = refl

-- a class whose name runs out
pub case-text : decode (0x01 ∷ 0x01 ∷ 0x00 ∷ 0x01 ∷ 0x01 ∷ 0x05 ∷ 0x61 ∷ 0x00 ∷ []) ≡ fault 5
unfolding decode decode_by whole_at selectors_at selector_at head_at pseudo_number styles_at counted component_at component_in written_at body_at name_at is_mark span_at ranged_at number_at groups_at limited and_then mapped pick or and is within
case-text = refl

-- a byte left over, and no byte at all
pub case-left : decode (0x00 ∷ 0x00 ∷ []) ≡ fault 1
unfolding decode decode_by whole_at selectors_at number_at groups_at limited and_then pick is
case-left = refl

pub case-none : decode [] ≡ fault 0
unfolding decode decode_by whole_at selectors_at number_at groups_at limited and_then pick is
case-none = refl
