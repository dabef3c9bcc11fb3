-- What is asked of the stores that attributes are read into, and what `style`, `color` and `bgcolor` give a row.
use Rattle.std.specs.Prelude.{ℕ, ◌+◌, ◌*◌, ◌^◌, ◌≤◌, ◌<◌, Bool, true, false, List, [], ◌∷◌, ◌++◌, map, ◌≡◌, length}
use Rattle.combinators.specs.All.{All}
use Rattle.combinators.specs.Choice.{pick, is}
use Rattle.combinators.specs.LeastLengths.{bracket_least, number_least}
use Rattle.combinators.specs.declared.lent.Stores.{Stores}
use Rattle.characters.specs.Literal.{text}
use Rattle.syntax.specs.Layout.{colour_number, colour_slot, background_slot, content_slot, numbers_at}
use Rattle.syntax.specs.declared.styles.Value.{Value}
use Rattle.syntax.specs.declared.styles.StyleNumbers.{StyleNumbers}
use Rattle.cascade.specs.declared.slots.Cascade.{Cascade}
use Rattle.cascade.specs.declared.slots.Cascade.TheVariants.{Crate, Book}
use Rattle.cascade.specs.Record.{AttributeStyle, Declared, from_attribute}
use Rattle.cascade.specs.Specificity.{inline_specificity}
use Rattle.values.specs.Words.{on_found}
use Rattle.declarations.specs.Attribute.{colour_attribute}
use Rattle.page.specs.Path.{Attribute}
use Rattle.matching.specs.Matches.{is_named}
use Rattle.styles.specs.Said.{attribute_style}
use Rattle.styles.specs.StyleCall.{in_numbers}
use Rattle.styles.specs.Room.{values_of}

-- ---- stores that have room for attributes, one after the other, with texts from a fill on. Two bytes more for each, since a '\\' that ends a value grows from one byte to
-- three. `base` is what a content's start counts from beside the fill, in a run the bytes of the compiled sheet: `bits`, so every start is below 2^32.
pub record InlineRoom (xs : List Attribute) (base fill : ℕ) (rules tokens brackets texts : List ℕ) : Type 0 where
  pub for-rules : number_least (values_of xs) ≤ length rules
  pub for-tokens : number_least (values_of xs) ≤ length tokens
  pub for-brackets : bracket_least (values_of xs) ≤ length brackets
  pub for-texts : fill + values_of xs + 2 * length xs ≤ length texts
  pub bits : base + fill + values_of xs + 2 * length xs < 2 ^ 32

-- and for the value of one of them, of n bytes
pub record ValueRoom (n base fill : ℕ) (rules tokens brackets texts : List ℕ) : Type 0 where
  pub for-rules : number_least n ≤ length rules
  pub for-tokens : number_least n ≤ length tokens
  pub for-brackets : bracket_least n ≤ length brackets
  pub for-texts : fill + n + 2 ≤ length texts
  pub bits : base + fill + n + 2 < 2 ^ 32

-- the same of stores that are lent; colours are read without rules, so that the tokens stand for both
abbrev pub InlineRoomOf : List Attribute → ℕ → ℕ → Stores → Type 0
InlineRoomOf xs base fill a = InlineRoom xs base fill a.rules.now a.tokens.now a.brackets.now a.texts.now

abbrev pub ColoursRoomOf : List Attribute → ℕ → Stores → Type 0
ColoursRoomOf xs fill a = InlineRoom xs 0 fill a.tokens.now a.tokens.now a.brackets.now a.texts.now

abbrev pub ValueRoomOf : ℕ → ℕ → ℕ → Stores → Type 0
ValueRoomOf n base fill a = ValueRoom n base fill a.rules.now a.tokens.now a.brackets.now a.texts.now

-- ---- a style of a `style` attribute as it is merged: "Inline `!important` counts as important" in the book order alone; a content's start counts from `base` on
unfoldable pub inline_important : Cascade → Bool → Bool
inline_important Crate i = false
inline_important Book i = i

unfoldable pub shifted : ℕ → StyleNumbers → Value
shifted base x = pick (is x.slot content_slot) (record { number = base + x.value.number; second = x.value.second; start = x.value.start }) x.value

unfoldable pub inline_style : Cascade → ℕ → StyleNumbers → StyleNumbers
inline_style c base x = record { slot = x.slot; important = inline_important c x.important; value = shifted base x }

-- what it declares
unfoldable pub inline_declared : Cascade → ℕ → StyleNumbers → Declared Value
inline_declared c base x =
    let s = inline_style c base x in
    from_attribute s.important inline_specificity (attribute_style true (in_numbers s))

-- the start of a content can be counted from `base` on
pub record Shiftable (base : ℕ) (x : StyleNumbers) : Type 0 where
  pub small : base < 2 ^ 32
  pub fits : x.slot ≡ content_slot → base + x.value.number < 2 ^ 32

-- what style rows declare, as styles of a `style` attribute
unfoldable pub rows_declared : Cascade → ℕ → List (List ℕ) → List (Declared Value)
rows_declared c base rows = map (λ (row : List ℕ). inline_declared c base (numbers_at row)) rows

-- what is asked of these rows
pub record InlineRows (base : ℕ) (rows : List (List ℕ)) : Type 0 where
  pub shiftable : All (λ (row : List ℕ). Shiftable base (numbers_at row)) rows

-- ---- what an attribute `color` or `bgcolor` gives its slot: S-3: "for `color` and `bgcolor` it is 0", the start
abbrev pub colour_value : ℕ → Value
colour_value n = record { number = n; second = 0; start = 0 }

-- the colour that an attribute's value names, for a slot
unfoldable pub colour_says : ℕ → List ℕ → List (AttributeStyle Value)
colour_says slot v =
    on_found (colour_attribute v)
    (λ x. attribute_style false (in_numbers (record { slot = slot; important = false; value = colour_value (colour_number x) })) ∷ [])
    []

-- that of an attribute `color` or `bgcolor`; any other says nothing
unfoldable pub attribute_colours : Attribute → List (AttributeStyle Value)
attribute_colours a =
    pick (is_named (text "color") a) (colour_says colour_slot a.value)
    (pick (is_named (text "bgcolor") a) (colour_says background_slot a.value)
    [])

-- those of many
unfoldable pub colours_say : List Attribute → List (AttributeStyle Value)
colours_say [] = []
colours_say (a ∷ others) = attribute_colours a ++ colours_say others
