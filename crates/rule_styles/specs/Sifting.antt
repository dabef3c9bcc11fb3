-- What the code's values say of sifted styles, and the room that its writers ask for.
use Rattle.std.specs.Prelude.{ℕ, ◌+◌, ◌*◌, ◌≤◌, Option, Some, None, List, length}
use Rattle.syntax.specs.Layout.{style_width}
use Rattle.syntax.specs.declared.styles.StyleNumbers.{StyleNumbers}
use Rattle.syntax.specs.declared.styles.Value.{Value}
use Rattle.values.specs.Words.{Found, found, missing}
use Rattle.cascade.specs.Record.{slot_count, Styled}
use Rattle.styles.specs.StyleCall.{in_numbers}
use Rattle.rule_styles.specs.Deciding.{Sifted}
use Rattle.rule_styles.specs.declared.deciding.Sifted as code

-- ---- a style that there is or is not, and the sifted styles that the code's value of them says
unfoldable pub found_in : Option StyleNumbers → Found (Styled Value)
found_in (Some x) = found (in_numbers x)
found_in None = missing

unfoldable pub sifted_in : code.Sifted → Sifted Value
sifted_in s = record { normal = found_in s.normal; important = found_in s.important; behind = s.behind }

-- ---- room for the styles that decide in one slot
pub record TwoStylesRoom (rows : List ℕ) (at : ℕ) : Type 0 where
  pub room : at + 2 * style_width ≤ length rows

-- room for all that decide
pub record DecidingRoom (rows : List ℕ) (place : ℕ) : Type 0 where
  pub room : place + 2 * slot_count * style_width ≤ length rows
