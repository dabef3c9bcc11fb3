-- A function, and its name.
use Rattle.characters.specs.Literal.{text}
use Rattle.characters.specs.Utf8.{utf8, continuation}
use Rattle.combinators.specs.Choice.{pick}
use Rattle.values.proofs.ColourValues as laws
use Rattle.values.proofs.colour_values.is_rgb.Goals as goal

pub returns-then-is_kind : goal.returns-then-is_kind
unfolding text utf8 continuation pick
returns-then-is_kind c = laws.name-there _ _ _ c.is_kind.ensures c.if-is_kind.true _ c.text.ensures _ (rw c.as_bytes.ensures.value at c.eq.ensures)

pub returns-else-is_kind : goal.returns-else-is_kind
returns-else-is_kind c = laws.name-none _ _ _ c.is_kind.ensures c.if-is_kind.false
