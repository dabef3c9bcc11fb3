-- The two kinds, one test behind the other.
use Rattle.values.proofs.ColourValues as laws
use Rattle.values.proofs.colour_values.is_number_before.Goals as goal

pub returns-then-is_kind : goal.returns-then-is_kind
returns-then-is_kind c = laws.before-there _ _ _ _ _ c.is_kind.ensures c.if-is_kind.true _ c.is_kind-then-is_kind.ensures

pub returns-else-is_kind : goal.returns-else-is_kind
returns-else-is_kind c = laws.before-none _ _ _ _ _ c.is_kind.ensures c.if-is_kind.false
