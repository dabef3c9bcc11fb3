-- The kind and the number in the row.
use Rattle.combinators.specs.Choice.{is}
use Rattle.values.proofs.TokenViews as laws
use Rattle.values.proofs.tokens.Tokens.is_delim.Goals as goal

pub returns-then-is_kind : goal.returns-then-is_kind
unfolding is
returns-then-is_kind c store = rw c.from.ensures (laws.delim-by-number _ store _ _ _ c.is_kind.ensures c.if-is_kind.true _ c.place.ensures.value)

pub returns-else-is_kind : goal.returns-else-is_kind
returns-else-is_kind c store = laws.no-delim _ store _ _ _ c.is_kind.ensures c.if-is_kind.false
