-- A name, a hash or neither, as the definition splits tokens.
use Rattle.values.proofs.ColourValues as laws
use Rattle.values.proofs.colour_values.one_token.Goals as goal

pub returns-then-is_kind : goal.returns-then-is_kind
returns-then-is_kind c = laws.one-named _ _ _ c.is_kind.ensures c.if-is_kind.true _ c.text-text.ensures _ c.named_colour.ensures

pub returns-then-is_kind-2 : goal.returns-then-is_kind-2
returns-then-is_kind-2 c = laws.one-hash _ _ _ c.is_kind.ensures c.if-is_kind.false _ c.is_kind-else-is_kind.ensures c.if-is_kind-2.true _ c.text-text.ensures _ c.hash_colour.ensures

pub returns-else-is_kind-2 : goal.returns-else-is_kind-2
returns-else-is_kind-2 c = laws.one-other _ _ _ c.is_kind.ensures c.if-is_kind.false _ c.is_kind-else-is_kind.ensures c.if-is_kind-2.false
