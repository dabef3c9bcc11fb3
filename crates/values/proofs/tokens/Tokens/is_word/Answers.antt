-- The kind in the row and the text that it names.
use Rattle.values.proofs.TokenViews as laws
use Rattle.values.proofs.tokens.Tokens.is_word.Goals as goal

pub returns-then-is_kind : goal.returns-then-is_kind
returns-then-is_kind c = laws.word-by-text _ _ _ _ _ c.is_kind.ensures c.if-is_kind.true _ c.text.ensures _ (rw c.as_bytes.ensures.value at c.eq.ensures)

pub returns-else-is_kind : goal.returns-else-is_kind
returns-else-is_kind c = laws.no-word _ _ _ _ _ c.is_kind.ensures c.if-is_kind.false
