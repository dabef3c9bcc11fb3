-- A name stands for what the table has, any other token for nothing.
use Rattle.values.proofs.KeywordLaws as laws
use Rattle.values.proofs.keywords.word_at.Goals as goal

pub returns-then-is_kind : goal.returns-then-is_kind
returns-then-is_kind g c = laws.name-there _ _ _ _ _ c.is_kind.ensures c.if-is_kind.true _ c.text.ensures _ c.lookup.ensures

pub returns-else-is_kind : goal.returns-else-is_kind
returns-else-is_kind g c = laws.name-none _ _ _ _ _ c.is_kind.ensures c.if-is_kind.false
