-- An attribute of another name is no id; of this one the value is marked.
use Rattle.hints.proofs.TableLaws as laws
use Rattle.hints.proofs.hints.Hint.mark_id.Goals as goal

pub returns-then-is_named-clause-keeps : goal.returns-then-is_named-clause-keeps
returns-then-is_named-clause-keeps c = laws.mark-keeps _ _ _ _ c.mark.ensures

pub returns-then-is_named-clause-ids : goal.returns-then-is_named-clause-ids
returns-then-is_named-clause-ids c = laws.id-met _ _ _ _ c.is_named.ensures _ c.if-is_named.true _ c.attribute_value.ensures (laws.mark-has _ _ _ _ c.mark.ensures)

pub returns-else-is_named-clause-ids : goal.returns-else-is_named-clause-ids
returns-else-is_named-clause-ids c = laws.id-none _ _ _ _ c.is_named.ensures _ c.if-is_named.false
