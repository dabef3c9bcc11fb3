-- An attribute of another name has no classes; of this one the words of its value are marked.
use Rattle.hints.proofs.TableLaws as laws
use Rattle.hints.proofs.hints.Hint.mark_classes.Goals as goal

pub returns-then-is_named-clause-classes : goal.returns-then-is_named-clause-classes
returns-then-is_named-clause-classes c = laws.classes-met _ _ _ _ c.is_named.ensures _ c.if-is_named.true _ c.attribute_value.ensures c.mark_words.ensures.words

pub returns-else-is_named-clause-classes : goal.returns-else-is_named-clause-classes
returns-else-is_named-clause-classes c = laws.classes-none _ _ _ _ c.is_named.ensures _ c.if-is_named.false
