-- For a few selectors any text is told of where there is an attribute; for more, what the attributes have is marked.
use mathlib.Core.Path.{refl}
use Rattle.hints.proofs.HintLaws as laws
use Rattle.hints.proofs.hints.Hint.tell_attributes.Goals as goal

pub returns-then-selectors-lt-SELECTORS-clause-others : goal.returns-then-selectors-lt-SELECTORS-clause-others
returns-then-selectors-lt-SELECTORS-clause-others c = laws.open-nameless _ _ c.clear.ensures

pub returns-then-selectors-lt-SELECTORS-clause-fit : goal.returns-then-selectors-lt-SELECTORS-clause-fit
returns-then-selectors-lt-SELECTORS-clause-fit c = λ place. laws.few-fit _ _ c.clear.ensures _ _ _ place refl

pub returns-clause-others : goal.returns-clause-others
returns-clause-others c = λ kind size byte l n. c.mark_attributes.ensures.keeps kind size byte (laws.open-nameless _ _ c.clear-2.ensures kind size byte l n)

pub returns-clause-fit : goal.returns-clause-fit
returns-clause-fit c = laws.handed-fit _ c.args.element.now _ c.attributes.ensures c.mark_attributes.ensures.fit
