-- Two words and neither, in the order of the definition.
use Rattle.selectors.proofs.SelectorLaws as laws
use Rattle.selectors.proofs.selectors.parse_pseudo_element.Goals as goal

pub returns-then-starts_with : goal.returns-then-starts_with
returns-then-starts_with c = laws.pseudo-before _ _ c.starts_with.ensures c.if-starts_with.true

pub returns-then-starts_with-2 : goal.returns-then-starts_with-2
returns-then-starts_with-2 c = laws.pseudo-after _ _ c.starts_with.ensures c.if-starts_with.false _ c.starts_with-2.ensures c.if-starts_with-2.true

pub returns : goal.returns
returns c = laws.pseudo-none _ _ c.starts_with.ensures c.if-starts_with.false _ c.starts_with-2.ensures c.if-starts_with-2.false
