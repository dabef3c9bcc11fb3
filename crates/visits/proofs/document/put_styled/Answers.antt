-- Where the selector has a style its block is stored, with the place of the next one that has; where it has none, nothing is.
use mathlib.Core.Path.{◌∙◌}
use Rattle.visits.proofs.CodeTellLaws as laws
use Rattle.visits.proofs.document.put_styled.Goals as goal

pub returns-then-has_style : goal.returns-then-has_style
returns-then-has_style c = laws.styled-put _ _ _ _ _ _ c.has_style.ensures c.if-has_style.true _ (c.unwrap_or-next.ensures ∙ c.first_styled.ensures.value) _ c.put_leftmost.ensures

pub returns-else-has_style : goal.returns-else-has_style
returns-else-has_style c = laws.styled-bare _ _ _ _ _ _ c.has_style.ensures c.if-has_style.false
