-- Before its number a selector matches nothing, and behind it the number decides.
use mathlib.Core.Path.{◌∙◌}
use borrow.Author.Tests.{lt-leb}
use Rattle.matching.proofs.NumberLaws as laws
use Rattle.matching.proofs.topmost.matches_by_number.Goals as goal

pub returns-else-top-element : goal.returns-else-top-element
returns-else-top-element c = lt-leb _ _ c.if-top-element.false ∙ laws.numbered-none _ _ _ _ _ _ c.requires c.if-top-element.false
