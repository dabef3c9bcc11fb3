-- Star asks nothing, the document passes nothing else, and of an element its own tests are asked.
use mathlib.Core.Path.{ap, ◌∙◌}
use mathlib.Core.Bool.{not}
use borrow.Author.Tests.{eq-eqb}
use borrow.Author.Rules.{rules}
use Rattle.matching.proofs.MatchLaws.{star-passes, element-passes, document-passes}
use Rattle.matching.proofs.matcher.passes.Goals as goal

pub returns-then-kind-eq-STAR : goal.returns-then-kind-eq-STAR
returns-then-kind-eq-STAR c = eq-eqb _ _ c.if-kind-eq-STAR.true ∙ search (rules, star-passes)

pub returns-then-element-ne0 : goal.returns-then-element-ne0
returns-then-element-ne0 c = search (rules, element-passes)

pub returns-else-element-ne0 : goal.returns-else-element-ne0
returns-else-element-ne0 c = ap not (eq-eqb _ _ c.if-element-ne0.false) ∙ search (rules, document-passes)
