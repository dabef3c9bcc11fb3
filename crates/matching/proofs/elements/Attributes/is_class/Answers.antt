-- An attribute of another name is none; of this one the value 's words are asked.
use mathlib.Core.Path.{◌∙◌}
use borrow.Author.Rules.{rules}
use Rattle.matching.proofs.AttributeLaws.{class-named, class-other}
use Rattle.matching.proofs.elements.Attributes.is_class.Goals as goal

pub returns-then-is_named : goal.returns-then-is_named
returns-then-is_named c = search (rules, class-named)

pub returns-else-is_named : goal.returns-else-is_named
returns-else-is_named c = c.if-is_named.false ∙ class-other _ _ _ _ _ c.is_named.ensures c.if-is_named.false
