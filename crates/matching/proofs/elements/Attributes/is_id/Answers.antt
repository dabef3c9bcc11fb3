-- An attribute of another name is none; of this one the value is compared.
use mathlib.Core.Path.{◌∙◌}
use borrow.Author.Rules.{rules}
use Rattle.matching.proofs.AttributeLaws.{id-named, id_other}
use Rattle.matching.proofs.elements.Attributes.is_id.Goals as goal

pub returns-then-is_named : goal.returns-then-is_named
returns-then-is_named c = search (rules, id-named)

pub returns-else-is_named : goal.returns-else-is_named
returns-else-is_named c = c.if-is_named.false ∙ id_other _ _ _ _ _ c.is_named.ensures c.if-is_named.false
