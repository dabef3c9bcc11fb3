-- A name, a place or attributes are asked for, as the kind says.
use Rattle.matching.proofs.PassLaws.{name-passes, nth-passes, attributes-passes}
use Rattle.matching.proofs.PathLaws.{place-small}
use borrow.Author.Rules.{rules}
use Rattle.matching.proofs.matcher.element_passes.Goals as goal

pub returns-in-2 : goal.returns-in-2
returns-in-2 c = search (rules, name-passes)

pub returns-in-6 : goal.returns-in-6
returns-in-6 c = search (rules, nth-passes)

pub nth_passes-requires : goal.nth_passes-requires
nth_passes-requires c = place-small _ _ _ c.place.ensures (search rules)

pub returns-in_default : goal.returns-in_default
returns-in_default c = search (rules, attributes-passes)
