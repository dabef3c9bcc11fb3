-- Star and combinators add nothing, any other what its kind says.
use mathlib.Core.Path.{◌∙◌}
use native.Mathlib.Omega.{arith}
use Rattle.matching.proofs.ComponentLaws.{adds-star, adds-combinator, adds-name}
use Rattle.matching.proofs.components.added_by.Goals as goal

pub returns-in-0 : goal.returns-in-0
returns-in-0 c = λ store f a b. adds-star store _ f a b c.in-0.is

pub returns-in-0-2 : goal.returns-in-0-2
returns-in-0-2 c = λ store f a b. adds-combinator store _ f a b (omega arith) (omega arith)

pub returns-in_default : goal.returns-in_default
returns-in_default c = λ store f a b. c.name_weight.ensures ∙ adds-name store _ f a b (omega arith) (omega arith) (omega arith)
