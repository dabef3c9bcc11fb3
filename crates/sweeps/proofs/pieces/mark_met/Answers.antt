-- The three marks in the order of `mark_met`: star, the child step, and else the descendant step.
use Rattle.combinators.proofs.Rules.{cases}
use Rattle.sweeps.specs.Met.{mark_met}
use Rattle.sweeps.proofs.pieces.mark_met.Goals as goal

pub returns-in-0 : goal.returns-in-0
unfolding mark_met
returns-in-0 c = search cases

pub returns-in-4 : goal.returns-in-4
unfolding mark_met
returns-in-4 c = search cases

pub returns-in_default : goal.returns-in_default
unfolding mark_met
returns-in_default c = search cases
