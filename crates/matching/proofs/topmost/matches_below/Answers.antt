-- The tests and child combinators decide, or the number does, which is right for the row.
use Rattle.matching.proofs.BelowLaws.{below_top_lem, below-ended, below-fails}
use Rattle.matching.specs.Topmost.{below_top}
use Rattle.matching.proofs.topmost.matches_below.Goals as goal

pub returns-in-Matches : goal.returns-in-Matches
unfolding below_top
returns-in-Matches c = below-ended _ _ _ _ _ _ c.requires _ c.match_locally.ensures _ _ c.in-Ended.is c.in-Matches.is

pub returns-in_default : goal.returns-in_default
unfolding below_top
returns-in_default c = below-fails _ _ _ _ _ _ c.requires _ c.match_locally.ensures _ c.in-Ended.is c.in_default.not-Matches

pub returns-in-Descendant : goal.returns-in-Descendant
unfolding below_top
returns-in-Descendant c = below_top_lem _ _ _ _ _ _ c.requires _ c.match_locally.ensures _ c.in-Descendant.is
