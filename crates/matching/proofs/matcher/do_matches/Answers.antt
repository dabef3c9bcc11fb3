-- The result says whether the components match.
use Rattle.matching.proofs.RecursionLaws.{selector-matches, selector-fails}
use Rattle.matching.proofs.matcher.do_matches.Goals as goal

pub returns-in-Matches : goal.returns-in-Matches
returns-in-Matches c = selector-matches _ _ _ c.match_recursively.ensures c.in-Matches.is

pub returns-in_default : goal.returns-in_default
returns-in_default c = selector-fails _ _ _ c.match_recursively.ensures c.in_default.not-Matches
