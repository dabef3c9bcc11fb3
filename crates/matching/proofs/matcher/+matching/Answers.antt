-- The tests and child combinators lead to the result, or to a descendant combinator; then the ancestors that are tried have the result of all on the row.
use mathlib.Core.Path.{sym, ◌∙◌}
use Rattle.matching.proofs.ClimbLaws as laws
use Rattle.matching.proofs.matcher.+matching.Goals as goal

pub match_recursively-returns-in-Ended : goal.match_recursively-returns-in-Ended
match_recursively-returns-in-Ended t c = laws.climb-ends _ _ _ _ _ _ _ c.args.element.now.rooted _ c.match_locally.ensures c.in-Ended.is

pub match_recursively-match_on_ancestors-requires : goal.match_recursively-match_on_ancestors-requires
match_recursively-match_on_ancestors-requires t c =
    let d = laws.climb-descends _ _ _ _ _ _ _ c.args.element.now.rooted _ c.match_locally.ensures c.in-Descendant.is in
    (laws.fewer-left _ _ _ _ _ _ _ _ _ d t c.decreases, d.rooted)

pub match_recursively-returns-in-Descendant : goal.match_recursively-returns-in-Descendant
match_recursively-returns-in-Descendant t c =
    let d = laws.climb-descends _ _ _ _ _ _ _ c.args.element.now.rooted _ c.match_locally.ensures c.in-Descendant.is in
    c.match_on_ancestors.ensures ∙ sym d.same

pub match_on_ancestors-returns-in-Matches : goal.match_on_ancestors-returns-in-Matches
match_on_ancestors-returns-in-Matches t c =
    laws.ancestor-matches _ _ _ _ _ _ _ _ c.loop-row.invariant _ c.in-Some.ensures.next _ c.match_recursively.ensures c.in-Matches.is

pub match_on_ancestors-returns-in-FailsCompletely : goal.match_on_ancestors-returns-in-FailsCompletely
match_on_ancestors-returns-in-FailsCompletely t c =
    laws.ancestor-fails _ _ _ _ _ _ _ _ c.loop-row.invariant _ c.in-Some.ensures.next _ c.match_recursively.ensures c.in-FailsCompletely.is

pub match_on_ancestors-loop-row-preserved : goal.match_on_ancestors-loop-row-preserved
match_on_ancestors-loop-row-preserved t c =
    laws.ancestor-passed-over _ _ _ _ _ _ _ _ c.loop-row.invariant _ c.in-Some.ensures.next _ c.match_recursively.ensures c.in-FailsLocally.is
