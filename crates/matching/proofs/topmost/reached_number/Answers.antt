-- From no row of the path, from one or from more is a descendant combinator reached: the three cases of the number.
use mathlib.Core.Path.{refl}
use Rattle.matching.proofs.NumberLaws as laws
use Rattle.matching.proofs.topmost.reached_number.Goals as goal

pub returns-in_default : goal.returns-in_default
returns-in_default c = laws.number-none _ _ _ _ _ c.args.element.rooted _ refl c.in_default.ensures

pub invariant_of-first : goal.invariant_of-first
invariant_of-first c = record { rooted = laws.first-is-rooted _ _ _ _ _ c.args.element.rooted _ c.in-Some.ensures.0 }

pub returns-then-reached_above : goal.returns-then-reached_above
returns-then-reached_above c =
    laws.number_more _ _ _ _ _ c.args.element.rooted _ c.in-Some.ensures.0 c.in-Some.ensures.1 _ c.reached_above.ensures c.if-reached_above.true _ c.selector_top.ensures.value

pub returns-then-do_matches : goal.returns-then-do_matches
returns-then-do_matches c =
    laws.number-yes _ _ _ _ _ c.args.element.rooted _ c.in-Some.ensures.0 c.in-Some.ensures.1 _ c.reached_above.ensures c.if-reached_above.false
    _ c.do_matches.ensures c.if-do_matches.true _ c.parent_reached.ensures

pub returns : goal.returns
returns c =
    laws.number-no _ _ _ _ _ c.args.element.rooted _ c.in-Some.ensures.0 c.in-Some.ensures.1 _ c.reached_above.ensures c.if-reached_above.false
    _ c.do_matches.ensures c.if-do_matches.false
