-- What is left from the place on is what lies behind the selectors that were passed.
use Prim.Native.Nat.{◌-◌}
use Rattle.syntax.specs.RuleLayout.{read_selector}
use Rattle.origins.proofs.WalkLaws as laws
use Rattle.origins.proofs.walk.skip_selectors.Given as goal

abbrev pub invariant-loop : goal.invariant-loop
invariant-loop l = laws.Passing read_selector l.rows l.count l.at (l.count - l.counter) l.place
