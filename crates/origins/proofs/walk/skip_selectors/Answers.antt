-- What is left from the place on is what lies behind the selectors that were passed.
use native.Mathlib.Omega.{arith}
use Rattle.syntax.specs.RuleLayout.{read_selector}
use Rattle.origins.proofs.WalkLaws as laws
use Rattle.origins.proofs.walk.skip_selectors.Goals as goal

pub loop-preserved : goal.loop-preserved
loop-preserved c = let a = c.args in
    laws.passing-next read_selector a.rows.now a.count a.at _ c.loop.place c.loop.invariant (omega arith) c.skip_selector-place.result c.skip_selector-place.ensures

pub returns : goal.returns
returns c = let a = c.args in
    laws.passing-done read_selector a.rows.now a.count a.at _ c.loop.place c.loop.invariant (omega arith)
