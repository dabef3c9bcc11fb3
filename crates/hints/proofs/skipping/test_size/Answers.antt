-- An nth-child whose numbers are bytes takes three; any other is asked for its text.
use mathlib.Core.Path.{sym, ◌∙◌}
use native.Mathlib.Omega.{arith}
use borrow.Author.Rules.{rules}
use borrow.Author.Tests.{ltb-true}
use Rattle.hints.specs.Skipping.{TestThere}
use Rattle.hints.proofs.CodeStepLaws as laws
use Rattle.hints.proofs.skipping.test_size.Goals.{then-first-lt-ONE_GROUP, else-first-lt-ONE_GROUP}
use Rattle.hints.proofs.skipping.test_size.Goals as goal

pub returns-then-from-eq-NTH : goal.returns-then-from-eq-NTH
returns-then-from-eq-NTH c = laws.size-if c.args.compiled.now (λ size. TestThere c.args.compiled.now c.args.at size) _ _ _ c.then_some.ensures (elim c.if-first-lt-ONE_GROUP.branch [
  | then-first-lt-ONE_GROUP w ↦ λ t. laws.nth-there _ _ _ _ (omega (arith, c.saturating_sub.ensures, c.if-at-saturating_sub.true)) (sym c.from.ensures ∙ c.if-from-eq-NTH.true) c.from-first.ensures w.if-first-lt-ONE_GROUP.true c.from-second.ensures (ltb-true _ _ (sym w.then_some-is ∙ t))
  | else-first-lt-ONE_GROUP w ↦ λ t. absurd (let z = ltb-true _ _ (sym w.then_some-is ∙ t) in omega (arith, w.if-first-lt-ONE_GROUP.false))
])

pub returns : goal.returns
returns c = laws.size-kept _ _ _ _ _ (λ x b k t. search rules) c.short_size.ensures c.filter.ensures
