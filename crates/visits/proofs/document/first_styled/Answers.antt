-- The selectors that are left have the same first one that has a style as all of them: a selector without styles ends behind the count of its styles. So it is that of `styled_from`.
use mathlib.Core.Path.{◌≡◌, ap, ◌∙◌}
use Prim.Native.Nat.{◌+◌, ◌-◌}
use native.Mathlib.Omega.{arith}
use Rattle.std.specs.Option.{unwrap_or}
use Rattle.segments.specs.Before.{no_place}
use Rattle.sweeps.proofs.CodePieceLaws.{kept, dropped}
use Rattle.visits.proofs.CodeStyledLaws as laws
use Rattle.visits.proofs.document.first_styled.Goals as goal

pub returns-then-styles-gt0 : goal.returns-then-styles-gt0
returns-then-styles-gt0 c = let t : goal.returns-then-styles-gt0-raw c = laws.find-styled _ _ _ _ _ c.loop.invariant (omega arith) _ c.style_count.ensures _ (kept _ _ c.ok.ensures.value _ c.in_ok-styles.was) c.requires c.if-styles-gt0.true in record { value = t.0; upper_bound = t.1 }

pub loop-preserved : goal.loop-preserved
loop-preserved c = let q : c.args.count - (c.loop.counter + 1) ≡ c.args.count - c.loop.counter - 1 = omega arith in rw q (laws.find-bare _ _ _ _ _ c.loop.invariant (omega arith) _ c.style_count.ensures _ (kept _ _ c.ok.ensures.value _ c.in_ok-styles.was) c.if-styles-gt0.false)

pub returns-in_err-styles-clause-value : goal.returns-in_err-styles-clause-value
returns-in_err-styles-clause-value c = ap (λ x. unwrap_or x no_place) c.from_residual.ensures ∙ dropped _ _ c.ok.ensures.value c.in_err-styles.was _ (λ f q. (laws.find-fault _ _ _ _ _ c.loop.invariant (omega arith) _ c.style_count.ensures c.requires _ q).0)

pub returns : goal.returns
returns c = let t : goal.returns-raw c = laws.find-end _ _ _ _ _ c.loop.invariant c.requires (omega arith) in record { value = t.0; upper_bound = t.1 }
