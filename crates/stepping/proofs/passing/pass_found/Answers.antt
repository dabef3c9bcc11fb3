-- Each turn passes over those that surely fail, of which none matches, then stores the block of one selector and merges what it declares.
use Rattle.stepping.proofs.PassingLaws as laws
use mathlib.Core.Path.{◌≡◌}
use Prim.Native.Nat.{suc, ◌-◌}
use native.Mathlib.Omega.{arith}
use Rattle.sweeps.specs.Met.{handed, row_alone}
use Rattle.stepping.proofs.passing.pass_found.Goals as goal

pub loop-skipped-init : goal.loop-skipped-init
loop-skipped-init c = laws.find-begin _ _ _ _ _ _ _ c.requires.room c.requires.near

pub loop-skipped-preserved : goal.loop-skipped-preserved
unfolding handed row_alone
loop-skipped-preserved c =
    let after = laws.find-left _ _ _ _ _ _ _ _ _ _ _ c.loop-skipped.invariant _ _ (c.skip_failing.ensures.skips _ (c.tell.ensures _)) _ c.in-Some.is c.skip_failing.auto.own c.in-Some.ensures.few in
    let q : c.in-Some.skipped.behind ≡ suc c.in-Some.skipped.behind - 1 = omega arith in
    rw q (laws.find-more _ _ _ _ _ _ _ _ _ _ _ after (omega arith) (let z = c.in-Some.ensures.few.some in λ q. omega arith) _ c.visit_found-place.ensures.value c.visit_found-place.ensures.upper_bound _ c.visit_found-place.ensures.own_after _ c.visit_found-place.ensures.out_after)

pub returns : goal.returns
unfolding handed row_alone
returns c = let t = laws.find-over _ _ _ _ _ _ _ _ _ _ _ c.loop-skipped.invariant _ _ (c.skip_failing.ensures.skips _ (c.tell.ensures _)) c.in_default.is in record { own_after = t.0; out_after = t.1 }
