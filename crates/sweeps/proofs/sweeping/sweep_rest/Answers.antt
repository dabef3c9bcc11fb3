-- What was stored and what is left to sweep make up the sweep of all compounds (`Sweeping`).
use mathlib.Core.Path.{◌≡◌, ◌∙◌}
use Prim.Native.Nat.{◌+◌, ◌-◌}
use native.Mathlib.Omega.{arith}
use Rattle.syntax.proofs.Back.{flag-byte}
use Rattle.sweeps.proofs.CodeSweepLaws as laws
use Rattle.sweeps.proofs.sweeping.sweep_rest.Goals as goal

pub returns-in-Leftmost : goal.returns-in-Leftmost
returns-in-Leftmost c = laws.sweep-mark _ _ _ _ _ _ _ _ _ _ _ c.loop-to.invariant (omega arith) _ c.sweep_one-swept.ensures _ (c.from.ensures ∙ flag-byte _) _ c.put_byte.ensures _ c.in-Leftmost.is _ c.put_mark.ensures

pub loop-to-preserved : goal.loop-to-preserved
loop-to-preserved c = let q : c.args.at + c.args.limit - (c.loop-to.to + 1) ≡ c.args.at + c.args.limit - c.loop-to.to - 1 = omega arith in rw q (laws.sweep-more _ _ _ _ _ _ _ _ _ _ _ c.loop-to.invariant (omega arith) _ c.sweep_one-swept.ensures _ (c.from.ensures ∙ flag-byte _) _ c.put_byte.ensures _ c.in-Others.is)

pub returns : goal.returns
returns c = laws.sweep-end _ _ _ _ _ _ _ _ _ _ _ c.loop-to.invariant (omega arith)
