-- The bracket that is awaited last decides, as the definition looks at those awaited.
use native.Mathlib.Omega.{arith}
use Prim.Native.Nat.{◌-◌}
use lib.ListN.{length}
use lib.Seq.{length-take-le}
use Rattle.values.proofs.Nesting as laws
use Rattle.values.proofs.statements.closing_step.Goals as goal

pub returns-in-empty : goal.returns-in-empty
returns-in-empty c = let t : goal.returns-in-empty-raw c = laws.closed-before _ _ _ (omega arith) c.if-c-eq125.true in record { brackets_value = t.0; depth_value = t.1 }

pub returns-in-empty-2 : goal.returns-in-empty-2
returns-in-empty-2 c = let t : goal.returns-in-empty-2-raw c = laws.closed_none _ _ _ (omega arith) c.if-c-eq125.false in record { brackets_value = t.0; depth_value = t.1 }

pub returns-in-len1-up : goal.returns-in-len1-up
returns-in-len1-up c = let t : goal.returns-in-len1-up-raw c = laws.closed-wrong _ _ _ (λ e. absurd (omega arith)) c.if-last-c.true in record { brackets_value = t.0; depth_value = t.1 }

pub returns-in-len1 : goal.returns-in-len1
returns-in-len1 c = let t : goal.returns-in-len1-raw c = laws.closed-behind _ _ _ (λ e. absurd (omega arith)) c.if-last-c.false (omega arith) c.if-c-eq125-2.true in record { brackets_value = t.0; depth_value = t.1 }

pub returns-in-len1-up-2 : goal.returns-in-len1-up-2
returns-in-len1-up-2 c =
    let b = c.args.brackets.now in
    let t : goal.returns-in-len1-up-2-raw c = rw (length-take-le (length b - 1) b (omega arith)) (laws.closed-next _ _ _ (λ e. absurd (omega arith)) c.if-last-c.false (λ e h. absurd (grind arith))) in
    record { brackets_value = t.0; depth_value = t.1 }
