-- Value and scale so far, with what is left to read from the place on, give the whole; there are at most five groups.
use mathlib.Core.Path.{◌≡◌, ◌∙◌}
use Prim.Native.Nat.{◌+◌, ◌-◌}
use native.Mathlib.Nat.{add-zero}
use native.Mathlib.Omega.{arith}
use Rattle.std.proofs.Common.{rules}
use Rattle.compiled.specs.Number.{most_groups}
use Rattle.compiled.proofs.NumberReading as laws
use Rattle.compiled.proofs.numbers.read_groups.Goals as goal

pub loop-i-init : goal.loop-i-init
loop-i-init c = rw (add-zero c.args.start) (laws.reading-begin _ _)

pub overflow_add-start : goal.overflow_add-start
overflow_add-start c = let h = (laws.group-inside c.args.s.now _ _ _ c.part_of-groups.ensures c.loop-i-test.true).0 in search (rules, h)

pub overflow_add-start-then-b-lt-GROUP_VALUES : goal.overflow_add-start-then-b-lt-GROUP_VALUES
overflow_add-start-then-b-lt-GROUP_VALUES c = let h = (laws.group-inside c.args.s.now _ _ _ c.part_of-groups.ensures c.loop-i-test.true).0 in search (rules, h)

pub returns-then-b-lt-GROUP_VALUES : goal.returns-then-b-lt-GROUP_VALUES
returns-then-b-lt-GROUP_VALUES c =
    let h = laws.group-inside c.args.s.now _ _ _ c.part_of-groups.ensures c.loop-i-test.true in
    let t : goal.returns-then-b-lt-GROUP_VALUES-raw c =
    laws.reading-last _ _ _ _ _ _ c.loop-i.invariant h.1 _ (c.from-b.ensures ∙ laws.group-byte c.args.s.now _ _ _ c.part_of-groups.ensures c.loop-i-test.true) h.0 c.if-b-lt-GROUP_VALUES.true _ c.limited.ensures in
    record { value = t.0; read_within = t.1 }

pub loop-i-preserved : goal.loop-i-preserved
loop-i-preserved c =
    let h = laws.group-inside c.args.s.now _ _ _ c.part_of-groups.ensures c.loop-i-test.true in
    let q : most_groups - (c.loop-i.i + 1) ≡ most_groups - c.loop-i.i - 1 = omega arith in
    let p : c.args.start + (c.loop-i.i + 1) ≡ c.args.start + c.loop-i.i + 1 = omega arith in
    rw (p, q) (laws.reading-more _ _ _ _ _ _ c.loop-i.invariant h.1 _ (c.from-b.ensures ∙ laws.group-byte c.args.s.now _ _ _ c.part_of-groups.ensures c.loop-i-test.true) h.0 c.if-b-lt-GROUP_VALUES.false (omega arith))

pub returns : goal.returns
returns c = let t : goal.returns-raw c = laws.reading-ended c.args.s.now _ _ _ c.part_of-groups.ensures _ _ c.loop-i.invariant (omega (arith, c.loop-i-test.false)) in record { value = t.0; read_within = t.1 }
