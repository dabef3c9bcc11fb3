-- Where each number is one byte, the bytes are the numbers; otherwise they are read one by one.
use native.Mathlib.Omega.{arith}
use Rattle.syntax.specs.RuleLayout.{pseudo_number}
use mathlib.Core.Path.{sym, ◌∙◌}
use Rattle.compiled.proofs.NumberReading.{contained}
use Rattle.compiled.proofs.SheetCode as laws
use Rattle.compiled.proofs.sheets.read_head.Goals as goal

pub returns-then-from-lt-GROUP_VALUES : goal.returns-then-from-lt-GROUP_VALUES
unfolding pseudo_number
returns-then-from-lt-GROUP_VALUES c =
    let h = c.in-Some-len3-up.ensures.lookup.0 in
    let n = c.new.ensures in
    let w = sym (contained _ _ _ _ _ _ _ n.start n.end n.exhausted c.contains.ensures.value) ∙ c.if-contains.true in
    let t : goal.returns-then-from-lt-GROUP_VALUES-raw c = laws.short_head _ _ _ _ h.2 h.3 c.in-Some-len3-up.len_at_least _ _ _ c.from-origin.ensures c.from-pseudo.ensures c.from-count.ensures w c.if-pseudo-le-PSEUDO_AFTER.true (omega arith) in
    record { value = t.0; read_within = t.1 }
