-- What is left to keep leaves what the whole leaves; what is kept of a rule takes no more numbers than the rule, so the room of the whole is that of each step.
use Rattle.rule_styles.proofs.PlacingRules as laws
use Prim.Native.Nat.{◌-◌}
use Rattle.rule_styles.proofs.placing.style_rules.Given as goal

abbrev pub invariant-loop : goal.invariant-loop
invariant-loop l = laws.Styling l.rules l.fn.sheet.place l.fn.sheet.count l.text l.initial.tokens l.fn.placed.place l.initial.contents l.fn.placed.fill l.tokens l.contents l.rows l.next.place l.next.fill (l.fn.sheet.count - l.counter)
