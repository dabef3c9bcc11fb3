-- What is left to place leaves what the whole leaves.
use Rattle.rule_styles.proofs.PlacingStyles as laws
use Prim.Native.Nat.{◌+◌, ◌*◌, ◌-◌}
use Rattle.syntax.specs.Layout.{style_width}
use Rattle.rule_styles.proofs.placing.place_styles.Given as goal

abbrev pub invariant-loop-i : goal.invariant-loop-i
invariant-loop-i l = laws.Placing l.initial.tokens l.at l.count l.text l.initial.contents l.fill l.tokens l.contents l.f (l.at + style_width * l.i) (l.count - l.i)
