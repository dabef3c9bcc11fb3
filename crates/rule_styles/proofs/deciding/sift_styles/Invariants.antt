-- What is left to sift always comes to what all styles come to.
use mathlib.Core.Path.{◌≡◌}
use mathlib.Core.List.{foldl}
use Rattle.rule_styles.specs.Deciding.{nothing_sifted, sift}
use Rattle.rule_styles.specs.Placing.{styled_in}
use Rattle.rule_styles.specs.Sifting.{sifted_in}
use Rattle.rule_styles.proofs.DecidingRows.{sifted_from}
use Rattle.rule_styles.proofs.deciding.sift_styles.Given as goal

abbrev pub invariant-loop-style : goal.invariant-loop-style
invariant-loop-style l = sifted_from l.styles l.slot (sifted_in l.sifted) l.style-index ≡ foldl (sift l.slot) nothing_sifted (styled_in l.styles)
