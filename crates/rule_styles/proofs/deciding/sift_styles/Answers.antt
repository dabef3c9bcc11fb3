-- What is left to sift always comes to what all styles come to.
use mathlib.Core.Path.{sym, ◌∙◌}
use native.Mathlib.Omega.{arith}
use Rattle.rule_styles.specs.Sifting.{sifted_in}
use Rattle.rule_styles.proofs.DecidingRows.{sift-begin, sift-none, sift-more}
use Rattle.rule_styles.proofs.deciding.sift_styles.Goals as goal

pub loop-style-init : goal.loop-style-init
loop-style-init c = sift-begin c.args.styles.now c.args.slot

pub loop-style-preserved : goal.loop-style-preserved
loop-style-preserved c = sift-more c.args.styles.now c.args.slot c.loop-style.sifted c.sift-sifted.result c.loop-style.style-index _ _ (omega arith) c.style_at.ensures c.sift-sifted.ensures c.loop-style.invariant

pub returns : goal.returns
returns c = sym (sift-none c.args.styles.now c.args.slot (sifted_in c.loop-style.sifted) c.loop-style.style-index (omega arith)) ∙ c.loop-style.invariant
