-- The steps so far and the depth of the row above are the depth of the row.
use mathlib.Core.Path.{◌≡◌}
use Prim.Native.Nat.{◌+◌}
use Rattle.page.specs.Ancestors.{depth_of}
use Rattle.page.proofs.ancestors.depth_of.Given as goal

abbrev pub invariant-loop-above : goal.invariant-loop-above
invariant-loop-above l = l.depth + depth_of l.nodes l.at ≡ depth_of l.nodes l.row

abbrev pub decreases-loop-above : goal.decreases-loop-above
decreases-loop-above l = l.at
