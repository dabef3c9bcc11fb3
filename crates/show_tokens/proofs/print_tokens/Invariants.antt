-- Reading stays within the text, and goes on by a byte at least.
use Rattle.std.proofs.Common.{◌≤◌, ◌-◌, length}
use Rattle.show_tokens.proofs.print_tokens.Given as goal

abbrev pub invariant-loop-start : goal.invariant-loop-start
invariant-loop-start g l = l.at ≤ length l.s

abbrev pub decreases-loop-start : goal.decreases-loop-start
decreases-loop-start g l = length l.s - l.at
