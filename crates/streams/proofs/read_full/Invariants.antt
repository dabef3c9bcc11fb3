-- What is read stays within the buffer.
use Rattle.std.proofs.Common.{◌≤◌, ◌-◌, length}
use Rattle.streams.proofs.read_full.Given as goal

abbrev pub invariant-loop-n : goal.invariant-loop-n
invariant-loop-n g l = l.done ≤ length l.buffer

abbrev pub decreases-loop-n : goal.decreases-loop-n
decreases-loop-n g l = length l.initial.buffer - l.done
