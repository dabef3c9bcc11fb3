-- Each byte that is read is one less to read.
use Rattle.std.proofs.Common.{length}
use Rattle.replay.proofs.stream.Stream.number.Given as goal

abbrev pub decreases-loop-byte : goal.decreases-loop-byte
decreases-loop-byte l = length l.self.rest.now
