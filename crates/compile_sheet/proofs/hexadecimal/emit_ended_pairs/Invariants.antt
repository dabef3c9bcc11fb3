-- The pairs of the bytes so far are written.
use Rattle.std.proofs.Common.{get_or}
use Rattle.compile_sheet.proofs.HexadecimalLaws as laws
use Rattle.compile_sheet.proofs.hexadecimal.emit_ended_pairs.Given as goal

abbrev pub invariant-loop-byte : goal.invariant-loop-byte
invariant-loop-byte l = laws.Lining l.fn.writer l.writer (get_or l.bytes 0 0) l.rest l.byte-index
