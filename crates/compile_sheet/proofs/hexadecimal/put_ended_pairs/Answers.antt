-- What is emitted from the start on is the filled part.
use Rattle.std.proofs.Common.{rules}
use Rattle.compile_sheet.proofs.HexadecimalLaws as laws
use Rattle.compile_sheet.proofs.hexadecimal.put_ended_pairs.Goals as goal

pub returns : goal.returns
returns c = let e = laws.piece-put _ _ _ _ _ c.emit_ended_pairs.ensures.written in search rules
