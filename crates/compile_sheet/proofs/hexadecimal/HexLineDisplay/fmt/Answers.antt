-- Each turn writes a piece, and the rest of the line is left.
use Rattle.std.proofs.Common.{rules}
use Rattle.std.proofs.Output.{has_written_append, has_written_of_eq}
use Rattle.compile_sheet.specs.Hexadecimal.{hex_line}
use Rattle.compile_sheet.proofs.HexadecimalLaws as laws
use Rattle.compile_sheet.proofs.hexadecimal.HexLineDisplay.fmt.Goals as goal

pub loop-rest-preserved : goal.loop-rest-preserved
loop-rest-preserved g c plain =
    let so_far = c.loop-rest.invariant plain in (
      _,
      has_written_append _ _ _ _ _ _ so_far.1 (c.write_piece.ensures so_far.1.plain (search rules)),
      laws.line-piece so_far.0 _ _ _ _ c.split_at.ensures.front c.split_at.ensures.back c.loop-rest-test.true so_far.2,
    )

pub returns-clause-writes : goal.returns-clause-writes
unfolding hex_line
returns-clause-writes g c plain ok =
    let so_far = c.loop-rest.invariant plain in
    has_written_of_eq _ _ _ _ _ so_far.2 (has_written_append _ _ _ _ _ _ so_far.1 (c.write_piece-2.ensures so_far.1.plain ok))
