-- The text is the filled part of the store, in which it has room.
use Rattle.std.proofs.Common.{◌∙◌}
use Rattle.std.proofs.Output.{has_written_of_eq}
use Rattle.compile_sheet.proofs.HexadecimalLaws as laws
use Rattle.compile_sheet.proofs.hexadecimal.write_stored.Goals as goal

pub returns-in-Ok : goal.returns-in-Ok
returns-in-Ok g c plain ok =
    has_written_of_eq _ _ _ _ _ (c.in-Ok.ensures.cases.0 ∙ c.part_of.ensures ∙ c.put_ended_pairs-fill.ensures ∙ laws.piece-whole _ _ _ c.requires)
    (c.write_str.ensures.writes plain ok)
