-- The start and the length of the row give the part.
use Rattle.page.proofs.Numbers as laws
use Rattle.page.proofs.rows.name_of.Goals as goal

pub returns : goal.returns
returns c = laws.name-cut _ _ _ _ _ _ c.part_of.ensures c.name_start.ensures.value c.name_length.ensures.value
