-- The start and the length of the row give the part.
use Rattle.page.proofs.Numbers as laws
use Rattle.page.proofs.rows.attribute_value.Goals as goal

pub returns : goal.returns
returns c = laws.value-cut _ _ _ _ _ _ c.part_of.ensures c.value_start.ensures.value c.value_length.ensures.value
