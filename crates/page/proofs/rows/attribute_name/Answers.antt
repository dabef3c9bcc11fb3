-- The start and the length of the row give the part.
use Rattle.page.proofs.Numbers as laws
use Rattle.page.proofs.rows.attribute_name.Goals as goal

pub returns : goal.returns
returns c = laws.attribute-name-cut _ _ _ _ _ _ c.part_of.ensures c.attribute_name_start.ensures.value c.attribute_name_length.ensures.value
