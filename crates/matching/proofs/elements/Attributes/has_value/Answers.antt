-- What is compared is the value of the row.
use Rattle.matching.proofs.AttributeLaws.{compared}
use Rattle.matching.proofs.elements.Attributes.has_value.Goals as goal

pub returns : goal.returns
returns c = compared _ _ _ c.attribute_value.ensures _ c.eq.ensures
