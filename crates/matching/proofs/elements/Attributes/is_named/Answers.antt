-- What is compared is the name of the row.
use Rattle.matching.proofs.AttributeLaws.{named}
use Rattle.matching.proofs.elements.Attributes.is_named.Goals as goal

pub returns : goal.returns
returns c = named _ _ _ _ _ c.attribute_name.ensures _ c.eq.ensures
