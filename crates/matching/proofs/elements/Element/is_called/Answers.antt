-- What is compared is the name of the row.
use Rattle.matching.proofs.AttributeLaws.{compared}
use Rattle.matching.proofs.elements.Element.is_called.Goals as goal

pub returns : goal.returns
returns c = compared _ _ _ c.name_of.ensures _ c.eq.ensures
