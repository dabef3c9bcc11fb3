-- The rows that are cut out are the element's own.
use Rattle.page.specs.PathOf.{element_at}
use Rattle.page.proofs.OwnAttributes.{own-all}
use Rattle.matching.proofs.elements.Element.attributes.Goals as goal

pub returns : goal.returns
unfolding element_at
returns c = own-all _ _ _ _ _ _ c.first_attribute-first.ensures.value c.attribute_count-count.ensures.value _ c.part_of.ensures
