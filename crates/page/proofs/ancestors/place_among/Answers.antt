-- The rows up to this one are counted; of a row past the end nothing more is there to count.
use native.Mathlib.Omega.{arith}
use Rattle.page.proofs.Children as laws
use Rattle.page.proofs.ancestors.place_among.Goals as goal

pub returns : goal.returns
returns c = laws.place-counted _ _ _ _ c.parent_of.ensures.value 18446744073709551615 _ (omega arith) (omega arith) c.saturating_add.ensures c.element_children.ensures.value
