-- The bytes are counted, or more than the brackets.
use native.Mathlib.Omega.{arith}
use Rattle.page.proofs.Fits as laws
use Rattle.page.proofs.lent.Page.fits.Goals as goal

pub returns : goal.returns
returns c = laws.fits _ _ _ _ _ _ (omega (arith, c.attribute_rows-own.ensures, c.saturating_add.ensures, c.saturating_add-2.ensures)) (omega arith) _ c.suffice.ensures
