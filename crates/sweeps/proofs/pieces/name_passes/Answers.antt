-- Each of the four kinds asks of the element what `tested` asks: its name, a class, its id, or an attribute; none of them asks for its place.
use mathlib.Core.Path.{◌∙◌}
use native.Mathlib.Omega.{arith}
use Rattle.combinators.proofs.Words.{same-by}
use Rattle.sweeps.proofs.CodePieceLaws as laws
use Rattle.sweeps.proofs.pieces.name_passes.Goals as goal

pub returns-in-2 : goal.returns-in-2
returns-in-2 c = let k = c.in-2.is in laws.name-asked _ _ _ k _ (c.eq.ensures ∙ same-by _ _)

pub returns-in-1 : goal.returns-in-1
returns-in-1 c = let k = c.in-1.is in laws.class-asked _ _ _ k _ c.attributes.ensures _ c.has_class.ensures

pub returns-in-3 : goal.returns-in-3
returns-in-3 c = let k = c.in-3.is in laws.id-asked _ _ _ k _ c.attributes-in-3.ensures _ c.has_id.ensures

pub returns-in_default : goal.returns-in_default
returns-in_default c = laws.attribute-asked _ _ _ (λ z. omega (arith, z)) (λ z. omega (arith, z)) (λ z. omega (arith, z)) _ c.attributes-in_default.ensures _ c.has_attribute.ensures
