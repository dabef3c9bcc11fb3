-- A component adds by its kind.
use mathlib.Core.Path.{refl}
use mathlib.Core.Logic.{⊎_elim}
use Rattle.stepping.proofs.WeightLaws as laws
use Rattle.stepping.proofs.specificity.written_weight.Goals as goal

pub returns-in-Mark : goal.returns-in-Mark
returns-in-Mark c = laws.mark-weight _ _ _ c.in-Mark.is refl

pub returns-in-Name : goal.returns-in-Name
returns-in-Name c = laws.name-weight _ _ _ _ c.in-Name.is (laws.name-adds _ _ c.name_weight.ensures)

pub returns-in-Numbers : goal.returns-in-Numbers
returns-in-Numbers c = ⊎_elim (λ w. laws.numbers-weight _ _ _ _ w.2 c.new.ensures) (λ w. laws.names-weight _ _ _ _ w.2 c.new.ensures) c.in-Numbers.is
