-- Of the rest of the store so many bytes, or as many as there are.
use Rattle.combinators.proofs.Parts as laws
use Rattle.combinators.proofs.texts.part_of.Goals as goal

pub returns : goal.returns
returns g c = laws.part-least _ _ _ _ _ c.min.ensures c.min-2.ensures
