-- So much of the part as there is is filled with the value.
use Rattle.combinators.proofs.Filled as laws
use Rattle.combinators.proofs.stores.fill_part.Goals as goal

pub returns : goal.returns
returns g c = laws.part-returns _ _ _ _ _ _ c.min-start.ensures c.min.ensures _ (c.fill.ensures.after c.requires.copied)
