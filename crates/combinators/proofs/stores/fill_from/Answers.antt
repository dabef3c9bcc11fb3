-- The part from the place on, or from the end on, is filled with the value.
use Rattle.combinators.proofs.Filled as laws
use Rattle.combinators.proofs.stores.fill_from.Goals as goal

pub returns : goal.returns
returns g c = laws.from-returns _ _ _ _ c.min-start.ensures _ (c.fill.ensures.after c.requires.copied)
