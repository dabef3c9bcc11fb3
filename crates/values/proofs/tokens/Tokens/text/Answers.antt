-- The row's start and length give the part.
use Rattle.values.proofs.TokenViews as views
use Rattle.values.proofs.tokens.Tokens.text.Goals as goal

pub returns : goal.returns
returns c = views.text-cut _ _ _ _ _ c.place.ensures.value c.place-2.ensures.value _ c.part_of.ensures
