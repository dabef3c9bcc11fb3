-- The numbers are told without the text of the refusal, which is 0.
use Rattle.engine.specs.Length.{numbers_in}
use Rattle.engine.proofs.Results as results
use Rattle.engine.proofs.length.LengthResultFromResultOptionLengthLengthError.from.Goals as goal

pub returns : goal.returns
unfolding numbers_in
returns c = results.length-numbers _ c.from-kind.ensures
