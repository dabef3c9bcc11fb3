-- The refusal is told without its text, which is 0.
use Rattle.engine.specs.Page.{refusal_in}
use Rattle.engine.proofs.Results as results
use Rattle.engine.proofs.pages.PageResultFromResultUnitPageError.from.Goals as goal

pub returns : goal.returns
unfolding refusal_in
returns c = results.page-refused _ (results.page-told _ c.refusal_of-refusal.ensures)
