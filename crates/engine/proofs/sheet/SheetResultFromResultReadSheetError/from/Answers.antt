-- Field by field the numbers of the answer.
use Rattle.engine.specs.Sheet.{numbers_in}
use Rattle.engine.proofs.Results as results
use Rattle.engine.proofs.sheet.SheetResultFromResultReadSheetError.from.Goals as goal

pub returns : goal.returns
unfolding numbers_in
returns c = results.sheet-numbers _ c.from-count.ensures
