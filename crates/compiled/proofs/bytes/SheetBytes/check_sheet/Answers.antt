-- The count is read, and the selectors behind it are the rest of the bytes.
use Rattle.compiled.proofs.Answers.{raised}
use Rattle.compiled.proofs.SheetCode as laws
use Rattle.compiled.proofs.bytes.SheetBytes.check_sheet.Goals as goal

pub returns-in_err-count : goal.returns-in_err-count
returns-in_err-count c = let t : goal.returns-in_err-count-raw c = laws.sheet-fault _ _ c.read_number.ensures.value _ c.in_err-count.was _ (raised _ _ c.from_residual.ensures.1) in record { result_value = t.0; check_within = t.1 }

pub returns : goal.returns
returns c = let t : goal.returns-raw c = laws.sheet-checked _ _ c.read_number.ensures.value _ c.in_ok-count.was _ c.check_selectors.ensures in record { result_value = t.0; check_within = t.1 }
