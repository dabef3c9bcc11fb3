-- Row 0 has to be the document; any other row has a right parent and follows on in its texts, or does not.
use mathlib.Core.Path.{◌∙◌}
use native.Mathlib.Omega.{arith}
use Rattle.page.proofs.RowLaws as laws
use Rattle.page.proofs.rules.check_row.Goals as goal

pub returns-then-row-eq0 : goal.returns-then-row-eq0
returns-then-row-eq0 c = c.then_some.ensures ∙ laws.document-only _ _ _ c.if-row-eq0.true _ c.is_document.ensures c.args.before c.requires

pub returns-in_err-depth : goal.returns-in_err-depth
returns-in_err-depth c = c.from_residual.ensures ∙ laws.row-misplaced _ _ _ _ _ _ c.requires (omega arith) _ c.check_parent.ensures c.in_err-depth.was

pub returns-in_err-totals : goal.returns-in_err-totals
returns-in_err-totals c = c.from_residual-in_err-totals.ensures ∙ laws.row-against _ _ _ _ _ _ c.requires (omega arith) _ c.check_parent.ensures _ c.in_ok-depth.was _ c.check_kind.ensures c.in_err-totals.was

pub returns : goal.returns
returns c = laws.row-right _ _ _ _ _ _ c.requires (omega arith) _ c.check_parent.ensures _ c.in_ok-depth.was _ c.check_kind.ensures _ c.in_ok-totals.was
