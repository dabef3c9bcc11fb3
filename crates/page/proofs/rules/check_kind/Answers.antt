-- Each kind is asked what the rules ask of it; a number that is no kind is against them.
use native.Mathlib.Omega.{arith}
use Rattle.page.proofs.RowLaws as laws
use Rattle.page.proofs.rules.check_kind.Goals as goal

pub returns-in-1 : goal.returns-in-1
returns-in-1 c = laws.element-decides _ _ _ _ _ c.kind_of.ensures (omega arith) c.in-1.is _ c.check_element.ensures

pub returns-in-2 : goal.returns-in-2
returns-in-2 c = laws.other-right _ _ _ _ _ c.kind_of.ensures c.in-2.is _ c.ends_in_zeros.ensures c.if-ends_in_zeros.true

pub returns-in_default : goal.returns-in_default
returns-in_default c = laws.other-wrong _ _ _ _ _ c.kind_of.ensures c.in-2.is _ c.ends_in_zeros.ensures c.if-ends_in_zeros.false

pub returns-in_default-2 : goal.returns-in_default-2
returns-in_default-2 c = laws.no_kind _ _ _ _ _ c.kind_of.ensures (omega arith) (omega arith)
