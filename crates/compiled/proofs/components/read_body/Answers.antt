-- Each kind is read by its own reader, as the definition splits kinds.
use Rattle.combinators.proofs.Rules.{told}
use Rattle.compiled.proofs.ComponentCode as laws
use Rattle.compiled.proofs.components.read_body.Goals as goal

pub returns-then-is_mark : goal.returns-then-is_mark
returns-then-is_mark c = laws.body-mark _ _ _ (told _ _ _ c.is_mark.ensures c.if-is_mark.true)

pub returns-then-kind-eq-NTH : goal.returns-then-kind-eq-NTH
returns-then-kind-eq-NTH c = laws.body-numbers _ _ _ (told _ _ _ c.is_mark.ensures c.if-is_mark.false) _ c.if-kind-eq-NTH.true c.read_numbers.ensures

pub returns-then-kind-eq-ATTRIBUTE_EQUAL : goal.returns-then-kind-eq-ATTRIBUTE_EQUAL
returns-then-kind-eq-ATTRIBUTE_EQUAL c = laws.body-names _ _ _ (told _ _ _ c.is_mark.ensures c.if-is_mark.false) _ c.if-kind-eq-NTH.false c.if-kind-eq-ATTRIBUTE_EQUAL.true c.read_names.ensures

pub returns-else-kind-eq-ATTRIBUTE_EQUAL : goal.returns-else-kind-eq-ATTRIBUTE_EQUAL
returns-else-kind-eq-ATTRIBUTE_EQUAL c = laws.body-name _ _ _ (told _ _ _ c.is_mark.ensures c.if-is_mark.false) _ c.if-kind-eq-NTH.false c.if-kind-eq-ATTRIBUTE_EQUAL.false c.read_name.ensures
