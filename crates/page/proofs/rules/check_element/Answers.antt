-- Each rule by its own test; where the texts follow on, the totals behind the element are those of the definition.
use mathlib.Core.Path.{◌∙◌}
use Rattle.page.proofs.RowLaws as laws
use Rattle.page.proofs.rules.check_element.Goals.{then-name_start-totals-via-then-name_start-totals, then-name_start-totals-via-else-name_start-totals+then-first_attribute-totals}
use Rattle.page.proofs.rules.check_element.Goals as goal

pub returns-then-name_start-totals : goal.returns-then-name_start-totals
returns-then-name_start-totals c =
    elim c.then-name_start-totals.branch [
      | then-name_start-totals-via-then-name_start-totals w ↦ laws.element-start _ _ _ _ _ c.name_start.ensures.value w.if-name_start-totals.true
      | then-name_start-totals-via-else-name_start-totals+then-first_attribute-totals w ↦ laws.element-first _ _ _ _ _ c.name_start.ensures.value _ w.first_attribute.ensures.value w.if-first_attribute-totals.true
    ]

pub returns-then-first-attribute_rows : goal.returns-then-first-attribute_rows
returns-then-first-attribute_rows c = laws.element-past _ _ _ _ _ c.name_start.ensures.value _ c.first_attribute.ensures.value _ _ c.attribute_count-count.ensures.value c.attribute_rows.ensures c.if-first-attribute_rows.true

pub returns-in_err-start : goal.returns-in_err-start
returns-in_err-start c =
    c.from_residual.ensures
    ∙ laws.element-breaks _ _ _ _ _ c.name_start.ensures.value _ c.first_attribute.ensures.value _ _ c.attribute_count-count.ensures.value c.attribute_rows.ensures
    _ c.name_length.ensures.value _ c.follow_attributes.ensures c.in_err-start.was

pub returns : goal.returns
returns c =
    laws.element-ends _ _ _ _ _ c.name_start.ensures.value _ c.first_attribute.ensures.value _ _ c.attribute_count-count.ensures.value c.attribute_rows.ensures
    _ c.name_length.ensures.value _ c.follow_attributes.ensures c.if-name_start-totals.false c.if-first_attribute-totals.false c.if-first-attribute_rows.false _ c.in_ok-start.was
