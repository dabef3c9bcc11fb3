-- The rule says what its selectors say with the styles that are kept for it, and without a style they say nothing; its declarations lie behind them.
use Rattle.path_styles.proofs.RulesMerging as laws
use Rattle.page.specs.PathOf.{path_of}
use Rattle.path_styles.proofs.rules.SheetMerge.merge_rule.Goals as goal

pub returns-then-count-eq0 : goal.returns-then-count-eq0
returns-then-count-eq0 c = let t : goal.returns-then-count-eq0-raw c = let a = c.args in
    (laws.rule-unstyled _ a.self.now.origin (path_of a.self.now.element.page.nodes.now a.self.now.element.page.attributes.now a.self.now.element.page.text.now a.self.now.element.row) a.self.now.texts.now a.self.now.rows.now a.places.row a.self.now.styles.now a.places.styles _ c.number_at-count.ensures c.if-count-eq0.true _, c.skip_rule.ensures a.self.now.texts.now) in record { out_after = t.0; rows_value = t.1 }

pub merge_selectors-behind-requires : goal.merge_selectors-behind-requires
merge_selectors-behind-requires c =
    let a = c.args in
    record {
      right_tops = laws.lent-tops a.self.now.element.page.nodes.now a.self.now.element.page.attributes.now a.self.now.element.page.text.now a.self.now.element.row a.self.now.texts.now a.self.now.rows.now a.places.row _ c.forward.result c.number_at-selectors.ensures c.forward.ensures.rows_value _ c.requires.right_tops;
    }

pub returns : goal.returns
returns c = let t : goal.returns-raw c = let a = c.args in (
  laws.rule-merged _ a.self.now.origin (path_of a.self.now.element.page.nodes.now a.self.now.element.page.attributes.now a.self.now.element.page.text.now a.self.now.element.row) a.self.now.texts.now a.self.now.rows.now a.places.row a.self.now.styles.now a.places.styles _ c.number_at-count.ensures c.forward-2.result
      c.forward-2.ensures.rows_value _ c.forward.result c.number_at-selectors.ensures c.forward.ensures.rows_value _ _ c.merge_selectors-behind.ensures.out_after,
  laws.behind-merged a.self.now.texts.now a.self.now.rows.now a.places.row _ c.forward.result c.number_at-selectors.ensures c.forward.ensures.rows_value c.merge_selectors-behind.result c.merge_selectors-behind.ensures.rows_value _ c.forward-3.result
      c.number_at-declarations.ensures c.forward-3.ensures.rows_value,
) in record { out_after = t.0; rows_value = t.1 }
