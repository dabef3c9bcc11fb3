-- The selector at the place is asked, so where it matches its styles are merged, and elsewhere it says nothing.
use Rattle.path_styles.proofs.RulesMerging as laws
use Rattle.page.specs.PathOf.{path_of}
use Rattle.path_styles.proofs.rules.SheetMerge.merge_selector.Goals as goal

pub matches_by_number-requires : goal.matches_by_number-requires
matches_by_number-requires c = rw c.selector_at-selector.ensures.components_value c.requires.right_number

pub returns-then-matches_by_number : goal.returns-then-matches_by_number
returns-then-matches_by_number c = let a = c.args in
    laws.selector-holds _ a.self.now.origin (path_of a.self.now.element.page.nodes.now a.self.now.element.page.attributes.now a.self.now.element.page.text.now a.self.now.element.row) _ a.self.now.texts.now a.self.now.rows.now a.at _ c.selector_at-selector.ensures.components_value _
    c.matches_by_number.ensures c.if-matches_by_number.true _ c.selector_pseudo-pseudo.ensures _ (c.specificity-spec.ensures _) _ _ c.merge_styles.ensures

pub returns-else-matches_by_number : goal.returns-else-matches_by_number
returns-else-matches_by_number c = let a = c.args in
    laws.selector-fails _ a.self.now.origin (path_of a.self.now.element.page.nodes.now a.self.now.element.page.attributes.now a.self.now.element.page.text.now a.self.now.element.row) _ a.self.now.texts.now a.self.now.rows.now a.at _ c.selector_at-selector.ensures.components_value _
    c.matches_by_number.ensures c.if-matches_by_number.false _
