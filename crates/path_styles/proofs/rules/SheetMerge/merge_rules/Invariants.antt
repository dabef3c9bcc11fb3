-- Each turn merges what the first of the rules that are left says and goes behind it and its styles, so all are merged in their order.
use Rattle.path_styles.proofs.RulesMerging as laws
use Rattle.path_styles.proofs.TopsLaws as numbers
use Rattle.page.specs.PathOf.{path_of}
use Prim.Native.Nat.{◌-◌}
use Rattle.path_styles.proofs.rules.SheetMerge.merge_rules.Given as goal

abbrev pub invariant-loop : goal.invariant-loop
invariant-loop l =
    laws.RulesMerging l.self.cascade l.self.origin (path_of l.self.element.page.nodes.now l.self.element.page.attributes.now l.self.element.page.text.now l.self.element.row) l.self.texts.now l.self.rows.now l.fn.sheet.styled.rules.count l.fn.sheet.styled.rules.place l.self.styles.now l.fn.sheet.styled.styles l.initial.out (l.fn.sheet.styled.rules.count - l.counter) l.next.row l.next.styles l.out
    × numbers.RulesRight l.self.element.page.nodes.now l.self.element.page.attributes.now l.self.element.page.text.now l.self.element.row l.self.texts.now l.self.rows.now l.self.styles.now (l.fn.sheet.styled.rules.count - l.counter) l.next.row l.next.tops
