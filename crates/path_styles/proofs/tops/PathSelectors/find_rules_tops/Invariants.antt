-- What is left to store is what was to be stored, rule by rule.
use Rattle.path_styles.proofs.TopsLaws as laws
use Prim.Native.Nat.{◌-◌}
use Rattle.path_styles.proofs.tops.PathSelectors.find_rules_tops.Given as goal

abbrev pub invariant-loop : goal.invariant-loop
invariant-loop l = laws.RulesStored l.self.element.page.nodes.now l.self.element.page.attributes.now l.self.element.page.text.now l.self.element.row l.self.texts.now l.self.rows.now l.fn.sheet.count l.fn.sheet.place l.initial.tokens l.place (l.fn.sheet.count - l.counter) l.from l.to l.tokens
