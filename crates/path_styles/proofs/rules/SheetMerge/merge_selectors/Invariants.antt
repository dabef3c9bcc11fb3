-- Each turn merges what the first of the selectors that are left says and goes behind it, so all are merged and passed.
use Rattle.path_styles.proofs.RulesMerging as laws
use Rattle.rule_styles.specs.Placing.{read_styled}
use Rattle.path_styles.proofs.TopsLaws as numbers
use Rattle.syntax.specs.Stream.{read_many}
use lib.ListN.{drop}
use Rattle.page.specs.PathOf.{path_of}
use Prim.Native.Nat.{◌-◌}
use Rattle.path_styles.proofs.rules.SheetMerge.merge_selectors.Given as goal

abbrev pub invariant-loop : goal.invariant-loop
invariant-loop l =
    laws.SelectorsMerging l.self.cascade l.self.origin (path_of l.self.element.page.nodes.now l.self.element.page.attributes.now l.self.element.page.text.now l.self.element.row) (read_many read_styled l.count (drop l.fn.places.styles l.self.styles.now)).value l.self.texts.now l.self.rows.now l.selectors l.fn.places.row l.initial.out (l.selectors - l.counter) l.place l.out
    × numbers.SelectorsRight l.self.element.page.nodes.now l.self.element.page.attributes.now l.self.element.page.text.now l.self.element.row l.self.texts.now l.self.rows.now l.self.styles.now (l.selectors - l.counter) l.place l.top_place
