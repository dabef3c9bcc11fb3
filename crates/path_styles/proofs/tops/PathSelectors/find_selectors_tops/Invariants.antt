-- What is left to store is what was to be stored.
use Rattle.path_styles.proofs.TopsLaws as laws
use Prim.Native.Nat.{◌-◌}
use lib.ListN.{length}
use Rattle.path_styles.proofs.tops.PathSelectors.find_selectors_tops.Given as goal

abbrev pub invariant-loop-top : goal.invariant-loop-top
invariant-loop-top l = laws.SelectorsStored l.self.element.page.nodes.now l.self.element.page.attributes.now l.self.element.page.text.now l.self.element.row l.self.texts.now l.self.rows.now l.at l.initial.tops (length l.initial.tops - l.top-index) l.from l.top-index l.tops
