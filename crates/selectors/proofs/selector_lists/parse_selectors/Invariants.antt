-- What was read and what is still to be read make up the whole at each turn (`Reading-on`); each return is the law of its case.
use Prim.Native.Nat.{◌-◌}
use lib.ListN.{length}
use Rattle.combinators.proofs.LentLaws.{Lending}
use Rattle.selectors.proofs.SelectorLists as laws
use Rattle.selectors.proofs.selector_lists.parse_selectors.Given as goal

abbrev pub invariant-loop-selector : goal.invariant-loop-selector
invariant-loop-selector l =
    Lending (laws.Reading-on l.s l.initial.stores.rules.now l.place l.initial.stores.texts.now l.fill l.stores.rules.now l.stores.texts.now l.read.taken l.read.count l.read.numbers l.read.text l.next) l.initial.stores l.stores

abbrev pub decreases-loop-selector : goal.decreases-loop-selector
decreases-loop-selector l = length l.s - l.next
