-- What was read and what is still to be read make up the whole at each turn (`Reading-on`); each return is the law of its case.
use Prim.Native.Nat.{◌-◌}
use lib.ListN.{length}
use Rattle.combinators.proofs.LentLaws.{Lending}
use Rattle.selectors.proofs.ComponentTurns as laws
use Rattle.selectors.proofs.selectors.parse_body.Given as goal

abbrev pub invariant-loop-read : goal.invariant-loop-read
invariant-loop-read l =
    Lending (laws.Reading-on l.s l.initial.stores.rules.now l.place l.initial.stores.texts.now l.fill l.stores.rules.now l.stores.texts.now l.body.taken l.body.count l.body.numbers l.body.text) l.initial.stores l.stores

abbrev pub decreases-loop-read : goal.decreases-loop-read
decreases-loop-read l = length l.s - l.body.taken
