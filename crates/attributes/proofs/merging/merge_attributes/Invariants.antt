-- Each turn merges the first attribute that is left; when none is left, all are merged and their contents lie one behind the other.
use Rattle.attributes.proofs.TurnLaws as laws
use Rattle.attributes.proofs.merging.merge_attributes.Given as goal

abbrev pub invariant-loop-i : goal.invariant-loop-i
invariant-loop-i l = laws.Turn l.attributes.rows.now l.attributes.text.now l.attributes.count l.cascade l.base l.fill l.initial.out l.initial.stores l.f l.i l.out l.stores
