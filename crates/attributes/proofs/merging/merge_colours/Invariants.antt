-- Each turn merges the colour of the first attribute that is left; when none is left, all are merged.
use Rattle.attributes.proofs.TurnLaws as laws
use Rattle.attributes.proofs.merging.merge_colours.Given as goal

abbrev pub invariant-loop-i : goal.invariant-loop-i
invariant-loop-i l = laws.ColourTurn l.attributes.rows.now l.attributes.text.now l.attributes.count l.cascade l.fill l.initial.out l.initial.stores l.i l.out l.stores
