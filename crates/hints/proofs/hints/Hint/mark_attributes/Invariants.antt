-- What each attribute so far has is marked.
use Rattle.hints.proofs.TableLaws as laws
use Rattle.hints.proofs.hints.Hint.mark_attributes.Given as goal

abbrev pub invariant-loop-row : goal.invariant-loop-row
invariant-loop-row l = laws.Gathering l.attributes.rows.now l.attributes.text.now l.initial.self l.self l.row
