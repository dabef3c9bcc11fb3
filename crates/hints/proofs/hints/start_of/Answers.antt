-- A length counts by what is left of it.
use Rattle.hints.proofs.TableLaws as laws
use Rattle.hints.proofs.hints.start_of.Goals as goal

pub returns-clause-value : goal.returns-clause-value
returns-clause-value c = let b = c.from.ensures in rw (b) (laws.start-left _ _)
