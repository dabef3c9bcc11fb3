-- The rows are filled one after the other.
use Rattle.hints.proofs.HintLaws as laws
use Rattle.hints.proofs.hints.Hint.clear.Goals as goal

pub returns : goal.returns
returns c = cc (laws.rows-filled c.args.any)
