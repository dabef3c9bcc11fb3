-- The place, or the end of the rows where it lies behind; a sum that is no number is behind them too.
use Rattle.std.proofs.Common.{arith}
use Rattle.syntax.proofs.Walks as laws
use Rattle.syntax.proofs.walk.forward.Goals as goal

pub returns-clause-value : goal.returns-clause-value
returns-clause-value c = laws.reached-least _ _ _ (omega (arith, c.saturating_add.ensures, c.min.ensures))
