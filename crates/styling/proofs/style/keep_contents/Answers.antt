-- The contents move down to the start; what is cleared stands behind them.
use native.Mathlib.Omega.{arith}
use borrow.Author.Rules.{rules}
use Rattle.combinators.proofs.Filled.{from-returns}
use Rattle.styling.proofs.StyleTurns as laws
use Rattle.styling.proofs.style.keep_contents.Goals as goal

pub returns : goal.returns
returns c = laws.contents-kept _ _ _ _ _ c.requires.inside c.move_down.ensures (from-returns 0 _ _ _ (omega (arith, c.requires.inside, c.move_down.auto.store)) _ (c.fill.ensures.after (search rules)))
