-- The last two tokens are an exclamation mark and the name `important`.
use mathlib.Core.Path.{sym, ◌∙◌}
use borrow.Author.Tests.{leb-true}
use native.Mathlib.Omega.{arith}
use Rattle.characters.specs.Literal.{text}
use Rattle.characters.specs.Utf8.{utf8, continuation}
use Rattle.combinators.specs.Choice.{pick}
use Rattle.values.proofs.Marks as laws
use Rattle.values.proofs.statements.is_important.Goals as goal
use Rattle.values.proofs.statements.is_important.Goals.{then-count-ge-MARK_TOKENS, else-count-ge-MARK_TOKENS}

pub returns-then-is_delim : goal.returns-then-is_delim
unfolding text utf8 continuation pick
returns-then-is_delim c = elim c.if-count-ge-MARK_TOKENS.branch [
  | then-count-ge-MARK_TOKENS w ↦ rw (← c.count-count.ensures) (laws.mark-name _ _ _ w.if-count-ge-MARK_TOKENS.true _ (w.is_delim.ensures _) (sym w.value-is ∙ c.if-is_delim.true) _ c.is_word.ensures)
  | else-count-ge-MARK_TOKENS w ↦ absurd (omega (arith, leb-true 2 _ (sym w.value-is ∙ c.if-is_delim.true), w.if-count-ge-MARK_TOKENS.false))
]

pub returns-else-is_delim : goal.returns-else-is_delim
returns-else-is_delim c = elim c.if-count-ge-MARK_TOKENS.branch [
  | then-count-ge-MARK_TOKENS w ↦ rw (← c.count-count.ensures) (w.value-is ∙ laws.mark-no-sign _ _ _ w.if-count-ge-MARK_TOKENS.true _ (w.is_delim.ensures _) (sym w.value-is ∙ c.if-is_delim.false))
  | else-count-ge-MARK_TOKENS w ↦ rw (← c.count-count.ensures) (c.if-is_delim.false ∙ laws.mark-few _ _ _ w.if-count-ge-MARK_TOKENS.false)
]
