-- Each word is the one that is sought, and then it is marked, or is passed.
use Rattle.hints.proofs.TableLaws as laws
use Rattle.hints.proofs.hints.Hint.mark_words.Goals as goal

pub loop-word-init : goal.loop-word-init
loop-word-init c = laws.words-begin _ _

pub loop-word-preserved : goal.loop-word-preserved
loop-word-preserved c = laws.words_more _ _ _ _ c.loop-word.invariant _ _ c.in-Some.ensures _ c.mark.ensures

pub returns-clause-words : goal.returns-clause-words
returns-clause-words c = laws.words-end _ _ _ _ c.loop-word.invariant c.in_default.ensures
