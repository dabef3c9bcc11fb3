-- Each store that is cleared is filled with zeros.
use Rattle.combinators.proofs.Cleared.{all_cleared}
use Rattle.combinators.proofs.lent.Stores.clear_work.Goals as goal

pub returns-clause-rules_after : goal.returns-clause-rules_after
returns-clause-rules_after c = all_cleared _ _ (c.fill.ensures.after (λ y e. e))

pub returns-clause-tokens_after : goal.returns-clause-tokens_after
returns-clause-tokens_after c = all_cleared _ _ (c.fill-2.ensures.after (λ y e. e))

pub returns-clause-brackets_after : goal.returns-clause-brackets_after
returns-clause-brackets_after c = all_cleared _ _ (c.fill-3.ensures.after (λ y e. e))
