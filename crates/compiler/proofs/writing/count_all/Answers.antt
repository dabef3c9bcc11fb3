-- The selectors of the three sheets are counted one sheet after the other; there are few enough to be added.
use Rattle.compiler.proofs.WritingLaws as laws
use Rattle.compiler.proofs.writing.count_all.Goals as goal

pub count_selectors-agents-requires : goal.count_selectors-agents-requires
count_selectors-agents-requires c = laws.agent-few _ _ _ c.requires

pub count_selectors-users-requires : goal.count_selectors-users-requires
count_selectors-users-requires c = laws.user-few _ _ _ c.requires

pub count_selectors-authors-requires : goal.count_selectors-authors-requires
count_selectors-authors-requires c = laws.author-few _ _ _ c.requires

pub overflow_add-result : goal.overflow_add-result
overflow_add-result c = record { fits = laws.first-fit _ _ _ c.requires c.count_selectors-agents.ensures c.count_selectors-users.ensures c.count_selectors-authors.ensures }

pub overflow_add-result-2 : goal.overflow_add-result-2
overflow_add-result-2 c = record { fits = laws.counts-fit _ _ _ c.requires c.count_selectors-agents.ensures c.count_selectors-users.ensures c.count_selectors-authors.ensures }

pub returns : goal.returns
returns c = laws.counts _ _ _ c.requires c.count_selectors-agents.ensures c.count_selectors-users.ensures c.count_selectors-authors.ensures
