-- The texts are filled with zeros where the others were cleared.
use Rattle.std.proofs.Common.{ap, ◌∙◌}
use Rattle.combinators.proofs.Cleared.{all_cleared}
use Rattle.combinators.specs.Store.{cleared}
use Rattle.combinators.proofs.lent.Stores.clear.Goals as goal

pub returns-clause-texts_after : goal.returns-clause-texts_after
returns-clause-texts_after c = all_cleared _ _ (c.fill.ensures.after (λ y e. e)) ∙ ap (cleared 0) c.clear_work.ensures.texts_unchanged
