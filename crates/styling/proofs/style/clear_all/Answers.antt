-- Zeros from the first on are zeros throughout.
use mathlib.Core.Path.{refl, sym, ◌∙◌}
use borrow.Author.Rules.{rules}
use Rattle.combinators.proofs.Cleared.{cleared-throughout}
use Rattle.styling.proofs.style.clear_all.Goals as goal

pub returns-clause-out_after : goal.returns-clause-out_after
returns-clause-out_after c = c.fill.ensures.after (search rules) ∙ sym (cleared-throughout c.args.out.now c.args.out.now _ refl refl)
