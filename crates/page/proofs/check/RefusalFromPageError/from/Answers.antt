-- In each arm the error is known, and the definition gives the same refusal.
use Rattle.page.specs.Accepted.{error_refusal}
use mathlib.Core.Path.{sym, ap, ◌∙◌}
use Rattle.page.proofs.check.RefusalFromPageError.from.Goals as goal

pub returns-in-TooLarge : goal.returns-in-TooLarge
unfolding error_refusal
returns-in-TooLarge c = c.refused.ensures ∙ ap error_refusal (sym c.in-TooLarge.is)

pub returns-in-BadRow : goal.returns-in-BadRow
unfolding error_refusal
returns-in-BadRow c = c.refused_at.ensures ∙ ap error_refusal (sym c.in-BadRow.is)

pub returns-in-BadText : goal.returns-in-BadText
unfolding error_refusal
returns-in-BadText c = c.refused_at-in-BadText.ensures ∙ ap error_refusal (sym c.in-BadText.is)
