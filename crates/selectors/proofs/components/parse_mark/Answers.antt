-- The three alternatives in the crate's order; each takes bytes exactly if it reads.
use mathlib.Core.Path.{◌∙◌, ap}
use Rattle.std.proofs.Common.{Ok}
use Rattle.selectors.proofs.ComponentLaws as laws
use Rattle.selectors.proofs.components.parse_mark.Goals as goal

pub returns-in-Some : goal.returns-in-Some
returns-in-Some c = laws.mark-child _ _ c.mark_taken.ensures _ c.in-Some.is

pub returns-in-Some-mark_taken : goal.returns-in-Some-mark_taken
returns-in-Some-mark_taken c = laws.mark-star _ _ c.mark_taken.ensures c.in_default.is _ c.mark_taken-2.ensures _ c.in-Some-mark_taken.is

pub returns : goal.returns
returns c = ap Ok c.then_some.ensures ∙ laws.mark-blank _ _ c.mark_taken.ensures c.in_default.is _ c.mark_taken-2.ensures c.in_default-mark_taken.is _ c.skip_optional_whitespace-taken.ensures.value
