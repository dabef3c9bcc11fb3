-- What `parse_signed` takes of the rest and what stands before it, or none where it takes nothing.
use Rattle.std.proofs.Common.{◌∙◌}
use Rattle.lexer.specs.Number.{signed, number}
use Rattle.lexer.proofs.Digits.{none-behind, some-behind}
use Rattle.lexer.proofs.numbers.parse_number.Goals as goal

pub returns-in_err-parse_signed-clause-value : goal.returns-in_err-parse_signed-clause-value
unfolding number
returns-in_err-parse_signed-clause-value c = c.from_residual.ensures ∙ none-behind signed _ _ _ _ c.skip_optional_whitespace-w.ensures.value c.parse_signed.ensures.value c.in_err-parse_signed.was

pub returns-clause-value : goal.returns-clause-value
unfolding number
returns-clause-value c = some-behind signed _ _ _ _ c.skip_optional_whitespace-w.ensures.value c.parse_signed.ensures.value _ c.in_ok-parse_signed.was
