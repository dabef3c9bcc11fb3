-- What `parse_unsigned` takes of the rest and what stands before it, or none where it takes nothing.
use Rattle.std.proofs.Common.{◌∙◌}
use Rattle.lexer.specs.Number.{unsigned, signed}
use Rattle.lexer.proofs.Digits.{none-behind, some-behind}
use Rattle.lexer.proofs.numbers.parse_signed.Goals as goal

pub returns-in_err-parse_unsigned-clause-value : goal.returns-in_err-parse_unsigned-clause-value
unfolding signed
returns-in_err-parse_unsigned-clause-value c = c.from_residual.ensures ∙ none-behind unsigned _ _ _ _ c.parse_sign-k.ensures.value c.parse_unsigned.ensures.value c.in_err-parse_unsigned.was

pub returns-clause-value : goal.returns-clause-value
unfolding signed
returns-clause-value c = some-behind unsigned _ _ _ _ c.parse_sign-k.ensures.value c.parse_unsigned.ensures.value _ c.in_ok-parse_unsigned.was
