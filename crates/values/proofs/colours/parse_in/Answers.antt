-- Behind a `+`, or from the start, the digits are read.
use mathlib.Core.Path.{ap, ◌∙◌}
use Rattle.lexer.specs.Name.{hex_digit}
use Rattle.values.specs.Colour.{digits_in}
use Rattle.values.specs.ColourAnswer.{is_digit_in, number_answer}
use Rattle.values.proofs.ColourLaws as laws
use Rattle.values.proofs.colours.parse_in.Goals as goal

pub returns : goal.returns
returns c =
    let rest = ap (λ b. b.now) c.unwrap_or.ensures ∙ laws.plus-stripped c.args.s c.strip_prefix.result c.strip_prefix.ensures.cases in
    c.digits_in.ensures ∙ ap (λ t. number_answer (digits_in (is_digit_in c.args.base) c.args.base hex_digit c.args.most t)) rest
