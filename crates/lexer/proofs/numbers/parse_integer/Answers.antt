-- As many bytes as pass the test from the start on are the digits.
use Rattle.std.proofs.Common.{◌∙◌, rules, tests}
use Rattle.std.proofs.lemmas.Iterator.{YieldsList-from_slice}
use Rattle.std.proofs.lemmas.Iterator.Consumers.{count_from_yields_List}
use Rattle.std.proofs.lemmas.Iterator.Search.{YieldsList-from_take_while}
use Rattle.std.proofs.lemmas.List.Folds.{length-prefix_len}
use Rattle.lexer.specs.Number.{is_digit}
use Rattle.lexer.proofs.Prefixes.{digits-prefix}
use Rattle.lexer.proofs.numbers.parse_integer.Goals as goal

pub returns-clause-value : goal.returns-clause-value
returns-clause-value c =
    count_from_yields_List _ _ c.count.ensures.ran
    (YieldsList-from_take_while _ is_digit (YieldsList-from_slice c.args.s.now cc) c.take_while.ensures.closure c.take_while.ensures.done (λ x b q k. search (rules, tests)))
    ∙ length-prefix_len is_digit c.args.s.now ∙ digits-prefix c.args.s.now
