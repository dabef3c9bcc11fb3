-- As many of the first six bytes as pass the test from the start on are the hex digits.
use Rattle.std.proofs.Common.{◌∙◌, rules, tests, take}
use Rattle.std.proofs.lemmas.Iterator.{YieldsList-from_slice, YieldsList-from_take}
use Rattle.std.proofs.lemmas.Iterator.Consumers.{count_from_yields_List}
use Rattle.std.proofs.lemmas.Iterator.Search.{YieldsList-from_take_while}
use Rattle.std.proofs.lemmas.List.Folds.{length-prefix_len}
use native.Mathlib.Nat.{zero-add}
use mathlib.Core.Path.{sym}
use Rattle.lexer.specs.Name.{is_hex_digit, maximum_digits}
use Rattle.lexer.proofs.Prefixes.{hex-prefix}
use Rattle.lexer.proofs.names.hex_run.Goals as goal

pub returns : goal.returns
returns c =
    count_from_yields_List _ _ c.count.ensures.ran
    (YieldsList-from_take_while _ is_hex_digit (YieldsList-from_take maximum_digits (YieldsList-from_slice c.args.t.now cc) cc) c.take_while.ensures.closure c.take_while.ensures.done (λ x b q k. search (rules, tests)))
    ∙ length-prefix_len is_hex_digit (take maximum_digits c.args.t.now) ∙ sym (zero-add _) ∙ hex-prefix maximum_digits 0 c.args.t.now
