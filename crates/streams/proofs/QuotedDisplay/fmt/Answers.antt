-- The quotes stand around the text as `is_quotable` tests it.
use Rattle.std.proofs.Common.{refl, rules}
use Rattle.std.proofs.Output.{has_written_append, has_written_of_eq}
use Rattle.streams.specs.Printed.{is_quotable, quoted}
use Rattle.streams.proofs.QuotedDisplay.fmt.Goals as goal

pub returns-clause-writes : goal.returns-clause-writes
unfolding quoted lib.Utf8.encode
returns-clause-writes g c plain ok =
    let opened = c.write_char.ensures.writes plain (search rules) in
    let text = c.write_escaped.ensures is_quotable (λ k b e. e) opened.plain (search rules) in
    has_written_of_eq _ _ _ _ _ refl (has_written_append _ _ _ _ _ _ (has_written_append _ _ _ _ _ _ opened text) (c.write_char-2.ensures.writes text.plain ok))
