-- The library compares the word with as much of the text; a text that ends before the word differs from it in length.
use Rattle.std.proofs.Common.{◌∙◌}
use Rattle.combinators.proofs.Words as laws
use Rattle.combinators.proofs.bytes.starts_with.Goals as goal

pub returns : goal.returns
returns c = c.starts_with.ensures.value ∙ laws.starts-by _ _
