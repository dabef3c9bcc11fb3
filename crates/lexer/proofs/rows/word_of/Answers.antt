-- The remainder of division by 2^32 is the definition, and it has 32 bits.
use Rattle.lexer.specs.TokenRow.{word}
use borrow.Author.Rules.{rules}
use Rattle.lexer.proofs.rows.word_of.Goals as goal

pub returns : goal.returns
unfolding word
returns c = search rules
