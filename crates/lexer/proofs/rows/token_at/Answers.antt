-- The kind and the two numbers are read at their columns of the row, and `token_of` gives the token that the definition gives for them.
use Rattle.lexer.proofs.TokenRows as laws
use Rattle.lexer.proofs.rows.token_at.Goals as goal

pub returns : goal.returns
returns c = laws.row_read _ _ _ _ _ c.number_at.ensures c.number_at-2.ensures c.number_at-3.ensures _ c.token_of.ensures
