-- Each arm calls the reader that `token_with` has for its character. Where that reader says both clauses the check finds it; told here are those with an
-- alternative, without a text, and the mark.
use Rattle.std.proofs.Common.{rules}
use Rattle.combinators.specs.Choice.{pick, or, and, is, within}
use Rattle.lexer.specs.Number.{is_digit}
use Rattle.lexer.specs.Token.{numeric_of, ident_like_of, is_quote, token_with}
use Rattle.lexer.proofs.TokenAnswers.{lexes-as, read-or-delim}
use Rattle.lexer.proofs.TokenReaders.{less-lexes}
use Rattle.lexer.proofs.Lexing.{mark-lexes}
use Rattle.lexer.proofs.tokens.token_with.Goals as goal

-- from '.' on a number, or else the delimiter
pub returns-in-46 : goal.returns-in-46
unfolding token_with is_quote pick or is
returns-in-46 c = let t : goal.returns-in-46-raw c = lexes-as _ _ (search rules) _ _ _ _ (read-or-delim (numeric_of _) _ _ _ _ _ _ (c.parse_numeric_token-in-46.ensures.value, c.parse_numeric_token-in-46.ensures.store_after) c.or_delim-in-46.ensures) in record { value = t.0; store_after = t.1 }

-- from '<' on its mark, or else the delimiter: neither has a text
pub returns-in-60 : goal.returns-in-60
unfolding token_with is_quote pick or is
returns-in-60 c = let t : goal.returns-in-60-raw c = lexes-as _ _ (search rules) _ _ _ _ (less-lexes _ _ _ _ _ c.less_token.ensures) in record { value = t.0; store_after = t.1 }

-- from '\' on a name, or else the delimiter
pub returns-in-92 : goal.returns-in-92
unfolding token_with is_quote pick or is
returns-in-92 c = let t : goal.returns-in-92-raw c = lexes-as _ _ (search rules) _ _ _ _ (read-or-delim (ident_like_of _) _ _ _ _ _ _ (c.parse_ident_like-in-92.ensures.value, c.parse_ident_like-in-92.ensures.store_after) c.or_delim.ensures) in record { value = t.0; store_after = t.1 }

-- a character that none of the tests takes is a mark by itself
pub returns-in_default-2 : goal.returns-in_default-2
unfolding token_with is_quote is_digit pick or and is within
returns-in_default-2 c = let t : goal.returns-in_default-2-raw c = lexes-as _ _ (search rules) _ _ _ _ (mark-lexes _ _ _ _ _ c.mark_of.ensures) in record { value = t.0; store_after = t.1 }
