-- The texts of a token, as the code answers them, and how many bytes of the store they take.
use Rattle.std.specs.Prelude.{ℕ, ◌+◌}
use Rattle.lexer.specs.declared.tokens.Token as lexer
use Rattle.lexer.specs.declared.tokens.Token.TheVariants as token
use Rattle.show_tokens.specs.declared.line.Texts.{Texts}
use Rattle.show_tokens.specs.declared.line.Texts.TheVariants.{NoText, One, Two, Character}

-- by the kind of the token
unfoldable pub texts_of : lexer.Token → Texts
texts_of (token.Ident n) = One n
texts_of (token.Function n) = One n
texts_of (token.Hash n) = One n
texts_of (token.String n) = One n
texts_of (token.BadString n) = One n
texts_of (token.Delim c) = Character c
texts_of (token.Number n) = One n
texts_of (token.Dimension n u) = Two n u
texts_of (token.Percentage n) = One n
texts_of token.CDO = NoText
texts_of token.CDC = NoText
texts_of token.Colon = NoText
texts_of token.Semicolon = NoText
texts_of token.Comma = NoText
texts_of token.OpenSquare = NoText
texts_of token.CloseSquare = NoText
texts_of token.OpenRound = NoText
texts_of token.CloseRound = NoText
texts_of token.OpenBrace = NoText
texts_of token.CloseBrace = NoText

-- a delimiter's character is not in the store
unfoldable pub texts_length : Texts → ℕ
texts_length NoText = 0
texts_length (One n) = n
texts_length (Two n u) = n + u
texts_length (Character c) = 0
