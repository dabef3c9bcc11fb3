-- Heights and contents as the code answers them.
use Rattle.std.specs.Prelude.{ℕ, ◌^◌, ◌<◌, Bool, Option, Some, None, List, length}
use Rattle.lexer.specs.Token.{Token, text_of}
use Rattle.syntax.specs.Stream.{texts_many}
use Rattle.values.specs.Words.{Found, on_found}

-- whether a height is zero
unfoldable pub height_answer : Found Bool → Option Bool
height_answer f = on_found f Some None

-- the length of a content
unfoldable pub content_answer : Found (List ℕ) → Option ℕ
content_answer f = on_found f (λ b. Some (length b)) None

-- tokens whose texts are counted with 64 bits
pub record ContentRoom (ks : List Token) : Type 0 where
  pub fits : length (texts_many text_of ks) < 2 ^ 64
