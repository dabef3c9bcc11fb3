-- The argument of `:nth-child()` in the words of Selectors Level 3 (section 6.6.5.2, and `nth` in section 10.1), as far as the reader agrees
-- with the document: `n`, `even` and `odd` in small letters, and no white space between the second sign and its digits.
use Rattle.std.specs.Prelude.{Bool, true, false, List, [], ◌∷◌, ◌++◌, ℕ, ◌-◌, ◌≤◌, pos, length}
use Prim.Native.Char.{code as ascii}
use Rattle.characters.specs.Literal.{text}
use Rattle.lexer.specs.Number.{is_digit}
use Rattle.lexer.proofs.SyntaxName.{Each}
use Rattle.lexer.proofs.SyntaxWhitespace.{Blank}
use Rattle.syntax.specs.Selector.{Component, nth}
use Rattle.values.specs.Colour.{numeral}
use Rattle.selectors.specs.Selector.{signed, greatest}

-- S*, with comments or none between
pub record Blanks : Type 0 where
  pub bytes : List ℕ
  pub blank : Blank bytes

-- ['-'|'+']?
pub data Sign : Type 0 where
  unsigned : Sign
  plus : Sign
  minus : Sign

-- what digits are worth; none are worth 1
unfoldable pub worth : List ℕ → ℕ
worth [] = 1
worth (x ∷ r) = numeral 10 (λ d. d - ascii "0") 0 (x ∷ r)

-- INTEGER?, of what the crate converts
pub record Count : Type 0 where
  pub bytes : List ℕ
  pub digits : Each is_digit bytes
  pub fits : worth bytes ≤ greatest

-- INTEGER
pub record Integer : Type 0 where
  pub count : Count
  pub some : 1 ≤ length count.bytes

pub data Argument : Type 0 where
  even : Argument
  odd : Argument
  -- an
  multiple : Sign → Count → Argument
  -- an+b, and whether its sign is '-'
  sum : Sign → Count → Blanks → Bool → Integer → Argument
  -- b
  number : Sign → Integer → Argument

-- ---- how it is written
unfoldable pub written_sign : Sign → List ℕ
written_sign unsigned = []
written_sign plus = ascii "+" ∷ []
written_sign minus = ascii "-" ∷ []

unfoldable pub sign_byte : Bool → ℕ
sign_byte true = ascii "-"
sign_byte false = ascii "+"

unfoldable pub written_argument : Argument → List ℕ
written_argument even = text "even"
written_argument odd = text "odd"
written_argument (multiple s a) = written_sign s ++ (a.bytes ++ (ascii "n" ∷ []))
written_argument (sum s a w m b) = written_sign s ++ (a.bytes ++ (ascii "n" ∷ (w.bytes ++ (sign_byte m ∷ b.count.bytes))))
written_argument (number s b) = written_sign s ++ b.count.bytes

-- ---- what it means
unfoldable pub negative : Sign → Bool
negative unsigned = false
negative plus = false
negative minus = true

unfoldable pub means_argument : Argument → Component
means_argument even = nth (pos 2) (pos 0)
means_argument odd = nth (pos 2) (pos 1)
means_argument (multiple s a) = nth (signed (negative s) (worth a.bytes)) (pos 0)
means_argument (sum s a w m b) = nth (signed (negative s) (worth a.bytes)) (signed m (worth b.count.bytes))
means_argument (number s b) = nth (pos 0) (signed (negative s) (worth b.count.bytes))
