-- Styles: what declarations ask of an element (`Style`, `StyleDecl` of src/css.rs).
use Rattle.std.specs.Prelude.{ℕ, Bool, List}
use Rattle.syntax.specs.Declaration.{Colour, WhiteSpace}

pub data Style : Type 0 where
  colour : Colour → Style
  background : Colour → Style
  display_none : Style
  white_space : WhiteSpace → Style
  content : List ℕ → Style
  -- whether it is hidden. S-9: "`visibility` with `visible` or `hidden` becomes a sixth slot"
  visibility : Bool → Style

-- where a sheet is from (`StyleOrigin` of src/lib.rs), by the numbers of the compiled sheet
abbrev pub agent_origin : ℕ
agent_origin = 1

abbrev pub user_origin : ℕ
user_origin = 2

abbrev pub author_origin : ℕ
author_origin = 3

-- what a style gives its slot, and the byte where the declaration that asks for it starts (S-3: "Teachers want the byte where the winning declaration starts.")
pub record StyleValue : Type 0 where
  pub style : Style
  pub start : ℕ

pub record StyleDecl : Type 0 where
  pub value : StyleValue
  pub important : Bool
