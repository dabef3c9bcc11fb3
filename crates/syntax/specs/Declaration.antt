-- Declarations as the crate has them (`Decl`, `Importance`, `Declaration` of src/css/parser.rs). A height matters only as zero or
-- not, a display as none or other. The crate does not know `visibility` (S-9).
use Rattle.std.specs.Prelude.{ℕ, Bool, List}

pub record Colour : Type 0 where
  pub red : ℕ
  pub green : ℕ
  pub blue : ℕ

pub data Overflow : Type 0 where
  visible : Overflow
  hidden : Overflow
  scroll : Overflow
  auto : Overflow

pub data WhiteSpace : Type 0 where
  normal : WhiteSpace
  pre : WhiteSpace
  pre_wrap : WhiteSpace

pub data Decl : Type 0 where
  color : Colour → Decl
  background_color : Colour → Decl
  -- whether it is zero
  height : Bool → Decl
  max_height : Bool → Decl
  overflow : Overflow → Decl
  overflow_y : Overflow → Decl
  -- whether it is none
  display : Bool → Decl
  white_space : WhiteSpace → Decl
  content : List ℕ → Decl
  -- whether it is hidden
  visibility : Bool → Decl
  -- the property's name
  unknown : List ℕ → Decl

-- a declaration, whether it is marked important, and the byte where it starts
pub record Declaration : Type 0 where
  pub decl : Decl
  pub important : Bool
  pub start : ℕ
