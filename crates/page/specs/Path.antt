-- The path of an element: the elements from it up to the top of its page, itself first. The document, which stands above them, is the empty
-- path. Matching and styles are functions of the path alone.
use Rattle.std.specs.Prelude.{ℕ, List}

-- an attribute, name and value as bytes
pub record Attribute : Type 0 where
  pub name : List ℕ
  pub value : List ℕ

-- an element, with its place among the element children of its parent, counted from 1 (`idx` of nth-child)
pub record Element : Type 0 where
  pub name : List ℕ
  pub attributes : List Attribute
  pub place : ℕ

abbrev pub Path : Type 0
Path = List Element
