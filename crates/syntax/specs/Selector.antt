-- Selectors and rules as the crate has them (`SelectorComponent`, `PseudoElement`, `Selector` of src/css.rs, `RuleSet` of
-- src/css/parser.rs).
use Rattle.std.specs.Prelude.{ℕ, List, ℤ}
use Rattle.syntax.specs.Declaration.{Declaration}

pub data Component : Type 0 where
  star : Component
  class : List ℕ → Component
  element : List ℕ → Component
  hash : List ℕ → Component
  child : Component
  descendant : Component
  -- a and b of an+b
  nth : ℤ → ℤ → Component
  -- an attribute that is there, and one that has a value
  attribute : List ℕ → Component
  attribute_equal : List ℕ → List ℕ → Component

pub data PseudoElement : Type 0 where
  none : PseudoElement
  before : PseudoElement
  after : PseudoElement

-- components, rightmost first
pub record Selector : Type 0 where
  pub components : List Component
  pub pseudo : PseudoElement

-- a rule, and the byte where it starts
pub record RuleSet : Type 0 where
  pub selectors : List Selector
  pub declarations : List Declaration
  pub start : ℕ
