-- What a compiled sheet can hold: texts and counts that a number can tell, signed numbers of 32 bits, colours of bytes, origins that do not fall.
use Prim.Native.Nat.{ℕ, ◌≤◌, ◌<◌}
use mathlib.Core.List.{List, [], ◌∷◌}
use lib.IntN.{ℤ, pos, negsuc}
use lib.ListN.{length}
use Rattle.combinators.specs.All.{All}
use Rattle.syntax.specs.Layout.{style_text}
use Rattle.syntax.specs.Selector.{Component, star, class, element, hash, child, descendant, nth, attribute, attribute_equal}
use Rattle.syntax.specs.Style.{agent_origin, author_origin, StyleDecl}
use Rattle.syntax.proofs.Back as back
use Rattle.compiled.specs.Number.{number_limit}
use Rattle.compiled.specs.Sheet.{CompiledSelector}

pub record TextFits (x : List ℕ) : Type 0 where
  pub short : length x < number_limit

-- from -2^31 to 2^31 - 1
abbrev pub SignedFits : ℤ → Type 0
SignedFits (pos n) = n < 2147483648
SignedFits (negsuc n) = n < 2147483648

abbrev pub ComponentFits : Component → Type 0
ComponentFits star = Unit
ComponentFits (class x) = TextFits x
ComponentFits (element x) = TextFits x
ComponentFits (hash x) = TextFits x
ComponentFits child = Unit
ComponentFits descendant = Unit
ComponentFits (nth a b) = SignedFits a × SignedFits b
ComponentFits (attribute x) = TextFits x
ComponentFits (attribute_equal x y) = TextFits x × TextFits y

pub record StyleFits (d : StyleDecl) : Type 0 where
  pub colour : back.StyleFits d.value.style
  pub start : d.value.start < number_limit
  pub text : TextFits (style_text d)

pub record SelectorFits (s : CompiledSelector StyleDecl) : Type 0 where
  pub author : s.origin ≤ author_origin
  pub component-count : length s.components < number_limit
  pub components : All ComponentFits s.components
  pub style-count : length s.styles < number_limit
  pub styles : All StyleFits s.styles

-- no origin is below the one before it
abbrev pub NotFalling : ℕ → List (CompiledSelector StyleDecl) → Type 0
NotFalling least [] = Unit
NotFalling least (s ∷ ss) = (least ≤ s.origin) × NotFalling s.origin ss

pub record SheetFits (ss : List (CompiledSelector StyleDecl)) : Type 0 where
  pub count : length ss < number_limit
  pub selectors : All SelectorFits ss
  pub origins : NotFalling agent_origin ss
