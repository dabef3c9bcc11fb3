-- What the numbers of a row say, with the text that its contents lie in: "Style rows are compared number by number, but a content's start and length by the
-- text that they name."
use Rattle.std.specs.Prelude.{ℕ, ◌+◌, ◌≤◌, ◌≡◌, List, length}
use Rattle.combinators.specs.Part.{part}
use Rattle.syntax.specs.Layout.{number_from}
use Rattle.syntax.specs.Style as style
use Rattle.syntax.specs.Style.{Style, StyleValue}
use Rattle.syntax.specs.declared.styles.Value.{Value}

-- "Content is a start and a length in the text store, which belongs to the answer and is no work store": they name a text, which lies within
pub record Names (t : List ℕ) (v : Value) (x : List ℕ) : Type 0 where
  pub long : v.second ≡ length x
  pub within : v.number + v.second ≤ length t
  pub named : part t v.number v.second ≡ x

-- a style without a text is its number, and 0
pub record Numbered (v : Value) (s : Style) : Type 0 where
  pub number : v.number ≡ number_from 0 s
  pub second : v.second ≡ 0

-- "Contents are compared by their text": a content is named, any other style is its number
unfoldable pub SaysStyle : List ℕ → Value → Style → Type 0
SaysStyle t v (style.content x) = Names t v x
SaysStyle t v s = Numbered v s

-- and it has the start of the same declaration (S-3: "The compiled run must name the same byte as the computed style")
pub record Says (t : List ℕ) (v : Value) (x : StyleValue) : Type 0 where
  pub style : SaysStyle t v x.style
  pub start : v.start ≡ x.start
