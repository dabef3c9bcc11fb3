-- What `comparison_style_attribute` and `comparison_color_attribute` return and leave: what `parse_style_attribute` and `parse_color_attribute` do in
-- stores of the least lengths, filled from 0 on.
use Rattle.std.specs.Prelude.{ℕ, Bool, Option, Some, None, Result, Ok, Err, List, ltb, length}
use Rattle.combinators.specs.Choice.{pick}
use Rattle.combinators.specs.LeastLengths.{stores_suffice}
use Rattle.combinators.specs.Refusal.{refused, too_long, short_store}
use Rattle.combinators.specs.declared.refusals.Refusal.{Refusal}
use Rattle.declarations.specs.Leaving.{Leaves, ColourLeft, colour_left, style_left}
use Rattle.declarations.specs.declared.attributes.StylesRead.{StylesRead}
use Rattle.page.specs.Accepted.{text_limit}
use Rattle.comparison.specs.declared.values_read.StylesResult.{StylesResult}
use Rattle.comparison.specs.declared.values_read.ValueError.{ValueError}
use Rattle.comparison.specs.declared.values_read.ValueError.TheVariants.{TooLong, ShortStore}
use Rattle.comparison.specs.declared.values_read.ColourResult.{ColourResult}

-- why a value is refused, in numbers
unfoldable pub value_refusal : ValueError → Refusal
value_refusal TooLong = refused too_long
value_refusal ShortStore = refused short_store

-- ---- a call with a text of n bytes: one over `text_limit` is refused first, then stores that do not suffice for it
unfoldable pub value_checked : ℕ → Bool → Result Unit ValueError
value_checked n suffice = pick (ltb text_limit n) (Err TooLong) (pick suffice (Ok tt) (Err ShortStore))

-- what it leaves where it is refused, or what reading leaves
unfoldable pub refused_or : {A : Type 0} → Result Unit ValueError → (ValueError → A) → A → A
refused_or (Ok passed) refuses answer = answer
refused_or (Err e) refuses answer = refuses e

-- ---- styles
unfoldable pub styles_result : Result StylesRead ValueError → StylesResult
styles_result (Ok read) = record { refusal = 0; count = read.count; bytes = read.text }
styles_result (Err e) = record { refusal = (value_refusal e).number; count = 0; bytes = 0 }

-- the result, and the four stores
pub record StyleCalled : Type 0 where
  pub result : StylesResult
  pub rules : List ℕ
  pub tokens : List ℕ
  pub brackets : List ℕ
  pub texts : List ℕ

unfoldable pub style_read : Leaves StylesRead → StyleCalled
style_read l = record { result = styles_result (Ok l.answer); rules = l.rules; tokens = l.tokens; brackets = l.brackets; texts = l.store }

-- a refusal leaves the stores as they were
unfoldable pub style_called : List ℕ → List ℕ → List ℕ → List ℕ → List ℕ → StyleCalled
style_called s rules tokens brackets texts =
    refused_or (value_checked (length s) (stores_suffice (length s) (length rules) (length tokens) (length brackets) (length texts)))
    (λ e. record { result = styles_result (Err e); rules = rules; tokens = tokens; brackets = brackets; texts = texts })
    (style_read (style_left s rules tokens brackets texts 0))

-- ---- colours
unfoldable pub colour_result : Result (Option ℕ) ValueError → ColourResult
colour_result (Ok (Some c)) = record { refusal = 0; found = 1; colour = c }
colour_result (Ok None) = record { refusal = 0; found = 0; colour = 0 }
colour_result (Err e) = record { refusal = (value_refusal e).number; found = 0; colour = 0 }

-- the result, and the three stores
pub record ColourCalled : Type 0 where
  pub result : ColourResult
  pub tokens : List ℕ
  pub brackets : List ℕ
  pub texts : List ℕ

unfoldable pub colour_read : ColourLeft → ColourCalled
colour_read l = record { result = colour_result (Ok l.answer); tokens = l.tokens; brackets = l.brackets; texts = l.store }

unfoldable pub colour_called : List ℕ → List ℕ → List ℕ → List ℕ → ColourCalled
colour_called s tokens brackets texts =
    refused_or (value_checked (length s) (stores_suffice (length s) (length tokens) (length tokens) (length brackets) (length texts)))
    (λ e. record { result = colour_result (Err e); tokens = tokens; brackets = brackets; texts = texts })
    (colour_read (colour_left s tokens brackets texts 0))
