-- The tokens behind the last comma are those whose rows are lent.
use native.Mathlib.Omega.{arith}
use Rattle.values.proofs.ColourValues as laws
use Rattle.values.proofs.TokenViews.{counted}
use Rattle.values.proofs.colour_values.parse_background_color.Goals as goal

pub overflow_mul-start : goal.overflow_mul-start
overflow_mul-start c = omega (arith, c.behind_comma-start.ensures.upper_bound, counted c.args.tokens.rows.now)

pub offset_bounds-tokens-start : goal.offset_bounds-tokens-start
offset_bounds-tokens-start c = omega (arith, c.behind_comma-start.ensures.upper_bound, counted c.args.tokens.rows.now)

pub slice_bounds-parse_color-count : goal.slice_bounds-parse_color-count
slice_bounds-parse_color-count c = omega (arith, c.behind_comma-start.ensures.upper_bound, counted c.args.tokens.rows.now)

pub slice_bounds-parse_color-start : goal.slice_bounds-parse_color-start
slice_bounds-parse_color-start c = omega (arith, c.behind_comma-start.ensures.upper_bound, counted c.args.tokens.rows.now)

pub returns : goal.returns
returns c = laws.background _ _ _ c.behind_comma-start.ensures.upper_bound c.behind_comma-start.ensures.value _ c.parse_color.ensures
