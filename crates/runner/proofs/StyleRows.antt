-- Style rows in a store: one that is written is there, and the others stay.
use Prim.Native.Nat.{ℕ, suc, ◌+◌, ◌*◌, ◌≤◌, ◌<◌}
use mathlib.Core.Path.{◌≡◌, ap, ◌∙◌}
use mathlib.Core.List.{List, ◌++◌}
use native.Mathlib.Omega.{arith}
use lib.ListN.{length, take}
use lib.Seq.{sets, take-add}
use Rattle.combinators.specs.Part.{part}
use Rattle.cascade.specs.Row.{style_row_width}
use Rattle.runner.specs.PageRows.{style_row_at}
use Rattle.runner.proofs.StateParts.{part-kept, part-written}

module _ (rows row : List ℕ) (i n : ℕ) (there : i < n) (long : n * style_row_width ≤ length rows) (whole : length row ≡ style_row_width) where
  -- a row that is written is there
  pub row_written : style_row_at (sets rows (i * style_row_width) row) i ≡ row
  unfolding style_row_at part
  row_written = part-written rows row (i * style_row_width) (omega arith) style_row_width whole

  -- the rows before it stay
  pub row_kept : (j : ℕ) → j < i → style_row_at (sets rows (i * style_row_width) row) j ≡ style_row_at rows j
  unfolding style_row_at part
  row_kept j l = part-kept rows row (i * style_row_width) (omega arith) (j * style_row_width) style_row_width (omega arith)

-- the first rows and one more
pub rows_split : (rows : List ℕ) (n : ℕ) → take (suc n * style_row_width) rows ≡ take (n * style_row_width) rows ++ style_row_at rows n
unfolding style_row_at
rows_split rows n =
    let e : suc n * style_row_width ≡ n * style_row_width + style_row_width = omega arith in
    ap (λ (m : ℕ). take m rows) e ∙ take-add (n * style_row_width) style_row_width rows
