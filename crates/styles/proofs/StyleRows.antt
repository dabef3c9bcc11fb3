-- Style rows one by one: a style is read from the numbers of its own row.
use mathlib.Core.Path.{◌≡◌}
use mathlib.Core.List.{List}
use Prim.Native.Nat.{ℕ}
use native.Mathlib.Omega.{arith}
use lib.ListN.{take}
use lib.Seq.{get_or-take}
use Rattle.syntax.specs.Layout.{style_width, numbers_at}

-- what stands behind the row does not matter
pub row-numbers : (t : List ℕ) → numbers_at (take style_width t) ≡ numbers_at t
unfolding numbers_at
row-numbers t =
    rw (
      get_or-take style_width t 0 0 (omega arith),
      get_or-take style_width t 1 0 (omega arith),
      get_or-take style_width t 2 0 (omega arith),
      get_or-take style_width t 3 0 (omega arith),
      get_or-take style_width t 4 0 (omega arith),
    )
