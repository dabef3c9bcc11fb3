-- The return of `style_at`.
use mathlib.Core.Path.{◌≡◌}
use mathlib.Core.List.{List}
use Prim.Native.Nat.{ℕ, ◌+◌}
use lib.ListN.{get_or, drop}
use lib.Seq.{get_or-drop}
use Rattle.syntax.specs.Layout.{flag_of, style_slot, style_important, style_number, style_second, style_start, numbers_at}

-- the row of a style is read number by number
pub row_read : (rows : List ℕ) (at n m s k i : ℕ) → n ≡ get_or rows (at + style_number) 0 → m ≡ get_or rows (at + style_second) 0 → s ≡ get_or rows (at + style_start) 0
    → k ≡ get_or rows (at + style_slot) 0
    → i ≡ get_or rows (at + style_important) 0 → record { slot = k; important = flag_of i; value = record { number = n; second = m; start = s } } ≡ numbers_at (drop at rows)
unfolding numbers_at
row_read rows at n m s k i en em es ek ei =
    rw (en, em, es, ek, ei, get_or-drop at rows style_number 0, get_or-drop at rows style_second 0, get_or-drop at rows style_start 0, get_or-drop at rows style_slot 0, get_or-drop at rows style_important 0)
