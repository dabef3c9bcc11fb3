-- The texts of the attributes of a row: how the code tells that all can be read.
use mathlib.Core.Path.{◌≡◌, refl}
use mathlib.Core.Bool.{Bool, true, false}
use mathlib.Core.List.{List}
use Prim.Native.Nat.{ℕ, zero, suc, ◌+◌}
use Rattle.std.specs.Prelude.{◌&&◌}
use Rattle.std.specs.List.{list_all, range_with_len}
use Rattle.combinators.specs.Choice.{and}
use Rattle.page.specs.Accepted.{attribute_text_right, attribute_texts_right}

-- what is asked of all rows of a range is what the definition asks row by row
pub all-texts : (attributes text : List ℕ) (k at : ℕ) → list_all (attribute_text_right attributes text) (range_with_len at k) ≡ attribute_texts_right attributes text k at
unfolding attribute_texts_right and
all-texts attributes text zero at = refl
all-texts attributes text (suc k) at = go (attribute_text_right attributes text at) (all-texts attributes text k (at + 1))
  where
    go : (t : Bool) {a b : Bool} → a ≡ b → t && a ≡ and t b
    go true e = e
    go false e = refl
