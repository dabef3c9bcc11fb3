-- Texts compared byte by byte: a fixed word at the start of a text (nom's `tag`), and the whole of two texts.
use Rattle.std.specs.Prelude.{ℕ, List, [], ◌∷◌, Bool, true, false}
use Rattle.combinators.specs.Choice.{and, is}

-- "Keywords such as `important` and `::before` are fixed byte strings"
unfoldable pub starts_with : List ℕ → List ℕ → Bool
starts_with [] s = true
starts_with (w ∷ ws) [] = false
starts_with (w ∷ ws) (x ∷ s) = and (is x w) (starts_with ws s)

-- two texts are the same bytes
unfoldable pub same_text : List ℕ → List ℕ → Bool
same_text [] [] = true
same_text (x ∷ s) (y ∷ t) = and (is x y) (same_text s t)
same_text _ _ = false
