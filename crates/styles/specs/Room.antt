-- The bytes of the values of attributes, and of those of a path, by which contents are bounded.
use Rattle.std.specs.Prelude.{ℕ, ◌+◌, List, [], ◌∷◌, length}
use Rattle.syntax.specs.Stream.{texts_many}
use Rattle.page.specs.Path.{Attribute, Path}

unfoldable pub values_of : List Attribute → ℕ
values_of xs = length (texts_many (λ (a : Attribute). a.value) xs)

unfoldable pub values_along : Path → ℕ
values_along [] = 0
values_along (e ∷ up) = values_of e.attributes + values_along up

-- how many attributes a path has
unfoldable pub attributes_along : Path → ℕ
attributes_along [] = 0
attributes_along (e ∷ up) = length e.attributes + attributes_along up
