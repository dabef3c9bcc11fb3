-- A part of a text or of numbers, by its start and its length.
use Rattle.std.specs.Prelude.{ℕ, List, take, drop}

-- n bytes of the store from a on: "`Cow` and `String` become ranges of the text store."
unfoldable pub part : {A : Type 0} → List A → ℕ → ℕ → List A
part store a n = take n (drop a store)
