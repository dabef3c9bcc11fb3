-- A quoted text as the bytes of its UTF-8: the keywords of definitions, and the texts of computed cases.
use Rattle.std.specs.Prelude.{ℕ, List, ◌++◌}
use Prim.Native.Char.{code}
use Prim.Native.String.{String, [], ◌∷◌}
use mathlib.Core.List as list
use Rattle.characters.specs.Utf8.{utf8}

unfoldable pub text : String → List ℕ
text [] = list.[]
text (c ∷ s) = utf8 (code c) ++ text s
