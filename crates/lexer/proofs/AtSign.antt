-- Why no token is an at-keyword: the crate tries `parse_ident` from the '@' itself on, and no name starts with '@'.
use mathlib.Core.Path.{◌≡◌, refl}
use mathlib.Core.List.{List, ◌∷◌}
use Prim.Native.Nat.{ℕ}
use Rattle.combinators.specs.Choice.{pick, or, and, is, within}
use Prim.Native.Char.{code as ascii}
use Rattle.combinators.specs.Parsed.{err, behind}
use Rattle.combinators.specs.Repeat.{many, took}
use Rattle.lexer.specs.Whitespace.{comment_of, is_whitespace, whitespace_item, skip_whitespace}
use Rattle.lexer.specs.Name.{is_nmstart, folded_char, ident_escape_of, nmstart_of, name_from, dash, name_of, ident_of}

-- whatever follows the '@'
pub at_sign : (r : List ℕ) → ident_of (ascii "@" ∷ r) ≡ err
unfolding ident_of name_of name_from dash nmstart_of folded_char ident_escape_of is_nmstart skip_whitespace many took whitespace_item comment_of is_whitespace behind pick or and is within
at_sign r = refl
