-- Lists of selectors, parted by ',' and white space or none, as `parse_ruleset` of src/css/parser.rs reads them.
use Rattle.std.specs.Prelude.{ℕ, zero, suc, ◌+◌, List, [], ◌∷◌, length, get_or, drop}
use Prim.Native.Char.{code as ascii}
use Rattle.combinators.specs.Choice.{pick, is}
use Rattle.lexer.specs.Whitespace.{skip_whitespace}
use Rattle.syntax.specs.Selector.{Selector}
use Rattle.selectors.specs.Outcome.{Outcome, reads, panics, on_outcome, behind}
use Rattle.selectors.specs.Selector.{selector_of}

-- ---- selectors, parted by ',' and white space or none; it stops before a ',' that no selector follows. The first number is no less than the bytes left.
unfoldable pub more_selectors : ℕ → List ℕ → Outcome (List Selector)
more_selectors zero t = reads 0 []
more_selectors (suc l) t =
    let w = 1 + skip_whitespace (drop 1 t) in
    pick (is (get_or t 0 0) (ascii ","))
    (on_outcome (selector_of (drop w t)) (λ n s. behind (w + n) (more_selectors l (drop (w + n) t)) (λ ss. s ∷ ss)) (reads 0 []) (λ p. panics (w + p)))
    (reads 0 [])

unfoldable pub more_from : List ℕ → Outcome (List Selector)
more_from t = more_selectors (length t) t

unfoldable pub selectors_of : List ℕ → Outcome (List Selector)
selectors_of t = on_outcome (selector_of t) (λ n s. behind n (more_from (drop n t)) (λ ss. s ∷ ss)) (reads 0 []) (λ p. panics p)
