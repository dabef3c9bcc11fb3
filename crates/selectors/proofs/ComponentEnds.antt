-- Reading components ends: at the end of the text there is none, so turns beyond the bytes there are change nothing.
use mathlib.Core.Path.{◌≡◌, refl, sym, ◌∙◌}
use mathlib.Core.List.{List, [], ◌∷◌}
use Prim.Native.Nat.{ℕ, zero, suc, ◌≤◌}
use native.Mathlib.Omega.{arith}
use lib.ListN.{length, drop, length-drop}
use Rattle.combinators.specs.Choice.{pick, is, or, and, within}
use Rattle.combinators.specs.Parsed as parsed
use Rattle.combinators.specs.Repeat.{many}
use Rattle.lexer.specs.Name as name
use Rattle.lexer.specs.Name.{ident_of}
use Rattle.lexer.specs.Whitespace.{skip_whitespace}
use Rattle.syntax.specs.Selector.{Component}
use Rattle.selectors.specs.Outcome.{Outcome, reads, fails, panics, on_outcome, or_else}
use Rattle.selectors.specs.Outcome as outcome
use Rattle.selectors.specs.Selector.{component_of, components_of, marked, blank_of, class_of, attr_of, hash_of, pseudo_class_of}
use Rattle.selectors.proofs.AllLaws.{where-read}
use Rattle.selectors.proofs.ComponentKeeps.{component-keeps}

-- a component takes a byte or more
pub component-some : (t : List ℕ) (n : ℕ) (c : Component) → component_of t ≡ reads n c → 1 ≤ n
component-some t n c e = (where-read (length t) _ (component_of t) n c e (component-keeps t)).0.some

-- ---- at the end of the text there is none
-- of the empty text no component reads
pub none_left : component_of [] ≡ fails
unfolding component_of marked blank_of class_of attr_of hash_of pseudo_class_of or_else outcome.parsed ident_of name.name_of name.name_from name.dash name.nmstart_of name.folded_char name.ident_escape_of name.is_nmstart skip_whitespace many parsed.behind pick or within is and
none_left = refl

-- ---- turns beyond the bytes there are change nothing
-- by what reads first: one turn more changes nothing, where the turns behind a component change nothing
by-component : (l m : ℕ) (t : List ℕ) → ((n : ℕ) → 1 ≤ n → components_of l (drop n t) ≡ components_of m (drop n t)) → (o : Outcome Component) → component_of t ≡ o
    → components_of (suc l) t ≡ components_of (suc m) t
unfolding components_of on_outcome
by-component l m t h (reads n c) e = rw (e, h n (component-some t n c e))
by-component l m t h fails e = rw e
by-component l m t h (panics p) e = rw e

-- at the end of the text no components are read, however many turns there are
at-end : (m : ℕ) (t : List ℕ) → length t ≤ 0 → components_of m t ≡ reads 0 []
unfolding components_of on_outcome
at-end zero t h = refl
at-end (suc m) [] h = rw none_left
at-end (suc m) (x ∷ t) h = absurd (omega arith)

-- with turns for every byte, more change nothing
pub enough_turns : (l m : ℕ) (t : List ℕ) → length t ≤ l → length t ≤ m → components_of l t ≡ components_of m t
enough_turns zero m t h k = at-end zero t h ∙ sym (at-end m t h)
enough_turns (suc l) zero t h k = at-end (suc l) t k ∙ sym (at-end zero t k)
enough_turns (suc l) (suc m) t h k =
    by-component l m t (λ n i. enough_turns l m (drop n t) (omega (arith, length-drop n t)) (omega (arith, length-drop n t))) (component_of t) refl
