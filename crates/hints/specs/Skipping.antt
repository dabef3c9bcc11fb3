-- Passing over selectors that surely fail at an element: their blocks stay as they are.
use Rattle.std.specs.Prelude.{ℕ, suc, ◌+◌, ◌≤◌, ◌<◌, false, List, [], ◌∷◌, ◌≡◌, Option, Some, None, length}
use Rattle.syntax.specs.Selector.{Component}
use Rattle.page.specs.Path.{Element, Path}
use Rattle.compiled.specs.Decoded.{read}
use Rattle.segments.specs.Segments.{direct, test}
use Rattle.compiled.specs.Sheet.{compiled_limit}
use Rattle.segments.specs.Sweep.{piece_at, compound_at}
use Rattle.segments.specs.Pass.{Passed, pass_from}
use Rattle.hints.specs.Hints.{TestsFail}
use Rattle.hints.specs.declared.hints.Hint.{Hint}
use Rattle.hints.specs.declared.skipping.Skipped.{Skipped}

-- a component at a place is a test, whatever it asks for, and takes so many bytes
pub record TestThere (code : List ℕ) (at size : ℕ) : Type 0 where
  pub some : 0 < size
  pub asks : Component
  pub told : piece_at code at ≡ read (at + size) (test asks)
  pub inside : at + size ≤ length code

-- behind the child step at a place
pub record BehindChild (code : List ℕ) (at place : ℕ) : Type 0 where
  pub there : at < length code
  pub told : piece_at code at ≡ read place direct
  pub far : 0 < place
  pub inside : place ≤ length code

-- behind the child step that a compound at a place stands at, which may not end here
pub record BehindStep (code : List ℕ) (at place : ℕ) : Type 0 where
  pub told : (row : Path) → compound_at code row (length code) false at ≡ record { ends = false; place = place }
  pub far : 0 < place
  pub inside : place ≤ length code

-- a compound at a place may not end here, and what stands behind its child step is the place of another, whose tests surely fail
pub record StepFails (code : List ℕ) (at tests : ℕ) (h : Hint) : Type 0 where
  pub place : ℕ
  pub far : 0 < place
  pub behind : (row : Path) → compound_at code row (length code) false at ≡ record { ends = false; place = place }
  pub fails : TestsFail code place tests h

-- where some of so many selectors are left: the first of them is there, and how many stand behind it
pub record FewLeft (count : ℕ) (s : Skipped) : Type 0 where
  pub some : 0 < s.place
  pub near : s.place ≤ compiled_limit
  pub fewer : s.behind < count

-- what a pass over those that are left comes to, at an element, by its own part; where none is left, that part is what it comes to, and none matches
unfoldable pub left_to_pass : List ℕ → Element → List ℕ → List ℕ → Option Skipped → Passed
left_to_pass code e above own (Some s) = pass_from code (e ∷ []) above (suc s.behind) s.place own
left_to_pass code e above own None = record { part = own; matched = [] }
