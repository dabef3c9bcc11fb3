-- A pass over the selectors that have a style, at a row.
use Rattle.std.specs.Prelude.{ℕ, List}
use Rattle.segments.specs.Pass.{Passed, pass_from}
use Rattle.sweeps.specs.Met.{row_alone}
use Rattle.sweeps.specs.declared.elements.Row.{Row}

-- what at most k selectors from the one at the place p on come to, by the row's own part
abbrev pub passed : Row → ℕ → ℕ → List ℕ → Passed
passed r k p own = pass_from r.compiled.now (row_alone r.element) r.above.now k p own
