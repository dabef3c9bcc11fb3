-- One compound of a segment at a row, by its flag.
use Rattle.std.specs.Prelude.{ℕ, ◌+◌, List, leb, length, get_or}
use Rattle.combinators.specs.Choice.{pick}
use Rattle.syntax.specs.Layout.{flag_of}
use Rattle.page.specs.Path.{Path}
use Rattle.segments.specs.Sweep.{tests_pass, Ended, compound_at, without_tests, mark_bytes, marked_tests, sweep_at}
use Rattle.sweeps.specs.declared.sweeping.Behind.{Behind}
use Rattle.sweeps.specs.declared.sweeping.Behind.TheVariants.{Leftmost, Others}
use Rattle.sweeps.specs.declared.sweeping.Swept.{Swept}

-- the leftmost compound, of so many tests from i on
abbrev pub swept_mark : List ℕ → Path → ℕ → ℕ → Swept
swept_mark code row tests i = record { ends = tests_pass code row tests i; behind = Leftmost tests }

-- the compound whose flag is at j and whose components stand from i on
unfoldable pub swept_one : List ℕ → Path → List ℕ → ℕ → ℕ → Swept
swept_one code row part j i =
    pick (leb without_tests (get_or part j 0)) (swept_mark code row (marked_tests part j) i)
    (let c : Ended = compound_at code row (length code) (flag_of (get_or part j 0)) i in record { ends = c.ends; behind = Others c.place })

-- the bytes behind its flag: the mark of the leftmost, or those of at most k others
unfoldable pub swept_behind : List ℕ → Path → List ℕ → ℕ → ℕ → Behind → List ℕ
swept_behind code row part k j (Leftmost tests) = mark_bytes tests
swept_behind code row part k j (Others place) = sweep_at code row part k (j + 1) place
