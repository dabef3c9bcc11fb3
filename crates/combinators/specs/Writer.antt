-- What a writer has: a lent store and how far it is filled.
use Rattle.std.specs.Prelude.{ℕ, ◌≡◌}
use Rattle.combinators.specs.Store.{Store}
use Rattle.combinators.specs.declared.writer.Writer.{Writer}

-- what is written so far
abbrev pub written : Writer → Store ℕ
written w = record { bytes = w.store.now; fill = w.fill }

-- two writers of one lent slice: what is written by the one is found by who lent it to the other
abbrev pub SameStore : Writer → Writer → Type 0
SameStore v w = w.store.ghost_name ≡ v.store.ghost_name
