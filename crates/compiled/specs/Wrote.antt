-- What a writer of compiled bytes does to the store that it is lent.
use Rattle.std.specs.Prelude.{ℕ, ◌≡◌, List}
use Rattle.combinators.specs.Store.{emits}
use Rattle.combinators.specs.Writer as writer
use Rattle.combinators.specs.declared.writer.Writer.{Writer}

-- it has written these bytes behind those before, in the same slice
pub record Wrote (before after : Writer) (bytes : List ℕ) : Type 0 where
  pub same_store : writer.SameStore before after
  pub written : writer.written after ≡ emits (writer.written before) bytes
