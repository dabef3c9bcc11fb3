-- What the document is told, as code: whether a selector has a style, and what is asked for to store its block.
use Rattle.std.specs.Prelude.{ℕ, ◌≤◌, Bool, true, false, List, length}
use Rattle.combinators.specs.Choice.{pick, is}
use Rattle.compiled.specs.Decoded.{on_decoded}
use Rattle.compiled.specs.Sheet.{compiled_limit}
use Rattle.segments.specs.Document.{style_count_at, SelectorsRead}

-- whether the selector at i has a style, by the count of its styles
unfoldable pub has_style_at : List ℕ → ℕ → Bool
has_style_at code i = on_decoded (style_count_at code i) (λ _ count. pick (is count 0) false true) (λ _. false)

-- the k selectors from i on are read, in bytes that are no more than those of a sheet
pub record TellLent (code : List ℕ) (k i : ℕ) : Type 0 where
  pub few_bytes : length code ≤ compiled_limit
  pub reads : SelectorsRead code k i
