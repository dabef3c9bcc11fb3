-- What passing the selectors of a sheet at a row asks for.
use Rattle.std.specs.Prelude.{ℕ, ◌≤◌, ◌≡◌, List, length}
use Rattle.combinators.specs.Refusal.{no_refusal}
use Rattle.compiled.specs.Answer.{bytes_refusal}
use Rattle.compiled.specs.Sheet.{compiled_limit}

-- bytes that read as a sheet, and a part with room for all that the part of the parent holds
pub record SheetLent (code above own : List ℕ) : Type 0 where
  pub sheet : bytes_refusal code ≡ no_refusal
  pub few_bytes : length code ≤ compiled_limit
  pub room : length above ≤ length own
