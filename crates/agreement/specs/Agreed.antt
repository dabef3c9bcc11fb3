-- Demand 3 of three calls as code makes them: what they answer and leave, whatever they were lent.
use Rattle.std.specs.Prelude.{ℕ, ◌≡◌, ◌++◌}
use Rattle.combinators.specs.Refusal.{no_refusal, short_store}
use Rattle.compiler.specs.CompileAnswer.{CompileLeft}
use Rattle.runner.specs.PageRows.{style_row_at}
use Rattle.running.specs.RunAnswer.{RunLeft}
use Rattle.styling.specs.Claim.{row_left, texts_left}
use Rattle.styling.specs.StyleAnswer.{StyleLeft}
use Rattle.agreement.specs.Calls.{code_of, texts_of}
use Rattle.agreement.specs.SameRow.{SameRow}

-- a compile call, a run and a style call at a row: the run refuses nothing, and its row is the style call's
pub record Agree (c : CompileLeft) (r : RunLeft) (v : StyleLeft) (row : ℕ) : Type 0 where
  pub answered : r.answer.refusal ≡ no_refusal
  -- number by number, each content by its text, which is in the compiled bytes followed by the run's texts
  pub same_row : SameRow (code_of c ++ texts_of r) (texts_left v) (style_row_at r.rows row) (row_left v)

-- wherever the sheets compile, the run is not lent too little, and the style call refuses nothing
pub record Agreed (c : CompileLeft) (r : RunLeft) (v : StyleLeft) (row : ℕ) : Type 0 where
  pub agree : c.answer.refusal ≡ no_refusal → ¬ (r.answer.refusal.number ≡ short_store) → v.answer.refusal ≡ no_refusal → Agree c r v row
