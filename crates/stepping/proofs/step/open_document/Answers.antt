-- The parts of the document and of its child stand side by side in the state.
use mathlib.Core.Path.{◌∙◌}
use Rattle.stepping.proofs.StepLaws as laws
use Rattle.stepping.proofs.step.open_document.Goals as goal

pub returns : goal.returns
returns c =
    let w = c.part_width-width.ensures in record {
      out_after = laws.emptied _ _ c.told-out c.clear_row.ensures;
      state_after = rw w (laws.document-opened _ _ c.requires _ _ _ _ _ (rw w at c.split_at_mut-own.ensures.front) (rw w at c.split_at_mut-own.ensures.back) (rw w at c.pass_document.ensures.next_after) (rw w at c.pass_document.ensures.own_after) c.put_pair.ensures
          (c.put_pair.auto.part ∙ c.pass_document.auto.own) (rw w at c.pass_document.auto.next));
    }
