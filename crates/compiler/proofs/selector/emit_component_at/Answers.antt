-- The four numbers of the row are those of the component that it reads as.
use Rattle.compiler.proofs.SelectorWriting as laws
use Rattle.compiler.proofs.selector.emit_component_at.Goals as goal

pub returns : goal.returns
returns c = let a = c.args in
    record {
      same_store = c.emit_component.ensures.same_store;
      written =
          laws.component-at a.rows.numbers.now a.at _ _ _ _ _ c.number_at.ensures c.number_at-2.ensures c.number_at-3.ensures
          c.number_at-4.ensures _ _ c.emit_component.ensures.written;
    }
