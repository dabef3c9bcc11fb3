-- Head, components and styles are emitted one behind the other.
use mathlib.Core.Path.{◌∙◌}
use Rattle.compiler.proofs.SelectorWriting as laws
use Rattle.compiler.proofs.selector.emit_selector.Goals as goal

pub returns : goal.returns
returns c = let a = c.args in
    record {
      same_store = c.emit_styles.ensures.same_store ∙ c.emit_components.ensures.same_store ∙ c.emit_selector_head.ensures.same_store;
      written =
          laws.selector-written a.rows.numbers.now a.at _ _ _ c.emit_selector_head.ensures.written _ c.forward-first.result c.number_at-components.ensures c.forward-first.ensures.rows_value _ _ _ c.emit_components.ensures.written _
          c.emit_styles.ensures.written;
    }
