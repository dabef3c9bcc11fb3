-- The run is lent the bytes that compiling counts, which lie within their buffer.
use mathlib.Core.Path.{sym}
use Rattle.std.proofs.lemmas.List.{length-take-le}
use Rattle.styles.specs.Lent.{sheets_in}
use Rattle.agreement.specs.Calls.{compile_lent}
use Rattle.agreement.proofs.Returning as laws
use Rattle.agreement.proofs.three_calls.compile_and_run.Goals as goal

pub slice_bounds-input-end : goal.slice_bounds-input-end
slice_bounds-input-end c =
    let a = c.args in
    laws.compiled-within (sheets_in a.sheets) (compile_lent a.compiled.now a.compile_stores.now) c.compile-compiling.ensures.buffers_after c.from-bytes.ensures

pub slice_bounds-input-end-2 : goal.slice_bounds-input-end-2
slice_bounds-input-end-2 c =
    let a = c.args in
    sym (length-take-le _ _ (laws.compiled-within (sheets_in a.sheets) (compile_lent a.compiled.now a.compile_stores.now) c.compile-compiling.ensures.buffers_after c.from-bytes.ensures))
