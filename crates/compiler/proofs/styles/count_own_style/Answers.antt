-- The declaration has a style of its own, which takes one row, or none.
use mathlib.Core.Path.{◌∙◌, ap}
use Rattle.std.specs.Int.{from_bool}
use Rattle.compiler.proofs.StyleWriting as laws
use Rattle.compiler.proofs.styles.count_own_style.Goals as goal

pub returns : goal.returns
returns c =
    let e = c.from.ensures ∙ ap from_bool c.is_some.ensures in
    let t = laws.own-count _ _ c.own_style_at.ensures in
    record { result_value = rw e t.0; upper_bound = rw e t.1 }
