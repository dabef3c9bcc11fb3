-- What is counted and noted, with what is left from the place on, is the whole; at the end a zero height with a hidden overflow adds one.
use mathlib.Core.Path.{◌≡◌, ◌∙◌, ap, refl}
use mathlib.Core.Bool.{◌&&◌}
use native.Mathlib.Omega.{arith}
use Rattle.syntax.specs.Layout.{flag}
use Rattle.syntax.proofs.Back.{flag-byte}
use Rattle.compiler.proofs.styles.count_styles.Goals.{then-height_zero, else-height_zero}
use Rattle.compiler.proofs.StyleWriting as laws
use borrow.Author.Rules.{rules}
use Rattle.compiler.proofs.styles.count_styles.Goals as goal

pub loop-init : goal.loop-init
loop-init c = laws.finding-all _ _ _

pub loop-preserved : goal.loop-preserved
loop-preserved c = laws.finding-next _ _ _ _ _ _ _ _ c.loop.invariant (omega arith) _ c.count_own_style.ensures.result_value c.count_own_style.ensures.upper_bound _ _
    c.is_zero_height.ensures c.hides_overflow.ensures _ c.forward-place.ensures.rows_value

flags : (c : goal.After-from) → c.from.result ≡ flag (c.loop.height_zero && c.loop.overflow_hidden)
flags c =
    let both : c.if-height_zero.from ≡ (c.loop.height_zero && c.loop.overflow_hidden) =
    elim c.if-height_zero.branch [
      | then-height_zero w ↦ rw (w.from-is, w.if-height_zero.true) refl
      | else-height_zero w ↦ rw (w.from-is, w.if-height_zero.false) refl
    ] in
    c.from.ensures ∙ flag-byte _ ∙ ap flag both

pub overflow_add-result : goal.overflow_add-result
overflow_add-result c = search (rules, laws.finding-fits _ _ _ _ _ _ _ _ c.loop.invariant (omega arith) _ (flags c) (search rules))

pub returns : goal.returns
returns c = laws.finding-done _ _ _ _ _ _ _ _ c.loop.invariant (omega arith) _ (flags c)
