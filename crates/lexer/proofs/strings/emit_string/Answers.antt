-- What is left to read and to write has the result of the whole at each turn (`Writing`); where no character of the string stands, it ends.
use Rattle.std.proofs.Common.{refl, rules, arith, ◌∙◌}
use Rattle.lexer.proofs.Writing as writing
use Rattle.lexer.proofs.Quotes as laws
use Rattle.lexer.proofs.strings.emit_string.Goals as goal

pub loop-r-init : goal.loop-r-init
loop-r-init c = record { same = refl; work = writing.writing-begin _ _ _ _ }

pub overflow_add-i : goal.overflow_add-i
overflow_add-i c = omega (arith, (laws.string-more _ _ _ _ _ _ c.loop-r.invariant.work _ _ c.emit_quoted.ensures.value c.emit_quoted.ensures.written _ _ c.in-Some.is).within_text)

pub overflow_add-n : goal.overflow_add-n
overflow_add-n c = omega (arith, laws.string-small _ _ _ _ _ _ (laws.string-more _ _ _ _ _ _ c.loop-r.invariant.work _ _ c.emit_quoted.ensures.value c.emit_quoted.ensures.written _ _ c.in-Some.is))

pub loop-r-smaller : goal.loop-r-smaller
loop-r-smaller c =
    omega (arith, (laws.string-more _ _ _ _ _ _ c.loop-r.invariant.work _ _ c.emit_quoted.ensures.value c.emit_quoted.ensures.written _ _ c.in-Some.is).within_text, laws.string-some _ _ _ _ _ _ c.loop-r.invariant.work _ _ c.emit_quoted.ensures.value c.emit_quoted.ensures.written _ _ c.in-Some.is)

pub loop-r-preserved : goal.loop-r-preserved
loop-r-preserved c = record {
  same = c.emit_quoted.ensures.same_store ∙ c.loop-r.invariant.same;
  work = laws.string-more _ _ _ _ _ _ c.loop-r.invariant.work _ _ c.emit_quoted.ensures.value c.emit_quoted.ensures.written _ _ c.in-Some.is;
}

pub returns : goal.returns
returns c = let t = laws.string-stop _ _ _ _ _ _ c.loop-r.invariant.work _ _ c.emit_quoted.ensures.value c.emit_quoted.ensures.written c.in_default.is in
    record { taken_value = t.0; store_after = let e = t.1 in search rules }
