-- The tests of `decimal`: a full stop behind the digits, and digits behind it; the full stop is in the text, so the rest begins within it.
use Rattle.std.proofs.Common.{arith, sym, ◌∙◌}
use Prim.Native.Char.{code as ascii}
use Rattle.combinators.proofs.Lists.{byte-there}
use Rattle.lexer.proofs.Digits.{decimal-none, decimal-by}
use Rattle.lexer.proofs.numbers.parse_decimal.Goals as goal

pub returns-then-not-byte_is-clause-value : goal.returns-then-not-byte_is-clause-value
returns-then-not-byte_is-clause-value c = decimal-none _ _ c.parse_integer-n.ensures.value (sym c.byte_is.ensures ∙ c.if-not-byte_is.true)

pub slice_bounds-parse_integer-count : goal.slice_bounds-parse_integer-count
slice_bounds-parse_integer-count c = omega (arith, byte-there c.args.s.now _ (ascii ".") (omega arith) (sym c.byte_is.ensures ∙ c.if-not-byte_is.false))

pub slice_bounds-parse_integer-start : goal.slice_bounds-parse_integer-start
slice_bounds-parse_integer-start c = omega (arith, byte-there c.args.s.now _ (ascii ".") (omega arith) (sym c.byte_is.ensures ∙ c.if-not-byte_is.false))

pub returns-clause-value : goal.returns-clause-value
returns-clause-value c =
    c.then_some.ensures ∙ decimal-by c.args.s.now _ c.parse_integer-n.ensures.value _ c.parse_integer-m.ensures.value (sym c.byte_is.ensures ∙ c.if-not-byte_is.false)
