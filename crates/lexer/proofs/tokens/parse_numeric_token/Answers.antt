-- The number's text is stored first; '%' behind it makes a percentage, a name a dimension with its unit stored behind, and neither a number.
use Rattle.std.proofs.Common.{rules, sym, ◌∙◌}
use native.Mathlib.Omega.{arith}
use Rattle.lexer.proofs.Taken.{some-taken}
use Rattle.lexer.proofs.Digits.{number-le}
use Rattle.lexer.proofs.IdentBounds.{ident-keeps, answer_le}
use Rattle.lexer.proofs.TokenReaders as laws
use Rattle.lexer.proofs.tokens.parse_numeric_token.Goals as goal

pub returns-in_err-n : goal.returns-in_err-n
returns-in_err-n c = let t = laws.no_number _ (sym c.in_err-n.was ∙ c.parse_number.ensures.value) _ _ in record { value = c.from_residual.ensures ∙ t.0; store_after = t.1 }

pub returns-then-byte_is : goal.returns-then-byte_is
returns-then-byte_is c = let t = laws.percent _ _ (sym c.in_ok-n.was ∙ c.parse_number.ensures.value) _ _ _ _ c.emit_all-behind.ensures _ c.byte_is.ensures c.if-byte_is.true in record { value = t.0; store_after = let e = t.1 in search rules }

pub overflow_add-result-in-Some : goal.overflow_add-result-in-Some
overflow_add-result-in-Some c = omega (arith, (some-taken _ _ (sym c.in_ok-n.was ∙ c.parse_number.ensures.value)).0, number-le c.args.s.now, answer_le _ _ (ident-keeps _) _ c.parse_ident.ensures.value _ _ c.in-Some.is)

pub returns-in-Some : goal.returns-in-Some
returns-in-Some c = let t = laws.unit _ _ (sym c.in_ok-n.was ∙ c.parse_number.ensures.value) _ _ _ _ c.emit_all-behind.ensures _ c.byte_is.ensures c.if-byte_is.false _ _ (c.parse_ident.ensures.value, c.parse_ident.ensures.store_after) _ _ c.in-Some.is in record { value = t.0; store_after = let e = t.1 in search rules }

pub returns-in-None : goal.returns-in-None
returns-in-None c = let t = laws.bare _ _ (sym c.in_ok-n.was ∙ c.parse_number.ensures.value) _ _ _ _ c.emit_all-behind.ensures _ c.byte_is.ensures c.if-byte_is.false _ _ (c.parse_ident.ensures.value, c.parse_ident.ensures.store_after) c.in-None.is in record { value = t.0; store_after = let e = t.1 in search rules }
