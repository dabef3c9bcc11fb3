-- `emit_string` writes what stands behind the quote; by where it ends the token is a string (end of the text, the quote) or a bad one (line feed).
use mathlib.Core.Path.{◌∙◌}
use native.Mathlib.Omega.{arith}
use Rattle.lexer.proofs.TokenReaders as laws
use Rattle.lexer.proofs.tokens.parse_string_token.Goals as goal

pub returns-then-w-r : goal.returns-then-w-r
returns-then-w-r c = let t : goal.returns-then-w-r-raw c = laws.string-ended _ _ _ c.in_ok-quote.ensures.cases.0 _ c.is_quote.ensures c.if-not-is_quote.false _ _ _ _ _ (c.emit_string-w.ensures.taken_value, c.emit_string-w.ensures.store_after) c.if-w-r.true in record { value = t.0; store_after = t.1 }

pub overflow_add-result-then-byte_is : goal.overflow_add-result-then-byte_is
overflow_add-result-then-byte_is c = omega (arith, c.in_ok-quote.ensures.cases.1, laws.string-within _ _ _ c.in_ok-quote.ensures.cases.0 _ c.is_quote.ensures c.if-not-is_quote.false _ _ _ _ _ (c.emit_string-w.ensures.taken_value, c.emit_string-w.ensures.store_after))

pub overflow_add-result-then-byte_is-2 : goal.overflow_add-result-then-byte_is-2
overflow_add-result-then-byte_is-2 c = omega (arith, c.in_ok-quote.ensures.cases.1, laws.string-within _ _ _ c.in_ok-quote.ensures.cases.0 _ c.is_quote.ensures c.if-not-is_quote.false _ _ _ _ _ (c.emit_string-w.ensures.taken_value, c.emit_string-w.ensures.store_after))

pub returns-then-byte_is : goal.returns-then-byte_is
returns-then-byte_is c = let t : goal.returns-then-byte_is-raw c = laws.string-closed _ _ _ c.in_ok-quote.ensures.cases.0 _ c.is_quote.ensures c.if-not-is_quote.false _ _ _ _ _ (c.emit_string-w.ensures.taken_value, c.emit_string-w.ensures.store_after) c.if-w-r.false _ c.byte_is.ensures c.if-byte_is.true in record { value = t.0; store_after = t.1 }

pub overflow_add-result-2 : goal.overflow_add-result-2
overflow_add-result-2 c = omega (arith, c.in_ok-quote.ensures.cases.1, laws.string-within _ _ _ c.in_ok-quote.ensures.cases.0 _ c.is_quote.ensures c.if-not-is_quote.false _ _ _ _ _ (c.emit_string-w.ensures.taken_value, c.emit_string-w.ensures.store_after))

pub returns : goal.returns
returns c = let t : goal.returns-raw c = laws.string-bad _ _ _ c.in_ok-quote.ensures.cases.0 _ c.is_quote.ensures c.if-not-is_quote.false _ _ _ _ _ (c.emit_string-w.ensures.taken_value, c.emit_string-w.ensures.store_after) c.if-w-r.false _ c.byte_is.ensures c.if-byte_is.false in record { value = t.0; store_after = t.1 }

pub returns-then-not-is_quote : goal.returns-then-not-is_quote
returns-then-not-is_quote c = let t : goal.returns-then-not-is_quote-raw c = laws.no-string _ _ _ c.in_ok-quote.ensures.cases.0 _ c.is_quote.ensures c.if-not-is_quote.true _ _ in record { value = t.0; store_after = t.1 }

pub returns-in_err-quote : goal.returns-in_err-quote
returns-in_err-quote c = let t = laws.string-missing _ c.in_err-quote.ensures.cases _ _ in record { value = c.from_residual.ensures ∙ t.0; store_after = t.1 }
