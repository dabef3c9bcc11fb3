-- One turn by the cases of `quoted_of`: a byte is emitted; skipped bytes and the end of the string leave the store as it was.
use Rattle.std.proofs.Common.{refl, ap, ◌∙◌}
use Rattle.combinators.specs.Store.{emits}
use Rattle.lexer.proofs.Quotes as laws
use Rattle.lexer.proofs.strings.emit_quoted.Goals as goal

pub returns-in_err-taken : goal.returns-in_err-taken
returns-in_err-taken c = let t = laws.turn-stop _ _ _ c.quoted_byte.ensures c.in_err-taken.was in record { same_store = refl; value = c.from_residual.ensures ∙ t.0; written = laws.kept _ _ t.1 }

pub returns-in-Some : goal.returns-in-Some
returns-in-Some c = let t = laws.turn_byte _ _ _ c.quoted_byte.ensures _ c.in_ok-taken.was _ c.in-Some.is in
    record { same_store = c.emit.ensures.same_store; value = t.0; written = c.emit.ensures.written ∙ ap (emits _) t.1 }

pub returns-in-None : goal.returns-in-None
returns-in-None c = let t = laws.turn-none _ _ _ c.quoted_byte.ensures _ c.in_ok-taken.was c.in-None.is in record { same_store = refl; value = t.0; written = laws.kept _ _ t.1 }
