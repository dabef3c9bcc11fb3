-- A '-' and what starts a name are characters of names too, so where `nmstart` reads, one run from the start of `t` is the name (`name-some`).
use Rattle.std.proofs.Common.{◌∙◌}
use Rattle.lexer.proofs.Idents as laws
use Rattle.lexer.proofs.names.parse_name.Goals as goal

pub returns-in_err-nmstart : goal.returns-in_err-nmstart
returns-in_err-nmstart c = let t = laws.not_named _ _ c.dash_of-d.ensures.value _ c.nmstart.ensures c.in_err-nmstart.was _ _ in record { value = c.from_residual.ensures ∙ t.0; store_after = t.1 }

pub returns : goal.returns
returns c = let t : goal.returns-raw c = laws.named _ _ c.dash_of-d.ensures.value _ c.nmstart.ensures _ _ c.in_ok-nmstart.was _ _ _ _ _ (c.emit_nmchars.ensures.taken_value, c.emit_nmchars.ensures.store_after) in record { value = t.0; store_after = t.1 }
