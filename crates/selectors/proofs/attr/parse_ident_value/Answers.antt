-- A name with its bracket, or nothing.
use mathlib.Core.Path.{◌∙◌}
use Rattle.lexer.proofs.IdentBounds.{ident-keeps, answer_le}
use Rattle.selectors.proofs.AttrLaws as laws
use Rattle.selectors.proofs.attr.parse_ident_value.Goals as goal

pub closed-requires : goal.closed-requires
closed-requires c = answer_le _ c.args.s.now (ident-keeps _) _ c.parse_ident.ensures.value _ _ c.in_ok-name.was

pub returns : goal.returns
returns c = let t : goal.returns-raw c = laws.value_read _ _ _ _ c.requires.zeros _ _ (c.parse_ident.ensures.value, c.parse_ident.ensures.store_after) _ _ c.in_ok-name.was _ _ (c.closed.ensures.value, c.closed.ensures.store_after) in record { value = t.0; store_after = t.1 }

pub returns-in_err-name : goal.returns-in_err-name
returns-in_err-name c = let t = laws.value_none _ _ _ _ c.requires.zeros _ _ (c.parse_ident.ensures.value, c.parse_ident.ensures.store_after) c.in_err-name.was in record { value = c.from_residual.ensures ∙ t.0; store_after = t.1 }
