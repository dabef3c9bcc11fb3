-- A full stop and a name, or nothing.
use mathlib.Core.Path.{◌∙◌, ap}
use native.Mathlib.Omega.{arith}
use Rattle.std.proofs.Common.{Ok}
use Rattle.lexer.proofs.IdentBounds.{ident-keeps, answer_le}
use Rattle.selectors.proofs.ComponentLaws as laws
use Rattle.selectors.proofs.components.parse_class.Goals as goal

pub returns-in_err-strip_prefix-clause-value : goal.returns-in_err-strip_prefix-clause-value
returns-in_err-strip_prefix-clause-value c = ap Ok c.from_residual.ensures ∙ (laws.text-missing laws.class-behind c.args.s.now c.args.store.now c.args.fill _ c.strip_prefix.ensures.cases c.in_err-strip_prefix.was).0

pub returns-in_err-strip_prefix-clause-store_after : goal.returns-in_err-strip_prefix-clause-store_after
returns-in_err-strip_prefix-clause-store_after c = (laws.text-missing laws.class-behind c.args.s.now c.args.store.now c.args.fill _ c.strip_prefix.ensures.cases c.in_err-strip_prefix.was).1

pub returns-in_err-name-clause-value : goal.returns-in_err-name-clause-value
returns-in_err-name-clause-value c = ap Ok c.from_residual-in_err-name.ensures ∙ (laws.text-unread laws.class-behind c.args.s.now _ _ _ c.strip_prefix.ensures.cases _ c.in_ok-strip_prefix.was _ _ (c.parse_ident.ensures.value, c.parse_ident.ensures.store_after) c.in_err-name.was).0

pub returns-in_err-name-clause-store_after : goal.returns-in_err-name-clause-store_after
returns-in_err-name-clause-store_after c = (laws.text-unread laws.class-behind c.args.s.now _ _ _ c.strip_prefix.ensures.cases _ c.in_ok-strip_prefix.was _ _ (c.parse_ident.ensures.value, c.parse_ident.ensures.store_after) c.in_err-name.was).1

pub overflow_add-result : goal.overflow_add-result
overflow_add-result c = record { fits = omega (arith, answer_le _ _ (ident-keeps _) _ c.parse_ident.ensures.value _ _ c.in_ok-name.was, laws.text-shorter laws.class-behind c.args.s.now c.args.store.now c.args.fill _ c.strip_prefix.ensures.cases _ c.in_ok-strip_prefix.was, c.well_formed) }

pub returns-clause-value : goal.returns-clause-value
returns-clause-value c = (laws.text-read laws.class-behind c.args.s.now _ _ _ c.strip_prefix.ensures.cases _ c.in_ok-strip_prefix.was _ _ (c.parse_ident.ensures.value, c.parse_ident.ensures.store_after) _ _ c.in_ok-name.was).0

pub returns-clause-store_after : goal.returns-clause-store_after
returns-clause-store_after c = (laws.text-read laws.class-behind c.args.s.now _ _ _ c.strip_prefix.ensures.cases _ c.in_ok-strip_prefix.was _ _ (c.parse_ident.ensures.value, c.parse_ident.ensures.store_after) _ _ c.in_ok-name.was).1
