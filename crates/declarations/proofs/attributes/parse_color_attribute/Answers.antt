-- The value's tokens give the colour, or else the text itself; what was used of the stores is wiped.
use Rattle.std.proofs.Common.{refl, rules, tests}
use Rattle.declarations.proofs.AttributeLaws as laws
use Rattle.declarations.proofs.attributes.parse_color_attribute.Goals as goal

pub wipe_statement-requires : goal.wipe_statement-requires
wipe_statement-requires c = laws.none-count c.args.s.now c.args.stores.now.tokens.now c.args.stores.now.brackets.now c.args.stores.now.texts.now c.args.fill c.requires c.parse_value.ensures.work_after c.in-Err.is

pub returns-in-Err-clause-work_after : goal.returns-in-Err-clause-work_after
returns-in-Err-clause-work_after c = laws.none_left c.args.s.now c.args.stores.now.tokens.now c.args.stores.now.brackets.now c.args.stores.now.texts.now c.args.fill c.requires c.parse_value.ensures.work_after c.in-Err.is c.wipe_statement.ensures.tokens_after c.wipe_statement.ensures.brackets_after c.wipe_statement.ensures.texts_after

pub tokens-requires : goal.tokens-requires
tokens-requires c = laws.some-counted c.args.s.now c.args.stores.now.tokens.now c.args.stores.now.brackets.now c.args.stores.now.texts.now c.args.fill c.requires c.parse_value.ensures.work_after c.in-Ok.is refl

pub wipe_statement-requires-in-Ok : goal.wipe_statement-requires-in-Ok
wipe_statement-requires-in-Ok c = laws.some-count c.args.s.now c.args.stores.now.tokens.now c.args.stores.now.brackets.now c.args.stores.now.texts.now c.args.fill c.requires c.parse_value.ensures.work_after c.in-Ok.is

pub returns-in-Ok-clause-work_after : goal.returns-in-Ok-clause-work_after
returns-in-Ok-clause-work_after c = laws.some_left c.args.s.now c.args.stores.now.tokens.now c.args.stores.now.brackets.now c.args.stores.now.texts.now c.args.fill c.requires c.parse_value.ensures.work_after c.in-Ok.is refl (rw c.tokens.ensures at c.parse_color-colour.ensures) (search (rules, tests)) c.wipe_statement-in-Ok.ensures.tokens_after c.wipe_statement-in-Ok.ensures.brackets_after c.wipe_statement-in-Ok.ensures.texts_after
