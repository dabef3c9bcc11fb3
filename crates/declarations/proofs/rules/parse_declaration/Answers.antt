-- A property is read on with its value; without one its name is wiped.
use Rattle.declarations.proofs.Declaring as laws
use Rattle.declarations.proofs.rules.parse_declaration.Goals as goal

pub parse_declared-requires : goal.parse_declared-requires
parse_declared-requires c = record { rules_room = laws.named-room c.args.names c.args.at c.args.s.now c.args.stores.now.rules.now c.args.place c.args.stores.now.tokens.now c.args.stores.now.brackets.now c.args.stores.now.texts.now c.args.fill c.requires c.parse_property.ensures.value c.parse_property.ensures.store_after; property_read = laws.named-read c.args.names c.args.at c.args.s.now c.args.stores.now.rules.now c.args.place c.args.stores.now.tokens.now c.args.stores.now.brackets.now c.args.stores.now.texts.now c.args.fill c.requires c.parse_property.ensures.value c.parse_property.ensures.store_after c.in-Ok.is }

pub returns-in-Ok-clause-stores_after : goal.returns-in-Ok-clause-stores_after
returns-in-Ok-clause-stores_after c = laws.declared-left c.args.names c.args.at c.args.s.now c.args.stores.now.rules.now c.args.place c.args.stores.now.tokens.now c.args.stores.now.brackets.now c.args.stores.now.texts.now c.args.fill c.requires c.parse_property.ensures.value c.parse_property.ensures.store_after c.in-Ok.is c.parse_declared.ensures.stores_after

pub returns-in-Err-clause-stores_after : goal.returns-in-Err-clause-stores_after
returns-in-Err-clause-stores_after c = laws.unnamed-left c.args.names c.args.at c.args.s.now c.args.stores.now.rules.now c.args.place c.args.stores.now.tokens.now c.args.stores.now.brackets.now c.args.stores.now.texts.now c.args.fill c.requires c.parse_property.ensures.value c.parse_property.ensures.store_after c.in-Err.is c.fill_part.ensures
