-- Without a first declaration nothing is left; with one the others are read behind it, and the counts add up.
use mathlib.Core.Path.{refl}
use native.Mathlib.Omega.{arith}
use Rattle.declarations.proofs.RuleTurns as laws
use Rattle.declarations.proofs.rules.parse_rules.Goals as goal

pub returns-in_default-clause-stores_after : goal.returns-in_default-clause-stores_after
returns-in_default-clause-stores_after c = laws.all_none c.args.names c.args.at c.args.s.now c.args.stores.now.rules.now c.args.place c.args.stores.now.tokens.now c.args.stores.now.brackets.now c.args.stores.now.texts.now c.args.fill c.requires c.parse_declaration.ensures.stores_after c.in_default.is refl

pub overflow_add-fill : goal.overflow_add-fill
overflow_add-fill c = omega (arith, laws.behind-fits c.args.names c.args.at c.args.s.now c.args.stores.now.rules.now c.args.place c.args.stores.now.tokens.now c.args.stores.now.brackets.now c.args.stores.now.texts.now c.args.fill c.requires c.parse_declaration.ensures.stores_after c.in-Some.is)

pub more_rules-more-requires : goal.more_rules-more-requires
more_rules-more-requires c = laws.behind-room c.args.names c.args.at c.args.s.now c.args.stores.now.rules.now c.args.place c.args.stores.now.tokens.now c.args.stores.now.brackets.now c.args.stores.now.texts.now c.args.fill c.requires c.parse_declaration.ensures.stores_after c.in-Some.is

pub overflow_add-result-2 : goal.overflow_add-result-2
overflow_add-result-2 c = omega (arith, laws.text-fits c.args.names c.args.at c.args.s.now c.args.stores.now.rules.now c.args.place c.args.stores.now.tokens.now c.args.stores.now.brackets.now c.args.stores.now.texts.now c.args.fill c.requires c.parse_declaration.ensures.stores_after c.in-Some.is c.more_rules-more.ensures.stores_after c.more_rules-more.ensures.more_read)

pub returns-clause-stores_after : goal.returns-clause-stores_after
returns-clause-stores_after c = laws.all_left c.args.names c.args.at c.args.s.now c.args.stores.now.rules.now c.args.place c.args.stores.now.tokens.now c.args.stores.now.brackets.now c.args.stores.now.texts.now c.args.fill c.requires c.parse_declaration.ensures.stores_after c.in-Some.is c.more_rules-more.ensures.stores_after c.more_rules-more.ensures.more_read refl
