-- Without a value all that was written is wiped; with one the declaration is put down and what was used is wiped.
use mathlib.Core.Path.{refl, ◌∙◌, ap}
use Rattle.combinators.specs.Store.{wiped}
use native.Mathlib.Omega.{arith}
use Rattle.declarations.proofs.Declaring as laws
use Rattle.declarations.proofs.rules.parse_declared.Goals as goal

pub slice_bounds-parse_value-count : goal.slice_bounds-parse_value-count
slice_bounds-parse_value-count c = omega (arith, laws.value-within c.args.names c.args.at c.args.s.now c.args.stores.now.rules.now c.args.place c.args.stores.now.tokens.now c.args.stores.now.brackets.now c.args.stores.now.texts.now c.args.fill c.args.property.value c.args.property.name c.requires.rules_room c.requires.property_read)

pub slice_bounds-parse_value-start : goal.slice_bounds-parse_value-start
slice_bounds-parse_value-start c = laws.value-within c.args.names c.args.at c.args.s.now c.args.stores.now.rules.now c.args.place c.args.stores.now.tokens.now c.args.stores.now.brackets.now c.args.stores.now.texts.now c.args.fill c.args.property.value c.args.property.name c.requires.rules_room c.requires.property_read

pub overflow_add-fill : goal.overflow_add-fill
overflow_add-fill c = omega (arith, laws.fill-fits c.args.names c.args.at c.args.s.now c.args.stores.now.rules.now c.args.place c.args.stores.now.tokens.now c.args.stores.now.brackets.now c.args.stores.now.texts.now c.args.fill c.args.property.value c.args.property.name c.requires.rules_room c.requires.property_read)

pub parse_value-requires : goal.parse_value-requires
parse_value-requires c = laws.value_room c.args.names c.args.at c.args.s.now c.args.stores.now.rules.now c.args.place c.args.stores.now.tokens.now c.args.stores.now.brackets.now c.args.stores.now.texts.now c.args.fill c.args.property.value c.args.property.name c.requires.rules_room c.requires.property_read

pub wipe_work-requires : goal.wipe_work-requires
wipe_work-requires c = laws.none-count c.args.names c.args.at c.args.s.now c.args.stores.now.rules.now c.args.place c.args.stores.now.tokens.now c.args.stores.now.brackets.now c.args.stores.now.texts.now c.args.fill c.args.property.value c.args.property.name c.requires.rules_room c.requires.property_read c.parse_value.ensures.work_after c.in-Err.is

pub overflow_add-property : goal.overflow_add-property
overflow_add-property c = omega (arith, laws.none-text c.args.names c.args.at c.args.s.now c.args.stores.now.rules.now c.args.place c.args.stores.now.tokens.now c.args.stores.now.brackets.now c.args.stores.now.texts.now c.args.fill c.args.property.value c.args.property.name c.requires.rules_room c.requires.property_read c.parse_value.ensures.work_after c.in-Err.is)

pub returns-in-Err-clause-stores_after : goal.returns-in-Err-clause-stores_after
returns-in-Err-clause-stores_after c = laws.none_left c.args.names c.args.at c.args.s.now c.args.stores.now.rules.now c.args.place c.args.stores.now.tokens.now c.args.stores.now.brackets.now c.args.stores.now.texts.now c.args.fill c.args.property.value c.args.property.name c.requires.rules_room c.requires.property_read c.parse_value.ensures.work_after c.in-Err.is (c.wipe_work.ensures.rules_unchanged ∙ c.parse_value.ensures.rules_unchanged) c.wipe_work.ensures.tokens_after c.wipe_work.ensures.brackets_after (c.fill_part.ensures ∙ ap (wiped _ _) c.wipe_work.ensures.texts_unchanged)

pub put_declared-text-requires : goal.put_declared-text-requires
put_declared-text-requires c = laws.put-room c.args.names c.args.at c.args.s.now c.args.stores.now.rules.now c.args.place c.args.stores.now.tokens.now c.args.stores.now.brackets.now c.args.stores.now.texts.now c.args.fill c.args.property.value c.args.property.name c.requires.rules_room c.requires.property_read c.parse_value.ensures.work_after c.in-Ok.is refl c.skip_optional_whitespace.ensures.value

pub wipe_work-requires-in-Ok : goal.wipe_work-requires-in-Ok
wipe_work-requires-in-Ok c = laws.some-count c.args.names c.args.at c.args.s.now c.args.stores.now.rules.now c.args.place c.args.stores.now.tokens.now c.args.stores.now.brackets.now c.args.stores.now.texts.now c.args.fill c.args.property.value c.args.property.name c.requires.rules_room c.requires.property_read c.parse_value.ensures.work_after c.in-Ok.is

pub overflow_add-result : goal.overflow_add-result
overflow_add-result c = omega (arith, laws.some-taken c.args.names c.args.at c.args.s.now c.args.stores.now.rules.now c.args.place c.args.stores.now.tokens.now c.args.stores.now.brackets.now c.args.stores.now.texts.now c.args.fill c.args.property.value c.args.property.name c.requires.rules_room c.requires.property_read c.parse_value.ensures.work_after c.in-Ok.is)

pub returns-in-Ok-clause-stores_after : goal.returns-in-Ok-clause-stores_after
returns-in-Ok-clause-stores_after c = rw (c.wipe_work-in-Ok.ensures.rules_unchanged, c.wipe_work-in-Ok.ensures.texts_unchanged) (laws.some_left c.args.names c.args.at c.args.s.now c.args.stores.now.rules.now c.args.place c.args.stores.now.tokens.now c.args.stores.now.brackets.now c.args.stores.now.texts.now c.args.fill c.args.property.value c.args.property.name c.requires.rules_room c.requires.property_read c.parse_value.ensures.work_after c.in-Ok.is refl c.skip_optional_whitespace.ensures.value c.parse_value.ensures.rules_unchanged c.put_declared-text.ensures.put (c.wipe_work-in-Ok.ensures.tokens_after ∙ ap (wiped 0 _) c.put_declared-text.ensures.work_unchanged.tokens) (c.wipe_work-in-Ok.ensures.brackets_after ∙ ap (wiped 0 _) c.put_declared-text.ensures.work_unchanged.brackets))
