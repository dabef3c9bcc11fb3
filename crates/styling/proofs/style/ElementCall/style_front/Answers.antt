-- The stores are cleared behind their fronts, and the element is styled in these: what is left in them, with the zeros behind, is what is left in the whole.
use Rattle.styling.proofs.FrontLaws as laws
use Rattle.styling.proofs.style.ElementCall.style_front.Goals as goal

pub slice_bounds-style_parts-end : goal.slice_bounds-style_parts-end
slice_bounds-style_parts-end c = laws.front-within _ c.args.stores.now.rules.now c.clear_behind.new.stores.rules.now c.requires.front_lent.least.for-rules c.clear_behind.ensures.rules_after

pub slice_bounds-style_parts-end-2 : goal.slice_bounds-style_parts-end-2
slice_bounds-style_parts-end-2 c = laws.front-count _ c.args.stores.now.rules.now c.clear_behind.new.stores.rules.now c.requires.front_lent.least.for-rules c.clear_behind.ensures.rules_after

pub slice_bounds-style_parts-end-3 : goal.slice_bounds-style_parts-end-3
slice_bounds-style_parts-end-3 c = laws.front-within _ c.args.stores.now.tokens.now c.clear_behind.new.stores.tokens.now c.requires.front_lent.least.for-tokens c.clear_behind.ensures.tokens_after

pub slice_bounds-style_parts-end-4 : goal.slice_bounds-style_parts-end-4
slice_bounds-style_parts-end-4 c = laws.front-count _ c.args.stores.now.tokens.now c.clear_behind.new.stores.tokens.now c.requires.front_lent.least.for-tokens c.clear_behind.ensures.tokens_after

pub slice_bounds-style_parts-end-5 : goal.slice_bounds-style_parts-end-5
slice_bounds-style_parts-end-5 c = laws.front-within _ c.args.stores.now.brackets.now c.clear_behind.new.stores.brackets.now c.requires.front_lent.least.for-brackets c.clear_behind.ensures.brackets_after

pub slice_bounds-style_parts-end-6 : goal.slice_bounds-style_parts-end-6
slice_bounds-style_parts-end-6 c = laws.front-count _ c.args.stores.now.brackets.now c.clear_behind.new.stores.brackets.now c.requires.front_lent.least.for-brackets c.clear_behind.ensures.brackets_after

pub slice_bounds-style_parts-end-7 : goal.slice_bounds-style_parts-end-7
slice_bounds-style_parts-end-7 c = laws.front-within _ c.args.stores.now.texts.now c.clear_behind.new.stores.texts.now c.requires.front_lent.least.for-texts c.clear_behind.ensures.texts_after

pub slice_bounds-style_parts-end-8 : goal.slice_bounds-style_parts-end-8
slice_bounds-style_parts-end-8 c = laws.front-count _ c.args.stores.now.texts.now c.clear_behind.new.stores.texts.now c.requires.front_lent.least.for-texts c.clear_behind.ensures.texts_after

pub style_parts-requires : goal.style_parts-requires
style_parts-requires c = record { lent = laws.front-sheets c.requires.front_lent c.clear_behind.ensures.texts_after c.clear_behind.ensures.rules_after c.clear_behind.ensures.tokens_after c.clear_behind.ensures.brackets_after; call_lent = laws.front-call c.requires.front_lent c.clear_behind.ensures.texts_after c.clear_behind.ensures.rules_after c.clear_behind.ensures.tokens_after c.clear_behind.ensures.brackets_after }

pub returns-clause-left : goal.returns-clause-left
returns-clause-left c = laws.front-left c.requires.front_lent c.clear_behind.ensures.texts_after c.clear_behind.ensures.rules_after c.clear_behind.ensures.tokens_after c.clear_behind.ensures.brackets_after c.args.self.now.call.cascade c.args.self.now.call.settings _ _ c.style_parts.ensures c.style_parts.auto.texts
