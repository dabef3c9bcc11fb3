-- A sheet that reads stays behind those before it; where it panics, all is wiped.
use mathlib.Core.Path.{◌∙◌, ap, sym}
use Rattle.combinators.specs.Store.{wiped}
use Rattle.origins.specs.Reading.{RulesBounds}
use Rattle.origins.proofs.SheetsLaws as laws
use Rattle.origins.proofs.reading.read_next.Goals as goal

pub returns-in-Ok-clause-value : goal.returns-in-Ok-clause-value
returns-in-Ok-clause-value c = (laws.next-read c.args.text c.args.s.now c.read_behind.ensures.value c.in-Ok.is c.read_behind.ensures.rules_bounds).0

pub returns-in-Ok-clause-rules_after : goal.returns-in-Ok-clause-rules_after
returns-in-Ok-clause-rules_after c = c.read_behind.ensures.rules_after ∙ laws.stored-read _ _ _ (sym c.in-Ok.is ∙ c.read_behind.ensures.value) _ _

pub returns-in-Ok-clause-texts_after : goal.returns-in-Ok-clause-texts_after
returns-in-Ok-clause-texts_after c = c.read_behind.ensures.texts_after ∙ laws.stored-read _ _ _ (sym c.in-Ok.is ∙ c.read_behind.ensures.value) _ _

pub returns-in-Ok-clause-rules_bounds : goal.returns-in-Ok-clause-rules_bounds
returns-in-Ok-clause-rules_bounds c = (laws.next-read c.args.text c.args.s.now c.read_behind.ensures.value c.in-Ok.is c.read_behind.ensures.rules_bounds).1

pub returns-in-Err-clause-value : goal.returns-in-Err-clause-value
returns-in-Err-clause-value c = laws.next-panics c.args.text c.args.s.now c.read_behind.ensures.value c.in-Err.is

pub returns-in-Err-clause-rules_after : goal.returns-in-Err-clause-rules_after
returns-in-Err-clause-rules_after c = c.take_back.ensures.rules_after ∙ ap (wiped 0 c.args.place) c.read_behind.ensures.rules_after ∙ laws.stored-panics _ _ _ (sym c.in-Err.is ∙ c.read_behind.ensures.value) _ _

pub returns-in-Err-clause-texts_after : goal.returns-in-Err-clause-texts_after
returns-in-Err-clause-texts_after c = c.take_back.ensures.texts_after ∙ ap (wiped 0 c.args.fill) c.read_behind.ensures.texts_after ∙ laws.stored-panics _ _ _ (sym c.in-Err.is ∙ c.read_behind.ensures.value) _ _

pub returns-in-Err-clause-rules_bounds : goal.returns-in-Err-clause-rules_bounds
unfolding RulesBounds
returns-in-Err-clause-rules_bounds c = tt
