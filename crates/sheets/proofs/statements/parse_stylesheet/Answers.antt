-- What was read and what is still to be read make up the whole at each turn (`Reading-on`); each return is the law of its case.
use mathlib.Core.Path.{◌∙◌, ap}
use Rattle.std.proofs.Common.{Ok, Err}
use native.Mathlib.Omega.{arith}
use Rattle.combinators.proofs.LentLaws.{same-none, same-then, with_work}
use Rattle.sheets.proofs.StatementTurns as laws
use Rattle.sheets.proofs.statements.parse_stylesheet.Goals as goal

pub loop-read-init : goal.loop-read-init
loop-read-init c = record { same = same-none; reading = laws.begin _ _ _ _ _ }

pub parse_statement-requires : goal.parse_statement-requires
parse_statement-requires c = laws.next-room c.loop-read.invariant.reading c.loop-read-test.true c.requires

pub overflow_add-read : goal.overflow_add-read
overflow_add-read c = omega (arith, c.requires.work.text-bits, laws.next_fits c.loop-read.invariant.reading c.loop-read-test.true c.requires (c.parse_statement.ensures.value, (c.parse_statement.ensures.rules_after, (c.parse_statement.ensures.work_unchanged.tokens, (c.parse_statement.ensures.work_unchanged.brackets, c.parse_statement.ensures.texts_after)))) (c.in-Ok-Some.is ∙ ap Ok c.in-Ok-Some.field-0-is))

pub overflow_add-read-in-Ok-Some : goal.overflow_add-read-in-Ok-Some
overflow_add-read-in-Ok-Some c = omega (arith, c.requires.work.text-bits, laws.next_fits c.loop-read.invariant.reading c.loop-read-test.true c.requires (c.parse_statement.ensures.value, (c.parse_statement.ensures.rules_after, (c.parse_statement.ensures.work_unchanged.tokens, (c.parse_statement.ensures.work_unchanged.brackets, c.parse_statement.ensures.texts_after)))) (c.in-Ok-Some.is ∙ ap Ok c.in-Ok-Some.field-0-is), laws.next-count c.loop-read.invariant.reading c.loop-read-test.true c.requires (c.parse_statement.ensures.value, (c.parse_statement.ensures.rules_after, (c.parse_statement.ensures.work_unchanged.tokens, (c.parse_statement.ensures.work_unchanged.brackets, c.parse_statement.ensures.texts_after)))) (c.in-Ok-Some.is ∙ ap Ok c.in-Ok-Some.field-0-is))

pub overflow_add-read-in-Ok-Some-2 : goal.overflow_add-read-in-Ok-Some-2
overflow_add-read-in-Ok-Some-2 c = omega (arith, c.requires.work.text-bits, laws.next_fits c.loop-read.invariant.reading c.loop-read-test.true c.requires (c.parse_statement.ensures.value, (c.parse_statement.ensures.rules_after, (c.parse_statement.ensures.work_unchanged.tokens, (c.parse_statement.ensures.work_unchanged.brackets, c.parse_statement.ensures.texts_after)))) (c.in-Ok-Some.is ∙ ap Ok c.in-Ok-Some.field-0-is), laws.next-numbers c.loop-read.invariant.reading c.loop-read-test.true c.requires (c.parse_statement.ensures.value, (c.parse_statement.ensures.rules_after, (c.parse_statement.ensures.work_unchanged.tokens, (c.parse_statement.ensures.work_unchanged.brackets, c.parse_statement.ensures.texts_after)))) (c.in-Ok-Some.is ∙ ap Ok c.in-Ok-Some.field-0-is))

pub overflow_add-read-in-Ok-Some-3 : goal.overflow_add-read-in-Ok-Some-3
overflow_add-read-in-Ok-Some-3 c = omega (arith, c.requires.work.text-bits, laws.next_fits c.loop-read.invariant.reading c.loop-read-test.true c.requires (c.parse_statement.ensures.value, (c.parse_statement.ensures.rules_after, (c.parse_statement.ensures.work_unchanged.tokens, (c.parse_statement.ensures.work_unchanged.brackets, c.parse_statement.ensures.texts_after)))) (c.in-Ok-Some.is ∙ ap Ok c.in-Ok-Some.field-0-is), laws.next-text c.loop-read.invariant.reading c.loop-read-test.true c.requires (c.parse_statement.ensures.value, (c.parse_statement.ensures.rules_after, (c.parse_statement.ensures.work_unchanged.tokens, (c.parse_statement.ensures.work_unchanged.brackets, c.parse_statement.ensures.texts_after)))) (c.in-Ok-Some.is ∙ ap Ok c.in-Ok-Some.field-0-is))

pub loop-read-smaller : goal.loop-read-smaller
loop-read-smaller c = omega (arith, laws.next_fits c.loop-read.invariant.reading c.loop-read-test.true c.requires (c.parse_statement.ensures.value, (c.parse_statement.ensures.rules_after, (c.parse_statement.ensures.work_unchanged.tokens, (c.parse_statement.ensures.work_unchanged.brackets, c.parse_statement.ensures.texts_after)))) (c.in-Ok-Some.is ∙ ap Ok c.in-Ok-Some.field-0-is), laws.next-later c.loop-read.invariant.reading c.loop-read-test.true c.requires (c.parse_statement.ensures.value, (c.parse_statement.ensures.rules_after, (c.parse_statement.ensures.work_unchanged.tokens, (c.parse_statement.ensures.work_unchanged.brackets, c.parse_statement.ensures.texts_after)))) (c.in-Ok-Some.is ∙ ap Ok c.in-Ok-Some.field-0-is))

pub loop-read-preserved : goal.loop-read-preserved
loop-read-preserved c = record { same = same-then c.loop-read.invariant.same c.parse_statement.ensures.same; reading = laws.goes c.loop-read.invariant.reading c.loop-read-test.true c.requires (c.parse_statement.ensures.value, (c.parse_statement.ensures.rules_after, (c.parse_statement.ensures.work_unchanged.tokens, (c.parse_statement.ensures.work_unchanged.brackets, c.parse_statement.ensures.texts_after)))) (c.in-Ok-Some.is ∙ ap Ok c.in-Ok-Some.field-0-is) }

pub returns-in-Ok-None : goal.returns-in-Ok-None
returns-in-Ok-None c = let t : goal.returns-in-Ok-None-raw c = with_work (same-then c.loop-read.invariant.same c.parse_statement.ensures.same) (laws.no_more c.loop-read.invariant.reading c.loop-read-test.true c.requires (c.parse_statement.ensures.value, (c.parse_statement.ensures.rules_after, (c.parse_statement.ensures.work_unchanged.tokens, (c.parse_statement.ensures.work_unchanged.brackets, c.parse_statement.ensures.texts_after)))) (c.in-Ok-None.is ∙ ap Ok c.in-Ok-None.field-0-is)) in record { same = t.0; work_unchanged = t.1.0; value = t.1.1.0; rules_after = t.1.1.1.0; texts_after = t.1.1.1.1 }

pub behind-requires : goal.behind-requires
behind-requires c = omega (arith, c.requires.work.text-bits, laws.panic-fits c.loop-read.invariant.reading c.loop-read-test.true c.requires (c.parse_statement.ensures.value, (c.parse_statement.ensures.rules_after, (c.parse_statement.ensures.work_unchanged.tokens, (c.parse_statement.ensures.work_unchanged.brackets, c.parse_statement.ensures.texts_after)))) c.in-Err.is)

pub returns-in-Err : goal.returns-in-Err
returns-in-Err c = let t = laws.panics-left c.loop-read.invariant.reading c.loop-read-test.true c.requires (c.parse_statement.ensures.value, (c.parse_statement.ensures.rules_after, (c.parse_statement.ensures.work_unchanged.tokens, (c.parse_statement.ensures.work_unchanged.brackets, c.parse_statement.ensures.texts_after)))) c.in-Err.is c.take_back.ensures.rules_after c.take_back.ensures.texts_after in record { same = same-then (same-then c.loop-read.invariant.same c.parse_statement.ensures.same) c.take_back.ensures.same; work_unchanged = record { tokens = c.take_back.ensures.work_unchanged.tokens ∙ t.1.1.0; brackets = c.take_back.ensures.work_unchanged.brackets ∙ t.1.1.1.0 }; value = ap Err c.behind.ensures ∙ t.0; rules_after = t.1.0; texts_after = t.1.1.1.1 }

pub returns-after-loop-read : goal.returns-after-loop-read
returns-after-loop-read c = let t : goal.returns-after-loop-read-raw c = with_work (c.loop-read.invariant.same) (laws.at-end c.loop-read.invariant.reading c.loop-read-test.false) in record { same = t.0; work_unchanged = t.1.0; value = t.1.1.0; rules_after = t.1.1.1.0; texts_after = t.1.1.1.1 }
