-- What is left to read from the byte on, with the brackets awaited and into the stores as they are, leaves what the whole leaves; each turn takes a token,
-- which takes a byte.
use mathlib.Core.Path.{refl}
use native.Mathlib.Omega.{arith}
use Rattle.combinators.proofs.LentLaws.{same-none}
use Rattle.values.proofs.Turns as laws
use Rattle.values.proofs.statements.parse_to_end_of_statement.Goals as goal

pub loop-start-init : goal.loop-start-init
loop-start-init c = record { same = same-none; rules = refl; running = laws.begin _ _ _ _ _ _ }

pub overflow_add-at : goal.overflow_add-at
overflow_add-at c = omega (arith, laws.place-fits c.loop-start.invariant.running c.requires)

pub overflow_add-fill : goal.overflow_add-fill
overflow_add-fill c = omega (arith, laws.place-fits c.loop-start.invariant.running c.requires)

pub returns-in_default : goal.returns-in_default
returns-in_default c = let t : goal.returns-in_default-raw c = (record { rules = c.loop-start.invariant.same.rules; tokens = c.loop-start.invariant.same.tokens; brackets = c.loop-start.invariant.same.brackets; texts = c.loop-start.invariant.same.texts }, (c.loop-start.invariant.rules, laws.ends-none c.loop-start.invariant.running c.parse_token.ensures.store_after _ c.parse_token.ensures.value c.in_default.is)) in record { same = t.0; rules_unchanged = t.1.0; work_after = t.1.1.0; bounds = t.1.1.1 }

pub overflow_add-byte : goal.overflow_add-byte
overflow_add-byte c = omega (arith, laws.byte_fits c.loop-start.invariant.running c.parse_token.ensures.value c.in-Some.is c.requires)

pub text_length-length-requires : goal.text_length-length-requires
text_length-length-requires c = omega (arith, laws.text-fits c.loop-start.invariant.running c.parse_token.ensures.value c.in-Some.is c.requires)

pub step_at-requires : goal.step_at-requires
step_at-requires c = laws.bracket-fits c.loop-start.invariant.running c.parse_token.ensures.value c.in-Some.is c.requires

pub returns-in-Before : goal.returns-in-Before
returns-in-Before c = let t : goal.returns-in-Before-raw c = (record { rules = c.loop-start.invariant.same.rules; tokens = c.loop-start.invariant.same.tokens; brackets = c.loop-start.invariant.same.brackets; texts = c.loop-start.invariant.same.texts }, (c.loop-start.invariant.rules, laws.ends-before c.loop-start.invariant.running c.parse_token.ensures.value c.in-Some.is c.parse_token.ensures.store_after (laws.moved_as _ _ _ _ _ _ _ c.step_at.ensures c.in-Before.is))) in record { same = t.0; rules_unchanged = t.1.0; work_after = t.1.1.0; bounds = t.1.1.1 }

pub returns-in-Wrong : goal.returns-in-Wrong
returns-in-Wrong c = let t : goal.returns-in-Wrong-raw c = (record { rules = c.loop-start.invariant.same.rules; tokens = c.loop-start.invariant.same.tokens; brackets = c.loop-start.invariant.same.brackets; texts = c.loop-start.invariant.same.texts }, (c.loop-start.invariant.rules, laws.ends-wrong c.loop-start.invariant.running c.parse_token.ensures.value c.in-Some.is c.parse_token.ensures.store_after (laws.moved_as _ _ _ _ _ _ _ c.step_at.ensures c.in-Wrong.is))) in record { same = t.0; rules_unchanged = t.1.0; work_after = t.1.1.0; bounds = t.1.1.1 }

pub overflow_add-result : goal.overflow_add-result
overflow_add-result c = omega (arith, laws.taken-fits c.loop-start.invariant.running c.parse_token.ensures.value c.in-Some.is c.requires)

pub overflow_add-result-in-Behind : goal.overflow_add-result-in-Behind
overflow_add-result-in-Behind c = omega (arith, laws.count_fits c.loop-start.invariant.running c.parse_token.ensures.value c.in-Some.is c.requires)

pub overflow_add-result-in-Behind-2 : goal.overflow_add-result-in-Behind-2
overflow_add-result-in-Behind-2 c = omega (arith, c.text_length-length.ensures, laws.text-fits c.loop-start.invariant.running c.parse_token.ensures.value c.in-Some.is c.requires)

pub returns-in-Behind : goal.returns-in-Behind
returns-in-Behind c = let t : goal.returns-in-Behind-raw c = (
  record { rules = c.loop-start.invariant.same.rules; tokens = c.loop-start.invariant.same.tokens; brackets = c.loop-start.invariant.same.brackets; texts = c.loop-start.invariant.same.texts },
  (
    c.loop-start.invariant.rules,
    laws.ends-behind c.loop-start.invariant.running c.parse_token.ensures.value c.in-Some.is c.parse_token.ensures.store_after c.put_token.ensures c.text_length-length.ensures
        (laws.moved_as _ _ _ _ _ _ _ c.step_at.ensures c.in-Behind.is),
  ),
) in record { same = t.0; rules_unchanged = t.1.0; work_after = t.1.1.0; bounds = t.1.1.1 }

pub overflow_add-taken : goal.overflow_add-taken
overflow_add-taken c = omega (arith, laws.taken-fits c.loop-start.invariant.running c.parse_token.ensures.value c.in-Some.is c.requires)

pub overflow_add-count : goal.overflow_add-count
overflow_add-count c = omega (arith, laws.count_fits c.loop-start.invariant.running c.parse_token.ensures.value c.in-Some.is c.requires)

pub overflow_add-text : goal.overflow_add-text
overflow_add-text c = omega (arith, c.text_length-length.ensures, laws.text-fits c.loop-start.invariant.running c.parse_token.ensures.value c.in-Some.is c.requires)

pub loop-start-smaller : goal.loop-start-smaller
loop-start-smaller c = omega (arith, laws.within_text c.loop-start.invariant.running c.parse_token.ensures.value c.in-Some.is, laws.some c.loop-start.invariant.running c.parse_token.ensures.value c.in-Some.is)

pub loop-start-preserved : goal.loop-start-preserved
loop-start-preserved c = record {
  same = record { rules = c.loop-start.invariant.same.rules; tokens = c.loop-start.invariant.same.tokens; brackets = c.loop-start.invariant.same.brackets; texts = c.loop-start.invariant.same.texts };
  rules = c.loop-start.invariant.rules;
  running = laws.goes c.loop-start.invariant.running c.parse_token.ensures.value c.in-Some.is c.parse_token.ensures.store_after c.put_token-place.ensures c.text_length-length.ensures
      (laws.moved_as _ _ _ _ _ _ _ c.step_at.ensures c.in-Next.is) c.put_token-place.auto.rows c.step_at.auto.brackets
      c.parse_token.auto.store;
}
