-- What is left to read from the byte on, into the stores as they are, leaves what the whole leaves; each turn takes a declaration behind a semicolon or ends.
use mathlib.Core.Path.{refl}
use native.Mathlib.Omega.{arith}
use Rattle.combinators.proofs.LentLaws.{same-none, same-then}
use Rattle.declarations.proofs.LeastLengths.{semicolon-there}
use Rattle.declarations.proofs.RuleTurns as laws
use Rattle.declarations.proofs.rules.more_rules.Goals as goal

pub loop-w-init : goal.loop-w-init
loop-w-init c = record { same = same-none; reading = laws.begin _ _ _ _ _ _ _ _ _ _ c.requires }

pub overflow_add-taken : goal.overflow_add-taken
overflow_add-taken c = omega (arith, semicolon-there c.args.s.now c.loop-w.taken c.byte_is.ensures c.loop-w-test.true)

pub skip_from-w-requires : goal.skip_from-w-requires
skip_from-w-requires c = omega (arith, semicolon-there c.args.s.now c.loop-w.taken c.byte_is.ensures c.loop-w-test.true)

pub overflow_mul-row : goal.overflow_mul-row
overflow_mul-row c = omega (arith, laws.rows_fit c.loop-w.invariant.reading c.requires c.byte_is.ensures c.loop-w-test.true)

pub overflow_add-row : goal.overflow_add-row
overflow_add-row c = omega (arith, laws.rows_fit c.loop-w.invariant.reading c.requires c.byte_is.ensures c.loop-w-test.true)

pub overflow_add-at : goal.overflow_add-at
overflow_add-at c = omega (arith, laws.start_fits c.loop-w.invariant.reading c.requires c.byte_is.ensures c.loop-w-test.true c.skip_from-w.ensures.value c.skip_from-w.ensures.upper_bound)

pub overflow_add-fill : goal.overflow_add-fill
overflow_add-fill c = omega (arith, laws.fill-fits c.loop-w.invariant.reading c.requires c.byte_is.ensures c.loop-w-test.true)

pub parse_declaration-requires : goal.parse_declaration-requires
parse_declaration-requires c = laws.next-room c.loop-w.invariant.reading c.requires c.byte_is.ensures c.loop-w-test.true c.skip_from-w.ensures.value c.skip_from-w.ensures.upper_bound

pub returns-in_default : goal.returns-in_default
returns-in_default c = let t : goal.returns-in_default-raw c = (same-then c.loop-w.invariant.same c.parse_declaration.ensures.same, laws.ends-none c.loop-w.invariant.reading c.requires c.byte_is.ensures c.loop-w-test.true c.skip_from-w.ensures.value c.skip_from-w.ensures.upper_bound c.parse_declaration.ensures.stores_after c.in_default.is refl) in record { same = t.0; stores_after = t.1.0; more_read = t.1.1 }

pub overflow_add-taken-in-loop-w : goal.overflow_add-taken-in-loop-w
overflow_add-taken-in-loop-w c = omega (arith, c.requires.start-bits, laws.next-within c.loop-w.invariant.reading c.requires c.byte_is.ensures c.loop-w-test.true c.skip_from-w.ensures.value c.skip_from-w.ensures.upper_bound c.parse_declaration.ensures.stores_after c.in-Some.is)

pub overflow_add-count : goal.overflow_add-count
overflow_add-count c = omega (arith, c.requires.start-bits, laws.next-within c.loop-w.invariant.reading c.requires c.byte_is.ensures c.loop-w-test.true c.skip_from-w.ensures.value c.skip_from-w.ensures.upper_bound c.parse_declaration.ensures.stores_after c.in-Some.is, laws.next_more c.loop-w.invariant.reading c.requires c.byte_is.ensures c.loop-w-test.true c.skip_from-w.ensures.value c.skip_from-w.ensures.upper_bound c.parse_declaration.ensures.stores_after c.in-Some.is, c.loop-w.invariant.reading.counted)

pub overflow_add-text : goal.overflow_add-text
overflow_add-text c = omega (arith, c.requires.start-bits, laws.next-text c.loop-w.invariant.reading c.requires c.byte_is.ensures c.loop-w-test.true c.skip_from-w.ensures.value c.skip_from-w.ensures.upper_bound c.parse_declaration.ensures.stores_after c.in-Some.is)

pub loop-w-smaller : goal.loop-w-smaller
loop-w-smaller c = omega (arith, c.requires.start-bits, laws.next-within c.loop-w.invariant.reading c.requires c.byte_is.ensures c.loop-w-test.true c.skip_from-w.ensures.value c.skip_from-w.ensures.upper_bound c.parse_declaration.ensures.stores_after c.in-Some.is, laws.next_more c.loop-w.invariant.reading c.requires c.byte_is.ensures c.loop-w-test.true c.skip_from-w.ensures.value c.skip_from-w.ensures.upper_bound c.parse_declaration.ensures.stores_after c.in-Some.is)

pub loop-w-preserved : goal.loop-w-preserved
loop-w-preserved c = record { same = same-then c.loop-w.invariant.same c.parse_declaration.ensures.same; reading = laws.goes c.loop-w.invariant.reading c.requires c.byte_is.ensures c.loop-w-test.true c.skip_from-w.ensures.value c.skip_from-w.ensures.upper_bound c.parse_declaration.ensures.stores_after c.in-Some.is }

pub returns-after-loop-w : goal.returns-after-loop-w
returns-after-loop-w c = let t : goal.returns-after-loop-w-raw c = (c.loop-w.invariant.same, laws.ends-here c.loop-w.invariant.reading c.requires c.byte_is.ensures c.loop-w-test.false refl) in record { same = t.0; stores_after = t.1.0; more_read = t.1.1 }
