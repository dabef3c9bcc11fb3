-- The places are those of the parent's part, and the first compound begins the sweep: what is told by it is what the visit tells. Of no bytes there is no compound.
use native.Mathlib.Omega.{arith}
use Rattle.std.proofs.lemmas.Bool.Decides.{nat_tests}
use Rattle.visits.proofs.CodeVisitLaws as laws
use Rattle.visits.proofs.visiting.visit_any.Goals as goal

pub returns-then-not-is_empty : goal.returns-then-not-is_empty
returns-then-not-is_empty c = let e = c.is_empty.ensures in let t = laws.visit-by _ _ _ _ _ _ c.pair_at-next.ensures.value _ c.pair_at-awaited.ensures.value _ (grind (arith, nat_tests)) _ c.sweep_one-one.ensures _ (c.visit_swept-matched.ensures.value, c.visit_swept-matched.ensures.own_after) in record { matched_value = t.0; own_after = t.1; next_value = c.pair_at-next.ensures.value; next_lt_pair_limit = c.pair_at-next.ensures.upper_bound }

pub returns : goal.returns
returns c = let e = c.is_empty.ensures in let t = laws.visit-none _ _ _ _ _ _ c.pair_at-next.ensures.value _ c.pair_at-awaited.ensures.value _ (grind (arith, nat_tests)) c.put_places.ensures in record { matched_value = t.0; own_after = t.1; next_value = c.pair_at-next.ensures.value; next_lt_pair_limit = c.pair_at-next.ensures.upper_bound }
