-- A block with a mark that the parent's part holds whole has room in the own one too; its first compound is the one that the mark says. Any other goes the longer way.
use native.Mathlib.Omega.{arith}
use Rattle.std.proofs.lemmas.Bool.Decides.{nat_tests}
use Rattle.visits.proofs.CodeVisitLaws as laws
use Rattle.visits.proofs.visiting.visit.Goals as goal

pub returns : goal.returns
returns c = let e = c.is_empty.ensures in let m = c.in-Some.ensures in let t = laws.visit-marked _ _ _ _ _ _ m (grind (arith, nat_tests)) _ _ (c.visit_marked-matched.ensures.value, c.visit_marked-matched.ensures.own_after) in record { matched_value = t.0; own_after = t.1; next_value = m.next; next_lt_pair_limit = m.next_low }
