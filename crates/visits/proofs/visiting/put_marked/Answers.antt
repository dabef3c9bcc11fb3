-- The four stores stand one behind the other.
use native.Mathlib.Omega.{arith}
use borrow.Author.Rules.{rules}
use Rattle.visits.proofs.CodeVisitLaws as laws
use Rattle.visits.proofs.visiting.put_marked.Goals as goal

pub returns : goal.returns
returns g c = laws.marked-stored _ _ _ _ _ _ _ _ _ _ c.put_pair_there.ensures c.put_pair_there-2.ensures (laws.zeros-stored _ _ _ (omega (arith, c.requires, c.put_pair_there.auto.part, c.put_pair_there-2.auto.part)) _ (c.fill.ensures.after (search rules))) c.put_mark_there.ensures
