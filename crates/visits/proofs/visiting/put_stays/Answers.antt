-- The two places are stored and behind them the flags: the mark where the first compound is the leftmost, else those of the compounds behind it.
use Rattle.visits.proofs.CodeVisitLaws as laws
use Rattle.visits.proofs.visiting.put_stays.Goals as goal

pub returns-in-Leftmost : goal.returns-in-Leftmost
returns-in-Leftmost c = laws.stays-marked _ _ _ _ _ _ _ _ _ _ c.put_places.ensures _ c.in-Leftmost.is c.put_mark.ensures

pub returns-in-Others : goal.returns-in-Others
returns-in-Others c = laws.stays-others _ _ _ _ _ _ _ _ _ _ c.put_places.ensures _ c.in-Others.is _ c.saturating_sub-limit.ensures c.sweep_rest.ensures
