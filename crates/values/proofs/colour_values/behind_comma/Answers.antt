-- The calls over the tokens' numbers, from the last on, stop at the last comma.
use Rattle.std.proofs.Common.{rules}
use Rattle.std.proofs.iter.runs.Sources.{range_runs_back}
use Rattle.values.proofs.ColourValues as laws
use Rattle.values.proofs.colour_values.behind_comma.Goals as goal

pub returns : goal.returns
returns c =
    let found = laws.run-last c.args.tokens.rows.now c.count.result _ _ _ (λ p e. rw e at (range_runs_back p p.seen)) (λ a b q k. search rules) (λ x b q k. search rules) _ c.rfind.ensures.runs in
    let t = laws.run-told c.args.tokens.rows.now _ _ _ (λ i h. search rules) c.map_or.ensures found in
    record { value = rw (← c.count.ensures) t.0; upper_bound = rw (← c.count.ensures) t.1 }
