-- The calls over the tokens' numbers stop at the first that stands for something.
use Rattle.std.proofs.Common.{rules}
use Rattle.std.proofs.iter.runs.Sources.{range_runs}
use Rattle.values.specs.Words.{entries}
use Rattle.values.proofs.KeywordLaws as laws
use Rattle.values.proofs.keywords.first_word.Goals as goal

pub returns : goal.returns
returns g c =
    rw (← c.count.ensures)
    (laws.run-found (entries c.args.table.now) c.args.tokens.rows.now c.args.tokens.store.now _ _ _ _ (λ p e. rw e at (range_runs p p.seen)) (λ i r q k. search rules)
    _ c.find_map.ensures.runs)
