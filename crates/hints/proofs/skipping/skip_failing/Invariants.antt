-- Each turn copies one block that stays; what is left has the result of the whole.
use Rattle.hints.proofs.CodeSkipLaws as laws
use Rattle.hints.proofs.skipping.skip_failing.Given as goal

abbrev pub invariant-loop-behind : goal.invariant-loop-behind
invariant-loop-behind l = laws.Skipping l.row.compiled.now l.hint l.row.above.now l.initial.own l.first l.count l.own l.place l.behind
