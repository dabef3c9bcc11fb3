-- White space, a semicolon or none, and white space are passed.
use Rattle.sheets.proofs.BlockLaws as laws
use Rattle.sheets.proofs.rulesets.before_end.Goals as goal

pub returns : goal.returns
returns c = record { value = laws.end_is c.args.s.now c.args.n c.skip_from.ensures.value c.past_semicolon.ensures.value c.skip_from-2.ensures.value; upper_bound = c.skip_from-2.ensures.upper_bound; lower_bound = laws.end-behind c.args.s.now c.args.n c.skip_from.ensures.value c.past_semicolon.ensures.value c.skip_from-2.ensures.value }
