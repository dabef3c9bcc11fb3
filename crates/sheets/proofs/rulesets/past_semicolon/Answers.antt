-- One byte further where a semicolon stands.
use Rattle.sheets.proofs.BlockLaws as laws
use Rattle.sheets.proofs.rulesets.past_semicolon.Goals as goal

pub returns-then-byte_is : goal.returns-then-byte_is
returns-then-byte_is c = let t : goal.returns-then-byte_is-raw c = laws.semicolon-past c.args.s.now c.args.e c.requires c.byte_is.ensures c.if-byte_is.true in record { value = t.0; upper_bound = t.1 }

pub returns-else-byte_is : goal.returns-else-byte_is
returns-else-byte_is c = let t : goal.returns-else-byte_is-raw c = laws.semicolon-none c.args.s.now c.args.e c.requires c.byte_is.ensures c.if-byte_is.false in record { value = t.0; upper_bound = t.1 }
