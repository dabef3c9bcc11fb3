-- The lengths of the strings so far, with what is left from the token on, give the whole; a token that is no string ends it. The texts are disjoint, so the sum
-- fits.
use Rattle.values.specs.View.{token_count}
use Rattle.values.proofs.ContentLaws as laws
use Rattle.values.proofs.contents.parse_content.Given as goal

abbrev pub invariant-loop-i : goal.invariant-loop-i
invariant-loop-i l = laws.Joining l.tokens.rows.now l.tokens.store.now (token_count l.tokens.rows.now) l.i l.length
