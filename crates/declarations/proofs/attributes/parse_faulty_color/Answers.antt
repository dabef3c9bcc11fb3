-- White_Space at the start is passed; at the end it may stay, since where it is among the pairs they are none.
use Rattle.std.proofs.Common.{◌∙◌}
use Rattle.declarations.proofs.TrimEnd as laws
use Rattle.declarations.proofs.attributes.parse_faulty_color.Goals as goal

pub returns-in_err-first_chunk : goal.returns-in_err-first_chunk
returns-in_err-first_chunk c = c.from_residual.ensures ∙ laws.trimmed-short _ _ c.trim_start.ensures.value c.in_err-first_chunk.ensures.cases

pub returns : goal.returns
returns c = laws.trimmed-long _ _ c.trim_start.ensures.value _ c.in_ok-first_chunk.ensures.cases _ c.pair_colour.ensures
