-- What is read is a scalar value, so each number that is read is a character.
use Rattle.std.proofs.Common.{rules, ◌≡◌, sym, Some}
use Rattle.combinators.specs.Choice.{pick, is, within, and}
use Rattle.characters.specs.Utf8.{scalar_of, scalar_by}
use Rattle.characters.proofs.RoundTrip.{never-read}
use Rattle.characters.proofs.utf8.scalar_at.Goals as goal

pub returns-in_err-from_u32 : goal.returns-in_err-from_u32
unfolding scalar_of scalar_by pick is within and
returns-in_err-from_u32 c =
    let read : Some c.in_ok-read.read ≡ scalar_of c.args.s.now = search rules in
    absurd (never-read c.args.s.now _ _ (sym read) c.in_err-from_u32.ensures.cases)
