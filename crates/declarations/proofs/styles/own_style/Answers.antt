-- Each kind by its own test, as the definition splits declarations.
use Rattle.combinators.proofs.Rules.{cases}
use Rattle.syntax.specs.Layout.{flag_of}
use Rattle.declarations.specs.StyleNumbers.{own_numbers}
use Rattle.declarations.proofs.styles.own_style.Goals as goal
use Rattle.declarations.proofs.styles.own_style.Goals.{in-1, in-2, in-7, in-8, in-9, in-11}

pub returns-in_default : goal.returns-in_default
unfolding own_numbers flag_of
returns-in_default c = search cases depth 16

pub returns-in_default-2 : goal.returns-in_default-2
unfolding own_numbers flag_of
returns-in_default-2 c = search cases depth 16

pub returns : goal.returns
unfolding own_numbers flag_of
returns c = elim c.match-kind.branch [
  | in-1 w ↦ rw w.slot-is (search cases)
  | in-2 w ↦ rw w.slot-is (search cases)
  | in-7 w ↦ rw (w.slot-is, w.no_value.ensures) (search cases)
  | in-8 w ↦ rw w.slot-is (search cases)
  | in-9 w ↦ rw w.slot-is (search cases)
  | in-11 w ↦ rw w.slot-is (search cases)
]
