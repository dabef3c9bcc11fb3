-- A style for another slot changes nothing; one for the slot is the last of its kind.
use Rattle.combinators.proofs.Rules.{or-gives}
use Rattle.rule_styles.proofs.DecidingRows.{sifted-away, sifted-important, sifted-normal, or-first}
use Rattle.rule_styles.proofs.deciding.Sifted.sift.Goals as goal

pub returns-then-style-slot : goal.returns-then-style-slot
returns-then-style-slot c = search sifted-away

pub returns-then-self : goal.returns-then-self
returns-then-self c = let s = c.args.self in sifted-important s _ c.args.style c.if-style-slot.false c.if-style.true _ (or-first s.behind _ c.if-self.true)

pub returns-else-self : goal.returns-else-self
returns-else-self c = let s = c.args.self in sifted-important s _ c.args.style c.if-style-slot.false c.if-style.true _ (or-gives s.behind _ _ c.if-self.false c.is_some.ensures)

pub returns-else-style : goal.returns-else-style
returns-else-style c = search sifted-normal
