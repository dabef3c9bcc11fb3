-- The stores are lent from behind what is kept, so that it stays.
use native.Mathlib.Omega.{arith}
use Rattle.path_styles.proofs.PathLaws as laws
use Rattle.path_styles.proofs.path.Styling.merge_early.Goals as goal

pub returns-then-self-clause-by_index : goal.returns-then-self-clause-by_index
returns-then-self-clause-by_index c = laws.early-on c.args.self.now.cascade c.args.self.now.settings _ c.if-self.true _ _ c.early_attributes.ensures.by_index

pub returns-then-self-clause-texts_unchanged : goal.returns-then-self-clause-texts_unchanged
returns-then-self-clause-texts_unchanged c = laws.part_same _ c.args.self.now.kept.sheets.end (omega (arith, c.requires.for-texts)) c.args.fill _ c.early_attributes.ensures.texts_unchanged

pub returns-else-self-clause-by_index : goal.returns-else-self-clause-by_index
returns-else-self-clause-by_index c = laws.early-off c.args.self.now.cascade c.args.self.now.settings _ c.if-self.false _
