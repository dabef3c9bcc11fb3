-- The stores are lent from behind what is kept, so that it stays.
use native.Mathlib.Omega.{arith}
use Rattle.path_styles.proofs.PathLaws as laws
use Rattle.path_styles.proofs.path.Styling.merge_late.Goals as goal

pub returns-then-self-clause-out_after : goal.returns-then-self-clause-out_after
returns-then-self-clause-out_after c = laws.late-on c.args.self.now.cascade c.args.self.now.settings _ c.if-self.true _ _ _ c.late_attributes.ensures.out_after

pub returns-then-self-clause-value : goal.returns-then-self-clause-value
returns-then-self-clause-value c = laws.fill-counted c.args.self.now.cascade c.args.self.now.settings _ c.if-self.true c.args.fill _ c.late_attributes.ensures.value

pub returns-then-self-clause-texts_after : goal.returns-then-self-clause-texts_after
returns-then-self-clause-texts_after c = laws.texts-counted c.args.self.now.cascade c.args.self.now.settings _ c.if-self.true c.args.fill _ _ c.args.self.now.kept.sheets.end (omega (arith, c.requires.for-texts)) _ c.late_attributes.ensures.texts_after

pub returns-else-self-clause-out_after : goal.returns-else-self-clause-out_after
returns-else-self-clause-out_after c = laws.late-off c.args.self.now.cascade c.args.self.now.settings _ c.if-self.false _ _

pub returns-else-self-clause-value : goal.returns-else-self-clause-value
returns-else-self-clause-value c = (laws.texts-none c.args.self.now.kept.sheets.end c.args.fill c.args.stores.now.texts.now _ (laws.contents-off c.args.self.now.cascade c.args.self.now.settings _ c.if-self.false)).0

pub returns-else-self-clause-texts_after : goal.returns-else-self-clause-texts_after
returns-else-self-clause-texts_after c = (laws.texts-none c.args.self.now.kept.sheets.end c.args.fill _ _ (laws.contents-off c.args.self.now.cascade c.args.self.now.settings _ c.if-self.false)).1
