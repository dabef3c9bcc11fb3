-- The components that are lent are those of the selector.
use Rattle.path_styles.proofs.TopsLaws.{lent-components}
use Rattle.path_styles.proofs.tops.selector_at.Goals as goal

pub returns-clause-components_value : goal.returns-clause-components_value
returns-clause-components_value c = lent-components c.args.texts.now c.args.rows.now c.args.at _ c.forward-behind_head.result c.number_at.ensures c.forward-behind_head.ensures.rows_value
