-- The text that is lent is the sheet's, so its rules are those that are kept.
use Rattle.rule_styles.specs.Placing.{sheet_text}
use Rattle.path_styles.specs.Path.{kept_sheet}
use Rattle.path_styles.specs.Tops.{sheet_selectors}
use Rattle.path_styles.proofs.path.Styling.merge_sheet.Goals as goal

pub merge_rules-requires : goal.merge_rules-requires
unfolding sheet_selectors sheet_text
merge_rules-requires c = record { right_tops = c.requires.right_tops }

pub returns : goal.returns
unfolding kept_sheet sheet_text
returns c = c.merge_rules.ensures
