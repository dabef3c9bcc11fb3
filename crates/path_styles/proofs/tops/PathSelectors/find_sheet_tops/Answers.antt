-- The text that is lent is the sheet's, so its rules are those of the sheet.
use Rattle.rule_styles.specs.Placing.{sheet_text}
use Rattle.path_styles.specs.Tops.{sheet_selectors}
use Rattle.path_styles.proofs.tops.PathSelectors.find_sheet_tops.Goals as goal

pub find_rules_tops-requires : goal.find_rules_tops-requires
unfolding sheet_selectors sheet_text
find_rules_tops-requires c = c.requires.tops_room

pub returns : goal.returns
unfolding sheet_selectors sheet_text
returns c = record { tokens_after = c.find_rules_tops.ensures.tokens_after; value = c.find_rules_tops.ensures.value }
