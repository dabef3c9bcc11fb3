-- What is inherited, then the agent's rules, then the user's.
use Rattle.path_styles.specs.Path.{kept_sheets}
use Rattle.path_styles.proofs.PathLaws as laws
use Rattle.path_styles.proofs.path.Styling.begin_element.Goals as goal

pub returns : goal.returns
unfolding kept_sheets
returns c = laws.begun _ _ _ _ _ _ _ c.inherit.ensures c.merge_sheet.ensures c.merge_sheet-2.ensures
