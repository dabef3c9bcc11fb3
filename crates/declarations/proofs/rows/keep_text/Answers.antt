-- The text of the declaration is moved down over its name, and what lay behind it is wiped.
use Rattle.declarations.proofs.RowLaws as laws
use Rattle.declarations.proofs.rows.keep_text.Goals as goal

pub returns : goal.returns
returns c = laws.kept-left _ _ _ _ _ c.requires _ c.shift_of.ensures _ _ c.move_down.ensures c.fill_part.ensures
