-- The numbers of the row are those of the declaration.
use Rattle.declarations.proofs.Styling as laws
use Rattle.declarations.proofs.styles.own_style_at.Goals as goal

pub returns : goal.returns
returns c = let g = c.args in
    laws.own_at g.rows.now g.at _ _ c.number_at-4.ensures c.number_at.ensures _ _ _ c.number_at-5.ensures c.number_at-2.ensures c.number_at-3.ensures _ c.own_style.ensures
