-- The row of the parent, by the same function, then that of the element; at the document, which has no row of its own, the empty style.
use Rattle.path_styles.proofs.path.Styling.+style_path.Given as goal

abbrev pub decreases-style_path : goal.decreases-style_path
decreases-style_path l = l.element.row
