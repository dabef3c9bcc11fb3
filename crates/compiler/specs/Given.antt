-- What a rule gives each of its selectors.
use Rattle.std.specs.Prelude.{List}
use Rattle.syntax.specs.Layout.{styles_at}
use Rattle.syntax.specs.Style.{StyleDecl}
use Rattle.compiler.specs.declared.lent.Given.{Given}

-- the styles of its rows
abbrev pub given_styles : Given → List StyleDecl
given_styles g = styles_at g.styles.numbers.now g.styles.texts.now g.count
