-- The table of the code has the properties, in their places.
use Rattle.std.proofs.Common.{None, ◌∙◌, refl}
use Rattle.characters.specs.Literal.{text}
use Rattle.characters.specs.Utf8.{utf8, continuation}
use Rattle.combinators.specs.Choice.{pick}
use Rattle.values.specs.Words.{row_at, on_found}
use Rattle.values.specs.DeclAnswer.{place_of, decl_at}
use Rattle.values.proofs.WordLaws.{mapped}
use Rattle.values.proofs.DeclLaws as laws
use Rattle.values.proofs.properties.decl_of.Goals as goal

pub returns-in_default : goal.returns-in_default
unfolding text utf8 continuation pick mapped place_of decl_at row_at on_found
returns-in_default c = laws.decl-told _ refl _ _ _ c.lookup.ensures None (rw c.in_default.is refl)

pub returns : goal.returns
unfolding text utf8 continuation pick mapped place_of decl_at row_at on_found
returns c = c.unwrap_or.ensures ∙ laws.decl-told _ refl _ _ _ c.lookup.ensures c.decl_at.result (rw c.in-Some.is (c.decl_at.ensures _))
