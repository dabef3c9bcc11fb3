-- Each row is asked what the definition asks.
use Rattle.std.proofs.Common.{◌∙◌, refl, arith}
use Rattle.std.proofs.lemmas.Iterator.{YieldsList-from_range}
use Rattle.std.proofs.lemmas.Iterator.Search.{any_from_yields_List}
use borrow.Author.Rules.{rules}
use Rattle.matching.specs.Matches.{is_named}
use Rattle.matching.specs.Rows.{attribute_of}
use Rattle.matching.proofs.AttributeLaws.{any-row}
use Rattle.matching.proofs.elements.Attributes.has_attribute.Goals as goal

pub returns : goal.returns
returns c =
    any_from_yields_List (λ row. is_named c.args.name.now (attribute_of c.args.self.rows.now c.args.self.text.now row)) _ _ _ c.any.ensures.ran (YieldsList-from_range _ _ c.args.self.count refl (omega arith)) (λ x b q k. search rules)
    ∙ any-row _ _ (is_named c.args.name.now) _ _
