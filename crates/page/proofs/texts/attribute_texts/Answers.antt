-- The rows of the range are asked one by one.
use Rattle.std.proofs.Common.{◌∙◌, refl, arith}
use Rattle.std.proofs.lemmas.Iterator.{YieldsList-from_range}
use Rattle.std.proofs.lemmas.Iterator.Search.{all_from_yields_List}
use borrow.Author.Rules.{rules}
use Rattle.page.specs.Accepted.{attribute_text_right}
use Rattle.page.proofs.TextLaws as laws
use Rattle.page.proofs.texts.attribute_texts.Goals as goal

pub returns : goal.returns
returns c =
    all_from_yields_List (attribute_text_right c.args.page.attributes.now c.args.page.text.now) _ _ _ c.all.ensures.ran (YieldsList-from_range _ _ _ refl (omega arith)) (λ x b q k. search rules)
    ∙ laws.all-texts _ _ _ _
