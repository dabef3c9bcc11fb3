-- The code's test finds the word where it is one of the list.
use Rattle.std.proofs.Common.{◌∙◌, rules, tests}
use Rattle.std.proofs.lemmas.Iterator.{YieldsList-from_slice}
use Rattle.std.proofs.lemmas.Iterator.Search.{any_from_yields_List}
use Rattle.values.proofs.WordLaws as laws
use Rattle.values.proofs.words.any_of.Goals as goal

pub returns : goal.returns
returns c =
    any_from_yields_List (laws.is_word c.args.s.now) _ _ _ c.any.ensures.ran (YieldsList-from_slice c.args.words.now cc) (λ x b q k. search (rules, tests))
    ∙ laws.any-told c.args.s.now c.args.words.now
