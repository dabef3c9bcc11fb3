-- The first number of the range that fails is found.
use Rattle.std.specs.Prelude.{not}
use Rattle.std.proofs.Common.{◌∙◌, sym, refl, arith}
use Rattle.std.proofs.lemmas.Iterator.{YieldsList-from_range}
use Rattle.std.proofs.lemmas.Iterator.Adapters.{option_map_id}
use Rattle.std.proofs.lemmas.Iterator.Search.{find_from_yields_List}
use borrow.Author.Rules.{rules}
use Rattle.page.specs.Accepted.{texts_right, first_bad_text}
use Rattle.page.proofs.FirstFault.{fault-found}
use Rattle.page.proofs.texts.first_bad_text.Goals as goal

pub returns : goal.returns
unfolding first_bad_text
returns c =
    sym (option_map_id _)
    ∙ find_from_yields_List (λ r. not (texts_right c.args.page.nodes.now c.args.page.attributes.now c.args.page.text.now r)) _ _ _ c.find.ensures.ran (YieldsList-from_range _ _ _ refl (omega (arith, c.node_count.ensures))) (λ x b q k. search rules)
    ∙ fault-found _ _ _
