-- The first row of the name is found, and its value decides.
use Rattle.std.proofs.Common.{◌≡◌, ◌∙◌, sym, refl, arith}
use Rattle.std.specs.List.{find, range_with_len}
use Rattle.std.proofs.lemmas.Iterator.{YieldsList-from_range}
use Rattle.std.proofs.lemmas.Iterator.Adapters.{option_map_id}
use Rattle.std.proofs.lemmas.Iterator.Search.{find_from_yields_List}
use borrow.Author.Rules.{rules}
use Rattle.matching.specs.Matches.{is_named}
use Rattle.matching.specs.Rows.{attribute_of}
use Rattle.matching.proofs.AttributeLaws.{first-answer, first_none}
use Rattle.matching.proofs.elements.Attributes.attribute_is.Goals as goal

pub returns-in_default : goal.returns-in_default
returns-in_default c =
    let found : c.find.result ≡ find (λ row. is_named c.args.name.now (attribute_of c.args.self.rows.now c.args.self.text.now row)) (range_with_len 0 c.args.self.count) =
    sym (option_map_id _) ∙ find_from_yields_List (λ row. is_named c.args.name.now (attribute_of c.args.self.rows.now c.args.self.text.now row)) _ _ _ c.find.ensures.ran (YieldsList-from_range _ _ _ refl (omega arith)) (λ x b q k. search rules) in
    first_none _ _ _ _ _ _ _ found c.in_default.is

pub returns : goal.returns
returns c =
    let found : c.find.result ≡ find (λ row. is_named c.args.name.now (attribute_of c.args.self.rows.now c.args.self.text.now row)) (range_with_len 0 c.args.self.count) =
    sym (option_map_id _) ∙ find_from_yields_List (λ row. is_named c.args.name.now (attribute_of c.args.self.rows.now c.args.self.text.now row)) _ _ _ c.find.ensures.ran (YieldsList-from_range _ _ _ refl (omega arith)) (λ x b q k. search rules) in
    first-answer _ _ _ _ _ _ _ found c.in-Some.is _ c.has_value.ensures
