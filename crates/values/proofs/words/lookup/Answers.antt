-- The first row that has the word is found, and what it stands for taken.
use Rattle.std.proofs.Common.{◌≡◌, ◌∙◌, ap, ℕ, List, option_map, Bor, rules, tests}
use Rattle.std.proofs.lemmas.Iterator.{YieldsList-from_slice}
use Rattle.std.proofs.lemmas.Iterator.Search.{find_from_yields_List}
use Rattle.values.proofs.WordLaws as laws
use Rattle.values.proofs.words.lookup.Goals as goal

pub returns : goal.returns
returns g c =
    let found = find_from_yields_List (laws.is_row {A = g.row.T.Denot} c.args.s.now) _ _ c.find.result c.find.ensures.ran (YieldsList-from_slice c.args.table.now cc) (λ x b q k. search (rules, tests)) in
    let taken : c.map.result ≡ option_map (λ (r : Bor (List ℕ) × g.row.T.Denot). r.1) (option_map (λ (r : Bor (Bor (List ℕ) × g.row.T.Denot)). r.now) c.find.result) = search (rules, tests) in
    taken ∙ ap (option_map (λ (r : Bor (List ℕ) × g.row.T.Denot). r.1)) found ∙ laws.row-found c.args.s.now c.args.table.now
