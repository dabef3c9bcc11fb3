-- The rows of the components are asked one by one.
use mathlib.Core.Path.{refl, ◌∙◌}
use native.Mathlib.Omega.{arith}
use lib.Dec.{eqb}
use Rattle.std.proofs.lemmas.Iterator.{YieldsList-from_range}
use Rattle.std.proofs.lemmas.Iterator.Search.{any_from_yields_List}
use borrow.Author.Rules.{rules}
use Rattle.syntax.specs.RuleLayout.{descendant_kind, component_kind_at}
use Rattle.matching.specs.Rows.{component_number}
use Rattle.matching.proofs.NumberLaws.{any-descendant}
use Rattle.matching.proofs.topmost.has_descendant.Goals as goal

pub returns : goal.returns
returns c =
    any_from_yields_List (λ i. eqb (component_number c.args.selector.components.now i component_kind_at) descendant_kind) _ _ _ c.any.ensures.ran (YieldsList-from_range _ _ c.args.selector.left refl (omega arith)) (λ x b q k. search rules)
    ∙ any-descendant _ _ _
