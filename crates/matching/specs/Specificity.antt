-- How specific a selector is: `Selector::specificity` of src/css.rs. Classes, attributes and nth-child count together.
use Rattle.std.specs.Prelude.{ℕ, List, [], ◌∷◌, ◌≡◌, refl, pos}
use Rattle.combinators.specs.Choice.{pick, or, is}
use Rattle.characters.specs.Literal.{text}
use Rattle.syntax.specs.RuleLayout.{element_kind, hash_kind}
use Rattle.syntax.specs.Selector.{Component, star, class, element, hash, child, descendant, nth, attribute, attribute_equal}
use Rattle.cascade.specs.Specificity.{specificity_of, no_specificity, sum}
use Rattle.cascade.specs.declared.specificity.Specificity.{Specificity}

-- what a component adds
unfoldable pub added : Component → Specificity
added (class c) = specificity_of 0 1 0
added (attribute n) = specificity_of 0 1 0
added (attribute_equal n v) = specificity_of 0 1 0
added (element n) = specificity_of 0 0 1
added (hash h) = specificity_of 1 0 0
added (nth a b) = specificity_of 0 1 0
added _ = no_specificity

-- the same of one that is no star and no combinator, by its kind
unfoldable pub name_added : ℕ → Specificity
name_added kind = pick (is kind element_kind) (specificity_of 0 0 1) (pick (is kind hash_kind) (specificity_of 1 0 0) (specificity_of 0 1 0))

unfoldable pub specificity : List Component → Specificity
specificity [] = no_specificity
specificity (c ∷ cs) = sum (added c) (specificity cs)

-- `#a .b[c]:nth-child(2) > p *`
test-specificity : specificity (star ∷ element (text "p") ∷ child ∷ nth (pos 0) (pos 2) ∷ attribute (text "c") ∷ class (text "b") ∷ descendant ∷ hash (text "a") ∷ [])
    ≡ specificity_of 1 3 1
unfolding specificity added sum specificity_of no_specificity or
test-specificity = refl
