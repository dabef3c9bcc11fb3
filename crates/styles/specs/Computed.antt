-- The style of an element (results 6 and 7): what the rules of three sheets and the attributes say of each element of its path, cascaded from the top
-- (`computed_style` of src/css.rs). It holds the styles themselves, a content as its text, each with the byte where its declaration starts.
use Rattle.std.specs.Prelude.{List, [], ◌∷◌}
use Rattle.syntax.specs.Selector.{RuleSet}
use Rattle.syntax.specs.Style.{StyleValue}
use Rattle.cascade.specs.Record.{ComputedStyle, empty_style, Sources, cascade_by}
use Rattle.cascade.specs.declared.slots.Cascade.{Cascade}
use Rattle.page.specs.Path.{Path}
use Rattle.styles.specs.declared.settings.Settings.{Settings}
use Rattle.styles.specs.Said.{Rules, sources_from, meant_rules, counted_attributes, attributes_say}

-- ---- a cascade down a path, from what is said of each of its elements, the asked one first: "It starts from the parent's record (an empty one below row
-- 0), agent rules before user before author"
unfoldable pub cascaded : {A : Type 0} → Cascade → List (Sources A) → ComputedStyle A
cascaded c [] = empty_style
cascaded c (x ∷ above) = cascade_by c (cascaded c above) x

-- ---- what is said of each element of a path
unfoldable pub sources_along : Rules RuleSet → Settings → Path → List (Sources StyleValue)
sources_along rules settings [] = []
sources_along rules settings (e ∷ up) =
    sources_from (meant_rules rules) (attributes_say (counted_attributes settings e)) (e ∷ up) ∷ sources_along rules settings up

-- ---- the computed style of an element by its path: in the crate's cascade (result 6), and in the book order (result 7)
unfoldable pub computed_style : Cascade → Rules RuleSet → Settings → Path → ComputedStyle StyleValue
computed_style c rules settings p = cascaded c (sources_along rules settings p)
