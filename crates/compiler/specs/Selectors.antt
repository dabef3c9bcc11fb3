-- What a compiled sheet holds: "The compiler writes, in reading order, each selector of each rule that has a style (result 4), with all styles of its
-- rule, and no other"; "Agent selectors precede user, user author". The crate gathers the same list for each origin (`do_add_css` of src/css.rs).
use Rattle.std.specs.Prelude.{ℕ, List, [], ◌∷◌, ◌++◌, map}
use Rattle.syntax.specs.Selector.{Selector, RuleSet}
use Rattle.syntax.specs.Style.{agent_origin, user_origin, author_origin, StyleDecl}
use Rattle.declarations.specs.Styles.{styles_of}
use Rattle.compiled.specs.Sheet.{CompiledSelector}

-- a selector of a rule that has these styles
unfoldable pub compiled_selector : ℕ → List StyleDecl → Selector → CompiledSelector StyleDecl
compiled_selector origin ds s = record { origin = origin; pseudo = s.pseudo; components = s.components; styles = ds }

-- the selectors of a rule: none where it has no style
unfoldable pub styled_selectors : ℕ → List StyleDecl → List Selector → List (CompiledSelector StyleDecl)
styled_selectors origin [] ss = []
styled_selectors origin (d ∷ ds) ss = map (compiled_selector origin (d ∷ ds)) ss

unfoldable pub rule_selectors : ℕ → RuleSet → List (CompiledSelector StyleDecl)
rule_selectors origin r = styled_selectors origin (styles_of r.declarations) r.selectors

-- those of a sheet
unfoldable pub sheet_selectors : ℕ → List RuleSet → List (CompiledSelector StyleDecl)
sheet_selectors origin [] = []
sheet_selectors origin (r ∷ rs) = rule_selectors origin r ++ sheet_selectors origin rs

-- those of the three sheets
unfoldable pub selectors_of : List RuleSet → List RuleSet → List RuleSet → List (CompiledSelector StyleDecl)
selectors_of agent user author = sheet_selectors agent_origin agent ++ (sheet_selectors user_origin user ++ sheet_selectors author_origin author)
