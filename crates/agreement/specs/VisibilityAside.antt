-- S-9: "The crate has no such slot, so the comparison leaves it aside, and a pseudo record that only this slot makes present counts as absent there." What is compared with
-- the crate is the style of the same sheets and attributes without their declarations of `visibility`; the laws are those of proofs/VisibilityAside.antt.
use Rattle.std.specs.Prelude.{ℕ, zero, suc, ◌<◌, Bool, true, false, List, [], ◌∷◌, ◌++◌, map, ◌≡◌, get_or}
use Rattle.combinators.specs.Choice.{pick, or, is}
use Rattle.characters.specs.Literal.{text}
use Rattle.syntax.specs.Declaration.{Declaration}
use Rattle.syntax.specs.Layout.{declaration_kind, visibility_kind, visibility_slot, declaration_row}
use Rattle.syntax.specs.Selector.{RuleSet}
use Rattle.syntax.specs.Style.{StyleDecl, StyleValue}
use Rattle.declarations.specs.Rules.{declarations_of}
use Rattle.declarations.specs.Styles.{styles_of}
use Rattle.cascade.specs.Slot.{Slot, empty, held}
use Rattle.cascade.specs.Record.{record_count, main_record, record_in, slot_in, ComputedStyle, AttributeStyle, Sources}
use Rattle.cascade.specs.declared.slots.Cascade.TheVariants.{Crate}
use Rattle.page.specs.Path.{Attribute, Path}
use Rattle.matching.specs.Matches.{is_named}
use Rattle.styles.specs.declared.settings.Settings.{Settings}
use Rattle.styles.specs.Said.{Rules, attribute_styles, attribute_style, sources_from, meant, meant_rules, counted_attributes}
use Rattle.styles.specs.Computed.{cascaded, computed_style}

-- ---- what was read, without the declarations of `visibility` that are known: those of which the rows have that kind
unfoldable pub is_visibility : Declaration → Bool
is_visibility d = is (get_or (declaration_row 0 d) declaration_kind 0) visibility_kind

unfoldable pub without_visibility : List Declaration → List Declaration
without_visibility [] = []
without_visibility (d ∷ ds) = pick (is_visibility d) [] (d ∷ []) ++ without_visibility ds

unfoldable pub rule_without : RuleSet → RuleSet
rule_without r = record { selectors = r.selectors; declarations = without_visibility r.declarations; start = r.start }

unfoldable pub rules_without : Rules RuleSet → Rules RuleSet
rules_without rules = record { agent = map rule_without rules.agent; user = map rule_without rules.user; author = map rule_without rules.author }

-- of a `style` attribute the styles of what is left; `color` and `bgcolor` declare no visibility
unfoldable pub attribute_styles_without : Attribute → List StyleDecl
attribute_styles_without a = pick (is_named (text "style") a) (styles_of (without_visibility (declarations_of a.value).declarations)) (attribute_styles a)

unfoldable pub attributes_say_without : List Attribute → List (AttributeStyle StyleValue)
attributes_say_without [] = []
attributes_say_without (a ∷ others) = map (attribute_style (is_named (text "style") a)) (map meant (attribute_styles_without a)) ++ attributes_say_without others

-- ---- the style in the crate's cascade that is computed from that
unfoldable pub sources_without : Rules RuleSet → Settings → Path → List (Sources StyleValue)
sources_without rules settings [] = []
sources_without rules settings (e ∷ up) =
    sources_from (meant_rules (rules_without rules)) (attributes_say_without (counted_attributes settings e)) (e ∷ up) ∷ sources_without rules settings up

unfoldable pub style_without : Rules RuleSet → Settings → Path → ComputedStyle StyleValue
style_without rules settings p = cascaded Crate (sources_without rules settings p)

-- ---- whether one of the first n slots of a record is filled
unfoldable pub is_held : {A : Type 0} → Slot A → Bool
is_held empty = false
is_held (held c) = true

unfoldable pub one_held : {A : Type 0} → ComputedStyle A → ℕ → ℕ → Bool
one_held s r zero = false
one_held s r (suc n) = or (is_held (slot_in s r n)) (one_held s r n)

-- what is left aside: of the computed style, the slots before that of visibility are those of the style without it, and one of them is filled in a pseudo record exactly if
-- that style has this record
pub record VisibilityAside (rules : Rules RuleSet) (settings : Settings) (p : Path) : Type 0 where
  pub slots : (r k : ℕ) → r < record_count → k < visibility_slot → slot_in (computed_style Crate rules settings p) r k ≡ slot_in (style_without rules settings p) r k
  pub presence : (r : ℕ) → r < record_count → ¬ (r ≡ main_record) → one_held (computed_style Crate rules settings p) r visibility_slot ≡ (record_in (style_without rules settings p) r).present
