-- What is written of the parts of rules that lie in rows, and what that asks for.
use Rattle.std.specs.Prelude.{ℕ, ◌+◌, ◌<◌, Bool, ◌≡◌, refl, List, [], ◌∷◌, length}
use Rattle.combinators.specs.Choice.{pick, or, and, is}
use Rattle.combinators.specs.Part.{part}
use Rattle.syntax.specs.Layout.{flag, flag_of, colour_number, colour_of, color_kind, height_kind, decl_of, read_declaration, style_slot_of}
use Rattle.syntax.specs.RuleLayout.{element_kind, component_kind, component_from, read_component, pseudo_number, pseudo_from, read_selector, read_rule, rules_at}
use Rattle.syntax.specs.Selector.{Selector, RuleSet}
use Rattle.syntax.specs.Stream.{read_many, texts_many}
use Rattle.syntax.specs.Style.{StyleDecl, author_origin}
use Rattle.declarations.specs.Styles.{one, style_of, hides_overflow, zero_height, any_decl, own_styles, styles_of}
use Rattle.combinators.specs.Store.{Zeros}
use Rattle.origins.specs.Rules.{RuleRoom, RulesRoom}
use Rattle.compiled.specs.Number.{number_limit, group_bytes, number_bytes}
use Rattle.compiled.specs.Text.{text_bytes}
use Rattle.compiled.specs.Component.{component_body, component_bytes}
use Rattle.compiled.specs.Style.{style_body, style_bytes}
use Rattle.compiled.specs.Sheet.{head_bytes, styles_bytes, selector_bytes}
use Rattle.compiler.specs.Selectors.{compiled_selector, styled_selectors, rule_selectors, sheet_selectors}

-- bytes passed the end of a store of n: the fill stands one above
unfoldable pub past : ℕ → ℕ → Bool
past n f = is f (n + 1)

-- ---- bytes

-- of a selector of a rule that has these styles
unfoldable pub styled_bytes : ℕ → List StyleDecl → Selector → List ℕ
styled_bytes origin ds s = selector_bytes (compiled_selector origin ds s)

-- of the selectors of a rule
unfoldable pub rule_bytes : ℕ → RuleSet → List ℕ
rule_bytes origin r = texts_many selector_bytes (rule_selectors origin r)

-- ---- what is asked for

-- a number can tell how many selectors the first n rules of a stream have, whatever their texts and their origin
pub record SelectorsFew (t : List ℕ) (n : ℕ) : Type 0 where
  pub texts : List ℕ
  pub origin : ℕ
  pub few : length (sheet_selectors origin (read_many (read_rule texts) n t).value) < number_limit

-- a store of tokens that is zero, with room for the styles of the rule at the start of a stream, and of each of its first n rules
pub record RuleLent (t tokens : List ℕ) : Type 0 where
  pub room : RuleRoom t (length tokens)
  pub zeros : Zeros tokens 0

pub record RulesLent (n : ℕ) (t tokens : List ℕ) : Type 0 where
  pub room : RulesRoom n t (length tokens)
  pub zeros : Zeros tokens 0

-- ---- cases

-- the rows of `p{color:red}`, the author's, with the text p
pub case-red : texts_many selector_bytes (sheet_selectors author_origin (rules_at (0 ∷ 1 ∷ 1 ∷ 1 ∷ 0 ∷ element_kind ∷ 0 ∷ 1 ∷ 0 ∷ color_kind ∷ 0 ∷ 2 ∷ 0xff0000 ∷ 0 ∷ []) (0x70 ∷ []) 1))
    ≡ 0x03 ∷ 0x00 ∷ 0x01 ∷ 0x02 ∷ 0x01 ∷ 0x70 ∷ 0x01 ∷ 0x00 ∷ 0x02 ∷ 0x00 ∷ 0x80 ∷ 0x80 ∷ 0xfc ∷ 0x07 ∷ []
unfolding rules_at read_rule read_selector read_component component_from pseudo_from read_declaration decl_of flag_of colour_of part read_many sheet_selectors rule_selectors styled_selectors compiled_selector styles_of own_styles style_of one any_decl zero_height hides_overflow selector_bytes head_bytes styles_bytes texts_many pseudo_number component_bytes component_kind component_body text_bytes style_bytes style_slot_of style_body flag colour_number number_bytes group_bytes pick or and is
case-red = refl

-- the rows of `p{height:0}`, which has no style
pub case-none : texts_many selector_bytes (sheet_selectors author_origin (rules_at (0 ∷ 1 ∷ 1 ∷ 1 ∷ 0 ∷ element_kind ∷ 0 ∷ 1 ∷ 0 ∷ height_kind ∷ 0 ∷ 2 ∷ 1 ∷ 0 ∷ []) (0x70 ∷ []) 1)) ≡ []
unfolding rules_at read_rule read_selector read_component component_from pseudo_from read_declaration decl_of flag_of part read_many sheet_selectors rule_selectors styled_selectors styles_of own_styles style_of any_decl zero_height hides_overflow texts_many pick or and is
case-none = refl
