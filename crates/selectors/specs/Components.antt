-- Components as the code has them: their texts, their rows, and the order in which they are read.
use Rattle.std.specs.Prelude.{ℕ, ◌+◌, ◌*◌, ◌-◌, Bool, true, false, Option, Some, None, List, [], ◌∷◌, get_or}
use Rattle.combinators.specs.Choice.{pick, is}
use Rattle.lexer.specs.Name.{ident_of}
use Rattle.syntax.specs.RuleLayout.{component_width, component_kind_at, descendant_kind}
use Rattle.syntax.specs.Selector.{Component, element, PseudoElement, none, before, after}
use Rattle.selectors.specs.ComponentAnswer.{columns_of}
use Rattle.selectors.specs.declared.components.Component as component
use Rattle.selectors.specs.declared.components.Component.TheVariants as variant
use Rattle.selectors.specs.declared.selectors.PseudoElement as declared
use Rattle.selectors.specs.declared.selectors.PseudoElement.TheVariants as code
use Rattle.selectors.specs.Outcome.{Outcome, behind, parsed, or_else}
use Rattle.selectors.specs.Selector.{component_of, body_of, without_blank}

-- the bytes of a component's texts
unfoldable pub text_length : component.Component → ℕ
text_length variant.Star = 0
text_length (variant.Class n) = n
text_length (variant.Element n) = n
text_length (variant.Hash n) = n
text_length variant.Child = 0
text_length variant.Descendant = 0
text_length (variant.Nth a b) = 0
text_length (variant.Attribute n) = n
text_length (variant.AttributeEqual n m) = n + m

-- whether it has a row, at the start of a selector or behind it: a blank at the start has none
unfoldable pub has_row : Bool → component.Component → Bool
has_row start d = pick start (pick (is (columns_of d).kind descendant_kind) false true) true

-- ---- selectors in the order of the code
-- the first component: a type selector where there is one, or else any
unfoldable pub first_component : List ℕ → Outcome Component
first_component t = or_else (parsed 0 (ident_of t) element) (component_of t)

-- the next component, at the start or behind others
unfoldable pub next_of : Bool → List ℕ → Outcome Component
next_of start t = pick start (first_component t) (component_of t)

-- what is kept of it: a blank at the start is dropped
unfoldable pub kept_of : Bool → Component → List Component
kept_of start c = pick start (without_blank (c ∷ [])) (c ∷ [])

-- all of them, without a blank at the start
unfoldable pub started_of : List ℕ → Outcome (List Component)
started_of t = behind 0 (body_of t) without_blank

-- whether the last of n rows is that of a blank
unfoldable pub blank_last : List ℕ → ℕ → ℕ → Bool
blank_last rows place n = pick (is n 0) false (is (get_or rows (place + component_width * (n - 1) + component_kind_at) 0) descendant_kind)

-- what the pseudo element that was read, or none, is
abbrev pub pseudo_meant : Option declared.PseudoElement → PseudoElement
pseudo_meant None = none
pseudo_meant (Some code.Before) = before
pseudo_meant (Some code.After) = after
