-- The styles of one selector in compiled bytes: what is asked for to merge them, and what they declare.
use Rattle.std.specs.Prelude.{ℕ, ◌≤◌, ◌⊎◌, List, map}
use Rattle.syntax.specs.declared.styles.Value.{Value}
use Rattle.cascade.specs.declared.specificity.Specificity.{Specificity}
use Rattle.cascade.specs.Record.{Styled, Declared, from_rule}
use Rattle.styles.specs.Said.{rule_style}
use Rattle.compiled.specs.Decoded.{counted}
use Rattle.stepping.specs.Reading.{Reads}
use Rattle.runner.specs.Walked.{walked_style_at}

-- what styles declare, as those of a selector
unfoldable pub styles_declare : ℕ → ℕ → Specificity → List (Styled Value) → List (Declared Value)
styles_declare origin pseudo spec xs = map (λ x. from_rule origin (rule_style pseudo spec x)) xs

-- of so many styles from a place on there is one at most, or all of them read
abbrev pub CountedLent : List ℕ → ℕ → ℕ → Type 0
CountedLent code at count = (count ≤ 1) ⊎ Reads (counted (walked_style_at code) count at)
