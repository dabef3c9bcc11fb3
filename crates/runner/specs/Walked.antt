-- What a pass over the bytes of a compiled sheet meets: the selectors, their styles as a style row has them, a content by its place in the bytes.
use Rattle.std.specs.Prelude.{ℕ, List, [], map}
use Rattle.syntax.specs.Style.{StyleDecl, StyleValue}
use Rattle.syntax.specs.declared.styles.Value.{Value}
use Rattle.cascade.specs.Record.{Styled}
use Rattle.styles.specs.Said.{meant}
use Rattle.styles.specs.StyleCall.{in_numbers}
use Rattle.compiled.specs.Decoded.{Decoded, on_decoded, mapped}
use Rattle.compiled.specs.Style.{style_numbers_at}
use Rattle.compiled.specs.Sheet.{CompiledSelector, decode_by}

-- a style as a style row has it
abbrev pub walked_style_at : List ℕ → ℕ → Decoded (Styled Value)
walked_style_at t i = mapped in_numbers (style_numbers_at t i)

-- the selectors of bytes that are a sheet
unfoldable pub walked : List ℕ → List (CompiledSelector (Styled Value))
walked t = on_decoded (decode_by (walked_style_at t) t) (λ _ ss. ss) (λ _. [])

-- ---- a selector that is compiled, with the styles themselves
unfoldable pub meant_selector : CompiledSelector StyleDecl → CompiledSelector (Styled StyleValue)
meant_selector s = record { origin = s.origin; pseudo = s.pseudo; components = s.components; styles = map meant s.styles }
