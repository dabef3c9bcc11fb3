-- Declarations merged into a row of numbers, one after the other, and what attributes declare before the author's rules and behind them.
use Rattle.std.specs.Prelude.{false, ℕ}
use mathlib.Core.List.{List, [], map, foldl}
use Rattle.syntax.specs.declared.styles.Value.{Value}
use Rattle.cascade.specs.declared.slots.Cascade.{Cascade}
use Rattle.cascade.specs.declared.slots.Cascade.TheVariants.{Crate, Book}
use Rattle.cascade.specs.Record.{Declared, AttributeStyle, from_attribute, colour_attributes, style_attributes}
use Rattle.cascade.specs.Row.{merge_row_by}
use Rattle.cascade.specs.Slot.{update_by}
use Rattle.cascade.specs.Specificity.{inline_specificity}

unfoldable pub merged_row : Cascade → List ℕ → List (Declared Value) → List ℕ
merged_row c row ds = foldl (merge_row_by (update_by c)) row ds

-- "`color` and `bgcolor` count as specificity 0 before all author rules", in the book order alone
unfoldable pub early_declared : {A : Type 0} → Cascade → List (AttributeStyle A) → List (Declared A)
early_declared Crate xs = []
early_declared Book xs = colour_attributes xs

-- in the crate's cascade all attributes in their order, in the book order the `style` attributes
unfoldable pub late_declared : {A : Type 0} → Cascade → List (AttributeStyle A) → List (Declared A)
late_declared Crate xs = map (from_attribute false inline_specificity) xs
late_declared Book xs = style_attributes xs
