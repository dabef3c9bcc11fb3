-- The laws of declarations merged into a row, and of what attributes declare.
use mathlib.Core.Path.{◌≡◌, refl, sym, ap, ◌∙◌}
use mathlib.Core.Bool.{false}
use mathlib.Core.List.{List, [], ◌∷◌, ◌++◌, map, append_assoc, map-append}
use Prim.Native.Nat.{ℕ}
use Rattle.combinators.specs.Choice.{pick}
use Rattle.syntax.specs.Style.{agent_origin, user_origin, author_origin}
use Rattle.syntax.specs.declared.styles.Value.{Value}
use Rattle.cascade.specs.declared.slots.Cascade.{Cascade}
use Rattle.cascade.specs.declared.slots.Cascade.TheVariants.{Crate, Book}
use Rattle.cascade.specs.Record.{Declared, AttributeStyle, Sources, from_rule, from_attribute, colour_attributes, style_attributes, crate_declared, book_declared, declared_by}
use Rattle.cascade.specs.Row.{merge_row_by}
use Rattle.cascade.specs.Slot.{update_by}
use Rattle.cascade.specs.Specificity.{no_specificity, inline_specificity}
use Rattle.styles.specs.Merged.{merged_row, early_declared, late_declared}

module _ (c : Cascade) where
  -- no declaration merged leaves the row as it was
  pub merged-none : (row : List ℕ) → merged_row c row [] ≡ row
  unfolding merged_row
  merged-none row = refl

  -- one declaration, and those behind it
  pub merged-more : (row : List ℕ) (d : Declared Value) (ds : List (Declared Value)) → merged_row c row (d ∷ ds) ≡ merged_row c (merge_row_by (update_by c) row d) ds
  unfolding merged_row
  merged-more row d ds = refl

  -- some, and those behind them
  pub merged-append : (row : List ℕ) (ds es : List (Declared Value)) → merged_row c row (ds ++ es) ≡ merged_row c (merged_row c row ds) es
  unfolding merged_row
  merged-append row [] es = refl
  merged-append row (d ∷ ds) es = merged-append (merge_row_by (update_by c) row d) ds es

-- ---- a loop that merges declarations into a row
module _ (c : Cascade) (row₀ : List ℕ) (all : List (Declared Value)) where
  -- what is left to merge is what was to be merged
  pub record Merging (row : List ℕ) (others : List (Declared Value)) : Type 0 where
    pub left : merged_row c row others ≡ merged_row c row₀ all

  -- nothing is merged yet
  pub merging-begin : Merging row₀ all
  merging-begin = record { left = refl }

  module _ (row : List ℕ) (others : List (Declared Value)) (m : Merging row others) where
    -- some of the others are merged: what stands behind them is left to merge
    pub merging-more : (ds behind : List (Declared Value)) → others ≡ ds ++ behind → (z : List ℕ) → z ≡ merged_row c row ds → Merging z behind
    merging-more ds behind e z ez =
        record {
          left = ap (λ (x : List ℕ). merged_row c x behind) ez ∙ sym (merged-append c row ds behind) ∙ sym (ap (merged_row c row) e) ∙ m.left;
        }

    -- where none is left, the row is the first one with all merged
    pub merging-done : others ≡ [] → row ≡ merged_row c row₀ all
    merging-done e = sym (merged-none c row) ∙ sym (ap (merged_row c row) e) ∙ m.left

-- ---- what attributes declare, one behind the other
module _ {A : Type 0} where
  -- the colour attributes of two lists declare one behind the other
  pub colours-append : (xs ys : List (AttributeStyle A)) → colour_attributes (xs ++ ys) ≡ colour_attributes xs ++ colour_attributes ys
  unfolding colour_attributes
  colours-append [] ys = refl
  colours-append (x ∷ xs) ys = rw (colours-append xs ys) (sym (append_assoc (pick x.is_style [] (from_attribute false no_specificity x ∷ [])) (colour_attributes xs) (colour_attributes ys)))

  -- the `style` attributes of two lists declare one behind the other
  styles-append : (xs ys : List (AttributeStyle A)) → style_attributes (xs ++ ys) ≡ style_attributes xs ++ style_attributes ys
  unfolding style_attributes
  styles-append [] ys = refl
  styles-append (x ∷ xs) ys = rw (styles-append xs ys) (sym (append_assoc (pick x.is_style (from_attribute x.style.important inline_specificity x ∷ []) []) (style_attributes xs) (style_attributes ys)))

module _ {A : Type 0} where
  -- what two lists of attributes declare behind the author's rules is one behind the other
  pub late-append : (c : Cascade) (xs ys : List (AttributeStyle A)) → late_declared c (xs ++ ys) ≡ late_declared c xs ++ late_declared c ys
  unfolding late_declared
  late-append Crate xs ys = map-append _ xs ys
  late-append Book xs ys = styles-append xs ys

  -- no attributes declare nothing before the author's rules
  pub early-none : (c : Cascade) → early_declared {A = A} c [] ≡ []
  unfolding early_declared colour_attributes
  early-none Crate = refl
  early-none Book = refl

  -- no attributes declare nothing behind the author's rules
  pub late-none : (c : Cascade) → late_declared {A = A} c [] ≡ []
  unfolding late_declared style_attributes
  late-none Crate = refl
  late-none Book = refl

  -- all that is declared of an element, in its order: agent, user, attributes that come early, author, the other attributes
  pub declared-parts : (c : Cascade) (x : Sources A) → declared_by c x
      ≡ map (from_rule agent_origin) x.agent
      ++ (map (from_rule user_origin) x.user
      ++ (early_declared c x.attributes
      ++ (map (from_rule author_origin) x.author
      ++ late_declared c x.attributes)))
  unfolding declared_by crate_declared book_declared early_declared late_declared
  declared-parts Crate x = refl
  declared-parts Book x = refl
