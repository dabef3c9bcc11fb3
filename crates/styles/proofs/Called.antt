-- The style call: its row, with its store, says the computed style.
use mathlib.Core.Path.{◌≡◌, refl}
use mathlib.Core.Bool.{true}
use mathlib.Core.List.{List, [], ◌∷◌, ◌++◌, append-nil}
use Prim.Native.Nat.{ℕ, ◌+◌}
use native.Mathlib.Nat.{zero-add}
use lib.ListN.{length, replicate}
use Rattle.syntax.specs.Layout.{flag}
use Rattle.syntax.specs.Selector.{RuleSet}
use Rattle.cascade.specs.declared.slots.Cascade.{Cascade}
use Rattle.cascade.specs.declared.slots.Cascade.TheVariants.{Book}
use Rattle.cascade.specs.Record.{empty_record, empty_style, Formed, Sources, book_declared, BookDecides}
use Rattle.cascade.specs.Row.{style_row_width, slot_numbers, slots_numbers, record_numbers, row_of, style_at}
use Rattle.cascade.specs.Related.{SameStyle}
use Rattle.cascade.proofs.Cascading.{cascade-formed, cascade-main-present}
use Rattle.cascade.proofs.Defaulting.{book-decides}
use Rattle.cascade.proofs.Relating.{SameSources, empty-same, cascade-same}
use Rattle.cascade.proofs.RowBack.{row-long, style-back, empty-formed}
use Rattle.page.specs.Path.{Element, Path}
use Rattle.styles.specs.declared.settings.Settings.{Settings}
use Rattle.styles.specs.Said.{Rules, sources_from, meant_rules, counted_attributes, attributes_say}
use Rattle.styles.specs.Computed.{cascaded, sources_along, computed_style}
use Rattle.styles.specs.StyleCall.{sheets_contents, inline_contents, path_contents, placed_sheets, placed_attributes, placed_from, placed_along, call_store, call_row}
use Rattle.styles.specs.Says.{Says}
use Rattle.styles.proofs.Lying.{Lies, lies-left, lies-right, lies_at, lies-first}
use Rattle.styles.proofs.Placed.{sources-same, sheets-placed, attributes-placed}

-- ---- the row of the empty style
-- a row of zeros is the row of the style in which nothing is declared
pub empty-row : replicate style_row_width 0 ≡ row_of empty_style
unfolding row_of empty_style empty_record record_numbers slots_numbers slot_numbers flag
empty-row = refl

-- ---- every style that a cascade leaves has all its slots
pub cascaded-formed : {A : Type 0} (c : Cascade) (xs : List (Sources A)) → Formed (cascaded c xs)
unfolding cascaded
cascaded-formed c [] = empty-formed
cascaded-formed c (x ∷ xs) = cascade-formed c (cascaded c xs) x (cascaded-formed c xs)

-- and that of an element has its main record, whatever is said of it and of those above
pub cascaded-present : {A : Type 0} (c : Cascade) (x : Sources A) (xs : List (Sources A)) → (cascaded c (x ∷ xs)).main.present ≡ true
unfolding cascaded
cascaded-present c x xs = cascade-main-present c (cascaded c xs) x

-- ---- the style of an element in the book order is what CSS Cascading specifies of what is said of it, below the style of its parent (result 7)
pub book-style-decides : (rules : Rules RuleSet) (settings : Settings) (e : Element) (up : Path)
    → BookDecides (computed_style Book rules settings up) (computed_style Book rules settings (e ∷ up)) (book_declared (sources_from (meant_rules rules) (attributes_say (counted_attributes settings e)) (e ∷ up)))
unfolding computed_style sources_along cascaded
book-style-decides rules settings e up = book-decides (cascaded Book (sources_along rules settings up)) _

-- ---- along a path: where t has the contents of the sheets, and those of the path behind them
module _ (t : List ℕ) (c : Cascade) (rules : Rules RuleSet) (settings : Settings) (sheets : Lies t 0 (sheets_contents rules)) where
  -- what sheets and attributes say of an element by numbers, over the texts in t, is what they mean
  said_here : (e : Element) (up : Path) → Lies t (length (sheets_contents rules) + length (path_contents settings up)) (inline_contents settings e)
      → SameSources (Says t) (sources_from (placed_sheets rules) (placed_attributes (length (sheets_contents rules) + length (path_contents settings up)) (counted_attributes settings e)) (e ∷ up))
      (sources_from (meant_rules rules) (attributes_say (counted_attributes settings e)) (e ∷ up))
  unfolding inline_contents
  said_here e up h = sources-same (Says t) (e ∷ up) _ _ _ _ (sheets-placed t rules sheets) (attributes-placed t (counted_attributes settings e) _ h)

  -- the style in numbers says the computed style
  pub along-same : (p : Path) → Lies t (length (sheets_contents rules)) (path_contents settings p) → SameStyle (Says t) (cascaded c (placed_along rules settings p)) (cascaded c (sources_along rules settings p))
  unfolding cascaded placed_along placed_from sources_along path_contents
  along-same [] h = empty-same (Says t)
  along-same (e ∷ up) h =
      let n = length (sheets_contents rules) in
      cascade-same (Says t) c _ _ _ _ (along-same up (lies-left t n (path_contents settings up) (inline_contents settings e) h))
      (said_here e up (lies-right t n (path_contents settings up) (inline_contents settings e) h))

-- ---- the style call
module _ (c : Cascade) (rules : Rules RuleSet) (settings : Settings) (p : Path) where
  -- its row is whole
  pub call-row-long : length (call_row c rules settings p) ≡ style_row_width
  unfolding call_row
  call-row-long = row-long (cascaded c (placed_along rules settings p)) (cascaded-formed c (placed_along rules settings p))

  -- and gives its style back
  pub call-row-back : style_at (call_row c rules settings p) ≡ cascaded c (placed_along rules settings p)
  unfolding call_row
  call-row-back = style-back (cascaded c (placed_along rules settings p)) (cascaded-formed c (placed_along rules settings p))

  -- with its store, whatever stands behind the texts there, it says the computed style: number by number, each content by its text, which lies within the texts
  pub call-says : (more : List ℕ) → SameStyle (Says (call_store rules settings p ++ more)) (style_at (call_row c rules settings p)) (computed_style c rules settings p)
  unfolding computed_style
  call-says more = rw call-row-back (along-same t c rules settings sheets p path)
    where
      t : List ℕ
      t = call_store rules settings p ++ more

      all : Lies t 0 (sheets_contents rules ++ path_contents settings p)
      all = unfold call_store in lies-first (sheets_contents rules ++ path_contents settings p) more

      sheets : Lies t 0 (sheets_contents rules)
      sheets = lies-left t 0 (sheets_contents rules) (path_contents settings p) all

      path : Lies t (length (sheets_contents rules)) (path_contents settings p)
      path = lies_at t (0 + length (sheets_contents rules)) (length (sheets_contents rules)) (path_contents settings p) (zero-add (length (sheets_contents rules))) (lies-right t 0 (sheets_contents rules) (path_contents settings p) all)

  -- in the store as it is
  pub call-says-alone : SameStyle (Says (call_store rules settings p)) (style_at (call_row c rules settings p)) (computed_style c rules settings p)
  call-says-alone = rw (append-nil (call_store rules settings p)) at (call-says [])
