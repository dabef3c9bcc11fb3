-- The style rows of a page by its definition: an element's style is built on its parent's, the others are empty, each row is whole, and all stand one behind the other.
use Prim.Native.Nat.{ℕ, zero, suc, ◌+◌, ◌*◌, ◌≤◌, ◌<◌}
use mathlib.Core.Path.{◌≡◌, refl, ap, ap₂, sym, subst, ◌∙◌}
use mathlib.Core.Logic.{◌⊎◌, inl, inr}
use mathlib.Core.List.{List, [], ◌∷◌, ◌++◌, append_assoc}
use native.Mathlib.Nat.{not-suc-le-zero}
use native.Mathlib.Omega.{arith}
use lib.ListN.{length, take, length-append}
use lib.Seq.{take_at, drop_at}
use Rattle.combinators.specs.Choice.{is}
use Rattle.combinators.proofs.Rules.{pick-holds, pick_true, pick-false, is-yes, is-no, lt-or-ge}
use Rattle.syntax.specs.declared.styles.Value.{Value}
use Rattle.cascade.specs.Record.{ComputedStyle, Formed, empty_style, Styled}
use Rattle.cascade.specs.Row.{style_row_width, row_of}
use Rattle.cascade.proofs.RowBack.{row-long, empty-formed}
use Rattle.page.specs.Ancestors.{line_of}
use Rattle.page.specs.Path.{Element}
use Rattle.page.specs.PathOf.{element_at, path_of}
use Rattle.page.specs.Rows.{node_count, node_at, element_kind}
use Rattle.page.proofs.AcceptedPages.{Accepted}
use Rattle.styles.specs.declared.settings.Settings.{Settings}
use Rattle.page.specs.Lent.{Page}
use Rattle.styles.proofs.Called.{empty-row}
use Rattle.compiled.specs.Sheet.{CompiledSelector}
use Rattle.segments.specs.Down.{matching_of}
use Rattle.runner.specs.Walked.{walked}
use Rattle.runner.specs.PageRows.{style_below, contents_before, line_style, page_row, rows_before, style_row_at, no_style}
use Rattle.runner.specs.Run.{row_below}
use Rattle.runner.proofs.OpenRows.{line-next}
use Rattle.runner.proofs.RowBelow.{below-formed, row_below_lem}
use Rattle.runner.proofs.StyleRows.{rows_split}

module _ (code : List ℕ) (settings : Settings) (g : Page) where
  abbrev element_of : ℕ → Element
  element_of i = element_at g.nodes g.attributes g.text i

  -- the selectors that match at a row
  abbrev pub matching_here : ℕ → List (CompiledSelector (Styled Value))
  matching_here i = matching_of (path_of g.nodes g.attributes g.text i) (walked code)

  -- where the contents of its attributes begin
  abbrev pub contents_place : ℕ → ℕ
  contents_place i = length code + length (contents_before settings g i)

  -- the style of a row
  abbrev pub page_style : ℕ → ComputedStyle Value
  page_style i = line_style code settings g (line_of g.nodes i)

  -- ---- one style
  -- the style below any rows has all its slots
  line-formed : (line : List ℕ) → Formed (line_style code settings g line)
  unfolding line_style
  line-formed [] = empty-formed
  line-formed (i ∷ above) =
      pick-holds (λ (s : ComputedStyle Value). Formed s) (is (node_at g.nodes i).kind element_kind) _ _
      (λ _. below-formed (matching_here i) settings (contents_place i) (element_of i) (line_style code settings g above) (line-formed above)) (λ _. empty-formed)

  -- so has that of each row
  pub style-formed : (i : ℕ) → Formed (page_style i)
  style-formed i = line-formed (line_of g.nodes i)

  -- a row that is no element has none
  pub style-other : (i : ℕ) → ¬ ((node_at g.nodes i).kind ≡ element_kind) → page_style i ≡ empty_style
  unfolding line_style
  style-other i d = sym (pick-false _ _ _ _ (is-no _ _ d) refl)

  -- an element below some rows is styled below their style
  element-line : (i : ℕ) (above : List ℕ) → (node_at g.nodes i).kind ≡ element_kind
      → line_style code settings g (i ∷ above) ≡ style_below (line_style code settings g above) (matching_here i) settings (contents_place i) (element_of i)
  unfolding line_style
  element-line i above e = sym (pick_true _ _ _ _ (is-yes _ _ e) refl)

  -- an element of an accepted page is styled below its parent
  pub style-element : Accepted g.nodes g.attributes g.text → (i : ℕ) → suc i < node_count g.nodes → (node_at g.nodes (suc i)).kind ≡ element_kind
      → page_style (suc i) ≡ style_below (page_style (node_at g.nodes (suc i)).parent) (matching_here (suc i)) settings (contents_place (suc i)) (element_of (suc i))
  style-element ok i there e =
      ap (λ (l : List ℕ). line_style code settings g (suc i ∷ l)) (line-next g.nodes g.attributes g.text ok i there)
      ∙ element-line (suc i) (line_of g.nodes (node_at g.nodes (suc i)).parent) e

  -- ---- one row
  -- the style row of a page's row has the width of a row
  pub page-whole : (i : ℕ) → length (page_row code settings g i) ≡ style_row_width
  unfolding page_row
  page-whole i = row-long (page_style i) (style-formed i)

  -- that of no element is zeros
  pub page-other : (i : ℕ) → ¬ ((node_at g.nodes i).kind ≡ element_kind) → page_row code settings g i ≡ no_style
  unfolding page_row
  page-other i d = ap row_of (style-other i d) ∙ sym empty-row

  -- that of an element is what a step writes below its parent's, where it finds the selectors that match
  pub page-element : Accepted g.nodes g.attributes g.text → (i : ℕ) → suc i < node_count g.nodes → (node_at g.nodes (suc i)).kind ≡ element_kind
      → page_row code settings g (suc i) ≡ row_below (page_row code settings g (node_at g.nodes (suc i)).parent) (matching_here (suc i)) settings (contents_place (suc i)) (element_of (suc i))
  unfolding page_row
  page-element ok i there e =
      let p : ℕ = (node_at g.nodes (suc i)).parent in
      ap row_of (style-element ok i there e) ∙ sym (row_below_lem (matching_here (suc i)) settings (contents_place (suc i)) (element_of (suc i)) (page_style p) (style-formed p))

  -- ---- all rows
  -- the first n take n widths
  pub rows_long : (n : ℕ) → length (rows_before code settings g n) ≡ n * style_row_width
  unfolding rows_before
  rows_long zero = refl
  rows_long (suc n) = length-append (rows_before code settings g n) (page_row code settings g n) ∙ omega (arith, rows_long n, page-whole n)

  -- a store that has each of the first n rows at its place begins with them
  pub rows_are : (rows : List ℕ) (n : ℕ) → ((j : ℕ) → j < n → style_row_at rows j ≡ page_row code settings g j) → take (n * style_row_width) rows ≡ rows_before code settings g n
  unfolding rows_before
  rows_are rows zero h = refl
  rows_are rows (suc n) h = rows_split rows n ∙ ap₂ ◌++◌ (rows_are rows n (λ j l. h j (omega arith))) (h n (omega arith))

  -- behind the first n rows stands the next
  next-there : (n : ℕ) (more : List ℕ) → style_row_at (rows_before code settings g n ++ (page_row code settings g n ++ more)) n ≡ page_row code settings g n
  unfolding style_row_at
  next-there n more =
      ap (take style_row_width) (drop_at (rows_before code settings g n) (page_row code settings g n ++ more) (n * style_row_width) (rows_long n))
      ∙ take_at (page_row code settings g n) more style_row_width (page-whole n)

  -- a store that begins with the first n rows has each at its place
  pub row-there : (n j : ℕ) (more : List ℕ) → j < n → style_row_at (rows_before code settings g n ++ more) j ≡ page_row code settings g j
  unfolding rows_before
  row-there zero j more l = absurd (not-suc-le-zero l)
  row-there (suc n) j more l =
      ap (λ (rows : List ℕ). style_row_at rows j) (append_assoc (rows_before code settings g n) (page_row code settings g n) more)
      ∙ go (row-there n j (page_row code settings g n ++ more)) (lt-or-ge j n)
    where
      go : (j < n → style_row_at (rows_before code settings g n ++ (page_row code settings g n ++ more)) j ≡ page_row code settings g j) → (j < n) ⊎ (n ≤ j)
          → style_row_at (rows_before code settings g n ++ (page_row code settings g n ++ more)) j ≡ page_row code settings g j
      go before (inl h) = before h
      go before (inr h) =
          let e : n ≡ j = omega arith in
          subst (λ (k : ℕ). style_row_at (rows_before code settings g n ++ (page_row code settings g n ++ more)) k ≡ page_row code settings g k) e (next-there n more)
