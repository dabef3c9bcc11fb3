-- The style rows of a page by the bytes of three sheets whose selectors fit: each element's style says the computed style of its path, for its parent's does, and what
-- is declared at it is what the sheets and its attributes say.
use Prim.Native.Nat.{ℕ, zero, suc, ◌+◌, ◌-◌, ◌≤◌, ◌<◌}
use mathlib.Core.Path.{◌≡◌, refl, ap, ◌∙◌}
use mathlib.Core.Logic.{◌⊎◌, inl, inr}
use mathlib.Core.List.{List, [], ◌++◌, append-nil}
use native.Mathlib.Nat.{not-suc-le-zero}
use native.Mathlib.Omega.{arith}
use Rattle.syntax.specs.Selector.{RuleSet}
use Rattle.syntax.specs.declared.styles.Value.{Value}
use Rattle.cascade.specs.declared.slots.Cascade.TheVariants.{Crate}
use Rattle.cascade.specs.Record.{ComputedStyle}
use Rattle.cascade.specs.Related.{SameStyle}
use Rattle.page.specs.Path.{Element, Path}
use Rattle.page.specs.PathOf.{element_at, path_of}
use Rattle.page.specs.Rows.{node_count, node_at, element_kind}
use Rattle.page.proofs.AcceptedPages.{Accepted}
use Rattle.page.proofs.Paths.{path-document, path-element}
use Rattle.page.proofs.RowFacts.{document-kind, parent-kind}
use Rattle.compiled.specs.Sheet.{encode}
use Rattle.compiled.proofs.Fits.{SheetFits}
use Rattle.compiled.proofs.RoundTrip.{round_trip}
use Rattle.styles.specs.declared.settings.Settings.{Settings}
use Rattle.page.specs.Lent.{Page}
use Rattle.styles.specs.Computed.{computed_style}
use Rattle.styles.specs.Said.{Rules}
use Rattle.styles.specs.Says.{Says}
use Rattle.styles.specs.StyleCall.{inline_contents}
use Rattle.runner.specs.PageRows.{row_contents, contents_before, page_contents, page_row}
use Rattle.runner.proofs.OpenRows.{parent-most}
use Rattle.runner.proofs.PageRowLaws.{page_style, style-other, style-element, page-other}
use Rattle.runner.proofs.Steps.{element-contents}
use Rattle.agreement.specs.Demand.{sheets_selectors, AllRows}
use Rattle.agreement.proofs.StepStyle.{SaysComputed, document-styled, styled-further, styled-below}

module _ (rules : Rules RuleSet) (fits : SheetFits (sheets_selectors rules)) (settings : Settings) (g : Page) (ok : Accepted g.nodes g.attributes g.text) where
  abbrev code : List ℕ
  code = encode (sheets_selectors rules)

  abbrev count : ℕ
  count = node_count g.nodes

  abbrev kind_at : ℕ → ℕ
  kind_at i = (node_at g.nodes i).kind

  -- the style of a row
  abbrev style_at_row : ℕ → ComputedStyle Value
  style_at_row i = page_style code settings g i

  abbrev path_at : ℕ → Path
  path_at i = path_of g.nodes g.attributes g.text i

  -- a style says the computed style of a path, where the contents before row n are there
  abbrev SaysAt : ℕ → ComputedStyle Value → Path → Type 0
  SaysAt n s path = SaysComputed rules settings (contents_before settings g n) s path

  -- it stays so with the contents of one row more
  styled-next : (n : ℕ) (s : ComputedStyle Value) (path : Path) → SaysAt n s path → SaysAt (suc n) s path
  unfolding contents_before
  styled-next n s path h = styled-further rules settings (contents_before settings g n) (row_contents settings g n) s path h

  -- it stays so with the contents of k rows more
  styled-later : (k n : ℕ) (s : ComputedStyle Value) (path : Path) → SaysAt n s path → SaysAt (k + n) s path
  styled-later zero n s path h = let e : 0 + n ≡ n = omega arith in rw e h
  styled-later (suc k) n s path h =
      let e : suc k + n ≡ suc (k + n) = omega arith in
      rw e (styled-next (k + n) s path (styled-later k n s path h))

  -- so it stays so before every later row
  styled-until : (n m : ℕ) (s : ComputedStyle Value) (path : Path) → n ≤ m → SaysAt n s path → SaysAt m s path
  styled-until n m s path l h = let e : (m - n) + n ≡ m = omega arith in rw e at (styled-later (m - n) n s path h)

  -- the style of an element is right, behind its own contents
  abbrev RightAt : ℕ → Type 0
  RightAt i = kind_at i ≡ element_kind → SaysAt (suc i) (style_at_row i) (path_at i)

  -- ---- a row behind row 0, where the elements before it are right
  module _ (i : ℕ) (there : suc i < count) (before : (j : ℕ) → j < suc i → RightAt j) (element : kind_at (suc i) ≡ element_kind) where
    abbrev p : ℕ
    p = (node_at g.nodes (suc i)).parent

    abbrev e : Element
    e = element_at g.nodes g.attributes g.text (suc i)

    -- its parent is the document, which has no style, or an element before it
    parent-styled : SaysAt (suc i) (style_at_row p) (path_at p)
    parent-styled = go (parent-kind g.nodes g.attributes g.text ok (suc i) there (omega arith))
      where
        go : (p ≡ 0) ⊎ (kind_at p ≡ element_kind) → SaysAt (suc i) (style_at_row p) (path_at p)
        go (inl z) =
            let top : kind_at p ≡ 0 = ap kind_at z ∙ document-kind g.nodes g.attributes g.text ok in
            let none = style-other code settings g p (λ (k : kind_at p ≡ element_kind). omega (arith, k, top)) in
            let path : path_at p ≡ [] = ap path_at z ∙ path-document g.nodes g.attributes g.text ok in
            rw (none, path) (document-styled rules settings (contents_before settings g (suc i)))
        go (inr k) =
            let most = parent-most g.nodes g.attributes g.text ok i there in
            styled-until (suc p) (suc i) (style_at_row p) (path_at p) (omega (arith, most)) (before p (omega (arith, most)) k)

    -- its contents are the last
    contents-here : contents_before settings g (suc (suc i)) ≡ contents_before settings g (suc i) ++ inline_contents settings e
    unfolding contents_before
    contents-here = rw (element-contents settings g (suc i) element)

    -- so its style is right
    element-right : SaysAt (suc (suc i)) (style_at_row (suc i)) (path_at (suc i))
    element-right =
        rw (style-element code settings g ok i there element, path-element g.nodes g.attributes g.text ok (suc i) there (omega arith) element, contents-here)
        (styled-below rules settings fits (contents_before settings g (suc i)) e (path_at p) (style_at_row p) parent-styled)

  -- ---- every row
  -- one, where those before it are right
  row-right : (i : ℕ) → i < count → ((j : ℕ) → j < i → RightAt j) → RightAt i
  row-right zero there before k = absurd (omega (arith, k, document-kind g.nodes g.attributes g.text ok))
  row-right (suc i) there before k = element-right i there before k

  -- so every row of the page is right, by the number n of rows up to it
  rows_right : (n i : ℕ) → i < n → i < count → RightAt i
  rows_right zero i l there = absurd (not-suc-le-zero l)
  rows_right (suc n) i l there = row-right i there (λ (j : ℕ) (h : j < i). rows_right n j (omega arith) (omega arith))

  -- all, where all contents of the page are there
  page-right : (i : ℕ) → i < count → kind_at i ≡ element_kind → SameStyle (Says (code ++ page_contents settings g)) (style_at_row i) (computed_style Crate rules settings (path_at i))
  unfolding page_contents
  page-right i there k =
      rw (append-nil (contents_before settings g count)) at (styled-until (suc i) count (style_at_row i) (path_at i) (omega arith) (rows_right (suc i) i (omega arith) there k) [])

  -- so all rows of the page are right, for each is its style written
  pub rows-computed : AllRows rules settings g code
  unfolding page_row
  rows-computed =
      record {
        sheet = round_trip (sheets_selectors rules) fits;
        element-rows = λ i l k. record { style = style_at_row i; written = refl; same = page-right i l k };
        other-rows = λ i l d. page-other code settings g i d;
      }
