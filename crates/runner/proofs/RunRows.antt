-- A run over compiled bytes that are a sheet, down an accepted page, writes the style rows of the page and its contents, whatever its rows and its state held: before
-- each row those before it are written and the open parts are right, so that its step finds the selectors that match its path.
use Prim.Native.Nat.{ℕ, zero, suc, ◌+◌, ◌*◌, ◌≤◌, ◌<◌}
use mathlib.Core.Path.{◌≡◌, refl, ap, sym, subst, ◌∙◌}
use mathlib.Core.Logic.{◌⊎◌, inl, inr}
use mathlib.Core.List.{List, [], ◌++◌, append-nil}
use native.Mathlib.Nat.{not-suc-le-zero}
use native.Mathlib.Omega.{arith}
use lib.ListN.{length, take}
use lib.Seq.{sets, length-sets}
use Rattle.combinators.specs.Refusal.{no_refusal}
use Rattle.combinators.proofs.Rules.{lt-or-ge}
use Rattle.cascade.specs.Row.{style_row_width}
use Rattle.page.specs.Ancestors.{depth_of}
use Rattle.page.specs.Path.{Element}
use Rattle.page.specs.PathOf.{element_at, path_of}
use Rattle.page.specs.Rows.{node_count, node_at, element_kind, other_kind}
use Rattle.page.proofs.AcceptedPages.{Accepted}
use Rattle.page.proofs.RowFacts.{document-kind}
use Rattle.compiled.specs.Answer.{bytes_refusal}
use Rattle.compiled.specs.Sheet.{compiled_limit}
use Rattle.styles.specs.declared.settings.Settings.{Settings}
use Rattle.page.specs.Lent.{Page}
use Rattle.runner.specs.LeastLengths.{RunLent, rows_least}
use Rattle.runner.specs.State.{depths, part_width}
use Rattle.runner.specs.PageRows.{selectors_declare, row_contents, contents_before, page_contents, page_row, page_rows, style_row_at}
use Rattle.runner.specs.Run.{row_below, found_at, Stepped, document_step, element_step, step_on, handed_at, Running, run_step, run_from, run_of}
use Rattle.runner.proofs.OpenRows.{parent-most, kinds}
use Rattle.runner.proofs.OpenParts.{Ready, document-long, document-ready, other-ready, place-right, found_of, element-long, element-ready}
use Rattle.runner.proofs.FoundLaws.{some_bytes, found-declares}
use Rattle.runner.proofs.PageRowLaws.{matching_here, page-whole, page-other, page-element, rows_are}
use Rattle.runner.proofs.RowBelow.{row-declared}
use Rattle.runner.proofs.StyleRows.{row_written, row_kept}
use Rattle.runner.proofs.Steps.{element-contents, no-contents, other_step, document-step, element-step}

module _ (code : List ℕ) (few : length code ≤ compiled_limit) (sheet : bytes_refusal code ≡ no_refusal) (settings : Settings) (g : Page) (ok : Accepted g.nodes g.attributes g.text)
    (rows₀ state₀ : List ℕ) (lent : RunLent code g rows₀ state₀) where
  abbrev count : ℕ
  count = node_count g.nodes

  abbrev kind_at : ℕ → ℕ
  kind_at i = (node_at g.nodes i).kind

  abbrev ReadyAt : ℕ → List ℕ → Type 0
  ReadyAt i state = Ready code g.nodes g.attributes g.text i state

  -- bytes that are a sheet are not empty
  some : 0 < length code
  some = some_bytes code sheet

  -- what holds before row i: stores as long as lent, a state that is right for the open rows, and the rows and texts of those before
  record Before (i : ℕ) (r : Running) : Type 0 where
    rows_long : length r.rows ≡ length rows₀
    state-long : length r.state ≡ length state₀
    ready : ReadyAt i r.state
    texts : r.texts ≡ contents_before settings g i
    right : (j : ℕ) → j < i → style_row_at r.rows j ≡ page_row code settings g j

  -- what the step of row i leaves
  record After (i : ℕ) (r : Running) (s : Stepped) : Type 0 where
    row : s.row ≡ page_row code settings g i
    state-long : length s.state ≡ length r.state
    ready : ReadyAt (suc i) s.state
    texts : s.texts ≡ r.texts ++ row_contents settings g i

  -- rows that are as long as those lent have room for the page
  rows-room : (i : ℕ) (r : Running) → Before i r → count * style_row_width ≤ length r.rows
  rows-room i r b = omega (arith, lent.for-rows, b.rows_long)

  -- and a state for all depths
  state-room : (i : ℕ) (r : Running) → Before i r → depths * part_width code ≤ length r.state
  state-room i r b = omega (arith, lent.for-state, b.state-long)

  -- what holds before a row holds before the next, if the row's step is right
  next : (i : ℕ) (r : Running) (s : Stepped) → i < count → Before i r → After i r s
      → Before (suc i) (record { rows = sets r.rows (i * style_row_width) s.row; state = s.state; texts = s.texts })
  unfolding contents_before
  next i r s there b a =
      record {
        rows_long = length-sets r.rows (i * style_row_width) s.row ∙ b.rows_long;
        state-long = a.state-long ∙ b.state-long;
        ready = a.ready;
        texts = a.texts ∙ ap (λ (l : List ℕ). l ++ row_contents settings g i) b.texts;
        right = λ (j : ℕ) (l : j < suc i). by_row j l (lt-or-ge j i);
      }
    where
      whole : length s.row ≡ style_row_width
      whole = ap length a.row ∙ page-whole code settings g i

      -- a row before it, or its own
      by_row : (j : ℕ) → j < suc i → (j < i) ⊎ (i ≤ j) → style_row_at (sets r.rows (i * style_row_width) s.row) j ≡ page_row code settings g j
      by_row j l (inl h) = row_kept r.rows s.row i count there (rows-room i r b) whole j h ∙ b.right j h
      by_row j l (inr h) =
          let e : i ≡ j = omega arith in
          subst (λ (k : ℕ). style_row_at (sets r.rows (i * style_row_width) s.row) k ≡ page_row code settings g k) e
          (row_written r.rows s.row i count there (rows-room i r b) whole ∙ a.row)

  -- ---- the step of each kind of row
  abbrev parent_of : ℕ → Running → List ℕ
  parent_of i r = style_row_at r.rows (node_at g.nodes i).parent

  abbrev step_at : ℕ → Running → Stepped
  step_at i r = step_on code settings (handed_at g i) (depth_of g.nodes i) (parent_of i r) r.state r.texts

  -- a row that is no element adds nothing to the texts
  nothing-new : (i : ℕ) (l : List ℕ) → ¬ (kind_at i ≡ element_kind) → l ≡ l ++ row_contents settings g i
  nothing-new i l d = rw (no-contents settings g i d) (sym (append-nil l))

  -- the document's step is right: no style, no texts, and a state for its children
  document-after : (r : Running) → Before 0 r → After 0 r (step_at 0 r)
  unfolding document_step
  document-after r b =
      let no-element : ¬ (kind_at 0 ≡ element_kind) = λ (e : kind_at 0 ≡ element_kind). omega (arith, document-kind g.nodes g.attributes g.text ok) in
      subst (After 0 r) (sym (document-step code settings g (parent_of 0 r) r.state r.texts ok))
      (record {
        row = sym (page-other code settings g 0 no-element);
        state-long = document-long code few some g.nodes g.attributes g.text ok r.state r.texts (state-room 0 r b);
        ready = document-ready code few some g.nodes g.attributes g.text ok r.state r.texts (state-room 0 r b);
        texts = nothing-new 0 r.texts no-element;
      })

  module _ (i : ℕ) (there : suc i < count) (r : Running) (b : Before (suc i) r) where
    abbrev p : ℕ
    p = (node_at g.nodes (suc i)).parent

    -- the step of other content is right: an empty row, and all else as it was
    other_after : kind_at (suc i) ≡ other_kind → After (suc i) r (step_at (suc i) r)
    other_after e =
        let no-element : ¬ (kind_at (suc i) ≡ element_kind) = λ (z : kind_at (suc i) ≡ element_kind). omega (arith, e, z) in
        subst (After (suc i) r) (sym (other_step code settings g (parent_of (suc i) r) r.state r.texts (suc i) e))
        (record {
          row = sym (page-other code settings g (suc i) no-element);
          state-long = refl;
          ready = other-ready code few some g.nodes g.attributes g.text ok i there r.state (state-room (suc i) r b) b.ready e;
          texts = nothing-new (suc i) r.texts no-element;
        })

    -- an element, whose parent's row is written before it
    module _ (element : kind_at (suc i) ≡ element_kind) where
      abbrev e : Element
      e = element_at g.nodes g.attributes g.text (suc i)

      abbrev left : Stepped
      left = element_step code settings e (depth_of g.nodes p) (parent_of (suc i) r) r.state r.texts

      -- the selectors that its step finds declare what those that match its path do, and its parent's row is that of the page
      row_here : left.row ≡ page_row code settings g (suc i)
      unfolding element_step
      row_here =
          row-declared _ (matching_here code settings g (suc i)) settings (length code + length r.texts) e (parent_of (suc i) r)
          (ap (λ (places : List ℕ). selectors_declare (found_at code places)) (found_of code few some g.nodes g.attributes g.text ok i there r.state (state-room (suc i) r b) b.ready element)
          ∙ found-declares code sheet (path_of g.nodes g.attributes g.text (suc i)))
          ∙ ap (λ (l : List ℕ). row_below (parent_of (suc i) r) (matching_here code settings g (suc i)) settings (length code + length l) e) b.texts
          ∙ ap (λ (row : List ℕ). row_below row (matching_here code settings g (suc i)) settings (length code + length (contents_before settings g (suc i))) e)
          (b.right p (omega (arith, parent-most g.nodes g.attributes g.text ok i there)))
          ∙ sym (page-element code settings g ok i there element)

      -- so its step is right
      element-after : After (suc i) r (step_at (suc i) r)
      unfolding element_step
      element-after =
          let place = place-right code few some g.nodes g.attributes g.text ok i there r.state (state-room (suc i) r b) b.ready element in
          subst (After (suc i) r) (sym (element-step code settings g (parent_of (suc i) r) r.state r.texts ok i there element place))
          (record {
            row = row_here;
            state-long = element-long code few some g.nodes g.attributes g.text ok i there r.state (state-room (suc i) r b) b.ready element settings (parent_of (suc i) r) r.texts;
            ready = element-ready code few some g.nodes g.attributes g.text ok i there r.state (state-room (suc i) r b) b.ready element settings (parent_of (suc i) r) r.texts;
            texts = ap (λ (l : List ℕ). r.texts ++ l) (sym (element-contents settings g (suc i) element));
          })

  -- ---- every row
  -- the step of every row is right, if the rows before it are
  step_after : (i : ℕ) → i < count → (r : Running) → Before i r → After i r (step_at i r)
  step_after zero there r b = document-after r b
  step_after (suc i) there r b = go (kinds g.nodes g.attributes g.text ok i there)
    where
      go : (kind_at (suc i) ≡ other_kind) ⊎ (kind_at (suc i) ≡ element_kind) → After (suc i) r (step_at (suc i) r)
      go (inl e) = other_after i there r b e
      go (inr e) = element-after i there r b e

  -- k steps from row i on, up to the last, leave what has to hold behind the last row
  run-after : (k i : ℕ) (r : Running) → i + k ≡ count → Before i r → Before count (run_from code settings g k i r)
  unfolding run_from run_step
  run-after zero i r e b = let z : i ≡ count = omega arith in subst (λ (n : ℕ). Before n r) z b
  run-after (suc k) i r e b =
      let there : i < count = omega arith in
      run-after k (suc i) (run_step code settings g i r) (omega arith) (next i r (step_at i r) there b (step_after i there r b))

  -- nothing is asked of what the run finds
  at-start : Before 0 (record { rows = rows₀; state = state₀; texts = [] })
  unfolding contents_before
  at-start = record { rows_long = refl; state-long = refl; ready = tt; texts = refl; right = λ j l. absurd (not-suc-le-zero l) }

  -- the steps of all rows, one after the other, leave the style rows of the page, the rows as long as they were, and the contents of the page
  pub run-rows : (take (rows_least g) (run_of code settings g rows₀ state₀).rows ≡ page_rows code settings g)
      × (length (run_of code settings g rows₀ state₀).rows ≡ length rows₀)
      × ((run_of code settings g rows₀ state₀).texts ≡ page_contents settings g)
  unfolding run_of page_rows page_contents
  run-rows =
      let b = run-after count 0 (record { rows = rows₀; state = state₀; texts = [] }) (omega arith) at-start in
      (rows_are code settings g _ count b.right, b.rows_long, b.texts)
