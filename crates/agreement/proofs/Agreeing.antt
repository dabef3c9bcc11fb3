-- Demand 3 over the calls: where sheets compile, and their bytes are run down an accepted page with all that a run needs, the run agrees with every style call; and a
-- page of which the style call styles some row is accepted.
use Prim.Native.Nat.{ℕ, suc, ◌<◌}
use mathlib.Core.Path.{◌≡◌, refl, ap, ap₂, sym, subst, ◌∙◌}
use mathlib.Core.List.{List, ◌++◌}
use lib.ListN.{length}
use Rattle.combinators.specs.Refusal.{no_refusal, bad_bytes}
use Rattle.syntax.specs.Selector.{RuleSet}
use Rattle.sheets.specs.SheetAnswer.{padded}
use Rattle.origins.specs.Reading.{Sheets, rules, sheets_of}
use Rattle.origins.proofs.ChecksLaws.{none-long}
use Rattle.cascade.specs.declared.slots.Cascade.TheVariants.{Crate}
use Rattle.cascade.specs.Record.{Formed}
use Rattle.cascade.specs.Related.{Each, none, next, SameStyle}
use Rattle.cascade.specs.Row.{row_of, style_at}
use Rattle.cascade.proofs.RowBack.{row_back, style-back, view-formed}
use Rattle.page.specs.Path.{Path}
use Rattle.page.specs.PathOf.{path_of}
use Rattle.page.specs.Rows.{node_count, node_at, element_kind}
use Rattle.styles.specs.declared.settings.Settings.{Settings}
use Rattle.styles.specs.Computed.{sources_along, computed_style}
use Rattle.page.specs.Lent.{Page}
use Rattle.styles.specs.Lent.{SheetTexts}
use Rattle.styles.specs.Said.{Rules}
use Rattle.styles.specs.Says.{Says}
use Rattle.styles.proofs.Called.{cascaded-formed}
use Rattle.styling.specs.Claim.{row_left, texts_left, RowSays}
use Rattle.styling.proofs.Claiming as claims
use Rattle.styling.proofs.Claiming.{padded-long}
use Rattle.runner.specs.PageRows.{style_row_at, page_contents, page_row, page_rows}
use Rattle.runner.proofs.PageRowLaws.{row-there}
use Rattle.running.specs.RunAnswer.{RunLeft, ran}
use Rattle.agreement.specs.Calls.{CompileBuffers, RunBuffers, StyleBuffers, compile_with, run_with, style_with, code_of, texts_of, AcceptedPage, StyleLent, SameLengths}
use Rattle.agreement.specs.ComputedRows.{RowComputed, ComputedRows}
use Rattle.agreement.specs.Demand.{AllRows, Agreement, Demand3}
use Rattle.agreement.specs.SameRow.{SameRow}
use Rattle.agreement.proofs.CompileTells.{padded-front, Compiled, compile-tells, bytes-taken}
use Rattle.agreement.proofs.Demand.{every-row}
use Rattle.agreement.proofs.OwnSlots.{computed-own}
use Rattle.agreement.proofs.RunTells.{RunTakes, run-leaves, not_short, never-refused, runs-free}
use Rattle.agreement.proofs.SameRows.{rows_same}
use Rattle.agreement.proofs.StyleTells.{style-tells, element-styled}

-- sheets are read in one way
read-once : (m : Sheets) (x y : Rules RuleSet) → m ≡ rules x.agent x.user x.author → m ≡ rules y.agent y.user y.author → x ≡ y
read-once m x y e f =
    let a : x.agent ≡ y.agent = cc in
    let u : x.user ≡ y.user = cc in
    let w : x.author ≡ y.author = cc in
    ap₂ (λ (p q : List RuleSet). record { agent = p; user = q; author = x.author }) a u ∙ ap (λ (q : List RuleSet). record { agent = y.agent; user = y.user; author = q }) w

-- lists that go member by member are of one length
each_long : {A B : Type 0} {P : A → B → Type 0} {l : List A} {m : List B} → Each P l m → length l ≡ length m
each_long none = refl
each_long (next p e) = ap suc (each_long e)

-- a row that is a computed style has all its slots
style-formed : (sheets : Rules RuleSet) (settings : Settings) (p : Path) {t row : List ℕ} (r : RowComputed t row (computed_style Crate sheets settings p)) → Formed r.style
unfolding computed_style
style-formed sheets settings p r =
    let f = cascaded-formed Crate (sources_along sheets settings p) in
    record { main = each_long r.same.main.all ∙ f.main; before = each_long r.same.before.all ∙ f.before; after = each_long r.same.after.all ∙ f.after }

-- read back from its numbers, it says that style
pub computed-read : (sheets : Rules RuleSet) (settings : Settings) (p : Path) (t row : List ℕ) → RowComputed t row (computed_style Crate sheets settings p)
    → SameStyle (Says t) (style_at row) (computed_style Crate sheets settings p)
computed-read sheets settings p t row r =
    let back : style_at row ≡ r.style = ap style_at r.written ∙ style-back r.style (style-formed sheets settings p r) in
    rw back r.same

module _ (s : SheetTexts) (g : Page) (settings : Settings) (code : List ℕ) (c : Compiled s code) (b : RunBuffers) (t : RunTakes code g b) where
  abbrev contents : List ℕ
  contents = page_contents settings g

  abbrev row_at : ℕ → List ℕ
  row_at i = page_row code settings g i

  -- all rows of the page, over the definitions
  all-rows : AllRows c.sheets settings g code
  all-rows =
      let l = none-long (length s.agent) (length s.user) (length s.author) c.short in
      let m = c.sheets in
      rw c.bytes (every-row s.agent s.user s.author m.agent m.user m.author c.read l.0 l.1 l.2 g t.page settings)

  abbrev leaves : RunLeft
  leaves = ran b.rows b.texts b.state b.rules b.tokens b.brackets code settings g

  -- the run leaves them
  row-left : (i : ℕ) → i < node_count g.nodes → style_row_at leaves.rows i ≡ row_at i
  unfolding ran padded page_rows
  row-left i h = row-there code settings g (node_count g.nodes) i _ h

  -- and its texts are the contents of the page
  texts-there : texts_of leaves ≡ contents
  unfolding ran
  texts-there = padded-front contents (length b.texts)

  -- the row of an element is the style computed from the sheets
  computed : ComputedRows settings s g code leaves
  computed =
      record {
        sheets = c.sheets;
        read-texts = c.read;
        element-rows = λ i h k.
            let m = computed_style Crate c.sheets settings (path_of g.nodes g.attributes g.text i) in
            subst (λ (z : List ℕ). RowComputed (code ++ z) (style_row_at leaves.rows i) m) (sym texts-there)
            (subst (λ (z : List ℕ). RowComputed (code ++ contents) z m) (sym (row-left i h)) (all-rows.element-rows i h k));
      }

  -- a row that the style call styles
  row_same : (i : ℕ) (v : StyleBuffers) → (style_with settings s g i v).answer.refusal ≡ no_refusal
      → SameRow (code ++ texts_of leaves) (texts_left (style_with settings s g i v)) (style_row_at leaves.rows i) (row_left (style_with settings s g i v))
  row_same i v e =
      let a = style-tells settings s g i v e in
      let l = style_with settings s g i v in
      let says : RowSays Crate settings s (path_of g.nodes g.attributes g.text i) l = claims.style-says Crate settings s g i v.row v.texts v.rules v.tokens v.brackets e in
      let m = computed_style Crate c.sheets settings (path_of g.nodes g.attributes g.text i) in
      let run = all-rows.element-rows i a.there a.element in
      let x = run.style in
      let y = style_at (row_left l) in
      let sheets : says.sheets ≡ c.sheets = read-once (sheets_of s.agent s.user s.author) says.sheets c.sheets says.read c.read in
      let by-style : SameStyle (Says (texts_left l)) y m = rw sheets at says.says in
      let same : SameRow (code ++ contents) (texts_left l) (row_of x) (row_of y) =
      rows_same (code ++ contents) (texts_left l) x y m (style-formed c.sheets settings (path_of g.nodes g.attributes g.text i) run) (view-formed (row_left l)) (computed-own c.sheets settings (path_of g.nodes g.attributes g.text i)) run.same by-style in
      let left : row_of x ≡ style_row_at leaves.rows i = sym (row-left i a.there ∙ run.written) in
      let right : row_of y ≡ row_left l = row_back (row_left l) says.fine in
      subst (λ (z : List ℕ). SameRow (code ++ z) (texts_left l) (style_row_at leaves.rows i) (row_left l)) (sym texts-there)
      (subst (λ (z : List ℕ). SameRow (code ++ contents) (texts_left l) z (row_left l)) left
      (subst (λ (z : List ℕ). SameRow (code ++ contents) (texts_left l) (row_of x) z) right same))

  -- the run as it leaves
  leaves-agree : Agreement settings s g code leaves
  unfolding ran
  leaves-agree =
      record {
        answered = refl;
        computed-rows = computed;
        styled-rows = row_same;
        other-rows = λ i h n. row-left i h ∙ all-rows.other-rows i h n;
        within = padded-long contents (length b.texts);
        contents = texts-there;
      }

-- where compiling refuses nothing, the page is accepted and the run is lent enough, the run agrees with every style call of the page; and where a style call refuses
-- nothing the page is accepted
pub demand3 : Demand3
demand3 =
    record {
      agrees = λ s g settings b w e page n.
          let code = code_of (compile_with s b) in
          let c : Compiled s code = compile-tells s b e in
          let t : RunTakes code g w = record { few = c.few; suffices = not_short code settings g w c.few n; page = page; bytes = bytes-taken s code c } in
          subst (Agreement settings s g code) (sym (run-leaves code settings g w t)) (leaves-agree s g settings code c w t);
      accepts = λ s g settings j v f. (style-tells settings s g j v f).page;
    }

-- ---- beside it: what else holds of sheets that compile, and of runs
-- three sheets that were compiled without a refusal
module _ (s : SheetTexts) (b : CompileBuffers) (compiles : (compile_with s b).answer.refusal ≡ no_refusal) where
  -- every element of an accepted page is styled, by every style call that is lent enough: so the rows that `agrees` speaks of are those of all elements
  pub elements-styled : (settings : Settings) (g : Page) → AcceptedPage g
      → (i : ℕ) → i < node_count g.nodes → (node_at g.nodes i).kind ≡ element_kind → (v : StyleBuffers) → StyleLent s g v → (style_with settings s g i v).answer.refusal ≡ no_refusal
  elements-styled settings g page i there element v l =
      element-styled settings s g i v (code_of (compile_with s b)) (compile-tells s b compiles) (record { page = page; there = there; element = element }) l

  -- no run refuses their bytes as no sheet
  pub bytes-never-refused : (settings : Settings) (g : Page) (w : RunBuffers) → ¬ ((run_with (code_of (compile_with s b)) settings g w).answer.refusal.number ≡ bad_bytes)
  bytes-never-refused settings g w =
      never-refused (code_of (compile_with s b)) settings g w (bytes-taken s (code_of (compile_with s b)) (compile-tells s b compiles))

-- what a run that refuses nothing leaves, and answers, does not depend on what stood in its buffers, whatever bytes it runs
pub buffers-free : (code : List ℕ) (settings : Settings) (g : Page) (b b' : RunBuffers) → SameLengths b b' → (run_with code settings g b).answer.refusal ≡ no_refusal
    → run_with code settings g b ≡ run_with code settings g b'
buffers-free code settings g b b' same e = runs-free code settings g b b' same e
