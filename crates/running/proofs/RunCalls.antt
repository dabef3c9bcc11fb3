-- Returns of the functions of a run: what is left of a page that was styled, and the refusals in their order.
use mathlib.Core.Path.{◌≡◌, refl, ap, ap₂, sym, ◌∙◌}
use mathlib.Core.Bool.{Bool, true, false, not}
use mathlib.Core.List.{List, ◌++◌}
use Prim.Native.Nat.{ℕ, ◌-◌, ◌*◌, ◌≤◌, ◌<◌}
use native.Mathlib.Omega.{arith}
use borrow.Author.Tests.{leb-true, le-leb, lt-ltb, le-ltb}
use lib.ListN.{length, take, drop, replicate}
use lib.Seq.{length-take-le}
use Rattle.combinators.specs.Choice.{pick, is}
use Rattle.combinators.specs.LeastLengths.{stores_suffice}
use Rattle.combinators.specs.Refusal.{no_refusal, refused_at, bad_bytes}
use Rattle.combinators.specs.declared.refusals.Refusal.{Refusal}
use Rattle.combinators.specs.Store.{cleared}
use Rattle.combinators.proofs.Cleared.{cleared-is, cleared-throughout}
use Rattle.combinators.proofs.Filled.{from-returns}
use Rattle.combinators.proofs.LeastLaws.{least}
use Rattle.combinators.proofs.Rules.{pick_true, pick-false, and_both, and-true, is-yes, is-no}
use Rattle.sheets.specs.SheetAnswer.{padded}
use Rattle.cascade.specs.Row.{style_row_width}
use Rattle.page.specs.Accepted as page
use Rattle.page.specs.Accepted.{error_refusal, page_refusal}
use Rattle.page.specs.declared.check.PageError.{PageError}
use Rattle.page.specs.declared.check.PageError.TheVariants as error
use Rattle.page.specs.Rows.{node_count}
use Rattle.page.proofs.AcceptedPages.{accepted}
use borrow.Rule.Slice.PartMut.{put_mid}
use Rattle.std.proofs.Common.{Result, Ok, Err}
use Rattle.std.proofs.lemmas.Bool.{not_from_true, not_from_false}
use Rattle.std.specs.Result.{IsErrAnd}
use Rattle.compiled.specs.Answer as compiled
use Rattle.compiled.specs.Answer.{bytes_refusal}
use Rattle.compiled.specs.declared.places.Fault.{Fault}
use Rattle.compiled.specs.Sheet.{compiled_limit}
use Rattle.styles.specs.declared.settings.Settings.{Settings}
use Rattle.page.specs.Lent.{Page}
use Rattle.runner.specs.LeastLengths.{rows_least}
use Rattle.runner.specs.PageRows.{page_contents, rows_before, page_rows}
use Rattle.runner.specs.Run.{Running, run_of}
use Rattle.runner.proofs.PageRowLaws.{rows_long}
use Rattle.runner.proofs.RunRows.{run-rows}
use Rattle.running.specs.declared.run.RunError.{RunError}
use Rattle.running.specs.declared.run.RunError.TheVariants.{TooLong, ShortStore, BadPage, BadBytes}
use Rattle.running.specs.Ready.{Lengths, RunReady}
use Rattle.styles.specs.Answer.{TextsAnswer}
use Rattle.running.specs.RunAnswer.{RunLeft, run_refusal, numbers_of, unchanged, ran, run_suffices, run_call}

-- ---- answers in numbers
-- those of a page that was styled
pub styled-numbers : (texts : ℕ) → numbers_of (Ok texts) ≡ record { refusal = no_refusal; texts = texts }
unfolding numbers_of
styled-numbers texts = refl

-- those of a refusal
refused-numbers : (e : RunError) → numbers_of (Err e) ≡ record { refusal = run_refusal e; texts = 0 }
unfolding numbers_of
refused-numbers e = refl

-- no error of a page has the number 0
error-loud : (e : PageError) → ¬ ((error_refusal e).number ≡ 0)
unfolding error_refusal
error-loud error.TooLarge n = omega (arith, n)
error-loud (error.BadRow row) n = omega (arith, n)
error-loud (error.BadText row) n = omega (arith, n)

-- ---- the answer and the six buffers, one by one
-- what is left is the same where the answer and each of the six buffers are
left_by : {a a' : TextsAnswer} {r r' t t' s s' u u' k k' b b' : List ℕ} → a ≡ a' → r ≡ r' → t ≡ t' → s ≡ s' → u ≡ u' → k ≡ k' → b ≡ b'
    → ◌≡◌ {A = RunLeft} (record { answer = a; rows = r; texts = t; state = s; rules = u; tokens = k; brackets = b }) (record { answer = a'; rows = r'; texts = t'; state = s'; rules = u'; tokens = k'; brackets = b' })
left_by ea er et es eu ek eb = rw (ea, er, et, es, eu, ek, eb) refl

-- zeros over all that follows a place in a store
pub filled-behind : (n : ℕ) (l z : List ℕ) → n ≤ length l → z ≡ replicate (length (take (length l - n) (drop n l))) 0 → put_mid n (length l - n) l z ≡ cleared n l
filled-behind n l z h e = from-returns 0 n l n (omega arith) z e

-- ---- a page that was styled
module _ (settings : Settings) {code : List ℕ} {g : Page} {rows₀ state₀ rules₀ tokens₀ brackets₀ texts₀ : List ℕ} (r : RunReady code g rows₀ state₀ rules₀ tokens₀ brackets₀ texts₀) where
  abbrev run : Running
  run = run_of code settings g rows₀ state₀

  -- its steps leave the style rows and the contents of the page
  left-rows : (take (rows_least g) run.rows ≡ page_rows code settings g) × (length run.rows ≡ length rows₀) × (run.texts ≡ page_contents settings g)
  left-rows =
      run-rows code r.lengths.few r.sheet settings g (accepted g.nodes g.attributes g.text r.page) rows₀ state₀
      (record { for-rows = r.lengths.for-rows; for-state = r.lengths.for-state })

  -- cleared behind the page, the rows are its style rows and zeros
  rows-cleared : cleared (rows_least g) run.rows ≡ padded (page_rows code settings g) (length rows₀)
  unfolding padded page_rows
  rows-cleared =
      let long : length (rows_before code settings g (node_count g.nodes)) ≡ rows_least g = rows_long code settings g (node_count g.nodes) in
      let zeros : length run.rows - rows_least g ≡ length rows₀ - length (rows_before code settings g (node_count g.nodes)) = omega (arith, long, left-rows.1) in
      cleared-is (rows_least g) run.rows ∙ ap₂ (λ (l : List ℕ) (i : ℕ). l ++ replicate i 0) left-rows.0 zeros

  -- with the stores cleared, what is left of the page is its style rows, its contents and zeros
  pub page-left : (rows₁ state₁ rules₁ tokens₁ brackets₁ texts₁ : List ℕ) (n count : ℕ) → record { rows = rows₁; state = state₁; texts = take n texts₁ } ≡ run → n ≤ length texts₁
      → length state₁ ≡ length state₀ → length rules₁ ≡ length rules₀ → length tokens₁ ≡ length tokens₀ → length brackets₁ ≡ length brackets₀ → length texts₁ ≡ length texts₀
      → count ≡ node_count g.nodes
      → (rows₂ texts₂ state₂ rules₂ tokens₂ brackets₂ : List ℕ) → rows₂ ≡ cleared (count * style_row_width) rows₁ → texts₂ ≡ cleared n texts₁
      → rules₂ ≡ cleared 0 rules₁ → tokens₂ ≡ cleared 0 tokens₁ → brackets₂ ≡ cleared 0 brackets₁ → state₂ ≡ replicate (length state₁) 0
      → (a : TextsAnswer) → a ≡ record { refusal = no_refusal; texts = n }
      → record { answer = a; rows = rows₂; texts = texts₂; state = state₂; rules = rules₂; tokens = tokens₂; brackets = brackets₂ } ≡ ran rows₀ texts₀ state₀ rules₀ tokens₀ brackets₀ code settings g
  unfolding ran padded
  page-left rows₁ state₁ rules₁ tokens₁ brackets₁ texts₁ n count e w ls lu lk lb lt ec rows₂ texts₂ state₂ rules₂ tokens₂ brackets₂ er et eu ek eb es a ea =
      let texts : take n texts₁ ≡ page_contents settings g = ap (λ (x : Running). x.texts) e ∙ left-rows.2 in
      let long : n ≡ length (page_contents settings g) = sym (length-take-le n texts₁ w) ∙ ap length texts in
      let zeros : length texts₁ - n ≡ length texts₀ - length (page_contents settings g) = omega (arith, lt, long) in
      left_by
      (ea ∙ ap (λ (i : ℕ). record { refusal = no_refusal; texts = i }) long)
      (er ∙ ap (λ (i : ℕ). cleared (i * style_row_width) rows₁) ec ∙ ap (λ (x : Running). cleared (node_count g.nodes * style_row_width) x.rows) e ∙ rows-cleared)
      (et ∙ cleared-is n texts₁ ∙ ap₂ (λ (l : List ℕ) (i : ℕ). l ++ replicate i 0) texts zeros)
      (es ∙ ap (λ (n : ℕ). replicate n 0) ls)
      (cleared-throughout rules₁ rules₀ rules₂ lu eu)
      (cleared-throughout tokens₁ tokens₀ tokens₂ lk ek)
      (cleared-throughout brackets₁ brackets₀ brackets₂ lb eb)

-- ---- the refusals
module _ (rows₀ texts₀ state₀ rules₀ tokens₀ brackets₀ code : List ℕ) (settings : Settings) (g : Page) where
  abbrev refuses : TextsAnswer → RunLeft
  refuses a = record { answer = a; rows = rows₀; texts = texts₀; state = state₀; rules = rules₀; tokens = tokens₀; brackets = brackets₀ }

  -- an error leaves all buffers as they were
  refused_as : {q : Refusal} (e : RunError) → run_refusal e ≡ q → refuses (numbers_of (Err e)) ≡ unchanged rows₀ texts₀ state₀ rules₀ tokens₀ brackets₀ q
  unfolding unchanged
  refused_as e eq = left_by (refused-numbers e ∙ ap (λ (z : Refusal). record { refusal = z; texts = 0 }) eq) refl refl refl refl refl refl

  -- ---- the call, in the order of the refusals
  abbrev Called : RunLeft → Type 0
  Called z = z ≡ run_call rows₀ texts₀ state₀ rules₀ tokens₀ brackets₀ code settings g

  -- the return where the compiled bytes are too long
  pub too_long_lem : compiled_limit < length code → Called (refuses (numbers_of (Err TooLong)))
  unfolding run_call run_refusal
  too_long_lem h = pick_true _ _ _ _ (lt-ltb compiled_limit (length code) h) (refused_as TooLong refl)

  module _ (h : length code ≤ compiled_limit) {v : Bool} (told : v ≡ run_suffices rows₀ texts₀ state₀ rules₀ tokens₀ brackets₀ code g) where
    -- the return where what is lent is too short
    pub short-store : v ≡ false → Called (refuses (numbers_of (Err ShortStore)))
    unfolding run_call run_refusal
    short-store f = pick-false _ _ _ _ (le-ltb compiled_limit (length code) h) (pick_true _ _ _ _ (not_from_false _ (sym told ∙ f)) (refused_as ShortStore refl))

    -- where the test holds, rows, state and stores have the least lengths
    pub long-enough : v ≡ true → Lengths code g rows₀ state₀ rules₀ tokens₀ brackets₀ texts₀
    unfolding run_suffices
    long-enough f =
        let a = and-true _ _ (sym told ∙ f) in
        let b = and-true _ _ a.1 in
        record { few = h; for-rows = leb-true _ _ a.0; for-state = leb-true _ _ b.0; least = least refl b.1 }

  -- ---- a page and bytes that are refused or not
  abbrev PageAnswer : Result Unit PageError → Type 0
  PageAnswer p = page.refusal_of p ≡ page_refusal g.nodes g.attributes g.text

  abbrev BytesAnswer : Result Unit Fault → Type 0
  BytesAnswer b = compiled.refusal_of b ≡ bytes_refusal code

  -- a page that is accepted is refused by no definition
  page-passed : {p : Result Unit PageError} → PageAnswer p → p ≡ Ok tt → no_refusal ≡ page_refusal g.nodes g.attributes g.text
  unfolding page.refusal_of
  page-passed ep passed = ap page.refusal_of (sym passed) ∙ ep

  -- nor are bytes that are a sheet
  bytes-passed : {b : Result Unit Fault} → BytesAnswer b → b ≡ Ok tt → no_refusal ≡ bytes_refusal code
  unfolding compiled.refusal_of
  bytes-passed eb sheet = ap compiled.refusal_of (sym sheet) ∙ eb

  -- with neither refused, what a run asks for is there
  pub all-ready : Lengths code g rows₀ state₀ rules₀ tokens₀ brackets₀ texts₀ → {p : Result Unit PageError} {b : Result Unit Fault} → PageAnswer p → p ≡ Ok tt → BytesAnswer b → b ≡ Ok tt
      → RunReady code g rows₀ state₀ rules₀ tokens₀ brackets₀ texts₀
  all-ready l ep passed eb sheet = record { sheet = sym (bytes-passed eb sheet); page = sym (page-passed ep passed); lengths = l }

  -- the test of a refusal fails for none
  none-refused : {q : Refusal} → no_refusal ≡ q → not (is q.number no_refusal.number) ≡ false
  none-refused e = not_from_true _ (is-yes _ _ (ap (λ (r : Refusal). r.number) (sym e)))

  -- and holds for one whose number is not 0
  one-refused : {q q' : Refusal} → q ≡ q' → ¬ (q.number ≡ 0) → not (is q'.number no_refusal.number) ≡ true
  one-refused e h = not_from_false _ (is-no _ _ (λ n. h (ap (λ (r : Refusal). r.number) e ∙ n)))

  -- ---- the call behind the tests of what is lent
  module _ (l : Lengths code g rows₀ state₀ rules₀ tokens₀ brackets₀ texts₀) where
    -- buffers of the least lengths suffice
    lengths-suffice : run_suffices rows₀ texts₀ state₀ rules₀ tokens₀ brackets₀ code g ≡ true
    unfolding run_suffices stores_suffice
    lengths-suffice =
        and_both _ _ (le-leb _ _ l.for-rows) (and_both _ _ (le-leb _ _ l.for-state)
        (and_both _ _ (le-leb _ _ l.least.for-texts) (and_both _ _ (le-leb _ _ l.least.for-brackets) (and_both _ _ (le-leb _ _ l.least.for-rules) (le-leb _ _ l.least.for-tokens)))))

    -- what the call leaves is decided by the page and the bytes
    behind : {z : RunLeft} → z ≡ pick (not (is (page_refusal g.nodes g.attributes g.text).number no_refusal.number)) (unchanged rows₀ texts₀ state₀ rules₀ tokens₀ brackets₀ (page_refusal g.nodes g.attributes g.text))
        (pick (not (is (bytes_refusal code).number no_refusal.number)) (unchanged rows₀ texts₀ state₀ rules₀ tokens₀ brackets₀ (bytes_refusal code)) (ran rows₀ texts₀ state₀ rules₀ tokens₀ brackets₀ code settings g)) → Called z
    unfolding run_call
    behind e = pick-false _ _ _ _ (le-ltb compiled_limit (length code) l.few) (pick-false _ _ _ _ (not_from_true _ lengths-suffice) e)

    -- the return where the page is refused: its error becomes the run's
    pub page-refused : {p : Result Unit PageError} {e : PageError} → PageAnswer p → p ≡ Err e → (o : Result ℕ RunError) → IsErrAnd o (λ q. q ≡ BadPage e) → Called (refuses (numbers_of o))
    unfolding run_refusal page.refusal_of
    page-refused {p} {e} ep was (Err q) h =
        let is : error_refusal e ≡ page_refusal g.nodes g.attributes g.text = ap page.refusal_of (sym was) ∙ ep in
        behind (pick_true _ _ _ _ (one-refused is (error-loud e)) (refused_as q (ap run_refusal h ∙ is)))
    page-refused ep was (Ok n) h = absurd h

    -- the return where the page is not refused, and the bytes are
    pub bytes-refused : {p : Result Unit PageError} {b : Result Unit Fault} {f : Fault} → PageAnswer p → p ≡ Ok tt → BytesAnswer b → b ≡ Err f
        → (o : Result ℕ RunError) → IsErrAnd o (λ q. q ≡ BadBytes f) → Called (refuses (numbers_of o))
    unfolding run_refusal compiled.refusal_of
    bytes-refused {p} {b} {f} ep passed eb was (Err q) h =
        let is : refused_at bad_bytes f.place ≡ bytes_refusal code = ap compiled.refusal_of (sym was) ∙ eb in
        behind (pick-false _ _ _ _ (none-refused (page-passed ep passed)) (pick_true _ _ _ _ (one-refused is (λ n. omega (arith, n))) (refused_as q (ap run_refusal h ∙ is))))
    bytes-refused ep passed eb was (Ok n) h = absurd h

    -- the return where neither is refused: the run of the page is what is left
    pub page-run : {p : Result Unit PageError} {b : Result Unit Fault} → PageAnswer p → p ≡ Ok tt → BytesAnswer b → b ≡ Ok tt
        → {z : RunLeft} → z ≡ ran rows₀ texts₀ state₀ rules₀ tokens₀ brackets₀ code settings g → Called z
    page-run ep passed eb sheet e = behind (pick-false _ _ _ _ (none-refused (page-passed ep passed)) (pick-false _ _ _ _ (none-refused (bytes-passed eb sheet)) e))
