-- What `run` answers and leaves: the refusals of document 01 in the order in which they are looked for, or the style rows of a page.
use Rattle.std.specs.Prelude.{ℕ, Bool, not, Result, Ok, Err, List, leb, ltb, length}
use Rattle.combinators.specs.Choice.{pick, and, is}
use Rattle.combinators.specs.LeastLengths.{stores_suffice}
use Rattle.combinators.specs.Refusal.{no_refusal, refused, refused_at, too_long, short_store, bad_bytes}
use Rattle.combinators.specs.declared.refusals.Refusal.{Refusal}
use Rattle.sheets.specs.SheetAnswer.{padded, zeros}
use Rattle.page.specs.Accepted.{error_refusal, page_refusal}
use Rattle.compiled.specs.Answer.{bytes_refusal}
use Rattle.compiled.specs.Sheet.{compiled_limit}
use Rattle.combinators.specs.declared.lent.Stores.{Stores}
use Rattle.styles.specs.Answer.{TextsAnswer, refused_texts}
use Rattle.styles.specs.declared.settings.Settings.{Settings}
use Rattle.page.specs.Lent.{Page, page_in}
use Rattle.runner.specs.LeastLengths.{run_text_bytes, state_least, rows_least}
use Rattle.runner.specs.PageRows.{page_contents, page_rows}
use Rattle.running.specs.declared.input.RunInput.{RunInput}
use Rattle.running.specs.declared.run.RunError.{RunError}
use Rattle.running.specs.declared.run.RunError.TheVariants.{TooLong, ShortStore, BadPage, BadBytes}

-- ---- the answer in numbers
-- why a run is refused
unfoldable pub run_refusal : RunError → Refusal
run_refusal TooLong = refused too_long
run_refusal ShortStore = refused short_store
run_refusal (BadPage e) = error_refusal e
run_refusal (BadBytes f) = refused_at bad_bytes f.place

unfoldable pub numbers_of : Result ℕ RunError → TextsAnswer
numbers_of (Ok texts) = record { refusal = no_refusal; texts = texts }
numbers_of (Err e) = refused_texts (run_refusal e)

-- ---- what is left of the call: its answer and the six buffers
pub record RunLeft : Type 0 where
  pub answer : TextsAnswer
  pub rows : List ℕ
  pub texts : List ℕ
  pub state : List ℕ
  pub rules : List ℕ
  pub tokens : List ℕ
  pub brackets : List ℕ

-- of a call that is lent rows, a state and the stores
abbrev pub left_in : TextsAnswer → List ℕ → List ℕ → Stores → RunLeft
left_in a rows state s =
    record { answer = a; rows = rows; texts = s.texts.now; state = state; rules = s.rules.now; tokens = s.tokens.now; brackets = s.brackets.now }

module _ (rows texts state rules tokens brackets : List ℕ) where
  -- "after others it is unchanged"
  unfoldable pub unchanged : Refusal → RunLeft
  unchanged r = record { answer = refused_texts r; rows = rows; texts = texts; state = state; rules = rules; tokens = tokens; brackets = brackets }

  -- the style rows of the page and the contents of its `style` attributes; "After an answer all beyond it, and all work stores, are zero"
  unfoldable pub ran : List ℕ → Settings → Page → RunLeft
  ran code settings g =
      let a : TextsAnswer = record { refusal = no_refusal; texts = length (page_contents settings g) } in
      let styles = padded (page_rows code settings g) (length rows) in
      let contents = padded (page_contents settings g) (length texts) in
      record { answer = a; rows = styles; texts = contents; state = zeros state; rules = zeros rules; tokens = zeros tokens; brackets = zeros brackets }

  -- "2 a lent buffer too short": rows and state, and the stores for the texts that are lent
  unfoldable pub run_suffices : List ℕ → Page → Bool
  run_suffices code g =
      and (leb (rows_least g) (length rows))
      (and (leb (state_least code) (length state)) (stores_suffice (run_text_bytes g) (length rules) (length tokens) (length brackets) (length texts)))

  -- in the order 1, 2, 5, 6, 7, 9
  unfoldable pub run_call : List ℕ → Settings → Page → RunLeft
  run_call code settings g =
      let page = page_refusal g.nodes g.attributes g.text in
      let bytes = bytes_refusal code in
      pick (ltb compiled_limit (length code)) (unchanged (refused too_long))
      (pick (not (run_suffices code g)) (unchanged (refused short_store))
      (pick (not (is page.number no_refusal.number)) (unchanged page)
      (pick (not (is bytes.number no_refusal.number)) (unchanged bytes)
      (ran code settings g))))

-- ---- the same of what is lent: what a run reads, rows, a state and the stores
-- where nothing is refused
abbrev pub ran_of : RunInput → List ℕ → List ℕ → Stores → RunLeft
ran_of x rows state s = ran rows s.texts.now state s.rules.now s.tokens.now s.brackets.now x.compiled.now x.settings (page_in x.page)

abbrev pub run_call_of : RunInput → List ℕ → List ℕ → Stores → RunLeft
run_call_of x rows state s = run_call rows s.texts.now state s.rules.now s.tokens.now s.brackets.now x.compiled.now x.settings (page_in x.page)

-- whether it suffices
abbrev pub run_suffices_of : RunInput → List ℕ → List ℕ → Stores → Bool
run_suffices_of x rows state s = run_suffices rows s.texts.now state s.rules.now s.tokens.now s.brackets.now x.compiled.now (page_in x.page)
