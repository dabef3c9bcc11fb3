-- What a style call answers and leaves: the refusals of document 01 in the order in which they are looked for, or the style row of the asked element.
use Rattle.std.specs.Prelude.{ℕ, ◌+◌, ◌*◌, Bool, not, Result, Ok, Err, List, leb, ltb, length}
use Rattle.combinators.specs.Choice.{pick, and, is}
use Rattle.combinators.specs.LeastLengths.{stores_suffice}
use Rattle.combinators.specs.Refusal.{no_refusal, refused, refused_in, too_long, short_store, not_utf8, no_element, panic}
use Rattle.combinators.specs.declared.refusals.Refusal.{Refusal}
use Rattle.sheets.specs.SheetAnswer.{padded, zeros}
use Rattle.origins.specs.Checks.{any_too_long, all_valid}
use Rattle.origins.specs.Reading.{Sheets, rules, panicked, sheets_of}
use Rattle.cascade.specs.declared.slots.Cascade.{Cascade}
use Rattle.cascade.specs.Row.{style_row_width}
use Rattle.page.specs.Accepted.{error_refusal, page_refusal}
use Rattle.page.specs.Path.{Path}
use Rattle.page.specs.PathOf.{path_of}
use Rattle.page.specs.Rows.{node_count, node_at, element_kind, attribute_rows}
use Rattle.styling.specs.declared.style.StyleError.{StyleError}
use Rattle.styling.specs.declared.style.StyleError.TheVariants.{TooLong, ShortStore, NotUtf8, BadPage, NoElement, Panic}
use Rattle.combinators.specs.declared.lent.Stores.{Stores}
use Rattle.styles.specs.declared.settings.Settings.{Settings}
use Rattle.page.specs.Lent.{Page}
use Rattle.styles.specs.Lent.{SheetTexts}
use Rattle.combinators.specs.declared.lent.SheetTexts as code
use Rattle.styles.specs.Said.{Rules}
use Rattle.styles.specs.Answer.{TextsAnswer, refused_texts}
use Rattle.styles.specs.StyleCall.{call_row, call_store}

-- "a style call takes that [name bytes plus twice the attributes] plus the bytes of its three sheets", as lent
unfoldable pub call_bytes : SheetTexts → Page → ℕ
call_bytes s g = length s.agent + length s.user + length s.author + 2 * attribute_rows g.attributes + length g.text

-- "8 the asked row is no element or beyond the page", since "Styles are given for elements only."
unfoldable pub is_element : List ℕ → ℕ → Bool
is_element nodes row = and (ltb row (node_count nodes)) (is (node_at nodes row).kind element_kind)

-- ---- the answer in numbers
-- why a call is refused
unfoldable pub style_refusal : StyleError → Refusal
style_refusal TooLong = refused too_long
style_refusal ShortStore = refused short_store
style_refusal NotUtf8 = refused not_utf8
style_refusal (BadPage e) = error_refusal e
style_refusal NoElement = refused no_element
style_refusal (Panic p) = refused_in panic p.text p.place

unfoldable pub numbers_of : Result ℕ StyleError → TextsAnswer
numbers_of (Ok texts) = record { refusal = no_refusal; texts = texts }
numbers_of (Err e) = refused_texts (style_refusal e)

-- ---- what is left of the call: its answer and the five buffers
pub record StyleLeft : Type 0 where
  pub answer : TextsAnswer
  pub row : List ℕ
  pub texts : List ℕ
  pub rules : List ℕ
  pub tokens : List ℕ
  pub brackets : List ℕ

-- of a call that is lent a row and the stores
abbrev pub left_in : TextsAnswer → List ℕ → Stores → StyleLeft
left_in a row s = record { answer = a; row = row; texts = s.texts.now; rules = s.rules.now; tokens = s.tokens.now; brackets = s.brackets.now }

module _ (row texts rules₀ tokens brackets : List ℕ) where
  -- "After 4 .. each writable buffer is zero throughout"
  unfoldable pub zeroed : Refusal → StyleLeft
  zeroed r =
      record { answer = refused_texts r; row = zeros row; texts = zeros texts; rules = zeros rules₀; tokens = zeros tokens; brackets = zeros brackets }

  -- "after others it is unchanged"
  unfoldable pub unchanged : Refusal → StyleLeft
  unchanged r = record { answer = refused_texts r; row = row; texts = texts; rules = rules₀; tokens = tokens; brackets = brackets }

  -- the numbers of a style row and the contents; "After an answer all beyond it, and all work stores, are zero"
  unfoldable pub answered : List ℕ → List ℕ → StyleLeft
  answered numbers contents =
      let a : TextsAnswer = record { refusal = no_refusal; texts = length contents } in
      let style = padded numbers (length row) in
      let names = padded contents (length texts) in
      record { answer = a; row = style; texts = names; rules = zeros rules₀; tokens = zeros tokens; brackets = zeros brackets }

  -- of sheets that were read, for the path of an element
  unfoldable pub styled_left : Cascade → Settings → Path → Sheets → StyleLeft
  styled_left c settings p (rules a u w) =
      let sheets : Rules _ = record { agent = a; user = u; author = w } in
      answered (call_row c sheets settings p) (call_store sheets settings p)
  styled_left c settings p (panicked which byte) = zeroed (refused_in panic which byte)

-- in the order 1, 2, 3, 5, 6, 7, 8, 4
unfoldable pub style_of : Cascade → Settings → SheetTexts → Page → ℕ → List ℕ → List ℕ → List ℕ → List ℕ → List ℕ → StyleLeft
style_of c settings s g asked row texts rules₀ tokens brackets =
    let suffices = and (leb style_row_width (length row)) (stores_suffice (call_bytes s g) (length rules₀) (length tokens) (length brackets) (length texts)) in
    let page = page_refusal g.nodes g.attributes g.text in
    let refuses = unchanged row texts rules₀ tokens brackets in
    pick (any_too_long (length s.agent) (length s.user) (length s.author)) (refuses (refused too_long))
    (pick (not suffices) (refuses (refused short_store))
    (pick (not (all_valid s.agent s.user s.author)) (refuses (refused not_utf8))
    (pick (not (is page.number no_refusal.number)) (refuses page)
    (pick (not (is_element g.nodes asked)) (refuses (refused no_element))
    (styled_left row texts rules₀ tokens brackets c settings (path_of g.nodes g.attributes g.text asked) (sheets_of s.agent s.user s.author))))))

-- ---- the same of what is lent: a row and the stores
abbrev pub styled_left_of : code.SheetTexts → Cascade → Settings → Path → List ℕ → Stores → StyleLeft
styled_left_of s c settings p row a = styled_left row a.texts.now a.rules.now a.tokens.now a.brackets.now c settings p (sheets_of s.agent.now s.user.now s.author.now)

abbrev pub style_of_lent : Cascade → Settings → SheetTexts → Page → ℕ → List ℕ → Stores → StyleLeft
style_of_lent c settings s g asked row a = style_of c settings s g asked row a.texts.now a.rules.now a.tokens.now a.brackets.now
