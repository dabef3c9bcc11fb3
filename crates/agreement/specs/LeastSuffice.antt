-- "Least lengths for N text bytes, all texts together": stores of these lengths suffice, for every N, for what each call does within them. One statement for all.
-- "The stores' length facts are shown for all N together." Beside them, that rows and state of the least lengths suffice for a run.
use Rattle.std.specs.Prelude.{ℕ, ◌+◌, ◌≤◌, ◌<◌, ◌≡◌, true, false, List, length}
use Rattle.combinators.specs.LeastLengths.{stores_suffice, Least}
use Rattle.origins.specs.Checks.{any_too_long}
use Rattle.origins.specs.Reading.{sheets_of, sheets_rows, sheets_texts}
use Rattle.cascade.specs.Row.{style_row_width}
use Rattle.page.specs.Ancestors.{depth_of}
use Rattle.page.specs.PathOf.{attributes_from, path_of}
use Rattle.page.specs.Rows.{node_count, node_at}
use Rattle.compiled.specs.Sheet.{compiled_limit}
use Rattle.styles.specs.declared.settings.Settings.{Settings}
use Rattle.page.specs.Lent.{Page}
use Rattle.styles.specs.Lent.{SheetTexts}
use Rattle.attributes.specs.Merging.{InlineRoom}
use Rattle.styling.specs.StyleAnswer.{call_bytes, is_element}
use Rattle.styling.specs.Styling.{CallLent}
use Rattle.runner.specs.LeastLengths.{run_text_bytes, state_least, rows_least}
use Rattle.runner.specs.PageRows.{contents_before, page_contents, page_rows}
use Rattle.runner.specs.State.{part_width, part_place}
use Rattle.running.specs.Ready.{texts_most}
use Rattle.agreement.specs.Calls.{AcceptedPage}

-- ---- three sheets: how many bytes they have together, and none is above its limit
abbrev pub sheets_bytes : SheetTexts → ℕ
sheets_bytes s = length s.agent + length s.user + length s.author

abbrev pub NoneLong : SheetTexts → Type 0
NoneLong s = any_too_long (length s.agent) (length s.user) (length s.author) ≡ false

-- ---- what stores have room for, where n bytes of text are lent
pub record RoomFor (n : ℕ) (rules tokens brackets texts : List ℕ) : Type 0 where
  -- they have the least lengths for fewer bytes too, which is what each call asks of them
  pub fewer : (m : ℕ) → m ≤ n → Least m (length rules) (length tokens) (length brackets) (length texts)
  -- the rules of three sheets, as numbers, fit the rules store, and their texts the text store; sheets on which the crate panics leave none
  pub sheet-rows : (s : SheetTexts) → NoneLong s → sheets_bytes s ≤ n → length (sheets_rows (sheets_of s.agent s.user s.author)) ≤ length rules
  pub sheet-texts : (s : SheetTexts) → NoneLong s → sheets_bytes s ≤ n → length (sheets_texts (sheets_of s.agent s.user s.author)) ≤ length texts
  -- a style call has all that it asks for, also for the values along the path of each element, which are read behind the sheets
  pub style-path : (s : SheetTexts) (g : Page) (out : List ℕ) → NoneLong s → style_row_width ≤ length out → call_bytes s g ≤ n → AcceptedPage g
      → (i : ℕ) → is_element g.nodes i ≡ true → CallLent (sheets_bytes s) (path_of g.nodes g.attributes g.text i) out rules tokens brackets texts
  -- a run has room for the attributes of each row, behind the texts of the rows before it
  pub run_row : (settings : Settings) (g : Page) (code : List ℕ) → AcceptedPage g → length code ≤ compiled_limit → run_text_bytes g ≤ n → (i : ℕ) → i < node_count g.nodes
      → InlineRoom (attributes_from g.attributes g.text (node_at g.nodes i).attribute_count (node_at g.nodes i).first_attribute) (length code) (length (contents_before settings g i))
      rules tokens brackets texts
  -- and so it has behind all that the rows before it can leave in the text store, whatever they leave
  pub run-behind : (g : Page) (code : List ℕ) → AcceptedPage g → length code ≤ compiled_limit → run_text_bytes g ≤ n → (i fill : ℕ) → i < node_count g.nodes → fill ≤ texts_most g i
      → InlineRoom (attributes_from g.attributes g.text (node_at g.nodes i).attribute_count (node_at g.nodes i).first_attribute) (length code) fill rules tokens brackets texts
  -- and for its texts, all rows together
  pub run-texts : (settings : Settings) (g : Page) → AcceptedPage g → run_text_bytes g ≤ n → length (page_contents settings g) ≤ length texts

-- for every n, stores of the least lengths or longer; and for every run, which asks for rows and a state whatever n is
pub record LeastSuffice : Type 0 where
  pub room : (n : ℕ) (rules tokens brackets texts : List ℕ) → stores_suffice n (length rules) (length tokens) (length brackets) (length texts) ≡ true → RoomFor n rules tokens brackets texts
  -- the style rows of a page are as many numbers as the least length of rows, no more and no less
  pub run-rows : (code : List ℕ) (settings : Settings) (g : Page) → length (page_rows code settings g) ≡ rows_least g
  -- the part for the depth of each row ends within the least length of a state
  pub run-state : (code : List ℕ) (g : Page) → AcceptedPage g → (i : ℕ) → i < node_count g.nodes → part_place code (depth_of g.nodes i) + part_width code ≤ state_least code
