-- The three calls that demand 3 is about, each with all that it is lent: what they answer and leave is what their contracts say.
use Rattle.std.specs.Prelude.{ℕ, ◌≤◌, ◌≡◌, List, length, take}
use Rattle.combinators.specs.LeastLengths.{Least}
use Rattle.combinators.specs.Refusal.{no_refusal}
use Rattle.cascade.specs.declared.slots.Cascade.TheVariants.{Crate}
use Rattle.cascade.specs.Row.{style_row_width}
use Rattle.compiler.specs.CompileAnswer.{CompileLeft, compile_of}
use Rattle.combinators.specs.declared.lent.Stores.{Stores}
use Rattle.styles.specs.declared.settings.Settings.{Settings}
use Rattle.page.specs.Accepted.{page_refusal}
use Rattle.page.specs.Lent.{Page}
use Rattle.styles.specs.Lent.{SheetTexts}
use Rattle.styling.specs.StyleAnswer.{StyleLeft, call_bytes, style_of}
use Rattle.running.specs.RunAnswer.{RunLeft, run_call}

-- ---- the buffers of each, whatever they hold
pub record CompileBuffers : Type 0 where
  pub compiled : List ℕ
  pub texts : List ℕ
  pub rules : List ℕ
  pub tokens : List ℕ
  pub brackets : List ℕ

pub record RunBuffers : Type 0 where
  pub rows : List ℕ
  pub texts : List ℕ
  pub state : List ℕ
  pub rules : List ℕ
  pub tokens : List ℕ
  pub brackets : List ℕ

pub record StyleBuffers : Type 0 where
  pub row : List ℕ
  pub texts : List ℕ
  pub rules : List ℕ
  pub tokens : List ℕ
  pub brackets : List ℕ

-- ---- what the code lends
abbrev pub compile_lent : List ℕ → Stores → CompileBuffers
compile_lent compiled s = record { compiled = compiled; texts = s.texts.now; rules = s.rules.now; tokens = s.tokens.now; brackets = s.brackets.now }

abbrev pub run_lent : List ℕ → List ℕ → Stores → RunBuffers
run_lent rows state s = record { rows = rows; texts = s.texts.now; state = state; rules = s.rules.now; tokens = s.tokens.now; brackets = s.brackets.now }

abbrev pub style_lent : List ℕ → Stores → StyleBuffers
style_lent row s = record { row = row; texts = s.texts.now; rules = s.rules.now; tokens = s.tokens.now; brackets = s.brackets.now }

-- ---- the calls
abbrev pub compile_with : SheetTexts → CompileBuffers → CompileLeft
compile_with s b = compile_of s.agent s.user s.author b.compiled b.texts b.rules b.tokens b.brackets

abbrev pub run_with : List ℕ → Settings → Page → RunBuffers → RunLeft
run_with code settings g b = run_call b.rows b.texts b.state b.rules b.tokens b.brackets code settings g

-- of a row, in the crate's cascade
abbrev pub style_with : Settings → SheetTexts → Page → ℕ → StyleBuffers → StyleLeft
style_with settings s g row b = style_of Crate settings s g row b.row b.texts b.rules b.tokens b.brackets

-- ---- what they give: the compiled bytes, and the texts of a run
abbrev pub code_of : CompileLeft → List ℕ
code_of c = take c.answer.bytes c.compiled

abbrev pub texts_of : RunLeft → List ℕ
texts_of r = take r.answer.texts r.texts

-- ---- a page that is accepted
abbrev pub AcceptedPage : Page → Type 0
AcceptedPage g = page_refusal g.nodes g.attributes g.text ≡ no_refusal

-- ---- a style call is lent enough: a style row, and stores of the least lengths
pub record StyleLent (s : SheetTexts) (g : Page) (v : StyleBuffers) : Type 0 where
  pub for-row : style_row_width ≤ length v.row
  pub for-stores : Least (call_bytes s g) (length v.rules) (length v.tokens) (length v.brackets) (length v.texts)

-- ---- two runs are lent buffers of the same lengths
pub record SameLengths (b b' : RunBuffers) : Type 0 where
  pub rows : length b.rows ≡ length b'.rows
  pub texts : length b.texts ≡ length b'.texts
  pub state : length b.state ≡ length b'.state
  pub rules : length b.rules ≡ length b'.rules
  pub tokens : length b.tokens ≡ length b'.tokens
  pub brackets : length b.brackets ≡ length b'.brackets
