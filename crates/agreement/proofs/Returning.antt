-- Demand 3 of three calls whose contracts are given: one law for each function that makes them.
use Prim.Native.Nat.{ℕ, ◌+◌, ◌≤◌}
use mathlib.Core.Path.{◌≡◌, ap, sym, subst, ◌∙◌}
use mathlib.Core.Bool.{not}
use mathlib.Core.List.{List}
use native.Mathlib.Omega.{arith}
use lib.Dec.{leb}
use lib.ListN.{length}
use Rattle.combinators.specs.LeastLengths.{stores_suffice}
use Rattle.combinators.specs.Refusal.{refused, refused_in, too_long, short_store, not_utf8, panic, no_room}
use Rattle.combinators.specs.declared.refusals.Refusal.{Refusal}
use Rattle.combinators.proofs.Rules.{pick-holds}
use Rattle.origins.specs.Checks.{any_too_long, all_valid}
use Rattle.origins.specs.Reading.{Sheets, rules, panicked, sheets_of, sheets_texts}
use Rattle.compiled.specs.Sheet.{encode}
use Rattle.compiler.specs.CompileAnswer.{room_of, CompileLeft, zeroed, unchanged, answered, answered_within, compiled_left, compile_of}
use Rattle.compiler.specs.Selectors.{selectors_of}
use Rattle.compiler.specs.declared.answers.CompileNumbers.{CompileNumbers}
use Rattle.styles.specs.declared.settings.Settings.{Settings}
use Rattle.page.specs.Lent.{Page}
use Rattle.styles.specs.Lent.{SheetTexts}
use Rattle.styling.specs.StyleAnswer.{StyleLeft}
use Rattle.styling.proofs.Claiming.{padded-long}
use Rattle.running.specs.RunAnswer.{RunLeft}
use Rattle.agreement.specs.Agreed.{Agreed}
use Rattle.agreement.specs.Calls.{CompileBuffers, RunBuffers, StyleBuffers, compile_with, run_with, style_with, code_of}
use Rattle.agreement.proofs.Agreeing.{demand3}

module _ (s : SheetTexts) (b : CompileBuffers) where
  -- the bytes lie within their buffer
  abbrev Within : CompileLeft → Type 0
  Within c = c.answer.bytes ≤ length c.compiled

  abbrev left : Refusal → CompileLeft
  left r = unchanged b.compiled b.texts b.rules b.tokens b.brackets r

  -- where a call refuses there are none
  none_left : (r : Refusal) → Within (left r)
  unfolding unchanged
  none_left r = omega arith

  -- where the buffers are zeroed for a refusal, no bytes are counted, so they lie within
  none-zeroed : (r : Refusal) → Within (zeroed b.compiled b.texts b.rules b.tokens b.brackets r)
  unfolding zeroed
  none-zeroed r = omega arith

  -- the bytes that are answered lie within the buffer, which is filled up behind them
  some-answered : (bytes ts : List ℕ) → Within (answered b.compiled b.texts b.rules b.tokens b.brackets bytes ts)
  unfolding answered
  some-answered bytes ts = padded-long bytes (length b.compiled)

  -- of sheets that were read, or not
  by-sheets : (m : Sheets) → Within (compiled_left b.compiled b.texts b.rules b.tokens b.brackets m)
  unfolding compiled_left answered_within
  by-sheets (rules a u w) =
      pick-holds Within (leb (length (encode (selectors_of a u w))) (room_of (length b.compiled))) _ _
      (λ _. some-answered (encode (selectors_of a u w)) (sheets_texts (rules a u w))) (λ _. none-zeroed (refused no_room))
  by-sheets (panicked which p) = none-zeroed (refused_in panic which p)

  -- however a call ends
  pub bytes-within : Within (compile_with s b)
  unfolding compile_of
  bytes-within =
      pick-holds Within (any_too_long (length s.agent) (length s.user) (length s.author)) _ _ (λ _. none_left (refused too_long))
      (λ _. pick-holds Within (not (stores_suffice (length s.agent + length s.user + length s.author) (length b.rules) (length b.tokens) (length b.brackets) (length b.texts))) _ _ (λ _. none_left (refused short_store))
      (λ _. pick-holds Within (not (all_valid s.agent s.user s.author)) _ _ (λ _. none_left (refused not_utf8))
      (λ _. by-sheets (sheets_of s.agent s.user s.author))))

  -- the bytes that a call counts, none where it refuses, lie within the buffer
  pub compiled-within : {n m : CompileNumbers} {k t y x z : List ℕ} → record { answer = m; compiled = k; texts = t; rules = y; tokens = x; brackets = z } ≡ compile_with s b → n ≡ m → n.bytes ≤ length k
  compiled-within {k = k} e f = rw f (subst Within (sym e) bytes-within)

-- what the three calls leave, each as its contract says, agrees: the run's row is the style call's
pub calls-agree : (s : SheetTexts) (g : Page) (settings : Settings) (b : CompileBuffers) (w : RunBuffers) (row : ℕ) (v : StyleBuffers) {c : CompileLeft} {r : RunLeft} {l : StyleLeft}
    → c ≡ compile_with s b → r ≡ run_with (code_of c) settings g w → l ≡ style_with settings s g row v → Agreed c r l row
calls-agree s g settings b w row v {c} {r} {l} e f h =
    let f' : r ≡ run_with (code_of (compile_with s b)) settings g w = f ∙ ap (λ (x : CompileLeft). run_with (code_of x) settings g w) e in
    subst (λ (x : CompileLeft). Agreed x r l row) (sym e)
    (subst (λ (x : RunLeft). Agreed (compile_with s b) x l row) (sym f')
    (subst (λ (x : StyleLeft). Agreed (compile_with s b) (run_with (code_of (compile_with s b)) settings g w) x row) (sym h)
    (record {
      agree = λ compiles lent styles.
          let a = demand3.agrees s g settings b w compiles (demand3.accepts s g settings row v styles) lent in
          record { answered = a.answered; same_row = a.styled-rows row v styles };
    })))
