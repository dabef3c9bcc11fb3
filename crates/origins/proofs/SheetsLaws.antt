-- Returns of `read_sheets`: three sheets, one behind the other.
use mathlib.Core.Path.{◌≡◌, refl, ap, sym, subst, ◌∙◌}
use mathlib.Core.List.{List, [], ◌++◌, append_assoc}
use Prim.Native.Nat.{ℕ, zero, suc, ◌+◌, ◌*◌, ◌^◌, ◌≤◌, ◌<◌}
use native.Mathlib.Nat.{zero-add}
use native.Mathlib.Omega.{arith}
use lib.ListN.{length, length-append}
use lib.Seq.{sets, length-sets}
use Rattle.combinators.specs.Store.{wiped, filled_part, Zeros}
use Rattle.combinators.proofs.Wiped.{sets-append}
use Rattle.lexer.specs.TokenRow.{token_width}
use Rattle.syntax.specs.RuleLayout.{rule_rows, rule_texts}
use Rattle.syntax.specs.Stream.{rows_many, texts_many}
use Rattle.syntax.specs.Selector.{RuleSet}
use Rattle.selectors.specs.Outcome.{Outcome, reads, fails, panics, on_outcome}
use Rattle.selectors.specs.Reading.{many_reading, written}
use Rattle.sheets.specs.Rules.{rule_width}
use Rattle.sheets.specs.Sheet.{sheet_of}
use Rattle.sheets.specs.SheetAnswer.{sheet_limit}
use Rattle.combinators.proofs.ZeroLaws.{zeros-after, zeros-back}
use Rattle.origins.specs.Reading.{agent_text, user_text, author_text, RulesSize, RulesBounds, in_sheet, stored_behind, ReadRoom, Sheets, rules, panicked, and_then, sheets_of, sheets_rows, sheets_texts, sheets_rules, sheets_answer, SheetsRoom}
use Rattle.selectors.specs.declared.readings.Read.{Read}
use Rattle.std.specs.Prelude.{Result, Ok, Err}
use Rattle.selectors.specs.declared.readings.Panic.{Panic}
use Rattle.origins.specs.Reading.{SheetsRules}
use Rattle.origins.specs.declared.reading.SheetPanic.{SheetPanic}

-- ---- what the answer of one sheet tells of what it means

-- rules, which are counted and written
pub record Came (o : Outcome (List RuleSet)) (c n t : ℕ) : Type 0 where
  pub read : List RuleSet
  pub counted : c ≡ length read
  pub numbers : n ≡ length (rule_rows 0 read)
  pub bytes : t ≡ length (rule_texts read)
  pub rows : (p : ℕ) (l : List ℕ) → stored_behind (rule_rows 0) o p l ≡ sets l p (rule_rows 0 read)
  pub texts : (p : ℕ) (l : List ℕ) → stored_behind rule_texts o p l ≡ sets l p (rule_texts read)
  pub next : (which : ℕ) (f : List RuleSet → Sheets) → and_then which o f ≡ f read

-- what is answered of a sheet with a number
abbrev Answer : ℕ → Outcome (List RuleSet) → Result Read SheetPanic
Answer which o = in_sheet which (many_reading length (rule_rows 0) rule_texts o)

-- an answer with rules says that the sheet reads, what is counted and written of it, and that the next sheet is read
pub came : (which : ℕ) (o : Outcome (List RuleSet)) (got : Read) → Ok got ≡ Answer which o → Came o got.count got.numbers got.text
unfolding in_sheet many_reading stored_behind and_then on_outcome rule_rows rule_texts rows_many texts_many
came which (reads k rs) got e = record { read = rs; counted = cc; numbers = cc; bytes = cc; rows = λ p l. refl; texts = λ p l. refl; next = λ which f. refl }
came which fails got e = record { read = []; counted = cc; numbers = cc; bytes = cc; rows = λ p l. refl; texts = λ p l. refl; next = λ which f. refl }
came which (panics p) got e = absurd (let z : ◌≡◌ {A = ℕ} 0 1 = cc in omega arith)

-- or a panic, where what was written before it is wiped
pub record Broke (which : ℕ) (o : Outcome (List RuleSet)) (x : SheetPanic) : Type 0 where
  pub rows : (p : ℕ) (l : List ℕ) → stored_behind (rule_rows 0) o p l ≡ wiped 0 p l
  pub texts : (p : ℕ) (l : List ℕ) → stored_behind rule_texts o p l ≡ wiped 0 p l
  pub next : (f : List RuleSet → Sheets) → and_then which o f ≡ panicked x.text x.place

-- an answer with a panic says that what stood before the sheet is wiped, and that the whole panics there
pub broke : (which : ℕ) (o : Outcome (List RuleSet)) (x : SheetPanic) → Err x ≡ Answer which o → Broke which o x
unfolding in_sheet many_reading stored_behind and_then on_outcome
broke which (reads k rs) x e = absurd (let z : ◌≡◌ {A = ℕ} 0 1 = cc in omega arith)
broke which fails x e = absurd (let z : ◌≡◌ {A = ℕ} 0 1 = cc in omega arith)
broke which (panics q) x e =
    let n : which ≡ x.text = cc in
    let z : q ≡ x.place = cc in
    record { rows = λ p l. refl; texts = λ p l. refl; next = λ f. rw (n, z) refl }

-- ---- returns of `read_next`
-- where a sheet reads, its part of a store is behind what stood before
pub stored-read : (w : List RuleSet → List ℕ) (o : Outcome (List RuleSet)) (got : Read) → Ok got ≡ many_reading length (rule_rows 0) rule_texts o
    → (p : ℕ) (l : List ℕ) → sets l p (written w o) ≡ stored_behind w o p l
unfolding many_reading written stored_behind on_outcome
stored-read w (reads k rs) got e p l = refl
stored-read w fails got e p l = refl
stored-read w (panics q) got e p l = absurd (let z : ◌≡◌ {A = ℕ} 0 1 = cc in omega arith)

-- where it panics, what stood before is wiped
pub stored-panics : (w : List RuleSet → List ℕ) (o : Outcome (List RuleSet)) (x : Panic) → Err x ≡ many_reading length (rule_rows 0) rule_texts o
    → (p : ℕ) (l : List ℕ) → wiped 0 p (sets l p (written w o)) ≡ stored_behind w o p l
unfolding many_reading written stored_behind on_outcome
stored-panics w (reads k rs) x e p l = absurd (let z : ◌≡◌ {A = ℕ} 0 1 = cc in omega arith)
stored-panics w fails x e p l = absurd (let z : ◌≡◌ {A = ℕ} 0 1 = cc in omega arith)
stored-panics w (panics q) x e p l = refl

module _ (which : ℕ) (s : List ℕ) {r : Result Read Panic} (e : r ≡ many_reading length (rule_rows 0) rule_texts (sheet_of s)) where
  -- an answer with rules is the same, with the same bounds
  pub next-read : {got : Read} → r ≡ Ok got → RulesBounds s r → (Ok got ≡ Answer which (sheet_of s)) × RulesBounds {E = SheetPanic} s (Ok got)
  unfolding in_sheet RulesBounds
  next-read g k = (ap (in_sheet which) (sym g ∙ e), subst (RulesBounds s) g k)

  -- a panic is told with the number of the sheet
  pub next-panics : {x : Panic} → r ≡ Err x → Err (record { text = which; place = x.place }) ≡ Answer which (sheet_of s)
  unfolding in_sheet
  next-panics g = ap (in_sheet which) (sym g ∙ e)

-- ---- room for a sheet behind what is stored at the start of stores that were zero
-- where the lengths suffice, there is room for a sheet behind rows and texts that were stored at the start
behind-room : (xs ts : List ℕ) {s y₀ x₀ b₀ z₀ y x b z : List ℕ} {p f : ℕ} → Zeros y₀ 0 → Zeros x₀ 0 → Zeros b₀ 0 → Zeros z₀ 0
    → y ≡ sets y₀ 0 xs → x ≡ x₀ → b ≡ b₀ → z ≡ sets z₀ 0 ts → p ≡ length xs → f ≡ length ts
    → p + (rule_width * length s + rule_width) ≤ length y₀ → length y₀ < 2 ^ 64 → token_width * length s ≤ length x₀ → length s ≤ length b₀
    → f + length s + 10 ≤ length z₀ → length s ≤ sheet_limit → ReadRoom s y p x b z f
behind-room xs ts {s} {y₀} {x₀} {b₀} {z₀} {y} {x} {b} {z} {p} {f} zy zx zb zz ey ex eb ez ep ef hy hb hx hs hz hl =
    let ly : length y ≡ length y₀ = ap length ey ∙ length-sets y₀ 0 xs in
    let lz : length z ≡ length z₀ = ap length ez ∙ length-sets z₀ 0 ts in
    record {
      rules-zeros = subst (Zeros y) (zero-add p) (zeros-after y₀ 0 zy xs p ep y ey);
      tokens-zeros = rw ex zx;
      brackets-zeros = rw eb zb;
      texts-zeros = subst (Zeros z) (zero-add f) (zeros-after z₀ 0 zz ts f ef z ez);
      for-rules = omega (arith, hy, ly);
      row-bits = omega (arith, hb, ly);
      for-tokens = rw ex hx;
      for-brackets = rw eb hs;
      for-texts = omega (arith, hz, lz);
      within = hl;
    }

-- the texts of a sheet, which are none of an empty one
little : (n t : ℕ) → t ≤ n + 2 → (n ≡ 0 → t ≡ 0) → t ≤ 2 * n + 1
little zero t h z = omega (arith, z refl)
little (suc n) t h z = omega arith

-- where the rules lie, by the answers of the three sheets
same-rules : (a u w : List RuleSet) {c d e n p t f x : ℕ} → c ≡ length a → d ≡ length u → e ≡ length w → n ≡ length (rule_rows 0 a) → t ≡ length (rule_texts a)
    → p ≡ length (rule_rows 0 a) + length (rule_rows 0 u) → f ≡ length (rule_texts a) + length (rule_texts u) → x ≡ length (rule_texts a) + length (rule_texts u) + length (rule_texts w)
    → record {
      agent = record { count = c; place = 0; from = 0 };
      user = record { count = d; place = n; from = t };
      author = record { count = e; place = p; from = f };
      end = x;
    } ≡ sheets_rules a u w
unfolding sheets_rules
same-rules a u w ea eu ew en et ep ef ex = rw (ea, eu, ew, en, et, ep, ef, ex) refl

-- what was stored at the start of a store that was zero is taken back
taken_back : (l y z xs : List ℕ) (n : ℕ) → Zeros l 0 → y ≡ sets l 0 xs → n ≡ length xs → z ≡ wiped 0 n y → z ≡ l
taken_back l y z xs n zl ey en ez = ez ∙ ap (wiped 0 n) ey ∙ zeros-back l 0 zl xs n (omega (arith, en))

module _ {a u w y₀ x₀ b₀ z₀ : List ℕ} (o : SheetsRoom a u w y₀ x₀ b₀ z₀) where
  -- what `read_sheets` leaves in the stores with its answer
  abbrev Left : Result SheetsRules SheetPanic → List ℕ → List ℕ → List ℕ → List ℕ → Type 0
  Left r y x b z =
      (r ≡ sheets_answer (sheets_of a u w))
      × ((y ≡ sets y₀ 0 (sheets_rows (sheets_of a u w)))
      × ((x ≡ x₀)
      × ((b ≡ b₀)
      × (z ≡ sets z₀ 0 (sheets_texts (sheets_of a u w))))))

  -- where the crate panics the stores are as they were
  left-panic : {p : SheetPanic} {y x b z : List ℕ} → sheets_of a u w ≡ panicked p.text p.place → y ≡ y₀ → x ≡ x₀ → b ≡ b₀ → z ≡ z₀ → Left (Err p) y x b z
  unfolding sheets_answer sheets_rows sheets_texts
  left-panic e ey ex eb ez = rw e (refl, (ey, (ex, (eb, ez))))

  -- ---- the agent's sheet
  -- the stores, zero throughout, have room for the agent's sheet at their start
  pub first-room : ReadRoom a y₀ 0 x₀ b₀ z₀ 0
  first-room =
      record {
        rules-zeros = o.rules-zeros;
        tokens-zeros = o.tokens-zeros;
        brackets-zeros = o.brackets-zeros;
        texts-zeros = o.texts-zeros;
        for-rules = omega (arith, o.for-rules);
        row-bits = o.row-bits;
        for-tokens = omega (arith, o.for-tokens);
        for-brackets = omega (arith, o.for-brackets);
        for-texts = omega (arith, o.for-texts);
        within = o.agent-within;
      }

  module _ {r₁ : Result Read SheetPanic} {y₁ x₁ b₁ z₁ : List ℕ} (e₁ : r₁ ≡ Answer agent_text (sheet_of a)) (ey₁ : y₁ ≡ stored_behind (rule_rows 0) (sheet_of a) 0 y₀) (ex₁ : x₁ ≡ x₀)
      (eb₁ : b₁ ≡ b₀) (ez₁ : z₁ ≡ stored_behind rule_texts (sheet_of a) 0 z₀) (k₁ : RulesBounds a r₁) where
    -- the return where the crate panics in the agent's sheet: the stores are as they were
    pub agent-panics : {x : SheetPanic} → r₁ ≡ Err x → Left (Err x) y₁ x₁ b₁ z₁
    unfolding sheets_of filled_part
    agent-panics {x} g =
        let q = broke agent_text (sheet_of a) x (sym g ∙ e₁) in
        left-panic (q.next _) (ey₁ ∙ q.rows 0 y₀) ex₁ eb₁ (ez₁ ∙ q.texts 0 z₀)

    -- ---- the user's sheet
    module _ {got₁ : Read} (g₁ : r₁ ≡ Ok got₁) where
      -- the agent's sheet came to rules, with the counts that are answered
      first : Came (sheet_of a) got₁.count got₁.numbers got₁.text
      first = came agent_text (sheet_of a) got₁ (sym g₁ ∙ e₁)

      -- its rules, numbers and bytes are within the bounds of the sheet
      first-size : RulesSize a got₁.count got₁.numbers got₁.text
      unfolding RulesBounds
      first-size = subst (RulesBounds a) g₁ k₁

      -- the rules store has the agent's rows at its start
      rows₁ : y₁ ≡ sets y₀ 0 (rule_rows 0 first.read)
      rows₁ = ey₁ ∙ first.rows 0 y₀

      -- the text store has the agent's texts at its start
      texts₁ : z₁ ≡ sets z₀ 0 (rule_texts first.read)
      texts₁ = ez₁ ∙ first.texts 0 z₀

      -- the stores have room for the user's sheet behind the agent's
      pub second-room : ReadRoom u y₁ got₁.numbers x₁ b₁ z₁ got₁.text
      second-room =
          let h = first-size in
          behind-room (rule_rows 0 first.read) (rule_texts first.read) o.rules-zeros o.tokens-zeros o.brackets-zeros o.texts-zeros rows₁ ex₁ eb₁ texts₁ first.numbers first.bytes
          (omega (arith, h.wide, o.for-rules)) o.row-bits (omega (arith, o.for-tokens)) (omega (arith, o.for-brackets)) (omega (arith, h.short, o.for-texts)) o.user-within

      module _ {r₂ : Result Read SheetPanic} {y₂ x₂ b₂ z₂ : List ℕ} (e₂ : r₂ ≡ Answer user_text (sheet_of u)) (ey₂ : y₂ ≡ stored_behind (rule_rows 0) (sheet_of u) got₁.numbers y₁) (ex₂ : x₂ ≡ x₁)
          (eb₂ : b₂ ≡ b₁) (ez₂ : z₂ ≡ stored_behind rule_texts (sheet_of u) got₁.text z₁) (k₂ : RulesBounds u r₂) where
        -- the return where the crate panics in the user's sheet: the agent's rows and texts are wiped, and the stores are as they were
        pub user-panics : {x : SheetPanic} → r₂ ≡ Err x → Left (Err x) y₂ x₂ b₂ z₂
        unfolding sheets_of
        user-panics {x} g =
            let q = broke user_text (sheet_of u) x (sym g ∙ e₂) in
            left-panic (first.next agent_text _ ∙ q.next _)
            (taken_back y₀ y₁ y₂ (rule_rows 0 first.read) got₁.numbers o.rules-zeros rows₁ first.numbers (ey₂ ∙ q.rows got₁.numbers y₁)) (ex₂ ∙ ex₁) (eb₂ ∙ eb₁)
            (taken_back z₀ z₁ z₂ (rule_texts first.read) got₁.text o.texts-zeros texts₁ first.bytes (ez₂ ∙ q.texts got₁.text z₁))

        -- ---- the author's sheet
        module _ {got₂ : Read} (g₂ : r₂ ≡ Ok got₂) where
          -- the user's sheet came to rules, with the counts that are answered
          second : Came (sheet_of u) got₂.count got₂.numbers got₂.text
          second = came user_text (sheet_of u) got₂ (sym g₂ ∙ e₂)

          -- its rules, numbers and bytes are within the bounds of the sheet
          second-size : RulesSize u got₂.count got₂.numbers got₂.text
          unfolding RulesBounds
          second-size = subst (RulesBounds u) g₂ k₂

          -- the sums of places fit
          pub places-fit : got₁.numbers + got₂.numbers < 2 ^ 64
          places-fit = omega (arith, first-size.wide, second-size.wide, o.agent-within, o.user-within)

          -- the fill behind the texts of both sheets fits a word
          pub fills-fit : got₁.text + got₂.text < 2 ^ 64
          fills-fit = omega (arith, first-size.short, second-size.short, o.agent-within, o.user-within)

          -- the rows of the agent's rules, and then those of the user's
          xs : List ℕ
          xs = rule_rows 0 first.read ++ rule_rows 0 second.read

          -- the texts of the agent's rules, and then those of the user's
          ts : List ℕ
          ts = rule_texts first.read ++ rule_texts second.read

          -- the rules store has the rows of both sheets at its start
          rows₂ : y₂ ≡ sets y₀ 0 xs
          unfolding xs
          rows₂ =
              let l : List ℕ = rule_rows 0 first.read in
              let m : List ℕ = rule_rows 0 second.read in
              ey₂ ∙ second.rows got₁.numbers y₁ ∙ ap (λ (v : List ℕ). sets v got₁.numbers m) rows₁
              ∙ ap (λ (i : ℕ). sets (sets y₀ 0 l) i m) (first.numbers ∙ sym (zero-add (length l))) ∙ sym (sets-append y₀ 0 l m)

          -- the text store has the texts of both sheets at its start
          texts₂ : z₂ ≡ sets z₀ 0 ts
          unfolding ts
          texts₂ =
              let l : List ℕ = rule_texts first.read in
              let m : List ℕ = rule_texts second.read in
              ez₂ ∙ second.texts got₁.text z₁ ∙ ap (λ (v : List ℕ). sets v got₁.text m) texts₁
              ∙ ap (λ (i : ℕ). sets (sets z₀ 0 l) i m) (first.bytes ∙ sym (zero-add (length l))) ∙ sym (sets-append z₀ 0 l m)

          -- the place behind those rows is the sum of the two answers' numbers
          place_is : got₁.numbers + got₂.numbers ≡ length xs
          unfolding xs
          place_is = omega (arith, first.numbers, second.numbers, length-append (rule_rows 0 first.read) (rule_rows 0 second.read))

          -- the fill behind those texts is the sum of the two answers' bytes
          fill_is : got₁.text + got₂.text ≡ length ts
          unfolding ts
          fill_is = omega (arith, first.bytes, second.bytes, length-append (rule_texts first.read) (rule_texts second.read))

          -- texts before the third sheet take no more than their sheets and two bytes each, and none of an empty sheet
          third-texts : got₁.text + got₂.text + length w + 10 ≤ length z₀
          third-texts = omega (arith, little (length a) got₁.text first-size.short first-size.nothing, little (length u) got₂.text second-size.short second-size.nothing, o.for-texts)

          -- the stores have room for the author's sheet behind the other two
          pub third-room : ReadRoom w y₂ (got₁.numbers + got₂.numbers) x₂ b₂ z₂ (got₁.text + got₂.text)
          third-room =
              behind-room xs ts o.rules-zeros o.tokens-zeros o.brackets-zeros o.texts-zeros rows₂ (ex₂ ∙ ex₁) (eb₂ ∙ eb₁) texts₂ place_is fill_is
              (omega (arith, first-size.wide, second-size.wide, o.for-rules)) o.row-bits (omega (arith, o.for-tokens)) (omega (arith, o.for-brackets)) third-texts o.author-within

          module _ {r₃ : Result Read SheetPanic} {y₃ x₃ b₃ z₃ : List ℕ} (e₃ : r₃ ≡ Answer author_text (sheet_of w)) (ey₃ : y₃ ≡ stored_behind (rule_rows 0) (sheet_of w) (got₁.numbers + got₂.numbers) y₂)
              (ex₃ : x₃ ≡ x₂) (eb₃ : b₃ ≡ b₂) (ez₃ : z₃ ≡ stored_behind rule_texts (sheet_of w) (got₁.text + got₂.text) z₂) (k₃ : RulesBounds w r₃) where
            -- the return where the crate panics in the author's sheet: the rows and texts of the others are wiped, and the stores are as they were
            pub author-panics : {x : SheetPanic} → r₃ ≡ Err x → Left (Err x) y₃ x₃ b₃ z₃
            unfolding sheets_of
            author-panics {x} g =
                let q = broke author_text (sheet_of w) x (sym g ∙ e₃) in
                left-panic (first.next agent_text _ ∙ second.next user_text _ ∙ q.next _)
                (taken_back y₀ y₂ y₃ xs (got₁.numbers + got₂.numbers) o.rules-zeros rows₂ place_is (ey₃ ∙ q.rows (got₁.numbers + got₂.numbers) y₂)) (ex₃ ∙ ex₂ ∙ ex₁) (eb₃ ∙ eb₂ ∙ eb₁)
                (taken_back z₀ z₂ z₃ ts (got₁.text + got₂.text) o.texts-zeros texts₂ fill_is (ez₃ ∙ q.texts (got₁.text + got₂.text) z₂))

            module _ {got₃ : Read} (g₃ : r₃ ≡ Ok got₃) where
              -- the end of all three texts fits a word
              pub texts-fit : got₁.text + got₂.text + got₃.text < 2 ^ 64
              unfolding RulesBounds
              texts-fit =
                  let h : RulesSize w got₃.count got₃.numbers got₃.text = subst (RulesBounds w) g₃ k₃ in
                  omega (arith, first-size.short, second-size.short, h.short, o.agent-within, o.user-within, o.author-within)

              -- where the rules lie
              abbrev lying : SheetsRules
              lying =
                  record {
                    agent = record { count = got₁.count; place = 0; from = 0 };
                    user = record { count = got₂.count; place = got₁.numbers; from = got₁.text };
                    author = record { count = got₃.count; place = got₁.numbers + got₂.numbers; from = got₁.text + got₂.text };
                    end = got₁.text + got₂.text + got₃.text;
                  }

              -- the return where all three read: rows and texts stand one behind the other, and the answer says where
              pub all_read : Left (Ok lying) y₃ x₃ b₃ z₃
              unfolding sheets_of sheets_answer sheets_rows sheets_texts xs ts
              all_read =
                  let third : Came (sheet_of w) got₃.count got₃.numbers got₃.text = came author_text (sheet_of w) got₃ (sym g₃ ∙ e₃) in
                  let e : sheets_of a u w ≡ rules first.read second.read third.read =
                  first.next agent_text _ ∙ second.next user_text _ ∙ third.next author_text _ in
                  let ys : List ℕ = rule_rows 0 third.read in
                  let vs : List ℕ = rule_texts third.read in
                  rw e (
                    ap Ok
                        (same-rules first.read second.read third.read first.counted second.counted third.counted first.numbers first.bytes (omega (arith, first.numbers, second.numbers))
                        (omega (arith, first.bytes, second.bytes)) (omega (arith, first.bytes, second.bytes, third.bytes))),
                    (
                      ey₃ ∙ third.rows (got₁.numbers + got₂.numbers) y₂ ∙ ap (λ (v : List ℕ). sets v (got₁.numbers + got₂.numbers) ys) rows₂
                          ∙ ap (λ (i : ℕ). sets (sets y₀ 0 xs) i ys) (place_is ∙ sym (zero-add (length xs))) ∙ sym (sets-append y₀ 0 xs ys)
                          ∙ ap (λ (v : List ℕ). sets y₀ 0 v) (append_assoc (rule_rows 0 first.read) (rule_rows 0 second.read) ys),
                      (
                        ex₃ ∙ ex₂ ∙ ex₁,
                        (
                          eb₃ ∙ eb₂ ∙ eb₁,
                          ez₃ ∙ third.texts (got₁.text + got₂.text) z₂ ∙ ap (λ (v : List ℕ). sets v (got₁.text + got₂.text) vs) texts₂
                              ∙ ap (λ (i : ℕ). sets (sets z₀ 0 ts) i vs) (fill_is ∙ sym (zero-add (length ts))) ∙ sym (sets-append z₀ 0 ts vs)
                              ∙ ap (λ (v : List ℕ). sets z₀ 0 v) (append_assoc (rule_texts first.read) (rule_texts second.read) vs),
                        ),
                      ),
                    ),
                  )
