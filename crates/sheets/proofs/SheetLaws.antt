-- Returns of `read_sheet` and what it calls; reading a sheet never fails.
use mathlib.Core.Path.{◌≡◌, refl, ap, sym, ◌∙◌}
use mathlib.Core.Bool.{Bool, true, false}
use mathlib.Core.List.{List, [], ◌++◌}
use Prim.Native.Nat.{ℕ, zero, suc, ◌+◌, ◌-◌, ◌^◌, ◌≤◌, ◌<◌}
use native.Mathlib.Nat.{zero-add}
use native.Mathlib.Omega.{arith}
use borrow.Author.Tests.{lt-ltb, le-ltb}
use lib.ListN.{length, drop, replicate, length-replicate}
use lib.Seq.{sets, sets-eq}
use Rattle.selectors.proofs.ReadingLaws.{ManyReading, panic_at, sized}
use Rattle.std.specs.Prelude.{Ok, Err}
use Rattle.std.proofs.lemmas.Bool.{not_from_true, not_from_false}
use Rattle.std.proofs.lemmas.List.{drop-replicate}
use Rattle.combinators.specs.Refusal.{refused_at, panic}
use Rattle.combinators.specs.LeastLengths.{stores_suffice}
use Rattle.combinators.specs.Store.{cleared}
use Rattle.combinators.proofs.Cleared.{cleared-is}
use Rattle.combinators.proofs.LeastLaws.{least}
use Rattle.combinators.proofs.Rules.{pick_true, pick-false}
use Rattle.characters.specs.Utf8.{valid}
use Rattle.syntax.specs.RuleLayout.{rule_rows, rule_texts}
use Rattle.syntax.specs.Selector.{RuleSet}
use Rattle.selectors.specs.Outcome.{Outcome, reads, fails, panics, on_outcome}
use Rattle.sheets.specs.Sheet.{statements_of, sheet_from, sheet_of}
use Rattle.selectors.specs.Reading.{many_reading, written}
use Rattle.sheets.specs.Rules.{SheetRoom}
use Rattle.sheets.specs.SheetAnswer.{sheet_limit, refused_sheet, refusal_of, numbers_of, SheetLeft, padded, sheet_numbers, sheet_left, unchanged, read_sheet, SheetLent}
use Rattle.selectors.proofs.AllLaws.{reads-no, behind-never, then_never}
use Rattle.sheets.proofs.SheetBounds.{sheet-keeps}
use Rattle.sheets.specs.declared.answers.SheetNumbers.{SheetNumbers}
use Rattle.sheets.specs.declared.sheet.SheetError.TheVariants.{TooLong, ShortStore, NotUtf8, Panic}
use Rattle.selectors.specs.declared.readings.Read.{Read}
use Rattle.selectors.specs.declared.readings.Panic as readings
use Rattle.combinators.proofs.ZeroLaws.{clear-zeros}

-- ---- zeros
-- a store cleared throughout is as many zeros
all-cleared : (l : List ℕ) → cleared 0 l ≡ replicate (length l) 0
all-cleared l =
    let e : length l - 0 ≡ length l = omega arith in
    cleared-is 0 l ∙ rw e refl

-- what is stored at the start of a store that was cleared
pub stored : (xs l : List ℕ) → length xs ≤ length l → sets (cleared 0 l) 0 xs ≡ padded xs (length l)
unfolding padded
stored xs l h =
    let n = length l in
    let c : length (replicate {A = ℕ} n 0) ≡ n = length-replicate n 0 in
    ap (λ (r : List ℕ). sets r 0 xs) (all-cleared l) ∙ sets-eq xs (replicate n 0) 0 (omega arith)
    ∙ ap (λ (k : ℕ). xs ++ drop k (replicate n 0)) (zero-add (length xs)) ∙ ap (λ (r : List ℕ). xs ++ r) (drop-replicate (length xs) n 0)

-- ---- reading a sheet for which the stores suffice
-- an answer with rules says the counts of the rules that were read
answer-reads : (o : Outcome (List RuleSet)) (got : Read) → Ok got ≡ many_reading length (rule_rows 0) rule_texts o → numbers_of (Ok got) ≡ sheet_numbers o
unfolding many_reading sheet_numbers numbers_of on_outcome
answer-reads (reads n rs) got e =
    let same : got ≡ sized n (length rs) (length (rule_rows 0 rs)) (length (rule_texts rs)) = cc in
    ap (λ (r : Read). numbers_of (Ok r)) same
answer-reads fails got e =
    let same : got ≡ sized 0 0 0 0 = cc in
    ap (λ (r : Read). numbers_of (Ok r)) same
answer-reads (panics p) got e = absurd (let z : ◌≡◌ {A = ℕ} 0 1 = cc in omega arith)

-- where it panics, the answer has the byte where
answer-panics : (o : Outcome (List RuleSet)) (p : readings.Panic) → Err p ≡ many_reading length (rule_rows 0) rule_texts o → numbers_of (Err (Panic p.place)) ≡ sheet_numbers o
unfolding many_reading sheet_numbers numbers_of refusal_of on_outcome
answer-panics (reads n rs) p e = absurd (let z : ◌≡◌ {A = ℕ} 0 1 = cc in omega arith)
answer-panics fails p e = absurd (let z : ◌≡◌ {A = ℕ} 0 1 = cc in omega arith)
answer-panics (panics q) p e = let same : p ≡ panic_at q = cc in ap (λ (r : readings.Panic). refused_sheet (refused_at panic r.place)) same

-- what is left, by its parts
left_by : {a a' : SheetNumbers} {y y' x x' b b' z z' : List ℕ} → a ≡ a' → y ≡ y' → x ≡ x' → b ≡ b' → z ≡ z'
    → ◌≡◌ {A = SheetLeft} (record { answer = a; rules = y; tokens = x; brackets = b; texts = z }) (record { answer = a'; rules = y'; tokens = x'; brackets = b'; texts = z' })
left_by p q r s t = rw (p, q, r, s, t) refl

module _ {s rules tokens brackets texts : List ℕ} (o : SheetLent s rules tokens brackets texts)
    {y x b z : List ℕ} (cy : y ≡ cleared 0 rules) (cx : x ≡ cleared 0 tokens) (cb : b ≡ cleared 0 brackets) (cz : z ≡ cleared 0 texts) where
  -- a cleared store is as long as it was
  long_of : (l : List ℕ) → length (cleared 0 l) ≡ length l
  long_of l = ap length (all-cleared l) ∙ length-replicate (length l) 0

  -- room for all of it
  pub room : length rules < 2 ^ 64 → SheetRoom s y x b z
  room l =
      rw (cy, cx, cb, cz)
      (record {
        rules-zeros = clear-zeros rules;
        for-rules = omega (arith, o.least.for-rules, long_of rules);
        row-bits = omega (arith, l, long_of rules);
        work =
            record {
              tokens-zeros = clear-zeros tokens;
              brackets-zeros = clear-zeros brackets;
              store-zeros = clear-zeros texts;
              for-tokens = omega (arith, o.least.for-tokens, long_of tokens);
              for-brackets = omega (arith, o.least.for-brackets, long_of brackets);
              for-texts = omega (arith, o.least.for-texts, long_of texts);
              text-bits = omega (arith, o.within);
            };
      })

  module _ {r : ManyReading} {y' x' b' z' : List ℕ} (er : r ≡ many_reading length (rule_rows 0) rule_texts (sheet_of s))
      (ey : y' ≡ sets y 0 (written (rule_rows 0) (sheet_of s))) (ex : x' ≡ x) (eb : b' ≡ b) (ez : z' ≡ sets z 0 (written rule_texts (sheet_of s))) where
    -- what was read has room
    fits_by : (q : Outcome (List RuleSet)) → sheet_of s ≡ q → (length (written (rule_rows 0) q) ≤ length rules) × (length (written rule_texts q) ≤ length texts)
    unfolding written on_outcome
    fits_by (reads n rs) e =
        let k = sheet-keeps s n rs e in
        (omega (arith, k.wide, k.within, o.least.for-rules), omega (arith, k.long, k.within, o.least.for-texts))
    fits_by fails e = (omega arith, omega arith)
    fits_by (panics p) e = (omega arith, omega arith)

    -- the rows of the sheet's rules fit the store
    rows_fit : length (written (rule_rows 0) (sheet_of s)) ≤ length rules
    rows_fit = (fits_by (sheet_of s) refl).0

    -- the texts of the sheet's rules fit the store
    texts-fit : length (written rule_texts (sheet_of s)) ≤ length texts
    texts-fit = (fits_by (sheet_of s) refl).1

    -- with the right answer, the stores are left as the definition says
    left : (a : SheetNumbers) → a ≡ sheet_numbers (sheet_of s)
        → ◌≡◌ {A = SheetLeft} (record { answer = a; rules = y'; tokens = x'; brackets = b'; texts = z' }) (sheet_left s rules tokens brackets texts)
    unfolding sheet_left
    left a e =
        left_by e (ey ∙ ap (λ (l : List ℕ). sets l 0 (written (rule_rows 0) (sheet_of s))) cy ∙ stored (written (rule_rows 0) (sheet_of s)) rules rows_fit)
        (ex ∙ cx ∙ all-cleared tokens) (eb ∙ cb ∙ all-cleared brackets)
        (ez ∙ ap (λ (l : List ℕ). sets l 0 (written rule_texts (sheet_of s))) cz ∙ stored (written rule_texts (sheet_of s)) texts texts-fit)

    -- the return where the sheet reads
    pub sheet-read : {got : Read} → r ≡ Ok got
        → ◌≡◌ {A = SheetLeft} (record { answer = numbers_of (Ok got); rules = y'; tokens = x'; brackets = b'; texts = z' }) (sheet_left s rules tokens brackets texts)
    sheet-read {got} g = left (numbers_of (Ok got)) (answer-reads (sheet_of s) got (sym g ∙ er))

    -- the return where the crate panics
    pub sheet-panics : {p : readings.Panic} → r ≡ Err p
        → ◌≡◌ {A = SheetLeft} (record { answer = numbers_of (Err (Panic p.place)); rules = y'; tokens = x'; brackets = b'; texts = z' }) (sheet_left s rules tokens brackets texts)
    sheet-panics {p} g = left (numbers_of (Err (Panic p.place))) (answer-panics (sheet_of s) p (sym g ∙ er))

-- ---- `read_sheet`, in the order of the refusals
module _ (s rules tokens brackets texts : List ℕ) where
  -- a sheet that is too long is refused, and the stores stay
  pub too_long_lem : sheet_limit < length s → ◌≡◌ {A = SheetLeft} (record { answer = numbers_of (Err TooLong); rules = rules; tokens = tokens; brackets = brackets; texts = texts }) (read_sheet s rules tokens brackets texts)
  unfolding read_sheet unchanged numbers_of refusal_of
  too_long_lem h = pick_true _ _ _ _ (lt-ltb sheet_limit (length s) h) refl

  module _ (h : length s ≤ sheet_limit) {t : Bool} (et : t ≡ stores_suffice (length s) (length rules) (length tokens) (length brackets) (length texts)) where
    -- stores that are too short are refused, and stay
    pub short-store : t ≡ false → ◌≡◌ {A = SheetLeft} (record { answer = numbers_of (Err ShortStore); rules = rules; tokens = tokens; brackets = brackets; texts = texts }) (read_sheet s rules tokens brackets texts)
    unfolding read_sheet unchanged numbers_of refusal_of
    short-store e = pick-false _ _ _ _ (le-ltb sheet_limit (length s) h) (pick_true _ _ _ _ (not_from_false _ (sym et ∙ e)) refl)

    module _ (e : t ≡ true) where
      -- behind both tests a sheet is within its limit and the stores have the least lengths
      pub lent : SheetLent s rules tokens brackets texts
      lent = record { within = h; least = least et e }

      module _ {v : Bool} (ev : v ≡ valid s) where
        -- a sheet that is no UTF-8 is refused, and the stores stay
        pub not-utf8 : v ≡ false → ◌≡◌ {A = SheetLeft} (record { answer = numbers_of (Err NotUtf8); rules = rules; tokens = tokens; brackets = brackets; texts = texts }) (read_sheet s rules tokens brackets texts)
        unfolding read_sheet unchanged numbers_of refusal_of
        not-utf8 f = pick-false _ _ _ _ (le-ltb sheet_limit (length s) h) (pick-false _ _ _ _ (not_from_true _ (sym et ∙ e)) (pick_true _ _ _ _ (not_from_false _ (sym ev ∙ f)) refl))

        -- a sheet that passes all tests leaves what reading leaves
        pub read : v ≡ true → {a : SheetNumbers} {y x b z : List ℕ}
            → record { answer = a; rules = y; tokens = x; brackets = b; texts = z } ≡ sheet_left s rules tokens brackets texts
            → record { answer = a; rules = y; tokens = x; brackets = b; texts = z } ≡ read_sheet s rules tokens brackets texts
        unfolding read_sheet
        read f p = pick-false _ _ _ _ (le-ltb sheet_limit (length s) h) (pick-false _ _ _ _ (not_from_true _ (sym et ∙ e)) (pick-false _ _ _ _ (not_from_true _ (sym ev ∙ f)) p))

-- ---- reading a sheet never fails
-- reading statements, in any number of turns, reads or panics
never-fails : (t : ℕ) (s : List ℕ) (at : ℕ) → sheet_from t s at ≡ fails → ⊥
unfolding sheet_from
never-fails zero s at e = reads-no e
never-fails (suc t) s at e =
    then_never (statements_of s) _ (reads at []) _ (λ n rs. behind-never 0 (sheet_from t (drop n s) (at + n)) _ (never-fails t (drop n s) (at + n))) reads-no e

-- the reading of a whole sheet reads or panics, it never fails
pub sheet-never-fails : (s : List ℕ) → sheet_of s ≡ fails → ⊥
unfolding sheet_of
sheet-never-fails s e = never-fails (length s) s 0 e
