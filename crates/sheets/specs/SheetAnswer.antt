-- What `read_sheet` answers and leaves: the refusals of document 01 in the order of their numbers, or the rules of the sheet.
use Rattle.std.specs.Prelude.{ℕ, ◌-◌, ◌≤◌, ◌≡◌, refl, not, Result, Ok, Err, List, [], ◌∷◌, ◌++◌, ltb, length, replicate}
use Rattle.combinators.specs.Choice.{pick, or, and, is, within}
use Rattle.combinators.specs.LeastLengths.{stores_suffice, Least}
use Rattle.combinators.specs.Refusal.{no_refusal, refused, refused_at, too_long, short_store, not_utf8, panic}
use Rattle.combinators.specs.declared.lent.Stores.{Stores}
use Rattle.combinators.specs.declared.refusals.Refusal.{Refusal}
use Rattle.syntax.specs.Stream.{rows_many, texts_many}
use Rattle.characters.specs.Utf8.{valid, scalar_taken, scalar_of, scalar_by, lead_of, taken_of, is_continuation}
use Rattle.combinators.specs.Repeat.{many, took}
use Rattle.syntax.specs.RuleLayout.{rule_rows, rule_texts}
use Rattle.syntax.specs.Selector.{RuleSet}
use Rattle.selectors.specs.Outcome.{Outcome, on_outcome}
use Rattle.selectors.specs.Reading.{written}
use Rattle.sheets.specs.Sheet.{sheet_from, sheet_of}
use Rattle.sheets.specs.declared.answers.SheetNumbers.{SheetNumbers}
use Rattle.selectors.specs.declared.readings.Read.{Read}
use Rattle.sheets.specs.declared.sheet.SheetError.{SheetError}
use Rattle.sheets.specs.declared.sheet.SheetError.TheVariants.{TooLong, ShortStore, NotUtf8, Panic}

-- "a sheet over 32,768 bytes"
abbrev pub sheet_limit : ℕ
sheet_limit = 32768

-- ---- the answer in numbers: a refusal, with all else 0
abbrev pub refused_sheet : Refusal → SheetNumbers
refused_sheet r = record { refusal = r; count = 0; stop = 0; numbers = 0; bytes = 0 }

-- "Where an answer is an enum, a definition gives this paper's number and values for each of its cases"; of refusal 4 the text is "0 in a call with
-- one text"
unfoldable pub refusal_of : SheetError → Refusal
refusal_of TooLong = refused too_long
refusal_of ShortStore = refused short_store
refusal_of NotUtf8 = refused not_utf8
refusal_of (Panic p) = refused_at panic p

unfoldable pub numbers_of : Result Read SheetError → SheetNumbers
numbers_of (Ok read) = record { refusal = no_refusal; count = read.count; stop = read.taken; numbers = read.numbers; bytes = read.text }
numbers_of (Err e) = refused_sheet (refusal_of e)

-- ---- what is left of the call: its answer, and the four stores
pub record SheetLeft : Type 0 where
  pub answer : SheetNumbers
  pub rules : List ℕ
  pub tokens : List ℕ
  pub brackets : List ℕ
  pub texts : List ℕ

-- by a call that is lent the stores: its answer, and what they then hold
abbrev pub leaving : SheetNumbers → Stores → SheetLeft
leaving a stores = record { answer = a; rules = stores.rules.now; tokens = stores.tokens.now; brackets = stores.brackets.now; texts = stores.texts.now }

-- numbers at the start of a store of n, zeros behind them
unfoldable pub padded : List ℕ → ℕ → List ℕ
padded xs n = xs ++ replicate (n - length xs) 0

-- a store with zeros in place of what it holds
abbrev pub zeros : List ℕ → List ℕ
zeros store = replicate (length store) 0

-- of a sheet that was read how many rules, the first byte not read, the numbers that the rules take and the bytes of their texts. Reading a sheet
-- never fails (proofs/SheetLaws.antt).
unfoldable pub sheet_numbers : Outcome (List RuleSet) → SheetNumbers
sheet_numbers o =
    on_outcome o
    (λ stop rs. record { refusal = no_refusal; count = length rs; stop = stop; numbers = length (rule_rows 0 rs); bytes = length (rule_texts rs) })
    (record { refusal = no_refusal; count = 0; stop = 0; numbers = 0; bytes = 0 }) (λ p. refused_sheet (refused_at panic p))

-- "After an answer all beyond it, and all work stores, are zero", "After 4 .. each writable buffer is zero throughout"
unfoldable pub sheet_left : List ℕ → List ℕ → List ℕ → List ℕ → List ℕ → SheetLeft
sheet_left s rules tokens brackets texts =
    let rows = padded (written (rule_rows 0) (sheet_of s)) (length rules) in
    let names = padded (written rule_texts (sheet_of s)) (length texts) in
    record { answer = sheet_numbers (sheet_of s); rules = rows; tokens = zeros tokens; brackets = zeros brackets; texts = names }

-- "after others it is unchanged"
unfoldable pub unchanged : Refusal → List ℕ → List ℕ → List ℕ → List ℕ → SheetLeft
unchanged r rules tokens brackets texts = record { answer = refused_sheet r; rules = rules; tokens = tokens; brackets = brackets; texts = texts }

-- "The lowest number that applies is returned"
unfoldable pub read_sheet : List ℕ → List ℕ → List ℕ → List ℕ → List ℕ → SheetLeft
read_sheet s rules tokens brackets texts =
    pick (ltb sheet_limit (length s)) (unchanged (refused too_long) rules tokens brackets texts)
    (pick (not (stores_suffice (length s) (length rules) (length tokens) (length brackets) (length texts))) (unchanged (refused short_store) rules tokens brackets texts)
    (pick (not (valid s)) (unchanged (refused not_utf8) rules tokens brackets texts)
    (sheet_left s rules tokens brackets texts)))

-- ---- what reading a sheet asks of its stores
pub record SheetLent (s rules tokens brackets texts : List ℕ) : Type 0 where
  pub within : length s ≤ sheet_limit
  pub least : Least (length s) (length rules) (length tokens) (length brackets) (length texts)

-- ---- cases: 1 before 2, 2 before 3; the empty sheet in stores of the least lengths, which are cleared
test-refusals : ((read_sheet (replicate 32769 0xff) [] [] [] []).answer.refusal ≡ refused 1)
    × ((read_sheet (replicate 32768 0xff) [] [] [] []).answer.refusal ≡ refused 2)
    × ((read_sheet (0xff ∷ []) (replicate 72 1) (replicate 72 1) (1 ∷ []) (replicate 13 1)).answer.refusal ≡ refused 2)
    × (read_sheet (0xff ∷ []) (replicate 72 1) (replicate 72 1) (1 ∷ []) (replicate 14 1)
    ≡ record { answer = numbers_of (Err NotUtf8); rules = replicate 72 1; tokens = replicate 72 1; brackets = 1 ∷ []; texts = replicate 14 1 })
    × ((numbers_of (Err (Panic 2))).refusal ≡ record { number = 4; text = 0; place = 2 })
unfolding read_sheet unchanged numbers_of refusal_of stores_suffice pick and valid scalar_taken scalar_of scalar_by lead_of taken_of is_continuation or is within many took
test-refusals = (refl, refl, refl, refl, refl)

test-empty : read_sheet [] (replicate 64 1) (replicate 64 1) (1 ∷ []) (replicate 12 1)
    ≡ record {
      answer = record { refusal = no_refusal; count = 0; stop = 0; numbers = 0; bytes = 0 };
      rules = replicate 64 0;
      tokens = replicate 64 0;
      brackets = 0 ∷ [];
      texts = replicate 12 0;
    }
unfolding read_sheet sheet_left sheet_numbers sheet_of sheet_from on_outcome written padded rule_rows rule_texts rows_many texts_many stores_suffice pick and is valid many
test-empty = refl
