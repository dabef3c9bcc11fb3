-- What `height_length` answers and leaves: the refusals of documents 01 and 02 in their order, or the length that the value is.
use Rattle.std.specs.Prelude.{ℕ, Option, Some, None, Result, Ok, Err, List, ltb, length}
use Rattle.combinators.specs.Choice.{pick}
use Rattle.combinators.specs.LeastLengths.{stores_suffice}
use Rattle.combinators.specs.Refusal.{no_refusal, refused, refused_at, too_long, short_store, not_utf8, bad_length}
use Rattle.combinators.specs.declared.lent.Stores.{Stores}
use Rattle.combinators.specs.declared.refusals.Refusal.{Refusal}
use Rattle.characters.specs.Utf8.{valid}
use Rattle.sheets.specs.SheetAnswer.{sheet_limit, zeros}
use Rattle.lengths.specs.Unit.{no_kind, kind_number}
use Rattle.lengths.specs.Length.{length_of}
use Rattle.lengths.specs.declared.answers.LengthNumbers.{LengthNumbers}
use Rattle.lengths.specs.declared.answers.Length.{Length}
use Rattle.lengths.specs.declared.answers.LengthError.{LengthError}
use Rattle.lengths.specs.declared.answers.LengthError.TheVariants.{TooLong, ShortStore, NotUtf8, BadLength}

-- ---- the answer in numbers: without a length all is 0 but the refusal
abbrev pub without_length : Refusal → LengthNumbers
without_length r = record { refusal = r; kind = no_kind; amount = 0 }

-- what each answer stands for; the text of a refusal is 0, since there is one text
unfoldable pub refusal_of : LengthError → Refusal
refusal_of TooLong = refused too_long
refusal_of ShortStore = refused short_store
refusal_of NotUtf8 = refused not_utf8
refusal_of (BadLength place) = refused_at bad_length place

unfoldable pub numbers_of : Result (Option Length) LengthError → LengthNumbers
numbers_of (Ok (Some l)) = record { refusal = no_refusal; kind = kind_number l.kind; amount = l.amount }
numbers_of (Ok None) = without_length no_refusal
numbers_of (Err e) = without_length (refusal_of e)

-- ---- what is left of the call: its answer, and the four stores
pub record LengthLeft : Type 0 where
  pub answer : LengthNumbers
  pub rules : List ℕ
  pub tokens : List ℕ
  pub brackets : List ℕ
  pub texts : List ℕ

-- by a call that is lent the stores: its answer, and what they then hold
abbrev pub leaving : LengthNumbers → Stores → LengthLeft
leaving a stores = record { answer = a; rules = stores.rules.now; tokens = stores.tokens.now; brackets = stores.brackets.now; texts = stores.texts.now }

-- "this call, S-8's and S-10's leave the text store zero", and all others are work stores; after 12 "buffers are then as after 4"
unfoldable pub length_left : List ℕ → List ℕ → List ℕ → List ℕ → List ℕ → LengthLeft
length_left s rules tokens brackets texts =
    record { answer = numbers_of (length_of s); rules = zeros rules; tokens = zeros tokens; brackets = zeros brackets; texts = zeros texts }

-- "after others it is unchanged"
unfoldable pub unchanged : Refusal → List ℕ → List ℕ → List ℕ → List ℕ → LengthLeft
unchanged r rules tokens brackets texts = record { answer = without_length r; rules = rules; tokens = tokens; brackets = brackets; texts = texts }

-- "takes one height's value as a sheet": 1, 2 and 3 as for one; then 12, or the answer
unfoldable pub height_length : List ℕ → List ℕ → List ℕ → List ℕ → List ℕ → LengthLeft
height_length s rules tokens brackets texts =
    pick (ltb sheet_limit (length s)) (unchanged (refused too_long) rules tokens brackets texts)
    (pick (stores_suffice (length s) (length rules) (length tokens) (length brackets) (length texts))
    (pick (valid s) (length_left s rules tokens brackets texts) (unchanged (refused not_utf8) rules tokens brackets texts))
    (unchanged (refused short_store) rules tokens brackets texts))
