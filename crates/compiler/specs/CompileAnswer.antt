-- What `compile` answers and leaves: the refusals of document 01 in the order of their numbers, or the compiled sheet.
use Rattle.std.specs.Prelude.{ℕ, ◌+◌, not, Result, Ok, Err, List, leb, ltb, length}
use Rattle.combinators.specs.declared.lent.SheetTexts.{SheetTexts}
use Rattle.combinators.specs.declared.lent.Stores.{Stores}
use Rattle.combinators.specs.Choice.{pick}
use Rattle.combinators.specs.LeastLengths.{stores_suffice}
use Rattle.combinators.specs.Refusal.{no_refusal, refused, refused_in, too_long, short_store, not_utf8, panic, no_room}
use Rattle.combinators.specs.declared.refusals.Refusal.{Refusal}
use Rattle.sheets.specs.SheetAnswer.{padded, zeros}
use Rattle.origins.specs.Checks.{Lent, any_too_long, all_valid}
use Rattle.origins.specs.Reading.{Sheets, rules, panicked, sheets_of, sheets_texts}
use Rattle.compiled.specs.Sheet.{compiled_limit, encode}
use Rattle.compiler.specs.Selectors.{selectors_of}
use Rattle.compiler.specs.declared.answers.CompileNumbers.{CompileNumbers}
use Rattle.compiler.specs.declared.compile.Compiled.{Compiled}
use Rattle.compiler.specs.declared.compile.CompileError.{CompileError}
use Rattle.compiler.specs.declared.compile.CompileError.TheVariants.{TooLong, ShortStore, NotUtf8, Panic, NoRoom}

-- ---- the room of a buffer of n bytes: "10 the compiled sheet would exceed its buffer or 65,536 bytes"
unfoldable pub room_of : ℕ → ℕ
room_of n = pick (ltb compiled_limit n) compiled_limit n

-- ---- the answer in numbers: a refusal, with all else 0
abbrev pub refused_compile : Refusal → CompileNumbers
refused_compile r = record { refusal = r; bytes = 0; texts = 0 }

-- "Where an answer is an enum, a definition gives this paper's number and values for each of its cases, and the promises use that definition."
unfoldable pub refusal_of : CompileError → Refusal
refusal_of TooLong = refused too_long
refusal_of ShortStore = refused short_store
refusal_of NotUtf8 = refused not_utf8
refusal_of (Panic p) = refused_in panic p.text p.place
refusal_of NoRoom = refused no_room

unfoldable pub numbers_of : Result Compiled CompileError → CompileNumbers
numbers_of (Ok c) = record { refusal = no_refusal; bytes = c.bytes; texts = c.texts }
numbers_of (Err e) = refused_compile (refusal_of e)

-- ---- what is left of the call, its answer and the five buffers: "Each contract determines result and every writable byte, refusals too, by an equation with a
-- definition wherever there can be one"
pub record CompileLeft : Type 0 where
  pub answer : CompileNumbers
  pub compiled : List ℕ
  pub texts : List ℕ
  pub rules : List ℕ
  pub tokens : List ℕ
  pub brackets : List ℕ

-- by a call that is lent the stores: its answer, and what all buffers then hold
abbrev pub leaving : CompileNumbers → List ℕ → Stores → CompileLeft
leaving a compiled stores =
    record { answer = a; compiled = compiled; texts = stores.texts.now; rules = stores.rules.now; tokens = stores.tokens.now; brackets = stores.brackets.now }

module _ (compiled texts rules₀ tokens brackets : List ℕ) where
  -- "After 4 and 10 each writable buffer is zero throughout"
  unfoldable pub zeroed : Refusal → CompileLeft
  zeroed r =
      record { answer = refused_compile r; compiled = zeros compiled; texts = zeros texts; rules = zeros rules₀; tokens = zeros tokens; brackets = zeros brackets }

  -- "after others it is unchanged"
  unfoldable pub unchanged : Refusal → CompileLeft
  unchanged r = record { answer = refused_compile r; compiled = compiled; texts = texts; rules = rules₀; tokens = tokens; brackets = brackets }

  -- the bytes of a sheet and the texts of its rules; "After an answer all beyond it, and all work stores, are zero"
  unfoldable pub answered : List ℕ → List ℕ → CompileLeft
  answered bytes ts =
      let a : CompileNumbers = record { refusal = no_refusal; bytes = length bytes; texts = length ts } in
      let sheet = padded bytes (length compiled) in
      let names = padded ts (length texts) in
      record { answer = a; compiled = sheet; texts = names; rules = zeros rules₀; tokens = zeros tokens; brackets = zeros brackets }

  -- where the bytes fit
  unfoldable pub answered_within : List ℕ → List ℕ → CompileLeft
  answered_within bytes ts = pick (leb (length bytes) (room_of (length compiled))) (answered bytes ts) (zeroed (refused no_room))

  -- of sheets that were read
  unfoldable pub compiled_left : Sheets → CompileLeft
  compiled_left (rules a u w) = answered_within (encode (selectors_of a u w)) (sheets_texts (rules a u w))
  compiled_left (panicked which p) = zeroed (refused_in panic which p)

-- "The lowest number that applies is returned, 4 counting as above 9 and below 10"
unfoldable pub compile_of : List ℕ → List ℕ → List ℕ → List ℕ → List ℕ → List ℕ → List ℕ → List ℕ → CompileLeft
compile_of agent user author compiled texts rules₀ tokens brackets =
    let refuses = unchanged compiled texts rules₀ tokens brackets in
    pick (any_too_long (length agent) (length user) (length author)) (refuses (refused too_long))
    (pick (not (stores_suffice (length agent + length user + length author) (length rules₀) (length tokens) (length brackets) (length texts))) (refuses (refused short_store))
    (pick (not (all_valid agent user author)) (refuses (refused not_utf8))
    (compiled_left compiled texts rules₀ tokens brackets (sheets_of agent user author))))

-- ---- the same of what is lent: the sheets, and the stores
-- whether the stores suffice for the sheets
abbrev pub LentOf : SheetTexts → Stores → Type 0
LentOf x s = Lent x.agent.now x.user.now x.author.now s.rules.now s.tokens.now s.brackets.now s.texts.now

-- of sheets for which they do
abbrev pub compiled_left_of : SheetTexts → List ℕ → Stores → CompileLeft
compiled_left_of x compiled s = compiled_left compiled s.texts.now s.rules.now s.tokens.now s.brackets.now (sheets_of x.agent.now x.user.now x.author.now)

abbrev pub compile_call_of : SheetTexts → List ℕ → Stores → CompileLeft
compile_call_of x compiled s = compile_of x.agent.now x.user.now x.author.now compiled s.texts.now s.rules.now s.tokens.now s.brackets.now
