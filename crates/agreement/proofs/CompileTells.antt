-- What a compile call that refuses nothing tells: the three sheets were read, and the bytes that it gives are their selectors, which a run takes.
use Prim.Native.Nat.{ℕ, ◌+◌, ◌-◌, ◌≤◌, ◌<◌}
use mathlib.Core.Path.{◌≡◌, refl, ap}
use mathlib.Core.Bool.{true, false, not}
use mathlib.Core.List.{List}
use native.Mathlib.Omega.{arith}
use borrow.Author.Tests.{leb-true, ltb-false}
use lib.Dec.{leb, ltb}
use lib.ListN.{length, take, replicate}
use lib.Seq.{take_at}
use Rattle.std.proofs.lemmas.Bool.{not-false}
use Rattle.combinators.specs.LeastLengths.{stores_suffice}
use Rattle.combinators.specs.Refusal.{no_refusal, refused, refused_in, too_long, short_store, not_utf8, panic, no_room}
use Rattle.combinators.specs.declared.refusals.Refusal.{Refusal}
use Rattle.combinators.proofs.Rules.{pick-holds}
use Rattle.syntax.specs.Selector.{RuleSet}
use Rattle.sheets.specs.SheetAnswer.{padded}
use Rattle.origins.specs.Checks.{any_too_long, all_valid}
use Rattle.origins.specs.Reading.{Sheets, rules, panicked, sheets_of, sheets_texts}
use Rattle.origins.proofs.ChecksLaws.{none-long}
use Rattle.origins.proofs.SheetsKnown.{sheets-known}
use Rattle.compiled.specs.Answer.{bytes_refusal}
use Rattle.compiled.specs.Decoded.{on_decoded}
use Rattle.compiled.specs.Sheet.{compiled_limit, encode}
use Rattle.compiler.specs.CompileAnswer.{room_of, CompileLeft, zeroed, unchanged, answered, answered_within, compiled_left, compile_of}
use Rattle.compiler.specs.Selectors.{selectors_of}
use Rattle.compiler.proofs.Range.{compiled-back}
use Rattle.styles.specs.Lent.{SheetTexts}
use Rattle.styles.specs.Said.{Rules}
use Rattle.agreement.specs.Calls.{CompileBuffers, compile_with, code_of}
use Rattle.agreement.specs.Demand.{sheets_selectors}

-- what stands at the start of a store comes back
pub padded-front : (xs : List ℕ) (n : ℕ) → take (length xs) (padded xs n) ≡ xs
unfolding padded
padded-front xs n = take_at xs (replicate (n - length xs) 0) (length xs) refl

pub record Compiled (s : SheetTexts) (code : List ℕ) : Type 0 where
  pub sheets : Rules RuleSet
  pub read : sheets_of s.agent s.user s.author ≡ rules sheets.agent sheets.user sheets.author
  pub bytes : code ≡ encode (sheets_selectors sheets)
  pub few : length code ≤ compiled_limit
  pub short : any_too_long (length s.agent) (length s.user) (length s.author) ≡ false
  pub valid : all_valid s.agent s.user s.author ≡ true

module _ (s : SheetTexts) (b : CompileBuffers) where
  -- what is claimed of each way that a call ends
  abbrev Claimed : CompileLeft → Type 0
  Claimed c = c.answer.refusal ≡ no_refusal → Compiled s (code_of c)

  -- one that refuses claims nothing
  refusing : (n : ℕ) → 0 < n → Claimed (unchanged b.compiled b.texts b.rules b.tokens b.brackets (refused n))
  unfolding unchanged
  refusing n h e = absurd (let z : n ≡ 0 = ap (λ (r : Refusal). r.number) e in omega arith)

  -- nor does one that clears its buffers
  zeroing : (n which place : ℕ) → 0 < n → Claimed (zeroed b.compiled b.texts b.rules b.tokens b.brackets (refused_in n which place))
  unfolding zeroed
  zeroing n which place h e = absurd (let z : n ≡ 0 = ap (λ (r : Refusal). r.number) e in omega arith)

  -- the room is not above the limit
  room_most : (n : ℕ) → room_of n ≤ compiled_limit
  unfolding room_of
  room_most n = pick-holds (λ (m : ℕ). m ≤ compiled_limit) (ltb compiled_limit n) compiled_limit n (λ _. omega arith) (λ e. ltb-false compiled_limit n e)

  module _ (short : any_too_long (length s.agent) (length s.user) (length s.author) ≡ false) (valid : all_valid s.agent s.user s.author ≡ true) where
    -- sheets that were read and whose bytes fit
    within : (a u w : List RuleSet) → sheets_of s.agent s.user s.author ≡ rules a u w → length (encode (selectors_of a u w)) ≤ compiled_limit
        → Claimed (answered b.compiled b.texts b.rules b.tokens b.brackets (encode (selectors_of a u w)) (sheets_texts (rules a u w)))
    unfolding answered
    within a u w read few e =
        let code = encode (selectors_of a u w) in
        let front : take (length code) (padded code (length b.compiled)) ≡ code = padded-front code (length b.compiled) in
        record { sheets = record { agent = a; user = u; author = w }; read = read; bytes = front; few = rw front few; short = short; valid = valid }

    -- of sheets that were read, or not
    by-sheets : (m : Sheets) → sheets_of s.agent s.user s.author ≡ m → Claimed (compiled_left b.compiled b.texts b.rules b.tokens b.brackets m)
    unfolding compiled_left answered_within
    by-sheets (rules a u w) read =
        pick-holds Claimed (leb (length (encode (selectors_of a u w))) (room_of (length b.compiled))) _ _
        (λ e. within a u w read (omega (arith, leb-true (length (encode (selectors_of a u w))) (room_of (length b.compiled)) e, room_most (length b.compiled))))
        (λ _. zeroing no_room 0 0 (omega arith))
    by-sheets (panicked which p) read = zeroing panic which p (omega arith)

  -- where a call refuses nothing, its bytes are the compiled form of the three sheets that it read
  pub compile-tells : (compile_with s b).answer.refusal ≡ no_refusal → Compiled s (code_of (compile_with s b))
  unfolding compile_of
  compile-tells =
      pick-holds Claimed (any_too_long (length s.agent) (length s.user) (length s.author)) _ _ (λ _. refusing too_long (omega arith))
      (λ short. pick-holds Claimed (not (stores_suffice (length s.agent + length s.user + length s.author) (length b.rules) (length b.tokens) (length b.brackets) (length b.texts))) _ _ (λ _. refusing short_store (omega arith))
      (λ _. pick-holds Claimed (not (all_valid s.agent s.user s.author)) _ _ (λ _. refusing not_utf8 (omega arith))
      (λ valid. by-sheets short (not-false _ valid) (sheets_of s.agent s.user s.author) refl)))

-- the bytes read as a sheet to their last byte: a run never refuses them as no sheet
pub bytes-taken : (s : SheetTexts) (code : List ℕ) → Compiled s code → bytes_refusal code ≡ no_refusal
unfolding bytes_refusal on_decoded
bytes-taken s code c =
    let r = c.sheets in
    let k = sheets-known s.agent s.user s.author r.agent r.user r.author c.read in
    let l = none-long (length s.agent) (length s.user) (length s.author) c.short in
    rw (c.bytes, compiled-back s.agent s.user s.author k.agent-read k.user-read k.author-read l.0 l.1 l.2)
