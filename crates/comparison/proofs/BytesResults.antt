-- Returns of `comparison_check_bytes`, from what `check_sheet` answers.
use Prim.Native.Nat.{ℕ, ◌≤◌, ◌<◌}
use mathlib.Core.List.{List}
use mathlib.Core.Path.{◌≡◌, refl, ◌∙◌}
use borrow.Author.Tests.{lt-ltb, le-ltb}
use lib.ListN.{length}
use Rattle.std.proofs.Common.{Result, Ok, Err}
use Rattle.combinators.specs.Refusal.{refused, refused_at, too_long, bad_bytes, Refuses}
use Rattle.combinators.specs.declared.refusals.Refusal.{Refusal}
use Rattle.combinators.proofs.Rules.{pick_true, pick-false}
use Rattle.compiled.specs.Answer.{refusal_of, bytes_refusal}
use Rattle.compiled.specs.declared.places.Fault.{Fault}
use Rattle.compiled.specs.Sheet.{compiled_limit}
use Rattle.comparison.specs.Bytes.{bytes_result, refusal_in, bytes_called}
use Rattle.comparison.specs.declared.bytes.BytesResult.{BytesResult}

-- a refusal of bytes names no text
names-none : (a : Result Unit Fault) → refused_at (refusal_of a).number (refusal_of a).place ≡ refusal_of a
unfolding refusal_of
names-none (Ok u) = refl
names-none (Err f) = refl

-- what an answer stands for by its error's refusal is its refusal
pub refusal-of : (a : Result Unit Fault) {q : Refusal} → Refuses (λ f r. r ≡ refused_at bad_bytes f.place) a q → q ≡ refusal_of a
unfolding Refuses refusal_of
refusal-of (Ok u) h = h
refusal-of (Err f) h = h

-- ---- a struct of a refusal
module _ (t : List ℕ) (told : BytesResult) {q : Refusal} (e : told ≡ bytes_result q) where
  -- more bytes than a compiled sheet may have
  pub too_long_lem : q ≡ refused too_long → compiled_limit < length t → refusal_in told ≡ bytes_called t
  unfolding bytes_called refusal_in bytes_result
  too_long_lem f h = rw (e, f) (pick_true _ _ _ _ (lt-ltb compiled_limit (length t) h) refl)

  -- the return where the bytes are within the limit: what checking them refuses
  pub bytes_read : (a : Result Unit Fault) → length t ≤ compiled_limit → q ≡ refusal_of a → refusal_of a ≡ bytes_refusal t → refusal_in told ≡ bytes_called t
  unfolding bytes_called refusal_in bytes_result
  bytes_read a h f g = rw (e, f) (pick-false _ _ _ _ (le-ltb compiled_limit (length t) h) (names-none a ∙ g))
