-- Returns of `height_length` and of what it calls.
use mathlib.Core.Path.{◌≡◌, refl, sym, ap, ◌∙◌}
use mathlib.Core.Bool.{Bool, true, false}
use mathlib.Core.List.{List}
use Prim.Native.Nat.{ℕ, ◌≤◌, ◌<◌}
use borrow.Author.Tests.{lt-ltb, le-ltb}
use lib.ListN.{length}
use Rattle.combinators.specs.LeastLengths.{stores_suffice}
use Rattle.combinators.specs.Store.{cleared}
use Rattle.combinators.proofs.Cleared.{cleared-throughout}
use Rattle.combinators.proofs.Rules.{pick_true, pick-false}
use Rattle.characters.specs.Utf8.{valid}
use Rattle.sheets.specs.SheetAnswer.{sheet_limit}
use Rattle.lengths.specs.Length.{length_of}
use Rattle.lengths.specs.HeightLength.{refusal_of, numbers_of, LengthLeft, length_left, unchanged, height_length}
use Rattle.lengths.specs.declared.answers.LengthNumbers.{LengthNumbers}
use Rattle.std.specs.Prelude.{Option, Result, Err}
use Rattle.lengths.specs.declared.answers.Length.{Length}
use Rattle.lengths.specs.declared.answers.LengthError.{LengthError}
use Rattle.lengths.specs.declared.answers.LengthError.TheVariants.{TooLong, ShortStore, NotUtf8}

-- ---- `read_value`
-- what is left, by its parts
left_by : {a a' : LengthNumbers} {y y' x x' b b' z z' : List ℕ} → a ≡ a' → y ≡ y' → x ≡ x' → b ≡ b' → z ≡ z'
    → ◌≡◌ {A = LengthLeft} (record { answer = a; rules = y; tokens = x; brackets = b; texts = z }) (record { answer = a'; rules = y'; tokens = x'; brackets = b'; texts = z' })
left_by p q r s t = rw (p, q, r, s, t) refl

-- the answer, and all stores cleared; u is what reading leaves in the text store
pub value_read : (s rules tokens brackets texts u : List ℕ) {r : (Result (Option Length) LengthError)} {y x b z : List ℕ} → r ≡ length_of s
    → y ≡ cleared 0 rules → x ≡ cleared 0 tokens → b ≡ cleared 0 brackets → z ≡ cleared 0 u → length u ≡ length texts
    → ◌≡◌ {A = LengthLeft} (record { answer = numbers_of r; rules = y; tokens = x; brackets = b; texts = z }) (length_left s rules tokens brackets texts)
unfolding length_left
value_read s rules tokens brackets texts u {r} {y} {x} {b} {z} er ey ex eb ez h =
    left_by (ap numbers_of er) (cleared-throughout rules rules y refl ey) (cleared-throughout tokens tokens x refl ex) (cleared-throughout brackets brackets b refl eb) (cleared-throughout u texts z h ez)

-- ---- `height_length`, in the order of the refusals
module _ (s rules tokens brackets texts : List ℕ) where
  -- the return where the value is too long: refused, and the stores as they were
  pub too_long_lem : sheet_limit < length s → ◌≡◌ {A = LengthLeft} (record { answer = numbers_of (Err TooLong); rules = rules; tokens = tokens; brackets = brackets; texts = texts }) (height_length s rules tokens brackets texts)
  unfolding height_length unchanged numbers_of refusal_of
  too_long_lem h = pick_true _ _ _ _ (lt-ltb sheet_limit (length s) h) refl

  module _ (h : length s ≤ sheet_limit) {t : Bool} (et : t ≡ stores_suffice (length s) (length rules) (length tokens) (length brackets) (length texts)) where
    -- the return where the stores are too short: refused, and the stores as they were
    pub short-store : t ≡ false → ◌≡◌ {A = LengthLeft} (record { answer = numbers_of (Err ShortStore); rules = rules; tokens = tokens; brackets = brackets; texts = texts }) (height_length s rules tokens brackets texts)
    unfolding height_length unchanged numbers_of refusal_of
    short-store e = pick-false _ _ _ _ (le-ltb sheet_limit (length s) h) (pick-false _ _ _ _ (sym et ∙ e) refl)

    module _ (e : t ≡ true) where
      module _ {v : Bool} (ev : v ≡ valid s) where
        -- the return where the value is no UTF-8: refused, and the stores as they were
        pub not-utf8 : v ≡ false → ◌≡◌ {A = LengthLeft} (record { answer = numbers_of (Err NotUtf8); rules = rules; tokens = tokens; brackets = brackets; texts = texts }) (height_length s rules tokens brackets texts)
        unfolding height_length unchanged numbers_of refusal_of
        not-utf8 f = pick-false _ _ _ _ (le-ltb sheet_limit (length s) h) (pick_true _ _ _ _ (sym et ∙ e) (pick-false _ _ _ _ (sym ev ∙ f) refl))

        -- behind all tests, what reading the value leaves is what the call leaves
        pub read : v ≡ true → {a : LengthNumbers} {y x b z : List ℕ}
            → record { answer = a; rules = y; tokens = x; brackets = b; texts = z } ≡ length_left s rules tokens brackets texts
            → record { answer = a; rules = y; tokens = x; brackets = b; texts = z } ≡ height_length s rules tokens brackets texts
        unfolding height_length
        read f p = pick-false _ _ _ _ (le-ltb sheet_limit (length s) h) (pick_true _ _ _ _ (sym et ∙ e) (pick_true _ _ _ _ (sym ev ∙ f) p))
