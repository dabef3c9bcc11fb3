-- Returns of `comparison_style_attribute` and `comparison_color_attribute`: what is refused, and what is read in stores of the least lengths.
use Prim.Native.Nat.{ℕ, ◌≤◌}
use mathlib.Core.Bool.{Bool}
use mathlib.Core.List.{List}
use mathlib.Core.Path.{◌≡◌, refl, ap, sym, subst, ◌∙◌}
use native.Mathlib.Omega.{arith}
use borrow.Author.Tests.{ltb-false}
use lib.ListN.{length}
use lib.Dec.{ltb}
use Rattle.std.proofs.Common.{Option, Result, Ok, Err}
use Rattle.std.specs.Result.{IsErrAnd}
use Rattle.combinators.specs.LeastLengths.{stores_suffice, Least}
use Rattle.combinators.proofs.LeastLaws.{least}
use Rattle.combinators.proofs.Rules.{pick-holds}
use Rattle.values.specs.Layout.{Room}
use Rattle.declarations.specs.Leaving.{colour_left, style_left, StyleRoom}
use Rattle.declarations.specs.declared.attributes.StylesRead.{StylesRead}
use Rattle.declarations.proofs.LeastLengths.{least-room, least-style-room}
use Rattle.page.specs.Accepted.{text_limit}
use Rattle.comparison.specs.declared.values_read.ValueError.{ValueError}
use Rattle.comparison.specs.Attributes.{value_checked, refused_or, styles_result, style_read, style_called, colour_result, colour_read, colour_called}

-- ---- a value that passes is within the limit, and the stores suffice
record Passed (n rules tokens brackets texts : ℕ) : Type 0 where
  within : n ≤ text_limit
  least : Least n rules tokens brackets texts

-- what an answer says that refuses nothing
Passes : ℕ → ℕ → ℕ → ℕ → ℕ → Result Unit ValueError → Type 0
Passes n rules tokens brackets texts (Ok passed) = Passed n rules tokens brackets texts
Passes n rules tokens brackets texts (Err e) = Unit

passes : (n rules tokens brackets texts : ℕ) → Passes n rules tokens brackets texts (value_checked n (stores_suffice n rules tokens brackets texts))
unfolding value_checked Passes
passes n rules tokens brackets texts =
    pick-holds (Passes n rules tokens brackets texts) (ltb text_limit n) _ _ (λ _. tt)
    (λ l. pick-holds (Passes n rules tokens brackets texts) (stores_suffice n rules tokens brackets texts) _ _ (λ e. record { within = ltb-false text_limit n l; least = least refl e }) (λ _. tt))

passed : {n rules tokens brackets texts : ℕ} {v : Result Unit ValueError} → v ≡ value_checked n (stores_suffice n rules tokens brackets texts) → v ≡ Ok tt → Passed n rules tokens brackets texts
unfolding Passes
passed {n} {rules} {tokens} {brackets} {texts} ev was = subst (Passes n rules tokens brackets texts) (sym ev ∙ was) (passes n rules tokens brackets texts)

-- what a value is answered that is told whether the stores suffice
pub told : (n : ℕ) {t b : Bool} {v : Result Unit ValueError} → v ≡ value_checked n t → t ≡ b → v ≡ value_checked n b
told n ev et = ev ∙ ap (value_checked n) et

-- ---- the returns of `read_styles`
module _ (s rules tokens brackets texts : List ℕ) {v : Result Unit ValueError}
    (ev : v ≡ value_checked (length s) (stores_suffice (length s) (length rules) (length tokens) (length brackets) (length texts))) where
  -- the return where the value is refused: the stores are as they were
  pub style-refused : {e : ValueError} → v ≡ Err e → (o : Result StylesRead ValueError) → IsErrAnd o (λ q. q ≡ e)
      → record { result = styles_result o; rules = rules; tokens = tokens; brackets = brackets; texts = texts } ≡ style_called s rules tokens brackets texts
  unfolding style_called refused_or
  style-refused was (Err q) d = rw (← ev, was, d) refl
  style-refused was (Ok read) d = absurd d

  module _ (was : v ≡ Ok tt) where
    -- stores of the least lengths have the room that reading the attribute's styles asks for
    pub style-room : StyleRoom s rules tokens brackets texts 0
    style-room =
        let p = passed ev was in
        let l = p.least in
        least-style-room (length s) s rules tokens brackets texts 0 (omega arith) (omega arith) (omega (arith, p.within)) l.for-texts l.for-brackets l.for-rules l.for-tokens

    -- the return where the styles were read: their count, the bytes of their texts, and the stores as reading leaves them
    pub style-called : {a : StylesRead} {y x b z : List ℕ} → record { answer = a; rules = y; tokens = x; brackets = b; store = z } ≡ style_left s rules tokens brackets texts 0
        → record { result = styles_result (Ok a); rules = y; tokens = x; brackets = b; texts = z } ≡ style_called s rules tokens brackets texts
    unfolding style_called style_read refused_or
    style-called p = rw (← ev, was) (ap style_read p)

-- ---- the returns of `read_colour`
module _ (s tokens brackets texts : List ℕ) {v : Result Unit ValueError}
    (ev : v ≡ value_checked (length s) (stores_suffice (length s) (length tokens) (length tokens) (length brackets) (length texts))) where
  -- the return where the value is refused: the stores are as they were
  pub colour-refused : {e : ValueError} → v ≡ Err e → (o : Result (Option ℕ) ValueError) → IsErrAnd o (λ q. q ≡ e)
      → record { result = colour_result o; tokens = tokens; brackets = brackets; texts = texts } ≡ colour_called s tokens brackets texts
  unfolding colour_called refused_or
  colour-refused was (Err q) d = rw (← ev, was, d) refl
  colour-refused was (Ok found) d = absurd d

  module _ (was : v ≡ Ok tt) where
    -- stores of the least lengths have the room that reading a colour asks for
    pub colour-room : Room (length s) 0 tokens brackets texts
    colour-room =
        let p = passed ev was in
        let l = p.least in
        least-room (length s) s tokens tokens brackets texts 0 (omega arith) (omega arith) (omega (arith, p.within)) l.for-texts l.for-brackets l.for-rules l.for-tokens

    -- the return where the value was read: whether a colour was found, and which, in numbers
    pub colour-read : {a : Option ℕ} {x b z : List ℕ} → record { answer = a; tokens = x; brackets = b; store = z } ≡ colour_left s tokens brackets texts 0
        → record { result = colour_result (Ok a); tokens = x; brackets = b; texts = z } ≡ colour_called s tokens brackets texts
    unfolding colour_called colour_read refused_or
    colour-read p = rw (← ev, was) (ap colour_read p)
