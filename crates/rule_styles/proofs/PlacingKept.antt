-- What is kept of a rule: the returns of `keep_rule`.
use mathlib.Core.Path.{◌≡◌, refl, ap, sym, ◌∙◌}
use mathlib.Core.List.{List, [], ◌∷◌, ◌++◌}
use Prim.Native.Nat.{ℕ, ◌+◌, ◌*◌, ◌/◌, ◌≤◌}
use native.Mathlib.Numerals.{add-one}
use native.Mathlib.Omega.{arith}
use lib.ListN.{length, set, take, drop, replicate, length-append, length-drop, length-replicate}
use lib.Seq.{sets, sets-eq, length-take-le}
use Rattle.combinators.specs.Store.{filled_part, wiped}
use Rattle.combinators.proofs.Wiped.{sets-apart}
use Rattle.syntax.specs.Layout.{style_width}
use Rattle.syntax.specs.Stream.{read_many, texts_many}
use Rattle.syntax.specs.declared.styles.Value.{Value}
use Rattle.syntax.proofs.RowSizes.{length-style}
use Rattle.cascade.specs.Record.{slot_count, Styled}
use Rattle.rule_styles.specs.Deciding.{deciding}
use Rattle.rule_styles.specs.Placing.{kept_head, kept_count, styled_row, kept, styled_in, read_styled}
use Rattle.rule_styles.specs.PlacingRoom.{KeptRoom}
use Rattle.rule_styles.specs.Sifting.{DecidingRoom}
use Rattle.rule_styles.proofs.DecidingBounds.{deciding-two}
use Rattle.rule_styles.proofs.PlacingParts.{both-stored, styled-chunks}
use Rattle.std.specs.Simd.{first_chunks}

-- the rows of styles are of one width
pub length-rows : (xs : List (Styled Value)) → length (texts_many styled_row xs) ≡ style_width * length xs
unfolding texts_many styled_row
length-rows [] = refl
length-rows (x ∷ xs) =
    let row = styled_row x in
    omega (arith, length-append row (texts_many styled_row xs), length-style (record { slot = x.slot; important = x.important; value = x.value }), length-rows xs)

-- the count, and the rows
pub length-kept : (xs : List (Styled Value)) → length (kept xs) ≡ kept_head + style_width * length xs
unfolding kept
length-kept xs = omega (arith, length-rows xs)

-- a count stored before rows that were stored
kept-stored : (tokens : List ℕ) (place : ℕ) (xs : List (Styled Value)) → set (sets tokens (place + kept_head) (texts_many styled_row xs)) place (length xs) ≡ sets tokens place (kept xs)
unfolding kept
kept-stored tokens place xs =
    sets-apart tokens place (place + kept_head) (length xs ∷ []) (texts_many styled_row xs) (omega arith) ∙ rw (add-one place)

-- ---- returns of `keep_rule`, which splits the store where the styles are made
module _ (tokens : List ℕ) (place at count : ℕ) (o : KeptRoom tokens place at count) (front made : List ℕ) (ef : front ≡ take at tokens) (em : made ≡ drop at tokens) where
  -- those of the styles, as they lie in the store, that decide
  abbrev lying : List (Styled Value)
  lying = deciding (read_many read_styled count (drop at tokens)).value

  -- the place where the store is split lies in it
  split-in : at ≤ length tokens
  split-in = omega (arith, o.inside)

  -- the front is as long as that place says
  pub front-long : length front ≡ at
  front-long = ap length ef ∙ length-take-le at tokens split-in

  -- there is room for all that decide
  pub deciding-room : DecidingRoom front (place + kept_head)
  deciding-room = record { room = omega (arith, front-long, o.apart) }

  -- the rows of the styles lie in what is behind it
  pub rows-in : style_width * count ≤ length made
  rows-in = omega (arith, o.inside, ap length em, length-drop at tokens)

  -- there is one for each
  pub rows-counted : length (take (style_width * count) made) / style_width ≡ count
  rows-counted = omega (arith, length-take-le (style_width * count) made rows-in)

  -- the styles in them are those that lie there
  styles-are : (rows : List (List ℕ)) (m : ℕ) → m ≡ count → rows ≡ first_chunks style_width m (take (style_width * count) made) → deciding (styled_in rows) ≡ lying
  styles-are rows m e f = ap deciding (rw (f, e, em) (styled-chunks count (style_width * count) (drop at tokens) (omega arith)))

  module _ (rows : List (List ℕ)) (m : ℕ) (em' : m ≡ count) (er : rows ≡ first_chunks style_width m (take (style_width * count) made))
      (t : List ℕ) (n : ℕ) (e' : t ≡ sets front (place + kept_head) (texts_many styled_row (deciding (styled_in rows)))) (h' : n ≡ length (deciding (styled_in rows))) where
    -- so what is written and counted is what decides of them
    e : t ≡ sets front (place + kept_head) (texts_many styled_row lying)
    e = e' ∙ ap (λ (xs : List (Styled Value)). sets front (place + kept_head) (texts_many styled_row xs)) (styles-are rows m em' er)

    h : n ≡ length lying
    h = h' ∙ ap (λ (xs : List (Styled Value)). length xs) (styles-are rows m em' er)

    -- the styles that decide are at most two for each slot
    pub kept-few : n ≤ 2 * slot_count
    kept-few = omega (arith, h, deciding-two (read_many read_styled count (drop at tokens)).value)

    -- the store is left with the kept styles from the place on and the read ones wiped, and the place behind is where they end
    pub kept-left : (ys : List ℕ) → ys ≡ replicate (length (take (style_width * count) made)) 0
        → (set t (place + kept_count) n ++ (ys ++ drop (style_width * count) made) ≡ wiped at (style_width * count) (sets tokens place (kept lying))) × (place + kept_head + style_width * n ≡ place + length (kept lying))
    unfolding filled_part
    kept-left ys ey =
        let w : ℕ = style_width * count in
        let first : place + kept_count ≡ place = omega arith in
        let r : 0 + length {A = ℕ} (replicate w 0) ≡ w = omega (arith, length-replicate {A = ℕ} w 0) in
        let zeros : ys ≡ replicate w 0 = ey ∙ ap (λ (i : ℕ). replicate i 0) (length-take-le w made rows-in) in
        let ez : ys ++ drop w made ≡ sets made 0 (replicate w 0) =
        ap (λ (l : List ℕ). l ++ drop w made) zeros ∙ ap (λ (i : ℕ). replicate w 0 ++ drop i made) (sym r) ∙ sym (sets-eq (replicate w 0) made 0 (omega (arith, r, rows-in))) in
        let k : place + length (kept lying) ≤ at = omega (arith, length-kept lying, deciding-two (read_many read_styled count (drop at tokens)).value, o.apart) in (
          rw (first, e, h, kept-stored front place lying, ez, ef, em) (both-stored tokens at place (kept lying) (replicate (style_width * count) 0) split-in k),
          omega (arith, h, length-kept lying),
        )
