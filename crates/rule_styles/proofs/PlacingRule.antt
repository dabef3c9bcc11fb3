-- The styles of one rule: what `style_rule` asks of the functions that it calls, and its return.
use mathlib.Core.Path.{◌≡◌, refl, sym, ap, subst, ◌∙◌}
use mathlib.Core.List.{List, [], ◌∷◌, ◌++◌, map, append_assoc}
use Prim.Native.Nat.{ℕ, zero, suc, ◌+◌, ◌-◌, ◌*◌, ◌/◌, ◌≤◌}
use native.Mathlib.Omega.{arith}
use borrow.Rule.Slice.PartMut.{put_mid}
use lib.ListN.{length, get_or, drop, length-append}
use lib.Seq.{sets, length-sets}
use Rattle.combinators.specs.Store.{wiped, Zeros}
use Rattle.combinators.proofs.Lists.{lent_from, length-rest}
use Rattle.combinators.proofs.Wiped.{sets_over, wiped-apart}
use Rattle.syntax.specs.Layout.{declarations_at, read_declaration, style_width, numbers_at, row_of_numbers}
use Rattle.syntax.specs.RuleLayout.{rule_declarations}
use Rattle.syntax.specs.Stream.{read_many, texts_many}
use Rattle.syntax.specs.declared.styles.StyleNumbers.{StyleNumbers}
use Rattle.syntax.specs.declared.styles.Value.{Value}
use Rattle.syntax.proofs.Back.{row-numbers-back, row-numbers-rest}
use Rattle.syntax.proofs.RowSizes.{length-style}
use Rattle.syntax.proofs.Streams.{sets-drop}
use Rattle.cascade.specs.Record.{Styled}
use Rattle.declarations.proofs.StyleLaws.{reads-styles, styles-few}
use Rattle.combinators.proofs.ZeroLaws.{zeros-later, zeros-back}
use Rattle.origins.specs.Rules.{selectors_read, rule_styles, RuleRoom}
use Rattle.origins.proofs.Parts.{part-stored}
use Rattle.origins.proofs.WalkLaws.{many-length}
use Rattle.styles.specs.StyleCall.{in_numbers}
use Rattle.rule_styles.specs.Deciding.{deciding}
use Rattle.rule_styles.specs.Placing.{kept_head, read_numbers, numbers_of, content_of, contents_of, placed_all, lying_styles, contents_at, styles_placed, kept, read_styled}
use Rattle.rule_styles.specs.PlacingRoom.{ContentsRoom, StyleRowsRoom, kept_width, KeptRoom, RuleKeptRoom}
use Rattle.rule_styles.specs.declared.placing.Placed.{Placed}
use Rattle.rule_styles.proofs.DecidingBounds.{deciding-two}
use Rattle.rule_styles.proofs.PlacingKept.{length-kept}

-- ---- rows of styles
-- they are read whatever stands behind them
numbers-before : (n : ℕ) (xs t : List ℕ) → style_width * n ≤ length xs → numbers_of n (xs ++ t) ≡ numbers_of n xs
unfolding numbers_of read_many read_numbers numbers_at
numbers-before zero xs t h = refl
numbers-before (suc n) [] t h = absurd (omega arith)
numbers-before (suc n) (a ∷ []) t h = absurd (omega arith)
numbers-before (suc n) (a ∷ b ∷ []) t h = absurd (omega arith)
numbers-before (suc n) (a ∷ b ∷ c ∷ []) t h = absurd (omega arith)
numbers-before (suc n) (a ∷ b ∷ c ∷ d ∷ []) t h = absurd (omega arith)
numbers-before (suc n) (a ∷ b ∷ c ∷ d ∷ e ∷ xs) t h = ap (λ (r : List StyleNumbers). numbers_at (a ∷ b ∷ c ∷ d ∷ e ∷ xs) ∷ r) (numbers-before n xs t (omega arith))

-- so many as are asked for
pub numbers-long : (n : ℕ) (t : List ℕ) → length (numbers_of n t) ≡ n
unfolding numbers_of
numbers-long n t = many-length read_numbers n t

-- those that were written are read back
styled-back : (xs : List StyleNumbers) (t : List ℕ) → (read_many read_styled (length xs) (texts_many row_of_numbers xs ++ t)).value ≡ map in_numbers xs
unfolding read_many read_styled texts_many
styled-back [] t = refl
styled-back (x ∷ xs) t =
    let others = texts_many row_of_numbers xs ++ t in
    rw (append_assoc (row_of_numbers x) (texts_many row_of_numbers xs) t, row-numbers-back x others, row-numbers-rest x others, styled-back xs t)

-- as many styles are placed as there were
pub placed-long : (text : List ℕ) (xs : List StyleNumbers) (f : ℕ) → length (placed_all text f xs) ≡ length xs
unfolding placed_all
placed-long text [] f = refl
placed-long text (x ∷ xs) f = ap suc (placed-long text xs (f + length (content_of text x)))

-- rows are of one width
pub rows_long : (xs : List StyleNumbers) → length (texts_many row_of_numbers xs) ≡ style_width * length xs
unfolding texts_many
rows_long [] = refl
rows_long (x ∷ xs) = omega (arith, length-append (row_of_numbers x) (texts_many row_of_numbers xs), length-style x, rows_long xs)

-- a rule has no more styles than declarations
pub rule-styles-few : (t : List ℕ) → length (rule_styles t) ≤ style_width * get_or t rule_declarations 0
unfolding rule_styles declarations_at
rule-styles-few t =
    let rows = (selectors_read [] t).rest in
    let n = get_or t rule_declarations 0 in
    omega (arith, (reads-styles [] rows n).long, styles-few (declarations_at rows [] n), many-length (read_declaration []) n rows)

-- ---- a rule, whose styles are made behind room for what is kept of it
module _ (t tokens : List ℕ) (place : ℕ) (o : RuleKeptRoom t tokens place) where
  -- where they are made
  abbrev made : ℕ
  made = place + kept_head + kept_width

  -- that place lies in the store
  pub made_in : made ≤ length tokens
  made_in = omega (arith, o.styled)

  -- that there is room for them
  pub rule-room : RuleRoom t (length (lent_from tokens made))
  rule-room = record { texts = o.texts; declared = o.declared; styled = omega (arith, o.styled, length-rest tokens made) }

  -- the store is zero from there on
  made-zeros : Zeros tokens made
  made-zeros = let q : place + (kept_head + kept_width) ≡ made = omega arith in subst (Zeros tokens) q (zeros-later tokens place o.zeros (kept_head + kept_width))

  -- when they are made
  module _ (y : List ℕ) (count : ℕ) (ey : y ≡ sets (lent_from tokens made) 0 (rule_styles t)) (ec : style_width * count ≡ length (rule_styles t)) where
    -- the store with their rows
    abbrev store : List ℕ
    store = put_mid made (length tokens - made) tokens y

    -- they are stored from there on
    store_is : store ≡ sets tokens made (rule_styles t)
    store_is = part-stored tokens made made_in (rule_styles t) y ey

    -- they lie in the store
    rows_in : made + style_width * count ≤ length tokens
    rows_in = omega (arith, ec, rule-styles-few t, o.styled)

    -- they are those of the rule
    numbers-are : numbers_of count (drop made store) ≡ lying_styles t
    unfolding lying_styles
    numbers-are =
        let q : count ≡ length (rule_styles t) / style_width = omega (arith, ec) in
        ap (λ (l : List ℕ). numbers_of count (drop made l)) store_is
        ∙ ap (numbers_of count) (sets-drop tokens made (rule_styles t) (omega (arith, ec, rows_in)))
        ∙ numbers-before count (rule_styles t) (drop (made + length (rule_styles t)) tokens) (omega (arith, ec))
        ∙ ap (λ (n : ℕ). numbers_of n (rule_styles t)) q

    -- and they are as many as were counted
    lying-long : length (lying_styles t) ≡ count
    lying-long = ap length (sym numbers-are) ∙ numbers-long count (drop made store)

    module _ (text contents : List ℕ) (fill : ℕ) where
      -- that there is room to place them
      pub styles-room : ContentsRoom contents fill (contents_at text t)
          → StyleRowsRoom store made count × ContentsRoom contents fill (contents_of text (numbers_of count (drop made store)))
      unfolding contents_at
      styles-room r =
          (record { room = omega (arith, rows_in, ap length store_is, length-sets tokens made (rule_styles t)) }, rw numbers-are r)

      -- when they are placed
      module _ (y₂ z : List ℕ) (g : ℕ) (ey₂ : y₂ ≡ sets store made (texts_many row_of_numbers (placed_all text fill (numbers_of count (drop made store)))))
          (ez : z ≡ sets contents fill (contents_of text (numbers_of count (drop made store))))
          (eg : g ≡ fill + length (contents_of text (numbers_of count (drop made store)))) where
        -- the rows of the rule's styles, each content at its new place
        abbrev rows : List ℕ
        rows = texts_many row_of_numbers (placed_all text fill (lying_styles t))

        -- these take as many numbers as before
        rows_are : length rows ≡ style_width * count
        rows_are = rows_long (placed_all text fill (lying_styles t)) ∙ ap (λ (n : ℕ). style_width * n) (placed-long text (lying_styles t) fill ∙ lying-long)

        -- and lie where the others lay
        placed-is : y₂ ≡ sets tokens made rows
        placed-is =
            ey₂ ∙ ap (λ (xs : List StyleNumbers). sets store made (texts_many row_of_numbers (placed_all text fill xs))) numbers-are
            ∙ ap (λ (l : List ℕ). sets l made rows) store_is ∙ sets_over tokens made (rule_styles t) rows (omega (arith, ec, rows_are))

        -- that there is room to keep them
        pub keep-room : KeptRoom y₂ place made count
        keep-room = record { apart = omega arith; inside = omega (arith, rows_in, ap length placed-is, length-sets tokens made rows) }

        -- they are read back as the styles of the rule
        styles-are : (read_many read_styled count (drop made y₂)).value ≡ styles_placed text fill t
        unfolding styles_placed
        styles-are =
            let xs = placed_all text fill (lying_styles t) in
            let q : count ≡ length xs = sym (placed-long text (lying_styles t) fill ∙ lying-long) in
            ap (λ (l : List ℕ). (read_many read_styled count (drop made l)).value) placed-is
            ∙ ap (λ (l : List ℕ). (read_many read_styled count l).value) (sets-drop tokens made rows (omega (arith, rows_in, rows_are)))
            ∙ ap (λ (n : ℕ). (read_many read_styled n (rows ++ drop (made + length rows) tokens)).value) q
            ∙ styled-back xs (drop (made + length rows) tokens)

        -- what is kept of them
        abbrev kept_of : List (Styled Value) → List ℕ
        kept_of xs = kept (deciding xs)

        -- what is left when they are kept
        pub rule-left : (w : List ℕ) (next : ℕ) → w ≡ wiped made (style_width * count) (sets y₂ place (kept_of (read_many read_styled count (drop made y₂)).value))
            → next ≡ place + length (kept_of (read_many read_styled count (drop made y₂)).value)
            → (w ≡ sets tokens place (kept_of (styles_placed text fill t)))
            × ((z ≡ sets contents fill (contents_at text t))
            × (◌≡◌ {A = Placed} (record { place = next; fill = g }) (record { place = place + length (kept_of (styles_placed text fill t)); fill = fill + length (contents_at text t) })))
        unfolding contents_at
        rule-left w next ew en =
            let k = kept_of (styles_placed text fill t) in
            let b : place + length k ≤ made = omega (arith, length-kept (deciding (styles_placed text fill t)), deciding-two (styles_placed text fill t)) in (
              ew ∙ ap (λ (xs : List (Styled Value)). wiped made (style_width * count) (sets y₂ place (kept_of xs))) styles-are
                  ∙ ap (λ (l : List ℕ). wiped made (style_width * count) (sets l place k)) placed-is
                  ∙ wiped-apart (sets tokens made rows) place made (style_width * count) k b
                  ∙ ap (λ (l : List ℕ). sets l place k) (zeros-back tokens made made-zeros rows (style_width * count) (omega (arith, rows_are))),
              (
                ez ∙ ap (λ (xs : List StyleNumbers). sets contents fill (contents_of text xs)) numbers-are,
                rw (en, eg, styles-are, numbers-are),
              ),
            )
