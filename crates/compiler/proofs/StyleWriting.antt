-- Returns and turns of the functions that count and write the styles of a rule.
use mathlib.Core.Path.{◌≡◌, refl, sym, ap, ◌∙◌}
use mathlib.Core.Bool.{Bool, true, false, ◌||◌, ◌&&◌}
use mathlib.Core.List.{List, [], ◌++◌}
use Prim.Native.Nat.{ℕ, zero, suc, ◌+◌, ◌*◌, ◌-◌, ◌≤◌, ◌<◌}
use native.Mathlib.Omega.{arith}
use lib.ListN.{length, drop, length-append}
use lib.Seq.{drop-drop}
use Rattle.combinators.specs.Choice.{pick, or, and}
use Rattle.combinators.specs.Store.{Store, emits}
use Rattle.combinators.proofs.Emitted.{then}
use Rattle.combinators.proofs.Rules.{or_assoc, or-false}
use Rattle.syntax.specs.Layout.{flag, declaration_width, read_declaration, declarations_at, style_width, row_of_numbers, numbers_at, style_in, read_style, styles_at}
use Rattle.syntax.specs.declared.styles.StyleNumbers.{StyleNumbers}
use Rattle.syntax.proofs.RowSizes.{length-style}
use Rattle.syntax.specs.Stream.{texts_many}
use Rattle.declarations.specs.StyleNumbers.{added_style, own_numbers_at, row_of_own, own_row, zero_row, hidden_row, own_rows, any_row, first_zero_row, style_numbers, style_count}
use Rattle.std.specs.Int.{from_bool}
use Rattle.std.specs.Option.{is_some}
use Rattle.std.specs.Prelude.{Option, Some, None}
use Rattle.declarations.proofs.StyleLaws.{count-styles, styles-few}
use Rattle.declarations.proofs.Styling.{or_is, and_is}
use Rattle.origins.proofs.WalkLaws.{many-length}
use Rattle.compiled.specs.Number.{number_limit, number_bytes}
use Rattle.compiled.specs.Style.{style_bytes}
use Rattle.compiled.specs.Sheet.{styles_bytes}

-- ---- the style that a declaration asks for by itself
module _ (t : List ℕ) where
  -- a declaration that has a style of its own takes one row, one that has none no row
  pub own-count : (r : Option StyleNumbers) → r ≡ own_numbers_at t → (style_width * from_bool (is_some r) ≡ length (own_row t)) × (from_bool (is_some r) ≤ 1)
  unfolding own_row row_of_own
  own-count (Some x) e = (sym (length-style x) ∙ ap (λ (o : Option StyleNumbers). length (row_of_own o)) e, omega arith)
  own-count None e = (ap (λ (o : Option StyleNumbers). length (row_of_own o)) e, omega arith)

-- ---- turns of `count_styles`: what is counted and what is left make what was to be counted
pub record Finding (rows : List ℕ) (count at own : ℕ) (height-zero overflow-hidden : Bool) (place n : ℕ) : Type 0 where
  pub left : style_width * own + length (own_rows n (drop place rows)) ≡ length (own_rows count (drop at rows))
  pub height : or height-zero (any_row zero_row n (drop place rows)) ≡ any_row zero_row count (drop at rows)
  pub overflow : or overflow-hidden (any_row hidden_row n (drop place rows)) ≡ any_row hidden_row count (drop at rows)
  pub few : own + n ≤ count

-- before the first declaration all of them are left to count
pub finding-begin : (rows : List ℕ) (count at : ℕ) → Finding rows count at 0 false false at count
unfolding or
finding-begin rows count at = record { left = omega arith; height = refl; overflow = refl; few = omega arith }

-- with none counted so far all of them are left
pub finding-all : (rows : List ℕ) (count at : ℕ) → Finding rows count at 0 false false at (count - 0)
finding-all rows count at = let e : count - 0 ≡ count = omega arith in rw e (finding-begin rows count at)

-- the rows of n declarations are those of the first and of the n - 1 behind it
rows_step : (n : ℕ) (t : List ℕ) → 0 < n → own_rows n t ≡ own_row t ++ own_rows (n - 1) (drop declaration_width t)
unfolding own_rows
rows_step zero t h = absurd (omega arith)
rows_step (suc k) t h = let q : suc k - 1 ≡ k = omega arith in rw q

-- some of n declarations passes a test exactly if the first does, or some of the n - 1 behind it
any_step : (p : List ℕ → Bool) (n : ℕ) (t : List ℕ) → 0 < n → any_row p n t ≡ or (p t) (any_row p (n - 1) (drop declaration_width t))
unfolding any_row
any_step p zero t h = absurd (omega arith)
any_step p (suc k) t h = let q : suc k - 1 ≡ k = omega arith in rw q

-- no declaration has no rows
rows_none : (n : ℕ) (t : List ℕ) → n ≤ 0 → own_rows n t ≡ []
unfolding own_rows
rows_none zero t h = refl
rows_none (suc k) t h = absurd (omega arith)

-- of no declarations none passes a test
any_none : (p : List ℕ → Bool) (n : ℕ) (t : List ℕ) → n ≤ 0 → any_row p n t ≡ false
unfolding any_row
any_none p zero t h = refl
any_none p (suc k) t h = absurd (omega arith)

-- a test of the declarations that are left, where x is its answer for the first
any-more : (p : List ℕ → Bool) (n : ℕ) (t t₁ : List ℕ) (z x v : Bool) → 0 < n → x ≡ p t → t₁ ≡ drop declaration_width t
    → or z (any_row p n t) ≡ v → or (z || x) (any_row p (n - 1) t₁) ≡ v
any-more p n t t₁ z x v h e d w =
    let q : or x (any_row p (n - 1) t₁) ≡ any_row p n t = rw (e, d) (sym (any_step p n t h)) in
    rw (or_is z x) (sym (or_assoc z x (any_row p (n - 1) t₁)) ∙ ap (or z) q ∙ w)

-- how long the row of the style is that is added
added-length : (z : Bool) (s : ℕ) → length (pick z (row_of_numbers (added_style s)) []) ≡ style_width * flag z
unfolding pick flag
added-length true s = length-style (added_style s)
added-length false s = refl

module _ (rows : List ℕ) (count at own : ℕ) (height-zero overflow-hidden : Bool) (place n : ℕ)
    (c : Finding rows count at own height-zero overflow-hidden place n) where
  -- a turn: one declaration's style is counted, and whether it is a zero height or a hidden overflow is noted
  pub finding-more : 0 < n → (r : ℕ) → style_width * r ≡ length (own_row (drop place rows)) → r ≤ 1 → (x y : Bool) → x ≡ zero_row (drop place rows)
      → y ≡ hidden_row (drop place rows) → (next : ℕ) → drop next rows ≡ drop (place + declaration_width) rows
      → Finding rows count at (own + r) (height-zero || x) (overflow-hidden || y) next (n - 1)
  finding-more h r er l x y ex ey next d =
      let t = drop place rows in
      let dt : drop next rows ≡ drop declaration_width t = d ∙ sym (drop-drop declaration_width place rows) in
      let q : length (own_rows n t) ≡ length (own_row t) + length (own_rows (n - 1) (drop next rows)) = rw (dt, rows_step n t h) (length-append (own_row t) _) in
      record {
        left = omega (arith, c.left, er, q);
        height = any-more zero_row n t (drop next rows) height-zero x _ h ex dt c.height;
        overflow = any-more hidden_row n t (drop next rows) overflow-hidden y _ h ey dt c.overflow;
        few = omega (arith, c.few, l);
      }

  -- when all declarations are passed, the count is that of the rule's styles
  module _ (h : n ≤ 0) where
    abbrev both : Bool
    both = and (any_row zero_row count (drop at rows)) (any_row hidden_row count (drop at rows))

    -- both flags are set exactly if some declaration is a zero height and some a hidden overflow
    both_is : (height-zero && overflow-hidden) ≡ both
    both_is =
        and_is height-zero overflow-hidden
        ∙ rw (
          sym c.height,
          sym c.overflow,
          or-false height-zero _ (any_none zero_row n (drop place rows) h),
          or-false overflow-hidden _ (any_none hidden_row n (drop place rows) h),
        )

    -- with none left the styles of the declarations themselves, with the one that both flags add, are all styles
    pub finding-done : (f : ℕ) → f ≡ flag (height-zero && overflow-hidden) → own + f ≡ style_count (drop at rows) count
    unfolding style_count style_numbers
    finding-done f e =
        let t = drop at rows in
        let g : f ≡ flag both = e ∙ ap flag both_is in
        let o : style_width * own ≡ length (own_rows count t) = omega (arith, c.left, ap length (rows_none n (drop place rows) h)) in
        let s = first_zero_row count t in
        omega (arith, length-append (own_rows count t) (pick both (row_of_numbers (added_style s)) []), added-length both s, g, o)

    -- the total is no more than the declarations are
    pub finding-fits : (f : ℕ) → f ≡ flag (height-zero && overflow-hidden) → count < number_limit → own + f < number_limit
    unfolding declarations_at
    finding-fits f e l =
        let ds = declarations_at (drop at rows) [] count in
        omega (arith, finding-done f e, count-styles [] (drop at rows) count, styles-few ds, many-length (read_declaration []) count (drop at rows))

-- ---- styles from their rows
module _ (rows : List ℕ) (at : ℕ) (texts : List ℕ) where
  -- the bytes of the numbers of a style row are those of the style
  pub style-there : (x : StyleNumbers) → x ≡ numbers_at (drop at rows) → (o₀ o₁ : Store ℕ) → o₁ ≡ emits o₀ (style_bytes (style_in texts x))
      → o₁ ≡ emits o₀ (style_bytes (read_style texts (drop at rows)).value)
  unfolding read_style
  style-there x e o₀ o₁ p = p ∙ ap (λ (y : StyleNumbers). emits o₀ (style_bytes (style_in texts y))) e

  -- the place a row's width further is behind the style
  pub behind-style : (place : ℕ) → drop place rows ≡ drop (at + style_width) rows → drop place rows ≡ (read_style texts (drop at rows)).rest
  unfolding read_style
  behind-style place p = p ∙ sym (drop-drop style_width at rows)

-- the count, and the styles behind it, are the bytes of all styles
pub styles-written : (rows texts : List ℕ) (count : ℕ) (o₀ o₁ o₂ : Store ℕ) → o₁ ≡ emits o₀ (number_bytes count) → o₂ ≡ emits o₁ (texts_many style_bytes (styles_at rows texts count))
    → o₂ ≡ emits o₀ (styles_bytes (styles_at rows texts count))
unfolding styles_bytes styles_at
styles-written rows texts count o₀ o₁ o₂ p q =
    then o₀ o₁ o₂ _ _ (p ∙ ap (λ (n : ℕ). emits o₀ (number_bytes n)) (sym (many-length (read_style texts) count rows))) q

-- a turn of `count_styles`, by how many declarations were counted before
pub finding-next : (rows : List ℕ) (count at own : ℕ) (height-zero overflow-hidden : Bool) (place i : ℕ)
    → Finding rows count at own height-zero overflow-hidden place (count - i) → i < count → (r : ℕ) → style_width * r ≡ length (own_row (drop place rows)) → r ≤ 1
    → (x y : Bool) → x ≡ zero_row (drop place rows) → y ≡ hidden_row (drop place rows) → (next : ℕ) → drop next rows ≡ drop (place + declaration_width) rows
    → Finding rows count at (own + r) (height-zero || x) (overflow-hidden || y) next (count - (i + 1))
finding-next rows count at own height-zero overflow-hidden place i c h r er l x y ex ey next d =
    let q : count - (i + 1) ≡ count - i - 1 = omega arith in
    rw q (finding-more rows count at own height-zero overflow-hidden place (count - i) c (omega arith) r er l x y ex ey next d)
