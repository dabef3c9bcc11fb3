-- Returns and turns of the functions that write style rows.
use mathlib.Core.Path.{◌≡◌, refl, ap, sym, ◌∙◌}
use mathlib.Core.Bool.{Bool, true, false, ◌||◌, ◌&&◌}
use mathlib.Core.List.{List, [], ◌∷◌, ◌++◌}
use Prim.Native.Nat.{ℕ, zero, suc, ◌+◌, ◌*◌, ◌-◌, ◌/◌, ◌≤◌, ◌<◌}
use native.Mathlib.Omega.{arith}
use lib.Dec.{eqb}
use lib.ListN.{length, get_or, take, drop}
use lib.Seq.{sets, get_or-drop, get_or-take, take-take, drop-drop, length-take-le}
use Rattle.std.specs.Simd.{first_chunks}
use Rattle.std.proofs.lemmas.List.{drop-take}
use Rattle.combinators.specs.Choice.{pick, or, and, is}
use Rattle.combinators.specs.Store.{Store, emits}
use Rattle.combinators.proofs.Rules.{pick_true, pick-false, is-yes, is-no, or_left, and-gives, and-gives-false, or_assoc, or-false}
use Rattle.combinators.proofs.Emitted.{emits_none, onto, then, sets-emitted, emits-fill}
use Rattle.syntax.specs.Declaration.{hidden}
use Rattle.syntax.specs.Layout.{flag, height_kind, max_height_kind, overflow_kind, overflow_y_kind, overflow_number, flag_of, declaration_width, declaration_kind, declaration_important, declaration_start, declaration_value, declaration_second, declarations_at, style_width, row_of_numbers, styles_at}
use Rattle.syntax.specs.declared.styles.StyleNumbers.{StyleNumbers}
use Rattle.syntax.proofs.Streams.{sets-drop}
use Rattle.declarations.specs.Styles.{styles_of}
use Rattle.declarations.specs.StyleNumbers.{added_style, own_numbers, declared_value, own_numbers_at, row_of_own, own_row, has_value, zero_row, hidden_row, own_rows, any_row, first_zero_row, style_numbers, style_count, Cut, StylesLeft}
use Rattle.std.specs.Prelude.{Option, Some, None, is_some, unwrap_or}
use Rattle.std.specs.Option.{option_or}
use Rattle.std.specs.Bool.{then_some}
use Rattle.declarations.proofs.StyleLaws.{styles-meant, numbers-long, count-le}

-- ---- the row of a declaration at a place
module _ (rows : List ℕ) (at k a : ℕ) (ek : k ≡ get_or rows (at + declaration_kind) 0) (ea : a ≡ get_or rows (at + declaration_value) 0) where
  -- the style that it asks for
  pub own_at : (i b s : ℕ) → i ≡ get_or rows (at + declaration_important) 0 → b ≡ get_or rows (at + declaration_second) 0 → s ≡ get_or rows (at + declaration_start) 0 → (r : Option StyleNumbers)
      → r ≡ own_numbers k (eqb i 1) (record { number = a; second = b; start = s }) → r ≡ own_numbers_at (drop at rows)
  unfolding own_numbers_at declared_value flag_of is
  own_at i b s ei eb es r e =
      e ∙ rw (
        ek,
        ei,
        ea,
        eb,
        es,
        get_or-drop at rows declaration_kind 0,
        get_or-drop at rows declaration_important 0,
        get_or-drop at rows declaration_value 0,
        get_or-drop at rows declaration_second 0,
        get_or-drop at rows declaration_start 0,
      )

  -- whether it is of one of two kinds, with a value
  module _ (m n v : ℕ) where
    -- the test of the two numbers that were read is the test of the row at its place
    value-at : (r : Bool) → r ≡ and (or (is k m) (is k n)) (is a v) → r ≡ has_value m n v (drop at rows)
    unfolding has_value
    value-at r e = e ∙ rw (ek, ea, get_or-drop at rows declaration_kind 0, get_or-drop at rows declaration_value 0)

    -- where it is of one of them the value decides
    pub value-of-kind : (s : Bool) → s ≡ or (is k m) (is k n) → s ≡ true → eqb a v ≡ has_value m n v (drop at rows)
    unfolding is
    value-of-kind s es e = value-at _ (and-gives _ _ _ (sym es ∙ e) refl)

-- whether the kind k is one of two, by the code's tests
module _ (k m n : ℕ) where
  -- it is the first
  pub first-kind : k ≡ m → eqb k m ≡ or (is k m) (is k n)
  unfolding is
  first-kind e = is-yes k m e ∙ sym (or_left _ _ (is-yes k m e))

  -- it is not, and the second test decides
  pub second-kind : ¬ (k ≡ m) → eqb k n ≡ or (is k m) (is k n)
  unfolding is or
  second-kind d = rw (is-no k m d)

-- a declaration of neither of two kinds has no such value
pub value_none : (rows : List ℕ) (at k : ℕ) → k ≡ get_or rows (at + declaration_kind) 0 → (m n v : ℕ) (s : Bool) → s ≡ or (is k m) (is k n) → s ≡ false
    → s ≡ has_value m n v (drop at rows)
unfolding has_value
value_none rows at k ek m n v s es e =
    e ∙ and-gives-false _ _ (rw (get_or-drop at rows declaration_kind 0, ← ek) (sym es ∙ e))

-- ---- what a declaration asks for by itself is written
module _ (t : List ℕ) (r : Option StyleNumbers) (e : r ≡ own_numbers_at t) (o₀ : Store ℕ) where
  -- a declaration that has a style puts its row
  pub own_put : (x : StyleNumbers) → r ≡ Some x → (o₁ : Store ℕ) → o₁ ≡ emits o₀ (row_of_numbers x) → o₁ ≡ emits o₀ (own_row t)
  unfolding own_row row_of_own
  own_put x h o₁ p = p ∙ ap (λ (q : Option StyleNumbers). emits o₀ (row_of_own q)) (sym h ∙ e)

  -- a declaration that has none puts nothing
  pub own-none : r ≡ None → o₀ ≡ emits o₀ (own_row t)
  unfolding own_row row_of_own
  own-none h = sym (emits_none o₀) ∙ ap (λ (q : Option StyleNumbers). emits o₀ (row_of_own q)) (sym h ∙ e)

-- ---- tests that the code joins

-- the code's `|` is `or`
pub or_is : (a b : Bool) → (a || b) ≡ or a b
unfolding or
or_is true b = refl
or_is false b = refl

-- the code's `&` is `and`
pub and_is : (a b : Bool) → (a && b) ≡ and a b
unfolding and
and_is true b = refl
and_is false b = refl

-- ---- a declaration less

-- the rows that are left
rows_step : (rows : List ℕ) (count at i : ℕ) → i < count
    → own_rows (count - i) (drop at rows) ≡ own_row (drop at rows) ++ own_rows (count - (i + 1)) (drop (at + declaration_width) rows)
unfolding own_rows
rows_step rows count at i h =
    let d : count - i ≡ suc (count - (i + 1)) = omega arith in
    rw (d, drop-drop declaration_width at rows)

-- with no declaration left there are no rows
rows_none : (n : ℕ) (t : List ℕ) → n ≡ 0 → own_rows n t ≡ []
unfolding own_rows
rows_none n t d = rw d

-- a test of those that are left, where x is its answer for the first
any_step : (p : List ℕ → Bool) (rows : List ℕ) (count at i : ℕ) (z x v : Bool) → i < count → x ≡ p (drop at rows)
    → or z (any_row p (count - i) (drop at rows)) ≡ v → or (z || x) (any_row p (count - (i + 1)) (drop (at + declaration_width) rows)) ≡ v
unfolding any_row
any_step p rows count at i z x v h e w =
    let d : count - i ≡ suc (count - (i + 1)) = omega arith in
    let r = any_row p (count - (i + 1)) (drop (at + declaration_width) rows) in
    let q : or x r ≡ any_row p (count - i) (drop at rows) = rw (d, drop-drop declaration_width at rows, e) in
    rw (or_is z x) (sym (or_assoc z x r) ∙ ap (or z) q ∙ w)

-- with none left what was noted is whether any row passes
any-done : (p : List ℕ → Bool) (t : List ℕ) (n : ℕ) (z v : Bool) → n ≡ 0 → or z (any_row p n t) ≡ v → z ≡ v
unfolding any_row
any-done p t n z v d w = sym (or-false z (any_row p n t) (rw d)) ∙ w

-- where the first zero height starts: noted, at this declaration, or at one of those behind it
first-noted : (o : Option ℕ) (x : Bool) (n k : ℕ) → unwrap_or (option_or o (then_some x n)) k ≡ unwrap_or o (pick x n k)
unfolding pick
first-noted (Some s) x n k = refl
first-noted None true n k = refl
first-noted None false n k = refl

-- and whether there is one so far
some-noted : (o : Option ℕ) (x : Bool) (n : ℕ) → is_some (option_or o (then_some x n)) ≡ (is_some o || x)
some-noted (Some s) x n = refl
some-noted None true n = refl
some-noted None false n = refl

first_step : (rows : List ℕ) (count at i : ℕ) (o : Option ℕ) (v : ℕ) → i < count
    → unwrap_or o (first_zero_row (count - i) (drop at rows)) ≡ v
    → unwrap_or (option_or o (then_some (zero_row (drop at rows)) (get_or (drop at rows) declaration_start 0))) (first_zero_row (count - (i + 1)) (drop (at + declaration_width) rows)) ≡ v
unfolding first_zero_row
first_step rows count at i o v h w =
    let d : count - i ≡ suc (count - (i + 1)) = omega arith in
    let x = zero_row (drop at rows) in
    let n = get_or (drop at rows) declaration_start 0 in
    let k = first_zero_row (count - (i + 1)) (drop (at + declaration_width) rows) in
    let q : pick x n k ≡ first_zero_row (count - i) (drop at rows) = rw (d, drop-drop declaration_width at rows) in
    first-noted o x n k ∙ ap (unwrap_or o) q ∙ w

-- ---- what `styles_from_properties` leaves

-- where all rows were emitted
styled : (rows : List ℕ) (count : ℕ) (styles₀ styles : List ℕ) (place : ℕ) → style_width * (count + 1) ≤ length styles₀
    → record { bytes = styles; fill = place } ≡ emits (record { bytes = styles₀; fill = 0 }) (style_numbers rows count)
    → StylesLeft rows count styles₀ styles (place / style_width)
unfolding style_count
styled rows count styles₀ styles place room e = record { stored = stored; counted = counted; meant = meant; few = rw counted (count-le rows count) }
  where
    long : 0 + length (style_numbers rows count) ≤ length styles₀
    long = omega (arith, numbers-long rows count, room)

    stored : styles ≡ sets styles₀ 0 (style_numbers rows count)
    stored = sets-emitted styles₀ styles (style_numbers rows count) 0 place e

    counted : place / style_width ≡ style_count rows count
    counted = omega (arith, ap (λ (o : Store ℕ). o.fill) e ∙ emits-fill (style_numbers rows count) styles₀ 0 long)

    meant : (store : List ℕ) → styles_at styles store (place / style_width) ≡ styles_of (declarations_at rows store count)
    meant store = rw (stored, counted, sets-drop styles₀ 0 (style_numbers rows count) long) (styles-meant store rows count _)

-- ---- a row that is cut from a stream
-- the i-th of k
cut-row : (k i : ℕ) (t : List ℕ) → i < k → get_or (first_chunks declaration_width k t) i [] ≡ take declaration_width (drop (i * declaration_width) t)
cut-row zero i t h = absurd (omega arith)
cut-row (suc k) zero t h = refl
cut-row (suc k) (suc i) t h =
    let d : i * declaration_width + declaration_width ≡ suc i * declaration_width = omega arith in
    let c : declaration_width + i * declaration_width ≡ suc i * declaration_width = omega arith in
    cut-row k i (drop declaration_width t) (omega arith) ∙ ap (take declaration_width) (drop-drop (i * declaration_width) declaration_width t ∙ ap (λ n. drop n t) c)

-- the rows of as many numbers as they have are those of the stream
rows-of : (k : ℕ) (t : List ℕ) → first_chunks declaration_width k (take (declaration_width * k) t) ≡ first_chunks declaration_width k t
rows-of zero t = refl
rows-of (suc k) t =
    let w : declaration_width * suc k ≡ declaration_width + declaration_width * k = omega arith in
    rw (w, take-take declaration_width (declaration_width + declaration_width * k) t (omega arith), drop-take declaration_width (declaration_width * k) t)
    (ap (λ (l : List (List ℕ)). take declaration_width t ∷ l) (rows-of k (drop declaration_width t)))

-- they are as many as are asked for
length-rows : (k : ℕ) (t : List ℕ) → length (first_chunks declaration_width k t) ≡ k
length-rows zero t = refl
length-rows (suc k) t = ap suc (length-rows k (drop declaration_width t))

-- the rows of so many declarations as a stream has numbers for are cut from its start
module _ (k : ℕ) (t : List ℕ) (h : declaration_width * k ≤ length t) (rows : List (List ℕ))
    (e : rows ≡ first_chunks declaration_width (length (take (declaration_width * k) t) / declaration_width) (take (declaration_width * k) t)) where
  rows-are : rows ≡ first_chunks declaration_width k t
  rows-are =
      let n : length (take (declaration_width * k) t) / declaration_width ≡ k = omega (arith, length-take-le (declaration_width * k) t h) in
      e ∙ ap (λ m. first_chunks declaration_width m (take (declaration_width * k) t)) n ∙ rows-of k t

  pub rows-counted : length rows ≡ k
  rows-counted = ap length rows-are ∙ length-rows k t

  pub rows-cut : Cut rows t
  rows-cut = rows-are ∙ ap (λ m. first_chunks declaration_width m t) (sym rows-counted)

module _ (t : List ℕ) where
  -- has the numbers of the stream
  cut-number : (k : ℕ) → k < declaration_width → get_or (take declaration_width t) k 0 ≡ get_or t k 0
  cut-number k h = get_or-take declaration_width t k 0 h

  -- and so asks for the same style
  cut-own : own_row (take declaration_width t) ≡ own_row t
  unfolding own_row own_numbers_at declared_value
  cut-own = rw (cut-number 0 (omega arith), cut-number 1 (omega arith), cut-number 2 (omega arith), cut-number 3 (omega arith), cut-number 4 (omega arith)) refl

  -- has the same values
  cut-value : (k j v : ℕ) → has_value k j v (take declaration_width t) ≡ has_value k j v t
  unfolding has_value
  cut-value k j v = rw (cut-number 0 (omega arith), cut-number 3 (omega arith)) refl

  -- so it sets a height to zero, and hides what overflows, where the stream's does
  cut-zero : zero_row (take declaration_width t) ≡ zero_row t
  unfolding zero_row
  cut-zero = cut-value height_kind max_height_kind (flag true)

  cut-hidden : hidden_row (take declaration_width t) ≡ hidden_row t
  unfolding hidden_row
  cut-hidden = cut-value overflow_kind overflow_y_kind (overflow_number hidden)

-- ---- turns of `styles_from_properties`: where the first zero height starts is noted, and whether an overflow is hidden
module _ (rows : List ℕ) (count : ℕ) (styles₀ : List ℕ) where
  -- the declarations from the i-th on
  abbrev behind : ℕ → List ℕ
  behind i = drop (i * declaration_width) rows

  pub record Styling (styles : List ℕ) (place : ℕ) (noted : Option ℕ) (overflow-hidden : Bool) (i : ℕ) : Type 0 where
    pub left : emits (record { bytes = styles; fill = place }) (own_rows (count - i) (behind i)) ≡ emits (record { bytes = styles₀; fill = 0 }) (own_rows count rows)
    pub height : or (is_some noted) (any_row zero_row (count - i) (behind i)) ≡ any_row zero_row count rows
    pub first : unwrap_or noted (first_zero_row (count - i) (behind i)) ≡ first_zero_row count rows
    pub overflow : or overflow-hidden (any_row hidden_row (count - i) (behind i)) ≡ any_row hidden_row count rows
    pub within : i ≤ count
    pub long : length styles ≡ length styles₀

  -- before the first declaration nothing is written or noted
  pub styling-begin : Styling styles₀ 0 None false 0
  unfolding or
  styling-begin =
      let d : count - 0 ≡ count = omega arith in
      record { left = rw d; height = rw d; first = rw d; overflow = rw d; within = omega arith; long = refl }

  module _ (styles : List ℕ) (place : ℕ) (noted : Option ℕ) (overflow-hidden : Bool) (i : ℕ) (c : Styling styles place noted overflow-hidden i) where
    -- a turn: the style of one declaration is put, and whether it is a zero height or a hidden overflow is noted
    pub styling-more : i < count → (styles₁ : List ℕ) (place₁ : ℕ)
        → record { bytes = styles₁; fill = place₁ } ≡ emits (record { bytes = styles; fill = place }) (own_row (behind i)) → length styles₁ ≡ length styles
        → (o z : Option ℕ) → o ≡ option_or noted z → z ≡ then_some (zero_row (behind i)) (get_or (behind i) declaration_start 0) → (y : Bool) → y ≡ hidden_row (behind i)
        → Styling styles₁ place₁ o (overflow-hidden || y) (i + 1)
    styling-more h styles₁ place₁ e k o z eo ez y ey =
        let at : i * declaration_width + declaration_width ≡ (i + 1) * declaration_width = omega arith in
        let x = zero_row (behind i) in
        let p = first_step rows count (i * declaration_width) i noted _ h c.first in
        let q = some-noted noted x (get_or (behind i) declaration_start 0) in
        record {
          left = onto _ _ _ _ e ∙ rw (← at) (sym (ap (emits (record { bytes = styles; fill = place })) (rows_step rows count (i * declaration_width) i h))) ∙ c.left;
          height = rw (eo, ez, q, ← at) (any_step zero_row rows count (i * declaration_width) i (is_some noted) x _ h refl c.height);
          first = rw (eo, ez, ← at) p;
          overflow = rw (← at) (any_step hidden_row rows count (i * declaration_width) i overflow-hidden y _ h ey c.overflow);
          within = omega arith;
          long = k ∙ c.long;
        }

    -- when all declarations are passed, the styles are those of the rows, with the one that is added where it is asked for
    module _ (h : count ≤ i) (room : style_width * (count + 1) ≤ length styles₀) where
      -- behind the last declaration none is left
      none_left : count - i ≡ 0
      none_left = omega arith

      -- the styles that they ask for by themselves are written
      own-styled : record { bytes = styles; fill = place } ≡ emits (record { bytes = styles₀; fill = 0 }) (own_rows count rows)
      own-styled = sym (ap (emits _) (rows_none (count - i) (behind i) none_left) ∙ emits_none _) ∙ c.left

      -- what was noted says whether they add one
      added : and (is_some noted) overflow-hidden ≡ and (any_row zero_row count rows) (any_row hidden_row count rows)
      added = rw (any-done zero_row _ _ (is_some noted) _ none_left c.height, any-done hidden_row _ _ overflow-hidden _ none_left c.overflow)

      -- a zero height was found and a hidden overflow: the style that is added is put behind the others
      pub styling-added : (s : ℕ) → noted ≡ Some s → overflow-hidden ≡ true → (x : StyleNumbers) → x ≡ added_style s → (styles₁ : List ℕ) (place₁ : ℕ)
          → record { bytes = styles₁; fill = place₁ } ≡ emits (record { bytes = styles; fill = place }) (row_of_numbers x)
          → StylesLeft rows count styles₀ styles₁ (place₁ / style_width)
      unfolding style_numbers and
      styling-added s es eh x ex styles₁ place₁ e =
          let start : s ≡ first_zero_row count rows = sym (ap (λ o. unwrap_or o (first_zero_row (count - i) (behind i))) es) ∙ c.first in
          let both : and (any_row zero_row count rows) (any_row hidden_row count rows) ≡ true = sym added ∙ rw (es, eh) in
          styled rows count styles₀ styles₁ place₁ room
          (then _ _ _ _ _ own-styled (e ∙ ap (λ (y : StyleNumbers). emits (record { bytes = styles; fill = place }) (row_of_numbers y)) (ex ∙ ap added_style start)) ∙ ap (λ l. emits (record { bytes = styles₀; fill = 0 }) (own_rows count rows ++ l)) (pick_true _ _ _ _ both refl))

      -- without both the rows are all styles
      pub styling-done : and (is_some noted) overflow-hidden ≡ false → StylesLeft rows count styles₀ styles (place / style_width)
      unfolding style_numbers
      styling-done b =
          styled rows count styles₀ styles place room
          (then _ _ _ _ _ own-styled (sym (emits_none _))
          ∙ ap (λ l. emits (record { bytes = styles₀; fill = 0 }) (own_rows count rows ++ l)) (pick-false _ _ _ _ (sym added ∙ b) refl))

-- ---- the rows, by every stream that they are cut from
module _ (rows : List (List ℕ)) (styles₀ : List ℕ) where
  -- before the i-th row
  pub record Turning (styles : List ℕ) (place : ℕ) (noted : Option ℕ) (overflow-hidden : Bool) (i : ℕ) : Type 0 where
    pub by : (t : List ℕ) → Cut rows t → Styling t (length rows) styles₀ styles place noted overflow-hidden i

  -- before the first one
  pub turning-begin : Turning styles₀ 0 None false 0
  turning-begin = record { by = λ t e. styling-begin t (length rows) styles₀ }

  module _ (styles : List ℕ) (place : ℕ) (noted : Option ℕ) (overflow-hidden : Bool) (i : ℕ) (c : Turning styles place noted overflow-hidden i) where
    -- a turn
    pub turning-more : i < length rows → (row : List ℕ) → row ≡ get_or rows i [] → (styles₁ : List ℕ) (place₁ : ℕ)
        → record { bytes = styles₁; fill = place₁ } ≡ emits (record { bytes = styles; fill = place }) (own_row row) → length styles₁ ≡ length styles
        → (o z : Option ℕ) → o ≡ option_or noted z → z ≡ then_some (zero_row row) (get_or row declaration_start 0) → (y : Bool) → y ≡ hidden_row row
        → Turning styles₁ place₁ o (overflow-hidden || y) (i + 1)
    turning-more h row er styles₁ place₁ e k o z eo ez y ey = record { by = λ t q. turned t q }
      where
        turned : (t : List ℕ) → Cut rows t → Styling t (length rows) styles₀ styles₁ place₁ o (overflow-hidden || y) (i + 1)
        turned t q =
            let u = drop (i * declaration_width) t in
            let w : row ≡ take declaration_width u = er ∙ ap (λ (l : List (List ℕ)). get_or l i []) q ∙ cut-row (length rows) i t h in
            styling-more t (length rows) styles₀ styles place noted overflow-hidden i (c.by t q) h styles₁ place₁
            (e ∙ ap (emits (record { bytes = styles; fill = place })) (ap own_row w ∙ cut-own u)) k o z eo
            (ez ∙ ap (λ l. then_some (zero_row l) (get_or l declaration_start 0)) w ∙ rw (cut-zero u, cut-number u declaration_start (omega arith)) refl)
            y (ey ∙ ap hidden_row w ∙ cut-hidden u)
