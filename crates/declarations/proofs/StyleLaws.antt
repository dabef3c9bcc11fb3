-- Style rows mean the styles of the declarations whose rows they come from; and they are the rows of those styles.
use mathlib.Core.Path.{◌≡◌, refl, ap, sym, ◌∙◌}
use mathlib.Core.Bool.{Bool, true, false}
use mathlib.Core.List.{List, [], ◌∷◌, ◌++◌, append_assoc, append-nil}
use Prim.Native.Nat.{ℕ, zero, suc, ◌+◌, ◌*◌, ◌≤◌}
use native.Mathlib.Omega.{arith}
use lib.ListN.{length, get_or, drop, length-append}
use Rattle.combinators.specs.Choice.{pick, or, and, is}
use Rattle.combinators.specs.All.{All}
use Rattle.combinators.proofs.Rules.{pick-holds, is_true}
use Rattle.syntax.specs.Declaration.{Overflow, visible, hidden, scroll, auto, Decl, color, background_color, height, max_height, overflow, overflow_y, display, white_space, content, visibility, unknown, Declaration}
use Rattle.syntax.specs.Layout as layout
use Rattle.syntax.specs.Layout.{color_kind, background_color_kind, height_kind, max_height_kind, overflow_kind, overflow_y_kind, display_kind, white_space_kind, content_kind, visibility_kind, flag, flag_of, overflow_number, overflow_of, declaration_width, declaration_start, decl_text, declaration_text, decl_row, declaration_row, decl_of, read_declaration, declaration_rows, declaration_texts, declarations_at, display_slot, style_width, style_text_of, style_text, style_slot_of, number_from, value_from, numbers_from, row_of_numbers, style_row, value_in, style_in, read_style, style_rows, style_texts, styles_at}
use Rattle.syntax.specs.Stream.{Read, read_many, texts_many, rows_many}
use Rattle.syntax.specs.Style as style
use Rattle.syntax.specs.Style.{StyleDecl}
use Rattle.syntax.specs.declared.styles.Value.{Value}
use Rattle.syntax.specs.declared.styles.StyleNumbers.{StyleNumbers}
use Rattle.syntax.proofs.Back.{flag-back, row-numbers-back, row-numbers-rest}
use Rattle.syntax.proofs.RowSizes.{length-style}
use Rattle.syntax.proofs.Streams.{texts-append, rows_append}
use Rattle.declarations.specs.Styles.{one, style_of, hides, hides_overflow, zero_height, any_decl, own_styles, first_zero, styles_of}
use Rattle.declarations.specs.StyleNumbers.{no_value, added_style, style_for, own_numbers, declared_value, own_numbers_at, row_of_own, own_row, has_value, zero_row, hidden_row, own_rows, any_row, first_zero_row, style_numbers, style_count}
use Rattle.std.specs.Prelude.{Option, Some, None}

-- ---- cases

-- what holds of n, and of k where k is not n, holds of k
by_number : (P : ℕ → Type 0) (k n : ℕ) → P n → (is k n ≡ false → P k) → P k
by_number P k n p q = go (is k n) refl
  where
    go : (t : Bool) → is k n ≡ t → P k
    go true e = rw (is_true k n e) p
    go false e = q e

-- a kind that only unknown declarations have
record Other (k : ℕ) : Type 0 where
  color : is k color_kind ≡ false
  background : is k background_color_kind ≡ false
  height : is k height_kind ≡ false
  max-height : is k max_height_kind ≡ false
  overflow : is k overflow_kind ≡ false
  overflow-y : is k overflow_y_kind ≡ false
  display : is k display_kind ≡ false
  white-space : is k white_space_kind ≡ false
  content : is k content_kind ≡ false
  visibility : is k visibility_kind ≡ false

-- what holds of every kind holds of any number
by_kind : (P : ℕ → Type 0) → P color_kind → P background_color_kind → P height_kind → P max_height_kind → P overflow_kind → P overflow_y_kind → P display_kind
    → P white_space_kind → P content_kind → P visibility_kind → (k : ℕ) → (Other k → P k) → P k
by_kind P p₁ p₂ p₃ p₄ p₅ p₆ p₇ p₈ p₉ p₁₀ k q =
    by_number P k color_kind p₁ (λ n₁.
    by_number P k background_color_kind p₂ (λ n₂.
    by_number P k height_kind p₃ (λ n₃.
    by_number P k max_height_kind p₄ (λ n₄.
    by_number P k overflow_kind p₅ (λ n₅.
    by_number P k overflow_y_kind p₆ (λ n₆.
    by_number P k display_kind p₇ (λ n₇.
    by_number P k white_space_kind p₈ (λ n₈.
    by_number P k content_kind p₉ (λ n₉.
    by_number P k visibility_kind p₁₀ (λ n₁₀.
    q (record { color = n₁; background = n₂; height = n₃; max-height = n₄; overflow = n₅; overflow-y = n₆; display = n₇; white-space = n₈; content = n₉; visibility = n₁₀ })))))))))))

-- the number of an overflow says whether it hides
hides-number : (a : ℕ) → is a (overflow_number hidden) ≡ hides (overflow_of a)
unfolding hides overflow_number overflow_of pick is
hides-number a =
    by_number P a 0 refl (λ n₀.
    by_number P a 1 refl (λ n₁.
    by_number P a 2 refl (λ n₂.
    rw (n₀, n₁, n₂))))
  where
    P : ℕ → Type 0
    P n = is n (overflow_number hidden) ≡ hides (overflow_of n)

-- ---- reading

-- values behind values are read one behind the other
pub read_behind : {A : Type 0} (u : List ℕ → Read A) (m n : ℕ) (t : List ℕ) →
    let q = read_many u m t in
    let r = read_many u n q.rest in
    read_many u (m + n) t ≡ record { value = q.value ++ r.value; rest = r.rest }
unfolding read_many
read_behind u zero n t = let e : 0 + n ≡ n = omega arith in rw e
read_behind u (suc m) n t = let e : suc m + n ≡ suc (m + n) = omega arith in rw (e, read_behind u m n (u t).rest)

module _ (store : List ℕ) where
  -- numbers that read as styles, whatever stands behind them
  pub record Reads (xs : List ℕ) (ds : List StyleDecl) : Type 0 where
    pub long : length xs ≡ style_width * length ds
    pub reads : (t : List ℕ) → read_many (read_style store) (length ds) (xs ++ t) ≡ record { value = ds; rest = t }

  -- no rows read as no styles
  reads_none : Reads [] []
  unfolding read_many
  reads_none = record { long = refl; reads = λ t. refl }

  -- one row reads as its style
  reads-one : (x : StyleNumbers) → Reads (row_of_numbers x) (style_in store x ∷ [])
  unfolding read_many read_style
  reads-one x = record { long = length-style x; reads = λ t. rw (row-numbers-back x t, row-numbers-rest x t) }

  -- rows behind rows read as the styles of the first and then of the second
  reads_both : (xs ys : List ℕ) (ds es : List StyleDecl) → Reads xs ds → Reads ys es → Reads (xs ++ ys) (ds ++ es)
  reads_both xs ys ds es p q =
      let e : length (ds ++ es) ≡ length ds + length es = length-append ds es in
      record {
        long = omega (arith, length-append xs ys, e, p.long, q.long);
        reads = λ t. rw (append_assoc xs ys t, e, read_behind (read_style store) (length ds) (length es) (xs ++ (ys ++ t)), p.reads (ys ++ t), q.reads t);
      }

  -- ---- one declaration

  -- the styles that the code's answer says
  unfoldable pub said_by : Option StyleNumbers → List StyleDecl
  said_by (Some x) = style_in store x ∷ []
  said_by None = []

  -- that a display asks for
  display-said : (i z : Bool) (s : ℕ) → said_by (pick z (style_for display_slot i (no_value s)) None) ≡ style_of i s (display z)
  unfolding said_by style_in value_in layout.style_of style_of one pick is
  display-said i true s = refl
  display-said i false s = refl

  -- that any numbers ask for
  own-said : (k : ℕ) (i : Bool) (v : Value) → said_by (own_numbers k i v) ≡ style_of i v.start (decl_of store k v.number v.second)
  unfolding said_by own_numbers style_in value_in style_of one decl_of layout.style_of pick is
  own-said k i v =
      by_kind (λ n. said_by (own_numbers n i v) ≡ style_of i v.start (decl_of store n v.number v.second))
      refl refl refl refl refl refl (display-said i (flag_of v.number) v.start) refl refl refl k
      (λ o. rw (o.color, o.background, o.height, o.max-height, o.overflow, o.overflow-y, o.display, o.white-space, o.content, o.visibility))

  -- that the declaration at the start of a stream asks for
  pub declared-said : (t : List ℕ) → said_by (own_numbers_at t) ≡ style_of (read_declaration store t).value.important (read_declaration store t).value.start (read_declaration store t).value.decl
  unfolding own_numbers_at declared_value read_declaration
  declared-said t = own-said _ _ _

  -- the row of what a declaration asks for reads as that style, or none
  reads-said : (o : Option StyleNumbers) → Reads (row_of_own o) (said_by o)
  unfolding row_of_own said_by
  reads-said (Some x) = reads-one x
  reads-said None = reads_none

  -- the row of the declaration at the start of a stream reads as the style that it asks for
  reads-declared : (t : List ℕ) → Reads (own_row t) (style_of (read_declaration store t).value.important (read_declaration store t).value.start (read_declaration store t).value.decl)
  unfolding own_row
  reads-declared t = rw (← declared-said t) (reads-said (own_numbers_at t))

  -- whether they set a height to zero
  zero-own : (k a b : ℕ) → and (or (is k height_kind) (is k max_height_kind)) (is a (flag true)) ≡ zero_height (decl_of store k a b)
  unfolding zero_height decl_of flag flag_of pick and or is
  zero-own k a b =
      by_kind (λ n. and (or (is n height_kind) (is n max_height_kind)) (is a (flag true)) ≡ zero_height (decl_of store n a b)) refl refl refl refl refl refl refl refl refl refl k
      (λ o. rw (o.color, o.background, o.height, o.max-height, o.overflow, o.overflow-y, o.display, o.white-space, o.content, o.visibility))

  -- whether they hide what overflows
  hidden-own : (k a b : ℕ) → and (or (is k overflow_kind) (is k overflow_y_kind)) (is a (overflow_number hidden)) ≡ hides_overflow (decl_of store k a b)
  unfolding hides_overflow decl_of pick and or is
  hidden-own k a b =
      by_kind (λ n. and (or (is n overflow_kind) (is n overflow_y_kind)) (is a (overflow_number hidden)) ≡ hides_overflow (decl_of store n a b)) refl refl refl refl (hides-number a) (hides-number a) refl refl refl refl k
      (λ o. rw (o.color, o.background, o.height, o.max-height, o.overflow, o.overflow-y, o.display, o.white-space, o.content, o.visibility))

  -- ---- the first n declarations of a stream

  -- the styles that they ask for by themselves
  pub reads-rows : (n : ℕ) (t : List ℕ) → Reads (own_rows n t) (own_styles (declarations_at t store n))
  unfolding own_rows own_styles declarations_at read_many read_declaration
  reads-rows zero t = reads_none
  reads-rows (suc n) t = reads_both _ _ _ _ (reads-declared t) (reads-rows n (drop declaration_width t))

  -- a test of one of them
  module _ (p : List ℕ → Bool) (q : Decl → Bool) (h : (t : List ℕ) → p t ≡ q (read_declaration store t).value.decl) where
    -- some row passes p exactly if some of the declarations that the rows mean passes q
    any-row : (n : ℕ) (t : List ℕ) → any_row p n t ≡ any_decl q (declarations_at t store n)
    unfolding any_row any_decl declarations_at read_many read_declaration
    any-row zero t = refl
    any-row (suc n) t = rw (h t, any-row n (drop declaration_width t))

  -- whether one sets a height to zero
  pub any-zero : (n : ℕ) (t : List ℕ) → any_row zero_row n t ≡ any_decl zero_height (declarations_at t store n)
  unfolding zero_row has_value read_declaration
  any-zero n t = any-row zero_row zero_height (λ t. zero-own _ _ _) n t

  -- whether one hides what overflows
  pub any-hidden : (n : ℕ) (t : List ℕ) → any_row hidden_row n t ≡ any_decl hides_overflow (declarations_at t store n)
  unfolding hidden_row has_value read_declaration
  any-hidden n t = any-row hidden_row hides_overflow (λ t. hidden-own _ _ _) n t

  -- whether the first sets one to zero
  zero-read : (t : List ℕ) → zero_row t ≡ zero_height (read_declaration store t).value.decl
  unfolding zero_row has_value read_declaration
  zero-read t = zero-own _ _ _

  -- where the first one starts that does
  first-zero : (n : ℕ) (t : List ℕ) → first_zero_row n t ≡ first_zero (declarations_at t store n)
  unfolding first_zero_row first_zero declarations_at read_many read_declaration
  first-zero zero t = refl
  first-zero (suc n) t = rw (zero-read t, first-zero n (drop declaration_width t))

  -- the style that both add
  reads-added : (z : Bool) (s : ℕ) → Reads (pick z (row_of_numbers (added_style s)) []) (pick z (one false s style.display_none) [])
  unfolding pick one style_in value_in layout.style_of is
  reads-added true s = reads-one (added_style s)
  reads-added false s = reads_none

  -- all styles that they ask for
  pub reads-styles : (rows : List ℕ) (n : ℕ) → Reads (style_numbers rows n) (styles_of (declarations_at rows store n))
  unfolding style_numbers styles_of
  reads-styles rows n = rw (any-zero n rows, any-hidden n rows, first-zero n rows) (reads_both _ _ _ _ (reads-rows n rows) (reads-added _ _))

  -- the count of styles that the rows have is that of the declarations' styles
  pub count-styles : (rows : List ℕ) (n : ℕ) → style_count rows n ≡ length (styles_of (declarations_at rows store n))
  unfolding style_count
  count-styles rows n = omega (arith, (reads-styles rows n).long)

  -- style rows mean the styles that the declarations ask for, whatever stands behind them
  pub styles-meant : (rows : List ℕ) (count : ℕ) (t : List ℕ)
      → styles_at (style_numbers rows count ++ t) store (style_count rows count) ≡ styles_of (declarations_at rows store count)
  unfolding styles_at
  styles-meant rows count t = rw (count-styles rows count) (ap (λ (r : Read (List StyleDecl)). r.value) ((reads-styles rows count).reads t))

-- a declaration asks for at most one style by itself
own-long : (o : Option StyleNumbers) → length (row_of_own o) ≤ style_width
unfolding row_of_own
own-long (Some x) = omega (arith, length-style x)
own-long None = omega arith

-- the same of a row
row-long : (t : List ℕ) → length (own_row t) ≤ style_width
unfolding own_row
row-long t = own-long (own_numbers_at t)

-- n declarations for at most n
rows_long : (n : ℕ) (t : List ℕ) → length (own_rows n t) ≤ style_width * n
unfolding own_rows
rows_long zero t = omega arith
rows_long (suc n) t = omega (arith, length-append (own_row t) (own_rows n (drop declaration_width t)), row-long t, rows_long n (drop declaration_width t))

-- and for one more together
pub numbers-long : (rows : List ℕ) (n : ℕ) → length (style_numbers rows n) ≤ style_width * (n + 1)
unfolding style_numbers
numbers-long rows n =
    let z = and (any_row zero_row n rows) (any_row hidden_row n rows) in
    let x = added_style (first_zero_row n rows) in
    let h : length (pick z (row_of_numbers x) []) ≤ style_width = pick-holds (λ (l : List ℕ). length l ≤ style_width) z (row_of_numbers x) [] (λ _. omega (arith, length-style x)) (λ _. omega arith) in
    omega (arith, length-append (own_rows n rows) (pick z (row_of_numbers x) []), rows_long n rows, h)

-- so there are at most n + 1 of them
pub count-le : (rows : List ℕ) (n : ℕ) → style_count rows n ≤ n + 1
unfolding style_count
count-le rows n = omega (arith, numbers-long rows n)

-- ---- how many styles declarations ask for

-- a declaration that sets a height to zero asks for none by itself
own-or-zero : (i : Bool) (s : ℕ) (d : Decl) → length (style_of i s d) + flag (zero_height d) ≤ 1
unfolding style_of one zero_height flag pick
own-or-zero i s (color c) = omega arith
own-or-zero i s (background_color c) = omega arith
own-or-zero i s (height true) = omega arith
own-or-zero i s (height false) = omega arith
own-or-zero i s (max_height true) = omega arith
own-or-zero i s (max_height false) = omega arith
own-or-zero i s (overflow o) = omega arith
own-or-zero i s (overflow_y o) = omega arith
own-or-zero i s (display true) = omega arith
own-or-zero i s (display false) = omega arith
own-or-zero i s (white_space w) = omega arith
own-or-zero i s (content t) = omega arith
own-or-zero i s (visibility z) = omega arith
own-or-zero i s (unknown n) = omega arith

-- one of two conditions counts for no more than both
flag-or : (a b : Bool) → flag (or a b) ≤ flag a + flag b
unfolding flag or
flag-or true b = omega arith
flag-or false b = omega arith

-- so one of many leaves room for one
own-and-zero : (ds : List Declaration) → length (own_styles ds) + flag (any_decl zero_height ds) ≤ length ds
unfolding own_styles any_decl flag
own-and-zero [] = omega arith
own-and-zero (d ∷ ds) =
    omega (
      arith,
      length-append (style_of d.important d.start d.decl) (own_styles ds),
      own-or-zero d.important d.start d.decl,
      flag-or (zero_height d.decl) (any_decl zero_height ds),
      own-and-zero ds,
    )

-- the style that is added
added-long : (y z : Bool) (s : ℕ) → length (pick (and y z) (one false s style.display_none) []) ≤ flag y
unfolding pick and one flag
added-long true true s = omega arith
added-long true false s = omega arith
added-long false z s = omega arith

-- declarations ask for no more styles than they are
pub styles-few : (ds : List Declaration) → length (styles_of ds) ≤ length ds
unfolding styles_of
styles-few ds =
    let y = any_decl zero_height ds in
    let z = any_decl hides_overflow ds in
    omega (arith, length-append (own_styles ds) (pick (and y z) (one false (first_zero ds) style.display_none) []), own-and-zero ds, added-long y z (first_zero ds))

-- ---- where declarations lie in rows, the style rows are those of their styles

-- a declaration that has no text, other than a content's
unfoldable pub NamelessDecl : Decl → Type 0
NamelessDecl (color c) = Unit
NamelessDecl (background_color c) = Unit
NamelessDecl (height z) = Unit
NamelessDecl (max_height z) = Unit
NamelessDecl (overflow o) = Unit
NamelessDecl (overflow_y o) = Unit
NamelessDecl (display n) = Unit
NamelessDecl (white_space w) = Unit
NamelessDecl (content t) = Unit
NamelessDecl (visibility z) = Unit
NamelessDecl (unknown n) = n ≡ []

abbrev pub Nameless : List Declaration → Type 0
Nameless ds = All (λ d. NamelessDecl d.decl) ds

-- ---- one declaration

-- the numbers behind its row
pub row-behind : (i s f : ℕ) (d : Decl) (t : List ℕ) → drop declaration_width (decl_row i s f d ++ t) ≡ t
unfolding decl_row
row-behind i s f (color c) t = refl
row-behind i s f (background_color c) t = refl
row-behind i s f (height z) t = refl
row-behind i s f (max_height z) t = refl
row-behind i s f (overflow o) t = refl
row-behind i s f (overflow_y o) t = refl
row-behind i s f (display n) t = refl
row-behind i s f (white_space w) t = refl
row-behind i s f (content b) t = refl
row-behind i s f (visibility z) t = refl
row-behind i s f (unknown b) t = refl

-- the row of a style alone
one-row : (x : StyleNumbers) (f : ℕ) (d : StyleDecl) → x ≡ numbers_from f d → row_of_own (Some x) ≡ rows_many style_row style_text f (d ∷ [])
unfolding row_of_own rows_many style_row
one-row x f d e = ap row_of_numbers e ∙ sym (append-nil _)

-- the row of its style
pub own-row : (i : Bool) (s f : ℕ) (d : Decl) (t : List ℕ) → own_row (decl_row (flag i) s f d ++ t) ≡ rows_many style_row style_text f (style_of i s d)
unfolding own_row own_numbers_at declared_value own_numbers decl_row numbers_from style_slot_of number_from value_from style_text_of style_of one flag flag_of row_of_own rows_many pick is
own-row i s f (color c) t = one-row _ f _ (rw (flag-back i))
own-row i s f (background_color c) t = one-row _ f _ (rw (flag-back i))
own-row i s f (height z) t = refl
own-row i s f (max_height z) t = refl
own-row i s f (overflow o) t = refl
own-row i s f (overflow_y o) t = refl
own-row i s f (display true) t = one-row _ f _ (rw (flag-back i))
own-row i s f (display false) t = refl
own-row i s f (white_space w) t = one-row _ f _ (rw (flag-back i))
own-row i s f (content b) t = one-row _ f _ (rw (flag-back i))
own-row i s f (visibility z) t = one-row _ f _ (rw (flag-back i))
own-row i s f (unknown b) t = refl

-- the text of a style is that of its declaration
own-text : (i : Bool) (s : ℕ) (d : Decl) → NamelessDecl d → texts_many style_text (style_of i s d) ≡ decl_text d
unfolding NamelessDecl texts_many style_text style_text_of style_of one decl_text pick
own-text i s (color c) u = refl
own-text i s (background_color c) u = refl
own-text i s (height z) u = refl
own-text i s (max_height z) u = refl
own-text i s (overflow o) u = refl
own-text i s (overflow_y o) u = refl
own-text i s (display true) u = refl
own-text i s (display false) u = refl
own-text i s (white_space w) u = refl
own-text i s (content b) u = append-nil b
own-text i s (visibility z) u = refl
own-text i s (unknown b) u = sym u

-- whether it sets a height to zero
pub zero_row_lem : (i s f : ℕ) (d : Decl) (t : List ℕ) → zero_row (decl_row i s f d ++ t) ≡ zero_height d
unfolding zero_row has_value decl_row zero_height flag flag_of and or is
zero_row_lem i s f (color c) t = refl
zero_row_lem i s f (background_color c) t = refl
zero_row_lem i s f (height true) t = refl
zero_row_lem i s f (height false) t = refl
zero_row_lem i s f (max_height true) t = refl
zero_row_lem i s f (max_height false) t = refl
zero_row_lem i s f (overflow o) t = refl
zero_row_lem i s f (overflow_y o) t = refl
zero_row_lem i s f (display n) t = refl
zero_row_lem i s f (white_space w) t = refl
zero_row_lem i s f (content b) t = refl
zero_row_lem i s f (visibility z) t = refl
zero_row_lem i s f (unknown b) t = refl

-- the third number of a declaration's row is the byte where it starts
start-row : (i s f : ℕ) (d : Decl) (t : List ℕ) → get_or (decl_row i s f d ++ t) declaration_start 0 ≡ s
unfolding decl_row
start-row i s f (color c) t = refl
start-row i s f (background_color c) t = refl
start-row i s f (height z) t = refl
start-row i s f (max_height z) t = refl
start-row i s f (overflow o) t = refl
start-row i s f (overflow_y o) t = refl
start-row i s f (display n) t = refl
start-row i s f (white_space w) t = refl
start-row i s f (content b) t = refl
start-row i s f (visibility z) t = refl
start-row i s f (unknown b) t = refl

-- the number of a word says whether it hides
hides-word : (o : Overflow) → is (overflow_number o) (overflow_number hidden) ≡ hides o
unfolding overflow_number hides is
hides-word visible = refl
hides-word hidden = refl
hides-word scroll = refl
hides-word auto = refl

-- whether it hides what overflows
pub hidden-row : (i s f : ℕ) (d : Decl) (t : List ℕ) → hidden_row (decl_row i s f d ++ t) ≡ hides_overflow d
unfolding hidden_row has_value decl_row hides_overflow and or is
hidden-row i s f (color c) t = refl
hidden-row i s f (background_color c) t = refl
hidden-row i s f (height z) t = refl
hidden-row i s f (max_height z) t = refl
hidden-row i s f (overflow o) t = hides-word o
hidden-row i s f (overflow_y o) t = hides-word o
hidden-row i s f (display n) t = refl
hidden-row i s f (white_space w) t = refl
hidden-row i s f (content b) t = refl
hidden-row i s f (visibility z) t = refl
hidden-row i s f (unknown b) t = refl

-- ---- declarations

-- the rows of the styles that they ask for by themselves
own-rows-only : (ds : List Declaration) (f : ℕ) (t : List ℕ) → Nameless ds → own_rows (length ds) (declaration_rows f ds ++ t) ≡ style_rows f (own_styles ds)
unfolding own_rows own_styles declaration_rows declaration_row declaration_text style_rows rows_many
own-rows-only [] f t u = refl
own-rows-only (d ∷ ds) f t u =
    let g = f + length (decl_text d.decl) in
    rw (
      append_assoc (decl_row (flag d.important) d.start f d.decl) (rows_many declaration_row declaration_text g ds) t,
      own-row d.important d.start f d.decl (rows_many declaration_row declaration_text g ds ++ t),
      row-behind (flag d.important) d.start f d.decl (rows_many declaration_row declaration_text g ds ++ t),
      own-rows-only ds g t u.1,
      rows_append style_row style_text (style_of d.important d.start d.decl) (own_styles ds) f,
      own-text d.important d.start d.decl u.0,
    )

-- a test of one of them
module _ (p : List ℕ → Bool) (q : Decl → Bool) (h : (i s f : ℕ) (d : Decl) (t : List ℕ) → p (decl_row i s f d ++ t) ≡ q d) where
  -- some row passes p exactly if some of the declarations whose rows they are passes q
  pub any-declared : (ds : List Declaration) (f : ℕ) (t : List ℕ) → any_row p (length ds) (declaration_rows f ds ++ t) ≡ any_decl q ds
  unfolding any_row any_decl declaration_rows declaration_row rows_many
  any-declared [] f t = refl
  any-declared (d ∷ ds) f t =
      let g = f + length (declaration_text d) in
      rw (
        append_assoc (decl_row (flag d.important) d.start f d.decl) (rows_many declaration_row declaration_text g ds) t,
        h (flag d.important) d.start f d.decl (rows_many declaration_row declaration_text g ds ++ t),
        row-behind (flag d.important) d.start f d.decl (rows_many declaration_row declaration_text g ds ++ t),
        any-declared ds g t,
      )

-- where the first of them starts that sets a height to zero
pub first-declared : (ds : List Declaration) (f : ℕ) (t : List ℕ) → first_zero_row (length ds) (declaration_rows f ds ++ t) ≡ first_zero ds
unfolding first_zero_row first_zero declaration_rows declaration_row rows_many
first-declared [] f t = refl
first-declared (d ∷ ds) f t =
    let g = f + length (declaration_text d) in
    rw (
      append_assoc (decl_row (flag d.important) d.start f d.decl) (rows_many declaration_row declaration_text g ds) t,
      zero_row_lem (flag d.important) d.start f d.decl (rows_many declaration_row declaration_text g ds ++ t),
      start-row (flag d.important) d.start f d.decl (rows_many declaration_row declaration_text g ds ++ t),
      row-behind (flag d.important) d.start f d.decl (rows_many declaration_row declaration_text g ds ++ t),
      first-declared ds g t,
    )

-- the texts of styles are those of their declarations, where these have no names
own-texts-only : (ds : List Declaration) → Nameless ds → texts_many style_text (own_styles ds) ≡ texts_many declaration_text ds
unfolding own_styles texts_many declaration_text
own-texts-only [] u = refl
own-texts-only (d ∷ ds) u =
    rw (texts-append style_row style_text (style_of d.important d.start d.decl) (own_styles ds), own-text d.important d.start d.decl u.0, own-texts-only ds u.1)

-- the row of the style that is added
added-row : (z : Bool) (s f : ℕ) → rows_many style_row style_text f (pick z (one false s style.display_none) []) ≡ pick z (row_of_numbers (added_style s)) []
unfolding pick one rows_many row_of_own numbers_from style_slot_of number_from value_from style_text_of
added-row true s f = sym (one-row (added_style s) f _ refl)
added-row false s f = refl

-- the style that is added has no text
added-text : (z : Bool) (s : ℕ) → texts_many style_text (pick z (one false s style.display_none) []) ≡ []
unfolding pick one texts_many style_text style_text_of
added-text true s = refl
added-text false s = refl

-- the rows of the styles of declarations that lie in rows
pub own-rows : (ds : List Declaration) (f : ℕ) (t : List ℕ) → Nameless ds → style_numbers (declaration_rows f ds ++ t) (length ds) ≡ style_rows f (styles_of ds)
unfolding style_numbers styles_of style_rows
own-rows ds f t u =
    rw (
      own-rows-only ds f t u,
      any-declared zero_row zero_height zero_row_lem ds f t,
      any-declared hidden_row hides_overflow hidden-row ds f t,
      first-declared ds f t,
      rows_append style_row style_text (own_styles ds) (pick (and (any_decl zero_height ds) (any_decl hides_overflow ds)) (one false (first_zero ds) style.display_none) []) f,
      added-row (and (any_decl zero_height ds) (any_decl hides_overflow ds)) (first_zero ds) (f + length (texts_many style_text (own_styles ds))),
    )

-- their texts are those of the declarations
pub own-texts : (ds : List Declaration) → Nameless ds → style_texts (styles_of ds) ≡ declaration_texts ds
unfolding style_texts styles_of declaration_texts
own-texts ds u =
    rw (
      texts-append style_row style_text (own_styles ds) (pick (and (any_decl zero_height ds) (any_decl hides_overflow ds)) (one false (first_zero ds) style.display_none) []),
      added-text (and (any_decl zero_height ds) (any_decl hides_overflow ds)) (first_zero ds),
      append-nil (texts_many style_text (own_styles ds)),
      own-texts-only ds u,
    )
