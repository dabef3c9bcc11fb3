-- Styles of declarations on rows: from the rows of declarations to the rows of the styles that they ask for. Any numbers are rows.
use Rattle.std.specs.Prelude.{ℕ, zero, suc, ◌+◌, ◌/◌, ◌≤◌, Bool, true, false, Option, Some, None, List, [], ◌∷◌, ◌++◌, ◌≡◌, refl, length, get_or, drop}
use Rattle.std.specs.Simd.{first_chunks}
use Rattle.std.proofs.lemmas.List.Edits.{sets}
use Rattle.combinators.specs.Choice.{pick, or, and, is}
use Rattle.syntax.specs.Declaration.{hidden}
use Rattle.syntax.specs.Layout.{color_kind, background_color_kind, height_kind, max_height_kind, overflow_kind, overflow_y_kind, display_kind, white_space_kind, content_kind, visibility_kind, flag, flag_of, overflow_number, declaration_width, declaration_kind, declaration_important, declaration_start, declaration_value, declaration_second, colour_slot, background_slot, display_slot, white_space_slot, content_slot, visibility_slot, style_width, value_numbers, row_of_numbers, declarations_at, styles_at}
use Rattle.declarations.specs.Styles.{styles_of}
use Rattle.syntax.specs.declared.styles.Value.{Value}
use Rattle.syntax.specs.declared.styles.StyleNumbers.{StyleNumbers}

-- ---- one declaration

-- what `display: none` gives its slot, by where its declaration starts, and the one that zero height with hidden overflow adds
abbrev pub no_value : ℕ → Value
no_value s = record { number = 0; second = 0; start = s }

abbrev pub added_style : ℕ → StyleNumbers
added_style s = record { slot = display_slot; important = false; value = no_value s }

-- a style, as the code answers it
abbrev pub style_for : ℕ → Bool → Value → Option StyleNumbers
style_for slot important v = Some (record { slot = slot; important = important; value = v })

-- the style that a declaration of kind k with the value v asks for by itself
unfoldable pub own_numbers : ℕ → Bool → Value → Option StyleNumbers
own_numbers k important v =
    pick (is k color_kind) (style_for colour_slot important v)
    (pick (is k background_color_kind) (style_for background_slot important v)
    (pick (is k display_kind) (pick (flag_of v.number) (style_for display_slot important (no_value v.start)) None)
    (pick (is k white_space_kind) (style_for white_space_slot important v)
    (pick (is k content_kind) (style_for content_slot important v)
    (pick (is k visibility_kind) (style_for visibility_slot important v) None)))))

-- the value of the row at the start of a stream, and the style that it asks for
unfoldable pub declared_value : List ℕ → Value
declared_value t = record { number = get_or t declaration_value 0; second = get_or t declaration_second 0; start = get_or t declaration_start 0 }

unfoldable pub own_numbers_at : List ℕ → Option StyleNumbers
own_numbers_at t = own_numbers (get_or t declaration_kind 0) (flag_of (get_or t declaration_important 0)) (declared_value t)

-- the row of a style that is asked for
unfoldable pub row_of_own : Option StyleNumbers → List ℕ
row_of_own (Some x) = row_of_numbers x
row_of_own None = []

unfoldable pub own_row : List ℕ → List ℕ
own_row t = row_of_own (own_numbers_at t)

-- whether that row is of the kind k or j, with the value v
unfoldable pub has_value : ℕ → ℕ → ℕ → List ℕ → Bool
has_value k j v t = and (or (is (get_or t declaration_kind 0) k) (is (get_or t declaration_kind 0) j)) (is (get_or t declaration_value 0) v)

-- whether it sets a height to zero, and whether it hides what overflows
unfoldable pub zero_row : List ℕ → Bool
zero_row t = has_value height_kind max_height_kind (flag true) t

unfoldable pub hidden_row : List ℕ → Bool
hidden_row t = has_value overflow_kind overflow_y_kind (overflow_number hidden) t

-- ---- the first n declarations of a stream

-- the rows of the styles that they ask for by themselves
unfoldable pub own_rows : ℕ → List ℕ → List ℕ
own_rows zero t = []
own_rows (suc n) t = own_row t ++ own_rows n (drop declaration_width t)

-- whether a test holds of one of them
unfoldable pub any_row : (List ℕ → Bool) → ℕ → List ℕ → Bool
any_row p zero t = false
any_row p (suc n) t = or (p t) (any_row p n (drop declaration_width t))

-- where the first of them starts that sets a height to zero
unfoldable pub first_zero_row : ℕ → List ℕ → ℕ
first_zero_row zero t = 0
first_zero_row (suc n) t = pick (zero_row t) (get_or t declaration_start 0) (first_zero_row n (drop declaration_width t))

-- the rows of all styles that they ask for
unfoldable pub style_numbers : List ℕ → ℕ → List ℕ
style_numbers rows n = own_rows n rows ++ pick (and (any_row zero_row n rows) (any_row hidden_row n rows)) (row_of_numbers (added_style (first_zero_row n rows))) []

-- how many styles these are
unfoldable pub style_count : List ℕ → ℕ → ℕ
style_count rows n = length (style_numbers rows n) / style_width

-- the rows of `max-height: 0`, `color: red !important`, `content` with 3 bytes of text from 7 on, and `overflow: hidden`
declared : List ℕ
declared =
    max_height_kind ∷ 0 ∷ 2 ∷ 1 ∷ 0
    ∷ color_kind ∷ 1 ∷ 16 ∷ 0xff0000 ∷ 0
    ∷ content_kind ∷ 0 ∷ 39 ∷ 7 ∷ 3
    ∷ overflow_kind ∷ 0 ∷ 53 ∷ 1 ∷ 0 ∷ []

-- all four
case-all : style_numbers declared 4 ≡ colour_slot ∷ 1 ∷ 0xff0000 ∷ 0 ∷ 16 ∷ content_slot ∷ 0 ∷ 7 ∷ 3 ∷ 39 ∷ display_slot ∷ 0 ∷ 0 ∷ 0 ∷ 2 ∷ []
unfolding declared style_numbers own_rows any_row first_zero_row own_row row_of_own own_numbers_at declared_value own_numbers row_of_numbers value_numbers zero_row hidden_row has_value overflow_number flag flag_of pick or and is
case-all = refl

-- the first three, which hide no overflow
case-three : style_numbers declared 3 ≡ colour_slot ∷ 1 ∷ 0xff0000 ∷ 0 ∷ 16 ∷ content_slot ∷ 0 ∷ 7 ∷ 3 ∷ 39 ∷ []
unfolding declared style_numbers own_rows any_row first_zero_row own_row row_of_own own_numbers_at declared_value own_numbers row_of_numbers value_numbers zero_row hidden_row has_value overflow_number flag flag_of pick or and is
case-three = refl

-- rows that are cut from the start of a stream
abbrev pub Cut : List (List ℕ) → List ℕ → Type 0
Cut rows t = rows ≡ first_chunks declaration_width (length rows) t

-- the styles of n declarations at the start of a stream, left in a store from 0 on: r of them, which read back as what is meant
pub record StylesLeft (t : List ℕ) (n : ℕ) (styles styles' : List ℕ) (r : ℕ) : Type 0 where
  pub stored : styles' ≡ sets styles 0 (style_numbers t n)
  pub counted : r ≡ style_count t n
  pub meant : (store : List ℕ) → styles_at styles' store r ≡ styles_of (declarations_at t store n)
  pub few : r ≤ n + 1
