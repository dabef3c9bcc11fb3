-- Styles of declarations: `styles_from_properties` of src/css.rs.
use Rattle.std.specs.Prelude.{Bool, true, false, List, [], ◌∷◌, ◌++◌, ◌≡◌, refl, ℕ}
use Rattle.combinators.specs.Choice.{pick, or, and}
use Rattle.syntax.specs.Declaration.{Overflow, hidden, Decl, color, background_color, height, max_height, overflow, overflow_y, display, white_space, content, visibility, Declaration}
use Rattle.syntax.specs.Style as style
use Rattle.syntax.specs.Style.{Style, StyleDecl}

-- a style of the declaration that starts at a byte
unfoldable pub one : Bool → ℕ → Style → List StyleDecl
one important start s = record { value = record { style = s; start = start }; important = important } ∷ []

-- the style that a declaration asks for by itself, which starts where the declaration does
unfoldable pub style_of : Bool → ℕ → Decl → List StyleDecl
style_of i s (color c) = one i s (style.colour c)
style_of i s (background_color c) = one i s (style.background c)
style_of i s (display n) = pick n (one i s style.display_none) []
style_of i s (white_space w) = one i s (style.white_space w)
style_of i s (content t) = one i s (style.content t)
style_of i s (visibility z) = one i s (style.visibility z)
style_of i s _ = []

unfoldable pub hides : Overflow → Bool
hides hidden = true
hides _ = false

-- whether a declaration hides what overflows, and whether it sets a height to zero
unfoldable pub hides_overflow : Decl → Bool
hides_overflow (overflow o) = hides o
hides_overflow (overflow_y o) = hides o
hides_overflow _ = false

unfoldable pub zero_height : Decl → Bool
zero_height (height z) = z
zero_height (max_height z) = z
zero_height _ = false

unfoldable pub any_decl : (Decl → Bool) → List Declaration → Bool
any_decl p [] = false
any_decl p (d ∷ ds) = or (p d.decl) (any_decl p ds)

unfoldable pub own_styles : List Declaration → List StyleDecl
own_styles [] = []
own_styles (d ∷ ds) = style_of d.important d.start d.decl ++ own_styles ds

-- where the first declaration starts that sets a height to zero; 0 where none does, which `styles_of` never asks for
unfoldable pub first_zero : List Declaration → ℕ
first_zero [] = 0
first_zero (d ∷ ds) = pick (zero_height d.decl) d.start (first_zero ds)

-- "Zero height with hidden overflow adds one unimportant `display: none` at the end." It has the start of that height (S-3: "The display made from a height names
-- the first zero height.").
unfoldable pub styles_of : List Declaration → List StyleDecl
styles_of ds = own_styles ds ++ pick (and (any_decl zero_height ds) (any_decl hides_overflow ds)) (one false (first_zero ds) style.display_none) []

-- `p{overflow:hidden;height:5px;max-height:0;height:0}`: the overflow stands before them, and the first height is not zero
case-first-zero : first_zero (
    record { decl = overflow hidden; important = false; start = 2 }
    ∷ record { decl = height false; important = false; start = 18 }
    ∷ record { decl = max_height true; important = false; start = 29 }
    ∷ record { decl = height true; important = false; start = 42 }
    ∷ [])
    ≡ 29
unfolding first_zero zero_height pick
case-first-zero = refl
