-- How many numbers declarations, styles, components, selectors and rules take.
use mathlib.Core.Path.{◌≡◌, refl, ap, ◌∙◌}
use mathlib.Core.List.{List, [], ◌∷◌, reverse}
use Prim.Native.Nat.{ℕ, ◌+◌, ◌*◌}
use native.Mathlib.Nat.{mul-zero, mul-suc}
use native.Mathlib.Omega.{arith}
use lib.ListN.{length, length-append, length-reverse}
use Rattle.syntax.specs.Declaration.{Decl, color, background_color, height, max_height, overflow, overflow_y, display, white_space, content, visibility, unknown, Declaration}
use Rattle.syntax.specs.Layout.{declaration_width, decl_row, declaration_row, declaration_text, declaration_rows, style_width, style_text, numbers_from, value_numbers, row_of_numbers, style_row, style_rows}
use Rattle.syntax.specs.declared.styles.StyleNumbers.{StyleNumbers}
use Rattle.syntax.specs.RuleLayout.{component_width, component_row, component_text, component_rows, selector_row, selector_text, selector_rows, selector_texts, rule_row, rule_text, rule_rows}
use Rattle.syntax.specs.RuleSize.{sizes, selector_size, rule_size}
use Rattle.syntax.specs.Selector.{Component, Selector, RuleSet}
use Rattle.syntax.specs.Stream.{rows_many}
use Rattle.syntax.specs.Style.{StyleDecl}

module _ {A : Type 0} (w : ℕ → A → List ℕ) (x : A → List ℕ) where
  -- rows that each have a size
  pub length-rows : (n : A → ℕ) → ((f : ℕ) (a : A) → length (w f a) ≡ n a) → (xs : List A) (f : ℕ) → length (rows_many w x f xs) ≡ sizes n xs
  unfolding rows_many sizes
  length-rows n e [] f = refl
  length-rows n e (a ∷ xs) f =
      length-append (w f a) (rows_many w x (f + length (x a)) xs) ∙ rw (e f a, length-rows n e xs (f + length (x a)))

  -- rows of one width are that width for each value
  pub length-wide : (k : ℕ) → ((f : ℕ) (a : A) → length (w f a) ≡ k) → (xs : List A) (f : ℕ) → length (rows_many w x f xs) ≡ k * length xs
  unfolding rows_many
  length-wide k e [] f = rw (mul-zero k)
  length-wide k e (a ∷ xs) f =
      let g = f + length (x a) in
      omega (arith, length-append (w f a) (rows_many w x g xs), e f a, length-wide k e xs g, mul-suc k (length xs))

-- ---- declarations
-- a declaration takes a row of the declarations' width
length-decl : (i s f : ℕ) (d : Decl) → length (decl_row i s f d) ≡ declaration_width
unfolding decl_row
length-decl i s f (color c) = refl
length-decl i s f (background_color c) = refl
length-decl i s f (height z) = refl
length-decl i s f (max_height z) = refl
length-decl i s f (overflow o) = refl
length-decl i s f (overflow_y o) = refl
length-decl i s f (display n) = refl
length-decl i s f (white_space w) = refl
length-decl i s f (content t) = refl
length-decl i s f (visibility h) = refl
length-decl i s f (unknown t) = refl

-- the row of a declaration
pub length-declaration : (f : ℕ) (d : Declaration) → length (declaration_row f d) ≡ declaration_width
unfolding declaration_row
length-declaration f d = length-decl _ _ f d.decl

-- the rows of declarations are a declaration's width each
pub length-declarations : (f : ℕ) (ds : List Declaration) → length (declaration_rows f ds) ≡ declaration_width * length ds
unfolding declaration_rows
length-declarations f ds = length-wide declaration_row declaration_text declaration_width length-declaration ds f

-- ---- styles
-- a style takes a row of the styles' width
pub length-style : (x : StyleNumbers) → length (row_of_numbers x) ≡ style_width
unfolding row_of_numbers value_numbers
length-style x = refl

-- the rows of styles are a style's width each
pub length-styles : (f : ℕ) (ds : List StyleDecl) → length (style_rows f ds) ≡ style_width * length ds
unfolding style_rows style_row
length-styles f ds = length-wide style_row style_text style_width (λ f d. length-style (numbers_from f d)) ds f

-- ---- components
-- a component takes a row of the components' width
pub length-component : (f : ℕ) (c : Component) → length (component_row f c) ≡ component_width
unfolding component_row
length-component f c = refl

-- the rows of components are a component's width each
pub length-components : (f : ℕ) (cs : List Component) → length (component_rows f cs) ≡ component_width * length cs
unfolding component_rows
length-components f cs = length-wide component_row component_text component_width length-component cs f

-- ---- selectors
-- a selector takes as many numbers as its size says
pub length-selector : (f : ℕ) (s : Selector) → length (selector_row f s) ≡ selector_size s
unfolding selector_row selector_size
length-selector f s =
    let e = length-components f (reverse s.components) in
    omega (arith, e, ap (λ (n : ℕ). component_width * n) (length-reverse s.components))

-- the rows of selectors are as long as their sizes together
pub length-selectors : (f : ℕ) (ss : List Selector) → length (selector_rows f ss) ≡ sizes selector_size ss
unfolding selector_rows
length-selectors f ss = length-rows selector_row selector_text selector_size length-selector ss f

-- ---- rules
-- a rule takes as many numbers as its size says
pub length-rule : (f : ℕ) (r : RuleSet) → length (rule_row f r) ≡ rule_size r
unfolding rule_row rule_size
length-rule f r =
    let g = f + length (selector_texts r.selectors) in
    omega (
      arith,
      length-append (selector_rows f r.selectors) (declaration_rows g r.declarations),
      length-selectors f r.selectors,
      length-declarations g r.declarations,
    )

-- the rows of rules are as long as their sizes together
pub length-rules : (f : ℕ) (rs : List RuleSet) → length (rule_rows f rs) ≡ sizes rule_size rs
unfolding rule_rows
length-rules f rs = length-rows rule_row rule_text rule_size length-rule rs f
