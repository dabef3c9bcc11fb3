-- Rules that were written: their styles, placed, are those that the definitions of a style call place.
use mathlib.Core.Path.{◌≡◌, refl, ap, sym, ◌∙◌}
use mathlib.Core.Bool.{Bool, true, false}
use mathlib.Core.List.{List, [], ◌∷◌, ◌++◌, map, append_assoc, append-nil}
use Prim.Native.Nat.{ℕ, zero, suc, ◌+◌, ◌/◌}
use native.Mathlib.Nat.{add-zero}
use native.Mathlib.Omega.{arith}
use lib.ListN.{length, get_or, length-append}
use Rattle.combinators.specs.Choice.{pick, and, is}
use Rattle.syntax.specs.Declaration.{Decl, color, background_color, height, max_height, overflow, overflow_y, display, white_space, content, visibility, unknown, Declaration}
use Rattle.syntax.specs.Layout.{flag, decl_text, declaration_text, decl_row, declaration_row, declaration_rows, declaration_texts, style_width, style_text_of, style_text, style_slot_of, number_from, value_from, numbers_from, row_of_numbers, style_row, style_texts}
use Rattle.syntax.specs.RuleLayout.{rule_declarations, read_selector, selector_rows, selector_texts, rule_text, rule_row, rule_rows, rule_texts}
use Rattle.syntax.specs.Selector.{RuleSet}
use Rattle.syntax.specs.Stream.{read_many, texts_many, rows_many}
use Rattle.syntax.specs.Style as style
use Rattle.syntax.specs.Style.{StyleDecl}
use Rattle.syntax.specs.declared.styles.StyleNumbers.{StyleNumbers}
use Rattle.syntax.specs.declared.styles.Value.{Value}
use Rattle.syntax.proofs.Back.{row-numbers-back, row-numbers-rest}
use Rattle.syntax.proofs.RuleRows.{selectors-back, rule-back, RulesFit}
use Rattle.syntax.proofs.Streams.{Held, held-left, held-right, held-part, texts-append}
use Rattle.declarations.specs.Styles.{one, style_of, zero_height, hides_overflow, any_decl, own_styles, first_zero, styles_of}
use Rattle.declarations.specs.StyleNumbers.{added_style, zero_row, hidden_row, own_rows, style_numbers}
use Rattle.declarations.proofs.StyleLaws.{row-behind, own-row, zero_row_lem, hidden-row, any-declared, first-declared}
use Rattle.cascade.specs.Record.{Styled}
use Rattle.origins.specs.Rules.{selectors_read, rule_styles}
use Rattle.origins.proofs.WalkLaws.{component-rest}
use Rattle.styles.specs.Said as said
use Rattle.styles.specs.Said.{StyledRule}
use Rattle.styles.specs.StyleCall.{rule_contents, rules_contents, in_numbers, placed_styles, placed_rules}
use Rattle.rule_styles.specs.Placing.{read_numbers, numbers_of, content_of, placed_value, placed_numbers, contents_of, placed_all, lying_styles, contents_at, styles_placed, styled_rule, rules_contents_at, styled_rules}
use Rattle.rule_styles.proofs.PlacingRule.{rows_long}

-- ---- lists of styles in numbers
-- styles in numbers, of two lists in a row, are those of the first and then those of the second
numbers-append : (xs ys : List StyleNumbers) → map in_numbers (xs ++ ys) ≡ map in_numbers xs ++ map in_numbers ys
numbers-append [] ys = refl
numbers-append (x ∷ xs) ys = rw (numbers-append xs ys)

-- styles in numbers are read back from their rows
pub numbers-back : (xs : List StyleNumbers) (t : List ℕ) → numbers_of (length xs) (texts_many row_of_numbers xs ++ t) ≡ xs
unfolding numbers_of read_numbers read_many texts_many
numbers-back [] t = refl
numbers-back (x ∷ xs) t =
    rw (append_assoc (row_of_numbers x) (texts_many row_of_numbers xs) t, row-numbers-back x (texts_many row_of_numbers xs ++ t), row-numbers-rest x (texts_many row_of_numbers xs ++ t), numbers-back xs t)

module _ (t : List ℕ) where
  -- contents, and places, of some and of those behind them
  pub contents-append : (xs ys : List StyleNumbers) → contents_of t (xs ++ ys) ≡ contents_of t xs ++ contents_of t ys
  unfolding contents_of
  contents-append xs ys = texts-append (λ _ (x : StyleNumbers). row_of_numbers x) (content_of t) xs ys

  -- styles and those behind them are placed one behind the other, the second from where the contents of the first end
  pub placed-append : (xs ys : List StyleNumbers) (f : ℕ) → placed_all t f (xs ++ ys) ≡ placed_all t f xs ++ placed_all t (f + length (contents_of t xs)) ys
  unfolding placed_all contents_of texts_many
  placed-append [] ys f = rw (add-zero f)
  placed-append (x ∷ xs) ys f =
      let e : f + length (content_of t x ++ texts_many (content_of t) xs) ≡ f + length (content_of t x) + length (texts_many (content_of t) xs) = omega (arith, length-append (content_of t x) (texts_many (content_of t) xs)) in
      rw (e, placed-append xs ys (f + length (content_of t x)))

-- the same of the definitions' styles
styles-append : (xs ys : List StyleDecl) (f : ℕ) → placed_styles f (xs ++ ys) ≡ placed_styles f xs ++ placed_styles (f + length (style_texts xs)) ys
unfolding placed_styles style_texts texts_many
styles-append [] ys f = rw (add-zero f)
styles-append (d ∷ xs) ys f =
    let e : f + length (style_text d ++ texts_many style_text xs) ≡ f + length (style_text d) + length (texts_many style_text xs) = omega (arith, length-append (style_text d) (texts_many style_text xs)) in
    rw (e, styles-append xs ys (f + length (style_text d)))

-- the texts of styles behind styles are those of the first and then of the second
texts-behind : (xs ys : List StyleDecl) → style_texts (xs ++ ys) ≡ style_texts xs ++ style_texts ys
unfolding style_texts
texts-behind xs ys = texts-append (λ _ (d : StyleDecl). []) style_text xs ys

-- ---- one declaration, whose text lies at h: the style that it asks for by itself
own-numbers : ℕ → Bool → ℕ → Decl → List StyleNumbers
own-numbers h i s d = map (numbers_from h) (style_of i s d)

-- the row that is written for the style of a declaration is the row of its numbers
own-rows-one : (h : ℕ) (i : Bool) (s : ℕ) (d : Decl) → rows_many style_row style_text h (style_of i s d) ≡ texts_many row_of_numbers (own-numbers h i s d)
unfolding own-numbers rows_many texts_many style_of one style_row pick
own-rows-one h i s (color c) = refl
own-rows-one h i s (background_color c) = refl
own-rows-one h i s (height z) = refl
own-rows-one h i s (max_height z) = refl
own-rows-one h i s (overflow o) = refl
own-rows-one h i s (overflow_y o) = refl
own-rows-one h i s (display true) = refl
own-rows-one h i s (display false) = refl
own-rows-one h i s (white_space w) = refl
own-rows-one h i s (content b) = refl
own-rows-one h i s (visibility z) = refl
own-rows-one h i s (unknown b) = refl

module _ (t : List ℕ) where
  -- its content, and its style placed
  own-content : (h : ℕ) (i : Bool) (s : ℕ) (d : Decl) → Held t h (decl_text d) → contents_of t (own-numbers h i s d) ≡ style_texts (style_of i s d)
  unfolding own-numbers contents_of content_of texts_many style_of one numbers_from style_slot_of number_from value_from style_texts style_text style_text_of decl_text pick is
  own-content h i s (color c) k = refl
  own-content h i s (background_color c) k = refl
  own-content h i s (height z) k = refl
  own-content h i s (max_height z) k = refl
  own-content h i s (overflow o) k = refl
  own-content h i s (overflow_y o) k = refl
  own-content h i s (display true) k = refl
  own-content h i s (display false) k = refl
  own-content h i s (white_space w) k = refl
  own-content h i s (content b) k = ap (λ (l : List ℕ). l ++ []) (held-part t h b k)
  own-content h i s (visibility z) k = refl
  own-content h i s (unknown b) k = refl

  -- the style of a declaration, placed, is the placed style that it asks for
  own-placed : (h f : ℕ) (i : Bool) (s : ℕ) (d : Decl) → Held t h (decl_text d) → map in_numbers (placed_all t f (own-numbers h i s d)) ≡ placed_styles f (style_of i s d)
  unfolding own-numbers placed_all placed_numbers placed_value content_of style_of one numbers_from style_slot_of number_from value_from style_text_of placed_styles in_numbers decl_text pick is
  own-placed h f i s (color c) k = refl
  own-placed h f i s (background_color c) k = refl
  own-placed h f i s (height z) k = refl
  own-placed h f i s (max_height z) k = refl
  own-placed h f i s (overflow o) k = refl
  own-placed h f i s (overflow_y o) k = refl
  own-placed h f i s (display true) k = refl
  own-placed h f i s (display false) k = refl
  own-placed h f i s (white_space w) k = refl
  own-placed h f i s (content b) k = rw (held-part t h b k)
  own-placed h f i s (visibility z) k = refl
  own-placed h f i s (unknown b) k = refl

-- ---- declarations, whose texts lie end to end from h on
lying-own : ℕ → List Declaration → List StyleNumbers
lying-own h [] = []
lying-own h (d ∷ ds) = own-numbers h d.important d.start d.decl ++ lying-own (h + length (declaration_text d)) ds

-- the rows that are written for declarations are those of the numbers of their styles
lying-rows : (ds : List Declaration) (h : ℕ) (t : List ℕ) → own_rows (length ds) (declaration_rows h ds ++ t) ≡ texts_many row_of_numbers (lying-own h ds)
unfolding own_rows declaration_rows declaration_row declaration_text rows_many lying-own texts_many
lying-rows [] h t = refl
lying-rows (d ∷ ds) h t =
    let g = h + length (decl_text d.decl) in
    let q = rows_many declaration_row declaration_text g ds ++ t in
    rw (
      append_assoc (decl_row (flag d.important) d.start h d.decl) (rows_many declaration_row declaration_text g ds) t,
      own-row d.important d.start h d.decl q,
      row-behind (flag d.important) d.start h d.decl q,
      lying-rows ds g t,
      own-rows-one h d.important d.start d.decl,
      texts-append (λ _ (x : StyleNumbers). []) row_of_numbers (own-numbers h d.important d.start d.decl) (lying-own g ds),
    )

-- with the style that zero height and hidden overflow add
added : List Declaration → List StyleNumbers
added ds = pick (and (any_decl zero_height ds) (any_decl hides_overflow ds)) (added_style (first_zero ds) ∷ []) []

-- the styles of declarations whose texts lie from h on, in numbers, with the one that is added
lying : ℕ → List Declaration → List StyleNumbers
lying h ds = lying-own h ds ++ added ds

-- the row of the style that is added is the row of its numbers
added-rows : (z : Bool) (s : ℕ) → pick z (row_of_numbers (added_style s)) [] ≡ texts_many row_of_numbers (pick z (added_style s ∷ []) [])
unfolding pick texts_many
added-rows true s = sym (append-nil (row_of_numbers (added_style s)))
added-rows false s = refl

-- the style rows of declarations that lie in rows are the rows of those numbers
style-rows : (ds : List Declaration) (h : ℕ) (t : List ℕ) → style_numbers (declaration_rows h ds ++ t) (length ds) ≡ texts_many row_of_numbers (lying h ds)
unfolding style_numbers lying added
style-rows ds h t =
    rw (
      lying-rows ds h t,
      any-declared zero_row zero_height zero_row_lem ds h t,
      any-declared hidden_row hides_overflow hidden-row ds h t,
      first-declared ds h t,
      added-rows (and (any_decl zero_height ds) (any_decl hides_overflow ds)) (first_zero ds),
      texts-append (λ _ (x : StyleNumbers). []) row_of_numbers (lying-own h ds) (pick (and (any_decl zero_height ds) (any_decl hides_overflow ds)) (added_style (first_zero ds) ∷ []) []),
    )

module _ (t : List ℕ) where
  -- their contents, and their styles placed
  lying-contents : (ds : List Declaration) (h : ℕ) → Held t h (declaration_texts ds) → contents_of t (lying-own h ds) ≡ style_texts (own_styles ds)
  unfolding lying-own own_styles declaration_texts texts_many
  lying-contents [] h k = unfold contents_of style_texts in refl
  lying-contents (d ∷ ds) h k =
      contents-append t (own-numbers h d.important d.start d.decl) (lying-own (h + length (declaration_text d)) ds)
      ∙ ap (λ (l : List ℕ). l ++ contents_of t (lying-own (h + length (declaration_text d)) ds)) (own-content t h d.important d.start d.decl (unfold declaration_text in held-left t h (declaration_text d) (declaration_texts ds) k))
      ∙ ap (λ (l : List ℕ). style_texts (style_of d.important d.start d.decl) ++ l) (lying-contents ds (h + length (declaration_text d)) (held-right t h (declaration_text d) (declaration_texts ds) k))
      ∙ sym (texts-behind (style_of d.important d.start d.decl) (own_styles ds))

  -- the own styles of declarations, placed, are those that the definitions place
  lying-placed : (ds : List Declaration) (h f : ℕ) → Held t h (declaration_texts ds) → map in_numbers (placed_all t f (lying-own h ds)) ≡ placed_styles f (own_styles ds)
  unfolding lying-own own_styles declaration_texts texts_many
  lying-placed [] h f k = unfold placed_all placed_styles in refl
  lying-placed (d ∷ ds) h f k =
      let own = own-numbers h d.important d.start d.decl in
      let rest = lying-own (h + length (declaration_text d)) ds in
      let here : Held t h (decl_text d.decl) = unfold declaration_text in held-left t h (declaration_text d) (declaration_texts ds) k in
      let g = f + length (contents_of t own) in
      let e : length (contents_of t own) ≡ length (style_texts (style_of d.important d.start d.decl)) = ap length (own-content t h d.important d.start d.decl here) in
      ap (map in_numbers) (placed-append t own rest f)
      ∙ numbers-append (placed_all t f own) (placed_all t g rest)
      ∙ ap (λ (l : List (Styled Value)). l ++ map in_numbers (placed_all t g rest)) (own-placed t h f d.important d.start d.decl here)
      ∙ ap (λ (l : List (Styled Value)). placed_styles f (style_of d.important d.start d.decl) ++ l) (lying-placed ds (h + length (declaration_text d)) g (held-right t h (declaration_text d) (declaration_texts ds) k))
      ∙ ap (λ (n : ℕ). placed_styles f (style_of d.important d.start d.decl) ++ placed_styles (f + n) (own_styles ds)) e
      ∙ sym (styles-append (style_of d.important d.start d.decl) (own_styles ds) f)

  -- with the style that is added, which has no content
  added-content : (z : Bool) (s : ℕ) → contents_of t (pick z (added_style s ∷ []) []) ≡ style_texts (pick z (one false s style.display_none) [])
  unfolding contents_of content_of texts_many style_texts style_text style_text_of one pick is
  added-content true s = refl
  added-content false s = refl

  -- the style that is added, placed, is the one that the definitions place
  added-placed : (z : Bool) (s f : ℕ) → map in_numbers (placed_all t f (pick z (added_style s ∷ []) [])) ≡ placed_styles f (pick z (one false s style.display_none) [])
  unfolding placed_all placed_numbers placed_value placed_styles in_numbers numbers_from style_slot_of number_from value_from style_text_of one pick is
  added-placed true s f = refl
  added-placed false s f = refl

  -- the contents of all styles of declarations are the texts of these styles
  all-contents : (ds : List Declaration) (h : ℕ) → Held t h (declaration_texts ds) → contents_of t (lying h ds) ≡ style_texts (styles_of ds)
  unfolding lying added styles_of
  all-contents ds h k =
      let z = and (any_decl zero_height ds) (any_decl hides_overflow ds) in
      rw (contents-append t (lying-own h ds) (pick z (added_style (first_zero ds) ∷ []) []), lying-contents ds h k, added-content z (first_zero ds)) (sym (texts-behind (own_styles ds) (pick z (one false (first_zero ds) style.display_none) [])))

  -- all styles of declarations, placed, are those that the definitions place
  all_placed : (ds : List Declaration) (h f : ℕ) → Held t h (declaration_texts ds) → map in_numbers (placed_all t f (lying h ds)) ≡ placed_styles f (styles_of ds)
  unfolding lying added styles_of
  all_placed ds h f k =
      let z = and (any_decl zero_height ds) (any_decl hides_overflow ds) in
      rw (
        placed-append t (lying-own h ds) (pick z (added_style (first_zero ds) ∷ []) []) f,
        numbers-append (placed_all t f (lying-own h ds)) (placed_all t (f + length (contents_of t (lying-own h ds))) (pick z (added_style (first_zero ds) ∷ []) [])),
        lying-placed ds h f k,
        added-placed z (first_zero ds) (f + length (contents_of t (lying-own h ds))),
        lying-contents ds h k,
      )
      (sym (styles-append (own_styles ds) (pick z (one false (first_zero ds) style.display_none) []) f))

-- ---- a rule
-- where selectors end does not depend on their texts
selector-rest : (s t rows : List ℕ) → (read_selector s rows).rest ≡ (read_selector t rows).rest
unfolding read_selector
selector-rest s t rows = component-rest s _ _ ∙ sym (component-rest t _ _)

-- where many selectors end does not depend on their texts either
selectors-rest : (s t : List ℕ) (n : ℕ) (rows : List ℕ) → (read_many (read_selector s) n rows).rest ≡ (read_many (read_selector t) n rows).rest
unfolding read_many
selectors-rest s t zero rows = refl
selectors-rest s t (suc n) rows = selectors-rest s t n (read_selector s rows).rest ∙ ap (λ (r : List ℕ). (read_many (read_selector t) n r).rest) (selector-rest s t rows)

module _ (text : List ℕ) (g : ℕ) (r : RuleSet) (more : List ℕ) (h : Held text g (rule_text r)) where
  abbrev declared : ℕ
  declared = g + length (selector_texts r.selectors)

  -- the texts of the rule's selectors lie where the rule's texts do
  held-selectors : Held text g (selector_texts r.selectors)
  held-selectors = unfold rule_text in held-left text g (selector_texts r.selectors) (declaration_texts r.declarations) h

  -- the texts of its declarations lie behind those of its selectors
  held-declarations : Held text declared (declaration_texts r.declarations)
  held-declarations = unfold rule_text in held-right text g (selector_texts r.selectors) (declaration_texts r.declarations) h

  -- its declarations lie behind its selectors
  declarations-behind : (selectors_read [] (rule_row g r ++ more)).rest ≡ declaration_rows declared r.declarations ++ more
  unfolding selectors_read rule_row
  declarations-behind =
      selectors-rest [] text (length r.selectors) ((selector_rows g r.selectors ++ declaration_rows declared r.declarations) ++ more)
      ∙ ap (λ (l : List ℕ). (read_many (read_selector text) (length r.selectors) l).rest) (append_assoc (selector_rows g r.selectors) (declaration_rows declared r.declarations) more)
      ∙ ap (λ q. q.rest) (selectors-back text r.selectors g (declaration_rows declared r.declarations ++ more) held-selectors)

  -- the style rows of a written rule are those of its declarations' styles, by where their texts lie
  rule-rows : rule_styles (rule_row g r ++ more) ≡ texts_many row_of_numbers (lying declared r.declarations)
  unfolding rule_styles
  rule-rows =
      ap (λ (l : List ℕ). style_numbers l (get_or (rule_row g r ++ more) rule_declarations 0)) declarations-behind
      ∙ (unfold rule_row in style-rows r.declarations declared more)

  -- its styles as they lie
  rule-lying : lying_styles (rule_row g r ++ more) ≡ lying declared r.declarations
  unfolding lying_styles
  rule-lying =
      let xs = lying declared r.declarations in
      let n : length (texts_many row_of_numbers xs) / style_width ≡ length xs = omega (arith, rows_long xs) in
      rw (rule-rows, n) (ap (numbers_of (length xs)) (sym (append-nil (texts_many row_of_numbers xs))) ∙ numbers-back xs [])

  -- the contents that are read of a written rule are those of its styles
  pub rule-contents : contents_at text (rule_row g r ++ more) ≡ rule_contents r
  unfolding contents_at rule_contents said.rule_styles
  rule-contents = ap (contents_of text) rule-lying ∙ all-contents text r.declarations declared held-declarations

  -- the styles that are read of a written rule, placed, are those of the rule
  pub rule-styles : (f : ℕ) → styles_placed text f (rule_row g r ++ more) ≡ placed_styles f (said.rule_styles r)
  unfolding styles_placed said.rule_styles
  rule-styles f = ap (λ (l : List StyleNumbers). map in_numbers (placed_all text f l)) rule-lying ∙ all_placed text r.declarations declared f held-declarations

-- ---- rules one behind the other
module _ (text : List ℕ) where
  -- the contents that are read of written rules are those of their styles
  pub rules-contents : (rs : List RuleSet) (g : ℕ) (more : List ℕ) → RulesFit rs → Held text g (rule_texts rs)
      → rules_contents_at text (length rs) (rule_rows g rs ++ more) ≡ rules_contents rs
  unfolding rules_contents_at rule_rows rows_many rule_texts texts_many rules_contents
  rules-contents [] g more fit h = refl
  rules-contents (r ∷ rs) g more fit h =
      let g' = g + length (rule_text r) in
      let q = rows_many rule_row rule_text g' rs ++ more in
      let here = held-left text g (rule_text r) (texts_many rule_text rs) h in
      rw (append_assoc (rule_row g r) (rows_many rule_row rule_text g' rs) more, rule-contents text g r q here, rule-back text g r q fit.0 here)
      (ap (λ (l : List ℕ). rule_contents r ++ l) (rules-contents rs g' more fit.1 (held-right text g (rule_text r) (texts_many rule_text rs) h)))

  -- the styles that are read of written rules, placed one behind the other, are those of the rules
  pub rules-styled : (rs : List RuleSet) (g f : ℕ) (more : List ℕ) → RulesFit rs → Held text g (rule_texts rs)
      → styled_rules text f (length rs) (rule_rows g rs ++ more) ≡ placed_rules f rs
  unfolding styled_rules styled_rule rule_rows rows_many rule_texts texts_many placed_rules
  rules-styled [] g f more fit h = refl
  rules-styled (r ∷ rs) g f more fit h =
      let g' = g + length (rule_text r) in
      let q = rows_many rule_row rule_text g' rs ++ more in
      let here = held-left text g (rule_text r) (texts_many rule_text rs) h in
      rw (append_assoc (rule_row g r) (rows_many rule_row rule_text g' rs) more, rule-contents text g r q here, rule-styles text g r q here f, rule-back text g r q fit.0 here)
      (ap (λ (l : List (StyledRule Value)). record { selectors = r.selectors; styles = placed_styles f (said.rule_styles r) } ∷ l) (rules-styled rs g' (f + length (rule_contents r)) more fit.1 (held-right text g (rule_text r) (texts_many rule_text rs) h)))
