-- `parse_style_attribute`: from what `parse_rules` left to the rows and texts of the styles; and these read back as the styles meant.
use mathlib.Core.Path.{◌≡◌, refl, sym, ap, ◌∙◌}
use mathlib.Core.Bool.{Bool, true, false}
use mathlib.Core.List.{List, [], ◌∷◌, ◌++◌, map}
use mathlib.Core.Logic.{⊎_elim}
use Prim.Native.Nat.{ℕ, zero, suc, ◌+◌, ◌-◌, ◌*◌, ◌^◌, ◌≤◌, ◌<◌}
use native.Mathlib.Omega.{arith}
use lib.ListN.{length, get_or, drop, length-append, length-drop, length-map}
use lib.Seq.{sets, length-sets}
use Prim.Native.Char.{code as ascii}
use Rattle.combinators.specs.Choice.{pick, is}
use Rattle.combinators.specs.Parsed.{Parsed, ok, err, on_parsed}
use Rattle.combinators.specs.Store.{wiped}
use Rattle.combinators.proofs.Lists.{byte-there}
use Rattle.combinators.proofs.Rules.{pick-holds, lt-or-ge}
use Rattle.combinators.proofs.Wiped.{wiped-over, length-wiped}
use Rattle.combinators.proofs.AllLaws.{all_append}
use Rattle.lexer.specs.TokenRow.{token_width}
use Rattle.lexer.specs.Whitespace.{skip_whitespace}
use Rattle.lexer.proofs.Comments.{skip-le}
use Rattle.syntax.specs.Declaration.{Decl, color, background_color, height, max_height, overflow, overflow_y, display, white_space, content, visibility, unknown, Declaration}
use Rattle.syntax.specs.Layout.{declaration_width, style_width, declaration_text, declaration_rows, declaration_texts, style_rows, style_texts, styles_at}
use Rattle.syntax.specs.Stream.{texts_many}
use Rattle.syntax.proofs.Streams.{sets-drop}
use Rattle.syntax.proofs.RowSizes.{length-declarations, length-styles}
use Rattle.syntax.proofs.Back.{DeclFits, StyleFits, DeclarationsFit, StylesFit, styles-written}
use Rattle.values.specs.Value.{value_of}
use Rattle.values.proofs.DeclLaws.{decl-fits}
use Rattle.declarations.specs.Attribute.{style_attribute}
use Rattle.declarations.specs.DeclRow.{named_decl}
use Rattle.declarations.specs.Rules.{property_of, value_behind, declaration_of, Rules, starts_at, more_rules, declarations_of}
use Rattle.declarations.specs.Leaving.{kept, text_kept, used_rules, Leaves, leaves, rules_answer, rules_of, rules_left, styles_answer, style_left, StyleRoom}
use Rattle.declarations.specs.StyleNumbers.{style_numbers, style_count}
use Rattle.declarations.specs.Styles.{one, style_of, hides_overflow, zero_height, any_decl, own_styles, first_zero, styles_of}
use Rattle.declarations.specs.declared.rules.RulesRead.{RulesRead}
use Rattle.declarations.proofs.Declaring.{takes}
use Rattle.declarations.proofs.StyleLaws.{NamelessDecl, Nameless, numbers-long, own-rows, own-texts}

-- ---- what is kept of declarations without the names of unknown ones

-- no text other than a content's
nameless-one : (d : Decl) → NamelessDecl (named_decl false d)
unfolding NamelessDecl named_decl pick
nameless-one (color c) = tt
nameless-one (background_color c) = tt
nameless-one (height z) = tt
nameless-one (max_height z) = tt
nameless-one (overflow o) = tt
nameless-one (overflow_y o) = tt
nameless-one (display n) = tt
nameless-one (white_space w) = tt
nameless-one (content t) = tt
nameless-one (visibility z) = tt
nameless-one (unknown n) = refl

-- declarations that are kept without names have no text other than a content's
pub nameless : (at : ℕ) (ds : List Declaration) → Nameless (map (kept false at) ds)
unfolding kept
nameless at [] = tt
nameless at (d ∷ ds) = (nameless-one d.decl, nameless at ds)

module _ (names : Bool) where
  -- what does not look at the name of an unknown declaration is the same
  named-same : {A : Type 0} (f : Decl → A) → ((a b : List ℕ) → f (unknown a) ≡ f (unknown b)) → (d : Decl) → f (named_decl names d) ≡ f d
  unfolding named_decl
  named-same f h (color c) = refl
  named-same f h (background_color c) = refl
  named-same f h (height z) = refl
  named-same f h (max_height z) = refl
  named-same f h (overflow o) = refl
  named-same f h (overflow_y o) = refl
  named-same f h (display n) = refl
  named-same f h (white_space w) = refl
  named-same f h (content t) = refl
  named-same f h (visibility z) = refl
  named-same f h (unknown n) = h _ _

  -- the styles that they ask for by themselves
  own-kept : (ds : List Declaration) → own_styles (map (kept names 0) ds) ≡ own_styles ds
  unfolding own_styles style_of kept
  own-kept [] = refl
  own-kept (d ∷ ds) = let e : 0 + d.start ≡ d.start = omega arith in rw (e, named-same (style_of d.important d.start) (λ a b. refl) d.decl, own-kept ds)

  -- a test of one of them
  any-kept : (q : Decl → Bool) → ((a b : List ℕ) → q (unknown a) ≡ q (unknown b)) → (ds : List Declaration) → any_decl q (map (kept names 0) ds) ≡ any_decl q ds
  unfolding any_decl kept
  any-kept q h [] = refl
  any-kept q h (d ∷ ds) = rw (named-same q h d.decl, any-kept q h ds)

  -- where the first of them starts that sets a height to zero
  first-kept : (ds : List Declaration) → first_zero (map (kept names 0) ds) ≡ first_zero ds
  unfolding first_zero zero_height kept
  first-kept [] = refl
  first-kept (d ∷ ds) = let e : 0 + d.start ≡ d.start = omega arith in rw (e, named-same zero_height (λ a b. refl) d.decl, first-kept ds)

  -- all styles that they ask for, where their starts are left as they are
  pub styles-kept : (ds : List Declaration) → styles_of (map (kept names 0) ds) ≡ styles_of ds
  unfolding styles_of zero_height hides_overflow
  styles-kept ds = rw (own-kept ds, any-kept zero_height (λ a b. refl) ds, any-kept hides_overflow (λ a b. refl) ds, first-kept ds)

-- ---- what declarations take and keep
-- by cases of a reader's answer
parsed-holds : {A B : Type 0} (P : B → Type 0) (p : Parsed A) (f : ℕ → A → B) (b : B) → ((n : ℕ) (a : A) → p ≡ ok n a → P (f n a)) → P b → P (on_parsed p f b)
unfolding on_parsed
parsed-holds P (ok n a) f b h k = h n a refl
parsed-holds P err f b h k = k

-- a declaration that reads fits its row
pub declaration-fits : (s : List ℕ) (n : ℕ) (d : Declaration) → declaration_of s ≡ ok n d → DeclFits d.decl
unfolding declaration_of value_behind
declaration-fits s n d =
    parsed-holds P (property_of s) _ err
    (λ v name _. parsed-holds P (value_of (drop v s)) _ err (λ m value _ e. let q = of e in rw (← q) (decl-fits name value.tokens)) none)
    none
  where
    P : Parsed Declaration → Type 0
    P p = p ≡ ok n d → DeclFits d.decl

    none : P err
    none e = absurd (let z : ◌≡◌ {A = ℕ} 0 1 = cc in omega arith)

    of : {m : ℕ} {x : Declaration} → ◌≡◌ {A = Parsed Declaration} (ok m x) (ok n d) → x.decl ≡ d.decl
    of {m} {x} e = let q : x ≡ d = cc in ap (λ (y : Declaration). y.decl) q

-- declarations read from the byte `at` on, of so many bytes: each takes a byte or more; their texts are no longer than what they take, but
-- for two bytes where they end the text; and they fit their rows
pub record Bounded (names : Bool) (at long : ℕ) (r : Rules) : Type 0 where
  pub count : at + length r.declarations ≤ r.taken
  pub within : r.taken ≤ at + long
  pub text : at + length (declaration_texts (rules_of names 0 r)) ≤ r.taken + 2
  pub sharp : r.taken < at + long → at + length (declaration_texts (rules_of names 0 r)) ≤ r.taken
  pub none : r.taken ≤ at → length (declaration_texts (rules_of names 0 r)) ≤ 0
  pub fit : DeclarationsFit r.declarations

module _ (names : Bool) where
  -- no declaration ends where it begins
  bounded-none : (at long : ℕ) → Bounded names at long (record { declarations = []; taken = at })
  unfolding rules_of declaration_texts texts_many
  bounded-none at long =
      record { count = omega arith; within = omega arith; text = omega arith; sharp = λ _. omega arith; none = λ _. omega arith; fit = tt }

  -- a declaration that takes n bytes of s, wherever it starts, and more behind it
  module _ (s : List ℕ) (n : ℕ) (d : Declaration) (e : declaration_of s ≡ ok n d) (x : Declaration) (ex : x.decl ≡ d.decl) (r : Rules) where
    abbrev both : Rules
    both = record { declarations = x ∷ r.declarations; taken = r.taken }

    -- the texts of all are its own text and those of the declarations behind it
    texts-next : length (declaration_texts (rules_of names 0 both)) ≡ text_kept names d + length (declaration_texts (rules_of names 0 r))
    unfolding rules_of declaration_texts texts_many text_kept kept declaration_text
    texts-next = rw ex (length-append (declaration_text (kept names 0 d)) (texts_many declaration_text (map (kept names 0) r.declarations)))

    -- s starts at `from`, and the others are read from k on, of m bytes
    bounded-next : (at long from k m : ℕ) → at ≤ from → from + length s ≡ at + long → k ≡ from + n → m ≡ length s - n → Bounded names k m r → Bounded names at long both
    bounded-next at long from k m h es ek em b =
        let t = takes names s n d e in
        let q = texts-next in
        let c = b.count in
        let i = b.within in
        record {
          count = omega (arith, t.some);
          within = omega (arith, t.within);
          text = ⊎_elim (λ g. omega (arith, t.sharp g, b.text)) (λ g. omega (arith, t.text, b.none (omega arith))) (lt-or-ge n (length s));
          sharp = λ g. omega (arith, t.within, t.sharp (omega (arith, t.within)), b.sharp (omega (arith, t.within)));
          none = λ g. absurd (omega (arith, t.some));
          fit = (rw ex (declaration-fits s n d e), b.fit);
        }

  -- declarations behind a first one are bounded by the text
  more-bounded : (l : ℕ) (s : List ℕ) (at : ℕ) → Bounded names at (length s) (more_rules l s at)
  unfolding more_rules starts_at
  more-bounded zero s at = bounded-none at (length s)
  more-bounded (suc l) s at =
      let P = Bounded names at (length s) in
      let w = 1 + skip_whitespace (drop 1 s) in
      pick-holds P (is (get_or s 0 0) (ascii ";")) _ _
      (λ t. let h : w ≤ length s = omega (arith, byte-there s 0 (ascii ";") (omega arith) t, skip-le (drop 1 s), length-drop 1 s) in
      parsed-holds P (declaration_of (drop w s)) _ _
      (λ n d e. let k = length-drop w s in
      bounded-next (drop w s) n d e (starts_at (at + w) d) refl (more_rules l (drop (w + n) s) (at + (w + n))) at (length s) (at + w) (at + (w + n)) (length (drop (w + n) s))
      (omega arith) (omega arith) (omega arith) (omega (arith, length-drop (w + n) s)) (more-bounded l (drop (w + n) s) (at + (w + n))))
      (bounded-none at (length s)))
      (λ _. bounded-none at (length s))

  -- all declarations of a text are bounded by it
  pub bounded : (s : List ℕ) → Bounded names 0 (length s) (declarations_of s)
  unfolding declarations_of
  bounded s =
      parsed-holds (Bounded names 0 (length s)) (declaration_of s) _ _
      (λ n d e. bounded-next s n d e d refl (more_rules (length s) (drop n s) n) 0 (length s) 0 n (length (drop n s))
      (omega arith) (omega arith) (omega arith) (length-drop n s) (more-bounded (length s) (drop n s) n))
      (bounded-none 0 (length s))

-- there are no more declarations than bytes
pub declarations-count : (s : List ℕ) → length (declarations_of s).declarations ≤ length s
declarations-count s = let b = bounded false s in omega (arith, b.count, b.within)

-- ---- styles fit their rows

-- the style that a declaration asks for
own-fits : (i : Bool) (s : ℕ) (d : Decl) → DeclFits d → StylesFit (style_of i s d)
unfolding DeclFits StyleFits style_of one pick
own-fits i s (color c) h = (h, tt)
own-fits i s (background_color c) h = (h, tt)
own-fits i s (height z) h = tt
own-fits i s (max_height z) h = tt
own-fits i s (overflow o) h = tt
own-fits i s (overflow_y o) h = tt
own-fits i s (display true) h = (tt, tt)
own-fits i s (display false) h = tt
own-fits i s (white_space w) h = (tt, tt)
own-fits i s (content t) h = (tt, tt)
own-fits i s (visibility z) h = (tt, tt)
own-fits i s (unknown n) h = tt

-- the styles of declarations that fit do fit
all-own-fit : (ds : List Declaration) → DeclarationsFit ds → StylesFit (own_styles ds)
unfolding own_styles
all-own-fit [] h = tt
all-own-fit (d ∷ ds) h =
    all_append (λ d. StyleFits d.value.style) (style_of d.important d.start d.decl) (own_styles ds) (own-fits d.important d.start d.decl h.0) (all-own-fit ds h.1)

-- and the one that is added
pub styles-fit : (ds : List Declaration) → DeclarationsFit ds → StylesFit (styles_of ds)
unfolding styles_of one StyleFits
styles-fit ds h =
    all_append (λ d. StyleFits d.value.style) (own_styles ds) _ (all-own-fit ds h) (pick-holds StylesFit _ _ _ (λ _. (tt, tt)) (λ _. tt))

-- the styles of every attribute fit
pub attribute-fits : (s : List ℕ) → StylesFit (style_attribute s)
unfolding style_attribute
attribute-fits s = styles-fit (declarations_of s).declarations (bounded false s).fit

-- ---- `parse_style_attribute`: declarations are read, and their styles written in their place
module _ (s : List ℕ) where
  -- the declarations as they are kept
  abbrev ds : List Declaration
  ds = rules_of false 0 (declarations_of s)

  -- as many as were read
  ds-long : length ds ≡ length (declarations_of s).declarations
  unfolding rules_of
  ds-long = length-map (declarations_of s).declarations (kept false 0)

  -- without the names of unknown ones
  ds-nameless : Nameless ds
  unfolding rules_of
  ds-nameless = nameless 0 (declarations_of s).declarations

  -- they ask for the styles of the attribute
  ds-styles : styles_of ds ≡ style_attribute s
  unfolding rules_of style_attribute
  ds-styles = styles-kept false (declarations_of s).declarations

  -- whose texts are their texts
  ds-texts : declaration_texts ds ≡ style_texts (style_attribute s)
  ds-texts = sym (own-texts ds ds-nameless) ∙ ap style_texts ds-styles

  -- and whose rows come from theirs
  rows-meant : (f : ℕ) (t : List ℕ) → style_numbers (declaration_rows f ds ++ t) (length ds) ≡ style_rows f (style_attribute s)
  rows-meant f t = own-rows ds f t ds-nameless ∙ ap (style_rows f) ds-styles

  module _ (rules tokens brackets store : List ℕ) (fill : ℕ) (o : StyleRoom s rules tokens brackets store fill) where
    -- there is room for their rows
    rows_fit : 0 + length (declaration_rows fill ds) ≤ length rules
    rows_fit = omega (arith, length-declarations fill ds, ds-long, declarations-count s, o.for-declarations.for-rules)

    -- what `parse_rules` left: the declarations of the attribute, from the start of the store on
    module _ {r : RulesRead} {y x b z : List ℕ}
        (e : record { answer = r; rules = y; tokens = x; brackets = b; store = z } ≡ rules_left false 0 s rules 0 tokens brackets store fill) where
      -- the count that is answered is that of the declarations
      count-is : r.count ≡ length ds
      unfolding rules_left leaves rules_answer
      count-is = ap (λ (l : Leaves RulesRead). l.answer.count) e

      -- what is left in the store of rules are the rows of the declarations
      rules-are : y ≡ sets rules 0 (declaration_rows fill ds)
      unfolding rules_left leaves
      rules-are = ap (λ (l : Leaves RulesRead). l.rules) e

      -- what was used of the tokens is zero again
      tokens-are : x ≡ wiped 0 (token_width * (used_rules false s).tokens) tokens
      unfolding rules_left leaves
      tokens-are = ap (λ (l : Leaves RulesRead). l.tokens) e

      -- the count of the numbers that are wiped has 64 bits
      pub count_fits : declaration_width * r.count < 2 ^ 64
      count_fits = omega (arith, count-is, ds-long, declarations-count s, o.for-declarations.row-bits)

      -- the rows of the declarations are there
      pub rows-there : declaration_width * r.count ≤ length y
      rows-there = omega (arith, ap length rules-are, length-sets rules 0 (declaration_rows fill ds), o.for-declarations.for-rules, count-is, ds-long, declarations-count s)

      -- there is room for the rows of the styles
      pub styles-room : (rows : List (List ℕ)) → length rows ≡ r.count → style_width * (length rows + 1) ≤ length x
      styles-room rows e =
          omega (arith, count-is, ds-long, declarations-count s, ap length tokens-are, length-wiped 0 (token_width * (used_rules false s).tokens) tokens, o.for-styles)

      -- the rows of the styles
      numbers-are : style_numbers y r.count ≡ style_rows fill (style_attribute s)
      numbers-are =
          rw (rules-are, count-is, sets-drop rules 0 (declaration_rows fill ds) rows_fit)
          (rows-meant fill (drop (0 + length (declaration_rows fill ds)) rules))

      -- as many styles are counted as the attribute means
      styles-are : style_count y r.count ≡ length (style_attribute s)
      unfolding style_count
      styles-are = omega (arith, ap length numbers-are, length-styles fill (style_attribute s))

      -- what is left, where the styles were written and the declarations wiped
      pub style-left : {n : ℕ} {x' y' : List ℕ} → x' ≡ sets x 0 (style_numbers y r.count) → n ≡ style_count y r.count → y' ≡ wiped 0 (declaration_width * r.count) y
          → record { answer = record { count = n; text = r.text }; rules = y'; tokens = x'; brackets = b; store = z } ≡ style_left s rules tokens brackets store fill
      unfolding style_left styles_answer rules_left leaves rules_answer
      style-left {n} {x'} {y'} ex en ey =
          let et : r.text ≡ length (declaration_texts ds) = ap (λ (l : Leaves RulesRead). l.answer.text) e in
          let eb : b ≡ wiped 0 (used_rules false s).tokens brackets = ap (λ (l : Leaves RulesRead). l.brackets) e in
          let ez : z ≡ sets (wiped fill (used_rules false s).bytes store) fill (declaration_texts ds) = ap (λ (l : Leaves RulesRead). l.store) e in
          let ew : y' ≡ wiped 0 (declaration_width * length ds) rules =
          ey ∙ rw (rules-are, count-is) (wiped-over rules 0 (declaration_width * length ds) (declaration_rows fill ds) (omega (arith, length-declarations fill ds)))
          in
          rw (en, styles-are, et, ew, ex, tokens-are, numbers-are, eb, ez, ds-texts, ds-long)

    -- ---- what is left reads back: there was room for the texts
    -- the texts of the attribute's styles fit the store behind the fill
    texts-fit : fill + length (style_texts (style_attribute s)) ≤ length store
    texts-fit =
        let b = bounded false s in
        let q = ap length ds-texts in
        omega (arith, b.text, b.within, o.for-declarations.room.for-texts)

    -- the rows of the attribute's styles fit the store of tokens
    rows-room : length (style_rows fill (style_attribute s)) ≤ length tokens
    rows-room =
        let q = ap length (rows-meant fill []) in
        omega (arith, numbers-long (declaration_rows fill ds ++ []) (length ds), ds-long, declarations-count s, o.for-styles)

    -- it reads as the styles of the attribute
    pub style-back :
        let l = style_left s rules tokens brackets store fill in
        styles_at l.tokens l.store (length (style_attribute s)) ≡ style_attribute s
    unfolding style_left
    style-back =
        let u = used_rules false s in
        styles-written (style_attribute s) (wiped 0 (token_width * u.tokens) tokens) 0 (wiped fill u.bytes store) fill (attribute-fits s)
        (omega (arith, rows-room, length-wiped 0 (token_width * u.tokens) tokens))
        (omega (arith, texts-fit, length-wiped fill u.bytes store))
