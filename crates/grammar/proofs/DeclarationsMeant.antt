-- The tokens of a declaration of the grammar make the declaration that the grammar means: by the engine's tables what stands in the document's.
use mathlib.Core.Path.{◌≡◌, refl, ap, sym, subst, ◌∙◌}
use mathlib.Core.Bool.{Bool, true, false, not}
use mathlib.Core.List.{List, [], ◌∷◌, ◌++◌, map, append-nil}
use Prim.Native.Nat.{ℕ, ◌+◌}
use native.Mathlib.Omega.{arith}
use lib.ListN.{length, get_or}
use Rattle.combinators.specs.All.{All}
use Prim.Native.Char.{code as ascii}
use Rattle.combinators.specs.Choice.{pick, or, and, is, within}
use Rattle.combinators.specs.Word.{same_text}
use Rattle.combinators.proofs.Rules.{never, and-true, either, pick_true, or_left, within-true, within-yes, within-false, within-past}
use Rattle.combinators.proofs.Words.{same-is}
use Rattle.characters.specs.Literal.{text}
use Rattle.characters.specs.Utf8.{utf8, continuation}
use Rattle.lexer.specs.Name.{case_distance, lower, is_hex_digit, hex_digit}
use Rattle.lexer.specs.Token as tokens
use Rattle.lexer.specs.Token.{Token, ident}
use Rattle.lexer.proofs.SyntaxName.{letter, ident_start, ident_code_point}
use Rattle.syntax.specs.Declaration as syntax
use Rattle.syntax.specs.Declaration.{Colour, Overflow, WhiteSpace}
use Rattle.values.specs.Words.{Entry, Found, found, missing, lookup, on_found}
use Rattle.values.specs.Colour.{rgb, colours, all_of, colour_of, hash_colour, behind_comma, background_of}
use Rattle.values.specs.Property.{number_zero, units, any_of, height_of, first_word, overflow_of, display_of, white_space_of, content_of, visibility_of, properties, decl_of}
use Rattle.values.proofs.CssColour.{six-digits, replicated, functional}
use Rattle.grammar.specs.Nth.{Blanks}
use Rattle.grammar.specs.Selectors.{Quoted}
use Rattle.grammar.specs.Tokens.{Numeral, Ident, folded, Atom, word, string, number, dimension, comma, written_atom, means_atom, means_opening, means_closer, means_numeral, ends_name, begins_name, may_follow, MayFollow}
use Rattle.grammar.specs.Values.{Values, end, then, block, means_values, Follows, Apart, is_semicolon, is_bang, is_brace, Outermost, Unmarked, Some, DeclarationValue}
use Rattle.grammar.specs.Declarations.{Keyword, colour_names, Shade, named, three, six, ColourValue, shade, parts, length_units, is_zero, Length, measured, bare, overflow_words, display_words, white_space_words, visibility_words, Strings, last, more, Known, color, background_color, background, height, max_height, overflow, overflow_y, display, white_space, content, visibility, known_names, known_name, alone, shade_values, part_values, colour_values, length_values, string_values, known_values, pair, means_shade, means_colour, means_length, means_strings, means_known}
use Rattle.grammar.proofs.Places.{Unblank, blank-first}
use Rattle.grammar.proofs.NumbersMeant.{part-integer, numeral-zero}

-- ---- tables
-- nothing found is nothing
nothing : {A : Type 0} {P : Type 0} (a : A) → missing ≡ found a → P
nothing a e = absurd (let z : ◌≡◌ {A = ℕ} 0 1 = cc in omega arith)

module _ {A : Type 0} (P : List ℕ → A → Type 0) (w : List ℕ) (a : A) where
  -- a row, by whether it has the word
  by_row : (t : Bool) (e : Entry A) (r : Found A) → same_text w e.word ≡ t → P e.word e.means → (r ≡ found a → P w a) → pick t (found e.means) r ≡ found a → P w a
  unfolding pick
  by_row true e r s h k q =
      let m : e.means ≡ a = cc in
      subst (λ (v : List ℕ). P v a) (sym (same-is w e.word s)) (subst (P e.word) m h)
  by_row false e r s h k q = k q

  -- what holds of every row of a table holds of a word that the table has
  pub row-holds : (table : List (Entry A)) → All (λ (e : Entry A). P e.word e.means) table → lookup w table ≡ found a → P w a
  unfolding lookup
  row-holds [] h q = nothing a q
  row-holds (e ∷ es) h q = by_row (same_text w e.word) e (lookup w es) refl h.0 (row-holds es h.1) q

-- the same of words alone
pub word_holds : (P : List ℕ → Type 0) (w : List ℕ) (ws : List (List ℕ)) → All P ws → any_of w ws ≡ true → P w
unfolding any_of
word_holds P w [] h q = never q
word_holds P w (x ∷ xs) h q = by_word (same_text w x) refl (word_holds P w xs h.1) q
  where
    by_word : (t : Bool) → same_text w x ≡ t → (any_of w xs ≡ true → P w) → pick t true (any_of w xs) ≡ true → P w
    by_word true s k q = subst P (sym (same-is w x s)) h.0
    by_word false s k q = k (unfold pick in q)

-- a word that no row has is not found
pub unlisted : {A : Type 0} (w : List ℕ) (table : List (Entry A)) → any_of w (map (λ (e : Entry A). e.word) table) ≡ false → lookup w table ≡ missing
unfolding any_of lookup
unlisted w [] q = refl
unlisted {A} w (e ∷ es) q = by_word (same_text w e.word) (any_of w (map (λ (e : Entry A). e.word) es)) (lookup w es) (unlisted w es) q
  where
    by_word : (t b : Bool) (r : Found A) → (b ≡ false → r ≡ missing) → pick t true b ≡ false → pick t (found e.means) r ≡ missing
    by_word true b r k q = never (sym (unfold pick in q))
    by_word false b r k q = unfold pick in k q

-- ---- colours
-- `one computed test': each name of the document's table is the engine's colour, and the engine has no others
pub names-agree : All (λ (e : Entry Colour). lookup e.word colours ≡ found e.means) colour_names × (length colours ≡ length colour_names)
unfolding lookup same_text text utf8 continuation pick and is
names-agree = ((refl, (refl, (refl, (refl, (refl, (refl, (refl, (refl, (refl, (refl, (refl, (refl, (refl, (refl, (refl, (refl, (refl, tt))))))))))))))))), refl)

-- a name is looked up
ident-colour : (w : List ℕ) → colour_of (ident w ∷ []) ≡ lookup w colours
unfolding colour_of
ident-colour w = refl

-- a hash is worth its digits
hash-colour : (b : List ℕ) → colour_of (tokens.hash b ∷ []) ≡ hash_colour b
unfolding colour_of
hash-colour b = refl

-- a hexadecimal digit is one in small letters too, of the same worth
record Small (x : ℕ) : Type 0 where
  hex : is_hex_digit (lower x) ≡ true
  same : hex_digit (lower x) ≡ hex_digit x

-- a small letter and a decimal digit stay
stays : (x : ℕ) → is_hex_digit x ≡ true → within x (ascii "A") (ascii "Z") ≡ false → Small x
unfolding lower pick
stays x h e = record { hex = rw e h; same = rw e }

-- a capital letter is folded
turned : (x : ℕ) → within x (ascii "A") (ascii "F") ≡ true → Small x
unfolding lower
turned x h =
    let p = within-true x (ascii "A") (ascii "F") h in
    let e : lower x ≡ x + case_distance = sym (pick_true _ _ _ _ (within-yes x (ascii "A") (ascii "Z") p.0 (omega arith)) refl) in
    let y = x + case_distance in
    let s = within-yes y (ascii "a") (ascii "f") (omega arith) (omega arith) in
    record {
      hex = ap is_hex_digit e ∙ (unfold is_hex_digit or in rw (within-past y (ascii "0") (ascii "9") (omega arith), s));
      same =
          ap hex_digit e
          ∙ (unfold hex_digit pick in
          rw (
            within-past y (ascii "0") (ascii "9") (omega arith),
            s,
            within-past x (ascii "0") (ascii "9") (omega arith),
            sym (within-false x (ascii "a") (ascii "f") (omega arith)),
            h,
          ) (omega arith));
    }

-- so with each digit
small-digit : (x : ℕ) → is_hex_digit x ≡ true → Small x
unfolding is_hex_digit
small-digit x h =
    either (Small x) _ _ h
    (λ e. let p = within-true x (ascii "0") (ascii "9") e in stays x h (sym (within-false x (ascii "A") (ascii "Z") (omega arith))))
    (λ l. either (Small x) _ _ l
    (λ e. let p = within-true x (ascii "a") (ascii "f") e in stays x h (within-past x (ascii "A") (ascii "Z") (omega arith)))
    (λ e. turned x e))

-- and with the first of several
first-digit : (x : ℕ) (r : List ℕ) → all_of is_hex_digit (x ∷ r) ≡ true → Small x × (all_of is_hex_digit r ≡ true)
unfolding all_of
first-digit x r h = let p = and-true (is_hex_digit x) (all_of is_hex_digit r) h in (small-digit x p.0, p.1)

-- six digits in letters of either case
six-small : (p q x y z w : ℕ) → Small p → Small q → Small x → Small y → Small z → Small w
    → hash_colour (map lower (p ∷ q ∷ x ∷ y ∷ z ∷ w ∷ [])) ≡ found (rgb (pair p q) (pair x y) (pair z w))
unfolding pair
six-small p q x y z w a b c d e f =
    six-digits (lower p) (lower q) (lower x) (lower y) (lower z) (lower w) a.hex b.hex c.hex d.hex e.hex f.hex
    ∙ rw (a.same, b.same, c.same, d.same, e.same, f.same)

-- by one test of them all
six-meant : (p q x y z w : ℕ) → all_of is_hex_digit (p ∷ q ∷ x ∷ y ∷ z ∷ w ∷ []) ≡ true
    → hash_colour (map lower (p ∷ q ∷ x ∷ y ∷ z ∷ w ∷ [])) ≡ found (rgb (pair p q) (pair x y) (pair z w))
six-meant p q x y z w h =
    let a = first-digit p (q ∷ x ∷ y ∷ z ∷ w ∷ []) h in
    let b = first-digit q (x ∷ y ∷ z ∷ w ∷ []) a.1 in
    let c = first-digit x (y ∷ z ∷ w ∷ []) b.1 in
    let d = first-digit y (z ∷ w ∷ []) c.1 in
    let e = first-digit z (w ∷ []) d.1 in
    six-small p q x y z w a.0 b.0 c.0 d.0 e.0 (first-digit w [] e.1).0

-- a hash of three digits is the colour whose parts are each digit twice
three-meant : (x y z : ℕ) → all_of is_hex_digit (x ∷ y ∷ z ∷ []) ≡ true → hash_colour (map lower (x ∷ y ∷ z ∷ [])) ≡ found (rgb (pair x x) (pair y y) (pair z z))
three-meant x y z h =
    let a = first-digit x (y ∷ z ∷ []) h in
    let b = first-digit y (z ∷ []) a.1 in
    let c = first-digit z [] b.1 in
    replicated (lower x) (lower y) (lower z) a.0.hex b.0.hex c.0.hex ∙ six-small x x y y z z a.0 a.0 b.0 b.0 c.0 c.0

-- a colour in one token is what it means
shade-meant : (b : Blanks) (s : Shade) → colour_of (means_values (shade_values b s)) ≡ found (means_shade s)
unfolding means_values shade_values means_atom means_shade
shade-meant b (named k) =
    ident-colour (folded k.name)
    ∙ row-holds (λ (w : List ℕ) (a : Colour). lookup w colours ≡ found a) (folded k.name) k.means colour_names names-agree.0 k.listed
shade-meant b (three h x y z e d) =
    hash-colour _ ∙ ap (λ (l : List ℕ). hash_colour (map lower l)) e ∙ three-meant x y z (ap (λ (l : List ℕ). all_of is_hex_digit l) (sym e) ∙ d)
shade-meant b (six h p q x y z w e d) =
    hash-colour _ ∙ ap (λ (l : List ℕ). hash_colour (map lower l)) e ∙ six-meant p q x y z w (ap (λ (l : List ℕ). all_of is_hex_digit l) (sym e) ∙ d)

-- so is any other
colour-meant : (b : Blanks) (v : ColourValue) → colour_of (means_values (colour_values b v)) ≡ found (means_colour v)
unfolding colour_values means_colour
colour-meant b (shade s) = shade-meant b s
colour-meant b (parts n h x y z) =
    unfold means_values part_values means_atom means_opening means_closer in
    rw h
    (functional (means_numeral x.numeral) (means_numeral y.numeral) (means_numeral z.numeral) _ _ _ (part-integer x) (part-integer y) (part-integer z))

-- in one token there is no comma
shade-background : (b : Blanks) (s : Shade) → background_of (means_values (shade_values b s)) ≡ found (means_shade s)
shade-background b s = without-comma b s ∙ shade-meant b s
  where
    without-comma : (b : Blanks) (s : Shade) → background_of (means_values (shade_values b s)) ≡ colour_of (means_values (shade_values b s))
    without-comma b (named k) = unfold background_of behind_comma means_values shade_values means_atom in refl
    without-comma b (three h x y z w d) = unfold background_of behind_comma means_values shade_values means_atom in refl
    without-comma b (six h p q x y z w e d) = unfold background_of behind_comma means_values shade_values means_atom in refl

-- ---- lengths
-- the units of the document are the engine's
units-agree : All (λ (w : List ℕ). any_of w units ≡ true) length_units
unfolding any_of same_text text utf8 continuation pick and is
units-agree = (refl, (refl, (refl, (refl, (refl, (refl, (refl, (refl, tt))))))))

-- a dimension with one of them
dimension-height : (t u : List ℕ) (z : Bool) → any_of u units ≡ true → number_zero t ≡ z → height_of (tokens.dimension t u ∷ []) ≡ found z
unfolding height_of pick
dimension-height t u z h e = rw (h, e)

-- a number that is zero
number-height : (t : List ℕ) → number_zero t ≡ true → height_of (tokens.number t ∷ []) ≡ found true
unfolding height_of pick
number-height t e = rw e

-- a length is zero or not, as it means
length-meant : (b : Blanks) (l : Length) → height_of (means_values (length_values b l)) ≡ found (means_length l)
unfolding means_values length_values means_atom means_length
length-meant b (measured m) =
    dimension-height (means_numeral m.numeral) (folded m.unit.name) (is_zero m.numeral)
    (word_holds (λ (w : List ℕ). any_of w units ≡ true) (folded m.unit.name) length_units units-agree m.listed) (numeral-zero m.numeral m.exact)
length-meant b (bare n z) = number-height (means_numeral n) (numeral-zero n (or_left _ _ z) ∙ z)

-- ---- keywords
-- each of `overflow` means to the engine what the document says
overflow-meant : (k : Keyword overflow_words) → overflow_of (ident (folded k.name) ∷ []) ≡ found k.means
overflow-meant k =
    row-holds (λ (w : List ℕ) (a : Overflow). overflow_of (ident w ∷ []) ≡ found a) (folded k.name) k.means overflow_words rows k.listed
  where
    rows : All (λ (e : Entry Overflow). overflow_of (ident e.word ∷ []) ≡ found e.means) overflow_words
    rows = unfold overflow_of first_word lookup on_found same_text text utf8 continuation pick and is in (refl, (refl, (refl, (refl, tt))))

-- each word of the document's table of `display` hides the element or does not, as the table says
display-meant : (k : Keyword display_words) → display_of (ident (folded k.name) ∷ []) ≡ k.means
display-meant k =
    row-holds (λ (w : List ℕ) (a : Bool). display_of (ident w ∷ []) ≡ a) (folded k.name) k.means display_words rows k.listed
  where
    rows : All (λ (e : Entry Bool). display_of (ident e.word ∷ []) ≡ e.means) display_words
    rows =
        unfold display_of first_word lookup on_found same_text text utf8 continuation pick and is in
        (refl, (refl, (refl, (refl, (refl, (refl, (refl, (refl, (refl, (refl, (refl, (refl, (refl, (refl, (refl, tt)))))))))))))))

-- each word of the document's table of `white-space` is read as the value that the table says
white-space-meant : (k : Keyword white_space_words) → white_space_of (ident (folded k.name) ∷ []) ≡ k.means
white-space-meant k =
    row-holds (λ (w : List ℕ) (a : WhiteSpace). white_space_of (ident w ∷ []) ≡ a) (folded k.name) k.means white_space_words rows k.listed
  where
    rows : All (λ (e : Entry WhiteSpace). white_space_of (ident e.word ∷ []) ≡ e.means) white_space_words
    rows = unfold white_space_of first_word lookup on_found same_text text utf8 continuation pick and is in (refl, (refl, (refl, tt)))

-- each word of `visibility` is read as hidden or not, as the table says
visibility-meant : (k : Keyword visibility_words) → visibility_of (ident (folded k.name) ∷ []) ≡ found k.means
visibility-meant k =
    row-holds (λ (w : List ℕ) (a : Bool). visibility_of (ident w ∷ []) ≡ found a) (folded k.name) k.means visibility_words rows k.listed
  where
    rows : All (λ (e : Entry Bool). visibility_of (ident e.word ∷ []) ≡ found e.means) visibility_words
    rows = unfold visibility_of lookup same_text text utf8 continuation pick and is in (refl, (refl, tt))

-- ---- strings
-- a string and what stands behind it
string-content : (t : List ℕ) (ks : List Token) (r : List ℕ) → content_of ks ≡ found r → content_of (tokens.string t ∷ ks) ≡ found (t ++ r)
unfolding content_of on_found
string-content t ks r e = rw e

-- so all are joined
strings-meant : (b : Blanks) (s : Strings) → content_of (means_values (string_values b s)) ≡ found (means_strings s)
unfolding means_values string_values means_atom means_strings
strings-meant b (last q) = string-content q.body [] [] (unfold content_of in refl) ∙ ap found (append-nil q.body)
strings-meant b (more q d s) = string-content q.body _ (means_strings s) (strings-meant d s)

-- ---- properties
-- of the properties that the engine knows the name selects the reader of the value
known-meant : (b : Blanks) (k : Known) → decl_of (known_name k) (means_values (known_values b k)) ≡ means_known k
unfolding known_name known_values means_known decl_of lookup on_found same_text text utf8 continuation pick and is
known-meant b (color v) = rw (colour-meant b v)
known-meant b (background_color v) = rw (colour-meant b v)
known-meant b (background s) = rw (shade-background b s)
known-meant b (height l) = rw (length-meant b l)
known-meant b (max_height l) = rw (length-meant b l)
known-meant b (overflow k) = unfold means_values means_atom in rw (overflow-meant k)
known-meant b (overflow_y k) = unfold means_values means_atom in rw (overflow-meant k)
known-meant b (display k) = unfold means_values means_atom in rw (display-meant k)
known-meant b (white_space k) = unfold means_values means_atom in rw (white-space-meant k)
known-meant b (content s) = rw (strings-meant b s)
known-meant b (visibility k) = unfold means_values means_atom in rw (visibility-meant k)

-- any other is unknown, whatever its value
pub other-meant : (w : List ℕ) (ks : List Token) → any_of w known_names ≡ false → decl_of w ks ≡ syntax.unknown w
unfolding decl_of on_found
other-meant w ks h = rw (unlisted w properties h)

-- a declaration of a property that the engine knows is to it what it means
pub declared-meant : (n : Ident) (b : Blanks) (k : Known) → folded n ≡ known_name k → decl_of (folded n) (means_values (known_values b k)) ≡ means_known k
declared-meant n b k h = ap (λ (w : List ℕ). decl_of w (means_values (known_values b k))) h ∙ known-meant b k

-- ---- the value is one that a declaration may have
-- one token, that is neither a semicolon nor `!`
alone-value : (b : Blanks) (a : Atom) → is_semicolon a ≡ false → is_bang a ≡ false → DeclarationValue (alone b a)
unfolding Some Apart Follows Outermost Unmarked
alone-value b a s m = record { some = tt; apart = (tt, tt); outermost = (s, refl); unmarked = (m, tt) }

-- a name alone is a value that a declaration may have
word_value : (b : Blanks) (n : Ident) → DeclarationValue (alone b (word n))
unfolding is_semicolon is_bang
word_value b n = alone-value b (word n) refl refl

-- a colour in one token
shade-value : (b : Blanks) (s : Shade) → DeclarationValue (shade_values b s)
unfolding shade_values is_semicolon is_bang
shade-value b (named k) = word_value b k.name
shade-value b (three h x y z w d) = alone-value b _ refl refl
shade-value b (six h p q x y z w e d) = alone-value b _ refl refl

-- a number may stand before a comma, with white space or none between them
comma-follows : (n : Numeral) (b : Blanks) → MayFollow (number n) (get_or (b.bytes ++ written_atom comma) 0 0) (get_or (written_atom comma) 0 0) (get_or (written_atom comma) 1 0)
unfolding written_atom
comma-follows n b =
    holds _ (blank-first (λ (x : ℕ). not (may_follow (number n) x (ascii ",") 0)) unblank (ascii "," ∷ []) b.blank ends)
  where
    holds : (t : Bool) → not t ≡ false → t ≡ true
    holds true e = refl
    holds false e = sym e

    ends : not (may_follow (number n) (ascii ",") (ascii ",") 0) ≡ false
    ends = unfold may_follow ends_name begins_name ident_code_point ident_start letter or and within is in refl

    unblank : Unblank (λ (x : ℕ). not (may_follow (number n) x (ascii ",") 0))
    unblank =
        unfold may_follow ends_name begins_name ident_code_point ident_start letter or and within is in
        record { of_space = refl; of-tab = refl; of-line-feed = refl; of-carriage-return = refl; of-form-feed = refl; of-solidus = refl }

-- every colour, in one token or as `rgb()`, is a value that a declaration may have
colour-value : (b : Blanks) (v : ColourValue) → DeclarationValue (colour_values b v)
unfolding colour_values part_values Some Apart Follows Outermost Unmarked is_brace may_follow
colour-value b (shade s) = shade-value b s
colour-value b (parts n h x y z) =
    record {
      some = tt;
      apart = ((comma-follows x.numeral x.behind, (refl, (comma-follows y.numeral y.behind, (refl, (tt, tt))))), tt);
      outermost = (refl, refl);
      unmarked = tt;
    }

-- every length, with a unit or a bare zero, is a value that a declaration may have
length-value : (b : Blanks) (l : Length) → DeclarationValue (length_values b l)
unfolding length_values is_semicolon is_bang
length-value b (measured m) = alone-value b (dimension m.numeral m.unit) refl refl
length-value b (bare n z) = alone-value b (number n) refl refl

-- behind a string anything may stand
string-follows : (q : Quoted) (v : Values) → Follows (string q) v
unfolding Follows may_follow
string-follows q (end b) = tt
string-follows q (then b a v) = refl
string-follows q (block b o w v) = refl

-- so a string before a value is one
string-before : (b : Blanks) (q : Quoted) (v : Values) → DeclarationValue v → DeclarationValue (then b (string q) v)
unfolding Some Apart Outermost Unmarked is_semicolon is_bang
string-before b q v r = record { some = tt; apart = (string-follows q v, r.apart); outermost = (refl, r.outermost); unmarked = (refl, r.unmarked) }

-- strings one behind the other
strings-value : (b : Blanks) (s : Strings) → DeclarationValue (string_values b s)
unfolding string_values is_semicolon is_bang
strings-value b (last q) = alone-value b (string q) refl refl
strings-value b (more q c s) = string-before b q (string_values c s) (strings-value c s)

-- of each property that the engine knows
pub known-value : (b : Blanks) (k : Known) → DeclarationValue (known_values b k)
unfolding known_values
known-value b (color v) = colour-value b v
known-value b (background_color v) = colour-value b v
known-value b (background s) = shade-value b s
known-value b (height l) = length-value b l
known-value b (max_height l) = length-value b l
known-value b (overflow k) = word_value b k.name
known-value b (overflow_y k) = word_value b k.name
known-value b (display k) = word_value b k.name
known-value b (white_space k) = word_value b k.name
known-value b (content s) = strings-value b s
known-value b (visibility k) = word_value b k.name
