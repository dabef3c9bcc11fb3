-- The declaration of a property with a value: by the code's answers, its range and its text.
use Prim.Native.Nat.{ℕ}
use mathlib.Core.Path.{◌≡◌, refl, sym, ap, subst, ◌∙◌}
use mathlib.Core.Bool.{Bool}
use mathlib.Core.List.{List, [], ◌∷◌, ◌++◌}
use lib.ListN.{length}
use Rattle.lexer.specs.Token.{Token, string, text_of}
use Rattle.syntax.specs.Declaration.{Decl, color, background_color, height, max_height, overflow, overflow_y, display, white_space, content, visibility, unknown}
use Rattle.syntax.specs.Layout.{colour_number, decl_text}
use Rattle.syntax.specs.Stream.{texts_many}
use Rattle.syntax.proofs.Back.{DeclFits}
use Rattle.values.specs.Words.{Entry, Found, found, missing, lookup, on_found, row_at}
use Rattle.values.specs.Colour.{colour_of, background_of}
use Rattle.values.specs.ColourAnswer.{colour_answer}
use Rattle.values.specs.Property.{height_of, overflow_of, display_of, white_space_of, content_of, visibility_of, properties, decl_of}
use Rattle.values.specs.ValueAnswer.{height_answer, content_answer}
use Rattle.values.specs.KeywordAnswer.{overflow_word, white_space_word, overflow_answer}
use Rattle.values.specs.declared.keywords.Overflow as declared_overflow
use Rattle.values.specs.declared.keywords.WhiteSpace as declared_white_space
use Rattle.values.specs.DeclAnswer.{decl_answer, text_length, place_of, decl_at}
use Rattle.values.specs.declared.properties.Decl as declared
use Rattle.values.specs.declared.properties.Decl.TheVariants as code
use Rattle.values.specs.declared.properties.Property.{Property}
use Rattle.values.specs.declared.properties.Property.TheVariants as property
use Rattle.std.specs.Prelude.{Option, Some, None, MatchOption, IsSomeAnd, unwrap_or}
use Rattle.values.proofs.WordLaws.{found-holds, lookup-holds, mapped, on-found-as, lookup-mapped}
use Rattle.values.proofs.ColourRange.{colour-bytes, background-bytes}

-- ---- `decl_at`: the declaration by the answer for a value
module _ (name : List ℕ) where
  -- the declaration that the code makes of its answer, or the unknown one
  abbrev or_unknown : Option declared.Decl → declared.Decl
  or_unknown r = unwrap_or r (code.Unknown (length name))

  -- what was found makes a declaration; where nothing was, the property is unknown
  made : {A B : Type 0} (f : A → Decl) (n : A → B) (g : B → declared.Decl) → ((a : A) → g (n a) ≡ decl_answer (f a)) → (x : Found A) (a : Option B)
      → a ≡ on_found x (λ y. Some (n y)) None → (r : Option declared.Decl) → MatchOption a (r ≡ None) (λ y. IsSomeAnd r (λ d. d ≡ g y))
      → or_unknown r ≡ decl_answer (on_found x f (unknown name))
  unfolding on_found decl_answer
  made {A} {B} f n g h (found y) a e r m = go r (subst (λ (b : Option B). MatchOption b (r ≡ None) (λ z. IsSomeAnd r (λ d. d ≡ g z))) e m)
    where
      go : (r : Option declared.Decl) → IsSomeAnd r (λ d. d ≡ g (n y)) → or_unknown r ≡ decl_answer (f y)
      go (Some d) k = k ∙ h y
      go None k = absurd k
  made {A} {B} f n g h missing a e r m = ap or_unknown (subst (λ (b : Option B). MatchOption b (r ≡ None) (λ z. IsSomeAnd r (λ d. d ≡ g z))) e m)

  -- a display, by whether it is none
  pub display-made : (ks : List Token) (b : Bool) → b ≡ display_of ks → code.Display b ≡ decl_answer (decl_at (place_of property.Display) name ks)
  unfolding decl_at row_at on_found place_of decl_answer
  display-made ks b e = ap code.Display e

  -- a white space, by its word
  pub white-space-made : (ks : List Token) (n : declared_white_space.WhiteSpace) → n ≡ white_space_word (white_space_of ks) → code.WhiteSpace n ≡ decl_answer (decl_at (place_of property.WhiteSpace) name ks)
  unfolding decl_at row_at on_found place_of decl_answer
  white-space-made ks n e = ap code.WhiteSpace e

  module _ (ks : List Token) (r : Option declared.Decl) where
    -- a colour
    pub background-color-made : (a : Option ℕ) → a ≡ colour_answer (colour_of ks) → MatchOption a (r ≡ None) (λ v. IsSomeAnd r (λ d. d ≡ code.BackgroundColor v))
        → or_unknown r ≡ decl_answer (decl_at (place_of property.BackgroundColor) name ks)
    unfolding decl_at row_at on_found place_of decl_answer colour_answer
    background-color-made a e m = made background_color colour_number code.BackgroundColor (λ c. refl) (colour_of ks) a e r m

    -- a colour behind the last comma
    pub background-made : (a : Option ℕ) → a ≡ colour_answer (background_of ks) → MatchOption a (r ≡ None) (λ v. IsSomeAnd r (λ d. d ≡ code.BackgroundColor v))
        → or_unknown r ≡ decl_answer (decl_at (place_of property.Background) name ks)
    unfolding decl_at row_at on_found place_of decl_answer colour_answer
    background-made a e m = made background_color colour_number code.BackgroundColor (λ c. refl) (background_of ks) a e r m

    -- a colour
    pub color-made : (a : Option ℕ) → a ≡ colour_answer (colour_of ks) → MatchOption a (r ≡ None) (λ v. IsSomeAnd r (λ d. d ≡ code.Color v))
        → or_unknown r ≡ decl_answer (decl_at (place_of property.Color) name ks)
    unfolding decl_at row_at on_found place_of decl_answer colour_answer
    color-made a e m = made color colour_number code.Color (λ c. refl) (colour_of ks) a e r m

    -- a height
    pub height-made : (a : Option Bool) → a ≡ height_answer (height_of ks) → MatchOption a (r ≡ None) (λ v. IsSomeAnd r (λ d. d ≡ code.Height v))
        → or_unknown r ≡ decl_answer (decl_at (place_of property.Height) name ks)
    unfolding decl_at row_at on_found place_of decl_answer height_answer
    height-made a e m = made height (λ z. z) code.Height (λ c. refl) (height_of ks) a e r m

    -- a height
    pub max-height-made : (a : Option Bool) → a ≡ height_answer (height_of ks) → MatchOption a (r ≡ None) (λ v. IsSomeAnd r (λ d. d ≡ code.MaxHeight v))
        → or_unknown r ≡ decl_answer (decl_at (place_of property.MaxHeight) name ks)
    unfolding decl_at row_at on_found place_of decl_answer height_answer
    max-height-made a e m = made max_height (λ z. z) code.MaxHeight (λ c. refl) (height_of ks) a e r m

    -- an overflow
    pub overflow-made : (a : Option declared_overflow.Overflow) → a ≡ overflow_answer (overflow_of ks) → MatchOption a (r ≡ None) (λ v. IsSomeAnd r (λ d. d ≡ code.Overflow v))
        → or_unknown r ≡ decl_answer (decl_at (place_of property.Overflow) name ks)
    unfolding decl_at row_at on_found place_of decl_answer overflow_answer
    overflow-made a e m = made overflow overflow_word code.Overflow (λ c. refl) (overflow_of ks) a e r m

    -- an overflow
    pub overflow-y-made : (a : Option declared_overflow.Overflow) → a ≡ overflow_answer (overflow_of ks) → MatchOption a (r ≡ None) (λ v. IsSomeAnd r (λ d. d ≡ code.OverflowY v))
        → or_unknown r ≡ decl_answer (decl_at (place_of property.OverflowY) name ks)
    unfolding decl_at row_at on_found place_of decl_answer overflow_answer
    overflow-y-made a e m = made overflow_y overflow_word code.OverflowY (λ c. refl) (overflow_of ks) a e r m

    -- a content
    pub content-made : (a : Option ℕ) → a ≡ content_answer (content_of ks) → MatchOption a (r ≡ None) (λ v. IsSomeAnd r (λ d. d ≡ code.Content v))
        → or_unknown r ≡ decl_answer (decl_at (place_of property.Content) name ks)
    unfolding decl_at row_at on_found place_of decl_answer content_answer
    content-made a e m = made content (λ (t : List ℕ). length t) code.Content (λ c. refl) (content_of ks) a e r m

    -- a visibility
    pub visibility-made : (a : Option Bool) → a ≡ on_found (visibility_of ks) Some None → MatchOption a (r ≡ None) (λ v. IsSomeAnd r (λ d. d ≡ code.Visibility v))
        → or_unknown r ≡ decl_answer (decl_at (place_of property.Visibility) name ks)
    unfolding decl_at row_at on_found place_of decl_answer
    visibility-made a e m = made visibility (λ z. z) code.Visibility (λ c. refl) (visibility_of ks) a e r m

-- ---- `decl_of`: the table of properties
-- a row of the code's table reads what the row of the property's place does
abbrev pub reads : Property → List ℕ → List Token → Decl
reads p = decl_at (place_of p)

-- so the declaration of a property is that of the one that the code finds
pub decl-told : (es : List (Entry Property)) → mapped reads es ≡ properties → (name : List ℕ) (ks : List Token) (l : Option Property)
    → l ≡ on_found (lookup name es) Some None → (r : Option declared.Decl)
    → MatchOption l (r ≡ None) (λ p. unwrap_or r (code.Unknown (length name)) ≡ decl_answer (decl_at (place_of p) name ks))
    → unwrap_or r (code.Unknown (length name)) ≡ decl_answer (decl_of name ks)
unfolding decl_of
decl-told es e name ks l el r m =
    go (lookup name es) el
    ∙ ap decl_answer (sym (on-found-as reads (lookup name es) (λ read. read name ks) (unknown name)) ∙ ap (λ f. on_found f (λ read. read name ks) (unknown name)) (sym (lookup-mapped reads name es) ∙ ap (lookup name) e))
  where
    go : (x : Found Property) → l ≡ on_found x Some None
        → unwrap_or r (code.Unknown (length name)) ≡ decl_answer (on_found x (λ p. decl_at (place_of p) name ks) (unknown name))
    go (found p) q = unfold on_found in subst (λ (b : Option Property). MatchOption b (r ≡ None) (λ p. unwrap_or r (code.Unknown (length name)) ≡ decl_answer (decl_at (place_of p) name ks))) q m
    go missing q = unfold on_found decl_answer in ap (λ (o : Option declared.Decl). unwrap_or o (code.Unknown (length name))) (subst (λ (b : Option Property). MatchOption b (r ≡ None) (λ p. unwrap_or r (code.Unknown (length name)) ≡ decl_answer (decl_at (place_of p) name ks))) q m)

-- ---- what holds of every declaration

-- what holds of the declaration of every row, and of the unknown one
module _ (P : Decl → Type 0) (name : List ℕ) (ks : List Token) where
  -- what holds of the declaration of each property in the table, and of the unknown one, holds of every declaration
  decl-holds : P (on_found (colour_of ks) background_color (unknown name)) → P (on_found (background_of ks) background_color (unknown name))
      → P (on_found (colour_of ks) color (unknown name)) → P (on_found (height_of ks) height (unknown name))
      → P (on_found (height_of ks) max_height (unknown name)) → P (on_found (overflow_of ks) overflow (unknown name))
      → P (on_found (overflow_of ks) overflow_y (unknown name)) → P (display (display_of ks)) → P (white_space (white_space_of ks))
      → P (on_found (content_of ks) content (unknown name)) → P (on_found (visibility_of ks) visibility (unknown name)) → P (unknown name) → P (decl_of name ks)
  unfolding decl_of on_found
  decl-holds a b c d e f g h i j k u =
      lookup-holds (λ x. P (on_found x (λ read. read name ks) (unknown name))) name properties (a, (b, (c, (d, (e, (f, (g, (h, (i, (j, (k, tt))))))))))) u

-- every declaration fits its row: colours are of bytes
pub decl-fits : (name : List ℕ) (ks : List Token) → DeclFits (decl_of name ks)
unfolding DeclFits
decl-fits name ks =
    decl-holds DeclFits name ks
    (found-holds DeclFits (colour_of ks) background_color (unknown name) (colour-bytes ks) tt)
    (found-holds DeclFits (background_of ks) background_color (unknown name) (background-bytes ks) tt)
    (found-holds DeclFits (colour_of ks) color (unknown name) (colour-bytes ks) tt)
    (found-holds DeclFits (height_of ks) height (unknown name) (λ z e. tt) tt)
    (found-holds DeclFits (height_of ks) max_height (unknown name) (λ z e. tt) tt)
    (found-holds DeclFits (overflow_of ks) overflow (unknown name) (λ o e. tt) tt)
    (found-holds DeclFits (overflow_of ks) overflow_y (unknown name) (λ o e. tt) tt)
    tt
    tt
    (found-holds DeclFits (content_of ks) content (unknown name) (λ t e. tt) tt)
    (found-holds DeclFits (visibility_of ks) visibility (unknown name) (λ z e. tt) tt)
    tt

-- ---- texts

-- a content is the texts of all tokens of a value
content-holds : (P : Found (List ℕ) → Type 0) (ks : List Token) → P missing → P (found (texts_many text_of ks)) → P (content_of ks)
unfolding content_of texts_many text_of on_found
content-holds P [] m h = h
content-holds P (string b ∷ ks) m h = content-holds (λ f. P (on_found f (λ c. found (b ++ c)) missing)) ks m h
content-holds P (_ ∷ ks) m h = m

-- a declaration without a text
pub record Textless (d : Decl) : Type 0 where
  pub none : decl_text d ≡ []

-- what holds of declarations without a text, of the unknown one and of the value's content
module _ (P : Decl → Type 0) (name : List ℕ) (ks : List Token) (h : (d : Decl) → Textless d → P d) (u : P (unknown name)) (m : P (content (texts_many text_of ks))) where
  -- what holds of all declarations without a text holds of such a one
  bare : (d : Decl) → decl_text d ≡ [] → P d
  bare d n = h d (record { none = n })

  -- what holds of what is found, and of the unknown declaration, holds of the choice
  maybe : {A : Type 0} (x : Found A) (f : A → Decl) → ((a : A) → P (f a)) → P (on_found x f (unknown name))
  maybe x f k = found-holds P x f (unknown name) (λ a e. k a) u

  -- holds of the declaration of a property with a value
  pub decl-text : P (decl_of name ks)
  unfolding decl_text on_found
  decl-text =
      decl-holds P name ks
      (maybe (colour_of ks) background_color (λ c. bare (background_color c) refl))
      (maybe (background_of ks) background_color (λ c. bare (background_color c) refl))
      (maybe (colour_of ks) color (λ c. bare (color c) refl))
      (maybe (height_of ks) height (λ z. bare (height z) refl))
      (maybe (height_of ks) max_height (λ z. bare (max_height z) refl))
      (maybe (overflow_of ks) overflow (λ o. bare (overflow o) refl))
      (maybe (overflow_of ks) overflow_y (λ o. bare (overflow_y o) refl))
      (bare (display (display_of ks)) refl)
      (bare (white_space (white_space_of ks)) refl)
      (content-holds (λ f. P (on_found f content (unknown name))) ks u m)
      (maybe (visibility_of ks) visibility (λ z. bare (visibility z) refl))
      u

-- the answer has the text's length
pub decl-length : (d : Decl) → text_length (decl_answer d) ≡ length (decl_text d)
unfolding decl_answer text_length decl_text
decl-length (color c) = refl
decl-length (background_color c) = refl
decl-length (height z) = refl
decl-length (max_height z) = refl
decl-length (overflow o) = refl
decl-length (overflow_y o) = refl
decl-length (display n) = refl
decl-length (white_space w) = refl
decl-length (content t) = refl
decl-length (visibility h) = refl
decl-length (unknown t) = refl
