-- The words of Selectors Level 3 that the laws of proofs/Documents.antt use: white space (section 4), a whitespace-separated list of words (section
-- 6.3.1), an attribute of an element (section 6.3), a simple selector (section 4). They speak of characters, as numbers of Unicode; a page has its texts
-- in UTF-8. The document's text is not at hand: the numbers of its sections and its list of white space are from memory, and nothing is quoted.
use Rattle.std.specs.Prelude.{ℕ, Bool, true, false, List, [], ◌∷◌, ◌++◌, ◌⊎◌, ◌≡◌, refl}
use Rattle.combinators.specs.All.{All, member}
use Prim.Native.Char.{code as ascii}
use Rattle.combinators.specs.Choice.{pick, or, and, is}
use Rattle.combinators.specs.Word.{same_text}
use Rattle.characters.specs.Literal.{text}
use Rattle.characters.specs.Utf8.{utf8, encode, Scalars}
use Rattle.characters.specs.WhiteSpace.{is_white_space}
use Rattle.syntax.specs.Selector.{Component, star, element, child, descendant}
use Rattle.page.specs.Path.{Attribute}
use Rattle.matching.specs.Matches.{name_is, here, on_parent, step, matches}

-- P holds of some value of a list
abbrev pub Some : {A : Type 0} → (A → Type 0) → List A → Type 0
Some P [] = ⊥
Some P (a ∷ l) = P a ⊎ Some P l

-- ---- white space and words

-- by section 4, from memory: space, tab, line feed, carriage return and form feed
unfoldable pub is_selectors_white_space : ℕ → Bool
is_selectors_white_space v = member v (ascii "\t" ∷ ascii "\n" ∷ ascii "\u{c}" ∷ ascii "\r" ∷ ascii " " ∷ [])

-- a character in front of the first of some pieces
unfoldable pub longer : ℕ → List (List ℕ) → List (List ℕ)
longer v [] = (v ∷ []) ∷ []
longer v (p ∷ ps) = (v ∷ p) ∷ ps

-- the pieces of a text between its white space: one that is empty lies between two characters of white space side by side, and at an end of the text
unfoldable pub pieces : (ℕ → Bool) → List ℕ → List (List ℕ)
pieces white [] = [] ∷ []
pieces white (v ∷ vs) = pick (white v) ([] ∷ pieces white vs) (longer v (pieces white vs))

-- those of the pieces that have a character
unfoldable pub without_empty : List (List ℕ) → List (List ℕ)
without_empty [] = []
without_empty ([] ∷ ps) = without_empty ps
without_empty ((v ∷ p) ∷ ps) = (v ∷ p) ∷ without_empty ps

-- the words of a whitespace-separated list of words
unfoldable pub words : (ℕ → Bool) → List ℕ → List (List ℕ)
words white t = without_empty (pieces white t)

-- two words between white space of all five kinds
test_words : words is_selectors_white_space (ascii " " ∷ ascii "a" ∷ ascii "f" ∷ ascii "\t" ∷ ascii "\n" ∷ ascii "n" ∷ ascii "\u{c}" ∷ ascii "\r" ∷ []) ≡ text "af" ∷ text "n" ∷ []
unfolding words without_empty pieces longer is_selectors_white_space member text utf8 pick or is
test_words = refl

-- U+0085 and U+00A0 are white space of Unicode, and not of the document
abbrev next_line : ℕ
next_line = 0x85

abbrev no_break_space : ℕ
no_break_space = 0xa0

test-other-words : (words is_white_space (ascii "a" ∷ next_line ∷ ascii "n" ∷ []) ≡ (ascii "a" ∷ []) ∷ (ascii "n" ∷ []) ∷ []) × (words is_selectors_white_space (ascii "a" ∷ next_line ∷ ascii "n" ∷ []) ≡ (ascii "a" ∷ next_line ∷ ascii "n" ∷ []) ∷ [])
    × (words is_white_space (no_break_space ∷ []) ≡ []) × (words is_selectors_white_space (no_break_space ∷ []) ≡ (no_break_space ∷ []) ∷ [])
unfolding words without_empty pieces longer is_selectors_white_space is_white_space member pick or is
test-other-words = (refl, refl, refl, refl)

-- ---- the same by where a word stands: white space or an end of the text on both sides

-- what stands before it
pub data EndsInWhite (white : ℕ → Bool) : List ℕ → Type 0 where
  nothing-before : EndsInWhite white []
  white-before : (t : List ℕ) (v : ℕ) → white v ≡ true → EndsInWhite white (t ++ (v ∷ []))

-- what stands behind it
pub data BeginsWithWhite (white : ℕ → Bool) : List ℕ → Type 0 where
  nothing-behind : BeginsWithWhite white []
  white-behind : (v : ℕ) (t : List ℕ) → white v ≡ true → BeginsWithWhite white (v ∷ t)

-- w has no white space, and is parted from the rest of a text
pub record Parted (white : ℕ → Bool) (w t : List ℕ) : Type 0 where
  pub earlier : List ℕ
  pub later : List ℕ
  pub split : t ≡ earlier ++ (w ++ later)
  pub unbroken : All (λ v. white v ≡ false) w
  pub before : EndsInWhite white earlier
  pub behind : BeginsWithWhite white later

-- a text in UTF-8 that is a list of words, one of which is exactly w
pub record WordOf (white : ℕ → Bool) (w t : List ℕ) : Type 0 where
  pub characters : List ℕ
  pub scalars : Scalars characters
  pub in-utf8 : t ≡ encode characters
  pub some : Some (λ x. encode x ≡ w) (words white characters)

-- a text in UTF-8 whose only white space is that of the document
pub record PlainText (t : List ℕ) : Type 0 where
  pub characters : List ℕ
  pub scalars : Scalars characters
  pub in-utf8 : t ≡ encode characters
  pub plain : All (λ v. is_white_space v ≡ is_selectors_white_space v) characters

-- ---- attributes

-- an attribute of that name
abbrev pub Named : List ℕ → Attribute → Type 0
Named n a = a.name ≡ n

-- of several attributes of a name the first, and its value: which of them counts is the crate's choice, since no document lets an element have two
pub record FirstValue (n v : List ℕ) (l : List Attribute) : Type 0 where
  pub earlier : List Attribute
  pub which : Attribute
  pub later : List Attribute
  pub split : l ≡ earlier ++ (which ∷ later)
  pub others : All (λ a. ¬ (Named n a)) earlier
  pub named : Named n which
  pub valued : which.value ≡ v

-- no two of the attributes have a name in common
abbrev pub Distinct : List Attribute → Type 0
Distinct [] = Unit
Distinct (a ∷ l) = All (λ b. ¬ (b.name ≡ a.name)) l × Distinct l

-- ---- simple selectors: no combinators
pub record Simple (c : Component) : Type 0 where
  pub no-child : ¬ (c ≡ child)
  pub no-descendant : ¬ (c ≡ descendant)

-- ---- where this parts from the document

-- `*>p` matches a p at the top of its page: the document is a parent, and star matches it
test-document-parent : matches (element (text "p") ∷ child ∷ star ∷ []) (record { name = text "p"; attributes = []; place = 1 } ∷ []) ≡ true
unfolding matches step here on_parent name_is same_text text utf8 pick and is
test-document-parent = refl
