-- What is told of an element once, before its selectors are gone over, and what it excludes.
use Rattle.std.specs.Prelude.{ℕ, suc, ◌+◌, ◌*◌, ◌%◌, ◌<◌, Bool, true, false, List, [], ◌∷◌, ◌++◌, ◌≡◌, refl, length, get_or, set, replicate}
use Rattle.characters.specs.Literal.{text}
use Rattle.characters.specs.Utf8.{utf8}
use Rattle.combinators.specs.Choice.{pick}
use Rattle.syntax.specs.RuleLayout.{class_kind, element_kind, hash_kind, nth_kind, attribute_kind, attribute_equal_kind}
use Rattle.page.specs.Path.{Attribute, Element}
use Rattle.matching.specs.Matches.{any_attribute, is_class, is_id, is_named}
use Rattle.compiled.specs.Component.{is_name, named_of}
use Rattle.segments.specs.Segments.{tested}
use Rattle.segments.specs.Sweep.{tests_pass}
use Rattle.hints.specs.declared.hints.Hint.{Hint}

-- ---- the table: a row for each of the first eight kinds of a component (crates/syntax), with a flag for each start of a text
abbrev pub kinds : ℕ
kinds = 8

abbrev pub starts : ℕ
starts = 64

-- texts that begin alike are told apart by their lengths
abbrev pub spread : ℕ
spread = 23

-- the start of a text, by its length and its first byte, 0 where it is empty
unfoldable pub start_of : ℕ → ℕ → ℕ
start_of size byte = (byte + spread * size) % starts

-- the place of its flag
unfoldable pub place_of : ℕ → ℕ → ℕ → ℕ
place_of kind size byte = kind * starts + start_of size byte

-- an element may have a text of a kind that has such a length and first byte; behind the table nothing is told
unfoldable pub may_begin : List Bool → ℕ → ℕ → ℕ → Bool
may_begin may kind size byte = get_or may (place_of kind size byte) true

-- a table in which a text of a kind is marked
unfoldable pub marked : List Bool → ℕ → List ℕ → List Bool
marked may kind x = set may (place_of kind (length x) (get_or x 0 0)) true

-- the table for an element that has no name yet, and any text of an attribute or none: a row of stars, of classes, of names, of ids, of the three kinds of two
-- combinators and nth-child, and of attributes; of those that have not one text nothing is told
unfoldable pub nameless : Bool → List Bool
nameless any =
    replicate starts true ++ (replicate starts any ++ (replicate starts false ++ (replicate starts any ++ (replicate (3 * starts) true ++ replicate starts any))))

-- `<li class="item odd" id="x">`
unfoldable example : List Bool
example = marked (marked (marked (marked (nameless false) element_kind (text "li")) class_kind (text "item")) class_kind (text "odd")) hash_kind (text "x")

-- may have its name, its classes and its id, none of another length or another first byte, and no attribute `key`; of nth-child, and of attributes with values,
-- nothing is told
test-begin : (may_begin example element_kind 2 0x6c ≡ true) × (may_begin example class_kind 4 0x69 ≡ true) × (may_begin example class_kind 3 0x6f ≡ true)
    × (may_begin example hash_kind 1 0x78 ≡ true) × (may_begin example element_kind 1 0x6c ≡ false) × (may_begin example class_kind 3 0x69 ≡ false)
    × (may_begin example hash_kind 1 0x79 ≡ false) × (may_begin example attribute_kind 3 0x6b ≡ false) × (may_begin example nth_kind 1 0 ≡ true)
    × (may_begin example attribute_equal_kind 3 0x6b ≡ true)
unfolding may_begin example marked nameless place_of start_of text utf8 pick
test-begin = (refl, refl, refl, refl, refl, refl, refl, refl, refl, refl)

-- ---- what a hint says
-- an element may have a text of a kind
abbrev pub MayHave : Hint → ℕ → List ℕ → Type 0
MayHave h kind x = may_begin h.may kind (length x) (get_or x 0 0) ≡ true

-- or each that passes
abbrev pub Covers : Hint → ℕ → (List ℕ → Bool) → Type 0
Covers h kind asks = (x : List ℕ) → asks x ≡ true → MayHave h kind x

-- what may be by the one may be by the other
abbrev pub Keeps : Hint → Hint → Type 0
Keeps h r = (kind size byte : ℕ) → may_begin h.may kind size byte ≡ true → may_begin r.may kind size byte ≡ true

-- nothing is told of a kind that has not one text
abbrev pub Open : Hint → Type 0
Open h = (kind size byte : ℕ) → kind < kinds → is_name kind ≡ false → may_begin h.may kind size byte ≡ true

-- attributes may have all words of a `class`, each value of an `id`, and their names
pub record AttributesFit (h : Hint) (attributes : List Attribute) : Type 0 where
  pub classes : Covers h class_kind (λ c. any_attribute (is_class c) attributes)
  pub ids : Covers h hash_kind (λ i. any_attribute (is_id i) attributes)
  pub names : Covers h attribute_kind (λ n. any_attribute (is_named n) attributes)

-- a hint fits an element: it may have its name and what its attributes have
pub record Fits (h : Hint) (e : Element) : Type 0 where
  pub others : Open h
  pub name : MayHave h element_kind e.name
  pub attributes : AttributesFit h e.attributes

-- at an element a kind is of one text, and a component of it fails whatever stands behind the first byte of that text
pub record FailsAt (e : Element) (kind size byte : ℕ) : Type 0 where
  pub named : is_name kind ≡ true
  pub fails : (x : List ℕ) → length x ≡ size → get_or x 0 0 ≡ byte → tested (e ∷ []) (named_of kind x) ≡ false

-- it does at every element that the hint fits
abbrev pub NameFails : Hint → ℕ → ℕ → ℕ → Type 0
NameFails h kind size byte = (e : Element) → Fits h e → FailsAt e kind size byte

-- a test at a place fails there, and so do tests from it on, however many they are
pub record TestFails (code : List ℕ) (at : ℕ) (h : Hint) : Type 0 where
  pub there : at < length code
  pub fails : (e : Element) → Fits h e → (t : ℕ) → tests_pass code (e ∷ []) (suc t) at ≡ false

-- so many tests from a place on fail there
pub record TestsFail (code : List ℕ) (at tests : ℕ) (h : Hint) : Type 0 where
  pub there : at < length code
  pub fails : (e : Element) → Fits h e → tests_pass code (e ∷ []) tests at ≡ false
