-- Which selectors match: `do_matches` of src/css.rs, on the path of an element. The document is the empty path: star matches it, nothing else
-- that is simple does, and it has no parent.
use Rattle.std.specs.Prelude.{ℕ, Bool, true, false, List, [], ◌∷◌, ◌≡◌, refl, pos, negsuc}
use Rattle.combinators.specs.Choice.{pick, or, and, is, within}
use Rattle.combinators.specs.Repeat.{many, took}
use Rattle.combinators.specs.Word.{same_text}
use Rattle.combinators.specs.All.{member}
use Rattle.characters.specs.Literal.{text}
use Rattle.characters.specs.Trim.{white_of, white_taken, word_of, word_taken, trimmed_start}
use Rattle.characters.specs.Utf8.{utf8, continuation, is_continuation, lead_of, two, three, scalar_tail, scalar_by, scalar_of}
use Rattle.characters.specs.WhiteSpace.{is_white_space}
use Rattle.syntax.specs.Selector.{Component, star, class, element, hash, child, descendant, nth, attribute, attribute_equal}
use Rattle.page.specs.Path.{Attribute, Element, Path}
use Rattle.matching.specs.Nth.{is_zero, nth_matches}
use Rattle.matching.specs.Texts.{word_length, word_among, has_word}

-- ---- an element by itself

-- some attribute passes
unfoldable pub any_attribute : (Attribute → Bool) → List Attribute → Bool
any_attribute f [] = false
any_attribute f (a ∷ others) = or (f a) (any_attribute f others)

unfoldable pub is_named : List ℕ → Attribute → Bool
is_named n a = same_text a.name n

-- a word of any `class`
unfoldable pub is_class : List ℕ → Attribute → Bool
is_class c a = and (is_named (text "class") a) (has_word c a.value)

unfoldable pub has_class : List ℕ → Element → Bool
has_class c e = any_attribute (is_class c) e.attributes

-- any `id`
unfoldable pub is_id : List ℕ → Attribute → Bool
is_id h a = and (is_named (text "id") a) (same_text a.value h)

unfoldable pub has_id : List ℕ → Element → Bool
has_id h e = any_attribute (is_id h) e.attributes

unfoldable pub has_attribute : List ℕ → Element → Bool
has_attribute n e = any_attribute (is_named n) e.attributes

-- the first attribute of that name decides
unfoldable pub first_is : List ℕ → List ℕ → List Attribute → Bool
first_is n v [] = false
first_is n v (a ∷ others) = pick (is_named n a) (same_text a.value v) (first_is n v others)

unfoldable pub attribute_is : List ℕ → List ℕ → Element → Bool
attribute_is n v e = first_is n v e.attributes

unfoldable pub name_is : List ℕ → Element → Bool
name_is n e = same_text e.name n

-- ---- where it stands

-- the element that a path begins with passes; the document does not
unfoldable pub here : (Element → Bool) → Path → Bool
here f [] = false
here f (e ∷ up) = f e

-- the parent passes
unfoldable pub on_parent : (Path → Bool) → Path → Bool
on_parent f [] = false
on_parent f (e ∷ up) = f up

-- "a descendant step tries the parent and then the parent's own ancestors"
unfoldable pub on_ancestors : (Path → Bool) → Path → Bool
on_ancestors f [] = false
on_ancestors f (e ∷ up) = or (f up) (on_ancestors f up)

-- ---- a selector's components, rightmost first

-- one component, where `rest` asks what is left; "Letting star refuse the document as a parent" would be wrong
unfoldable pub step : Component → (Path → Bool) → Path → Bool
step (class c) rest p = and (here (has_class c) p) (rest p)
step (attribute n) rest p = and (here (has_attribute n) p) (rest p)
step (attribute_equal n v) rest p = and (here (attribute_is n v) p) (rest p)
step (hash h) rest p = and (here (has_id h) p) (rest p)
step (element n) rest p = and (here (name_is n) p) (rest p)
step star rest p = rest p
step child rest p = on_parent rest p
step descendant rest p = on_ancestors rest p
step (nth a b) rest p = and (here (λ e. nth_matches a b e.place) p) (rest p)

unfoldable pub matches : List Component → Path → Bool
matches [] p = true
matches (c ∷ cs) p = step c (matches cs) p

-- ---- cases

-- an element without attributes, the first child of its parent, and one with one attribute
unfoldable pub named : List ℕ → Element
named n = record { name = n; attributes = []; place = 1 }

unfoldable having : List ℕ → List ℕ → Element
having n v = record { name = text "p"; attributes = record { name = n; value = v } ∷ []; place = 1 }

-- `div *`, whose blank the star swallows, matches a div; `>p` matches a p in the document, and `div p` only within a div
test-structure : (matches (star ∷ element (text "div") ∷ []) (named (text "div") ∷ []) ≡ true)
    × (matches (element (text "p") ∷ child ∷ []) (named (text "p") ∷ []) ≡ true) × (matches (star ∷ child ∷ []) [] ≡ false)
    × (matches (element (text "p") ∷ descendant ∷ star ∷ []) (named (text "p") ∷ []) ≡ true)
    × (matches (element (text "p") ∷ descendant ∷ element (text "div") ∷ []) (named (text "p") ∷ named (text "b") ∷ named (text "div") ∷ []) ≡ true)
    × (matches (element (text "p") ∷ child ∷ element (text "div") ∷ []) (named (text "p") ∷ named (text "b") ∷ named (text "div") ∷ []) ≡ false)
unfolding matches step here on_parent on_ancestors name_is same_text named text utf8 pick or and is
test-structure = (refl, refl, refl, refl, refl, refl)

-- "Matching class `Foo` by `.Foo`: the selector is folded, the page is not" would be wrong; classes are parted by U+0085 and U+3000, not by U+200B
test-class : (matches (class (text "foo") ∷ []) (having (text "class") (text "Foo") ∷ []) ≡ false)
    × (matches (class (text "b") ∷ []) (having (text "class") (text "a\u{85}b") ∷ []) ≡ true)
    × (matches (class (text "a") ∷ []) (having (text "class") (text "a\u{3000}b") ∷ []) ≡ true)
    × (matches (class (text "b") ∷ []) (having (text "class") (text "a\u{200b}b") ∷ []) ≡ false) × (matches (class (text "b") ∷ []) [] ≡ false)
unfolding matches step here has_class is_class is_named any_attribute having has_word word_among trimmed_start word_length same_text many took word_taken word_of white_taken white_of text utf8 continuation is_continuation lead_of two three scalar_tail scalar_by scalar_of is_white_space member pick or and is within
test-class = (refl, refl, refl, refl, refl)

-- of two attributes of a name the first decides, of two ids either does; nth-child fails on the document
unfoldable twice : List ℕ → Element
twice n =
    record { name = text "p"; attributes = record { name = n; value = text "a" } ∷ record { name = n; value = text "b" } ∷ []; place = 4 }

test-attributes : (matches (attribute_equal (text "k") (text "a") ∷ []) (twice (text "k") ∷ []) ≡ true)
    × (matches (attribute_equal (text "k") (text "b") ∷ []) (twice (text "k") ∷ []) ≡ false) × (matches (attribute (text "k") ∷ []) (twice (text "k") ∷ []) ≡ true)
    × (matches (hash (text "b") ∷ []) (twice (text "id") ∷ []) ≡ true) × (matches (nth (negsuc 0) (pos 3) ∷ []) (twice (text "k") ∷ []) ≡ false)
    × (matches (nth (pos 0) (pos 4) ∷ []) (twice (text "k") ∷ []) ≡ true) × (matches (nth (pos 1) (pos 0) ∷ []) [] ≡ false)
unfolding matches step here has_id is_id is_named has_attribute attribute_is first_is any_attribute twice nth_matches is_zero same_text text utf8 pick or and is
test-attributes = (refl, refl, refl, refl, refl, refl, refl)
