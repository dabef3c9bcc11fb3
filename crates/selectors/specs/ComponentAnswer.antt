-- Components of selectors as the code answers them, with the lengths of their texts, which lie in the store; and the columns of their rows.
use Rattle.std.specs.Prelude.{ℕ, ◌+◌, Option, Some, None, Result, Ok, Err, List, [], ◌∷◌, ◌≡◌, refl, pos, negsuc, length, get_or, drop}
use Rattle.std.proofs.lemmas.List.Edits.{sets}
use Prim.Native.Char.{code as ascii}
use Rattle.combinators.specs.Choice.{pick, is}
use Rattle.combinators.specs.declared.columns.Columns.{Columns}
use Rattle.combinators.specs.declared.taken.Taken.{Taken}
use Rattle.combinators.specs.Parsed as parsed
use Rattle.combinators.specs.Parsed.{Parsed, ok, err, on_parsed}
use Rattle.combinators.specs.Store.{wiped}
use Rattle.combinators.specs.Word.{same_text}
use Rattle.characters.specs.Literal.{text}
use Rattle.characters.specs.Utf8.{utf8}
use Rattle.lexer.specs.Name.{ident_of}
use Rattle.lexer.specs.Whitespace.{skip_whitespace}
use Rattle.lexer.specs.declared.Written.{Written}
use Rattle.syntax.specs.Selector as syntax
use Rattle.syntax.specs.Selector.{child, star}
use Rattle.syntax.specs.RuleLayout.{star_kind, class_kind, element_kind, hash_kind, child_kind, descendant_kind, nth_kind, attribute_kind, attribute_equal_kind, component_text}
use Rattle.syntax.specs.Signed.{signed_number}
use Rattle.selectors.specs.Outcome as outcome
use Rattle.selectors.specs.Outcome.{Outcome, reads, panics, on_outcome, or_else}
use Rattle.selectors.specs.Selector.{quoted_of, marked, blank_of, class_of, attr_of, hash_of, pseudo_class_of}
use Rattle.selectors.specs.Reading.{written}
use Rattle.selectors.specs.declared.components.Component.{Component}
use Rattle.selectors.specs.declared.components.Component.TheVariants as code
use Rattle.selectors.specs.declared.readings.Panic.{Panic}

-- a component with the lengths of its texts, or the numbers of `nth-child` in the form of the compiled sheet
unfoldable pub component_coded : syntax.Component → Component
component_coded star = code.Star
component_coded (syntax.class t) = code.Class (length t)
component_coded (syntax.element t) = code.Element (length t)
component_coded (syntax.hash t) = code.Hash (length t)
component_coded child = code.Child
component_coded syntax.descendant = code.Descendant
component_coded (syntax.nth a b) = code.Nth (signed_number a) (signed_number b)
component_coded (syntax.attribute n) = code.Attribute (length n)
component_coded (syntax.attribute_equal n v) = code.AttributeEqual (length n) (length v)

-- its kind and its two numbers
unfoldable pub columns_of : Component → Columns
columns_of code.Star = record { kind = star_kind; first = 0; second = 0 }
columns_of (code.Class n) = record { kind = class_kind; first = n; second = 0 }
columns_of (code.Element n) = record { kind = element_kind; first = n; second = 0 }
columns_of (code.Hash n) = record { kind = hash_kind; first = n; second = 0 }
columns_of code.Child = record { kind = child_kind; first = 0; second = 0 }
columns_of code.Descendant = record { kind = descendant_kind; first = 0; second = 0 }
columns_of (code.Nth a b) = record { kind = nth_kind; first = a; second = b }
columns_of (code.Attribute n) = record { kind = attribute_kind; first = n; second = 0 }
columns_of (code.AttributeEqual n m) = record { kind = attribute_equal_kind; first = n; second = m }

-- its row, where its texts start at f
abbrev pub row_of : ℕ → Component → List ℕ
row_of f d = (columns_of d).kind ∷ f ∷ (columns_of d).first ∷ (columns_of d).second ∷ []

unfoldable pub component_answer : Outcome syntax.Component → Result (Option (Taken Component)) Panic
component_answer o =
    on_outcome o (λ n c. Ok (Some (record { taken = n; value = component_coded c }))) (Ok None) (λ p. Err (record { place = p }))

-- `.ab` and `[a="b"]`
case : (component_answer (reads 3 (syntax.class (text "ab"))) ≡ Ok (Some (record { taken = 3; value = code.Class 2 })))
    × (component_answer (reads 7 (syntax.attribute_equal (text "a") (text "b"))) ≡ Ok (Some (record { taken = 7; value = code.AttributeEqual 1 1 })))
    × (written component_text (reads 7 (syntax.attribute_equal (text "a") (text "b"))) ≡ text "ab")
unfolding component_answer component_coded written on_outcome component_text text utf8 pick
case = (refl, refl, refl)

-- "-2n+3", and a panic at the second byte
case-nth : (component_answer (reads 5 (syntax.nth (negsuc 1) (pos 3))) ≡ Ok (Some (record { taken = 5; value = code.Nth 3 6 })))
    × (component_answer (panics 1) ≡ Err (record { place = 1 }))
unfolding component_answer component_coded on_outcome signed_number
case-nth = (refl, refl)

-- ---- the parts of `parse_simple_selector_component`

-- those without a text
unfoldable pub mark_of : List ℕ → Outcome syntax.Component
mark_of t = or_else (marked t (ascii ">") child) (or_else (marked t (ascii "*") star) (blank_of t))

-- those with one
unfoldable pub named_of : List ℕ → Outcome syntax.Component
named_of t = or_else (class_of t) (or_else (attr_of t) (or_else (hash_of t) (or_else (outcome.parsed 0 (ident_of t) syntax.element) (pseudo_class_of t))))

-- the bytes of `>` or `*` with the white space on both sides, if it is there
unfoldable pub mark_taken : List ℕ → ℕ → Option ℕ
mark_taken t mark =
    let w = skip_whitespace t in
    pick (is (get_or t w 0) mark) (Some (w + 1 + skip_whitespace (drop (w + 1) t))) None

-- the bytes of the name `nth-child`, behind white space and comments, if that is the name there
unfoldable pub nth_child_name : List ℕ → Option ℕ
nth_child_name t = on_parsed (ident_of t) (λ n name. pick (same_text name (text "nth-child")) (Some n) None) None

-- ---- the parts of `parse_attr`

-- what p reads, with `]` behind it
unfoldable pub closed_by : List ℕ → Parsed (List ℕ) → Parsed (List ℕ)
closed_by t p = on_parsed p (λ n v. pick (is (get_or t n 0) (ascii "]")) (ok (n + 1) v) err) err

case-closed : (closed_by (text "b]") (ok 1 (text "b")) ≡ ok 2 (text "b")) × (closed_by (text "b ]") (ok 1 (text "b")) ≡ err)
unfolding closed_by on_parsed pick is text utf8
case-closed = (refl, refl)

-- as the code answers, where n bytes stand for a text of so many bytes, which lies in the store; it is wiped where there is no `]`
unfoldable pub closed_answer : List ℕ → ℕ → ℕ → Option Written
closed_answer t n size = pick (is (get_or t n 0) (ascii "]")) (Some (record { taken = (n + 1); length = size })) None

unfoldable pub closed_store : List ℕ → ℕ → ℕ → ℕ → List ℕ → List ℕ
closed_store t n size fill store = pick (is (get_or t n 0) (ascii "]")) store (wiped fill size store)

-- a value up to its `]`: a quoted string, or else a name
unfoldable pub attr_value_of : List ℕ → Parsed (List ℕ)
attr_value_of t = parsed.or_else (closed_by t (quoted_of t)) (closed_by t (ident_of t))

-- the answer where a name of so many bytes has a value or none behind its `=`, which stands at a place
unfoldable pub equal_answer : Parsed (List ℕ) → ℕ → ℕ → Option (Taken Component)
equal_answer p at name = on_parsed p (λ n v. Some (record { taken = at + 1 + n; value = code.AttributeEqual name (length v) })) None

-- the store: the value stands behind the name, or the name is wiped
unfoldable pub equal_store : Parsed (List ℕ) → ℕ → ℕ → List ℕ → List ℕ
equal_store p name fill store = on_parsed p (λ n v. sets store (fill + name) v) (wiped fill name store)
