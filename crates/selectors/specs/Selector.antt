-- Selectors: `parse_class` to `parse_selector` of src/css/parser.rs, in the crate's order.
use Rattle.std.specs.Prelude.{ℕ, zero, suc, ◌+◌, Bool, List, [], ◌∷◌, reverse, leb, ℤ, pos, negsuc, length, get_or, take, drop}
use Prim.Native.Char.{code as ascii}
use Rattle.combinators.specs.Choice.{pick, or, and, is}
use Rattle.combinators.specs.Parsed.{Parsed, ok, err, on_parsed}
use Rattle.combinators.specs.Word.{starts_with, same_text}
use Rattle.characters.specs.Literal.{text}
use Rattle.lexer.specs.Name.{ident_of, identstring_of, hex_digit}
use Rattle.lexer.specs.Number.{sign, digits}
use Rattle.lexer.specs.Token.{Token, string, string_of}
use Rattle.lexer.specs.Whitespace.{skip_whitespace}
use Rattle.syntax.specs.Selector.{Component, star, class, element, hash, child, descendant, nth, attribute, attribute_equal, PseudoElement, none, before, after, Selector}
use Rattle.values.specs.Colour.{numeral}
use Rattle.selectors.specs.Outcome.{Outcome, reads, fails, panics, on_outcome, behind, parsed, or_else}

-- ---- components

-- `parse_class`, `parse_hash`
unfoldable pub class_of : List ℕ → Outcome Component
class_of t = pick (is (get_or t 0 0) (ascii ".")) (parsed 1 (ident_of (drop 1 t)) class) fails

unfoldable pub hash_of : List ℕ → Outcome Component
hash_of t = pick (is (get_or t 0 0) (ascii "#")) (parsed 1 (identstring_of (drop 1 t)) hash) fails

-- `parse_attr`. Behind `=`, at j: a quoted string and `]`, or else a name and `]`. "`[name=` at the end of the text now reads .. as any unreadable
-- attribute selector does" (S-6), where the crate's reader of strings panics.
unfoldable pub closed : List ℕ → ℕ → Component → Outcome Component
closed t j c = pick (is (get_or t j 0) (ascii "]")) (reads (j + 1) c) fails

-- `parse_quoted_string`: a string that is not a bad one
unfoldable pub quoted_from : ℕ → Token → Parsed (List ℕ)
quoted_from n (string b) = ok n b
quoted_from n _ = err

unfoldable pub quoted_of : List ℕ → Parsed (List ℕ)
quoted_of t = on_parsed (string_of t) quoted_from err

unfoldable pub value_of : List ℕ → ℕ → List ℕ → Outcome Component
value_of t j name =
    or_else (on_parsed (quoted_of (drop j t)) (λ n v. closed t (j + n) (attribute_equal name v)) fails)
    (on_parsed (ident_of (drop j t)) (λ n v. closed t (j + n) (attribute_equal name v)) fails)

unfoldable pub attr_of : List ℕ → Outcome Component
attr_of t =
    pick (is (get_or t 0 0) (ascii "["))
    (on_parsed (ident_of (drop 1 t))
    (λ n name. or_else (closed t (1 + n) (attribute name)) (pick (is (get_or t (1 + n) 0) (ascii "=")) (value_of t (2 + n) name) fails)) fails)
    fails

-- ---- `parse_nth_child_args`
unfoldable pub is_minus : List ℕ → ℕ → Bool
is_minus t i = is (get_or t i 0) (ascii "-")

unfoldable pub is_sign : List ℕ → ℕ → Bool
is_sign t i = or (is_minus t i) (is (get_or t i 0) (ascii "+"))

-- a number with its sign
unfoldable pub signed : Bool → ℕ → ℤ
signed minus zero = pos 0
signed minus (suc n) = pick minus (negsuc n) (pos (suc n))

-- the greatest number of `i32`: "nth digits 2147483647 accepted, 2147483648 refused 4"
abbrev pub greatest : ℕ
greatest = 2147483647

-- the number that n digits from i on write, or 1 where there are none, is converted where it fits `i32`; the crate panics where "nth-child digits that the
-- crate's reader converts exceed 2147483647", and "Refusal 4 remains" for these alone (S-6), at the first digit. Their sign does not count: -2147483648 is refused.
unfoldable pub converted : {A : Type 0} → List ℕ → ℕ → ℕ → Bool → (ℤ → Outcome A) → Outcome A
converted t i n minus f =
    let v = pick (is n 0) 1 (numeral 10 hex_digit 0 (take n (drop i t))) in
    pick (leb v greatest) (f (signed minus v)) (panics i)

-- a sign or none, digits or none, `n`, white space or none, a sign, digits
unfoldable pub both_of : List ℕ → Outcome Component
both_of t =
    let i = sign t in
    let n = digits (drop i t) in
    let j = i + n + 1 in
    let p = j + skip_whitespace (drop j t) in
    let m = digits (drop (p + 1) t) in
    pick (and (is (get_or t (i + n) 0) (ascii "n")) (and (is_sign t p) (leb 1 m)))
    (converted t i n (is_minus t 0) (λ a. converted t (p + 1) m (is_minus t p) (λ b. reads (p + 1 + m) (nth a b))))
    fails

-- the same up to the `n`
unfoldable pub just_a : List ℕ → Outcome Component
just_a t =
    let i = sign t in
    let n = digits (drop i t) in
    pick (is (get_or t (i + n) 0) (ascii "n")) (converted t i n (is_minus t 0) (λ a. reads (i + n + 1) (nth a (pos 0)))) fails

-- a sign or none, digits
unfoldable pub just_b : List ℕ → Outcome Component
just_b t =
    let i = sign t in
    let n = digits (drop i t) in
    pick (leb 1 n) (converted t i n (is_minus t 0) (λ b. reads (i + n) (nth (pos 0) b))) fails

unfoldable pub worded : List ℕ → List ℕ → ℤ → ℤ → Outcome Component
worded t word a b = pick (starts_with word t) (reads (length word) (nth a b)) fails

-- the first that reads, and no other is tried behind it: "(evenn+1)" does not read
unfoldable pub nth_of : List ℕ → Outcome Component
nth_of t = or_else (worded t (text "even") (pos 2) (pos 0)) (or_else (worded t (text "odd") (pos 2) (pos 1)) (or_else (both_of t) (or_else (just_a t) (just_b t))))

-- in brackets, with white space or none before and behind. Numbers are converted, a before b, as soon as their alternative reads and before the bracket is looked for.
unfoldable pub nth_args_of : List ℕ → Outcome Component
nth_args_of t =
    let w = 1 + skip_whitespace (drop 1 t) in
    pick (is (get_or t 0 0) (ascii "("))
    (on_outcome (nth_of (drop w t))
    (λ n x. let e = w + n + skip_whitespace (drop (w + n) t) in
    pick (is (get_or t e 0) (ascii ")")) (reads (e + 1) x) fails) fails (λ p. panics (w + p)))
    fails

-- `parse_pseudo_class`: `nth-child` alone
unfoldable pub pseudo_class_of : List ℕ → Outcome Component
pseudo_class_of t =
    pick (is (get_or t 0 0) (ascii ":"))
    (on_parsed (ident_of (drop 1 t)) (λ n name. pick (same_text name (text "nth-child")) (behind (1 + n) (nth_args_of (drop (1 + n) t)) (λ c. c)) fails) fails)
    fails

-- `>` and `*`, with white space or none on both sides
unfoldable pub marked : List ℕ → ℕ → Component → Outcome Component
marked t mark c =
    let w = skip_whitespace t in
    pick (is (get_or t w 0) mark) (reads (w + 1 + skip_whitespace (drop (w + 1) t)) c) fails

-- `parse_ws`
unfoldable pub blank_of : List ℕ → Outcome Component
blank_of t = pick (leb 1 (skip_whitespace t)) (reads (skip_whitespace t) descendant) fails

-- `parse_simple_selector_component`
unfoldable pub component_of : List ℕ → Outcome Component
component_of t =
    or_else (marked t (ascii ">") child)
    (or_else (marked t (ascii "*") star)
    (or_else (blank_of t)
    (or_else (class_of t)
    (or_else (attr_of t)
    (or_else (hash_of t)
    (or_else (parsed 0 (ident_of t) element)
    (pseudo_class_of t)))))))

-- ---- selectors

-- components as long as they read, in reading order; the first number is no less than the bytes left
unfoldable pub components_of : ℕ → List ℕ → Outcome (List Component)
components_of zero t = reads 0 []
components_of (suc l) t =
    on_outcome (component_of t) (λ n c. behind n (components_of l (drop n t)) (λ cs. c ∷ cs)) (reads 0 []) (λ p. panics p)

unfoldable pub components_from : List ℕ → Outcome (List Component)
components_from t = components_of (length t) t

-- one component or more
unfoldable pub some_of : Outcome (List Component) → Outcome (List Component)
some_of o = on_outcome o (λ n cs. pick (is (length cs) 0) fails (reads n cs)) fails (λ p. panics p)

-- `parse_selector_with_element`, or else `parse_selector_without_element`
unfoldable pub with_element_of : List ℕ → Outcome (List Component)
with_element_of t = on_parsed (ident_of t) (λ n name. behind n (components_from (drop n t)) (λ cs. element name ∷ cs)) fails

unfoldable pub without_element_of : List ℕ → Outcome (List Component)
without_element_of t = some_of (components_from t)

unfoldable pub body_of : List ℕ → Outcome (List Component)
body_of t = or_else (with_element_of t) (without_element_of t)

-- without a blank at the start
unfoldable pub without_blank : List Component → List Component
without_blank (descendant ∷ cs) = cs
without_blank cs = cs

-- `parse_pseudo_element`
unfoldable pub pseudo_of : List ℕ → PseudoElement
pseudo_of t = pick (starts_with (text "::before") t) before (pick (starts_with (text "::after") t) after none)

unfoldable pub pseudo_taken : PseudoElement → ℕ
pseudo_taken none = 0
pseudo_taken before = length (text "::before")
pseudo_taken after = length (text "::after")

-- `parse_selector`: rightmost component first, a blank at either end dropped
unfoldable pub selector_of : List ℕ → Outcome Selector
selector_of t =
    on_outcome (body_of t)
    (λ n cs. let p = pseudo_of (drop n t) in
    reads (n + pseudo_taken p) (record { components = without_blank (reverse (without_blank cs)); pseudo = p })) fails (λ p. panics p)
