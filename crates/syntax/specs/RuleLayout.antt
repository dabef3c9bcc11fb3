-- How rules lie in lent numbers and the text store: a rule is its first byte and two counts, its selectors and its declarations; a selector is a
-- count and its pseudo element, and its components. Components and texts lie in reading order; a selector lists them rightmost first.
use Rattle.std.specs.Prelude.{ℕ, ◌+◌, ◌≡◌, refl, true, List, [], ◌∷◌, ◌++◌, reverse, length, get_or, drop}
use Rattle.combinators.specs.Choice.{pick, is}
use Rattle.combinators.specs.Part.{part}
use Rattle.syntax.specs.Declaration.{unknown}
use Rattle.syntax.specs.Layout.{flag, decl_text, declaration_text, decl_row, declaration_row, declaration_rows, declaration_texts, read_declaration, unknown_kind}
use Rattle.syntax.specs.Selector.{Component, star, class, element, hash, child, descendant, nth, attribute, attribute_equal, PseudoElement, none, before, after, Selector, RuleSet}
use Rattle.syntax.specs.Signed.{signed_number, signed_of}
use Rattle.syntax.specs.Stream.{Read, read_many, texts_many, rows_many}

-- ---- components: kind, where its texts start, two numbers. The kinds are those of the compiled sheet.
abbrev pub star_kind : ℕ
star_kind = 0

abbrev pub class_kind : ℕ
class_kind = 1

abbrev pub element_kind : ℕ
element_kind = 2

abbrev pub hash_kind : ℕ
hash_kind = 3

abbrev pub child_kind : ℕ
child_kind = 4

abbrev pub descendant_kind : ℕ
descendant_kind = 5

abbrev pub nth_kind : ℕ
nth_kind = 6

abbrev pub attribute_kind : ℕ
attribute_kind = 7

abbrev pub attribute_equal_kind : ℕ
attribute_equal_kind = 8

abbrev pub component_width : ℕ
component_width = 4

abbrev pub component_kind_at : ℕ
component_kind_at = 0

abbrev pub component_text_at : ℕ
component_text_at = 1

abbrev pub component_first_at : ℕ
component_first_at = 2

abbrev pub component_second_at : ℕ
component_second_at = 3

unfoldable pub component_kind : Component → ℕ
component_kind star = star_kind
component_kind (class t) = class_kind
component_kind (element t) = element_kind
component_kind (hash t) = hash_kind
component_kind child = child_kind
component_kind descendant = descendant_kind
component_kind (nth a b) = nth_kind
component_kind (attribute n) = attribute_kind
component_kind (attribute_equal n v) = attribute_equal_kind

-- the length of its first text, or a
unfoldable pub component_first : Component → ℕ
component_first (class t) = length t
component_first (element t) = length t
component_first (hash t) = length t
component_first (nth a b) = signed_number a
component_first (attribute n) = length n
component_first (attribute_equal n v) = length n
component_first _ = 0

-- the length of its second text, which lies behind the first, or b
unfoldable pub component_second : Component → ℕ
component_second (nth a b) = signed_number b
component_second (attribute_equal n v) = length v
component_second _ = 0

unfoldable pub component_text : Component → List ℕ
component_text (class t) = t
component_text (element t) = t
component_text (hash t) = t
component_text (attribute n) = n
component_text (attribute_equal n v) = n ++ v
component_text _ = []

-- the row, where its texts start at f
unfoldable pub component_row : ℕ → Component → List ℕ
component_row f c = component_kind c ∷ f ∷ component_first c ∷ component_second c ∷ []

-- the component of a kind and three numbers
unfoldable pub component_from : List ℕ → ℕ → ℕ → ℕ → ℕ → Component
component_from store k f a b =
    pick (is k star_kind) star
    (pick (is k class_kind) (class (part store f a))
    (pick (is k element_kind) (element (part store f a))
    (pick (is k hash_kind) (hash (part store f a))
    (pick (is k child_kind) child
    (pick (is k descendant_kind) descendant
    (pick (is k nth_kind) (nth (signed_of a) (signed_of b))
    (pick (is k attribute_kind) (attribute (part store f a))
    (attribute_equal (part store f a) (part store (f + a) b)))))))))

unfoldable pub read_component : List ℕ → List ℕ → Read Component
read_component store t =
    record {
      value = component_from store (get_or t component_kind_at 0) (get_or t component_text_at 0) (get_or t component_first_at 0) (get_or t component_second_at 0);
      rest = drop component_width t;
    }

-- components in reading order
unfoldable pub component_rows : ℕ → List Component → List ℕ
component_rows f cs = rows_many component_row component_text f cs

unfoldable pub component_texts : List Component → List ℕ
component_texts cs = texts_many component_text cs

-- ---- selectors: the count of components, the pseudo element (its number is that of the compiled sheet), and the components in reading order
abbrev pub selector_head : ℕ
selector_head = 2

abbrev pub selector_components : ℕ
selector_components = 0

abbrev pub selector_pseudo : ℕ
selector_pseudo = 1

unfoldable pub pseudo_number : PseudoElement → ℕ
pseudo_number none = 0
pseudo_number before = 1
pseudo_number after = 2

unfoldable pub pseudo_from : ℕ → PseudoElement
pseudo_from n = pick (is n 0) none (pick (is n 1) before after)

unfoldable pub selector_text : Selector → List ℕ
selector_text s = component_texts (reverse s.components)

unfoldable pub selector_row : ℕ → Selector → List ℕ
selector_row f s = length s.components ∷ pseudo_number s.pseudo ∷ component_rows f (reverse s.components)

unfoldable pub read_selector : List ℕ → List ℕ → Read Selector
read_selector store t =
    let cs = read_many (read_component store) (get_or t selector_components 0) (drop selector_head t) in
    record { value = record { components = reverse cs.value; pseudo = pseudo_from (get_or t selector_pseudo 0) }; rest = cs.rest }

unfoldable pub selector_rows : ℕ → List Selector → List ℕ
selector_rows f ss = rows_many selector_row selector_text f ss

unfoldable pub selector_texts : List Selector → List ℕ
selector_texts ss = texts_many selector_text ss

-- ---- rules: the first byte, the count of selectors, the count of declarations, then both
abbrev pub rule_head : ℕ
rule_head = 3

abbrev pub rule_start : ℕ
rule_start = 0

abbrev pub rule_selectors : ℕ
rule_selectors = 1

abbrev pub rule_declarations : ℕ
rule_declarations = 2

unfoldable pub rule_text : RuleSet → List ℕ
rule_text r = selector_texts r.selectors ++ declaration_texts r.declarations

unfoldable pub rule_row : ℕ → RuleSet → List ℕ
rule_row f r =
    r.start ∷ length r.selectors ∷ length r.declarations
    ∷ (selector_rows f r.selectors ++ declaration_rows (f + length (selector_texts r.selectors)) r.declarations)

unfoldable pub read_rule : List ℕ → List ℕ → Read RuleSet
read_rule store t =
    let ss = read_many (read_selector store) (get_or t rule_selectors 0) (drop rule_head t) in
    let ds = read_many (read_declaration store) (get_or t rule_declarations 0) ss.rest in
    record { value = record { selectors = ss.value; declarations = ds.value; start = get_or t rule_start 0 }; rest = ds.rest }

unfoldable pub rule_rows : ℕ → List RuleSet → List ℕ
rule_rows f rs = rows_many rule_row rule_text f rs

-- "The store holds end to end, in reading order, the texts its rules name"
unfoldable pub rule_texts : List RuleSet → List ℕ
rule_texts rs = texts_many rule_text rs

-- the n rules at the start of a stream
unfoldable pub rules_at : List ℕ → List ℕ → ℕ → List RuleSet
rules_at rows store n = (read_many (read_rule store) n rows).value

-- ---- a rule with a selector of three components and one declaration, whose texts start at 9
unfoldable example : RuleSet
example =
    record {
      selectors = record { components = class (0x62 ∷ []) ∷ descendant ∷ element (0x61 ∷ []) ∷ []; pseudo = before } ∷ [];
      declarations = record { decl = unknown (0x63 ∷ []); important = true; start = 7 } ∷ [];
      start = 5;
    }

example-row : rule_row 9 example
    ≡ 5 ∷ 1 ∷ 1 ∷ 3 ∷ 1 ∷ element_kind ∷ 9 ∷ 1 ∷ 0 ∷ descendant_kind ∷ 10 ∷ 0 ∷ 0 ∷ class_kind ∷ 10 ∷ 1 ∷ 0 ∷ unknown_kind ∷ 1 ∷ 7 ∷ 11 ∷ 1 ∷ []
unfolding rule_row selector_rows selector_row selector_texts selector_text component_rows component_row component_texts component_text component_kind component_first component_second pseudo_number declaration_rows declaration_row decl_row declaration_text decl_text flag rows_many texts_many example
example-row = refl
