-- Selectors in the words of Selectors Level 3 (section 10.1, the grammar; sections 5 to 8, what its parts are called), as far as the reader
-- agrees with the document: how a selector is written, and the components that it means.
use Rattle.std.specs.Prelude.{◌≡◌, Bool, true, false, not, List, [], ◌∷◌, ◌++◌, map, reverse, ℕ}
use Prim.Native.Char.{code as ascii}
use Rattle.combinators.specs.Choice.{or, is}
use Rattle.characters.specs.Literal.{text}
use Rattle.lexer.specs.Name.{lower, is_hex_digit}
use Rattle.lexer.specs.Token.{is_quote}
use Rattle.lexer.proofs.SyntaxName.{Each, IdentSequence}
use Rattle.lexer.proofs.SyntaxString.{ordinary}
use Rattle.lexer.proofs.SyntaxWhitespace.{White}
use Rattle.syntax.specs.Selector as syntax
use Rattle.syntax.specs.Selector.{Component, PseudoElement, Selector}
use Rattle.grammar.specs.Nth.{Blanks, Argument, written_argument, means_argument}

-- ---- what is written
-- IDENT, of ASCII and without escapes. The reader folds names to small letters, which the document leaves to the language of the page, so
-- a name here has no capital ones.
pub record Name : Type 0 where
  pub bytes : List ℕ
  pub sequence : IdentSequence bytes
  pub small : map lower bytes ≡ bytes

-- S+
pub record Spaces : Type 0 where
  pub space : ℕ
  pub white : White space
  pub more : Blanks

-- the document's preprocessing leaves the byte as it is. It makes a newline of a carriage return and of a form feed, which the reader does not.
unfoldable pub unprocessed : ℕ → Bool
unprocessed x = not (or (is x 0) (or (is x (ascii "\r")) (is x (ascii "\u{c}"))))

-- what stands between two quotes q, and the text that it is (CSS Syntax 4.3.5, CSS 2.1 4.3.7): a byte that is neither a quote nor a newline nor a
-- backslash; a backslash and a byte that is neither a newline nor a hexadecimal digit, which is that byte; a backslash and a newline, which are
-- nothing. The reader has no hexadecimal escapes in strings.
pub data Within (q : ℕ) : List ℕ → List ℕ → Type 0 where
  nothing : Within q [] []
  byte : {x : ℕ} {w b : List ℕ} → ordinary q x ≡ true → Within q w b → Within q (x ∷ w) (x ∷ b)
  escaped : {x : ℕ} {w b : List ℕ} → is_hex_digit x ≡ false → is x (ascii "\n") ≡ false → Within q w b → Within q (ascii "\\" ∷ x ∷ w) (x ∷ b)
  continued : {w b : List ℕ} → Within q w b → Within q (ascii "\\" ∷ ascii "\n" ∷ w) b

-- STRING
pub record Quoted : Type 0 where
  pub quote : ℕ
  pub bytes : List ℕ
  pub body : List ℕ
  pub quotes : is_quote quote ≡ true
  pub stands : Within quote bytes body
  pub unchanged : Each unprocessed bytes

-- HASH, class, attrib, and of pseudo `:nth-child()`
pub data Simple : Type 0 where
  id : Name → Simple
  class : Name → Simple
  attribute : Name → Simple
  attribute_is : Name → Name → Simple
  attribute_string : Name → Quoted → Simple
  nth_child : Blanks → Argument → Blanks → Simple

-- simple_selector_sequence: a type selector or `*`, and simple selectors; or these alone, one or more
pub data Compound : Type 0 where
  typed : Name → List Simple → Compound
  universal : List Simple → Compound
  untyped : Simple → List Simple → Compound

-- combinator: `>` with white space or none around it, or white space
pub data Combinator : Type 0 where
  child : Blanks → Blanks → Combinator
  descendant : Spaces → Combinator

-- selector
pub data Complex : Type 0 where
  one : Compound → Complex
  joined : Compound → Combinator → Complex → Complex

-- ---- how it is written
unfoldable pub written_simple : Simple → List ℕ
written_simple (id n) = ascii "#" ∷ n.bytes
written_simple (class n) = ascii "." ∷ n.bytes
written_simple (attribute n) = ascii "[" ∷ (n.bytes ++ (ascii "]" ∷ []))
written_simple (attribute_is n v) = ascii "[" ∷ (n.bytes ++ (ascii "=" ∷ (v.bytes ++ (ascii "]" ∷ []))))
written_simple (attribute_string n v) =
    (ascii "[") ∷ (n.bytes ++ (ascii "=" ∷ v.quote ∷ (v.bytes ++ (v.quote ∷ ascii "]" ∷ []))))
written_simple (nth_child b x c) =
    (ascii ":") ∷ (text "nth-child" ++ (ascii "(" ∷ (b.bytes ++ (written_argument x ++ (c.bytes ++ (ascii ")" ∷ []))))))

unfoldable pub written_simples : List Simple → List ℕ
written_simples [] = []
written_simples (p ∷ ps) = written_simple p ++ written_simples ps

unfoldable pub written_compound : Compound → List ℕ
written_compound (typed n ps) = n.bytes ++ written_simples ps
written_compound (universal ps) = ascii "*" ∷ written_simples ps
written_compound (untyped p ps) = written_simple p ++ written_simples ps

unfoldable pub written_combinator : Combinator → List ℕ
written_combinator (child b c) = b.bytes ++ (ascii ">" ∷ c.bytes)
written_combinator (descendant s) = s.space ∷ s.more.bytes

unfoldable pub written : Complex → List ℕ
written (one k) = written_compound k
written (joined k c g) = written_compound k ++ (written_combinator c ++ written g)

-- ---- what it means: components in reading order
unfoldable pub means_simple : Simple → Component
means_simple (id n) = syntax.hash n.bytes
means_simple (class n) = syntax.class n.bytes
means_simple (attribute n) = syntax.attribute n.bytes
means_simple (attribute_is n v) = syntax.attribute_equal n.bytes v.bytes
means_simple (attribute_string n v) = syntax.attribute_equal n.bytes v.body
means_simple (nth_child b x c) = means_argument x

unfoldable pub means_compound : Compound → List Component
means_compound (typed n ps) = syntax.element n.bytes ∷ map means_simple ps
means_compound (universal ps) = syntax.star ∷ map means_simple ps
means_compound (untyped p ps) = means_simple p ∷ map means_simple ps

unfoldable pub means_combinator : Combinator → Component
means_combinator (child b c) = syntax.child
means_combinator (descendant s) = syntax.descendant

unfoldable pub in_order : Complex → List Component
in_order (one k) = means_compound k
in_order (joined k c g) = means_compound k ++ (means_combinator c ∷ in_order g)

-- as the crate has it: rightmost first
unfoldable pub meaning : Complex → Selector
meaning g = record { components = reverse (in_order g); pseudo = syntax.none }

-- ---- where they agree: the reader takes the white space on both sides of a `*` into it, so that none of it is a descendant combinator
unfoldable pub NoStarAtEnd : Compound → Type 0
NoStarAtEnd (typed n ps) = Unit
NoStarAtEnd (universal []) = ⊥
NoStarAtEnd (universal (p ∷ ps)) = Unit
NoStarAtEnd (untyped p ps) = Unit

unfoldable pub NoStarAtStart : Compound → Type 0
NoStarAtStart (typed n ps) = Unit
NoStarAtStart (universal ps) = ⊥
NoStarAtStart (untyped p ps) = Unit

unfoldable pub first_compound : Complex → Compound
first_compound (one k) = k
first_compound (joined k c g) = k

unfoldable pub Agrees : Complex → Type 0
Agrees (one k) = Unit
Agrees (joined k (child b c) g) = Agrees g
Agrees (joined k (descendant s) g) = NoStarAtEnd k × NoStarAtStart (first_compound g) × Agrees g

-- ---- pseudo elements (section 7): "Only one pseudo-element may appear per selector, and if present it must appear after the sequence of simple
-- selectors that represents the subjects of the selector." The notation with one colon, `:before`, is left out: the reader does not read it. So is a
-- pseudo element alone, which stands for `*` with it in the document.
unfoldable pub written_pseudo : PseudoElement → List ℕ
written_pseudo syntax.none = []
written_pseudo syntax.before = text "::before"
written_pseudo syntax.after = text "::after"

-- a selector of the fragment on which both agree, its pseudo element, if it has one, and the white space behind it
pub record Chosen : Type 0 where
  pub selector : Complex
  pub agrees : Agrees selector
  pub pseudo : PseudoElement
  pub gap : Blanks

-- ---- groups of selectors (section 5)
-- no white space stands between a pseudo element and a comma, where the document allows it: the reader stops there
unfoldable pub Tight : PseudoElement → Blanks → Type 0
Tight syntax.none b = Unit
Tight syntax.before b = b.bytes ≡ []
Tight syntax.after b = b.bytes ≡ []

-- selectors parted by `,`, with white space or none behind it
pub data Group : Type 0 where
  last : Chosen → Group
  several : (c : Chosen) → Tight c.pseudo c.gap → Blanks → Group → Group

unfoldable pub written_chosen : Chosen → List ℕ
written_chosen c = written c.selector ++ (written_pseudo c.pseudo ++ c.gap.bytes)

unfoldable pub written_group : Group → List ℕ
written_group (last c) = written_chosen c
written_group (several c h b g) = written_chosen c ++ (ascii "," ∷ (b.bytes ++ written_group g))

unfoldable pub means_chosen : Chosen → Selector
means_chosen c = record { components = reverse (in_order c.selector); pseudo = c.pseudo }

unfoldable pub means_group : Group → List Selector
means_group (last c) = means_chosen c ∷ []
means_group (several c h b g) = means_chosen c ∷ means_group g
