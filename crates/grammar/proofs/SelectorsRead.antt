-- A selector of the grammar is read whole, and means what the grammar says.
use mathlib.Core.Path.{◌≡◌, refl, ap, sym, subst, ◌∙◌}
use mathlib.Core.Bool.{true, false}
use mathlib.Core.List.{List, [], ◌∷◌, ◌++◌, map, append_assoc, append-nil, reverse, reverse-append}
use Prim.Native.Nat.{ℕ, zero, suc, ◌+◌, ◌≤◌}
use native.Mathlib.Nat.{zero-add, add-zero}
use native.Mathlib.Omega.{arith}
use lib.ListN.{length, get_or, drop, length-append}
use lib.Seq.{drop-append-add, drop-append_seam}
use Prim.Native.Char.{code as ascii}
use Rattle.combinators.specs.Choice.{pick, or, and, is, within}
use Rattle.combinators.specs.Parsed.{err, on_parsed}
use Rattle.combinators.specs.Parsed as parser
use Rattle.combinators.specs.Repeat.{many, took}
use Rattle.combinators.specs.Word.{starts_with}
use Rattle.combinators.proofs.Rules.{is-no}
use Rattle.characters.specs.Literal.{text}
use Rattle.characters.specs.Utf8.{utf8, continuation}
use Rattle.lexer.specs.Name.{is_nmstart, folded_char, ident_escape_of, nmstart_of, name_from, dash, name_of, ident_of}
use Rattle.lexer.specs.Whitespace.{is_whitespace, comment_of, whitespace_item, skip_whitespace}
use Rattle.lexer.proofs.SyntaxName.{IdentSequence, started, dashed, ident_start, ident_code_point, letter, start-code-point, hyphen-code-point, code-point-item}
use Rattle.lexer.proofs.SyntaxWhitespace.{Newline, line-feed, carriage-return, form-feed, White, newline, tab, blank-space, Comment, closed, Blank, none, white, comment}
use Rattle.syntax.specs.Selector as syntax
use Rattle.syntax.specs.Selector.{Component, PseudoElement}
use Rattle.selectors.specs.Outcome.{reads, fails, on_outcome, behind, parsed, or_else}
use Rattle.selectors.specs.Selector.{class_of, attr_of, hash_of, pseudo_class_of, marked, blank_of, component_of, components_of, components_from, some_of, with_element_of, without_element_of, body_of, without_blank, pseudo_of, pseudo_taken, selector_of}
use Rattle.selectors.proofs.BodyLaws.{is_descendant, blank-first}
use Rattle.grammar.specs.Nth.{Blanks, Argument, even, odd, multiple, sum, number, written_argument, means_argument}
use Rattle.grammar.proofs.Places.{differs}
use Rattle.grammar.specs.Selectors.{Name, Spaces, Quoted, Simple, id, class, attribute, attribute_is, attribute_string, nth_child, Compound, typed, universal, untyped, Combinator, child, descendant, Complex, one, joined, written_simple, written_simples, written_compound, written_combinator, written, means_simple, means_compound, means_combinator, in_order, meaning, NoStarAtEnd, NoStarAtStart, first_compound, Agrees, written_pseudo}
use Rattle.grammar.proofs.ComponentsRead.{Ended, marks, name-read, class-read, id-read, attribute-read, attribute-is-read, attribute-string-read, nth-child-read, element-read, child-read, star-read, blank-read}

-- ---- components one behind the other
-- the reader comes to n bytes and cs where it has as many turns as there are bytes
pub record Comes (s : List ℕ) (n : ℕ) (cs : List Component) : Type 0 where
  pub comes : (l : ℕ) → length s ≤ l → components_of l s ≡ reads n cs

-- the same of a text and a number that are said otherwise
comes-as : {s s' : List ℕ} {n n' : ℕ} {cs : List Component} → s ≡ s' → n ≡ n' → Comes s n cs → Comes s' n' cs
comes-as {s} {s'} {n} {n'} {cs} e d h = subst (λ (r : List ℕ). Comes r n' cs) e (subst (λ (m : ℕ). Comes s m cs) d h)

-- where no component reads, reading of components stops
stops : (s : List ℕ) (l : ℕ) → component_of s ≡ fails → components_of l s ≡ reads 0 []
unfolding components_of on_outcome
stops s zero e = refl
stops s (suc l) e = rw e

-- where no component reads, no components come
comes-stop : (s : List ℕ) → component_of s ≡ fails → Comes s 0 []
comes-stop s e = record { comes = λ l h. stops s l e }

-- one component, and others behind it
turn : (p s : List ℕ) (c : Component) (n : ℕ) (cs : List Component) (l : ℕ) → component_of (p ++ s) ≡ reads (length p) c → components_of l s ≡ reads n cs
    → components_of (suc l) (p ++ s) ≡ reads (length p + n) (c ∷ cs)
unfolding components_of on_outcome behind
turn p s c n cs l e q = rw (e, drop-append_seam p s, q)

module _ (p s : List ℕ) (c : Component) (n : ℕ) (cs : List Component) (h : 1 ≤ length p) (e : component_of (p ++ s) ≡ reads (length p) c) (q : Comes s n cs) where
  -- whatever the number of turns
  turns : (l : ℕ) → length (p ++ s) ≤ l → components_of l (p ++ s) ≡ reads (length p + n) (c ∷ cs)
  turns zero k = absurd (omega (arith, length-append p s))
  turns (suc l) k = turn p s c n cs l e (q.comes l (omega (arith, length-append p s)))

  -- so it comes to one more
  comes-step : Comes (p ++ s) (length p + n) (c ∷ cs)
  comes-step = record { comes = turns }

-- ---- the first byte of a part
-- a text that begins a part of a selector which is no combinator and no `*`
pub record Begins (t : List ℕ) : Type 0 where
  pub item : whitespace_item t ≡ 0
  pub no-greater : is (get_or t 0 0) (ascii ">") ≡ false
  pub no-star : is (get_or t 0 0) (ascii "*") ≡ false

-- a name ends before a simple selector
simple-ended : (p : Simple) (s : List ℕ) → Ended (written_simple p ++ s)
unfolding written_simple ident_code_point ident_start letter or and within is
simple-ended (id n) s = record { no-character = refl; no-escape = λ q. omega arith; no-round = refl }
simple-ended (class n) s = record { no-character = refl; no-escape = λ q. omega arith; no-round = refl }
simple-ended (attribute n) s = record { no-character = refl; no-escape = λ q. omega arith; no-round = refl }
simple-ended (attribute_is n v) s = record { no-character = refl; no-escape = λ q. omega arith; no-round = refl }
simple-ended (attribute_string n v) s = record { no-character = refl; no-escape = λ q. omega arith; no-round = refl }
simple-ended (nth_child b x c) s = record { no-character = refl; no-escape = λ q. omega arith; no-round = refl }

-- which begins with a byte of its own
simple-begins : (p : Simple) (s : List ℕ) → Begins (written_simple p ++ s)
unfolding written_simple whitespace_item is_whitespace comment_of pick or is
simple-begins (id n) s = record { item = refl; no-greater = refl; no-star = refl }
simple-begins (class n) s = record { item = refl; no-greater = refl; no-star = refl }
simple-begins (attribute n) s = record { item = refl; no-greater = refl; no-star = refl }
simple-begins (attribute_is n v) s = record { item = refl; no-greater = refl; no-star = refl }
simple-begins (attribute_string n v) s = record { item = refl; no-greater = refl; no-star = refl }
simple-begins (nth_child b x c) s = record { item = refl; no-greater = refl; no-star = refl }

-- by the first byte of a name
code-point-begins : (x : ℕ) (l : List ℕ) → ident_code_point x ≡ true → Begins (x ∷ l)
code-point-begins x l e =
    record { item = code-point-item x l e; no-greater = differs ident_code_point x (ascii ">") e marks.0; no-star = differs ident_code_point x (ascii "*") e marks.1 }

-- with a name no white space, no `>` and no `*` begins
name-begins : (n : Name) (s : List ℕ) → Begins (n.bytes ++ s)
name-begins n s = by-start n.bytes n.sequence
  where
    by-start : (bytes : List ℕ) → IdentSequence bytes → Begins (bytes ++ s)
    by-start _ (started {x} {r} e h) = code-point-begins x (r ++ s) (start-code-point x e)
    by-start _ (dashed {x} {r} e h) = code-point-begins (ascii "-") (x ∷ (r ++ s)) hyphen-code-point

-- a name ends before white space, before a comment and before `>`
newline-ended : {x : ℕ} (l : List ℕ) → Newline x → Ended (x ∷ l)
unfolding ident_code_point ident_start letter or and within is
newline-ended l line-feed = record { no-character = refl; no-escape = λ q. omega arith; no-round = refl }
newline-ended l carriage-return = record { no-character = refl; no-escape = λ q. omega arith; no-round = refl }
newline-ended l form-feed = record { no-character = refl; no-escape = λ q. omega arith; no-round = refl }

-- a name ends before white space
white-ended : {x : ℕ} (l : List ℕ) → White x → Ended (x ∷ l)
unfolding ident_code_point ident_start letter or and within is
white-ended l (newline n) = newline-ended l n
white-ended l tab = record { no-character = refl; no-escape = λ q. omega arith; no-round = refl }
white-ended l blank-space = record { no-character = refl; no-escape = λ q. omega arith; no-round = refl }

-- a name ends at a comment
comment-ended : {c : List ℕ} (b l : List ℕ) → Comment c → Ended (c ++ b ++ l)
unfolding ident_code_point ident_start letter or and within is
comment-ended b l (closed body h) = record { no-character = refl; no-escape = λ q. omega arith; no-round = refl }

-- of any number of them
pub blank-ended : {b : List ℕ} (t : List ℕ) → Blank b → Ended t → Ended (b ++ t)
blank-ended t none h = h
blank-ended t (white x b w r) h = white-ended (b ++ t) w
blank-ended t (comment c b w r) h = comment-ended b t w

-- a name ends at `>`
greater-ended : (l : List ℕ) → Ended (ascii ">" ∷ l)
unfolding ident_code_point ident_start letter or and within is
greater-ended l = record { no-character = refl; no-escape = λ q. omega arith; no-round = refl }

-- ---- a simple selector
-- a simple selector is written in one byte or more
simple-some : (p : Simple) → 1 ≤ length (written_simple p)
unfolding written_simple
simple-some (id n) = omega arith
simple-some (class n) = omega arith
simple-some (attribute n) = omega arith
simple-some (attribute_is n v) = omega arith
simple-some (attribute_string n v) = omega arith
simple-some (nth_child b x c) = omega arith

-- the lengths of what is written
length-attribute : (n : Name) → 1 + length n.bytes + 1 ≡ length (written_simple (attribute n))
unfolding written_simple
length-attribute n = omega (arith, length-append n.bytes (ascii "]" ∷ []))

-- an attribute with a name as its value is as long as both names, the brackets and the `=`
length-attribute-is : (n v : Name) → 2 + length n.bytes + length v.bytes + 1 ≡ length (written_simple (attribute_is n v))
unfolding written_simple
length-attribute-is n v =
    omega (arith, length-append n.bytes (ascii "=" ∷ (v.bytes ++ (ascii "]" ∷ []))), length-append v.bytes (ascii "]" ∷ []))

-- an attribute with a string as its value is as long as its name, the string with its quotes, the brackets and the `=`
length-attribute-string : (n : Name) (v : Quoted) → 2 + length n.bytes + (1 + length v.bytes + 1) + 1 ≡ length (written_simple (attribute_string n v))
unfolding written_simple
length-attribute-string n v =
    omega (
      arith,
      length-append n.bytes (ascii "=" ∷ v.quote ∷ (v.bytes ++ (v.quote ∷ ascii "]" ∷ []))),
      length-append v.bytes (v.quote ∷ ascii "]" ∷ []),
    )

-- what is written, with s behind it
attribute-onto : (n : Name) (s : List ℕ) → written_simple (attribute n) ++ s ≡ ascii "[" ∷ (n.bytes ++ (ascii "]" ∷ s))
unfolding written_simple
attribute-onto n s = ap (λ (l : List ℕ). (ascii "[") ∷ l) (append_assoc n.bytes (ascii "]" ∷ []) s)

-- an attribute with a name as its value, and s behind it, is its parts in order and s
attribute-is-onto : (n v : Name) (s : List ℕ)
    → written_simple (attribute_is n v) ++ s ≡ ascii "[" ∷ (n.bytes ++ (ascii "=" ∷ (v.bytes ++ (ascii "]" ∷ s))))
unfolding written_simple
attribute-is-onto n v s =
    ap (λ (l : List ℕ). (ascii "[") ∷ l)
    (append_assoc n.bytes (ascii "=" ∷ (v.bytes ++ (ascii "]" ∷ []))) s
    ∙ ap (λ (l : List ℕ). n.bytes ++ (ascii "=" ∷ l)) (append_assoc v.bytes (ascii "]" ∷ []) s))

-- an attribute with a string as its value, and s behind it, is its parts in order and s
attribute-string-onto : (n : Name) (v : Quoted) (s : List ℕ)
    → written_simple (attribute_string n v) ++ s
    ≡ ascii "[" ∷ (n.bytes ++ (ascii "=" ∷ v.quote ∷ (v.bytes ++ (v.quote ∷ ascii "]" ∷ s))))
unfolding written_simple
attribute-string-onto n v s =
    ap (λ (l : List ℕ). (ascii "[") ∷ l)
    (append_assoc n.bytes (ascii "=" ∷ v.quote ∷ (v.bytes ++ (v.quote ∷ ascii "]" ∷ []))) s
    ∙ ap (λ (l : List ℕ). n.bytes ++ (ascii "=" ∷ v.quote ∷ l)) (append_assoc v.bytes (v.quote ∷ ascii "]" ∷ []) s))

-- `nth-child`, and what is written behind it
module _ (b : Blanks) (x : Argument) (c : Blanks) where
  -- `:nth-child()` with s behind it is its name, the bracket, white space, the argument, white space, the bracket and s
  nth-child-onto : (s : List ℕ)
      → written_simple (nth_child b x c) ++ s
      ≡ ascii ":" ∷ (text "nth-child" ++ (ascii "(" ∷ (b.bytes ++ (written_argument x ++ (c.bytes ++ (ascii ")" ∷ s))))))
  unfolding written_simple
  nth-child-onto s =
      let v = ascii ")" ∷ [] in
      let a = written_argument x in
      ap (λ (l : List ℕ). (ascii ":") ∷ l)
      (append_assoc (text "nth-child") (ascii "(" ∷ (b.bytes ++ (a ++ (c.bytes ++ v)))) s
      ∙ ap (λ (l : List ℕ). text "nth-child" ++ (ascii "(" ∷ l))
      (append_assoc b.bytes (a ++ (c.bytes ++ v)) s
      ∙ ap (λ (l : List ℕ). b.bytes ++ l) (append_assoc a (c.bytes ++ v) s ∙ ap (λ (l : List ℕ). a ++ l) (append_assoc c.bytes v s))))

  -- `:nth-child()` is as long as these parts together
  nth-child-length : 10 + (1 + length b.bytes + length (written_argument x) + length c.bytes + 1) ≡ length (written_simple (nth_child b x c))
  unfolding written_simple text utf8 continuation pick
  nth-child-length =
      let v = ascii ")" ∷ [] in
      let a = written_argument x in
      omega (arith, length-append b.bytes (a ++ (c.bytes ++ v)), length-append a (c.bytes ++ v), length-append c.bytes v)

-- it is read, where a name that it ends in ends
simple-read : (p : Simple) (s : List ℕ) → Ended s → component_of (written_simple p ++ s) ≡ reads (length (written_simple p)) (means_simple p)
unfolding written_simple means_simple
simple-read (id n) s h = id-read n s h ∙ ap (λ (m : ℕ). reads m (syntax.hash n.bytes)) (omega arith)
simple-read (class n) s h = class-read n s h ∙ ap (λ (m : ℕ). reads m (syntax.class n.bytes)) (omega arith)
simple-read (attribute n) s h =
    ap component_of (attribute-onto n s) ∙ attribute-read n s ∙ ap (λ (m : ℕ). reads m (syntax.attribute n.bytes)) (length-attribute n)
simple-read (attribute_is n v) s h =
    ap component_of (attribute-is-onto n v s) ∙ attribute-is-read n v s
    ∙ ap (λ (m : ℕ). reads m (syntax.attribute_equal n.bytes v.bytes)) (length-attribute-is n v)
simple-read (attribute_string n v) s h =
    ap component_of (attribute-string-onto n v s) ∙ attribute-string-read n v s
    ∙ ap (λ (m : ℕ). reads m (syntax.attribute_equal n.bytes v.body)) (length-attribute-string n v)
simple-read (nth_child b x c) s h =
    ap component_of (nth-child-onto b x c s) ∙ nth-child-read b x c s
    ∙ ap (λ (m : ℕ). reads m (means_argument x)) (nth-child-length b x c)

-- ---- simple selectors one behind the other
-- where a name ends before s, it ends before simple selectors with s behind them
simples-ended : (ps : List Simple) (s : List ℕ) → Ended s → Ended (written_simples ps ++ s)
unfolding written_simples
simples-ended [] s h = h
simples-ended (p ∷ ps) s h = subst Ended (sym (append_assoc (written_simple p) (written_simples ps) s)) (simple-ended p (written_simples ps ++ s))

-- where there is one they begin with it
simples-begin : (p : Simple) (ps : List Simple) (s : List ℕ) → Begins (written_simples (p ∷ ps) ++ s)
unfolding written_simples
simples-begin p ps s = subst Begins (sym (append_assoc (written_simple p) (written_simples ps) s)) (simple-begins p (written_simples ps ++ s))

-- simple selectors one behind the other are read as their components
comes-simples : (ps : List Simple) (s : List ℕ) (n : ℕ) (cs : List Component) → Ended s → Comes s n cs
    → Comes (written_simples ps ++ s) (length (written_simples ps) + n) (map means_simple ps ++ cs)
unfolding written_simples
comes-simples [] s n cs h q = comes-as refl (sym (zero-add n)) q
comes-simples (p ∷ ps) s n cs h q =
    comes-as (sym (append_assoc (written_simple p) (written_simples ps) s)) (omega (arith, length-append (written_simple p) (written_simples ps)))
    (comes-step (written_simple p) (written_simples ps ++ s) (means_simple p) (length (written_simples ps) + n) (map means_simple ps ++ cs) (simple-some p)
    (simple-read p (written_simples ps ++ s) (simples-ended ps s h)) (comes-simples ps s n cs h q))

-- ---- compound selectors
-- a name has at least one byte
name-some : (n : Name) → 1 ≤ length n.bytes
name-some n = by-some n.bytes n.sequence
  where
    by-some : (bytes : List ℕ) → IdentSequence bytes → 1 ≤ length bytes
    by-some _ (started e h) = omega arith
    by-some _ (dashed e h) = omega arith

-- a `*` with simple selectors behind it
star-alone : (l : List ℕ) → whitespace_item l ≡ 0 → component_of (ascii "*" ∷ l) ≡ reads 1 syntax.star
star-alone l e = star-read [] l none e ∙ ap (λ (m : ℕ). reads m syntax.star) (omega arith)

-- a compound selector is read, if it is no `*` alone
comes-compound : (k : Compound) (s : List ℕ) (n : ℕ) (cs : List Component) → NoStarAtEnd k → Ended s → Comes s n cs
    → Comes (written_compound k ++ s) (length (written_compound k) + n) (means_compound k ++ cs)
unfolding written_compound means_compound NoStarAtEnd written_simples
comes-compound (typed m ps) s n cs a h q =
    comes-as (sym (append_assoc m.bytes (written_simples ps) s)) (omega (arith, length-append m.bytes (written_simples ps)))
    (comes-step m.bytes (written_simples ps ++ s) (syntax.element m.bytes) (length (written_simples ps) + n) (map means_simple ps ++ cs) (name-some m)
    (element-read m (written_simples ps ++ s) (simples-ended ps s h)) (comes-simples ps s n cs h q))
comes-compound (universal []) s n cs a h q = absurd a
comes-compound (universal (p ∷ ps)) s n cs a h q =
    comes-as refl (omega arith)
    (comes-step (ascii "*" ∷ []) (written_simples (p ∷ ps) ++ s) syntax.star (length (written_simples (p ∷ ps)) + n) (map means_simple (p ∷ ps) ++ cs) (omega arith)
    (star-alone (written_simples (p ∷ ps) ++ s) (simples-begin p ps s).item) (comes-simples (p ∷ ps) s n cs h q))
comes-compound (untyped p ps) s n cs a h q = comes-simples (p ∷ ps) s n cs h q

-- ---- where a selector ends
-- `{`, `,` or the end of the text
pub data Ends : List ℕ → Type 0 where
  text-ends : Ends []
  block : (t : List ℕ) → Ends (ascii "{" ∷ t)
  another : (t : List ℕ) → Ends (ascii "," ∷ t)

-- there, or before a pseudo element, whatever its name
data Stops : List ℕ → Type 0 where
  ends : {t : List ℕ} → Ends t → Stops t
  colons : (t : List ℕ) → Stops (ascii ":" ∷ ascii ":" ∷ t)

-- where a selector stops, no component begins
end-fails : {t : List ℕ} → Stops t → component_of t ≡ fails
unfolding component_of marked blank_of class_of attr_of hash_of pseudo_class_of or_else parsed on_parsed ident_of name_of name_from dash nmstart_of folded_char ident_escape_of is_nmstart parser.behind skip_whitespace many took whitespace_item is_whitespace comment_of pick or and within is
end-fails (ends text-ends) = refl
end-fails (ends (block t)) = refl
end-fails (ends (another t)) = refl
end-fails (colons t) = refl

-- there no white space, no '>' and no '*' begins
end-item : {t : List ℕ} → Stops t → Begins t
unfolding whitespace_item is_whitespace comment_of pick or is
end-item (ends text-ends) = record { item = refl; no-greater = refl; no-star = refl }
end-item (ends (block t)) = record { item = refl; no-greater = refl; no-star = refl }
end-item (ends (another t)) = record { item = refl; no-greater = refl; no-star = refl }
end-item (colons t) = record { item = refl; no-greater = refl; no-star = refl }

-- nor, at an end, a pseudo element
end-pseudo : {t : List ℕ} → Ends t → pseudo_of t ≡ syntax.none
unfolding pseudo_of starts_with pick and is text utf8 continuation
end-pseudo text-ends = refl
end-pseudo (block t) = refl
end-pseudo (another t) = refl

-- where a selector stops, a name ends
end-ended : {t : List ℕ} → Stops t → Ended t
unfolding ident_code_point ident_start letter or and within is
end-ended (ends text-ends) = record { no-character = refl; no-escape = λ q. omega arith; no-round = refl }
end-ended (ends (block t)) = record { no-character = refl; no-escape = λ q. omega arith; no-round = refl }
end-ended (ends (another t)) = record { no-character = refl; no-escape = λ q. omega arith; no-round = refl }
end-ended (colons t) = record { no-character = refl; no-escape = λ q. omega arith; no-round = refl }

-- white space before the end is read as a component, which is dropped
pub data Trail : List Component → Type 0 where
  no-blank : Trail []
  blank : Trail (syntax.descendant ∷ [])

record Trailing (s : List ℕ) (n : ℕ) (cs : List Component) : Type 0 where
  trail : List Component
  trails : Trail trail
  all : Comes s n (cs ++ trail)

-- so the reader comes to the end
end-comes : {b t : List ℕ} → Blank b → Stops t → Trailing (b ++ t) (length b) []
end-comes {b} {t} h e = by_length b h
  where
    by_length : (b : List ℕ) → Blank b → Trailing (b ++ t) (length b) []
    by_length [] h = record { trail = []; trails = no-blank; all = comes-stop t (end-fails e) }
    by_length (x ∷ b) h =
        record {
          trail = syntax.descendant ∷ [];
          trails = blank;
          all =
              comes-as refl (add-zero _)
              (comes-step (x ∷ b) t syntax.descendant 0 [] (omega arith)
              (blank-read (x ∷ b) t h (omega arith) (end-item e).item (end-item e).no-greater (end-item e).no-star) (comes-stop t (end-fails e)));
        }

-- ---- combinators
-- a child combinator with what follows it is read
comes-child : (b c : Blanks) (s : List ℕ) (n : ℕ) (cs : List Component) → whitespace_item s ≡ 0 → Comes s n cs
    → Comes (written_combinator (child b c) ++ s) (length (written_combinator (child b c)) + n) (syntax.child ∷ cs)
unfolding written_combinator
comes-child b c s n cs e q =
    let p = b.bytes ++ (ascii ">" ∷ c.bytes) in
    comes-step p s syntax.child n cs (omega (arith, length-append b.bytes (ascii ">" ∷ c.bytes)))
    (ap component_of (append_assoc b.bytes (ascii ">" ∷ c.bytes) s) ∙ child-read b.bytes c.bytes s b.blank c.blank e
    ∙ ap (λ (m : ℕ). reads m syntax.child) (omega (arith, length-append b.bytes (ascii ">" ∷ c.bytes))))
    q

-- `>` without white space before it
comes-greater : (c : Blanks) (s : List ℕ) (n : ℕ) (cs : List Component) → whitespace_item s ≡ 0 → Comes s n cs
    → Comes (ascii ">" ∷ (c.bytes ++ s)) (length (ascii ">" ∷ c.bytes) + n) (syntax.child ∷ cs)
comes-greater c s n cs e q =
    comes-step (ascii ">" ∷ c.bytes) s syntax.child n cs (omega arith)
    (child-read [] c.bytes s none c.blank e ∙ ap (λ (m : ℕ). reads m syntax.child) (omega arith)) q

-- white space with what follows it is read as a descendant combinator
comes-descendant : (w : Spaces) (s : List ℕ) (n : ℕ) (cs : List Component) → Begins s → Comes s n cs
    → Comes (written_combinator (descendant w) ++ s) (length (written_combinator (descendant w)) + n) (syntax.descendant ∷ cs)
unfolding written_combinator
comes-descendant w s n cs h q =
    comes-step (w.space ∷ w.more.bytes) s syntax.descendant n cs (omega arith)
    (blank-read (w.space ∷ w.more.bytes) s (white w.space w.more.bytes w.white w.more.blank) (omega arith) h.item h.no-greater h.no-star)
    q

-- a name ends before a combinator
combinator-ended : (c : Combinator) (s : List ℕ) → Ended (written_combinator c ++ s)
unfolding written_combinator
combinator-ended (child b c) s =
    subst Ended (sym (append_assoc b.bytes (ascii ">" ∷ c.bytes) s)) (blank-ended (ascii ">" ∷ (c.bytes ++ s)) b.blank (greater-ended (c.bytes ++ s)))
combinator-ended (descendant w) s = white-ended (w.more.bytes ++ s) w.white

-- ---- the first byte of a selector
-- an asterisk begins no white space and no comment
star-item : (l : List ℕ) → whitespace_item (ascii "*" ∷ l) ≡ 0
unfolding whitespace_item is_whitespace comment_of pick or is
star-item l = refl

-- a type selector and what follows
typed-begins : (n : Name) (ps : List Simple) (s : List ℕ) → Begins ((n.bytes ++ written_simples ps) ++ s)
typed-begins n ps s = subst Begins (sym (append_assoc n.bytes (written_simples ps) s)) (name-begins n (written_simples ps ++ s))

-- a compound selector begins with no white space
compound-item : (k : Compound) (s : List ℕ) → whitespace_item (written_compound k ++ s) ≡ 0
unfolding written_compound written_simples
compound-item (typed n ps) s = (typed-begins n ps s).item
compound-item (universal ps) s = star-item (written_simples ps ++ s)
compound-item (untyped p ps) s = (simples-begin p ps s).item

-- and with its own byte where it does not begin with `*`
compound-begins : (k : Compound) (s : List ℕ) → NoStarAtStart k → Begins (written_compound k ++ s)
unfolding written_compound written_simples NoStarAtStart
compound-begins (typed n ps) s a = typed-begins n ps s
compound-begins (universal ps) s a = absurd a
compound-begins (untyped p ps) s a = simples-begin p ps s

-- a selector of several parts, with s behind it
joined-onto : (k : Compound) (c : Combinator) (g : Complex) (s : List ℕ) → written (joined k c g) ++ s ≡ written_compound k ++ (written_combinator c ++ (written g ++ s))
unfolding written
joined-onto k c g s =
    append_assoc (written_compound k) (written_combinator c ++ written g) s ∙ ap (λ (l : List ℕ). written_compound k ++ l) (append_assoc (written_combinator c) (written g) s)

-- a selector begins with no white space
pub complex-item : (g : Complex) (s : List ℕ) → whitespace_item (written g ++ s) ≡ 0
unfolding written
complex-item (one k) s = compound-item k s
complex-item (joined k c g) s = ap whitespace_item (joined-onto k c g s) ∙ compound-item k (written_combinator c ++ (written g ++ s))

-- and with its own byte where it does not begin with `*`
complex-begins : (g : Complex) (s : List ℕ) → NoStarAtStart (first_compound g) → Begins (written g ++ s)
unfolding written first_compound
complex-begins (one k) s a = compound-begins k s a
complex-begins (joined k c g) s a = subst Begins (sym (joined-onto k c g s)) (compound-begins k (written_combinator c ++ (written g ++ s)) a)

-- ---- a selector
-- what a combinator asks of the selector behind it
unfoldable Fits : Combinator → Complex → Type 0
Fits (child b c) g = Unit
Fits (descendant w) g = NoStarAtStart (first_compound g)

-- a combinator, and a selector behind it
comes-combined : (c : Combinator) (g : Complex) (s : List ℕ) (n : ℕ) (cs : List Component) → Fits c g → Comes (written g ++ s) n cs
    → Comes (written_combinator c ++ (written g ++ s)) (length (written_combinator c) + n) (means_combinator c ∷ cs)
unfolding Fits means_combinator
comes-combined (child b c) g s n cs a q = comes-child b c (written g ++ s) n cs (complex-item g s) q
comes-combined (descendant w) g s n cs a q = comes-descendant w (written g ++ s) n cs (complex-begins g s a) q

-- the length of a selector of several parts
joined_length : (k : Compound) (c : Combinator) (g : Complex) → length (written (joined k c g)) ≡ length (written_compound k) + (length (written_combinator c) + length (written g))
unfolding written
joined_length k c g =
    omega (arith, length-append (written_compound k) (written_combinator c ++ written g), length-append (written_combinator c) (written g))

-- its components, with others behind them
joined-order : (k : Compound) (c : Combinator) (g : Complex) (cs : List Component)
    → in_order (joined k c g) ++ cs ≡ means_compound k ++ (means_combinator c ∷ (in_order g ++ cs))
unfolding in_order
joined-order k c g cs = append_assoc (means_compound k) (means_combinator c ∷ in_order g) cs

-- the same components said otherwise
comes_of : {s : List ℕ} {n : ℕ} {cs cs' : List Component} → cs ≡ cs' → Comes s n cs → Comes s n cs'
comes_of {s} {n} e h = subst (λ (r : List Component). Comes s n r) e h

-- `*`, `>` and a selector
module _ (x y : Blanks) (g : Complex) where
  -- star, white space, `>`, white space and what follows are written in that order
  star-onto : (s : List ℕ) → (ascii "*" ∷ x.bytes) ++ (ascii ">" ∷ (y.bytes ++ (written g ++ s))) ≡ written (joined (universal []) (child x y) g) ++ s
  unfolding written_compound written_simples written_combinator
  star-onto s =
      ap (λ (l : List ℕ). (ascii "*") ∷ l) (sym (append_assoc x.bytes (ascii ">" ∷ y.bytes) (written g ++ s)))
      ∙ sym (joined-onto (universal []) (child x y) g s)

  -- the lengths of these parts add up to that of the whole
  star-length : (m : ℕ) → length (ascii "*" ∷ x.bytes) + (length (ascii ">" ∷ y.bytes) + (length (written g) + m))
      ≡ length (written (joined (universal []) (child x y) g)) + m
  unfolding written_compound written_simples written_combinator
  star-length m = omega (arith, joined_length (universal []) (child x y) g, length-append x.bytes (ascii ">" ∷ y.bytes))

  -- what a star, a child combinator and a selector mean, in reading order
  star-order : (cs : List Component) → syntax.star ∷ syntax.child ∷ (in_order g ++ cs) ≡ in_order (joined (universal []) (child x y) g) ++ cs
  unfolding means_compound means_combinator
  star-order cs = sym (joined-order (universal []) (child x y) g cs)

-- `>` is no white space
greater-item : (l : List ℕ) → whitespace_item (ascii ">" ∷ l) ≡ 0
unfolding whitespace_item is_whitespace comment_of pick or is
greater-item l = refl

module _ {b t : List ℕ} (hb : Blank b) (ht : Stops t) where
  -- a `*` alone takes the white space behind it
  star-end : Trailing (written (one (universal [])) ++ (b ++ t)) (length (written (one (universal []))) + length b) (in_order (one (universal [])))
  unfolding written written_compound written_simples in_order means_compound
  star-end =
      record {
        trail = [];
        trails = no-blank;
        all =
            comes-as refl (omega arith)
            (comes-step (ascii "*" ∷ b) t syntax.star 0 [] (omega arith)
            (star-read b t hb (end-item ht).item ∙ ap (λ (m : ℕ). reads m syntax.star) (omega arith)) (comes-stop t (end-fails ht)));
      }

  -- any other compound selector leaves it
  one_end : (k : Compound) → NoStarAtEnd k → Trailing (written (one k) ++ (b ++ t)) (length (written (one k)) + length b) (in_order (one k))
  unfolding written in_order
  one_end k a =
      let e = end-comes hb ht in
      record { trail = e.trail; trails = e.trails; all = comes-compound k (b ++ t) (length b) e.trail a (blank-ended t hb (end-ended ht)) e.all }

  module _ (k : Compound) (c : Combinator) (g : Complex) (w : Trailing (written g ++ (b ++ t)) (length (written g) + length b) (in_order g)) (f : Fits c g) where
    -- a compound selector, a combinator, and a selector
    joined_end : NoStarAtEnd k → Trailing (written (joined k c g) ++ (b ++ t)) (length (written (joined k c g)) + length b) (in_order (joined k c g))
    joined_end a =
        record {
          trail = w.trail;
          trails = w.trails;
          all =
              comes_of (sym (joined-order k c g w.trail))
              (comes-as (sym (joined-onto k c g (b ++ t))) (omega (arith, joined_length k c g))
              (comes-compound k (written_combinator c ++ (written g ++ (b ++ t))) _ _ a (combinator-ended c (written g ++ (b ++ t)))
              (comes-combined c g (b ++ t) _ _ f w.all)));
        }

  -- a `*` before `>`: it takes the white space between
  star-child : (x y : Blanks) (g : Complex) → Trailing (written g ++ (b ++ t)) (length (written g) + length b) (in_order g)
      → Trailing (written (joined (universal []) (child x y) g) ++ (b ++ t)) (length (written (joined (universal []) (child x y) g)) + length b) (in_order (joined (universal []) (child x y) g))
  star-child x y g w =
      let s = written g ++ (b ++ t) in
      let r = ascii ">" ∷ (y.bytes ++ s) in
      record {
        trail = w.trail;
        trails = w.trails;
        all =
            comes_of (star-order x y g w.trail)
            (comes-as (star-onto x y g (b ++ t)) (star-length x y g (length b))
            (comes-step (ascii "*" ∷ x.bytes) r syntax.star (length (ascii ">" ∷ y.bytes) + (length (written g) + length b)) (syntax.child ∷ (in_order g ++ w.trail)) (omega arith)
            (star-read x.bytes r x.blank (greater-item (y.bytes ++ s)) ∙ ap (λ (m : ℕ). reads m syntax.star) (omega arith))
            (comes-greater y s _ _ (complex-item g (b ++ t)) w.all)));
      }

  -- any selector of the grammar, by its first parts
  complex-comes : (g : Complex) → Agrees g → Trailing (written g ++ (b ++ t)) (length (written g) + length b) (in_order g)
  unfolding Agrees Fits NoStarAtEnd
  complex-comes (one (typed n ps)) a = one_end (typed n ps) tt
  complex-comes (one (universal [])) a = star-end
  complex-comes (one (universal (p ∷ ps))) a = one_end (universal (p ∷ ps)) tt
  complex-comes (one (untyped p ps)) a = one_end (untyped p ps) tt
  complex-comes (joined (typed n ps) (child x y) g) a = joined_end (typed n ps) (child x y) g (complex-comes g a) tt tt
  complex-comes (joined (universal []) (child x y) g) a = star-child x y g (complex-comes g a)
  complex-comes (joined (universal (p ∷ ps)) (child x y) g) a = joined_end (universal (p ∷ ps)) (child x y) g (complex-comes g a) tt tt
  complex-comes (joined (untyped p ps) (child x y) g) a = joined_end (untyped p ps) (child x y) g (complex-comes g a) tt tt
  complex-comes (joined k (descendant w) g) a = joined_end k (descendant w) g (complex-comes g a.2) a.1 a.0

-- ---- `body_of`, which reads a name at the start by itself
-- a name at the start is read as an element, in front of the components that come behind it
element-named : (m : Name) (r : List ℕ) (n : ℕ) (cs : List Component) → Ended r → Comes r n cs
    → with_element_of (m.bytes ++ r) ≡ reads (length m.bytes + n) (syntax.element m.bytes ∷ cs)
unfolding with_element_of components_from on_parsed behind on_outcome
element-named m r n cs h q = rw (name-read m r h, drop-append_seam m.bytes r, q.comes (length r) (omega arith))

-- so the body is read by its name
body-named : (m : Name) (r : List ℕ) (n : ℕ) (cs : List Component) → Ended r → Comes r n cs → body_of (m.bytes ++ r) ≡ reads (length m.bytes + n) (syntax.element m.bytes ∷ cs)
unfolding body_of or_else
body-named m r n cs h q = rw (element-named m r n cs h q)

-- where there is none, components alone
body-unnamed : (s : List ℕ) (n : ℕ) (c : Component) (cs : List Component) → ident_of s ≡ err → Comes s n (c ∷ cs) → body_of s ≡ reads n (c ∷ cs)
unfolding body_of with_element_of without_element_of components_from some_of or_else on_parsed on_outcome pick
body-unnamed s n c cs e q = rw (e, q.comes (length s) (omega arith), is-no (length (c ∷ cs)) 0 (λ z. omega arith))

-- no name begins with an asterisk
star-unnamed : (l : List ℕ) → ident_of (ascii "*" ∷ l) ≡ err
unfolding ident_of name_of name_from dash nmstart_of folded_char ident_escape_of is_nmstart parser.behind skip_whitespace many took whitespace_item is_whitespace comment_of pick or and within is
star-unnamed l = refl

-- nor at a simple selector
simple-unnamed : (p : Simple) (s : List ℕ) → ident_of (written_simple p ++ s) ≡ err
unfolding written_simple ident_of name_of name_from dash nmstart_of folded_char ident_escape_of is_nmstart parser.behind skip_whitespace many took whitespace_item is_whitespace comment_of pick or and within is
simple-unnamed (id n) s = refl
simple-unnamed (class n) s = refl
simple-unnamed (attribute n) s = refl
simple-unnamed (attribute_is n v) s = refl
simple-unnamed (attribute_string n v) s = refl
simple-unnamed (nth_child b x c) s = refl

-- a compound selector at the start
body-compound : (k : Compound) (s : List ℕ) (n : ℕ) (cs : List Component) → NoStarAtEnd k → Ended s → Comes s n cs
    → body_of (written_compound k ++ s) ≡ reads (length (written_compound k) + n) (means_compound k ++ cs)
unfolding written_compound means_compound
body-compound (typed m ps) s n cs a h q =
    ap body_of (append_assoc m.bytes (written_simples ps) s)
    ∙ body-named m (written_simples ps ++ s) _ _ (simples-ended ps s h) (comes-simples ps s n cs h q)
    ∙ ap (λ (i : ℕ). reads i (syntax.element m.bytes ∷ (map means_simple ps ++ cs))) (omega (arith, length-append m.bytes (written_simples ps)))
body-compound (universal ps) s n cs a h q =
    body-unnamed _ _ syntax.star (map means_simple ps ++ cs) (star-unnamed (written_simples ps ++ s)) (comes-compound (universal ps) s n cs a h q)
body-compound (untyped p ps) s n cs a h q =
    body-unnamed _ _ (means_simple p) (map means_simple ps ++ cs) (ap ident_of (append_assoc (written_simple p) (written_simples ps) s) ∙ simple-unnamed p (written_simples ps ++ s)) (comes-compound (untyped p ps) s n cs a h q)

-- the same answer said otherwise
reads_as : {cs cs' : List Component} (n n' : ℕ) → n ≡ n' → cs ≡ cs' → reads n cs ≡ reads n' cs'
reads_as n n' e d = rw (e, d)

record Body (s : List ℕ) (n : ℕ) (cs : List Component) : Type 0 where
  trail : List Component
  trails : Trail trail
  all : body_of s ≡ reads n (cs ++ trail)

module _ {b t : List ℕ} (hb : Blank b) (ht : Stops t) where
  -- a compound selector alone is read whole
  one-body : (k : Compound) → NoStarAtEnd k → Body (written (one k) ++ (b ++ t)) (length (written (one k)) + length b) (in_order (one k))
  unfolding written in_order
  one-body k a =
      let e = end-comes hb ht in
      record { trail = e.trail; trails = e.trails; all = body-compound k (b ++ t) (length b) e.trail a (blank-ended t hb (end-ended ht)) e.all }

  -- before a combinator and a selector
  joined-body : (k : Compound) (c : Combinator) (g : Complex) → Agrees g → Fits c g → NoStarAtEnd k
      → Body (written (joined k c g) ++ (b ++ t)) (length (written (joined k c g)) + length b) (in_order (joined k c g))
  joined-body k c g h f a =
      let w = complex-comes hb ht g h in
      let s = written_combinator c ++ (written g ++ (b ++ t)) in
      let m = length (written_compound k) in
      let j = length (written_combinator c) in
      let i = length (written g) in
      record {
        trail = w.trail;
        trails = w.trails;
        all =
            ap body_of (joined-onto k c g (b ++ t)) ∙ body-compound k s (j + (i + length b)) _ a (combinator-ended c (written g ++ (b ++ t))) (comes-combined c g (b ++ t) _ _ f w.all)
            ∙ reads_as (m + (j + (i + length b))) (length (written (joined k c g)) + length b) (omega (arith, joined_length k c g)) (sym (joined-order k c g w.trail));
      }

  -- a `*` alone at the start
  star-body : (g : Complex) (l : List ℕ) (cs : List Component) → Trailing (written g ++ (b ++ t)) (length (written g) + length b) (in_order g) → written g ≡ ascii "*" ∷ l
      → in_order g ≡ syntax.star ∷ cs → Body (written g ++ (b ++ t)) (length (written g) + length b) (in_order g)
  star-body g l cs w e o =
      record {
        trail = w.trail;
        trails = w.trails;
        all =
            body-unnamed (written g ++ (b ++ t)) _ syntax.star (cs ++ w.trail) (ap (λ (r : List ℕ). ident_of (r ++ (b ++ t))) e ∙ star-unnamed (l ++ (b ++ t)))
            (comes_of (ap (λ (r : List Component). r ++ w.trail) o) w.all)
            ∙ ap (λ (r : List Component). reads (length (written g) + length b) (r ++ w.trail)) (sym o);
      }

  -- any selector of the grammar
  complex-body : (g : Complex) → Agrees g → Body (written g ++ (b ++ t)) (length (written g) + length b) (in_order g)
  unfolding Agrees Fits NoStarAtEnd written written_compound in_order means_compound
  complex-body (one (typed n ps)) a = one-body (typed n ps) tt
  complex-body (one (universal [])) a = star-body (one (universal [])) _ _ (complex-comes hb ht (one (universal [])) a) refl refl
  complex-body (one (universal (p ∷ ps))) a = one-body (universal (p ∷ ps)) tt
  complex-body (one (untyped p ps)) a = one-body (untyped p ps) tt
  complex-body (joined (typed n ps) (child x y) g) a = joined-body (typed n ps) (child x y) g a tt tt
  complex-body (joined (universal []) (child x y) g) a =
      star-body (joined (universal []) (child x y) g) _ _ (complex-comes hb ht (joined (universal []) (child x y) g) a) refl refl
  complex-body (joined (universal (p ∷ ps)) (child x y) g) a = joined-body (universal (p ∷ ps)) (child x y) g a tt tt
  complex-body (joined (untyped p ps) (child x y) g) a = joined-body (untyped p ps) (child x y) g a tt tt
  complex-body (joined k (descendant w) g) a = joined-body k (descendant w) g a.2 a.1 a.0

-- ---- blanks at either end are dropped
-- a first component that is no blank stays
first-kept : (c : Component) (cs : List Component) → is_descendant c ≡ false → without_blank (c ∷ cs) ≡ c ∷ cs
unfolding pick
first-kept c cs e = blank-first c cs ∙ rw e

-- a list of components does not end in a blank
record Solid (cs : List Component) : Type 0 where
  front : List Component
  last : Component
  ends_in : cs ≡ front ++ last ∷ []
  solid : is_descendant last ≡ false

-- nothing is dropped from it, from its end on
kept : (cs : List Component) → Solid cs → without_blank (reverse cs) ≡ reverse cs
kept cs h = let e : reverse cs ≡ h.last ∷ reverse h.front = ap reverse h.ends_in ∙ reverse-append h.front (h.last ∷ []) in rw e (first-kept h.last (reverse h.front) h.solid)

-- a blank behind it is
dropped : (cs : List Component) → without_blank (reverse (cs ++ (syntax.descendant ∷ []))) ≡ reverse cs
unfolding without_blank
dropped cs = ap without_blank (reverse-append cs (syntax.descendant ∷ []))

-- the end of a list decides
solid-onto : (cs ds : List Component) → Solid ds → Solid (cs ++ ds)
solid-onto cs ds h =
    record { front = cs ++ h.front; last = h.last; ends_in = ap (λ (l : List Component). cs ++ l) h.ends_in ∙ sym (append_assoc cs h.front (h.last ∷ [])); solid = h.solid }

-- so what the end left is dropped
trail-dropped : (cs : List Component) {e : List Component} → Solid cs → Trail e → without_blank (reverse (cs ++ e)) ≡ reverse cs
trail-dropped cs h no-blank = ap (λ (l : List Component). without_blank (reverse l)) (append-nil cs) ∙ kept cs h
trail-dropped cs h blank = dropped cs

-- an argument of `:nth-child()` is no blank
argument-solid : (x : Argument) → is_descendant (means_argument x) ≡ false
unfolding means_argument is_descendant
argument-solid even = refl
argument-solid odd = refl
argument-solid (multiple s a) = refl
argument-solid (sum s a w m b) = refl
argument-solid (number s b) = refl

-- a selector of the grammar ends in no blank
simple-solid : (p : Simple) → is_descendant (means_simple p) ≡ false
unfolding means_simple is_descendant
simple-solid (id n) = refl
simple-solid (class n) = refl
simple-solid (attribute n) = refl
simple-solid (attribute_is n v) = refl
simple-solid (attribute_string n v) = refl
simple-solid (nth_child b x c) = argument-solid x

-- with simple selectors at its end
simples-solid : (c : Component) (ps : List Simple) → is_descendant c ≡ false → Solid (c ∷ map means_simple ps)
simples-solid c [] h = record { front = []; last = c; ends_in = refl; solid = h }
simples-solid c (p ∷ ps) h = solid-onto (c ∷ []) (means_simple p ∷ map means_simple ps) (simples-solid (means_simple p) ps (simple-solid p))

-- of a compound selector
compound-solid : (k : Compound) → Solid (means_compound k)
unfolding means_compound is_descendant
compound-solid (typed n ps) = simples-solid (syntax.element n.bytes) ps refl
compound-solid (universal ps) = simples-solid syntax.star ps refl
compound-solid (untyped p ps) = simples-solid (means_simple p) ps (simple-solid p)

-- no selector of the grammar ends in a blank
complex-solid : (g : Complex) → Solid (in_order g)
unfolding in_order
complex-solid (one k) = compound-solid k
complex-solid (joined k c g) = solid-onto (means_compound k) (means_combinator c ∷ in_order g) (solid-onto (means_combinator c ∷ []) (in_order g) (complex-solid g))

-- and begins with none
record Headed (cs : List Component) : Type 0 where
  head : Component
  rest : List Component
  heads : cs ≡ head ∷ rest
  solid : is_descendant head ≡ false

-- of a compound selector
compound-headed : (k : Compound) (cs : List Component) → Headed (means_compound k ++ cs)
unfolding means_compound is_descendant
compound-headed (typed n ps) cs = record { head = syntax.element n.bytes; rest = map means_simple ps ++ cs; heads = refl; solid = refl }
compound-headed (universal ps) cs = record { head = syntax.star; rest = map means_simple ps ++ cs; heads = refl; solid = refl }
compound-headed (untyped p ps) cs = record { head = means_simple p; rest = map means_simple ps ++ cs; heads = refl; solid = simple-solid p }

-- no selector of the grammar begins with a blank
complex-headed : (g : Complex) → Headed (in_order g)
unfolding in_order
complex-headed (one k) = subst Headed (append-nil (means_compound k)) (compound-headed k [])
complex-headed (joined k c g) = compound-headed k (means_combinator c ∷ in_order g)

-- so nothing is dropped at its start, whatever stands behind it
head-kept : {cs : List Component} → Headed cs → (e : List Component) → without_blank (cs ++ e) ≡ cs ++ e
head-kept h e = rw (h.heads) (first-kept h.head (h.rest ++ e) h.solid)

-- ---- `selector_of`
-- the components without blanks at both ends, and the pseudo element behind them, are the selector
selected : (s : List ℕ) (n : ℕ) (cs ds : List Component) (p : PseudoElement) → body_of s ≡ reads n cs → pseudo_of (drop n s) ≡ p → without_blank (reverse (without_blank cs)) ≡ ds
    → selector_of s ≡ reads (n + pseudo_taken p) (record { components = ds; pseudo = p })
unfolding selector_of on_outcome
selected s n cs ds p e q w = rw (e, q, w)

-- a selector of the grammar on which both agree, up to where it stops, and what stands there
stopped : (g : Complex) (b t : List ℕ) (p : PseudoElement) → Agrees g → Blank b → Stops t → pseudo_of t ≡ p
    → selector_of (written g ++ (b ++ t)) ≡ reads (length (written g) + length b + pseudo_taken p) (record { components = reverse (in_order g); pseudo = p })
stopped g b t p a hb ht e =
    let w = complex-body hb ht g a in
    selected (written g ++ (b ++ t)) (length (written g) + length b) (in_order g ++ w.trail) (reverse (in_order g)) p w.all
    (ap pseudo_of (drop-append-add (written g) (b ++ t) (length b) ∙ drop-append_seam b t) ∙ e)
    (ap (λ (r : List Component). without_blank (reverse r)) (head-kept (complex-headed g) w.trail) ∙ trail-dropped (in_order g) (complex-solid g) w.trails)

-- with white space or none behind it and then a byte that cannot continue it, it is read whole, with that white space, and means what it says
pub selector-read : (g : Complex) (b t : List ℕ) → Agrees g → Blank b → Ends t
    → selector_of (written g ++ (b ++ t)) ≡ reads (length (written g) + length b) (meaning g)
unfolding meaning pseudo_taken
selector-read g b t a hb ht =
    stopped g b t syntax.none a hb (ends ht) (end-pseudo ht) ∙ ap (λ (n : ℕ). reads n (meaning g)) (add-zero (length (written g) + length b))

-- ---- pseudo elements
-- each begins with two colons
pseudo-stops : (p : PseudoElement) (t : List ℕ) → ¬ (p ≡ syntax.none) → Stops (written_pseudo p ++ t)
unfolding written_pseudo text utf8 continuation pick
pseudo-stops syntax.none t d = absurd (d refl)
pseudo-stops syntax.before t d = colons _
pseudo-stops syntax.after t d = colons _

-- and is read as itself
pseudo-found : (p : PseudoElement) (t : List ℕ) → ¬ (p ≡ syntax.none) → pseudo_of (written_pseudo p ++ t) ≡ p
unfolding written_pseudo pseudo_of starts_with pick and is text utf8 continuation
pseudo-found syntax.none t d = absurd (d refl)
pseudo-found syntax.before t d = refl
pseudo-found syntax.after t d = refl

-- a pseudo element takes as many bytes as it is written with
pseudo-taken : (p : PseudoElement) → pseudo_taken p ≡ length (written_pseudo p)
unfolding written_pseudo pseudo_taken
pseudo-taken syntax.none = refl
pseudo-taken syntax.before = refl
pseudo-taken syntax.after = refl

-- a selector of the grammar and a pseudo element behind it are read, whatever follows
pub pseudo-read : (g : Complex) (p : PseudoElement) (t : List ℕ) → Agrees g → ¬ (p ≡ syntax.none)
    → selector_of (written g ++ (written_pseudo p ++ t)) ≡ reads (length (written g) + length (written_pseudo p)) (record { components = reverse (in_order g); pseudo = p })
pseudo-read g p t a d =
    stopped g [] (written_pseudo p ++ t) p a none (pseudo-stops p t d) (pseudo-found p t d)
    ∙ ap (λ (n : ℕ). reads n (record { components = reverse (in_order g); pseudo = p })) (omega (arith, pseudo-taken p))
