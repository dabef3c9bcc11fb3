-- S-6: "Every sheet accepted before gives the same rules and stop." The reading as it was before, and what became of it for every text: where it
-- did not panic, and where it panicked at a digit, nothing has changed; where it panicked at `=`, the last byte, reading now ends before that statement.
use mathlib.Core.Path.{◌≡◌, refl, sym, ap, subst, ◌∙◌}
use mathlib.Core.Bool.{Bool, true, false}
use mathlib.Core.List.{List, [], ◌∷◌, ◌++◌, map, reverse}
use mathlib.Core.Logic.{◌⊎◌, inl, inr, ⊎_elim}
use Prim.Native.Nat.{ℕ, zero, suc, ◌+◌, ◌-◌, ◌<◌}
use native.Mathlib.Omega.{arith}
use borrow.Author.Tests.{leb-true}
use lib.Dec.{leb}
use lib.ListN.{length, get_or, drop, length-drop, drop_of_length-le}
use lib.Seq.{get_or-drop, drop-drop}
use Prim.Native.Char.{code as ascii}
use Rattle.combinators.specs.Choice.{pick, or, and, is, within}
use Rattle.combinators.specs.Parsed as parser
use Rattle.combinators.specs.Parsed.{Parsed, ok, err, on_parsed}
use Rattle.combinators.specs.Repeat.{took, many, texts}
use Rattle.combinators.specs.Word.{starts_with}
use Rattle.combinators.proofs.Lists.{byte-there, first}
use Rattle.combinators.proofs.Rules.{pick-false, pick-holds, never, is_true}
use Rattle.characters.specs.Literal.{text}
use Rattle.characters.specs.Utf8.{utf8, taken_of}
use Rattle.lexer.specs.Name as name
use Rattle.lexer.specs.Name.{ident_of, name_of, name_from, dash, nmstart_of, folded_char, ident_escape_of, is_nmstart}
use Rattle.lexer.specs.Number.{is_digit}
use Rattle.lexer.specs.Token.{is_quote, string_of}
use Rattle.lexer.specs.Whitespace.{skip_whitespace, whitespace_item, is_whitespace, comment_of}
use Rattle.lexer.proofs.TokenBounds.{on-holds}
use Rattle.syntax.specs.Declaration.{Declaration}
use Rattle.syntax.specs.Selector.{Component, star, child, element, attribute, Selector, RuleSet}
use Rattle.selectors.specs.Outcome.{Outcome, reads, fails, panics, on_outcome, behind, parsed, or_else}
use Rattle.selectors.specs.Selector.{class_of, hash_of, closed, quoted_of, value_of, attr_of, pseudo_class_of, marked, blank_of, component_of, components_of, components_from, some_of, with_element_of, without_element_of, body_of, without_blank, pseudo_of, pseudo_taken, selector_of}
use Rattle.selectors.specs.SelectorList.{more_selectors, more_from, selectors_of}
use Rattle.sheets.specs.Sheet.{spaced, block_of, ruleset_of, statement_end, at_rule_of, statements_of, moved_by, sheet_from, sheet_of}
use Rattle.sheets.proofs.DigitPlaces.{AtDigit, digit-behind, digit-closed, digit_value, digit-component}

-- ---- the reading as it was: the definitions of crates/selectors/specs and specs/Sheet.antt, but that the crate panics where the text ends behind `=`

-- the value of an attribute at j, behind `=`
unfoldable pub value_before : List ℕ → ℕ → List ℕ → Outcome Component
value_before t j name = pick (leb (length t) j) (panics (j - 1)) (value_of t j name)

-- an attribute in brackets, by `parse_attr` as it was
unfoldable pub attr_before : List ℕ → Outcome Component
attr_before t =
    pick (is (get_or t 0 0) (ascii "["))
    (on_parsed (ident_of (drop 1 t))
    (λ n name. or_else (closed t (1 + n) (attribute name)) (pick (is (get_or t (1 + n) 0) (ascii "=")) (value_before t (2 + n) name) fails)) fails)
    fails

-- a component, where its alternative of an attribute comes to a
unfoldable pub component_with : Outcome Component → List ℕ → Outcome Component
component_with a t =
    or_else (marked t (ascii ">") child)
    (or_else (marked t (ascii "*") star)
    (or_else (blank_of t) (or_else (class_of t) (or_else a (or_else (hash_of t) (or_else (parsed 0 (ident_of t) element) (pseudo_class_of t)))))))

-- a component, by `parse_simple_selector_component` as it was
unfoldable pub component_before : List ℕ → Outcome Component
component_before t = component_with (attr_before t) t

-- components as long as they read
unfoldable pub components_before : ℕ → List ℕ → Outcome (List Component)
components_before zero t = reads 0 []
components_before (suc l) t =
    on_outcome (component_before t) (λ n c. behind n (components_before l (drop n t)) (λ cs. c ∷ cs)) (reads 0 []) (λ p. panics p)

-- `parse_selector_with_element`, or else `parse_selector_without_element`
unfoldable pub body_before : List ℕ → Outcome (List Component)
body_before t =
    or_else (on_parsed (ident_of t) (λ n name. behind n (components_before (length (drop n t)) (drop n t)) (λ cs. element name ∷ cs)) fails)
    (some_of (components_before (length t) t))

-- a selector with its pseudo element, by `parse_selector` as it was
unfoldable pub selector_before : List ℕ → Outcome Selector
selector_before t =
    on_outcome (body_before t)
    (λ n cs. let p = pseudo_of (drop n t) in
    reads (n + pseudo_taken p) (record { components = without_blank (reverse (without_blank cs)); pseudo = p })) fails (λ p. panics p)

-- selectors, parted by ','
unfoldable pub more_before : ℕ → List ℕ → Outcome (List Selector)
more_before zero t = reads 0 []
more_before (suc l) t =
    let w = 1 + skip_whitespace (drop 1 t) in
    pick (is (get_or t 0 0) (ascii ","))
    (on_outcome (selector_before (drop w t)) (λ n s. behind (w + n) (more_before l (drop (w + n) t)) (λ ss. s ∷ ss)) (reads 0 []) (λ p. panics (w + p)))
    (reads 0 [])

-- a list of selectors: the first, and further ones behind commas
unfoldable pub selectors_before : List ℕ → Outcome (List Selector)
selectors_before t =
    on_outcome (selector_before t) (λ n s. behind n (more_before (length (drop n t)) (drop n t)) (λ ss. s ∷ ss)) (reads 0 []) (λ p. panics p)

-- a rule: its selectors and its block, by `parse_ruleset` as it was
unfoldable pub ruleset_before : List ℕ → Outcome RuleSet
ruleset_before t =
    let w = skip_whitespace t in
    on_outcome (selectors_before (drop w t)) (λ n ss. behind 0 (block_of t (w + n)) (λ ds. record { selectors = ss; declarations = ds; start = w })) fails
    (λ p. panics (w + p))

-- a statement: a rule, or else an at-rule, by `parse_statement` as it was
unfoldable pub statements_before : List ℕ → Outcome (List RuleSet)
statements_before t = or_else (behind 0 (ruleset_before t) (λ r. r ∷ [])) (at_rule_of t)

-- statements as long as they read, by `parse_stylesheet` as it was
unfoldable pub sheet_from_before : ℕ → List ℕ → ℕ → Outcome (List RuleSet)
sheet_from_before zero t at = reads at []
sheet_from_before (suc l) t at =
    on_outcome (statements_before t)
    (λ n rs. behind 0 (sheet_from_before l (drop n t) (at + n)) (λ more. map (moved_by at) rs ++ more))
    (reads at []) (λ p. panics (at + p))

-- of a whole text
unfoldable pub sheet_before : List ℕ → Outcome (List RuleSet)
sheet_before s = sheet_from_before (length s) s 0

-- it panicked at the `=`
test-before : sheet_before (text "[a=") ≡ panics 2
unfolding sheet_before sheet_from_before statements_before ruleset_before selectors_before selector_before body_before components_before component_before component_with attr_before value_before closed some_of marked blank_of class_of on_outcome or_else behind parsed on_parsed text utf8 taken_of name.is_nmstart name.is_nmchar is_digit name.lower name.folded_char name.ident_escape_of name.nmstart_of name.nmchar_of name.bytes_of name.char_taken name.char_text name.chars_end name.chars_text name.name_from name.dash name.name_of name.ident_of parser.behind skip_whitespace many took texts whitespace_item is_whitespace comment_of pick or and within is
test-before = refl

-- ---- one outcome before, and one now

-- it panicked at p, the last byte of the text, which is `=`; of what it comes to now holds S
pub record Cut {A : Type 0} (S : Outcome A → Type 0) (t : List ℕ) (p : ℕ) (now : Outcome A) : Type 0 where
  pub last : p + 1 ≡ length t
  pub equals : get_or t p 0 ≡ ascii "="
  pub goes_on : S now

-- the same; where it panicked, at a digit, or it was cut
abbrev pub Compared : {A : Type 0} → (Outcome A → Type 0) → List ℕ → Outcome A → Outcome A → Type 0
Compared S t (reads n a) now = now ≡ reads n a
Compared S t fails now = now ≡ fails
Compared S t (panics p) now = ((now ≡ panics p) × (is_digit (get_or t p 0) ≡ true)) ⊎ Cut S t p now

-- what is the same is compared, where it panics at digits alone
same : {A : Type 0} (S : Outcome A → Type 0) (t : List ℕ) (o : Outcome A) → AtDigit t o → Compared S t o o
same S t (reads n a) h = refl
same S t fails h = refl
same S t (panics p) h = inl (refl, h)

-- a cut behind w bytes is one of the whole text
cut-from : {A B : Type 0} (S : Outcome A → Type 0) (S' : Outcome B → Type 0) (t : List ℕ) (w p q : ℕ) (o : Outcome A) (o' : Outcome B) → q ≡ w + p → (S o → S' o') → Cut S (drop w t) p o → Cut S' t q o'
cut-from S S' t w p q o o' e h c =
    record {
      last = omega (arith, c.last, length-drop w t);
      equals = ap (λ (k : ℕ). get_or t k 0) e ∙ sym (get_or-drop w t p 0) ∙ c.equals;
      goes_on = h c.goes_on;
    }

-- what follows a reading behind w bytes, by cases
module _ {A B : Type 0} (S : Outcome A → Type 0) (S' : Outcome B → Type 0) (t : List ℕ) (w : ℕ) (f f' : ℕ → A → Outcome B) (b : Outcome B) (g : ℕ → ℕ)
    (eg : (p : ℕ) → g p ≡ w + p) (kf : (n : ℕ) (a : A) → Compared S' t (f n a) (f' n a)) (kb : Compared S' t b b)
    (ks : (o : Outcome A) → S o → S' (on_outcome o f' b (λ p. panics (g p)))) where
  -- if the readings before and now compare, so does what follows them
  then-compared : (o o' : Outcome A) → Compared S (drop w t) o o' → Compared S' t (on_outcome o f b (λ p. panics (g p))) (on_outcome o' f' b (λ p. panics (g p)))
  unfolding on_outcome
  then-compared (reads n a) o' h = rw h (kf n a)
  then-compared fails o' h = rw h kb
  then-compared (panics p) o' (inl h) = rw h.0 (inl (refl, ap (λ (k : ℕ). is_digit (get_or t k 0)) (eg p) ∙ ap is_digit (sym (get_or-drop w t p 0)) ∙ h.1))
  then-compared (panics p) o' (inr c) = inr (cut-from S S' t w p (g p) o' _ (eg p) (ks o') c)

-- if the readings behind w bytes compare, so do those of the whole text
behind-compared : {A B : Type 0} (S : Outcome A → Type 0) (S' : Outcome B → Type 0) (t : List ℕ) (w : ℕ) (f : A → B) → ((o : Outcome A) → S o → S' (behind w o f))
    → (o o' : Outcome A) → Compared S (drop w t) o o' → Compared S' t (behind w o f) (behind w o' f)
unfolding behind
behind-compared S S' t w f h o o' c = then-compared S S' t w _ _ fails (λ p. w + p) (λ p. refl) (λ n a. refl) refl h o o' c

-- the first of two that reads
else-compared : {A : Type 0} (S S' : Outcome A → Type 0) (t : List ℕ) (o o' q q' : Outcome A) → ((x : Outcome A) → S x → S' (or_else x q')) → Compared S t o o' → Compared S' t q q'
    → Compared S' t (or_else o q) (or_else o' q')
unfolding or_else
else-compared S S' t (reads n a) o' q q' h c d = rw c refl
else-compared S S' t fails o' q q' h c d = rw c d
else-compared S S' t (panics p) o' q q' h (inl c) d = inl (rw c.0 refl, c.1)
else-compared S S' t (panics p) o' q q' h (inr c) d = inr (cut-from S S' t 0 p p o' _ (omega arith) (h o') c)

-- if both branches of a test compare, so does what the test picks
pick-compared : {A : Type 0} (S : Outcome A → Type 0) (t : List ℕ) (b : Bool) (x y x' y' : Outcome A) → (b ≡ true → Compared S t x x') → (b ≡ false → Compared S t y y')
    → Compared S t (pick b x y) (pick b x' y')
unfolding pick
pick-compared S t true x y x' y' h k = h refl
pick-compared S t false x y x' y' h k = k refl

-- if what follows a name compares, so does the name with it; without a name both fail
on-compared : {A : Type 0} (S : Outcome A → Type 0) (t : List ℕ) (p : Parsed (List ℕ)) (f f' : ℕ → List ℕ → Outcome A) → ((n : ℕ) (a : List ℕ) → Compared S t (f n a) (f' n a))
    → Compared S t (on_parsed p f fails) (on_parsed p f' fails)
unfolding on_parsed
on-compared S t (ok n a) f f' h = h n a
on-compared S t err f f' h = refl

-- ---- attributes and components: where one was cut, none is read now, and the text begins with `[`
abbrev NoneRead : {A : Type 0} → List ℕ → Outcome A → Type 0
NoneRead t o = (o ≡ fails) × (get_or t 0 0 ≡ ascii "[")

-- at the end of the text there is no value
no_value : (t : List ℕ) (j : ℕ) (name : List ℕ) → drop j t ≡ [] → value_of t j name ≡ fails
unfolding value_of quoted_of string_of is_quote ident_of name_of name_from dash nmstart_of folded_char ident_escape_of is_nmstart parser.behind skip_whitespace many on_parsed or_else pick or and within is
no_value t j name e = rw e

-- a value: where the text ends behind its `=`, it was cut
value-compared : (t : List ℕ) (j : ℕ) (name : List ℕ) → get_or t 0 0 ≡ ascii "[" → get_or t (1 + j) 0 ≡ ascii "=" → 1 + j < length t
    → Compared (NoneRead t) t (value_before t (2 + j) name) (value_of t (2 + j) name)
unfolding value_before
value-compared t j name b e l =
    pick-holds (λ (o : Outcome Component). Compared (NoneRead t) t o (value_of t (2 + j) name)) _ _ _
    (λ h. let m = leb-true (length t) (2 + j) h in
    inr (record { last = omega arith; equals = let q : 2 + j - 1 ≡ 1 + j = omega arith in rw q e; goes_on = (no_value t (2 + j) name (drop_of_length-le t m), b) }))
    (λ _. same (NoneRead t) t (value_of t (2 + j) name) (digit_value t (2 + j) name))

-- an attribute reads as before; where it was cut, none is read now
attr-compared : (t : List ℕ) → Compared (NoneRead t) t (attr_before t) (attr_of t)
unfolding attr_before attr_of
attr-compared t =
    pick-compared (NoneRead t) t _ _ _ _ _
    (λ b. on-compared (NoneRead t) t (ident_of (drop 1 t)) _ _
    (λ n name. else-compared (λ _. ⊥) (NoneRead t) t _ _ _ _ (λ _ h. absurd h) (same (λ _. ⊥) t (closed t (1 + n) (attribute name)) (digit-closed t (1 + n) (attribute name)))
    (pick-compared (NoneRead t) t _ _ _ _ _
    (λ e. value-compared t n name (is_true _ _ b) (is_true _ _ e) (byte-there t (1 + n) (ascii "=") (omega arith) e)) (λ _. refl))))
    (λ _. refl)

-- `[` begins no component but an attribute
bracket-alone : (l : List ℕ) (a : Outcome Component) → component_with a (ascii "[" ∷ l) ≡ a
unfolding component_with marked blank_of class_of hash_of pseudo_class_of or_else parsed on_parsed ident_of name_of name_from dash nmstart_of folded_char ident_escape_of is_nmstart parser.behind skip_whitespace many took whitespace_item is_whitespace comment_of pick or and within is
bracket-alone l (reads n c) = refl
bracket-alone l fails = refl
bracket-alone l (panics p) = refl

-- so where a text begins with `[`
bracket-first : (t : List ℕ) (a : Outcome Component) → is (get_or t 0 0) (ascii "[") ≡ true → component_with a t ≡ a
bracket-first [] a e = let z : 0 ≡ ascii "[" = is_true 0 _ e in absurd (omega arith)
bracket-first (x ∷ l) a e = let q : x ≡ ascii "[" = is_true x _ e in rw q (bracket-alone l a)

-- elsewhere there is no attribute
no-bracket : (t : List ℕ) → is (get_or t 0 0) (ascii "[") ≡ false → attr_before t ≡ attr_of t
unfolding attr_before attr_of pick
no-bracket t e = rw e

-- the alternatives as they are
component-with : (t : List ℕ) → component_with (attr_of t) t ≡ component_of t
unfolding component_with component_of
component-with t = refl

-- a component reads as before; where it was cut, none is read now
component-compared : (t : List ℕ) → Compared (NoneRead t) t (component_before t) (component_of t)
unfolding component_before
component-compared t = go (is (get_or t 0 0) (ascii "[")) refl
  where
    go : (b : Bool) → is (get_or t 0 0) (ascii "[") ≡ b → Compared (NoneRead t) t (component_with (attr_before t) t) (component_of t)
    go true e = rw (← component-with t, bracket-first t (attr_before t) e, bracket-first t (attr_of t) e) (attr-compared t)
    go false e = rw (no-bracket t e, component-with t) (same (NoneRead t) t (component_of t) (digit-component t))

-- ---- selectors: where one was cut, reading now ends before its `[`

-- the byte before which it ends
abbrev Opening : ℕ → Type 0
Opening x = x ≡ ascii "["

-- it reads up to a byte that Q holds of
abbrev ReadsTo : {A : Type 0} → (ℕ → Type 0) → List ℕ → Outcome A → Type 0
ReadsTo Q t (reads n a) = Q (get_or t n 0)
ReadsTo Q t fails = ⊥
ReadsTo Q t (panics p) = ⊥

-- or does not read, at such a byte
abbrev StopsAt : {A : Type 0} → (ℕ → Type 0) → List ℕ → Outcome A → Type 0
StopsAt Q t (reads n a) = Q (get_or t n 0)
StopsAt Q t fails = Q (get_or t 0 0)
StopsAt Q t (panics p) = ⊥

-- components up to a `[`; none take nothing
abbrev ComponentsTo : List ℕ → Outcome (List Component) → Type 0
ComponentsTo t (reads n cs) = Opening (get_or t n 0) × (length cs ≡ 0 → n ≡ 0)
ComponentsTo t fails = ⊥
ComponentsTo t (panics p) = ⊥

-- there where the first does not read
none-components : (t : List ℕ) (f : ℕ → Component → Outcome (List Component)) (g : ℕ → Outcome (List Component)) (o : Outcome Component) → NoneRead t o
    → ComponentsTo t (on_outcome o f (reads 0 []) g)
unfolding on_outcome
none-components t f g o h = rw h.0 (h.1, λ _. refl)

-- one, and more behind it
next-components : (t : List ℕ) (n : ℕ) (c : Component) (o : Outcome (List Component)) → ComponentsTo (drop n t) o → ComponentsTo t (behind n o (λ cs. c ∷ cs))
unfolding behind on_outcome
next-components t n c (reads m cs) h = (sym (get_or-drop n t m 0) ∙ h.0, λ (e : length (c ∷ cs) ≡ 0). absurd (omega arith))
next-components t n c fails h = h
next-components t n c (panics p) h = h

-- as many as read
components-compared : (l : ℕ) (t : List ℕ) → Compared (ComponentsTo t) t (components_before l t) (components_of l t)
unfolding components_before components_of
components-compared zero t = refl
components-compared (suc l) t =
    then-compared (NoneRead t) (ComponentsTo t) t 0 _ _ (reads 0 []) (λ p. p) (λ p. omega arith)
    (λ n c. behind-compared (ComponentsTo (drop n t)) (ComponentsTo t) t n _ (next-components t n c) _ _ (components-compared l (drop n t)))
    refl (none-components t _ _) _ _ (component-compared t)

-- one component or more
some-stops : (t : List ℕ) (o : Outcome (List Component)) → ComponentsTo t o → StopsAt Opening t (some_of o)
unfolding some_of on_outcome
some-stops t (reads n cs) h =
    pick-holds (StopsAt Opening t) (is (length cs) 0) _ _ (λ e. subst (λ (k : ℕ). Opening (get_or t k 0)) (h.1 (is_true _ _ e)) h.0) (λ _. h.0)
some-stops t fails h = absurd h
some-stops t (panics p) h = h

-- one or more, compared
some-compared : (t : List ℕ) (o o' : Outcome (List Component)) → Compared (ComponentsTo t) t o o' → Compared (StopsAt Opening t) t (some_of o) (some_of o')
unfolding some_of
some-compared t o o' c =
    then-compared (ComponentsTo t) (StopsAt Opening t) t 0 _ _ fails (λ p. p) (λ p. omega arith)
    (λ n cs. same (StopsAt Opening t) t (pick (is (length cs) 0) fails (reads n cs)) (pick-holds (AtDigit t) _ _ _ (λ _. tt) (λ _. tt))) refl (some-stops t) o o' c

-- components that end before a `[` do so behind a type selector
element-reads : (t : List ℕ) (n : ℕ) (name : List ℕ) (o : Outcome (List Component)) → ComponentsTo (drop n t) o → ReadsTo Opening t (behind n o (λ cs. element name ∷ cs))
unfolding behind on_outcome
element-reads t n name (reads m cs) h = sym (get_or-drop n t m 0) ∙ h.0
element-reads t n name fails h = h
element-reads t n name (panics p) h = h

-- a type selector and components, compared
element-compared : (t : List ℕ)
    → Compared (ReadsTo Opening t) t (on_parsed (ident_of t) (λ n name. behind n (components_before (length (drop n t)) (drop n t)) (λ cs. element name ∷ cs)) fails) (with_element_of t)
unfolding with_element_of components_from
element-compared t =
    on-compared (ReadsTo Opening t) t (ident_of t) _ _
    (λ n name. behind-compared (ComponentsTo (drop n t)) (ReadsTo Opening t) t n _ (element-reads t n name) _ _ (components-compared (length (drop n t)) (drop n t)))

-- what reads is the choice
read_stays : {A : Type 0} (t : List ℕ) (q x : Outcome A) → ReadsTo Opening t x → StopsAt Opening t (or_else x q)
unfolding or_else
read_stays t q (reads n a) h = h
read_stays t q fails h = absurd h
read_stays t q (panics p) h = h

-- with a type selector or without
body-compared : (t : List ℕ) → Compared (StopsAt Opening t) t (body_before t) (body_of t)
unfolding body_before body_of without_element_of components_from
body-compared t =
    else-compared (ReadsTo Opening t) (StopsAt Opening t) t _ _ _ _ (read_stays t _) (element-compared t) (some-compared t _ _ (components-compared (length t) t))

-- `[` begins no pseudo element
no-pseudo : (u : List ℕ) → Opening (get_or u 0 0) → pseudo_taken (pseudo_of u) ≡ 0
unfolding pseudo_of pseudo_taken starts_with text utf8 pick and is
no-pseudo [] e = refl
no-pseudo (x ∷ u) e = let q : x ≡ ascii "[" = e in rw q

-- a selector of components that end at n
abbrev selector_end : List ℕ → ℕ → List Component → Outcome Selector
selector_end t n cs = reads (n + pseudo_taken (pseudo_of (drop n t))) (record { components = without_blank (reverse (without_blank cs)); pseudo = pseudo_of (drop n t) })

-- it ends where its components do
selector-stops : (t : List ℕ) (o : Outcome (List Component)) → StopsAt Opening t o → StopsAt {A = Selector} Opening t (on_outcome o (selector_end t) fails (λ p. panics p))
unfolding on_outcome
selector-stops t (reads n cs) h =
    let e : n + pseudo_taken (pseudo_of (drop n t)) ≡ n = omega (arith, no-pseudo (drop n t) (first t n ∙ h)) in
    subst (λ (k : ℕ). Opening (get_or t k 0)) (sym e) h
selector-stops t fails h = h
selector-stops t (panics p) h = h

-- a selector reads as before; where it was cut, reading now stops at a `[`
selector-compared : (t : List ℕ) → Compared (StopsAt Opening t) t (selector_before t) (selector_of t)
unfolding selector_before selector_of
selector-compared t =
    then-compared (StopsAt Opening t) (StopsAt Opening t) t 0 _ _ fails (λ p. p) (λ p. omega arith) (λ n cs. refl) refl (selector-stops t) _ _ (body-compared t)

-- ---- lists of selectors: it ends before a `[`, or before the ',' that no selector follows
abbrev Barring : ℕ → Type 0
Barring x = (x ≡ ascii "[") ⊎ (x ≡ ascii ",")

-- what reads up to a `[` or a ',' behind k bytes does so in the whole text
bar-behind : {A B : Type 0} (t : List ℕ) (k : ℕ) (f : A → B) (o : Outcome A) → ReadsTo Barring (drop k t) o → ReadsTo Barring t (behind k o f)
unfolding behind on_outcome
bar-behind t k f (reads n a) h = subst Barring (get_or-drop k t n 0) h
bar-behind t k f fails h = h
bar-behind t k f (panics p) h = h

-- no further selector follows a `[`
more-none : (l : ℕ) (u : List ℕ) → Opening (get_or u 0 0) → more_selectors l u ≡ reads 0 []
unfolding more_selectors pick is
more-none zero u e = refl
more-none (suc l) u e = rw e

-- a selector at w that ends before a `[` is the last one
last-reads : (l : ℕ) (t : List ℕ) (k : ℕ) (x : Selector) → Opening (get_or t k 0) → ReadsTo Barring t (behind k (more_selectors l (drop k t)) (λ xs. x ∷ xs))
unfolding behind on_outcome
last-reads l t k x b = rw (more-none l (drop k t) (first t k ∙ b)) (let e : k + 0 ≡ k = omega arith in subst (λ (i : ℕ). Barring (get_or t i 0)) (sym e) (inl b))

-- what follows a ',' ends before a `[`, or before that ','
more-reads : (l : ℕ) (t : List ℕ) (w : ℕ) → get_or t 0 0 ≡ ascii "," → (o : Outcome Selector) → StopsAt Opening (drop w t) o
    → ReadsTo Barring t (on_outcome o (λ n s. behind (w + n) (more_selectors l (drop (w + n) t)) (λ ss. s ∷ ss)) (reads 0 []) (λ p. panics (w + p)))
unfolding on_outcome
more-reads l t w e (reads n x) h = last-reads l t (w + n) x (sym (get_or-drop w t n 0) ∙ h)
more-reads l t w e fails h = inr e
more-reads l t w e (panics p) h = absurd h

-- further selectors read as before; where they were cut, reading now ends before a `[` or a ','
more-compared : (l : ℕ) (t : List ℕ) → Compared (ReadsTo Barring t) t (more_before l t) (more_selectors l t)
unfolding more_before more_selectors
more-compared zero t = refl
more-compared (suc l) t =
    let w = 1 + skip_whitespace (drop 1 t) in
    pick-compared (ReadsTo Barring t) t _ _ _ _ _
    (λ e. then-compared (StopsAt Opening (drop w t)) (ReadsTo Barring t) t w _ _ (reads 0 []) (λ p. w + p) (λ p. refl)
    (λ n s. behind-compared (ReadsTo Barring (drop (w + n) t)) (ReadsTo Barring t) t (w + n) _ (bar-behind t (w + n) _) _ _ (more-compared l (drop (w + n) t)))
    refl (more-reads l t w (is_true _ _ e)) _ _ (selector-compared (drop w t)))
    (λ _. refl)

-- the first selector ends before a `[`, or is none
first_reads : (t : List ℕ) (o : Outcome Selector) → StopsAt Opening t o
    → ReadsTo Barring t (on_outcome o (λ n s. behind n (more_selectors (length (drop n t)) (drop n t)) (λ ss. s ∷ ss)) (reads 0 []) (λ p. panics p))
unfolding on_outcome
first_reads t (reads n x) h = last-reads (length (drop n t)) t n x h
first_reads t fails h = inl h
first_reads t (panics p) h = absurd h

-- a list of selectors reads as before; where it was cut, reading now ends before a `[` or a ','
selectors-compared : (t : List ℕ) → Compared (ReadsTo Barring t) t (selectors_before t) (selectors_of t)
unfolding selectors_before selectors_of more_from
selectors-compared t =
    then-compared (StopsAt Opening t) (ReadsTo Barring t) t 0 _ _ (reads 0 []) (λ p. p) (λ p. omega arith)
    (λ n s. behind-compared (ReadsTo Barring (drop n t)) (ReadsTo Barring t) t n _ (bar-behind t n _) _ _ (more-compared (length (drop n t)) (drop n t)))
    refl (first_reads t) _ _ (selector-compared t)

-- ---- rules and statements: where one was cut, none is read now
abbrev Failing : {A : Type 0} → Outcome A → Type 0
Failing o = o ≡ fails

-- such a byte begins no white space
no-white : (u : List ℕ) → Barring (get_or u 0 0) → skip_whitespace u ≡ 0
unfolding skip_whitespace many took whitespace_item is_whitespace comment_of pick or and within is
no-white [] h = refl
no-white (x ∷ u) (inl e) = let q : x ≡ ascii "[" = e in rw q
no-white (x ∷ u) (inr e) = let q : x ≡ ascii "," = e in rw q

-- and is no '{'
no-brace : (x : ℕ) → Barring x → is x (ascii "{") ≡ false
unfolding is
no-brace x (inl e) = rw e
no-brace x (inr e) = rw e

-- so none is passed over
no-space : (t : List ℕ) (n : ℕ) → Barring (get_or t n 0) → spaced t n ≡ n
unfolding spaced
no-space t n h = omega (arith, no-white (drop n t) (subst Barring (sym (first t n)) h))

-- and there is no block
no_block : (t : List ℕ) (n : ℕ) → Barring (get_or t n 0) → block_of t n ≡ fails
unfolding block_of
no_block t n h = sym (pick-false _ _ _ _ (ap (λ (k : ℕ). is (get_or t k 0) (ascii "{")) (no-space t n h) ∙ no-brace _ h) refl)

-- a block never panics
digit-block : {B : Type 0} (t : List ℕ) (n : ℕ) (f : List Declaration → B) → AtDigit t (behind 0 (block_of t n) f)
unfolding block_of
digit-block t n f = digit-behind t 0 (block_of t n) f (pick-holds (AtDigit t) _ _ _ (λ _. pick-holds (AtDigit t) _ _ _ (λ _. tt) (λ _. tt)) (λ _. tt))

-- there is no rule
no-rule : (t : List ℕ) (w : ℕ) (f : List Selector → List Declaration → RuleSet) (o : Outcome (List Selector)) → ReadsTo Barring (drop w t) o
    → Failing (on_outcome o (λ n ss. behind 0 (block_of t (w + n)) (f ss)) fails (λ p. panics (w + p)))
unfolding on_outcome behind
no-rule t w f (reads n ss) h = rw (no_block t (w + n) (subst Barring (get_or-drop w t n 0) h))
no-rule t w f fails h = refl
no-rule t w f (panics p) h = absurd h

-- a rule of selectors and declarations, at w
abbrev rule_at : ℕ → List Selector → List Declaration → RuleSet
rule_at w ss ds = record { selectors = ss; declarations = ds; start = w }

-- a rule, where its selectors are compared
rule-compared : (S : Outcome (List Selector) → Type 0) (S' : Outcome RuleSet → Type 0) (t : List ℕ)
    → ((o : Outcome (List Selector)) → S o
    → S' (on_outcome o (λ n ss. behind 0 (block_of t (skip_whitespace t + n)) (rule_at (skip_whitespace t) ss)) fails (λ p. panics (skip_whitespace t + p))))
    → Compared S (drop (skip_whitespace t) t) (selectors_before (drop (skip_whitespace t) t)) (selectors_of (drop (skip_whitespace t) t)) → Compared S' t (ruleset_before t) (ruleset_of t)
unfolding ruleset_before ruleset_of
rule-compared S S' t h c =
    let w = skip_whitespace t in
    let f : ℕ → List Selector → Outcome RuleSet = λ n ss. behind 0 (block_of t (w + n)) (rule_at w ss) in
    then-compared S S' t w f f fails (λ p. w + p) (λ p. refl) (λ n ss. same S' t (f n ss) (digit-block t (w + n) (rule_at w ss))) refl h _ _ c

-- '@' begins no selector
at_first : (l : List ℕ) → (selectors_before (ascii "@" ∷ l) ≡ reads 0 []) × (selectors_of (ascii "@" ∷ l) ≡ reads 0 [])
unfolding selectors_before selector_before body_before components_before component_before component_with attr_before selectors_of selector_of body_of with_element_of without_element_of some_of components_from components_of component_of marked blank_of class_of attr_of hash_of pseudo_class_of on_outcome or_else parsed on_parsed ident_of name_of name_from dash nmstart_of folded_char ident_escape_of is_nmstart parser.behind skip_whitespace many took whitespace_item is_whitespace comment_of pick or and within is
at_first l = (refl, refl)

-- so where a text begins with it
at_none : (u : List ℕ) → is (get_or u 0 0) (ascii "@") ≡ true → (selectors_before u ≡ reads 0 []) × (selectors_of u ≡ reads 0 [])
at_none [] e = let z : 0 ≡ ascii "@" = is_true 0 _ e in absurd (omega arith)
at_none (x ∷ l) e = let q : x ≡ ascii "@" = is_true x _ e in rw q (at_first l)

-- an at-rule never panics
digit-at-rule : (t : List ℕ) → AtDigit t (at_rule_of t)
unfolding at_rule_of statement_end
digit-at-rule t =
    pick-holds (AtDigit t) _ _ _ (λ _. on-holds (AtDigit t) _ _ _ (λ n name _. pick-holds (AtDigit t) _ _ _ (λ _. tt) (λ _. tt)) (λ _. tt)) (λ _. tt)

-- without '@' there is none
no-at-rule : (t : List ℕ) → is (get_or t (skip_whitespace t) 0) (ascii "@") ≡ false → at_rule_of t ≡ fails
unfolding at_rule_of
no-at-rule t e = sym (pick-false _ _ _ _ e refl)

-- what fails leaves the choice to the other
failing-else : {A : Type 0} (q x : Outcome A) → q ≡ fails → Failing x → Failing (or_else x q)
unfolding or_else
failing-else q x e h = rw (h, e)

-- and fails behind 0 bytes
failing-behind : {A B : Type 0} (f : A → B) (o : Outcome A) → Failing o → Failing (behind 0 o f)
unfolding behind on_outcome
failing-behind f o h = rw h

-- a statement reads as before; where it was cut, none is read now
statements-compared : (t : List ℕ) → Compared Failing t (statements_before t) (statements_of t)
unfolding statements_before statements_of
statements-compared t = go (is (get_or t (skip_whitespace t) 0) (ascii "@")) refl
  where
    go : (b : Bool) → is (get_or t (skip_whitespace t) 0) (ascii "@") ≡ b
        → Compared Failing t (or_else (behind 0 (ruleset_before t) (λ r. r ∷ [])) (at_rule_of t)) (or_else (behind 0 (ruleset_of t) (λ r. r ∷ [])) (at_rule_of t))
    go true e =
        let a = at_none (drop (skip_whitespace t) t) (ap (λ (x : ℕ). is x (ascii "@")) (first t (skip_whitespace t)) ∙ e) in
        else-compared (λ _. ⊥) Failing t _ _ _ _ (λ _ h. absurd h)
        (behind-compared (λ _. ⊥) (λ _. ⊥) t 0 _ (λ _ h. h) _ _ (rule-compared (λ _. ⊥) (λ _. ⊥) t (λ _ h. h) (rw (a.0, a.1) refl)))
        (same Failing t (at_rule_of t) (digit-at-rule t))
    go false e =
        else-compared Failing Failing t _ _ _ _ (λ x h. failing-else _ x (no-at-rule t e) h)
        (behind-compared Failing Failing t 0 _ (failing-behind _) _ _ (rule-compared (ReadsTo Barring (drop (skip_whitespace t) t)) Failing t (no-rule t (skip_whitespace t) (rule_at (skip_whitespace t))) (selectors-compared (drop (skip_whitespace t) t))))
        (same Failing t (at_rule_of t) (digit-at-rule t))

-- ---- sheets
-- it does not panic
abbrev pub Calm : {A : Type 0} → Outcome A → Type 0
Calm (reads n a) = Unit
Calm fails = Unit
Calm (panics p) = ⊥

-- what does not panic does not panic behind 0 bytes
calm-behind : {A B : Type 0} (f : A → B) (o : Outcome A) → Calm o → Calm (behind 0 o f)
unfolding behind on_outcome
calm-behind f (reads n a) h = tt
calm-behind f fails h = tt
calm-behind f (panics p) h = h

-- where a statement fails the sheet ends
calm-end : {A B : Type 0} (at : ℕ) (b : B) (f : ℕ → A → Outcome B) (g : ℕ → Outcome B) (o : Outcome A) → Failing o → Calm (on_outcome o f (reads at b) g)
unfolding on_outcome
calm-end at b f g o h = rw h tt

-- statements from a byte on
from-compared : (l : ℕ) (s : List ℕ) (at : ℕ) → Compared Calm s (sheet_from_before l (drop at s) at) (sheet_from l (drop at s) at)
unfolding sheet_from_before sheet_from
from-compared zero s at = refl
from-compared (suc l) s at =
    then-compared Failing Calm s at _ _ (reads at []) (λ p. at + p) (λ p. refl)
    (λ n rs. behind-compared Calm Calm s 0 _ (calm-behind _) _ _ (rw (drop-drop n at s) (from-compared l s (at + n))))
    refl (calm-end at [] _ _) _ _ (statements-compared (drop at s))

-- a whole sheet reads as before; where it was cut, reading now does not panic
sheet-compared : (s : List ℕ) → Compared Calm s (sheet_before s) (sheet_of s)
unfolding sheet_before sheet_of
sheet-compared s = from-compared (length s) s 0

-- ---- what is shown of S-6, for every text

-- where the reading did not panic, the rules and the stop are the same
pub same-rules : (s : List ℕ) (n : ℕ) (rs : List RuleSet) → sheet_before s ≡ reads n rs → sheet_of s ≡ reads n rs
same-rules s n rs e = subst (λ (o : Outcome (List RuleSet)). Compared Calm s o (sheet_of s)) e (sheet-compared s)

-- `=` is no digit
no_digit : (x : ℕ) → x ≡ ascii "=" → is_digit x ≡ false
unfolding is_digit within and
no_digit x e = rw e

module _ (s : List ℕ) (p : ℕ) (e : sheet_before s ≡ panics p) where
  -- a sheet that panicked did so at a digit, where it still panics, or was cut
  was : ((sheet_of s ≡ panics p) × (is_digit (get_or s p 0) ≡ true)) ⊎ Cut Calm s p (sheet_of s)
  was = subst (λ (o : Outcome (List RuleSet)). Compared Calm s o (sheet_of s)) e (sheet-compared s)

  -- it panicked at a digit or at `=`
  pub panicked-there : (is_digit (get_or s p 0) ≡ true) ⊎ (get_or s p 0 ≡ ascii "=")
  panicked-there = ⊎_elim (λ h. inl h.1) (λ c. inr c.equals) was

  -- where it panicked at a digit, it panics at the same byte
  pub same-refusal : is_digit (get_or s p 0) ≡ true → sheet_of s ≡ panics p
  same-refusal d = ⊎_elim (λ h. h.0) (λ c. never (sym (no_digit _ c.equals) ∙ d)) was

  -- where it panicked at `=`, that is the last byte, and it does not panic
  pub now-calm : get_or s p 0 ≡ ascii "=" → (p + 1 ≡ length s) × Calm (sheet_of s)
  now-calm q = ⊎_elim (λ h. never (sym (no_digit _ q) ∙ h.1)) (λ c. (c.last, c.goes_on)) was

-- "Refusal 4 remains for nth-child digits alone": where reading panics there is a digit
pub panics-at-digits : (s : List ℕ) (p : ℕ) → sheet_of s ≡ panics p → is_digit (get_or s p 0) ≡ true
panics-at-digits s p e = go (sheet_before s) (subst (λ (o : Outcome (List RuleSet)). Compared Calm s (sheet_before s) o) e (sheet-compared s))
  where
    go : (o : Outcome (List RuleSet)) → Compared Calm s o (panics p) → is_digit (get_or s p 0) ≡ true
    go (reads n rs) h = absurd (subst Calm (sym h) tt)
    go fails h = absurd (subst Calm (sym h) tt)
    go (panics q) (inl h) = let z = h.0 in let k : p ≡ q = cc in rw k h.1
    go (panics q) (inr c) = absurd c.goes_on
