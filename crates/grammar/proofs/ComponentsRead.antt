-- One component at the start of a text: what the reader of components takes for each part of a selector.
use mathlib.Core.Path.{◌≡◌, refl, ap, sym, ◌∙◌}
use mathlib.Core.Bool.{true, false}
use mathlib.Core.List.{List, [], ◌∷◌, ◌++◌, append_assoc}
use Prim.Native.Nat.{ℕ, suc, ◌+◌, ◌≤◌}
use native.Mathlib.Nat.{zero-add, add-zero}
use native.Mathlib.Omega.{arith}
use borrow.Author.Tests.{le-leb}
use lib.ListN.{length, get_or, drop, length-append}
use lib.Seq.{get_or-drop, get_or-append_seam, get_or-append-add, drop-append-add}
use Prim.Native.Char.{code as ascii}
use Rattle.combinators.specs.Choice.{pick, or, and, is, within}
use Rattle.combinators.specs.Parsed.{ok, err, on_parsed, behind}
use Rattle.combinators.specs.Repeat.{many, took}
use Rattle.characters.specs.Literal.{text}
use Rattle.lexer.specs.Name.{is_nmstart, folded_char, ident_escape_of, nmstart_of, name_from, dash, name_of, ident_of, identstring_of}
use Rattle.lexer.specs.Token.{is_quote, string_of}
use Rattle.lexer.specs.Whitespace.{is_whitespace, comment_of, whitespace_item, skip_whitespace}
use Rattle.lexer.proofs.SyntaxName.{IdentSequence, started, dashed, ident_start, ident_code_point, letter, start-code-point, hyphen-code-point, sequence-unskipped, ident-sequence, ident-string}
use Rattle.lexer.proofs.SyntaxWhitespace.{Blank, none, skips-blank}
use Rattle.syntax.specs.Selector.{Component, star, class, element, hash, child, descendant, attribute, attribute_equal}
use Rattle.selectors.specs.Outcome.{reads, fails, parsed, or_else}
use Rattle.selectors.specs.Selector.{class_of, hash_of, closed, quoted_from, quoted_of, value_of, attr_of, pseudo_class_of, marked, blank_of, component_of}
use Rattle.grammar.specs.Nth.{Blanks, Argument, written_argument, means_argument}
use Rattle.grammar.proofs.NthRead.{args_read, pseudo-by}
use Rattle.grammar.proofs.StringsRead.{quoted-read}
use Rattle.grammar.proofs.Places.{differs}
use Rattle.grammar.specs.Selectors.{Name, Quoted}

-- a name ends before t, and is not a function's
pub record Ended (t : List ℕ) : Type 0 where
  pub no-character : ident_code_point (get_or t 0 0) ≡ false
  pub no-escape : ¬ (get_or t 0 0 ≡ ascii "\\")
  pub no-round : is (get_or t 0 0) (ascii "(") ≡ false

module _ (n : Name) (t : List ℕ) (h : Ended t) where
  -- a name is read as it is written
  pub name-read : ident_of (n.bytes ++ t) ≡ ok (length n.bytes) n.bytes
  name-read = ident-sequence n.bytes t n.sequence h.no-character h.no-escape ∙ rw n.small

  -- and behind a number sign
  pub string-read : identstring_of (n.bytes ++ t) ≡ ok (length n.bytes) n.bytes
  string-read = ident-string n.bytes t n.sequence h.no-character h.no-escape ∙ rw n.small

  -- a full stop and a name are read as a class
  pub class-read : component_of (ascii "." ∷ (n.bytes ++ t)) ≡ reads (1 + length n.bytes) (class n.bytes)
  unfolding component_of marked blank_of class_of or_else parsed skip_whitespace many took whitespace_item is_whitespace comment_of pick or is
  class-read = rw name-read

  -- a number sign and a name are read as an id
  pub id-read : component_of (ascii "#" ∷ (n.bytes ++ t)) ≡ reads (1 + length n.bytes) (hash n.bytes)
  unfolding component_of marked blank_of class_of attr_of hash_of or_else parsed skip_whitespace many took whitespace_item is_whitespace comment_of pick or is
  id-read = rw string-read

-- no mark of a selector may be in a name
pub marks : (ident_code_point (ascii ">") ≡ false) × (ident_code_point (ascii "*") ≡ false) × (ident_code_point (ascii ".") ≡ false)
    × (ident_code_point (ascii "[") ≡ false) × (ident_code_point (ascii "#") ≡ false)
unfolding ident_code_point ident_start letter or and within is
marks = (refl, refl, refl, refl, refl)

-- a name, by its first byte
name-component : (x : ℕ) (l : List ℕ) (n : ℕ) (b : List ℕ) → ident_code_point x ≡ true → skip_whitespace (x ∷ l) ≡ 0 → ident_of (x ∷ l) ≡ ok n b
    → component_of (x ∷ l) ≡ reads n (element b)
unfolding component_of marked blank_of class_of attr_of hash_of or_else parsed pick
name-component x l n b e z p =
    rw (
      z,
      differs ident_code_point x (ascii ">") e marks.0,
      differs ident_code_point x (ascii "*") e marks.1,
      differs ident_code_point x (ascii ".") e marks.2,
      differs ident_code_point x (ascii "[") e marks.3,
      differs ident_code_point x (ascii "#") e marks.4,
      p,
      zero-add n,
    )

-- a type selector: a name that ends there, with no bracket or mark before it
module _ (n : Name) (t : List ℕ) (h : Ended t) where
  -- by how the name starts
  by-start : (bytes : List ℕ) → IdentSequence bytes → ident_of (bytes ++ t) ≡ ok (length bytes) bytes → component_of (bytes ++ t) ≡ reads (length bytes) (element bytes)
  by-start _ (started {x} {r} e s) p = name-component x (r ++ t) _ _ (start-code-point x e) (sequence-unskipped (started e s) t) p
  by-start _ (dashed {x} {r} e s) p = name-component (ascii "-") (x ∷ (r ++ t)) _ _ hyphen-code-point (sequence-unskipped (dashed e s) t) p

  -- a name alone is read as an element
  pub element-read : component_of (n.bytes ++ t) ≡ reads (length n.bytes) (element n.bytes)
  element-read = by-start n.bytes n.sequence (name-read n t h)

-- ---- combinators
-- white space does not begin with `>` or `*`
mark-items : (l : List ℕ) → (whitespace_item (ascii ">" ∷ l) ≡ 0) × (whitespace_item (ascii "*" ∷ l) ≡ 0)
unfolding whitespace_item is_whitespace comment_of pick or is
mark-items l = (refl, refl)

-- the byte behind white space
pub behind-blank : (b t : List ℕ) → get_or (b ++ t) (length b) 0 ≡ get_or t 0 0
behind-blank b t = ap (λ (i : ℕ). get_or (b ++ t) i 0) (sym (add-zero (length b))) ∙ get_or-append-add b t 0 0

-- `>`, and the white space around it
pub child-read : (b c t : List ℕ) → Blank b → Blank c → whitespace_item t ≡ 0 → component_of (b ++ (ascii ">" ∷ (c ++ t))) ≡ reads (length b + 1 + length c) child
unfolding component_of marked or_else pick is
child-read b c t hb hc e =
    rw (
      skips-blank b (ascii ">" ∷ (c ++ t)) hb (mark-items (c ++ t)).0,
      get_or-append_seam b (ascii ">") (c ++ t) 0,
      drop-append-add b (ascii ">" ∷ (c ++ t)) 1,
      skips-blank c t hc e,
    )

-- `*`, and the white space behind it
pub star-read : (c t : List ℕ) → Blank c → whitespace_item t ≡ 0 → component_of (ascii "*" ∷ (c ++ t)) ≡ reads (1 + length c) star
unfolding component_of marked or_else pick is
star-read c t h e = rw (skips-blank [] (ascii "*" ∷ (c ++ t)) none (mark-items (c ++ t)).1, skips-blank c t h e)

-- white space that no `>` and no `*` follows
pub blank-read : (b t : List ℕ) → Blank b → 1 ≤ length b → whitespace_item t ≡ 0 → is (get_or t 0 0) (ascii ">") ≡ false → is (get_or t 0 0) (ascii "*") ≡ false
    → component_of (b ++ t) ≡ reads (length b) descendant
unfolding component_of marked blank_of or_else pick
blank-read b t h k e g a = rw (skips-blank b t h e, behind-blank b t, g, a, le-leb 1 (length b) k)

-- ---- attributes
-- a name ends before `]` and before `=`
bracket-ended : (t : List ℕ) → Ended (ascii "]" ∷ t)
unfolding ident_code_point ident_start letter or and within is
bracket-ended t = record { no-character = refl; no-escape = λ q. omega arith; no-round = refl }

-- nor does it go on at `=`
equals-ended : (t : List ℕ) → Ended (ascii "=" ∷ t)
unfolding ident_code_point ident_start letter or and within is
equals-ended t = record { no-character = refl; no-escape = λ q. omega arith; no-round = refl }

-- what `[` begins is an attribute
bracket-component : (l : List ℕ) (n : ℕ) (c : Component) → attr_of (ascii "[" ∷ l) ≡ reads n c → component_of (ascii "[" ∷ l) ≡ reads n c
unfolding component_of marked blank_of class_of or_else skip_whitespace many took whitespace_item is_whitespace comment_of pick or is
bracket-component l n c e = rw e

-- the byte behind `[` and a name
behind-name : (x : ℕ) (b : List ℕ) (y : ℕ) (t : List ℕ) → get_or (x ∷ (b ++ (y ∷ t))) (1 + length b) 0 ≡ y
behind-name x b y t =
    let e : 1 + length b ≡ suc (length b) = omega arith in
    ap (λ (i : ℕ). get_or (x ∷ (b ++ (y ∷ t))) i 0) e ∙ get_or-append_seam (x ∷ b) y t 0

-- at the closing bracket the component ends
closed-read : (t : List ℕ) (j : ℕ) (c : Component) → get_or t j 0 ≡ ascii "]" → closed t j c ≡ reads (j + 1) c
unfolding closed pick is
closed-read t j c e = rw e

-- where an `=` stands in the place of the bracket, nothing is closed there
closed-fails : (t : List ℕ) (j : ℕ) (c : Component) → get_or t j 0 ≡ ascii "=" → closed t j c ≡ fails
unfolding closed pick is
closed-fails t j c e = rw e

module _ (n : Name) (t : List ℕ) where
  -- a name in brackets is read as an attribute
  attr-alone : attr_of (ascii "[" ∷ (n.bytes ++ (ascii "]" ∷ t))) ≡ reads (1 + length n.bytes + 1) (attribute n.bytes)
  unfolding attr_of on_parsed or_else pick is
  attr-alone =
      rw (
        name-read n (ascii "]" ∷ t) (bracket-ended t),
        closed-read _ (1 + length n.bytes) (attribute n.bytes) (behind-name (ascii "[") n.bytes (ascii "]") t),
      )

  -- so the component is read
  pub attribute-read : component_of (ascii "[" ∷ (n.bytes ++ (ascii "]" ∷ t))) ≡ reads (1 + length n.bytes + 1) (attribute n.bytes)
  attribute-read = bracket-component _ _ _ attr-alone

  -- `=` behind its name: the value that follows
  attr-value : attr_of (ascii "[" ∷ (n.bytes ++ (ascii "=" ∷ t)))
      ≡ value_of (ascii "[" ∷ (n.bytes ++ (ascii "=" ∷ t))) (2 + length n.bytes) n.bytes
  unfolding attr_of on_parsed or_else pick is
  attr-value =
      rw (
        name-read n (ascii "=" ∷ t) (equals-ended t),
        closed-fails _ (1 + length n.bytes) (attribute n.bytes) (behind-name (ascii "[") n.bytes (ascii "=") t),
        behind-name (ascii "[") n.bytes (ascii "=") t,
      )

-- a value at j, where the text behind j is v and then `]`
module _ (s : List ℕ) (j : ℕ) (v t : List ℕ) (name w : List ℕ) (e : drop j s ≡ v ++ (ascii "]" ∷ t)) where
  -- the bracket behind the value
  at-close : get_or s (j + length v) 0 ≡ ascii "]"
  at-close = sym (get_or-drop j s (length v) 0) ∙ ap (λ (l : List ℕ). get_or l (length v) 0) e ∙ get_or-append_seam v (ascii "]") t 0

  -- a name behind the equals sign is the attribute's value
  value-name : quoted_of (v ++ (ascii "]" ∷ t)) ≡ err → ident_of (v ++ (ascii "]" ∷ t)) ≡ ok (length v) w
      → value_of s j name ≡ reads (j + length v + 1) (attribute_equal name w)
  unfolding value_of or_else on_parsed
  value-name q p = rw (e, q, p, closed-read s (j + length v) (attribute_equal name w) at-close)

  -- a string behind the equals sign is the attribute's value
  value-string : quoted_of (v ++ (ascii "]" ∷ t)) ≡ ok (length v) w → value_of s j name ≡ reads (j + length v + 1) (attribute_equal name w)
  unfolding value_of or_else on_parsed
  value-string q = rw (e, q, closed-read s (j + length v) (attribute_equal name w) at-close)

-- the first byte of a name may be in a name
first-of : (n : Name) (t : List ℕ) → ident_code_point (get_or (n.bytes ++ t) 0 0) ≡ true
first-of n t = by_first n.bytes n.sequence
  where
    by_first : (bytes : List ℕ) → IdentSequence bytes → ident_code_point (get_or (bytes ++ t) 0 0) ≡ true
    by_first _ (started {x} e h) = start-code-point x e
    by_first _ (dashed e h) = hyphen-code-point

-- no quote is a character of names
quotes : (ident_code_point (ascii "\"") ≡ false) × (ident_code_point (ascii "'") ≡ false)
unfolding ident_code_point ident_start letter or and within is
quotes = (refl, refl)

-- so a name is no string
unquoted : (s : List ℕ) → ident_code_point (get_or s 0 0) ≡ true → quoted_of s ≡ err
unfolding quoted_of string_of is_quote on_parsed pick or
unquoted s e = rw (differs ident_code_point (get_or s 0 0) (ascii "\"") e quotes.0, differs ident_code_point (get_or s 0 0) (ascii "'") e quotes.1)

-- a string is read whole
quoted : (v : Quoted) (u : List ℕ) → quoted_of (v.quote ∷ (v.bytes ++ (v.quote ∷ u))) ≡ ok (1 + length v.bytes + 1) v.body
unfolding quoted_of quoted_from on_parsed
quoted v u = rw (quoted-read v u)

module _ (n : Name) (r : List ℕ) where
  -- behind the bracket, the name and the `=` stands what follows
  behind-equals : drop (2 + length n.bytes) (ascii "[" ∷ (n.bytes ++ (ascii "=" ∷ r))) ≡ r
  behind-equals =
      let d : 2 + length n.bytes ≡ suc (length n.bytes) + 1 = omega arith in
      ap (λ (i : ℕ). drop i (ascii "[" ∷ (n.bytes ++ (ascii "=" ∷ r)))) d
      ∙ drop-append-add (ascii "[" ∷ n.bytes) (ascii "=" ∷ r) 1

-- an attribute with a name for its value
pub attribute-is-read : (n v : Name) (t : List ℕ)
    → component_of (ascii "[" ∷ (n.bytes ++ (ascii "=" ∷ (v.bytes ++ (ascii "]" ∷ t)))))
    ≡ reads (2 + length n.bytes + length v.bytes + 1) (attribute_equal n.bytes v.bytes)
attribute-is-read n v t =
    let r = v.bytes ++ (ascii "]" ∷ t) in
    bracket-component _ _ _
    (attr-value n r
    ∙ value-name _ (2 + length n.bytes) v.bytes t n.bytes v.bytes (behind-equals n r) (unquoted r (first-of v (ascii "]" ∷ t)))
    (name-read v (ascii "]" ∷ t) (bracket-ended t)))

-- an attribute with a string for its value
pub attribute-string-read : (n : Name) (v : Quoted) (t : List ℕ)
    → component_of (ascii "[" ∷ (n.bytes ++ (ascii "=" ∷ v.quote ∷ (v.bytes ++ (v.quote ∷ ascii "]" ∷ t)))))
    ≡ reads (2 + length n.bytes + (1 + length v.bytes + 1) + 1) (attribute_equal n.bytes v.body)
attribute-string-read n v t =
    let q = v.quote in
    let w = q ∷ (v.bytes ++ (q ∷ [])) in
    let r = q ∷ (v.bytes ++ (q ∷ ascii "]" ∷ t)) in
    let a : w ++ (ascii "]" ∷ t) ≡ r = ap (λ (l : List ℕ). q ∷ l) (append_assoc v.bytes (q ∷ []) (ascii "]" ∷ t)) in
    let d : length w ≡ 1 + length v.bytes + 1 = omega (arith, length-append v.bytes (q ∷ [])) in
    bracket-component _ _ _
    (attr-value n r
    ∙ value-string _ (2 + length n.bytes) w t n.bytes v.body (behind-equals n r ∙ sym a) (ap quoted_of a ∙ quoted v (ascii "]" ∷ t) ∙ ap (λ (m : ℕ). ok m v.body) (sym d))
    ∙ ap (λ (m : ℕ). reads (2 + length n.bytes + m + 1) (attribute_equal n.bytes v.body)) d)

-- ---- `:nth-child()`
-- no name begins with a colon
colon-unnamed : (l : List ℕ) → ident_of (ascii ":" ∷ l) ≡ err
unfolding ident_of name_of name_from dash nmstart_of folded_char ident_escape_of is_nmstart behind skip_whitespace many took whitespace_item is_whitespace comment_of pick or and within is
colon-unnamed l = refl

-- what a colon begins is a pseudo class
colon-component : (l : List ℕ) (n : ℕ) (c : Component) → pseudo_class_of (ascii ":" ∷ l) ≡ reads n c → component_of (ascii ":" ∷ l) ≡ reads n c
unfolding component_of marked blank_of class_of attr_of hash_of parsed or_else skip_whitespace many took whitespace_item is_whitespace comment_of pick or is
colon-component l n c e = rw (colon-unnamed l, e)

-- `:nth-child()` with an argument of the grammar
pub nth-child-read : (b : Blanks) (x : Argument) (c : Blanks) (t : List ℕ)
    → component_of (ascii ":" ∷ (text "nth-child" ++ (ascii "(" ∷ (b.bytes ++ (written_argument x ++ (c.bytes ++ (ascii ")" ∷ t)))))))
    ≡ reads (10 + (1 + length b.bytes + length (written_argument x) + length c.bytes + 1)) (means_argument x)
nth-child-read b x c t = colon-component _ _ _ (pseudo-by _ _ _ (args_read b x c t))
