-- Names in the terms of CSS Syntax Level 3 (section 4.2, the definitions of letter, ident-start code point and ident code point;
-- section 4.3.9, would start an ident sequence; section 4.3.11, Consume an ident sequence), where the reader agrees with the document.
-- Where they part, a law leaves it out or says so: in the document a non-ASCII code point is an ident-start code point too, and "--"
-- starts an ident sequence.
use Rattle.std.proofs.Common.{Some, None}
use mathlib.Core.Path.{◌≡◌, refl, ap, sym, ◌∙◌}
use mathlib.Core.List.{List, [], ◌∷◌, ◌++◌, map}
use mathlib.Core.Bool.{Bool, true, false}
use Prim.Native.Nat.{ℕ, ◌<◌}
use native.Mathlib.Nat.{zero-add}
use native.Mathlib.Omega.{arith}
use lib.ListN.{length, get_or}
use Rattle.combinators.specs.Choice.{pick, or, and, is, within}
use Prim.Native.Char.{code as ascii}
use Rattle.combinators.specs.Parsed.{ok, behind}
use Rattle.combinators.proofs.Rules.{pick-false, either, or_left, is-no, is_true, within-true}
use Rattle.combinators.proofs.Repeats.{many-stop, texts-stop}
use Rattle.characters.specs.Utf8.{taken_of}
use Rattle.lexer.specs.Whitespace.{comment_of, whitespace_item, skip_whitespace}
use Rattle.lexer.specs.Name.{is_nmstart, is_nmchar, lower, nmstart_of, nmchar_of, char_taken, char_text, chars_end, chars_text, chars_of, dash, name_of, ident_of, identstring_of}
use Rattle.lexer.specs.Number.{is_digit}
use Rattle.lexer.proofs.Comments.{above-space}
use Rattle.lexer.proofs.SyntaxWhitespace.{skips-blank}
use Rattle.lexer.proofs.SyntaxWhitespace as blanks
use Rattle.lexer.proofs.Escapes.{char-no, escape-no, either_second}
use Rattle.lexer.proofs.Characters.{nmstart-nmchar, lower-byte}
use Rattle.lexer.proofs.CharacterRuns.{chars-step, chars-text-step}
use Rattle.lexer.proofs.Idents.{char-plain, start_plain, name-some}

-- every byte of a text passes a test
pub data Each (p : ℕ → Bool) : List ℕ → Type 0 where
  none : Each p []
  more : {x : ℕ} {r : List ℕ} → p x ≡ true → Each p r → Each p (x ∷ r)

-- ---- an ident sequence
-- letter: an uppercase letter or a lowercase letter
unfoldable pub letter : ℕ → Bool
letter x = or (within x (ascii "A") (ascii "Z")) (within x (ascii "a") (ascii "z"))

-- ident-start code point, of ASCII: a letter or '_'
unfoldable pub ident_start : ℕ → Bool
ident_start x = or (letter x) (is x (ascii "_"))

-- ident code point, of ASCII: an ident-start code point, a digit or '-'
unfoldable pub ident_code_point : ℕ → Bool
ident_code_point x = or (ident_start x) (or (within x (ascii "0") (ascii "9")) (is x (ascii "-")))

-- a '-' or none, an ident-start code point, and any number of ident code points
pub data IdentSequence : List ℕ → Type 0 where
  started : {x : ℕ} {r : List ℕ} → ident_start x ≡ true → Each ident_code_point r → IdentSequence (x ∷ r)
  dashed : {x : ℕ} {r : List ℕ} → ident_start x ≡ true → Each ident_code_point r → IdentSequence (ascii "-" ∷ x ∷ r)

-- the order of or-order tests is free
or-order : (a b c : Bool) → or (or a b) c ≡ or c (or b a)
unfolding or
or-order true true true = refl
or-order true true false = refl
or-order true false true = refl
or-order true false false = refl
or-order false true true = refl
or-order false true false = refl
or-order false false true = refl
or-order false false false = refl

-- the document's ident-start code points are the characters that start a name
pub start_is : (x : ℕ) → ident_start x ≡ is_nmstart x
unfolding ident_start letter is_nmstart
start_is x = or-order _ _ _

-- and its ident code points are the characters of names
pub code-point-is : (x : ℕ) → ident_code_point x ≡ is_nmchar x
unfolding ident_code_point is_nmchar is_digit
code-point-is x = ap (λ b. or b (or (within x (ascii "0") (ascii "9")) (is x (ascii "-")))) (start_is x)

-- an ident-start code point is an ident code point
pub start-code-point : (x : ℕ) → ident_start x ≡ true → ident_code_point x ≡ true
unfolding ident_code_point
start-code-point x e = or_left _ _ e

-- an ident-start code point is above the digits
start-above : (x : ℕ) → ident_start x ≡ true → ascii "9" < x
unfolding ident_start letter
start-above x e =
    either (ascii "9" < x) _ _ e
    (λ l. either (ascii "9" < x) _ _ l (λ w. omega (arith, within-true x (ascii "A") (ascii "Z") w)) (λ w. omega (arith, within-true x (ascii "a") (ascii "z") w)))
    (λ w. omega (arith, is_true x (ascii "_") w))

-- no ident code point is white space or a solidus
no-blank : (x : ℕ) → ident_code_point x ≡ true → (ascii " " < x) × ¬ (x ≡ ascii "/")
unfolding ident_code_point
no-blank x e =
    either ((ascii " " < x) × ¬ (x ≡ ascii "/")) _ _ e
    (λ s. let l = start-above x s in (omega arith, λ q. omega arith))
    (λ h. either ((ascii " " < x) × ¬ (x ≡ ascii "/")) _ _ h
    (λ w. let l = (within-true x (ascii "0") (ascii "9") w).0 in (omega arith, λ q. omega arith))
    (λ w. let l = is_true x (ascii "-") w in (omega arith, λ q. omega arith)))

-- so no white space and no comment begins with one
pub code-point-item : (x : ℕ) (l : List ℕ) → ident_code_point x ≡ true → whitespace_item (x ∷ l) ≡ 0
unfolding whitespace_item comment_of
code-point-item x l e =
    let b = no-blank x e in
    sym (pick-false _ _ _ _ (above-space x b.0) (pick-false _ _ _ _ (is-no _ _ b.1) refl))

-- and nothing is skipped before one
unskipped : (x : ℕ) (l : List ℕ) → ident_code_point x ≡ true → skip_whitespace (x ∷ l) ≡ 0
unskipped x l e = skips-blank [] (x ∷ l) blanks.none (code-point-item x l e)

-- where neither an ident code point nor a backslash follows
module _ (t : List ℕ) (e : ident_code_point (get_or t 0 0) ≡ false) (d : ¬ (get_or t 0 0 ≡ ascii "\\")) where
  -- no character of a name is read
  unread : nmchar_of t ≡ None
  unfolding nmchar_of
  unread =
      let p = char-no is_nmchar t _ refl _ refl (sym (code-point-is _) ∙ e) in
      sym (either_second _ _ _ p refl _ (escape-no t _ refl (is-no _ _ d)))

  -- so no byte is taken as one
  untaken : char_taken t ≡ 0
  unfolding char_taken taken_of
  untaken = ap taken_of unread

  -- so a name ends there
  ended : chars_end t ≡ 0
  unfolding chars_end
  ended = many-stop char_taken t 0 untaken

  -- and the name has no text from there on
  no_text : chars_text t ≡ []
  unfolding chars_text
  no_text = texts-stop char_taken char_text t untaken

  -- ident code points before it are the characters of the name, each folded
  characters : {r : List ℕ} → Each ident_code_point r → (chars_end (r ++ t) ≡ length r) × (chars_text (r ++ t) ≡ map lower r)
  characters none = (ended, no_text)
  characters (more {x} {r} h hs) =
      let c = sym (code-point-is x) ∙ h in
      let k = char-plain (x ∷ (r ++ t)) c in
      let u = lower-byte x c in
      let g = characters hs in
      (chars-step _ 1 _ k ∙ omega (arith, g.0), chars-text-step _ 1 _ k ∙ ap (λ b. b ++ chars_text (r ++ t)) u ∙ ap (λ l. lower x ∷ l) g.1)

-- a '-' is an ident code point
pub hyphen-code-point : ident_code_point (ascii "-") ≡ true
unfolding ident_code_point ident_start letter or and within is
hyphen-code-point = refl

-- all of an ident sequence is ident code points
all-code-points : {name : List ℕ} → IdentSequence name → Each ident_code_point name
all-code-points (started {x} e r) = more (start-code-point x e) r
all-code-points (dashed {x} e r) = more hyphen-code-point (more (start-code-point x e) r)

-- and nothing is skipped before it
pub sequence-unskipped : {name : List ℕ} → IdentSequence name → (t : List ℕ) → skip_whitespace (name ++ t) ≡ 0
sequence-unskipped (started {x} {r} e _) t = unskipped x (r ++ t) (start-code-point x e)
sequence-unskipped (dashed {x} {r} e _) t = unskipped (ascii "-") (x ∷ (r ++ t)) hyphen-code-point

-- an ident-start code point starts a name
start-read : (x : ℕ) (l : List ℕ) → ident_start x ≡ true → nmstart_of (x ∷ l) ≡ Some (record { taken = 1; value = lower x })
start-read x l e =
    let c = sym (start_is x) ∙ e in
    start_plain (x ∷ l) c ∙ char-plain (x ∷ l) (nmstart-nmchar x c)

-- what starts a name is no '-'
undashed : (x : ℕ) (l : List ℕ) → ident_start x ≡ true → dash (x ∷ l) ≡ 0
unfolding dash
undashed x l e = let h = start-above x e in sym (pick-false _ _ _ _ (is-no _ _ (λ q. omega arith)) refl)

-- a '-' is taken before it
dash-read : (l : List ℕ) → dash (ascii "-" ∷ l) ≡ 1
unfolding dash is pick
dash-read l = refl

-- so an ident sequence is read as a name, from its first character on
sequence-named : {name : List ℕ} → IdentSequence name → (t : List ℕ) → name_of (name ++ t) ≡ ok (chars_end (name ++ t)) (chars_text (name ++ t))
sequence-named (started {x} {r} e _) t =
    name-some (x ∷ (r ++ t)) 1 (lower x) (rw (undashed x (r ++ t) e) (start-read x (r ++ t) e))
sequence-named (dashed {x} {r} e _) t =
    name-some (ascii "-" ∷ x ∷ (r ++ t)) 1 (lower x) (rw (dash-read (x ∷ (r ++ t))) (start-read x (r ++ t) e))

-- where nothing is skipped, the name is read from the start
behind-none : (s : List ℕ) → skip_whitespace s ≡ 0 → (n : ℕ) (b : List ℕ) → name_of s ≡ ok n b → ident_of s ≡ ok n b
unfolding ident_of behind
behind-none s z n b e = rw (z, e, zero-add)

-- an ident sequence without escapes, where no ident code point and no backslash follows, is the name that is read; its letters are
-- folded, since names are compared without regard to ASCII case. What follows may also be a non-ASCII code point or U+0000, which go
-- on with the sequence in the document and end it here.
pub ident-sequence : (name t : List ℕ) → IdentSequence name → ident_code_point (get_or t 0 0) ≡ false → ¬ (get_or t 0 0 ≡ ascii "\\")
    → ident_of (name ++ t) ≡ ok (length name) (map lower name)
ident-sequence name t h e d =
    let c = characters t e d (all-code-points h) in
    behind-none (name ++ t) (sequence-unskipped h t) _ _ (sequence-named h t ∙ rw (c.0, c.1))

-- characters of a name, where there are some
chars-some : (t : List ℕ) (n : ℕ) (b : List ℕ) → chars_end t ≡ n → chars_text t ≡ b → ¬ (n ≡ 0) → chars_of t ≡ ok n b
unfolding chars_of
chars-some t n b e p d = sym (pick-false _ _ _ _ (is-no _ _ (λ z. d (sym e ∙ z))) (rw (e, p)))

-- where nothing is skipped, they are read from the start
string-behind-none : (s : List ℕ) → skip_whitespace s ≡ 0 → (n : ℕ) (b : List ℕ) → chars_of s ≡ ok n b → identstring_of s ≡ ok n b
unfolding identstring_of behind
string-behind-none s z n b e = rw (z, e, zero-add)

-- an ident sequence is not empty
sequence-some : {name : List ℕ} → IdentSequence name → ¬ (length name ≡ 0)
sequence-some (started e r) z = omega arith
sequence-some (dashed e r) z = omega arith

-- the same sequence is the name behind a number sign
pub ident-string : (name t : List ℕ) → IdentSequence name → ident_code_point (get_or t 0 0) ≡ false → ¬ (get_or t 0 0 ≡ ascii "\\")
    → identstring_of (name ++ t) ≡ ok (length name) (map lower name)
ident-string name t h e d =
    let c = characters t e d (all-code-points h) in
    string-behind-none (name ++ t) (sequence-unskipped h t) _ _ (chars-some (name ++ t) _ _ c.0 c.1 (sequence-some h))

-- `-Ab_1;`, and `-A` at the end of the text
test-sequence : (ident_of (45 ∷ 65 ∷ 98 ∷ 95 ∷ 49 ∷ 59 ∷ []) ≡ ok 5 (45 ∷ 97 ∷ 98 ∷ 95 ∷ 49 ∷ [])) × (ident_of (45 ∷ 65 ∷ []) ≡ ok 2 (45 ∷ 97 ∷ []))
unfolding lower ident_code_point ident_start letter or and within is pick
test-sequence = (
  ident-sequence (45 ∷ 65 ∷ 98 ∷ 95 ∷ 49 ∷ []) (59 ∷ []) (dashed refl (more refl (more refl (more refl none)))) refl (λ q. omega arith),
  ident-sequence (45 ∷ 65 ∷ []) [] (dashed refl none) refl (λ q. omega arith),
)
