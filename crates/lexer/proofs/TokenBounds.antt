-- Every token takes a byte or more, no more than there are, and its text keeps to the bound, for all texts.
use Rattle.std.proofs.lemmas.Option.{same_Some, none-some}
use Rattle.std.proofs.Common.{Option, Some, None}
use mathlib.Core.Path.{◌≡◌, refl, ap, sym, ◌∙◌}
use mathlib.Core.List.{List, [], ◌++◌}
use Prim.Native.Nat.{ℕ, ◌+◌, ◌<◌, ◌≤◌}
use native.Mathlib.Omega.{arith}
use lib.ListN.{length, get_or, take, drop, length-drop, length-append}
use lib.Seq.{length-take-le}
use Prim.Native.Char.{code as ascii}
use Rattle.combinators.specs.Parsed.{Parsed, ok, err, on_parsed, or_else}
use Rattle.combinators.proofs.Rules.{pick-holds, is_false}
use Rattle.combinators.proofs.Lists.{byte-there}
use Rattle.combinators.proofs.Words.{starts-le}
use Rattle.characters.specs.Literal.{text}
use Rattle.characters.specs.Utf8.{scalar_of}
use Rattle.combinators.specs.declared.taken.Taken.{Taken}
use Rattle.characters.proofs.Scalars.{scalar-some}
use Rattle.lexer.specs.Whitespace.{skip_whitespace}
use Rattle.lexer.specs.Name.{ident_of, identstring_of}
use Rattle.lexer.specs.Number as numbers
use Rattle.lexer.specs.Quoted.{string_end, string_text}
use Rattle.lexer.specs.Token.{Token, numeric_from, numeric_of, ident_like_of, string_from, string_of, hash_of, plus_of, minus_of, less_of, token_with, token_at, token_of, text_of, token_answer, delim, coded, length_by}
use Rattle.lexer.specs.Token as token
use Rattle.lexer.specs.declared.tokens.Token as declared
use Rattle.lexer.proofs.Comments.{skip-le}
use Rattle.lexer.proofs.Digits.{number-le}
use Rattle.lexer.proofs.Bounds.{short, bound-short, Fits, fits_after, fits-behind, Keeps, behind-keeps}
use Rattle.lexer.proofs.Quotes.{string-le, string-short}
use Rattle.lexer.proofs.IdentBounds.{ident-fits, identstring-fits}
use Rattle.lexer.proofs.TokenReaders.{quote-there, cdc-bytes, cdo-bytes}
use Rattle.lexer.proofs.Lexing.{mark-text}

-- what a reading of s keeps to
abbrev pub Bounded : List ℕ → Parsed Token → Type 0
Bounded s p = Keeps text_of s p

-- ---- by the parts of a definition
-- what holds of both cases of a reading
pub on-holds : {A B : Type 0} (P : B → Type 0) (p : Parsed A) (f : ℕ → A → B) (o : B) → ((n : ℕ) (a : A) → p ≡ ok n a → P (f n a)) → (p ≡ err → P o) → P (on_parsed p f o)
unfolding on_parsed
on-holds P (ok n a) f o g h = g n a refl
on-holds P err f o g h = h refl

-- of two alternatives that keep to the bounds, the one that reads does so too
or-else-bounded : (s : List ℕ) (p q : Parsed Token) → Bounded s p → Bounded s q → Bounded s (or_else p q)
unfolding or_else
or-else-bounded s (ok n k) q x y = x
or-else-bounded s err q x y = y

-- one byte more, which is there and adds no text
one_more : (s : List ℕ) (n : ℕ) (b : List ℕ) → n < length s → Fits s n b → Fits s (n + 1) b
one_more s n b h f =
    record { some = omega (arith, f.some); within_text = omega arith; bound = short (omega (arith, bound-short f.bound h)) }

-- one byte or more of the text keep to the bounds where they stand for no text
no-text-fits : (s : List ℕ) (n : ℕ) → 1 ≤ n → n ≤ length s → Fits s n []
no-text-fits s n i h = record { some = i; within_text = h; bound = short (omega arith) }

-- a delimiter takes one byte of a text that is not empty, and has no text
delim-bounded : (s : List ℕ) (c : ℕ) → 1 ≤ length s → Bounded s (ok 1 (delim c))
unfolding text_of
delim-bounded s c h = no-text-fits s 1 (omega arith) h

-- ---- a number, with what stands behind it
-- a number of n bytes, which are its text, keeps to the bounds
taken-fits : (s : List ℕ) (n : ℕ) → 1 ≤ n → n ≤ length s → Fits s n (take n s)
taken-fits s n i h = record { some = i; within_text = h; bound = short (omega (arith, length-take-le n s h)) }

-- with a unit behind it
unit-fits : (s : List ℕ) (n m : ℕ) (u : List ℕ) → n ≤ length s → Fits (drop n s) m u → Fits s (n + m) (take n s ++ u)
unit-fits s n m u h f = fits_after s n m (take n s) u h (omega (arith, length-take-le n s h)) f

-- by what stands behind it
numeric-from : (n : ℕ) (s : List ℕ) → 1 ≤ n → n ≤ length s → Bounded s (numeric_from n s)
unfolding numeric_from text_of
numeric-from n s i h =
    pick-holds (Bounded s) _ _ _ (λ e. one_more s n (take n s) (byte-there s n (ascii "%") (omega arith) e) (taken-fits s n i h))
    (λ _. on-holds (Bounded s) (ident_of (drop n s)) _ _ (λ m u e. unit-fits s n m u h (ident-fits (drop n s) m u e)) (λ _. taken-fits s n i h))

-- a number, a percentage or a dimension
pub numeric-bounded : (s : List ℕ) → Bounded s (numeric_of s)
unfolding numeric_of
numeric-bounded s =
    pick-holds (Bounded s) _ _ _ (λ _. tt)
    (λ e. let d = is_false (numbers.number s) 0 e in numeric-from (numbers.number s) s (omega arith) (number-le s))

-- ---- a name, with what stands behind it
-- a name or a function
pub ident-like-bounded : (s : List ℕ) → Bounded s (ident_like_of s)
unfolding ident_like_of text_of
ident-like-bounded s =
    on-holds (Bounded s) (ident_of s) _ _
    (λ n b e. let f = ident-fits s n b e in
    pick-holds (Bounded s) _ _ _ (λ h. one_more s n b (byte-there s n (ascii "(") (omega arith) h) f) (λ _. f))
    (λ _. tt)

-- ---- a string
-- a string, however it ends, keeps to the bounds
string-from : (q : ℕ) (t : List ℕ) → 1 ≤ length t → Bounded t (string_from q (drop 1 t) (string_end q (drop 1 t)) (string_text q (drop 1 t)))
unfolding string_from text_of
string-from q t h =
    let l = length-drop 1 t in
    let a = string-le q (drop 1 t) in
    let b = string-short q (drop 1 t) in
    let n = string_end q (drop 1 t) in
    let f : Fits t (1 + n) (string_text q (drop 1 t)) = record { some = omega arith; within_text = omega arith; bound = short (omega arith) } in
    pick-holds (Bounded t) _ _ _ (λ _. f)
    (λ e. let d = is_false n (length (drop 1 t)) e in
    pick-holds (Bounded t) _ _ _ (λ _. one_more t (1 + n) _ (omega arith) f) (λ _. f))

-- a string or a bad one
pub string-bounded : (t : List ℕ) → Bounded t (string_of t)
unfolding string_of
string-bounded t =
    pick-holds (Bounded t) _ _ _ (λ e. string-from (get_or t 0 0) t (quote-there t e)) (λ _. tt)

-- ---- by the first character
module _ (c n : ℕ) (t : List ℕ) (i : 1 ≤ n) (h : n ≤ length t) where
  -- the text is not empty
  filled : 1 ≤ length t
  filled = omega arith

  -- what is read behind '#' takes a byte or more, no more than there are, and its text keeps to the bound
  hash-bounded : Bounded t (hash_of c t)
  unfolding hash_of text_of
  hash-bounded =
      on-holds (Bounded t) (identstring_of (drop 1 t)) _ _ (λ m b e. fits-behind t 1 m b filled (identstring-fits (drop 1 t) m b e))
      (λ _. delim-bounded t c filled)

  -- what is read behind '+' takes a byte or more, no more than there are, and its text keeps to the bound
  plus-bounded : Bounded t (plus_of c t)
  unfolding plus_of
  plus-bounded = or-else-bounded t _ _ (behind-keeps text_of t 1 _ filled (numeric-bounded (drop 1 t))) (delim-bounded t c filled)

  -- what is read from '-' on takes a byte or more, no more than there are, and its text keeps to the bound
  minus-bounded : Bounded t (minus_of c t)
  unfolding minus_of text_of
  minus-bounded =
      or-else-bounded t _ _ (numeric-bounded t)
      (pick-holds (Bounded t) _ _ _ (λ e. no-text-fits t 3 (omega arith) (rw cdc-bytes at (starts-le (text "-->") t e)))
      (λ _. or-else-bounded t _ _ (ident-like-bounded t) (delim-bounded t c filled)))

  -- what is read from '<' on takes a byte or more, no more than there are, and its text keeps to the bound
  less-bounded : Bounded t (less_of c t)
  unfolding less_of text_of
  less-bounded =
      pick-holds (Bounded t) _ _ _ (λ e. no-text-fits t 4 (omega arith) (rw cdo-bytes at (starts-le (text "<!--") t e))) (λ _. delim-bounded t c filled)

  -- whichever reader the character selects
  by-bounded : Bounded t (token_with n c t)
  unfolding token_with
  by-bounded =
      pick-holds (Bounded t) _ _ _ (λ _. string-bounded t)
      (λ _. pick-holds (Bounded t) _ _ _ (λ _. hash-bounded)
      (λ _. pick-holds (Bounded t) _ _ _ (λ _. plus-bounded)
      (λ _. pick-holds (Bounded t) _ _ _ (λ _. minus-bounded)
      (λ _. pick-holds (Bounded t) _ _ _ (λ _. or-else-bounded t _ _ (numeric-bounded t) (delim-bounded t c filled))
      (λ _. pick-holds (Bounded t) _ _ _ (λ _. less-bounded)
      (λ _. pick-holds (Bounded t) _ _ _ (λ _. or-else-bounded t _ _ (ident-like-bounded t) (delim-bounded t c filled))
      (λ _. pick-holds (Bounded t) _ _ _ (λ _. ident-like-bounded t)
      (λ _. pick-holds (Bounded t) _ _ _ (λ _. numeric-bounded t)
      (λ _. rw (mark-text c) (no-text-fits t n i h))))))))))

-- ---- the next token
-- where no white space is
pub at-bounded : (t : List ℕ) (x : Option (Taken ℕ)) → scalar_of t ≡ x → Bounded t (token_at t x)
unfolding token_at
at-bounded t (Some c) e = let r = scalar-some t c.taken c.value e in by-bounded c.value c.taken t r.0 r.1
at-bounded t None e = tt

-- the next token takes a byte or more with the white space before it, no more than there are, and its text keeps to the bound
pub token-bounded : (s : List ℕ) → Bounded s (token_of s)
unfolding token_of
token-bounded s = behind-keeps text_of s (skip_whitespace s) _ (skip-le s) (at-bounded (drop (skip_whitespace s) s) _ refl)

-- the bounds of `parse_token`, once for all texts: a token takes more than 0 bytes and at most the length; its text is at most as
-- long as what it takes, and at most 2 bytes longer, only where a lone backslash ends the text
pub token-fits : (s : List ℕ) (n : ℕ) (k : Token) → token_of s ≡ ok n k → Fits s n (text_of k)
token-fits s n k e = rw e at (token-bounded s)

-- what an answer says of the bytes taken
pub token-le : (p : Parsed Token) (s : List ℕ) → Bounded s p → (x : Option (Taken declared.Token)) → x ≡ token_answer p → (n : ℕ) (k : declared.Token) → x ≡ Some (record { taken = n; value = k }) → n ≤ length s
unfolding token_answer
token-le (ok i b) s f x ex n k h = rw (ap (λ r. r.taken) (same_Some _ _ (sym h ∙ ex))) f.within_text
token-le err s f x ex n k h = absurd (none-some _ (sym ex ∙ h))

-- ---- a token as the code has it has as many bytes of text
pub length-coded : (k : Token) → length_by (coded k) ≡ length (text_of k)
unfolding length_by text_of coded
length-coded (token.ident b) = refl
length-coded (token.function b) = refl
length-coded (token.hash b) = refl
length-coded (token.string b) = refl
length-coded (token.bad_string b) = refl
length-coded (token.delim c) = refl
length-coded (token.number b) = refl
length-coded (token.dimension b u) = sym (length-append b u)
length-coded (token.percentage b) = refl
length-coded token.cdo = refl
length-coded token.cdc = refl
length-coded token.colon = refl
length-coded token.semicolon = refl
length-coded token.comma = refl
length-coded token.open_square = refl
length-coded token.close_square = refl
length-coded token.open_round = refl
length-coded token.close_round = refl
length-coded token.open_brace = refl
length-coded token.close_brace = refl
