-- What the reader of tokens takes of a text in which brackets match: plain characters with white space and comments, and the bracket of a function.
use Rattle.std.specs.Option.{option_or}
use mathlib.Core.Path.{◌≡◌, refl, ap, sym, subst, ◌∙◌}
use mathlib.Core.Bool.{Bool, true, false}
use mathlib.Core.List.{List, [], ◌∷◌, ◌++◌, append_assoc}
use Prim.Native.Nat.{ℕ, suc, ◌+◌, ◌≤◌, ◌<◌}
use native.Mathlib.Omega.{arith}
use lib.ListN.{length, get_or, take, drop}
use borrow.Author.Tests.{leb-true, not-true}
use lib.Seq.{drop-append_seam, drop-drop}
use Prim.Native.Char.{code as ascii}
use Rattle.combinators.specs.Choice.{pick, or, and, is, within}
use Rattle.combinators.specs.Parsed.{Parsed, ok, err, on_parsed, or_else}
use Rattle.combinators.specs.Parsed as parser
use Rattle.combinators.specs.Repeat.{many, took}
use Rattle.combinators.specs.Word.{starts_with, same_text}
use Rattle.combinators.specs.All.{member}
use Rattle.combinators.proofs.Lists.{first}
use Rattle.combinators.proofs.Repeats.{many-took, many-stop, many-from}
use Rattle.combinators.proofs.Rules as rules
use Rattle.combinators.proofs.Rules.{never, and-true, is_true, is-no, within-true, pick-holds, or-none, neither, or-second}
use Rattle.characters.specs.Literal.{text}
use Rattle.characters.specs.Utf8.{utf8, taken_of}
use Rattle.combinators.specs.declared.taken.Taken.{Taken}
use Rattle.std.specs.Prelude as option
use Rattle.std.specs.Prelude.{Option, None}
use Rattle.lexer.specs.Name.{is_nmstart, is_nmchar, folded_char, ident_escape_of, escaped_of, nmstart_of, nmchar_of, char_taken, chars_end, chars_text, chars_of, lower, name_from, dash, name_of, ident_of, identstring_of}
use Rattle.lexer.specs.Number.{is_digit, one_digit, digits}
use Rattle.lexer.specs.Number as numbers
use Rattle.lexer.specs.Token.{Token, is_ident_start, is_quote, numeric_from, numeric_of, ident_like_of}
use Rattle.lexer.specs.Token as tokens
use Rattle.lexer.specs.Whitespace.{is_whitespace, comment_end, comment_of, whitespace_item, skip_whitespace}
use Rattle.lexer.proofs.Comments.{above-space}
use Rattle.lexer.proofs.Characters.{nmstart-nmchar}
use Rattle.lexer.proofs.Idents.{char-plain, start_plain, name-some, name-none}
use Rattle.lexer.proofs.SyntaxWhitespace.{White, Comment, none, white, comment, skips-blank}
use Rattle.values.specs.Value.{bracket_of}
use Rattle.values.specs.Value as values
use Rattle.values.specs.Words.{is_delim}
use Rattle.grammar.specs.Nth.{Blanks}
use Rattle.grammar.specs.Balanced.{tilde, is_plain, Bracket, round, square, curly, Balanced, end, space, remark, plain, quoted, semicolon, bang, block, opens, closes, written_balanced, is_mark, Clear, Outside, Tight, Calm}
use Rattle.grammar.proofs.NthRead.{starts-not}
use Rattle.grammar.proofs.Places.{differs, Unblank, white-first, comment-first, blank-first}
use Rattle.grammar.proofs.ValuesRead.{blank-append, Closes, Halts, halts, nothing, closed, at-semicolon, at-bang, at-brace}
use Rattle.grammar.specs.Tokens as grammar

-- ---- plain characters
-- a plain character is none of those that are left out
pub record PlainByte (x : ℕ) : Type 0 where
  low : ascii " " < x
  pub high : x ≤ tilde
  no-double : is x (ascii "\"") ≡ false
  no-single : is x (ascii "'") ≡ false
  no-open-round : is x (ascii "(") ≡ false
  no-close-round : is x (ascii ")") ≡ false
  no-open-square : is x (ascii "[") ≡ false
  no-close-square : is x (ascii "]") ≡ false
  no-open-curly : is x (ascii "{") ≡ false
  no-close-curly : is x (ascii "}") ≡ false
  no-semicolon : is x (ascii ";") ≡ false
  no-bang : is x (ascii "!") ≡ false
  no-escape : is x (ascii "\\") ≡ false

-- a character that passes the test is none of those that are left out
pub plain_byte : (x : ℕ) → is_plain x ≡ true → PlainByte x
unfolding is_plain member text utf8 pick
plain_byte x e =
    let p = and-true _ _ e in
    let w = within-true x (ascii "!") tilde p.0 in
    let a = neither _ _ (not-true _ p.1) in
    let b = neither _ _ a.1 in
    let c = neither _ _ b.1 in
    let d = neither _ _ c.1 in
    let f = neither _ _ d.1 in
    let g = neither _ _ f.1 in
    let h = neither _ _ g.1 in
    let i = neither _ _ h.1 in
    let j = neither _ _ i.1 in
    let k = neither _ _ j.1 in
    let l = neither _ _ k.1 in
    record {
      low = omega (arith, w.0);
      high = w.1;
      no-double = a.0;
      no-single = b.0;
      no-open-round = c.0;
      no-close-round = d.0;
      no-open-square = f.0;
      no-close-square = g.0;
      no-open-curly = h.0;
      no-close-curly = i.0;
      no-semicolon = j.0;
      no-bang = k.0;
      no-escape = l.0;
    }

-- a test that holds of plain characters alone
record Plainly (p : ℕ → Bool) : Type 0 where
  unblank : Unblank p
  of_zero : p 0 ≡ false
  of-double : p (ascii "\"") ≡ false
  of-single : p (ascii "'") ≡ false
  of-semicolon : p (ascii ";") ≡ false
  of-bang : p (ascii "!") ≡ false
  of-open : (b : Bracket) → p (opens b) ≡ false
  of-close : (b : Bracket) → p (closes b) ≡ false

-- ---- what is left of a text when plain characters, white space and comments were taken from it
pub data Leaves : Balanced → Balanced → Type 0 where
  here : (v : Balanced) → Leaves v v
  past-space : (x : ℕ) (w : White x) (v r : Balanced) → Leaves v r → Leaves (space x w v) r
  past-remark : (c : List ℕ) (w : Comment c) (v r : Balanced) → Leaves v r → Leaves (remark c w v) r
  past-plain : (x : ℕ) (e : is_plain x ≡ true) (v r : Balanced) → Leaves v r → Leaves (plain x e v) r

-- what is left of what is left
leaves-on : {v r q : Balanced} → Leaves v r → Leaves r q → Leaves v q
leaves-on (here v) k = k
leaves-on {q = q} (past-space x w v r h) k = past-space x w v q (leaves-on h k)
leaves-on {q = q} (past-remark c w v r h) k = past-remark c w v q (leaves-on h k)
leaves-on {q = q} (past-plain x e v r h) k = past-plain x e v q (leaves-on h k)

-- what is left of a clear text is clear
pub leaves-clear : {v r : Balanced} → Leaves v r → Clear v → Clear r
unfolding Clear
leaves-clear (here v) c = c
leaves-clear (past-space x w v r h) c = leaves-clear h c
leaves-clear (past-remark d w v r h) c = leaves-clear h c
leaves-clear (past-plain x e v r h) c = leaves-clear h c.1

-- has no more outside brackets
pub leaves-outside : {v r : Balanced} → Leaves v r → Outside v → Outside r
unfolding Outside
leaves-outside (here v) c = c
leaves-outside (past-space x w v r h) c = leaves-outside h c
leaves-outside (past-remark d w v r h) c = leaves-outside h c
leaves-outside (past-plain x e v r h) c = leaves-outside h c

-- and ends as it did
pub leaves-tight : {v r : Balanced} → Leaves v r → Tight v → Tight r
unfolding Tight
leaves-tight (here v) c = c
leaves-tight (past-space x w v r h) c = leaves-tight h c.1
leaves-tight (past-remark d w v r h) c = leaves-tight h c.1
leaves-tight (past-plain x e v r h) c = leaves-tight h c

-- with no '!' where there was none
pub leaves-calm : {v r : Balanced} → Leaves v r → Calm v → Calm r
unfolding Calm
leaves-calm (here v) c = c
leaves-calm (past-space x w v r h) c = leaves-calm h c
leaves-calm (past-remark d w v r h) c = leaves-calm h c
leaves-calm (past-plain x e v r h) c = leaves-calm h c

-- n bytes of v, with t behind it, are taken
pub record Eaten (v : Balanced) (t : List ℕ) (n : ℕ) : Type 0 where
  pub rest : Balanced
  pub leaves : Leaves v rest
  pub onto : drop n (written_balanced v ++ t) ≡ written_balanced rest ++ t

-- where nothing is taken, all of the text is left
eaten-none : (v : Balanced) (t : List ℕ) → Eaten v t 0
eaten-none v t = record { rest = v; leaves = here v; onto = refl }

-- what is taken from the rest is taken from the whole, behind what was taken before
eaten-on : {v : Balanced} {t : List ℕ} {n m : ℕ} → (k : Eaten v t n) → Eaten k.rest t m → Eaten v t (n + m)
eaten-on {v} {t} {n} {m} k j =
    record {
      rest = j.rest;
      leaves = leaves-on k.leaves j.leaves;
      onto = sym (drop-drop m n (written_balanced v ++ t)) ∙ ap (drop m) k.onto ∙ j.onto;
    }

-- without n + 1 bytes, a list is its rest without n
pub drop-one : (n x : ℕ) (l : List ℕ) → drop (1 + n) (x ∷ l) ≡ drop n l
drop-one n x l = let i : 1 + n ≡ suc n = omega arith in ap (λ (m : ℕ). drop m (x ∷ l)) i

-- a plain character and what is taken behind it
eaten-plain : (x : ℕ) (e : is_plain x ≡ true) (v : Balanced) {t : List ℕ} {n : ℕ} → Eaten v t n → Eaten (plain x e v) t (1 + n)
unfolding written_balanced
eaten-plain x e v {t} {n} j =
    record { rest = j.rest; leaves = past-plain x e v j.rest j.leaves; onto = drop-one n x (written_balanced v ++ t) ∙ j.onto }

-- ---- the first byte
-- of what stands behind a text
halts-first : (p : ℕ → Bool) → Plainly p → {t : List ℕ} → Halts t → p (get_or t 0 0) ≡ false
halts-first p k (halts {l} {t} h c) = blank-first p k.unblank t h (closes-first c)
  where
    closes-first : {t : List ℕ} → Closes t → p (get_or t 0 0) ≡ false
    closes-first nothing = k.of_zero
    closes-first (closed (grammar.function n d) r) = unfold grammar.closer closes in k.of-close round
    closes-first (closed grammar.round r) = unfold grammar.closer closes in k.of-close round
    closes-first (closed grammar.square r) = unfold grammar.closer closes in k.of-close square
    closes-first (closed grammar.brace r) = unfold grammar.closer closes in k.of-close curly
    closes-first (at-semicolon r) = k.of-semicolon
    closes-first (at-bang r) = k.of-bang
    closes-first (at-brace r) = unfold opens in k.of-open curly

-- such a test fails for a quote
quote-first : (p : ℕ → Bool) → Plainly p → (q : ℕ) → is_quote q ≡ true → p q ≡ false
unfolding is_quote
quote-first p k q e =
    rules.either (p q ≡ false) _ _ e (λ w. ap p (is_true q (ascii "\"") w) ∙ k.of-double) (λ w. ap p (is_true q (ascii "'") w) ∙ k.of-single)

-- a text begins with no plain character
unfoldable Otherwise : Balanced → Type 0
Otherwise end = Unit
Otherwise (space x w v) = Unit
Otherwise (remark c w v) = Unit
Otherwise (plain x e v) = ⊥
Otherwise (quoted q v) = Unit
Otherwise (semicolon v) = Unit
Otherwise (bang v) = Unit
Otherwise (block b w v) = Unit

-- then the test fails of its first byte
head-fails : (p : ℕ → Bool) → Plainly p → (t : List ℕ) → Halts t → (v : Balanced) → Otherwise v → p (get_or (written_balanced v ++ t) 0 0) ≡ false
unfolding written_balanced Otherwise
head-fails p k t h end o = halts-first p k h
head-fails p k t h (space x w v) o = white-first p k.unblank w
head-fails p k t h (remark c w v) o = ap (λ (l : List ℕ). p (get_or l 0 0)) (append_assoc c (written_balanced v) t) ∙ comment-first p k.unblank (written_balanced v ++ t) w
head-fails p k t h (plain x e v) o = absurd o
head-fails p k t h (quoted q v) o = quote-first p k q.quote q.quotes
head-fails p k t h (semicolon v) o = k.of-semicolon
head-fails p k t h (bang v) o = k.of-bang
head-fails p k t h (block b w v) o = k.of-open b

-- ---- characters that pass a test, one behind the other
-- a reader that takes one byte where the test holds of it, but for a backslash
abbrev Takes : (List ℕ → ℕ) → (ℕ → Bool) → Type 0
Takes u p = (s : List ℕ) → is (get_or s 0 0) (ascii "\\") ≡ false → u s ≡ pick (p (get_or s 0 0)) 1 0

-- no text begins with a backslash
escapeless : Plainly (λ x. is x (ascii "\\"))
unfolding is opens closes
escapeless =
    record {
      unblank = record { of_space = refl; of-tab = refl; of-line-feed = refl; of-carriage-return = refl; of-form-feed = refl; of-solidus = refl };
      of_zero = refl;
      of-double = refl;
      of-single = refl;
      of-semicolon = refl;
      of-bang = refl;
      of-open = open-escapeless;
      of-close = close-escapeless;
    }
  where
    open-escapeless : (b : Bracket) → is (opens b) (ascii "\\") ≡ false
    open-escapeless round = unfold opens is in refl
    open-escapeless square = unfold opens is in refl
    open-escapeless curly = unfold opens is in refl

    close-escapeless : (b : Bracket) → is (closes b) (ascii "\\") ≡ false
    close-escapeless round = unfold closes is in refl
    close-escapeless square = unfold closes is in refl
    close-escapeless curly = unfold closes is in refl

-- no text in which brackets match begins with a backslash
no-escape-first : (v : Balanced) (t : List ℕ) → Halts t → is (get_or (written_balanced v ++ t) 0 0) (ascii "\\") ≡ false
unfolding Otherwise
no-escape-first (plain x e v) t h = unfold written_balanced in (plain_byte x e).no-escape
no-escape-first end t h = head-fails (λ x. is x (ascii "\\")) escapeless t h end tt
no-escape-first (space x w v) t h = head-fails (λ x. is x (ascii "\\")) escapeless t h (space x w v) tt
no-escape-first (remark c w v) t h = head-fails (λ x. is x (ascii "\\")) escapeless t h (remark c w v) tt
no-escape-first (quoted q v) t h = head-fails (λ x. is x (ascii "\\")) escapeless t h (quoted q v) tt
no-escape-first (semicolon v) t h = head-fails (λ x. is x (ascii "\\")) escapeless t h (semicolon v) tt
no-escape-first (bang v) t h = head-fails (λ x. is x (ascii "\\")) escapeless t h (bang v) tt
no-escape-first (block b w v) t h = head-fails (λ x. is x (ascii "\\")) escapeless t h (block b w v) tt

module _ (u : List ℕ → ℕ) (p : ℕ → Bool) (k : Plainly p) (z : Takes u p) (t : List ℕ) (h : Halts t) where
  -- a byte that passes the test is taken, and the rest behind it
  many-one : (x : ℕ) (l : List ℕ) → is x (ascii "\\") ≡ false → p x ≡ true → many u 0 0 (x ∷ l) ≡ 1 + many u 0 0 l
  unfolding pick
  many-one x l e d =
      many-took u (x ∷ l) 0 1 (omega arith) (z (x ∷ l) e ∙ rw d) (λ q. omega arith) ∙ many-from 1 u l 0 0

  -- where the first byte fails the test, none is taken
  many-none : (s : List ℕ) → is (get_or s 0 0) (ascii "\\") ≡ false → p (get_or s 0 0) ≡ false → many u 0 0 s ≡ 0
  unfolding pick
  many-none s e d = many-stop u s 0 (z s e ∙ rw d)

  -- nothing is taken where the test fails
  eat-none : (v : Balanced) → p (get_or (written_balanced v ++ t) 0 0) ≡ false → Eaten v t (many u 0 0 (written_balanced v ++ t))
  eat-none v d = subst (Eaten v t) (sym (many-none (written_balanced v ++ t) (no-escape-first v t h) d)) (eaten-none v t)

  -- by the test of a plain character, and what is taken behind it
  eat-plain : (x : ℕ) (e : is_plain x ≡ true) (v : Balanced) (b : Bool) → p x ≡ b → Eaten v t (many u 0 0 (written_balanced v ++ t))
      → Eaten (plain x e v) t (many u 0 0 (written_balanced (plain x e v) ++ t))
  eat-plain x e v false d j = eat-none (plain x e v) (unfold written_balanced in d)
  eat-plain x e v true d j =
      let m = many u 0 0 (written_balanced v ++ t) in
      let i : many u 0 0 (written_balanced (plain x e v) ++ t) ≡ 1 + m = unfold written_balanced in many-one x (written_balanced v ++ t) (plain_byte x e).no-escape d in
      subst (Eaten (plain x e v) t) (sym i) (eaten-plain x e v j)

  -- so all that pass are taken from a text
  eat-many : (v : Balanced) → Eaten v t (many u 0 0 (written_balanced v ++ t))
  unfolding Otherwise
  eat-many end = eat-none end (unfold written_balanced in halts-first p k h)
  eat-many (space x w v) = eat-none (space x w v) (head-fails p k t h (space x w v) tt)
  eat-many (remark c w v) = eat-none (remark c w v) (head-fails p k t h (remark c w v) tt)
  eat-many (plain x e v) = eat-plain x e v (p x) refl (eat-many v)
  eat-many (quoted q v) = eat-none (quoted q v) (head-fails p k t h (quoted q v) tt)
  eat-many (semicolon v) = eat-none (semicolon v) (head-fails p k t h (semicolon v) tt)
  eat-many (bang v) = eat-none (bang v) (head-fails p k t h (bang v) tt)
  eat-many (block b w v) = eat-none (block b w v) (head-fails p k t h (block b w v) tt)

-- what passes a test of plain characters is one
eat-one : (p : ℕ → Bool) → Plainly p → (t : List ℕ) → Halts t → (v : Balanced) → p (get_or (written_balanced v ++ t) 0 0) ≡ true → Eaten v t 1
unfolding Otherwise
eat-one p k t h (plain x e v) d = eaten-plain x e v (eaten-none v t)
eat-one p k t h end d = never (sym (head-fails p k t h end tt) ∙ d)
eat-one p k t h (space x w v) d = never (sym (head-fails p k t h (space x w v) tt) ∙ d)
eat-one p k t h (remark c w v) d = never (sym (head-fails p k t h (remark c w v) tt) ∙ d)
eat-one p k t h (quoted q v) d = never (sym (head-fails p k t h (quoted q v) tt) ∙ d)
eat-one p k t h (semicolon v) d = never (sym (head-fails p k t h (semicolon v) tt) ∙ d)
eat-one p k t h (bang v) d = never (sym (head-fails p k t h (bang v) tt) ∙ d)
eat-one p k t h (block b w v) d = never (sym (head-fails p k t h (block b w v) tt) ∙ d)

-- ---- tests
-- a test that three brackets fail fails all
all-brackets : (p : ℕ → Bool) (f : Bracket → ℕ) → p (f round) ≡ false → p (f square) ≡ false → p (f curly) ≡ false → (b : Bracket) → p (f b) ≡ false
all-brackets p f x y z round = x
all-brackets p f x y z square = y
all-brackets p f x y z curly = z

-- characters of names are plain characters
names-plainly : Plainly is_nmchar
unfolding is_nmchar is_nmstart is_digit or and within is opens closes
names-plainly =
    record {
      unblank = record { of_space = refl; of-tab = refl; of-line-feed = refl; of-carriage-return = refl; of-form-feed = refl; of-solidus = refl };
      of_zero = refl;
      of-double = refl;
      of-single = refl;
      of-semicolon = refl;
      of-bang = refl;
      of-open = all-brackets is_nmchar opens refl refl refl;
      of-close = all-brackets is_nmchar closes refl refl refl;
    }

-- digits are plain characters
digits-plainly : Plainly is_digit
unfolding is_digit and within opens closes
digits-plainly =
    record {
      unblank = record { of_space = refl; of-tab = refl; of-line-feed = refl; of-carriage-return = refl; of-form-feed = refl; of-solidus = refl };
      of_zero = refl;
      of-double = refl;
      of-single = refl;
      of-semicolon = refl;
      of-bang = refl;
      of-open = all-brackets is_digit opens refl refl refl;
      of-close = all-brackets is_digit closes refl refl refl;
    }

-- one character of the marks of numbers
unfoldable is_number_mark : ℕ → Bool
is_number_mark x = or (is x (ascii ".")) (or (is x (ascii "%")) (or (is x (ascii "-")) (is x (ascii "+"))))

-- the marks of numbers are plain characters
marks-plainly : Plainly is_number_mark
unfolding is_number_mark or is opens closes
marks-plainly =
    record {
      unblank = record { of_space = refl; of-tab = refl; of-line-feed = refl; of-carriage-return = refl; of-form-feed = refl; of-solidus = refl };
      of_zero = refl;
      of-double = refl;
      of-single = refl;
      of-semicolon = refl;
      of-bang = refl;
      of-open = all-brackets is_number_mark opens refl refl refl;
      of-close = all-brackets is_number_mark closes refl refl refl;
    }

-- ---- names and numbers
-- the reader of a name's characters takes one where it is none of an escape
char-takes : Takes char_taken is_nmchar
unfolding char_taken nmchar_of folded_char ident_escape_of
char-takes s e = rw e (by-test (is_nmchar (get_or s 0 0)) _)
  where
    by-test : (b : Bool) (x : ℕ) → taken_of (option_or (pick b (option.Some (record { taken = 1; value = x })) None) (pick false (escaped_of (drop 1 s)) None)) ≡ pick b 1 0
    by-test true x = unfold taken_of pick in refl
    by-test false x = unfold taken_of pick in refl

-- so characters of names are taken
eat-chars : (v : Balanced) (t : List ℕ) → Halts t → Eaten v t (chars_end (written_balanced v ++ t))
unfolding chars_end
eat-chars v t h = eat-many char_taken is_nmchar names-plainly char-takes t h v

-- and digits are taken, as long as they go on
eat-digits : (v : Balanced) (t : List ℕ) → Halts t → Eaten v t (digits (written_balanced v ++ t))
unfolding digits
eat-digits v t h = eat-many one_digit is_digit digits-plainly (λ s e. unfold one_digit in refl) t h v

-- the byte behind what is taken
eaten-first : {v : Balanced} {t : List ℕ} {n : ℕ} → (k : Eaten v t n) → get_or (written_balanced v ++ t) n 0 ≡ get_or (written_balanced k.rest ++ t) 0 0
eaten-first {v} {t} {n} k = sym (first (written_balanced v ++ t) n) ∙ ap (λ (l : List ℕ). get_or l 0 0) k.onto

-- what either arm of a choice takes, the choice takes
eaten-pick : {v : Balanced} {t : List ℕ} (b : Bool) (n m : ℕ) → (b ≡ true → Eaten v t n) → (b ≡ false → Eaten v t m) → Eaten v t (pick b n m)
eaten-pick {v} {t} b n m f g = pick-holds (Eaten v t) b n m f g

module _ (t : List ℕ) (h : Halts t) where
  -- digits, a full stop and digits
  eat-decimal : (v : Balanced) → Eaten v t (numbers.decimal (written_balanced v ++ t))
  unfolding numbers.decimal
  eat-decimal v =
      let s = written_balanced v ++ t in
      let k = eat-digits v t h in
      eaten-pick (is (get_or s (digits s) 0) (ascii ".")) _ _
      (λ e. let j = eat-one is_number_mark marks-plainly t h k.rest (stop-mark (get_or (written_balanced k.rest ++ t) 0 0) (ap (λ (x : ℕ). is x (ascii ".")) (sym (eaten-first k)) ∙ e)) in
      let i = eaten-on k j in
      let d = eat-digits i.rest t h in
      eaten-pick (is (digits (drop (digits s + 1) s)) 0) _ _ (λ q. eaten-none v t)
      (λ q. subst (λ (m : ℕ). Eaten v t (digits s + 1 + m)) (ap digits (sym i.onto)) (eaten-on i d)))
      (λ e. eaten-none v t)
    where
      stop-mark : (x : ℕ) → is x (ascii ".") ≡ true → is_number_mark x ≡ true
      stop-mark x e = unfold is_number_mark in rules.or_left _ _ e

  -- a number without a sign
  eat-unsigned : (v : Balanced) → Eaten v t (numbers.unsigned (written_balanced v ++ t))
  unfolding numbers.unsigned
  eat-unsigned v = eaten-pick (is (digits (written_balanced v ++ t)) 0) _ _ (λ e. eat-decimal v) (λ e. eat-digits v t h)

  -- a sign takes a plain character, and no sign takes nothing
  eat-sign : (v : Balanced) → Eaten v t (numbers.sign (written_balanced v ++ t))
  unfolding numbers.sign
  eat-sign v =
      let x = get_or (written_balanced v ++ t) 0 0 in
      eaten-pick (or (is x (ascii "-")) (is x (ascii "+"))) 1 0 (λ e. eat-one is_number_mark marks-plainly t h v (sign-mark x e)) (λ e. eaten-none v t)
    where
      sign-mark : (x : ℕ) → or (is x (ascii "-")) (is x (ascii "+")) ≡ true → is_number_mark x ≡ true
      sign-mark x e = unfold is_number_mark in or-second (is x (ascii ".")) _ (or-second (is x (ascii "%")) _ e)

  -- a number with its sign
  eat-signed : (v : Balanced) → Eaten v t (numbers.signed (written_balanced v ++ t))
  unfolding numbers.signed
  eat-signed v =
      let s = written_balanced v ++ t in
      let k = eat-sign v in
      let j = eat-unsigned k.rest in
      eaten-pick (is (numbers.unsigned (drop (numbers.sign s) s)) 0) _ _ (λ e. eaten-none v t)
      (λ e. subst (λ (m : ℕ). Eaten v t (numbers.sign s + m)) (ap numbers.unsigned (sym k.onto)) (eaten-on k j))

-- ---- white space and comments
-- an asterisk is a plain character
star-plainly : Plainly (λ x. is x (ascii "*"))
unfolding is opens closes
star-plainly =
    record {
      unblank = record { of_space = refl; of-tab = refl; of-line-feed = refl; of-carriage-return = refl; of-form-feed = refl; of-solidus = refl };
      of_zero = refl;
      of-double = refl;
      of-single = refl;
      of-semicolon = refl;
      of-bang = refl;
      of-open = all-brackets (λ x. is x (ascii "*")) opens refl refl refl;
      of-close = all-brackets (λ x. is x (ascii "*")) closes refl refl refl;
    }

-- no asterisk follows a solidus
star-follows : (x : ℕ) (l t : List ℕ) → is x (ascii "/") ≡ true → starts_with (text "/*") (x ∷ l) ≡ false → Halts t → is (get_or (l ++ t) 0 0) (ascii "*") ≡ false
unfolding starts_with text utf8 pick and
star-follows x [] t e d h = halts-first (λ x. is x (ascii "*")) star-plainly h
star-follows x (y ∷ l) t e d h = by-star (is y (ascii "*")) (rw e at d)
  where
    by-star : (b : Bool) → and b true ≡ false → b ≡ false
    by-star true e = e
    by-star false e = refl

-- so no comment begins at a plain character
plain-item : (x : ℕ) (l t : List ℕ) → PlainByte x → is_mark (x ∷ l) ≡ false → Halts t → whitespace_item (x ∷ (l ++ t)) ≡ 0
unfolding whitespace_item comment_of is_mark
plain-item x l t p m h = rw (above-space x p.low) (by-solidus (is x (ascii "/")) refl)
  where
    by-solidus : (b : Bool) → is x (ascii "/") ≡ b → pick false 1 (pick b (pick (is (get_or (l ++ t) 0 0) (ascii "*")) (comment_end 2 (drop 1 (l ++ t))) 0) 0) ≡ 0
    by-solidus false e = unfold pick in refl
    by-solidus true e = unfold pick in rw (star-follows x l t e (neither _ _ m).0 h)

-- a text begins with a token
unfoldable pub Solid : Balanced → Type 0
Solid end = ⊥
Solid (space x w v) = ⊥
Solid (remark c w v) = ⊥
Solid (plain x e v) = Unit
Solid (quoted q v) = Unit
Solid (semicolon v) = Unit
Solid (bang v) = Unit
Solid (block b w v) = Unit

-- or nothing but white space and comments stands in it
unfoldable pub Void : Balanced → Type 0
Void end = Unit
Void (space x w v) = Void v
Void (remark c w v) = Void v
Void (plain x e v) = ⊥
Void (quoted q v) = ⊥
Void (semicolon v) = ⊥
Void (bang v) = ⊥
Void (block b w v) = ⊥

-- white space and comments at the start, and what stands behind them, if anything does
pub data Skipped (t : List ℕ) (v : Balanced) : Type 0 where
  solid : (rest : Balanced) (b : Blanks) → Solid rest → written_balanced v ≡ b.bytes ++ written_balanced rest → Leaves v rest → whitespace_item (written_balanced rest ++ t) ≡ 0 → Skipped t v
  empty : (b : Blanks) → Void v → written_balanced v ≡ b.bytes → Skipped t v

-- one white space more in front is skipped with what is skipped
space-skipped : (t : List ℕ) (x : ℕ) (w : White x) (v : Balanced) → Skipped t v → Skipped t (space x w v)
unfolding written_balanced
space-skipped t x w v (solid rest b o e l i) =
    solid rest (record { bytes = x ∷ b.bytes; blank = white x b.bytes w b.blank }) o (ap (λ (r : List ℕ). x ∷ r) e) (past-space x w v rest l) i
space-skipped t x w v (empty b o e) = empty (record { bytes = x ∷ b.bytes; blank = white x b.bytes w b.blank }) (unfold Void in o) (ap (λ (r : List ℕ). x ∷ r) e)

-- a comment before a text is skipped with what is skipped of it
remark-skipped : (t c : List ℕ) (w : Comment c) (v : Balanced) → Skipped t v → Skipped t (remark c w v)
unfolding written_balanced
remark-skipped t c w v (solid rest b o e l i) =
    solid rest (record { bytes = c ++ b.bytes; blank = comment c b.bytes w b.blank }) o
    (ap (λ (r : List ℕ). c ++ r) e ∙ sym (append_assoc c b.bytes (written_balanced rest))) (past-remark c w v rest l) i
remark-skipped t c w v (empty b o e) = empty (record { bytes = c ++ b.bytes; blank = comment c b.bytes w b.blank }) (unfold Void in o) (ap (λ (r : List ℕ). c ++ r) e)

-- white space that is empty
abbrev nowhite : Blanks
nowhite = record { bytes = []; blank = none }

-- brackets, semicolons and quotes begin none
mark-items : (l : List ℕ) → (whitespace_item (ascii ";" ∷ l) ≡ 0) × (whitespace_item (ascii "\"" ∷ l) ≡ 0) × (whitespace_item (ascii "'" ∷ l) ≡ 0)
    × (whitespace_item (ascii "!" ∷ l) ≡ 0)
unfolding whitespace_item is_whitespace comment_of pick or is
mark-items l = (refl, refl, refl, refl)

-- an opening bracket begins no white space and no comment
bracket-item : (b : Bracket) (l : List ℕ) → whitespace_item (opens b ∷ l) ≡ 0
unfolding opens whitespace_item is_whitespace comment_of pick or is
bracket-item round l = refl
bracket-item square l = refl
bracket-item curly l = refl

-- a quote begins no white space and no comment
quote-item : (q : ℕ) (l : List ℕ) → is_quote q ≡ true → whitespace_item (q ∷ l) ≡ 0
unfolding is_quote
quote-item q l e =
    rules.either (whitespace_item (q ∷ l) ≡ 0) _ _ e (λ w. ap (λ (x : ℕ). whitespace_item (x ∷ l)) (is_true q (ascii "\"") w) ∙ (mark-items l).1)
    (λ w. ap (λ (x : ℕ). whitespace_item (x ∷ l)) (is_true q (ascii "'") w) ∙ (mark-items l).2)

-- of every text white space and comments are skipped, up to a token or to its end
pub skipped : (v : Balanced) (t : List ℕ) → Clear v → Halts t → Skipped t v
unfolding written_balanced Clear Solid
skipped end t c h = empty nowhite (unfold Void in tt) refl
skipped (space x w v) t c h = space-skipped t x w v (skipped v t c h)
skipped (remark d w v) t c h = remark-skipped t d w v (skipped v t c h)
skipped (plain x e v) t c h = solid (plain x e v) nowhite tt refl (here (plain x e v)) (plain-item x (written_balanced v) t (plain_byte x e) c.0 h)
skipped (quoted q v) t c h = solid (quoted q v) nowhite tt refl (here (quoted q v)) (quote-item q.quote _ q.quotes)
skipped (semicolon v) t c h = solid (semicolon v) nowhite tt refl (here (semicolon v)) (mark-items _).0
skipped (bang v) t c h = solid (bang v) nowhite tt refl (here (bang v)) (mark-items _).3
skipped (block b w v) t c h = solid (block b w v) nowhite tt refl (here (block b w v)) (bracket-item b _)

-- what is skipped is taken
module _ (v rest : Balanced) (b : Blanks) (e : written_balanced v ≡ b.bytes ++ written_balanced rest) (t : List ℕ) where
  -- the text is the white space, then what is left, then what follows
  pub skipped-onto : written_balanced v ++ t ≡ b.bytes ++ (written_balanced rest ++ t)
  skipped-onto = ap (λ (l : List ℕ). l ++ t) e ∙ append_assoc b.bytes (written_balanced rest) t

  -- behind the white space stands what is left
  skipped-drop : drop (length b.bytes) (written_balanced v ++ t) ≡ written_balanced rest ++ t
  skipped-drop = ap (drop (length b.bytes)) skipped-onto ∙ drop-append_seam b.bytes (written_balanced rest ++ t)

  -- as many bytes are skipped as the white space has
  skipped-length : whitespace_item (written_balanced rest ++ t) ≡ 0 → skip_whitespace (written_balanced v ++ t) ≡ length b.bytes
  skipped-length i = ap skip_whitespace skipped-onto ∙ skips-blank b.bytes (written_balanced rest ++ t) b.blank i

  -- which is white space taken
  abbrev eaten-blank : Leaves v rest → Eaten v t (length b.bytes)
  eaten-blank l = record { rest = rest; leaves = l; onto = skipped-drop }

-- ---- names
-- what a reader of names takes of a text
data NameIn (v : Balanced) (t : List ℕ) : Parsed (List ℕ) → Type 0 where
  unnamed : NameIn v t err
  named : (n : ℕ) (b : List ℕ) → Eaten v t n → NameIn v t (ok n b)

-- a name takes plain characters alone, or there is none
name_in : (t : List ℕ) → Halts t → (v : Balanced) → NameIn v t (name_of (written_balanced v ++ t))
name_in t h v = by-start (nmstart_of (drop (dash (written_balanced v ++ t)) (written_balanced v ++ t))) refl
  where
    by-start : (x : Option (Taken ℕ)) → nmstart_of (drop (dash (written_balanced v ++ t)) (written_balanced v ++ t)) ≡ x → NameIn v t (name_of (written_balanced v ++ t))
    by-start (option.Some c) e = subst (NameIn v t) (sym (name-some (written_balanced v ++ t) c.taken c.value e)) (named _ _ (eat-chars v t h))
    by-start None e = subst (NameIn v t) (sym (name-none (written_balanced v ++ t) e)) unnamed

-- characters of names take plain characters alone, or there are none
chars-in : (t : List ℕ) → Halts t → (v : Balanced) → NameIn v t (chars_of (written_balanced v ++ t))
unfolding chars_of
chars-in t h v = pick-holds (NameIn v t) (is (chars_end (written_balanced v ++ t)) 0) err _ (λ e. unnamed) (λ e. named _ _ (eat-chars v t h))

-- neither stands where values end
closes-unnamed : {c : List ℕ} → Closes c → (name_of c ≡ err) × (chars_of c ≡ err) × (numbers.signed c ≡ 0) × (whitespace_item c ≡ 0)
unfolding grammar.closer name_of name_from dash nmstart_of folded_char ident_escape_of is_nmstart chars_of chars_end char_taken nmchar_of is_nmchar taken_of numbers.signed numbers.sign numbers.unsigned numbers.decimal digits one_digit is_digit many took whitespace_item is_whitespace comment_of pick or and within is
closes-unnamed nothing = (refl, refl, refl, refl)
closes-unnamed (closed (grammar.function n d) r) = (refl, refl, refl, refl)
closes-unnamed (closed grammar.round r) = (refl, refl, refl, refl)
closes-unnamed (closed grammar.square r) = (refl, refl, refl, refl)
closes-unnamed (closed grammar.brace r) = (refl, refl, refl, refl)
closes-unnamed (at-semicolon r) = (refl, refl, refl, refl)
closes-unnamed (at-bang r) = (refl, refl, refl, refl)
closes-unnamed (at-brace r) = (refl, refl, refl, refl)

-- what stands behind white space there
data Ahead (s : List ℕ) : Type 0 where
  ahead : (n : ℕ) (c : List ℕ) → skip_whitespace s ≡ n → drop n s ≡ c → Closes c → Ahead s

-- of what may stand behind a value
halts-ahead : (b : Blanks) {t : List ℕ} → Halts t → Ahead (b.bytes ++ t)
halts-ahead b (halts {l} {t} h c) =
    let k = blank-append b.blank h in
    let e = append_assoc b.bytes l t in
    ahead (length (b.bytes ++ l)) t (ap skip_whitespace (sym e) ∙ skips-blank (b.bytes ++ l) t k (closes-unnamed c).3) (ap (drop (length (b.bytes ++ l))) (sym e) ∙ drop-append_seam (b.bytes ++ l) t) c

-- a reader behind white space
module _ (f : List ℕ → Parsed (List ℕ)) (t : List ℕ) (h : Halts t) (i : (v : Balanced) → NameIn v t (f (written_balanced v ++ t))) (j : (c : List ℕ) → Closes c → f c ≡ err) where
  -- the reader, at the first byte behind white space and comments
  abbrev reader : List ℕ → Parsed (List ℕ)
  reader s = parser.behind (skip_whitespace s) (f (drop (skip_whitespace s) s))

  -- what a reader takes behind what was taken before it, it takes of the whole text
  behind-solid : (v : Balanced) {n : ℕ} (k : Eaten v t n) (p : Parsed (List ℕ)) → NameIn k.rest t p → NameIn v t (parser.behind n p)
  unfolding parser.behind
  behind-solid v k _ unnamed = unnamed
  behind-solid v k _ (named m b q) = named _ b (eaten-on k q)

  -- where a value may end behind white space, it reads nothing
  behind-empty : (s : List ℕ) → Ahead s → reader s ≡ err
  unfolding parser.behind
  behind-empty s (ahead n c e d q) = rw (e, d, j c q)

  -- in every text it takes plain characters and white space alone, or reads nothing
  behind-in : (v : Balanced) → Clear v → NameIn v t (reader (written_balanced v ++ t))
  behind-in v c = by-skipped (skipped v t c h)
    where
      by-skipped : Skipped t v → NameIn v t (reader (written_balanced v ++ t))
      by-skipped (solid rest b o e l q) =
          let n = skipped-length v rest b e t q in
          subst (NameIn v t) (sym (ap (λ (m : ℕ). parser.behind m (f (drop m (written_balanced v ++ t)))) n ∙ ap (λ (r : List ℕ). parser.behind (length b.bytes) (f r)) (skipped-drop v rest b e t)))
          (behind-solid v (eaten-blank v rest b e t l) (f (written_balanced rest ++ t)) (i rest))
      by-skipped (empty b o e) =
          subst (NameIn v t) (sym (ap (λ (r : List ℕ). reader (r ++ t)) e ∙ behind-empty (b.bytes ++ t) (halts-ahead b h))) unnamed

-- an identifier (`parse_ident`) takes plain characters and white space alone
ident-in : (t : List ℕ) → Halts t → (v : Balanced) → Clear v → NameIn v t (ident_of (written_balanced v ++ t))
unfolding ident_of
ident-in t h v c = behind-in name_of t h (name_in t h) (λ l q. (closes-unnamed q).0) v c

-- the characters of a name (`parse_identstring`) take plain characters and white space alone
identstring-in : (t : List ℕ) → Halts t → (v : Balanced) → Clear v → NameIn v t (identstring_of (written_balanced v ++ t))
unfolding identstring_of
identstring-in t h v c = behind-in chars_of t h (chars-in t h) (λ l q. (closes-unnamed q).1) v c

-- ---- numbers: they take plain characters and white space alone
number_in : (t : List ℕ) → Halts t → (v : Balanced) → Clear v → Eaten v t (numbers.number (written_balanced v ++ t))
number_in t h v c = by-skipped (skipped v t c h)
  where
    at_place : (s : List ℕ) (n : ℕ) (r : List ℕ) → skip_whitespace s ≡ n → drop n s ≡ r → numbers.number s ≡ pick (is (numbers.signed r) 0) 0 (n + numbers.signed r)
    at_place s n r e d = unfold numbers.number in rw (e, d)

    none-there : (s : List ℕ) → Ahead s → numbers.number s ≡ 0
    none-there s (ahead n c e d q) = at_place s n c e d ∙ (unfold pick is in rw (closes-unnamed q).2)

    by-skipped : Skipped t v → Eaten v t (numbers.number (written_balanced v ++ t))
    by-skipped (solid rest b o e l q) =
        let s = numbers.signed (written_balanced rest ++ t) in
        subst (Eaten v t) (sym (at_place (written_balanced v ++ t) _ _ (skipped-length v rest b e t q) (skipped-drop v rest b e t)))
        (eaten-pick (is s 0) 0 (length b.bytes + s) (λ z. eaten-none v t) (λ z. eaten-on (eaten-blank v rest b e t l) (eat-signed t h rest)))
    by-skipped (empty b o e) = subst (Eaten v t) (sym (ap (λ (r : List ℕ). numbers.number (r ++ t)) e ∙ none-there (b.bytes ++ t) (halts-ahead b h))) (eaten-none v t)

-- ---- tokens
-- a token that opens and closes nothing, and is no '!'
abbrev pub Harmless : Token → Type 0
Harmless k = (bracket_of k ≡ values.none) × (is_delim (ascii "!") k ≡ false)

-- what a reader of tokens takes of a text: nothing, characters and white space, or these and the bracket of a function
pub data TokenIn (v : Balanced) (t : List ℕ) : Parsed Token → Type 0 where
  tokenless : TokenIn v t err
  token : (n : ℕ) (k : Token) → Eaten v t n → Harmless k → TokenIn v t (ok n k)
  call : (n : ℕ) (b : List ℕ) (w r : Balanced) → Leaves v (block round w r) → drop n (written_balanced v ++ t) ≡ written_balanced w ++ (closes round ∷ (written_balanced r ++ t))
      → TokenIn v t (ok n (tokens.function b))

-- numbers, percentages, hashes and names open and close nothing
harmless-number : (b : List ℕ) → Harmless (tokens.number b) × Harmless (tokens.percentage b) × Harmless (tokens.hash b) × Harmless (tokens.ident b)
unfolding bracket_of is_delim
harmless-number b = ((refl, refl), (refl, refl), (refl, refl), (refl, refl))

-- a dimension opens and closes nothing
harmless-dimension : (b u : List ℕ) → Harmless (tokens.dimension b u)
unfolding bracket_of is_delim
harmless-dimension b u = (refl, refl)

-- and a delimiter that is no '!'
harmless-delim : (x : ℕ) → is x (ascii "!") ≡ false → Harmless (tokens.delim x)
unfolding bracket_of is_delim
harmless-delim x e = (refl, e)

-- a colon and a comma
harmless-marks : Harmless tokens.colon × Harmless tokens.comma
unfolding bracket_of is_delim
harmless-marks = ((refl, refl), (refl, refl))

module _ (t : List ℕ) (h : Halts t) where
  -- a number, percentage or dimension (`parse_numeric_token`) takes plain characters and white space alone
  numeric-in : (v : Balanced) → Clear v → TokenIn v t (numeric_of (written_balanced v ++ t))
  unfolding numeric_of numeric_from
  numeric-in v c =
      let s = written_balanced v ++ t in
      let n = numbers.number s in
      let k = number_in t h v c in
      pick-holds (TokenIn v t) (is n 0) err _ (λ e. tokenless)
      (λ e. pick-holds (TokenIn v t) (is (get_or s n 0) (ascii "%")) _ _
      (λ d. token _ _ (eaten-on k (eat-one is_number_mark marks-plainly t h k.rest (percent-mark _ (ap (λ (x : ℕ). is x (ascii "%")) (sym (eaten-first k)) ∙ d)))) (harmless-number _).1)
      (λ d. subst (λ (p : Parsed (List ℕ)). TokenIn v t (on_parsed p (λ m u. ok (n + m) (tokens.dimension (take n s) u)) (ok n (tokens.number (take n s))))) (ap ident_of (sym k.onto))
      (by-unit n (take n s) k _ (ident-in t h k.rest (leaves-clear k.leaves c)))))
    where
      percent-mark : (x : ℕ) → is x (ascii "%") ≡ true → is_number_mark x ≡ true
      percent-mark x e = unfold is_number_mark in or-second (is x (ascii ".")) _ (rules.or_left _ _ e)

      by-unit : (n : ℕ) (b : List ℕ) (k : Eaten v t n) (p : Parsed (List ℕ)) → NameIn k.rest t p
          → TokenIn v t (on_parsed p (λ m u. ok (n + m) (tokens.dimension b u)) (ok n (tokens.number b)))
      by-unit n b k _ unnamed = unfold on_parsed in token n (tokens.number b) k (harmless-number b).0
      by-unit n b k _ (named m u q) = unfold on_parsed in token (n + m) (tokens.dimension b u) (eaten-on k q) (harmless-dimension b u)

-- a text that begins with a round bracket is a block
data Called : Balanced → Type 0 where
  called : (w r : Balanced) → Called (block round w r)

-- nothing else begins with one
unrounded : Unblank (λ x. is x (ascii "("))
unfolding is
unrounded = record { of_space = refl; of-tab = refl; of-line-feed = refl; of-carriage-return = refl; of-form-feed = refl; of-solidus = refl }

-- what closes begins with no opening round bracket
closes-unrounded : {c : List ℕ} → Closes c → is (get_or c 0 0) (ascii "(") ≡ false
unfolding grammar.closer is
closes-unrounded nothing = refl
closes-unrounded (closed (grammar.function n d) r) = refl
closes-unrounded (closed grammar.round r) = refl
closes-unrounded (closed grammar.square r) = refl
closes-unrounded (closed grammar.brace r) = refl
closes-unrounded (at-semicolon r) = refl
closes-unrounded (at-bang r) = refl
closes-unrounded (at-brace r) = refl

-- nor what may stand behind a value
halts-unrounded : {t : List ℕ} → Halts t → is (get_or t 0 0) (ascii "(") ≡ false
halts-unrounded (halts {l} {t} h c) = blank-first (λ x. is x (ascii "(")) unrounded t h (closes-unrounded c)

-- a quote is no round bracket
quote-unrounded : (q : ℕ) → is_quote q ≡ true → is q (ascii "(") ≡ false
unfolding is_quote
quote-unrounded q e =
    rules.either (is q (ascii "(") ≡ false) _ _ e (λ w. is-no q (ascii "(") (λ z. omega (arith, is_true q (ascii "\"") w)))
    (λ w. is-no q (ascii "(") (λ z. omega (arith, is_true q (ascii "'") w)))

-- so a text that begins with a round bracket begins with a block in round brackets
round-called : (v : Balanced) (t : List ℕ) → Halts t → is (get_or (written_balanced v ++ t) 0 0) (ascii "(") ≡ true → Called v
unfolding written_balanced
round-called end t h e = never (sym (halts-unrounded h) ∙ e)
round-called (space x w v) t h e = never (sym (white-first (λ x. is x (ascii "(")) unrounded w) ∙ e)
round-called (remark c w v) t h e =
    never (sym (ap (λ (l : List ℕ). is (get_or l 0 0) (ascii "(")) (append_assoc c (written_balanced v) t) ∙ comment-first (λ x. is x (ascii "(")) unrounded (written_balanced v ++ t) w) ∙ e)
round-called (plain x p v) t h e = never (sym (plain_byte x p).no-open-round ∙ e)
round-called (quoted q v) t h e = never (sym (quote-unrounded q.quote q.quotes) ∙ e)
round-called (semicolon v) t h e = unfold is in never e
round-called (bang v) t h e = unfold is in never e
round-called (block round w v) t h e = called w v
round-called (block square w v) t h e = unfold opens is in never e
round-called (block curly w v) t h e = unfold opens is in never e

-- a block with what follows is its opening bracket, what is inside, its closing bracket and the rest
pub block-onto : (b : Bracket) (w r : Balanced) (t : List ℕ) → written_balanced (block b w r) ++ t ≡ opens b ∷ (written_balanced w ++ (closes b ∷ (written_balanced r ++ t)))
unfolding written_balanced
block-onto b w r t = ap (λ (l : List ℕ). opens b ∷ l) (append_assoc (written_balanced w) (closes b ∷ written_balanced r) t)

module _ (t : List ℕ) (h : Halts t) where
  -- a name with a bracket behind it
  call-in : (v : Balanced) (n : ℕ) (b : List ℕ) (k : Eaten v t n) → is (get_or (written_balanced v ++ t) n 0) (ascii "(") ≡ true → TokenIn v t (ok (n + 1) (tokens.function b))
  call-in v n b k e = by-called k.rest k.leaves k.onto (round-called k.rest t h (ap (λ (x : ℕ). is x (ascii "(")) (sym (eaten-first k)) ∙ e))
    where
      by-called : (q : Balanced) → Leaves v q → drop n (written_balanced v ++ t) ≡ written_balanced q ++ t → Called q → TokenIn v t (ok (n + 1) (tokens.function b))
      by-called _ l o (called w r) =
          call (n + 1) b w r l (sym (drop-drop 1 n (written_balanced v ++ t)) ∙ ap (drop 1) (o ∙ block-onto round w r t))

  -- a name, or a function up to its bracket (`parse_ident_like`), takes plain characters and that bracket alone
  like-in : (v : Balanced) → Clear v → TokenIn v t (ident_like_of (written_balanced v ++ t))
  unfolding ident_like_of
  like-in v c = by_name _ (ident-in t h v c)
    where
      by_name : (p : Parsed (List ℕ)) → NameIn v t p
          → TokenIn v t (on_parsed p (λ n b. pick (is (get_or (written_balanced v ++ t) n 0) (ascii "(")) (ok (n + 1) (tokens.function b)) (ok n (tokens.ident b))) err)
      by_name _ unnamed = unfold on_parsed in tokenless
      by_name _ (named n b k) =
          unfold on_parsed in
          pick-holds (TokenIn v t) (is (get_or (written_balanced v ++ t) n 0) (ascii "(")) (ok (n + 1) (tokens.function b)) (ok n (tokens.ident b)) (λ e. call-in v n b k e)
          (λ e. token n (tokens.ident b) k (harmless-number b).3)

  -- what either of two alternatives takes, the first that reads takes
  else-in : (v : Balanced) (p q : Parsed Token) → TokenIn v t p → TokenIn v t q → TokenIn v t (or_else p q)
  unfolding or_else
  else-in v _ q tokenless j = j
  else-in v _ q (token n k e f) j = token n k e f
  else-in v _ q (call n b w r l o) j = call n b w r l o

  -- behind one plain character
  module _ (x : ℕ) (e : is_plain x ≡ true) (v : Balanced) where
    -- what a reader takes behind one plain character, it takes with that character in front
    behind-one : (p : Parsed Token) → TokenIn v t p → TokenIn (plain x e v) t (parser.behind 1 p)
    unfolding parser.behind
    behind-one _ tokenless = tokenless
    behind-one _ (token n k j f) = token (1 + n) k (eaten-plain x e v j) f
    behind-one _ (call n b w r l o) = call (1 + n) b w r (past-plain x e v (block round w r) l) (unfold written_balanced in (drop-one n x (written_balanced v ++ t) ∙ o))

    -- a plain character that is a delimiter takes itself alone
    delim-in : TokenIn (plain x e v) t (ok 1 (tokens.delim x))
    delim-in = token 1 (tokens.delim x) (eaten-plain x e v (eaten-none v t)) (harmless-delim x (plain_byte x e).no-bang)

    -- a `#` takes the name behind it, or itself alone
    hash-in : Clear v → TokenIn (plain x e v) t (tokens.hash_of x (written_balanced (plain x e v) ++ t))
    unfolding tokens.hash_of written_balanced
    hash-in c = by_name _ (identstring-in t h v c)
      where
        by_name : (p : Parsed (List ℕ)) → NameIn v t p → TokenIn (plain x e v) t (on_parsed p (λ m b. ok (1 + m) (tokens.hash b)) (ok 1 (tokens.delim x)))
        by_name _ unnamed = unfold on_parsed in delim-in
        by_name _ (named m b k) = unfold on_parsed in token (1 + m) (tokens.hash b) (eaten-plain x e v k) (harmless-number b).2

    -- a character that is a token by itself
    mark-in : TokenIn (plain x e v) t (ok 1 (tokens.mark_of x))
    mark-in = token 1 (tokens.mark_of x) (eaten-plain x e v (eaten-none v t)) (harmless-mark (plain_byte x e))
      where
        harmless-mark : PlainByte x → Harmless (tokens.mark_of x)
        harmless-mark p =
            unfold tokens.mark_of pick in
            rw (p.no-semicolon, p.no-open-round, p.no-close-round, p.no-open-square, p.no-close-square, p.no-open-curly, p.no-close-curly)
            (pick-holds Harmless (is x (ascii ",")) tokens.comma _ (λ d. harmless-marks.1) (λ d. pick-holds Harmless (is x (ascii ":")) tokens.colon (tokens.delim x) (λ f. harmless-marks.0) (λ f. harmless-delim x p.no-bang)))

-- ---- the token that a plain character begins
-- a '-' is a plain character
dash-plainly : Plainly (λ x. is x (ascii "-"))
unfolding is opens closes
dash-plainly =
    record {
      unblank = record { of_space = refl; of-tab = refl; of-line-feed = refl; of-carriage-return = refl; of-form-feed = refl; of-solidus = refl };
      of_zero = refl;
      of-double = refl;
      of-single = refl;
      of-semicolon = refl;
      of-bang = refl;
      of-open = all-brackets (λ x. is x (ascii "-")) opens refl refl refl;
      of-close = all-brackets (λ x. is x (ascii "-")) closes refl refl refl;
    }

-- '>' is a plain character
greater-plainly : Plainly (λ x. is x (ascii ">"))
unfolding is opens closes
greater-plainly =
    record {
      unblank = record { of_space = refl; of-tab = refl; of-line-feed = refl; of-carriage-return = refl; of-form-feed = refl; of-solidus = refl };
      of_zero = refl;
      of-double = refl;
      of-single = refl;
      of-semicolon = refl;
      of-bang = refl;
      of-open = all-brackets (λ x. is x (ascii ">")) opens refl refl refl;
      of-close = all-brackets (λ x. is x (ascii ">")) closes refl refl refl;
    }

-- so no `-->` begins where none was written
no-cdc : (x : ℕ) (l t : List ℕ) → starts_with (text "-->") (x ∷ l) ≡ false → Halts t → starts_with (text "-->") (x ∷ (l ++ t)) ≡ false
unfolding starts_with text utf8 pick
no-cdc x [] t e h = rules.and_right _ _ (starts-not (ascii "-") (ascii ">" ∷ []) t (halts-first (λ x. is x (ascii "-")) dash-plainly h))
no-cdc x (y ∷ []) t e h =
    rules.and_right _ _ (rules.and_right _ _ (starts-not (ascii ">") [] t (halts-first (λ x. is x (ascii ">")) greater-plainly h)))
no-cdc x (y ∷ z ∷ l) t e h = e

-- nor does a `<!--` begin where none was written
no-cdo : (x : ℕ) (l t : List ℕ) → starts_with (text "<!--") (x ∷ l) ≡ false → same_text (x ∷ l) (text "<") ≡ false → is x (ascii "<") ≡ true → Halts t
    → starts_with (text "<!--") (x ∷ (l ++ t)) ≡ false
unfolding starts_with same_text text utf8 pick
no-cdo x [] t e d q h = never (sym d ∙ rules.and_both (is x (ascii "<")) true q refl)
no-cdo x (y ∷ []) t e d q h =
    rules.and_right _ _ (rules.and_right _ _ (starts-not (ascii "-") (ascii "-" ∷ []) t (halts-first (λ x. is x (ascii "-")) dash-plainly h)))
no-cdo x (y ∷ z ∷ []) t e d q h =
    rules.and_right _ _ (rules.and_right _ _ (rules.and_right _ _ (starts-not (ascii "-") [] t (halts-first (λ x. is x (ascii "-")) dash-plainly h))))
no-cdo x (y ∷ z ∷ w ∷ l) t e d q h = e

module _ (t : List ℕ) (h : Halts t) (x : ℕ) (e : is_plain x ≡ true) (v : Balanced) (c : Clear (plain x e v)) where
  abbrev text-here : List ℕ
  text-here = written_balanced (plain x e v) ++ t

  -- behind it the text is as clear
  clear_behind : (is_mark (x ∷ written_balanced v) ≡ false) × Clear v
  unfolding Clear
  clear_behind = c

  -- `-` begins a number, a name or a function, or is a delimiter; a `-->` it is not
  minus-in : TokenIn (plain x e v) t (tokens.minus_of x text-here)
  unfolding tokens.minus_of
  minus-in =
      else-in t h (plain x e v) _ _ (numeric-in t h (plain x e v) c)
      (subst (λ (b : Bool). TokenIn (plain x e v) t (pick b (ok 3 tokens.cdc) (or_else (ident_like_of text-here) (ok 1 (tokens.delim x))))) (sym no-mark)
      (unfold pick in else-in t h (plain x e v) _ _ (like-in t h (plain x e v) c) (delim-in t h x e v)))
    where
      no-mark : starts_with (text "-->") text-here ≡ false
      no-mark = unfold written_balanced in no-cdc x (written_balanced v) t (unfold is_mark in (neither _ _ (neither _ _ clear_behind.0).1).0) h

  -- `<` is a delimiter; a `<!--` it is not
  less-in : is x (ascii "<") ≡ true → TokenIn (plain x e v) t (tokens.less_of x text-here)
  unfolding tokens.less_of
  less-in q = subst (λ (b : Bool). TokenIn (plain x e v) t (pick b (ok 4 tokens.cdo) (ok 1 (tokens.delim x)))) (sym no-mark) (unfold pick in delim-in t h x e v)
    where
      marks : (is_mark (x ∷ written_balanced v) ≡ false) → (starts_with (text "<!--") (x ∷ written_balanced v) ≡ false) × (same_text (x ∷ written_balanced v) (text "<") ≡ false)
      marks m = unfold is_mark in (let a = neither _ _ (neither _ _ (neither _ _ m).1).1 in (a.0, (neither _ _ a.1).0))

      no-mark : starts_with (text "<!--") text-here ≡ false
      no-mark = let m = marks clear_behind.0 in unfold written_balanced in no-cdo x (written_balanced v) t m.0 m.1 q h

  -- what the token takes, by the reader that its first character selects
  pub start-in : TokenIn (plain x e v) t (tokens.token_with 1 x text-here)
  unfolding tokens.token_with is_quote
  start-in =
      let p = plain_byte x e in
      let By : Parsed Token → Type 0 = TokenIn (plain x e v) t in
      pick-holds By (or (is x (ascii "\"")) (is x (ascii "'"))) _ _ (λ q. never (sym (or-none _ _ p.no-double p.no-single) ∙ q))
      (λ _. pick-holds By (is x (ascii "#")) _ _ (λ q. hash-in t h x e v clear_behind.1)
      (λ _. pick-holds By (is x (ascii "+")) _ _ (λ q. plus-in)
      (λ _. pick-holds By (is x (ascii "-")) _ _ (λ q. minus-in)
      (λ _. pick-holds By (is x (ascii ".")) _ _ (λ q. else-in t h (plain x e v) _ _ (numeric-in t h (plain x e v) c) (delim-in t h x e v))
      (λ _. pick-holds By (is x (ascii "<")) _ _ (λ q. less-in q)
      (λ _. pick-holds By (is x (ascii "\\")) _ _ (λ q. never (sym p.no-escape ∙ q))
      (λ _. pick-holds By (is_ident_start x) _ _ (λ q. like-in t h (plain x e v) c)
      (λ _. pick-holds By (is_digit x) _ _ (λ q. numeric-in t h (plain x e v) c) (λ q. mark-in t h x e v)))))))))
    where
      plus-in : TokenIn (plain x e v) t (tokens.plus_of x text-here)
      plus-in = unfold tokens.plus_of written_balanced in else-in t h (plain x e v) _ _ (behind-one t h x e v _ (numeric-in t h v clear_behind.1)) (delim-in t h x e v)

-- ---- which is one
-- what is read is read
some_read : {A : Type 0} (n : ℕ) (a : A) → ¬ (ok n a ≡ err)
some_read n a e = absurd (let z : ◌≡◌ {A = ℕ} 0 1 = cc in omega arith)

-- the second of two reads
else-some : (p : Parsed Token) (n : ℕ) (k : Token) → ¬ (or_else p (ok n k) ≡ err)
unfolding or_else
else-some (ok m j) n k e = some_read m j e
else-some err n k e = some_read n k e

-- where both arms of a choice read, the choice reads
pick_some : (b : Bool) (p q : Parsed Token) → ¬ (p ≡ err) → ¬ (q ≡ err) → ¬ (pick b p q ≡ err)
pick_some b p q f g = pick-holds (λ (r : Parsed Token). ¬ (r ≡ err)) b p q (λ _. f) (λ _. g)

-- where both what a name makes and what none makes read, one of them reads
name-some-read : (p : Parsed (List ℕ)) (f : ℕ → List ℕ → Parsed Token) (q : Parsed Token) → ((n : ℕ) (b : List ℕ) → ¬ (f n b ≡ err)) → ¬ (q ≡ err) → ¬ (on_parsed p f q ≡ err)
unfolding on_parsed
name-some-read (ok n b) f q g h = g n b
name-some-read err f q g h = h

-- a letter is one that starts a name
letter-start : (x : ℕ) → x ≤ tilde → is_ident_start x ≡ true → is_nmstart x ≡ true
unfolding is_ident_start
letter-start x l e = rules.either (is_nmstart x ≡ true) _ _ e (λ s. s) (λ s. absurd (omega (arith, leb-true tokens.first_above_u0080 x s)))

-- and so is what it begins
letter-named : (x : ℕ) (l : List ℕ) → whitespace_item (x ∷ l) ≡ 0 → is x (ascii "-") ≡ false → is_nmstart x ≡ true
    → ident_of (x ∷ l) ≡ ok (0 + chars_end (x ∷ l)) (chars_text (x ∷ l))
letter-named x l i d n = skips (skips-blank [] (x ∷ l) none i) (name-some (x ∷ l) 1 (lower x) start)
  where
    start : nmstart_of (drop (dash (x ∷ l)) (x ∷ l)) ≡ option.Some (record { taken = 1; value = lower x })
    start = unfold dash pick in rw d (start_plain (x ∷ l) n ∙ char-plain (x ∷ l) (nmstart-nmchar x n))

    skips : skip_whitespace (x ∷ l) ≡ 0 → name_of (x ∷ l) ≡ ok (chars_end (x ∷ l)) (chars_text (x ∷ l)) → ident_of (x ∷ l) ≡ ok (0 + chars_end (x ∷ l)) (chars_text (x ∷ l))
    skips z q = unfold ident_of parser.behind in rw (z, q)

-- where a name reads, a name or a function reads
letter-some : (x : ℕ) (l : List ℕ) (n : ℕ) (b : List ℕ) → ident_of (x ∷ l) ≡ ok n b → ¬ (ident_like_of (x ∷ l) ≡ err)
unfolding ident_like_of on_parsed
letter-some x l n b e = rw e (pick_some (is (get_or (x ∷ l) n 0) (ascii "(")) _ _ (some_read _ _) (some_read _ _))

-- digits are a number without a sign
unsigned-digits : (s : List ℕ) (m : ℕ) → digits s ≡ suc m → numbers.unsigned s ≡ suc m
unfolding numbers.unsigned pick
unsigned-digits s m e = rw (e, is-no (suc m) 0 (λ z. omega arith))

-- and a number, where no white space stands before them
number_digits : (s : List ℕ) (m : ℕ) → skip_whitespace s ≡ 0 → numbers.sign s ≡ 0 → numbers.unsigned s ≡ suc m → numbers.number s ≡ 0 + (0 + suc m)
unfolding numbers.number numbers.signed pick
number_digits s m z n u = rw (z, n, u, is-no (suc m) 0 (λ q. omega arith), is-no (0 + suc m) 0 (λ q. omega arith))

-- a digit is no sign
digit-unsigned : (x : ℕ) (l : List ℕ) → is_digit x ≡ true → numbers.sign (x ∷ l) ≡ 0
unfolding numbers.sign pick or
digit-unsigned x l d =
    rw (differs is_digit x (ascii "-") d (unfold is_digit and within in refl), differs is_digit x (ascii "+") d (unfold is_digit and within in refl))

-- and the first of digits
digit-first : (x : ℕ) (l : List ℕ) → is_digit x ≡ true → digits (x ∷ l) ≡ suc (digits l)
unfolding digits one_digit pick
digit-first x l d =
    let i : 1 + many one_digit 0 0 l ≡ suc (many one_digit 0 0 l) = omega arith in
    many-took one_digit (x ∷ l) 0 1 (omega arith) (rw d) (λ q. omega arith) ∙ many-from 1 one_digit l 0 0 ∙ i

-- so it begins a number
digit-some : (x : ℕ) (l : List ℕ) → whitespace_item (x ∷ l) ≡ 0 → is_digit x ≡ true → ¬ (numbers.number (x ∷ l) ≡ 0)
digit-some x l i d q =
    let n = number_digits (x ∷ l) (digits l) (skips-blank [] (x ∷ l) none i) (digit-unsigned x l d) (unsigned-digits (x ∷ l) (digits l) (digit-first x l d)) in
    omega (arith, n, q)

-- where a number begins, a number, percentage or dimension is read
numeric-some : (s : List ℕ) → ¬ (numbers.number s ≡ 0) → ¬ (numeric_of s ≡ err)
unfolding numeric_of numeric_from pick
numeric-some s d =
    rw (is-no (numbers.number s) 0 d)
    (pick_some (is (get_or s (numbers.number s) 0) (ascii "%")) _ _ (some_read _ _) (name-some-read (ident_of (drop (numbers.number s) s)) _ _ (λ n b. some_read _ _) (some_read _ _)))

module _ (t : List ℕ) (h : Halts t) (x : ℕ) (e : is_plain x ≡ true) (v : Balanced) (c : Clear (plain x e v)) where
  abbrev text-there : List ℕ
  text-there = written_balanced (plain x e v) ++ t

  -- no white space begins there
  pub there-item : whitespace_item text-there ≡ 0
  unfolding written_balanced
  there-item = plain-item x (written_balanced v) t (plain_byte x e) (clear_behind t h x e v c).0 h

  -- a name or a number does, where the reader looks for one
  letter-there : is_ident_start x ≡ true → is x (ascii "-") ≡ false → ¬ (ident_like_of text-there ≡ err)
  unfolding written_balanced
  letter-there q d = letter-some x (written_balanced v ++ t) _ _ (letter-named x (written_balanced v ++ t) there-item d (letter-start x (plain_byte x e).high q))

  -- a number is read where the character is a digit
  digit-there : is_digit x ≡ true → ¬ (numeric_of text-there ≡ err)
  unfolding written_balanced
  digit-there q = numeric-some (x ∷ (written_balanced v ++ t)) (digit-some x (written_balanced v ++ t) there-item q)

  -- something is read
  abbrev Some : Parsed Token → Type 0
  Some p = ¬ (p ≡ err)

  -- so a plain character begins a token, whichever reader it selects
  pub start-some : Some (tokens.token_with 1 x text-there)
  unfolding tokens.token_with is_quote
  start-some =
      let p = plain_byte x e in
      pick-holds Some (or (is x (ascii "\"")) (is x (ascii "'"))) _ _ (λ q. never (sym (or-none _ _ p.no-double p.no-single) ∙ q))
      (λ _. pick-holds Some (is x (ascii "#")) (tokens.hash_of x text-there) _ (λ q. unfold tokens.hash_of in name-some-read (identstring_of (drop 1 text-there)) _ _ (λ n b. some_read _ _) (some_read _ _))
      (λ _. pick-holds Some (is x (ascii "+")) (tokens.plus_of x text-there) _ (λ q. unfold tokens.plus_of in else-some _ 1 (tokens.delim x))
      (λ d. pick-holds Some (is x (ascii "-")) _ _ (λ q. minus-some)
      (λ m. pick-holds Some (is x (ascii ".")) _ _ (λ q. else-some _ 1 (tokens.delim x))
      (λ _. pick-holds Some (is x (ascii "<")) _ _ (λ q. less-some)
      (λ _. pick-holds Some (is x (ascii "\\")) _ _ (λ q. never (sym p.no-escape ∙ q))
      (λ _. pick-holds Some (is_ident_start x) _ _ (λ q. letter-there q m)
      (λ _. pick-holds Some (is_digit x) _ _ (λ q. digit-there q) (λ q. some_read 1 (tokens.mark_of x))))))))))
    where
      else-second : (p q : Parsed Token) → ¬ (q ≡ err) → ¬ (or_else p q ≡ err)
      else-second (ok n k) q d = unfold or_else in some_read n k
      else-second err q d = unfold or_else in d

      less-some : Some (tokens.less_of x text-there)
      less-some = unfold tokens.less_of in pick_some (starts_with (text "<!--") text-there) _ _ (some_read 4 tokens.cdo) (some_read 1 (tokens.delim x))

      minus-some : Some (tokens.minus_of x text-there)
      minus-some = unfold tokens.minus_of in else-second _ _ (pick_some (starts_with (text "-->") text-there) _ _ (some_read 3 tokens.cdc) (else-some _ 1 (tokens.delim x)))
