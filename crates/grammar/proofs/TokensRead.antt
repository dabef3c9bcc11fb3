-- Tokens of the grammar are read whole: the steps of CSS Syntax Level 3, section 4.3 ('Consume a token' and what it calls), where the reader
-- agrees with them.
use mathlib.Core.Path.{◌≡◌, refl, ap, sym, subst, ◌∙◌}
use mathlib.Core.Bool.{Bool, true, false, not}
use mathlib.Core.List.{List, [], ◌∷◌, ◌++◌, append_assoc, map}
use Prim.Native.Nat.{ℕ, ◌+◌, ◌≤◌}
use native.Mathlib.Nat.{zero-add, add-zero}
use native.Mathlib.Omega.{arith}
use borrow.Author.Tests.{lt-leb, not-true}
use lib.ListN.{length, get_or, drop, length-append}
use lib.Seq.{get_or-drop, get_or-append-add, drop-append_seam, take-append_seam}
use Prim.Native.Char.{code as ascii}
use Rattle.combinators.specs.Choice.{pick, or, and, is, within}
use Rattle.combinators.specs.Parsed.{Parsed, ok, err, on_parsed, behind, or_else}
use Rattle.combinators.specs.Repeat.{many, took}
use Rattle.combinators.specs.Word.{starts_with}
use Rattle.combinators.specs.All.{member}
use Rattle.combinators.proofs.Lists.{first}
use Rattle.combinators.proofs.Rules.{never, pick_true, pick-false, either, and-true, is-yes, is-no, is_true, or_left, or-none, within-true, within-false, within-past, neither}
use Rattle.combinators.proofs.Repeats.{many-stop, texts-stop}
use Rattle.characters.specs.Literal.{text}
use Rattle.characters.specs.Utf8.{utf8, scalar_of, taken_of}
use Rattle.characters.proofs.RoundTrip.{ascii-read}
use Rattle.std.specs.Prelude.{None}
use Rattle.lexer.specs.Name.{is_nmstart, is_nmchar, lower, nmstart_of, nmchar_of, char_taken, char_text, chars_end, chars_text, chars_of, dash, name_of, ident_of, identstring_of}
use Rattle.lexer.specs.Number.{is_digit, one_digit, digits}
use Rattle.lexer.specs.Number as numbers
use Rattle.lexer.specs.Token as tokens
use Rattle.lexer.specs.Token.{Token, numeric_from, numeric_of, ident_like_of, is_quote, string_of, first_above_u0080, is_ident_start, mark_of, hash_of, plus_of, minus_of, less_of, token_with, token_at, token_of}
use Rattle.lexer.specs.Whitespace.{is_whitespace, comment_of, whitespace_item, skip_whitespace}
use Rattle.lexer.proofs.SyntaxName.{Each, none, more, IdentSequence, started, dashed, ident_start, ident_code_point, letter, start-code-point, code-point-item, hyphen-code-point, ident-sequence, start_is, code-point-is}
use Rattle.lexer.proofs.SyntaxWhitespace.{skips-blank}
use Rattle.lexer.proofs.SyntaxWhitespace as blanks
use Rattle.lexer.proofs.Escapes.{char-no, escape-no, either_second}
use Rattle.lexer.proofs.Characters.{lower-byte}
use Rattle.lexer.proofs.CharacterRuns.{chars-step, chars-text-step}
use Rattle.lexer.proofs.Idents.{char-plain, name-none}
use Rattle.grammar.specs.Nth.{Blanks, Sign, unsigned, plus, minus, written_sign}
use Rattle.grammar.specs.Selectors.{Quoted}
use Rattle.grammar.specs.Tokens.{Numeral, Hashed, is_delimiter, Atom, word, string, hash, number, percentage, dimension, comma, colon, semicolon, delimiter, point, hyphen, addition, Opening, function, round, square, brace, written_stop, written_numeral, written_atom, written_opening, closer, means_sign, means_numeral, means_atom, means_opening, means_closer, ends_name, begins_name, begins_number, may_follow, MayFollow, EndsBefore, Ident, folded}
use Rattle.grammar.proofs.Places.{differs, Unblank, unblank-item}
use Rattle.grammar.proofs.NthRead.{digits-read, starts-not}
use Rattle.grammar.proofs.ComponentsRead.{behind-blank}
use Rattle.grammar.proofs.StringsRead.{quoted-read}

-- ---- a token at the start of a text
-- a text that does not begin with white space begins with the token k, of n bytes
pub record Begins (t : List ℕ) (n : ℕ) (k : Token) : Type 0 where
  pub item : whitespace_item t ≡ 0
  pub reads : token_at t (scalar_of t) ≡ ok n k

module _ (b : Blanks) (t : List ℕ) (n : ℕ) (k : Token) (h : Begins t n k) where
  -- white space and comments before it are skipped
  pub token-skips : skip_whitespace (b.bytes ++ t) ≡ length b.bytes
  token-skips = skips-blank b.bytes t b.blank h.item

  -- and it is read behind them
  pub token-read : token_of (b.bytes ++ t) ≡ ok (length b.bytes + n) k
  unfolding token_of behind
  token-read = rw (token-skips, drop-append_seam b.bytes t, h.reads)

-- what the reader reads that its first byte selects, where that is of ASCII
pub begins-by : (x : ℕ) (l : List ℕ) (n : ℕ) (k : Token) → whitespace_item (x ∷ l) ≡ 0 → x ≤ 0x7f → token_with 1 x (x ∷ l) ≡ ok n k → Begins (x ∷ l) n k
unfolding token_at
begins-by x l n k e h p = record { item = e; reads = rw (ascii-read x l h, p) }

-- ---- names: 4.3.4, Consume an ident-like token
-- no mark is an ident-start code point
start-marks : (ident_start (ascii "\"") ≡ false) × (ident_start (ascii "'") ≡ false) × (ident_start (ascii "#") ≡ false) × (ident_start (ascii "+") ≡ false)
    × (ident_start (ascii "-") ≡ false) × (ident_start (ascii ".") ≡ false) × (ident_start (ascii "<") ≡ false) × (ident_start (ascii "\\") ≡ false)
unfolding ident_start letter or and within is
start-marks = (refl, refl, refl, refl, refl, refl, refl, refl)

-- where the document says that a character is an ident-start code point, the crate says that it starts a name
crate-start : (x : ℕ) → ident_start x ≡ true → is_ident_start x ≡ true
unfolding is_ident_start
crate-start x e = or_left _ _ (sym (start_is x) ∙ e)

-- an ident-start code point selects the reader of names
start-letter : (x : ℕ) (l : List ℕ) → ident_start x ≡ true → token_with 1 x l ≡ ident_like_of l
unfolding token_with is_quote pick or
start-letter x l e =
    rw (
      differs ident_start x (ascii "\"") e start-marks.0,
      differs ident_start x (ascii "'") e start-marks.1,
      differs ident_start x (ascii "#") e start-marks.2,
      differs ident_start x (ascii "+") e start-marks.3,
      differs ident_start x (ascii "-") e start-marks.4,
      differs ident_start x (ascii ".") e start-marks.5,
      differs ident_start x (ascii "<") e start-marks.6,
      differs ident_start x (ascii "\\") e start-marks.7,
      crate-start x e,
    )

-- it is of ASCII, and above the digits
start_between : (x : ℕ) → ident_start x ≡ true → (x ≤ 0x7f) × (ascii "9" + 1 ≤ x)
unfolding ident_start letter
start_between x e =
    either ((x ≤ 0x7f) × (ascii "9" + 1 ≤ x)) _ _ e
    (λ l. either ((x ≤ 0x7f) × (ascii "9" + 1 ≤ x)) _ _ l
    (λ w. let h = within-true x (ascii "A") (ascii "Z") w in (omega arith, omega arith))
    (λ w. let h = within-true x (ascii "a") (ascii "z") w in (omega arith, omega arith)))
    (λ w. let h = is_true x (ascii "_") w in (omega arith, omega arith))

-- nothing that is neither a digit nor a full stop begins a number without a sign
no_unsigned : (t : List ℕ) → is_digit (get_or t 0 0) ≡ false → is (get_or t 0 0) (ascii ".") ≡ false → numbers.unsigned t ≡ 0
unfolding numbers.unsigned numbers.decimal pick is
no_unsigned t d e = rw (digits-read none t d, e)

-- so behind a '-' there is none
minus-none : (t : List ℕ) → is_digit (get_or t 0 0) ≡ false → is (get_or t 0 0) (ascii ".") ≡ false → numeric_of (ascii "-" ∷ t) ≡ err
unfolding numeric_of numbers.number numbers.signed numbers.sign skip_whitespace whitespace_item is_whitespace comment_of many took pick or is
minus-none t d e = rw (no_unsigned t d e)

-- as before an ident-start code point
dashed-number : (x : ℕ) (l : List ℕ) → ident_start x ≡ true → numeric_of (ascii "-" ∷ x ∷ l) ≡ err
unfolding is_digit
dashed-number x l e =
    let b = (start_between x e).1 in
    minus-none (x ∷ l) (within-past x (ascii "0") (ascii "9") (omega arith)) (is-no x (ascii ".") (λ q. omega arith))

-- what an ident-start code point begins is what the reader of names reads
letter-begins : (x : ℕ) (l : List ℕ) (n : ℕ) (k : Token) → ident_start x ≡ true → ident_like_of (x ∷ l) ≡ ok n k → Begins (x ∷ l) n k
letter-begins x l n k e p = begins-by x l n k (code-point-item x l (start-code-point x e)) (start_between x e).0 (start-letter x (x ∷ l) e ∙ p)

-- and so is what a '-' begins before one
dash-begins : (x : ℕ) (l : List ℕ) (n : ℕ) (k : Token) → ident_start x ≡ true → ident_like_of (ascii "-" ∷ x ∷ l) ≡ ok n k → Begins (ascii "-" ∷ x ∷ l) n k
unfolding token_with is_quote minus_of or_else starts_with text utf8 pick or and is
dash-begins x l n k e p =
    begins-by (ascii "-") (x ∷ l) n k (code-point-item (ascii "-") (x ∷ l) hyphen-code-point) (omega arith)
    (rw (dashed-number x l e, differs ident_start x (ascii "-") e start-marks.4, p))

-- so of every name
name-begins : (bytes t : List ℕ) (n : ℕ) (k : Token) → IdentSequence bytes → ident_like_of (bytes ++ t) ≡ ok n k → Begins (bytes ++ t) n k
name-begins _ t n k (started {x} {r} e s) p = letter-begins x (r ++ t) n k e p
name-begins _ t n k (dashed {x} {r} e s) p = dash-begins x (r ++ t) n k e p

-- a name ends before t
pub record NameEnds (t : List ℕ) : Type 0 where
  pub no-character : ident_code_point (get_or t 0 0) ≡ false
  pub no-escape : ¬ (get_or t 0 0 ≡ ascii "\\")

-- where the grammar's test says so, a name ends
name-ends : (t : List ℕ) → ends_name (get_or t 0 0) ≡ true → NameEnds t
unfolding ends_name
name-ends t e =
    let n = neither _ _ (not-true _ e) in
    record { no-character = n.0; no-escape = λ q. never (sym n.1 ∙ is-yes _ _ q) }

-- a name is read whole, in small letters
name-whole : (n : Ident) (t : List ℕ) → NameEnds t → ident_of (n.bytes ++ t) ≡ ok (length n.bytes) (folded n)
unfolding folded
name-whole n t h = ident-sequence n.bytes t n.sequence h.no-character h.no-escape

-- no bracket follows the name
like-ident : (n : Ident) (t : List ℕ) → NameEnds t → is (get_or t 0 0) (ascii "(") ≡ false → ident_like_of (n.bytes ++ t) ≡ ok (length n.bytes) (tokens.ident (folded n))
unfolding ident_like_of on_parsed pick
like-ident n t h d = rw (name-whole n t h, behind-blank n.bytes t, d)

-- "Otherwise, return an <ident-token> with its value set to string"
pub ident-token : (n : Ident) (t : List ℕ) → ends_name (get_or t 0 0) ≡ true → is (get_or t 0 0) (ascii "(") ≡ false
    → Begins (n.bytes ++ t) (length n.bytes) (tokens.ident (folded n))
ident-token n t e d = name-begins n.bytes t _ _ n.sequence (like-ident n t (name-ends t e) d)

-- a name ends before a round bracket
round-ends : (t : List ℕ) → NameEnds (ascii "(" ∷ t)
unfolding ident_code_point ident_start letter or and within is
round-ends t = record { no-character = refl; no-escape = λ q. omega arith }

-- a name directly before a round bracket is read with it, as a function
like-function : (n : Ident) (t : List ℕ) → ident_like_of (n.bytes ++ (ascii "(" ∷ t)) ≡ ok (length n.bytes + 1) (tokens.function (folded n))
unfolding ident_like_of on_parsed pick is
like-function n t = rw (name-whole n (ascii "(" ∷ t) (round-ends t), behind-blank n.bytes (ascii "(" ∷ t))

-- "if the next input code point is U+0028 LEFT PARENTHESIS, consume it. Return a <function-token> with its value set to string"
pub function-token : (n : Ident) (t : List ℕ) → Begins (n.bytes ++ (ascii "(" ∷ t)) (length n.bytes + 1) (tokens.function (folded n))
function-token n t = name-begins n.bytes (ascii "(" ∷ t) _ _ n.sequence (like-function n t)

-- ---- hashes: 4.3.1, U+0023 NUMBER SIGN
-- no character of a name is read where a name ends
unread : (t : List ℕ) → NameEnds t → nmchar_of t ≡ None
unfolding nmchar_of
unread t h =
    let p = char-no is_nmchar t _ refl _ refl (sym (code-point-is _) ∙ h.no-character) in
    sym (either_second _ _ _ p refl _ (escape-no t _ refl (is-no _ _ h.no-escape)))

-- ident code points before it are the characters of the name, each folded
characters : (t : List ℕ) → NameEnds t → {r : List ℕ} → Each ident_code_point r → (chars_end (r ++ t) ≡ length r) × (chars_text (r ++ t) ≡ map lower r)
characters t h none = unfold chars_end chars_text in (many-stop char_taken t 0 (untaken t h), texts-stop char_taken char_text t (untaken t h))
  where
    untaken : (t : List ℕ) → NameEnds t → char_taken t ≡ 0
    untaken t h = unfold char_taken taken_of in ap taken_of (unread t h)
characters t h (more {x} {r} e es) =
    let c = sym (code-point-is x) ∙ e in
    let k = char-plain (x ∷ (r ++ t)) c in
    let g = characters t h es in
    (chars-step _ 1 _ k ∙ omega (arith, g.0), chars-text-step _ 1 _ k ∙ ap (λ b. b ++ chars_text (r ++ t)) (lower-byte x c) ∙ ap (λ l. lower x ∷ l) g.1)

-- where there are some, they are read from the start
hash-named : (h : Hashed) (t : List ℕ) → NameEnds t → identstring_of (h.bytes ++ t) ≡ ok (length h.bytes) (map lower h.bytes)
unfolding identstring_of chars_of behind pick
hash-named h t e =
    let c = characters t e h.are in
    rw (
      hash-unskipped h.bytes t h.are h.some,
      c.0,
      is-no (length h.bytes) 0 (λ z. omega (arith, h.some)),
      c.1,
      zero-add (length h.bytes),
    )
  where
    hash-unskipped : (bytes t : List ℕ) → Each ident_code_point bytes → 1 ≤ length bytes → skip_whitespace (bytes ++ t) ≡ 0
    hash-unskipped _ t none l = absurd (omega arith)
    hash-unskipped _ t (more {x} {r} e es) l = skips-blank [] (x ∷ (r ++ t)) blanks.none (code-point-item x (r ++ t) e)

-- behind '#' the characters of a name are a hash
hash-begins : (l : List ℕ) (m : ℕ) (b : List ℕ) → identstring_of l ≡ ok m b → Begins (ascii "#" ∷ l) (1 + m) (tokens.hash b)
unfolding whitespace_item is_whitespace comment_of token_with is_quote hash_of on_parsed pick or is
hash-begins l m b p = begins-by (ascii "#") l (1 + m) (tokens.hash b) refl (omega arith) (rw p)

-- "If the next input code point is an ident code point ..: Consume an ident sequence, and set the <hash-token>'s value to the returned string"
pub hash-token : (h : Hashed) (t : List ℕ) → ends_name (get_or t 0 0) ≡ true → Begins (ascii "#" ∷ (h.bytes ++ t)) (1 + length h.bytes) (tokens.hash (map lower h.bytes))
hash-token h t e = hash-begins (h.bytes ++ t) _ _ (hash-named h t (name-ends t e))

-- a digit is an ident code point
digit-code-point : (x : ℕ) → is_digit x ≡ true → ident_code_point x ≡ true
unfolding is_digit ident_code_point
digit-code-point x e = middle (ident_start x) _ _ e
  where
    middle : (a b c : Bool) → b ≡ true → or a (or b c) ≡ true
    middle true b c e = unfold or in refl
    middle false b c e = unfold or in rw e

-- so where a name ends no digit stands
pub ended-digit : (x : ℕ) → ident_code_point x ≡ false → is_digit x ≡ false
unfolding is_digit ident_code_point
ended-digit x e = (neither _ _ (neither _ _ e).1).0

-- ---- strings: 4.3.5, Consume a string token
-- neither quote begins white space
quote-unblank : Unblank is_quote
unfolding is_quote or is
quote-unblank = record { of_space = refl; of-tab = refl; of-line-feed = refl; of-carriage-return = refl; of-form-feed = refl; of-solidus = refl }

-- both are of ASCII
quote-low : (q : ℕ) → is_quote q ≡ true → q ≤ 0x7f
unfolding is_quote
quote-low q e =
    either (q ≤ 0x7f) _ _ e (λ w. let h = is_true q (ascii "\"") w in omega arith) (λ w. let h = is_true q (ascii "'") w in omega arith)

-- what a quote begins is a string
quote-begins : (q : ℕ) (l : List ℕ) (n : ℕ) (k : Token) → is_quote q ≡ true → string_of (q ∷ l) ≡ ok n k → Begins (q ∷ l) n k
unfolding token_with pick
quote-begins q l n k e p = begins-by q l n k (unblank-item is_quote quote-unblank (q ∷ l) e) (quote-low q e) (rw (e, p))

-- "ending code point: Return the <string-token>"
pub string-token : (q : Quoted) (t : List ℕ) → Begins (q.quote ∷ (q.bytes ++ (q.quote ∷ t))) (1 + length q.bytes + 1) (tokens.string q.body)
string-token q t = quote-begins q.quote (q.bytes ++ (q.quote ∷ t)) _ _ q.quotes (quoted-read q t)

-- ---- numbers: 4.3.12, Consume a number; 4.3.3, Consume a numeric token
-- no digit begins with a full stop
pub stop-digits : (l : List ℕ) → digits (ascii "." ∷ l) ≡ 0
unfolding digits one_digit is_digit many took pick and within
stop-digits l = refl

-- a full stop and digits are a decimal
stop-decimal : (l : List ℕ) (n : ℕ) → digits l ≡ n → 1 ≤ n → numbers.decimal (ascii "." ∷ l) ≡ 1 + n
unfolding numbers.decimal pick is
stop-decimal l n e h = rw (stop-digits l, e, is-no n 0 (λ z. omega arith)) (omega arith)

-- a number without a sign: digits, or a full stop and digits, up to a byte that is no digit
unsigned-read : (f : Bool) (ds u : List ℕ) → Each is_digit ds → 1 ≤ length ds → is_digit (get_or u 0 0) ≡ false
    → numbers.unsigned (written_stop f ++ (ds ++ u)) ≡ length (written_stop f) + length ds
unfolding numbers.unsigned written_stop pick
unsigned-read false ds u h l e = rw (digits-read h u e, is-no (length ds) 0 (λ z. omega arith), zero-add (length ds))
unsigned-read true ds u h l e = sym (pick_true _ _ _ _ (is-yes _ _ (stop-digits (ds ++ u))) (sym (stop-decimal (ds ++ u) (length ds) (digits-read h u e) l)))

-- what it begins with: a digit or a full stop
unfoldable pub unsigned_first : ℕ → Bool
unsigned_first x = or (is_digit x) (is x (ascii "."))

-- a number without its sign does begin with one of these
pub unsigned-first : (f : Bool) (ds u : List ℕ) → Each is_digit ds → 1 ≤ length ds → unsigned_first (get_or (written_stop f ++ (ds ++ u)) 0 0) ≡ true
unsigned-first true ds u h l = unfold written_stop unsigned_first is_digit or and within is in refl
unsigned-first false _ u none l = absurd (omega arith)
unsigned-first false _ u (more e es) l = unfold written_stop unsigned_first or in rw e

-- neither a digit nor a full stop begins white space
first-unblank : Unblank unsigned_first
unfolding unsigned_first is_digit or and within is
first-unblank = record { of_space = refl; of-tab = refl; of-line-feed = refl; of-carriage-return = refl; of-form-feed = refl; of-solidus = refl }

-- neither sign is a digit or a full stop
pub first-signs : (unsigned_first (ascii "+") ≡ false) × (unsigned_first (ascii "-") ≡ false)
unfolding unsigned_first is_digit or and within is
first-signs = (refl, refl)

-- where no sign stands before a number, reading it with its sign takes the number alone
unsigned_signed : (v : List ℕ) (n : ℕ) → unsigned_first (get_or v 0 0) ≡ true → numbers.unsigned v ≡ n → 1 ≤ n → numbers.signed v ≡ n
unfolding numbers.signed numbers.sign pick or
unsigned_signed v n e p l =
    rw (
      differs unsigned_first (get_or v 0 0) (ascii "-") e first-signs.1,
      differs unsigned_first (get_or v 0 0) (ascii "+") e first-signs.0,
      p,
      is-no n 0 (λ z. omega arith),
      zero-add n,
    )

-- behind a '-' a number without a sign takes one byte more
minus-signed : (v : List ℕ) (n : ℕ) → numbers.unsigned v ≡ n → 1 ≤ n → numbers.signed (ascii "-" ∷ v) ≡ 1 + n
unfolding numbers.signed numbers.sign pick or is
minus-signed v n p l = rw (p, is-no n 0 (λ z. omega arith))

-- so a number with its sign or none is read
signed-read : (s : Sign) (v : List ℕ) (n : ℕ) → unsigned_first (get_or v 0 0) ≡ true → numbers.unsigned v ≡ n → 1 ≤ n → numbers.signed (means_sign s ++ v) ≡ length (means_sign s) + n
unfolding means_sign
signed-read unsigned v n e p l = unsigned_signed v n e p l ∙ sym (zero-add n)
signed-read plus v n e p l = unsigned_signed v n e p l ∙ sym (zero-add n)
signed-read minus v n e p l = minus-signed v n p l

-- what begins with a '-', a digit or a full stop begins no white space
pub signed-unskipped : (s : Sign) (v : List ℕ) → unsigned_first (get_or v 0 0) ≡ true → skip_whitespace (means_sign s ++ v) ≡ 0
signed-unskipped unsigned v e = unfold means_sign in skips-blank [] v blanks.none (unblank-item unsigned_first first-unblank v e)
signed-unskipped plus v e = unfold means_sign in skips-blank [] v blanks.none (unblank-item unsigned_first first-unblank v e)
signed-unskipped minus v e = unfold means_sign in skips-blank [] (ascii "-" ∷ v) blanks.none (code-point-item (ascii "-") v hyphen-code-point)

module _ (n : Numeral) (u : List ℕ) (e : is_digit (get_or u 0 0) ≡ false) where
  -- the number without its sign, and what stands behind it
  abbrev v : List ℕ
  v = written_stop n.fraction ++ (n.digits ++ u)

  -- they stand one behind the other
  numeral-onto : means_numeral n ++ u ≡ means_sign n.sign ++ v
  unfolding means_numeral
  numeral-onto =
      append_assoc (means_sign n.sign) (written_stop n.fraction ++ n.digits) u
      ∙ ap (λ (l : List ℕ). means_sign n.sign ++ l) (append_assoc (written_stop n.fraction) n.digits u)

  -- and so long is the number
  numeral-length : length (means_numeral n) ≡ length (means_sign n.sign) + (length (written_stop n.fraction) + length n.digits)
  unfolding means_numeral
  numeral-length = omega (arith, length-append (means_sign n.sign) (written_stop n.fraction ++ n.digits), length-append (written_stop n.fraction) n.digits)

  -- "Repeatedly consume digits": all of the number is taken, and no more
  number-taken : numbers.number (means_numeral n ++ u) ≡ length (means_numeral n)
  unfolding numbers.number pick
  number-taken =
      let f = unsigned-first n.fraction n.digits u n.are n.some in
      let k = length (written_stop n.fraction) + length n.digits in
      let r = signed-read n.sign v k f (unsigned-read n.fraction n.digits u n.are n.some e) (omega (arith, n.some)) in
      rw (numeral-onto, signed-unskipped n.sign v f, r, is-no (length (means_sign n.sign) + k) 0 (λ z. omega (arith, n.some)), numeral-length) (omega arith)

  -- so what follows the number decides
  numeric-from : numeric_of (means_numeral n ++ u) ≡ numeric_from (length (means_numeral n)) (means_numeral n ++ u)
  unfolding numeric_of pick
  numeric-from = rw (number-taken, is-no (length (means_numeral n)) 0 (λ z. omega (arith, numeral-length, n.some)))

module _ (m u : List ℕ) where
  -- "If the next input code point is U+0025 PERCENTAGE SIGN, consume it. Create a <percentage-token>"
  from-percent : numeric_from (length m) (m ++ (ascii "%" ∷ u)) ≡ ok (length m + 1) (tokens.percentage m)
  unfolding numeric_from pick is
  from-percent = rw (behind-blank m (ascii "%" ∷ u), take-append_seam m (ascii "%" ∷ u))

  -- "If the next 3 input code points would start an ident sequence: Create a <dimension-token>"
  from-unit : (k : ℕ) (b : List ℕ) → is (get_or u 0 0) (ascii "%") ≡ false → ident_of u ≡ ok k b → numeric_from (length m) (m ++ u) ≡ ok (length m + k) (tokens.dimension m b)
  unfolding numeric_from on_parsed pick
  from-unit k b e p = rw (behind-blank m u, e, drop-append_seam m u, p, take-append_seam m u)

  -- "Otherwise, create a <number-token>"
  from-none : is (get_or u 0 0) (ascii "%") ≡ false → ident_of u ≡ err → numeric_from (length m) (m ++ u) ≡ ok (length m) (tokens.number m)
  unfolding numeric_from on_parsed pick
  from-none e p = rw (behind-blank m u, e, drop-append_seam m u, p, take-append_seam m u)

-- no character that does not start a name is read as one that does
no_start : (t : List ℕ) → ident_start (get_or t 0 0) ≡ false → is (get_or t 0 0) (ascii "\\") ≡ false → nmstart_of t ≡ None
unfolding nmstart_of
no_start t e d =
    let p = char-no is_nmstart t _ refl _ refl (sym (start_is (get_or t 0 0)) ∙ e) in
    sym (either_second _ _ _ p refl _ (escape-no t _ refl d))

-- a digit and a full stop start no name and no escape
number-goes-on : (z : ℕ) → or (is_digit z) (is z (ascii ".")) ≡ true → (ident_start z ≡ false) × (is z (ascii "\\") ≡ false)
unfolding is_digit
number-goes-on z e =
    let h = below z e in
    (not_start z h, is-no z (ascii "\\") (λ q. omega arith))
  where
    below : (z : ℕ) → or (within z (ascii "0") (ascii "9")) (is z (ascii ".")) ≡ true → z ≤ ascii "9"
    below z e = either (z ≤ ascii "9") _ _ e (λ w. (within-true z (ascii "0") (ascii "9") w).1) (λ w. let q = is_true z (ascii ".") w in omega arith)

    not_start : (z : ℕ) → z ≤ ascii "9" → ident_start z ≡ false
    not_start z h =
        unfold ident_start letter in
        or-none _ _ (or-none _ _ (sym (within-false z (ascii "A") (ascii "Z") (omega arith))) (sym (within-false z (ascii "a") (ascii "z") (omega arith)))) (is-no z (ascii "_") (λ q. omega arith))

-- what does not begin a name is none
no_name : (t : List ℕ) → begins_name (get_or t 0 0) (get_or t 1 0) ≡ false → name_of t ≡ err
unfolding begins_name
no_name t e =
    let n = neither (ident_start (get_or t 0 0)) _ e in
    let m = neither (is (get_or t 0 0) (ascii "\\")) _ n.1 in
    name-none t (by-dash t (is (get_or t 0 0) (ascii "-")) refl (no_start t n.0 m.0) m.1)
  where
    undashed : (t : List ℕ) → is (get_or t 0 0) (ascii "-") ≡ false → nmstart_of t ≡ None → nmstart_of (drop (dash t) t) ≡ None
    undashed t e p = unfold dash pick in rw e p

    dashes : (t : List ℕ) → is (get_or t 0 0) (ascii "-") ≡ true → nmstart_of (drop 1 t) ≡ None → nmstart_of (drop (dash t) t) ≡ None
    dashes t e p = unfold dash pick in rw e p

    goes_on : (b : Bool) → and true (not b) ≡ false → b ≡ true
    goes_on true e = refl
    goes_on false e = unfold and in never (sym e)

    by-dash : (t : List ℕ) (d : Bool) → is (get_or t 0 0) (ascii "-") ≡ d → nmstart_of t ≡ None
        → and d (not (or (is_digit (get_or t 1 0)) (is (get_or t 1 0) (ascii ".")))) ≡ false → nmstart_of (drop (dash t) t) ≡ None
    by-dash t true d p e =
        let g = number-goes-on (get_or t 1 0) (goes_on _ e) in
        dashes t d (no_start (drop 1 t) (ap ident_start (first t 1) ∙ g.0) (ap (λ (z : ℕ). is z (ascii "\\")) (first t 1) ∙ g.1))
    by-dash t false d p e = undashed t d p

-- so no unit is read where white space and comments end before it
no-unit : (t : List ℕ) → begins_name (get_or t (skip_whitespace t) 0) (get_or t (skip_whitespace t + 1) 0) ≡ false → ident_of t ≡ err
unfolding ident_of behind
no-unit t e =
    let w = skip_whitespace t in
    rw (no_name (drop w t) (ap (λ (y : ℕ). begins_name y (get_or (drop w t) 1 0)) (first t w) ∙ ap (begins_name (get_or t w 0)) (get_or-drop w t 1 0) ∙ e))

-- no mark is a digit
digit-marks : (is_digit (ascii "\"") ≡ false) × (is_digit (ascii "'") ≡ false) × (is_digit (ascii "#") ≡ false) × (is_digit (ascii "+") ≡ false)
    × (is_digit (ascii "-") ≡ false) × (is_digit (ascii ".") ≡ false) × (is_digit (ascii "<") ≡ false) × (is_digit (ascii "\\") ≡ false)
unfolding is_digit and within
digit-marks = (refl, refl, refl, refl, refl, refl, refl, refl)

-- a digit lies below all that starts a name
digit-below : (x : ℕ) → is_digit x ≡ true → (x ≤ 0x7f) × (is_ident_start x ≡ false)
unfolding is_digit is_ident_start is_nmstart or
digit-below x e =
    let h = within-true x (ascii "0") (ascii "9") e in (
      omega arith,
      rw (
        sym (within-false x (ascii "a") (ascii "z") (omega arith)),
        sym (within-false x (ascii "A") (ascii "Z") (omega arith)),
        is-no x (ascii "_") (λ q. omega arith),
        lt-leb first_above_u0080 x (omega arith),
      ),
    )

-- so it selects the reader of numbers
digit-start : (x : ℕ) (l : List ℕ) → is_digit x ≡ true → token_with 1 x l ≡ numeric_of l
unfolding token_with is_quote pick or
digit-start x l e =
    rw (
      differs is_digit x (ascii "\"") e digit-marks.0,
      differs is_digit x (ascii "'") e digit-marks.1,
      differs is_digit x (ascii "#") e digit-marks.2,
      differs is_digit x (ascii "+") e digit-marks.3,
      differs is_digit x (ascii "-") e digit-marks.4,
      differs is_digit x (ascii ".") e digit-marks.5,
      differs is_digit x (ascii "<") e digit-marks.6,
      differs is_digit x (ascii "\\") e digit-marks.7,
      (digit-below x e).1,
      e,
    )

-- what a digit begins is a number
digit-begins : (x : ℕ) (l : List ℕ) (n : ℕ) (k : Token) → is_digit x ≡ true → numeric_of (x ∷ l) ≡ ok n k → Begins (x ∷ l) n k
digit-begins x l n k e p = begins-by x l n k (code-point-item x l (digit-code-point x e)) (digit-below x e).0 (digit-start x (x ∷ l) e ∙ p)

-- and so is what a full stop begins, where a number is read there
stop-begins : (l : List ℕ) (n : ℕ) (k : Token) → numeric_of (ascii "." ∷ l) ≡ ok n k → Begins (ascii "." ∷ l) n k
unfolding whitespace_item is_whitespace comment_of token_with is_quote or_else pick or is
stop-begins l n k p = begins-by (ascii ".") l n k refl (omega arith) (rw p)

-- a number without a sign, by what it begins with
unsigned-begins : (f : Bool) (ds u : List ℕ) (n : ℕ) (k : Token) → Each is_digit ds → 1 ≤ length ds → numeric_of (written_stop f ++ (ds ++ u)) ≡ ok n k → Begins (written_stop f ++ (ds ++ u)) n k
unfolding written_stop
unsigned-begins true ds u n k h l p = stop-begins (ds ++ u) n k p
unsigned-begins false _ u n k none l p = absurd (omega arith)
unsigned-begins false _ u n k (more {x} {r} e es) l p = digit-begins x (r ++ u) n k e p

-- behind a '+' the reader starts anew, and drops it
plus-begins : (l : List ℕ) (n : ℕ) (k : Token) → numeric_of l ≡ ok n k → Begins (ascii "+" ∷ l) (1 + n) k
unfolding whitespace_item is_whitespace comment_of token_with is_quote plus_of or_else behind pick or is
plus-begins l n k p = begins-by (ascii "+") l (1 + n) k refl (omega arith) (rw p)

-- a '-' is read with the number
minus-begins : (l : List ℕ) (n : ℕ) (k : Token) → numeric_of (ascii "-" ∷ l) ≡ ok n k → Begins (ascii "-" ∷ l) n k
unfolding token_with is_quote minus_of or_else pick or is
minus-begins l n k p = begins-by (ascii "-") l n k (code-point-item (ascii "-") l hyphen-code-point) (omega arith) (rw p)

-- with a sign or none, by its parts
signed-begins : (s : Sign) (f : Bool) (ds u : List ℕ) (j : ℕ) (k : Token) → Each is_digit ds → 1 ≤ length ds
    → numeric_of ((means_sign s ++ (written_stop f ++ ds)) ++ u) ≡ ok (length (means_sign s ++ (written_stop f ++ ds)) + j) k
    → Begins ((written_sign s ++ (written_stop f ++ ds)) ++ u) (length (written_sign s ++ (written_stop f ++ ds)) + j) k
unfolding written_sign means_sign
signed-begins unsigned f ds u j k h l p =
    subst (λ (t : List ℕ). Begins t (length (written_stop f ++ ds) + j) k) (sym (append_assoc (written_stop f) ds u))
    (unsigned-begins f ds u _ k h l (ap numeric_of (sym (append_assoc (written_stop f) ds u)) ∙ p))
signed-begins plus f ds u j k h l p =
    subst (λ (i : ℕ). Begins (ascii "+" ∷ ((written_stop f ++ ds) ++ u)) i k) (omega arith) (plus-begins ((written_stop f ++ ds) ++ u) _ k p)
signed-begins minus f ds u j k h l p = minus-begins ((written_stop f ++ ds) ++ u) _ k p

-- a number and what follows it, as the reader of numbers has it
numeral-begins : (n : Numeral) (u : List ℕ) (j : ℕ) (k : Token) → numeric_of (means_numeral n ++ u) ≡ ok (length (means_numeral n) + j) k
    → Begins (written_numeral n ++ u) (length (written_numeral n) + j) k
unfolding means_numeral written_numeral
numeral-begins n u j k p = signed-begins n.sign n.fraction n.digits u j k n.are n.some p

-- what may follow a number: no digit and no percent sign, and behind white space no unit
record NumberEnds (t : List ℕ) : Type 0 where
  no_digit : is_digit (get_or t 0 0) ≡ false
  no-percent : is (get_or t 0 0) (ascii "%") ≡ false
  no-name-behind : begins_name (get_or t (skip_whitespace t) 0) (get_or t (skip_whitespace t + 1) 0) ≡ false

-- where the grammar says that a number ends, it does
number-ends : (n : Numeral) (t : List ℕ) → EndsBefore (number n) t → NumberEnds t
unfolding may_follow
number-ends n t e =
    let a = and-true (ends_name (get_or t 0 0)) _ e in
    let b = and-true (not (is (get_or t 0 0) (ascii "."))) _ a.1 in
    let c = and-true (not (is (get_or t 0 0) (ascii "%"))) _ b.1 in
    record { no_digit = ended-digit _ (name-ends t a.0).no-character; no-percent = not-true _ c.0; no-name-behind = not-true _ c.1 }

-- "Otherwise, create a <number-token> with the same value", where nothing goes on with it
number-alone : (n : Numeral) (t : List ℕ) → NumberEnds t → Begins (written_numeral n ++ t) (length (written_numeral n)) (tokens.number (means_numeral n))
number-alone n t h =
    let k = tokens.number (means_numeral n) in
    let r = numeric-from n t h.no_digit ∙ from-none (means_numeral n) t h.no-percent (no-unit t h.no-name-behind) in
    subst (λ (i : ℕ). Begins (written_numeral n ++ t) i k) (add-zero (length (written_numeral n)))
    (numeral-begins n t 0 k (r ∙ ap (λ (i : ℕ). ok i k) (sym (add-zero (length (means_numeral n))))))

-- by what may follow it
pub number-token : (n : Numeral) (t : List ℕ) → EndsBefore (number n) t → Begins (written_numeral n ++ t) (length (written_numeral n)) (tokens.number (means_numeral n))
number-token n t e = number-alone n t (number-ends n t e)

-- a percent sign is no digit
percent-digit : is_digit (ascii "%") ≡ false
unfolding is_digit and within
percent-digit = refl

-- "If the next input code point is U+0025 PERCENTAGE SIGN, consume it. Create a <percentage-token> with the same value"
pub percentage-token : (n : Numeral) (t : List ℕ) → Begins (written_numeral n ++ (ascii "%" ∷ t)) (length (written_numeral n) + 1) (tokens.percentage (means_numeral n))
percentage-token n t = numeral-begins n (ascii "%" ∷ t) 1 _ (numeric-from n (ascii "%" ∷ t) percent-digit ∙ from-percent (means_numeral n) t)

-- "Create a <dimension-token> with the same value, and a unit set initially to the empty string. Consume an ident sequence. Set the
-- <dimension-token>'s unit to the returned value"
pub dimension-token : (n : Numeral) (w : Ident) (t : List ℕ) → ends_name (get_or t 0 0) ≡ true
    → Begins (written_numeral n ++ (w.bytes ++ t)) (length (written_numeral n) + length w.bytes) (tokens.dimension (means_numeral n) (folded w))
dimension-token n w t e =
    let g = unit-first w.bytes t w.sequence in
    numeral-begins n (w.bytes ++ t) (length w.bytes) _
    (numeric-from n (w.bytes ++ t) g.0 ∙ from-unit (means_numeral n) (w.bytes ++ t) _ _ g.1 (name-whole w t (name-ends t e)))
  where
    unit-first : (bytes t : List ℕ) → IdentSequence bytes → (is_digit (get_or (bytes ++ t) 0 0) ≡ false) × (is (get_or (bytes ++ t) 0 0) (ascii "%") ≡ false)
    unit-first _ t (started {x} e s) =
        let h = (start_between x e).1 in
        (unfold is_digit in within-past x (ascii "0") (ascii "9") (omega arith), is-no x (ascii "%") (λ q. omega arith))
    unit-first _ t (dashed e s) = unfold is_digit and within is in (refl, refl)

-- ---- what the reader takes for a dimension: a number, white space and a name
-- nothing is added to what was read
behind-zero : {A : Type 0} (p : Parsed A) → behind 0 p ≡ p
unfolding behind
behind-zero (ok n a) = ap (λ (i : ℕ). ok i a) (zero-add n)
behind-zero err = refl

-- where nothing is skipped, a name is read from the start
name-at : (s : List ℕ) → skip_whitespace s ≡ 0 → ident_of s ≡ name_of s
unfolding ident_of
name-at s z = rw z (behind-zero (name_of s))

-- a name begins no white space
pub name-item : (n : Ident) (t : List ℕ) → whitespace_item (n.bytes ++ t) ≡ 0
name-item n t = by-start n.bytes n.sequence
  where
    by-start : (bytes : List ℕ) → IdentSequence bytes → whitespace_item (bytes ++ t) ≡ 0
    by-start _ (started {x} {r} e s) = code-point-item x (r ++ t) (start-code-point x e)
    by-start _ (dashed {x} {r} e s) = code-point-item (ascii "-") (x ∷ (r ++ t)) hyphen-code-point

-- ---- code points that are tokens by themselves: 4.3.1, Consume a token
-- a comma is a token of one byte
pub comma-token : (t : List ℕ) → Begins (ascii "," ∷ t) 1 tokens.comma
unfolding whitespace_item is_whitespace comment_of token_with is_quote is_ident_start is_nmstart is_digit mark_of pick or and within is
comma-token t = begins-by (ascii ",") t 1 _ refl (omega arith) refl

-- a colon is a token of one byte
pub colon-token : (t : List ℕ) → Begins (ascii ":" ∷ t) 1 tokens.colon
unfolding whitespace_item is_whitespace comment_of token_with is_quote is_ident_start is_nmstart is_digit mark_of pick or and within is
colon-token t = begins-by (ascii ":") t 1 _ refl (omega arith) refl

-- a semicolon is a token of one byte
pub semicolon-token : (t : List ℕ) → Begins (ascii ";" ∷ t) 1 tokens.semicolon
unfolding whitespace_item is_whitespace comment_of token_with is_quote is_ident_start is_nmstart is_digit mark_of pick or and within is
semicolon-token t = begins-by (ascii ";") t 1 _ refl (omega arith) refl

-- what opens a block: a round bracket
pub round-token : (t : List ℕ) → Begins (ascii "(" ∷ t) 1 tokens.open_round
unfolding whitespace_item is_whitespace comment_of token_with is_quote is_ident_start is_nmstart is_digit mark_of pick or and within is
round-token t = begins-by (ascii "(") t 1 _ refl (omega arith) refl

-- an opening square bracket is a token of one byte
pub square-token : (t : List ℕ) → Begins (ascii "[" ∷ t) 1 tokens.open_square
unfolding whitespace_item is_whitespace comment_of token_with is_quote is_ident_start is_nmstart is_digit mark_of pick or and within is
square-token t = begins-by (ascii "[") t 1 _ refl (omega arith) refl

-- an opening brace is a token of one byte
pub brace-token : (t : List ℕ) → Begins (ascii "{" ∷ t) 1 tokens.open_brace
unfolding whitespace_item is_whitespace comment_of token_with is_quote is_ident_start is_nmstart is_digit mark_of pick or and within is
brace-token t = begins-by (ascii "{") t 1 _ refl (omega arith) refl

-- the byte that closes it
pub closer-token : (o : Opening) (t : List ℕ) → Begins (closer o ∷ t) 1 (means_closer o)
unfolding closer means_closer whitespace_item is_whitespace comment_of token_with is_quote is_ident_start is_nmstart is_digit mark_of pick or and within is
closer-token (function n d) t = begins-by (ascii ")") t 1 _ refl (omega arith) refl
closer-token round t = begins-by (ascii ")") t 1 _ refl (omega arith) refl
closer-token square t = begins-by (ascii "]") t 1 _ refl (omega arith) refl
closer-token brace t = begins-by (ascii "}") t 1 _ refl (omega arith) refl

-- "If the next 3 input code points are U+0021 EXCLAMATION MARK U+002D HYPHEN-MINUS U+002D HYPHEN-MINUS (!--), consume them and return a <CDO-token>"
pub cdo-token : (t : List ℕ) → Begins (text "<!--" ++ t) 4 tokens.cdo
unfolding whitespace_item is_whitespace comment_of token_with is_quote less_of starts_with text utf8 pick or and is
cdo-token t = begins-by (ascii "<") (ascii "!" ∷ ascii "-" ∷ ascii "-" ∷ t) 4 tokens.cdo refl (omega arith) refl

-- "if the next 2 input code points are U+002D HYPHEN-MINUS U+003E GREATER-THAN SIGN (->), consume them and return a <CDC-token>"
pub cdc-token : (t : List ℕ) → Begins (text "-->" ++ t) 3 tokens.cdc
unfolding whitespace_item is_whitespace comment_of token_with is_quote minus_of numeric_of numbers.number numbers.signed numbers.sign numbers.unsigned numbers.decimal digits one_digit is_digit skip_whitespace many took or_else starts_with text utf8 pick or and within is
cdc-token t = begins-by (ascii "-") (ascii "-" ∷ ascii ">" ∷ t) 3 tokens.cdc refl (omega arith) refl

-- a delimiter is of ASCII, is a token by itself, and is no white space
abbrev Plain : ℕ → Type 0
Plain c = (c ≤ 0x7f) × ((t : List ℕ) → token_with 1 c t ≡ ok 1 (tokens.delim c)) × (is_whitespace c ≡ false)

-- what holds of every number of a list
unfoldable Every : (ℕ → Type 0) → List ℕ → Type 0
Every P [] = Unit
Every P (k ∷ ks) = P k × Every P ks

-- what holds of every member of a list holds of one that is found in it
every : (P : ℕ → Type 0) (c : ℕ) (ks : List ℕ) → Every P ks → member c ks ≡ true → P c
unfolding Every member
every P c [] h e = never e
every P c (k ∷ ks) h e = either (P c) _ _ e (λ w. subst P (sym (is_true c k w)) h.0) (every P c ks h.1)

-- so it does of each delimiter
delimiter-plain : (c : ℕ) → is_delimiter c ≡ true → Plain c
unfolding is_delimiter Every text utf8 pick token_with is_quote is_ident_start is_nmstart is_digit is_whitespace mark_of or and within is
delimiter-plain c e =
    every Plain c (text "!$%&*/=>?^`|~")
    ((omega arith, λ t. refl, refl), ((omega arith, λ t. refl, refl), ((omega arith, λ t. refl, refl), ((omega arith, λ t. refl, refl), ((omega arith, λ t. refl, refl), ((omega arith, λ t. refl, refl), ((omega arith, λ t. refl, refl), ((omega arith, λ t. refl, refl), ((omega arith, λ t. refl, refl), ((omega arith, λ t. refl, refl), ((omega arith, λ t. refl, refl), ((omega arith, λ t. refl, refl), ((omega arith, λ t. refl, refl), tt))))))))))))) e

-- a comment takes a solidus and an asterisk
by-solidus : (a b : Bool) (n : ℕ) → and a b ≡ false → pick a (pick b n 0) 0 ≡ 0
unfolding and pick
by-solidus true b n e = rw e
by-solidus false b n e = refl

-- so where no asterisk follows a solidus no comment begins
no-comment : (c : ℕ) (t : List ℕ) → is_whitespace c ≡ false → and (is c (ascii "/")) (is (get_or t 0 0) (ascii "*")) ≡ false → whitespace_item (c ∷ t) ≡ 0
unfolding whitespace_item comment_of
no-comment c t w e = sym (pick-false _ _ _ _ w (sym (by-solidus _ _ _ e)))

-- "Return a <delim-token> with its value set to the current input code point"
pub delim-token : (c : ℕ) (d : is_delimiter c ≡ true) (t : List ℕ) → EndsBefore (delimiter c d) t → Begins (c ∷ t) 1 (tokens.delim c)
unfolding may_follow
delim-token c d t e =
    let p = delimiter-plain c d in
    begins-by c t 1 (tokens.delim c) (no-comment c t p.2 (not-true _ e)) p.0 (p.1 (c ∷ t))

-- a full stop begins no number where no digit follows
stop-none : (t : List ℕ) → is_digit (get_or t 0 0) ≡ false → numeric_of (ascii "." ∷ t) ≡ err
unfolding numeric_of numbers.number numbers.signed numbers.sign numbers.unsigned numbers.decimal skip_whitespace whitespace_item is_whitespace comment_of many took pick or is
stop-none t e = rw (stop-digits t, digits-read none t e)

-- "If the input stream starts with a number ..; otherwise, return a <delim-token>": U+002E FULL STOP
pub point-token : (t : List ℕ) → is_digit (get_or t 0 0) ≡ false → Begins (ascii "." ∷ t) 1 (tokens.delim (ascii "."))
unfolding whitespace_item is_whitespace comment_of token_with is_quote or_else pick or is
point-token t e = begins-by (ascii ".") t 1 (tokens.delim (ascii ".")) refl (omega arith) (rw (stop-none t e))

-- no name begins with a '-' that nothing of a name follows
hyphen-unnamed : (t : List ℕ) → NameEnds t → ident_like_of (ascii "-" ∷ t) ≡ err
unfolding ident_like_of on_parsed
hyphen-unnamed t h = rw (name-at (ascii "-" ∷ t) (skips-blank [] (ascii "-" ∷ t) blanks.none (code-point-item (ascii "-") t hyphen-code-point)), unnamed t h)
  where
    no-first : (x : ℕ) → ident_code_point x ≡ false → ident_start x ≡ false
    no-first x e = unfold ident_code_point in (neither _ _ e).0

    unnamed : (t : List ℕ) → NameEnds t → name_of (ascii "-" ∷ t) ≡ err
    unnamed t h = name-none (ascii "-" ∷ t) (unfold dash pick is in no_start t (no-first (get_or t 0 0) h.no-character) (is-no _ _ h.no-escape))

-- a hyphen before which no name goes on is not the mark `-->`
hyphen-unmarked : (t : List ℕ) → NameEnds t → starts_with (text "-->") (ascii "-" ∷ t) ≡ false
hyphen-unmarked t h = unfold starts_with text utf8 pick and is in starts-not (ascii "-") (ascii ">" ∷ []) t (is-no _ _ (λ q. never (sym h.no-character ∙ ap ident_code_point q ∙ hyphen-code-point)))

-- "Otherwise, return a <delim-token>": U+002D HYPHEN-MINUS
pub hyphen-token : (t : List ℕ) → NameEnds t → is (get_or t 0 0) (ascii ".") ≡ false → Begins (ascii "-" ∷ t) 1 (tokens.delim (ascii "-"))
hyphen-token t h e =
    begins-by (ascii "-") t 1 (tokens.delim (ascii "-")) (code-point-item (ascii "-") t hyphen-code-point) (omega arith)
    (by-minus t (minus-none t (ended-digit _ h.no-character) e) (hyphen-unmarked t h) (hyphen-unnamed t h))
  where
    by-minus : (t : List ℕ) → numeric_of (ascii "-" ∷ t) ≡ err → starts_with (text "-->") (ascii "-" ∷ t) ≡ false → ident_like_of (ascii "-" ∷ t) ≡ err
        → token_with 1 (ascii "-") (ascii "-" ∷ t) ≡ ok 1 (tokens.delim (ascii "-"))
    by-minus t p q r = unfold token_with is_quote minus_of or_else pick or is in rw (p, q, r)

-- nothing is signed where no sign and no number stands
unsigned-none : (s : List ℕ) → numbers.unsigned s ≡ 0 → is (get_or s 0 0) (ascii "-") ≡ false → is (get_or s 0 0) (ascii "+") ≡ false → numbers.signed s ≡ 0
unfolding numbers.signed numbers.sign pick or is
unsigned-none s u m p = rw (m, p, u)

-- where no number begins, none is read
signed-none : (s : List ℕ) → begins_number (get_or s 0 0) ≡ false → numbers.signed s ≡ 0
unfolding begins_number
signed-none s e =
    let a = neither (is_digit (get_or s 0 0)) _ e in
    let b = neither (is (get_or s 0 0) (ascii ".")) _ a.1 in
    let c = neither (is (get_or s 0 0) (ascii "+")) _ b.1 in
    unsigned-none s (no_unsigned s a.0 b.0) c.1 c.0

-- so no number is read where none begins behind white space
no_number : (t : List ℕ) → begins_number (get_or t (skip_whitespace t) 0) ≡ false → numeric_of t ≡ err
unfolding numeric_of numbers.number pick is
no_number t e = rw (signed-none (drop (skip_whitespace t) t) (ap begins_number (first t (skip_whitespace t)) ∙ e))

-- "Otherwise, return a <delim-token>": U+002B PLUS SIGN
pub addition-token : (t : List ℕ) → begins_number (get_or t (skip_whitespace t) 0) ≡ false → Begins (ascii "+" ∷ t) 1 (tokens.delim (ascii "+"))
unfolding whitespace_item is_whitespace comment_of token_with is_quote plus_of or_else behind pick or is
addition-token t e = begins-by (ascii "+") t 1 (tokens.delim (ascii "+")) refl (omega arith) (rw (no_number t e))

-- ---- all of them
-- every token of the grammar is read whole, where what follows it may follow
pub atom-begins : (a : Atom) (t : List ℕ) → EndsBefore a t → Begins (written_atom a ++ t) (length (written_atom a)) (means_atom a)
unfolding written_atom means_atom may_follow
atom-begins (word n) t e =
    let a = and-true (ends_name (get_or t 0 0)) _ e in
    ident-token n t a.0 (not-true _ a.1)
atom-begins (string q) t e =
    let l : length (q.quote ∷ (q.bytes ++ (q.quote ∷ []))) ≡ 1 + length q.bytes + 1 = omega (arith, length-append q.bytes (q.quote ∷ [])) in
    subst (λ (i : ℕ). Begins ((q.quote ∷ (q.bytes ++ (q.quote ∷ []))) ++ t) i (tokens.string q.body)) (sym l)
    (subst (λ (r : List ℕ). Begins (q.quote ∷ r) (1 + length q.bytes + 1) (tokens.string q.body)) (sym (append_assoc q.bytes (q.quote ∷ []) t)) (string-token q t))
atom-begins (hash h) t e = subst (λ (i : ℕ). Begins (ascii "#" ∷ (h.bytes ++ t)) i (tokens.hash (map lower h.bytes))) (omega arith) (hash-token h t e)
atom-begins (number n) t e = number-token n t e
atom-begins (percentage n) t e =
    let m = written_numeral n in
    subst (λ (i : ℕ). Begins ((m ++ (ascii "%" ∷ [])) ++ t) i (tokens.percentage (means_numeral n))) (sym (length-append m (ascii "%" ∷ [])))
    (subst (λ (r : List ℕ). Begins r (length m + 1) (tokens.percentage (means_numeral n))) (sym (append_assoc m (ascii "%" ∷ []) t)) (percentage-token n t))
atom-begins (dimension n u) t e =
    let m = written_numeral n in
    let w = u.name.bytes in
    let a = and-true (ends_name (get_or t 0 0)) _ e in
    let k = tokens.dimension (means_numeral n) (folded u.name) in
    subst (λ (i : ℕ). Begins ((m ++ w) ++ t) i k) (sym (length-append m w))
    (subst (λ (r : List ℕ). Begins r (length m + length w) k) (sym (append_assoc m w t)) (dimension-token n u.name t a.0))
atom-begins comma t e = comma-token t
atom-begins colon t e = colon-token t
atom-begins semicolon t e = semicolon-token t
atom-begins (delimiter c d) t e = delim-token c d t e
atom-begins point t e = point-token t (not-true _ e)
atom-begins hyphen t e = let a = and-true (ends_name (get_or t 0 0)) _ e in hyphen-token t (name-ends t a.0) (not-true _ a.1)
atom-begins addition t e = addition-token t (not-true _ e)

-- a function's name and its bracket
function-begins : (n : Ident) (t : List ℕ)
    → Begins ((n.bytes ++ (ascii "(" ∷ [])) ++ t) (length (n.bytes ++ (ascii "(" ∷ []))) (tokens.function (folded n))
function-begins n t =
    let b = n.bytes in
    subst (λ (i : ℕ). Begins ((b ++ (ascii "(" ∷ [])) ++ t) i (tokens.function (folded n))) (sym (length-append b (ascii "(" ∷ [])))
    (subst (λ (r : List ℕ). Begins r (length b + 1) (tokens.function (folded n))) (sym (append_assoc b (ascii "(" ∷ []) t)) (function-token n t))

-- and so is every token that opens a block
pub opening-begins : (o : Opening) (t : List ℕ) → Begins (written_opening o ++ t) (length (written_opening o)) (means_opening o)
unfolding written_opening means_opening
opening-begins (function n d) t = function-begins n t
opening-begins round t = round-token t
opening-begins square t = square-token t
opening-begins brace t = brace-token t

module _ (b : Blanks) where
  -- behind white space and comments, a token of the grammar is the token that it means
  pub atom-read : (a : Atom) (t : List ℕ) → EndsBefore a t → token_of (b.bytes ++ (written_atom a ++ t)) ≡ ok (length b.bytes + length (written_atom a)) (means_atom a)
  atom-read a t e = token-read b (written_atom a ++ t) _ _ (atom-begins a t e)

  -- what opens a block is
  pub opening-read : (o : Opening) (t : List ℕ) → token_of (b.bytes ++ (written_opening o ++ t)) ≡ ok (length b.bytes + length (written_opening o)) (means_opening o)
  opening-read o t = token-read b (written_opening o ++ t) _ _ (opening-begins o t)

  -- a closing bracket is read as its token, behind white space or none
  pub closer-read : (o : Opening) (t : List ℕ) → token_of (b.bytes ++ (closer o ∷ t)) ≡ ok (length b.bytes + 1) (means_closer o)
  closer-read o t = token-read b (closer o ∷ t) _ _ (closer-token o t)

-- what may follow, where white space and comments stand before the next token
pub ends-behind : (a : Atom) (b : Blanks) (t : List ℕ) → whitespace_item t ≡ 0 → MayFollow a (get_or (b.bytes ++ t) 0 0) (get_or t 0 0) (get_or t 1 0) → EndsBefore a (b.bytes ++ t)
ends-behind a b t z e = rw (skips-blank b.bytes t b.blank z, behind-blank b.bytes t, get_or-append-add b.bytes t 1 0) e
