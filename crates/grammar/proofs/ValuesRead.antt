-- Values of the grammar are read whole: the tokens of a statement are those that the grammar means, and it ends where the document says.
use mathlib.Core.Path.{◌≡◌, refl, ap, sym, subst, ◌∙◌}
use mathlib.Core.Bool.{Bool, true, false, not}
use mathlib.Core.List.{List, [], ◌∷◌, ◌++◌, append_assoc, append-nil}
use Prim.Native.Nat.{ℕ, zero, suc, ◌+◌, ◌-◌, ◌≤◌}
use native.Mathlib.Nat.{zero-add, add-zero}
use native.Mathlib.Omega.{arith}
use lib.ListN.{length, get_or, drop, length-append, drop_of_length-le}
use lib.Seq.{drop-append-add, drop-append_seam}
use borrow.Author.Tests.{not-true}
use Prim.Native.Char.{code as ascii}
use Rattle.combinators.specs.Choice.{pick, or, and, is, within}
use Rattle.combinators.specs.Parsed.{ok, err, on_parsed}
use Rattle.combinators.specs.Word.{same_text}
use Rattle.combinators.specs.Parsed as parser
use Rattle.combinators.specs.All.{member}
use Rattle.combinators.proofs.Rules.{never, or-none, and_both, and_left, and_right, and-true, neither}
use Rattle.characters.specs.Literal.{text}
use Rattle.characters.specs.Utf8.{utf8, scalar_of, scalar_by}
use Rattle.lexer.specs.Number.{is_digit}
use Rattle.lexer.specs.Token as tokens
use Rattle.lexer.specs.Token.{Token, token_at, token_of}
use Rattle.lexer.specs.Whitespace.{is_whitespace, comment_of, whitespace_item, skip_whitespace}
use Rattle.lexer.proofs.SyntaxName.{ident_start, ident_code_point, letter}
use Rattle.lexer.proofs.SyntaxWhitespace.{Blank, none, white, comment, skips-blank}
use Rattle.lexer.proofs.TokenBounds.{token-fits}
use Rattle.values.specs.Value.{Value, Placed, bracket_of, next, before, closing, ending, step_of, Statement, stop, cons, on_step, scan, statement_of, tokens_of, is_mark, marked, value_from, value_of}
use Rattle.values.specs.Words.{is_word, is_delim}
use Rattle.values.proofs.Marks.{two-important}
use Rattle.grammar.specs.Nth.{Blanks}
use Rattle.grammar.specs.Tokens.{is_delimiter, Atom, word, string, hash, number, percentage, dimension, comma, colon, semicolon, delimiter, point, hyphen, addition, Opening, function, round, square, brace, written_atom, written_opening, closer, means_atom, means_opening, means_closer, ends_name, begins_name, begins_number, may_follow, MayFollow, EndsBefore, Ident, folded}
use Rattle.grammar.specs.Values.{Values, end, then, block, written_values, means_values, Follows, Apart, is_semicolon, is_bang, is_brace, Outermost, Unmarked, DeclarationValue, Importance, normal, important, written_importance, is_marked}
use Rattle.grammar.proofs.Places.{Unblank, blank-first}
use Rattle.grammar.proofs.TokensRead.{ended-digit, Begins, token-read, semicolon-token, closer-token, atom-begins, opening-begins, closer-read, ends-behind}

-- white space that is empty
abbrev pub unspaced : Blanks
unspaced = record { bytes = []; blank = none }

-- ---- tokens that a statement passes over
-- tokens in front of a statement
unfoldable pub conses : List Placed → Statement → Statement
conses [] r = r
conses (p ∷ ps) r = cons p (conses ps r)

-- from s on, which starts at `at`, to t: the tokens ks, and the brackets awaited before and behind them
pub record Passes (include : Bool) (s t : List ℕ) (at : ℕ) (cs ds : List ℕ) (ks : List Token) : Type 0 where
  pub placed : List Placed
  pub tokens : tokens_of placed ≡ ks
  pub taken : ℕ
  pub all : taken + length t ≡ length s
  pub turns : ℕ
  pub few : turns ≤ taken
  pub goes : (l : ℕ) → scan (turns + l) include s at cs ≡ conses placed (scan l include t (at + taken) ds)

-- one turn of the reader
one-turn : (include : Bool) (l : ℕ) (s t : List ℕ) (at n : ℕ) (k : Token) (cs ds : List ℕ) → token_of s ≡ ok n k → drop n s ≡ t → step_of include (bracket_of k) cs ≡ next ds
    → scan (suc l) include s at cs ≡ conses (record { token = k; start = at + skip_whitespace s } ∷ []) (scan l include t (at + n) ds)
unfolding scan on_parsed on_step conses
one-turn include l s t at n k cs ds e d p = rw (e, p, d)

-- tokens joined in front of a statement are the second ones, then the first ones before them
conses-append : (ps qs : List Placed) (r : Statement) → conses (ps ++ qs) r ≡ conses ps (conses qs r)
unfolding conses
conses-append [] qs r = refl
conses-append (p ∷ ps) qs r = ap (cons p) (conses-append ps qs r)

-- and the tokens of both
tokens_append : (ps qs : List Placed) → tokens_of (ps ++ qs) ≡ tokens_of ps ++ tokens_of qs
unfolding tokens_of
tokens_append [] qs = refl
tokens_append (p ∷ ps) qs = ap (λ (l : List Token). p.token ∷ l) (tokens_append ps qs)

module _ {include : Bool} where
  -- from a text to itself no token is passed
  pub passes_none : (s : List ℕ) (at : ℕ) (cs : List ℕ) → Passes include s s at cs cs []
  unfolding conses tokens_of
  passes_none s at cs =
      record {
        placed = [];
        tokens = refl;
        taken = 0;
        all = zero-add (length s);
        turns = 0;
        few = omega arith;
        goes = λ l. ap (λ (m : ℕ). scan m include s at cs) (zero-add l) ∙ ap (λ (i : ℕ). scan l include s i cs) (sym (add-zero at));
      }

  -- a token that does not end the statement is passed by one turn
  pub passes-one : (s t : List ℕ) (at n : ℕ) (k : Token) (cs ds : List ℕ) → token_of s ≡ ok n k → drop n s ≡ t → n + length t ≡ length s → 1 ≤ n
      → step_of include (bracket_of k) cs ≡ next ds → Passes include s t at cs ds (k ∷ [])
  unfolding tokens_of
  passes-one s t at n k cs ds e d a h p =
      record {
        placed = record { token = k; start = at + skip_whitespace s } ∷ [];
        tokens = refl;
        taken = n;
        all = a;
        turns = 1;
        few = h;
        goes = λ l. let m : 1 + l ≡ suc l = omega arith in ap (λ (i : ℕ). scan i include s at cs) m ∙ one-turn include l s t at n k cs ds e d p;
      }

  -- tokens that pass, and others that pass behind them, pass together
  pub passes_on : {s t u : List ℕ} {at : ℕ} {cs ds es : List ℕ} {ks js : List Token} → (p : Passes include s t at cs ds ks) → Passes include t u (at + p.taken) ds es js
      → Passes include s u at cs es (ks ++ js)
  passes_on {s} {t} {u} {at} {cs} {ds} {es} {ks} {js} p q =
      record {
        placed = p.placed ++ q.placed;
        tokens = tokens_append p.placed q.placed ∙ ap (λ (l : List Token). l ++ tokens_of q.placed) p.tokens ∙ ap (λ (l : List Token). ks ++ l) q.tokens;
        taken = p.taken + q.taken;
        all = omega (arith, p.all, q.all);
        turns = p.turns + q.turns;
        few = omega (arith, p.few, q.few);
        goes =
            λ l. let m : p.turns + q.turns + l ≡ p.turns + (q.turns + l) = omega arith in
            let i : at + p.taken + q.taken ≡ at + (p.taken + q.taken) = omega arith in
            ap (λ (j : ℕ). scan j include s at cs) m ∙ p.goes (q.turns + l) ∙ ap (conses p.placed) (q.goes l) ∙ sym (conses-append p.placed q.placed _)
            ∙ ap (λ (j : ℕ). conses (p.placed ++ q.placed) (scan l include u j es)) i;
      }

-- ---- brackets
-- values stand where these are awaited: outside all brackets there is no semicolon and no brace block
unfoldable pub Within : List ℕ → Values → Type 0
Within [] v = Outermost v
Within (c ∷ cs) v = Unit

-- so does what stands behind their first token
within-then : (cs : List ℕ) (b : Blanks) (a : Atom) (v : Values) → Within cs (then b a v) → Within cs v
unfolding Within Outermost
within-then [] b a v h = h.1
within-then (c ∷ cs) b a v h = tt

-- and behind their first block
within_block : (cs : List ℕ) (b : Blanks) (o : Opening) (w v : Values) → Within cs (block b o w v) → Within cs v
unfolding Within Outermost
within_block [] b o w v h = h.1
within_block (c ∷ cs) b o w v h = tt

module _ (include : Bool) (b : Blanks) where
  -- an atom opens and closes nothing
  atom-goes : (a : Atom) (v : Values) (cs : List ℕ) → Within cs (then b a v) → step_of include (bracket_of (means_atom a)) cs ≡ next cs
  unfolding step_of bracket_of means_atom ending Within Outermost is_semicolon
  atom-goes (word n) v cs h = refl
  atom-goes (string q) v cs h = refl
  atom-goes (hash g) v cs h = refl
  atom-goes (number n) v cs h = refl
  atom-goes (percentage n) v cs h = refl
  atom-goes (dimension n u) v cs h = refl
  atom-goes comma v cs h = refl
  atom-goes colon v cs h = refl
  atom-goes semicolon v [] h = never (sym h.0)
  atom-goes semicolon v (c ∷ cs) h = refl
  atom-goes (delimiter c d) v cs h = refl
  atom-goes point v cs h = refl
  atom-goes hyphen v cs h = refl
  atom-goes addition v cs h = refl

  -- an opening token awaits its closing one
  pub opening-goes : (o : Opening) (cs : List ℕ) → step_of include (bracket_of (means_opening o)) cs ≡ next (closer o ∷ cs)
  unfolding step_of bracket_of means_opening closer
  opening-goes (function n d) cs = refl
  opening-goes round cs = refl
  opening-goes square cs = refl
  opening-goes brace cs = refl

  -- which closes it, and the statement goes on, but for a brace outside all brackets
  closing-goes : (o : Opening) (w v : Values) (cs : List ℕ) → Within cs (block b o w v) → step_of include (bracket_of (means_closer o)) (closer o ∷ cs) ≡ next cs
  unfolding step_of bracket_of means_closer closer closing pick is Within Outermost is_brace
  closing-goes (function n d) w v [] h = refl
  closing-goes (function n d) w v (c ∷ cs) h = refl
  closing-goes round w v [] h = refl
  closing-goes round w v (c ∷ cs) h = refl
  closing-goes square w v [] h = refl
  closing-goes square w v (c ∷ cs) h = refl
  closing-goes brace w v [] h = never (sym h.0)
  closing-goes brace w v (c ∷ cs) h = refl

-- ---- what may stand behind values: white space and comments or none, and then the end of the text, or a byte that goes on with no token
pub data Closes : List ℕ → Type 0 where
  nothing : Closes []
  closed : (o : Opening) (r : List ℕ) → Closes (closer o ∷ r)
  at-semicolon : (r : List ℕ) → Closes (ascii ";" ∷ r)
  at-bang : (r : List ℕ) → Closes (ascii "!" ∷ r)
  at-brace : (r : List ℕ) → Closes (ascii "{" ∷ r)

-- with the white space before it
pub data Halts : List ℕ → Type 0 where
  halts : {l t : List ℕ} → Blank l → Closes t → Halts (l ++ t)

-- the bytes that may go on with a token
unfoldable continues : ℕ → Bool
continues x =
    or (ident_code_point x)
    (or (is x (ascii "\\"))
    (or (is x (ascii "(")) (or (is x (ascii ".")) (or (is x (ascii "%")) (or (is x (ascii "+")) (is x (ascii "*")))))))

-- none of them: each test by itself
record Quiet (x : ℕ) : Type 0 where
  no-code-point : ident_code_point x ≡ false
  no-escape : is x (ascii "\\") ≡ false
  no-round : is x (ascii "(") ≡ false
  no_stop : is x (ascii ".") ≡ false
  no-percent : is x (ascii "%") ≡ false
  no_plus : is x (ascii "+") ≡ false
  no-asterisk : is x (ascii "*") ≡ false

-- where the test of all does not hold
quiet : (x : ℕ) → continues x ≡ false → Quiet x
unfolding continues
quiet x e =
    let a = neither _ _ e in
    let b = neither _ _ a.1 in
    let c = neither _ _ b.1 in
    let d = neither _ _ c.1 in
    let f = neither _ _ d.1 in
    let g = neither _ _ f.1 in
    record { no-code-point = a.0; no-escape = b.0; no-round = c.0; no_stop = d.0; no-percent = f.0; no_plus = g.0; no-asterisk = g.1 }

-- so every atom ends before such a byte, where no name begins behind white space
atom-ends : (a : Atom) (x y z : ℕ) → continues x ≡ false → begins_name y z ≡ false → begins_number y ≡ false → may_follow a x y z ≡ true
unfolding may_follow ends_name or and
atom-ends (word n) x y z e d f = let q = quiet x e in rw (q.no-code-point, q.no-escape, q.no-round)
atom-ends (string s) x y z e d f = refl
atom-ends (hash h) x y z e d f = let q = quiet x e in rw (q.no-code-point, q.no-escape)
atom-ends (number n) x y z e d f = let q = quiet x e in rw (q.no-code-point, q.no-escape, q.no_stop, q.no-percent, d)
atom-ends (percentage n) x y z e d f = refl
atom-ends (dimension n u) x y z e d f = let q = quiet x e in rw (q.no-code-point, q.no-escape, q.no_plus)
atom-ends comma x y z e d f = refl
atom-ends colon x y z e d f = refl
atom-ends semicolon x y z e d f = refl
atom-ends (delimiter c h) x y z e d f = ap not (and_right (is c (ascii "/")) (is x (ascii "*")) (quiet x e).no-asterisk)
atom-ends point x y z e d f = ap not (ended-digit x (quiet x e).no-code-point)
atom-ends hyphen x y z e d f = let q = quiet x e in rw (q.no-code-point, q.no-escape, q.no_stop)
atom-ends addition x y z e d f = ap not f

-- white space and comments begin with none of them
unblank : Unblank continues
unfolding continues ident_code_point ident_start letter or and within is
unblank = record { of_space = refl; of-tab = refl; of-line-feed = refl; of-carriage-return = refl; of-form-feed = refl; of-solidus = refl }

-- nor does what closes, which begins no name and no white space
closes-first : {t : List ℕ} → Closes t → (continues (get_or t 0 0) ≡ false) × ((z : ℕ) → begins_name (get_or t 0 0) z ≡ false) × (begins_number (get_or t 0 0) ≡ false) × (whitespace_item t ≡ 0)
unfolding continues begins_name begins_number is_digit ident_code_point ident_start letter closer whitespace_item is_whitespace comment_of pick or and within is
closes-first nothing = (refl, (λ z. refl), refl, refl)
closes-first (closed (function n d) r) = (refl, (λ z. refl), refl, refl)
closes-first (closed round r) = (refl, (λ z. refl), refl, refl)
closes-first (closed square r) = (refl, (λ z. refl), refl, refl)
closes-first (closed brace r) = (refl, (λ z. refl), refl, refl)
closes-first (at-semicolon r) = (refl, (λ z. refl), refl, refl)
closes-first (at-bang r) = (refl, (λ z. refl), refl, refl)
closes-first (at-brace r) = (refl, (λ z. refl), refl, refl)

-- so an atom ends before white space or none and what closes
blank-ends : (a : Atom) {l : List ℕ} (t : List ℕ) → Blank l → Closes t → EndsBefore a (l ++ t)
blank-ends a {l} t h c =
    let f = closes-first c in
    ends-behind a (record { bytes = l; blank = h }) t f.3 (atom-ends a _ _ _ (blank-first continues unblank t h f.0) (f.1 _) f.2)

-- and a name ends there
pub halts-ends : {z : List ℕ} → Halts z → ends_name (get_or z 0 0) ≡ true
unfolding ends_name or
halts-ends (halts {l} {t} h c) = let q = quiet (get_or (l ++ t) 0 0) (blank-first continues unblank t h (closes-first c).0) in rw (q.no-code-point, q.no-escape)

-- white space behind white space is white space
pub blank-append : {a b : List ℕ} → Blank a → Blank b → Blank (a ++ b)
blank-append none k = k
blank-append (white x b w r) k = white x _ w (blank-append r k)
blank-append {b = d} (comment c b w r) k = subst Blank (sym (append_assoc c b d)) (comment c _ w (blank-append r k))

-- the first byte of a text that is not empty
first-of : (w r : List ℕ) → 1 ≤ length w → get_or (w ++ r) 0 0 ≡ get_or w 0 0
first-of [] r h = absurd (omega arith)
first-of (x ∷ w) r h = refl

-- a token takes a byte or more
begins-some : (t : List ℕ) (n : ℕ) (k : Token) → Begins t n k → 1 ≤ n
begins-some t n k h = let f = token-fits t n k (token-read unspaced t n k h ∙ ap (λ (i : ℕ). ok i k) (zero-add n)) in omega (arith, f.some)

-- where a name begins with no '-', the byte behind it does not matter
any-second : (y : ℕ) → begins_name y 0 ≡ false → (z : ℕ) → begins_name y z ≡ false
unfolding begins_name
any-second y e z =
    let a = neither (ident_start y) _ e in
    let b = neither (is y (ascii "\\")) _ a.1 in
    or-none _ _ a.0 (or-none _ _ b.0 (and_left _ _ (first-fails (is y (ascii "-")) b.1)))
  where
    first-fails : (t : Bool) → and t (not (or (is_digit 0) (is 0 (ascii ".")))) ≡ false → t ≡ false
    first-fails true h = unfold and or is_digit within is in never (sym h)
    first-fails false h = refl

-- so it is with what may follow an atom
any-follows : (a : Atom) (x y : ℕ) → may_follow a x y 0 ≡ true → (z : ℕ) → may_follow a x y z ≡ true
unfolding may_follow
any-follows (word n) x y e z = e
any-follows (string q) x y e z = e
any-follows (hash h) x y e z = e
any-follows (number n) x y e z =
    let a = and-true (ends_name x) _ e in
    let b = and-true (not (is x (ascii "."))) _ a.1 in
    let c = and-true (not (is x (ascii "%"))) _ b.1 in
    and_both _ _ a.0 (and_both _ _ b.0 (and_both _ _ c.0 (ap not (any-second y (not-true _ c.1) z))))
any-follows (percentage n) x y e z = e
any-follows (dimension n u) x y e z = e
any-follows comma x y e z = e
any-follows colon x y e z = e
any-follows semicolon x y e z = e
any-follows (delimiter c d) x y e z = e
any-follows point x y e z = e
any-follows hyphen x y e z = e
any-follows addition x y e z = e

-- of a text that is not empty the first two bytes, or the first alone
second-follows : (a : Atom) (x : ℕ) (w r : List ℕ) → 1 ≤ length w → may_follow a x (get_or w 0 0) (get_or w 1 0) ≡ true → may_follow a x (get_or (w ++ r) 0 0) (get_or (w ++ r) 1 0) ≡ true
second-follows a x [] r h e = absurd (omega arith)
second-follows a x (y ∷ []) r h e = any-follows a x y e _
second-follows a x (y ∷ z ∷ w) r h e = e

-- an atom ends before white space and a token that may follow it
token-ends : (a : Atom) (b : Blanks) (w r : List ℕ) (k : Token) → Begins (w ++ r) (length w) k → MayFollow a (get_or (b.bytes ++ w) 0 0) (get_or w 0 0) (get_or w 1 0)
    → EndsBefore a (b.bytes ++ (w ++ r))
token-ends a b w r k h e =
    let x : get_or (b.bytes ++ (w ++ r)) 0 0 ≡ get_or (b.bytes ++ w) 0 0 =
    ap (λ (l : List ℕ). get_or l 0 0) (sym (append_assoc b.bytes w r))
    ∙ first-of (b.bytes ++ w) r (omega (arith, length-append b.bytes w, begins-some (w ++ r) (length w) k h)) in
    ends-behind a b (w ++ r) h.item (ap (λ (i : ℕ). may_follow a i (get_or (w ++ r) 0 0) (get_or (w ++ r) 1 0)) x ∙ second-follows a _ w r (begins-some (w ++ r) (length w) k h) e)

-- ---- values
-- the white space at their end
unfoldable pub trail : Values → Blanks
trail (end b) = b
trail (then b a v) = trail v
trail (block b o w v) = trail v

-- what is written, with z behind it
pub then-onto : (b : Blanks) (a : Atom) (v : Values) (z : List ℕ) → written_values (then b a v) ++ z ≡ b.bytes ++ (written_atom a ++ (written_values v ++ z))
unfolding written_values
then-onto b a v z =
    append_assoc b.bytes (written_atom a ++ written_values v) z ∙ ap (λ (l : List ℕ). b.bytes ++ l) (append_assoc (written_atom a) (written_values v) z)

-- the same of a block
pub block-onto : (b : Blanks) (o : Opening) (w v : Values) (z : List ℕ)
    → written_values (block b o w v) ++ z ≡ b.bytes ++ (written_opening o ++ (written_values w ++ (closer o ∷ (written_values v ++ z))))
unfolding written_values
block-onto b o w v z =
    append_assoc b.bytes (written_opening o ++ (written_values w ++ (closer o ∷ written_values v))) z
    ∙ ap (λ (l : List ℕ). b.bytes ++ l)
    (append_assoc (written_opening o) (written_values w ++ (closer o ∷ written_values v)) z
    ∙ ap (λ (l : List ℕ). written_opening o ++ l) (append_assoc (written_values w) (closer o ∷ written_values v) z))

-- what closes a block may stand behind values
pub closer-halts : (o : Opening) (r : List ℕ) → Halts (closer o ∷ r)
closer-halts o r = halts {l = []} none (closed o r)

-- ---- the last two tokens of a value
-- both of the mark go on
mark-goes : (step_of false (bracket_of (tokens.delim (ascii "!"))) [] ≡ next []) × (step_of false (bracket_of (tokens.ident (text "important"))) [] ≡ next [])
unfolding step_of bracket_of
mark-goes = (refl, refl)

-- one that is no '!' is not of the mark
pub plain-first : (k : Token) (ks : List Token) → is_delim (ascii "!") k ≡ false → (marked (k ∷ ks)).important ≡ (marked ks).important
unfolding marked is_mark and pick
plain-first k [] e = refl
plain-first k (a ∷ []) e = rw e
plain-first k (a ∷ b ∷ ks) e = refl

-- what stands before one that is no word does not matter
plain-behind : (xs : List Token) (k : Token) (ys : List Token) → is_word (text "important") k ≡ false → (marked (xs ++ (k ∷ ys))).important ≡ (marked (k ∷ ys)).important
unfolding marked
plain-behind [] k ys e = refl
plain-behind (x ∷ []) k [] e = two-important (is_mark x k) x k ∙ unfold is_mark in and_right _ _ e
plain-behind (x ∷ []) k (y ∷ ys) e = refl
plain-behind (x ∷ z ∷ []) k ys e = plain-behind (z ∷ []) k ys e
plain-behind (x ∷ z ∷ a ∷ xs) k ys e = plain-behind (z ∷ a ∷ xs) k ys e

-- an atom that is no '!'
atom-plain : (a : Atom) → is_bang a ≡ false → is_delim (ascii "!") (means_atom a) ≡ false
unfolding is_bang means_atom is_delim is
atom-plain (word n) e = refl
atom-plain (string q) e = refl
atom-plain (hash h) e = refl
atom-plain (number n) e = refl
atom-plain (percentage n) e = refl
atom-plain (dimension n u) e = refl
atom-plain comma e = refl
atom-plain colon e = refl
atom-plain semicolon e = refl
atom-plain (delimiter c d) e = e
atom-plain point e = refl
atom-plain hyphen e = refl
atom-plain addition e = refl

-- nor is a bracket, which is no word either
brackets-plain : (o : Opening) → (is_delim (ascii "!") (means_opening o) ≡ false) × (is_delim (ascii "!") (means_closer o) ≡ false)
    × (is_word (text "important") (means_closer o) ≡ false)
unfolding means_opening means_closer is_delim is_word
brackets-plain (function n d) = (refl, refl, refl)
brackets-plain round = (refl, refl, refl)
brackets-plain square = (refl, refl, refl)
brackets-plain brace = (refl, refl, refl)

-- so values without a '!' outside brackets have no mark
values-unmarked : (v : Values) → Unmarked v → (marked (means_values v)).important ≡ false
unfolding means_values Unmarked
values-unmarked (end b) h = unfold marked in refl
values-unmarked (then b a v) h = plain-first (means_atom a) (means_values v) (atom-plain a h.0) ∙ values-unmarked v h.1
values-unmarked (block b o w v) h =
    let p = brackets-plain o in
    plain-first (means_opening o) (means_values w ++ (means_closer o ∷ means_values v)) p.0 ∙ plain-behind (means_values w) (means_closer o) (means_values v) p.2
    ∙ plain-first (means_closer o) (means_values v) p.1 ∙ values-unmarked v h

-- a token before three and more is left with what is left of them
abbrev onto : Token → Value → Value
onto a v = record { tokens = a ∷ v.tokens; important = v.important }

-- and nothing is taken off them
unmarked-whole : (ks : List Token) → (marked ks).important ≡ false → marked ks ≡ record { tokens = ks; important = false }
unfolding marked pick
unmarked-whole [] e = refl
unmarked-whole (a ∷ []) e = refl
unmarked-whole (a ∷ b ∷ []) e = let h : is_mark a b ≡ false = sym (two-important (is_mark a b) a b) ∙ e in rw h
unmarked-whole (a ∷ b ∷ c ∷ ks) e = ap (onto a) (unmarked-whole (b ∷ c ∷ ks) e)

-- the tokens of the mark
abbrev pub mark_tokens : List Token
mark_tokens = tokens.delim (ascii "!") ∷ tokens.ident (text "important") ∷ []

-- the mark behind any tokens is taken off, and the tokens are left
marked-is : (ks : List Token) → marked (ks ++ mark_tokens) ≡ record { tokens = ks; important = true }
unfolding marked
marked-is [] = unfold is_mark is_delim is_word same_text and is text utf8 pick in refl
marked-is (a ∷ []) = ap (onto a) (marked-is [])
marked-is (a ∷ b ∷ []) = ap (onto a) (marked-is (b ∷ []))
marked-is (a ∷ b ∷ c ∷ ks) = ap (onto a) (marked-is (b ∷ c ∷ ks))

-- each atom ends where the grammar says so
pub follows : (a : Atom) (v : Values) (z : List ℕ) → Follows a v → Apart v → Halts z → EndsBefore a (written_values v ++ z)
unfolding Follows Apart
follows a (end b) _ f h (halts {l} {t} g c) = unfold written_values in subst (EndsBefore a) (append_assoc b.bytes l t) (blank-ends a t (blank-append b.blank g) c)
follows a (then b n v) z f h g =
    subst (EndsBefore a) (sym (then-onto b n v z))
    (token-ends a b (written_atom n) (written_values v ++ z) (means_atom n) (atom-begins n (written_values v ++ z) (follows n v z h.0 h.1 g)) f)
follows a (block b o w v) z f h g =
    subst (EndsBefore a) (sym (block-onto b o w v z))
    (token-ends a b (written_opening o) (written_values w ++ (closer o ∷ (written_values v ++ z))) (means_opening o) (opening-begins o (written_values w ++ (closer o ∷ (written_values v ++ z)))) f)

module _ {include : Bool} where
  -- a token behind white space
  pub passes-token : (b : Blanks) (w r : List ℕ) (at : ℕ) (k : Token) (cs ds : List ℕ) → Begins (w ++ r) (length w) k → step_of include (bracket_of k) cs ≡ next ds
      → Passes include (b.bytes ++ (w ++ r)) r at cs ds (k ∷ [])
  passes-token b w r at k cs ds h p =
      passes-one (b.bytes ++ (w ++ r)) r at (length b.bytes + length w) k cs ds (token-read b (w ++ r) (length w) k h)
      (drop-append-add b.bytes (w ++ r) (length w) ∙ drop-append_seam w r)
      (omega (arith, length-append b.bytes (w ++ r), length-append w r)) (omega (arith, begins-some (w ++ r) (length w) k h)) p

  -- the same of a text that is written otherwise
  passes-as : {s s' t : List ℕ} {at : ℕ} {cs ds : List ℕ} {ks : List Token} → s ≡ s' → Passes include s' t at cs ds ks → Passes include s t at cs ds ks
  passes-as {t = t} {at} {cs} {ds} {ks} e p = subst (λ (l : List ℕ). Passes include l t at cs ds ks) (sym e) p

  -- component values are passed, all tokens of them, up to the white space behind the last
  pub values-pass : (v : Values) (z : List ℕ) (at : ℕ) (cs : List ℕ) → Apart v → Halts z → Within cs v
      → Passes include (written_values v ++ z) ((trail v).bytes ++ z) at cs cs (means_values v)
  unfolding Apart trail means_values
  values-pass (end b) z at cs h g i = unfold written_values in passes_none (b.bytes ++ z) at cs
  values-pass (then b a v) z at cs h g i =
      let r = written_values v ++ z in
      let p = passes-token b (written_atom a) r at (means_atom a) cs cs (atom-begins a r (follows a v z h.0 h.1 g)) (atom-goes include b a v cs i) in
      passes-as (then-onto b a v z) (passes_on p (values-pass v z (at + p.taken) cs h.1 g (within-then cs b a v i)))
  values-pass (block b o w v) z at cs h g i =
      let r = written_values v ++ z in
      let q = closer o ∷ r in
      let p = passes-token b (written_opening o) (written_values w ++ q) at (means_opening o) cs (closer o ∷ cs) (opening-begins o (written_values w ++ q)) (opening-goes include b o cs) in
      let m = values-pass w q (at + p.taken) (closer o ∷ cs) h.0 (closer-halts o r) (unfold Within in tt) in
      let e = passes-token (trail w) (closer o ∷ []) r (at + p.taken + m.taken) (means_closer o) (closer o ∷ cs) cs (closer-token o r) (closing-goes include b o w v cs i) in
      passes-as (block-onto b o w v z)
      (passes_on p (passes_on m (passes_on e (values-pass v z (at + p.taken + m.taken + e.taken) cs h.1 g (within_block cs b o w v i)))))

-- ---- where a value ends
-- the document ends a declaration's value before a semicolon or the brace that closes its block (5.4.4, 5.4.6), and at the end of the text
pub data ValueEnds : List ℕ → Type 0 where
  at-end : (b : Blanks) → ValueEnds b.bytes
  before-semicolon : (b : Blanks) (r : List ℕ) → ValueEnds (b.bytes ++ (ascii ";" ∷ r))
  before-brace : (b : Blanks) (r : List ℕ) → ValueEnds (b.bytes ++ (ascii "}" ∷ r))

-- a token that ends the statement
stop-scan : (l : ℕ) (t : List ℕ) (at n : ℕ) (k : Token) → token_of t ≡ ok n k → step_of false (bracket_of k) [] ≡ before → scan l false t at [] ≡ stop at true
unfolding scan on_parsed on_step
stop-scan zero t at n k e p = refl
stop-scan (suc l) t at n k e p = rw (e, p)

-- no token ends it too
none-scan : (l : ℕ) (t : List ℕ) (at : ℕ) → token_of t ≡ err → scan l false t at [] ≡ stop at true
unfolding scan on_parsed
none-scan zero t at e = refl
none-scan (suc l) t at e = rw e

-- white space alone is skipped
blank-skipped : (b : Blanks) → skip_whitespace b.bytes ≡ length b.bytes
blank-skipped b = ap skip_whitespace (sym (append-nil b.bytes)) ∙ skips-blank b.bytes [] b.blank (closes-first nothing).3

-- white space alone has no token
blank-token : (b : Blanks) → token_of b.bytes ≡ err
unfolding token_of parser.behind token_at scalar_of scalar_by is pick
blank-token b = rw (blank-skipped b, drop_of_length-le b.bytes {i = length b.bytes} (omega arith))

-- the marks that end a statement
mark-steps : (step_of false (bracket_of tokens.semicolon) [] ≡ before) × (step_of false (bracket_of (means_closer brace)) [] ≡ before)
unfolding step_of bracket_of means_atom means_closer closing ending is pick
mark-steps = (refl, refl)

-- so the tokens of a value stop where it ends
pub value-stops : {z : List ℕ} → ValueEnds z → (l at : ℕ) → scan l false z at [] ≡ stop at true
unfolding closer means_closer
value-stops (at-end b) l at = none-scan l b.bytes at (blank-token b)
value-stops (before-semicolon b r) l at =
    stop-scan l (b.bytes ++ (ascii ";" ∷ r)) at _ _ (token-read b (ascii ";" ∷ r) 1 tokens.semicolon (semicolon-token r)) mark-steps.0
value-stops (before-brace b r) l at =
    stop-scan l (b.bytes ++ (ascii "}" ∷ r)) at _ _ (closer-read b brace r) mark-steps.1

-- where a value ends in a declaration, values may end
pub ends-halt : {z : List ℕ} → ValueEnds z → Halts z
unfolding closer
ends-halt (at-end b) = subst Halts (append-nil b.bytes) (halts b.blank nothing)
ends-halt (before-semicolon b r) = halts b.blank (at-semicolon r)
ends-halt (before-brace b r) = halts b.blank (closed brace r)

-- tokens before the end of a statement
conses-stop : (ps : List Placed) (at : ℕ) (b : Bool) → conses ps (stop at b) ≡ record { tokens = ps; taken = at; balanced = b }
unfolding conses cons stop
conses-stop [] at b = refl
conses-stop (p ∷ ps) at b = ap (cons p) (conses-stop ps at b)

-- what the reader of statements says of tokens that are passed over and an end
pub record Stated (include : Bool) (s : List ℕ) (n : ℕ) (ks : List Token) : Type 0 where
  pub placed : List Placed
  pub tokens : tokens_of placed ≡ ks
  pub states : statement_of include s ≡ record { tokens = placed; taken = n; balanced = true }

-- as many turns as it needs
pub stated : {include : Bool} {s t : List ℕ} {ks : List Token} {cs : List ℕ} → (p : Passes include s t 0 [] cs ks) → ((l at : ℕ) → scan l include t at cs ≡ stop at true)
    → Stated include s p.taken ks
unfolding statement_of
stated {include} {s} {t} {ks} {cs} p e =
    let l = length s + 1 - p.turns in
    let m : length s + 1 ≡ p.turns + l = omega (arith, p.few, p.all) in
    record {
      placed = p.placed;
      tokens = p.tokens;
      states =
          ap (λ (i : ℕ). scan i include s 0 []) m ∙ p.goes l ∙ ap (conses p.placed) (e l (0 + p.taken)) ∙ conses-stop p.placed (0 + p.taken) true
          ∙ ap (λ (i : ℕ). record { tokens = p.placed; taken = i; balanced = true }) (zero-add p.taken);
    }

-- ---- a value
-- white space at the end of values outside all brackets is none of theirs
outer-trail : (v : Values) → Outermost v → (trail v).bytes ≡ []
unfolding Outermost trail
outer-trail (end b) h = h
outer-trail (then b a v) h = outer-trail v h.1
outer-trail (block b o w v) h = outer-trail v h.1

-- values outside all brackets pass, up to what stands behind them
pub outer-pass : {include : Bool} (v : Values) (z : List ℕ) → Apart v → Outermost v → Halts z → Passes include (written_values v ++ z) z 0 [] [] (means_values v)
outer-pass {include} v z h o g =
    subst (λ (l : List ℕ). Passes include (written_values v ++ z) (l ++ z) 0 [] [] (means_values v)) (outer-trail v o) (values-pass v z 0 [] h g (unfold Within in o))

-- all of them is taken
pub passed_length : {include : Bool} {s z : List ℕ} {ks : List Token} (w : List ℕ) → s ≡ w ++ z → (p : Passes include s z 0 [] [] ks) → p.taken ≡ length w
passed_length {include} {s} {z} w e p = omega (arith, p.all, ap length e, length-append w z)

-- values end before the first semicolon or closing brace outside strings, comments and brackets, or at the end of the text
pub value-ends : (v : Values) (z : List ℕ) → Apart v → Outermost v → ValueEnds z → Stated false (written_values v ++ z) (length (written_values v)) (means_values v)
value-ends v z h o e =
    let p = outer-pass {include = false} v z h o (ends-halt e) in
    subst (λ (n : ℕ). Stated false (written_values v ++ z) n (means_values v)) (passed_length (written_values v) refl p) (stated p (value-stops e))

-- ---- the mark `!important`
-- the '!' is a delimiter
pub bang-begins : (t : List ℕ) → Begins (ascii "!" ∷ t) 1 (tokens.delim (ascii "!"))
unfolding is_delimiter member text utf8 written_atom means_atom may_follow or and is pick
bang-begins t = atom-begins (delimiter (ascii "!") refl) t refl

-- and the word ends before what closes
important-begins : (n : Ident) → folded n ≡ text "important" → (z : List ℕ) → Halts z → Begins (n.bytes ++ z) (length n.bytes) (tokens.ident (text "important"))
unfolding written_atom means_atom
important-begins n e _ (halts {l} {t} h c) =
    subst (λ (w : List ℕ). Begins (n.bytes ++ (l ++ t)) (length n.bytes) (tokens.ident w)) e (atom-begins (word n) (l ++ t) (blank-ends (word n) t h c))

-- a mark may stand behind a value
pub mark-halts : (m : Importance) (z : List ℕ) → Halts z → Halts (written_importance m ++ z)
unfolding written_importance
mark-halts normal z h = h
mark-halts (important b c n i) z h =
    subst Halts (sym (append_assoc b.bytes (ascii "!" ∷ (c.bytes ++ n.bytes)) z)) (halts b.blank (at-bang ((c.bytes ++ n.bytes) ++ z)))

module _ (b c : Blanks) (n : Ident) (i : folded n ≡ text "important") (z : List ℕ) where
  -- the mark, with z behind it
  mark-onto : written_importance (important b c n i) ++ z ≡ b.bytes ++ (ascii "!" ∷ (c.bytes ++ (n.bytes ++ z)))
  unfolding written_importance
  mark-onto =
      append_assoc b.bytes (ascii "!" ∷ (c.bytes ++ n.bytes)) z
      ∙ ap (λ (l : List ℕ). b.bytes ++ (ascii "!" ∷ l)) (append_assoc c.bytes n.bytes z)

  -- its tokens pass behind others
  mark-pass : {s : List ℕ} {ks : List Token} → Passes false s (written_importance (important b c n i) ++ z) 0 [] [] ks → Halts z → Passes false s z 0 [] [] (ks ++ mark_tokens)
  mark-pass {s} {ks} k g =
      let x = c.bytes ++ (n.bytes ++ z) in
      let p = subst (λ (l : List ℕ). Passes false s l 0 [] [] ks) mark-onto k in
      let q = passes-token {include = false} b (ascii "!" ∷ []) x (0 + p.taken) (tokens.delim (ascii "!")) [] [] (bang-begins x) mark-goes.0 in
      passes_on p (passes_on q (passes-token {include = false} c n.bytes z (0 + p.taken + q.taken) (tokens.ident (text "important")) [] [] (important-begins n i z g) mark-goes.1))

-- ---- `value_of`
-- by what the statement says
value-by : (s : List ℕ) (n : ℕ) (ks js : List Token) (i : Bool) → Stated false s n ks → marked ks ≡ record { tokens = js; important = i }
    → value_of s ≡ ok n (record { tokens = js; important = i })
unfolding value_of value_from pick
value-by s n ks js i t e = rw (t.states, t.tokens, e)

-- tokens that pass, up to where the document ends a value
pass-value : (w : List ℕ) {s z : List ℕ} {ks : List Token} (js : List Token) (i : Bool) → s ≡ w ++ z → Passes false s z 0 [] [] ks → ValueEnds z → marked ks ≡ record { tokens = js; important = i }
    → value_of s ≡ ok (length w) (record { tokens = js; important = i })
pass-value w {s} {z} {ks} js i e p h d =
    value-by s (length w) ks js i (subst (λ (n : ℕ). Stated false s n ks) (passed_length w e p) (stated p (value-stops h))) d

-- a text whose tokens pass and have no mark, and a mark behind it or none
pub marked-read : (w : List ℕ) (m : Importance) (z : List ℕ) {ks : List Token} → Passes false (w ++ (written_importance m ++ z)) (written_importance m ++ z) 0 [] [] ks → (marked ks).important ≡ false
    → ValueEnds z → value_of ((w ++ written_importance m) ++ z) ≡ ok (length (w ++ written_importance m)) (record { tokens = ks; important = is_marked m })
unfolding is_marked written_importance
marked-read w normal z {ks} p u e =
    ap value_of (append_assoc w (written_importance normal) z)
    ∙ pass-value (w ++ written_importance normal) ks false (sym (append_assoc w (written_importance normal) z)) p e (unmarked-whole ks u)
marked-read w (important b c n i) z {ks} p u e =
    ap value_of (append_assoc w (written_importance (important b c n i)) z)
    ∙ pass-value (w ++ written_importance (important b c n i)) ks true (sym (append_assoc w (written_importance (important b c n i)) z)) (mark-pass b c n i z p (ends-halt e)) e (marked-is ks)

-- a value of the grammar and its mark, if it has one, are read whole, up to where the document ends them
pub value_read : (v : Values) (m : Importance) (z : List ℕ) → DeclarationValue v → ValueEnds z
    → value_of ((written_values v ++ written_importance m) ++ z) ≡ ok (length (written_values v ++ written_importance m)) (record { tokens = means_values v; important = is_marked m })
value_read v m z h e =
    marked-read (written_values v) m z (outer-pass v (written_importance m ++ z) h.apart h.outermost (mark-halts m z (ends-halt e))) (values-unmarked v h.unmarked) e
