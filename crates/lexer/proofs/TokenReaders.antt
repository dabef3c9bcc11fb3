-- The returns of the readers of tokens that a first character selects.
use Rattle.std.specs.Option.{IsSomeAnd}
use Rattle.std.proofs.Common.{Some, None, Option, MatchOption}
use Rattle.std.proofs.lemmas.List.{nil_from_length}
use mathlib.Core.Path.{◌≡◌, refl, ap, sym, ◌∙◌}
use mathlib.Core.List.{List, [], ◌∷◌}
use mathlib.Core.Bool.{Bool, true, false}
use Prim.Native.Nat.{ℕ, ◌+◌, ◌-◌, ◌≤◌}
use native.Mathlib.Omega.{arith}
use lib.ListN.{length, get_or, take, drop}
use lib.Seq.{sets, length-take-le}
use Rattle.combinators.specs.Choice.{pick, or, is}
use Prim.Native.Char.{code as ascii}
use Rattle.combinators.specs.Parsed.{ok, err, on_parsed, behind}
use Rattle.combinators.specs.Word.{starts_with}
use Rattle.combinators.specs.Store.{emits}
use Rattle.combinators.proofs.Rules.{pick_true, pick-false, told, is-yes, is-no, is-no-of, either, pick-holds}
use Rattle.combinators.proofs.Lists.{byte-there, rest}
use Rattle.combinators.proofs.Emitted.{sets-onto, sets-emitted}
use Rattle.characters.specs.Literal.{text}
use Rattle.characters.specs.Utf8.{utf8}
use Rattle.lexer.specs.Name.{ident_of, identstring_of, name_text}
use Rattle.lexer.specs.Taken.{taken_answer}
use Rattle.lexer.specs.Number as numbers
use Rattle.lexer.specs.Quoted.{string_end, string_text}
use Rattle.lexer.specs.Token.{ident, function, hash, delim, number, dimension, percentage, numeric_from, numeric_of, ident_like_of, is_quote, string_from, string_of, cdc, hash_of, plus_of, minus_of, less_of, coded, text_of, token_answer, token_text, or_delim}
use Rattle.lexer.specs.declared.Written.{Written}
use Rattle.combinators.specs.declared.taken.Taken.{Taken}
use Rattle.lexer.specs.declared.tokens.Token as declared
use Rattle.lexer.specs.declared.tokens.Token.TheVariants as code
use Rattle.lexer.proofs.Taken.{some-taken, none-taken}
use Rattle.lexer.proofs.Digits.{number-le}
use Rattle.lexer.proofs.Quotes.{string-le}
use Rattle.lexer.proofs.Idents.{Named}
use Rattle.lexer.proofs.TokenAnswers.{Lexes, lexes-ok, lexes-err, lexes-as, lexes-moved, lexes-first, lexes-second, read-or-delim, name-ok}
use Rattle.lexer.proofs.NameAnswers.{unnamed-from}

-- ---- `parse_numeric_token`: a number of n bytes, and what stands behind it
module _ (n : ℕ) (s : List ℕ) where
  -- with a percent sign behind it, the number is a percentage, which takes the sign too
  from-percent : is (get_or s n 0) (ascii "%") ≡ true → numeric_from n s ≡ ok (n + 1) (percentage (take n s))
  unfolding numeric_from
  from-percent h = sym (pick_true _ _ _ _ h refl)

  -- with a name behind it and no percent sign, the number is a dimension with that unit
  from-unit : is (get_or s n 0) (ascii "%") ≡ false → (m : ℕ) (u : List ℕ) → ident_of (drop n s) ≡ ok m u → numeric_from n s ≡ ok (n + m) (dimension (take n s) u)
  unfolding numeric_from on_parsed
  from-unit h m u e = sym (pick-false _ _ _ _ h (rw e))

  -- with neither a percent sign nor a name behind it, the number is a token by itself
  from-bare : is (get_or s n 0) (ascii "%") ≡ false → ident_of (drop n s) ≡ err → numeric_from n s ≡ ok n (number (take n s))
  unfolding numeric_from on_parsed
  from-bare h e = sym (pick-false _ _ _ _ h (rw e))

-- where there is no number, there is no token and the store is as it was
pub no_number : (s : List ℕ) → None ≡ taken_answer (numbers.number s) → (st : List ℕ) (fill : ℕ) → Lexes (numeric_of s) st fill None st
unfolding numeric_of
no_number s e st fill = lexes-err _ (sym (pick_true _ _ _ _ (is-yes _ _ (none-taken _ e)) refl)) st st fill refl

module _ (s : List ℕ) (n : ℕ) (answered : Some n ≡ taken_answer (numbers.number s)) where
  -- a number of n bytes is there
  en : n ≡ numbers.number s
  en = (some-taken n _ answered).0

  -- and takes one or more
  d : ¬ (n ≡ 0)
  d = (some-taken n _ answered).1

  -- all of the number is there
  long : length (take n s) ≡ n
  long = length-take-le n s (omega (arith, en, number-le s))

  module _ (st l : List ℕ) (fill f : ℕ) (e : record { bytes = l; fill = f } ≡ emits (record { bytes = st; fill = fill }) (take n s)) where
    -- where a number of n bytes is there, the token is told by what stands behind it
    from : numeric_of s ≡ numeric_from n s
    unfolding numeric_of
    from = sym (pick-false _ _ _ _ (is-no-of _ _ _ en d) refl) ∙ ap (λ k. numeric_from k s) (sym en)

    -- the text of the number is stored at the fill
    stored : l ≡ sets st fill (take n s)
    stored = sets-emitted st l (take n s) fill f e

    module _ (r : Bool) (er : r ≡ is (get_or s n 0) (ascii "%")) where
      -- a percent sign behind the number: a percentage, whose text is the number
      pub percent : r ≡ true → Lexes (numeric_of s) st fill (Some (record { taken = n + 1; value = code.Percentage n })) l
      unfolding coded text_of
      percent h = lexes-ok _ _ _ (from ∙ from-percent n s (told _ _ _ er h)) _ (rw long) st l fill stored

      module _ (h : r ≡ false) (x : Option Written) (z : List ℕ) (w : Named (ident_of (take (length s - n) (drop n s))) l f x z) where
        -- what the call on the rest of the text says of it
        named : Named (ident_of (drop n s)) l f x z
        named = rw (rest s n) at w

        -- a name behind the number: a dimension, whose unit lies behind the number in the store
        pub unit : (m k : ℕ) → x ≡ Some (record { taken = m; length = k }) → Lexes (numeric_of s) st fill (Some (record { taken = n + m; value = code.Dimension n k })) z
        unfolding coded text_of
        unit m k q =
            let i = name-ok (ident_of (drop n s)) m k (sym q ∙ named.0) in
            lexes-ok _ _ _ (from ∙ from-unit n s (told _ _ _ er h) m _ i.0) _ (rw (long, i.1)) st z fill
            (named.1 ∙ sets-onto st l (take n s) _ fill f e)

        -- no name behind the number: the number alone, and nothing more is stored
        pub bare : x ≡ None → Lexes (numeric_of s) st fill (Some (record { taken = n; value = code.Number n })) z
        unfolding coded text_of name_text
        bare q =
            let i = unnamed-from (ident_of (drop n s)) (sym q ∙ named.0) in
            lexes-ok _ _ _ (from ∙ from-bare n s (told _ _ _ er h) i) _ (rw long) st z fill
            (named.1 ∙ ap (λ p. sets l f (name_text p)) i ∙ stored)

-- ---- `parse_ident_like`
-- by the byte behind the name
like-ok : (s : List ℕ) (n : ℕ) (b : List ℕ) → ident_of s ≡ ok n b
    → ident_like_of s ≡ pick (is (get_or s n 0) (ascii "(")) (ok (n + 1) (function b)) (ok n (ident b))
unfolding ident_like_of on_parsed
like-ok s n b e = rw e

module _ (s st z : List ℕ) (fill : ℕ) (x : Option Written) (w : Named (ident_of s) st fill x z) where
  -- where there is no name, there is no token and the store is as it was
  pub no-ident : x ≡ None → Lexes (ident_like_of s) st fill None z
  unfolding ident_like_of on_parsed name_text
  no-ident q =
      let i = unnamed-from (ident_of s) (sym q ∙ w.0) in
      lexes-err _ (rw i) st z fill (w.1 ∙ ap (λ p. sets st fill (name_text p)) i)

  module _ (n m : ℕ) (q : x ≡ Some (record { taken = n; length = m })) (r : Bool) (er : r ≡ is (get_or s n 0) (ascii "(")) where
    -- the name that was read
    read : (ident_of s ≡ ok n (name_text (ident_of s))) × (m ≡ length (name_text (ident_of s)))
    read = name-ok (ident_of s) n m (sym q ∙ w.0)

    -- the token that it makes
    like : ident_like_of s ≡ pick (is (get_or s n 0) (ascii "(")) (ok (n + 1) (function (name_text (ident_of s)))) (ok n (ident (name_text (ident_of s))))
    like = like-ok s n _ read.0

    -- the return where '(' stands behind the name: a function
    pub function-like : r ≡ true → Lexes (ident_like_of s) st fill (Some (record { taken = n + 1; value = code.Function m })) z
    unfolding coded text_of
    function-like h = lexes-ok _ _ _ (like ∙ sym (pick_true _ _ _ _ (told _ _ _ er h) refl)) _ (rw read.1) st z fill w.1

    -- with any other byte behind it, the name is an identifier
    pub ident-like : r ≡ false → Lexes (ident_like_of s) st fill (Some (record { taken = n; value = code.Ident m })) z
    unfolding coded text_of
    ident-like h = lexes-ok _ _ _ (like ∙ sym (pick-false _ _ _ _ (told _ _ _ er h) refl)) _ (rw read.1) st z fill w.1

-- ---- `parse_string_token`
-- a quote that a text begins with stands before its end
pub quote-there : (t : List ℕ) → is_quote (get_or t 0 0) ≡ true → 1 ≤ length t
unfolding is_quote
quote-there t h = either (1 ≤ length t) _ _ h (λ e. byte-there t 0 (ascii "\"") (omega arith) e) (λ e. byte-there t 0 (ascii "'") (omega arith) e)

string-of-none : string_of [] ≡ err
unfolding string_of is_quote or is pick
string-of-none = refl

-- where there is no first byte, there is no string and the store is as it was
pub string-missing : (t : List ℕ) → length t ≡ 0 → (st : List ℕ) (fill : ℕ) → Lexes (string_of t) st fill None st
string-missing t e st fill = lexes-err _ (ap string_of (nil_from_length t e) ∙ string-of-none) st st fill refl

-- q is the first byte and u what stands behind it, and c whether q is a quote
module _ (t : List ℕ) (q : ℕ) (u : List ℕ) (et : t ≡ q ∷ u) (c : Bool) (ec : c ≡ is_quote q) where
  by_first : string_of t ≡ pick (is_quote q) (string_from q u (string_end q u) (string_text q u)) err
  unfolding string_of
  by_first = rw et refl

  -- where the first byte is no quote, there is no string and the store is as it was
  pub no-string : c ≡ false → (st : List ℕ) (fill : ℕ) → Lexes (string_of t) st fill None st
  no-string h st fill = lexes-err _ (by_first ∙ sym (pick-false _ _ _ _ (sym ec ∙ h) refl)) st st fill refl

  module _ (h : c ≡ true) (st z : List ℕ) (fill n m : ℕ) (w : ((n ≡ string_end q u) × (m ≡ length (string_text q u))) × (z ≡ sets st fill (string_text q u))) where
    -- by how the string ends
    quoted : string_of t ≡ string_from q u n (string_text q u)
    quoted = by_first ∙ sym (pick_true _ _ _ _ (sym ec ∙ h) refl) ∙ ap (λ k. string_from q u k (string_text q u)) (sym w.0.0)

    -- what is taken behind the quote is there
    pub string-within : n ≤ length u
    string-within = omega (arith, w.0.0, string-le q u)

    -- at the end of the text
    pub string-ended : n ≡ length u → Lexes (string_of t) st fill (Some (record { taken = 1 + n; value = code.String m })) z
    unfolding string_from coded text_of
    string-ended e = lexes-ok _ _ _ (quoted ∙ sym (pick_true _ _ _ _ (is-yes _ _ e) refl)) _ (rw w.0.1) st z fill w.1

    module _ (d : ¬ (n ≡ length u)) (r : Bool) (er : r ≡ is (get_or u n 0) q) where
      -- a string that ends at its quote takes the quote too
      pub string-closed : r ≡ true → Lexes (string_of t) st fill (Some (record { taken = 1 + n + 1; value = code.String m })) z
      unfolding string_from coded text_of
      string-closed e =
          lexes-ok _ _ _ (quoted ∙ sym (pick-false _ _ _ _ (is-no _ _ d) (pick_true _ _ _ _ (told _ _ _ er e) refl))) _ (rw w.0.1) st z fill w.1

      -- the return where the string ends at a line feed: a bad string
      pub string-bad : r ≡ false → Lexes (string_of t) st fill (Some (record { taken = 1 + n; value = code.BadString m })) z
      unfolding string_from coded text_of
      string-bad e =
          lexes-ok _ _ _ (quoted ∙ sym (pick-false _ _ _ _ (is-no _ _ d) (pick-false _ _ _ _ (told _ _ _ er e) refl))) _ (rw w.0.1) st z fill w.1

-- ---- `hash_token`: behind '#'
-- a name behind '#' is a hash, which takes the '#' too
hash-ok : (c : ℕ) (t : List ℕ) (m : ℕ) (b : List ℕ) → identstring_of (drop 1 t) ≡ ok m b → hash_of c t ≡ ok (1 + m) (hash b)
unfolding hash_of on_parsed
hash-ok c t m b e = rw e

-- where no name stands behind '#', the token is the delimiter
hash-err : (c : ℕ) (t : List ℕ) → identstring_of (drop 1 t) ≡ err → hash_of c t ≡ ok 1 (delim c)
unfolding hash_of on_parsed
hash-err c t e = rw e

module _ (c : ℕ) (t st z : List ℕ) (fill : ℕ) (x : Option Written) (w : Named (identstring_of (take (length t - 1) (drop 1 t))) st fill x z) where
  -- what the call on the rest of the text says of it
  string-named : Named (identstring_of (drop 1 t)) st fill x z
  string-named = rw (rest t 1) at w

  -- a name that is read behind '#' is answered as a hash, with its text in the store
  hashed : (m k : ℕ) → x ≡ Some (record { taken = m; length = k }) → Lexes (hash_of c t) st fill (Some (record { taken = 1 + m; value = code.Hash k })) z
  unfolding coded text_of
  hashed m k q =
      let i = name-ok (identstring_of (drop 1 t)) m k (sym q ∙ string-named.0) in
      lexes-ok _ _ _ (hash-ok c t m _ i.0) _ (rw i.1) st z fill string-named.1

  -- where no name is read behind '#', the delimiter is answered and the store is as it was
  not-hashed : x ≡ None → Lexes (hash_of c t) st fill (Some (record { taken = 1; value = code.Delim c })) z
  unfolding coded text_of name_text
  not-hashed q =
      let i = unnamed-from (identstring_of (drop 1 t)) (sym q ∙ string-named.0) in
      lexes-ok _ _ _ (hash-err c t i) _ refl st z fill (string-named.1 ∙ ap (λ p. sets st fill (name_text p)) i)

  -- both at once, as `map` and `or_delim` answer
  pub hash-by : {P : Written → Taken declared.Token → Type 0} (y r : Option (Taken declared.Token)) → MatchOption x (y ≡ None) (λ v. IsSomeAnd y (P v))
      → ((v : Written) (b : Taken declared.Token) → P v b → b ≡ record { taken = 1 + v.taken; value = code.Hash v.length }) → r ≡ or_delim y c → Lexes (hash_of c t) st fill r z
  unfolding or_delim
  hash-by {P = P} y r m e q = go x refl y m q
    where
      go : (v : Option Written) → x ≡ v → (u : Option (Taken declared.Token)) → MatchOption v (u ≡ None) (λ w. IsSomeAnd u (P w)) → r ≡ or_delim u c → Lexes (hash_of c t) st fill r z
      go (Some v) ex (Some b) m q = rw (q, e v b m) (hashed v.taken v.length ex)
      go (Some v) ex None m q = absurd m
      go None ex u m q = rw (q, m) (not-hashed ex)

-- ---- `plus_token`: behind '+'
module _ (c : ℕ) (t st z : List ℕ) (fill : ℕ) (x : Option (Taken declared.Token)) (w : Lexes (numeric_of (take (length t - 1) (drop 1 t))) st fill x z) where
  -- what the call on the rest of the text says of it
  numeric : Lexes (numeric_of (drop 1 t)) st fill x z
  numeric = rw (rest t 1) at w

  -- a token that is read behind '+' is the token, with the '+' among the bytes taken; where none is, the delimiter is answered and the store is as it was
  pub plus-by : {P : Taken declared.Token → Taken declared.Token → Type 0} (y r : Option (Taken declared.Token)) → MatchOption x (y ≡ None) (λ v. IsSomeAnd y (P v))
      → ((v b : Taken declared.Token) → P v b → b ≡ record { taken = 1 + v.taken; value = v.value }) → r ≡ or_delim y c → Lexes (plus_of c t) st fill r z
  unfolding plus_of
  plus-by y r m e q = read-or-delim (behind 1 (numeric_of (drop 1 t))) c st z fill y r (lexes-moved (numeric_of (drop 1 t)) 1 st z fill x y numeric m e) q

-- ---- the marks
-- the bytes of `-->`
pub cdc-bytes : text "-->" ≡ ascii "-" ∷ ascii "-" ∷ ascii ">" ∷ []
unfolding text utf8 pick
cdc-bytes = refl

-- the bytes of `<!--`
pub cdo-bytes : text "<!--" ≡ ascii "<" ∷ ascii "!" ∷ ascii "-" ∷ ascii "-" ∷ []
unfolding text utf8 pick
cdo-bytes = refl

-- ---- `minus_token`: from '-' on
module _ (c : ℕ) (t st z : List ℕ) (fill : ℕ) (x : Option (Taken declared.Token)) (w : Lexes (numeric_of t) st fill x z) where
  -- a number that is read from '-' on is the token
  pub minus_number : (m : ℕ) (k : declared.Token) → x ≡ Some (record { taken = m; value = k }) → Lexes (minus_of c t) st fill (Some (record { taken = m; value = k })) z
  unfolding minus_of
  minus_number m k q = lexes-first _ _ st z fill m k (rw q at w)

  module _ (q : x ≡ None) (r : Bool) (er : r ≡ starts_with (ascii "-" ∷ ascii "-" ∷ ascii ">" ∷ []) t) where
    -- the code's test is the definition's
    cdc-test : r ≡ starts_with (text "-->") t
    cdc-test = er ∙ ap (λ (w : List ℕ). starts_with w t) (sym cdc-bytes)

    -- where no number is read and the text starts with "-->", that mark is the token and takes three bytes
    pub minus-cdc : r ≡ true → Lexes (minus_of c t) st fill (Some (record { taken = 3; value = code.CDC })) z
    unfolding minus_of coded text_of
    minus-cdc h =
        lexes-second _ _ st z fill (rw q at w) _ _
        (lexes-ok _ 3 cdc (sym (pick_true _ _ _ _ (told _ _ _ cdc-test h) refl)) _ refl z z fill refl)

    -- a name, or the delimiter
    pub minus-ident : r ≡ false → (y : Option (Taken declared.Token)) (v : List ℕ) → Lexes (ident_like_of t) z fill y v → (a : Option (Taken declared.Token)) → a ≡ or_delim y c
        → Lexes (minus_of c t) st fill a v
    unfolding minus_of
    minus-ident h y v i a e =
        lexes-second _ _ st z fill (rw q at w) _ _
        (lexes-as _ _ (sym (pick-false _ _ _ _ (told _ _ _ cdc-test h) refl)) _ _ _ _ (read-or-delim (ident_like_of t) c z v fill y a i e))

-- ---- `less_token`: from '<' on
module _ (c : ℕ) (t : List ℕ) (r : Bool) (er : r ≡ starts_with (ascii "<" ∷ ascii "!" ∷ ascii "-" ∷ ascii "-" ∷ []) t) where
  -- the code's test is the definition's
  cdo-test : r ≡ starts_with (text "<!--") t
  cdo-test = er ∙ ap (λ (w : List ℕ). starts_with w t) (sym cdo-bytes)

  -- where the text starts with "<!--", that mark is the token and takes four bytes
  pub less-cdo : r ≡ true → Some (record { taken = 4; value = code.CDO }) ≡ token_answer (less_of c t)
  unfolding less_of token_answer coded pick
  less-cdo h = rw (told _ _ _ cdo-test h)

  -- where the text does not start with "<!--", the token is the delimiter
  pub less-delim : r ≡ false → Some (record { taken = 1; value = code.Delim c }) ≡ token_answer (less_of c t)
  unfolding less_of token_answer coded pick
  less-delim h = rw (told _ _ _ cdo-test h)

-- a token that begins with '<' has no text
less-text : (c : ℕ) (t : List ℕ) → token_text (less_of c t) ≡ []
unfolding less_of token_text text_of
less-text c t = pick-holds (λ p. token_text p ≡ []) _ _ _ (λ _. refl) (λ _. refl)

-- so the store is left alone
pub less-lexes : (c : ℕ) (t st : List ℕ) (fill : ℕ) (r : Option (Taken declared.Token)) → r ≡ token_answer (less_of c t) → Lexes (less_of c t) st fill r st
less-lexes c t st fill r e = (e, sym (ap (sets st fill) (less-text c t)))
