-- Attributes: what the readers of a value say of the definition, and the returns of the readers.
use mathlib.Core.Path.{◌≡◌, refl, sym, ap, ◌∙◌}
use mathlib.Core.Bool.{Bool, true, false}
use mathlib.Core.List.{List, [], ◌∷◌}
use mathlib.Core.Logic.{◌⊎◌, inl, inr, ⊎_elim}
use Prim.Native.Nat.{ℕ, ◌+◌, ◌-◌, ◌≤◌, ◌<◌}
use native.Mathlib.Omega.{arith}
use types.Run.{OneOf, miss}
use denote.Enum.Declared.{tag_of}
use lib.ListN.{length, get_or, take, drop, length-drop}
use lib.Seq.{sets, get_or-drop, length-sets}
use Rattle.std.specs.Prelude.{Some, None, Ok, Option}
use Prim.Native.Char.{code as ascii}
use Rattle.combinators.specs.Choice.{pick, is}
use Rattle.combinators.specs.Parsed as parsing
use Rattle.combinators.specs.Parsed.{Parsed, ok, err, on_parsed}
use Rattle.combinators.specs.Store.{wiped, Zeros}
use Rattle.combinators.proofs.Lists.{rest, byte-there}
use Rattle.combinators.proofs.Rules.{pick_true, pick-false, pick-holds, told}
use Rattle.combinators.proofs.Wiped.{sets-append}
use Rattle.lexer.specs.Name.{ident_of, name_answer, name_text}
use Rattle.lexer.specs.Quoted.{string_end, string_text}
use Rattle.lexer.specs.Token.{Token, string, bad_string, string_from, string_of, coded, text_of, token_answer, token_text}
use Rattle.lexer.specs.declared.Written.{Written}
use Rattle.lexer.specs.declared.tokens.Token as declared
use Rattle.lexer.specs.declared.tokens.Token.TheVariants as code
use Rattle.combinators.specs.declared.taken.Taken.{Taken}
use Rattle.std.proofs.lemmas.Option.{same_Some, none-some}
use Rattle.lexer.specs.contracts.tokens.Token.{the_type}
use Rattle.lexer.proofs.Bounds.{short, Fits, bound-short}
use Rattle.lexer.proofs.IdentBounds.{NameKeeps, ident-keeps, ident-fits, answer_le}
use Rattle.lexer.proofs.Idents as idents
use Rattle.lexer.proofs.Quotes.{string-short}
use Rattle.lexer.proofs.TokenBounds.{string-bounded}
use Rattle.syntax.specs.Selector as syntax
use Rattle.syntax.specs.Selector.{attribute, attribute_equal}
use Rattle.syntax.specs.RuleLayout.{component_text}
use Rattle.lexer.proofs.NameAnswers.{NameRead, named-from, unnamed-from}
use Rattle.selectors.specs.Outcome.{Outcome, reads, fails, on_outcome, parsed, or_else}
use Rattle.selectors.specs.Selector.{closed, quoted_from, quoted_of, value_of, attr_of}
use Rattle.selectors.specs.Reading.{written}
use Rattle.selectors.specs.ComponentAnswer.{component_coded, component_answer, closed_by, closed_answer, closed_store, attr_value_of, equal_answer, equal_store}
use Rattle.selectors.specs.Stores.{Clean}
use Rattle.selectors.specs.declared.components.Component as component
use Rattle.selectors.specs.declared.components.Component.TheVariants as variant
use Rattle.combinators.proofs.ZeroLaws.{zeros-back, zeros-after}
use Rattle.selectors.proofs.ComponentLaws.{read_as, Left, left-none, or-fails, or-reads}

-- ---- the returns of `closed`
module _ (s st : List ℕ) (n m fill : ℕ) (t : Bool) (et : t ≡ is (get_or s n 0) (ascii "]")) where
  -- the return where the bracket closes the value: it is taken, and the store stays
  pub bracket-closes : t ≡ true → (Some (record { taken = (n + 1); length = m }) ≡ closed_answer s n m) × (st ≡ closed_store s n m fill st)
  unfolding closed_answer closed_store
  bracket-closes e = (pick_true _ _ _ _ (told _ _ _ et e) refl, pick_true _ _ _ _ (told _ _ _ et e) refl)

  -- without the closing bracket nothing is read, and the text is wiped
  pub bracket-missing : t ≡ false → (z : List ℕ) → z ≡ wiped fill m st → (None ≡ closed_answer s n m) × (z ≡ closed_store s n m fill st)
  unfolding closed_answer closed_store
  bracket-missing e z w = (pick-false _ _ _ _ (told _ _ _ et e) refl, pick-false _ _ _ _ (told _ _ _ et e) w)

-- ---- what `parse_string_token` reads: a string or a bad one, whose text is no longer than what it takes
abbrev StringLike : Parsed Token → Type 0
StringLike (ok n k) = ((k ≡ string (text_of k)) ⊎ (k ≡ bad_string (text_of k))) × (length (text_of k) ≤ n)
StringLike err = Unit

-- a string token, however it ends, is a string or a bad one, with a text no longer than what it takes
string-from : (q : ℕ) (r : List ℕ) → StringLike (string_from q r (string_end q r) (string_text q r))
unfolding string_from text_of
string-from q r =
    let h = string-short q r in
    pick-holds StringLike _ _ _ (λ _. (inl refl, omega arith))
    (λ _. pick-holds StringLike _ _ _ (λ _. (inl refl, omega arith)) (λ _. (inr refl, omega arith)))

-- so is the string token of every text
string-like : (s : List ℕ) → StringLike (string_of s)
unfolding string_of
string-like s = pick-holds StringLike _ _ _ (λ _. string-from (get_or s 0 0) (drop 1 s)) (λ _. tt)

module _ (s : List ℕ) where
  -- a string token that is a string is a quoted string
  quoted-string : (n : ℕ) (b : List ℕ) → string_of s ≡ ok n (string b) → quoted_of s ≡ ok n b
  unfolding quoted_of quoted_from on_parsed
  quoted-string n b e = rw e

  -- a bad one is none
  quoted-bad : (n : ℕ) (b : List ℕ) → string_of s ≡ ok n (bad_string b) → quoted_of s ≡ err
  unfolding quoted_of quoted_from on_parsed
  quoted-bad n b e = rw e

  -- and no token is none
  quoted-none : string_of s ≡ err → quoted_of s ≡ err
  unfolding quoted_of on_parsed
  quoted-none e = rw e

-- what was read, from the answer
record Token-read (p : Parsed Token) (n : ℕ) (k : declared.Token) : Type 0 where
  token : Token
  reading : p ≡ ok n token
  code_is : k ≡ coded token

-- an answer with a token says that one was read
token-read : (p : Parsed Token) (n : ℕ) (k : declared.Token) → Some (record { taken = n; value = k }) ≡ token_answer p → Token-read p n k
unfolding token_answer
token-read (ok i κ) n k e =
    let q : record { taken = n; value = k } ≡ record { taken = i; value = coded κ } = same_Some _ _ e in
    record { token = κ; reading = ap (λ w. ok w.taken κ) (sym q); code_is = ap (λ w. w.value) q }
token-read err n k e = absurd (none-some _ (sym e))

-- an answer without one says that none was
no-token : (p : Parsed Token) → None ≡ token_answer p → p ≡ err
unfolding token_answer
no-token (ok i κ) e = absurd (none-some _ e)
no-token err e = refl

-- ---- answers of names
module _ (p : Parsed (List ℕ)) (st z : List ℕ) (fill : ℕ) where
  -- a text that was read lies in the store
  name-left : (n : ℕ) (b : List ℕ) → p ≡ ok n b → (m : ℕ) → m ≡ length b → z ≡ sets st fill b → idents.Named p st fill (Some (record { taken = n; length = m })) z
  unfolding name_answer name_text
  name-left n b e m em ez = rw (e, em) (refl, ez)

  -- where none was read the store is as it was
  none_left : p ≡ err → z ≡ st → idents.Named p st fill None z
  unfolding name_answer name_text
  none_left e ez = rw e (refl, ez)

-- ---- the returns of `parse_quoted_string`
-- the variants other than a string
abbrev others : List ℕ
others = 0 ∷ 1 ∷ 2 ∷ 4 ∷ 5 ∷ 6 ∷ 7 ∷ 8 ∷ 9 ∷ 10 ∷ 11 ∷ 12 ∷ 13 ∷ 14 ∷ 15 ∷ 16 ∷ 17 ∷ 18 ∷ 19 ∷ []

-- a string is not among them
string-other : {A : Type 0} (m : ℕ) → OneOf others (tag_of the_type (code.String m)) → A
string-other m h = absurd (miss others _ tt h)

module _ (s st z : List ℕ) (fill : ℕ) (x : Option (Taken declared.Token)) (w : (x ≡ token_answer (string_of s)) × (z ≡ sets st fill (token_text (string_of s)))) where
  -- where no token begins there is no string
  pub string-none : x ≡ None → idents.Named (quoted_of s) st fill None z
  unfolding token_text
  string-none h =
      let e = no-token (string_of s) (sym h ∙ w.0) in
      none_left (quoted_of s) st z fill (quoted-none s e) (w.1 ∙ ap (λ (p : Parsed Token). sets st fill (token_text p)) e)

  module _ (n : ℕ) (k : declared.Token) (h : x ≡ Some (record { taken = n; value = k })) where
    -- the token that was read
    got : Token-read (string_of s) n k
    got = token-read (string_of s) n k (sym h ∙ w.0)

    -- it is a string or a bad one
    like : StringLike (ok n got.token)
    like = rw got.reading at (string-like s)

    -- its text is in the store
    stored : z ≡ sets st fill (text_of got.token)
    unfolding token_text
    stored = w.1 ∙ ap (λ (p : Parsed Token). sets st fill (token_text p)) got.reading

    -- as the code has them
    code-string : (b : List ℕ) → coded (string b) ≡ code.String (length b)
    unfolding coded
    code-string b = refl

    -- the code's bad string has the length of its text
    code-bad : (b : List ℕ) → coded (bad_string b) ≡ code.BadString (length b)
    unfolding coded
    code-bad b = refl

    -- a string is the value
    pub string-read : (m : ℕ) → k ≡ code.String m → idents.Named (quoted_of s) st fill (Some (record { taken = n; length = m })) z
    string-read m e =
        ⊎_elim
        (λ q. let l : ◌≡◌ {A = declared.Token} (code.String m) (code.String (length (text_of got.token))) = sym e ∙ got.code_is ∙ ap coded q ∙ code-string _ in
        let em : m ≡ length (text_of got.token) = cc in
        name-left (quoted_of s) st z fill n _ (quoted-string s n _ (got.reading ∙ ap (ok n) q)) m em stored)
        (λ q. absurd (let l : ◌≡◌ {A = declared.Token} (code.String m) (code.BadString (length (text_of got.token))) = sym e ∙ got.code_is ∙ ap coded q ∙ code-bad _ in let y : ◌≡◌ {A = ℕ} 0 1 = cc in omega arith))
        like.0

    -- any other token is no value, and its text is wiped
    pub string-wiped : OneOf others (tag_of the_type k) → Zeros st fill → (y : List ℕ) → y ≡ wiped fill n z → idents.Named (quoted_of s) st fill None y
    string-wiped e c y ey =
        ⊎_elim
        (λ q. let l : k ≡ code.String (length (text_of got.token)) = got.code_is ∙ ap coded q ∙ code-string _ in string-other (length (text_of got.token)) (rw l at e))
        (λ q. none_left (quoted_of s) st y fill (quoted-bad s n _ (got.reading ∙ ap (ok n) q)) (ey ∙ ap (wiped fill n) stored ∙ zeros-back st fill c (text_of got.token) n like.1))
        like.0

-- ---- a text with its bracket
module _ (s : List ℕ) (p : Parsed (List ℕ)) where
  -- without a text there is nothing to close
  closed-err : p ≡ err → closed_by s p ≡ err
  unfolding closed_by on_parsed
  closed-err e = rw e

  module _ (n : ℕ) (b : List ℕ) (e : p ≡ ok n b) where
    -- a text with the closing bracket behind it is a value
    closed-yes : is (get_or s n 0) (ascii "]") ≡ true → closed_by s p ≡ ok (n + 1) b
    unfolding closed_by on_parsed pick
    closed-yes t = rw (e, t)

    -- a text without the closing bracket behind it is no value
    closed-no : is (get_or s n 0) (ascii "]") ≡ false → closed_by s p ≡ err
    unfolding closed_by on_parsed pick
    closed-no t = rw (e, t)

-- ---- the returns of `parse_quoted_value` and `parse_ident_value`
-- what a quoted string keeps to
pub quoted-keeps : (s : List ℕ) → NameKeeps s (quoted_of s)
quoted-keeps s = go (string_of s) refl
  where
    by : (n : ℕ) (k : Token) → string_of s ≡ ok n k → StringLike (ok n k) → Fits s n (text_of k) → NameKeeps s (quoted_of s)
    by n k e l f =
        ⊎_elim (λ q. rw (quoted-string s n (text_of k) (e ∙ ap (ok n) q)) f) (λ q. rw (quoted-bad s n (text_of k) (e ∙ ap (ok n) q)) tt) l.0

    go : (p : Parsed Token) → string_of s ≡ p → NameKeeps s (quoted_of s)
    go (ok n k) e = by n k e (rw e at (string-like s)) (rw e at (string-bounded s))
    go err e = rw (quoted-none s e) tt

module _ (s st z : List ℕ) (fill : ℕ) (c : Zeros st fill) (p : Parsed (List ℕ)) (x : Option Written) (w : idents.Named p st fill x z) where
  -- where nothing was read there is no value
  pub value_none : x ≡ None → idents.Named (closed_by s p) st fill None z
  unfolding name_text
  value_none h =
      let e = unnamed-from p (sym h ∙ w.0) in
      none_left (closed_by s p) st z fill (closed-err s p e) (w.1 ∙ ap (λ (q : Parsed (List ℕ)). sets st fill (name_text q)) e)

  module _ (n m : ℕ) (h : x ≡ Some (record { taken = n; length = m })) (r : Option Written) (y : List ℕ) (v : (r ≡ closed_answer s n m) × (y ≡ closed_store s n m fill z)) where
    -- a text, by the byte behind it
    value-by : (b : List ℕ) → p ≡ ok n b → m ≡ length b → z ≡ sets st fill b → (t : Bool) → is (get_or s n 0) (ascii "]") ≡ t → idents.Named (closed_by s p) st fill r y
    unfolding closed_answer closed_store
    value-by b e l ez true et =
        let er : r ≡ Some (record { taken = (n + 1); length = m }) = v.0 ∙ sym (pick_true _ _ _ _ et refl) in
        let ey : y ≡ z = v.1 ∙ sym (pick_true _ _ _ _ et refl) in
        rw er (name-left (closed_by s p) st y fill (n + 1) b (closed-yes s p n b e et) m l (ey ∙ ez))
    value-by b e l ez false et =
        let er : r ≡ None = v.0 ∙ sym (pick-false _ _ _ _ et refl) in
        let ey : y ≡ wiped fill m z = v.1 ∙ sym (pick-false _ _ _ _ et refl) in
        rw er (none_left (closed_by s p) st y fill (closed-no s p n b e et) (ey ∙ ap (wiped fill m) ez ∙ zeros-back st fill c b m (omega arith)))

    -- the answer and the store
    pub value_read : idents.Named (closed_by s p) st fill r y
    unfolding name_text
    value_read =
        let q = named-from p n m (sym h ∙ w.0) in
        value-by q.name q.reads q.long (w.1 ∙ ap (λ (o : Parsed (List ℕ)). sets st fill (name_text o)) q.reads) _ refl

-- ---- the returns of `parse_attr_value`
module _ (s st z : List ℕ) (fill : ℕ) (x : Option Written) (w : idents.Named (closed_by s (quoted_of s)) st fill x z) where
  -- a quoted string with its bracket is the value
  pub value-quoted : (n m : ℕ) → x ≡ Some (record { taken = n; length = m }) → idents.Named (attr_value_of s) st fill (Some (record { taken = n; length = m })) z
  unfolding name_text
  value-quoted n m h =
      let q = named-from _ n m (sym h ∙ w.0) in
      name-left (attr_value_of s) st z fill n q.name (value-first q.name q.reads) m q.long
      (w.1 ∙ ap (λ (o : Parsed (List ℕ)). sets st fill (name_text o)) q.reads)
    where
      value-first : (b : List ℕ) → closed_by s (quoted_of s) ≡ ok n b → attr_value_of s ≡ ok n b
      value-first b e = unfold attr_value_of parsing.or_else in rw e

  module _ (h : x ≡ None) where
    -- no quoted string with its bracket reads
    none : closed_by s (quoted_of s) ≡ err
    none = unnamed-from _ (sym h ∙ w.0)

    -- the store is as it was
    pub value_same : z ≡ st
    unfolding name_text
    value_same = w.1 ∙ ap (λ (o : Parsed (List ℕ)). sets st fill (name_text o)) none

    -- without a quoted string, the value is a name with its bracket
    value-second : closed_by s (ident_of s) ≡ attr_value_of s
    unfolding attr_value_of parsing.or_else
    value-second = rw none

    -- the return where a name with its bracket is tried
    pub value-named : (r : Option Written) (y : List ℕ) → idents.Named (closed_by s (ident_of s)) z fill r y → idents.Named (attr_value_of s) st fill r y
    value-named r y v = rw (← value-second, ← value_same) v

-- ---- what a value keeps to
-- with its bracket, where the text does
closed-keeps : (s : List ℕ) (p : Parsed (List ℕ)) → NameKeeps s p → NameKeeps s (closed_by s p)
unfolding closed_by on_parsed
closed-keeps s (ok n b) f =
    pick-holds (NameKeeps s) _ _ _
    (λ e. let l = byte-there s n (ascii "]") (omega arith) e in
    record { some = omega (arith, f.some); within_text = omega arith; bound = short (omega (arith, bound-short f.bound l)) })
    (λ _. tt)
closed-keeps s err f = tt

-- what both alternatives keep to the choice keeps to
or-keeps : (s : List ℕ) (p q : Parsed (List ℕ)) → NameKeeps s p → NameKeeps s q → NameKeeps s (parsing.or_else p q)
unfolding parsing.or_else
or-keeps s (ok n b) q f g = f
or-keeps s err q f g = g

-- the value of any text keeps to its bounds
pub attr-value-keeps : (s : List ℕ) → NameKeeps s (attr_value_of s)
unfolding attr_value_of
attr-value-keeps s = or-keeps s _ _ (closed-keeps s _ (quoted-keeps s)) (closed-keeps s _ (ident-keeps s))

-- ---- the returns of `parse_attr_equal`
-- a value that was read is left behind the name
equal-read : (p : Parsed (List ℕ)) (n : ℕ) (v : List ℕ) → p ≡ ok n v → (m : ℕ) → m ≡ length v → (st y : List ℕ) (at name fill : ℕ) → y ≡ sets st (fill + name) v
    → (Some (read_as (at + 1 + n) (variant.AttributeEqual name m)) ≡ equal_answer p at name) × (y ≡ equal_store p name fill st)
unfolding equal_answer equal_store on_parsed
equal-read p n v e m em st y at name fill ey = rw (e, em) (refl, ey)

module _ (s st : List ℕ) (at name fill : ℕ) (z : List ℕ) (x : Option Written)
    (w : idents.Named (attr_value_of (take (length s - (at + 1)) (drop (at + 1) s))) st (fill + name) x z) where
  -- the answer and the store that it leaves
  abbrev EqualLeft : Option (Taken component.Component) → List ℕ → Type 0
  EqualLeft r y = (r ≡ equal_answer (attr_value_of (drop (at + 1) s)) at name) × (y ≡ equal_store (attr_value_of (drop (at + 1) s)) name fill st)

  -- the value is that of the rest of the text
  value_lent : idents.Named (attr_value_of (drop (at + 1) s)) st (fill + name) x z
  value_lent = rw (rest s (at + 1)) at w

  -- the return where a value was read: it is left behind the name
  pub equal-value : (n m : ℕ) → x ≡ Some (record { taken = n; length = m }) → EqualLeft (Some (read_as (at + 1 + n) (variant.AttributeEqual name m))) z
  unfolding name_text
  equal-value n m h =
      let q = named-from _ n m (sym h ∙ value_lent.0) in
      equal-read _ n q.name q.reads m q.long st z at name fill (value_lent.1 ∙ ap (λ (p : Parsed (List ℕ)). sets st (fill + name) (name_text p)) q.reads)

  -- the return where none was: the name is wiped
  pub equal-none : x ≡ None → (y : List ℕ) → y ≡ wiped fill name z → EqualLeft None y
  unfolding equal_answer equal_store on_parsed name_text
  equal-none h y ey =
      let q = unnamed-from _ (sym h ∙ value_lent.0) in
      rw q (refl, ey ∙ ap (wiped fill name) (value_lent.1 ∙ ap (λ (p : Parsed (List ℕ)). sets st (fill + name) (name_text p)) q))

-- a value lies within the text
pub equal-le : (s : List ℕ) (at : ℕ) → at < length s → (x : Option Written) → x ≡ name_answer (attr_value_of (take (length s - (at + 1)) (drop (at + 1) s))) → (n m : ℕ) → x ≡ Some (record { taken = n; length = m })
    → at + 1 + n ≤ length s
equal-le s at lt x e n m h =
    omega (arith, answer_le _ _ (attr-value-keeps (take (length s - (at + 1)) (drop (at + 1) s))) x e n m h, ap length (rest s (at + 1)), length-drop (at + 1) s)

-- ---- the definition of a value, by its parts
abbrev valued : ℕ → Parsed (List ℕ) → List ℕ → Outcome syntax.Component
valued j p name = parsed j p (attribute_equal name)

module _ (t : List ℕ) (j : ℕ) (name : List ℕ) where
  -- by the byte behind it
  by-bracket : (n : ℕ) (v : List ℕ) (b : Bool)
      → pick b (reads (j + n + 1) (attribute_equal name v)) fails ≡ valued j (pick b (ok (n + 1) v) err) name
  unfolding pick parsed
  by-bracket n v true = let e : j + n + 1 ≡ j + (n + 1) = omega arith in ap (λ (k : ℕ). reads k (attribute_equal name v)) e
  by-bracket n v false = refl

  -- one alternative of a value, with its closing bracket
  one_value : (p : Parsed (List ℕ)) → on_parsed p (λ n v. closed t (j + n) (attribute_equal name v)) fails ≡ valued j (closed_by (drop j t) p) name
  unfolding on_parsed closed closed_by parsed
  one_value (ok n v) = rw (get_or-drop j t n 0) (by-bracket n v (is (get_or t (j + n) 0) (ascii "]")))
  one_value err = refl

  -- two alternatives of a value are one choice of texts
  or-values : (p q : Parsed (List ℕ)) → or_else (valued j p name) (valued j q name) ≡ valued j (parsing.or_else p q) name
  unfolding or_else parsing.or_else parsed
  or-values (ok n v) q = refl
  or-values err q = refl

  -- a quoted string or else a name is the choice of the two
  value-both : value_of t j name ≡ valued j (attr_value_of (drop j t)) name
  unfolding value_of attr_value_of
  value-both = rw (one_value (quoted_of (drop j t)), one_value (ident_of (drop j t))) (or-values _ _)

-- ---- the returns of `parse_attr`
-- the opening bracket is there
pub attr-there : (s : List ℕ) (t : Bool) → t ≡ is (get_or s 0 0) (ascii "[") → t ≡ true → 1 ≤ length s
attr-there s t et e = let l = byte-there s 0 (ascii "[") (omega arith) (told _ _ _ et e) in omega arith

-- an attribute without a value
attribute-left : (o : Outcome syntax.Component) (n : ℕ) (b : List ℕ) → reads n (attribute b) ≡ o → (m : ℕ) → m ≡ length b → (st z : List ℕ) (fill : ℕ) → z ≡ sets st fill b
    → Left o st fill (Ok (Some (read_as n (variant.Attribute m)))) z
unfolding component_answer component_coded written on_outcome component_text
attribute-left o n b e m em st z fill ez = rw (← e, em) (refl, ez)

-- one with a value, or none, by what stands behind the `=`
equal-left : (p : Parsed (List ℕ)) (at : ℕ) (b : List ℕ) (m : ℕ) → m ≡ length b → (st z : List ℕ) (fill : ℕ) → Zeros st fill → z ≡ sets st fill b → (r : Option (Taken component.Component)) (y : List ℕ)
    → (r ≡ equal_answer p at m) × (y ≡ equal_store p m fill z) → Left (valued (at + 1) p b) st fill (Ok r) y
unfolding component_answer component_coded written on_outcome on_parsed parsed component_text equal_answer equal_store
equal-left (ok n v) at b m em st z fill c ez r y w = (rw w.0 (rw em), w.1 ∙ rw (em, ez) (sym (sets-append st fill b v)))
equal-left err at b m em st z fill c ez r y w = (ap Ok w.0, w.1 ∙ rw ez (zeros-back st fill c b m (omega arith)))

module _ (s st : List ℕ) (fill : ℕ) (t : Bool) (et : t ≡ is (get_or s 0 0) (ascii "[")) where
  -- without an opening bracket there is no attribute
  pub attr-missing : t ≡ false → Left (attr_of s) st fill (Ok None) st
  unfolding attr_of
  attr-missing e = left-none _ (pick-false _ _ _ _ (told _ _ _ et e) refl) st fill

  module _ (e : t ≡ true) (z : List ℕ) (x : Option Written) (w : idents.Named (ident_of (take (length s - 1) (drop 1 s))) st fill x z) where
    -- the name that was read is that of the rest of the text
    lent : idents.Named (ident_of (drop 1 s)) st fill x z
    lent = rw (rest s 1) at w

    -- without a name there is none
    attr-nothing : ident_of (drop 1 s) ≡ err → fails ≡ attr_of s
    unfolding attr_of on_parsed pick
    attr-nothing h = rw (told _ _ _ et e, h)

    -- the return where there is no name
    pub attr-unnamed : x ≡ None → Left (attr_of s) st fill (Ok None) z
    unfolding name_text
    attr-unnamed h =
        let q = unnamed-from _ (sym h ∙ lent.0) in
        let ez : z ≡ st = lent.1 ∙ ap (λ (p : Parsed (List ℕ)). sets st fill (name_text p)) q in
        rw ez (left-none _ (attr-nothing q) st fill)

    module _ (n m : ℕ) (h : x ≡ Some (record { taken = n; length = m })) where
      -- the name that was read
      name : NameRead (ident_of (drop 1 s)) n m
      name = named-from _ n m (sym h ∙ lent.0)

      -- the name takes no more than there is, and its text is bounded
      fits : Fits (drop 1 s) n name.name
      fits = ident-fits (drop 1 s) n name.name name.reads

      -- it is in the store
      stored-name : z ≡ sets st fill name.name
      unfolding name_text
      stored-name = lent.1 ∙ ap (λ (p : Parsed (List ℕ)). sets st fill (name_text p)) name.reads

      -- it lies within the text
      pub attr-name-le : 1 ≤ length s → 1 + n ≤ length s
      attr-name-le l = omega (arith, fits.within_text, length-drop 1 s)

      -- by the two bytes that may follow
      attr-by : or_else (closed s (1 + n) (attribute name.name)) (pick (is (get_or s (1 + n) 0) (ascii "=")) (value_of s (1 + n + 1) name.name) fails) ≡ attr_of s
      unfolding attr_of on_parsed pick
      attr-by = let q : 1 + n + 1 ≡ 2 + n = omega arith in rw (told _ _ _ et e, name.reads, q)

      module _ (u : Bool) (eu : u ≡ is (get_or s (1 + n) 0) (ascii "]")) where
        -- behind the name a closing bracket ends the attribute
        closed-there : u ≡ true → reads (1 + n + 1) (attribute name.name) ≡ closed s (1 + n) (attribute name.name)
        unfolding closed
        closed-there f = pick_true _ _ _ _ (told _ _ _ eu f) refl

        -- it lies within the text
        pub attr-closed-le : u ≡ true → 1 + n + 1 ≤ length s
        attr-closed-le f = let l = byte-there s (1 + n) (ascii "]") (omega arith) (told _ _ _ eu f) in omega arith

        -- the return where it ends there
        pub attr-closed : u ≡ true → Left (attr_of s) st fill (Ok (Some (read_as (1 + n + 1) (variant.Attribute m)))) z
        attr-closed f =
            attribute-left _ (1 + n + 1) name.name (sym (or-reads _ _ _ _ (sym (closed-there f))) ∙ attr-by) m name.long st z fill stored-name

        module _ (f : u ≡ false) (v : Bool) (ev : v ≡ is (get_or s (1 + n) 0) (ascii "=")) where
          -- without the closing bracket there is no attribute without a value
          closed-fails : closed s (1 + n) (attribute name.name) ≡ fails
          unfolding closed
          closed-fails = sym (pick-false _ _ _ _ (told _ _ _ eu f) refl)

          -- the return where neither a bracket nor `=` follows the name
          pub attr-open : v ≡ false → Zeros st fill → (y : List ℕ) → y ≡ wiped fill m z → Left (attr_of s) st fill (Ok None) y
          attr-open g c y ey =
              let q : y ≡ st = ey ∙ ap (wiped fill m) stored-name ∙ zeros-back st fill c name.name m (omega (arith, name.long)) in
              rw q (left-none _ (pick-false _ _ _ _ (told _ _ _ ev g) refl ∙ sym (or-fails _ _ closed-fails) ∙ attr-by) st fill)

          -- an `=` stands behind the name: a value is looked for
          module _ (g : v ≡ true) where
            -- it lies within the text
            pub equal-before : 1 + n < length s
            equal-before = byte-there s (1 + n) (ascii "=") (omega arith) (told _ _ _ ev g)

            -- behind the name the store is clean
            pub equal-clean : Clean (length s) fill st → Clean (length s - (1 + n + 1)) (fill + m) z
            equal-clean c =
                let b = bound-short fits.bound (omega (arith, equal-before, length-drop 1 s)) in
                record {
                  zeros = zeros-after st fill c.zeros name.name m name.long z stored-name;
                  room = omega (arith, c.room, name.long, b, equal-before, ap length stored-name, length-sets st fill name.name);
                }

            -- the return behind an `=`: an attribute with its value, or none where no value reads
            pub attr-equal : Zeros st fill → (r : Option (Taken component.Component)) (y : List ℕ)
                → (r ≡ equal_answer (attr_value_of (drop (1 + n + 1) s)) (1 + n) m) × (y ≡ equal_store (attr_value_of (drop (1 + n + 1) s)) m fill z) → Left (attr_of s) st fill (Ok r) y
            attr-equal c r y q =
                rw (← (sym (value-both s (1 + n + 1) name.name) ∙ pick_true _ _ _ _ (told _ _ _ ev g) refl ∙ sym (or-fails _ _ closed-fails) ∙ attr-by))
                (equal-left _ (1 + n) name.name m name.long st z fill c stored-name r y q)
