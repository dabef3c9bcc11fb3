-- Colours of token rows: `parse_color` and `parse_background_color`.
use Prim.Native.Nat.{ℕ, zero, suc, ◌+◌, ◌-◌, ◌*◌, ◌<◌, ◌≤◌}
use mathlib.Core.Path.{◌≡◌, refl, sym, ap, subst, ◌∙◌}
use mathlib.Core.Bool.{Bool, true, false}
use mathlib.Core.List.{List, [], ◌∷◌}
use native.Mathlib.Nat.{zero-add}
use native.Mathlib.Omega.{arith}
use lib.ListN.{length, take, drop, drop_of_length-le}
use lib.Dec.{eqb}
use lib.Pointwise.{pointwise}
use Rattle.values.proofs.WordLaws.{same_bytes}
use native.Mathlib.Numerals.{add-one}
use lib.Seq.{drop-drop}
use Rattle.combinators.specs.Choice.{pick, and}
use Rattle.combinators.specs.Word.{same_text}
use Rattle.combinators.proofs.Lists.{rest}
use Rattle.combinators.proofs.Rules.{pick_true, pick-false, pick-holds, and-gives, and-gives-false, and-true, told}
use Rattle.characters.specs.Literal.{text}
use Rattle.lexer.specs.Token.{Token, ident, function, hash, number, comma, close_round, text_of}
use Rattle.lexer.specs.TokenRow.{token_width, ident_kind, function_kind, hash_kind, number_kind, comma_kind, close_round_kind}
use Rattle.syntax.specs.Declaration.{Colour}
use Rattle.syntax.specs.Stream.{read_many}
use Rattle.values.specs.Words.{Found, missing, lookup}
use Rattle.values.specs.Colour.{colours, hash_colour, three_numbers, rgb_colour, colour_of, behind_comma, background_of}
use Rattle.values.specs.ColourAnswer.{colour_answer}
use Rattle.values.specs.ColourRows.{kind_at, rgb_count, rgb_name, number_before, rgb_kinds, rgb_here, last_part}
use Rattle.values.specs.View.{read_token, token_here, first_text, tokens_at, token_count}
use Rattle.std.specs.Prelude.{Option, None, Some, unwrap_or, MatchOption, IfSome, IsSomeAnd}
use denote.Ref.{Bor}
use denote.Param.Members.{Mut}
use Rattle.std.specs.Fn.{CalledAt}
use Rattle.std.specs.Iterator.Runs.{SomeRun, Run, CallKeepsClosure, NoItemPasses, EndsAtFirstPassing, ItemsCountDown}
use Rattle.std.proofs.lemmas.Iterator.Adapters.{option_map_id}
use Rattle.values.proofs.ColourLaws.{no-colour}
use Rattle.values.proofs.TokenKinds.{is_kind, rgb-told, one-told, call-told, comma-told}
use Rattle.values.proofs.TokenViews.{Kind, ident-text, function-text, hash-text, number-text, comma-kind, close-round-kind, here-kind, kind-told, here-text, tokens-here, tokens_none, count-rest}

-- ---- tokens by their number

-- the tokens whose rows stand from the i-th on
pub tokens-drop : (rows store : List ℕ) (i m : ℕ) → tokens_at (drop (i * token_width) rows) store m ≡ drop i (tokens_at rows store (i + m))
tokens-drop rows store zero m = ap (tokens_at rows store) (sym (zero-add m))
tokens-drop rows store (suc i) m =
    let p : suc i * token_width ≡ token_width + i * token_width = omega arith in
    let q : suc i + m ≡ suc (i + m) = omega arith in
    ap (λ n. tokens_at (drop n rows) store m) p ∙ ap (λ l. tokens_at l store m) (sym (drop-drop (i * token_width) token_width rows))
    ∙ tokens-drop (drop token_width rows) store i m ∙ ap (drop (suc i)) (sym (tokens-here rows store 0 (i + m)))
    ∙ ap (λ n. drop (suc i) (tokens_at rows store n)) (sym q)

-- of n tokens all from the i-th on
pub tokens-rest : (rows store : List ℕ) (i n : ℕ) → i ≤ n → tokens_at (drop (i * token_width) rows) store (n - i) ≡ drop i (tokens_at rows store n)
tokens-rest rows store i n h = let e : i + (n - i) ≡ n = omega arith in tokens-drop rows store i (n - i) ∙ ap (λ k. drop i (tokens_at rows store k)) e

-- the i-th of n tokens, and those behind it
pub token-nth : (rows store : List ℕ) (i n : ℕ) → i < n
    → drop i (tokens_at rows store n) ≡ token_here rows store (i * token_width) ∷ drop (suc i) (tokens_at rows store n)
token-nth rows store i n h =
    let e : n - i ≡ suc (n - suc i) = omega arith in
    let p : i * token_width + token_width ≡ suc i * token_width = omega arith in
    sym (tokens-rest rows store i n (omega arith)) ∙ ap (tokens_at (drop (i * token_width) rows) store) e
    ∙ tokens-here rows store (i * token_width) (n - suc i)
    ∙ ap (λ k. token_here rows store (i * token_width) ∷ tokens_at (drop k rows) store (n - suc i)) p
    ∙ ap (λ l. token_here rows store (i * token_width) ∷ l) (tokens-rest rows store (suc i) n h)

-- as many tokens are read as were asked for
pub tokens-length : (rows store : List ℕ) (n : ℕ) → length (tokens_at rows store n) ≡ n
unfolding tokens_at read_many read_token
tokens-length rows store zero = refl
tokens-length rows store (suc n) = ap suc (tokens-length (drop token_width rows) store n)

-- ---- `one_token`: a colour's name, or a hash
module _ (rows store : List ℕ) where
  module _ (r : Bool) (er : r ≡ kind_at rows 0 ident_kind) where
    -- a name is the colour that the table gives it
    pub one-named : r ≡ true → (t : List ℕ) → t ≡ first_text rows store 0 → (x : Option ℕ) → x ≡ colour_answer (lookup t colours)
        → x ≡ colour_answer (colour_of (token_here rows store 0 ∷ []))
    one-named h t et x ex =
        let s : t ≡ text_of (token_here rows store 0) = et ∙ sym (here-text rows store 0 ident_kind ident-text (told _ _ _ er h)) in
        ex ∙ ap colour_answer (pick_true _ _ _ _ (kind-told rows store 0 ident_kind ident-text.kind r true er h) (ap (λ u. lookup u colours) s) ∙ sym (one-told _))

    module _ (h : r ≡ false) (l : Bool) (el : l ≡ kind_at rows 0 hash_kind) where
      -- the return where the only token is a hash: the colour of what stands behind '#'
      pub one-hash : l ≡ true → (t : List ℕ) → t ≡ first_text rows store 0 → (x : Option ℕ) → x ≡ colour_answer (hash_colour t)
          → x ≡ colour_answer (colour_of (token_here rows store 0 ∷ []))
      one-hash g t et x ex =
          let s : t ≡ text_of (token_here rows store 0) = et ∙ sym (here-text rows store 0 hash_kind hash-text (told _ _ _ el g)) in
          ex
          ∙ ap colour_answer
          (pick-false _ _ _ _ (kind-told rows store 0 ident_kind ident-text.kind r false er h)
          (pick_true _ _ _ _ (kind-told rows store 0 hash_kind hash-text.kind l true el g) (ap hash_colour s)) ∙ sym (one-told _))

      -- a token that is neither a name nor a hash is no colour
      pub one-other : l ≡ false → None ≡ colour_answer (colour_of (token_here rows store 0 ∷ []))
      one-other g =
          no-colour _
          (pick-false _ _ _ _ (kind-told rows store 0 ident_kind ident-text.kind r false er h)
          (pick-false _ _ _ _ (kind-told rows store 0 hash_kind hash-text.kind l false el g) refl) ∙ sym (one-told _))

-- ---- two tests in turn

-- a second test that matters only where the first holds
and-where : (a b c : Bool) → (a ≡ true → b ≡ c) → and a b ≡ and a c
unfolding and
and-where true b c e = e refl
and-where false b c e = refl

-- tests by pairs are tests in turn
and-pairs : (a b c d e f : Bool) → and (and a b) (and (and c d) (and e f)) ≡ and a (and b (and c (and d (and e f))))
unfolding and
and-pairs false b c d e f = refl
and-pairs true false c d e f = refl
and-pairs true true false d e f = refl
and-pairs true true true d e f = refl

-- ---- `is_rgb`, `is_number_before`, `is_rgb_list`

module _ (rows store : List ℕ) (r : Bool) (er : r ≡ kind_at rows 0 function_kind) where
  -- a function's name decides
  pub name-there : r ≡ true → (s : List ℕ) → s ≡ first_text rows store 0 → (x : Bool) → x ≡ pointwise eqb s (text "rgb") → x ≡ rgb_name rows store
  unfolding rgb_name
  name-there h s es x ex = and-gives _ _ _ (told _ _ _ er h) (ex ∙ same_bytes s (text "rgb") ∙ ap (λ t. same_text t (text "rgb")) es)

  -- any other token is not `rgb(`
  pub name-none : r ≡ false → r ≡ rgb_name rows store
  unfolding rgb_name
  name-none h = h ∙ and-gives-false _ _ (told _ _ _ er h)

module _ (rows : List ℕ) (p q n : ℕ) (r : Bool) (er : r ≡ kind_at rows p number_kind) where
  -- behind a number the other token decides
  pub before-there : r ≡ true → (x : Bool) → x ≡ kind_at rows q n → x ≡ number_before rows p q n
  unfolding number_before
  before-there h x ex = and-gives _ _ _ (told _ _ _ er h) ex

  -- where no number stands, there is none before a mark
  pub before-none : r ≡ false → r ≡ number_before rows p q n
  unfolding number_before
  before-none h = h ∙ and-gives-false _ _ (told _ _ _ er h)

-- two tests in turn, and a third where both hold
two-tests : (a b c v : Bool) → v ≡ and a b → v ≡ false → v ≡ and a (and b c)
unfolding and
two-tests true true c v e h = absurd (let z : true ≡ false = sym e ∙ h in cc)
two-tests true false c v e h = e
two-tests false b c v e h = e

third-test : (a b c v : Bool) → v ≡ and a b → v ≡ true → c ≡ and a (and b c)
unfolding and
third-test true true c v e h = refl
third-test true false c v e h = absurd (let z : false ≡ true = sym e ∙ h in cc)
third-test false b c v e h = absurd (let z : false ≡ true = sym e ∙ h in cc)

module _ (rows : List ℕ) (v : Bool) where
  abbrev pub first : Bool
  first = number_before rows token_width (2 * token_width) comma_kind

  abbrev pub second : Bool
  second = number_before rows (3 * token_width) (4 * token_width) comma_kind

  -- the first number and comma are not there
  pub list-first : (r : Bool) → r ≡ first → r ≡ false → v ≡ false → v ≡ and first second
  list-first r e h ev = ev ∙ and-gives-false _ _ (told _ _ _ e h)

  -- they are, and the second decide
  pub list-second : (r : Bool) → r ≡ first → r ≡ true → v ≡ second → v ≡ and first second
  list-second r e h ev = and-gives _ _ _ (told _ _ _ e h) ev

  module _ (e : v ≡ and first second) where
    -- where the two are not there, it is no list of three
    pub list-none : v ≡ false → v ≡ rgb_kinds rows
    unfolding rgb_kinds
    list-none h = two-tests _ _ _ v e h

    -- behind both the number and the bracket decide
    pub list-third : v ≡ true → (x : Bool) → x ≡ number_before rows (5 * token_width) (6 * token_width) close_round_kind → x ≡ rgb_kinds rows
    unfolding rgb_kinds
    list-third h x ex = ex ∙ third-test _ _ _ v e h

-- ---- `rgb_value`

-- three texts of the rows are the colour's numbers
pub value-here : (rows store r g b : List ℕ) → r ≡ first_text rows store token_width → g ≡ first_text rows store (3 * token_width)
    → b ≡ first_text rows store (5 * token_width) → (x : Option ℕ) → x ≡ colour_answer (three_numbers r g b)
    → x ≡ colour_answer (rgb_here rows store)
unfolding rgb_here
value-here rows store r g b er eg eb x ex = ex ∙ rw (er, eg, eb)

-- ---- `rgb_tokens`: the seven tokens of `rgb()`
module _ (rows store : List ℕ) where
  -- the token number i
  abbrev nth : ℕ → Token
  nth i = token_here rows store (i * token_width)

  -- one token more in front
  more : (p n : ℕ) (l : List Token) → tokens_at (drop (p + token_width) rows) store n ≡ l
      → tokens_at (drop p rows) store (suc n) ≡ token_here rows store p ∷ l
  more p n l e = tokens-here rows store p n ∙ ap (λ ks. token_here rows store p ∷ ks) e

  -- the tokens of `rgb(r, g, b)`, one by one
  seven : tokens_at rows store rgb_count ≡ nth 0 ∷ nth 1 ∷ nth 2 ∷ nth 3 ∷ nth 4 ∷ nth 5 ∷ nth 6 ∷ []
  seven =
      more 0 6 _ (more token_width 5 _ (more (2 * token_width) 4 _ (more (3 * token_width) 3 _
      (more (4 * token_width) 2 _ (more (5 * token_width) 1 _ (more (6 * token_width) 0 _ (tokens_none _ store)))))))

  -- the test of the name, on the token
  name-test : and (is_kind function_kind (nth 0)) (same_text (text_of (nth 0)) (text "rgb")) ≡ rgb_name rows store
  unfolding rgb_name
  name-test =
      rw (here-kind rows store 0 function_kind function-text.kind)
      (and-where _ _ _ (λ e. ap (λ s. same_text s (text "rgb")) (here-text rows store 0 function_kind function-text e)))

  -- the kind of the token number i
  nth-kind : (i n : ℕ) → Kind n → is_kind n (nth i) ≡ kind_at rows (i * token_width) n
  nth-kind i n q = here-kind rows store (i * token_width) n q

  -- the test of the other six
  list-test : and (is_kind number_kind (nth 1))
      (and (is_kind comma_kind (nth 2))
      (and (is_kind number_kind (nth 3)) (and (is_kind comma_kind (nth 4)) (and (is_kind number_kind (nth 5)) (is_kind close_round_kind (nth 6))))))
      ≡ rgb_kinds rows
  unfolding rgb_kinds number_before
  list-test =
      let number = number-text.kind in
      rw
      (nth-kind 1 number_kind number, nth-kind 2 comma_kind comma-kind, nth-kind 3 number_kind number, nth-kind 4 comma_kind comma-kind, nth-kind 5 number_kind number, nth-kind 6 close_round_kind close-round-kind)
      (sym (and-pairs _ _ _ _ _ _))

  -- the text of a number
  nth-text : (i : ℕ) → kind_at rows (i * token_width) number_kind ≡ true → text_of (nth i) ≡ first_text rows store (i * token_width)
  nth-text i e = here-text rows store (i * token_width) number_kind number-text e

  -- of seven tokens of the right kinds the three numbers' texts are those of the rows
  texts : rgb_kinds rows ≡ true → three_numbers (text_of (nth 1)) (text_of (nth 3)) (text_of (nth 5)) ≡ rgb_here rows store
  unfolding rgb_kinds number_before rgb_here
  texts e =
      let p = and-true _ _ e in
      let q = and-true _ _ p.1 in
      rw (nth-text 1 (and-true _ _ p.0).0, nth-text 3 (and-true _ _ q.0).0, nth-text 5 (and-true _ _ q.1).0)

  -- so the colour of the seven
  seven-colour : pick (rgb_name rows store) (pick (rgb_kinds rows) (three_numbers (text_of (nth 1)) (text_of (nth 3)) (text_of (nth 5))) missing) missing
      ≡ colour_of (tokens_at rows store rgb_count)
  seven-colour = sym (ap colour_of seven ∙ call-told _ _ _ ∙ rw (rgb-told (nth 1) (nth 2) (nth 3) (nth 4) (nth 5) (nth 6), name-test, list-test))

  module _ (r : Bool) (er : r ≡ rgb_name rows store) where
    -- a function of another name is no colour
    pub rgb-unnamed : r ≡ false → None ≡ colour_answer (colour_of (tokens_at rows store rgb_count))
    rgb-unnamed h = no-colour _ (pick-false _ _ _ _ (told _ _ _ er h) refl ∙ seven-colour)

    module _ (h : r ≡ true) (l : Bool) (el : l ≡ rgb_kinds rows) where
      -- the return where other tokens stand in the brackets: no colour
      pub rgb-unlisted : l ≡ false → None ≡ colour_answer (colour_of (tokens_at rows store rgb_count))
      rgb-unlisted g = no-colour _ (pick_true _ _ _ _ (told _ _ _ er h) (pick-false _ _ _ _ (told _ _ _ el g) refl) ∙ seven-colour)

      -- the colour of the three numbers
      pub rgb-listed : l ≡ true → (x : Option ℕ) → x ≡ colour_answer (rgb_here rows store)
          → x ≡ colour_answer (colour_of (tokens_at rows store rgb_count))
      rgb-listed g x ex =
          let k = told _ _ _ el g in
          ex ∙ ap colour_answer (pick_true _ _ _ _ (told _ _ _ er h) (pick_true _ _ _ _ k (sym (texts k))) ∙ seven-colour)

-- ---- `parse_color`

-- six tokens behind `rgb(` or none
rgb-other : (ks : List Token) → ¬ (length ks ≡ 6) → missing ≡ rgb_colour ks
unfolding rgb_colour
rgb-other (number r ∷ comma ∷ number g ∷ comma ∷ number b ∷ close_round ∷ []) n = absurd (n refl)
rgb-other _ n = refl

-- another count of tokens than 1 and 7
colour-other : (ks : List Token) → ¬ (length ks ≡ 1) → ¬ (length ks ≡ rgb_count) → missing ≡ colour_of ks
unfolding colour_of
colour-other (ident b ∷ []) n m = absurd (n refl)
colour-other (hash b ∷ []) n m = absurd (n refl)
colour-other (function b ∷ ks) n m = pick-holds (λ (f : Found Colour). missing ≡ f) _ _ _ (λ _. rgb-other ks (λ e. m (ap suc e))) (λ _. refl)
colour-other _ n m = refl

module _ (rows store : List ℕ) (n : ℕ) where
  -- a value of one token is asked as one token
  pub count-one : n ≡ 1 → (x : Option ℕ) → x ≡ colour_answer (colour_of (token_here rows store 0 ∷ []))
      → x ≡ colour_answer (colour_of (tokens_at rows store n))
  count-one e x ex = ex ∙ ap (λ ks. colour_answer (colour_of ks)) (sym (ap (tokens_at rows store) e ∙ more rows store 0 0 [] (tokens_none _ store)))

  -- a value of any other count is no colour
  pub count-other : ¬ (n ≡ 1) → ¬ (n ≡ rgb_count) → None ≡ colour_answer (colour_of (tokens_at rows store n))
  count-other a b =
      let l = tokens-length rows store n in
      no-colour _ (colour-other (tokens_at rows store n) (λ e. a (sym l ∙ e)) (λ e. b (sym l ∙ e)))

-- ---- `behind_comma`

-- what the tokens from the i-th on leave, whatever stands before them, is left by all
behind-from : (i : ℕ) (acc ks x : List Token) → ((a : List Token) → behind_comma a (drop i ks) ≡ x) → behind_comma acc ks ≡ x
unfolding behind_comma
behind-from zero acc ks x f = f acc
behind-from (suc i) acc [] x f = f acc
behind-from (suc i) acc (comma ∷ ks) x f = behind-from i ks ks x f
behind-from (suc i) acc (_ ∷ ks) x f = behind-from i acc ks x f

module _ (rows store : List ℕ) (n : ℕ) where
  -- the tokens of the value
  abbrev all : List Token
  all = tokens_at rows store n

  -- no comma stands from the i-th token on
  abbrev Quiet : ℕ → Type 0
  Quiet i = (a : List Token) → behind_comma a (drop i all) ≡ a

  -- the last comma before them
  last-from : (i : ℕ) → i ≤ n → Quiet i → drop (last_part rows i) all ≡ behind_comma all all
  unfolding last_part
  last-from zero h f = sym (f all)
  last-from (suc i) h f =
      pick-holds (λ (j : ℕ). drop j all ≡ behind_comma all all) _ _ _
      (λ e. sym (behind-from i all all (drop (suc i) all) (λ a. turn a ∙ sym (pick_true _ _ _ _ (kind e) refl) ∙ f (drop (suc i) all))))
      (λ e. last-from i (omega arith) (λ a. turn a ∙ sym (pick-false _ _ _ _ (kind e) refl) ∙ f a))
    where
      kind : {v : Bool} → kind_at rows (i * token_width) comma_kind ≡ v → is_kind comma_kind (token_here rows store (i * token_width)) ≡ v
      kind e = here-kind rows store (i * token_width) comma_kind comma-kind ∙ e

      turn : (a : List Token) → behind_comma a (drop i all)
          ≡ pick (is_kind comma_kind (token_here rows store (i * token_width))) (behind_comma (drop (suc i) all) (drop (suc i) all)) (behind_comma a (drop (suc i) all))
      turn a = ap (behind_comma a) (token-nth rows store i n h) ∙ comma-told a (drop (suc i) all) _

  -- nothing stands behind the last token
  quiet-end : Quiet n
  unfolding behind_comma
  quiet-end a = ap (behind_comma a) (drop_of_length-le all {i = n} (omega (arith, tokens-length rows store n)))

  -- what stands behind the last comma, by its place
  pub last-part : drop (last_part rows n) all ≡ behind_comma all all
  last-part = last-from n (omega arith) quiet-end

-- behind the i-th token
pub last-next : (rows : List ℕ) (i : ℕ) (r : Bool) → r ≡ kind_at rows (i * token_width) comma_kind
    → last_part rows (i + 1) ≡ pick r (i + 1) (last_part rows i)
unfolding last_part
last-next rows i r e = rw (add-one i, e)

-- ---- `behind_comma`: the commas among n tokens, from the last on
module _ (rows : List ℕ) (n : ℕ) where
  -- whether the i-th is one
  abbrev comma_at : ℕ → Bool
  comma_at i = kind_at rows (i * token_width) comma_kind

  -- with none from the i-th on, the last part is that of the tokens before it
  none-from : (k i : ℕ) → i + k ≡ n → ((j : ℕ) → i ≤ j → j < n → comma_at j ≡ false) → last_part rows n ≡ last_part rows i
  none-from zero i e q = let z : n ≡ i = omega arith in ap (last_part rows) z
  none-from (suc k) i e q =
      none-from k (i + 1) (omega arith) (λ j a b. q j (omega arith) b) ∙ last-next rows i false (sym (q i (omega arith) (omega arith))) ∙ sym (pick-false _ _ _ _ refl refl)

  -- without one the list begins at 0
  last-none : ((j : ℕ) → j < n → comma_at j ≡ false) → 0 ≡ last_part rows n
  unfolding last_part
  last-none q = sym (none-from n 0 (omega arith) (λ j a b. q j b))

  -- and else behind the last
  last-comma : (i : ℕ) → i < n → comma_at i ≡ true → ((j : ℕ) → i < j → j < n → comma_at j ≡ false) → i + 1 ≡ last_part rows n
  last-comma i h c q =
      sym (none-from (n - (i + 1)) (i + 1) (omega arith) (λ j a b. q j (omega arith) b) ∙ last-next rows i true (sym c) ∙ sym (pick_true _ _ _ _ refl refl))

  -- the token at which the calls from the last on stopped
  pub run-last : {S F : Type 0} {steps : S → Option ℕ → S → Type 0} (s : S) (g : Mut F (Bor ℕ × Unit {0}) Bool) (f : F)
      → ((p : Run steps) → p.from ≡ s → ItemsCountDown p 0 n)
      → CallKeepsClosure g f → ((x : ℕ) (b : Bool) (q : F) → CalledAt g f x b q → b ≡ comma_at x)
      → (r : Option ℕ) → SomeRun steps s (λ u. MatchOption r ((u.whole ≡ true) × NoItemPasses u g f) (EndsAtFirstPassing u g f))
      → MatchOption r (0 ≡ last_part rows n) (λ i. (i + 1 ≡ last_part rows n) × (i < n))
  run-last {F = F} s g f down keeps k r (p, e, m) = go r m
    where
      d : ItemsCountDown p 0 n
      d = down p e

      -- the i-th call is for the i-th token from the end
      at-is : (i : ℕ) → i < p.len → p.at i ≡ Some (n - 1 - i)
      at-is i h = sym (option_map_id _) ∙ d.3 i h

      -- so the j-th token's is the call n - 1 - j
      at-token : (j : ℕ) → j < n → n - 1 - j < p.len → p.at (n - 1 - j) ≡ Some j
      at-token j h l = let z : n - 1 - (n - 1 - j) ≡ j = omega arith in at-is (n - 1 - j) l ∙ ap Some z

      go : (r : Option ℕ) → MatchOption r ((p.whole ≡ true) × NoItemPasses p g f) (EndsAtFirstPassing p g f) → MatchOption r (0 ≡ last_part rows n) (λ i. (i + 1 ≡ last_part rows n) × (i < n))
      go None c = last-none (λ j h. sym (k j false f (subst (λ o. IfSome o (λ x. CalledAt g f x false f)) (at-token j h (omega (arith, d.1 c.0))) (c.1 keeps (n - 1 - j)))))
      go (Some x) c =
          let t = c.3 keeps in
          let i : x ≡ n - 1 - c.0 = ap (λ o. unwrap_or o 0) (sym c.2 ∙ at-is c.0 (omega (arith, c.1))) in
          let h : x < n = omega (arith, i, d.0, c.1) in (
            last-comma x h (sym (k x true f t.0)) (λ j a b. sym (k j false f (subst (λ o. IsSomeAnd o (λ y. CalledAt g f y false f)) (at-token j b (omega (arith, c.1, i))) (t.1 (n - 1 - j) (omega (arith, i)))))),
            h,
          )

  -- so the number that is made of it is that of the last part
  pub run-told : {Q : ℕ → Type 0} (r : Option ℕ) (v : ℕ) → ((i : ℕ) → Q i → v ≡ i + 1) → MatchOption r (v ≡ 0) Q
      → MatchOption r (0 ≡ last_part rows n) (λ i. (i + 1 ≡ last_part rows n) × (i < n)) → (v ≡ last_part rows n) × (v ≤ n)
  run-told None v k a b = (a ∙ b, omega arith)
  run-told (Some i) v k a b = (k i a ∙ b.0, omega (arith, k i a, b.1))

-- ---- `parse_background_color`: the colour behind the last comma
module _ (rows store : List ℕ) (i : ℕ) (h : i ≤ token_count rows) where
  -- the colour of the rows that are lent is that of what stands behind the last comma
  pub background : i ≡ last_part rows (token_count rows) → (x : Option ℕ)
      → (let t = take (length rows - i * token_width) (drop (i * token_width) rows) in x ≡ colour_answer (colour_of (tokens_at t store (token_count t))))
      → x ≡ colour_answer (background_of (tokens_at rows store (token_count rows)))
  unfolding background_of
  background e x ex =
      let n = token_count rows in
      let all = tokens_at rows store n in
      let p = ap (λ l. tokens_at l store (token_count l)) (rest rows (i * token_width)) ∙ ap (tokens_at (drop (i * token_width) rows) store) (count-rest rows i h) ∙ tokens-rest rows store i n h in
      ex ∙ ap (λ ks. colour_answer (colour_of ks)) (p ∙ ap (λ j. drop j all) e ∙ last-part rows store n)
