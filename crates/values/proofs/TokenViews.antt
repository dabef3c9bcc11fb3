-- What the code reads off a token's row: its kind, its texts, and the rows behind it.
use mathlib.Core.Path.{◌≡◌, refl, sym, ap, ◌∙◌}
use mathlib.Core.Bool.{Bool, true, false}
use mathlib.Core.List.{List, [], ◌∷◌}
use Prim.Native.Nat.{ℕ, zero, suc, ◌+◌, ◌-◌, ◌*◌, ◌<◌, ◌≤◌}
use native.Mathlib.Omega.{arith}
use lib.Dec.{eqb}
use lib.ListN.{length, get_or, take, drop, length-drop}
use lib.Pointwise.{pointwise}
use lib.Seq.{get_or-drop, get_or-take, length-take-le, drop-drop}
use Rattle.combinators.specs.Choice.{pick, is}
use Rattle.combinators.specs.Word.{same_text}
use Rattle.combinators.specs.Part.{part}
use Rattle.combinators.proofs.Rules.{never, pick-holds, is-yes, is_true, same_test, and-gives, and-gives-false, told}
use Rattle.lexer.specs.Token.{Token, delim, text_of}
use Rattle.lexer.specs.TokenRow.{token_width, kind_column, start_column, first_column, second_column, ident_kind, function_kind, hash_kind, string_kind, bad_string_kind, delim_kind, number_kind, dimension_kind, percentage_kind, cdo_kind, cdc_kind, colon_kind, semicolon_kind, comma_kind, open_square_kind, close_square_kind, open_round_kind, close_round_kind, open_brace_kind, close_brace_kind, columns_of, mark_from, token_from, token_in}
use Rattle.lexer.specs.declared.tokens.Token as lexer
use Rattle.lexer.specs.declared.tokens.Token.TheVariants as code
use Rattle.syntax.specs.Stream.{read_many}
use Rattle.values.specs.Words.{is_word, is_delim}
use Rattle.values.proofs.TokenKinds.{other_kind, kind_of, number_of, unit_of, is_kind, word-told}
use Rattle.values.proofs.WordLaws.{same_bytes}
use Rattle.values.specs.View.{token_with, read_token, token_here, first_text, second_text, tokens_at, token_count}

-- ---- kinds
-- a token has its kind also with its texts, where it is one that values tell apart
kind-with : (store : List ℕ) (s n : ℕ) → ¬ (n ≡ other_kind) → (k : lexer.Token) → kind_of (token_with store s k) ≡ n → (columns_of k).kind ≡ n
unfolding kind_of token_with columns_of
kind-with store s n d (code.Ident m) e = e
kind-with store s n d (code.Function m) e = e
kind-with store s n d (code.Hash m) e = e
kind-with store s n d (code.String m) e = e
kind-with store s n d (code.Delim c) e = e
kind-with store s n d (code.Number m) e = e
kind-with store s n d (code.Dimension m l) e = e
kind-with store s n d code.Comma e = e
kind-with store s n d code.CloseRound e = e
kind-with store s n d _ e = absurd (d (sym e))

-- the kind that is read is the kind that stands in the row, but for a closing brace, which every other number reads as
module _ (k a b n : ℕ) (d : ¬ (n ≡ close_brace_kind)) where
  abbrev P : lexer.Token → Type 0
  P x = (columns_of x).kind ≡ n → k ≡ n

  -- a kind that is tested to be m is n, where m is
  says : (m : ℕ) → is k m ≡ true → m ≡ n → k ≡ n
  says m e h = is_true k m e ∙ h

  -- a mark that is read with the kind n stands in a row with the kind n
  mark-kind : (columns_of (mark_from k)).kind ≡ n → k ≡ n
  unfolding mark_from columns_of
  mark-kind = (pick-holds P _ _ _ (λ e. says cdo_kind e) (λ _. (pick-holds P _ _ _ (λ e. says cdc_kind e) (λ _. (pick-holds P _ _ _ (λ e. says colon_kind e) (λ _. (pick-holds P _ _ _ (λ e. says semicolon_kind e) (λ _. (pick-holds P _ _ _ (λ e. says comma_kind e) (λ _. (pick-holds P _ _ _ (λ e. says open_square_kind e) (λ _. (pick-holds P _ _ _ (λ e. says close_square_kind e) (λ _. (pick-holds P _ _ _ (λ e. says open_round_kind e) (λ _. (pick-holds P _ _ _ (λ e. says close_round_kind e) (λ _. (pick-holds P _ _ _ (λ e. says open_brace_kind e) (λ _. (λ h. absurd (d (sym h)))))))))))))))))))))))

  -- a token that is read with the kind n stands in a row with the kind n
  from-kind : (columns_of (token_from k a b)).kind ≡ n → k ≡ n
  unfolding token_from columns_of
  from-kind = (pick-holds P _ _ _ (λ e. says ident_kind e) (λ _. (pick-holds P _ _ _ (λ e. says function_kind e) (λ _. (pick-holds P _ _ _ (λ e. says hash_kind e) (λ _. (pick-holds P _ _ _ (λ e. says string_kind e) (λ _. (pick-holds P _ _ _ (λ e. says bad_string_kind e) (λ _. (pick-holds P _ _ _ (λ e. says delim_kind e) (λ _. (pick-holds P _ _ _ (λ e. says number_kind e) (λ _. (pick-holds P _ _ _ (λ e. says dimension_kind e) (λ _. (pick-holds P _ _ _ (λ e. says percentage_kind e) (λ _. mark-kind))))))))))))))))))

-- a kind that is read as what it is
pub record Kind (n : ℕ) : Type 0 where
  pub told : ¬ (n ≡ other_kind)
  pub other : ¬ (n ≡ close_brace_kind)
  pub same : (store : List ℕ) (s a b : ℕ) → kind_of (token_with store s (token_from n a b)) ≡ n

-- and of a token that has one text
pub record OneText (n : ℕ) : Type 0 where
  pub kind : Kind n
  pub text : (store : List ℕ) (s a b : ℕ) → text_of (token_with store s (token_from n a b)) ≡ part store s a

-- a name has its kind and one text, its characters
abbrev pub ident-text : OneText ident_kind
unfolding token_from kind_of token_with text_of pick is
ident-text = record { kind = record { told = λ e. omega arith; other = λ e. omega arith; same = λ store s a b. refl }; text = λ store s a b. refl }

-- a function has its kind and one text, its name
abbrev pub function-text : OneText function_kind
unfolding token_from kind_of token_with text_of pick is
function-text = record { kind = record { told = λ e. omega arith; other = λ e. omega arith; same = λ store s a b. refl }; text = λ store s a b. refl }

-- a hash has its kind and one text, what stands behind the '#'
abbrev pub hash-text : OneText hash_kind
unfolding token_from kind_of token_with text_of pick is
hash-text = record { kind = record { told = λ e. omega arith; other = λ e. omega arith; same = λ store s a b. refl }; text = λ store s a b. refl }

-- a string has its kind and one text, its characters
abbrev pub string-text : OneText string_kind
unfolding token_from kind_of token_with text_of pick is
string-text = record { kind = record { told = λ e. omega arith; other = λ e. omega arith; same = λ store s a b. refl }; text = λ store s a b. refl }

-- a number has its kind and one text, as it is written
abbrev pub number-text : OneText number_kind
unfolding token_from kind_of token_with text_of pick is
number-text = record { kind = record { told = λ e. omega arith; other = λ e. omega arith; same = λ store s a b. refl }; text = λ store s a b. refl }

-- the kind of dimensions is read as what it is
pub dimension-kind : Kind dimension_kind
unfolding token_from kind_of token_with pick is
dimension-kind = record { told = λ e. omega arith; other = λ e. omega arith; same = λ store s a b. refl }

-- the kind of delimiters is read as what it is
pub delim-kind : Kind delim_kind
unfolding token_from kind_of token_with pick is
delim-kind = record { told = λ e. omega arith; other = λ e. omega arith; same = λ store s a b. refl }

-- the kind of commas is read as what it is
pub comma-kind : Kind comma_kind
unfolding token_from mark_from kind_of token_with pick is
comma-kind = record { told = λ e. omega arith; other = λ e. omega arith; same = λ store s a b. refl }

-- the kind of closing round brackets is read as what it is
pub close-round-kind : Kind close_round_kind
unfolding token_from mark_from kind_of token_with pick is
close-round-kind = record { told = λ e. omega arith; other = λ e. omega arith; same = λ store s a b. refl }

-- a token of another kind is no delimiter
other-kind : (c : ℕ) (k : Token) → is_kind delim_kind k ≡ false → is_delim c k ≡ false
unfolding is_kind kind_of is is_delim
other-kind c (delim d) e = never (sym e)
other-kind c _ e = refl

-- ---- the token whose row starts at p
module _ (rows store : List ℕ) (p : ℕ) where
  -- the numbers in its row
  abbrev kind : ℕ
  kind = get_or rows (p + kind_column) 0

  abbrev start : ℕ
  start = get_or rows (p + start_column) 0

  abbrev first : ℕ
  first = get_or rows (p + first_column) 0

  abbrev second : ℕ
  second = get_or rows (p + second_column) 0

  -- the token that starts at p is made of the four numbers in its row, and of its texts
  here : token_here rows store p ≡ token_with store start (token_from kind first second)
  unfolding token_here read_token token_in
  here = rw (get_or-drop p rows kind_column 0, get_or-drop p rows start_column 0, get_or-drop p rows first_column 0, get_or-drop p rows second_column 0)

  -- where its kind is known
  here-as : (n : ℕ) → is kind n ≡ true → token_here rows store p ≡ token_with store start (token_from n first second)
  here-as n e = here ∙ ap (λ m. token_with store start (token_from m first second)) (is_true kind n e)

  -- the test of its kind is that of the number in its row
  pub here-kind : (n : ℕ) → Kind n → is_kind n (token_here rows store p) ≡ is kind n
  unfolding is_kind
  here-kind n q =
      same_test _ _ (λ e. is-yes kind n (from-kind kind first second n q.other (kind-with store start n q.told _ (ap kind_of (sym here) ∙ is_true _ n e))))
      (λ e. is-yes _ n (ap kind_of (here-as n e) ∙ q.same store start first second))

  -- so is what the code was told of it
  pub kind-told : (n : ℕ) → Kind n → (r v : Bool) → r ≡ is kind n → r ≡ v → is_kind n (token_here rows store p) ≡ v
  kind-told n q r v er h = here-kind n q ∙ told _ _ _ er h

  -- its text, where it has one
  pub here-text : (n : ℕ) → OneText n → is kind n ≡ true → text_of (token_here rows store p) ≡ first_text rows store p
  unfolding first_text
  here-text n q e = ap text_of (here-as n e) ∙ q.text store start first second

  -- a dimension's number and unit
  pub here-number : is kind dimension_kind ≡ true → number_of (token_here rows store p) ≡ first_text rows store p
  unfolding first_text number_of token_with token_from pick is
  here-number e = ap number_of (here-as dimension_kind e)

  -- a dimension's unit lies behind its number
  pub here-unit : is kind dimension_kind ≡ true → unit_of (token_here rows store p) ≡ second_text rows store p
  unfolding second_text unit_of token_with token_from pick is
  here-unit e = ap unit_of (here-as dimension_kind e)

  -- a delimiter is the number in its row
  here-delim : (c : ℕ) → is kind delim_kind ≡ true → is_delim c (token_here rows store p) ≡ is first c
  unfolding is_delim token_with token_from pick is
  here-delim c e = ap (is_delim c) (here-as delim_kind e)

  -- the tests of a delimiter c, as the code makes them
  module _ (c : ℕ) (d : Bool) (ed : d ≡ is kind delim_kind) where
    -- no delimiter is not c
    pub no-delim : d ≡ false → d ≡ is_delim c (token_here rows store p)
    no-delim e = e ∙ sym (other-kind c _ (kind-told delim_kind delim-kind d false ed e))

    -- the number in a delimiter's row decides
    pub delim-by-number : d ≡ true → (x : ℕ) → x ≡ first → is x c ≡ is_delim c (token_here rows store p)
    delim-by-number e x ex = ap (λ n. is n c) ex ∙ sym (here-delim c (told _ _ _ ed e))

  -- the tests of a name w, as the code makes them
  module _ (w : List ℕ) (i : Bool) (ei : i ≡ is kind ident_kind) where
    -- no name is not w
    pub no-word : i ≡ false → i ≡ is_word w (token_here rows store p)
    no-word e = e ∙ and-gives-false _ _ (kind-told ident_kind ident-text.kind i false ei e) ∙ sym (word-told w _)

    -- a name's text decides
    pub word-by-text : i ≡ true → (t : List ℕ) → t ≡ first_text rows store p → (r : Bool) → r ≡ pointwise eqb t w → r ≡ is_word w (token_here rows store p)
    word-by-text e t et r er =
        and-gives _ _ _ (kind-told ident_kind ident-text.kind i true ei e)
        (er ∙ same_bytes t w ∙ ap (λ u. same_text u w) (et ∙ sym (here-text ident_kind ident-text (told _ _ _ ei e)))) ∙ sym (word-told w _)

  -- the code cuts its text from the store by two numbers of its row
  pub text-cut : (s n : ℕ) → s ≡ start → n ≡ first → (t : List ℕ) → t ≡ part store s n → t ≡ first_text rows store p
  unfolding first_text
  text-cut s n es en t e = e ∙ ap (λ x. part store x n) es ∙ ap (part store start) en

  -- and a dimension's unit by three
  pub unit-cut : (s n m : ℕ) → s ≡ start → n ≡ first → m ≡ second → (t : List ℕ) → t ≡ part store (s + n) m → t ≡ second_text rows store p
  unfolding second_text
  unit-cut s n m es en em t e = e ∙ ap (λ x. part store (x + n) m) es ∙ ap (λ x. part store (start + x) m) en ∙ ap (part store (start + first)) em

  -- the tokens from p on: this one, and those behind its row
  pub tokens-here : (n : ℕ) → tokens_at (drop p rows) store (suc n) ≡ token_here rows store p ∷ tokens_at (drop (p + token_width) rows) store n
  unfolding tokens_at read_many token_here read_token
  tokens-here n = rw (drop-drop token_width p rows)

-- no rows are no tokens
pub tokens_none : (rows store : List ℕ) → tokens_at rows store 0 ≡ []
unfolding tokens_at read_many
tokens_none rows store = refl

-- the tokens from the i-th on are this one and those behind it
pub next-token : (rows store : List ℕ) (n i : ℕ) → i < n
    → tokens_at (drop (i * token_width) rows) store (n - i)
    ≡ token_here rows store (i * token_width) ∷ tokens_at (drop ((i + 1) * token_width) rows) store (n - (i + 1))
next-token rows store n i h =
    let left : n - i ≡ suc (n - (i + 1)) = omega arith in
    let at : i * token_width + token_width ≡ (i + 1) * token_width = omega arith in
    rw left (tokens-here rows store (i * token_width) (n - (i + 1)) ∙ ap (λ p. token_here rows store (i * token_width) ∷ tokens_at (drop p rows) store (n - (i + 1))) at)

-- behind the last there are none
pub no-token : (rows store : List ℕ) (n i : ℕ) → n ≤ i → tokens_at (drop (i * token_width) rows) store (n - i) ≡ []
no-token rows store n i h = let left : n - i ≡ 0 = omega arith in rw left (tokens_none _ store)

-- the rows of as many tokens as are counted are there
pub counted : (rows : List ℕ) → token_count rows * token_width ≤ length rows
unfolding token_count
counted rows = omega arith

-- behind the rows of the first i tokens there are i fewer
pub count-rest : (rows : List ℕ) (i : ℕ) → i ≤ token_count rows → token_count (drop (i * token_width) rows) ≡ token_count rows - i
unfolding token_count
count-rest rows i h = omega (arith, length-drop (i * token_width) rows)

-- ---- rows cut to those of so many tokens
-- they hold so many
pub count-cut : (rows : List ℕ) (n : ℕ) → token_width * n ≤ length rows → token_count (take (token_width * n) rows) ≡ n
unfolding token_count
count-cut rows n h = omega (arith, length-take-le (token_width * n) rows h)

-- a token before the cut is the same
here-cut : (rows store : List ℕ) (m p : ℕ) → p + token_width ≤ m → token_here (take m rows) store p ≡ token_here rows store p
here-cut rows store m p h =
    here (take m rows) store p
    ∙ rw
    (get_or-take m rows (p + kind_column) 0 (omega arith), get_or-take m rows (p + start_column) 0 (omega arith), get_or-take m rows (p + first_column) 0 (omega arith), get_or-take m rows (p + second_column) 0 (omega arith))
    (sym (here rows store p))

-- so are all from p on
from-cut : (rows store : List ℕ) (n p m : ℕ) → p + token_width * n ≤ m → tokens_at (drop p (take m rows)) store n ≡ tokens_at (drop p rows) store n
from-cut rows store zero p m h = tokens_none _ store ∙ sym (tokens_none _ store)
from-cut rows store (suc n) p m h =
    tokens-here (take m rows) store p n ∙ rw (here-cut rows store m p (omega arith), from-cut rows store n (p + token_width) m (omega arith)) (sym (tokens-here rows store p n))

-- and so all of them
pub tokens-cut : (rows store : List ℕ) (n : ℕ) → token_width * n ≤ length rows
    → tokens_at (take (token_width * n) rows) store (token_count (take (token_width * n) rows)) ≡ tokens_at rows store n
tokens-cut rows store n h = rw (count-cut rows n h) (from-cut rows store n 0 (token_width * n) (omega arith))
