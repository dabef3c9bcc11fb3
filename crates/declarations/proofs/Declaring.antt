-- `parse_declaration`: what is left in the stores, from what its parts left.
use mathlib.Core.Path.{subst, ◌≡◌, refl, sym, ap, ◌∙◌}
use mathlib.Core.Bool.{Bool, true, false}
use mathlib.Core.List.{List, [], ◌++◌, append_assoc, append-nil}
use mathlib.Core.Logic.{⊎_elim}
use Prim.Native.Nat.{ℕ, ◌+◌, ◌-◌, ◌*◌, ◌^◌, ◌≤◌, ◌<◌}
use native.Mathlib.Nat.{add-zero}
use native.Mathlib.Omega.{arith}
use lib.ListN.{length, take, drop, length-append, length-drop}
use lib.Seq.{sets, length-sets}
use Rattle.combinators.specs.Choice.{pick, or, is}
use Rattle.combinators.specs.Parsed.{Parsed, ok, err, on_parsed}
use Rattle.combinators.specs.Store.{wiped}
use Rattle.combinators.specs.Part.{part}
use Rattle.combinators.proofs.Lists.{rest}
use Rattle.combinators.proofs.Rules.{pick-holds, lt-or-ge}
use Rattle.combinators.proofs.Wiped.{wiped-none, wiped-over}
use Rattle.lexer.specs.Name.{ident_of, name_text}
use Rattle.lexer.specs.Token.{Token, text_of}
use Rattle.lexer.specs.TokenRow.{token_width}
use Rattle.lexer.specs.Whitespace.{skip_whitespace}
use Rattle.lexer.proofs.Comments.{skip-le}
use Rattle.lexer.proofs.NameAnswers.{NameRead}
use Rattle.syntax.specs.Declaration.{visible, hidden, scroll, auto, normal, pre, pre_wrap, Decl, color, background_color, height, max_height, overflow, overflow_y, display, white_space, content, visibility, unknown, Declaration}
use Rattle.syntax.specs.Layout.{flag, overflow_number, white_space_number, decl_text, declaration_text, decl_row, declaration_row, declaration_rows, declaration_texts}
use Rattle.syntax.specs.Stream.{texts_many, rows_many}
use Rattle.syntax.proofs.Streams.{Held, held-part, sets-held}
use Rattle.values.specs.Value.{Statement, statement_of, tokens_of, marked, value_from, value_of}
use Rattle.values.specs.Layout.{rows_of, texts_of, brackets_after, left, ValueLeft, value_answer, value_left, Room}
use Rattle.values.specs.View.{tokens_at}
use Rattle.values.specs.Property.{decl_of}
use Rattle.values.specs.DeclAnswer.{decl_answer, text_length, kind_of, value_number, numbers_of}
use Rattle.values.specs.KeywordAnswer.{overflow_word, overflow_meant, white_space_word, white_space_meant}
use Rattle.std.specs.Prelude.{Option, Some, None, Result, Ok, Err}
use Rattle.values.specs.declared.statements.Unbalanced.{Unbalanced}
use Rattle.values.specs.declared.statements.Value as value
use Rattle.values.proofs.DeclLaws.{Textless, decl-text, decl-length}
use Rattle.values.proofs.Sizes.{Sized, statement-sized, rows_long}
use Rattle.values.proofs.ValueLaws.{rows-room, texts-room, texts-bits}
use Rattle.values.proofs.Views.{statement-back}
use Rattle.values.proofs.Unmarked.{tokens-count, tokens-unmarked, texts-same, Begins, texts-begin, wiped-inner, part_apart, brackets-wiped}
use Rattle.declarations.specs.Rules.{property_of, value_behind, declaration_of}
use Rattle.declarations.specs.DeclRow.{named_decl, shift, kept_text, row_value, row_by}
use Rattle.declarations.specs.Leaving.{kept, kept_of, Used, used_by, text_kept, Leaves, leaves, property_answer, declaration_answer, declaration_left, PutRoom, decl_said, Put, PropertyRead, RulesRoom}
use Rattle.declarations.specs.declared.rules.PropertyHead.{PropertyHead}
use Rattle.declarations.specs.declared.rules.NoProperty.{NoProperty}
use Rattle.declarations.specs.declared.rules.DeclarationRead.{DeclarationRead}
use Rattle.declarations.proofs.PropertyLaws.{Headed, headed}

-- a store that holds a text holds what it begins with
held-begin : (l : List ℕ) (f : ℕ) (xs ys : List ℕ) → Begins xs ys → Held l f xs → Held l f ys
held-begin l f xs ys b h = record { more = b.more ++ h.more; held = h.held ∙ ap (λ q. q ++ h.more) b.whole ∙ append_assoc ys b.more h.more }

-- ---- a declaration's row and text
-- its row, from the code's numbers
row_is : (i s f : ℕ) (d : Decl) → row_by i s f (numbers_of (decl_answer d)) ≡ decl_row i s f d
unfolding row_by row_value numbers_of kind_of value_number text_length decl_answer decl_row overflow_word overflow_meant overflow_number white_space_word white_space_meant white_space_number pick or is
row_is i s f (color c) = refl
row_is i s f (background_color c) = refl
row_is i s f (height z) = refl
row_is i s f (max_height z) = refl
row_is i s f (overflow visible) = refl
row_is i s f (overflow hidden) = refl
row_is i s f (overflow scroll) = refl
row_is i s f (overflow auto) = refl
row_is i s f (overflow_y visible) = refl
row_is i s f (overflow_y hidden) = refl
row_is i s f (overflow_y scroll) = refl
row_is i s f (overflow_y auto) = refl
row_is i s f (display n) = refl
row_is i s f (white_space normal) = refl
row_is i s f (white_space pre) = refl
row_is i s f (white_space pre_wrap) = refl
row_is i s f (content t) = refl
row_is i s f (visibility z) = refl
row_is i s f (unknown t) = refl

-- one without a text has none, with names or without
named-textless : (names : Bool) (d : Decl) → Textless d → decl_text (named_decl names d) ≡ []
unfolding named_decl decl_text pick
named-textless names (color c) h = refl
named-textless names (background_color c) h = refl
named-textless names (height z) h = refl
named-textless names (max_height z) h = refl
named-textless names (overflow o) h = refl
named-textless names (overflow_y o) h = refl
named-textless names (display n) h = refl
named-textless names (white_space w) h = refl
named-textless names (content t) h = h.none
named-textless names (visibility z) h = refl
named-textless true (unknown t) h = h.none
named-textless false (unknown t) h = refl

-- the text that the store holds: a name of n bytes at f, and behind it the texts of the value's tokens
module _ (names : Bool) (z : List ℕ) (f n : ℕ) (name : List ℕ) (en : part z f n ≡ name) (long : length name ≡ n) (ks : List Token)
    (ht : Held z (f + n) (texts_many text_of ks)) where
  abbrev Keeps : Decl → Type 0
  Keeps d = kept_text (numbers_of (decl_answer (named_decl names d))) z f n ≡ decl_text (named_decl names d)

  -- a declaration without a text keeps none
  keeps-none : (d : Decl) → decl_text (named_decl names d) ≡ [] → Keeps d
  unfolding kept_text numbers_of part
  keeps-none d e = let l = decl-length (named_decl names d) ∙ ap length e in rw (l, e)

  -- an unknown declaration keeps its name where names are asked for, and else no text
  keeps-unknown : (b : Bool) → names ≡ b → Keeps (unknown name)
  unfolding kept_text shift numbers_of kind_of decl_answer text_length named_decl decl_text pick is part
  keeps-unknown true e = rw (e, long, add-zero f) en
  keeps-unknown false e = rw e

  -- a content keeps the texts of the value's tokens, which lie behind the name
  keeps-content : Keeps (content (texts_many text_of ks))
  unfolding kept_text shift numbers_of kind_of decl_answer text_length named_decl decl_text pick is
  keeps-content = held-part z (f + n) (texts_many text_of ks) ht

  -- whatever a name and tokens declare, the store keeps the declaration's text
  keeps-text : Keeps (decl_of name ks)
  keeps-text = decl-text Keeps name ks (λ d h. keeps-none d (named-textless names d h)) (keeps-unknown names refl) keeps-content

-- ---- the meaning, where the property was read
module _ (s : List ℕ) (v : ℕ) (name : List ℕ) (e : property_of s ≡ ok v name) where
  abbrev r : Statement
  r = statement_of false (drop v s)

  -- with the property read, what is used is the tokens of the value, the bytes of the name and of the tokens' texts
  used-is : used_by s ≡ record { tokens = length r.tokens; bytes = length name + length (texts_of r.tokens) }
  unfolding used_by on_parsed
  used-is = rw e

  -- a value with a wrong bracket makes no declaration
  declaration-err : r.balanced ≡ false → declaration_of s ≡ err
  unfolding declaration_of value_behind value_of value_from on_parsed pick
  declaration-err h = rw (e, h)

  -- a value with right brackets makes a declaration of its tokens without the mark, important where the mark is there
  declaration-ok : r.balanced ≡ true → declaration_of s ≡ ok (v + r.taken)
      (record { decl = decl_of name (marked (tokens_of r.tokens)).tokens; important = (marked (tokens_of r.tokens)).important; start = skip_whitespace s })
  unfolding declaration_of value_behind value_of value_from on_parsed pick
  declaration-ok h = rw (e, h)

-- ---- what is left
module _ (names : Bool) (at : ℕ) (s rules : List ℕ) (place : ℕ) (tokens brackets store : List ℕ) (fill : ℕ) (u : Used) (eu : used_by s ≡ u) where
  -- where no declaration reads, all that was used is wiped, and nothing else changes
  left-err : declaration_of s ≡ err → (x b z : List ℕ) → x ≡ wiped 0 (token_width * u.tokens) tokens → b ≡ wiped 0 u.tokens brackets → z ≡ wiped fill u.bytes store
      → record { answer = None; rules = rules; tokens = x; brackets = b; store = z } ≡ declaration_left names at s rules place tokens brackets store fill
  unfolding declaration_left leaves declaration_answer kept_of on_parsed declaration_rows declaration_texts rows_many texts_many
  left-err e x b z ex eb ez = rw (e, eu, ex, eb, ez)

  -- where d reads, its row and its text are left, and the rest that was used is wiped
  left-ok : (n : ℕ) (d : Declaration) → declaration_of s ≡ ok n d → (k : ℕ) → k ≡ text_kept names d → (y x b z : List ℕ) → y ≡ sets rules place (declaration_row fill (kept names at d))
      → x ≡ wiped 0 (token_width * u.tokens) tokens → b ≡ wiped 0 u.tokens brackets → z ≡ sets (wiped fill u.bytes store) fill (declaration_text (kept names at d))
      → record { answer = Some (record { taken = n; text = k }); rules = y; tokens = x; brackets = b; store = z } ≡ declaration_left names at s rules place tokens brackets store fill
  unfolding declaration_left leaves declaration_answer kept_of on_parsed declaration_rows declaration_texts rows_many texts_many
  left-ok n d e k ek y x b z ey ex eb ez =
      rw (e, eu, ek, ey, ex, eb, ez, append-nil (declaration_row fill (kept names at d)), append-nil (declaration_text (kept names at d)))

-- ---- what the answer of `parse_value` says
pub record Valued (r : Statement) (n k m : ℕ) (i : Bool) : Type 0 where
  pub balanced : r.balanced ≡ true
  pub taken : n ≡ r.taken
  pub count : k ≡ length r.tokens
  pub text : m ≡ length (texts_of r.tokens)
  pub important : i ≡ (marked (tokens_of r.tokens)).important

-- an answer with a value comes of right brackets alone, and says the statement's bytes, tokens, length of text and mark
valued : (r : Statement) (n : value.Value) → Ok n ≡ value_answer r → Valued r n.statement.taken n.statement.count n.statement.text n.important
unfolding value_answer
valued r n e = go r.balanced refl e
  where
    go : (b : Bool) → r.balanced ≡ b → ◌≡◌ {A = Result value.Value Unbalanced} (Ok n) (pick b (Ok (record { statement = record { taken = r.taken; count = length r.tokens; text = length (texts_of r.tokens) }; important = (marked (tokens_of r.tokens)).important })) (Err (record { 0 = record { taken = r.taken; count = length r.tokens; text = length (texts_of r.tokens) } }))) → Valued r n.statement.taken n.statement.count n.statement.text n.important
    go true h e =
        unfold pick in
        let q : n ≡ record { statement = record { taken = r.taken; count = length r.tokens; text = length (texts_of r.tokens) }; important = (marked (tokens_of r.tokens)).important } = cc in
        record {
          balanced = h;
          taken = ap (λ (m : value.Value). m.statement.taken) q;
          count = ap (λ (m : value.Value). m.statement.count) q;
          text = ap (λ (m : value.Value). m.statement.text) q;
          important = ap (λ (m : value.Value). m.important) q;
        }
    go false h e = unfold pick in absurd (cc)

pub record Unvalued (r : Statement) (k m : ℕ) : Type 0 where
  pub balanced : r.balanced ≡ false
  pub count : k ≡ length r.tokens
  pub text : m ≡ length (texts_of r.tokens)

-- an answer without a value comes of a wrong bracket alone, and says how many tokens were read, and how long their texts are
unvalued : (r : Statement) (n : Unbalanced) → Err n ≡ value_answer r → Unvalued r n.0.count n.0.text
unfolding value_answer
unvalued r n e = go r.balanced refl e
  where
    go : (b : Bool) → r.balanced ≡ b → ◌≡◌ {A = Result value.Value Unbalanced} (Err n) (pick b (Ok (record { statement = record { taken = r.taken; count = length r.tokens; text = length (texts_of r.tokens) }; important = (marked (tokens_of r.tokens)).important })) (Err (record { 0 = record { taken = r.taken; count = length r.tokens; text = length (texts_of r.tokens) } }))) → Unvalued r n.0.count n.0.text
    go true h e = unfold pick in absurd (cc)
    go false h e =
        unfold pick in
        let q : n ≡ record { 0 = record { taken = r.taken; count = length r.tokens; text = length (texts_of r.tokens) } } = cc in
        record { balanced = h; count = ap (λ (m : Unbalanced). m.0.count) q; text = ap (λ (m : Unbalanced). m.0.text) q }

-- ---- what `parse_value` left of a text
module _ (s tokens brackets store : List ℕ) (fill : ℕ) {a : Result value.Value Unbalanced} {x b z : List ℕ}
    (e : record { answer = a; rows = x; brackets = b; store = z } ≡ value_left (statement_of false s) tokens brackets store fill) where
  abbrev stated : Statement
  stated = statement_of false s

  -- its answer and its stores
  answer-is : a ≡ value_answer stated
  unfolding value_left
  answer-is = ap (λ (l : ValueLeft). l.answer) e

  -- the rows of the value's tokens stand at the start of the token store
  tokens-are : x ≡ sets tokens 0 (rows_of fill stated.tokens)
  unfolding value_left left
  tokens-are = ap (λ (l : ValueLeft). l.rows) e

  -- the store of brackets is as the tokens leave it
  brackets-are : b ≡ brackets_after stated.tokens brackets 0
  unfolding value_left left
  brackets-are = ap (λ (l : ValueLeft). l.brackets) e

  -- the texts of the value's tokens stand from the fill on
  pub store_is : z ≡ sets store fill (texts_of stated.tokens)
  unfolding value_left left
  store_is = ap (λ (l : ValueLeft). l.store) e

  -- the answer's numbers, where a bracket is wrong
  pub none_said : {u k m : ℕ} → a ≡ Err (record { 0 = record { taken = u; count = k; text = m } }) → Unvalued stated k m
  none_said ea = unvalued stated _ (sym ea ∙ answer-is)

  -- an answer with a value says that the brackets are right, and has the value's numbers
  pub some-said : {t k m : ℕ} {i : Bool} → a ≡ Ok (record { statement = record { taken = t; count = k; text = m }; important = i }) → Valued stated t k m i
  some-said ea = valued stated _ (sym ea ∙ answer-is)

  module _ {k : ℕ} (ek : k ≡ length stated.tokens) where
    -- wiping the rows that were written leaves the store wiped by the value's rows
    pub tokens-wiped : {x' : List ℕ} → x' ≡ wiped 0 (token_width * k) x → x' ≡ wiped 0 (token_width * length stated.tokens) tokens
    tokens-wiped q =
        q ∙ rw (ek, tokens-are) (wiped-over tokens 0 (token_width * length stated.tokens) (rows_of fill stated.tokens) (omega (arith, rows_long stated.tokens fill)))

    -- wiping the brackets leaves the store wiped by as many as there are tokens
    pub brackets-zero : {b' : List ℕ} → b' ≡ wiped 0 k b → b' ≡ wiped 0 (length stated.tokens) brackets
    brackets-zero q = q ∙ rw (ek, brackets-are) (brackets-wiped stated.tokens brackets 0 (length stated.tokens) (omega arith))

    module _ (room : Room (length s) fill tokens brackets store) where
      -- the text bounds the tokens
      sized : Sized s 0 stated
      sized = statement-sized false s

      -- so the length of their rows fits a word
      pub count_bits : token_width * k < 2 ^ 64
      count_bits = omega (arith, ek, sized.counted, sized.within, room.bits)

      -- the token rows read back as the value's tokens
      back : tokens_at x z k ≡ tokens_of stated.tokens
      unfolding left
      back =
          rw (tokens-are, store_is, ek)
          (statement-back false s tokens brackets store fill (rows-room false s tokens brackets store fill room) (texts-room false s tokens brackets store fill room)
          (texts-bits false s tokens brackets store fill room))

      module _ {i : Bool} (ei : i ≡ (marked (tokens_of stated.tokens)).important) {j : ℕ} (ej : j ≡ pick i (k - 2) k) where
        -- without the mark they are the first ones
        pub tokens-left : tokens_at x z j ≡ (marked (tokens_of stated.tokens)).tokens
        tokens-left = tokens-unmarked x z k (tokens_of stated.tokens) back (ek ∙ tokens-count stated.tokens) j (ej ∙ ap (λ c. pick c (k - 2) k) ei)

        -- without the mark there are no more tokens than with it
        unmarked-le : j ≤ k
        unmarked-le = rw ej (pick-holds (λ c. c ≤ k) i _ _ (λ _. omega arith) (λ _. omega arith))

        -- the store of rows keeps its length
        tokens-long : length x ≡ length tokens
        tokens-long = ap length tokens-are ∙ length-sets tokens 0 (rows_of fill stated.tokens)

        -- the store holds the rows of the tokens without the mark
        pub left-counted : token_width * j ≤ length x
        left-counted = omega (arith, unmarked-le, tokens-long, ek, sized.counted, sized.within, room.for-tokens)

-- ---- `parse_declared`: the value behind a property that was read
module _ (names : Bool) (at : ℕ) (s rules : List ℕ) (place : ℕ) (tokens brackets store : List ℕ) (fill v n : ℕ)
    (room : RulesRoom s at rules place tokens brackets store fill) (read : PropertyRead s v n store fill) where
  abbrev name : List ℕ
  name = part store fill n

  abbrev value-of : Statement
  value-of = statement_of false (drop v s)

  -- the property that was read takes no more than the text, and its name is shorter than what it takes
  head : Headed s v name
  head = headed s v name read.reads

  -- the value starts within the text
  pub value-within : v ≤ length s
  value-within = head.within

  -- the name is shorter than what the property takes
  name-short : n < v
  name-short = omega (arith, head.short, read.long)

  -- the value's tokens, texts and bytes are within the bounds of the text from v on
  sized-value : Sized (drop v s) 0 value-of
  sized-value = statement-sized false (drop v s)

  -- the stores have room for the value behind the name
  rest-room : Room (length (drop v s)) (fill + n) tokens brackets store
  rest-room =
      let l = length-drop v s in
      let o = room.room in
      let k = name-short in
      let h = value-within in
      record {
        for-tokens = omega (arith, o.for-tokens);
        for-brackets = omega (arith, o.for-brackets);
        for-texts = omega (arith, o.for-texts);
        bits = omega (arith, o.bits);
      }

  -- so has the rest of the text as the code lends it
  pub value_room : Room (length (take (length s - v) (drop v s))) (fill + n) tokens brackets store
  value_room = rw (rest s v) rest-room

  -- the fill behind the name fits a word
  pub fill-fits : fill + n < 2 ^ 64
  fill-fits = omega (arith, name-short, value-within, room.room.bits)

  -- what `parse_value` left: the tokens of the value, and their texts behind the name
  module _ {a : Result value.Value Unbalanced} {x b z : List ℕ}
      (e : record { answer = a; rows = x; brackets = b; store = z } ≡ value_left (statement_of false (take (length s - v) (drop v s))) tokens brackets store (fill + n)) where
    -- what is left is that of the value of the text from v on
    left_is : record { answer = a; rows = x; brackets = b; store = z } ≡ value_left value-of tokens brackets store (fill + n)
    left_is = e ∙ ap (λ t. value_left (statement_of false t) tokens brackets store (fill + n)) (rest s v)

    -- the texts of the value's tokens stand behind the name
    stored : z ≡ sets store (fill + n) (texts_of value-of.tokens)
    stored = store_is (drop v s) tokens brackets store (fill + n) left_is

    -- the texts, wiped again
    module _ {m : ℕ} (em : m ≡ length (texts_of value-of.tokens)) where
      -- the bytes of the name and of the value's texts together fit a word
      text-bits : n + m < 2 ^ 64
      text-bits = omega (arith, em, sized-value.text, length-drop v s, value-within, name-short, room.room.bits)

      -- wiping name and texts leaves the store wiped by all that the declaration used
      store-wiped : wiped fill (n + m) z ≡ wiped fill (length name + length (texts_of value-of.tokens)) store
      store-wiped = rw (em, read.long, stored) (wiped-inner store fill n (length (texts_of value-of.tokens)) (texts_of value-of.tokens) (omega arith))

    -- a bracket is wrong
    module _ {o k m : ℕ} (ea : a ≡ Err (record { 0 = record { taken = o; count = k; text = m } })) where
      -- the answer's numbers are the counts of a value with a wrong bracket
      none_here : Unvalued value-of k m
      none_here = none_said (drop v s) tokens brackets store (fill + n) left_is ea

      -- the numbers of the rows to be wiped, where a bracket is wrong, fit a word
      pub none-count : token_width * k < 2 ^ 64
      none-count = count_bits (drop v s) tokens brackets store (fill + n) left_is none_here.count rest-room

      -- the bytes of text to be wiped, where a bracket is wrong, fit a word
      pub none-text : n + m < 2 ^ 64
      none-text = text-bits none_here.text

      -- the return where a bracket is wrong: no declaration, and all that was used is wiped
      pub none_left : {y x' b' z' : List ℕ} → y ≡ rules → x' ≡ wiped 0 (token_width * k) x → b' ≡ wiped 0 k b → z' ≡ wiped fill (n + m) z
          → record { answer = None; rules = y; tokens = x'; brackets = b'; store = z' } ≡ declaration_left names at s rules place tokens brackets store fill
      none_left {y} {x'} {b'} {z'} ey ex eb ez =
          let u = none_here in
          rw ey (left-err names at s rules place tokens brackets store fill _ (used-is s v name read.reads) (declaration-err s v name read.reads u.balanced) x' b' z'
          (tokens-wiped (drop v s) tokens brackets store (fill + n) left_is u.count ex)
          (brackets-zero (drop v s) tokens brackets store (fill + n) left_is u.count eb) (ez ∙ store-wiped u.text))

    -- a value was read, of k tokens and m bytes of text
    module _ {t k m : ℕ} {i : Bool} (ea : a ≡ Ok (record { statement = record { taken = t; count = k; text = m }; important = i })) where
      -- the answer's numbers are those of a value with right brackets
      some-here : Valued value-of t k m i
      some-here = some-said (drop v s) tokens brackets store (fill + n) left_is ea

      -- the numbers of the rows to be wiped, where a value was read, fit a word
      pub some-count : token_width * k < 2 ^ 64
      some-count = count_bits (drop v s) tokens brackets store (fill + n) left_is some-here.count rest-room

      -- the bytes that property and value take together fit a word
      pub some-taken : v + t < 2 ^ 64
      some-taken = omega (arith, some-here.taken, sized-value.within, length-drop v s, value-within, room.room.bits)

      -- its tokens, without the mark
      abbrev ks : List Token
      ks = (marked (tokens_of value-of.tokens)).tokens

      module _ {j : ℕ} (ej : j ≡ pick i (k - 2) k) where
        -- the token rows without the mark read back as the value's tokens without it
        tokens-read : tokens_at x z j ≡ ks
        tokens-read = tokens-left (drop v s) tokens brackets store (fill + n) left_is some-here.count rest-room some-here.important ej

        -- their texts are the first of the value's
        begins : Begins (texts_of value-of.tokens) (texts_many text_of ks)
        begins = rw (texts-same value-of.tokens) at (texts-begin (tokens_of value-of.tokens))

        -- their texts are no longer than those of all the value's tokens
        texts-le : length (texts_many text_of ks) ≤ m
        texts-le = omega (arith, some-here.text, ap length begins.whole, length-append (texts_many text_of ks) begins.more)

        -- the text store is as long as it was
        store_long : length z ≡ length store
        store_long = ap length stored ∙ length-sets store (fill + n) (texts_of value-of.tokens)

        -- the texts of the value's tokens lie within the store
        texts-inside : fill + n + length (texts_of value-of.tokens) ≤ length store
        texts-inside = texts-room false (drop v s) tokens brackets store (fill + n) rest-room

        -- the start is behind white space
        module _ {w : ℕ} (ew : w ≡ skip_whitespace s) where
          -- the stores have the room that putting the declaration down asks for
          pub put-room : PutRoom (at + w) x j z fill n m
          put-room =
              record {
                for-tokens = left-counted (drop v s) tokens brackets store (fill + n) left_is some-here.count rest-room some-here.important ej;
                texts = omega (arith, ap (λ (l : List Token). length (texts_many text_of l)) tokens-read, texts-le);
                inside = omega (arith, store_long, some-here.text, texts-inside);
                bits = omega (arith, some-here.text, texts-bits false (drop v s) tokens brackets store (fill + n) rest-room);
                start-bits = omega (arith, ew, skip-le s, room.start-bits);
              }

          -- the declaration, and what the stores say
          abbrev decl : Decl
          decl = decl_of name ks

          abbrev declaration : Declaration
          declaration = record { decl = decl; important = (marked (tokens_of value-of.tokens)).important; start = skip_whitespace s }

          -- the name still lies at the fill, before the texts
          name-is : part z fill n ≡ name
          name-is = rw stored (part_apart store fill n (texts_of value-of.tokens))

          -- what the stores say is the declaration of the name and the value's tokens
          said-is : decl_said names x j z fill n ≡ decl_answer (named_decl names decl)
          unfolding decl_said
          said-is = rw (name-is, tokens-read)

          -- the store holds their texts behind the name
          held : Held z (fill + n) (texts_many text_of ks)
          held = rw stored (held-begin _ (fill + n) _ (texts_many text_of ks) begins (sets-held store (fill + n) (texts_of value-of.tokens) texts-inside))

          -- what is kept of the store is the declaration's text
          text-is : kept_text (numbers_of (decl_answer (named_decl names decl))) z fill n ≡ decl_text (named_decl names decl)
          text-is = keeps-text names z fill n name name-is read.long ks held

          -- the return where a value was read: the declaration's row and text are put down, and the rest is wiped
          pub some_left : {q : ℕ} {y₀ y x' b' z' : List ℕ} → y₀ ≡ rules → Put names i (at + w) x j y₀ place z fill n m q y z' → x' ≡ wiped 0 (token_width * k) x → b' ≡ wiped 0 k b
              → record { answer = Some (record { taken = v + t; text = q }); rules = y; tokens = x'; brackets = b'; store = z' } ≡ declaration_left names at s rules place tokens brackets store fill
          unfolding text_kept kept declaration_text declaration_row
          some_left {q} {y₀} {y} {x'} {b'} {z'} e₀ put₀ ex eb =
              let put = subst (λ l. Put names i (at + w) x j l place z fill n m q y z') e₀ put₀ in
              let u = some-here in
              let D = named_decl names decl in
              let eq : q ≡ length (decl_text D) = put.kept ∙ ap text_length said-is ∙ decl-length D in
              let er : row_by (flag i) (at + w) fill (numbers_of (decl_answer D)) ≡ decl_row (flag (marked (tokens_of value-of.tokens)).important) (at + skip_whitespace s) fill D =
              rw (u.important, ew) (row_is (flag (marked (tokens_of value-of.tokens)).important) (at + skip_whitespace s) fill D)
              in
              let ey : y ≡ sets rules place (decl_row (flag (marked (tokens_of value-of.tokens)).important) (at + skip_whitespace s) fill D) =
              put.row ∙ ap (λ d. sets rules place (row_by (flag i) (at + w) fill (numbers_of d))) said-is
              ∙ ap (λ l. sets rules place l) er
              in
              let ez : z' ≡ sets (wiped fill (length name + length (texts_of value-of.tokens)) store) fill (decl_text D) =
              put.left ∙ ap (λ d. sets (wiped fill (n + m) z) fill (kept_text (numbers_of d) z fill n)) said-is ∙ rw (text-is, store-wiped u.text)
              in
              rw u.taken
              (left-ok names at s rules place tokens brackets store fill _ (used-is s v name read.reads) (v + value-of.taken) declaration
              (declaration-ok s v name read.reads u.balanced) q eq y x' b' z' ey (tokens-wiped (drop v s) tokens brackets store (fill + n) left_is u.count ex)
              (brackets-zero (drop v s) tokens brackets store (fill + n) left_is u.count eb) ez)

-- ---- `parse_declaration`: what the answer of `parse_property` says
-- an answer with a name comes of a property that reads, and has its place and the length of its name
headword : (p : Parsed (List ℕ)) (m : ℕ) (n : PropertyHead) → ◌≡◌ {A = Result PropertyHead NoProperty} (Ok n) (on_parsed p (λ w name. Ok (record { value = w; name = length name })) (Err (record { name = m }))) → NameRead p n.value n.name
unfolding on_parsed
headword (ok w b) m n e =
    let q : n ≡ record { value = w; name = length b } = cc in
    record { name = b; reads = ap (λ (x : PropertyHead). ok x.value b) (sym q); long = ap (λ (x : PropertyHead). x.name) q }
headword err m n e = absurd (cc)

-- an answer without a name comes of a property that does not read
headless : (p : Parsed (List ℕ)) (m : ℕ) (n : NoProperty) → ◌≡◌ {A = Result PropertyHead NoProperty} (Err n) (on_parsed p (λ w name. Ok (record { value = w; name = length name })) (Err (record { name = m }))) → (p ≡ err) × (n.name ≡ m)
unfolding on_parsed
headless (ok w b) m n e = absurd (cc)
headless err m n e = let q : n ≡ record { name = m } = cc in (refl, ap (λ (x : NoProperty). x.name) q)

module _ (names : Bool) (at : ℕ) (s rules : List ℕ) (place : ℕ) (tokens brackets store : List ℕ) (fill : ℕ)
    (room : RulesRoom s at rules place tokens brackets store fill) {p : Result PropertyHead NoProperty} (ep : p ≡ property_answer s) {z : List ℕ} (ez : z ≡ sets store fill (name_text (ident_of s))) where
  -- the store keeps its length, and so the room
  z-long : length z ≡ length store
  z-long = ap length ez ∙ length-sets store fill (name_text (ident_of s))

  -- the stores have the same room with the name written
  pub named-room : RulesRoom s at rules place tokens brackets z fill
  named-room =
      let o = room.room in
      record {
        room = record { for-tokens = o.for-tokens; for-brackets = o.for-brackets; for-texts = omega (arith, z-long, o.for-texts); bits = o.bits };
        for-rules = room.for-rules;
        row-bits = room.row-bits;
        start-bits = room.start-bits;
      }

  -- a name and ':'
  module _ {v n : ℕ} (ea : p ≡ Ok (record { value = v; name = n })) where
    -- the answer has the property's value place and the length of its name
    word : NameRead (property_of s) v n
    unfolding property_answer
    word = headword (property_of s) (length (name_text (ident_of s))) _ (sym ea ∙ ep)

    -- the property takes no more than the text, and its name is the one that was written
    of_word : Headed s v word.name
    of_word = headed s v word.name word.reads

    -- the store is the old one with that name at the fill
    z-is : z ≡ sets store fill word.name
    z-is = ez ∙ ap (sets store fill) of_word.named

    -- the n bytes at the fill are the name
    part-is : part z fill n ≡ word.name
    part-is =
        ap (λ y. part y fill n) z-is ∙ ap (λ j. part (sets store fill word.name) fill j) word.long
        ∙ (held-part (sets store fill word.name) fill word.name (sets-held store fill word.name (omega (arith, of_word.short, of_word.within, room.room.for-texts))))

    -- so the property was read, and its name lies in the store
    pub named-read : PropertyRead s v n z fill
    named-read = record { reads = word.reads ∙ ap (ok v) (sym part-is); long = ap length part-is ∙ sym word.long }

    -- the name is wiped with the rest
    wiped-name : wiped fill (used_by s).bytes z ≡ wiped fill (used_by s).bytes store
    wiped-name =
        rw z-is (wiped-over store fill (used_by s).bytes word.name (omega (arith, ap (λ (u : Used). u.bytes) (used-is s v word.name word.reads))))

    -- what is left of the store with the name is what is left of the store without it
    pub declared-left : {l : Leaves (Option DeclarationRead)} → l ≡ declaration_left names at s rules place tokens brackets z fill → l ≡ declaration_left names at s rules place tokens brackets store fill
    unfolding declaration_left leaves
    declared-left e = e ∙ rw wiped-name

  -- no property reads: there is no declaration, and the name is wiped
  module _ {n : ℕ} (ea : p ≡ Err (record { name = n })) where
    -- the property does not read, and n is how much of a name was written
    lacks : (property_of s ≡ err) × (n ≡ length (name_text (ident_of s)))
    unfolding property_answer
    lacks = headless (property_of s) (length (name_text (ident_of s))) _ (sym ea ∙ ep)

    -- what is used is that name alone, and no token
    used-name : used_by s ≡ record { tokens = 0; bytes = n }
    unfolding used_by on_parsed
    used-name = rw (lacks.0, lacks.1)

    -- so no declaration reads
    unread : declaration_of s ≡ err
    unfolding declaration_of on_parsed
    unread = rw lacks.0

    -- the return where no property reads: no declaration, and the name is wiped
    pub unnamed-left : {z' : List ℕ} → z' ≡ wiped fill n z
        → record { answer = None; rules = rules; tokens = tokens; brackets = brackets; store = z' } ≡ declaration_left names at s rules place tokens brackets store fill
    unnamed-left {z'} e =
        left-err names at s rules place tokens brackets store fill _ used-name unread tokens brackets z' (sym (wiped-none 0 tokens)) (sym (wiped-none 0 brackets))
        (e ∙ rw ez (wiped-over store fill n (name_text (ident_of s)) (omega (arith, lacks.1))))

-- ---- what a declaration takes and keeps: a byte or more, no more than there are; its text is among what was used, and no longer than what
-- it takes but for two bytes where it ends the text
pub record Takes (names : Bool) (s : List ℕ) (n : ℕ) (d : Declaration) : Type 0 where
  pub some : 1 ≤ n
  pub within : n ≤ length s
  pub used : text_kept names d ≤ (used_by s).bytes
  pub text : text_kept names d ≤ n + 2
  pub sharp : n < length s → text_kept names d ≤ n

-- its text is no longer than its name and the texts of its value
module _ (names : Bool) (name : List ℕ) (ks : List Token) where
  abbrev NoLonger : Decl → Type 0
  NoLonger d = length (decl_text (named_decl names d)) ≤ length name + length (texts_many text_of ks)

  -- the text of an unknown declaration is its name or nothing
  unknown-le : (b : Bool) → names ≡ b → NoLonger (unknown name)
  unfolding named_decl decl_text pick
  unknown-le true e = rw e (omega arith)
  unknown-le false e = rw e (omega arith)

  -- the text of a content is the texts of its tokens
  content-le : NoLonger (content (texts_many text_of ks))
  unfolding named_decl decl_text
  content-le = omega arith

  -- whatever a name and tokens declare, its text is no longer than both together
  text-le : NoLonger (decl_of name ks)
  text-le = decl-text NoLonger name ks (λ d h. omega (arith, ap length (named-textless names d h))) (unknown-le names refl) content-le

module _ (names : Bool) (s : List ℕ) (v : ℕ) (name : List ℕ) (e : property_of s ≡ ok v name) where
  abbrev said : Statement
  said = statement_of false (drop v s)

  -- a declaration with right brackets takes its property and its value, within these bounds
  takes-value : said.balanced ≡ true → Takes names s (v + said.taken)
      (record { decl = decl_of name (marked (tokens_of said.tokens)).tokens; important = (marked (tokens_of said.tokens)).important; start = skip_whitespace s })
  unfolding text_kept kept declaration_text
  takes-value h =
      let g = headed s v name e in
      let z = statement-sized false (drop v s) in
      let l = length-drop v s in
      let ks = (marked (tokens_of said.tokens)).tokens in
      let b = texts-begin (tokens_of said.tokens) in
      let t = text-le names name ks in
      let o = ap length (texts-same said.tokens) in
      let w = ap length b.whole ∙ length-append (texts_many text_of ks) b.more in
      let u = ap (λ (x : Used). x.bytes) (used-is s v name e) in
      record {
        some = omega (arith, g.short);
        within = omega (arith, g.within, z.within);
        used = omega arith;
        text = ⊎_elim (λ (k : said.taken < length (drop v s)). omega (arith, g.short, z.sharp (omega arith))) (λ k. omega (arith, g.short, z.text)) (lt-or-ge said.taken (length (drop v s)));
        sharp = λ k. omega (arith, g.short, z.sharp (omega (arith, g.within)));
      }

-- two readings that are equal take and keep the same
takes-as : (names : Bool) (s : List ℕ) (m n : ℕ) (x d : Declaration) → ◌≡◌ {A = Parsed Declaration} (ok m x) (ok n d) → Takes names s m x → Takes names s n d
takes-as names s m n x d e t =
    let p : m ≡ n = cc in
    let q : x ≡ d = cc in
    rw (p, q) at t

-- where no property reads, there is no declaration
property-err : (s : List ℕ) → property_of s ≡ err → declaration_of s ≡ err
unfolding declaration_of on_parsed
property-err s e = rw e

-- of every declaration that reads
pub takes : (names : Bool) (s : List ℕ) (n : ℕ) (d : Declaration) → declaration_of s ≡ ok n d → Takes names s n d
takes names s n d e = go (property_of s) refl
  where
    by : (v : ℕ) (name : List ℕ) (q : property_of s ≡ ok v name) (b : Bool) → (statement_of false (drop v s)).balanced ≡ b → Takes names s n d
    by v name q true h = takes-as names s _ n _ d (sym (declaration-ok s v name q h) ∙ e) (takes-value names s v name q h)
    by v name q false h = absurd (let x : ◌≡◌ {A = Parsed Declaration} err (ok n d) = sym (declaration-err s v name q h) ∙ e in let z : ◌≡◌ {A = ℕ} 0 1 = cc in omega arith)

    go : (p : Parsed (List ℕ)) → property_of s ≡ p → Takes names s n d
    go (ok v name) q = by v name q _ refl
    go err q = absurd (let x : ◌≡◌ {A = Parsed Declaration} err (ok n d) = sym (property-err s q) ∙ e in let z : ◌≡◌ {A = ℕ} 0 1 = cc in omega arith)
