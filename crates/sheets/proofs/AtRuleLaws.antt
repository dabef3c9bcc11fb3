-- At-rules: a statement that is read and dropped leaves the stores as they were.
use mathlib.Core.Path.{◌≡◌, refl, sym, ap, ◌∙◌}
use mathlib.Core.Bool.{Bool, true, false}
use mathlib.Core.List.{List}
use Prim.Native.Nat.{ℕ, ◌+◌, ◌*◌, ◌^◌, ◌≤◌, ◌<◌}
use native.Mathlib.Omega.{arith}
use lib.ListN.{length, get_or, drop, length-drop}
use lib.Seq.{sets}
use Rattle.selectors.proofs.ReadingLaws as readings
use Rattle.selectors.specs.declared.readings.Read.{Read}
use Rattle.std.specs.Prelude.{Some, None, Ok, Option, Result, Err}
use Prim.Native.Char.{code as ascii}
use Rattle.combinators.specs.Choice.{pick, is}
use Rattle.combinators.specs.Parsed.{on_parsed}
use Rattle.combinators.specs.Store.{wiped}
use Rattle.combinators.proofs.Lists.{lent_from, rest, byte-there}
use Rattle.lexer.specs.Name.{ident_of, name_answer, name_text}
use Rattle.lexer.specs.TokenRow.{token_width}
use Rattle.lexer.specs.Whitespace.{skip_whitespace}
use Rattle.lexer.specs.declared.Written.{Written}
use Rattle.lexer.proofs.Bounds.{Fits}
use Rattle.lexer.proofs.IdentBounds.{ident-fits}
use Rattle.syntax.specs.RuleLayout.{rule_rows, rule_texts}
use Rattle.syntax.specs.Stream.{rows_many, texts_many}
use Rattle.values.specs.Value.{Statement, statement_of}
use Rattle.values.specs.Layout.{statement_answer, rows_of, texts_of, brackets_after, Left, left}
use Rattle.values.specs.declared.statements.Statement as declared
use Rattle.values.specs.declared.statements.Unbalanced.{Unbalanced}
use Rattle.values.proofs.Sizes.{Sized, statement-sized, rows_long}
use Rattle.values.proofs.Unmarked.{brackets-wiped}
use Rattle.lexer.proofs.NameAnswers.{NameRead, named-from, unnamed-from}
use Rattle.selectors.specs.Outcome.{fails, on_outcome}
use Rattle.sheets.specs.Sheet.{spaced, statement_end, at_rule_of}
use Rattle.sheets.specs.Rules.{WorkRoom}
use Rattle.selectors.specs.Reading.{reading}
use Rattle.combinators.proofs.ZeroLaws.{zeros-back}

-- ---- what the answer of `parse_to_end_of_statement` says
record Said (r : Statement) (b : Bool) (n k t : ℕ) : Type 0 where
  balanced : r.balanced ≡ b
  taken : n ≡ r.taken
  count : k ≡ length r.tokens
  text : t ≡ length (texts_of r.tokens)

-- an answer with a statement says that its brackets close, and what it counts
said-by : (b : Bool) (x : declared.Statement) (y : Unbalanced) (got : declared.Statement) → Ok got ≡ pick b (Ok x) (Err y) → (b ≡ true) × (got ≡ x)
unfolding pick
said-by true x y got e = (refl, cc)
said-by false x y got e = absurd (let z : ◌≡◌ {A = ℕ} 0 1 = cc in omega arith)

-- of a bracket that is wrong
unsaid-by : (b : Bool) (x : declared.Statement) (y got : Unbalanced) → Err got ≡ pick b (Ok x) (Err y) → (b ≡ false) × (got ≡ y)
unfolding pick
unsaid-by true x y got e = absurd (let z : ◌≡◌ {A = ℕ} 0 1 = cc in omega arith)
unsaid-by false x y got e = (refl, cc)

-- ---- `parse_statement_end`: the tokens of the statement are wiped again, and the stores are as they were
module _ (s : List ℕ) (n : ℕ) (tokens brackets store : List ℕ) (fill : ℕ) (o : WorkRoom s tokens brackets store fill) (h : n ≤ length s) where
  -- the statement that the lent text means
  abbrev stated : Statement
  stated = statement_of true (drop n s)

  -- how much there is of it
  sized : Sized (drop n s) 0 stated
  sized = statement-sized true (drop n s)

  -- what was left of it
  module _ {a : Result declared.Statement Unbalanced} {x b z : List ℕ}
      (e : record { answer = a; rows = x; brackets = b; store = z } ≡ left (statement_of true (lent_from s n)) tokens brackets store fill) where
    -- what was left is what the statement leaves
    left_is : record { answer = a; rows = x; brackets = b; store = z } ≡ left stated tokens brackets store fill
    left_is = e ∙ ap (λ l. left (statement_of true l) tokens brackets store fill) (rest s n)

    -- the store has the rows of its tokens from the start on
    tokens-are : x ≡ sets tokens 0 (rows_of fill stated.tokens)
    unfolding left
    tokens-are = ap (λ (l : Left). l.rows) left_is

    -- the store of brackets is as the statement's tokens leave it
    brackets-are : b ≡ brackets_after stated.tokens brackets 0
    unfolding left
    brackets-are = ap (λ (l : Left). l.brackets) left_is

    -- the text store holds the texts of its tokens
    store_is : z ≡ sets store fill (texts_of stated.tokens)
    unfolding left
    store_is = ap (λ (l : Left). l.store) left_is

    -- the answer, where it reads
    said : {got : declared.Statement} → a ≡ Ok got → Said stated true got.taken got.count got.text
    unfolding left statement_answer
    said {got} ea =
        let p = said-by stated.balanced _ _ got (sym ea ∙ ap (λ (l : Left). l.answer) left_is) in
        record { balanced = p.0; taken = ap (λ r. r.taken) p.1; count = ap (λ r. r.count) p.1; text = ap (λ r. r.text) p.1 }

    -- and where a bracket is wrong
    unsaid : {got : Unbalanced} → a ≡ Err got → Said stated false got.0.taken got.0.count got.0.text
    unfolding left statement_answer
    unsaid {got} ea =
        let p = unsaid-by stated.balanced _ _ got (sym ea ∙ ap (λ (l : Left). l.answer) left_is) in
        record { balanced = p.0; taken = ap (λ r. r.0.taken) p.1; count = ap (λ r. r.0.count) p.1; text = ap (λ r. r.0.text) p.1 }

    module _ {v : Bool} {m k t : ℕ} (q : Said stated v m k t) where
      -- the count of tokens fits
      count_fits : token_width * k < 2 ^ 64
      count_fits = omega (arith, q.count, sized.counted, sized.within, length-drop n s, o.text-bits)

      -- the statement ends within the text
      end-within : n + m ≤ length s
      end-within = omega (arith, q.taken, sized.within, length-drop n s)

      -- what was written is wiped
      tokens-back : {x' : List ℕ} → x' ≡ wiped 0 (token_width * k) x → x' ≡ tokens
      tokens-back p =
          p ∙ rw (q.count, tokens-are)
          (zeros-back tokens 0 o.tokens-zeros (rows_of fill stated.tokens) (token_width * length stated.tokens) (omega (arith, rows_long stated.tokens fill)))

      -- so are the brackets
      brackets-back : {b' : List ℕ} → b' ≡ wiped 0 k b → b' ≡ brackets
      brackets-back p =
          p ∙ rw (q.count, brackets-are) (brackets-wiped stated.tokens brackets 0 (length stated.tokens) (omega arith))
          ∙ o.brackets-zeros.wiping (length stated.tokens)

      -- once these are wiped the text store is as it was
      store-back : {z' : List ℕ} → z' ≡ wiped fill t z → z' ≡ store
      store-back p =
          p ∙ rw (q.text, store_is) (zeros-back store fill o.store-zeros (texts_of stated.tokens) (length (texts_of stated.tokens)) (omega arith))

    -- what the function ensures
    abbrev pub Ended : Option Read → List ℕ → List ℕ → List ℕ → Type 0
    Ended r x' b' z' = (Ok r ≡ reading length (rule_rows fill) rule_texts (statement_end s n)) × ((x' ≡ tokens) × ((b' ≡ brackets) × (z' ≡ store)))

    -- the statement ends: its brackets match
    module _ {got : declared.Statement} (ea : a ≡ Ok got) where
      -- its tokens have room
      pub some-count : token_width * got.count < 2 ^ 64
      some-count = count_fits (said ea)

      -- it ends within the text
      pub some_end : n + got.taken ≤ length s
      some_end = end-within (said ea)

      -- all is as before, and nothing is kept of it
      pub some-ended : {x' b' z' : List ℕ} → x' ≡ wiped 0 (token_width * got.count) x → b' ≡ wiped 0 got.count b → z' ≡ wiped fill got.text z → Ended (Some (readings.sized (n + got.taken) 0 0 0)) x' b' z'
      unfolding reading on_outcome statement_end pick rule_rows rule_texts rows_many texts_many
      some-ended ex eb ez =
          let q = said ea in
          (rw (q.balanced, q.taken), (tokens-back q ex, (brackets-back q eb, store-back q ez)))

    -- a bracket is wrong
    module _ {got : Unbalanced} (ea : a ≡ Err got) where
      -- the tokens before it have room
      pub none-count : token_width * got.0.count < 2 ^ 64
      none-count = count_fits (unsaid ea)

      -- all is as before, and it does not read
      pub none-ended : {x' b' z' : List ℕ} → x' ≡ wiped 0 (token_width * got.0.count) x → b' ≡ wiped 0 got.0.count b → z' ≡ wiped fill got.0.text z → Ended None x' b' z'
      unfolding reading on_outcome statement_end pick
      none-ended ex eb ez =
          let q = unsaid ea in
          (rw q.balanced, (tokens-back q ex, (brackets-back q eb, store-back q ez)))

-- ---- `parse_at_rule`: an '@', a name and the end of the statement; the stores are as they were
module _ (s tokens brackets store : List ℕ) (fill : ℕ) (o : WorkRoom s tokens brackets store fill) where
  -- what the function ensures
  abbrev pub Told : Option Read → List ℕ → List ℕ → List ℕ → Type 0
  Told r x b z = (Ok r ≡ reading length (rule_rows fill) rule_texts (at_rule_of s)) × ((x ≡ tokens) × ((b ≡ brackets) × (z ≡ store)))

  -- of the end of its statement
  abbrev Told-end : ℕ → List ℕ → Option Read → List ℕ → List ℕ → List ℕ → Type 0
  Told-end n z' r x b z = (Ok r ≡ reading length (rule_rows fill) rule_texts (statement_end s n)) × ((x ≡ tokens) × ((b ≡ brackets) × (z ≡ z')))

  module _ {a : ℕ} (ea : a ≡ skip_whitespace s) {t : Bool} (et : t ≡ is (get_or s a 0) (ascii "@")) where
    -- without `@` nothing is read
    pub at-missing : t ≡ false → Told None tokens brackets store
    unfolding at_rule_of reading on_outcome pick
    at-missing f = (rw (← ea, ← et, f), (refl, (refl, refl)))

    module _ (f : t ≡ true) where
      -- '@' is within the text
      pub at_there : a < length s
      at_there = byte-there s a (ascii "@") (omega arith) (sym et ∙ f)

      -- a name from i on
      module _ {i : ℕ} (ei : i ≡ a + 1 + skip_whitespace (drop (a + 1) s)) (hi : i ≤ length s) where
        -- behind the '@' an at-rule is a name, and a statement from its end on
        rule-is : at_rule_of s ≡ on_parsed (ident_of (drop i s)) (λ n name. statement_end s (i + n)) fails
        unfolding at_rule_of pick spaced
        rule-is = rw (← ea, ← et, f, ← ei)

        module _ {x : Option Written} (ex : x ≡ name_answer (ident_of (lent_from s i))) {z : List ℕ} (ez : z ≡ sets store fill (name_text (ident_of (lent_from s i)))) where
          -- without a name behind `@` nothing is read
          pub name-missing : x ≡ None → Told None tokens brackets z
          unfolding reading on_outcome on_parsed name_text
          name-missing q =
              let p = unnamed-from (ident_of (lent_from s i)) (sym q ∙ ex) in
              let u = ap ident_of (sym (rest s i)) ∙ p in
              (rw (rule-is, u), (refl, (refl, ez ∙ rw p)))

          module _ {n m : ℕ} (q : x ≡ Some (record { taken = n; length = m })) where
            -- the name that was read, with its bytes
            named : NameRead (ident_of (drop i s)) n m
            named = named-from (ident_of (drop i s)) n m (sym q ∙ ex ∙ ap (λ l. name_answer (ident_of l)) (rest s i))

            -- how much it takes
            name-fits : Fits (drop i s) n named.name
            name-fits = ident-fits (drop i s) n named.name named.reads

            -- it ends within the text
            pub name-end : i + n ≤ length s
            name-end = omega (arith, name-fits.within_text, length-drop i s)

            -- what was written of it
            text-is : name_text (ident_of (lent_from s i)) ≡ named.name
            unfolding name_text
            text-is = ap (λ l. name_text (ident_of l)) (rest s i) ∙ ap name_text named.reads

            -- the name is wiped
            module _ {z' : List ℕ} (ew : z' ≡ wiped fill m z) where
              -- nothing is left of it
              name-wiped : z' ≡ store
              name-wiped =
                  ew ∙ ap (wiped fill m) (ez ∙ ap (sets store fill) text-is) ∙ zeros-back store fill o.store-zeros named.name m (omega (arith, named.long))

              -- so there is room for what follows
              pub name-room : WorkRoom s tokens brackets z' fill
              name-room = rw name-wiped o

              -- and all to the end of the statement
              pub name-told : {r : Option Read} {x₂ b₂ z₂ : List ℕ} → Told-end (i + n) z' r x₂ b₂ z₂ → Told r x₂ b₂ z₂
              unfolding on_parsed
              name-told e = (e.0 ∙ rw (rule-is, named.reads), (e.1.0, (e.1.1.0, e.1.1.1 ∙ name-wiped)))
