-- Turns of `parse_to_end_of_statement`: what is left to read, into the stores as they are, leaves what the whole statement leaves.
use mathlib.Core.Path.{◌≡◌, refl, ap, sym, ◌∙◌}
use mathlib.Core.List.{List, ◌++◌}
use mathlib.Core.Bool.{Bool, true, false}
use Prim.Native.Nat.{ℕ, zero, suc, ◌+◌, ◌-◌, ◌^◌, ◌<◌, ◌≤◌}
use native.Mathlib.Nat.{add-zero}
use native.Mathlib.Omega.{arith}
use lib.ListN.{length, get_or, drop, length-drop, length-append}
use lib.Seq.{sets, drop-drop, get_or-drop}
use Rattle.combinators.specs.Lent.{SameStores}
use Rattle.combinators.specs.declared.lent.Stores.{Stores}
use Prim.Native.Char.{code as ascii}
use Rattle.combinators.specs.Choice.{pick}
use Rattle.combinators.specs.Parsed.{Parsed, ok, err, on_parsed}
use Rattle.combinators.specs.Store.{Store, emits}
use Rattle.combinators.proofs.Rules.{pick_true, pick-false, pick-holds, is-yes, is-no, and_both, and_left}
use Rattle.combinators.proofs.Emitted.{emits_none, emits-append, emits-bytes}
use Rattle.combinators.proofs.Wiped.{sets-append}
use Rattle.lexer.specs.Token.{Token, token_of, coded, text_of, token_text, lexed_answer, length_by}
use Rattle.lexer.specs.TokenRow.{row_of, token_row}
use Rattle.lexer.specs.Whitespace.{skip_whitespace}
use Rattle.lexer.specs.declared.tokens.Token as lexer
use Rattle.lexer.specs.declared.tokens.Lexed.{Lexed}
use Rattle.lexer.proofs.Bounds.{Bound, short, lone, Fits}
use Rattle.lexer.proofs.Comments.{skip-le}
use Rattle.lexer.proofs.TokenBounds.{token-fits, length-coded}
use Rattle.syntax.specs.Stream.{rows_many, texts_many}
use Rattle.values.specs.Value.{Placed, bracket_of, Step, next, before, behind, wrong, step_of, Statement, stop, cons, on_step, scan, statement_of}
use Rattle.values.specs.Layout.{awaited, pushed, depth, step_to, deep, rows_of, texts_of, brackets_after, Left, left, statement_answer, Room, taken_by, count_by, text_by, slack, Bounds}
use Rattle.values.specs.declared.statements.Step as declared-step
use Rattle.values.specs.declared.statements.Step.TheVariants.{Next, Before, Behind, Wrong}
use Rattle.std.specs.Prelude.{Option, Some, None, Result, Ok, Err}
use Rattle.combinators.proofs.Lists.{lent_from, rest}
use Rattle.values.specs.declared.statements.Statement as declared
use Rattle.values.specs.declared.statements.Unbalanced.{Unbalanced}
use Rattle.values.proofs.Nesting.{Moves, no_text, unpushed, depth_le}

-- ---- what is left of a statement leaves, where n tokens with t bytes of text were read and d brackets are awaited
unfoldable pub leaves : Statement → Store ℕ → ℕ → List ℕ → ℕ → List ℕ → ℕ → ℕ → Left
leaves r o n b d st fill t =
    record {
      answer = pick r.balanced (Ok (record { taken = r.taken; count = n + length r.tokens; text = t + length (texts_of r.tokens) })) (Err (record { 0 = record { taken = r.taken; count = n + length r.tokens; text = t + length (texts_of r.tokens) } }));
      rows = (emits o (rows_of (fill + t) r.tokens)).bytes;
      brackets = brackets_after r.tokens b d;
      store = sets st (fill + t) (texts_of r.tokens);
    }

-- from empty stores on, what a statement leaves is what the definition says
leaves_all : (r : Statement) (rows b st : List ℕ) (fill : ℕ) → leaves r (record { bytes = rows; fill = 0 }) 0 b 0 st fill 0 ≡ left r rows b st fill
unfolding leaves left statement_answer
leaves_all r rows b st fill =
    let e₁ : 0 + length r.tokens ≡ length r.tokens = omega arith in
    let e₂ : 0 + length (texts_of r.tokens) ≡ length (texts_of r.tokens) = omega arith in
    rw (e₁, e₂, add-zero fill, emits-bytes (rows_of fill r.tokens) rows 0)

module _ (o : Store ℕ) (n : ℕ) (b : List ℕ) (d : ℕ) (st : List ℕ) (fill t : ℕ) where
  -- a statement that ends here leaves the stores as they are
  leaves-stop : (at : ℕ) → leaves (stop at true) o n b d st fill t ≡ record { answer = Ok (record { taken = at; count = n; text = t }); rows = o.bytes; brackets = b; store = st }
  unfolding leaves stop pick rows_many texts_many brackets_after
  leaves-stop at = rw (add-zero n, add-zero t, emits_none o)

  -- a statement that ends here with a wrong bracket leaves the stores as they are, and says so
  leaves-wrong : (at : ℕ) → leaves (stop at false) o n b d st fill t ≡ record { answer = Err (record { 0 = record { taken = at; count = n; text = t } }); rows = o.bytes; brackets = b; store = st }
  unfolding leaves stop pick rows_many texts_many brackets_after
  leaves-wrong at = rw (add-zero n, add-zero t, emits_none o)

  -- of a token and more
  leaves-cons : (k : Token) (at : ℕ) (r : Statement) → leaves (cons (record { token = k; start = at }) r) o n b d st fill t
      ≡ leaves r (emits o (token_row at (fill + t) k)) (n + 1) (pushed (bracket_of k) b d) (depth (bracket_of k) d) (sets st (fill + t) (text_of k)) fill
      (t + length (text_of k))
  unfolding leaves cons rows_many texts_many brackets_after
  leaves-cons k at r =
      let ts = r.tokens in
      let x = text_of k in
      let e₁ : n + suc (length ts) ≡ n + 1 + length ts = omega arith in
      let e₂ : t + length (x ++ texts_of ts) ≡ t + length x + length (texts_of ts) = simp length-append (omega arith) in
      let e₃ : fill + t + length x ≡ fill + (t + length x) = omega arith in
      rw (e₁, e₂, sets-append st (fill + t) x (texts_of ts), e₃, emits-append)

-- ---- the meaning, token by token
module _ (include : Bool) (s : List ℕ) (at : ℕ) (cs : List ℕ) where
  -- where there is no token
  scan-none : (l : ℕ) → token_of s ≡ err → scan l include s at cs ≡ stop at true
  unfolding scan on_parsed
  scan-none zero e = refl
  scan-none (suc l) e = rw e

  module _ (n : ℕ) (k : Token) (e : token_of s ≡ ok n k) where
    abbrev placed : Placed
    placed = record { token = k; start = at + skip_whitespace s }

    -- by the step at a token
    scan-before : (l : ℕ) → step_of include (bracket_of k) cs ≡ before → scan l include s at cs ≡ stop at true
    unfolding scan on_parsed on_step
    scan-before zero h = refl
    scan-before (suc l) h = rw (e, h)

    -- at a wrong bracket the statement ends before the token, unbalanced
    scan-wrong : (l : ℕ) → step_of include (bracket_of k) cs ≡ wrong → scan (suc l) include s at cs ≡ stop at false
    unfolding scan on_parsed on_step
    scan-wrong l h = rw (e, h)

    -- at a token that ends the statement behind itself, it is the last
    scan-behind : (l : ℕ) → step_of include (bracket_of k) cs ≡ behind → scan (suc l) include s at cs ≡ cons placed (stop (at + n) true)
    unfolding scan on_parsed on_step
    scan-behind l h = rw (e, h)

    -- at any other token the statement goes on behind it, with the brackets awaited then
    scan-next : (l : ℕ) (ds : List ℕ) → step_of include (bracket_of k) cs ≡ next ds → scan (suc l) include s at cs ≡ cons placed (scan l include (drop n s) (at + n) ds)
    unfolding scan on_parsed on_step
    scan-next l ds h = rw (e, h)

-- ---- how much longer texts can be
-- two bytes where a backslash ends the text
pub slack-here : (s : List ℕ) (n : ℕ) → n ≡ length s → get_or s (n - 1) 0 ≡ ascii "\\" → slack s n ≡ 2
unfolding slack
slack-here s n e h = sym (pick_true _ _ _ _ (and_both _ _ (is-yes _ _ e) (is-yes _ _ h)) refl)

-- no longer where the text goes on, and two bytes at most
pub slack-none : (s : List ℕ) (n : ℕ) → n < length s → slack s n ≡ 0
unfolding slack
slack-none s n h = sym (pick-false _ _ _ _ (and_left _ _ (is-no _ _ (λ e. absurd (omega arith)))) refl)

-- texts are at most two bytes longer than what was taken
pub slack-two : (s : List ℕ) (n : ℕ) → slack s n ≤ 2
unfolding slack
slack-two s n = pick-holds (λ m. m ≤ 2) _ _ _ (λ _. omega arith) (λ _. omega arith)

-- one text more: only the last can be longer than what it takes
slack-more : (s : List ℕ) (i m t : ℕ) (b : List ℕ) → i ≤ length s → 1 ≤ m → t ≤ i → Bound (drop i s) m b → t + length b ≤ i + m + slack s (i + m)
slack-more s i m t b h o l (short p) = omega arith
slack-more s i m t b h o l (lone p e x) =
    let q : i + m - 1 ≡ i + (m - 1) = omega arith in
    let w = slack-here s (i + m) (omega (arith, length-drop i s)) (ap (λ j. get_or s j 0) q ∙ sym (get_or-drop i s (m - 1) 0) ∙ x) in
    omega arith

-- ---- a token that was read at the start of s
record Reads (s : List ℕ) (w m : ℕ) (k : lexer.Token) : Type 0 where
  token : Token
  reads : token_of s ≡ ok m token
  same : k ≡ coded token
  starts : w ≡ skip_whitespace s

-- what the lexer's answer says
reads-from : (s : List ℕ) (p : Parsed Token) → token_of s ≡ p → (w m : ℕ) (k : lexer.Token)
    → Some (record { start = w; end = m; token = k }) ≡ lexed_answer (skip_whitespace s) p → Reads s w m k
unfolding lexed_answer
reads-from s (ok n x) h w m k e =
    let l : ◌≡◌ {A = Lexed} (record { start = w; end = m; token = k }) (record { start = skip_whitespace s; end = n; token = coded x }) = cc in
    record {
      token = x;
      reads = rw (ap (λ (r : Lexed). r.end) l) h;
      same = ap (λ (r : Lexed). r.token) l;
      starts = ap (λ (r : Lexed). r.start) l;
    }
reads-from s err h w m k e = absurd (cc)

-- an answer without a token says that none reads
reads_none : (p : Parsed Token) (w : ℕ) → None ≡ lexed_answer w p → p ≡ err
unfolding lexed_answer
reads_none (ok n x) w e = absurd (cc)
reads_none err w e = refl

-- a step that the code's answer says
pub moved_as : (include : Bool) (k : lexer.Token) (b : List ℕ) (d : ℕ) (b' : List ℕ) (r r' : declared-step.Step)
    → Moves include k b d b' r → r ≡ r' → Moves include k b d b' r'
moved_as include k b d b' r r' v e = rw (← e) v

-- ---- the reader, where so many bytes were taken, tokens counted and written up to a place, brackets awaited, bytes of text written
pub record Running (s : List ℕ) (include : Bool) (rows₀ brackets₀ store₀ : List ℕ) (fill : ℕ) (rows brackets store : List ℕ)
    (taken count place d text : ℕ) : Type 0 where
  pub turns : ℕ
  pub enough : length s < taken + turns
  pub same : leaves (scan turns include (drop taken s) taken (awaited brackets d)) (record { bytes = rows; fill = place }) count brackets d store fill text
      ≡ left (statement_of include s) rows₀ brackets₀ store₀ fill
  pub within : taken ≤ length s
  pub counted : count ≤ taken
  pub nested : d ≤ taken
  pub long : text ≤ taken + slack s taken
  pub rows_long : length rows ≡ length rows₀
  pub brackets-long : length brackets ≡ length brackets₀
  pub store_long : length store ≡ length store₀

-- the reader, with the stores that it was lent and as they are
pub record Lending (s : List ℕ) (include : Bool) (stores₀ : Stores) (fill : ℕ) (stores : Stores) (taken count place depth text : ℕ) : Type 0 where
  pub same : SameStores stores₀ stores
  pub rules : stores.rules.now ≡ stores₀.rules.now
  pub running : Running s include stores₀.tokens.now stores₀.brackets.now stores₀.texts.now fill stores.tokens.now stores.brackets.now stores.texts.now taken count place depth text

-- before the first token nothing is taken, counted, awaited or written
pub begin : (s : List ℕ) (include : Bool) (rows brackets store : List ℕ) (fill : ℕ)
    → Running s include rows brackets store fill rows brackets store 0 0 0 0 0
unfolding statement_of awaited
begin s include rows brackets store fill =
    record {
      turns = length s + 1;
      enough = omega arith;
      same = leaves_all _ rows brackets store fill;
      within = omega arith;
      counted = omega arith;
      nested = omega arith;
      long = omega arith;
      rows_long = refl;
      brackets-long = refl;
      store_long = refl;
    }

-- the turns are not used up
pub more-turns : (n taken l : ℕ) → n < taken + l → taken ≤ n → (j : ℕ) × (suc j ≡ l)
more-turns n taken zero h g = absurd (omega arith)
more-turns n taken (suc j) h g = (j, refl)

module _ {s : List ℕ} {include : Bool} {rows₀ brackets₀ store₀ : List ℕ} {fill : ℕ} {rows brackets store : List ℕ} {taken count place d text : ℕ}
    (c : Running s include rows₀ brackets₀ store₀ fill rows brackets store taken count place d text) where
  -- the text that is ahead, the brackets awaited, the rows
  abbrev ahead : List ℕ
  ahead = drop taken s

  abbrev inner : List ℕ
  inner = awaited brackets d

  abbrev written : Store ℕ
  written = record { bytes = rows; fill = place }

  -- what a return leaves, and its bounds
  abbrev Ends : Result declared.Statement Unbalanced → List ℕ → List ℕ → List ℕ → Type 0
  Ends r x b z = (record { answer = r; rows = x; brackets = b; store = z } ≡ left (statement_of include s) rows₀ brackets₀ store₀ fill) × Bounds s r

  -- the bounds where the statement ends here
  bounds-here : Bounds s (Ok (record { taken = taken; count = count; text = text }))
  unfolding taken_by count_by text_by
  bounds-here = record { taken = c.within; count = c.counted; text = c.long }

  -- what is ahead, once it is known
  whole_is : (y : Statement) → scan c.turns include ahead taken inner ≡ y
      → leaves y written count brackets d store fill text ≡ left (statement_of include s) rows₀ brackets₀ store₀ fill
  whole_is y p = ap (λ x. leaves x written count brackets d store fill text) (sym p) ∙ c.same

  -- the place of the next text is a number of 64 bits
  pub place-fits : Room (length s) fill rows₀ brackets₀ store₀ → fill + text < 2 ^ 64
  place-fits r = omega (arith, c.long, c.within, slack-two s taken, r.bits)

  -- no token; z is the store that the lexer left
  pub ends-none : {z : List ℕ} → z ≡ sets store (fill + text) (token_text (token_of (lent_from s taken))) → (r : Option Lexed)
      → r ≡ lexed_answer (skip_whitespace (lent_from s taken)) (token_of (lent_from s taken)) → r ≡ None → Ends (Ok (record { taken = taken; count = count; text = text })) rows brackets z
  unfolding token_text
  ends-none {z} ez r er e =
      let x = reads_none (token_of ahead) _ (rw rest at (sym e ∙ er)) in
      let p : z ≡ store = ez ∙ rw (rest, x) in (
        rw p (sym (leaves-stop written count brackets d store fill text taken) ∙ whole_is _ (scan-none include ahead taken inner c.turns x)),
        bounds-here,
      )

  -- ---- a token was read: what its turn leaves
  module _ {a : Option Lexed} (ea : a ≡ lexed_answer (skip_whitespace (lent_from s taken)) (token_of (lent_from s taken))) {w m : ℕ} {k : lexer.Token}
      (e : a ≡ Some (record { start = w; end = m; token = k })) where
    -- the token, its bounds, and the code's token
    read : Reads ahead w m k
    read = reads-from ahead _ refl w m k (rw rest at (sym e ∙ ea))

    abbrev t : Token
    t = read.token

    -- the token takes a byte or more and no more than there are, and its text is bounded
    fits : Fits ahead m (text_of t)
    fits = token-fits ahead m t read.reads

    -- the length of its text is told by the code's token
    length-is : length_by k ≡ length (text_of t)
    length-is = ap length_by read.same ∙ length-coded t

    -- it takes a byte or more, no more than there are, and starts before the end
    pub some : 1 ≤ m
    some = fits.some

    -- the token ends within the text
    pub within_text : taken + m ≤ length s
    within_text = omega (arith, fits.within_text, length-drop taken s, c.within)

    -- the token starts within the text
    starts-within : taken + w ≤ length s
    starts-within = omega (arith, read.starts, skip-le ahead, length-drop taken s, c.within)

    -- the texts are no longer than what was taken but for the slack
    long-more : text + length_by k ≤ taken + m + slack s (taken + m)
    long-more =
        let h = some in
        let g = within_text in
        let z = slack-none s taken (omega arith) in
        omega (arith, slack-more s taken m text (text_of t) c.within some (omega (arith, c.long, z)) fits.bound, length-is)

    -- the numbers of the next turn are numbers of 64 bits, and there is a place for a bracket
    module _ (r : Room (length s) fill rows₀ brackets₀ store₀) where
      -- the byte where the token starts fits a word
      pub byte_fits : taken + w < 2 ^ 64
      byte_fits = omega (arith, starts-within, r.bits)

      -- the bytes taken with it fit a word
      pub taken-fits : taken + m < 2 ^ 64
      taken-fits = omega (arith, within_text, r.bits)

      -- the count with it fits a word
      pub count_fits : count + 1 < 2 ^ 64
      count_fits = omega (arith, within_text, some, c.counted, r.bits)

      -- the bytes of text with its own fit a word
      pub text-fits : text + length_by k < 2 ^ 64
      text-fits = omega (arith, long-more, within_text, slack-two s (taken + m), r.bits)

      -- the store of brackets has a place for one more
      pub bracket-fits : d < length brackets
      bracket-fits = omega (arith, within_text, some, c.nested, c.brackets-long, r.for-brackets)

    -- one turn, and those that are left
    left_over : (j : ℕ) × (suc j ≡ c.turns)
    left_over = more-turns (length s) taken c.turns c.enough c.within

    -- what is ahead is read in that turn and those that are left
    scan-left : scan c.turns include ahead taken inner ≡ scan (suc left_over.0) include ahead taken inner
    scan-left = ap (λ l. scan l include ahead taken inner) (sym left_over.1)

    -- the step that the code made, and the brackets that it left
    step_is : (b : List ℕ) (r : declared-step.Step) → Moves include k brackets d b r → step_to r b ≡ step_of include (bracket_of t) inner
    step_is b r v = (v t (sym read.same)).step

    -- the brackets that the code left are those that the token leaves
    brackets-are : (b : List ℕ) (r : declared-step.Step) → Moves include k brackets d b r → b ≡ pushed (bracket_of t) brackets d
    brackets-are b r v = (v t (sym read.same)).store

    module _ {z : List ℕ} (ez : z ≡ sets store (fill + text) (token_text (token_of (lent_from s taken)))) where
      -- its text is in the store
      text-is : z ≡ sets store (fill + text) (text_of t)
      unfolding token_text
      text-is = ez ∙ ap (λ l. sets store (fill + text) (token_text (token_of l))) (rest s taken) ∙ ap (λ p. sets store (fill + text) (token_text p)) read.reads

      -- a token at which the statement does not go on leaves the stores
      unwritten : (b : List ℕ) (x : Step) → x ≡ step_of include (bracket_of t) inner → ((ds : List ℕ) → ¬ (x ≡ next ds))
          → b ≡ pushed (bracket_of t) brackets d → (z ≡ store) × (b ≡ brackets)
      unwritten b x h never u = (
        text-is ∙ ap (sets store (fill + text)) (no_text include inner t (λ ds p. never ds (h ∙ p))),
        u ∙ unpushed include inner (bracket_of t) brackets d (λ ds p. never ds (h ∙ p)),
      )

      -- the return at a token before which the statement ends
      pub ends-before : {b : List ℕ} → Moves include k brackets d b Before → Ends (Ok (record { taken = taken; count = count; text = text })) rows b z
      unfolding step_to
      ends-before {b} v =
          let h = step_is b Before v in
          let p = unwritten b before h (λ ds q. absurd (let o : ◌≡◌ {A = ℕ} 0 1 = cc in omega arith)) (brackets-are b Before v) in (
            rw (p.0, p.1)
                (sym (leaves-stop written count brackets d store fill text taken)
                ∙ whole_is _ (scan-before include ahead taken inner m t read.reads c.turns (sym h))),
            bounds-here,
          )

      -- the return at a wrong bracket: the statement ends before it, unbalanced
      pub ends-wrong : {b : List ℕ} → Moves include k brackets d b Wrong → Ends (Err (record { 0 = record { taken = taken; count = count; text = text } })) rows b z
      unfolding step_to taken_by count_by text_by
      ends-wrong {b} v =
          let h = step_is b Wrong v in
          let p = unwritten b wrong h (λ ds q. absurd (let o : ◌≡◌ {A = ℕ} 0 1 = cc in omega arith)) (brackets-are b Wrong v) in (
            rw (p.0, p.1)
                (sym (leaves-wrong written count brackets d store fill text taken)
                ∙ whole_is _ (scan-left ∙ scan-wrong include ahead taken inner m t read.reads left_over.0 (sym h))),
            record { taken = c.within; count = c.counted; text = c.long },
          )

      -- ---- its row, at place q behind it, and the l bytes of its texts
      module _ {x : List ℕ} {q : ℕ} (ex : record { bytes = x; fill = q } ≡ emits written (row_of (taken + w) (fill + text) k)) {l : ℕ} (el : l ≡ length_by k) where
        -- the row is that of the token
        row_is : record { bytes = x; fill = q } ≡ emits written (token_row (taken + skip_whitespace ahead) (fill + text) t)
        unfolding token_row
        row_is =
            ex ∙ ap (λ j. emits written (row_of (taken + j) (fill + text) k)) read.starts
            ∙ ap (λ y. emits written (row_of (taken + skip_whitespace ahead) (fill + text) y)) read.same

        -- what comes behind it, into the stores with it, leaves what it and what comes behind leave
        with_row : (b : List ℕ) (r : declared-step.Step) → Moves include k brackets d b r → (y : Statement)
            → leaves y (record { bytes = x; fill = q }) (count + 1) b (depth (bracket_of t) d) z fill (text + l)
            ≡ leaves (cons (placed include ahead taken inner m t read.reads) y) written count brackets d store fill text
        with_row b r v y =
            rw (row_is, brackets-are b r v, text-is, el ∙ length-is)
            (sym (leaves-cons written count brackets d store fill text t (taken + skip_whitespace ahead) y))

        -- the return at a token behind which the statement ends
        pub ends-behind : {b : List ℕ} → Moves include k brackets d b Behind
            → Ends (Ok (record { taken = taken + m; count = count + 1; text = text + l })) x b z
        unfolding step_to taken_by count_by text_by
        ends-behind {b} v =
            let h = step_is b Behind v in
            let y = stop (taken + m) true in (
              sym (leaves-stop (record { bytes = x; fill = q }) (count + 1) b (depth (bracket_of t) d) z fill (text + l) (taken + m))
                  ∙ with_row b Behind v y
                  ∙ whole_is _ (scan-left ∙ scan-behind include ahead taken inner m t read.reads left_over.0 (sym h)),
              record { taken = within_text; count = omega (arith, c.counted, some); text = omega (arith, long-more, el) },
            )

        -- at any other token the reader goes on behind it, with its row and text written
        pub goes : {b : List ℕ} {o : ℕ} → Moves include k brackets d b (Next o) → length x ≡ length rows → length b ≡ length brackets
            → length z ≡ length store → Running s include rows₀ brackets₀ store₀ fill x b z (taken + m) (count + 1) q o (text + l)
        unfolding step_to deep
        goes {b} {o} v lx lb lz =
            let h = step_is b (Next o) v in
            let e : o ≡ depth (bracket_of t) d = (v t (sym read.same)).deeper in
            let u = left_over.0 in
            let y : List ℕ → Statement = λ p. scan u include p (taken + m) (awaited b o) in
            let f : Statement → ℕ → Left = λ p j. leaves p (record { bytes = x; fill = q }) (count + 1) b j z fill (text + l) in
            record {
              turns = u;
              enough = omega (arith, c.enough, left_over.1, some);
              same =
                  ap (λ p. f (y p) o) (sym (drop-drop m taken s)) ∙ ap (f (y (drop m ahead))) e ∙ with_row b (Next o) v (y (drop m ahead))
                  ∙ whole_is _ (scan-left ∙ scan-next include ahead taken inner m t read.reads u (awaited b o) (sym h));
              within = within_text;
              counted = omega (arith, c.counted, some);
              nested = omega (arith, e, depth_le (bracket_of t) d, c.nested, some);
              long = omega (arith, long-more, el);
              rows_long = lx ∙ c.rows_long;
              brackets-long = lb ∙ c.brackets-long;
              store_long = lz ∙ c.store_long;
            }
