-- Turns of `more_rules`: what is left to read, into the stores as they are, leaves what all declarations leave.
use mathlib.Core.Path.{◌≡◌, refl, sym, ap, ◌∙◌}
use mathlib.Core.Bool.{Bool, true, false}
use mathlib.Core.List.{List, [], ◌∷◌, ◌++◌}
use Prim.Native.Nat.{ℕ, suc, ◌+◌, ◌-◌, ◌*◌, ◌^◌, ◌≤◌, ◌<◌}
use native.Mathlib.Nat.{add-zero}
use native.Mathlib.Omega.{arith}
use lib.Seq.{length-sets}
use lib.ListN.{length, get_or, drop, length-append, length-drop, replicate}
use Prim.Native.Char.{code as ascii}
use Rattle.combinators.specs.Choice.{is}
use Rattle.combinators.specs.Lent.{SameStores}
use Rattle.combinators.specs.declared.lent.Stores.{Stores}
use Rattle.combinators.specs.Parsed.{Parsed, ok, err, on_parsed}
use Rattle.combinators.specs.Store.{wiped, filled_part}
use Rattle.combinators.proofs.Lists.{lent_from, rest, length-rest}
use Rattle.combinators.proofs.Wiped.{wiped-none}
use Rattle.lexer.specs.TokenRow.{token_width}
use Rattle.lexer.specs.Whitespace.{skip_whitespace}
use Rattle.syntax.specs.Declaration.{Declaration}
use Rattle.syntax.specs.Layout.{declaration_width, declaration_text, declaration_rows, declaration_texts}
use Rattle.syntax.specs.Stream.{texts_many, rows_many}
use Rattle.values.specs.Layout.{Room}
use Rattle.values.proofs.Turns.{more-turns}
use Rattle.declarations.specs.Rules.{declaration_of, Rules, starts_at, more_rules, declarations_of}
use Rattle.declarations.specs.Leaving.{kept, kept_of, Used, unused, used_by, used_then, text_kept, used_more, used_rules, Leaves, leaves, declaration_answer, declaration_left, rules_answer, rules_of, more_left, rules_left, RulesRoom, MoreRoom, MoreRead}
use Rattle.std.specs.Prelude.{Option, Some, None}
use Rattle.declarations.specs.declared.rules.DeclarationRead.{DeclarationRead}
use Rattle.declarations.specs.declared.rules.RulesRead.{RulesRead}
use Rattle.declarations.proofs.Declaring.{Takes, takes}
use Rattle.declarations.proofs.LeastLengths.{semicolon-there}
use Rattle.declarations.proofs.RuleLaws.{leaves-then, more-next, more-none, more-stop}

-- ---- what is left to read leaves, where c declarations with t bytes of text were read
unfoldable pub leaves_from : Bool → ℕ → ℕ → ℕ → ℕ → ℕ → Rules → Used → List ℕ → List ℕ → List ℕ → List ℕ → Leaves RulesRead
leaves_from names at place fill c t m u rules tokens brackets store =
    leaves (record { taken = m.taken; count = c + length (rules_of names at m); text = t + length (declaration_texts (rules_of names at m)) }) (rules_of names at m) u
    rules (place + declaration_width * c) tokens brackets store (fill + t)

module _ (names : Bool) (at place fill : ℕ) where
  -- from the first declaration on, what is left is what the whole reading leaves
  from_zero : (m : Rules) (u : Used) (rules tokens brackets store : List ℕ) → leaves_from names at place fill 0 0 m u rules tokens brackets store
      ≡ leaves (rules_answer m.taken (rules_of names at m)) (rules_of names at m) u rules place tokens brackets store fill
  unfolding leaves_from rules_answer
  from_zero m u rules tokens brackets store =
      let e₁ : 0 + length (rules_of names at m) ≡ length (rules_of names at m) = omega arith in
      let e₂ : 0 + length (declaration_texts (rules_of names at m)) ≡ length (declaration_texts (rules_of names at m)) = omega arith in
      let e₃ : place + declaration_width * 0 ≡ place = omega arith in
      rw (e₁, e₂, e₃, add-zero fill)

  module _ (c t : ℕ) (rules tokens brackets store : List ℕ) where
    -- with no declaration left the stores stay, but for what was used
    from-used : (i : ℕ) (u : Used) → leaves_from names at place fill c t (record { declarations = []; taken = i }) u rules tokens brackets store
        ≡ record {
          answer = record { taken = i; count = c; text = t };
          rules = rules;
          tokens = wiped 0 (token_width * u.tokens) tokens;
          brackets = wiped 0 u.tokens brackets;
          store = wiped (fill + t) u.bytes store;
        }
    unfolding leaves_from leaves rules_of declaration_rows declaration_texts rows_many texts_many
    from-used i u = rw (add-zero c, add-zero t)

    -- with nothing left to read and nothing used, the stores and the counts stay as they are
    from-none : (i : ℕ) → leaves_from names at place fill c t (record { declarations = []; taken = i }) unused rules tokens brackets store
        ≡ record { answer = record { taken = i; count = c; text = t }; rules = rules; tokens = tokens; brackets = brackets; store = store }
    unfolding unused
    from-none i = from-used i unused ∙ rw (wiped-none 0 tokens, wiped-none 0 brackets, wiped-none (fill + t) store)

    -- of one declaration and more
    from_next : {A : Type 0} (a : A) (w : ℕ) (d : Declaration) (u v : Used) (m : Rules) → text_kept names d ≤ u.bytes
        → let one = leaves a (kept names (at + w) d ∷ []) u rules (place + declaration_width * c) tokens brackets store (fill + t) in
        leaves_from names at place fill (c + 1) (t + text_kept names d) m v one.rules one.tokens one.brackets one.store
        ≡ leaves_from names at place fill c t (record { declarations = starts_at w d ∷ m.declarations; taken = m.taken }) (used_then u (text_kept names d) v) rules tokens brackets store
    unfolding leaves_from rules_of declaration_texts texts_many text_kept kept starts_at declaration_text
    from_next a w d u v m h =
        let ds = rules_of names at m in
        let x = declaration_text (kept names (at + w) d) in
        let e₁ : c + 1 + length ds ≡ c + suc (length ds) = omega arith in
        let e₂ : t + length x + length (declaration_texts ds) ≡ t + length (x ++ declaration_texts ds) = omega (arith, length-append x (declaration_texts ds)) in
        let e₃ : place + declaration_width * (c + 1) ≡ place + declaration_width * c + declaration_width = omega arith in
        let e₄ : fill + (t + length x) ≡ fill + t + length x = omega arith in
        let e₅ : at + (w + d.start) ≡ at + w + d.start = omega arith in
        rw (e₁, e₂, e₃, e₄, e₅) (leaves-then a _ (kept names (at + w) d) ds u v rules (place + declaration_width * c) tokens brackets store (fill + t) h)

-- ---- the reader, where so many bytes were taken, declarations counted and bytes of text kept
pub record Reading (names : Bool) (at : ℕ) (s : List ℕ) (from : ℕ) (rules₀ : List ℕ) (place : ℕ) (tokens₀ brackets₀ store₀ : List ℕ) (fill : ℕ)
    (rules tokens brackets store : List ℕ) (taken count text : ℕ) : Type 0 where
  pub turns : ℕ
  pub enough : length s < taken + turns
  pub same : leaves_from names at place fill count text (more_rules turns (drop taken s) taken) (used_more names turns (drop taken s)) rules tokens brackets store
      ≡ more_left names at s from rules₀ place tokens₀ brackets₀ store₀ fill
  pub within : taken ≤ length s
  pub counted : from + count ≤ taken
  pub long : from + text ≤ taken + 2
  pub sharp : taken < length s → from + text ≤ taken
  pub rules-long : length rules ≡ length rules₀
  pub tokens-long : length tokens ≡ length tokens₀
  pub brackets-long : length brackets ≡ length brackets₀
  pub store_long : length store ≡ length store₀

-- the reader, with the stores that it was lent and as they are
pub record Going (names : Bool) (at : ℕ) (s : List ℕ) (from : ℕ) (stores₀ : Stores) (place fill : ℕ) (stores : Stores) (taken count text : ℕ) : Type 0 where
  pub same : SameStores stores₀ stores
  pub reading : Reading names at s from stores₀.rules.now place stores₀.tokens.now stores₀.brackets.now stores₀.texts.now fill stores.rules.now stores.tokens.now stores.brackets.now stores.texts.now taken count text

-- before the first further declaration nothing is counted
pub begin : (names : Bool) (at : ℕ) (s : List ℕ) (from : ℕ) (rules : List ℕ) (place : ℕ) (tokens brackets store : List ℕ) (fill : ℕ)
    → MoreRoom s from at rules place tokens brackets store fill → Reading names at s from rules place tokens brackets store fill rules tokens brackets store from 0 0
unfolding more_left
begin names at s from rules place tokens brackets store fill o =
    record {
      turns = length s;
      enough = omega (arith, o.some);
      same = from_zero names at place fill (more_rules (length s) (drop from s) from) (used_more names (length s) (drop from s)) rules tokens brackets store;
      within = o.within;
      counted = omega arith;
      long = omega arith;
      sharp = λ _. omega arith;
      rules-long = refl;
      tokens-long = refl;
      brackets-long = refl;
      store_long = refl;
    }

-- what the answer of `parse_declaration` says
record Declared (names : Bool) (p : Parsed Declaration) (n k : ℕ) : Type 0 where
  declaration : Declaration
  reads : p ≡ ok n declaration
  keeps : k ≡ text_kept names declaration

-- an answer with a declaration comes of one that reads, and has its bytes and the length of its text
declared-by : (names : Bool) (p : Parsed Declaration) (n : DeclarationRead) → Some n ≡ declaration_answer names p → Declared names p n.taken n.text
unfolding declaration_answer on_parsed
declared-by names (ok m d) n e =
    let q : n ≡ record { taken = m; text = text_kept names d } = cc in
    record { declaration = d; reads = ap (λ (r : DeclarationRead). ok r.taken d) (sym q); keeps = ap (λ (r : DeclarationRead). r.text) q }
declared-by names err n e = absurd (cc)

-- an answer without one comes of a declaration that does not read
undeclared-by : (names : Bool) (p : Parsed Declaration) → None ≡ declaration_answer names p → p ≡ err
unfolding declaration_answer on_parsed
undeclared-by names (ok m d) e = absurd (cc)
undeclared-by names err e = refl

-- what `parse_declaration` left, by what it read
module _ (names : Bool) (at : ℕ) (s rules : List ℕ) (place : ℕ) (tokens brackets store : List ℕ) (fill : ℕ) {a : Option DeclarationRead} {y x b z : List ℕ}
    (e : record { answer = a; rules = y; tokens = x; brackets = b; store = z } ≡ declaration_left names at s rules place tokens brackets store fill) where
  -- the answer is that of the declaration at the start of the text
  pub answer-is : a ≡ declaration_answer names (declaration_of s)
  unfolding declaration_left leaves
  answer-is = ap (λ (l : Leaves (Option DeclarationRead)). l.answer) e

  -- the stores keep their lengths
  pub rules-long : length y ≡ length rules
  unfolding declaration_left leaves
  rules-long = ap (λ (l : Leaves (Option DeclarationRead)). length l.rules) e ∙ length-sets rules place (declaration_rows fill (kept_of names at (declaration_of s)))

  pub tokens-long : length x ≡ length tokens
  unfolding declaration_left leaves filled_part
  tokens-long = ap (λ (l : Leaves (Option DeclarationRead)). length l.tokens) e ∙ length-sets tokens 0 (replicate (token_width * (used_by s).tokens) 0)

  pub brackets-long : length b ≡ length brackets
  unfolding declaration_left leaves filled_part
  brackets-long = ap (λ (l : Leaves (Option DeclarationRead)). length l.brackets) e ∙ length-sets brackets 0 (replicate (used_by s).tokens 0)

  pub store_long : length z ≡ length store
  unfolding declaration_left leaves filled_part
  store_long = ap (λ (l : Leaves (Option DeclarationRead)). length l.store) e ∙ length-sets (wiped fill (used_by s).bytes store) fill (declaration_texts (kept_of names at (declaration_of s))) ∙ length-sets store fill (replicate (used_by s).bytes 0)

  -- where no declaration reads, what was used is zero again
  pub none_is : declaration_of s ≡ err → {B : Type 0} (r : B)
      → ◌≡◌ {A = Leaves B} (record { answer = r; rules = y; tokens = x; brackets = b; store = z })
      (record { answer = r; rules = rules; tokens = wiped 0 (token_width * (used_by s).tokens) tokens; brackets = wiped 0 (used_by s).tokens brackets; store = wiped fill (used_by s).bytes store })
  unfolding declaration_left leaves kept_of on_parsed declaration_rows declaration_texts rows_many texts_many
  none_is h {B} r =
      let q : record { answer = a; rules = y; tokens = x; brackets = b; store = z } ≡ leaves (declaration_answer names err) [] (used_by s) rules place tokens brackets store fill = e ∙ rw h in
      ap {B = Leaves B} (λ (l : Leaves (Option DeclarationRead)). record { answer = r; rules = l.rules; tokens = l.tokens; brackets = l.brackets; store = l.store }) q

  -- where one reads, its row and its text are left
  pub one-is : (n : ℕ) (d : Declaration) → declaration_of s ≡ ok n d
      → record { answer = a; rules = y; tokens = x; brackets = b; store = z } ≡ leaves a (kept names at d ∷ []) (used_by s) rules place tokens brackets store fill
  unfolding declaration_left leaves kept_of on_parsed
  one-is n d h =
      let q : record { answer = a; rules = y; tokens = x; brackets = b; store = z }
      ≡ leaves (declaration_answer names (ok n d)) (kept names at d ∷ []) (used_by s) rules place tokens brackets store fill = e ∙ rw h
      in
      ap (λ (l : Leaves (Option DeclarationRead)). record { answer = a; rules = l.rules; tokens = l.tokens; brackets = l.brackets; store = l.store }) q

-- ---- a turn of `more_rules`: a ';' and a declaration behind it, or the end
module _ {names : Bool} {at : ℕ} {s : List ℕ} {from : ℕ} {rules₀ : List ℕ} {place : ℕ} {tokens₀ brackets₀ store₀ : List ℕ} {fill : ℕ}
    {rules tokens brackets store : List ℕ} {taken count text : ℕ}
    (c : Reading names at s from rules₀ place tokens₀ brackets₀ store₀ fill rules tokens brackets store taken count text)
    (o : MoreRoom s from at rules₀ place tokens₀ brackets₀ store₀ fill) where
  -- what a return leaves, and its bounds
  abbrev Ends : RulesRead → List ℕ → List ℕ → List ℕ → List ℕ → Type 0
  Ends r y x b z = (record { answer = r; rules = y; tokens = x; brackets = b; store = z } ≡ more_left names at s from rules₀ place tokens₀ brackets₀ store₀ fill) × MoreRead s from r

  abbrev here : RulesRead
  here = record { taken = taken; count = count; text = text }

  -- the counts so far are within the bounds that a caller is told
  bounds : MoreRead s from here
  bounds = record { count = omega (arith, c.counted, c.within); text = omega (arith, c.long, c.within) }

  -- what is ahead, once it is known
  ahead-is : (m : Rules) (u : Used) → more_rules c.turns (drop taken s) taken ≡ m → used_more names c.turns (drop taken s) ≡ u
      → leaves_from names at place fill count text m u rules tokens brackets store ≡ more_left names at s from rules₀ place tokens₀ brackets₀ store₀ fill
  ahead-is m u em eu = rw (← em, ← eu) c.same

  -- without a semicolon the reading ends with what was read
  pub ends-here : {t : Bool} → t ≡ is (get_or s taken 0) (ascii ";") → t ≡ false → {r : RulesRead} → r ≡ here → Ends r rules tokens brackets store
  ends-here et f er =
      let p = more-stop names s taken (sym et ∙ f) c.turns in
      rw er (sym (from-none names at place fill count text rules tokens brackets store taken) ∙ ahead-is _ _ p.0 p.1, bounds)

  -- ';' and white space up to w
  module _ {t : Bool} (et : t ≡ is (get_or s taken 0) (ascii ";")) (f : t ≡ true) where
    -- the place of the next row fits a word
    pub rows_fit : place + declaration_width * count < 2 ^ 64
    rows_fit = omega (arith, semicolon-there s taken et f, c.counted, o.row-bits)

    -- where a ';' is left, the stores have the room that was asked for
    stores-room : Room (length s - from) fill tokens₀ brackets₀ store₀
    stores-room = o.room (omega (arith, semicolon-there s taken et f, c.counted))

    -- the fill behind the texts so far fits a word
    pub fill-fits : fill + text < 2 ^ 64
    fill-fits = let l = semicolon-there s taken et f in omega (arith, c.sharp l, stores-room.bits)

    -- a turn is left, as a byte is
    left_over : (j : ℕ) × (suc j ≡ c.turns)
    left_over = more-turns (length s) taken c.turns c.enough c.within

    module _ {w : ℕ} (ew : w ≡ taken + 1 + skip_whitespace (drop (taken + 1) s)) (wl : w ≤ length s) where
      -- the place of the next declaration in the whole sheet fits a word
      pub start_fits : at + w < 2 ^ 64
      start_fits = omega (arith, o.start-bits)

      -- the stores have room for a declaration in the rest that is lent, behind the rows and texts so far
      pub next-room : RulesRoom (lent_from s w) (at + w) rules (place + declaration_width * count) tokens brackets store (fill + text)
      next-room =
          let l = semicolon-there s taken et f in
          let q = stores-room in
          let h = c.sharp l in
          let k = length-rest s w in
          let n = c.counted in
          record {
            room =
                record {
                  for-tokens = omega (arith, q.for-tokens, c.tokens-long);
                  for-brackets = omega (arith, q.for-brackets, c.brackets-long);
                  for-texts = omega (arith, q.for-texts, c.store_long);
                  bits = omega (arith, q.bits);
                };
            for-rules = omega (arith, o.for-rules, c.rules-long);
            row-bits = omega (arith, o.row-bits);
            start-bits = omega (arith, o.start-bits);
          }

      -- what `parse_declaration` left: the declaration, written behind those before
      module _ {a : Option DeclarationRead} {y x b z : List ℕ}
          (e : record { answer = a; rules = y; tokens = x; brackets = b; store = z }
          ≡ declaration_left names (at + w) (lent_from s w) rules (place + declaration_width * count) tokens brackets store (fill + text)) where
        -- what is left is that of the text from w on
        left_is : record { answer = a; rules = y; tokens = x; brackets = b; store = z }
            ≡ declaration_left names (at + w) (drop w s) rules (place + declaration_width * count) tokens brackets store (fill + text)
        left_is = e ∙ ap (λ l. declaration_left names (at + w) l rules (place + declaration_width * count) tokens brackets store (fill + text)) (rest s w)

        -- the answer is that of the declaration at w
        said : a ≡ declaration_answer names (declaration_of (drop w s))
        said = answer-is names (at + w) (drop w s) rules (place + declaration_width * count) tokens brackets store (fill + text) left_is

        -- where no declaration reads behind a semicolon the reading ends with what was read
        pub ends-none : a ≡ None → {r : RulesRead} → r ≡ here → Ends r y x b z
        ends-none ea {r} er =
            let n = undeclared-by names (declaration_of (drop w s)) (sym ea ∙ said) in
            let p = more-none names s taken w ew (sym et ∙ f) left_over.0 n in
            let q = left_over.1 in
            rw er (
              none_is names (at + w) (drop w s) rules (place + declaration_width * count) tokens brackets store (fill + text) left_is n here
                  ∙ sym (from-used names at place fill count text rules tokens brackets store taken (used_by (drop w s)))
                  ∙ ahead-is _ _ (ap (λ l. more_rules l (drop taken s) taken) (sym q) ∙ p.0) (ap (λ l. used_more names l (drop taken s)) (sym q) ∙ p.1),
              bounds,
            )

        -- a declaration was read: it is counted, and the loop goes on behind it
        module _ {n k : ℕ} (ea : a ≡ Some (record { taken = n; text = k })) where
          -- the declaration at w reads, with the bytes and the length of text that are answered
          next : Declared names (declaration_of (drop w s)) n k
          next = declared-by names (declaration_of (drop w s)) _ (sym ea ∙ said)

          -- what it takes and keeps is within its bounds
          took : Takes names (drop w s) n next.declaration
          took = takes names (drop w s) n next.declaration next.reads

          -- the declaration ends within the text
          pub next-within : w + n ≤ length s
          next-within = omega (arith, took.within, length-drop w s)

          -- reading goes on behind where it was
          pub next_more : taken < w + n
          next_more = omega arith

          -- the texts so far are at most four bytes longer than the text
          pub next-text : text + k ≤ length s + 4
          next-text = omega (arith, took.text, next.keeps, next-within, c.long, c.within)

          -- with the declaration counted, what is left to read still leaves what all declarations leave
          pub goes : Reading names at s from rules₀ place tokens₀ brackets₀ store₀ fill y x b z (w + n) (count + 1) (text + k)
          goes =
              let p = more-next names s taken w ew (sym et ∙ f) left_over.0 n next.declaration next.reads in
              let q = left_over.1 in
              let l = semicolon-there s taken et f in
              let d = next.declaration in
              let i = one-is names (at + w) (drop w s) rules (place + declaration_width * count) tokens brackets store (fill + text) left_is n d next.reads in
              let m = more_rules left_over.0 (drop (w + n) s) (w + n) in
              let u = used_more names left_over.0 (drop (w + n) s) in
              record {
                turns = left_over.0;
                enough = omega (arith, c.enough);
                same =
                    rw next.keeps
                    (ap (λ (r : Leaves (Option DeclarationRead)). leaves_from names at place fill (count + 1) (text + text_kept names d) m u r.rules r.tokens r.brackets r.store) i
                    ∙ from_next names at place fill count text rules tokens brackets store a w d (used_by (drop w s)) u m took.used
                    ∙ ahead-is _ _ (ap (λ j. more_rules j (drop taken s) taken) (sym q) ∙ p.0) (ap (λ j. used_more names j (drop taken s)) (sym q) ∙ p.1));
                within = next-within;
                counted = omega (arith, c.counted);
                long = omega (arith, took.text, next.keeps, c.sharp l);
                sharp = λ g. omega (arith, took.sharp (omega (arith, length-drop w s)), next.keeps, c.sharp l);
                rules-long = rules-long names (at + w) (drop w s) rules (place + declaration_width * count) tokens brackets store (fill + text) left_is ∙ c.rules-long;
                tokens-long = tokens-long names (at + w) (drop w s) rules (place + declaration_width * count) tokens brackets store (fill + text) left_is ∙ c.tokens-long;
                brackets-long = brackets-long names (at + w) (drop w s) rules (place + declaration_width * count) tokens brackets store (fill + text) left_is ∙ c.brackets-long;
                store_long = store_long names (at + w) (drop w s) rules (place + declaration_width * count) tokens brackets store (fill + text) left_is ∙ c.store_long;
              }

-- ---- `parse_rules`, from what `parse_declaration` left
module _ (names : Bool) (s : List ℕ) where
  -- where the first declaration does not read there is none
  rules-none : declaration_of s ≡ err → (declarations_of s ≡ record { declarations = []; taken = 0 }) × (used_rules names s ≡ used_by s)
  unfolding declarations_of used_rules on_parsed
  rules-none e = (rw e, rw e)

  -- where it reads, the others are read behind it
  rules-next : (n : ℕ) (d : Declaration) → declaration_of s ≡ ok n d →
      let m = more_rules (length s) (drop n s) n in
      (declarations_of s ≡ record { declarations = d ∷ m.declarations; taken = m.taken }) × (used_rules names s ≡ used_then (used_by s) (text_kept names d) (used_more names (length s) (drop n s)))
  unfolding declarations_of used_rules on_parsed
  rules-next n d e = (rw e, rw e)

module _ (names : Bool) (at : ℕ) (s rules : List ℕ) (place : ℕ) (tokens brackets store : List ℕ) (fill : ℕ) (o : RulesRoom s at rules place tokens brackets store fill)
    {a : Option DeclarationRead} {y x b z : List ℕ}
    (e : record { answer = a; rules = y; tokens = x; brackets = b; store = z } ≡ declaration_left names at s rules place tokens brackets store fill) where
  -- without a first declaration nothing is left
  pub all_none : a ≡ None → {r : RulesRead} → r ≡ record { taken = 0; count = 0; text = 0 }
      → record { answer = r; rules = y; tokens = x; brackets = b; store = z } ≡ rules_left names at s rules place tokens brackets store fill
  unfolding rules_left leaves rules_answer rules_of declaration_rows declaration_texts rows_many texts_many
  all_none ea {r} er =
      let n = undeclared-by names (declaration_of s) (sym ea ∙ answer-is names at s rules place tokens brackets store fill e) in
      let p = rules-none names s n in
      none_is names at s rules place tokens brackets store fill e n r ∙ rw (er, p.0, p.1)

  -- the first declaration was read: others may follow behind a ';'
  module _ {n k : ℕ} (ea : a ≡ Some (record { taken = n; text = k })) where
    -- the first declaration reads, with the bytes and the length of text that are answered
    one-said : Declared names (declaration_of s) n k
    one-said = declared-by names (declaration_of s) _ (sym ea ∙ answer-is names at s rules place tokens brackets store fill e)

    abbrev d : Declaration
    d = one-said.declaration

    -- what the first declaration takes and keeps is within its bounds
    one-took : Takes names s n d
    one-took = takes names s n d one-said.reads

    -- the fill behind its text fits a word
    pub behind-fits : fill + k < 2 ^ 64
    behind-fits = omega (arith, one-took.text, one-said.keeps, one-took.within, o.room.bits)

    -- behind the first declaration the stores have room for more
    pub behind-room : MoreRoom s n at y (place + declaration_width) x b z (fill + k)
    behind-room =
        let q = o.room in
        let t = one-took in
        record {
          some = t.some;
          within = t.within;
          room =
              λ l. let h = t.sharp l in
              let j = one-said.keeps in
              record {
                for-tokens = omega (arith, q.for-tokens, tokens-long names at s rules place tokens brackets store fill e);
                for-brackets = omega (arith, q.for-brackets, brackets-long names at s rules place tokens brackets store fill e);
                for-texts = omega (arith, q.for-texts, store_long names at s rules place tokens brackets store fill e);
                bits = omega (arith, q.bits);
              };
          for-rules = omega (arith, o.for-rules, rules-long names at s rules place tokens brackets store fill e, t.some, t.within);
          row-bits = omega (arith, o.row-bits, t.some, t.within);
          start-bits = o.start-bits;
        }

    -- and what `more_rules` left
    module _ {r : RulesRead} {y' x' b' z' : List ℕ}
        (em : record { answer = r; rules = y'; tokens = x'; brackets = b'; store = z' } ≡ more_left names at s n y (place + declaration_width) x b z (fill + k))
        (mr : MoreRead s n r) where
      -- the length of all their texts fits a word
      pub text-fits : r.text + k < 2 ^ 64
      text-fits = omega (arith, mr.text, one-took.text, one-said.keeps, one-took.within, o.start-bits)

      abbrev more : Rules
      more = more_rules (length s) (drop n s) n

      abbrev behind : List Declaration
      behind = rules_of names at more

      abbrev v : Used
      v = used_more names (length s) (drop n s)

      abbrev one : Leaves (Option DeclarationRead)
      one = leaves a (kept names at d ∷ []) (used_by s) rules place tokens brackets store fill

      -- from the stores that the first one left
      more_left_lem : record { answer = r; rules = y'; tokens = x'; brackets = b'; store = z' }
          ≡ leaves (rules_answer more.taken behind) behind v one.rules (place + declaration_width) one.tokens one.brackets one.store (fill + text_kept names d)
      unfolding more_left
      more_left_lem =
          em
          ∙ ap (λ (l : Leaves (Option DeclarationRead)). leaves (rules_answer more.taken behind) behind v l.rules (place + declaration_width) l.tokens l.brackets l.store (fill + k))
          (one-is names at s rules place tokens brackets store fill e n d one-said.reads)
          ∙ ap (λ j. leaves (rules_answer more.taken behind) behind v one.rules (place + declaration_width) one.tokens one.brackets one.store (fill + j)) one-said.keeps

      -- the counts of the first declaration and of those behind it add up to the answer
      answer-all : record { taken = r.taken; count = r.count + 1; text = r.text + k } ≡ rules_answer more.taken (kept names at d ∷ behind)
      unfolding rules_answer leaves declaration_texts texts_many text_kept kept declaration_text
      answer-all =
          let q : r ≡ rules_answer more.taken behind = ap (λ (l : Leaves RulesRead). l.answer) more_left_lem in
          let w = declaration_text (kept names at d) in
          let e₁ : length behind + 1 ≡ suc (length behind) = omega arith in
          let e₂ : length (declaration_texts behind) + k ≡ length (w ++ declaration_texts behind) = omega (arith, one-said.keeps, length-append w (declaration_texts behind)) in
          rw (q, e₁, e₂)

      -- the return where the first declaration was read: it and those behind it leave what all declarations leave
      pub all_left : {q : RulesRead} → q ≡ record { taken = r.taken; count = r.count + 1; text = r.text + k }
          → record { answer = q; rules = y'; tokens = x'; brackets = b'; store = z' } ≡ rules_left names at s rules place tokens brackets store fill
      all_left {q} eq =
          let f = rules-next names s n d one-said.reads in
          let g : record { answer = q; rules = y'; tokens = x'; brackets = b'; store = z' }
          ≡ leaves q behind v one.rules (place + declaration_width) one.tokens one.brackets one.store (fill + text_kept names d) =
          unfold leaves in ap (λ (l : Leaves RulesRead). record { answer = q; rules = l.rules; tokens = l.tokens; brackets = l.brackets; store = l.store }) more_left_lem
          in
          let h : leaves q behind v one.rules (place + declaration_width) one.tokens one.brackets one.store (fill + text_kept names d)
          ≡ leaves q (kept names at d ∷ behind) (used_then (used_by s) (text_kept names d) v) rules place tokens brackets store fill =
          unfold text_kept kept declaration_text in leaves-then a q (kept names at d) behind (used_by s) v rules place tokens brackets store fill one-took.used
          in
          let i : leaves (rules_answer more.taken (kept names at d ∷ behind)) (kept names at d ∷ behind) (used_then (used_by s) (text_kept names d) v) rules place tokens brackets store fill
          ≡ rules_left names at s rules place tokens brackets store fill =
          unfold rules_left rules_of in rw (f.0, f.1)
          in
          g ∙ h
          ∙ ap (λ c. leaves c (kept names at d ∷ behind) (used_then (used_by s) (text_kept names d) v) rules place tokens brackets store fill) (eq ∙ answer-all)
          ∙ i
