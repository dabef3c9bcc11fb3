-- Turns of `parse_stylesheet`: what was gathered and what is left to read make the whole sheet; a turn adds the rules of a statement, or ends.
use mathlib.Core.Path.{◌≡◌, refl, ap, sym, subst, ◌∙◌}
use mathlib.Core.List.{List, [], ◌++◌, map}
use Prim.Native.Nat.{ℕ, zero, suc, ◌+◌, ◌-◌, ◌*◌, ◌≤◌, ◌<◌}
use native.Mathlib.Nat.{zero-add}
use native.Mathlib.Omega.{arith}
use lib.ListN.{length, drop, length-drop}
use lib.Seq.{sets, drop-drop}
use Rattle.std.specs.Prelude.{Some, None, Ok, Err}
use Rattle.combinators.specs.Choice.{pick, or, and, is, within}
use Rattle.combinators.specs.Parsed as parsed
use Rattle.combinators.specs.Parsed.{err, on_parsed}
use Rattle.combinators.specs.Repeat.{many, took}
use Rattle.combinators.specs.Lent.{SameStores}
use Rattle.combinators.specs.declared.lent.Stores.{Stores}
use Rattle.combinators.specs.Store.{wiped, Zeros}
use Rattle.combinators.proofs.Lists.{lent_from, rest, nil-of, length-rest}
use Rattle.characters.specs.Utf8 as utf8
use Rattle.lexer.specs.Name as name
use Rattle.lexer.specs.Whitespace.{skip_whitespace, whitespace_item, is_whitespace, comment_of}
use Rattle.syntax.specs.RuleLayout.{rule_row, rule_text, rule_rows, rule_texts}
use Rattle.syntax.specs.Selector.{RuleSet}
use Rattle.syntax.specs.Stream.{rows_many}
use Rattle.syntax.proofs.RowSizes.{length-rules}
use Rattle.selectors.specs.Outcome.{Outcome, reads, fails, panics, on_outcome, behind, or_else}
use Rattle.selectors.specs.Selector as selector
use Rattle.selectors.specs.SelectorList.{selectors_of}
use Rattle.sheets.specs.Sheet.{spaced, block_of, ruleset_of, at_rule_of, statements_of, moved_by, moved_to, sheet_from, sheet_of}
use Rattle.selectors.specs.Reading.{reading, many_reading, written}
use Rattle.sheets.specs.Rules.{rule_width, RuleRoom, SheetRoom}
use Rattle.selectors.proofs.AllLaws.{where-read, where-panics}
use Rattle.selectors.proofs.Gathering.{Gathered, gathered_none, gathered-more, gathered-as, rules-zeros, store-zeros, rules-long, store_long, many_read, many-panics}
use Rattle.selectors.proofs.ReadingLaws.{Reading, ManyReading, panic_at, sized, Left, LeftMany, Found, found, nothing, panicked}
use Rattle.sheets.proofs.SheetBounds.{RulesKeep, moved_keeps}

-- ---- no statement at the end of a text
-- no name reads at the end of a text
no_name : name.ident_of [] ≡ err
unfolding name.ident_of name.name_of name.name_from name.dash name.nmstart_of name.folded_char name.ident_escape_of name.escaped_of name.behind_one name.lower name.is_nmstart skip_whitespace whitespace_item is_whitespace comment_of parsed.behind many took utf8.taken_of utf8.scalar_of utf8.scalar_by utf8.lead_of pick or and is within
no_name = refl

-- no white space begins at the end of a text
no-space : skip_whitespace [] ≡ 0
unfolding skip_whitespace many took whitespace_item is_whitespace comment_of pick or and is
no-space = refl

-- no selector reads at the end of a text
no-selector : selector.selector_of [] ≡ fails
unfolding selector.selector_of selector.body_of selector.with_element_of selector.without_element_of selector.some_of selector.components_from selector.components_of on_outcome or_else on_parsed pick is
no-selector = rw no_name refl

-- so no rule reads there
no-rule : ruleset_of [] ≡ fails
unfolding ruleset_of selectors_of block_of spaced on_outcome behind pick is
no-rule = rw (no-space, no-selector) refl

-- no at-rule reads there either
no-at-rule : at_rule_of [] ≡ fails
unfolding at_rule_of pick is
no-at-rule = refl

-- so no statement reads at the end of a text
no-statement : statements_of [] ≡ fails
unfolding statements_of or_else behind on_outcome
no-statement = rw (no-rule, no-at-rule) refl

-- at the end of the text nothing is read
pub no-sheet : (t at : ℕ) → sheet_from t [] at ≡ reads at []
unfolding sheet_from on_outcome
no-sheet zero at = refl
no-sheet (suc t) at = rw no-statement refl

-- ---- one statement, and the sheet behind it
-- a turn by what the statement says where it stands
by-moved : (o : Outcome (List RuleSet)) (at : ℕ) (g : ℕ → Outcome (List RuleSet))
    → on_outcome o (λ n rs. behind 0 (g n) (λ more. map (moved_by at) rs ++ more)) (reads at []) (λ p. panics (at + p))
    ≡ on_outcome (moved_to at o) (λ n rs. behind 0 (g n) (λ more. rs ++ more)) (reads at []) (λ p. panics (at + p))
unfolding moved_to behind on_outcome
by-moved (reads n rs) at g =
    let e : 0 + n ≡ n = omega arith in
    rw e refl
by-moved fails at g = refl
by-moved (panics p) at g =
    let e : 0 + p ≡ p = omega arith in
    rw e refl

module _ (s : List ℕ) (at : ℕ) where
  -- a sheet with turns left is what its first statement says, and the sheet behind it
  turn : (t : ℕ) → sheet_from (suc t) s at
      ≡ on_outcome (moved_to at (statements_of s)) (λ n rs. behind 0 (sheet_from t (drop n s) (at + n)) (λ more. rs ++ more)) (reads at []) (λ p. panics (at + p))
  unfolding sheet_from
  turn t = by-moved (statements_of s) at (λ n. sheet_from t (drop n s) (at + n))

  -- where the statement reads, its rules come before those of the sheet behind it
  turn-reads : (n : ℕ) (rs : List RuleSet) → moved_to at (statements_of s) ≡ reads n rs → (t : ℕ) → 0 < t
      → sheet_from t s at ≡ behind 0 (sheet_from (t - 1) (drop n s) (at + n)) (λ more. rs ++ more)
  unfolding on_outcome
  turn-reads n rs e zero l = absurd (omega arith)
  turn-reads n rs e (suc t) l =
      let d : suc t - 1 ≡ t = omega arith in
      turn t ∙ rw (e, d) refl

  -- where no statement reads, the sheet ends here, with no more rules
  turn-fails : moved_to at (statements_of s) ≡ fails → (t : ℕ) → sheet_from t s at ≡ reads at []
  unfolding sheet_from on_outcome
  turn-fails e zero = refl
  turn-fails e (suc t) = turn t ∙ rw e refl

  -- where the crate panics in the statement, it panics in the sheet, so many bytes on
  turn-panics : (p : ℕ) → moved_to at (statements_of s) ≡ panics p → (t : ℕ) → 0 < t → sheet_from t s at ≡ panics (at + p)
  unfolding on_outcome
  turn-panics p e zero l = absurd (omega arith)
  turn-panics p e (suc t) l = turn t ∙ rw e refl

-- ---- the reader, where so many bytes were taken
pub record Reading-on (s rules₀ tokens₀ brackets₀ store₀ rules tokens brackets store : List ℕ) (taken count numbers text : ℕ) : Type 0 where
  turns : ℕ
  enough : length s ≤ taken + turns
  gathered : Gathered rule_row rule_text (sheet_of s) (sheet_from turns (drop taken s) taken) rules₀ 0 store₀ 0 0 rules store count numbers text
  pub tokens-kept : tokens ≡ tokens₀
  pub brackets-kept : brackets ≡ brackets₀
  pub within : taken ≤ length s
  pub counted : count ≤ taken
  pub wide : numbers ≤ rule_width * taken
  pub long : text ≤ taken

-- the reader, with the stores that it was lent and as they are
pub record Going-on (s : List ℕ) (stores₀ stores : Stores) (taken count numbers text : ℕ) : Type 0 where
  pub same : SameStores stores₀ stores
  pub reading : Reading-on s stores₀.rules.now stores₀.tokens.now stores₀.brackets.now stores₀.texts.now stores.rules.now stores.tokens.now stores.brackets.now stores.texts.now taken count numbers text

-- before the first statement nothing is gathered
pub begin : (s rules tokens brackets store : List ℕ) → Reading-on s rules tokens brackets store rules tokens brackets store 0 0 0 0
unfolding sheet_of
begin s rules tokens brackets store =
    record {
      turns = length s;
      enough = omega arith;
      gathered = gathered_none rule_row rule_text (sheet_of s) rules 0 store 0;
      tokens-kept = refl;
      brackets-kept = refl;
      within = omega arith;
      counted = omega arith;
      wide = omega arith;
      long = omega arith;
    }

-- what a return leaves
abbrev pub Ends : List ℕ → List ℕ → List ℕ → List ℕ → List ℕ → ManyReading → List ℕ → List ℕ → List ℕ → List ℕ → Type 0
Ends s rules tokens brackets store r y x b z =
    (r ≡ many_reading length (rule_rows 0) rule_texts (sheet_of s))
    × ((y ≡ sets rules 0 (written (rule_rows 0) (sheet_of s))) × ((x ≡ tokens) × ((b ≡ brackets) × (z ≡ sets store 0 (written rule_texts (sheet_of s))))))

module _ {s rules₀ tokens₀ brackets₀ store₀ rules tokens brackets store : List ℕ} {taken count numbers text : ℕ}
    (i : Reading-on s rules₀ tokens₀ brackets₀ store₀ rules tokens brackets store taken count numbers text) where
  -- the store of rules is as long as at first
  pub rules-kept : length rules ≡ length rules₀
  rules-kept = rules-long i.gathered

  -- the text store is as long as at first
  pub store_kept : length store ≡ length store₀
  store_kept = store_long i.gathered

  -- the store of tokens is as long as at first
  pub tokens-long : length tokens ≡ length tokens₀
  tokens-long = ap length i.tokens-kept

  -- the store of brackets is as long as at first
  pub brackets-long : length brackets ≡ length brackets₀
  brackets-long = ap length i.brackets-kept

  -- no more is read: all were
  all_read : sheet_from i.turns (drop taken s) taken ≡ reads taken []
      → LeftMany length (rule_rows 0) rule_texts (sheet_of s) rules₀ 0 store₀ 0 (Ok (sized taken count numbers text)) rules store
  unfolding rule_rows rule_texts
  all_read e = many_read i.gathered taken taken e (omega arith)

  -- at the end of the text, what was gathered is the whole sheet
  pub at-end : length s ≤ taken → Ends s rules₀ tokens₀ brackets₀ store₀ (Ok (sized taken count numbers text)) rules tokens brackets store
  at-end l =
      let e : drop taken s ≡ [] = nil-of (drop taken s) (omega (arith, length-drop taken s)) in
      let a = all_read (rw e (no-sheet i.turns taken)) in
      (a.0, (a.1.0, (i.tokens-kept, (i.brackets-kept, a.1.1))))

  module _ (l : taken < length s) (o : SheetRoom s rules₀ tokens₀ brackets₀ store₀) where
    -- the rest that is lent
    abbrev lent : List ℕ
    lent = lent_from s taken

    -- where bytes are left, turns are left
    some-turns : 0 < i.turns
    some-turns = omega (arith, i.enough)

    -- room for the next
    pub next-room : RuleRoom lent taken rules numbers tokens brackets store text
    next-room =
        let w = o.work in
        let h = i.long in
        record {
          rules-zeros = subst (Zeros rules) (zero-add numbers) (rules-zeros i.gathered o.rules-zeros);
          for-rules = omega (arith, o.for-rules, i.wide, length-rest s taken, rules-kept);
          row-bits = omega (arith, o.row-bits, rules-kept);
          start-bits = omega (arith, w.text-bits, length-rest s taken);
          work =
              record {
                tokens-zeros = rw i.tokens-kept w.tokens-zeros;
                brackets-zeros = rw i.brackets-kept w.brackets-zeros;
                store-zeros = subst (Zeros store) (zero-add text) (store-zeros i.gathered w.store-zeros);
                for-tokens = omega (arith, w.for-tokens, length-rest s taken, tokens-long);
                for-brackets = omega (arith, w.for-brackets, length-rest s taken, brackets-long);
                for-texts = omega (arith, w.for-texts, h, length-rest s taken, store_kept);
                text-bits = omega (arith, w.text-bits, h, length-rest s taken);
              };
        }

    abbrev statements : Outcome (List RuleSet)
    statements = moved_to taken (statements_of lent)

    -- what `parse_statement` left: the rules of the statement, written behind those before
    module _ {r : Reading} {y x b z : List ℕ} (e : (r ≡ reading length (rule_rows text) rule_texts statements)
        × ((y ≡ sets rules numbers (written (rule_rows text) statements)) × ((x ≡ tokens) × ((b ≡ brackets) × (z ≡ sets store text (written rule_texts statements)))))) where
      -- its answer, rows and texts, without the other stores
      left : Left length (rule_rows text) rule_texts statements rules numbers store text r y z
      left = (e.0, (e.1.0, e.1.1.1.1))

      -- the store of tokens is as it was at first
      tokens-same : x ≡ tokens₀
      tokens-same = e.1.1.0 ∙ i.tokens-kept

      -- the store of brackets is as it was at first
      brackets-same : b ≡ brackets₀
      brackets-same = e.1.1.1.0 ∙ i.brackets-kept

      -- where no statement follows, those that were read so far are the whole sheet
      pub no_more : r ≡ Ok None → Ends s rules₀ tokens₀ brackets₀ store₀ (Ok (sized taken count numbers text)) y x b z
      no_more g =
          let n = nothing _ _ _ _ _ _ _ _ left g in
          let a = all_read (ap (λ (t : List ℕ). sheet_from i.turns t taken) (sym (rest s taken)) ∙ turn-fails lent taken n.0 i.turns) in
          (a.0, (n.1.0 ∙ a.1.0, (tokens-same, (brackets-same, n.1.1 ∙ a.1.1))))

      -- the crate panics in the statement: what was read before is wiped
      module _ {p : ℕ} (g : r ≡ Err (panic_at p)) where
        -- the byte where it panics lies within the text
        pub panic-fits : taken + p ≤ length s
        panic-fits = omega (arith, where-panics (length lent) _ statements p (panicked _ _ _ _ _ _ _ _ left g).0 (moved_keeps taken lent), length-rest s taken, i.within)

        -- the return where the crate panics: what was written is wiped, and nothing is kept
        pub panics-left : {y' z' : List ℕ} → y' ≡ wiped 0 numbers y → z' ≡ wiped 0 text z → Ends s rules₀ tokens₀ brackets₀ store₀ (Err (panic_at (taken + p))) y' x b z'
        unfolding rule_rows rule_texts
        panics-left ey ez =
            let n = panicked _ _ _ _ _ _ _ _ left g in
            let h = ap (λ (t : List ℕ). sheet_from i.turns t taken) (sym (rest s taken)) ∙ turn-panics lent taken p n.0 i.turns some-turns in
            let a = many-panics i.gathered o.rules-zeros o.work.store-zeros (ey ∙ ap (wiped 0 numbers) n.1.0) (ez ∙ ap (wiped 0 text) n.1.1) (taken + p) (taken + p) h (omega arith) in
            (a.0, (a.1.0, (tokens-same, (brackets-same, a.1.1))))

      -- the statement reads: its rules are added to those before
      module _ {n more row kept : ℕ} (g : r ≡ Ok (Some (sized n more row kept))) where
        -- the rules that were read, with their counts, rows and texts
        got : Found length (rule_rows text) rule_texts statements rules numbers store text y z n more row kept
        got = found _ _ _ _ _ _ _ _ left g

        -- how much there is of them, by the bytes that they take
        keeps : RulesKeep lent n got.value
        keeps = where-read (length lent) (RulesKeep lent) statements n got.value got.reads-it (moved_keeps taken lent)

        -- a statement takes a byte or more
        pub next-later : 1 ≤ n
        next-later = keeps.some

        -- it ends within the text
        pub next_fits : taken + n ≤ length s
        next_fits = omega (arith, keeps.within, length-rest s taken, i.within)

        -- there are no more rules than bytes taken
        pub next-count : count + more ≤ taken + n
        next-count = omega (arith, i.counted, got.counts, keeps.counted)

        -- the rows have no more numbers than the rows of a rule for each byte taken
        pub next-numbers : numbers + row ≤ rule_width * (taken + n)
        next-numbers = omega (arith, i.wide, got.rows, length-rules text got.value, keeps.wide)

        -- the texts have no more bytes than were taken
        pub next-text : text + kept ≤ taken + n
        next-text = omega (arith, i.long, got.texts, keeps.long)

        -- with the statement's rules gathered, the sheet behind it is left to read
        next-gathered : Gathered rule_row rule_text (sheet_of s) (sheet_from (i.turns - 1) (drop (taken + n) s) (taken + n)) rules₀ 0 store₀ 0 0 y z (count + more) (numbers + row) (text + kept)
        unfolding rule_rows rule_texts
        next-gathered =
            let rs = got.value in
            let q : drop n lent ≡ drop (taken + n) s = ap (drop n) (rest s taken) ∙ drop-drop n taken s in
            gathered-as (gathered-more i.gathered 0 rs (sheet_from (i.turns - 1) (drop (taken + n) s) (taken + n)) y z
            (ap (λ (t : List ℕ). sheet_from i.turns t taken) (sym (rest s taken)) ∙ turn-reads lent taken n rs got.reads-it i.turns some-turns ∙ rw q refl)
            (rw (zero-add numbers, zero-add text) got.rules-are) (rw (zero-add text) got.store_is))
            refl (omega (arith, got.counts)) (omega (arith, got.rows, ap (λ (f : ℕ). length (rows_many rule_row rule_text f rs)) (zero-add text))) (omega (arith, got.texts))

        -- so the loop goes on behind the statement
        pub goes : Reading-on s rules₀ tokens₀ brackets₀ store₀ y x b z (taken + n) (count + more) (numbers + row) (text + kept)
        goes =
            record {
              turns = i.turns - 1;
              enough = omega (arith, i.enough, next-later);
              gathered = next-gathered;
              tokens-kept = tokens-same;
              brackets-kept = brackets-same;
              within = next_fits;
              counted = next-count;
              wide = next-numbers;
              long = next-text;
            }
