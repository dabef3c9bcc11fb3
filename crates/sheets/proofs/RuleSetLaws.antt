-- A rule: its selectors, its block, and the head of its row, which is written last.
use mathlib.Core.Path.{◌≡◌, refl, sym, ap, ◌∙◌}
use mathlib.Core.List.{List, [], ◌∷◌, ◌++◌, map}
use Prim.Native.Nat.{ℕ, ◌+◌, ◌*◌, ◌^◌, ◌≤◌, ◌<◌}
use native.Mathlib.Omega.{arith}
use lib.ListN.{length, drop, length-drop, length-append}
use lib.Seq.{sets, length-sets}
use Rattle.std.specs.Prelude.{Option, Some, None, Ok, Err}
use Rattle.combinators.specs.Store.{wiped, Zeros}
use Rattle.combinators.proofs.Lists.{lent_from, rest, length-rest}
use Rattle.combinators.proofs.Wiped.{sets-append}
use Rattle.lexer.specs.Whitespace.{skip_whitespace}
use Rattle.syntax.specs.Declaration.{Declaration}
use Rattle.syntax.specs.Layout.{declaration_rows, declaration_texts}
use Rattle.syntax.specs.RuleLayout.{component_width, selector_head, selector_rows, selector_texts, rule_head, rule_row, rule_text}
use Rattle.syntax.specs.Selector.{Selector, RuleSet}
use Rattle.syntax.specs.Writing.{RuleHeadFits}
use Rattle.syntax.proofs.RowSizes.{length-selectors, length-declarations}
use Rattle.syntax.proofs.Writes.{rule-left}
use Rattle.declarations.specs.Rules.{starts_at}
use Rattle.selectors.specs.Outcome.{Outcome, reads, fails, panics, on_outcome, behind}
use Rattle.selectors.specs.SelectorList.{selectors_of}
use Rattle.sheets.specs.Sheet.{block_of, ruleset_of, moved_by}
use Rattle.sheets.specs.Rules.{block_at, BlockRoom, RuleRoom}
use Rattle.selectors.specs.declared.readings.Read.{Read}
use Rattle.selectors.specs.Reading.{reading, written, TextRoom, RowRoom}
use Rattle.selectors.proofs.AllLaws.{where-read, where-panics}
use Rattle.selectors.proofs.ReadingLaws.{Reading, ManyReading, read_by, fails_by, panic_at, sized, Left, LeftMany, left-reads, left-fails, left-panics, Found, found_as, found-many, nothing-as, panicked-many}
use Rattle.selectors.proofs.SelectorBounds.{SelectorsKeep, selectors-keep}
use Rattle.selectors.proofs.SelectorLists.{selectors-never}
use Rattle.sheets.proofs.SheetBounds.{BlockKeeps, block-at-keeps}
use Rattle.combinators.proofs.ZeroLaws.{zeros-later, zeros-behind, zeros-back}

-- the room for a block is told as well by work stores that are equal
pub block-room-as : {s : List ℕ} {n at : ℕ} {rules : List ℕ} {place : ℕ} {tokens brackets store : List ℕ} {fill : ℕ} {x b : List ℕ} → x ≡ tokens → b ≡ brackets
    → BlockRoom s n at rules place tokens brackets store fill → BlockRoom s n at rules place x b store fill
block-room-as ex eb o = rw (ex, eb) o

-- what is stored behind something
module _ (l l₀ : List ℕ) (f n : ℕ) (xs : List ℕ) (e : l ≡ sets l₀ f xs) (en : n ≡ length xs) where
  -- two lists stored one behind the other are stored as one
  stored-behind : (ys : List ℕ) → sets l (f + n) ys ≡ sets l₀ f (xs ++ ys)
  stored-behind ys = rw (e, en) (sym (sets-append l₀ f xs ys))

  -- and what is zero behind it
  zeros-past : Zeros l₀ f → Zeros l (f + n)
  zeros-past z = rw (e, en) (zeros-behind l₀ f z xs)

-- a rule of selectors and declarations whose text starts at a byte
abbrev rule_at : ℕ → List Selector → List Declaration → RuleSet
rule_at start ss ds = record { selectors = ss; declarations = ds; start = start }

-- its row, by what is known of its parts; the head is written last
row-left : (l : List ℕ) (p f start : ℕ) (ss : List Selector) (ds : List Declaration) (c d t : ℕ) → c ≡ length ss → d ≡ length ds → t ≡ length (selector_texts ss)
    → sets (sets l (p + rule_head) (selector_rows f ss ++ declaration_rows (f + t) ds)) p (start ∷ c ∷ d ∷ []) ≡ sets l p (rule_row f (rule_at start ss ds))
row-left l p f start ss ds c d t ec ed et = rw (ec, ed, et) (rule-left (rule_at start ss ds) f l p)

-- how long it is
row-length : (f start : ℕ) (ss : List Selector) (ds : List Declaration) (t : ℕ) → t ≡ length (selector_texts ss)
    → length (rule_row f (rule_at start ss ds)) ≡ rule_head + length (selector_rows f ss) + length (declaration_rows (f + t) ds)
unfolding rule_row
row-length f start ss ds t e =
    rw e (omega (arith, length-append (selector_rows f ss) (declaration_rows (f + length (selector_texts ss)) ds)))

-- a rule that stands elsewhere: so do its declarations
moved-block : (at w : ℕ) (ss : List Selector) (o : Outcome (List Declaration))
    → behind 0 (behind 0 o (rule_at w ss)) (moved_by at) ≡ behind 0 (behind 0 o (map (starts_at at))) (rule_at (at + w) ss)
unfolding behind on_outcome moved_by
moved-block at w ss (reads n ds) = refl
moved-block at w ss fails = refl
moved-block at w ss (panics p) = refl

-- ---- `parse_ruleset`: selectors, block and head, and what each return leaves
module _ (s : List ℕ) (at : ℕ) (rules : List ℕ) (place : ℕ) (tokens brackets store : List ℕ) (fill : ℕ) (o : RuleRoom s at rules place tokens brackets store fill) where
  -- the meaning: the rule, by where it starts in the whole text
  abbrev meant : Outcome RuleSet
  meant = behind 0 (ruleset_of s) (moved_by at)

  -- what the function ensures
  abbrev pub Ruled : Reading → List ℕ → List ℕ → List ℕ → List ℕ → Type 0
  Ruled r y x b z = (r ≡ reading (λ _. 1) (rule_row fill) rule_text meant)
      × ((y ≡ sets rules place (written (rule_row fill) meant)) × ((x ≡ tokens) × ((b ≡ brackets) × (z ≡ sets store fill (written rule_text meant)))))

  -- by what is left of rows and texts
  ruled : {r : Reading} {y x b z : List ℕ} → Left (λ _. 1) (rule_row fill) rule_text meant rules place store fill r y z → x ≡ tokens → b ≡ brackets → Ruled r y x b z
  ruled l ex eb = (l.0, (l.1.0, (ex, (eb, l.1.1))))

  module _ {w : ℕ} (ew : w ≡ skip_whitespace s) (hw : w ≤ length s) where
    -- room for the selectors
    pub rows-room : RowRoom selector_head (lent_from s w) rules (place + rule_head)
    rows-room =
        let l = length-rest s w in
        record {
          zeros = zeros-later rules place o.rules-zeros rule_head;
          for-rows = omega (arith, o.for-rules);
          bits = omega (arith, o.for-rules, o.row-bits);
        }

    -- there is room for the texts of the selectors
    pub texts-room : TextRoom 4 (lent_from s w) store fill
    texts-room =
        let l = length-rest s w in
        record { zeros = o.work.store-zeros; for-texts = omega (arith, o.work.for-texts); bits = omega (arith, o.work.text-bits) }

    -- the selectors that the lent text means
    abbrev list : Outcome (List Selector)
    list = selectors_of (drop w s)

    -- the rule is what its selectors and the block behind them make of it
    ruleset-is : ruleset_of s ≡ on_outcome list (λ n ss. behind 0 (block_of s (w + n)) (rule_at w ss)) fails (λ p. panics (w + p))
    unfolding ruleset_of
    ruleset-is = rw (← ew)

    -- what `parse_selectors` left: the selectors, written behind the head of the rule
    module _ {r : ManyReading} {y z : List ℕ} (e : LeftMany length (selector_rows fill) selector_texts (selectors_of (lent_from s w)) rules (place + rule_head) store fill r y z) where
      -- what was left is what the selectors of the text behind white space leave
      said : LeftMany length (selector_rows fill) selector_texts list rules (place + rule_head) store fill r y z
      said = rw (← rest s w) e

      -- the crate panics at them
      module _ {p : ℕ} (h : r ≡ Err (panic_at p)) where
        -- a panic in them lies within the text
        pub list-place : w + p ≤ length s
        list-place = omega (arith, where-panics (length (drop w s)) _ list p (panicked-many _ _ _ _ _ _ _ _ said h).0 (selectors-keep (drop w s)), length-drop w s)

        -- so it panics in the rule
        pub list-panics : Ruled (Err (panic_at (w + p))) y tokens brackets z
        unfolding behind on_outcome
        list-panics =
            let n = panicked-many _ _ _ _ _ _ _ _ said h in
            let k : 0 + (w + p) ≡ w + p = omega arith in
            ruled (left-panics _ _ _ _ _ _ _ _ (rw (ruleset-is, n.0, k)) n.1.0 n.1.1) refl refl

      -- the selectors read, up to n
      module _ {n count numbers text : ℕ} (h : r ≡ Ok (sized n count numbers text)) where
        -- the selectors that were read, with their counts
        got : Found length (selector_rows fill) selector_texts list rules (place + rule_head) store fill y z n count numbers text
        got = found-many _ _ _ _ _ _ _ _ (selectors-never (drop w s)) said h

        -- the selectors that were read
        abbrev ss : List Selector
        ss = got.value

        -- how much there is of them
        keeps : SelectorsKeep selector_head (drop w s) n ss
        keeps = where-read (length (drop w s)) (SelectorsKeep selector_head (drop w s)) list n ss got.reads-it (selectors-keep (drop w s))

        -- their rows have no more numbers than a component's row for each byte taken, and a selector's head
        wide : numbers ≤ component_width * n + selector_head
        wide = omega (arith, got.rows, length-selectors fill ss, keeps.wide)

        -- their texts are at most two bytes longer than what they take
        long : text ≤ n + 2
        long = omega (arith, got.texts, keeps.long)

        -- they end within the text
        pub list-end : w + n ≤ length s
        list-end = omega (arith, keeps.within, length-drop w s)

        -- the place behind their rows fits
        pub row_fits : place + rule_head + numbers < 2 ^ 64
        row_fits = omega (arith, wide, list-end, o.for-rules, o.row-bits)

        -- so does the one behind their texts
        pub fill-fits : fill + text < 2 ^ 64
        fill-fits = omega (arith, long, list-end, o.work.text-bits)

        -- room for the block
        pub block_room : BlockRoom s (w + n) at y (place + rule_head + numbers) tokens brackets z (fill + text)
        block_room =
            let ly : length y ≡ length rules = ap length got.rules-are ∙ length-sets rules (place + rule_head) (selector_rows fill ss) in
            let lz : length z ≡ length store = ap length got.store_is ∙ length-sets store fill (selector_texts ss) in
            let k = list-end in
            let m = wide in
            let t = long in
            record {
              within = k;
              rules-zeros = zeros-past y rules (place + rule_head) numbers (selector_rows fill ss) got.rules-are got.rows (zeros-later rules place o.rules-zeros rule_head);
              tokens-zeros = o.work.tokens-zeros;
              brackets-zeros = o.work.brackets-zeros;
              store-zeros = zeros-past z store fill text (selector_texts ss) got.store_is got.texts o.work.store-zeros;
              for-rules = omega (arith, o.for-rules);
              row-bits = omega (arith, o.row-bits);
              for-tokens = o.work.for-tokens;
              for-brackets = o.work.for-brackets;
              for-texts = omega (arith, o.work.for-texts);
              text-bits = omega (arith, o.work.text-bits);
              start-bits = o.start-bits;
            }

        -- the declarations that the text behind them means
        abbrev block : Outcome (List Declaration)
        block = block_at at s (w + n)

        -- the rule, by where it starts in the whole text, is its block with its selectors
        meant_is : meant ≡ behind 0 block (rule_at (at + w) ss)
        unfolding on_outcome block_at
        meant_is =
            ap (λ (q : Outcome RuleSet). behind 0 q (moved_by at)) (ruleset-is ∙ rw got.reads-it) ∙ moved-block at w ss (block_of s (w + n))

        -- what `parse_block` left: the declarations, written behind the selectors
        module _ {q : Option Read} {y₂ x₂ b₂ z₂ : List ℕ} (e₂ : (Ok q ≡ reading length (declaration_rows (fill + text)) declaration_texts block)
            × ((y₂ ≡ sets y (place + rule_head + numbers) (written (declaration_rows (fill + text)) block))
            × ((x₂ ≡ tokens) × ((b₂ ≡ brackets) × (z₂ ≡ sets z (fill + text) (written declaration_texts block)))))) where
          -- the selectors are taken back, where nothing was written behind them
          rules-back : y₂ ≡ y → {y₃ : List ℕ} → y₃ ≡ wiped (place + rule_head) numbers y₂ → y₃ ≡ rules
          rules-back e p =
              p ∙ ap (wiped (place + rule_head) numbers) (e ∙ got.rules-are)
              ∙ zeros-back rules (place + rule_head) (zeros-later rules place o.rules-zeros rule_head) (selector_rows fill ss) numbers (omega (arith, got.rows))

          -- once the texts are wiped the text store is as it was
          store-back : z₂ ≡ z → {z₃ : List ℕ} → z₃ ≡ wiped fill text z₂ → z₃ ≡ store
          store-back e p =
              p ∙ ap (wiped fill text) (e ∙ got.store_is) ∙ zeros-back store fill o.work.store-zeros (selector_texts ss) text (omega (arith, got.texts))

          -- without a block there is no rule, and what the selectors left is wiped
          pub block-fails : q ≡ None → {y₃ z₃ : List ℕ} → y₃ ≡ wiped (place + rule_head) numbers y₂ → z₃ ≡ wiped fill text z₂ → Ruled (Ok None) y₃ x₂ b₂ z₃
          unfolding behind on_outcome
          block-fails hq ey₃ ez₃ =
              let e = fails_by length (declaration_rows (fill + text)) declaration_texts block (ap Ok (sym hq) ∙ e₂.0) in
              let n = nothing-as length (declaration_rows (fill + text)) declaration_texts block y (place + rule_head + numbers) z (fill + text) e e₂.1.0 e₂.1.1.1.1 in
              ruled (left-fails _ _ _ _ _ _ _ _ (meant_is ∙ rw e) (rules-back n.0 ey₃) (store-back n.1 ez₃)) e₂.1.1.0 e₂.1.1.1.0

          -- the block reads, up to its end
          module _ {end declarations more kept : ℕ} (hq : q ≡ Some (sized end declarations more kept)) where
            -- the declarations that were read, with their counts
            got₂ : Found length (declaration_rows (fill + text)) declaration_texts block y (place + rule_head + numbers) z (fill + text) y₂ z₂ end declarations more kept
            got₂ =
                found_as length (declaration_rows (fill + text)) declaration_texts block y (place + rule_head + numbers) z (fill + text)
                (read_by length (declaration_rows (fill + text)) declaration_texts block (sized end declarations more kept) (ap Ok (sym hq) ∙ e₂.0)) e₂.1.0 e₂.1.1.1.1

            -- what stands behind it
            abbrev ds : List Declaration
            ds = got₂.value

            -- how much there is of it
            size : BlockKeeps s (w + n) end ds
            size = where-read (length s) (BlockKeeps s (w + n)) block end ds got₂.reads-it (block-at-keeps at s (w + n))

            -- the numbers of the head fit their places
            pub head-fits : RuleHeadFits (at + w) count declarations
            head-fits =
                let k = size.counted in
                let l = size.within in
                let c = keeps.counted in
                record {
                  start_fits = omega (arith, o.start-bits);
                  selectors-fit = omega (arith, got.counts, o.start-bits);
                  declarations-fit = omega (arith, got₂.counts, o.start-bits);
                }

            -- the numbers of the row fit
            pub numbers_fit : rule_head + numbers + more < 2 ^ 64
            numbers_fit = omega (arith, wide, got₂.rows, length-declarations (fill + text) ds, size.counted, size.within, o.start-bits)

            -- so do the bytes of its texts
            pub texts-fit : text + kept < 2 ^ 64
            texts-fit = omega (arith, long, got₂.texts, size.short, size.within, o.start-bits)

            -- what stands behind it
            abbrev rule : RuleSet
            rule = rule_at (at + w) ss ds

            -- the text reads as that rule
            rule-is : meant ≡ reads end rule
            unfolding behind on_outcome
            rule-is =
                let k : 0 + end ≡ end = omega arith in
                meant_is ∙ rw (got₂.reads-it, k)

            -- the head of its row
            abbrev head : List ℕ
            head = (at + w) ∷ count ∷ declarations ∷ []

            -- what stands behind it
            abbrev body : List ℕ
            body = selector_rows fill ss ++ declaration_rows (fill + text) ds

            -- its texts are those of the selectors and then those of the declarations
            text-is : selector_texts ss ++ declaration_texts ds ≡ rule_text rule
            unfolding rule_text
            text-is = refl

            -- what stands behind the head is written
            body-written : y₂ ≡ sets rules (place + rule_head) body
            body-written =
                got₂.rules-are ∙ stored-behind y rules (place + rule_head) numbers (selector_rows fill ss) got.rules-are got.rows (declaration_rows (fill + text) ds)

            -- with its head written last the rule's row is whole
            row_written : {y₃ : List ℕ} → y₃ ≡ sets y₂ place head → y₃ ≡ sets rules place (rule_row fill rule)
            row_written p =
                p ∙ ap (λ (l : List ℕ). sets l place head) body-written ∙ row-left rules place fill (at + w) ss ds count declarations text got.counts got₂.counts got.texts

            -- its texts lie in the store
            text-written : z₂ ≡ sets store fill (rule_text rule)
            text-written =
                got₂.store_is ∙ stored-behind z store fill text (selector_texts ss) got.store_is got.texts (declaration_texts ds)
                ∙ ap (sets store fill) text-is

            -- how long the row is
            row-long : length (rule_row fill rule) ≡ rule_head + numbers + more
            row-long = omega (arith, row-length fill (at + w) ss ds text got.texts, got.rows, got₂.rows)

            -- its texts are as long as the two counts say
            text-long : length (rule_text rule) ≡ text + kept
            text-long = ap length (sym text-is) ∙ omega (arith, length-append (selector_texts ss) (declaration_texts ds), got.texts, got₂.texts)

            -- all that is left of it
            pub rule-read : {y₃ : List ℕ} → y₃ ≡ sets y₂ place head → Ruled (Ok (Some (sized end 1 (rule_head + numbers + more) (text + kept)))) y₃ x₂ b₂ z₂
            rule-read p = ruled (left-reads _ _ _ _ _ _ _ _ rule-is refl (sym row-long) (sym text-long) (row_written p) text-written) e₂.1.1.0 e₂.1.1.1.0
