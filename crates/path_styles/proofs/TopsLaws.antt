-- The numbers of selectors: those of the first ones and of the others, on a row and on its parent, and the returns and turns of the functions that find them.
use mathlib.Core.Path.{◌≡◌, refl, sym, ap, ◌∙◌}
use mathlib.Core.List.{List, [], ◌∷◌, ◌++◌, append_assoc, append-nil}
use Prim.Native.Nat.{ℕ, zero, suc, ◌+◌, ◌*◌, ◌-◌, ◌≤◌, ◌<◌}
use native.Mathlib.Numerals.{add-one}
use native.Mathlib.Omega.{arith}
use borrow.Rule.Slice.PartMut.{put_mid, Post-is}
use lib.ListN.{length, get_or, take, drop, set, length-append, length-set, length-take, length-drop, drop_of_length-le}
use lib.Seq.{sets, sets-eq, length-sets, get_or-drop, drop-drop}
use Rattle.combinators.proofs.Lists.{lent_from, rest}
use Rattle.combinators.proofs.Wiped.{sets-append}
use Rattle.syntax.specs.RuleLayout.{selector_head, selector_components, rule_head, rule_selectors, read_selector, read_rule}
use Rattle.syntax.specs.Selector.{Selector}
use Rattle.syntax.specs.Stream.{read_many}
use Rattle.origins.proofs.WalkLaws.{many-length}
use Rattle.page.specs.Rows.{node_at}
use Rattle.matching.specs.Rows.{components_at, Rooted}
use Rattle.matching.specs.Topmost.{selector_number, RightNumber}
use Rattle.matching.specs.Topmost.Line.{same}
use Rattle.matching.proofs.NumberLaws.{right-number, number-above}
use Rattle.matching.proofs.TopmostLaws.{line-up}
use Rattle.rule_styles.specs.Placing.{rules_selectors}
use Rattle.rule_styles.specs.Held.{StyledSheets}
use Rattle.path_styles.specs.Tops.{top_width, selectors_tops, RightTops, sheet_selectors, sheets_selectors, ready_places, ready_counts, ready_sheets, TopsRoom, SheetsTopsRoom}
use Rattle.path_styles.specs.Tops.{ReadySheets}

-- ---- stores
-- what is written to a part of a list is stored there
part-written : (l : List ℕ) (a e : ℕ) (ys : List ℕ) → a ≤ e → length ys ≡ e - a → e ≤ length l → put_mid a (e - a) l ys ≡ sets l a ys
part-written l a e ys h m k =
    let q : a + length ys ≡ e = omega (arith, h, m) in
    ap (λ (r : List ℕ). take a l ++ (ys ++ r)) (Post-is a e l h ∙ ap (λ (n : ℕ). drop n l) (sym q)) ∙ sym (append_assoc (take a l) ys (drop (a + length ys) l)) ∙ sym (sets-eq ys l a (omega (arith, q, k)))

-- as many numbers as there are, stored from the start on, are what the list is then
sets-all : (l vs : List ℕ) → length vs ≡ length l → sets l 0 vs ≡ vs
sets-all l vs e = sets-eq vs l 0 (omega (arith, e)) ∙ ap (λ (r : List ℕ). vs ++ r) (drop_of_length-le l {i = 0 + length vs} (omega (arith, e))) ∙ append-nil vs

-- ---- the selector at a place, whose components are lent from behind its head on
module _ (texts rows : List ℕ) (at n behind : ℕ) (en : n ≡ get_or rows (at + selector_components) 0) (eb : drop behind rows ≡ drop (at + selector_head) rows) where
  -- the lent numbers, read as components, are those of the selector
  pub lent-components : components_at texts (lent_from rows behind) n ≡ (read_selector texts (drop at rows)).value.components
  unfolding components_at read_selector
  lent-components = rw (rest rows behind, eb, en, get_or-drop at rows selector_components 0, drop-drop selector_head at rows)

-- ---- the selectors of a rule, from the place and the count that its head says
-- the selectors that are read from there, as many, are those of the rule
pub rule-selectors : (texts rows : List ℕ) (at k first : ℕ) → k ≡ get_or rows (at + rule_selectors) 0 → drop first rows ≡ drop (at + rule_head) rows
    → (read_many (read_selector texts) k (drop first rows)).value ≡ (read_rule texts (drop at rows)).value.selectors
unfolding read_rule
rule-selectors texts rows at k first ek ef = rw (ek, ef, get_or-drop at rows rule_selectors 0, drop-drop rule_head at rows)

-- a rule has as many selectors as its head says
rule-counts : (texts rows : List ℕ) (at k : ℕ) → k ≡ get_or rows (at + rule_selectors) 0 → length (read_rule texts (drop at rows)).value.selectors ≡ k
unfolding read_rule
rule-counts texts rows at k ek = many-length (read_selector texts) _ _ ∙ get_or-drop at rows rule_selectors 0 ∙ sym ek

-- those of the first of some rules, and of the others
rules-opened : (texts t : List ℕ) (n : ℕ) → 0 < n
    → rules_selectors (read_many (read_rule texts) n t).value ≡ (read_rule texts t).value.selectors ++ rules_selectors (read_many (read_rule texts) (n - 1) (read_rule texts t).rest).value
unfolding read_many rules_selectors
rules-opened texts t zero h = absurd (omega arith)
rules-opened texts t (suc n) h = let q : suc n - 1 ≡ n = omega arith in rw q

-- the first of some selectors, and the others
selectors-opened : (texts t : List ℕ) (n : ℕ) → 0 < n
    → (read_many (read_selector texts) n t).value ≡ (read_selector texts t).value ∷ (read_many (read_selector texts) (n - 1) (read_selector texts t).rest).value
unfolding read_many
selectors-opened texts t zero h = absurd (omega arith)
selectors-opened texts t (suc n) h = let q : suc n - 1 ≡ n = omega arith in rw q

-- no selectors from a place on are none
no-selectors : (texts rows : List ℕ) (n at : ℕ) → n ≤ 0 → (read_many (read_selector texts) n (drop at rows)).value ≡ []
unfolding read_many
no-selectors texts rows zero at h = refl
no-selectors texts rows (suc n) at h = absurd (omega arith)

-- no rules from a place on have no selectors
no-rules : (texts rows : List ℕ) (n at : ℕ) → n ≤ 0 → rules_selectors (read_many (read_rule texts) n (drop at rows)).value ≡ []
unfolding read_many rules_selectors
no-rules texts rows zero at h = refl
no-rules texts rows (suc n) at h = absurd (omega arith)

module _ (nodes attributes text : List ℕ) (row : ℕ) where
  abbrev Right : List Selector → List ℕ → Type 0
  Right ss t = RightTops nodes attributes text row ss t

  abbrev Tops : List Selector → List ℕ
  Tops ss = selectors_tops nodes attributes text row ss

  -- ---- numbers that decide
  -- those for the first selectors, and for the others
  right-split : (xs ys : List Selector) (t : List ℕ) → Right (xs ++ ys) t → Right xs t × Right ys (drop (length xs) t)
  unfolding RightTops
  right-split [] ys t r = (tt, r)
  right-split (s ∷ xs) ys t r =
      let w = right-split xs ys (drop top_width t) r.1 in
      let q : top_width + length xs ≡ suc (length xs) = omega arith in
      ((r.0, w.0), rw (drop-drop (length xs) top_width t ∙ ap (λ (i : ℕ). drop i t) q) at w.1)

  -- the numbers that are found decide, where the path leads to the document
  pub right-stored : Rooted nodes row → (ss : List Selector) (others : List ℕ) → Right ss (Tops ss ++ others)
  unfolding RightTops selectors_tops
  right-stored r [] others = tt
  right-stored r (s ∷ ss) others = (right-number nodes attributes text s.components row r, right-stored r ss others)

  -- what decides on a row decides on its parent
  pub right-parent : ¬ (row ≡ 0) → (p : ℕ) → p ≡ (node_at nodes row).parent → (ss : List Selector) (t : List ℕ) → Right ss t → RightTops nodes attributes text p ss t
  unfolding RightTops
  right-parent z p e [] t r = tt
  right-parent z p e (s ∷ ss) t r = (number-above nodes attributes text s.components row (get_or t 0 0) p r.0 (line-up nodes same z p e), right-parent z p e ss (drop top_width t) r.1)

  -- ---- turns of `merge_selectors` and `merge_rules`
  module _ (texts rows styles : List ℕ) where
    -- the numbers from a place on decide for n selectors, and for those of n rules
    pub record SelectorsRight (n place tops : ℕ) : Type 0 where
      pub right : Right (read_many (read_selector texts) n (drop place rows)).value (drop tops styles)

    pub record RulesRight (n place tops : ℕ) : Type 0 where
      pub right : Right (rules_selectors (read_many (read_rule texts) n (drop place rows)).value) (drop tops styles)

    -- all of them are left at first
    pub selectors-right : (n count place tops : ℕ) → n ≡ count → Right (read_many (read_selector texts) count (drop place rows)).value (drop tops styles) → SelectorsRight n place tops
    selectors-right n count place tops e r = rw e (record { right = r })

    pub rules-right : (n count place tops : ℕ) → n ≡ count → Right (rules_selectors (read_many (read_rule texts) count (drop place rows)).value) (drop tops styles) → RulesRight n place tops
    rules-right n count place tops e r = rw e (record { right = r })

    -- the first selector of some
    module _ (n place tops : ℕ) (r : SelectorsRight n place tops) (h : 0 < n) where
      -- the numbers decide for the first selector and for the others
      selector-parts : Right ((read_selector texts (drop place rows)).value ∷ (read_many (read_selector texts) (n - 1) (read_selector texts (drop place rows)).rest).value) (drop tops styles)
      selector-parts = rw (selectors-opened texts (drop place rows) n h) at r.right

      -- the first number decides for the first selector
      pub first-top : (top : ℕ) → top ≡ get_or (drop tops styles) 0 0 → RightNumber nodes attributes text (read_selector texts (drop place rows)).value.components row top
      unfolding RightTops
      first-top top e = rw e selector-parts.0

      -- and the numbers behind it decide for the others
      pub next-tops : (place' : ℕ) → ((texts : List ℕ) → drop place' rows ≡ (read_selector texts (drop place rows)).rest) → (tops' : ℕ) → drop tops' styles ≡ drop (tops + top_width) styles
          → (fewer : ℕ) → fewer ≡ n - 1 → SelectorsRight fewer place' tops'
      unfolding RightTops
      next-tops place' e tops' f fewer q = record { right = rw (q, e texts, f, ← drop-drop top_width tops styles) selector-parts.1 }

    -- the first rule of some
    module _ (n place tops : ℕ) (r : RulesRight n place tops) (h : 0 < n) where
      abbrev First : List Selector
      First = (read_rule texts (drop place rows)).value.selectors

      -- the numbers decide for the selectors of the first rule, and those behind them for the other rules
      rule-parts : Right First (drop tops styles) × Right (rules_selectors (read_many (read_rule texts) (n - 1) (read_rule texts (drop place rows)).rest).value) (drop (length First) (drop tops styles))
      rule-parts = right-split First _ (drop tops styles) (rw (rules-opened texts (drop place rows) n h) at r.right)

      -- the first numbers decide for the selectors of the first rule
      pub rule-tops : Right First (drop tops styles)
      rule-tops = rule-parts.0

      -- and the numbers behind those of its selectors decide for the other rules
      pub later-tops : (k : ℕ) → k ≡ get_or rows (place + rule_selectors) 0 → (next : ℕ) → drop next rows ≡ (read_rule texts (drop place rows)).rest
          → (tops' : ℕ) → drop tops' styles ≡ drop (tops + top_width * k) styles → (fewer : ℕ) → fewer ≡ n - 1 → RulesRight fewer next tops'
      later-tops k ek next e tops' f fewer z =
          let q : tops + length First ≡ tops + top_width * k = omega (arith, rule-counts texts rows place k ek) in
          let g : drop (length First) (drop tops styles) ≡ drop tops' styles = drop-drop (length First) tops styles ∙ ap (λ (i : ℕ). drop i styles) q ∙ sym f in
          record { right = rw (z, e, ← g) rule-parts.1 }

  -- ---- numbers that are found
  -- there is one number for each selector
  pub tops-long : (ss : List Selector) → length (Tops ss) ≡ length ss
  unfolding selectors_tops
  tops-long [] = refl
  tops-long (s ∷ ss) = ap suc (tops-long ss)

  -- the numbers of two lists of selectors joined are those of the first, then those of the second
  pub tops-append : (xs ys : List Selector) → Tops (xs ++ ys) ≡ Tops xs ++ Tops ys
  unfolding selectors_tops
  tops-append [] ys = refl
  tops-append (s ∷ xs) ys = ap (λ (l : List ℕ). selector_number nodes attributes text row s.components ∷ l) (tops-append xs ys)

  -- those of two lists, one behind the other
  pub stored-both : (l : List ℕ) (place : ℕ) (xs ys : List Selector) (k : ℕ) → k ≡ place + length xs → sets (sets l place (Tops xs)) k (Tops ys) ≡ sets l place (Tops (xs ++ ys))
  stored-both l place xs ys k e =
      ap (λ (i : ℕ). sets (sets l place (Tops xs)) i (Tops ys)) (e ∙ ap (λ (i : ℕ). place + i) (sym (tops-long xs)))
      ∙ sym (sets-append l place (Tops xs) (Tops ys)) ∙ ap (sets l place) (sym (tops-append xs ys))

  -- turns of `find_selectors_tops`: what is left to store is what was to be stored, a number at each place of a part
  module _ (texts rows : List ℕ) (at : ℕ) (tops : List ℕ) where
    abbrev Selected : ℕ → ℕ → List Selector
    Selected n from = (read_many (read_selector texts) n (drop from rows)).value

    pub record SelectorsStored (n from to : ℕ) (l : List ℕ) : Type 0 where
      pub stores : sets l to (Tops (Selected n from)) ≡ sets tops 0 (Tops (Selected (length tops) at))
      pub long : length l ≡ length tops
      pub room : to + n ≤ length l

    -- nothing is stored yet
    pub store-begin : (n : ℕ) → n ≡ length tops → SelectorsStored n at 0 tops
    store-begin n e = rw e (record { stores = refl; long = refl; room = omega arith })

    module _ (n from to : ℕ) (l : List ℕ) (s : SelectorsStored n from to l) where
      -- the number of the first selector that is left is stored, and the others go behind it
      pub store-more : 0 < n → (top : ℕ) → top ≡ selector_number nodes attributes text row (read_selector texts (drop from rows)).value.components
          → (next : ℕ) → ((texts : List ℕ) → drop next rows ≡ (read_selector texts (drop from rows)).rest) → (fewer : ℕ) → fewer ≡ n - 1 → SelectorsStored fewer next (to + top_width) (set l to top)
      unfolding selectors_tops
      store-more h top e next f fewer z =
          let others : List ℕ → List Selector = λ t. (read_many (read_selector texts) (n - 1) t).value in
          let behind = (read_selector texts (drop from rows)).rest in
          let one : sets l to (Tops (Selected n from)) ≡ sets (set l to top) (to + top_width) (Tops (Selected (n - 1) next)) =
          ap (λ (ss : List Selector). sets l to (Tops ss)) (selectors-opened texts (drop from rows) n h)
          ∙ ap (λ (x : ℕ). sets (set l to x) (suc to) (Tops (others behind))) (sym e)
          ∙ ap (λ (t : List ℕ). sets (set l to top) (suc to) (Tops (others t))) (sym (f texts))
          ∙ ap (λ (i : ℕ). sets (set l to top) i (Tops (others (drop next rows)))) (sym (add-one to)) in
          rw z (record {
            stores = sym one ∙ s.stores;
            long = length-set l to top ∙ s.long;
            room = omega (arith, length-set l to top, s.room);
          })

      -- when none is left, the part is the numbers of all selectors
      pub store-done : n ≤ 0 → l ≡ Tops (Selected (length tops) at)
      unfolding selectors_tops
      store-done h =
          let all = Tops (Selected (length tops) at) in
          let m : length all ≡ length tops = tops-long (Selected (length tops) at) ∙ many-length (read_selector texts) _ _ in
          (rw (no-selectors texts rows n from h) at s.stores) ∙ sets-all tops all m

  -- turns of `find_rules_tops`, likewise
  module _ (texts rows : List ℕ) (count at : ℕ) (tokens : List ℕ) (place : ℕ) where
    abbrev Ruled : ℕ → ℕ → List Selector
    Ruled n from = rules_selectors (read_many (read_rule texts) n (drop from rows)).value

    pub record RulesStored (n from to : ℕ) (l : List ℕ) : Type 0 where
      pub stores : sets l to (Tops (Ruled n from)) ≡ sets tokens place (Tops (Ruled count at))
      pub ends : to + length (Ruled n from) ≡ place + length (Ruled count at)
      pub long : length l ≡ length tokens
      pub room : to + length (Ruled n from) ≤ length l

    -- nothing is stored yet
    pub rules-begin : TopsRoom tokens place (length (Ruled count at)) → (n : ℕ) → n ≡ count → RulesStored n at place tokens
    rules-begin r n e = rw e (record { stores = refl; ends = refl; long = refl; room = r.room })

    module _ (n from to : ℕ) (l : List ℕ) (s : RulesStored n from to l) where
      module _ (h : 0 < n) (k : ℕ) (ek : k ≡ get_or rows (from + rule_selectors) 0) where
        -- the selectors of the rules that are left are those of the first, then those of the others
        opened : (next : ℕ) → drop next rows ≡ (read_rule texts (drop from rows)).rest → Ruled n from ≡ (read_rule texts (drop from rows)).value.selectors ++ Ruled (n - 1) next
        opened next f = rw f (rules-opened texts (drop from rows) n h)

        -- room for those of a rule
        pub rule-room : TopsRoom l to k
        rule-room =
            let S = (read_rule texts (drop from rows)).value.selectors in
            let others = rules_selectors (read_many (read_rule texts) (n - 1) (read_rule texts (drop from rows)).rest).value in
            record { room = omega (arith, s.room, ap length (rules-opened texts (drop from rows) n h), length-append S others, rule-counts texts rows from k ek) }

        -- the part that is lent for them is as long
        pub rule-part : length (take (to + top_width * k - to) (drop to l)) ≡ k
        rule-part = omega (arith, length-take (to + top_width * k - to) (drop to l), length-drop to l, rule-room.room)

        -- the numbers of a rule more, which are written to a part
        pub rules-more : (first : ℕ) → drop first rows ≡ drop (from + rule_head) rows → (m : ℕ) → m ≡ k → (ys : List ℕ) → ys ≡ Tops (read_many (read_selector texts) m (drop first rows)).value
            → (next : ℕ) → ((texts : List ℕ) → drop next rows ≡ (read_rule texts (drop from rows)).rest) → (fewer : ℕ) → fewer ≡ n - 1 → RulesStored fewer next (to + top_width * k) (put_mid to (to + top_width * k - to) l ys)
        rules-more first ef m em ys ey next f fewer z =
            let l₁ = put_mid to (to + top_width * k - to) l ys in
            let ys-long : length ys ≡ k = ap length ey ∙ tops-long _ ∙ many-length (read_selector texts) _ _ ∙ em in
            let S = (read_rule texts (drop from rows)).value.selectors in
            let e : l₁ ≡ sets l to (Tops S) =
            part-written l to (to + top_width * k) ys (omega arith) (omega (arith, ys-long)) (omega (arith, rule-room.room))
            ∙ ap (sets l to) (ey ∙ ap (λ (i : ℕ). Tops (read_many (read_selector texts) i (drop first rows)).value) em ∙ ap (λ (ss : List Selector). Tops ss) (rule-selectors texts rows from k first ek ef)) in
            let j : length l₁ ≡ length l = ap length e ∙ length-sets l to (Tops S) in
            let p : to + top_width * k ≡ to + length S = omega (arith, rule-counts texts rows from k ek) in
            let o : length (Ruled n from) ≡ length S + length (Ruled (n - 1) next) = ap length (opened next (f texts)) ∙ length-append S (Ruled (n - 1) next) in
            rw z (record {
              stores =
                  ap (λ (x : List ℕ). sets x (to + top_width * k) (Tops (Ruled (n - 1) next))) e
                  ∙ stored-both l to S (Ruled (n - 1) next) (to + top_width * k) p
                  ∙ ap (λ (ss : List Selector). sets l to (Tops ss)) (sym (opened next (f texts))) ∙ s.stores;
              ends = omega (arith, o, p, s.ends);
              long = j ∙ s.long;
              room = omega (arith, o, p, s.room, j);
            })

      -- when none is left, the numbers of all selectors of the rules are stored, and the place is behind them
      pub rules-done : n ≤ 0 → (l ≡ sets tokens place (Tops (Ruled count at))) × (to ≡ place + length (Ruled count at))
      unfolding selectors_tops
      rules-done h = (rw (no-rules texts rows n from h) at s.stores, omega (arith, s.ends, ap length (no-rules texts rows n from h)))

  -- ---- the return of `find_tops`: the numbers of three sheets, one behind the other
  module _ (rows tokens texts : List ℕ) (v : StyledSheets) (r : SheetsTopsRoom rows tokens texts v) where
    abbrev A : List Selector
    A = sheet_selectors rows texts v.sheets.end v.sheets.agent.rules

    abbrev U : List Selector
    U = sheet_selectors rows texts v.sheets.end v.sheets.user.rules

    abbrev W : List Selector
    W = sheet_selectors rows texts v.sheets.end v.sheets.author.rules

    -- there is room for the numbers of all three sheets behind the kept styles
    all-long : v.behind + (length A + (length U + length W)) ≤ length tokens
    unfolding sheets_selectors
    all-long = omega (arith, r.room, length-append A (U ++ W), length-append U W)

    -- there is room for those of the agent's selectors
    pub agent-room : TopsRoom tokens v.behind (length A)
    agent-room = record { room = omega (arith, all-long) }

    module _ (t₁ : List ℕ) (p₁ : ℕ) (e₁ : t₁ ≡ sets tokens v.behind (Tops A)) (q₁ : p₁ ≡ v.behind + length A) where
      -- the store is as long as it was, those of the agent stored
      long₁ : length t₁ ≡ length tokens
      long₁ = ap length e₁ ∙ length-sets tokens v.behind (Tops A)

      -- there is room for those of the user's selectors behind them
      pub user-room : TopsRoom t₁ p₁ (length U)
      user-room = record { room = omega (arith, all-long, long₁, q₁) }

      module _ (t₂ : List ℕ) (p₂ : ℕ) (e₂ : t₂ ≡ sets t₁ p₁ (Tops U)) (q₂ : p₂ ≡ p₁ + length U) where
        -- the store is as long as it was, those of the user stored
        long₂ : length t₂ ≡ length t₁
        long₂ = ap length e₂ ∙ length-sets t₁ p₁ (Tops U)

        -- there is room for those of the author's selectors behind them
        pub author-room : TopsRoom t₂ p₂ (length W)
        author-room = record { room = omega (arith, all-long, long₁, long₂, q₁, q₂) }

        -- the three stored in turn are the numbers of all selectors stored at once
        pub tops-stored : (t₃ : List ℕ) → t₃ ≡ sets t₂ p₂ (Tops W) → t₃ ≡ sets tokens v.behind (Tops (sheets_selectors rows texts v))
        unfolding sheets_selectors
        tops-stored t₃ e₃ =
            e₃ ∙ ap (λ (l : List ℕ). sets l p₂ (Tops W)) e₂ ∙ stored-both t₁ p₁ U W p₂ q₂ ∙ ap (λ (l : List ℕ). sets l p₁ (Tops (U ++ W))) e₁ ∙ stored-both tokens v.behind A (U ++ W) p₁ q₁

        -- the places that are counted up are those of the sheets with a number for each selector
        pub places-ready : (p₃ : ℕ) → p₃ ≡ p₂ + length W → (s : ReadySheets) → s ≡ ready_places v p₁ p₂ p₃ → s ≡ ready_sheets rows texts v
        unfolding ready_sheets ready_counts
        places-ready p₃ q₃ s e =
            let b : p₂ ≡ v.behind + length A + length U = q₂ ∙ ap (λ (i : ℕ). i + length U) q₁ in
            e ∙ ap (λ (i : ℕ). ready_places v i p₂ p₃) q₁ ∙ ap (λ (i : ℕ). ready_places v (v.behind + length A) i p₃) b
            ∙ ap (ready_places v (v.behind + length A) (v.behind + length A + length U)) (q₃ ∙ ap (λ (i : ℕ). i + length W) b)
