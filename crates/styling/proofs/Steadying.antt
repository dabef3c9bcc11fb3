-- What the call keeps of three sheets stays the same whatever is written behind it, and the stores suffice for a path.
use mathlib.Core.Path.{◌≡◌, refl, ap, sym, ◌∙◌}
use mathlib.Core.List.{List, ◌++◌, map, append_assoc}
use Prim.Native.Nat.{ℕ, ◌+◌, ◌*◌, ◌≤◌}
use native.Mathlib.Omega.{arith}
use lib.ListN.{length, take, drop, length-append, take-append-drop}
use lib.Seq.{sets, sets-eq, length-sets, take_at, drop_at, drop-drop, length-take-le}
use Rattle.combinators.proofs.Wiped.{sets-append}
use Rattle.syntax.specs.Selector.{Selector, RuleSet}
use Rattle.origins.specs.declared.reading.SheetRules.{SheetRules}
use Rattle.origins.specs.Reading.{SheetsRules}
use Rattle.origins.proofs.SheetsKnown.{from_first, from_second, from-third, rows_held, texts_held, rows-length, zr, zt, rows_are, texts-are}
use Rattle.page.specs.Path.{Path}
use Rattle.matching.specs.Rows.{Rooted}
use Rattle.styles.specs.Said.{Rules}
use Rattle.styles.specs.StyleCall.{rules_contents, sheets_contents, placed_rules, placed_sheets}
use Rattle.rule_styles.specs.Deciding.{deciding_rule}
use Rattle.rule_styles.specs.Placing.{sheet_text, rules_selectors, kept_rules}
use Rattle.path_styles.specs.Path.{kept_sheet, kept_sheets, SameKept, SheetsTops, Steady, PathRoom}
use Rattle.path_styles.specs.Tops.{selectors_tops, sheet_selectors, sheets_selectors, SheetsTopsRoom, ready_places, ready_counts, ready_sheets}
use Rattle.path_styles.specs.Tops.{ReadySheets}
use Rattle.rule_styles.specs.Held.{SheetsHeld, PathHeld, sheets_kept, styled_places}
use Rattle.rule_styles.specs.Held.{StyledSheets}
use Rattle.styling.proofs.DecidedCascade.{decided}
use Rattle.path_styles.proofs.TopsLaws.{right-stored, tops-long, tops-append}
use Rattle.rule_styles.proofs.KeptBack.{rules-kept}
use Rattle.rule_styles.proofs.SheetsStyled.{SheetLies, sheet-rules}
use Rattle.rule_styles.proofs.SheetsHeldLaws as held
use Rattle.rule_styles.proofs.SheetsHeldLaws.{agent-lies-in, user-lies-in, author-lies-in}

-- a list whose first n numbers are known is these and what lies behind
front-known : (n : ℕ) (l xs : List ℕ) → take n l ≡ xs → l ≡ xs ++ drop n l
front-known n l xs e = sym (take-append-drop n l) ∙ ap (λ (f : List ℕ). f ++ drop n l) e

-- what is stored behind a place leaves what is before it
take-sets : (n : ℕ) (l vs : List ℕ) → n + length vs ≤ length l → take n (sets l n vs) ≡ take n l
take-sets n l vs h =
    ap (take n) (sets-eq vs l n h ∙ append_assoc (take n l) vs (drop (n + length vs) l))
    ∙ take_at (take n l) (vs ++ drop (n + length vs) l) n (length-take-le n l (omega arith))

-- what is stored from 0 on is the front
take-stored : (l vs : List ℕ) → length vs ≤ length l → take (length vs) (sets l 0 vs) ≡ vs
take-stored l vs h = ap (take (length vs)) (sets-eq vs l 0 (omega arith)) ∙ take_at vs (drop (0 + length vs) l) (length vs) refl

-- one sheet, read back
sheet-back : {rows texts : List ℕ} (tokens : List ℕ) {end : ℕ} (x : SheetRules) (rs : List RuleSet) (p q f : ℕ) (others : List ℕ) → SheetLies rows texts end x rs → drop p tokens ≡ kept_rules (placed_rules f rs) ++ others
    → kept_sheet rows tokens texts end (record { styled = record { rules = x; styles = p }; tops = q }) ≡ map deciding_rule (placed_rules f rs)
unfolding kept_sheet
sheet-back {rows} {texts} tokens {end} x rs p q f others l e = rw (l.counted, l.rows_at, e) (rules-kept (sheet_text texts x.from end) rs 0 f l.behind others l.fit l.held)

-- the selectors that are read back of a sheet are those of its rules
selectors-back : {rows texts : List ℕ} {end : ℕ} {x : SheetRules} {rs : List RuleSet} → SheetLies rows texts end x rs → sheet_selectors rows texts end x ≡ rules_selectors rs
unfolding sheet_selectors
selectors-back l = ap rules_selectors (sheet-rules l)

module _ {s : SheetsRules} {rows tokens texts : List ℕ} (h : SheetsHeld s rows tokens texts) where
  abbrev read : Rules RuleSet
  read = held.read h

  abbrev v : StyledSheets
  v = styled_places s read

  -- the selectors of each sheet
  abbrev SA : List Selector
  SA = rules_selectors (held.a h)

  abbrev SU : List Selector
  SU = rules_selectors (held.u h)

  abbrev SW : List Selector
  SW = rules_selectors (held.w h)

  -- where all lies, with a number for each of them
  abbrev pub ready : ReadySheets
  ready = ready_counts v (length SA) (length SU) (length SW)

  -- what is kept of all three ends where the author's part does
  kept-length : length (sheets_kept read) ≡ held.pu h + length (held.Kept h (held.fu h) (held.w h))
  unfolding sheets_kept placed_sheets
  kept-length =
      let K = held.Kept h in
      omega (arith, length-append (K 0 (held.a h)) (K (held.fa h) (held.u h) ++ K (held.fu h) (held.w h)), length-append (K (held.fa h) (held.u h)) (K (held.fu h) (held.w h)))

  -- the contents of all three are as long as those of each together
  contents-length : length (sheets_contents read) ≡ length (rules_contents (held.a h)) + length (rules_contents (held.u h)) + length (rules_contents (held.w h))
  unfolding sheets_contents
  contents-length =
      omega (arith, length-append (rules_contents (held.a h)) (rules_contents (held.u h) ++ rules_contents (held.w h)), length-append (rules_contents (held.u h)) (rules_contents (held.w h)))

  -- places, and how far they go
  pub record Places : Type 0 where
    pub end_short : ready.sheets.end ≤ held.bytes h
    pub rows_short : ready.rows ≤ 8 * held.bytes h
    pub behind-short : ready.behind ≤ 8 * held.bytes h
    pub fill-short : ready.fill ≤ held.bytes h
    pub kept-behind : v.behind ≡ length (sheets_kept read)
    pub all-behind : ready.behind ≡ length (sheets_kept read) + (length SA + (length SU + length SW))

  -- what is kept of the sheets stays within eight numbers for each byte of the sheets, and its contents within their bytes
  pub places : Places
  unfolding styled_places ready_places ready_counts placed_sheets
  places =
      let z = held.sizes h in
      let f = held.fits h in
      record {
        end_short = omega (arith, held.end_is h, z.texts-short);
        rows_short = z.rows_short;
        behind-short = omega (arith, z.rows_short, f.kept-a, f.kept-u, f.kept-w);
        fill-short = omega (arith, contents-length, z.texts-short, f.contents-a, f.contents-u, f.contents-w);
        kept-behind = sym kept-length;
        all-behind = omega (arith, kept-length);
      }

  module _ {tokens₃ texts₃ : List ℕ} (et : tokens₃ ≡ sets tokens 0 (sheets_kept read)) (ex : texts₃ ≡ sets texts s.end (sheets_contents read)) where
    -- the text store is as long as it was
    long-x : length texts₃ ≡ length texts
    long-x = ap length ex ∙ length-sets texts s.end (sheets_contents read)

    -- the store of tokens is as long as it was
    long-t : length tokens₃ ≡ length tokens
    long-t = ap length et ∙ length-sets tokens 0 (sheets_kept read)

    -- the texts of the sheets lie within the store
    texts-end : s.end ≤ length texts₃
    unfolding styled_places ready_places ready_counts
    texts-end = omega (arith, long-x, places.end_short, (held.fits h).texts-room)

    -- what lies in the texts behind the contents is what was read
    texts-read : take s.end texts₃ ≡ texts_held h.lent (held.m h)
    unfolding styled_places ready_places ready_counts
    texts-read =
        ap (take s.end) ex
        ∙ take-sets s.end texts (sheets_contents read) (omega (arith, places.fill-short, places.end_short, (held.fits h).texts-room))
        ∙ ap (take s.end) (texts-are h.lent (held.m h) (held.er h) (held.et h)) ∙ take_at (texts_held h.lent (held.m h)) (zt h.lent (held.m h) (held.er h) (held.et h)) s.end (sym (held.end-held h))

    -- ---- the selectors of the sheets as they lie, for which numbers are found
    module _ {rows' texts' : List ℕ} (X Y : List ℕ) (rx : rows' ≡ rows_held h.lent (held.m h) ++ X) (tx : texts' ≡ texts_held h.lent (held.m h) ++ Y) where
      -- the selectors that are read back of the agent's sheet are its own
      agent-selectors : sheet_selectors rows' texts' s.end s.agent ≡ SA
      agent-selectors = selectors-back (agent-lies-in h X Y rx tx)

      -- the selectors that are read back of the user's sheet are its own
      user-selectors : sheet_selectors rows' texts' s.end s.user ≡ SU
      user-selectors = selectors-back (user-lies-in h X Y rx tx)

      -- the selectors that are read back of the author's sheet are its own
      author-selectors : sheet_selectors rows' texts' s.end s.author ≡ SW
      author-selectors = selectors-back (author-lies-in h X Y rx tx)

    -- the rows are those of the sheets that were read, and others behind them
    rows-now : rows ≡ rows_held h.lent (held.m h) ++ zr h.lent (held.m h) (held.er h) (held.et h)
    rows-now = rows_are h.lent (held.m h) (held.er h) (held.et h)

    -- the texts are those of the sheets that were read, and others behind them
    texts-now : texts₃ ≡ texts_held h.lent (held.m h) ++ drop s.end texts₃
    texts-now = front-known s.end texts₃ (texts_held h.lent (held.m h)) texts-read

    -- the selectors of all three sheets are the agent's, the user's and the author's in turn
    pub selectors-are : sheets_selectors rows texts₃ v ≡ SA ++ (SU ++ SW)
    unfolding sheets_selectors styled_places
    selectors-are = rw (agent-selectors _ _ rows-now texts-now, user-selectors _ _ rows-now texts-now, author-selectors _ _ rows-now texts-now) refl

    -- the places of what is kept are those by the counts of these selectors
    pub ready-is : ready_sheets rows texts₃ v ≡ ready
    unfolding ready_sheets styled_places
    ready-is = rw (agent-selectors _ _ rows-now texts-now, user-selectors _ _ rows-now texts-now, author-selectors _ _ rows-now texts-now) refl

    -- there is room for the numbers of all selectors behind the kept styles, and the texts of each sheet lie in the store
    pub tops-room : SheetsTopsRoom rows tokens₃ texts₃ v
    unfolding styled_places
    tops-room =
        record {
          agent-in = record { begins = (held.agent-lies h).ordered; ends = texts-end };
          user-in = record { begins = (held.user-lies h).ordered; ends = texts-end };
          author-in = record { begins = (held.author-lies h).ordered; ends = texts-end };
          room = omega (arith, ap length selectors-are, length-append SA (SU ++ SW), length-append SU SW, places.kept-behind, places.all-behind, places.behind-short, long-t, (held.fits h).tokens-room);
        }

    -- ---- with the numbers stored
    module _ (nodes attributes text : List ℕ) (row : ℕ) (rooted : Rooted nodes row) {tokens₄ : List ℕ} (ep : tokens₄ ≡ sets tokens₃ v.behind (selectors_tops nodes attributes text row (SA ++ (SU ++ SW)))) where
      abbrev T : List Selector → List ℕ
      T ss = selectors_tops nodes attributes text row ss

      -- all numbers that are kept
      abbrev all : List ℕ
      all = sheets_kept read ++ T (SA ++ (SU ++ SW))

      -- what is kept and the numbers behind it are as long as the place behind them says
      all-long : length all ≡ ready.behind
      all-long =
          length-append (sheets_kept read) (T (SA ++ (SU ++ SW)))
          ∙ ap (λ (n : ℕ). length (sheets_kept read) + n) (tops-long nodes attributes text row (SA ++ (SU ++ SW)) ∙ length-append SA (SU ++ SW) ∙ ap (λ (n : ℕ). length SA + n) (length-append SU SW))
          ∙ sym places.all-behind

      -- both stand in the store of tokens from its start on
      stored : tokens₄ ≡ sets tokens 0 all
      stored =
          let z : v.behind ≡ 0 + length (sheets_kept read) = omega (arith, places.kept-behind) in
          ep ∙ ap (λ (n : ℕ). sets tokens₃ n (T (SA ++ (SU ++ SW)))) z ∙ ap (λ (l : List ℕ). sets l (0 + length (sheets_kept read)) (T (SA ++ (SU ++ SW)))) et ∙ sym (sets-append tokens 0 (sheets_kept read) (T (SA ++ (SU ++ SW))))

      -- the store of tokens is as long as it was, the numbers stored
      long-p : length tokens₄ ≡ length tokens
      long-p = ap length stored ∙ length-sets tokens 0 all

      module _ (rows' tokens' texts' : List ℕ) (k : SameKept ready rows tokens₄ texts₃ rows' tokens' texts') where
        -- where what is kept is the same, the rows of the sheets stand at the start of the rows
        rows-front : take v.rows rows' ≡ rows_held h.lent (held.m h)
        unfolding styled_places ready_places ready_counts
        rows-front =
            k.same_rows ∙ ap (take v.rows) rows-now ∙ take_at (rows_held h.lent (held.m h)) (zr h.lent (held.m h) (held.er h) (held.et h)) v.rows (rows-length h.lent (held.m h))

        -- the texts of the sheets stand at the start of the texts
        texts-front : take s.end texts' ≡ texts_held h.lent (held.m h)
        unfolding styled_places ready_places ready_counts
        texts-front = k.same-texts ∙ texts-read

        -- the kept styles and the numbers stand at the start of the tokens
        tokens-front : take (length all) tokens' ≡ all
        tokens-front =
            ap (λ (n : ℕ). take n tokens') all-long ∙ k.same-tokens ∙ ap (take ready.behind) stored ∙ ap (λ (n : ℕ). take n (sets tokens 0 all)) (sym all-long)
            ∙ take-stored tokens all (omega (arith, all-long, places.behind-short, (held.fits h).tokens-room))

        -- so the rows are those of the sheets, and anything behind them
        rx : rows' ≡ rows_held h.lent (held.m h) ++ drop v.rows rows'
        rx = front-known v.rows rows' (rows_held h.lent (held.m h)) rows-front

        -- so the texts are those of the sheets, and anything behind them
        tx : texts' ≡ texts_held h.lent (held.m h) ++ drop s.end texts'
        tx = front-known s.end texts' (texts_held h.lent (held.m h)) texts-front

        -- what lies behind the styles: the numbers, and anything
        abbrev Y : List ℕ
        Y = drop (length all) tokens'

        abbrev Z : List ℕ
        Z = T (SA ++ (SU ++ SW)) ++ Y

        -- the tokens are the kept styles, then the numbers, then anything
        whole : tokens' ≡ sheets_kept read ++ Z
        whole = front-known (length all) tokens' all tokens-front ∙ append_assoc (sheets_kept read) (T (SA ++ (SU ++ SW))) Y

        -- the kept styles are those of the agent, of the user and of the author in turn
        kx : tokens' ≡ (held.Kept h 0 (held.a h) ++ (held.Kept h (held.fa h) (held.u h) ++ held.Kept h (held.fu h) (held.w h))) ++ Z
        unfolding sheets_kept placed_sheets
        kx = whole

        -- the three sheets, read back
        pub kept-as : kept_sheets rows' tokens' texts' ready ≡ decided (placed_sheets read)
        unfolding kept_sheets styled_places ready_places ready_counts placed_sheets
        kept-as =
            let K = held.Kept h in
            let A = held.a h in
            let U = held.u h in
            let W = held.w h in
            let X = drop v.rows rows' in
            let Q = drop s.end texts' in
            let fa = held.fa h in
            let fu = held.fu h in
            rw (
              sheet-back tokens' s.agent A 0 ready.sheets.agent.tops 0 ((K fa U ++ K fu W) ++ Z) (agent-lies-in h X Q rx tx) (ap (drop 0) kx ∙ from_first (K 0 A) (K fa U) (K fu W) Z),
              sheet-back tokens' s.user U (held.pa h) ready.sheets.user.tops fa (K fu W ++ Z) (user-lies-in h X Q rx tx) (ap (drop (held.pa h)) kx ∙ from_second (K 0 A) (K fa U) (K fu W) Z (held.pa h) refl),
              sheet-back tokens' s.author W (held.pu h) ready.sheets.author.tops fu Z (author-lies-in h X Q rx tx) (ap (drop (held.pu h)) kx ∙ from-third (K 0 A) (K fa U) (K fu W) Z (held.pu h) refl),
            )
            refl

        -- the numbers of the three, read back
        tops-behind : drop v.behind tokens' ≡ (T SA ++ (T SU ++ T SW)) ++ Y
        tops-behind =
            ap (drop v.behind) whole ∙ drop_at (sheets_kept read) Z v.behind (sym places.kept-behind)
            ∙ ap (λ (l : List ℕ). l ++ Y) (tops-append nodes attributes text row SA (SU ++ SW) ∙ ap (λ (l : List ℕ). T SA ++ l) (tops-append nodes attributes text row SU SW))

        -- n places behind the kept styles stand the numbers from the n-th on
        further : (n : ℕ) → drop (v.behind + n) tokens' ≡ drop n ((T SA ++ (T SU ++ T SW)) ++ Y)
        further n = sym (drop-drop n v.behind tokens') ∙ ap (drop n) tops-behind

        -- the numbers of the selectors of each sheet decide on the row, whatever stands behind what is kept
        pub tops-as : SheetsTops ready nodes attributes text row rows' tokens' texts'
        unfolding styled_places ready_places ready_counts
        tops-as =
            let X = drop v.rows rows' in
            let Q = drop s.end texts' in
            let n : v.behind + length SA + length SU ≡ v.behind + (length SA + length SU) = omega arith in
            let a = tops-long nodes attributes text row SA in
            let u = tops-long nodes attributes text row SU in
            record {
              agent-tops = rw (agent-selectors X Q rx tx, tops-behind ∙ append_assoc (T SA) (T SU ++ T SW) Y) (right-stored nodes attributes text row rooted SA ((T SU ++ T SW) ++ Y));
              user-tops = rw (user-selectors X Q rx tx, further (length SA) ∙ from_second (T SA) (T SU) (T SW) Y (length SA) (sym a)) (right-stored nodes attributes text row rooted SU (T SW ++ Y));
              author-tops =
                  rw (author-selectors X Q rx tx, ap (λ (i : ℕ). drop i tokens') n ∙ further (length SA + length SU) ∙ from-third (T SA) (T SU) (T SW) Y (length SA + length SU) (let q : length SA + length SU ≡ length (T SA) + length (T SU) = omega (arith, a, u) in q))
                  (right-stored nodes attributes text row rooted SW Y);
            }

      -- in the stores as they are now, the three sheets with their deciding styles are read back
      pub kept-now : kept_sheets rows tokens₄ texts₃ ready ≡ decided (placed_sheets read)
      kept-now = kept-as rows tokens₄ texts₃ (record { same_rows = refl; same-tokens = refl; same-texts = refl })

      -- what is kept lies there, and stays the same whatever stands behind it
      pub steady : Steady ready nodes attributes text row rows tokens₄ texts₃
      unfolding styled_places ready_places ready_counts
      steady =
          record {
            kept = λ rows' tokens' texts' k. kept-as rows' tokens' texts' k ∙ sym kept-now;
            tops = λ rows' tokens' texts' k. tops-as rows' tokens' texts' k;
            agent-in = record { begins = (held.agent-lies h).ordered; ends = texts-end };
            user-in = record { begins = (held.user-lies h).ordered; ends = texts-end };
            author-in = record { begins = (held.author-lies h).ordered; ends = texts-end };
          }

      -- and there is room for a path
      pub path_room : (brackets : List ℕ) (p : Path) → PathHeld h brackets p → PathRoom ready p rows tokens₄ brackets texts₃
      path_room brackets p r =
          record {
            for-rules = omega (arith, places.rows_short, r.for-rules);
            for-tokens = omega (arith, long-p, places.behind-short, r.for-tokens);
            for-brackets = omega (arith, r.for-brackets);
            for-texts = omega (arith, long-x, places.end_short, places.fill-short, r.for-texts);
            bits = omega (arith, places.fill-short, (held.sizes h).few, r.bits);
          }
