-- Returns of the functions of a style call.
use mathlib.Core.Path.{◌≡◌, refl, ap, sym, ◌∙◌}
use mathlib.Core.Bool.{Bool}
use mathlib.Core.List.{List, ◌++◌, append_assoc}
use Prim.Native.Nat.{ℕ, ◌+◌, ◌-◌, ◌≤◌, ◌<◌}
use native.Mathlib.Omega.{arith}
use borrow.Author.Tests.{lt-ltb, le-ltb, le-leb, lt-leb}
use lib.Dec.{leb, ltb, eqb}
use lib.ListN.{length, take, drop, replicate, length-append, length-drop}
use lib.Seq.{sets, sets-eq, length-sets, take_at, drop_at, take-add, length-take-le}
use Rattle.combinators.specs.Choice.{and, is}
use Rattle.combinators.specs.LeastLengths.{stores_suffice}
use Rattle.combinators.specs.Part.{part}
use Rattle.combinators.specs.Store.{cleared}
use Rattle.combinators.proofs.Cleared.{cleared-is, cleared-throughout}
use Rattle.syntax.specs.Selector.{Selector, RuleSet}
use Rattle.syntax.specs.declared.styles.Value.{Value}
use Rattle.sheets.specs.SheetAnswer.{padded}
use Rattle.origins.specs.Reading.{SheetsRules}
use Rattle.cascade.specs.declared.slots.Cascade.{Cascade}
use Rattle.cascade.specs.Row.{style_row_width, row_of}
use Rattle.page.specs.Path.{Path}
use Rattle.page.specs.Rows.{node_count, node_at, element_kind}
use Rattle.matching.specs.Rows.{Rooted}
use Rattle.styles.specs.declared.settings.Settings.{Settings}
use Rattle.styles.specs.Computed.{cascaded}
use Rattle.styles.specs.Said.{Rules, StyledRule}
use Rattle.styles.specs.StyleCall.{sheets_contents, path_contents, placed_sheets, placed_from, placed_along, call_store, call_row}
use Rattle.styles.proofs.Room.{path-short}
use Rattle.rule_styles.specs.Held.{sheets_from, SheetsHeld, PathHeld, sheets_kept, styled_places}
use Rattle.rule_styles.specs.Placing.{rules_selectors}
use Rattle.path_styles.specs.Tops.{selectors_tops, sheets_selectors, SheetsTopsRoom, ready_places, ready_counts, ready_sheets}
use Rattle.path_styles.specs.Path.{kept_sheets, Steady, PathRoom}
use Rattle.styling.specs.StyleAnswer.{is_element}
use Rattle.rule_styles.specs.Held.{StyledSheets}
use Rattle.path_styles.specs.Tops.{ReadySheets}
use Rattle.styling.proofs.DecidedCascade.{decided, path-decided}
use Rattle.rule_styles.proofs.SheetsHeldLaws as held
use Rattle.styling.proofs.Steadying as still

-- ---- whether a row is an element
module _ (nodes : List ℕ) (row n : ℕ) (en : n ≡ node_count nodes) where
  -- a row of the page is an element if its kind is that of elements
  pub element-there : row < n → (k : ℕ) → k ≡ (node_at nodes row).kind → eqb k element_kind ≡ is_element nodes row
  unfolding is_element and is
  element-there h k e = rw (← en, lt-ltb row n h, ← e) refl

  -- a row behind the last of the page is no element
  pub element-beyond : n ≤ row → ltb row n ≡ is_element nodes row
  unfolding is_element and
  element-beyond h = rw (← en, le-ltb row n h) refl

-- ---- whether what is lent suffices
module _ (n out rules tokens brackets texts : ℕ) where
  -- a row that is too short does not suffice, whatever the stores are
  pub short_row : out < style_row_width → leb style_row_width out ≡ and (leb style_row_width out) (stores_suffice n rules tokens brackets texts)
  unfolding and
  short_row h = rw (lt-leb style_row_width out h) refl

  -- where the row is long enough, the stores decide
  by-stores : style_row_width ≤ out → (r : Bool) → r ≡ stores_suffice n rules tokens brackets texts → r ≡ and (leb style_row_width out) (stores_suffice n rules tokens brackets texts)
  unfolding and
  by-stores h r e = rw (le-leb style_row_width out h) e

  -- by the count of the bytes
  pub by-count : style_row_width ≤ out → (m : ℕ) → m ≡ n → (r : Bool) → r ≡ stores_suffice m rules tokens brackets texts → r ≡ and (leb style_row_width out) (stores_suffice n rules tokens brackets texts)
  by-count h m e r f = by-stores h r (f ∙ ap (λ (k : ℕ). stores_suffice k rules tokens brackets texts) e)

-- ---- contents moved down, and zeros behind them
-- the contents, moved down to the start and cleared behind, are the contents and zeros
pub contents-kept : (l y z : List ℕ) (end fill : ℕ) → end + fill ≤ length l → y ≡ sets l 0 (part l end fill) → z ≡ cleared fill y → z ≡ padded (part l end fill) (length l)
unfolding padded
contents-kept l y z end fill h ey ez =
    let P = part l end fill in
    let n : length P ≡ fill = unfold part in length-take-le fill (drop end l) (omega (arith, length-drop end l)) in
    let m : length y ≡ length l = ap length ey ∙ length-sets l 0 P in
    let front : take fill y ≡ P = ap (take fill) (ey ∙ sets-eq P l 0 (omega (arith, n))) ∙ take_at P (drop (0 + length P) l) fill n in
    let k : length y - fill ≡ length l - length P = omega (arith, m, n) in
    ez ∙ cleared-is fill y ∙ ap (λ (f : List ℕ). f ++ replicate (length y - fill) 0) front ∙ ap (λ (i : ℕ). P ++ replicate i 0) k

-- what stands behind two fronts as long as each other
behind : (a b c d : List ℕ) → length a ≡ length c → a ++ b ≡ c ++ d → b ≡ d
behind a b c d n e = sym (drop_at a b (length a) refl) ∙ ap (drop (length a)) e ∙ drop_at c d (length a) (sym n)

-- ---- sheets that were read, with their styles made
module _ {s : SheetsRules} {rows tokens texts : List ℕ} (h : SheetsHeld s rows tokens texts) (v : StyledSheets) (t x : List ℕ)
    (ev : v ≡ styled_places s (sheets_from rows texts s)) (et : t ≡ sets tokens 0 (sheets_kept (sheets_from rows texts s))) (ex : x ≡ sets texts s.end (sheets_contents (sheets_from rows texts s))) where
  abbrev read : Rules RuleSet
  read = held.read h

  -- the styles of the sheets lie at the places that the sheets that were read give
  v-is : v ≡ styled_places s read
  v-is = ev ∙ ap (styled_places s) (held.sheets-are h)

  -- the store of tokens has at its start what is kept of the sheets
  t-is : t ≡ sets tokens 0 (sheets_kept read)
  t-is = et ∙ ap (λ (r : Rules RuleSet). sets tokens 0 (sheets_kept r)) (held.sheets-are h)

  -- the text store has the contents of the sheets behind their texts
  x-is : x ≡ sets texts s.end (sheets_contents read)
  x-is = ex ∙ ap (λ (r : Rules RuleSet). sets texts s.end (sheets_contents r)) (held.sheets-are h)

  -- what finding the numbers of selectors asks for
  pub find-room : SheetsTopsRoom rows t x v
  find-room = rw v-is (still.tops-room h t-is x-is)

  -- ---- with the numbers of their selectors
  module _ (nodes attributes text : List ℕ) (row : ℕ) (rooted : Rooted nodes row) (w : ReadySheets) (y : List ℕ) (ew : w ≡ ready_sheets rows x v)
      (es : y ≡ sets t v.behind (selectors_tops nodes attributes text row (sheets_selectors rows x v))) where
    -- with the counts of selectors, the places are those of what is kept
    w-is : w ≡ still.ready h
    w-is = ew ∙ ap (ready_sheets rows x) v-is ∙ still.ready-is h t-is x-is

    -- the numbers of all selectors stand behind the kept styles
    y-is : y ≡ sets t (styled_places s read).behind (selectors_tops nodes attributes text row (rules_selectors (held.a h) ++ (rules_selectors (held.u h) ++ rules_selectors (held.w h))))
    y-is =
        es ∙ ap (λ (z : StyledSheets). sets t z.behind (selectors_tops nodes attributes text row (sheets_selectors rows x z))) v-is
        ∙ ap (λ (ss : List Selector). sets t (styled_places s read).behind (selectors_tops nodes attributes text row ss)) (still.selectors-are h t-is x-is)

    -- what going down a path asks for
    pub now-steady : Steady w nodes attributes text row rows y x
    now-steady = rw w-is (still.steady h t-is x-is nodes attributes text row rooted y-is)

    -- and there is room for the path
    pub now-room : (brackets : List ℕ) (p : Path) → PathHeld h brackets p → PathRoom w p rows y brackets x
    now-room brackets p r = rw w-is (still.path_room h t-is x-is nodes attributes text row rooted y-is brackets p r)

    -- the row of the path, by what is kept, is the row of the style call by the sheets that were read
    pub row-called : (c : Cascade) (settings : Settings) (p : Path) (ys : List ℕ) → ys ≡ row_of (cascaded c (placed_from (kept_sheets rows y x w) w.fill settings p))
        → ys ≡ call_row c (sheets_from rows texts s) settings p
    unfolding call_row placed_along
    row-called c settings p ys e =
        let k : kept_sheets rows y x w ≡ decided (placed_sheets read) = ap (kept_sheets rows y x) w-is ∙ still.kept-now h t-is x-is nodes attributes text row rooted y-is in
        let f : w.fill ≡ length (sheets_contents read) = ap (λ (z : ReadySheets). z.fill) w-is ∙ (unfold styled_places ready_places ready_counts in refl) in
        e
        ∙ ap (λ (r : Rules (StyledRule Value)). row_of (cascaded c (placed_from r w.fill settings p))) k
        ∙ ap row_of (path-decided c (placed_sheets read) w.fill settings p)
        ∙ ap (λ (n : ℕ). row_of (cascaded c (placed_from (placed_sheets read) n settings p))) f
        ∙ ap (λ (r : Rules RuleSet). row_of (cascaded c (placed_from (placed_sheets r) (length (sheets_contents r)) settings p))) (sym (held.sheets-are h))

    -- the fill, and the contents
    module _ (settings : Settings) (p : Path) (r : ℕ) (er : r ≡ w.fill + length (path_contents settings p)) where
      abbrev store : List ℕ
      store = call_store (sheets_from rows texts s) settings p

      -- the texts of the call are the contents of the sheets, then those of the path
      store_is : store ≡ sheets_contents read ++ path_contents settings p
      unfolding call_store
      store_is = ap (λ (q : Rules RuleSet). sheets_contents q ++ path_contents settings p) (held.sheets-are h)

      -- the texts of the sheets end where they ended when they were read
      end_is : w.sheets.end ≡ s.end
      end_is = ap (λ (z : ReadySheets). z.sheets.end) w-is ∙ (unfold styled_places ready_places ready_counts in refl)

      -- the fill before the path is the length of the sheets' contents
      fill_is : w.fill ≡ length (sheets_contents read)
      fill_is = ap (λ (z : ReadySheets). z.fill) w-is ∙ (unfold styled_places ready_places ready_counts in refl)

      -- the fill behind the path is the length of the texts of the call
      pub filled : r ≡ length store
      filled = omega (arith, er, fill_is, ap length store_is, length-append (sheets_contents read) (path_contents settings p))

      -- they lie within the store
      pub contents-in : (brackets : List ℕ) → PathHeld h brackets p → (l : List ℕ) → length l ≡ length x → w.sheets.end + r ≤ length l
      contents-in brackets q l e = omega (arith, e, er, path-short settings p, (now-room brackets p q).for-texts)

      -- the part of the store behind the texts of the sheets, up to that fill, is the texts of the call
      pub texts-called : (brackets : List ℕ) → PathHeld h brackets p → (l : List ℕ) → length l ≡ length x → take (w.sheets.end + r) l ≡ take (w.sheets.end + w.fill) x ++ path_contents settings p → part l w.sheets.end r ≡ store
      unfolding part
      texts-called brackets q l n e =
          let C = sheets_contents read in
          let P = path_contents settings p in
          let room = (now-room brackets p q).for-texts in
          let long : length x ≡ length texts = ap length x-is ∙ length-sets texts s.end C in
          let fits : s.end + length C ≤ length texts = omega (arith, room, long, end_is, fill_is) in
          let a : length (take s.end texts) ≡ w.sheets.end = length-take-le s.end texts (omega arith) ∙ sym end_is in
          let b : length (take w.sheets.end l) ≡ w.sheets.end = length-take-le w.sheets.end l (omega (arith, contents-in brackets q l n)) in
          let front : take (w.sheets.end + w.fill) x ≡ take s.end texts ++ C =
          ap (take (w.sheets.end + w.fill)) (x-is ∙ sets-eq C texts s.end fits)
          ∙ take_at (take s.end texts ++ C) (drop (s.end + length C) texts) (w.sheets.end + w.fill) (omega (arith, length-append (take s.end texts) C, a, fill_is)) in
          let whole : take (w.sheets.end + r) l ≡ take s.end texts ++ (C ++ P) = e ∙ ap (λ (f : List ℕ). f ++ P) front ∙ append_assoc (take s.end texts) C P in
          behind (take w.sheets.end l) (take r (drop w.sheets.end l)) (take s.end texts) (C ++ P) (b ∙ sym a) (sym (take-add w.sheets.end r l) ∙ whole) ∙ sym store_is

-- ---- stores cleared throughout, which kept their length
-- ---- all that is left of sheets that were read
module _ {s : SheetsRules} {rows tokens texts : List ℕ} (h : SheetsHeld s rows tokens texts) (v : StyledSheets) (t x : List ℕ)
    (ev : v ≡ styled_places s (sheets_from rows texts s)) (et : t ≡ sets tokens 0 (sheets_kept (sheets_from rows texts s))) (ex : x ≡ sets texts s.end (sheets_contents (sheets_from rows texts s))) where
  module _ (nodes attributes text : List ℕ) (row : ℕ) (rooted : Rooted nodes row) (w : ReadySheets) (y : List ℕ) (ew : w ≡ ready_sheets rows x v)
      (es : y ≡ sets t v.behind (selectors_tops nodes attributes text row (sheets_selectors rows x v))) where
    -- what is left: the row of the call, its texts at the start and zeros behind them, and zeros in the other stores
    pub read_left : (c : Cascade) (settings : Settings) (p : Path) (brackets : List ℕ) → PathHeld h brackets p
        → (out ys : List ℕ) → ys ≡ row_of (cascaded c (placed_from (kept_sheets rows y x w) w.fill settings p))
        → (r : ℕ) → r ≡ w.fill + length (path_contents settings p)
        → (l : List ℕ) → length l ≡ length x → length x ≡ length texts → take (w.sheets.end + r) l ≡ take (w.sheets.end + w.fill) x ++ path_contents settings p
        → (z : List ℕ) → z ≡ padded (part l w.sheets.end r) (length l)
        → (rows₁ tokens₁ brackets₁ rows₂ tokens₂ brackets₂ : List ℕ) → length rows₁ ≡ length rows → rows₂ ≡ cleared 0 rows₁ → length tokens₁ ≡ length tokens → tokens₂ ≡ cleared 0 tokens₁ → length brackets₁ ≡ length brackets → brackets₂ ≡ cleared 0 brackets₁
        → (ys ++ drop style_row_width out ≡ call_row c (sheets_from rows texts s) settings p ++ drop style_row_width out)
        × ((r ≡ length (call_store (sheets_from rows texts s) settings p))
        × ((z ≡ padded (call_store (sheets_from rows texts s) settings p) (length texts))
        × ((rows₂ ≡ replicate (length rows) 0) × ((tokens₂ ≡ replicate (length tokens) 0) × (brackets₂ ≡ replicate (length brackets) 0)))))
    read_left c settings p brackets q out ys ey r er l n₁ n₂ el z ez rows₁ tokens₁ brackets₁ rows₂ tokens₂ brackets₂ nr cr nt ct nb cb = (
      ap (λ (y : List ℕ). y ++ drop style_row_width out) (row-called h v t x ev et ex nodes attributes text row rooted w y ew es c settings p ys ey),
      (
        filled h v t x ev et ex nodes attributes text row rooted w y ew es settings p r er,
        (
          ez ∙ ap (λ (y : List ℕ). padded y (length l)) (texts-called h v t x ev et ex nodes attributes text row rooted w y ew es settings p r er brackets q l n₁ el) ∙ ap (padded (call_store (sheets_from rows texts s) settings p)) (n₁ ∙ n₂),
          (cleared-throughout rows₁ rows rows₂ nr cr, (cleared-throughout tokens₁ tokens tokens₂ nt ct, cleared-throughout brackets₁ brackets brackets₂ nb cb)),
        ),
      ),
    )
