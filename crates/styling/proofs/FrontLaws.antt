-- What the path of a row asks for is enough for it, and what styling leaves in the fronts of the stores, with zeros behind them, it leaves in the whole.
use mathlib.Core.Path.{◌≡◌, refl, ap, sym, ◌∙◌}
use mathlib.Core.Bool.{Bool, true, false}
use mathlib.Core.List.{List, [], ◌∷◌, ◌++◌, append_assoc}
use Prim.Native.Nat.{ℕ, zero, suc, ◌+◌, ◌-◌, ◌*◌, ◌≤◌, ◌<◌}
use native.Mathlib.Omega.{arith}
use borrow.Author.Tests.{ltb-true, lt-ltb, le-ltb}
use lib.Dec.{ltb}
use lib.ListN.{length, take, drop, replicate, length-append, length-take, length-replicate, replicate-append-replicate}
use lib.Seq.{drop_at, length-take-le}
use Rattle.combinators.specs.Choice.{pick, is}
use Rattle.combinators.specs.LeastLengths.{text_least, number_least, Least}
use Rattle.combinators.specs.Part.{part}
use Rattle.combinators.specs.Store.{cleared}
use Rattle.combinators.proofs.Cleared.{length-cleared, cleared-is}
use Rattle.combinators.proofs.Rules.{pick_true, pick-false, pick-holds}
use Rattle.syntax.specs.Stream.{texts_many}
use Rattle.sheets.specs.SheetAnswer.{padded}
use Rattle.origins.specs.Checks.{Lent}
use Rattle.origins.specs.Reading.{Sheets, rules, panicked}
use Rattle.cascade.specs.declared.slots.Cascade.{Cascade}
use Rattle.page.specs.Ancestors.{ancestors_of, line_of}
use Rattle.page.specs.Path.{Attribute, Path}
use Rattle.page.specs.PathOf.{attributes_from, element_at, elements_of, path_of}
use Rattle.page.specs.Rows.{node_at, element_kind, attribute_at, attribute_value, number_bound}
use Rattle.page.proofs.Ancestry.{top-ancestors, below-ancestors}
use Rattle.styles.specs.declared.settings.Settings.{Settings}
use Rattle.styles.specs.Room.{values_of, values_along, attributes_along}
use Rattle.styles.specs.Said.{Rules}
use Rattle.styles.specs.StyleCall.{call_store}
use Rattle.styles.proofs.Room.{attributes-counted}
use Rattle.styling.specs.StyleAnswer.{StyleLeft, zeroed, answered, styled_left}
use Rattle.styling.specs.Styling.{CallLent}
use Rattle.styling.specs.Fronts.{room_limit, attribute_more, room_most, attributes_room, rows_room, Totals, FrontLent}
use Rattle.styling.proofs.StyleCalls.{left_by}

-- ---- `attributes_room`: what is left to add gives what the whole does
pub record Adding (attributes : List ℕ) (first count start total at left : ℕ) : Type 0 where
  pub same : attributes_room attributes left at total ≡ attributes_room attributes count first start
  pub most : total ≤ room_most

-- before the first attribute all are left
pub add_begin : (attributes : List ℕ) (first count start left : ℕ) → left ≡ count → Totals first count start → Adding attributes first count start start first left
add_begin attributes first count start left e t = rw e (record { same = refl; most = t.most })

module _ (attributes : List ℕ) (first count start total at left : ℕ) (i : Adding attributes first count start total at left) where
  -- where none is left the total is that of all
  pub add_done : left ≤ 0 → (total ≡ attributes_room attributes count first start) × (total ≤ room_most)
  unfolding attributes_room
  add_done h = let e : left ≡ 0 = omega arith in (sym (ap (λ (k : ℕ). attributes_room attributes k at total) e) ∙ i.same, i.most)

  module _ (h : 0 < left) where
    -- one is left, and others
    one_left : left ≡ suc (left - 1)
    one_left = omega arith

    -- a total over the limit stays
    pub add-over : room_limit < total → (total ≡ attributes_room attributes count first start) × (total ≤ room_most)
    unfolding attributes_room
    add-over l =
        let e : total ≡ attributes_room attributes (suc (left - 1)) at total = pick_true _ _ _ _ (lt-ltb room_limit total l) refl in
        (e ∙ ap (λ (k : ℕ). attributes_room attributes k at total) (sym one_left) ∙ i.same, i.most)

    -- one attribute more
    pub add-on : total ≤ room_limit → (n : ℕ) → n ≡ (attribute_at attributes at).value_length → n < number_bound → (fewer : ℕ) → fewer ≡ left - 1
        → Adding attributes first count start (total + (n + attribute_more)) (at + 1) fewer
    unfolding attributes_room
    add-on l n en hn fewer ef =
        let e : attributes_room attributes (suc (left - 1)) at total ≡ attributes_room attributes (left - 1) (at + 1) (total + ((attribute_at attributes at).value_length + attribute_more)) =
        sym (pick-false _ _ _ _ (le-ltb room_limit total l) refl) in
        rw ef (
        record {
          same =
              ap (λ (k : ℕ). attributes_room attributes (left - 1) (at + 1) (total + (k + attribute_more))) en
              ∙ sym e ∙ ap (λ (k : ℕ). attributes_room attributes k at total) (sym one_left) ∙ i.same;
          most = omega arith;
        })

-- ---- `path_room`: what the rows from here up give is what all rows give
pub record Climbing (nodes attributes : List ℕ) (row total above : ℕ) : Type 0 where
  pub same : rows_room nodes attributes (line_of nodes above) total ≡ rows_room nodes attributes (line_of nodes row) 0
  pub most : total ≤ room_most

-- the climb begins at the row, with nothing
pub climb-begin : (nodes attributes : List ℕ) (row : ℕ) → Climbing nodes attributes row 0 row
climb-begin nodes attributes row = record { same = refl; most = omega arith }

-- the attributes of a row can be counted
pub climb-counted : (nodes attributes : List ℕ) (row total above : ℕ) → Climbing nodes attributes row total above → (first count : ℕ) → first < number_bound → count < number_bound → Totals first count total
climb-counted nodes attributes row total above i first count hf hc = record { counted = omega arith; most = i.most }

module _ (nodes attributes : List ℕ) (row total above : ℕ) (i : Climbing nodes attributes row total above) (first count : ℕ) (ef : first ≡ (node_at nodes above).first_attribute) (ec : count ≡ (node_at nodes above).attribute_count)
    (more : ℕ) (em : more ≡ attributes_room attributes count first total) (hm : more ≤ room_most) (parent : ℕ) (ep : parent ≡ (node_at nodes above).parent) where
  -- with the attributes of a row, those above it are left
  climbed : (above' : List ℕ) → ancestors_of nodes above ≡ above' → rows_room nodes attributes above' more ≡ rows_room nodes attributes (line_of nodes row) 0
  unfolding rows_room
  climbed l e =
      ap (λ (z : List ℕ). rows_room nodes attributes z more) (sym e)
      ∙ ap (rows_room nodes attributes (ancestors_of nodes above)) (em ∙ ap (λ (k : ℕ). attributes_room attributes k first total) ec ∙ ap (λ (k : ℕ). attributes_room attributes (node_at nodes above).attribute_count k total) ef)
      ∙ i.same

  -- at the top nothing is left
  pub climb-done : above ≤ parent → (more ≡ rows_room nodes attributes (line_of nodes row) 0) × (more ≤ room_most)
  unfolding rows_room
  climb-done h = (climbed [] (top-ancestors nodes above (rw (← ep) h)), hm)

  -- below it the parent and what is above it
  pub climb-on : parent < above → Climbing nodes attributes row more parent
  climb-on h = record { same = climbed (line_of nodes parent) (below-ancestors nodes above (rw (← ep) h) ∙ ap (line_of nodes) (sym ep)); most = hm }

-- ---- it is enough
-- a part is no longer than was asked for
part-short : (t : List ℕ) (start size : ℕ) → length (part t start size) ≤ size
unfolding part
part-short t start size = omega (arith, length-take size (drop start t))

-- what attribute rows ask for beside a total, up to the limit, is within what is counted
attributes-enough : (attributes text : List ℕ) (m k at total : ℕ) → m ≤ room_limit → m ≤ total + (values_of (attributes_from attributes text k at) + 2 * k) → m ≤ attributes_room attributes k at total
unfolding values_of attributes_from texts_many attributes_room
attributes-enough attributes text m zero at total l h = omega arith
attributes-enough attributes text m (suc k) at total l h =
    let v : List ℕ = attribute_value attributes text at in
    let others : List ℕ = texts_many (λ (a : Attribute). a.value) (attributes_from attributes text k (at + 1)) in
    let short : length v ≤ (attribute_at attributes at).value_length = unfold attribute_value in part-short text (attribute_at attributes at).value_start (attribute_at attributes at).value_length in
    pick-holds (λ (r : ℕ). m ≤ r) (ltb room_limit total) _ _ (λ t. let o : room_limit < total = ltb-true room_limit total t in omega arith)
    (λ _. attributes-enough attributes text m k (at + 1) (total + ((attribute_at attributes at).value_length + attribute_more)) l (omega (arith, h, short, length-append v others)))

module _ (nodes attributes text : List ℕ) where
  -- what a row and those above it ask for is no more than its attributes do and those above it, whether it is an element or not
  row-asks : (m row : ℕ) (rest : Path) (total : ℕ) (t : Bool)
      → m ≤ total + (values_along (pick t (element_at nodes attributes text row ∷ rest) rest) + 2 * attributes_along (pick t (element_at nodes attributes text row ∷ rest) rest))
      → m ≤ total + (values_of (attributes_from attributes text (node_at nodes row).attribute_count (node_at nodes row).first_attribute) + 2 * (node_at nodes row).attribute_count) + (values_along rest + 2 * attributes_along rest)
  unfolding values_along attributes_along element_at pick
  row-asks m row rest total true h = omega (arith, h, attributes-counted attributes text (node_at nodes row).attribute_count (node_at nodes row).first_attribute)
  row-asks m row rest total false h = omega (arith, h)

  -- what the elements among some rows ask for, up to the limit, is within what is counted of all of them
  rows-enough : (m : ℕ) (rows : List ℕ) (total : ℕ) → m ≤ room_limit
      → m ≤ total + (values_along (elements_of nodes attributes text rows) + 2 * attributes_along (elements_of nodes attributes text rows)) → m ≤ rows_room nodes attributes rows total
  unfolding values_along attributes_along elements_of rows_room
  rows-enough m [] total l h = omega arith
  rows-enough m (row ∷ rows) total l h =
      let n = node_at nodes row in
      let rest : Path = elements_of nodes attributes text rows in
      let r : ℕ = values_along rest + 2 * attributes_along rest in
      let own : List Attribute = attributes_from attributes text n.attribute_count n.first_attribute in
      let asks : m ≤ total + (values_of own + 2 * n.attribute_count) + r = row-asks m row rest total (is n.kind element_kind) h in
      let one : m - r ≤ attributes_room attributes n.attribute_count n.first_attribute total = attributes-enough attributes text (m - r) n.attribute_count n.first_attribute total (omega (arith, l)) (omega (arith, asks)) in
      rows-enough m rows (attributes_room attributes n.attribute_count n.first_attribute total) l (omega (arith, one))

  -- what the path of a row asks for is within what is counted
  path-enough : (row : ℕ) → values_along (path_of nodes attributes text row) + 2 * attributes_along (path_of nodes attributes text row) ≤ room_limit
      → values_along (path_of nodes attributes text row) + 2 * attributes_along (path_of nodes attributes text row) ≤ rows_room nodes attributes (line_of nodes row) 0
  unfolding path_of
  path-enough row h = rows-enough _ (line_of nodes row) 0 h (omega arith)

-- ---- what the fronts are lent for
module _ {agent user author out rules₀ tokens brackets texts : List ℕ} {p : Path} (l : Lent agent user author rules₀ tokens brackets texts)
    (k : CallLent (length agent + length user + length author) p out rules₀ tokens brackets texts) where
  -- stores that suffice for the sheets and what the path asks for suffice for the call
  pub front-lent : (nodes attributes text : List ℕ) (row more room : ℕ) → p ≡ path_of nodes attributes text row → more ≡ rows_room nodes attributes (line_of nodes row) 0
      → room ≡ length agent + length user + length author + more → Least room (length rules₀) (length tokens) (length brackets) (length texts)
      → FrontLent agent user author p room out rules₀ tokens brackets texts
  front-lent nodes attributes text row more room e em er h =
      let few : values_along (path_of nodes attributes text row) + 2 * attributes_along (path_of nodes attributes text row) ≤ room_limit = rw (← e) (omega (arith, k.few)) in
      let enough : values_along p + 2 * attributes_along p ≤ more = rw (em, e) (path-enough nodes attributes text row few) in
      record { lent = l; call = k; enough = omega (arith, enough, er); least = h }

-- a front of a store is as long as it is asked for
front_long : (n : ℕ) (l m : List ℕ) → n ≤ length l → length m ≡ length l → length (take n m) ≡ n
front_long n l m h e = length-take-le n m (omega (arith, h, e))

-- a front lies within the store
pub front-within : (n : ℕ) (l m : List ℕ) → n ≤ length l → m ≡ cleared n l → n ≤ length m
front-within n l m h e = omega (arith, h, ap length e, length-cleared n l)

-- so many are lent of it
pub front-count : (n : ℕ) (l m : List ℕ) → n ≤ length l → m ≡ cleared n l → n ≡ length (take n m)
front-count n l m h e = sym (front_long n l m h (ap length e ∙ length-cleared n l))

-- behind its front a store that was cleared from there on is zero
behind-zeros : (n : ℕ) (l m : List ℕ) → n ≤ length l → m ≡ cleared n l → drop n m ≡ replicate (length l - n) 0
behind-zeros n l m h e = ap (drop n) (e ∙ cleared-is n l) ∙ drop_at (take n l) (replicate (length l - n) 0) n (length-take-le n l h)

-- zeros in the front and zeros behind it
zeros-joined : (n : ℕ) (l m : List ℕ) → n ≤ length l → m ≡ cleared n l → replicate (length (take n m)) 0 ++ drop n m ≡ replicate (length l) 0
zeros-joined n l m h e =
    let f : length (take n m) ≡ n = front_long n l m h (ap length e ∙ length-cleared n l) in
    let s : n + (length l - n) ≡ length l = omega arith in
    ap (λ (k : ℕ). replicate k 0 ++ drop n m) f ∙ ap (λ (z : List ℕ). replicate n 0 ++ z) (behind-zeros n l m h e)
    ∙ replicate-append-replicate n (length l - n) 0 ∙ ap (λ (k : ℕ). replicate k 0) s

-- texts and zeros in the front, and zeros behind it
padded-joined : (n : ℕ) (l m xs : List ℕ) → n ≤ length l → m ≡ cleared n l → length (padded xs (length (take n m))) ≡ length (take n m) → padded xs (length (take n m)) ++ drop n m ≡ padded xs (length l)
unfolding padded
padded-joined n l m xs h e g =
    let f : length (take n m) ≡ n = front_long n l m h (ap length e ∙ length-cleared n l) in
    let d : ℕ = length (take n m) - length xs in
    let fits : length xs ≤ n = omega (arith, g, f, length-append xs (replicate d 0), length-replicate {A = ℕ} d 0) in
    let s : d + (length l - n) ≡ length l - length xs = omega (arith, f, fits, h) in
    ap (λ (z : List ℕ). xs ++ replicate d 0 ++ z) (behind-zeros n l m h e)
    ∙ append_assoc xs (replicate d 0) (replicate (length l - n) 0)
    ∙ ap (λ (z : List ℕ). xs ++ z) (replicate-append-replicate d (length l - n) 0 ∙ ap (λ (k : ℕ). replicate k 0) s)

module _ {agent user author out rules₀ tokens brackets texts : List ℕ} {p : Path} {room : ℕ} (o : FrontLent agent user author p room out rules₀ tokens brackets texts)
    {t₁ y₁ x₁ b₁ : List ℕ} (ct : t₁ ≡ cleared (text_least room) texts) (cy : y₁ ≡ cleared (number_least room) rules₀) (cx : x₁ ≡ cleared (number_least room) tokens) (cb : b₁ ≡ cleared room brackets) where
  abbrev tf : List ℕ
  tf = take (text_least room) t₁

  abbrev yf : List ℕ
  yf = take (number_least room) y₁

  abbrev xf : List ℕ
  xf = take (number_least room) x₁

  abbrev bf : List ℕ
  bf = take room b₁

  -- the front of the text store is as long as is asked for
  long-t : length tf ≡ text_least room
  long-t = front_long (text_least room) texts t₁ o.least.for-texts (ap length ct ∙ length-cleared (text_least room) texts)

  -- so is that of the rules
  long-y : length yf ≡ number_least room
  long-y = front_long (number_least room) rules₀ y₁ o.least.for-rules (ap length cy ∙ length-cleared (number_least room) rules₀)

  -- that of the tokens
  long-x : length xf ≡ number_least room
  long-x = front_long (number_least room) tokens x₁ o.least.for-tokens (ap length cx ∙ length-cleared (number_least room) tokens)

  -- and that of the brackets
  long-b : length bf ≡ room
  long-b = front_long room brackets b₁ o.least.for-brackets (ap length cb ∙ length-cleared room brackets)

  -- the fronts suffice for the sheets
  pub front-sheets : Lent agent user author yf xf bf tf
  front-sheets =
      record {
        within = o.lent.within;
        least =
            record {
              for-texts = omega (arith, long-t, o.enough);
              for-brackets = omega (arith, long-b, o.enough);
              for-rules = omega (arith, long-y, o.enough);
              for-tokens = omega (arith, long-x, o.enough);
            };
      }

  -- and for the path
  pub front-call : CallLent (length agent + length user + length author) p out yf xf bf tf
  front-call =
      record {
        row = o.call.row;
        few = o.call.few;
        least =
            record {
              for-texts = omega (arith, long-t, o.enough);
              for-brackets = omega (arith, long-b, o.enough);
              for-rules = omega (arith, long-y, o.enough);
              for-tokens = omega (arith, long-x, o.enough);
            };
      }

  abbrev whole : StyleLeft → StyleLeft
  whole z =
      record {
        answer = z.answer;
        row = z.row;
        texts = z.texts ++ drop (text_least room) t₁;
        rules = z.rules ++ drop (number_least room) y₁;
        tokens = z.tokens ++ drop (number_least room) x₁;
        brackets = z.brackets ++ drop room b₁;
      }

  -- what is left in the fronts, with what lies behind them, is what is left in the whole
  pub front-left : (c : Cascade) (settings : Settings) (s : Sheets) (z : StyleLeft) → z ≡ styled_left out tf yf xf bf c settings p s → length z.texts ≡ length tf
      → whole z ≡ styled_left out texts rules₀ tokens brackets c settings p s
  unfolding styled_left answered zeroed
  front-left c settings (rules a u w) z e n =
      let sheets : Rules _ = record { agent = a; user = u; author = w } in
      let store : List ℕ = call_store sheets settings p in
      let fits : length (padded store (length tf)) ≡ length tf = sym (ap (λ (q : StyleLeft). length q.texts) e) ∙ n in
      ap whole e
      ∙ left_by refl refl (padded-joined (text_least room) texts t₁ store o.least.for-texts ct fits) (zeros-joined (number_least room) rules₀ y₁ o.least.for-rules cy)
      (zeros-joined (number_least room) tokens x₁ o.least.for-tokens cx) (zeros-joined room brackets b₁ o.least.for-brackets cb)
  front-left c settings (panicked which byte) z e n =
      ap whole e
      ∙ left_by refl refl (zeros-joined (text_least room) texts t₁ o.least.for-texts ct) (zeros-joined (number_least room) rules₀ y₁ o.least.for-rules cy)
      (zeros-joined (number_least room) tokens x₁ o.least.for-tokens cx) (zeros-joined room brackets b₁ o.least.for-brackets cb)
