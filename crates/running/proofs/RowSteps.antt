-- The functions that go down the rows of a page: a parent's row copied, a step, and the loop.
use mathlib.Core.Path.{◌≡◌, refl, sym, ap, ◌∙◌}
use mathlib.Core.List.{List, [], ◌++◌, append_assoc}
use Prim.Native.Nat.{ℕ, zero, suc, ◌+◌, ◌-◌, ◌*◌, ◌≤◌, ◌<◌}
use native.Mathlib.Omega.{arith}
use borrow.Author.Tests.{lt-ltb, le-ltb, ltb-true}
use lib.Dec.{ltb}
use lib.ListN.{length, take, drop, length-append, length-take, length-drop}
use lib.Seq.{sets, sets-eq, length-sets, length-take-le, take_at, drop_at, drop-drop}
use Rattle.combinators.specs.Part.{part}
use Rattle.combinators.proofs.Parts.{part-whole}
use Rattle.combinators.proofs.Rules.{pick_true, pick-false, pick-holds}
use Rattle.cascade.specs.Row.{style_row_width}
use Rattle.page.specs.Accepted.{node_limit}
use Rattle.page.specs.Ancestors.{depth_of}
use Rattle.page.specs.Path.{Attribute, Element}
use Rattle.page.specs.PathOf.{attributes_from}
use Rattle.page.specs.Rows.{node_width, node_count, node_at, attribute_width, attribute_rows}
use Rattle.page.proofs.Ancestry.{depth-most}
use Rattle.page.proofs.RowFacts.{parent-before, shallow}
use Rattle.combinators.specs.declared.lent.Stores.{Stores}
use Rattle.styles.specs.declared.settings.Settings.{Settings}
use Rattle.syntax.proofs.Streams.{sets-drop}
use Rattle.page.specs.Lent.{Page}
use Rattle.combinators.proofs.LentLaws.{same-none, same-then}
use Rattle.styles.proofs.KeptStores.{lengths-stay, lengths-kept}
use Rattle.styles.specs.Room.{values_of}
use Rattle.styles.specs.StyleCall.{inline_contents}
use Rattle.styles.proofs.Room.{inline-short}
use Rattle.runner.specs.PageRows.{style_row_at}
use Rattle.runner.specs.Run.{Handed, Stepped, Running, handed_from, document_step, element_step, open_step, step_on, handed_at, run_step, run_from, run_of}
use Rattle.stepping.specs.Lent.{StepLent, Kept}
use Rattle.runner.proofs.Handed.{attributes-all}
use Rattle.running.specs.Ready.{RowReady, PlaceRoom, texts_most, with_parent}
use Rattle.running.proofs.Handed as handed

-- ---- the parent's row, copied
module _ (nodes rows : List ℕ) (i p : ℕ) (ep : p ≡ (node_at nodes i).parent) where
  -- it does not come before
  pub parent-none : i ≤ p → rows ≡ with_parent nodes i rows
  unfolding with_parent
  parent-none h = pick-false _ _ _ _ (rw (← ep) (le-ltb p i h)) refl

  -- where the parent comes before the row, its style row is copied to the row's place
  pub parent-placed : p < i → (ys : List ℕ) → ys ≡ sets rows (i * style_row_width) (take style_row_width (drop (p * style_row_width) rows)) → ys ≡ with_parent nodes i rows
  unfolding with_parent style_row_at
  parent-placed h ys e = pick_true _ _ _ _ (rw (← ep) (lt-ltb p i h)) (e ∙ ap (λ (n : ℕ). sets rows (i * style_row_width) (take style_row_width (drop (n * style_row_width) rows))) ep)

-- ---- numbers stored where as many were stored before
module _ (l : List ℕ) (a : ℕ) (xs : List ℕ) (h : a + length xs ≤ length l) where
  -- numbers stored at a place stand between what lies before and behind them
  stored : sets l a xs ≡ take a l ++ (xs ++ drop (a + length xs) l)
  stored = sets-eq xs l a h ∙ append_assoc (take a l) xs (drop (a + length xs) l)

  -- what lies before the place stays
  front : take a (sets l a xs) ≡ take a l
  front = ap (take a) stored ∙ take_at (take a l) (xs ++ drop (a + length xs) l) a (length-take-le a l (omega (arith, h)))

  -- what lies behind them stays
  behind : drop (a + length xs) (sets l a xs) ≡ drop (a + length xs) l
  behind =
      ap (drop (a + length xs)) (sets-eq xs l a h)
      ∙ drop_at (take a l ++ xs) (drop (a + length xs) l) (a + length xs) (length-append (take a l) xs ∙ ap (λ (n : ℕ). n + length xs) (length-take-le a l (omega (arith, h))))

-- ---- the texts of a step
module _ (code : List ℕ) (settings : Settings) (x : Handed) (parent state texts : List ℕ) where
  abbrev Short : Stepped → Type 0
  Short s = length s.texts ≤ length texts + values_of x.attributes + 2 * length x.attributes

  -- an open row's step adds no more texts than its values, and two bytes for each attribute
  open-short : (depth : ℕ) → Short (open_step code settings x depth parent state texts)
  unfolding open_step document_step element_step
  open-short zero = omega arith
  open-short (suc d) = grown _
    where
      grown : (n : ℕ) → length (texts ++ inline_contents settings (record { name = x.name; attributes = x.attributes; place = n })) ≤ length texts + values_of x.attributes + 2 * length x.attributes
      grown n =
          let e : Element = record { name = x.name; attributes = x.attributes; place = n } in
          omega (arith, length-append texts (inline_contents settings e), inline-short settings e)

  -- they grow by no more than its values, and two bytes for each attribute
  step-short : (depth : ℕ) → Short (step_on code settings x depth parent state texts)
  unfolding step_on
  step-short depth = pick-holds Short _ _ _ (λ _. omega arith) (λ _. open-short depth)

  -- the document's step asks for no parent
  no-parent : (other : List ℕ) → step_on code settings x 0 parent state texts ≡ step_on code settings x 0 other state texts
  unfolding step_on open_step
  no-parent other = refl

-- ---- a row: the parent's row copied to its place, and its step
module _ {code : List ℕ} {g : Page} {rows₀ state₀ : List ℕ} (s₀ : Stores) {i fill : ℕ} (r : RowReady code g rows₀ state₀ s₀.rules.now s₀.tokens.now s₀.brackets.now s₀.texts.now i fill) where
  -- the texts as they are lent
  abbrev texts₀ : List ℕ
  texts₀ = s₀.texts.now

  abbrev place : ℕ
  place = i * style_row_width

  -- the style row of row i lies within the rows
  place_inside : place + style_row_width ≤ length rows₀
  place_inside = omega (arith, r.there, r.ready.lengths.for-rows)

  -- the row is below the limit of nodes
  few : i < node_limit
  few = omega (arith, r.there, (handed.ok r).few)

  -- so there is a place for its style row
  pub place-room : PlaceRoom i rows₀
  place-room = record { few = few; room = place_inside }

  -- the attribute rows that the node names lie within those of the page
  pub attribute-rows-inside : (first count : ℕ) → first ≡ (node_at g.nodes i).first_attribute → count ≡ (node_at g.nodes i).attribute_count
      → first * attribute_width + count * attribute_width ≤ length g.attributes
  attribute-rows-inside first count ef ec = omega (arith, handed.attributes-inside r, ef, ec)

  module _ {first count depth : ℕ} (ef : first ≡ (node_at g.nodes i).first_attribute) (ec : count ≡ (node_at g.nodes i).attribute_count) (ed : depth ≡ depth_of g.nodes i) where
    abbrev own : List ℕ
    own = take (first * attribute_width + count * attribute_width - first * attribute_width) (drop (first * attribute_width) g.attributes)

    abbrev node : List ℕ
    node = take (i * node_width + node_width - i * node_width) (drop (i * node_width) g.nodes)

    -- the attribute rows that are lent are the part which the node names
    own-part : own ≡ part g.attributes ((node_at g.nodes i).first_attribute * attribute_width) ((node_at g.nodes i).attribute_count * attribute_width)
    own-part =
        part-whole g.attributes (first * attribute_width) (count * attribute_width)
        ∙ ap (λ (n : ℕ). part g.attributes (n * attribute_width) (count * attribute_width)) ef
        ∙ ap (λ (n : ℕ). part g.attributes ((node_at g.nodes i).first_attribute * attribute_width) (n * attribute_width)) ec

    -- the attributes that are read of them are those of the row
    own-given : attributes_from own g.text (attribute_rows own) 0 ≡ handed.given r
    own-given =
        ap (λ (l : List ℕ). attributes_from l g.text (attribute_rows l) 0) own-part
        ∙ attributes-all g.attributes g.text (node_at g.nodes i).first_attribute (node_at g.nodes i).attribute_count (omega (arith, handed.attributes-inside r))

    -- what the step is handed
    handed-is : handed_from node own g.text ≡ handed_at g i
    unfolding handed_at
    handed-is =
        ap (λ (l : List ℕ). handed_from l own g.text) (part-whole g.nodes (i * node_width) node_width)
        ∙ ap (λ (l : List ℕ). handed_from (part g.nodes (i * node_width) node_width) l g.text) own-part

    -- what is lent to the step is what it asks for
    pub step-lent : StepLent code own g.text depth state₀ s₀ fill
    step-lent =
        record {
          sheet = r.ready.sheet;
          few = r.ready.lengths.few;
          shallow = rw ed (shallow g.nodes g.attributes g.text (handed.ok r) i r.there);
          for-state = r.ready.lengths.for-state;
          for-attributes = rw own-given (handed.attributes-room r);
        }

    -- the rows are split where the row begins, and of those from there on the first is lent
    module _ {rows₁ above from_place lent : List ℕ} (e₁ : rows₁ ≡ with_parent g.nodes i rows₀) (ea : above ≡ take place rows₁) (eb : from_place ≡ drop place rows₁) (el : lent ≡ take style_row_width from_place) where
      -- the parent's row copied, the rows are as long as before
      long₁ : length rows₁ ≡ length rows₀
      unfolding with_parent
      long₁ = ap length e₁ ∙ pick-holds (λ (l : List ℕ). length l ≡ length rows₀) _ _ _ (λ _. length-sets rows₀ place (style_row_at rows₀ (node_at g.nodes i).parent)) (λ _. refl)

      -- the place of the row lies within them still
      place_still : place + style_row_width ≤ length rows₁
      place_still = omega (arith, place_inside, long₁)

      -- the parent's style row is one style row long, where the parent comes before
      parent-long : (node_at g.nodes i).parent < i → length (style_row_at rows₀ (node_at g.nodes i).parent) ≡ style_row_width
      unfolding style_row_at
      parent-long h =
          let p : ℕ = (node_at g.nodes i).parent in
          length-take-le style_row_width (drop (p * style_row_width) rows₀) (omega (arith, h, place_inside, length-drop (p * style_row_width) rows₀))

      -- the row that is lent is the parent's row, where the parent comes before
      parent-lent : (node_at g.nodes i).parent < i → lent ≡ style_row_at rows₀ (node_at g.nodes i).parent
      unfolding with_parent
      parent-lent h =
          let p : ℕ = (node_at g.nodes i).parent in
          let xs : List ℕ = style_row_at rows₀ p in
          let n : length xs ≡ style_row_width = parent-long h in
          let e : rows₁ ≡ sets rows₀ place xs = e₁ ∙ sym (pick_true _ _ _ _ (lt-ltb p i h) refl) in
          el ∙ ap (take style_row_width) eb
          ∙ ap (λ (l : List ℕ). take style_row_width (drop place l)) e
          ∙ ap (take style_row_width) (sets-drop rows₀ place xs (omega (arith, n, place_inside)))
          ∙ take_at xs (drop (place + length xs) rows₀) style_row_width n

      -- the rows as long as before, the row that comes back is one style row long
      one-row : (ys : List ℕ) → length (above ++ (ys ++ drop style_row_width from_place)) ≡ length rows₀ → length ys ≡ style_row_width
      one-row ys whole =
          let a : length above ≡ place = ap length ea ∙ length-take-le place rows₁ (omega (arith, place_still)) in
          let b : length from_place ≡ length rows₁ - place = ap length eb ∙ length-drop place rows₁ in
          omega (arith, whole, a, b, long₁, place_inside, length-append above (ys ++ drop style_row_width from_place), length-append ys (drop style_row_width from_place), length-drop style_row_width from_place)

      -- the row that comes back stands where it would without the copy
      row_back : (ys : List ℕ) → length (above ++ (ys ++ drop style_row_width from_place)) ≡ length rows₀ → above ++ (ys ++ drop style_row_width from_place) ≡ sets rows₀ place ys
      unfolding with_parent
      row_back ys whole =
          let n : length ys ≡ style_row_width = one-row ys whole in
          let p : ℕ = (node_at g.nodes i).parent in
          let xs : List ℕ = style_row_at rows₀ p in
          let k : place + length ys ≡ place + style_row_width = omega (arith, n) in
          let room : place + length ys ≤ length rows₀ = omega (arith, n, place_inside) in
          let done : take place rows₀ ++ (ys ++ drop (place + style_row_width) rows₀) ≡ sets rows₀ place ys = ap (λ (m : ℕ). take place rows₀ ++ (ys ++ drop m rows₀)) (sym k) ∙ sym (stored rows₀ place ys room) in
          let split : above ++ (ys ++ drop style_row_width from_place) ≡ take place rows₁ ++ (ys ++ drop (place + style_row_width) rows₁) = rw (ea, eb, drop-drop style_row_width place rows₁) in
          let P : List ℕ → Type 0 = λ l. take place l ++ (ys ++ drop (place + style_row_width) l) ≡ sets rows₀ place ys in
          split
          ∙ ap (λ (l : List ℕ). take place l ++ (ys ++ drop (place + style_row_width) l)) e₁
          ∙ pick-holds P (ltb p i) (sets rows₀ place xs) rows₀
          (λ t. let h : p < i = ltb-true _ _ t in
          let m : length xs ≡ style_row_width = parent-long h in
          let q : place + length xs ≤ length rows₀ = omega (arith, m, place_inside) in
          let f : drop (place + style_row_width) (sets rows₀ place xs) ≡ drop (place + style_row_width) rows₀ = rw m at (behind rows₀ place xs q) in
          ap (λ (l : List ℕ). l ++ (ys ++ drop (place + style_row_width) (sets rows₀ place xs))) (front rows₀ place xs q)
          ∙ ap (λ (l : List ℕ). take place rows₀ ++ (ys ++ l)) f
          ∙ done)
          (λ _. done)

      abbrev meant : Settings → Stepped
      meant settings = step_on code settings (handed_from node own g.text) depth lent state₀ (take fill texts₀)

      abbrev stepped : Settings → Stepped
      stepped settings = step_on code settings (handed_at g i) (depth_of g.nodes i) (style_row_at rows₀ (node_at g.nodes i).parent) state₀ (take fill texts₀)

      -- the step with the parent's row as it was written
      meant_is : (settings : Settings) → meant settings ≡ stepped settings
      meant_is settings =
          ap (λ (x : Handed). step_on code settings x depth lent state₀ (take fill texts₀)) handed-is
          ∙ ap (λ (d : ℕ). step_on code settings (handed_at g i) d lent state₀ (take fill texts₀)) ed
          ∙ by_row i refl
        where
          by_row : (j : ℕ) → j ≡ i → step_on code settings (handed_at g i) (depth_of g.nodes i) lent state₀ (take fill texts₀) ≡ stepped settings
          by_row zero e =
              let d : depth_of g.nodes i ≡ 0 = rw (← e) (omega (arith, depth-most g.nodes 0)) in
              rw d (no-parent code settings (handed_at g i) lent state₀ (take fill texts₀) (style_row_at rows₀ (node_at g.nodes i).parent))
          by_row (suc j) e =
              ap (λ (l : List ℕ). step_on code settings (handed_at g i) (depth_of g.nodes i) l state₀ (take fill texts₀))
              (parent-lent (parent-before g.nodes g.attributes g.text (handed.ok r) i r.there (omega (arith, e))))

      module _ (settings : Settings) (ys s t : List ℕ) (n : ℕ) (es : record { row = ys; state = s; texts = take n t } ≡ meant settings) (within : n ≤ length t) where
        -- what is left of the row, the rows as long as before
        pub row-run : length (above ++ (ys ++ drop style_row_width from_place)) ≡ length rows₀
            → record { rows = above ++ (ys ++ drop style_row_width from_place); state = s; texts = take n t } ≡ run_step code settings g i (record { rows = rows₀; state = state₀; texts = take fill texts₀ })
        unfolding run_step
        row-run long =
            ap (λ (l : List ℕ). record { rows = l; state = s; texts = take n t }) (row_back ys long)
            ∙ ap (λ (x : Stepped). record { rows = sets rows₀ place x.row; state = x.state; texts = x.texts }) (es ∙ meant_is settings)

        -- the texts up to the next row
        pub row-filled : n ≤ texts_most g (i + 1)
        unfolding handed_from
        row-filled =
            let a = step-short code settings (handed_from node own g.text) lent state₀ (take fill texts₀) depth in
            let b : length (take n t) ≡ n = length-take-le n t within in
            let c : length (take n t) ≡ length (meant settings).texts = ap (λ (x : Stepped). length x.texts) es in
            let f = length-take fill texts₀ in
            let z : i + 1 ≡ suc i = omega arith in
            let va : values_of (attributes_from own g.text (attribute_rows own) 0) ≡ values_of (handed.given r) = ap values_of own-given in
            let la : length (attributes_from own g.text (attribute_rows own) 0) ≡ length (handed.given r) = ap (λ (l : List Attribute). length l) own-given in
            rw z (omega (arith, a, b, c, f, va, la, r.filled, handed.texts-grow r))

-- ---- the loop over the rows of a page
module _ (code : List ℕ) (settings : Settings) (g : Page) where
  -- one row less is left
  pub run_more : (i : ℕ) (x y z : Running) → i < node_count g.nodes → y ≡ run_step code settings g i x → run_from code settings g (node_count g.nodes - i) i x ≡ z
      → run_from code settings g (node_count g.nodes - (i + 1)) (i + 1) y ≡ z
  unfolding run_from
  run_more i x y z h e k =
      let n : ℕ = node_count g.nodes in
      let a : n - i ≡ suc (n - (i + 1)) = omega (arith, h) in
      let b : i + 1 ≡ suc i = omega arith in
      let k' : run_from code settings g (suc (n - (i + 1))) i x ≡ z = ap (λ (m : ℕ). run_from code settings g m i x) (sym a) ∙ k in
      ap (λ (j : ℕ). run_from code settings g (n - (i + 1)) j y) b ∙ ap (run_from code settings g (n - (i + 1)) (suc i)) e ∙ k'

  -- with no row left, what the loop has is the whole run
  pub run-done : (i : ℕ) (x z : Running) → node_count g.nodes ≤ i → run_from code settings g (node_count g.nodes - i) i x ≡ z → x ≡ z
  unfolding run_from
  run-done i x z h k =
      let a : node_count g.nodes - i ≡ 0 = omega (arith, h) in
      let k' : run_from code settings g 0 i x ≡ z = ap (λ (m : ℕ). run_from code settings g m i x) (sym a) ∙ k in
      k'

  -- before the first row the whole run is left
  pub run-begins : (rows state texts : List ℕ) → run_from code settings g (node_count g.nodes - 0) 0 (record { rows = rows; state = state; texts = take 0 texts }) ≡ run_of code settings g rows state
  unfolding run_of
  run-begins rows state texts =
      let a : node_count g.nodes - 0 ≡ node_count g.nodes = omega arith in
      ap (λ (m : ℕ). run_from code settings g m 0 (record { rows = rows; state = state; texts = [] })) a

-- ---- what holds between two rows: the work left from here is the whole work
pub record Looping (code : List ℕ) (settings : Settings) (g : Page) (rows₀ state₀ : List ℕ) (s₀ : Stores) (rows state : List ℕ) (s : Stores) (fill i : ℕ) : Type 0 where
  pub left : run_from code settings g (node_count g.nodes - i) i (record { rows = rows; state = state; texts = take fill s.texts.now }) ≡ run_of code settings g rows₀ state₀
  pub filled : fill ≤ texts_most g i
  pub rows_long : length rows ≡ length rows₀
  pub state-long : length state ≡ length state₀
  pub kept : Kept s₀ s fill

-- before the first row nothing is filled, and the whole run is left
pub begins : (code : List ℕ) (settings : Settings) (g : Page) (rows state : List ℕ) (s : Stores) → Looping code settings g rows state s rows state s 0 0
begins code settings g rows state s =
    record {
      left = run-begins code settings g rows state s.texts.now;
      filled = omega arith;
      rows_long = refl;
      state-long = refl;
      kept = record { within = omega arith; lengths = lengths-stay s; same = same-none };
    }

module _ {code : List ℕ} {settings : Settings} {g : Page} {rows₀ state₀ : List ℕ} {s₀ : Stores} {rows₁ state₁ : List ℕ} {s₁ : Stores} {fill i : ℕ} (v : Looping code settings g rows₀ state₀ s₀ rows₁ state₁ s₁ fill i) where
  -- behind a step the loop's invariant holds for the next row
  pub again : (count : ℕ) → count ≡ node_count g.nodes → i < count → (n : ℕ) (rows state : List ℕ) (s : Stores)
      → record { rows = rows; state = state; texts = take n s.texts.now } ≡ run_step code settings g i (record { rows = rows₁; state = state₁; texts = take fill s₁.texts.now })
      → n ≤ texts_most g (i + 1) → length rows ≡ length rows₁ → length state ≡ length state₁ → Kept s₁ s n
      → Looping code settings g rows₀ state₀ s₀ rows state s n (i + 1)
  again count ec h n rows state s e f er es k =
      record {
        left = run_more code settings g i (record { rows = rows₁; state = state₁; texts = take fill s₁.texts.now }) (record { rows = rows; state = state; texts = take n s.texts.now }) (run_of code settings g rows₀ state₀) (omega (arith, ec, h)) e v.left;
        filled = f;
        rows_long = er ∙ v.rows_long;
        state-long = es ∙ v.state-long;
        kept = record { within = k.within; lengths = lengths-kept _ _ _ v.kept.lengths k.lengths; same = same-then v.kept.same k.same };
      }

  -- behind the last row what the loop has is the whole run
  pub ends : (count : ℕ) → count ≡ node_count g.nodes → count ≤ i → record { rows = rows₁; state = state₁; texts = take fill s₁.texts.now } ≡ run_of code settings g rows₀ state₀
  ends count ec h = run-done code settings g i (record { rows = rows₁; state = state₁; texts = take fill s₁.texts.now }) (run_of code settings g rows₀ state₀) (omega (arith, ec, h)) v.left
