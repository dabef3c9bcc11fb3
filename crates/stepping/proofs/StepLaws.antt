-- The needs and returns of the functions that open a row, merge its attributes and make its step.
use mathlib.Core.Path.{◌≡◌, refl, sym, ap, ◌∙◌}
use mathlib.Core.Bool.{true, false}
use mathlib.Core.List.{List, [], ◌∷◌, ◌++◌, append-nil, append_assoc}
use Prim.Native.Nat.{ℕ, suc, ◌+◌, ◌-◌, ◌*◌, ◌≤◌}
use native.Mathlib.Nat.{suc-mul, add-mul, mul-le-mul_right}
use native.Mathlib.Omega.{arith}
use lib.ListN.{length, take, drop, set, replicate, length-set, length-append, length-take, length-drop}
use lib.Seq.{sets, sets-eq, length-sets, length-take-le}
use Rattle.combinators.specs.Choice.{pick}
use Rattle.combinators.specs.Part.{part}
use Rattle.combinators.proofs.Wiped.{sets-append, sets-apart}
use Rattle.std.proofs.lemmas.List.{drop-drop}
use Rattle.segments.proofs.StoreLaws.{part-write, part_same}
use Rattle.combinators.proofs.Rules.{pick_true, pick-false, is-yes, is-no}
use Rattle.combinators.proofs.Parts.{length_part}
use Rattle.syntax.specs.Stream.{texts_many}
use Rattle.cascade.specs.declared.slots.Cascade.TheVariants.{Crate}
use Rattle.cascade.specs.Row.{style_row_width, Inherited, Emptied, inherited_row}
use Rattle.page.specs.Path.{Attribute, Element}
use Rattle.page.specs.PathOf.{attributes_from}
use Rattle.page.specs.Rows.{other_kind, node_at, name_of, attribute_rows}
use Rattle.styles.specs.declared.settings.Settings.{Settings}
use Rattle.styles.specs.Merged.{merged_row, late_declared}
use Rattle.styles.specs.Said.{counted_attributes}
use Rattle.styles.specs.StyleCall.{attributes_contents, inline_contents, placed_attributes}
use Rattle.styles.proofs.Merging.{merged-none, late-none}
use Rattle.segments.specs.Down.{pass_at, fresh_in}
use Rattle.sweeps.specs.Met.{handed_element}
use Rattle.segments.specs.Pass.{Passed}
use Rattle.segments.specs.Sweep.{pair_at, pair_bytes}
use Rattle.runner.specs.PageRows.{no_style, selectors_declare}
use Rattle.runner.specs.Run.{Handed, Stepped, handed_from, row_below, found_at, document_step, element_step, open_step, step_on}
use Rattle.runner.specs.State.{depths, part_place, part_of, raised, opened}
use Rattle.runner.proofs.StateParts.{part_pair, raised-part, raised-behind}
use Rattle.combinators.specs.declared.lent.Stores.{Stores}
use Rattle.runner.proofs.FoundLaws.{some_bytes}
use Rattle.stepping.specs.Lent.{StepLent}
use Rattle.stepping.specs.Opened.{OpenLent, Below, child_below, ChildOpened, child_element, child_passed, ElementOpened}
use Rattle.cascade.proofs.Windows.{all-wiped}

-- ---- rows
-- zeros over a whole row
pub emptied : (xs ys : List ℕ) → length xs ≡ style_row_width → Emptied xs ys → ys ≡ no_style
emptied xs ys e m = m.numbers ∙ sym (all-wiped xs style_row_width e) ∙ ap (λ (n : ℕ). replicate n 0) e

-- ---- parts
-- bytes stored in a part that is then stored whole are stored in the whole
part-stored : (bs l store : List ℕ) (o j : ℕ) → j + length bs ≤ length l → sets store o (sets l j bs) ≡ sets (sets store o l) (o + j) bs
part-stored [] l store o j h = refl
part-stored (b ∷ bs) l store o j h =
    let e : o + suc j ≡ suc (o + j) = omega arith in
    let n = length-set l j b in
    part-stored bs (set l j b) store o (suc j) (omega arith)
    ∙ ap (λ (s : List ℕ). sets s (o + suc j) bs) (sym (part-write l store o j b (omega arith)))
    ∙ ap (λ (i : ℕ). sets (set (sets store o l) (o + j) b) i bs) e

-- a count stored in a part is stored in the whole
count-stored : (l store : List ℕ) (o n : ℕ) → 2 ≤ length l → sets store o (sets l 0 (pair_bytes n)) ≡ sets (sets store o l) o (pair_bytes n)
count-stored l store o n h =
    let z : o + 0 ≡ o = omega arith in
    let two : length (pair_bytes n) ≡ 2 = unfold pair_bytes in refl in
    part-stored (pair_bytes n) l store o 0 (omega (arith, two)) ∙ ap (λ (i : ℕ). sets (sets store o l) i (pair_bytes n)) z

-- two parts of the same length, put back side by side, are both stored
side-by-side : (state x y : List ℕ) (a w : ℕ) → length x ≡ w → length y ≡ w → a + w + w ≤ length state → take a state ++ (x ++ (y ++ drop (a + w + w) state)) ≡ sets (sets state a x) (a + w) y
side-by-side state x y a w lx ly h =
    let both : length (x ++ y) ≡ w + w = length-append x y ∙ rw (lx, ly) in
    let behind : a + length (x ++ y) ≡ a + w + w = omega arith in
    ap (λ (z : List ℕ). take a state ++ z) (sym (append_assoc x y (drop (a + w + w) state)))
    ∙ sym (append_assoc (take a state) (x ++ y) (drop (a + w + w) state))
    ∙ ap (λ (i : ℕ). take a state ++ (x ++ y) ++ drop i state) (sym behind)
    ∙ sym (sets-eq (x ++ y) state a (omega (arith, both, h)))
    ∙ sets-append state a x y
    ∙ ap (λ (n : ℕ). sets (sets state a x) (a + n) y) lx

-- a part and two more, of so many
parts-fit : (d w n : ℕ) → d + 2 ≤ depths → depths * w ≤ n → d * w + w + w ≤ n
parts-fit d w n h l =
    let a : (d + 2) * w ≤ depths * w = mul-le-mul_right w h in
    let e = add-mul d 2 w in
    omega arith

-- ---- what opening a row knows
-- what opening a child by its part and its parent's leaves
pub child-opened : (code node attributes text above own out name : List ℕ) (n : ℕ) → name ≡ name_of node text 0 → n ≡ pair_at above 0
    → (above₁ own₁ own₂ out₁ out₂ : List ℕ) → above₁ ≡ sets above 0 (pair_bytes (n + 1)) → Inherited Crate out out₁
    → own₁ ≡ (pass_at code (handed_element name attributes text (n + 1) ∷ []) above₁ own).part
    → out₂ ≡ merged_row Crate out₁ (selectors_declare (found_at code (pass_at code (handed_element name attributes text (n + 1) ∷ []) above₁ own).matched))
    → own₂ ≡ sets own₁ 0 (pair_bytes 0) → ChildOpened code (child_below node attributes text above) above own out above₁ own₂ out₂
child-opened code node attributes text above own out name n en ev above₁ own₁ own₂ out₁ out₂ ea i e₁ eo e₂ =
    let child : handed_element name attributes text (n + 1) ≡ child_below node attributes text above = unfold child_below in rw (en, ev) in
    record {
      count = ea ∙ ap (λ (k : ℕ). sets above 0 (pair_bytes (k + 1))) ev;
      part = e₂ ∙ ap (λ (x : List ℕ). sets x 0 (pair_bytes 0)) (e₁ ∙ ap (λ (e : Element). (pass_at code (e ∷ []) above₁ own).part) child);
      row =
          eo
          ∙ ap (λ (e : Element). merged_row Crate out₁ (selectors_declare (found_at code (pass_at code (e ∷ []) above₁ own).matched))) child
          ∙ ap (λ (x : List ℕ). merged_row Crate x (selectors_declare (found_at code (pass_at code (child_below node attributes text above ∷ []) above₁ own).matched))) i.numbers;
    }

module _ (code state : List ℕ) (l : OpenLent code state) where
  -- how long a part is, which has two bytes
  abbrev width : ℕ
  width = length code + 1

  wide : 2 ≤ length code + 1
  wide = omega (arith, some_bytes code l.sheet)

  -- what opening the document leaves
  module _ (own behind own₁ next₁ own₂ : List ℕ) (eo : own ≡ take (length code + 1) state) (eb : behind ≡ drop (length code + 1) state)
      (en : next₁ ≡ fresh_in code (take (length code + 1) behind)) (e₁ : own₁ ≡ (pass_at code [] (fresh_in code (take (length code + 1) behind)) own).part) (e₂ : own₂ ≡ sets own₁ 0 (pair_bytes 0))
      (lo : length own₂ ≡ length own) (ln : length next₁ ≡ length (take (length code + 1) behind)) where
    -- both keep their lengths
    document-long : length own₂ ≡ width
    document-long = let r = l.for-state in lo ∙ ap length eo ∙ length-take-le width state (omega arith)

    next-long : length next₁ ≡ width
    next-long = let r = l.for-state in let d = length-drop width state in ln ∙ ap (λ (x : List ℕ). length (take width x)) eb ∙ length-take-le width (drop width state) (omega arith)

    -- both parts are stored, in either order
    parts-put : own₂ ++ (next₁ ++ drop (length code + 1) behind) ≡ sets (sets (sets state width next₁) 0 own₁) 0 (pair_bytes 0)
    parts-put =
        let z : 0 + width ≡ width = omega arith in
        let g = ap (drop width) eb ∙ drop-drop width width state in
        let d : 0 + width + width ≡ width + width = omega arith in
        let r = l.for-state in
        let long : length own₁ ≡ length own₂ = sym (ap length e₂ ∙ length-sets own₁ 0 (pair_bytes 0)) in
        ap (λ (x : List ℕ). own₂ ++ (next₁ ++ x)) (g ∙ ap (λ (i : ℕ). drop i state) (sym d))
        ∙ side-by-side state own₂ next₁ 0 width document-long next-long (omega arith)
        ∙ ap (λ (i : ℕ). sets (sets state 0 own₂) i next₁) z
        ∙ sym (sets-apart state 0 width own₂ next₁ (omega (arith, document-long)))
        ∙ ap (sets (sets state width next₁) 0) e₂
        ∙ count-stored own₁ (sets state width next₁) 0 0 (omega (arith, long, document-long, wide))

    -- so the state is that of the document's step
    pub document-opened : own₂ ++ (next₁ ++ drop (length code + 1) behind) ≡ (document_step code state []).state
    unfolding document_step opened part part_of
    document-opened =
        let one : part_place code 1 ≡ width = omega arith in
        let none : part_place code 0 ≡ 0 = omega arith in
        parts-put ∙ rw (e₁, en, eo, eb, one, none)

  module _ (depth : ℕ) (b : Below depth) where
    -- where the part of its parent begins
    abbrev parent : ℕ
    parent = (depth - 1) * (length code + 1)

    -- both parts lie in the state
    pub parts-there : (depth - 1) * (length code + 1) + (length code + 1) + (length code + 1) ≤ length state
    parts-there = parts-fit (depth - 1) (length code + 1) (length state) (omega (arith, b.deep, b.shallow)) l.for-state

    -- what opening an element leaves
    module _ (node attributes text out rest above behind above₁ own₁ out₁ : List ℕ) (er : rest ≡ drop ((depth - 1) * (length code + 1)) state)
        (ea : above ≡ take (length code + 1) rest) (eb : behind ≡ drop (length code + 1) rest) (la : length above₁ ≡ length above) (lo : length own₁ ≡ length (take (length code + 1) behind))
        (e : ChildOpened code (child_below node attributes text above) above (take (length code + 1) behind) out above₁ own₁ out₁) where
      -- the element that is opened, and what passing the selectors at it comes to
      abbrev child : Element
      child = child_element node attributes text state parent

      abbrev passed : Passed
      passed = child_passed code child (depth - 1) state

      -- the parent's part, and the own one
      above-is : above ≡ part state parent width
      unfolding part
      above-is = ea ∙ ap (take width) er

      own-is : take width behind ≡ part state (parent + width) width
      unfolding part
      own-is = ap (take width) (eb ∙ ap (drop width) er ∙ drop-drop width parent state)

      -- which keep their lengths
      above-long : length above₁ ≡ width
      above-long = let there = parts-there in la ∙ ap length above-is ∙ length_part state parent width (omega (arith, there))

      own-long : length own₁ ≡ width
      own-long = lo ∙ ap length own-is ∙ length_part state (parent + width) width parts-there

      -- the element is that of the whole state
      child-is : child_below node attributes text above ≡ child
      unfolding child_below child_element
      child-is = let p = part_pair state parent width wide in rw (above-is, p)

      -- the count of the parent is raised
      raised-is : above₁ ≡ part (raised state parent) parent width
      raised-is = let p = part_pair state parent width wide in e.count ∙ rw (above-is, p) (sym (raised-part state parent width))

      -- so what is passed is what is passed in the whole state
      passed-is : pass_at code (child_below node attributes text above ∷ []) above₁ (take width behind) ≡ passed
      unfolding child_passed part_of part
      passed-is =
          let place : part_place code (suc (depth - 1)) ≡ parent + width = suc-mul (depth - 1) width in
          let own : take width behind ≡ take width (drop (parent + width) (raised state parent)) = own-is ∙ ap (take width) (sym (raised-behind state parent width wide)) in
          rw (child-is, raised-is, own, place)

      -- the parent's part put back is the state with its count raised
      raised-put : sets state parent above₁ ≡ raised state parent
      unfolding raised
      raised-put =
          let there = parts-there in
          let p = part_pair state parent width wide in
          let n = length_part state parent width (omega (arith, there)) in
          ap (sets state parent) e.count
          ∙ ap (λ (x : List ℕ). sets state parent (sets x 0 (pair_bytes (pair_at x 0 + 1)))) above-is
          ∙ ap (λ (k : ℕ). sets state parent (sets (part state parent width) 0 (pair_bytes (k + 1)))) p
          ∙ count-stored (part state parent width) state parent (pair_at state parent + 1) (omega (arith, n, wide))
          ∙ ap (λ (x : List ℕ). sets x parent (pair_bytes (pair_at state parent + 1))) (part_same width state parent (omega (arith, there)))

      -- so the state is the raised one with the own part written
      state-is : take parent state ++ (above₁ ++ (own₁ ++ drop (length code + 1) behind)) ≡ opened (raised state parent) (parent + width) passed.part
      unfolding opened
      state-is =
          let g = ap (drop width) (eb ∙ ap (drop width) er ∙ drop-drop width parent state) ∙ drop-drop width (parent + width) state in
          let blocks : List ℕ = (pass_at code (child_below node attributes text above ∷ []) above₁ (take width behind)).part in
          let long : length blocks ≡ length own₁ = sym (ap length e.part ∙ length-sets blocks 0 (pair_bytes 0)) in
          ap (λ (x : List ℕ). take parent state ++ (above₁ ++ (own₁ ++ x))) g
          ∙ side-by-side state above₁ own₁ parent width above-long own-long parts-there
          ∙ ap (λ (x : List ℕ). sets x (parent + width) own₁) raised-put
          ∙ ap (sets (raised state parent) (parent + width)) e.part
          ∙ count-stored blocks (raised state parent) (parent + width) 0 (omega (arith, long, own-long, wide))
          ∙ ap (λ (x : Passed). sets (sets (raised state parent) (parent + width) x.part) (parent + width) (pair_bytes 0)) passed-is

      pub element-opened : ElementOpened code child (depth - 1) out state out₁ (take parent state ++ (above₁ ++ (own₁ ++ drop (length code + 1) behind)))
      element-opened = record { row = e.row ∙ ap (λ (x : Passed). merged_row Crate (inherited_row Crate out) (selectors_declare (found_at code x.matched))) passed-is; part = state-is ∙ ap (λ (k : ℕ). opened (raised state parent) k passed.part) (sym (suc-mul (depth - 1) width)) }

-- ---- returns of `merge_inline`
module _ (settings : Settings) (attributes text : List ℕ) (base fill : ℕ) (out texts : List ℕ) where
  -- the attributes of the row
  abbrev row_attributes : List Attribute
  row_attributes = attributes_from attributes text (attribute_rows attributes) 0

  -- those that count: all where the document's styles are on, else none
  abbrev counting : List Attribute
  counting = pick settings.document_styles row_attributes []

  -- where the document's styles are on, what merging all attributes of the row left is what those that count leave
  pub inline-on : settings.document_styles ≡ true → fill ≤ length texts → (xs : List Attribute) → xs ≡ row_attributes → (out₁ texts₁ : List ℕ) (r : ℕ)
      → (out₁ ≡ merged_row Crate out (late_declared Crate (placed_attributes (base + fill) xs)))
      × ((r ≡ fill + length (attributes_contents xs))
      × (take r texts₁ ≡ take fill texts ++ attributes_contents xs))
      → (out₁ ≡ merged_row Crate out (late_declared Crate (placed_attributes (base + fill) counting)))
      × ((take r texts₁ ≡ take fill texts ++ attributes_contents counting)
      × (r ≤ length texts₁))
  inline-on h f xs e out₁ texts₁ r q =
      let p : xs ≡ counting = e ∙ pick_true row_attributes row_attributes [] _ h refl in
      let long : length (take fill texts) ≡ fill = length-take-le fill texts f in
      let a : length (take r texts₁) ≡ length (take fill texts) + length (attributes_contents xs) = ap length q.1.1 ∙ length-append (take fill texts) (attributes_contents xs) in
      let b = q.1.0 in
      let m = length-take r texts₁ in (
        q.0 ∙ ap (λ (ys : List Attribute). merged_row Crate out (late_declared Crate (placed_attributes (base + fill) ys))) p,
        (
          q.1.1 ∙ ap (λ (ys : List Attribute). take fill texts ++ attributes_contents ys) p,
          omega arith,
        ),
      )

  -- where they are off, row, fill and texts stay as they are: no attribute counts
  pub inline-off : settings.document_styles ≡ false → fill ≤ length texts
      → (out ≡ merged_row Crate out (late_declared Crate (placed_attributes (base + fill) counting)))
      × ((take fill texts ≡ take fill texts ++ attributes_contents counting)
      × (fill ≤ length texts))
  unfolding placed_attributes attributes_contents texts_many
  inline-off h f =
      let p : [] ≡ counting = pick-false [] row_attributes [] _ h refl in (
        sym (merged-none Crate out) ∙ ap (merged_row Crate out) (sym (late-none Crate)) ∙ ap (λ (ys : List Attribute). merged_row Crate out (late_declared Crate (placed_attributes (base + fill) ys))) p,
        (
          sym (append-nil (take fill texts)) ∙ ap (λ (ys : List Attribute). take fill texts ++ attributes_contents ys) p,
          f,
        ),
      )

-- ---- what a step asks for
module _ (code attributes text : List ℕ) (depth : ℕ) (state : List ℕ) (s : Stores) (fill : ℕ) (l : StepLent code attributes text depth state s fill) where
  -- what is filled lies in the store
  pub filled : fill ≤ length s.texts.now
  filled = omega (arith, l.for-attributes.for-texts)

  -- what opening the row asks for
  pub open_lent : OpenLent code state
  open_lent = record { sheet = l.sheet; few = l.few; for-state = l.for-state }

  -- an element is below the document
  pub below : ¬ (depth ≡ 0) → Below depth
  below d = record { deep = omega arith; shallow = l.shallow }

-- ---- returns of `step`
-- the parts of what a step leaves
stepped : (row row₁ state state₁ texts texts₁ : List ℕ) → row ≡ row₁ → state ≡ state₁ → texts ≡ texts₁
    → ◌≡◌ {A = Stepped} (record { row = row; state = state; texts = texts }) (record { row = row₁; state = state₁; texts = texts₁ })
stepped row row₁ state state₁ texts texts₁ a b c = rw (a, b, c)

-- an element below a row of the depth d
module _ (settings : Settings) (code node attributes text out state texts : List ℕ) (fill d : ℕ) (f : fill ≤ length texts) where
  -- the element of the row, its place among its parent's children by what the state keeps of the parent
  abbrev child_at : Element
  child_at = child_element node attributes text state (part_place code d)

  -- its row, its part of the state and its texts are those of the step
  element-is : (out₁ state₁ out₂ texts₂ : List ℕ) (r : ℕ)
      → out₁ ≡ merged_row Crate (inherited_row Crate out) (selectors_declare (found_at code (child_passed code child_at d state).matched))
      → state₁ ≡ opened (raised state (part_place code d)) (part_place code (suc d)) (child_passed code child_at d state).part
      → out₂ ≡ merged_row Crate out₁ (late_declared Crate (placed_attributes (length code + fill) (counting settings attributes text (length code) fill out texts)))
      → take r texts₂ ≡ take fill texts ++ attributes_contents (counting settings attributes text (length code) fill out texts)
      → record { row = out₂; state = state₁; texts = take r texts₂ } ≡ open_step code settings (handed_from node attributes text) (suc d) out state (take fill texts)
  unfolding open_step element_step row_below handed_from child_element handed_element child_passed counted_attributes inline_contents
  element-is out₁ state₁ out₂ texts₂ r row part row₂ t =
      let long : length (take fill texts) ≡ fill = length-take-le fill texts f in
      let xs : List Attribute = counting settings attributes text (length code) fill out texts in
      let merged : List ℕ = merged_row Crate (inherited_row Crate out) (selectors_declare (found_at code (child_passed code child_at d state).matched)) in
      stepped _ _ _ _ _ _
      (row₂
      ∙ ap (λ (x : List ℕ). merged_row Crate x (late_declared Crate (placed_attributes (length code + fill) xs))) row
      ∙ ap (λ (k : ℕ). merged_row Crate merged (late_declared Crate (placed_attributes (length code + k) xs))) (sym long))
      part t

module _ (settings : Settings) (code node attributes text : List ℕ) (depth : ℕ) (out state : List ℕ) (s : Stores) (fill : ℕ) (l : StepLent code attributes text depth state s fill) where
  -- the texts as they are lent
  abbrev texts : List ℕ
  texts = s.texts.now

  -- the row as it is handed to its step
  abbrev handed : Handed
  handed = handed_from node attributes text

  -- what is filled lies in the store
  abbrev fits : fill ≤ length texts
  fits = filled code attributes text depth state s fill l

  -- the step of other content leaves an empty row, and state and texts as they were
  pub other_step : length out ≡ style_row_width → (kind : ℕ) → kind ≡ (node_at node 0).kind → kind ≡ other_kind → (out₁ : List ℕ) → Emptied out out₁
      → (record { row = out₁; state = state; texts = take fill texts } ≡ step_on code settings handed depth out state (take fill texts)) × (fill ≤ length texts)
  unfolding step_on handed_from
  other_step o kind e h out₁ m =
      (pick_true _ _ _ _ (is-yes _ _ (sym e ∙ h)) (stepped _ _ _ _ _ _ (emptied out out₁ o m) refl refl), fits)

  module _ (kind : ℕ) (e : kind ≡ (node_at node 0).kind) (h : ¬ (kind ≡ other_kind)) where
    -- a row that is no other content is opened
    opens : (x : Stepped) → x ≡ open_step code settings handed depth out state (take fill texts) → x ≡ step_on code settings handed depth out state (take fill texts)
    unfolding step_on handed_from
    opens x q = pick-false _ _ _ _ (is-no _ _ (λ z. h (e ∙ z))) q

    -- at depth 0 the step is the document's: no style, its state, no texts added
    pub document-step : depth ≡ 0 → (out₁ state₁ : List ℕ) → (out₁ ≡ no_style) × (state₁ ≡ (document_step code state []).state)
        → (record { row = out₁; state = state₁; texts = take fill texts } ≡ step_on code settings handed depth out state (take fill texts)) × (fill ≤ length texts)
    unfolding open_step document_step
    document-step d out₁ state₁ p =
        (opens _ (stepped _ _ _ _ _ _ p.0 p.1 refl ∙ ap (λ (x : ℕ). open_step code settings handed x out state (take fill texts)) (sym d)), fits)

    -- below depth 0 the step is an element's: opened below its parent, then its attributes merged and their contents added
    pub element-step : ¬ (depth ≡ 0) → (out₁ state₁ : List ℕ)
        → ElementOpened code (child_element node attributes text state (part_place code (depth - 1))) (depth - 1) out state out₁ state₁ → (out₂ texts₂ : List ℕ) (r : ℕ)
        → (out₂ ≡ merged_row Crate out₁ (late_declared Crate (placed_attributes (length code + fill) (counting settings attributes text (length code) fill out texts))))
        × ((take r texts₂ ≡ take fill texts ++ attributes_contents (counting settings attributes text (length code) fill out texts))
        × (r ≤ length texts₂))
        → (record { row = out₂; state = state₁; texts = take r texts₂ } ≡ step_on code settings handed depth out state (take fill texts)) × (r ≤ length texts₂)
    element-step n out₁ state₁ p out₂ texts₂ r q =
        let e : suc (depth - 1) ≡ depth = omega arith in (
          opens _
              (element-is settings code node attributes text out state texts fill (depth - 1) fits out₁ state₁ out₂ texts₂ r p.row
              p.part
              q.0 q.1.0
              ∙ ap (λ (x : ℕ). open_step code settings handed x out state (take fill texts)) e),
          q.1.1,
        )
