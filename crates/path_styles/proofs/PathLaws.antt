-- Returns of the functions that go down a path.
use mathlib.Core.Path.{◌≡◌, refl, ap, sym, ◌∙◌}
use mathlib.Core.Bool.{true, false}
use mathlib.Core.List.{List, [], ◌∷◌, ◌++◌, map, append_assoc, append-nil}
use Prim.Native.Nat.{ℕ, ◌+◌, ◌-◌, ◌≤◌}
use native.Mathlib.Omega.{arith}
use borrow.Rule.Slice.PartMut.{put_mid, Post-is}
use lib.ListN.{length, take, drop, replicate, drop_of_length-le, length-append}
use lib.Seq.{take-add, take-append-add, length-take-le}
use Rattle.combinators.specs.Choice.{pick}
use Rattle.combinators.proofs.Lists.{lent_from, rest}
use Rattle.syntax.specs.Stream.{texts_many}
use Rattle.syntax.specs.Style.{agent_origin, user_origin, author_origin}
use Rattle.syntax.specs.declared.styles.Value.{Value}
use Rattle.cascade.specs.declared.slots.Cascade.{Cascade}
use Rattle.cascade.specs.Record.{Declared, AttributeStyle, Sources, from_rule, declared_by, inherit_by, Handed, handed_by, cascade_by}
use Rattle.cascade.specs.Row.{style_row_width, Inherited, Emptied, inherited_row, handed_at, finished_row, row_of}
use Rattle.cascade.specs.Slot.{update_by}
use Rattle.cascade.proofs.Cascading.{inherit-by-formed, merges-formed}
use Rattle.cascade.proofs.Inheriting.{inherit-layout, handed-layout, finish-layout}
use Rattle.cascade.proofs.RowBack.{merges-layout}
use Rattle.page.specs.Path.{Attribute, Element, Path}
use Rattle.page.specs.PathOf.{element_at, path_of}
use Rattle.page.specs.Rows.{node_at}
use Rattle.matching.specs.Rows.{Rooted}
use Rattle.matching.proofs.PathLaws.{other_path}
use Rattle.styles.specs.declared.settings.Settings.{Settings}
use Rattle.styles.specs.Computed.{cascaded}
use Rattle.styles.specs.Room.{values_along, attributes_along}
use Rattle.styles.specs.Merged.{merged_row, early_declared, late_declared}
use Rattle.combinators.specs.declared.lent.Stores.{Stores}
use Rattle.combinators.specs.Lent.{SameLengths}
use Rattle.styles.specs.Said.{Rules, StyledRule, rules_say, counted_attributes, sources_from}
use Rattle.styles.specs.StyleCall.{placed_attributes, attributes_contents, inline_contents, path_contents, placed_from}
use Rattle.styles.proofs.Called.{empty-row, cascaded-formed}
use Rattle.styles.proofs.Room.{path-short}
use Rattle.styles.proofs.Merging.{merged-append, merged-none, early-none, late-none, declared-parts}
use Rattle.path_styles.specs.Path.{kept_sheet, kept_sheets, SameKept, Steady, EarlyRoom, ElementRoom, PathRoom}
use Rattle.origins.specs.declared.reading.SheetRules.{SheetRules}
use Rattle.path_styles.specs.Tops.{TextsIn}
use Rattle.path_styles.specs.Tops.{ReadySheets}
use Rattle.cascade.proofs.Windows.{all-wiped}
use Rattle.path_styles.proofs.TopsLaws.{right-parent}

-- ---- an element begins with what it inherits, and the rules of agent and user
-- inherited, then two lists of declarations merged in turn, are both lists merged into what is inherited
pub begun : (c : Cascade) (xs a b ys : List ℕ) (ds es : List (Declared Value)) → Inherited c xs a → b ≡ merged_row c a ds → ys ≡ merged_row c b es
    → ys ≡ merged_row c (inherited_row c xs) (ds ++ es)
begun c xs a b ys ds es h e k = rw (merged-append c (inherited_row c xs) ds es) (k ∙ ap (λ (r : List ℕ). merged_row c r es) (e ∙ ap (λ (r : List ℕ). merged_row c r ds) h.numbers))

-- ---- a store lent from a place on
module _ (l : List ℕ) (a : ℕ) (h : a ≤ length l) where
  -- what is written into the part stands behind what was before it
  part-returned : (ys : List ℕ) → put_mid a (length l - a) l ys ≡ take a l ++ ys
  part-returned ys =
      ap (λ (r : List ℕ). take a l ++ (ys ++ r)) (Post-is a (length l) l h ∙ drop_of_length-le l {i = length l} (omega arith)) ∙ ap (λ (r : List ℕ). take a l ++ r) (append-nil ys)

  -- as far as the part is known, with what lies behind that
  pub part_filled : (n m : ℕ) (ys more : List ℕ) → take n ys ≡ take m (lent_from l a) ++ more → take (a + n) (put_mid a (length l - a) l ys) ≡ take (a + m) l ++ more
  part_filled n m ys more e =
      let q : length (take a l) + n ≡ a + n = omega (arith, length-take-le a l h) in
      ap (take (a + n)) (part-returned ys)
      ∙ ap (λ (k : ℕ). take k (take a l ++ ys)) (sym q)
      ∙ take-append-add (take a l) ys n
      ∙ ap (λ (r : List ℕ). take a l ++ r) (e ∙ ap (λ (r : List ℕ). take m r ++ more) (rest l a))
      ∙ sym (append_assoc (take a l) (take m (drop a l)) more)
      ∙ ap (λ (r : List ℕ). r ++ more) (sym (take-add a m l))

  -- where the first m numbers of the lent part come back as they were, so do those of the whole up to there
  pub part_same : (m : ℕ) (ys : List ℕ) → take m ys ≡ take m (lent_from l a) → take (a + m) (put_mid a (length l - a) l ys) ≡ take (a + m) l
  part_same m ys e = part_filled m m ys [] (e ∙ sym (append-nil (take m (lent_from l a)))) ∙ append-nil (take (a + m) l)

-- ---- attributes, where document styles are on or off
module _ (c : Cascade) (settings : Settings) (e : Element) where
  -- on: all of them count
  pub counted-on : settings.document_styles ≡ true → counted_attributes settings e ≡ e.attributes
  unfolding counted_attributes pick
  counted-on h = rw h

  -- off: no attribute of the element counts
  counted-off : settings.document_styles ≡ false → counted_attributes settings e ≡ []
  unfolding counted_attributes pick
  counted-off h = rw h

  -- off: the element has no contents
  pub contents-off : settings.document_styles ≡ false → inline_contents settings e ≡ []
  unfolding inline_contents attributes_contents texts_many
  contents-off h = rw (counted-off h)

  -- off: its attributes add nothing before the author's rules
  pub early-off : settings.document_styles ≡ false → (row : List ℕ) (f : ℕ) → row ≡ merged_row c row (early_declared c (placed_attributes f (counted_attributes settings e)))
  unfolding placed_attributes
  early-off h row f = rw (counted-off h, early-none {A = Value} c) (sym (merged-none c row))

  -- off: its attributes add nothing behind the author's rules
  pub late-off : settings.document_styles ≡ false → (row : List ℕ) (f : ℕ) → row ≡ merged_row c row (late_declared c (placed_attributes f (counted_attributes settings e)))
  unfolding placed_attributes
  late-off h row f = rw (counted-off h, late-none {A = Value} c) (sym (merged-none c row))

-- what they say behind the author's rules, contents counted from the fill on
pub late-here : (c : Cascade) (e : Element) (xs : List Attribute) → xs ≡ e.attributes → (row ys : List ℕ) (f : ℕ) → ys ≡ merged_row c row (late_declared c (placed_attributes (0 + f) xs))
    → ys ≡ merged_row c row (late_declared c (placed_attributes f e.attributes))
late-here c e xs ex row ys f h =
    let z : 0 + f ≡ f = omega arith in
    h ∙ ap (λ (n : ℕ). merged_row c row (late_declared c (placed_attributes n xs))) z ∙ ap (λ (l : List Attribute). merged_row c row (late_declared c (placed_attributes f l))) ex

-- and their contents
pub contents-here : (e : Element) (xs : List Attribute) → xs ≡ e.attributes → (fill r : ℕ) (texts ys : List ℕ) → take r ys ≡ take fill texts ++ attributes_contents xs
    → take r ys ≡ take fill texts ++ attributes_contents e.attributes
contents-here e xs ex fill r texts ys h = h ∙ ap (λ (l : List Attribute). take fill texts ++ attributes_contents l) ex

-- ---- what they say, where document styles are on
module _ (c : Cascade) (settings : Settings) (e : Element) (on : settings.document_styles ≡ true) where
  -- all attributes of the element count
  counted : e.attributes ≡ counted_attributes settings e
  counted = sym (counted-on c settings e on)

  -- what all of them merge before the author's rules is what those that count merge
  pub early-on : (row ys : List ℕ) → ((f : ℕ) → ys ≡ merged_row c row (early_declared c (placed_attributes f e.attributes))) → (f : ℕ)
      → ys ≡ merged_row c row (early_declared c (placed_attributes f (counted_attributes settings e)))
  early-on row ys h f = h f ∙ ap (λ (l : List Attribute). merged_row c row (early_declared c (placed_attributes f l))) counted

  -- what all of them merge behind the author's rules is what those that count merge
  pub late-on : (row ys : List ℕ) (f : ℕ) → ys ≡ merged_row c row (late_declared c (placed_attributes f e.attributes)) → ys ≡ merged_row c row (late_declared c (placed_attributes f (counted_attributes settings e)))
  late-on row ys f h = h ∙ ap (λ (l : List Attribute). merged_row c row (late_declared c (placed_attributes f l))) counted

  -- the contents of all of them are those of the element
  pub contents-counted : attributes_contents e.attributes ≡ inline_contents settings e
  unfolding inline_contents
  contents-counted = ap attributes_contents counted

  -- the fill goes up by the contents
  pub fill-counted : (fill r : ℕ) → r ≡ fill + length (attributes_contents e.attributes) → r ≡ fill + length (inline_contents settings e)
  fill-counted fill r k = k ∙ ap (λ (l : List ℕ). fill + length l) contents-counted

  -- which stand behind the texts up to the old fill, in the whole as in the part that is lent
  pub texts-counted : (fill r : ℕ) (texts : List ℕ) (end : ℕ) (h : end ≤ length texts) (ys : List ℕ) → take r ys ≡ take fill (lent_from texts end) ++ attributes_contents e.attributes
      → take (end + r) (put_mid end (length texts - end) texts ys) ≡ take (end + fill) texts ++ inline_contents settings e
  texts-counted fill r texts end h ys t = part_filled texts end h r fill ys (inline_contents settings e) (t ∙ ap (λ (l : List ℕ). take fill (lent_from texts end) ++ l) contents-counted)

-- where there are no attributes
pub texts-none : (end fill : ℕ) (texts more : List ℕ) → more ≡ [] → (fill ≡ fill + length more) × (take (end + fill) texts ≡ take (end + fill) texts ++ more)
texts-none end fill texts more e = (rw e (omega arith), rw e (sym (append-nil (take (end + fill) texts))))

-- ---- what is kept stays
module _ (s : ReadySheets) where
  -- after one change and another
  pub same-twice : {rows tokens texts rows₁ tokens₁ texts₁ rows₂ tokens₂ texts₂ : List ℕ} → SameKept s rows tokens texts rows₁ tokens₁ texts₁ → SameKept s rows₁ tokens₁ texts₁ rows₂ tokens₂ texts₂
      → SameKept s rows tokens texts rows₂ tokens₂ texts₂
  same-twice h k = record { same_rows = k.same_rows ∙ h.same_rows; same-tokens = k.same-tokens ∙ h.same-tokens; same-texts = k.same-texts ∙ h.same-texts }

  -- it can be kept on
  steady-on : {texts texts₁ : List ℕ} → length texts₁ ≡ length texts → (x : SheetRules) → TextsIn texts s.sheets.end x → TextsIn texts₁ s.sheets.end x
  steady-on e x t = record { begins = t.begins; ends = omega (arith, e, t.ends) }

  module _ {nodes attributes text : List ℕ} {row : ℕ} {rows tokens texts : List ℕ} (h : Steady s nodes attributes text row rows tokens texts) where
    -- what lies in the stores stays so in stores that are the same up to what is kept
    pub steady-still : {rows₁ tokens₁ texts₁ : List ℕ} → SameKept s rows tokens texts rows₁ tokens₁ texts₁ → length texts₁ ≡ length texts → Steady s nodes attributes text row rows₁ tokens₁ texts₁
    steady-still {rows₁} {tokens₁} {texts₁} k e =
        record {
          kept = λ rows₂ tokens₂ texts₂ m. h.kept rows₂ tokens₂ texts₂ (same-twice k m) ∙ sym (h.kept rows₁ tokens₁ texts₁ k);
          tops = λ rows₂ tokens₂ texts₂ m. h.tops rows₂ tokens₂ texts₂ (same-twice k m);
          agent-in = steady-on e s.sheets.agent.styled.rules h.agent-in;
          user-in = steady-on e s.sheets.user.styled.rules h.user-in;
          author-in = steady-on e s.sheets.author.styled.rules h.author-in;
        }

    -- also for the parent of the row
    pub steady-above : ¬ (row ≡ 0) → (p : ℕ) → p ≡ (node_at nodes row).parent → Steady s nodes attributes text p rows tokens texts
    steady-above z p e =
        record {
          kept = h.kept;
          tops =
              λ rows₁ tokens₁ texts₁ k.
              let t = h.tops rows₁ tokens₁ texts₁ k in
              record {
                agent-tops = right-parent nodes attributes text row z p e _ _ t.agent-tops;
                user-tops = right-parent nodes attributes text row z p e _ _ t.user-tops;
                author-tops = right-parent nodes attributes text row z p e _ _ t.author-tops;
              };
          agent-in = h.agent-in;
          user-in = h.user-in;
          author-in = h.author-in;
        }

-- ---- the row of an element
module _ (c : Cascade) (rules : Rules (StyledRule Value)) (inline : List (AttributeStyle Value)) (p : Path) where
  abbrev said : Sources Value
  said = sources_from rules inline p

  -- inherited, then agent and user, early attributes, author and late attributes merged in turn, is all that is said of the element
  pub element-row : (xs a b d z : List ℕ)
      → a ≡ merged_row c (inherited_row c xs) (map (from_rule agent_origin) (rules_say p rules.agent) ++ map (from_rule user_origin) (rules_say p rules.user))
      → b ≡ merged_row c a (early_declared c inline)
      → (author : List (StyledRule Value)) → author ≡ rules.author → d ≡ merged_row c b (map (from_rule author_origin) (rules_say p author))
      → z ≡ merged_row c d (late_declared c inline)
      → z ≡ merged_row c (inherited_row c xs) (declared_by c said)
  unfolding sources_from
  element-row xs a b d z ea eb author e ed ez =
      let A = map (from_rule agent_origin) (rules_say p rules.agent) in
      let U = map (from_rule user_origin) (rules_say p rules.user) in
      let W = map (from_rule author_origin) (rules_say p rules.author) in
      let E = early_declared c inline in
      let L = late_declared c inline in
      let i = inherited_row c xs in
      let d' : d ≡ merged_row c b W = ed ∙ ap (λ (l : List (StyledRule Value)). merged_row c b (map (from_rule author_origin) (rules_say p l))) e in
      rw (declared-parts c said, merged-append c i A (U ++ (E ++ (W ++ L))), merged-append c (merged_row c i A) U (E ++ (W ++ L)), merged-append c (merged_row c (merged_row c i A) U) E (W ++ L), merged-append c (merged_row c (merged_row c (merged_row c i A) U) E) W L)
      (ez ∙ ap (λ (r : List ℕ). merged_row c r L) (d' ∙ ap (λ (r : List ℕ). merged_row c r W) (eb ∙ ap (λ (r : List ℕ). merged_row c r E) (ea ∙ merged-append c i A U))))

-- ---- what an element leaves: the texts up to the new fill, and what is kept
-- the contents stand behind the texts that were there before the attributes that come early
pub texts-again : (n r : ℕ) (texts texts₁ more ys : List ℕ) → take r ys ≡ take n texts₁ ++ more → take n texts₁ ≡ take n texts → take r ys ≡ take n texts ++ more
texts-again n r texts texts₁ more ys h e = h ∙ ap (λ (l : List ℕ). l ++ more) e

-- the author's rules are the same behind the attributes that come early
pub author-still : (s : ReadySheets) (rows tokens texts rows₁ tokens₁ texts₁ : List ℕ) {nodes attributes text : List ℕ} {row : ℕ} → Steady s nodes attributes text row rows tokens texts
    → SameKept s rows tokens texts rows₁ tokens₁ texts₁ → kept_sheet rows₁ tokens₁ texts₁ s.sheets.end s.sheets.author ≡ (kept_sheets rows tokens texts s).author
unfolding kept_sheets
author-still s rows tokens texts rows₁ tokens₁ texts₁ h k = ap (λ (k : Rules (StyledRule Value)). k.author) (h.kept rows₁ tokens₁ texts₁ k)

-- room that is asked for again behind a call
pub early-of : (s : ReadySheets) (e : Element) (fill : ℕ) (rows tokens brackets texts : List ℕ) → ElementRoom s e fill rows tokens brackets texts → EarlyRoom s e fill tokens brackets texts
early-of s e fill rows tokens brackets texts r = record { for-tokens = r.for-tokens; for-brackets = r.for-brackets; for-texts = r.for-texts; bits = r.bits }

-- in stores as long as before there is the same room
pub room-again : (s : ReadySheets) (e : Element) (fill : ℕ) (a b : Stores) → ElementRoom s e fill a.rules.now a.tokens.now a.brackets.now a.texts.now → SameLengths a b
    → ElementRoom s e fill b.rules.now b.tokens.now b.brackets.now b.texts.now
room-again s e fill a b r l =
    record {
      for-rules = omega (arith, l.rules, r.for-rules);
      for-tokens = omega (arith, l.tokens, r.for-tokens);
      for-brackets = omega (arith, l.brackets, r.for-brackets);
      for-texts = omega (arith, l.texts, r.for-texts);
      bits = r.bits;
    }

-- ---- a path
module _ (nodes attributes text : List ℕ) (row : ℕ) (h : Rooted nodes row) where
  -- an element's path is the element, and its parent's path
  pub path-by : ¬ (row ≡ 0) → (p : ℕ) → p ≡ (node_at nodes row).parent → path_of nodes attributes text row ≡ element_at nodes attributes text row ∷ path_of nodes attributes text p
  path-by z p e = rw e (other_path nodes attributes text row h z)

module _ (c : Cascade) (s : ReadySheets) (settings : Settings) (kept : Rules (StyledRule Value)) where
  -- at its top is the empty style
  pub top-row : (p : Path) (xs ys : List ℕ) → length xs ≡ style_row_width → Emptied xs ys → p ≡ [] → ys ≡ row_of (cascaded c (placed_from kept s.fill settings p))
  unfolding placed_from cascaded
  top-row p xs ys o e n =
      rw n (e.numbers ∙ sym (all-wiped xs style_row_width o) ∙ ap (λ (n : ℕ). replicate n 0) o ∙ empty-row)

  -- an element's row is made of its parent's
  pub below_row : (p : Path) (e : Element) (up : Path) (fill : ℕ) (kept₁ : Rules (StyledRule Value)) (ys zs : List ℕ) → p ≡ e ∷ up → kept₁ ≡ kept
      → fill ≡ s.fill + length (path_contents settings up)
      → ys ≡ row_of (cascaded c (placed_from kept s.fill settings up))
      → zs ≡ finished_row c (handed_at ys) (merged_row c (inherited_row c ys) (declared_by c (sources_from kept₁ (placed_attributes fill (counted_attributes settings e)) p)))
      → zs ≡ row_of (cascaded c (placed_from kept s.fill settings p))
  unfolding placed_from cascaded cascade_by merged_row
  below_row p e up fill kept₁ ys zs n k f y z =
      let above = cascaded c (placed_from kept s.fill settings up) in
      let formed = cascaded-formed c (placed_from kept s.fill settings up) in
      let said = declared_by c (sources_from kept (placed_attributes (s.fill + length (path_contents settings up)) (counted_attributes settings e)) (e ∷ up)) in
      rw n (
      (rw (k, f, n, y) at z)
      ∙ ap (λ (h : Handed Value). finished_row c h (merged_row c (inherited_row c (row_of above)) said)) (handed-layout above formed)
      ∙ ap (finished_row c (handed_by above)) (ap (λ (r : List ℕ). merged_row c r said) (inherit-layout c above formed) ∙ merges-layout (update_by c) said (inherit_by c above) (inherit-by-formed c above formed))
      ∙ finish-layout c (handed_by above) _ (merges-formed (update_by c) said (inherit_by c above) (inherit-by-formed c above formed))
      )

-- the contents of a path: those above, then its own
module _ (s : ReadySheets) (settings : Settings) where
  -- the fill behind an element counts the contents of its whole path
  pub below-fill : (p : Path) (e : Element) (up : Path) (fill r : ℕ) → p ≡ e ∷ up → fill ≡ s.fill + length (path_contents settings up) → r ≡ fill + length (inline_contents settings e)
      → r ≡ s.fill + length (path_contents settings p)
  unfolding path_contents
  below-fill p e up fill r n f k = rw n (omega (arith, f, k, length-append (path_contents settings up) (inline_contents settings e)))

  -- the texts up to that fill are those before the path, then the contents of the whole path
  pub below-texts : (p : Path) (e : Element) (up : Path) (fill r : ℕ) (texts texts₁ texts₂ : List ℕ) → p ≡ e ∷ up
      → take (s.sheets.end + fill) texts₁ ≡ take (s.sheets.end + s.fill) texts ++ path_contents settings up → take (s.sheets.end + r) texts₂ ≡ take (s.sheets.end + fill) texts₁ ++ inline_contents settings e
      → take (s.sheets.end + r) texts₂ ≡ take (s.sheets.end + s.fill) texts ++ path_contents settings p
  unfolding path_contents
  below-texts p e up fill r texts texts₁ texts₂ n t₁ t₂ =
      rw n (t₂ ∙ ap (λ (l : List ℕ). l ++ inline_contents settings e) t₁ ∙ append_assoc (take (s.sheets.end + s.fill) texts) (path_contents settings up) (inline_contents settings e))

  -- for the document's path the fill stays
  pub top-fill : (p : Path) → p ≡ [] → s.fill ≡ s.fill + length (path_contents settings p)
  unfolding path_contents
  top-fill p n = rw n (omega arith)

  -- for the document's path the texts stay
  pub top-texts : (p : Path) (texts : List ℕ) → p ≡ [] → take (s.sheets.end + s.fill) texts ≡ take (s.sheets.end + s.fill) texts ++ path_contents settings p
  unfolding path_contents
  top-texts p texts n = rw n (sym (append-nil (take (s.sheets.end + s.fill) texts)))

-- the room of a path is room for the path above, and for its element behind the contents of that
module _ (s : ReadySheets) (p : Path) (e : Element) (up : Path) (n : p ≡ e ∷ up) (rows tokens brackets texts : List ℕ) (r : PathRoom s p rows tokens brackets texts) where
  -- the room, with the path as an element and those above it
  whole : PathRoom s (e ∷ up) rows tokens brackets texts
  whole = rw n at r

  -- what has room for the path has room for the path above
  pub room-above : PathRoom s up rows tokens brackets texts
  unfolding values_along attributes_along
  room-above =
      record {
        for-rules = omega (arith, whole.for-rules);
        for-tokens = omega (arith, whole.for-tokens);
        for-brackets = omega (arith, whole.for-brackets);
        for-texts = omega (arith, whole.for-texts);
        bits = omega (arith, whole.bits);
      }

  -- and for the attributes of its element, in stores as long as before
  pub room-here : (settings : Settings) (fill : ℕ) (rows₁ tokens₁ brackets₁ texts₁ : List ℕ) → fill ≡ s.fill + length (path_contents settings up)
      → length rows₁ ≡ length rows → length tokens₁ ≡ length tokens → length brackets₁ ≡ length brackets → length texts₁ ≡ length texts → ElementRoom s e fill rows₁ tokens₁ brackets₁ texts₁
  unfolding values_along attributes_along
  room-here settings fill rows₁ tokens₁ brackets₁ texts₁ f er et eb ex =
      let h = path-short settings up in
      record {
        for-rules = omega (arith, er, whole.for-rules);
        for-tokens = omega (arith, et, whole.for-tokens);
        for-brackets = omega (arith, eb, whole.for-brackets);
        for-texts = omega (arith, ex, f, h, whole.for-texts);
        bits = omega (arith, f, h, whole.bits);
      }

-- what is kept is the same at the start
pub same-already : (s : ReadySheets) (rows tokens texts : List ℕ) → SameKept s rows tokens texts rows tokens texts
same-already s rows tokens texts = record { same_rows = refl; same-tokens = refl; same-texts = refl }
