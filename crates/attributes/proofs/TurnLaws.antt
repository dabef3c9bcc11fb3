-- The attributes of an element, one after the other: `merge_attributes` and `merge_colours`.
use Prim.Native.Nat.{ℕ, suc, ◌+◌, ◌-◌, ◌≤◌, ◌<◌}
use mathlib.Core.Bool.{false}
use mathlib.Core.List.{List, [], ◌∷◌, ◌++◌, map, append_assoc, append-nil, map-append}
use mathlib.Core.Path.{◌≡◌, refl, sym, ap, ◌∙◌}
use native.Mathlib.Nat.{add-zero}
use native.Mathlib.Omega.{arith}
use lib.ListN.{length, take, length-append}
use Rattle.syntax.specs.Stream.{texts_many}
use Rattle.syntax.specs.declared.styles.Value.{Value}
use Rattle.cascade.specs.declared.slots.Cascade.{Cascade}
use Rattle.cascade.specs.declared.slots.Cascade.TheVariants.{Crate, Book}
use Rattle.cascade.specs.Record.{from_attribute, colour_attributes}
use Rattle.cascade.specs.Specificity.{no_specificity}
use Rattle.page.specs.Path.{Attribute}
use Rattle.page.specs.PathOf.{attributes_from}
use Rattle.page.specs.Rows.{attribute_name, attribute_value}
use Rattle.matching.specs.Rows.{attribute_of}
use Rattle.values.specs.Layout.{Room}
use Rattle.combinators.specs.declared.lent.Stores.{Stores}
use Rattle.combinators.specs.Lent.{KeptStores}
use Rattle.styles.specs.Said.{attribute_says}
use Rattle.styles.specs.Room.{values_of}
use Rattle.styles.specs.StyleCall.{attribute_contents, attributes_contents, placed_styles, placed_attributes}
use Rattle.styles.specs.Merged.{merged_row, early_declared, late_declared}
use Rattle.styles.proofs.KeptStores.{kept-on}
use Rattle.styles.proofs.Merging.{merged-none, merged-append, late-none, late-append, colours-append}
use Rattle.styles.proofs.Room.{attribute-short}
use Rattle.attributes.specs.Merging.{InlineRoom, ValueRoom, attribute_colours, colours_say}
use Rattle.attributes.proofs.AttributeLaws.{early-colours}

-- ---- room
-- the bytes of a value, and of those behind it
values-more : (a : Attribute) (xs : List Attribute) → values_of (a ∷ xs) ≡ length a.value + values_of xs
unfolding values_of texts_many
values-more a xs = length-append a.value (texts_many (λ (a : Attribute). a.value) xs)

module _ (a : Attribute) (xs : List Attribute) (base fill : ℕ) (rules tokens brackets texts : List ℕ) (o : InlineRoom (a ∷ xs) base fill rules tokens brackets texts) where
  -- room for the attributes is room for the first one's value
  pub room-first : ValueRoom (length a.value) base fill rules tokens brackets texts
  room-first =
      let v = values-more a xs in
      record {
        for-rules = omega (arith, o.for-rules);
        for-tokens = omega (arith, o.for-tokens);
        for-brackets = omega (arith, o.for-brackets);
        for-texts = omega (arith, o.for-texts);
        bits = omega (arith, o.bits);
      }

  -- for those behind it, where the fill is behind its contents or has stayed
  pub room_next : (fill' : ℕ) (rules' tokens' brackets' texts' : List ℕ) → fill' ≤ fill + length (attribute_contents a) → length rules' ≡ length rules
      → length tokens' ≡ length tokens → length brackets' ≡ length brackets → length texts' ≡ length texts → InlineRoom xs base fill' rules' tokens' brackets' texts'
  room_next fill' rules' tokens' brackets' texts' h er et eb ex =
      let v = values-more a xs in
      let s = attribute-short a in
      record {
        for-rules = omega (arith, o.for-rules);
        for-tokens = omega (arith, o.for-tokens);
        for-brackets = omega (arith, o.for-brackets);
        for-texts = omega (arith, o.for-texts);
        bits = omega (arith, o.bits);
      }

-- ---- attributes from a row on
module _ (attributes names : List ℕ) (count : ℕ) where
  -- those from the i-th on
  abbrev pub behind : ℕ → List Attribute
  behind i = attributes_from attributes names (count - i) i

  -- behind the last attribute there is none
  none-behind : (i : ℕ) → count ≤ i → behind i ≡ []
  unfolding attributes_from
  none-behind i h = let z : count - i ≡ 0 = omega arith in ap (λ (k : ℕ). attributes_from attributes names k i) z

  -- one, and those behind it
  more-behind : (i : ℕ) → i < count → behind i ≡ attribute_of attributes names i ∷ behind (i + 1)
  unfolding attributes_from attribute_of
  more-behind i h = let z : count - i ≡ suc (count - (i + 1)) = omega arith in ap (λ (k : ℕ). attributes_from attributes names k i) z

-- ---- what they say behind the author's rules
module _ (c : Cascade) (base : ℕ) where
  -- no attribute declares nothing behind the author's rules
  late-done : (f : ℕ) (out : List ℕ) → merged_row c out (late_declared c (placed_attributes (base + f) [])) ≡ out
  unfolding placed_attributes
  late-done f out = ap (merged_row c out) (late-none c) ∙ merged-none c out

  -- one, and those behind it
  late-more : (f : ℕ) (a : Attribute) (xs : List Attribute) (out : List ℕ)
      → merged_row c out (late_declared c (placed_attributes (base + f) (a ∷ xs)))
      ≡ merged_row c (merged_row c out (late_declared c (attribute_says (placed_styles (base + f)) a))) (late_declared c (placed_attributes (base + (f + length (attribute_contents a))) xs))
  unfolding placed_attributes
  late-more f a xs out =
      let k : base + f + length (attribute_contents a) ≡ base + (f + length (attribute_contents a)) = omega arith in
      rw (k, late-append c (attribute_says (placed_styles (base + f)) a) (placed_attributes (base + (f + length (attribute_contents a))) xs))
      (merged-append c out (late_declared c (attribute_says (placed_styles (base + f)) a)) (late_declared c (placed_attributes (base + (f + length (attribute_contents a))) xs)))

-- ---- their contents
-- those of one, and those behind them
contents-more : (a : Attribute) (xs : List Attribute) → attributes_contents (a ∷ xs) ≡ attribute_contents a ++ attributes_contents xs
unfolding attributes_contents texts_many
contents-more a xs = refl

-- no attribute has no contents
contents-none : attributes_contents [] ≡ []
unfolding attributes_contents texts_many
contents-none = refl

module _ (attributes names : List ℕ) (count : ℕ) (c : Cascade) (base fill : ℕ) (out₀ : List ℕ) (s₀ : Stores) where
  -- before the i-th attribute: what is left leads to the row and the texts that all lead to
  pub record Turn (f i : ℕ) (out : List ℕ) (s : Stores) : Type 0 where
    pub within_count : i ≤ count
    pub room : InlineRoom (behind attributes names count i) base f s.rules.now s.tokens.now s.brackets.now s.texts.now
    pub kept : KeptStores s₀ s
    pub row : merged_row c out (late_declared c (placed_attributes (base + f) (behind attributes names count i)))
        ≡ merged_row c out₀ (late_declared c (placed_attributes (base + fill) (attributes_from attributes names count 0)))
    pub fills : f + length (attributes_contents (behind attributes names count i)) ≡ fill + length (attributes_contents (attributes_from attributes names count 0))
    pub lies : take f s.texts.now ++ attributes_contents (behind attributes names count i) ≡ take fill s₀.texts.now ++ attributes_contents (attributes_from attributes names count 0)

module _ (attributes names : List ℕ) (count : ℕ) (c : Cascade) (base fill : ℕ) (out₀ : List ℕ) (s₀ : Stores) where
  module _ (f i : ℕ) (out : List ℕ) (s : Stores) (v : Turn attributes names count c base fill out₀ s₀ f i out s) where
    -- behind the last attribute all are merged, and all contents lie behind the fill
    pub turn_end : count ≤ i
        → (out ≡ merged_row c out₀ (late_declared c (placed_attributes (base + fill) (attributes_from attributes names count 0))))
        × ((f ≡ fill + length (attributes_contents (attributes_from attributes names count 0)))
        × (take f s.texts.now ≡ take fill s₀.texts.now ++ attributes_contents (attributes_from attributes names count 0)))
    turn_end h =
        let z = none-behind attributes names count i h in
        let n : attributes_contents (behind attributes names count i) ≡ [] = ap attributes_contents z ∙ contents-none in (
          sym (ap (λ (l : List Attribute). merged_row c out (late_declared c (placed_attributes (base + f) l))) z ∙ late-done c base f out) ∙ v.row,
          (
            sym (add-zero f) ∙ ap (λ (l : List ℕ). f + length l) (sym n) ∙ v.fills,
            sym (append-nil (take f s.texts.now)) ∙ ap (λ (l : List ℕ). take f s.texts.now ++ l) (sym n) ∙ v.lies,
          ),
        )

    module _ (h : i < count) where
      -- there is room for it and those behind it
      next-room : InlineRoom (attribute_of attributes names i ∷ behind attributes names count (i + 1)) base f s.rules.now s.tokens.now s.brackets.now s.texts.now
      next-room = rw (more-behind attributes names count i h) at v.room

      -- there is room for its value
      pub turn-room : ValueRoom (length (attribute_value attributes names i)) base f s.rules.now s.tokens.now s.brackets.now s.texts.now
      unfolding attribute_of
      turn-room = room-first _ _ base f s.rules.now s.tokens.now s.brackets.now s.texts.now next-room

      -- a turn: what the attribute says is merged, and its contents are kept
      pub turn-next : (f' : ℕ) (out' : List ℕ) (s' : Stores)
          → out' ≡ merged_row c out (late_declared c (attribute_says (placed_styles (base + f)) (attribute_of attributes names i)))
          → f' ≡ f + length (attribute_contents (attribute_of attributes names i))
          → take f' s'.texts.now ≡ take f s.texts.now ++ attribute_contents (attribute_of attributes names i)
          → KeptStores s s'
          → Turn attributes names count c base fill out₀ s₀ f' (i + 1) out' s'
      turn-next f' out' s' p q w l =
          let a = attribute_of attributes names i in
          let xs = behind attributes names count (i + 1) in
          let m = more-behind attributes names count i h in
          let e : attributes_contents (behind attributes names count i) ≡ attribute_contents a ++ attributes_contents xs = ap attributes_contents m ∙ contents-more a xs in
          record {
            within_count = omega arith;
            room = room_next a xs base f s.rules.now s.tokens.now s.brackets.now s.texts.now next-room f' s'.rules.now s'.tokens.now s'.brackets.now s'.texts.now (omega arith) l.lengths.rules l.lengths.tokens l.lengths.brackets l.lengths.texts;
            kept = kept-on _ _ _ v.kept l;
            row =
                rw (p, q) (sym (late-more c base f a xs out))
                ∙ sym (ap (λ (l : List Attribute). merged_row c out (late_declared c (placed_attributes (base + f) l))) m) ∙ v.row;
            fills = omega (arith, v.fills, ap length e, length-append (attribute_contents a) (attributes_contents xs));
            lies =
                ap (λ (x : List ℕ). x ++ attributes_contents xs) w ∙ append_assoc (take f s.texts.now) (attribute_contents a) (attributes_contents xs)
                ∙ ap (λ (x : List ℕ). take f s.texts.now ++ x) (sym e) ∙ v.lies;
          }

-- ---- what they say before the author's rules
-- the colours of attributes, wherever their contents lie
colours-placed : (xs : List Attribute) (f : ℕ) → colour_attributes (placed_attributes f xs) ≡ map (from_attribute false no_specificity) (colours_say xs)
unfolding placed_attributes colour_attributes colours_say
colours-placed [] f = refl
colours-placed (a ∷ xs) f =
    colours-append (attribute_says (placed_styles f) a) (placed_attributes (f + length (attribute_contents a)) xs)
    ∙ rw (early-colours f a, colours-placed xs (f + length (attribute_contents a)))
    (sym (map-append (from_attribute false no_specificity) (attribute_colours a) (colours_say xs)))

-- in the book order they say their colours
pub early-book : (c : Cascade) (xs : List Attribute) (out out' : List ℕ) → c ≡ Book → out' ≡ merged_row c out (map (from_attribute false no_specificity) (colours_say xs))
    → (f : ℕ) → out' ≡ merged_row c out (early_declared c (placed_attributes f xs))
unfolding early_declared
early-book c xs out out' e p f = p ∙ rw (e, colours-placed xs f)

-- in the crate's cascade nothing
pub early-crate : (c : Cascade) (xs : List Attribute) (out : List ℕ) → c ≡ Crate → (f : ℕ) → out ≡ merged_row c out (early_declared c (placed_attributes f xs))
unfolding early_declared
early-crate c xs out e f = sym (merged-none c out) ∙ rw e

module _ (attributes names : List ℕ) (count : ℕ) (c : Cascade) (fill : ℕ) (out₀ : List ℕ) (s₀ : Stores) where
  -- before the i-th attribute: the colours that are left lead to the row that all lead to
  pub record ColourTurn (i : ℕ) (out : List ℕ) (s : Stores) : Type 0 where
    pub within_count : i ≤ count
    pub room : InlineRoom (behind attributes names count i) 0 fill s.tokens.now s.tokens.now s.brackets.now s.texts.now
    pub rules : s.rules.now ≡ s₀.rules.now
    pub kept : KeptStores s₀ s
    pub row : merged_row c out (map (from_attribute false no_specificity) (colours_say (behind attributes names count i)))
        ≡ merged_row c out₀ (map (from_attribute false no_specificity) (colours_say (attributes_from attributes names count 0)))
    pub lies : take fill s.texts.now ≡ take fill s₀.texts.now

module _ (attributes names : List ℕ) (count : ℕ) (c : Cascade) (fill : ℕ) (out₀ : List ℕ) (s₀ : Stores) where
  module _ (i : ℕ) (out : List ℕ) (s : Stores) (v : ColourTurn attributes names count c fill out₀ s₀ i out s) where
    -- behind the last attribute all colours are merged, and the texts up to the fill are as they were
    pub colours-end : count ≤ i
        → (out ≡ merged_row c out₀ (map (from_attribute false no_specificity) (colours_say (attributes_from attributes names count 0)))) × (take fill s.texts.now ≡ take fill s₀.texts.now)
    unfolding colours_say
    colours-end h =
        let z = none-behind attributes names count i h in
        (sym (ap (λ (l : List Attribute). merged_row c out (map (from_attribute false no_specificity) (colours_say l))) z ∙ merged-none c out) ∙ v.row, v.lies)

    module _ (h : i < count) (name value : List ℕ) (en : name ≡ attribute_name attributes names i) (ev : value ≡ attribute_value attributes names i) where
      -- there is room for it and those behind it
      colours-behind : InlineRoom (attribute_of attributes names i ∷ behind attributes names count (i + 1)) 0 fill s.tokens.now s.tokens.now s.brackets.now s.texts.now
      colours-behind = rw (more-behind attributes names count i h) at v.room

      -- there is room for its value
      pub colours-room : Room (length value) fill s.tokens.now s.brackets.now s.texts.now
      unfolding attribute_of
      colours-room =
          let o = room-first _ _ 0 fill s.tokens.now s.tokens.now s.brackets.now s.texts.now colours-behind in
          let e = ap length ev in
          record { for-tokens = omega (arith, o.for-tokens); for-brackets = omega (arith, o.for-brackets); for-texts = omega (arith, o.for-texts); bits = omega (arith, o.bits) }

      -- with the colour of the next attribute merged, those behind it are left
      pub colours-next : (out' : List ℕ) (s' : Stores)
          → out' ≡ merged_row c out (map (from_attribute false no_specificity) (attribute_colours (record { name = name; value = value })))
          → take fill s'.texts.now ≡ take fill s.texts.now → s'.rules.now ≡ s.rules.now → KeptStores s s'
          → ColourTurn attributes names count c fill out₀ s₀ (i + 1) out' s'
      unfolding colours_say attribute_of
      colours-next out' s' p w u l =
          let a = attribute_of attributes names i in
          let xs = behind attributes names count (i + 1) in
          let m = more-behind attributes names count i h in
          let g = from_attribute {A = Value} false no_specificity in
          let k : merged_row c out (map g (colours_say (behind attributes names count i))) ≡ merged_row c (merged_row c out (map g (attribute_colours a))) (map g (colours_say xs)) =
          ap (λ (l : List Attribute). merged_row c out (map g (colours_say l))) m ∙ ap (merged_row c out) (map-append g (attribute_colours a) (colours_say xs))
          ∙ merged-append c out (map g (attribute_colours a)) (map g (colours_say xs))
          in
          record {
            within_count = omega arith;
            room = room_next a xs 0 fill s.tokens.now s.tokens.now s.brackets.now s.texts.now colours-behind fill s'.tokens.now s'.tokens.now s'.brackets.now s'.texts.now (omega arith) l.lengths.tokens l.lengths.tokens l.lengths.brackets l.lengths.texts;
            rules = u ∙ v.rules;
            kept = kept-on _ _ _ v.kept l;
            row = rw (p, en, ev) (sym k) ∙ v.row;
            lies = w ∙ v.lies;
          }
