-- A cascade only moves values: from styles and declarations that are the same but for the form of their values come styles that are. Assumes nothing.
use mathlib.Core.Path.{◌≡◌, refl, sym}
use mathlib.Core.Bool.{Bool, true, false}
use mathlib.Core.List.{List, [], ◌++◌, map, foldl}
use Prim.Native.Nat.{ℕ, zero, suc}
use lib.ListN.{get_or, set, replicate}
use Rattle.combinators.specs.Choice.{pick, is}
use Rattle.combinators.proofs.Rules.{never}
use Rattle.syntax.specs.Layout.{colour_slot, white_space_slot, visibility_slot}
use Rattle.syntax.specs.Style.{agent_origin, user_origin, author_origin}
use Rattle.cascade.specs.declared.specificity.Specificity.{Specificity}
use Rattle.cascade.specs.declared.slots.Weight.{Weight}
use Rattle.cascade.specs.declared.slots.Cascade.{Cascade}
use Rattle.cascade.specs.declared.slots.Cascade.TheVariants.{Crate, Book}
use Rattle.cascade.specs.Specificity.{no_specificity, inline_specificity}
use Rattle.cascade.specs.Slot.{Candidate, Slot, empty, held, held_against, maybe_update, held_in_book, book_update, update_by, fill_update}
use Rattle.cascade.specs.Record.{slot_count, main_record, before_record, after_record, Record, ComputedStyle, record_in, slot_of, slot_in, empty_record, empty_style, update_record, update_style, Declared, is_named, merge_by, inherit, inherit_by, Handed, handed_by, handed_slot, handed_on, fill_record, fill_pseudo, finish_by, Styled, RuleStyle, AttributeStyle, Sources, from_rule, from_attribute, crate_declared, colour_attributes, style_attributes, book_declared, declared_by, cascade_by}
use Rattle.cascade.specs.Related.{Each, none, next, SameCandidate, SameSlot, both-empty, both-held, SameRecord, SameStyle}

-- ---- a choice between things that are related
-- two choices by the same test are related, where their first arms are and their second arms are
pub pick_same : {A B : Type 0} (P : A → B → Type 0) (t u : Bool) (a c : A) (b d : B) → t ≡ u → P a b → P c d → P (pick t a c) (pick u b d)
unfolding pick
pick_same P true true a c b d e p q = p
pick_same P true false a c b d e p q = never (sym e)
pick_same P false true a c b d e p q = never e
pick_same P false false a c b d e p q = q

-- ---- lists, member by member
module _ {A B : Type 0} (P : A → B → Type 0) where
  -- lists that are related member by member stay so with related lists behind them
  pub each_append : {l us : List A} {m vs : List B} → Each P l m → Each P us vs → Each P (l ++ us) (m ++ vs)
  each_append none q = q
  each_append (next p ps) q = next p (each_append ps q)

  -- related members stay related when each is put through its function
  pub each_map : {C D : Type 0} (Q : C → D → Type 0) (f : A → C) (g : B → D) → ((a : A) (b : B) → P a b → Q (f a) (g b)) → {l : List A} {m : List B} → Each P l m → Each Q (map f l) (map g m)
  each_map Q f g h none = none
  each_map Q f g h (next {a} {b} p ps) = next (h a b p) (each_map Q f g h ps)

  -- related lists stay so with one member of both replaced by related ones
  pub each_set : {l : List A} {m : List B} (k : ℕ) (a : A) (b : B) → P a b → Each P l m → Each P (set l k a) (set m k b)
  each_set k a b p none = none
  each_set zero a b p (next q qs) = next p qs
  each_set (suc k) a b p (next q qs) = next q (each_set k a b p qs)

  -- values that are related one by one are related at each place
  pub each-get : {l : List A} {m : List B} (k : ℕ) (a : A) (b : B) → P a b → Each P l m → P (get_or l k a) (get_or m k b)
  each-get k a b p none = p
  each-get zero a b p (next q qs) = q
  each-get (suc k) a b p (next q qs) = each-get k a b p qs

  -- one thing so many times
  pub each-replicate : (n : ℕ) (a : A) (b : B) → P a b → Each P (replicate n a) (replicate n b)
  each-replicate zero a b p = none
  each-replicate (suc n) a b p = next p (each-replicate n a b p)

module _ {A B : Type 0} (R : A → B → Type 0) where
  -- ---- what is said: the same record, slot, importance and specificity
  pub record SameStyled (x : Styled A) (y : Styled B) : Type 0 where
    pub slots : x.slot ≡ y.slot
    pub importances : x.important ≡ y.important
    pub values : R x.value y.value

  pub record SameRule (x : RuleStyle A) (y : RuleStyle B) : Type 0 where
    pub pseudos : x.pseudo ≡ y.pseudo
    pub specs : x.spec ≡ y.spec
    pub styles : SameStyled x.style y.style

  pub record SameAttribute (x : AttributeStyle A) (y : AttributeStyle B) : Type 0 where
    pub kinds : x.is_style ≡ y.is_style
    pub styles : SameStyled x.style y.style

  pub record SameSources (x : Sources A) (y : Sources B) : Type 0 where
    pub agents : Each SameRule x.agent y.agent
    pub users : Each SameRule x.user y.user
    pub authors : Each SameRule x.author y.author
    pub attributes : Each SameAttribute x.attributes y.attributes

  pub record SameDeclared (x : Declared A) (y : Declared B) : Type 0 where
    pub pseudos : x.pseudo ≡ y.pseudo
    pub slots : x.slot ≡ y.slot
    pub candidates : SameCandidate R x.candidate y.candidate

  -- ---- one update
  -- a test of two weights has one answer on candidates that are the same
  tests_same : (f : Weight → Weight → Bool) (c x : Candidate A) (d y : Candidate B) → SameCandidate R c d → SameCandidate R x y → f c.weight x.weight ≡ f d.weight y.weight
  tests_same f c x d y p q = rw (p.weights, q.weights)

  -- of two candidates and two that are the same, the same one is chosen
  chosen-same : (f : Weight → Weight → Bool) (c x : Candidate A) (d y : Candidate B) → SameCandidate R c d → SameCandidate R x y
      → SameSlot R (pick (f c.weight x.weight) (held c) (held x)) (pick (f d.weight y.weight) (held d) (held y))
  chosen-same f c x d y p q = pick_same (SameSlot R) _ _ (held c) (held x) (held d) (held y) (tests_same f c x d y p q) (both-held p) (both-held q)

  -- slots that are the same stay so when both are updated, by either cascade
  pub update_same : (k : Cascade) (s : Slot A) (t : Slot B) (x : Candidate A) (y : Candidate B) → SameSlot R s t → SameCandidate R x y → SameSlot R (update_by k s x) (update_by k t y)
  unfolding update_by maybe_update book_update
  update_same Crate empty empty x y both-empty q = both-held q
  update_same Crate empty (held d) x y h q = elim h [ ]
  update_same Crate (held c) empty x y h q = elim h [ ]
  update_same Crate (held c) (held d) x y (both-held p) q = chosen-same held_against c x d y p q
  update_same Book empty empty x y both-empty q = both-held q
  update_same Book empty (held d) x y h q = elim h [ ]
  update_same Book (held c) empty x y h q = elim h [ ]
  update_same Book (held c) (held d) x y (both-held p) q = chosen-same held_in_book c x d y p q

  -- and when an inherited value fills both
  fill-same : (s : Slot A) (t : Slot B) (x : Candidate A) (y : Candidate B) → SameSlot R s t → SameCandidate R x y → SameSlot R (fill_update s x) (fill_update t y)
  unfolding fill_update
  fill-same empty empty x y both-empty q = both-held q
  fill-same empty (held d) x y h q = elim h [ ]
  fill-same (held c) empty x y h q = elim h [ ]
  fill-same (held c) (held d) x y (both-held p) q = both-held p

  -- ---- by any two updates that keep slots the same
  module _ (u : Slot A → Candidate A → Slot A) (v : Slot B → Candidate B → Slot B)
      (kept : (s : Slot A) (t : Slot B) (x : Candidate A) (y : Candidate B) → SameSlot R s t → SameCandidate R x y → SameSlot R (u s x) (v t y)) where
    module _ (x : Candidate A) (y : Candidate B) (c : SameCandidate R x y) where
      -- records that are the same stay so when one slot of both is updated
      record-updated : (i : ℕ) (p : Record A) (q : Record B) → SameRecord R p q → SameRecord R (update_record i (λ s. u s x) p) (update_record i (λ s. v s y) q)
      unfolding update_record slot_of
      record-updated i p q h =
          record { presence = refl; all = each_set (SameSlot R) i _ _ (kept _ _ x y (each-get (SameSlot R) i empty empty both-empty h.all) c) h.all }

      -- styles that are the same stay so when one slot of one record of both is updated
      style-updated : (r i : ℕ) (s : ComputedStyle A) (t : ComputedStyle B) → SameStyle R s t → SameStyle R (update_style r i (λ z. u z x) s) (update_style r i (λ z. v z y) t)
      unfolding update_style
      style-updated r i s t h =
          pick_same (SameStyle R) (is r main_record) (is r main_record) _ _ _ _ refl (record { main = record-updated i s.main t.main h.main; before = h.before; after = h.after })
          (pick_same (SameStyle R) (is r before_record) (is r before_record) _ _ _ _ refl (record { main = h.main; before = record-updated i s.before t.before h.before; after = h.after })
          (record { main = h.main; before = h.before; after = record-updated i s.after t.after h.after }))

    -- styles that are the same stay so when one declaration is merged into both
    one-merged : (s : ComputedStyle A) (t : ComputedStyle B) (x : Declared A) (y : Declared B) → SameStyle R s t → SameDeclared x y → SameStyle R (merge_by u s x) (merge_by v t y)
    unfolding merge_by
    one-merged s t x y h d =
        let n : is_named x.pseudo x.slot ≡ is_named y.pseudo y.slot = rw (d.pseudos, d.slots) in
        let w = style-updated x.candidate y.candidate d.candidates x.pseudo x.slot s t h in
        pick_same (SameStyle R) _ _ _ s _ t n (moved x.pseudo y.pseudo x.slot y.slot d.pseudos d.slots (λ z. u z x.candidate) (λ z. v z y.candidate) w) h
      where
        moved : (a b i j : ℕ) → a ≡ b → i ≡ j → (f : Slot A → Slot A) (g : Slot B → Slot B) → SameStyle R (update_style a i f s) (update_style a i g t) → SameStyle R (update_style a i f s) (update_style b j g t)
        moved a b i j e l f g w = rw (← e, ← l) w

    -- styles that are the same stay so when many declarations are merged into both
    all-merged : {xs : List (Declared A)} {ys : List (Declared B)} → Each SameDeclared xs ys → (s : ComputedStyle A) (t : ComputedStyle B) → SameStyle R s t
        → SameStyle R (foldl (merge_by u) s xs) (foldl (merge_by v) t ys)
    all-merged none s t h = h
    all-merged (next {a = x} {b = y} d ds) s t h = all-merged ds (merge_by u s x) (merge_by v t y) (one-merged s t x y h d)

  -- so they do in either cascade
  pub merges-same : (k : Cascade) {xs : List (Declared A)} {ys : List (Declared B)} → Each SameDeclared xs ys → (s : ComputedStyle A) (t : ComputedStyle B) → SameStyle R s t
      → SameStyle R (foldl (merge_by (update_by k)) s xs) (foldl (merge_by (update_by k)) t ys)
  merges-same k ds s t h = all-merged (update_by k) (update_by k) (update_same k) ds s t h

  -- records in which nothing is declared are the same
  empty-record-same : SameRecord R empty_record empty_record
  unfolding empty_record
  empty-record-same = record { presence = refl; all = each-replicate (SameSlot R) slot_count empty empty both-empty }

  -- the empty styles are the same, whatever form their values have
  pub empty-same : SameStyle R empty_style empty_style
  unfolding empty_style
  empty-same = record { main = empty-record-same; before = empty-record-same; after = empty-record-same }

  -- ---- what an element begins with, and what it ends with
  -- with the main record present on both sides, they are the same
  inherits-same : (s : ComputedStyle A) (t : ComputedStyle B) → SameStyle R s t → SameStyle R (inherit s) (inherit t)
  unfolding inherit
  inherits-same s t h = record { main = record { presence = refl; all = h.main.all }; before = h.before; after = h.after }

  -- styles that are the same are inherited as the same, in either cascade
  pub inherit-same : (k : Cascade) (s : ComputedStyle A) (t : ComputedStyle B) → SameStyle R s t → SameStyle R (inherit_by k s) (inherit_by k t)
  unfolding inherit_by
  inherit-same Crate s t h = inherits-same s t h
  inherit-same Book s t h = inherits-same empty_style empty_style empty-same

  -- what two styles hand on that are the same
  pub record SameHanded (g : Handed A) (h : Handed B) : Type 0 where
    pub colours : SameSlot R g.colour h.colour
    pub white-spaces : SameSlot R g.white_space h.white_space
    pub visibilities : SameSlot R g.visibility h.visibility

  -- records that are the same by their number
  record-in-same : (r : ℕ) (s : ComputedStyle A) (t : ComputedStyle B) → SameStyle R s t → SameRecord R (record_in s r) (record_in t r)
  unfolding record_in
  record-in-same r s t h = pick_same (SameRecord R) _ _ _ _ _ _ refl h.main (pick_same (SameRecord R) _ _ _ _ _ _ refl h.before h.after)

  -- slots that are the same by their numbers
  slot-in-same : (r k : ℕ) (s : ComputedStyle A) (t : ComputedStyle B) → SameStyle R s t → SameSlot R (slot_in s r k) (slot_in t r k)
  unfolding slot_in slot_of
  slot-in-same r k s t h = each-get (SameSlot R) k empty empty both-empty (record-in-same r s t h).all

  -- styles that are the same hand on the same
  handed-same : (s : ComputedStyle A) (t : ComputedStyle B) → SameStyle R s t → SameHanded (handed_by s) (handed_by t)
  unfolding handed_by
  handed-same s t h = record {
    colours = slot-in-same main_record colour_slot s t h;
    white-spaces = slot-in-same main_record white_space_slot s t h;
    visibilities = slot-in-same main_record visibility_slot s t h;
  }

  -- slots that are the same are handed on as the same declarations
  slot-handed : (r k : ℕ) (s : Slot A) (t : Slot B) → SameSlot R s t → Each SameDeclared (handed_slot r k s) (handed_slot r k t)
  unfolding handed_slot
  slot-handed r k empty empty both-empty = none
  slot-handed r k empty (held d) h = elim h [ ]
  slot-handed r k (held c) empty h = elim h [ ]
  slot-handed r k (held c) (held d) (both-held p) = next (record { pseudos = refl; slots = refl; candidates = p }) none

  -- a record filled from what is the same
  record-filled : (r : ℕ) (g : Handed A) (h : Handed B) (s : ComputedStyle A) (t : ComputedStyle B) → SameHanded g h → SameStyle R s t → SameStyle R (fill_record r g s) (fill_record r h t)
  unfolding fill_record handed_on
  record-filled r g h s t e d =
      all-merged fill_update fill_update fill-same
      (each_append SameDeclared (slot-handed r colour_slot g.colour h.colour e.colours)
      (each_append SameDeclared (slot-handed r white_space_slot g.white_space h.white_space e.white-spaces) (slot-handed r visibility_slot g.visibility h.visibility e.visibilities)))
      s t d

  -- a pseudo record filled from its element's main record
  pseudo-filled : (r : ℕ) (s : ComputedStyle A) (t : ComputedStyle B) → SameStyle R s t → SameStyle R (fill_pseudo r s) (fill_pseudo r t)
  unfolding fill_pseudo
  pseudo-filled r s t d = pick_same (SameStyle R) _ _ _ _ _ _ (record-in-same r s t d).presence (record-filled r (handed_by s) (handed_by t) s t (handed-same s t d) d) d

  -- styles that are the same end as the same, in either cascade
  finish-same : (k : Cascade) (g : Handed A) (h : Handed B) (s : ComputedStyle A) (t : ComputedStyle B) → SameHanded g h → SameStyle R s t → SameStyle R (finish_by k g s) (finish_by k h t)
  unfolding finish_by
  finish-same Crate g h s t e d = d
  finish-same Book g h s t e d = pseudo-filled after_record _ _ (pseudo-filled before_record _ _ (record-filled main_record g h s t e d))

  -- ---- all declarations of an element
  -- weights of one origin with the same importance and the same specificity are the same
  weight-same : (a b : Bool) (o : ℕ) (p q : Specificity) → a ≡ b → p ≡ q → ◌≡◌ {A = Weight} (record { important = a; origin = o; spec = p }) (record { important = b; origin = o; spec = q })
  weight-same a b o p q e f = rw (e, f)

  -- a style of a rule as a declaration
  pub rule-declared : (o : ℕ) (x : RuleStyle A) (y : RuleStyle B) → SameRule x y → SameDeclared (from_rule o x) (from_rule o y)
  unfolding from_rule
  rule-declared o x y h =
      record {
        pseudos = h.pseudos;
        slots = h.styles.slots;
        candidates = record { weights = weight-same x.style.important y.style.important o x.spec y.spec h.styles.importances h.specs; values = h.styles.values };
      }

  -- styles of attributes that are the same are declared the same
  pub attribute-declared : (i j : Bool) (p : Specificity) (x : AttributeStyle A) (y : AttributeStyle B) → i ≡ j → SameAttribute x y → SameDeclared (from_attribute i p x) (from_attribute j p y)
  unfolding from_attribute
  attribute-declared i j p x y e h =
      record { pseudos = refl; slots = h.styles.slots; candidates = record { weights = weight-same i j author_origin p p e refl; values = h.styles.values } }

  -- styles of rules that are the same, of one origin, are declared the same
  rules-declared : (o : ℕ) {xs : List (RuleStyle A)} {ys : List (RuleStyle B)} → Each SameRule xs ys → Each SameDeclared (map (from_rule o) xs) (map (from_rule o) ys)
  rules-declared o h = each_map SameRule SameDeclared (from_rule o) (from_rule o) (rule-declared o) h

  -- attributes that are the same declare the same colours
  colours-declared : {xs : List (AttributeStyle A)} {ys : List (AttributeStyle B)} → Each SameAttribute xs ys → Each SameDeclared (colour_attributes xs) (colour_attributes ys)
  unfolding colour_attributes
  colours-declared none = none
  colours-declared (next {a = x} {b = y} h hs) =
      each_append SameDeclared (pick_same (Each SameDeclared) x.is_style y.is_style [] _ [] _ h.kinds none (next (attribute-declared false false no_specificity x y refl h) none)) (colours-declared hs)

  -- attributes that are the same have the same `style` declarations
  styles-declared : {xs : List (AttributeStyle A)} {ys : List (AttributeStyle B)} → Each SameAttribute xs ys → Each SameDeclared (style_attributes xs) (style_attributes ys)
  unfolding style_attributes
  styles-declared none = none
  styles-declared (next {a = x} {b = y} h hs) =
      each_append SameDeclared
      (pick_same (Each SameDeclared) x.is_style y.is_style _ [] _ [] h.kinds (next (attribute-declared x.style.important y.style.important inline_specificity x y h.styles.importances h) none) none)
      (styles-declared hs)

  -- sources that are the same declare the same, in either cascade
  pub declared_same : (k : Cascade) (x : Sources A) (y : Sources B) → SameSources x y → Each SameDeclared (declared_by k x) (declared_by k y)
  unfolding declared_by crate_declared book_declared
  declared_same Crate x y h =
      each_append SameDeclared (rules-declared agent_origin h.agents)
      (each_append SameDeclared (rules-declared user_origin h.users)
      (each_append SameDeclared (rules-declared author_origin h.authors)
      (each_map SameAttribute SameDeclared (from_attribute false inline_specificity) (from_attribute false inline_specificity) (λ a b. attribute-declared false false inline_specificity a b refl) h.attributes)))
  declared_same Book x y h =
      each_append SameDeclared (rules-declared agent_origin h.agents)
      (each_append SameDeclared (rules-declared user_origin h.users)
      (each_append SameDeclared (colours-declared h.attributes)
      (each_append SameDeclared (rules-declared author_origin h.authors)
      (styles-declared h.attributes))))

  -- the style of a child
  pub cascade-same : (k : Cascade) (s : ComputedStyle A) (t : ComputedStyle B) (x : Sources A) (y : Sources B) → SameStyle R s t → SameSources x y
      → SameStyle R (cascade_by k s x) (cascade_by k t y)
  unfolding cascade_by
  cascade-same k s t x y h d =
      finish-same k (handed_by s) (handed_by t) _ _ (handed-same s t h) (merges-same k (declared_same k x y d) (inherit_by k s) (inherit_by k t) (inherit-same k s t h))
