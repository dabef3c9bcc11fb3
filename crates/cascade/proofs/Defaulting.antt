-- What the book order leaves of what is declared below a parent (CSS Cascading Level 3, sections 4 and 7): each slot is decided by the declarations for it; where
-- there are none, an inheriting slot takes its value from the parent's main record, or in a pseudo record from the element's own. Nothing else is so. Assumes nothing.
use mathlib.Core.Path.{◌≡◌, refl, sym, ap, ap₂, subst, ◌∙◌}
use mathlib.Core.Bool.{Bool, true, false}
use mathlib.Core.List.{List, [], ◌∷◌, ◌++◌, foldl, append_assoc, append-nil}
use Prim.Native.Nat.{ℕ, ◌<◌}
use native.Mathlib.Omega.{arith}
use lib.ListN.{length, get_or-replicate}
use lib.Seq.{ext_get_or}
use Rattle.combinators.specs.All.{All}
use Rattle.combinators.specs.Choice.{pick, or, and, is}
use Rattle.combinators.proofs.Rules.{never, pick_true, pick-false, pick-holds, or-false, or_assoc, or-gives, and_left, and-gives, is-yes, is-no, is_true, is_false}
use Rattle.combinators.proofs.AllLaws.{all_append, all_weaker}
use Rattle.syntax.specs.Layout.{colour_slot, white_space_slot, visibility_slot}
use Rattle.cascade.specs.declared.slots.Cascade.TheVariants.{Book}
use Rattle.cascade.specs.Slot.{Candidate, Slot, empty, held, book_update, update_by, fill_update, Winner, Specified, by-cascade, by-inheritance, by_default}
use Rattle.cascade.specs.Record.{slot_count, record_count, main_record, before_record, after_record, Record, ComputedStyle, Formed, record_in, slot_of, slot_in, empty_record, empty_style, Declared, is_named, merge_by, inherit, inherit_by, inherits, Handed, handed_by, handed_slot, handed_on, fill_record, fill_pseudo, finish_by, Sources, book_declared, declared_by, cascade_by, candidates_for, declares, BookDecides}
use Rattle.cascade.proofs.RowLaws.{Which, is_main, is_before, is_after, which}
use Rattle.cascade.proofs.Merging.{named-says}
use Rattle.cascade.proofs.Winners.{won, winner-once, winner-none}
use Rattle.cascade.proofs.Cascading.{in-main, other-record, merge-named, merge-unnamed, merge-present, stay-present, slot-folds, formed-record, inherit-formed, empty-whole, by-book, merges-formed, inherit-slot, cascade-main-present}

module _ {A : Type 0} where
  -- ---- a slot behind its declarations: what it holds stays, and an empty one takes what is handed on, if it inherits
  unfoldable pub takes : Slot A → Bool → Slot A → Slot A
  takes empty i p = pick i p empty
  takes (held c) i p = held c

  -- the same of equal slots
  takes_same : (s t : Slot A) (i j : Bool) (p q : Slot A) → s ≡ t → i ≡ j → p ≡ q → takes s i p ≡ takes t j q
  takes_same s t i j p q e f g = rw (e, f, g)

  -- where nothing is handed on the slot stays
  pub takes_none : (s p : Slot A) → takes s false p ≡ s
  unfolding takes pick
  takes_none empty p = refl
  takes_none (held c) p = refl

  -- nor does an empty slot fill another
  pub takes-empty : (s : Slot A) (i : Bool) → takes s i empty ≡ s
  unfolding takes pick
  takes-empty empty true = refl
  takes-empty empty false = refl
  takes-empty (held c) i = refl

  -- the candidates that a slot hands on
  unfoldable held_in : Slot A → List (Candidate A)
  held_in empty = []
  held_in (held c) = c ∷ []

  -- filling a slot with them is that
  fill-takes : (s : Slot A) (i : Bool) (p : Slot A) → foldl fill_update s (pick i (held_in p) []) ≡ takes s i p
  unfolding takes pick held_in fill_update
  fill-takes empty true empty = refl
  fill-takes empty true (held d) = refl
  fill-takes empty false p = refl
  fill-takes (held c) true empty = refl
  fill-takes (held c) true (held d) = refl
  fill-takes (held c) false p = refl

  -- where something is declared the slot holds it, and takes nothing
  pub takes-won : (x : Candidate A) (xs : List (Candidate A)) (i : Bool) (p : Slot A) → takes (foldl book_update empty (x ∷ xs)) i p ≡ foldl book_update empty (x ∷ xs)
  takes-won x xs i p = let w = won x xs in ap (λ (s : Slot A). takes s i p) w.holds ∙ (unfold takes in sym w.holds)

  -- the winner of what is declared, else what is handed on: the value that CSS Cascading specifies
  specified : (xs : List (Candidate A)) (i : Bool) (p : Slot A) → Specified (takes (foldl book_update empty xs) i p) i xs p
  specified [] true p = by-inheritance refl refl (unfold takes pick in refl)
  specified [] false p = by_default refl refl (unfold takes pick in refl)
  specified (x ∷ xs) i p = rw (takes-won x xs i p) (by-cascade (won x xs))

  -- ---- declarations for one record leave every other
  module _ (r : ℕ) (h : r < record_count) where
    -- one declaration
    merge-elsewhere : (u : Slot A → Candidate A → Slot A) (s : ComputedStyle A) (d : Declared A) → ¬ (d.pseudo ≡ r) → record_in (merge_by u s d) r ≡ record_in s r
    merge-elsewhere u s d n = go (is_named d.pseudo d.slot) refl
      where
        go : (t : Bool) → is_named d.pseudo d.slot ≡ t → record_in (merge_by u s d) r ≡ record_in s r
        go true e =
            ap (λ (t : ComputedStyle A). record_in t r) (merge-named u s d e)
            ∙ other-record d.slot (λ x. u x d.candidate) s d.pseudo r (which d.pseudo (named-says d.pseudo d.slot e).0) (which r h) n
        go false e = ap (λ (t : ComputedStyle A). record_in t r) (merge-unnamed u s d e)

    -- many
    folds-elsewhere : (u : Slot A → Candidate A → Slot A) (ds : List (Declared A)) (s : ComputedStyle A) → All (λ d. ¬ (d.pseudo ≡ r)) ds → record_in (foldl (merge_by u) s ds) r ≡ record_in s r
    folds-elsewhere u [] s n = refl
    folds-elsewhere u (d ∷ ds) s n = folds-elsewhere u ds (merge_by u s d) n.1 ∙ merge-elsewhere u s d n.0

  -- what is handed on to a record is for that record
  handed-slot-for : (q k : ℕ) (s : Slot A) → All (λ d. d.pseudo ≡ q) (handed_slot q k s)
  unfolding handed_slot
  handed-slot-for q k empty = tt
  handed-slot-for q k (held c) = (refl, tt)

  -- all slots of it
  handed-for : (q : ℕ) (h : Handed A) → All (λ d. d.pseudo ≡ q) (handed_on q h)
  unfolding handed_on
  handed-for q h =
      all_append _ (handed_slot q colour_slot h.colour) _ (handed-slot-for q colour_slot h.colour)
      (all_append _ (handed_slot q white_space_slot h.white_space) _ (handed-slot-for q white_space_slot h.white_space) (handed-slot-for q visibility_slot h.visibility))

  module _ (q r : ℕ) (h : r < record_count) (n : ¬ (q ≡ r)) where
    -- so filling a record leaves every other
    fill-elsewhere : (g : Handed A) (s : ComputedStyle A) → record_in (fill_record q g s) r ≡ record_in s r
    unfolding fill_record
    fill-elsewhere g s = folds-elsewhere r h fill_update (handed_on q g) s (all_weaker (λ d. d.pseudo ≡ q) (λ d. ¬ (d.pseudo ≡ r)) (λ d e f. n (sym e ∙ f)) (handed_on q g) (handed-for q g))

    -- and filling a pseudo record does
    pseudo-elsewhere : (s : ComputedStyle A) → record_in (fill_pseudo q s) r ≡ record_in s r
    unfolding fill_pseudo
    pseudo-elsewhere s = pick-holds (λ (t : ComputedStyle A). record_in t r ≡ record_in s r) _ _ _ (λ _. fill-elsewhere (handed_by s) s) (λ _. refl)

  -- ---- the candidates for a slot
  -- of two choices of a list by tests that do not both hold, one behind the other, there is the list once
  one-picked : (a b : Bool) (l : List (Candidate A)) → (a ≡ true → b ≡ false) → pick a l [] ++ pick b l [] ≡ pick (or a b) l []
  unfolding pick or
  one-picked true b l n = ap (λ (t : Bool). l ++ pick t l []) (n refl) ∙ append-nil l
  one-picked false b l n = refl

  module _ (r k : ℕ) where
    -- of declarations behind declarations, those for a slot are those of the first, then those of the second
    pub candidates-append : (ds es : List (Declared A)) → candidates_for r k (ds ++ es) ≡ candidates_for r k ds ++ candidates_for r k es
    unfolding candidates_for
    candidates-append [] es = refl
    candidates-append (d ∷ ds) es =
        ap (λ l. pick (and (is d.pseudo r) (is d.slot k)) (d.candidate ∷ []) [] ++ l) (candidates-append ds es)
        ∙ sym (append_assoc (pick (and (is d.pseudo r) (is d.slot k)) (d.candidate ∷ []) []) (candidates_for r k ds) (candidates_for r k es))

    -- what one slot hands on is for the slot of that number
    slot-candidates : (j : ℕ) (s : Slot A) → candidates_for r k (handed_slot r j s) ≡ pick (is j k) (held_in s) []
    unfolding handed_slot candidates_for held_in
    slot-candidates j empty = pick-holds (λ (l : List (Candidate A)). [] ≡ l) (is j k) [] [] (λ _. refl) (λ _. refl)
    slot-candidates j (held c) = go (is j k) refl
      where
        go : (t : Bool) → is j k ≡ t → pick (and (is r r) (is j k)) (c ∷ []) [] ++ [] ≡ pick (is j k) (c ∷ []) []
        go true e = ap (λ (l : List (Candidate A)). l ++ []) (sym (pick_true (c ∷ []) _ _ _ (sym (and-gives _ _ _ (is-yes r r refl) (sym e))) refl)) ∙ pick_true (c ∷ []) _ _ _ e refl
        go false e = ap (λ (l : List (Candidate A)). l ++ []) (sym (pick-false [] _ _ _ (sym (and-gives _ _ _ (is-yes r r refl) (sym e))) refl)) ∙ pick-false [] _ _ _ e refl

    -- so what slot j of a main record hands on is for slot k only where that is slot j, and is then what slot k of it holds
    own-candidates : (s : ComputedStyle A) (j : ℕ) → candidates_for r k (handed_slot r j (slot_in s main_record j)) ≡ pick (is k j) (held_in (slot_in s main_record k)) []
    own-candidates s j = slot-candidates j (slot_in s main_record j) ∙ go (is k j) refl
      where
        go : (t : Bool) → is k j ≡ t → pick (is j k) (held_in (slot_in s main_record j)) [] ≡ pick (is k j) (held_in (slot_in s main_record k)) []
        go true e = rw (is_true k j e)
        go false e = sym (pick-false [] _ _ _ (is-no j k (λ z. is_false k j e (sym z))) refl) ∙ pick-false [] _ _ _ e refl

    -- what is handed on to a record is for its inheriting slots, from the slots of their numbers
    handed-candidates : (s : ComputedStyle A) → candidates_for r k (handed_on r (handed_by s)) ≡ pick (inherits k) (held_in (slot_in s main_record k)) []
    unfolding handed_on handed_by inherits
    handed-candidates s =
        both (handed_from colour_slot) _ _ _ (own-candidates s colour_slot)
        (both (handed_from white_space_slot) _ _ _ (own-candidates s white_space_slot) (own-candidates s visibility_slot) (λ e. rw (is_true k white_space_slot e) (unfold is in refl)))
        (λ e. rw (is_true k colour_slot e) (unfold or is in refl))
      where
        handed_from : ℕ → List (Declared A)
        handed_from j = handed_slot r j (slot_in s main_record j)

        own : List (Candidate A)
        own = held_in (slot_in s main_record k)

        -- of two lists, where at most one has candidates for the slot
        both : (ds es : List (Declared A)) (a b : Bool) → candidates_for r k ds ≡ pick a own [] → candidates_for r k es ≡ pick b own [] → (a ≡ true → b ≡ false) → candidates_for r k (ds ++ es) ≡ pick (or a b) own []
        both ds es a b e f n = candidates-append ds es ∙ ap₂ (λ (l m : List (Candidate A)). l ++ m) e f ∙ one-picked a b own n

  -- ---- a record filled
  module _ (r k : ℕ) (h : r < record_count) (l : k < slot_count) (s : ComputedStyle A) (f : Formed s) where
    -- from the main record of a style
    fill-slot : (p : ComputedStyle A) → slot_in (fill_record r (handed_by p) s) r k ≡ takes (slot_in s r k) (inherits k) (slot_in p main_record k)
    unfolding fill_record
    fill-slot p =
        slot-folds fill_update r h k l (handed_on r (handed_by p)) s (formed-record s r f h)
        ∙ ap (foldl fill_update (slot_in s r k)) (handed-candidates r k p) ∙ fill-takes (slot_in s r k) (inherits k) (slot_in p main_record k)

    -- a pseudo record, where it is present, from the element's own
    pseudo-slot : slot_in (fill_pseudo r s) r k ≡ takes (slot_in s r k) (and (record_in s r).present (inherits k)) (slot_in s main_record k)
    unfolding fill_pseudo
    pseudo-slot = go (record_in s r).present refl
      where
        go : (t : Bool) → (record_in s r).present ≡ t
            → slot_in (pick (record_in s r).present (fill_record r (handed_by s) s) s) r k ≡ takes (slot_in s r k) (and (record_in s r).present (inherits k)) (slot_in s main_record k)
        go true e =
            ap (λ (t : ComputedStyle A). slot_in t r k) (sym (pick_true _ _ _ _ e refl)) ∙ fill-slot s
            ∙ ap (λ (i : Bool). takes (slot_in s r k) i (slot_in s main_record k)) (and-gives (record_in s r).present (inherits k) _ e refl)
        go false e =
            ap (λ (t : ComputedStyle A). slot_in t r k) (sym (pick-false _ _ _ _ e refl)) ∙ sym (takes_none (slot_in s r k) (slot_in s main_record k))
            ∙ ap (λ (i : Bool). takes (slot_in s r k) i (slot_in s main_record k)) (sym (and_left (record_in s r).present (inherits k) e))

  -- filling a pseudo record makes none present
  pseudo-present : (r : ℕ) → r < record_count → (s : ComputedStyle A) → (record_in (fill_pseudo r s) r).present ≡ (record_in s r).present
  unfolding fill_pseudo fill_record
  pseudo-present r h s =
      pick-holds (λ (t : ComputedStyle A). (record_in t r).present ≡ (record_in s r).present) _ _ _ (λ e. stay-present fill_update r h (handed_on r (handed_by s)) s e ∙ sym e) (λ _. refl)

  -- filling a pseudo record leaves all records whole
  pseudo-formed : (r : ℕ) (s : ComputedStyle A) → Formed s → Formed (fill_pseudo r s)
  unfolding fill_pseudo fill_record
  pseudo-formed r s f = pick-holds Formed _ _ _ (λ _. merges-formed fill_update (handed_on r (handed_by s)) s f) (λ _. f)

  -- ---- what an element ends with, behind its declarations
  module _ (parent t : ComputedStyle A) (f : Formed t) where
    -- the main record filled, then that of `::before`, then that of `::after`
    abbrev m : ComputedStyle A
    m = fill_record main_record (handed_by parent) t

    abbrev b : ComputedStyle A
    b = fill_pseudo before_record m

    abbrev a : ComputedStyle A
    a = fill_pseudo after_record b

    -- the records are whole with the main one filled
    m-formed : Formed m
    m-formed = unfold fill_record in merges-formed fill_update (handed_on main_record (handed_by parent)) t f

    -- also with the record of `::before` filled
    b-formed : Formed b
    b-formed = pseudo-formed before_record m m-formed

    -- the main record is not touched again
    main-kept : record_in a main_record ≡ record_in m main_record
    main-kept = pseudo-elsewhere after_record main_record (omega arith) (λ z. absurd (omega arith)) b ∙ pseudo-elsewhere before_record main_record (omega arith) (λ z. absurd (omega arith)) m

    -- that of `::before` is as declared when the main one is filled
    before-begins : record_in m before_record ≡ record_in t before_record
    before-begins = fill-elsewhere main_record before_record (omega arith) (λ z. absurd (omega arith)) (handed_by parent) t

    -- and not touched again once it is filled itself
    before-kept : record_in a before_record ≡ record_in b before_record
    before-kept = pseudo-elsewhere after_record before_record (omega arith) (λ z. absurd (omega arith)) b

    -- that of `::after` is as declared when those two are filled
    after-begins : record_in b after_record ≡ record_in t after_record
    after-begins = pseudo-elsewhere before_record after_record (omega arith) (λ z. absurd (omega arith)) m ∙ fill-elsewhere main_record after_record (omega arith) (λ z. absurd (omega arith)) (handed_by parent) t

    -- a pseudo record is present where it was
    end-present : (r : ℕ) → Which r → ¬ (r ≡ main_record) → (record_in a r).present ≡ (record_in t r).present
    end-present r (is_main e) n = absurd (n e)
    end-present r (is_before e) n = rw e (ap (λ (p : Record A). p.present) before-kept ∙ pseudo-present before_record (omega arith) m ∙ ap (λ (p : Record A). p.present) before-begins)
    end-present r (is_after e) n = rw e (pseudo-present after_record (omega arith) b ∙ ap (λ (p : Record A). p.present) after-begins)

    module _ (k : ℕ) (l : k < slot_count) where
      -- a slot of equal records
      slots_same : (s u : ComputedStyle A) (r : ℕ) → record_in s r ≡ record_in u r → slot_in s r k ≡ slot_in u r k
      unfolding slot_in
      slots_same s u r e = ap (λ (p : Record A). slot_of p k) e

      -- a slot of the main record
      end-main : slot_in a main_record k ≡ takes (slot_in t main_record k) (inherits k) (slot_in parent main_record k)
      end-main = slots_same a m main_record main-kept ∙ fill-slot main_record k (omega arith) l t f parent

      -- a slot of a pseudo record
      end-pseudo : (r : ℕ) → Which r → ¬ (r ≡ main_record) → slot_in a r k ≡ takes (slot_in t r k) (and (record_in t r).present (inherits k)) (slot_in a main_record k)
      end-pseudo r (is_main e) n = absurd (n e)
      end-pseudo r (is_before e) n =
          rw e
          (slots_same a b before_record before-kept ∙ pseudo-slot before_record k (omega arith) l m m-formed
          ∙ takes_same _ _ _ _ _ _ (slots_same m t before_record before-begins) (ap (λ (p : Record A). and p.present (inherits k)) before-begins) (slots_same m a main_record (sym main-kept)))
      end-pseudo r (is_after e) n =
          rw e
          (pseudo-slot after_record k (omega arith) l b b-formed
          ∙ takes_same _ _ _ _ _ _ (slots_same b t after_record after-begins) (ap (λ (p : Record A). and p.present (inherits k)) after-begins)
          (slots_same b a main_record (sym (pseudo-elsewhere after_record main_record (omega arith) (λ z. absurd (omega arith)) b))))

  -- ---- which records are present
  -- by any update of slots, a record is present if it was or if a declaration names it
  pub present-after : (r : ℕ) → r < record_count → (u : Slot A → Candidate A → Slot A) (ds : List (Declared A)) (s : ComputedStyle A)
      → (record_in (foldl (merge_by u) s ds) r).present ≡ or (record_in s r).present (declares r ds)
  unfolding declares
  present-after r h u [] s = sym (or-false (record_in s r).present false refl)
  present-after r h u (d ∷ ds) s =
      present-after r h u ds (merge_by u s d) ∙ ap (λ b. or b (declares r ds)) (merge-present u s d r h)
      ∙ sym (or_assoc (record_in s r).present (and (is_named d.pseudo d.slot) (is d.pseudo r)) (declares r ds))

  -- ---- what an element begins with in the book order
  -- nothing is declared in the empty style
  pub empty-slot : (r k : ℕ) → k < slot_count → slot_in (empty_style {A = A}) r k ≡ empty
  unfolding slot_in record_in empty_style
  empty-slot r k l = pick-holds Nothing (is r main_record) empty_record _ (λ _. nothing-there) (λ _. pick-holds Nothing (is r before_record) empty_record empty_record (λ _. nothing-there) (λ _. nothing-there))
    where
      Nothing : Record A → Type 0
      Nothing p = slot_of p k ≡ empty

      nothing-there : slot_of (empty_record {A = A}) k ≡ empty
      nothing-there = unfold slot_of empty_record in get_or-replicate slot_count k empty empty l

  -- ---- the style of a child in the book order
  module _ (parent : ComputedStyle A) (x : Sources A) where
    -- what its declarations make of nothing
    abbrev merged : ComputedStyle A
    merged = foldl (merge_by (update_by Book)) (inherit empty_style) (book_declared x)

    -- all its records are whole
    merged-formed : Formed merged
    merged-formed = merges-formed (update_by Book) (book_declared x) (inherit empty_style) (inherit-formed empty_style empty-whole)

    -- in each slot that is what the declarations for it make of nothing
    merged-slot : (r k : ℕ) → r < record_count → k < slot_count → slot_in merged r k ≡ foldl book_update empty (candidates_for r k (book_declared x))
    merged-slot r k h l =
        slot-folds (update_by Book) r h k l (book_declared x) (inherit empty_style) (formed-record (inherit empty_style) r (inherit-formed empty_style empty-whole) h)
        ∙ by-book (candidates_for r k (book_declared x)) (slot_in (inherit empty_style) r k)
        ∙ ap (λ (s : Slot A). foldl book_update s (candidates_for r k (book_declared x))) (inherit-slot empty_style r k h ∙ empty-slot r k l)

    -- no pseudo record is present before anything is declared
    begins-absent : (r : ℕ) → Which r → ¬ (r ≡ main_record) → (record_in (inherit (empty_style {A = A})) r).present ≡ false
    begins-absent r (is_main e) n = absurd (n e)
    begins-absent r (is_before e) n = rw e (unfold record_in inherit empty_style empty_record pick is in refl)
    begins-absent r (is_after e) n = rw e (unfold record_in inherit empty_style empty_record pick is in refl)

    -- a slot of the main record: what is declared for it, else what the parent's main record hands on
    pub book-main-slot : (k : ℕ) → k < slot_count
        → slot_in (cascade_by Book parent x) main_record k ≡ takes (foldl book_update empty (candidates_for main_record k (book_declared x))) (inherits k) (slot_in parent main_record k)
    unfolding cascade_by finish_by inherit_by declared_by
    book-main-slot k l = end-main parent merged merged-formed k l ∙ ap (λ (s : Slot A). takes s (inherits k) (slot_in parent main_record k)) (merged-slot main_record k (omega arith) l)

    module _ (r : ℕ) (h : r < record_count) (n : ¬ (r ≡ main_record)) where
      -- a pseudo record is present exactly if something is declared for it
      pub book-present : (record_in (cascade_by Book parent x) r).present ≡ declares r (book_declared x)
      unfolding cascade_by finish_by inherit_by declared_by
      book-present =
          end-present parent merged merged-formed r (which r h) n ∙ present-after r h (update_by Book) (book_declared x) (inherit empty_style)
          ∙ sym (or-gives _ _ _ (begins-absent r (which r h) n) refl)

      -- a slot of it: what is declared for it, else, where the record is present, what the element's own main record hands on
      pub book-pseudo-slot : (k : ℕ) → k < slot_count
          → slot_in (cascade_by Book parent x) r k
          ≡ takes (foldl book_update empty (candidates_for r k (book_declared x))) (and (record_in (cascade_by Book parent x) r).present (inherits k)) (slot_in (cascade_by Book parent x) main_record k)
      unfolding cascade_by finish_by inherit_by declared_by
      book-pseudo-slot k l =
          end-pseudo parent merged merged-formed k l r (which r h) n
          ∙ takes_same _ _ _ _ _ _ (merged-slot r k h l) (ap (λ (i : Bool). and i (inherits k)) (sym (end-present parent merged merged-formed r (which r h) n))) refl

    -- the book order leaves what CSS Cascading specifies
    pub book-decides : BookDecides parent (cascade_by Book parent x) (book_declared x)
    book-decides = record { main = main-slot; main-present = cascade-main-present Book parent x; present = book-present; pseudo = pseudo-record-slot }
      where
        main-slot : (k : ℕ) → k < slot_count → Specified (slot_in (cascade_by Book parent x) main_record k) (inherits k) (candidates_for main_record k (book_declared x)) (slot_in parent main_record k)
        main-slot k l = rw (book-main-slot k l) (specified (candidates_for main_record k (book_declared x)) (inherits k) (slot_in parent main_record k))

        pseudo-record-slot : (r k : ℕ) → r < record_count → ¬ (r ≡ main_record) → k < slot_count
            → Specified (slot_in (cascade_by Book parent x) r k) (and (record_in (cascade_by Book parent x) r).present (inherits k)) (candidates_for r k (book_declared x)) (slot_in (cascade_by Book parent x) main_record k)
        pseudo-record-slot r k h n l =
            rw (book-pseudo-slot r h n k l)
            (specified (candidates_for r k (book_declared x)) (and (record_in (cascade_by Book parent x) r).present (inherits k)) (slot_in (cascade_by Book parent x) main_record k))

  -- ---- styles slot by slot
  -- two records are the same where both or neither is present and each slot is the same
  record_same : (p q : Record A) → length p.slots ≡ slot_count → length q.slots ≡ slot_count → p.present ≡ q.present → ((k : ℕ) → k < slot_count → slot_of p k ≡ slot_of q k) → p ≡ q
  unfolding slot_of
  record_same p q f g e s = ap₂ (λ (b : Bool) (l : List (Slot A)). record { present = b; slots = l }) e (ext_get_or empty p.slots q.slots (f ∙ sym g) (λ k l. s k (omega (arith, f))))

  -- two styles are the same where their records are present alike and each slot is the same
  pub same-by-slots : (s t : ComputedStyle A) → Formed s → Formed t → ((r : ℕ) → r < record_count → (record_in s r).present ≡ (record_in t r).present)
      → ((r k : ℕ) → r < record_count → k < slot_count → slot_in s r k ≡ slot_in t r k) → s ≡ t
  unfolding slot_in record_in pick is
  same-by-slots s t f g e v =
      by-records (record_same s.main t.main f.main g.main (e main_record (omega arith)) (λ k l. v main_record k (omega arith) l))
      (record_same s.before t.before f.before g.before (e before_record (omega arith)) (λ k l. v before_record k (omega arith) l))
      (record_same s.after t.after f.after g.after (e after_record (omega arith)) (λ k l. v after_record k (omega arith) l))
    where
      by-records : s.main ≡ t.main → s.before ≡ t.before → s.after ≡ t.after → s ≡ t
      by-records a b c = ap₂ (λ (m : Record A) (n : Record A). record { main = m; before = n; after = s.after }) a b ∙ ap (λ (n : Record A). record { main = t.main; before = t.before; after = n }) c

  -- ---- nothing else is what CSS Cascading specifies
  -- a slot has one value only that is specified
  specified-once : (s t : Slot A) (i : Bool) (xs : List (Candidate A)) (p : Slot A) → Specified s i xs p → Specified t i xs p → s ≡ t
  specified-once s t i xs p (by-cascade v) (by-cascade w) = v.holds ∙ ap held (winner-once xs v.candidate w.candidate v.wins w.wins).1 ∙ sym w.holds
  specified-once s t i xs p (by-cascade v) (by-inheritance n e f) = absurd (winner-none v.candidate (subst (Winner v.candidate) n v.wins))
  specified-once s t i xs p (by-cascade v) (by_default n e f) = absurd (winner-none v.candidate (subst (Winner v.candidate) n v.wins))
  specified-once s t i xs p (by-inheritance m d f) (by-cascade w) = absurd (winner-none w.candidate (subst (Winner w.candidate) m w.wins))
  specified-once s t i xs p (by-inheritance m d f) (by-inheritance n e g) = f ∙ sym g
  specified-once s t i xs p (by-inheritance m d f) (by_default n e g) = never (sym e ∙ d)
  specified-once s t i xs p (by_default m d f) (by-cascade w) = absurd (winner-none w.candidate (subst (Winner w.candidate) m w.wins))
  specified-once s t i xs p (by_default m d f) (by-inheritance n e g) = never (sym d ∙ e)
  specified-once s t i xs p (by_default m d f) (by_default n e g) = f ∙ sym g

  -- so of what is declared below a parent there is one style only
  pub decided-once : (parent s t : ComputedStyle A) (ds : List (Declared A)) → Formed s → Formed t → BookDecides parent s ds → BookDecides parent t ds → s ≡ t
  decided-once parent s t ds f g a b = same-by-slots s t f g presence slots
    where
      main : (k : ℕ) → k < slot_count → slot_in s main_record k ≡ slot_in t main_record k
      main k l = specified-once _ _ (inherits k) (candidates_for main_record k ds) (slot_in parent main_record k) (a.main k l) (b.main k l)

      main-there : (u : ComputedStyle A) → u.main.present ≡ true → (record_in u main_record).present ≡ true
      main-there u e = ap (λ (p : Record A). p.present) (in-main u main_record refl) ∙ e

      presence : (r : ℕ) → r < record_count → (record_in s r).present ≡ (record_in t r).present
      presence r h = go (is r main_record) refl
        where
          go : (z : Bool) → is r main_record ≡ z → (record_in s r).present ≡ (record_in t r).present
          go true e = rw (is_true r main_record e) (main-there s a.main-present ∙ sym (main-there t b.main-present))
          go false e = let n = is_false r main_record e in a.present r h n ∙ sym (b.present r h n)

      slots : (r k : ℕ) → r < record_count → k < slot_count → slot_in s r k ≡ slot_in t r k
      slots r k h l = go (is r main_record) refl
        where
          same_kind : ¬ (r ≡ main_record) → Specified (slot_in t r k) (and (record_in s r).present (inherits k)) (candidates_for r k ds) (slot_in s main_record k)
          same_kind n = rw (presence r h, main k l) (b.pseudo r k h n l)

          go : (z : Bool) → is r main_record ≡ z → slot_in s r k ≡ slot_in t r k
          go true e = rw (is_true r main_record e) (main k l)
          go false e =
              let n = is_false r main_record e in
              specified-once _ _ (and (record_in s r).present (inherits k)) (candidates_for r k ds) (slot_in s main_record k) (a.pseudo r k h n l) (same_kind n)
