-- What the cascades make of a style: of each slot what its own candidates make of it.
-- Assumes nothing.
use mathlib.Core.Path.{◌≡◌, refl, sym, ap, ◌∙◌}
use mathlib.Core.Bool.{Bool, true, false}
use mathlib.Core.List.{List, [], ◌∷◌, foldl, foldl-append}
use mathlib.Core.Logic.{⊎_elim}
use Prim.Native.Nat.{ℕ, ◌<◌}
use native.Mathlib.Omega.{arith}
use lib.ListN.{length, get_or, length-set}
use lib.Seq.{get_or-set_same, get_or-set_other}
use Rattle.combinators.specs.Choice.{pick, or, and, is}
use Rattle.combinators.proofs.Rules.{pick_true, pick-false, pick-holds, or-false, and_both, and_left, and_right, is-yes, is-no, is_true, is_false, or-second, either_way}
use Rattle.cascade.specs.declared.slots.Cascade.{Cascade}
use Rattle.cascade.specs.declared.slots.Cascade.TheVariants.{Crate, Book}
use Rattle.cascade.specs.Slot.{Candidate, Slot, empty, maybe_update, book_update, update_by, fill_update}
use Rattle.cascade.specs.Record.{slot_count, record_count, main_record, before_record, after_record, Record, ComputedStyle, Formed, record_in, slot_of, slot_in, update_record, update_style, Declared, is_named, merge_by, inherit, inherit_by, Handed, handed_by, handed_on, fill_record, fill_pseudo, finish_by, Sources, empty_record, empty_style, crate_declared, declared_by, cascade_by, candidates_for}
use Rattle.cascade.proofs.RowLaws.{Which, is_main, is_before, is_after, which, update-main, update-before, update-after}
use Rattle.cascade.proofs.Merging.{named, named-says}

module _ {A : Type 0} where
  -- ---- records by their numbers
  module _ (s : ComputedStyle A) (r : ℕ) where
    -- the record of the element's own number is the main one
    pub in-main : r ≡ main_record → record_in s r ≡ s.main
    unfolding record_in
    in-main e = sym (pick_true _ _ _ _ (is-yes r main_record e) refl)

    -- the record of the number of `::before` is that one
    in-before : r ≡ before_record → record_in s r ≡ s.before
    unfolding record_in
    in-before e = sym (pick-false _ _ _ _ (is-no r main_record (λ z. omega arith)) (pick_true _ _ _ _ (is-yes r before_record e) refl))

    -- the record of the number of `::after` is that one
    in_after : r ≡ after_record → record_in s r ≡ s.after
    unfolding record_in
    in_after e = sym (pick-false _ _ _ _ (is-no r main_record (λ z. omega arith)) (pick-false _ _ _ _ (is-no r before_record (λ z. omega arith)) refl))

  -- the updated record, and the others
  module _ (k : ℕ) (u : Slot A → Slot A) (s : ComputedStyle A) where
    -- the record of an updated slot is that record with the slot updated
    own-record : (r : ℕ) → Which r → record_in (update_style r k u s) r ≡ update_record k u (record_in s r)
    own-record r (is_main e) = in-main (update_style r k u s) r e ∙ ap (λ (t : ComputedStyle A). t.main) (update-main r k u s e) ∙ ap (update_record k u) (sym (in-main s r e))
    own-record r (is_before e) = in-before (update_style r k u s) r e ∙ ap (λ (t : ComputedStyle A). t.before) (update-before r k u s e) ∙ ap (update_record k u) (sym (in-before s r e))
    own-record r (is_after e) = in_after (update_style r k u s) r e ∙ ap (λ (t : ComputedStyle A). t.after) (update-after r k u s e) ∙ ap (update_record k u) (sym (in_after s r e))

    -- every other record of the style stays
    pub other-record : (q r : ℕ) → Which q → Which r → ¬ (q ≡ r) → record_in (update_style q k u s) r ≡ record_in s r
    other-record q r (is_main e) (is_main f) n = absurd (n (e ∙ sym f))
    other-record q r (is_main e) (is_before f) n = in-before (update_style q k u s) r f ∙ ap (λ (t : ComputedStyle A). t.before) (update-main q k u s e) ∙ sym (in-before s r f)
    other-record q r (is_main e) (is_after f) n = in_after (update_style q k u s) r f ∙ ap (λ (t : ComputedStyle A). t.after) (update-main q k u s e) ∙ sym (in_after s r f)
    other-record q r (is_before e) (is_main f) n = in-main (update_style q k u s) r f ∙ ap (λ (t : ComputedStyle A). t.main) (update-before q k u s e) ∙ sym (in-main s r f)
    other-record q r (is_before e) (is_before f) n = absurd (n (e ∙ sym f))
    other-record q r (is_before e) (is_after f) n = in_after (update_style q k u s) r f ∙ ap (λ (t : ComputedStyle A). t.after) (update-before q k u s e) ∙ sym (in_after s r f)
    other-record q r (is_after e) (is_main f) n = in-main (update_style q k u s) r f ∙ ap (λ (t : ComputedStyle A). t.main) (update-after q k u s e) ∙ sym (in-main s r f)
    other-record q r (is_after e) (is_before f) n = in-before (update_style q k u s) r f ∙ ap (λ (t : ComputedStyle A). t.before) (update-after q k u s e) ∙ sym (in-before s r f)
    other-record q r (is_after e) (is_after f) n = absurd (n (e ∙ sym f))

  -- the updated slot, and the others of its record
  module _ (k : ℕ) (u : Slot A → Slot A) (p : Record A) where
    -- the slot that is updated is what the update makes of it
    own-slot : k < length p.slots → slot_of (update_record k u p) k ≡ u (slot_of p k)
    unfolding slot_of update_record
    own-slot h = get_or-set_same p.slots k (u (get_or p.slots k empty)) empty h

    -- every other slot of the record stays
    other-slot : (j : ℕ) → ¬ (j ≡ k) → slot_of (update_record k u p) j ≡ slot_of p j
    unfolding slot_of update_record
    other-slot j n = get_or-set_other p.slots k j (u (get_or p.slots k empty)) empty n

    -- the record has as many slots as before
    record-long : length (update_record k u p).slots ≡ length p.slots
    unfolding update_record slot_of
    record-long = length-set p.slots k (u (get_or p.slots k empty))

    -- an updated record is present
    now-present : (update_record k u p).present ≡ true
    unfolding update_record
    now-present = refl

  -- ---- one declaration, by any update of slots
  module _ (u : Slot A → Candidate A → Slot A) (s : ComputedStyle A) (d : Declared A) where
    abbrev v : Slot A → Slot A
    v x = u x d.candidate

    -- a declaration that names a slot updates it
    pub merge-named : is_named d.pseudo d.slot ≡ true → merge_by u s d ≡ update_style d.pseudo d.slot v s
    unfolding merge_by
    merge-named e = sym (pick_true _ _ _ _ e refl)

    -- a declaration that names none leaves the style
    pub merge-unnamed : is_named d.pseudo d.slot ≡ false → merge_by u s d ≡ s
    unfolding merge_by
    merge-unnamed e = sym (pick-false _ _ _ _ e refl)

    module _ (r : ℕ) (h : r < record_count) where
      -- what holds of a record, and of it with any slot updated, holds of it after the merge
      record-keeps : (P : Record A → Type 0) → P (record_in s r) → (P (update_record d.slot v (record_in s r))) → P (record_in (merge_by u s d) r)
      record-keeps P p q = ⊎_elim when-named (λ (e : is_named d.pseudo d.slot ≡ false). rw (merge-unnamed e) p) (either_way (is_named d.pseudo d.slot))
        where
          when-here : d.pseudo ≡ r → P (record_in (update_style d.pseudo d.slot v s) r)
          when-here f = rw f (rw (own-record d.slot v s r (which r h)) q)

          when-named : is_named d.pseudo d.slot ≡ true → P (record_in (merge_by u s d) r)
          when-named e =
              rw (merge-named e)
              (⊎_elim (λ (f : is d.pseudo r ≡ true). when-here (is_true d.pseudo r f))
              (λ (f : is d.pseudo r ≡ false). rw (other-record d.slot v s d.pseudo r (which d.pseudo (named-says d.pseudo d.slot e).0) (which r h) (is_false d.pseudo r f)) p)
              (either_way (is d.pseudo r)))

      -- a declaration makes the record present that it names, and no other
      pub merge-present : (record_in (merge_by u s d) r).present ≡ or (record_in s r).present (and (is_named d.pseudo d.slot) (is d.pseudo r))
      merge-present = go (is_named d.pseudo d.slot) (is d.pseudo r) refl refl
        where
          kept : record_in (merge_by u s d) r ≡ record_in s r → and (is_named d.pseudo d.slot) (is d.pseudo r) ≡ false
              → (record_in (merge_by u s d) r).present ≡ or (record_in s r).present (and (is_named d.pseudo d.slot) (is d.pseudo r))
          kept e n = ap (λ (p : Record A). p.present) e ∙ sym (or-false (record_in s r).present _ n)

          go : (a b : Bool) → is_named d.pseudo d.slot ≡ a → is d.pseudo r ≡ b
              → (record_in (merge_by u s d) r).present ≡ or (record_in s r).present (and (is_named d.pseudo d.slot) (is d.pseudo r))
          go false b e f = kept (ap (λ (t : ComputedStyle A). record_in t r) (merge-unnamed e)) (and_left _ _ e)
          go true false e f =
              kept (ap (λ (t : ComputedStyle A). record_in t r) (merge-named e) ∙ other-record d.slot v s d.pseudo r (which d.pseudo (named-says d.pseudo d.slot e).0) (which r h) (is_false d.pseudo r f))
              (and_right _ _ f)
          go true true e f =
              let g : d.pseudo ≡ r = is_true d.pseudo r f in
              ap (λ (t : ComputedStyle A). (record_in t r).present) (merge-named e)
              ∙ ap (λ (n : ℕ). (record_in (update_style n d.slot v s) r).present) g
              ∙ ap (λ (p : Record A). p.present) (own-record d.slot v s r (which r h))
              ∙ now-present d.slot v (record_in s r) ∙ sym (or-second (record_in s r).present _ (and_both _ _ e f))

      -- a record once present stays present
      pub stays-present : (record_in s r).present ≡ true → (record_in (merge_by u s d) r).present ≡ true
      stays-present e = record-keeps (λ (p : Record A). p.present ≡ true) e (now-present d.slot v (record_in s r))

      -- and keeps all its slots
      pub stays-formed : length (record_in s r).slots ≡ slot_count → length (record_in (merge_by u s d) r).slots ≡ slot_count
      stays-formed e = record-keeps (λ (p : Record A). length p.slots ≡ slot_count) e (record-long d.slot v (record_in s r) ∙ e)

      module _ (k : ℕ) where
        -- what does not name a slot leaves it alone
        pub leaves-alone : ¬ ((d.pseudo ≡ r) × (d.slot ≡ k)) → slot_in (merge_by u s d) r k ≡ slot_in s r k
        unfolding slot_in
        leaves-alone n = ⊎_elim when-named (λ (e : is_named d.pseudo d.slot ≡ false). rw (merge-unnamed e)) (either_way (is_named d.pseudo d.slot))
          where
            when-here : d.pseudo ≡ r → slot_of (record_in (update_style d.pseudo d.slot v s) r) k ≡ slot_of (record_in s r) k
            when-here f = rw f (rw (own-record d.slot v s r (which r h)) (other-slot d.slot v (record_in s r) k (λ g. n (f, sym g))))

            when-named : is_named d.pseudo d.slot ≡ true → slot_of (record_in (merge_by u s d) r) k ≡ slot_of (record_in s r) k
            when-named e =
                rw (merge-named e)
                (⊎_elim (λ (f : is d.pseudo r ≡ true). when-here (is_true d.pseudo r f))
                (λ (f : is d.pseudo r ≡ false). rw (other-record d.slot v s d.pseudo r (which d.pseudo (named-says d.pseudo d.slot e).0) (which r h) (is_false d.pseudo r f)))
                (either_way (is d.pseudo r)))

        -- what names it updates it
        pub updates : k < slot_count → length (record_in s r).slots ≡ slot_count → d.pseudo ≡ r → d.slot ≡ k → slot_in (merge_by u s d) r k ≡ u (slot_in s r k) d.candidate
        unfolding slot_in
        updates l f e g =
            ap (λ (t : ComputedStyle A). slot_of (record_in t r) k) (merge-named (rw (e, g) (named r k h l)))
            ∙ rw (e, g) (rw (own-record k v s r (which r h)) (own-slot k v (record_in s r) (omega (arith, f))))

  -- ---- many declarations
  -- a style whose record r has all its slots
  abbrev Whole : ComputedStyle A → ℕ → Type 0
  Whole s r = length (record_in s r).slots ≡ slot_count

  module _ (u : Slot A → Candidate A → Slot A) (r : ℕ) (h : r < record_count) where
    -- a record once present stays present
    pub stay-present : (ds : List (Declared A)) (s : ComputedStyle A) → (record_in s r).present ≡ true → (record_in (foldl (merge_by u) s ds) r).present ≡ true
    stay-present [] s e = e
    stay-present (d ∷ ds) s e = stay-present ds (merge_by u s d) (stays-present u s d r h e)

    module _ (k : ℕ) (l : k < slot_count) where
      -- one declaration leaves a slot as it is, or updated where it names that slot
      one-candidate : (d : Declared A) (s : ComputedStyle A) → Whole s r
          → slot_in (merge_by u s d) r k ≡ foldl u (slot_in s r k) (pick (and (is d.pseudo r) (is d.slot k)) (d.candidate ∷ []) [])
      one-candidate d s f = go (is d.pseudo r) (is d.slot k) refl refl
        where
          go : (a b : Bool) → is d.pseudo r ≡ a → is d.slot k ≡ b
              → slot_in (merge_by u s d) r k ≡ foldl u (slot_in s r k) (pick (and (is d.pseudo r) (is d.slot k)) (d.candidate ∷ []) [])
          go true true e g =
              updates u s d r h k l f (is_true d.pseudo r e) (is_true d.slot k g)
              ∙ ap (foldl u (slot_in s r k)) (pick_true (d.candidate ∷ []) _ _ _ (and_both _ _ e g) refl)
          go true false e g =
              leaves-alone u s d r h k (λ n. is_false d.slot k g n.1) ∙ ap (foldl u (slot_in s r k)) (pick-false [] _ _ _ (and_right _ _ g) refl)
          go false b e g =
              leaves-alone u s d r h k (λ n. is_false d.pseudo r e n.0) ∙ ap (foldl u (slot_in s r k)) (pick-false [] _ _ _ (and_left _ _ e) refl)

      -- a slot is what its own candidates make of it
      pub slot-folds : (ds : List (Declared A)) (s : ComputedStyle A) → Whole s r → slot_in (foldl (merge_by u) s ds) r k ≡ foldl u (slot_in s r k) (candidates_for r k ds)
      unfolding candidates_for
      slot-folds [] s f = refl
      slot-folds (d ∷ ds) s f =
          slot-folds ds (merge_by u s d) (stays-formed u s d r h f)
          ∙ ap (λ (t : Slot A). foldl u t (candidates_for r k ds)) (one-candidate d s f)
          ∙ sym (foldl-append u (slot_in s r k) (pick (and (is d.pseudo r) (is d.slot k)) (d.candidate ∷ []) []) (candidates_for r k ds))

  -- ---- what a child begins with
  -- every record of a formed style has all its slots
  pub formed-record : (s : ComputedStyle A) (r : ℕ) → Formed s → r < record_count → Whole s r
  formed-record s r f h = go (which r h)
    where
      go : Which r → Whole s r
      go (is_main e) = ap (λ (p : Record A). length p.slots) (in-main s r e) ∙ f.main
      go (is_before e) = ap (λ (p : Record A). length p.slots) (in-before s r e) ∙ f.before
      go (is_after e) = ap (λ (p : Record A). length p.slots) (in_after s r e) ∙ f.after

  -- in both orders records stay whole
  pub inherit-formed : (s : ComputedStyle A) → Formed s → Formed (inherit s)
  unfolding inherit
  inherit-formed s f = record { main = f.main; before = f.before; after = f.after }

  -- the style in which nothing is declared has all its slots
  pub empty-whole : Formed (empty_style {A = A})
  unfolding empty_style empty_record
  empty-whole = record { main = refl; before = refl; after = refl }

  -- so records are whole before any declaration, in either cascade
  pub inherit-by-formed : (c : Cascade) (s : ComputedStyle A) → Formed s → Formed (inherit_by c s)
  unfolding inherit_by
  inherit-by-formed Crate s f = inherit-formed s f
  inherit-by-formed Book s f = inherit-formed empty_style empty-whole

  -- ---- the update of a cascade, by its name
  -- the crate's cascade, by its name, updates a slot with all its candidates as the crate does
  by-crate : (xs : List (Candidate A)) (s : Slot A) → foldl (update_by Crate) s xs ≡ foldl maybe_update s xs
  by-crate [] s = refl
  by-crate (x ∷ xs) s = by-crate xs (update_by Crate s x) ∙ ap (λ (t : Slot A). foldl maybe_update t xs) (unfold update_by in refl)

  -- the update of the book order, by the name of that cascade
  pub by-book : (xs : List (Candidate A)) (s : Slot A) → foldl (update_by Book) s xs ≡ foldl book_update s xs
  by-book [] s = refl
  by-book (x ∷ xs) s = by-book xs (update_by Book s x) ∙ ap (λ (t : Slot A). foldl book_update t xs) (unfold update_by in refl)

  -- ---- what holds of every style that a cascade leaves
  -- all its records have all their slots
  pub merges-formed : (u : Slot A → Candidate A → Slot A) (ds : List (Declared A)) (s : ComputedStyle A) → Formed s → Formed (foldl (merge_by u) s ds)
  merges-formed u ds s f = formed (foldl (merge_by u) s ds) (λ r h. go ds s r h (formed-record s r f h))
    where
      go : (ds : List (Declared A)) (s : ComputedStyle A) (r : ℕ) → r < record_count → Whole s r → Whole (foldl (merge_by u) s ds) r
      go [] s r h e = e
      go (d ∷ ds) s r h e = go ds (merge_by u s d) r h (stays-formed u s d r h e)

      formed : (t : ComputedStyle A) → ((r : ℕ) → r < record_count → Whole t r) → Formed t
      formed t w = record {
        main = ap (λ (p : Record A). length p.slots) (sym (in-main t main_record refl)) ∙ w main_record (omega arith);
        before = ap (λ (p : Record A). length p.slots) (sym (in-before t before_record refl)) ∙ w before_record (omega arith);
        after = ap (λ (p : Record A). length p.slots) (sym (in_after t after_record refl)) ∙ w after_record (omega arith);
      }

  -- a style that ends with what it inherits has them too
  pub finish-formed : (c : Cascade) (h : Handed A) (s : ComputedStyle A) → Formed s → Formed (finish_by c h s)
  unfolding finish_by fill_pseudo fill_record
  finish-formed Crate h s f = f
  finish-formed Book h s f = pseudo after_record _ (pseudo before_record _ (merges-formed fill_update (handed_on main_record h) s f))
    where
      pseudo : (r : ℕ) (t : ComputedStyle A) → Formed t → Formed (pick (record_in t r).present (foldl (merge_by fill_update) t (handed_on r (handed_by t))) t)
      pseudo r t g = pick-holds Formed _ _ _ (λ _. merges-formed fill_update (handed_on r (handed_by t)) t g) (λ _. g)

  -- so those of a cascade do
  pub cascade-formed : (c : Cascade) (parent : ComputedStyle A) (x : Sources A) → Formed parent → Formed (cascade_by c parent x)
  unfolding cascade_by
  cascade-formed c parent x f = finish-formed c (handed_by parent) _ (merges-formed (update_by c) (declared_by c x) (inherit_by c parent) (inherit-by-formed c parent f))

  -- and its main record is present
  main-present : (u : Slot A → Candidate A → Slot A) (ds : List (Declared A)) (s : ComputedStyle A) → s.main.present ≡ true → (foldl (merge_by u) s ds).main.present ≡ true
  main-present u ds s e =
      ap (λ (p : Record A). p.present) (sym (in-main (foldl (merge_by u) s ds) main_record refl))
      ∙ stay-present u main_record (omega arith) ds s (ap (λ (p : Record A). p.present) (in-main s main_record refl) ∙ e)

  -- it stays so where what is inherited fills slots
  finish-present : (c : Cascade) (h : Handed A) (s : ComputedStyle A) → s.main.present ≡ true → (finish_by c h s).main.present ≡ true
  unfolding finish_by fill_pseudo fill_record
  finish-present Crate h s e = e
  finish-present Book h s e = pseudo after_record _ (pseudo before_record _ (main-present fill_update (handed_on main_record h) s e))
    where
      pseudo : (r : ℕ) (t : ComputedStyle A) → t.main.present ≡ true → (pick (record_in t r).present (foldl (merge_by fill_update) t (handed_on r (handed_by t))) t).main.present ≡ true
      pseudo r t g = pick-holds (λ (q : ComputedStyle A). q.main.present ≡ true) _ _ _ (λ _. main-present fill_update (handed_on r (handed_by t)) t g) (λ _. g)

  -- so it is in both cascades
  pub cascade-main-present : (c : Cascade) (parent : ComputedStyle A) (x : Sources A) → (cascade_by c parent x).main.present ≡ true
  unfolding cascade_by
  cascade-main-present c parent x = finish-present c (handed_by parent) _ (main-present (update_by c) (declared_by c x) (inherit_by c parent) (begins c))
    where
      begins : (c : Cascade) → (inherit_by c parent).main.present ≡ true
      begins Crate = unfold inherit_by inherit in refl
      begins Book = unfold inherit_by inherit in refl

  -- ---- the crate's cascade is the fold: each slot is what its candidates make, one after the other, of the parent's
  -- before its declarations a child has the slots of its parent, in the crate's cascade
  pub inherit-slot : (s : ComputedStyle A) (r k : ℕ) → r < record_count → slot_in (inherit s) r k ≡ slot_in s r k
  unfolding slot_in inherit slot_of
  inherit-slot s r k h = go (which r h)
    where
      go : Which r → get_or (record_in (inherit s) r).slots k empty ≡ get_or (record_in s r).slots k empty
      go (is_main e) = rw (in-main (inherit s) r e, in-main s r e)
      go (is_before e) = rw (in-before (inherit s) r e, in-before s r e)
      go (is_after e) = rw (in_after (inherit s) r e, in_after s r e)

  -- it is the fold of the crate's update over the candidates, and no order's maximum
  pub crate-folds : (parent : ComputedStyle A) (x : Sources A) (r k : ℕ) → Formed parent → r < record_count → k < slot_count
      → slot_in (cascade_by Crate parent x) r k ≡ foldl maybe_update (slot_in parent r k) (candidates_for r k (crate_declared x))
  unfolding cascade_by inherit_by declared_by finish_by
  crate-folds parent x r k f h l =
      slot-folds (update_by Crate) r h k l (crate_declared x) (inherit parent) (formed-record (inherit parent) r (inherit-formed parent f) h)
      ∙ by-crate (candidates_for r k (crate_declared x)) (slot_in (inherit parent) r k)
      ∙ ap (λ (t : Slot A). foldl maybe_update t (candidates_for r k (crate_declared x))) (inherit-slot parent r k h)
