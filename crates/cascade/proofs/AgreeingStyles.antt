-- Where both cascades leave the same in a slot of an element's style, and make the same records present: the declarations that they count are the same, and the
-- laws of proofs/Agreeing.antt hold of them. Assumes nothing.
use mathlib.Core.Path.{◌≡◌, refl, sym, ap, ap₂, subst, ◌∙◌}
use mathlib.Core.Bool.{Bool, true, false}
use mathlib.Core.List.{List, [], ◌∷◌, ◌++◌, map, foldl}
use mathlib.Core.Logic.{◌⊎◌, inl, inr}
use Prim.Native.Nat.{ℕ, ◌≤◌, ◌<◌}
use native.Mathlib.Omega.{arith}
use Rattle.combinators.specs.All.{All}
use Rattle.combinators.specs.Choice.{pick, or, and, is}
use Rattle.combinators.proofs.Rules.{never, pick_true, pick-false, pick-holds, or-false, or-none, or-gives, or_assoc, and_both, and_left, and_right, and-true, is-yes, is-no, is_true, neither, or-second}
use Rattle.combinators.proofs.AllLaws.{all_append, all_map, all_weaker, all_both, of-all}
use Rattle.syntax.specs.Style.{agent_origin, user_origin, author_origin}
use Rattle.cascade.specs.declared.specificity.Specificity.{Specificity}
use Rattle.cascade.specs.Specificity.{no_specificity, inline_specificity, LessSpecific}
use Rattle.cascade.specs.declared.slots.Cascade.{Cascade}
use Rattle.cascade.specs.declared.slots.Cascade.TheVariants.{Crate, Book}
use Rattle.cascade.specs.Slot.{Candidate, Slot, empty, held_against, maybe_update, book_update, update_by}
use Rattle.cascade.specs.Record.{slot_count, record_count, main_record, Record, ComputedStyle, Formed, record_in, slot_in, is_named, inherit, inherit_by, inherits, finish_by, declared_by, cascade_by, Declared, RuleStyle, AttributeStyle, Sources, from_rule, from_attribute, crate_declared, colour_attributes, style_attributes, book_declared, candidates_for, declares}
use Rattle.cascade.specs.Agreeing.{KnownOrigin, AllDecidedAlike, CountedAlike, declared_for, SaidAlike, NoneDeclared, Replaces, ReplacesAll, InheritedAlike, NotInherited, no_record, NormalAuthor, NotLessSpecific, AuthorDown, AgreesDown}
use Rattle.cascade.proofs.RowLaws.{Which, is_main, is_before, is_after, which}
use Rattle.cascade.proofs.Merging.{named}
use Rattle.cascade.proofs.Cascading.{in-main, crate-folds, cascade-main-present}
use Rattle.cascade.proofs.Defaulting.{takes, takes_none, takes-empty, takes-won, candidates-append, present-after, book-main-slot, book-present, book-pseudo-slot}
use Rattle.cascade.proofs.Agreeing.{Replaced, same-slot, slot-inherits, author-replaces, one-origin}

module _ {A : Type 0} where
  -- ---- declarations have one of the three origins
  abbrev KnownDeclared : Declared A → Type 0
  KnownDeclared d = KnownOrigin d.candidate.weight

  -- styles of rules declare with the origin of their sheet
  rule-known : (o : ℕ) → agent_origin ≤ o → o ≤ author_origin → (l : List _) → All KnownDeclared (map (from_rule o) l)
  unfolding from_rule
  rule-known o l h xs = all_map (λ _. Unit) KnownDeclared (from_rule o) (λ x _. record { least = l; most = h }) xs (of-all (λ _. Unit) (λ _. tt) xs)

  -- all declarations are the agent's, the user's or the author's
  declared_known : (x : Sources A) → All KnownDeclared (crate_declared x)
  unfolding crate_declared
  declared_known x =
      all_append KnownDeclared (map (from_rule agent_origin) x.agent) _ (rule-known agent_origin (omega arith) (omega arith) x.agent)
      (all_append KnownDeclared (map (from_rule user_origin) x.user) _ (rule-known user_origin (omega arith) (omega arith) x.user)
      (all_append KnownDeclared (map (from_rule author_origin) x.author) _ (rule-known author_origin (omega arith) (omega arith) x.author)
      (all_map (λ _. Unit) KnownDeclared (from_attribute false inline_specificity) (λ a _. unfold from_attribute in record { least = omega arith; most = omega arith }) x.attributes (of-all (λ _. Unit) (λ _. tt) x.attributes))))

  module _ (r k : ℕ) where
    -- what holds of declarations holds of those for a slot
    all-for : (P : Candidate A → Type 0) (ds : List (Declared A)) → All (λ d. P d.candidate) ds → All P (candidates_for r k ds)
    unfolding candidates_for
    all-for P [] h = tt
    all-for P (d ∷ ds) h = all_append P (pick (and (is d.pseudo r) (is d.slot k)) (d.candidate ∷ []) []) (candidates_for r k ds) (pick-holds (All P) (and (is d.pseudo r) (is d.slot k)) (d.candidate ∷ []) [] (λ _. (h.0, tt)) (λ _. tt)) (all-for P ds h.1)

    -- the declarations for a slot are the agent's, the user's or the author's
    pub known-origins : (x : Sources A) → All (λ c. KnownOrigin c.weight) (candidates_for r k (crate_declared x))
    known-origins x = all-for (λ c. KnownOrigin c.weight) (crate_declared x) (declared_known x)

    -- ---- the declarations for a slot that both count
    -- an attribute is for the slot
    abbrev is_for : AttributeStyle A → Bool
    is_for a = and (is main_record r) (is a.style.slot k)

    module _ (a : AttributeStyle A) where
      -- one that is not declares nothing for it
      not-for : (i : Bool) (p : Specificity) → is_for a ≡ false → candidates_for r k (from_attribute i p a ∷ []) ≡ []
      unfolding candidates_for from_attribute
      not-for i p e = ap (λ l. l ++ []) (sym (pick-false _ _ _ _ e refl))

      -- an attribute that is for the slot is so in the element's own record, with that slot
      for-says : is_for a ≡ true → (r ≡ main_record) × (a.style.slot ≡ k)
      for-says e = let w = and-true (is main_record r) (is a.style.slot k) e in (sym (is_true main_record r w.0), is_true a.style.slot k w.1)

      -- of no declarations none is for the slot
      no-declaration : candidates_for {A = A} r k [] ≡ []
      unfolding candidates_for
      no-declaration = refl

      module _ (h : CountedAlike r k a) where
        -- none is a colour attribute for the slot
        colour-none : candidates_for r k (pick a.is_style [] (from_attribute false no_specificity a ∷ [])) ≡ []
        colour-none = pick-holds (λ l. candidates_for r k l ≡ []) a.is_style [] _ (λ _. no-declaration) (λ e. go e (is_for a) refl)
          where
            go : a.is_style ≡ false → (t : Bool) → is_for a ≡ t → candidates_for r k (from_attribute false no_specificity a ∷ []) ≡ []
            go e true f = let w = for-says f in never (sym e ∙ (h w.0 w.1).0)
            go e false f = not-for false no_specificity f

        -- and a `style` attribute for it is not important
        style-same : candidates_for r k (pick a.is_style (from_attribute a.style.important inline_specificity a ∷ []) []) ≡ candidates_for r k (from_attribute false inline_specificity a ∷ [])
        style-same = go (is_for a) refl
          where
            go : (t : Bool) → is_for a ≡ t
                → candidates_for r k (pick a.is_style (from_attribute a.style.important inline_specificity a ∷ []) []) ≡ candidates_for r k (from_attribute false inline_specificity a ∷ [])
            go true f =
                let w = for-says f in
                let s = h w.0 w.1 in
                ap (candidates_for r k) (sym (pick_true _ _ _ _ s.0 refl) ∙ ap (λ i. from_attribute i inline_specificity a ∷ []) s.1)
            go false f =
                pick-holds (λ l. candidates_for r k l ≡ []) a.is_style _ [] (λ _. not-for a.style.important inline_specificity f) (λ _. no-declaration) ∙ sym (not-for false inline_specificity f)

    -- the colour attributes declare nothing for the slot, where all attributes count alike
    colours-none : (l : List (AttributeStyle A)) → All (CountedAlike r k) l → candidates_for r k (colour_attributes l) ≡ []
    unfolding colour_attributes candidates_for
    colours-none [] h = refl
    colours-none (a ∷ l) h = candidates-append r k (pick a.is_style [] (from_attribute false no_specificity a ∷ [])) (colour_attributes l) ∙ ap₂ (λ x y. x ++ y) (colour-none a h.0) (colours-none l h.1)

    -- the `style` attributes declare the same for the slot as all attributes do without importance, where all count alike
    styles-same : (l : List (AttributeStyle A)) → All (CountedAlike r k) l → candidates_for r k (style_attributes l) ≡ candidates_for r k (map (from_attribute false inline_specificity) l)
    unfolding style_attributes
    styles-same [] h = refl
    styles-same (a ∷ l) h =
        candidates-append r k (pick a.is_style (from_attribute a.style.important inline_specificity a ∷ []) []) (style_attributes l)
        ∙ ap₂ (λ x y. x ++ y) (style-same a h.0) (styles-same l h.1)
        ∙ sym (candidates-append r k (from_attribute false inline_specificity a ∷ []) (map (from_attribute false inline_specificity) l))

    -- where no attribute for a slot is a colour attribute or important, both cascades count the same declarations for it
    pub counted_same : (x : Sources A) → All (CountedAlike r k) x.attributes → candidates_for r k (crate_declared x) ≡ candidates_for r k (book_declared x)
    unfolding crate_declared book_declared
    counted_same x h =
        let a = map (from_rule agent_origin) x.agent in
        let u = map (from_rule user_origin) x.user in
        let w = map (from_rule author_origin) x.author in
        let m = map (from_attribute false inline_specificity) x.attributes in
        let c = colour_attributes x.attributes in
        let s = style_attributes x.attributes in
        candidates-append r k a (u ++ (w ++ m))
        ∙ ap (λ l. candidates_for r k a ++ l) (candidates-append r k u (w ++ m) ∙ ap (λ l. candidates_for r k u ++ l) (behind w m c s (styles-same x.attributes h) (colours-none x.attributes h)) ∙ sym (candidates-append r k u (c ++ (w ++ s))))
        ∙ sym (candidates-append r k a (u ++ (c ++ (w ++ s))))
      where
        behind : (w m c s : List (Declared A)) → candidates_for r k s ≡ candidates_for r k m → candidates_for r k c ≡ [] → candidates_for r k (w ++ m) ≡ candidates_for r k (c ++ (w ++ s))
        behind w m c s e f =
            candidates-append r k w m ∙ ap (λ l. candidates_for r k w ++ l) (sym e) ∙ sym (candidates-append r k w s)
            ∙ sym (candidates-append r k c (w ++ s) ∙ ap (λ l. l ++ candidates_for r k (w ++ s)) f)

  -- ---- which records are present
  module _ (r : ℕ) where
    -- some of two lists of declarations name the record exactly if some of either do
    declares-append : (ds es : List (Declared A)) → declares r (ds ++ es) ≡ or (declares r ds) (declares r es)
    unfolding declares or
    declares-append [] es = refl
    declares-append (d ∷ ds) es =
        ap (or (and (is_named d.pseudo d.slot) (is d.pseudo r))) (declares-append ds es) ∙ or_assoc (and (is_named d.pseudo d.slot) (is d.pseudo r)) (declares r ds) (declares r es)

    -- attributes declare for the element's own record alone
    module _ (other : ¬ (r ≡ main_record)) where
      -- an attribute in front adds no name of another record than the element's own
      own-record-only : (i : Bool) (p : Specificity) (a : AttributeStyle A) (ds : List (Declared A)) → declares r ds ≡ false → declares r (from_attribute i p a ∷ ds) ≡ false
      unfolding declares from_attribute
      own-record-only i p a ds e = or-none _ _ (and_right _ _ (is-no main_record r (λ z. other (sym z)))) e

      -- attributes name no other record than the element's own
      all_none : (i : Bool) (p : Specificity) (l : List (AttributeStyle A)) → declares r (map (from_attribute i p) l) ≡ false
      all_none i p [] = unfold declares in refl
      all_none i p (a ∷ l) = own-record-only i p a (map (from_attribute i p) l) (all_none i p l)

      -- colour attributes name no other record than the element's own
      colours-declare-none : (l : List (AttributeStyle A)) → declares r (colour_attributes l) ≡ false
      unfolding colour_attributes declares
      colours-declare-none [] = refl
      colours-declare-none (a ∷ l) =
          declares-append (pick a.is_style [] (from_attribute false no_specificity a ∷ [])) (colour_attributes l)
          ∙ or-none _ _ (pick-holds (λ (ds : List (Declared A)). declares r ds ≡ false) a.is_style [] _ (λ _. refl) (λ _. own-record-only false no_specificity a [] refl)) (colours-declare-none l)

      -- `style` attributes name no other record than the element's own
      styles-declare-none : (l : List (AttributeStyle A)) → declares r (style_attributes l) ≡ false
      unfolding style_attributes declares
      styles-declare-none [] = refl
      styles-declare-none (a ∷ l) =
          declares-append (pick a.is_style (from_attribute a.style.important inline_specificity a ∷ []) []) (style_attributes l)
          ∙ or-none _ _ (pick-holds (λ (ds : List (Declared A)). declares r ds ≡ false) a.is_style _ [] (λ _. own-record-only a.style.important inline_specificity a [] refl) (λ _. refl)) (styles-declare-none l)

      -- so both cascades name the same pseudo records
      declared-alike : (x : Sources A) → declares r (crate_declared x) ≡ declares r (book_declared x)
      unfolding crate_declared book_declared
      declared-alike x =
          let a = map (from_rule agent_origin) x.agent in
          let u = map (from_rule user_origin) x.user in
          let w = map (from_rule author_origin) x.author in
          let m = map (from_attribute false inline_specificity) x.attributes in
          let c = colour_attributes x.attributes in
          let s = style_attributes x.attributes in
          declares-append a (u ++ (w ++ m))
          ∙ ap (or (declares r a)) (declares-append u (w ++ m) ∙ ap (or (declares r u)) (behind w m c s (all_none false inline_specificity x.attributes) (colours-declare-none x.attributes) (styles-declare-none x.attributes)) ∙ sym (declares-append u (c ++ (w ++ s))))
          ∙ sym (declares-append a (u ++ (c ++ (w ++ s))))
        where
          behind : (w m c s : List (Declared A)) → declares r m ≡ false → declares r c ≡ false → declares r s ≡ false → declares r (w ++ m) ≡ declares r (c ++ (w ++ s))
          behind w m c s e f g =
              declares-append w m ∙ or-false _ _ e ∙ sym (declares-append c (w ++ s) ∙ sym (or-gives (declares r c) (declares r (w ++ s)) _ f refl) ∙ declares-append w s ∙ or-false _ _ g)

      -- in the crate's cascade a pseudo record is present if it is in the parent, or if something is declared for it
      pub crate-present : r < record_count → (p : ComputedStyle A) (x : Sources A) → (record_in (cascade_by Crate p x) r).present ≡ or (record_in p r).present (declares r (crate_declared x))
      unfolding cascade_by inherit_by declared_by finish_by
      crate-present h p x = present-after r h (update_by Crate) (crate_declared x) (inherit p) ∙ ap (λ (b : Bool). or b (declares r (crate_declared x))) (inherited (which r h))
        where
          inherited : Which r → (record_in (inherit p) r).present ≡ (record_in p r).present
          inherited (is_main e) = absurd (other e)
          inherited (is_before e) = rw e (unfold record_in inherit pick is in refl)
          inherited (is_after e) = rw e (unfold record_in inherit pick is in refl)

      -- both cascades make the same pseudo records present, where something is declared for them or the parent has them not
      pub same-presence : r < record_count → (p q : ComputedStyle A) (x : Sources A) → (declares r (crate_declared x) ≡ true) ⊎ ((record_in p r).present ≡ false)
          → (record_in (cascade_by Crate p x) r).present ≡ (record_in (cascade_by Book q x) r).present
      same-presence h p q x c = crate-present h p x ∙ own c ∙ declared-alike x ∙ sym (book-present q x r h other)
        where
          own : (declares r (crate_declared x) ≡ true) ⊎ ((record_in p r).present ≡ false) → or (record_in p r).present (declares r (crate_declared x)) ≡ declares r (crate_declared x)
          own (inl e) = or-second (record_in p r).present _ e ∙ sym e
          own (inr e) = sym (or-gives (record_in p r).present (declares r (crate_declared x)) _ e refl)

  -- the main record is present in both
  pub main-presence : (p q : ComputedStyle A) (x : Sources A) → (record_in (cascade_by Crate p x) main_record).present ≡ (record_in (cascade_by Book q x) main_record).present
  main-presence p q x = there Crate p ∙ sym (there Book q)
    where
      there : (c : Cascade) (s : ComputedStyle A) → (record_in (cascade_by c s x) main_record).present ≡ true
      there c s = ap (λ (m : Record A). m.present) (in-main (cascade_by c s x) main_record refl) ∙ cascade-main-present c s x

  -- ---- the slots of an element whose parent has p in the crate's cascade and q in the book order
  module _ (p q : ComputedStyle A) (x : Sources A) (fp : Formed p) (r k : ℕ) (h : r < record_count) (l : k < slot_count) (said : SaidAlike r k x) where
    -- what the declarations for a slot make of nothing is the same
    same-declared : foldl maybe_update empty (declared_for r k x) ≡ foldl book_update empty (candidates_for r k (book_declared x))
    same-declared = same-slot (declared_for r k x) (known-origins r k x) said.1 ∙ ap (foldl book_update empty) (counted_same r k x said.0)

    -- what the crate's cascade inherits makes no difference to the slot
    abbrev pub Unmoved : Type 0
    Unmoved = foldl maybe_update (slot_in p r k) (declared_for r k x) ≡ foldl maybe_update empty (declared_for r k x)

    -- it then leaves what the declarations make of nothing
    crate-leaves : Unmoved → slot_in (cascade_by Crate p x) r k ≡ foldl book_update empty (candidates_for r k (book_declared x))
    crate-leaves e = crate-folds p x r k fp h l ∙ e ∙ same-declared

    -- a main slot that inherits: where both parents have the same in it, and the declarations replace that, both leave the same
    pub inheriting-same : r ≡ main_record → inherits k ≡ true → slot_in p main_record k ≡ slot_in q main_record k → Replaced (declared_for r k x) (slot_in p r k)
        → slot_in (cascade_by Crate p x) r k ≡ slot_in (cascade_by Book q x) r k
    inheriting-same m i e a =
        crate-folds p x r k fp h l ∙ slot-inherits (slot_in p r k) (declared_for r k x) (known-origins r k x) said.1 a
        ∙ ap₂ (λ (s t : Slot A). takes s true t) (ap (foldl book_update empty) (counted_same r k x said.0) ∙ ap (λ (n : ℕ). foldl book_update empty (candidates_for n k (book_declared x))) m) (ap (λ (n : ℕ). slot_in p n k) m ∙ e)
        ∙ ap (λ (b : Bool). takes (foldl book_update empty (candidates_for main_record k (book_declared x))) b (slot_in q main_record k)) (sym i)
        ∙ sym (book-main-slot q x k l) ∙ ap (λ (n : ℕ). slot_in (cascade_by Book q x) n k) (sym m)

    -- a main slot that does not
    pub other-same : r ≡ main_record → inherits k ≡ false → Unmoved → slot_in (cascade_by Crate p x) r k ≡ slot_in (cascade_by Book q x) r k
    other-same m i e =
        crate-leaves e ∙ ap (λ (n : ℕ). foldl book_update empty (candidates_for n k (book_declared x))) m ∙ sym (takes_none (foldl book_update empty (candidates_for main_record k (book_declared x))) (slot_in q main_record k))
        ∙ ap (λ (b : Bool). takes (foldl book_update empty (candidates_for main_record k (book_declared x))) b (slot_in q main_record k)) (sym i)
        ∙ sym (book-main-slot q x k l) ∙ ap (λ (n : ℕ). slot_in (cascade_by Book q x) n k) (sym m)

    -- a slot of a pseudo record, where the book order does not fill it from the element's own: the record is absent, something is declared for the slot, or nothing is
    -- there to hand on
    pub pseudo-same : (n : ¬ (r ≡ main_record)) → Unmoved
        → (inherits k ≡ true → (declares r (crate_declared x) ≡ false) ⊎ (¬ (declared_for r k x ≡ []) ⊎ (slot_in (cascade_by Book q x) main_record k ≡ empty)))
        → slot_in (cascade_by Crate p x) r k ≡ slot_in (cascade_by Book q x) r k
    pseudo-same n e w = crate-leaves e ∙ sym (book-pseudo-slot q x r h n k l ∙ go (inherits k) refl)
      where
        own : Slot A
        own = foldl book_update empty (candidates_for r k (book_declared x))

        handed : Slot A
        handed = slot_in (cascade_by Book q x) main_record k

        present : Bool
        present = (record_in (cascade_by Book q x) r).present

        not_taken : and present (inherits k) ≡ false → takes own (and present (inherits k)) handed ≡ own
        not_taken f = ap (λ (b : Bool). takes own b handed) f ∙ takes_none own handed

        own-stays : (xs : List (Candidate A)) → ¬ (xs ≡ []) → (b : Bool) → takes (foldl book_update empty xs) b handed ≡ foldl book_update empty xs
        own-stays [] z b = absurd (z refl)
        own-stays (y ∷ ys) z b = takes-won y ys b handed

        by-reason : (declares r (crate_declared x) ≡ false) ⊎ (¬ (declared_for r k x ≡ []) ⊎ (handed ≡ empty)) → takes own (and present (inherits k)) handed ≡ own
        by-reason (inl f) = not_taken (and_left _ _ (book-present q x r h n ∙ sym (declared-alike r n x) ∙ f))
        by-reason (inr (inl z)) = own-stays (candidates_for r k (book_declared x)) (λ f. z (counted_same r k x said.0 ∙ f)) (and present (inherits k))
        by-reason (inr (inr f)) = ap (takes own (and present (inherits k))) f ∙ takes-empty own (and present (inherits k))

        go : (t : Bool) → inherits k ≡ t → takes own (and present (inherits k)) handed ≡ own
        go true f = by-reason (w f)
        go false f = not_taken (and_right _ _ f)

  -- ---- nothing is declared
  module _ (r k : ℕ) where
    -- of declarations that are for other slots none is for this one
    pub none-for : (ds : List (Declared A)) → All (λ d. ¬ ((d.pseudo ≡ r) × (d.slot ≡ k))) ds → candidates_for r k ds ≡ []
    unfolding candidates_for
    none-for [] n = refl
    none-for (d ∷ ds) n = ap₂ (λ (a b : List (Candidate A)). a ++ b) (pick-holds (λ (a : List (Candidate A)). a ≡ []) _ _ _ (λ e. absurd (n.0 (both e))) (λ _. refl)) (none-for ds n.1)
      where
        both : and (is d.pseudo r) (is d.slot k) ≡ true → (d.pseudo ≡ r) × (d.slot ≡ k)
        both e = let w = and-true _ _ e in (is_true d.pseudo r w.0, is_true d.slot k w.1)

    -- where nothing is declared for a record, nothing is for its slots
    pub undeclared : r < record_count → k < slot_count → (ds : List (Declared A)) → declares r ds ≡ false → candidates_for r k ds ≡ []
    undeclared h l ds e = none-for ds (others ds e)
      where
        others : (ds : List (Declared A)) → declares r ds ≡ false → All (λ d. ¬ ((d.pseudo ≡ r) × (d.slot ≡ k))) ds
        others [] e = tt
        others (d ∷ ds) e =
            let w = neither (and (is_named d.pseudo d.slot) (is d.pseudo r)) (declares r ds) (unfold declares in e) in
            ((λ z. never (sym w.0 ∙ and_both _ _ (rw (z.0, z.1) (named r k h l)) (is-yes d.pseudo r z.0))), others ds w.1)

    -- where nothing is declared for a slot down a path, it meets the condition for slots that inherit
    pub none-inherited : (xs : List (Sources A)) → All (λ z. All (CountedAlike r k) z.attributes) xs → NoneDeclared r k xs → InheritedAlike r k xs
    none-inherited [] c n = tt
    none-inherited (x ∷ above) c n = ((c.0, subst AllDecidedAlike (sym n.0) tt), (none_above above n.1, none-inherited above c.1 n.1))
      where
        none_above : (zs : List (Sources A)) → NoneDeclared r k zs → ReplacesAll r k x zs
        none_above zs m = all_weaker (λ z. declared_for r k z ≡ []) (λ z. All (Replaces r k x) (declared_for r k z)) (λ z e. subst (All (Replaces r k x)) (sym e) tt) zs m

  -- where no pseudo record is declared for, of the element or above it, the conditions on the main record are all
  pub main-alone : (x : Sources A) (above : List (Sources A)) → ((k : ℕ) → k < slot_count → inherits k ≡ true → InheritedAlike main_record k (x ∷ above))
      → ((k : ℕ) → k < slot_count → inherits k ≡ false → SaidAlike main_record k x × NotInherited main_record k x above)
      → ((r : ℕ) → r < record_count → ¬ (r ≡ main_record) → All (λ z. declares r (crate_declared z) ≡ false) (x ∷ above)) → AgreesDown x above
  main-alone x above i o n = record {
    inheriting = i;
    others = o;
    pseudo-records = λ r h z. inr (n r h z).1;
    pseudo-slots = λ r k h z l. (
      (of-all (CountedAlike r k) (λ a m. absurd (z m)) x.attributes, subst AllDecidedAlike (sym (undeclared r k h l (crate_declared x) (n r h z).0)) tt),
      inl (all_weaker (λ y. declares r (crate_declared y) ≡ false) (λ y. declared_for r k y ≡ []) (λ y e. undeclared r k h l (crate_declared y) e) above (n r h z).1),
    );
    pseudo-inheriting = λ r k h z l e. no_record (n r h z).0;
  }

  -- ---- down a path, sheets of the author alone without `!important`
  module _ (r k : ℕ) where
    -- what they declare is the author's and normal; `style` attributes are so in any case
    pub author-alone : (x : Sources A) → x.agent ≡ [] → x.user ≡ [] → All (λ s. s.style.important ≡ false) x.author → All (NormalAuthor r k) (declared_for r k x)
    author-alone x a u n = all-for r k (NormalAuthor r k) (crate_declared x) all
      where
        Normal : Declared A → Type 0
        Normal d = (d.candidate.weight.origin ≡ author_origin) × (d.candidate.weight.important ≡ false)

        none_of : (o : ℕ) (l : List (RuleStyle A)) → l ≡ [] → All Normal (map (from_rule o) l)
        none_of o l e = subst (λ m. All Normal (map (from_rule o) m)) (sym e) tt

        all : All Normal (crate_declared x)
        all =
            unfold crate_declared from_rule from_attribute in
            all_append Normal (map (from_rule agent_origin) x.agent) _ (none_of agent_origin x.agent a)
            (all_append Normal (map (from_rule user_origin) x.user) _ (none_of user_origin x.user u)
            (all_append Normal (map (from_rule author_origin) x.author) _ (all_map (λ s. s.style.important ≡ false) Normal (from_rule author_origin) (λ s e. (refl, e)) x.author n)
            (all_map (λ _. Unit) Normal (from_attribute false inline_specificity) (λ _ _. (refl, refl)) x.attributes (of-all (λ _. Unit) (λ _. tt) x.attributes))))

    -- on sheets of the author alone, what every element down the path declares is the author's and normal
    author-above : (xs : List (Sources A)) → AuthorDown r k xs → All (λ z. All (NormalAuthor r k) (declared_for r k z)) xs
    author-above [] h = tt
    author-above (x ∷ above) h = (h.1.0, author-above above h.1.1.1)

    -- a normal author declaration replaces a normal author one above it, where it is not less specific
    replaced : (x : Sources A) (c : Candidate A) → All (NormalAuthor r k) (declared_for r k x) → NormalAuthor r k c → NotLessSpecific r k x c → Replaces r k x c
    replaced x c a n l =
        all_both (NormalAuthor r k) (λ y. ¬ (LessSpecific y.weight.spec c.weight.spec)) (λ y. held_against c.weight y.weight ≡ false)
        (λ y p q. author-replaces c.weight y.weight n.0 n.1 p.0 p.1 q) (declared_for r k x) a l

    -- sheets of the author alone, without `!important`, meet the condition down a path, where specificities do not fall
    pub author-agrees : (xs : List (Sources A)) → AuthorDown r k xs → InheritedAlike r k xs
    author-agrees [] h = tt
    author-agrees (x ∷ above) h = (
      (h.0, one-origin (declared_for r k x) author_origin false h.1.0),
      (
        all_both (λ z. All (NormalAuthor r k) (declared_for r k z)) (λ z. All (NotLessSpecific r k x) (declared_for r k z)) (λ z. All (Replaces r k x) (declared_for r k z))
            (λ z a l. all_both (NormalAuthor r k) (NotLessSpecific r k x) (Replaces r k x) (λ c n m. replaced x c h.1.0 n m) (declared_for r k z) a l) above (author-above above h.1.1.1) h.1.1.0,
        author-agrees above h.1.1.1,
      ),
    )
