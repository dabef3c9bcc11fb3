-- Where the crate's cascade is the book's: two declarations are decided alike exactly if the condition of specs/Agreeing.antt holds, and where it holds of every two
-- for a slot, and they replace what the slot inherits, both cascades leave the same in it. Assumes nothing.
use mathlib.Core.Path.{◌≡◌, refl, sym, ap, ◌∙◌}
use mathlib.Core.Bool.{Bool, true, false}
use mathlib.Core.List.{List, [], ◌∷◌, foldl}
use mathlib.Core.Logic.{◌⊎◌, inl, inr, ⊎_elim}
use Prim.Native.Nat.{ℕ, ◌+◌, ◌≤◌, ◌<◌}
use native.Mathlib.Omega.{arith}
use borrow.Author.Tests.{lt-ltb, ltb-true}
use lib.Dec.{ltb}
use Rattle.combinators.specs.All.{All}
use Rattle.combinators.specs.Choice.{pick, is}
use Rattle.combinators.proofs.Rules.{never, pick_true, pick-false, pick-holds, either, or_left, is_true, is_false, same_test, lt-or-ge, or-second, Exactly}
use Rattle.combinators.proofs.AllLaws.{all_weaker, all_both}
use Rattle.syntax.specs.Style.{agent_origin, user_origin, author_origin}
use Rattle.cascade.specs.declared.specificity.Specificity.{Specificity}
use Rattle.cascade.specs.declared.slots.Weight.{Weight}
use Rattle.cascade.specs.Specificity.{LessSpecific, by-inline, by-id, by-class, by-type}
use Rattle.cascade.specs.Slot.{Candidate, Slot, empty, held, held_by_importance, held_by_origin, held_against, maybe_update, important_agent, rank, rank_of, weaker, held_in_book, book_update}
use Rattle.cascade.specs.Agreeing.{KnownOrigin, DecidedAlike, EachPair, AllDecidedAlike}
use Rattle.cascade.proofs.Defaulting.{takes, takes-won}
use Rattle.cascade.proofs.Orders.{then-lower, then-higher, then_equal, then-true, less-says, less-said}

-- ---- ranks by numbers

-- a normal one is the higher the later its origin
rank-normal : (o : ℕ) → agent_origin ≤ o → o ≤ author_origin → rank o false + 1 ≡ o
unfolding rank pick
rank-normal o l h =
    pick-holds (λ n. n + 1 ≡ o) (is o agent_origin) _ _ (λ e. let d = is_true o agent_origin e in omega arith)
    (λ e. pick-holds (λ n. n + 1 ≡ o) (is o user_origin) _ _ (λ f. let d = is_true o user_origin f in omega arith)
    (λ f. let c = is_false o agent_origin e in let d = is_false o user_origin f in omega arith))

-- an important one the lower
rank-important : (o : ℕ) → agent_origin ≤ o → o ≤ author_origin → rank o true + o ≡ important_agent + agent_origin
unfolding rank pick
rank-important o l h =
    pick-holds (λ n. n + o ≡ important_agent + agent_origin) (is o agent_origin) _ _ (λ e. let d = is_true o agent_origin e in omega arith)
    (λ e. pick-holds (λ n. n + o ≡ important_agent + agent_origin) (is o user_origin) _ _ (λ f. let d = is_true o user_origin f in omega arith)
    (λ f. let c = is_false o agent_origin e in let d = is_false o user_origin f in omega arith))

module _ (w : Weight) (k : KnownOrigin w) where
  -- the rank of a normal declaration is one less than its origin's number
  normal-rank : w.important ≡ false → rank_of w + 1 ≡ w.origin
  unfolding rank_of
  normal-rank e = ap (λ i. rank w.origin i + 1) e ∙ rank-normal w.origin k.least k.most

  -- the rank of an important declaration and its origin's number add up to those of an important agent one
  important-rank : w.important ≡ true → rank_of w + w.origin ≡ important_agent + agent_origin
  unfolding rank_of
  important-rank e = ap (λ i. rank w.origin i + w.origin) e ∙ rank-important w.origin k.least k.most

-- ---- what the crate's tests say of x in the slot and y new
module _ (x y : Weight) where
  -- an important value stays against a normal one
  by-importance : y.important ≡ false → x.important ≡ true → held_against x y ≡ true
  unfolding held_against held_by_importance
  by-importance e f = or_left _ _ (sym (pick-false _ _ _ _ e (sym f)))

  -- a value stays against an important one of a later origin
  by-later-origin : y.important ≡ true → x.origin < y.origin → held_against x y ≡ true
  unfolding held_against held_by_origin
  by-later-origin e h = or-second _ _ (or_left _ _ (sym (pick_true _ _ _ _ e (sym (lt-ltb x.origin y.origin h)))))

  -- a value stays against a normal one of an earlier origin
  by-earlier-origin : y.important ≡ false → y.origin < x.origin → held_against x y ≡ true
  unfolding held_against held_by_origin
  by-earlier-origin e h = or-second _ _ (or_left _ _ (sym (pick-false _ _ _ _ e (sym (lt-ltb y.origin x.origin h)))))

  -- a value stays against a less specific one
  by_less : LessSpecific y.spec x.spec → held_against x y ≡ true
  unfolding held_against
  by_less l = or-second _ _ (or-second _ _ (less-said y.spec x.spec l))

  -- a value that stays does so for one of four reasons
  held-says : (P : Type 0) → held_against x y ≡ true → (y.important ≡ false → x.important ≡ true → P) → (y.important ≡ true → x.origin < y.origin → P)
      → (y.important ≡ false → y.origin < x.origin → P) → (LessSpecific y.spec x.spec → P) → P
  unfolding held_against held_by_importance held_by_origin
  held-says P e f g h l =
      either P _ _ e (λ a. importance y.important refl a)
      (λ b. either P _ _ b (λ a. origin y.important refl a) (λ a. l (less-says y.spec x.spec a)))
    where
      importance : (i : Bool) → y.important ≡ i → pick y.important false x.important ≡ true → P
      importance true d a = never (pick_true _ _ _ _ d refl ∙ a)
      importance false d a = f d (pick-false _ _ _ _ d refl ∙ a)

      origin : (i : Bool) → y.important ≡ i → pick y.important (ltb x.origin y.origin) (ltb y.origin x.origin) ≡ true → P
      origin true d a = g d (ltb-true x.origin y.origin (pick_true _ _ _ _ d refl ∙ a))
      origin false d a = h d (ltb-true y.origin x.origin (pick-false _ _ _ _ d refl ∙ a))

  -- it does not where none of them holds
  not-held : ¬ ((y.important ≡ false) × (x.important ≡ true)) → ¬ ((y.important ≡ true) × (x.origin < y.origin)) → ¬ ((y.important ≡ false) × (y.origin < x.origin))
      → ¬ (LessSpecific y.spec x.spec) → held_against x y ≡ false
  not-held f g h l = go (held_against x y) refl
    where
      go : (t : Bool) → held_against x y ≡ t → held_against x y ≡ false
      go true e = held-says (held_against x y ≡ false) e (λ a b. absurd (f (a, b))) (λ a b. absurd (g (a, b))) (λ a b. absurd (h (a, b))) (λ a. absurd (l a))
      go false e = e

-- ---- two declarations are decided alike exactly if the condition holds
module _ (x y : Weight) (kx : KnownOrigin x) (ky : KnownOrigin y) where
  -- the book order keeps x
  lower : rank_of y < rank_of x → held_in_book x y ≡ true
  unfolding held_in_book weaker
  lower h = sym (then-lower (rank_of y) (rank_of x) _ h)

  -- the book order takes a y of higher rank
  higher : rank_of x < rank_of y → held_in_book x y ≡ false
  unfolding held_in_book weaker
  higher h = sym (then-higher (rank_of y) (rank_of x) _ h)

  -- what the crate keeps by origin and importance, under the condition
  kept-alike : DecidedAlike x y → held_against x y ≡ true → held_in_book x y ≡ true
  kept-alike a e =
      held-says x y (held_in_book x y ≡ true) e
      (λ i j. lower (omega (arith, normal-rank y ky i, important-rank x kx j, kx.most, ky.most)))
      (λ i h. go-important i h x.important refl)
      (λ i h. go-normal i h x.important refl)
      (λ l. go-less l (lt-or-ge (rank_of x) (rank_of y)))
    where
      go-important : y.important ≡ true → x.origin < y.origin → (j : Bool) → x.important ≡ j → held_in_book x y ≡ true
      go-important i h true j = lower (omega (arith, important-rank y ky i, important-rank x kx j))
      go-important i h false j = let n = a.important j i in absurd (omega arith)

      go-normal : y.important ≡ false → y.origin < x.origin → (j : Bool) → x.important ≡ j → held_in_book x y ≡ true
      go-normal i h true j = lower (omega (arith, normal-rank y ky i, important-rank x kx j, kx.most, ky.most))
      go-normal i h false j = lower (omega (arith, normal-rank y ky i, normal-rank x kx j))

      go-less : LessSpecific y.spec x.spec → (rank_of x < rank_of y) ⊎ (rank_of y ≤ rank_of x) → held_in_book x y ≡ true
      go-less l (inl h) = absurd (a.stronger h l)
      go-less l (inr h) = ⊎_elim lower (λ (g : rank_of x ≤ rank_of y). unfold held_in_book weaker in sym (then_equal (rank_of y) (rank_of x) _ true (omega arith) (sym (less-said y.spec x.spec l)))) (lt-or-ge (rank_of y) (rank_of x))

  -- what the book order keeps, the crate keeps in any case
  pub crate-keeps-too : held_in_book x y ≡ true → held_against x y ≡ true
  unfolding held_in_book weaker
  crate-keeps-too e = ⊎_elim (λ (h : rank_of y < rank_of x). go h x.important y.important refl refl) (λ h. by_less x y (less-says y.spec x.spec h.1)) (then-true (rank_of y) (rank_of x) _ e)
    where
      go : rank_of y < rank_of x → (i j : Bool) → x.important ≡ i → y.important ≡ j → held_against x y ≡ true
      go h true false i j = by-importance x y j i
      go h true true i j = by-later-origin x y j (omega (arith, important-rank x kx i, important-rank y ky j))
      go h false false i j = by-earlier-origin x y j (omega (arith, normal-rank x kx i, normal-rank y ky j))
      go h false true i j = absurd (omega (arith, normal-rank x kx i, important-rank y ky j, kx.most, ky.most))

  -- the two tests are the same exactly if the condition holds
  pub alike-exactly : Exactly (held_against x y ≡ held_in_book x y) (DecidedAlike x y)
  alike-exactly = (there, (λ a. same_test _ _ (kept-alike a) crate-keeps-too))
    where
      there : held_against x y ≡ held_in_book x y → DecidedAlike x y
      there e = record { stronger = λ h l. never (sym (higher h) ∙ sym e ∙ by_less x y l); important = λ i j. no-later i j (lt-or-ge x.origin y.origin) }
        where
          no-later : x.important ≡ false → y.important ≡ true → (x.origin < y.origin) ⊎ (y.origin ≤ x.origin) → y.origin ≤ x.origin
          no-later i j (inl h) = never (sym (higher (omega (arith, normal-rank x kx i, important-rank y ky j, kx.most, ky.most))) ∙ sym e ∙ by-later-origin x y j h)
          no-later i j (inr h) = h

-- nothing is less specific than itself
not_itself : (s : Specificity) → ¬ (LessSpecific s s)
not_itself s (by-inline e f) = never (sym e ∙ f)
not_itself s (by-id i h) = absurd (omega arith)
not_itself s (by-class i d h) = absurd (omega arith)
not_itself s (by-type i d c h) = absurd (omega arith)

-- a value stays against none of its own weight
not_own : (v w : Weight) → v ≡ w → held_against v w ≡ false
not_own v w d =
    ap (λ u. held_against u w) d
    ∙ not-held w w (λ p. never (sym p.0 ∙ p.1)) (λ p. let l = p.1 in absurd (omega arith)) (λ p. let l = p.1 in absurd (omega arith)) (not_itself w.spec)

-- a normal author declaration replaces a normal author one than which it is not less specific
pub author-replaces : (c y : Weight) → c.origin ≡ author_origin → c.important ≡ false → y.origin ≡ author_origin → y.important ≡ false → ¬ (LessSpecific y.spec c.spec) → held_against c y ≡ false
author-replaces c y oc ic oy iy n = not-held c y (λ p. never (sym ic ∙ p.1)) (λ p. never (sym iy ∙ p.0)) (λ p. let l = p.1 in absurd (omega arith)) n

-- ---- the declarations for a slot, one after the other
module _ {A : Type 0} where
  -- a declaration of the agent, the user or the author
  abbrev Known : Candidate A → Type 0
  Known x = KnownOrigin x.weight

  -- whichever of two values is picked first, both cascades leave the same, where they do from each
  chosen : (t : Bool) (x y : Candidate A) (ys : List (Candidate A)) → foldl maybe_update (held x) ys ≡ foldl book_update (held x) ys → foldl maybe_update (held y) ys ≡ foldl book_update (held y) ys
      → foldl maybe_update (pick t (held x) (held y)) ys ≡ foldl book_update (pick t (held x) (held y)) ys
  chosen t x y ys p q = pick-holds (λ s. foldl maybe_update s ys ≡ foldl book_update s ys) t (held x) (held y) (λ _. p) (λ _. q)

  -- the tests of one update
  updated : (x y : Candidate A) (ys : List (Candidate A)) → held_against x.weight y.weight ≡ held_in_book x.weight y.weight
      → foldl maybe_update (held x) ys ≡ foldl book_update (held x) ys → foldl maybe_update (held y) ys ≡ foldl book_update (held y) ys
      → foldl maybe_update (maybe_update (held x) y) ys ≡ foldl book_update (book_update (held x) y) ys
  updated x y ys e p q = opened ∙ chosen (held_against x.weight y.weight) x y ys p q ∙ shut
    where
      opened : foldl maybe_update (maybe_update (held x) y) ys ≡ foldl maybe_update (pick (held_against x.weight y.weight) (held x) (held y)) ys
      opened = ap (λ (s : Slot A). foldl maybe_update s ys) (unfold maybe_update in refl)

      shut : foldl book_update (pick (held_against x.weight y.weight) (held x) (held y)) ys ≡ foldl book_update (book_update (held x) y) ys
      shut = ap (λ (s : Slot A). foldl book_update s ys) (ap (λ t. pick t (held x) (held y)) e ∙ (unfold book_update in refl))

  -- from one value on, both cascades leave the same, where it and all behind it are decided alike
  from-held : (xs : List (Candidate A)) (x : Candidate A) → Known x → All Known xs → All (λ y. DecidedAlike x.weight y.weight) xs → AllDecidedAlike xs
      → foldl maybe_update (held x) xs ≡ foldl book_update (held x) xs
  from-held [] x kx ks a p = refl
  from-held (y ∷ ys) x kx ks a p =
      updated x y ys ((alike-exactly x.weight y.weight kx ks.0).1 a.0) (from-held ys x kx ks.1 a.1 p.1) (from-held ys y ks.0 ks.1 p.0 p.1)

  -- where every two declarations for a slot are decided alike, and the slot holds nothing before, both cascades leave the same in it
  pub same-slot : (xs : List (Candidate A)) → All Known xs → AllDecidedAlike xs → foldl maybe_update empty xs ≡ foldl book_update empty xs
  unfolding maybe_update book_update
  same-slot [] ks p = refl
  same-slot (x ∷ xs) ks p = from-held xs x ks.0 ks.1 p.0 p.1

  -- the weight of what a slot holds
  abbrev weight_or : Weight → Slot A → Weight
  weight_or w empty = w
  weight_or w (held c) = c.weight

  -- of two declarations alone that is exactly where they do
  pub two-exactly : (x y : Candidate A) → Known x → Known y
      → Exactly (foldl maybe_update empty (x ∷ y ∷ []) ≡ foldl book_update empty (x ∷ y ∷ [])) (DecidedAlike x.weight y.weight)
  two-exactly x y kx ky = ((λ e. (alike-exactly x.weight y.weight kx ky).0 (go _ _ refl refl (unfold maybe_update book_update in e))), (λ a. same-slot (x ∷ y ∷ []) (kx, (ky, tt)) ((a, tt), (tt, tt))))
    where
      go : (a b : Bool) → held_against x.weight y.weight ≡ a → held_in_book x.weight y.weight ≡ b
          → pick (held_against x.weight y.weight) (held x) (held y) ≡ pick (held_in_book x.weight y.weight) (held x) (held y)
          → held_against x.weight y.weight ≡ held_in_book x.weight y.weight
      go true true e f h = e ∙ sym f
      go false false e f h = e ∙ sym f
      go true false e f h = never (sym (not_own x.weight y.weight (ap (weight_or x.weight) (pick_true _ _ _ _ e refl ∙ h ∙ sym (pick-false _ _ _ _ f refl)))) ∙ e)
      go false true e f h = never (sym e ∙ crate-keeps-too x.weight y.weight kx ky f)

  -- ---- a slot that holds a value of an element above
  -- P holds of what a slot holds
  abbrev pub Holds : (Candidate A → Type 0) → Slot A → Type 0
  Holds P empty = Unit
  Holds P (held c) = P c

  -- what holds of every declaration, and of what was in the slot, holds of what the crate's cascade leaves there
  pub holds_after : (P : Candidate A → Type 0) (xs : List (Candidate A)) (s : Slot A) → Holds P s → All P xs → Holds P (foldl maybe_update s xs)
  unfolding maybe_update
  holds_after P [] s h a = h
  holds_after P (x ∷ xs) empty h a = holds_after P xs (held x) a.0 a.1
  holds_after P (x ∷ xs) (held c) h a = holds_after P xs (pick (held_against c.weight x.weight) (held c) (held x)) (pick-holds (Holds P) _ (held c) (held x) (λ _. h) (λ _. a.0)) a.1

  -- every declaration replaces what the slot holds
  abbrev pub Replaced : List (Candidate A) → Slot A → Type 0
  Replaced xs s = Holds (λ c. All (λ y. held_against c.weight y.weight ≡ false) xs) s

  -- one declaration that replaces it leaves of it nothing
  one-replaces : (c y : Candidate A) → held_against c.weight y.weight ≡ false → maybe_update (held c) y ≡ maybe_update empty y
  unfolding maybe_update
  one-replaces c y e = sym (pick-false _ _ _ _ e refl)

  -- where there are declarations, and they replace it, the slot is as if it had held nothing
  pub all-replace : (s : Slot A) (xs : List (Candidate A)) → ¬ (xs ≡ []) → Replaced xs s → foldl maybe_update s xs ≡ foldl maybe_update empty xs
  all-replace empty xs n h = refl
  all-replace (held c) [] n h = absurd (n refl)
  all-replace (held c) (y ∷ ys) n h = ap (λ (s : Slot A). foldl maybe_update s ys) (one-replaces c y h.0)

  -- an inheriting slot: where its declarations are decided alike and replace what it inherits, both cascades leave the same in it
  pub slot-inherits : (s : Slot A) (xs : List (Candidate A)) → All Known xs → AllDecidedAlike xs → Replaced xs s → foldl maybe_update s xs ≡ takes (foldl book_update empty xs) true s
  slot-inherits s [] ks p h = unfold takes pick in refl
  slot-inherits s (y ∷ ys) ks p h = all-replace s (y ∷ ys) (λ e. never (ap is_empty e)) h ∙ same-slot (y ∷ ys) ks p ∙ sym (takes-won y ys true s)
    where
      is_empty : List (Candidate A) → Bool
      is_empty [] = true
      is_empty (x ∷ xs) = false

  -- of one declaration above the element and one of the element that is exactly where they do
  pub one-above-exactly : (c y : Candidate A) → Exactly (foldl maybe_update (held c) (y ∷ []) ≡ takes (foldl book_update empty (y ∷ [])) true (held c)) (held_against c.weight y.weight ≡ false)
  one-above-exactly c y = (λ e. go _ refl (unfold maybe_update book_update takes in e), (λ e. unfold book_update takes in (one-replaces c y e ∙ (unfold maybe_update in refl))))
    where
      go : (t : Bool) → held_against c.weight y.weight ≡ t → pick (held_against c.weight y.weight) (held c) (held y) ≡ held y → held_against c.weight y.weight ≡ false
      go true e h = not_own c.weight y.weight (ap (weight_or c.weight) (pick_true _ _ _ _ e refl ∙ h))
      go false e h = e

-- ---- lists of declarations that meet the condition

-- what every two values have that have something each, every two values of a list have
each-pair : {A : Type 0} (P : A → Type 0) (Q : A → A → Type 0) → ((x y : A) → P x → P y → Q x y) → (xs : List A) → All P xs → EachPair Q xs
each-pair P Q f [] p = tt
each-pair P Q f (x ∷ xs) p = (all_weaker P (Q x) (λ y q. f x y p.0 q) xs p.1, each-pair P Q f xs p.1)

-- the same of values that stand in an order
each-ordered : {A : Type 0} (P : A → Type 0) (R Q : A → A → Type 0) → ((x y : A) → P x → P y → R x y → Q x y) → (xs : List A) → All P xs → EachPair R xs → EachPair Q xs
each-ordered P R Q f [] p r = tt
each-ordered P R Q f (x ∷ xs) p r = (all_both P (R x) (Q x) (λ y a b. f x y p.0 a b) xs p.1 r.0, each-ordered P R Q f xs p.1 r.1)

module _ {A : Type 0} (xs : List (Candidate A)) where
  -- all of one origin, and all normal or all important
  pub one-origin : (o : ℕ) (i : Bool) → All (λ x. (x.weight.origin ≡ o) × (x.weight.important ≡ i)) xs → AllDecidedAlike xs
  one-origin o i = each-pair _ _ (λ x y p q. record { stronger = λ h. absurd (no-rank x.weight y.weight (p.0 ∙ sym q.0) (p.1 ∙ sym q.1) h); important = λ a b. never (sym a ∙ p.1 ∙ sym q.1 ∙ b) }) xs
    where
      no-rank : (x y : Weight) → x.origin ≡ y.origin → x.important ≡ y.important → ¬ (rank_of x < rank_of y)
      no-rank x y e f h = let d : rank_of x ≡ rank_of y = unfold rank_of in rw (e, f) in absurd (omega arith)

  -- none important, and none less specific than one before it of an earlier origin
  pub normal-in-order : All (λ x. KnownOrigin x.weight × (x.weight.important ≡ false)) xs
      → EachPair (λ x y. x.weight.origin < y.weight.origin → ¬ (LessSpecific y.weight.spec x.weight.spec)) xs → AllDecidedAlike xs
  normal-in-order =
      each-ordered _ _ _
      (λ x y p q r. record { stronger = λ h. r (omega (arith, normal-rank x.weight p.0 p.1, normal-rank y.weight q.0 q.1)); important = λ a b. never (sym q.1 ∙ b) }) xs

  -- all important, the origins in reading order: agent, user, author
  pub important-in-order : All (λ x. KnownOrigin x.weight × (x.weight.important ≡ true)) xs → EachPair (λ x y. x.weight.origin ≤ y.weight.origin) xs → AllDecidedAlike xs
  important-in-order =
      each-ordered _ _ _
      (λ x y p q r. record {
        stronger = λ h. absurd (omega (arith, important-rank x.weight p.0 p.1, important-rank y.weight q.0 q.1));
        important = λ a b. never (sym a ∙ p.1);
      }) xs
