-- In the book order the slot's value is that of the last greatest of all candidates, and there is exactly one such. Assumes nothing.
use mathlib.Core.Path.{◌≡◌, refl, sym, ap, ◌∙◌, subst}
use mathlib.Core.Bool.{Bool, true, false}
use mathlib.Core.List.{List, [], ◌∷◌, ◌++◌, foldl, append_assoc, append-nil}
use mathlib.Core.Logic.{⊎_elim}
use Prim.Native.Nat.{suc}
use native.Mathlib.Omega.{arith}
use lib.ListN.{length, length-append}
use Rattle.combinators.specs.All.{All}
use Rattle.combinators.proofs.Rules.{never, pick_true, pick-false, either_way}
use Rattle.combinators.proofs.AllLaws.{all_append, all_weaker}
use Rattle.cascade.specs.declared.slots.Weight.{Weight}
use Rattle.cascade.specs.Slot.{Candidate, Slot, empty, held, rank_of, Weaker, by_rank, by-specificity, weaker, Winner, Won, held_in_book, book_update}
use Rattle.cascade.proofs.Orders.{then-lower, then_equal, then-true, then-trans, then-trans-not, less-trans, less-trans-not, less-says, less-said}

-- ---- the test is the order
module _ (x y : Weight) where
  -- where the test says weaker, the first loses to the second
  pub weaker-says : weaker x y ≡ true → Weaker x y
  unfolding weaker
  weaker-says e = ⊎_elim (λ h. by_rank h) (λ h. by-specificity h.0 (less-says x.spec y.spec h.1)) (then-true (rank_of x) (rank_of y) _ e)

  -- and that it says all there is
  pub weaker-said : Weaker x y → weaker x y ≡ true
  unfolding weaker
  weaker-said (by_rank h) = sym (then-lower (rank_of x) (rank_of y) _ h)
  weaker-said (by-specificity e l) = sym (then_equal (rank_of x) (rank_of y) _ true e (sym (less-said x.spec y.spec l)))

  -- where the test fails, the first does not lose to the second
  pub weaker-denies : weaker x y ≡ false → ¬ (Weaker x y)
  weaker-denies e w = never (sym e ∙ weaker-said w)

  -- and that this is all
  pub weaker-denied : ¬ (Weaker x y) → weaker x y ≡ false
  weaker-denied n = go (weaker x y) refl
    where
      go : (t : Bool) → weaker x y ≡ t → weaker x y ≡ false
      go true e = absurd (n (weaker-says e))
      go false e = e

-- it carries over, and so does its absence
module _ (x y z : Weight) where
  -- weaker than what is weaker
  pub weaker-trans : weaker x y ≡ true → weaker y z ≡ true → weaker x z ≡ true
  unfolding weaker
  weaker-trans = then-trans (rank_of x) (rank_of y) (rank_of z) _ _ _ (less-trans x.spec y.spec z.spec)

  -- not weaker than what is not weaker
  pub weaker-trans-not : weaker x y ≡ false → weaker y z ≡ false → weaker x z ≡ false
  unfolding weaker
  weaker-trans-not = then-trans-not (rank_of x) (rank_of y) (rank_of z) _ _ _ (less-trans-not x.spec y.spec z.spec)

module _ (x y z : Weight) where
  -- what x does not lose to, and what that beats
  pub stays-above : ¬ (Weaker x y) → Weaker z y → ¬ (Weaker x z)
  stays-above n w v = n (weaker-says x y (weaker-trans x z y (weaker-said x z v) (weaker-said z y w)))

  -- what x does not lose to, and what that does not lose to
  pub stays-unbeaten : ¬ (Weaker x y) → ¬ (Weaker y z) → ¬ (Weaker x z)
  stays-unbeaten n m = weaker-denies x z (weaker-trans-not x y z (weaker-denied x y n) (weaker-denied y z m))

module _ {A : Type 0} where
  -- ---- one update: the candidate is taken unless it is the weaker
  module _ (w x : Candidate A) where
    -- a weaker one leaves the slot
    pub update-keeps : weaker x.weight w.weight ≡ true → book_update (held w) x ≡ held w
    unfolding book_update held_in_book
    update-keeps e = sym (pick_true _ _ _ _ e refl)

    -- a candidate that is not the weaker takes the slot
    pub update-takes : weaker x.weight w.weight ≡ false → book_update (held w) x ≡ held x
    unfolding book_update held_in_book
    update-takes e = sym (pick-false _ _ _ _ e refl)

  -- ---- the winner of a fold
  -- a slot and a list, each by another name
  moved : (s t : Slot A) (l m : List (Candidate A)) → s ≡ t → l ≡ m → Won t l → Won s m
  moved s t l m e f h = subst (λ r. Won r m) (sym e) (subst (Won t) f h)

  -- w does not lose to y, and y loses to w
  abbrev StaysAgainst : Candidate A → Candidate A → Type 0
  StaysAgainst w y = ¬ (Weaker w.weight y.weight)

  abbrev LosesTo : Candidate A → Candidate A → Type 0
  LosesTo w y = Weaker y.weight w.weight

  abbrev Unbeaten : Candidate A → List (Candidate A) → Type 0
  Unbeaten w l = All (StaysAgainst w) l

  abbrev Beats : Candidate A → List (Candidate A) → Type 0
  Beats w l = All (LosesTo w) l

  -- w is ahead of b before it and of a behind it, and xs are to come
  go : (xs : List (Candidate A)) (w : Candidate A) (b a : List (Candidate A)) → Unbeaten w b → Beats w a → Won (foldl book_update (held w) xs) ((b ++ (w ∷ a)) ++ xs)
  go [] w b a hb ha =
      record { candidate = w; holds = refl; wins = record { earlier = b; later = a; split = append-nil (b ++ (w ∷ a)); unbeaten = hb; beats = ha } }
  go (x ∷ xs) w b a hb ha = ⊎_elim (kept (go xs w b (a ++ (x ∷ [])))) (taken (go xs x (b ++ (w ∷ a)) [])) (either_way (weaker x.weight w.weight))
    where
      kept : (Unbeaten w b → Beats w (a ++ (x ∷ [])) → Won (foldl book_update (held w) xs) ((b ++ (w ∷ (a ++ (x ∷ [])))) ++ xs)) → weaker x.weight w.weight ≡ true → Won (foldl book_update (book_update (held w) x) xs) ((b ++ (w ∷ a)) ++ (x ∷ xs))
      kept f e = moved _ _ _ _ (ap (λ s. foldl book_update s xs) (update-keeps w x e)) (simp append_assoc) (f hb (all_append (LosesTo w) a (x ∷ []) ha (weaker-says x.weight w.weight e, tt)))

      taken : (Unbeaten x (b ++ (w ∷ a)) → Beats x [] → Won (foldl book_update (held x) xs) (((b ++ (w ∷ a)) ++ (x ∷ [])) ++ xs)) → weaker x.weight w.weight ≡ false → Won (foldl book_update (book_update (held w) x) xs) ((b ++ (w ∷ a)) ++ (x ∷ xs))
      taken f e =
          let n : ¬ (Weaker x.weight w.weight) = weaker-denies x.weight w.weight e in
          moved _ _ _ _ (ap (λ s. foldl book_update s xs) (update-takes w x e)) (append_assoc (b ++ (w ∷ a)) (x ∷ []) xs)
          (f
          (all_append (StaysAgainst x) b (w ∷ a) (all_weaker (StaysAgainst w) (StaysAgainst x) (λ y p. stays-unbeaten x.weight w.weight y.weight n p) b hb)
          (n, all_weaker (LosesTo w) (StaysAgainst x) (λ y p. stays-above x.weight w.weight y.weight n p) a ha))
          tt)

  -- from a slot that holds the first candidate
  pub won-from : (x : Candidate A) (xs : List (Candidate A)) → Won (foldl book_update (held x) xs) (x ∷ xs)
  won-from x xs = go xs x [] [] tt tt

  -- from a slot that holds nothing
  pub won : (x : Candidate A) (xs : List (Candidate A)) → Won (foldl book_update empty (x ∷ xs)) (x ∷ xs)
  unfolding book_update
  won x xs = won-from x xs

  -- ---- there is one winner only
  -- what holds of every member of a list holds of the one at any place in it
  all-at : (P : Candidate A → Type 0) (b : List (Candidate A)) (w : Candidate A) (a : List (Candidate A)) → All P (b ++ (w ∷ a)) → P w
  all-at P [] w a p = p.0
  all-at P (x ∷ b) w a p = all-at P b w a p.1

  abbrev first_or : Candidate A → List (Candidate A) → Candidate A
  first_or d [] = d
  first_or d (x ∷ xs) = x

  abbrev behind_first : List (Candidate A) → List (Candidate A)
  behind_first [] = []
  behind_first (x ∷ xs) = xs

  -- the same list split twice at a winner is split at the same place
  same_place : (b₁ b₂ : List (Candidate A)) (w₁ w₂ : Candidate A) (a₁ a₂ : List (Candidate A)) → b₁ ++ (w₁ ∷ a₁) ≡ b₂ ++ (w₂ ∷ a₂)
      → Unbeaten w₁ b₁ → Beats w₁ a₁ → Unbeaten w₂ b₂ → Beats w₂ a₂ → (length b₁ ≡ length b₂) × (w₁ ≡ w₂)
  same_place [] [] w₁ w₂ a₁ a₂ e p q r s = (refl, ap (first_or w₁) e)
  same_place [] (y ∷ b₂) w₁ w₂ a₁ a₂ e p q r s =
      let f : w₁ ≡ y = ap (first_or w₁) e in
      let l : a₁ ≡ b₂ ++ (w₂ ∷ a₂) = ap behind_first e in
      absurd (r.0 (subst (λ v. Weaker w₂.weight v.weight) f (all-at (LosesTo w₁) b₂ w₂ a₂ (subst (All (LosesTo w₁)) l q))))
  same_place (x ∷ b₁) [] w₁ w₂ a₁ a₂ e p q r s =
      let f : w₂ ≡ x = sym (ap (first_or w₂) e) in
      let l : a₂ ≡ b₁ ++ (w₁ ∷ a₁) = sym (ap behind_first e) in
      absurd (p.0 (subst (λ v. Weaker w₁.weight v.weight) f (all-at (LosesTo w₂) b₁ w₁ a₁ (subst (All (LosesTo w₂)) l s))))
  same_place (x ∷ b₁) (y ∷ b₂) w₁ w₂ a₁ a₂ e p q r s =
      let g = same_place b₁ b₂ w₁ w₂ a₁ a₂ (ap behind_first e) p.1 q r.1 s in
      (ap suc g.0, g.1)

  -- two winners of a list are one, at one place
  pub winner-once : (l : List (Candidate A)) (v w : Candidate A) (p : Winner v l) (q : Winner w l) → (length p.earlier ≡ length q.earlier) × (v ≡ w)
  winner-once l v w p q = same_place p.earlier q.earlier v w p.later q.later (sym p.split ∙ q.split) p.unbeaten p.beats q.unbeaten q.beats

  -- every list of candidates has a winner, the empty one apart
  pub winner-there : (x : Candidate A) (xs : List (Candidate A)) → Winner (won-from x xs).candidate (x ∷ xs)
  winner-there x xs = (won-from x xs).wins

  -- no winner of no candidates
  pub winner-none : (w : Candidate A) → ¬ (Winner w [])
  winner-none w p = no-list p.earlier p.split
    where
      no-list : (b : List (Candidate A)) → [] ≡ b ++ (w ∷ p.later) → ⊥
      no-list b e = absurd (omega (arith, ap length e, length-append b (w ∷ p.later)))
