-- What the sifted styles of one slot come to, for every update by which styles of one rule settle: the same as all the styles, one after the other.
use mathlib.Core.Path.{◌≡◌, refl, sym, ap, ◌∙◌}
use mathlib.Core.Bool.{Bool, true, false}
use mathlib.Core.List.{List, [], ◌∷◌, foldl, foldl-append}
use mathlib.Core.Logic.{⊎_elim}
use Prim.Native.Nat.{ℕ, zero, suc, ◌+◌, ◌≤◌, ◌<◌}
use native.Mathlib.Omega.{arith}
use Rattle.combinators.specs.Choice.{pick, or, is}
use Rattle.combinators.proofs.Rules.{pick_true, pick-false, is-yes, is-no, is_true, is_false, lt-or-ge}
use Rattle.values.specs.Words.{found, missing, on_found}
use Rattle.cascade.specs.Record.{slot_count, Styled}
use Rattle.rule_styles.specs.Deciding.{Sifted, nothing_sifted, sift, listed, sifted_styles, deciding_for, deciding_from, deciding}

-- an update of which only the last normal and the last important style matter, in the order in which the later kind comes last
pub record Settled {A S : Type 0} (u : S → Styled A → S) : Type 0 where
  pub normal-again : (x : S) (a b : Styled A) → a.important ≡ false → b.important ≡ false → u (u x a) b ≡ u x b
  pub important-again : (x : S) (a b : Styled A) → a.important ≡ true → b.important ≡ true → u (u x a) b ≡ u x b
  pub normal-late : (x : S) (a i b : Styled A) → a.important ≡ false → i.important ≡ true → b.important ≡ false → u (u (u x a) i) b ≡ u (u x b) i
  pub important-late : (x : S) (a n b : Styled A) → a.important ≡ true → n.important ≡ false → b.important ≡ true → u (u (u x a) n) b ≡ u (u x n) b

-- only the styles for slot k count
unfoldable pub offered : {A S : Type 0} → (S → Styled A → S) → ℕ → S → Styled A → S
offered u k x d = pick (is d.slot k) (u x d) x

module _ {A S : Type 0} (u : S → Styled A → S) (k : ℕ) (x : S) (d : Styled A) where
  -- one for it is taken
  pub offered-own : d.slot ≡ k → offered u k x d ≡ u x d
  unfolding offered
  offered-own e = sym (pick_true _ _ _ _ (is-yes d.slot k e) refl)

  -- one for another is not
  pub offered-other : ¬ (d.slot ≡ k) → offered u k x d ≡ x
  unfolding offered
  offered-other n = sym (pick-false _ _ _ _ (is-no d.slot k n) refl)

-- ---- what can be known of the styles for slot k
abbrev Kind : {A : Type 0} → ℕ → Bool → Styled A → Type 0
Kind k b d = (d.slot ≡ k) × (d.important ≡ b)

-- none; one kind alone; an important one and then a normal one, or the other way round
pub data Known (A : Type 0) (k : ℕ) : Type 0 where
  neither : Known A k
  only_normal : (n : Styled A) → Kind k false n → Known A k
  only_important : (i : Styled A) → Kind k true i → Known A k
  then_normal : (i n : Styled A) → Kind k true i → Kind k false n → Known A k
  then_important : (n i : Styled A) → Kind k false n → Kind k true i → Known A k

module _ {A : Type 0} (k : ℕ) where
  -- it as sifted styles
  abbrev pub sifted_by : Known A k → Sifted A
  sifted_by neither = record { normal = missing; important = missing; behind = false }
  sifted_by (only_normal n p) = record { normal = found n; important = missing; behind = false }
  sifted_by (only_important i q) = record { normal = missing; important = found i; behind = false }
  sifted_by (then_normal i n q p) = record { normal = found n; important = found i; behind = false }
  sifted_by (then_important n i p q) = record { normal = found n; important = found i; behind = true }

  -- the styles themselves, in the order that matters
  abbrev pub styles_by : Known A k → List (Styled A)
  styles_by neither = []
  styles_by (only_normal n p) = n ∷ []
  styles_by (only_important i q) = i ∷ []
  styles_by (then_normal i n q p) = i ∷ n ∷ []
  styles_by (then_important n i p q) = n ∷ i ∷ []

  -- those that decide are just these
  pub styles-known : (s : Known A k) → sifted_styles (sifted_by s) ≡ styles_by s
  unfolding sifted_styles listed on_found pick
  styles-known neither = refl
  styles-known (only_normal n p) = refl
  styles-known (only_important i q) = refl
  styles-known (then_normal i n q p) = refl
  styles-known (then_important n i p q) = refl

  -- one more style for the slot
  abbrev next : Known A k → (d : Styled A) → d.slot ≡ k → (b : Bool) → d.important ≡ b → Known A k
  next neither d h true e = only_important d (h, e)
  next neither d h false e = only_normal d (h, e)
  next (only_normal n p) d h true e = then_important n d p (h, e)
  next (only_normal n p) d h false e = only_normal d (h, e)
  next (only_important i q) d h true e = only_important d (h, e)
  next (only_important i q) d h false e = then_normal i d q (h, e)
  next (then_normal i n q p) d h true e = then_important n d p (h, e)
  next (then_normal i n q p) d h false e = then_normal i d q (h, e)
  next (then_important n i p q) d h true e = then_important n d p (h, e)
  next (then_important n i p q) d h false e = then_important d i (h, e) q

  -- an important style is sifted
  sift-important : (s : Sifted A) (d : Styled A) → d.slot ≡ k → d.important ≡ true
      → sift k s d ≡ record { normal = s.normal; important = found d; behind = or s.behind (on_found s.normal (λ _. true) false) }
  unfolding sift
  sift-important s d h e = sym (pick_true _ _ _ _ (is-yes d.slot k h) (pick_true _ _ _ _ e refl))

  -- a normal style for the slot becomes its normal one
  sift-normal : (s : Sifted A) (d : Styled A) → d.slot ≡ k → d.important ≡ false
      → sift k s d ≡ record { normal = found d; important = s.important; behind = s.behind }
  unfolding sift
  sift-normal s d h e = sym (pick_true _ _ _ _ (is-yes d.slot k h) (pick-false _ _ _ _ e refl))

  -- one for another slot is not
  sift-other : (s : Sifted A) (d : Styled A) → ¬ (d.slot ≡ k) → sift k s d ≡ s
  unfolding sift
  sift-other s d n = sym (pick-false _ _ _ _ (is-no d.slot k n) refl)

  -- so what is known goes on by one style
  sift-next : (s : Known A k) (d : Styled A) (h : d.slot ≡ k) (b : Bool) (e : d.important ≡ b) → sift k (sifted_by s) d ≡ sifted_by (next s d h b e)
  unfolding or on_found
  sift-next neither d h true e = sift-important (sifted_by neither) d h e
  sift-next neither d h false e = sift-normal (sifted_by neither) d h e
  sift-next (only_normal n p) d h true e = sift-important (sifted_by (only_normal n p)) d h e
  sift-next (only_normal n p) d h false e = sift-normal (sifted_by (only_normal n p)) d h e
  sift-next (only_important i q) d h true e = sift-important (sifted_by (only_important i q)) d h e
  sift-next (only_important i q) d h false e = sift-normal (sifted_by (only_important i q)) d h e
  sift-next (then_normal i n q p) d h true e = sift-important (sifted_by (then_normal i n q p)) d h e
  sift-next (then_normal i n q p) d h false e = sift-normal (sifted_by (then_normal i n q p)) d h e
  sift-next (then_important n i p q) d h true e = sift-important (sifted_by (then_important n i p q)) d h e
  sift-next (then_important n i p q) d h false e = sift-normal (sifted_by (then_important n i p q)) d h e

  -- ---- what is known, put to use
  module _ {S : Type 0} (u : S → Styled A → S) where
    -- the styles taken one after the other
    abbrev pub run : Known A k → S → S
    run neither x = x
    run (only_normal n p) x = u x n
    run (only_important i q) x = u x i
    run (then_normal i n q p) x = u (u x i) n
    run (then_important n i p q) x = u (u x n) i

    -- two styles for the slot are both taken
    two-own : (a b : Styled A) (x : S) → a.slot ≡ k → b.slot ≡ k → offered u k (offered u k x a) b ≡ u (u x a) b
    two-own a b x e f = rw (offered-own u k x a e) (offered-own u k (u x a) b f)

    -- the styles that decide do that
    pub run-styles : (s : Known A k) (x : S) → foldl (offered u k) x (styles_by s) ≡ run s x
    run-styles neither x = refl
    run-styles (only_normal n p) x = offered-own u k x n p.0
    run-styles (only_important i q) x = offered-own u k x i q.0
    run-styles (then_normal i n q p) x = two-own i n x q.0 p.0
    run-styles (then_important n i p q) x = two-own n i x p.0 q.0

    -- and leave any other slot alone
    pub skip-styles : (j : ℕ) → ¬ (k ≡ j) → (s : Known A k) (x : S) → foldl (offered u j) x (styles_by s) ≡ x
    skip-styles j f neither x = refl
    skip-styles j f (only_normal n p) x = offered-other u j x n (λ e. f (sym p.0 ∙ e))
    skip-styles j f (only_important i q) x = offered-other u j x i (λ e. f (sym q.0 ∙ e))
    skip-styles j f (then_normal i n q p) x =
        rw (offered-other u j x i (λ e. f (sym q.0 ∙ e))) (offered-other u j x n (λ e. f (sym p.0 ∙ e)))
    skip-styles j f (then_important n i p q) x =
        rw (offered-other u j x n (λ e. f (sym p.0 ∙ e))) (offered-other u j x i (λ e. f (sym q.0 ∙ e)))

    -- one more style comes to what is known with it
    run-next : Settled u → (s : Known A k) (d : Styled A) (h : d.slot ≡ k) (b : Bool) (e : d.important ≡ b) (x : S) → run (next s d h b e) x ≡ u (run s x) d
    run-next l neither d h true e x = refl
    run-next l neither d h false e x = refl
    run-next l (only_normal n p) d h true e x = refl
    run-next l (only_normal n p) d h false e x = sym (l.normal-again x n d p.1 e)
    run-next l (only_important i q) d h true e x = sym (l.important-again x i d q.1 e)
    run-next l (only_important i q) d h false e x = refl
    run-next l (then_normal i n q p) d h true e x = sym (l.important-late x i n d q.1 p.1 e)
    run-next l (then_normal i n q p) d h false e x = sym (l.normal-again (u x i) n d p.1 e)
    run-next l (then_important n i p q) d h true e x = sym (l.important-again (u x n) i d q.1 e)
    run-next l (then_important n i p q) d h false e x = sym (l.normal-late x n i d p.1 q.1 e)

  -- ---- many styles
  -- what is known behind them, and that it does what they do
  pub record Reached (s : Known A k) (xs : List (Styled A)) : Type 1 where
    pub state : Known A k
    pub sifted : foldl (sift k) (sifted_by s) xs ≡ sifted_by state
    pub does : {S : Type 0} (u : S → Styled A → S) → Settled u → (x : S) → run u state x ≡ foldl (offered u k) (run u s x) xs

  -- such a state there is, for all styles
  pub reach : (xs : List (Styled A)) (s : Known A k) → Reached s xs
  reach [] s = record { state = s; sifted = refl; does = λ u l x. refl }
  reach (d ∷ xs) s = go (λ n. reach xs n) (is d.slot k) refl
    where
      go : ((n : Known A k) → Reached n xs) → (t : Bool) → is d.slot k ≡ t → Reached s (d ∷ xs)
      go more true t =
          let h = is_true d.slot k t in
          let n = next s d h d.important refl in
          let r = more n in
          record {
            state = r.state;
            sifted = ap (λ (z : Sifted A). foldl (sift k) z xs) (sift-next s d h d.important refl) ∙ r.sifted;
            does = λ u l x. r.does u l x ∙ ap (λ z. foldl (offered u k) z xs) (run-next u l s d h d.important refl x ∙ sym (offered-own u k (run u s x) d h));
          }
      go more false t =
          let h = is_false d.slot k t in
          let r = more s in
          record {
            state = r.state;
            sifted = ap (λ (z : Sifted A). foldl (sift k) z xs) (sift-other (sifted_by s) d h) ∙ r.sifted;
            does = λ u l x. r.does u l x ∙ ap (λ z. foldl (offered u k) z xs) (sym (offered-other u k (run u s x) d h));
          }

  -- from the start on
  unfoldable pub known : (xs : List (Styled A)) → Known A k
  known xs = (reach xs neither).state

  -- the styles that decide in slot k are those of what is known
  pub for-known : (xs : List (Styled A)) → deciding_for k xs ≡ styles_by (known xs)
  unfolding deciding_for nothing_sifted known
  for-known xs = ap sifted_styles (reach xs neither).sifted ∙ styles-known (reach xs neither).state

  -- they come to what all of them come to
  pub own-slot : {S : Type 0} (u : S → Styled A → S) → Settled u → (x : S) (xs : List (Styled A)) → foldl (offered u k) x (deciding_for k xs) ≡ foldl (offered u k) x xs
  unfolding known
  own-slot u l x xs = ap (foldl (offered u k) x) (for-known xs) ∙ run-styles u (known xs) x ∙ (reach xs neither).does u l x

  -- and to nothing in any other
  pub other-slot : {S : Type 0} (u : S → Styled A → S) (j : ℕ) → ¬ (k ≡ j) → (x : S) (xs : List (Styled A)) → foldl (offered u j) x (deciding_for k xs) ≡ x
  other-slot u j n x xs = ap (foldl (offered u j) x) (for-known xs) ∙ skip-styles u j n (known xs) x

-- ---- for all slots
module _ {A S : Type 0} (u : S → Styled A → S) (l : Settled u) (k : ℕ) (xs : List (Styled A)) where
  -- those of higher slots leave slot k alone
  from-above : (n j : ℕ) (x : S) → k < j → foldl (offered u k) x (deciding_from n j xs) ≡ x
  unfolding deciding_from
  from-above zero j x h = refl
  from-above (suc n) j x h =
      foldl-append (offered u k) x (deciding_for j xs) (deciding_from n (suc j) xs)
      ∙ ap (λ z. foldl (offered u k) z (deciding_from n (suc j) xs)) (other-slot j u k (λ e. omega arith) x xs)
      ∙ from-above n (suc j) x (omega arith)

  -- so those of slot k alone decide there
  from-below : (n j : ℕ) (x : S) → j ≤ k → k < j + n → foldl (offered u k) x (deciding_from n j xs) ≡ foldl (offered u k) x xs
  unfolding deciding_from
  from-below zero j x h i = absurd (omega arith)
  from-below (suc n) j x h i =
      foldl-append (offered u k) x (deciding_for j xs) (deciding_from n (suc j) xs)
      ∙ ⊎_elim
      (λ (m : j < k). ap (λ z. foldl (offered u k) z (deciding_from n (suc j) xs)) (other-slot j u k (λ e. omega arith) x xs) ∙ from-below n (suc j) x (omega arith) (omega arith))
      (λ (m : k ≤ j).
      let e : j ≡ k = omega arith in
      from-above n (suc j) (foldl (offered u k) x (deciding_for j xs)) (omega arith)
      ∙ ap (λ (i : ℕ). foldl (offered u k) x (deciding_for i xs)) e
      ∙ own-slot k u l x xs)
      (lt-or-ge j k)

  -- in each slot that there is, the styles that decide come to what all styles come to
  pub deciding-slot : k < slot_count → (x : S) → foldl (offered u k) x (deciding xs) ≡ foldl (offered u k) x xs
  unfolding deciding
  deciding-slot h x = from-below slot_count 0 x (omega arith) (omega arith)
