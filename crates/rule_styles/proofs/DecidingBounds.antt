-- How many styles decide: at most two for each slot, and no more than there are.
use mathlib.Core.Path.{◌≡◌, refl, sym, ap}
use mathlib.Core.Bool.{Bool, true, false}
use mathlib.Core.List.{List, [], ◌∷◌, foldl}
use Prim.Native.Nat.{ℕ, zero, suc, ◌+◌, ◌*◌, ◌≤◌, ◌<◌}
use native.Mathlib.Omega.{arith}
use lib.ListN.{length, length-append}
use Rattle.combinators.specs.Choice.{pick, or, is}
use Rattle.combinators.proofs.Rules.{pick_true, pick-false, pick-holds, is_true, is-no}
use Rattle.values.specs.Words.{Found, found, missing, on_found}
use Rattle.cascade.specs.Record.{slot_count, Styled}
use Rattle.rule_styles.specs.Deciding.{Sifted, nothing_sifted, sift, listed, sifted_styles, deciding_for, deciding_from, deciding}

module _ {A : Type 0} where
  -- a style that is there or not is one style at most
  listed-one : (x : Found A) → length (listed x) ≤ 1
  unfolding listed on_found
  listed-one (found a) = omega arith
  listed-one missing = omega arith

  -- a style that is found counts as one
  listed_found : (a : A) → length (listed (found a)) ≡ 1
  unfolding listed on_found
  listed_found a = refl

module _ {A : Type 0} where
  -- the sifted styles are as many as those of both kinds together
  sifted-long : (s : Sifted A) → length (sifted_styles s) ≡ length (listed s.normal) + length (listed s.important)
  unfolding sifted_styles
  sifted-long s =
      pick-holds (λ (l : List (Styled A)). length l ≡ length (listed s.normal) + length (listed s.important)) s.behind _ _
      (λ e. length-append (listed s.normal) (listed s.important))
      (λ e. omega (arith, length-append (listed s.important) (listed s.normal)))

  -- at most two for a slot
  for-two : (k : ℕ) (xs : List (Styled A)) → length (deciding_for k xs) ≤ 2
  unfolding deciding_for
  for-two k xs = let s = foldl (sift k) nothing_sifted xs in omega (arith, sifted-long s, listed-one s.normal, listed-one s.important)

  -- so at most two for each of n slots
  from-two : (n k : ℕ) (xs : List (Styled A)) → length (deciding_from n k xs) ≤ 2 * n
  unfolding deciding_from
  from-two zero k xs = omega arith
  from-two (suc n) k xs = omega (arith, length-append (deciding_for k xs) (deciding_from n (suc k) xs), for-two k xs, from-two n (suc k) xs)

  -- at most two for each slot
  pub deciding-two : (xs : List (Styled A)) → length (deciding xs) ≤ 2 * slot_count
  unfolding deciding
  deciding-two xs = from-two slot_count 0 xs

  -- ---- how many styles there are for a slot, and for n slots from k on
  unfoldable counted : ℕ → List (Styled A) → ℕ
  counted k [] = 0
  counted k (d ∷ xs) = pick (is d.slot k) 1 0 + counted k xs

  -- for n slots from k on
  unfoldable counted_from : ℕ → ℕ → List (Styled A) → ℕ
  counted_from zero k xs = 0
  counted_from (suc n) k xs = counted k xs + counted_from n (suc k) xs

-- of no styles none is sifted
nothing-long : (A : Type 0) → length (sifted_styles (nothing_sifted {A = A})) ≡ 0
unfolding sifted_styles nothing_sifted listed on_found pick
nothing-long A = refl

-- of no styles none is counted
counted_none : (A : Type 0) (n k : ℕ) → counted_from {A = A} n k [] ≡ 0
unfolding counted_from counted
counted_none A zero k = refl
counted_none A (suc n) k = omega (arith, counted_none A n (suc k))

-- a style counts as one for its own slot
counts-own : (x k : ℕ) → is x k ≡ true → ◌≡◌ {A = ℕ} (pick (is x k) 1 0) 1
counts-own x k e = sym (pick_true _ _ _ _ e refl)

-- one for another slot counts nothing
counts-other : (x k : ℕ) → is x k ≡ false → ◌≡◌ {A = ℕ} (pick (is x k) 1 0) 0
counts-other x k e = sym (pick-false _ _ _ _ e refl)

module _ {A : Type 0} where
  -- a style for the slot adds one at most
  sift-own : (k : ℕ) (s : Sifted A) (d : Styled A) → is d.slot k ≡ true → length (sifted_styles (sift k s d)) ≤ 1 + length (sifted_styles s)
  unfolding sift
  sift-own k s d e =
      let P : Sifted A → Type 0 = λ t. length (sifted_styles t) ≤ 1 + length (sifted_styles s) in
      pick-holds P (is d.slot k) _ s
      (λ f. pick-holds P d.important _ _
      (λ g. omega (arith, sifted-long (record { normal = s.normal; important = found d; behind = or s.behind (on_found s.normal (λ _. true) false) }), sifted-long s, listed_found d))
      (λ g. omega (arith, sifted-long (record { normal = found d; important = s.important; behind = s.behind }), sifted-long s, listed_found d)))
      (λ f. omega arith)

  -- one for another adds none
  sift-other : (k : ℕ) (s : Sifted A) (d : Styled A) → is d.slot k ≡ false → sift k s d ≡ s
  unfolding sift
  sift-other k s d e = sym (pick-false _ _ _ _ e refl)

  -- so one style more adds what it counts
  sift-one : (k : ℕ) (s : Sifted A) (d : Styled A) → length (sifted_styles (sift k s d)) ≤ pick (is d.slot k) 1 0 + length (sifted_styles s)
  sift-one k s d = go (is d.slot k) refl
    where
      go : (b : Bool) → is d.slot k ≡ b → length (sifted_styles (sift k s d)) ≤ pick (is d.slot k) 1 0 + length (sifted_styles s)
      go true e = omega (arith, counts-own d.slot k e, sift-own k s d e)
      go false e = omega (arith, ap (λ (t : Sifted A). length (sifted_styles t)) (sift-other k s d e))

  -- and many what they count
  sift-all : (k : ℕ) (xs : List (Styled A)) (s : Sifted A) → length (sifted_styles (foldl (sift k) s xs)) ≤ counted k xs + length (sifted_styles s)
  unfolding counted
  sift-all k [] s = omega arith
  sift-all k (d ∷ xs) s = omega (arith, sift-all k xs (sift k s d), sift-one k s d)

  -- so no more decide for a slot than there are
  for-counted : (k : ℕ) (xs : List (Styled A)) → length (deciding_for k xs) ≤ counted k xs
  unfolding deciding_for
  for-counted k xs = omega (arith, sift-all k xs nothing_sifted, nothing-long A)

  -- for n slots no more styles decide than are counted for them
  from-counted : (n k : ℕ) (xs : List (Styled A)) → length (deciding_from n k xs) ≤ counted_from n k xs
  unfolding deciding_from counted_from
  from-counted zero k xs = omega arith
  from-counted (suc n) k xs = omega (arith, length-append (deciding_for k xs) (deciding_from n (suc k) xs), for-counted k xs, from-counted n (suc k) xs)

  -- ---- each style is counted for one slot at most
  -- a style of a slot before k is not counted for the slots from k on
  counted-below : (n k : ℕ) (d : Styled A) (xs : List (Styled A)) → d.slot < k → counted_from n k (d ∷ xs) ≡ counted_from n k xs
  unfolding counted_from counted
  counted-below zero k d xs h = refl
  counted-below (suc n) k d xs h =
      omega (arith, counts-other d.slot k (is-no d.slot k (λ e. omega arith)), counted-below n (suc k) d xs (omega arith))

  -- one style more adds one at most, over all slots
  counted-once : (n k : ℕ) (d : Styled A) (xs : List (Styled A)) → counted_from n k (d ∷ xs) ≤ 1 + counted_from n k xs
  unfolding counted_from counted
  counted-once zero k d xs = omega arith
  counted-once (suc n) k d xs = go (counted-once n (suc k) d xs) (is d.slot k) refl
    where
      go : counted_from n (suc k) (d ∷ xs) ≤ 1 + counted_from n (suc k) xs → (b : Bool) → is d.slot k ≡ b
          → pick (is d.slot k) 1 0 + counted k xs + counted_from n (suc k) (d ∷ xs) ≤ 1 + (counted k xs + counted_from n (suc k) xs)
      go more true e = omega (arith, counts-own d.slot k e, counted-below n (suc k) d xs (omega (arith, is_true d.slot k e)))
      go more false e = omega (arith, counts-other d.slot k e, more)

  -- so no more are counted than there are
  counted-all : (n k : ℕ) (xs : List (Styled A)) → counted_from n k xs ≤ length xs
  counted-all n k [] = omega (arith, counted_none A n k)
  counted-all n k (d ∷ xs) = omega (arith, counted-once n k d xs, counted-all n k xs)

  -- no more decide than there are
  pub deciding-fewer : (xs : List (Styled A)) → length (deciding xs) ≤ length xs
  unfolding deciding
  deciding-fewer xs = omega (arith, from-counted slot_count 0 xs, counted-all slot_count 0 xs)
