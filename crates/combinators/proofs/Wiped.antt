-- The laws of `sets`, texts stored over each other and apart, and of `wiped`, zeros over what a store held.
use mathlib.Core.Path.{◌≡◌, refl, sym, ap, subst, ◌∙◌}
use mathlib.Core.List.{List, [], ◌∷◌, ◌++◌}
use mathlib.Core.Logic.{⊎_elim}
use Prim.Native.Nat.{ℕ, zero, suc, ◌+◌, ◌-◌, ◌≤◌, ◌<◌}
use native.Mathlib.Nat.{add-zero}
use native.Mathlib.Omega.{arith}
use lib.ListN.{length, get_or, set, take, drop, replicate, length-replicate, replicate-append-replicate}
use lib.Seq.{sets, set-set, set_comm, length-sets, get_or-set_other, take-set-le, drop-set-lt}
use Rattle.combinators.specs.Store.{filled_part, wiped, most}
use Rattle.combinators.proofs.Rules.{at_most, above, lt-or-ge}
use Rattle.combinators.proofs.Emitted.{sets-out}

-- ---- texts in a store
-- a text stored behind another
pub sets-append : {A : Type 0} (l : List A) (i : ℕ) (xs ys : List A) → sets l i (xs ++ ys) ≡ sets (sets l i xs) (i + length xs) ys
sets-append l i [] ys = rw add-zero
sets-append l i (x ∷ xs) ys =
    let e : i + suc (length xs) ≡ suc i + length xs = omega arith in
    rw e (sets-append (set l i x) (suc i) xs ys)

-- a byte stored before a text, in either order
set_apart : (l : List ℕ) (i j a : ℕ) (ys : List ℕ) → i < j → set (sets l j ys) i a ≡ sets (set l i a) j ys
set_apart l i j a [] h = refl
set_apart l i j a (y ∷ ys) h =
    set_apart (set l j y) i (suc j) a ys (omega arith)
    ∙ ap (λ (r : List ℕ). sets r (suc j) ys) (set_comm l j i y a (λ e. absurd (omega arith)))

-- the front of a list in which a value is stored is the front with the value stored in it
pub front-set : {A : Type 0} (n : ℕ) (l : List A) (i : ℕ) (v : A) → take n (set l i v) ≡ set (take n l) i v
front-set zero l i v = refl
front-set (suc n) [] i v = refl
front-set (suc n) (x ∷ l) zero v = refl
front-set {A} (suc n) (x ∷ l) (suc i) v = ap (λ (r : List A). x ∷ r) (front-set n l i v)

-- what lies before a text stays
pub take-sets : {A : Type 0} (l : List A) (n : ℕ) (xs : List A) (i : ℕ) → n ≤ i → take n (sets l i xs) ≡ take n l
take-sets l n [] i h = refl
take-sets l n (x ∷ xs) i h = take-sets (set l i x) n xs (suc i) (omega arith) ∙ take-set-le n l i x h

-- so does each value of it
pub sets-low : {A : Type 0} (vs l : List A) (i p : ℕ) (d : A) → p < i → get_or (sets l i vs) p d ≡ get_or l p d
sets-low [] l i p d h = refl
sets-low (v ∷ vs) l i p d h = sets-low vs (set l i v) (suc i) p d (omega arith) ∙ get_or-set_other l i p v d (λ e. absurd (omega arith))

-- and what lies behind it
pub drop-sets : {A : Type 0} (vs l : List A) (i n : ℕ) → i + length vs ≤ n → drop n (sets l i vs) ≡ drop n l
drop-sets [] l i n h = refl
drop-sets (v ∷ vs) l i n h = drop-sets vs (set l i v) (suc i) n (omega arith) ∙ drop-set-lt n l i v (omega arith)

-- two texts that do not meet, in either order
pub sets-apart : (l : List ℕ) (f g : ℕ) (xs ys : List ℕ) → f + length xs ≤ g → sets (sets l g ys) f xs ≡ sets (sets l f xs) g ys
sets-apart l f g [] ys h = refl
sets-apart l f g (x ∷ xs) ys h =
    ap (λ (r : List ℕ). sets r (suc f) xs) (set_apart l f g x ys (omega arith)) ∙ sets-apart (set l f x) (suc f) g xs ys (omega arith)

-- a text over one that is no longer: nothing is left of the other
pub sets_over : (l : List ℕ) (f : ℕ) (xs ys : List ℕ) → length xs ≤ length ys → sets (sets l f xs) f ys ≡ sets l f ys
sets_over l f [] ys h = refl
sets_over l f (x ∷ xs) [] h = absurd (omega arith)
sets_over l f (x ∷ xs) (y ∷ ys) h =
    ap (λ (r : List ℕ). sets r (suc f) ys) (set_apart (set l f x) f (suc f) y xs (omega arith) ∙ rw (set-set l f x y))
    ∙ sets_over (set l f y) (suc f) xs ys (omega arith)

-- the start of a text that is there
pub sets-again : (l : List ℕ) (f : ℕ) (xs ys : List ℕ) → sets (sets l f (xs ++ ys)) f xs ≡ sets l f (xs ++ ys)
sets-again l f xs ys =
    rw (sets-append l f xs ys)
    (sets-apart (sets l f xs) f (f + length xs) xs ys (omega arith) ∙ rw (sets_over l f xs xs (omega arith)))

-- ---- the greater of two numbers
-- it is the second where the first is no more
pub most-second : (a b : ℕ) → a ≤ b → most a b ≡ b
unfolding most
most-second a b h = sym (at_most b b a a b h refl)

-- and the first where the second is less
pub most-first : (a b : ℕ) → b < a → most a b ≡ a
unfolding most
most-first a b h = sym (above a b a a b h refl)

-- the same number added on both sides is added to it
pub most-from : (k a b : ℕ) → most (k + a) (k + b) ≡ k + most a b
most-from k a b =
    ⊎_elim
    (λ h. rw (most-first a b h) (most-first (k + a) (k + b) (omega arith)))
    (λ h. rw (most-second a b h) (most-second (k + a) (k + b) (omega arith)))
    (lt-or-ge b a)

-- ---- one value over what a store held
module _ {A : Type 0} (z : A) where
  -- the store stays as long as it was
  pub length-filled_part : (f n : ℕ) (l : List A) → length (filled_part z f n l) ≡ length l
  unfolding filled_part
  length-filled_part f n l = length-sets l f (replicate n z)

  -- no time changes nothing
  pub part-none : (f : ℕ) (l : List A) → filled_part z f 0 l ≡ l
  unfolding filled_part
  part-none f l = refl

  -- none is left to write
  pub part-done : (f n : ℕ) (l : List A) → n ≤ 0 → filled_part z f n l ≡ l
  part-done f zero l h = part-none f l
  part-done f (suc n) l h = absurd (omega arith)

  -- past the end nothing is written
  pub part-out : (f n : ℕ) (l : List A) → length l ≤ f → filled_part z f n l ≡ l
  unfolding filled_part
  part-out f n l h = sets-out (replicate n z) l f h

  -- so many times, and more behind them
  pub part-add : (f m n : ℕ) (l : List A) → filled_part z f (m + n) l ≡ filled_part z (f + m) n (filled_part z f m l)
  unfolding filled_part
  part-add f m n l =
      ap (sets l f) (sym (replicate-append-replicate m n z)) ∙ sets-append l f (replicate m z) (replicate n z)
      ∙ ap (λ (k : ℕ). sets (sets l f (replicate m z)) (f + k) (replicate n z)) (length-replicate m z)

-- ---- zeros
-- wiping leaves a store as long as it was
pub length-wiped : (f n : ℕ) (l : List ℕ) → length (wiped f n l) ≡ length l
length-wiped = length-filled_part 0

-- wiping nothing leaves the list as it is
pub wiped-none : (f : ℕ) (l : List ℕ) → wiped f 0 l ≡ l
wiped-none = part-none 0

-- so many zeros, and more behind them
pub wiped-add : (f m n : ℕ) (l : List ℕ) → wiped f (m + n) l ≡ wiped (f + m) n (wiped f m l)
wiped-add = part-add 0

-- one zero, and the others behind it
wiped-suc : (f n : ℕ) (l : List ℕ) → wiped (suc f) n (set l f 0) ≡ wiped f (suc n) l
unfolding filled_part
wiped-suc f n l = refl

-- a text that is wiped: nothing is left of it
pub wiped-over : (l : List ℕ) (f n : ℕ) (xs : List ℕ) → length xs ≤ n → wiped f n (sets l f xs) ≡ wiped f n l
unfolding filled_part
wiped-over l f n xs h = sets_over l f xs (replicate n 0) (omega (arith, length-replicate {A = ℕ} n 0))

-- a text, and zeros behind it, in either order
pub wiped-apart : (l : List ℕ) (f g n : ℕ) (xs : List ℕ) → f + length xs ≤ g → wiped g n (sets l f xs) ≡ sets (wiped g n l) f xs
unfolding filled_part
wiped-apart l f g n xs h = sym (sets-apart l f g xs (replicate n 0) h)

-- wiping fewer numbers where more are wiped changes nothing
wiped-fewer : (f m n : ℕ) (l : List ℕ) → wiped f m (wiped f (m + n) l) ≡ wiped f (m + n) l
unfolding filled_part
wiped-fewer f m n l = rw (← replicate-append-replicate {A = ℕ} m n 0) (sets-again l f (replicate m 0) (replicate n 0))

-- wiping as many numbers or more, where some were wiped, leaves what wiping the later ones alone leaves
wiped-more : (f m n : ℕ) (l : List ℕ) → m ≤ n → wiped f n (wiped f m l) ≡ wiped f n l
unfolding filled_part
wiped-more f m n l h = wiped-over l f n (replicate m 0) (omega (arith, length-replicate {A = ℕ} m 0))

-- zeros over zeros from the same place on
pub wiped-twice : (f b c : ℕ) (l : List ℕ) → wiped f c (wiped f b l) ≡ wiped f (most b c) l
wiped-twice f b c l =
    ⊎_elim
    (λ h. let e : c + (b - c) ≡ b = omega arith in
    rw (most-first b c h) (subst (λ (n : ℕ). wiped f c (wiped f n l) ≡ wiped f n l) e (wiped-fewer f c (b - c) l)))
    (λ h. rw (most-second b c h) (wiped-more f b c l h))
    (lt-or-ge c b)

-- zeros over zeros from a place on that the others reach
pub wiped-part : (f k b c : ℕ) (l : List ℕ) → k ≤ b → wiped (f + k) c (wiped f b l) ≡ wiped f (most b (k + c)) l
wiped-part f k b c l h =
    let e : b ≡ k + (b - k) = omega arith in
    ap (λ (n : ℕ). wiped (f + k) c (wiped f n l)) e ∙ ap (wiped (f + k) c) (wiped-add f k (b - k) l)
    ∙ wiped-twice (f + k) (b - k) c (wiped f k l) ∙ sym (wiped-add f k (most (b - k) c) l)
    ∙ ap (λ (n : ℕ). wiped f n l) (sym (most-from k (b - k) c) ∙ ap (λ (n : ℕ). most n (k + c)) (sym e))

-- two texts kept one behind the other, each where zeros were
pub wiped-kept : (l : List ℕ) (f b c : ℕ) (x y : List ℕ) → length x ≤ b
    → sets (wiped (f + length x) c (sets (wiped f b l) f x)) (f + length x) y ≡ sets (wiped f (most b (length x + c)) l) f (x ++ y)
wiped-kept l f b c x y h =
    ap (λ (r : List ℕ). sets r (f + length x) y)
    (wiped-apart (wiped f b l) f (f + length x) c x (omega arith) ∙ ap (λ (r : List ℕ). sets r f x) (wiped-part f (length x) b c l h))
    ∙ sym (sets-append (wiped f (most b (length x + c)) l) f x y)

-- a zero where zeros are
set-zero : (m i : ℕ) → set {A = ℕ} (replicate m 0) i 0 ≡ replicate m 0
set-zero zero i = refl
set-zero (suc m) zero = refl
set-zero (suc m) (suc i) = ap (λ (r : List ℕ). 0 ∷ r) (set-zero m i)

-- zeros that are wiped stay zeros
pub wiped-zero : (n f m : ℕ) → wiped f n (replicate m 0) ≡ replicate m 0
wiped-zero zero f m = wiped-none f (replicate m 0)
wiped-zero (suc n) f m = sym (wiped-suc f n (replicate m 0)) ∙ ap (wiped (suc f) n) (set-zero m f) ∙ wiped-zero n (suc f) m
