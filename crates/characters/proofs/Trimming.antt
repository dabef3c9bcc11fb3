-- White_Space and words: one character of either by what the text begins with, and that behind White_Space a word begins.
use Rattle.std.proofs.Common.{Option, Some, None}
use Prim.Native.Nat.{ℕ, ◌+◌, ◌<◌, ◌≤◌}
use mathlib.Core.Path.{◌≡◌, refl, sym, ap, ◌∙◌}
use mathlib.Core.Bool.{Bool, true, false}
use mathlib.Core.List.{List, [], ◌∷◌}
use native.Mathlib.Omega.{arith}
use lib.ListN.{length, drop, length-drop}
use Rattle.combinators.specs.Choice.{pick}
use Rattle.combinators.specs.Repeat.{many}
use Rattle.combinators.proofs.Rules.{pick_true, pick-false, is-yes, is-no}
use Rattle.combinators.proofs.Repeats.{many-took, many-ge, many-stopped}
use Rattle.characters.specs.Utf8.{scalar_of}
use Rattle.characters.specs.WhiteSpace.{is_white_space}
use Rattle.combinators.specs.declared.taken.Taken.{Taken}
use Rattle.characters.proofs.Scalars.{scalar-some}
use Rattle.characters.specs.Trim.{white_of, white_taken, word_of, word_taken}

-- ---- one character, by what was read
module _ (s : List ℕ) (x : Option (Taken ℕ)) (e : x ≡ scalar_of s) where
  -- a character, by whether it is White_Space
  pub white-value : (n v : ℕ) → x ≡ Some (record { taken = n; value = v }) → (r t : Bool) → r ≡ is_white_space v → r ≡ t → pick t n 0 ≡ white_taken s
  unfolding white_taken white_of
  white-value n v h r t a b = ap (λ q. pick q n 0) (sym b ∙ a) ∙ ap white_of (sym h ∙ e)

  -- where no scalar value begins, no White_Space is taken
  pub white-none : x ≡ None → 0 ≡ white_taken s
  unfolding white_taken white_of
  white-none h = ap white_of (sym h ∙ e)

  -- before the end of the text what was read decides
  word_first : ¬ (length s ≡ 0) → word_of x ≡ word_taken s
  unfolding word_taken
  word_first d = pick-false _ _ _ _ (is-no _ _ d) (ap word_of e)

  -- a character, by whether it is White_Space
  pub word_value : ¬ (length s ≡ 0) → (n v : ℕ) → x ≡ Some (record { taken = n; value = v }) → (r t : Bool) → r ≡ is_white_space v → r ≡ t → pick t 0 n ≡ word_taken s
  unfolding word_of
  word_value d n v h r t a b = ap (λ q. pick q 0 n) (sym b ∙ a) ∙ ap word_of (sym h) ∙ word_first d

  -- no character: a byte of a word
  pub word_none : ¬ (length s ≡ 0) → x ≡ None → 1 ≡ word_taken s
  unfolding word_of
  word_none d h = ap word_of (sym h) ∙ word_first d

-- at the end of the text there is no word
pub word-at-end : (s : List ℕ) → length s ≡ 0 → 0 ≡ word_taken s
unfolding word_taken
word-at-end s h = pick_true _ _ _ _ (is-yes _ _ h) refl

-- a test gives a number to one of two
pick-sum : (t : Bool) (n : ℕ) → pick t n 0 + pick t 0 n ≡ n
unfolding pick
pick-sum true n = omega arith
pick-sum false n = omega arith

-- ---- one character lies within the text
-- a character of White_Space lies within the text
pub white-le : (s : List ℕ) → white_taken s ≤ length s
white-le s = go (scalar_of s) refl
  where
    go : (x : Option (Taken ℕ)) → x ≡ scalar_of s → white_taken s ≤ length s
    go (Some c) e =
        let p = white-value s _ e c.taken c.value refl (is_white_space c.value) (is_white_space c.value) refl refl in
        omega (arith, pick-sum (is_white_space c.value) c.taken, (scalar-some s c.taken c.value (sym e)).1)
    go None e = let p = white-none s _ e refl in omega arith

-- a character of a word
pub word-le : (s : List ℕ) → word_taken s ≤ length s
word-le [] = let p = word-at-end [] refl in omega arith
word-le (y ∷ t) = go (scalar_of (y ∷ t)) refl
  where
    go : (x : Option (Taken ℕ)) → x ≡ scalar_of (y ∷ t) → word_taken (y ∷ t) ≤ length (y ∷ t)
    go (Some c) e =
        let p = word_value (y ∷ t) _ e (λ z. omega arith) c.taken c.value refl (is_white_space c.value) (is_white_space c.value) refl refl in
        omega (arith, pick-sum (is_white_space c.value) c.taken, (scalar-some (y ∷ t) c.taken c.value (sym e)).1)
    go None e = let p = word_none (y ∷ t) _ e (λ z. omega arith) refl in omega arith

-- where u takes a byte, so does its repetition
many-some : (u : List ℕ → ℕ) → ((l : List ℕ) → u l ≤ length l) → (s : List ℕ) → 1 ≤ u s → 1 ≤ many u 0 0 s
many-some u le s h =
    let p = many-took u s 0 (u s) (le s) refl (λ z. omega arith) in
    omega (arith, p, many-ge u (drop (u s) s) (0 + u s) 0)

-- ---- behind White_Space a word begins
-- a text that is not at its end begins with White_Space or a word
white-or-word : (s : List ℕ) → ¬ (length s ≡ 0) → 1 ≤ white_taken s + word_taken s
white-or-word s d = go (scalar_of s) refl
  where
    go : (x : Option (Taken ℕ)) → x ≡ scalar_of s → 1 ≤ white_taken s + word_taken s
    go (Some c) e =
        let a = white-value s _ e c.taken c.value refl (is_white_space c.value) (is_white_space c.value) refl refl in
        let b = word_value s _ e d c.taken c.value refl (is_white_space c.value) (is_white_space c.value) refl refl in
        omega (arith, pick-sum (is_white_space c.value) c.taken, (scalar-some s c.taken c.value (sym e)).0)
    go None e = let b = word_none s _ e d refl in omega arith

-- where u stops before the end of the text, w takes a byte, if at every place one of them does
other-some : (u w : List ℕ → ℕ) → ((l : List ℕ) → w l ≤ length l) → ((l : List ℕ) → ¬ (length l ≡ 0) → 1 ≤ u l + w l)
    → (s : List ℕ) → many u 0 0 s < length s → 1 ≤ many w 0 0 (drop (many u 0 0 s) s)
other-some u w le one s h =
    let t = drop (many u 0 0 s) s in
    let e = many-stopped u s 0 h in
    let p = one t (λ z. omega (arith, length-drop (many u 0 0 s) s)) in
    many-some w le t (omega arith)

-- behind the White_Space of `trim_start`, `word_end` takes at least one byte, unless the text is at its end
pub word-behind-white : (s : List ℕ) → many white_taken 0 0 s < length s → 1 ≤ many word_taken 0 0 (drop (many white_taken 0 0 s) s)
word-behind-white = other-some white_taken word_taken word-le white-or-word
