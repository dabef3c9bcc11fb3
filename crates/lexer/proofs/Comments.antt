-- White space and comments: that what is read lies within the text, and where a comment ends.
use Rattle.std.specs.List.{position_or_len}
use Rattle.std.specs.declared.slice.Windows.{Windows}
use Rattle.std.specs.Slice.Iter.{windows_rest, windows_size, windows_steps}
use Rattle.std.proofs.lemmas.Iterator.{YieldsList}
use Rattle.std.proofs.lemmas.Iterator.Splits.{YieldsList-from_shown_while}
use Rattle.std.proofs.Common.{Option, Some, None, cond, not}
use Rattle.std.proofs.lemmas.Bool.Decides.{nat_tests}
use mathlib.Core.Path.{◌≡◌, refl, ap, sym, ◌∙◌}
use mathlib.Core.List.{List, [], ◌∷◌}
use mathlib.Core.Bool.{Bool, true, false, ◌&&◌}
use Prim.Native.Nat.{ℕ, suc, ◌+◌, ◌<◌, ◌≤◌, zero-le}
use native.Mathlib.Omega.{arith}
use lib.Dec.{eqb, ltb}
use lib.Pointwise.{pointwise}
use lib.ListN.{length, get_or, take, drop, length-drop}
use Rattle.combinators.specs.Choice.{and, or, pick, is}
use Prim.Native.Char.{code as ascii}
use Rattle.combinators.proofs.Rules.{never, pick_true, is-no, and-true, or-none, pick-holds}
use Rattle.combinators.proofs.Lists.{test-there, byte-there}
use Rattle.combinators.proofs.Repeats.{many-le}
use Rattle.lexer.specs.Taken.{taken_answer}
use Rattle.std.proofs.lemmas.Option.{same_Some, none-some}
use Rattle.lexer.proofs.Taken.{taken-none, taken-some}
use Rattle.lexer.specs.Whitespace.{comment_end, comment_of, is_whitespace, whitespace_item, skip_whitespace}

-- ---- the returns of `match_comment`
-- the library's test of the first two bytes
opened : (s : List ℕ) → pointwise eqb (take 2 s) (ascii "/" ∷ ascii "*" ∷ []) ≡ and (is (get_or s 0 0) (ascii "/")) (is (get_or s 1 0) (ascii "*"))
unfolding and is
opened [] = refl
opened (x ∷ []) = go (eqb x (ascii "/"))
  where
    go : (b : Bool) → (b && false) ≡ and b false
    go true = refl
    go false = refl
opened (x ∷ y ∷ s) = go (eqb x (ascii "/")) (eqb y (ascii "*"))
  where
    go : (b c : Bool) → (b && (c && true)) ≡ and b c
    go true true = refl
    go true false = refl
    go false c = refl

-- where not both tests hold, no bytes are taken
not-both : (a b : Bool) (n : ℕ) → and a b ≡ false → 0 ≡ pick a (pick b n 0) 0
unfolding and pick
not-both true true n e = never (sym e)
not-both true false n e = refl
not-both false b n e = refl

module _ (s : List ℕ) where
  -- behind "/*", the end that is found in the rest of the text is the comment's
  pub comment-opened : (t : List ℕ) → (pointwise eqb (take 2 s) (ascii "/" ∷ ascii "*" ∷ []) ≡ true) × (t ≡ drop 2 s) × (length t + 2 ≡ length s) → (x : Option ℕ) → x ≡ taken_answer (comment_end 2 t) → x ≡ taken_answer (comment_of s)
  unfolding comment_of
  comment-opened t h x ex =
      let p = and-true _ _ (sym (opened s) ∙ h.0) in
      ex ∙ ap (λ l. taken_answer (comment_end 2 l)) h.1 ∙ ap taken_answer (pick_true _ _ _ _ p.0 (pick_true _ _ _ _ p.1 refl))

  -- where it is not there, there is no comment
  pub comment-none : pointwise eqb (take 2 s) (ascii "/" ∷ ascii "*" ∷ []) ≡ false → None ≡ taken_answer (comment_of s)
  unfolding comment_of
  comment-none h = taken-none _ (not-both _ _ _ (sym (opened s) ∙ h))

-- ---- what is read lies within the text
-- the end of a comment does, where j bytes stand before
pub end-le : (s : List ℕ) (j : ℕ) → comment_end j s ≤ j + length s
unfolding comment_end
end-le [] j = zero-le
end-le (x ∷ r) j =
    pick-holds (λ n. n ≤ j + suc (length r)) _ _ _
    (λ e. let l = byte-there r 0 (ascii "/") (omega arith) (and-true (is x (ascii "*")) _ e).1 in omega arith)
    (λ _. let l = end-le r (j + 1) in omega arith)

-- a comment lies within the text
pub comment-le : (s : List ℕ) → comment_of s ≤ length s
unfolding comment_of
comment-le s =
    pick-holds (λ n. n ≤ length s) _ _ _
    (λ _. pick-holds (λ n. n ≤ length s) _ _ _
    (λ e.
    let l = byte-there s 1 (ascii "*") (omega arith) e in
    omega (arith, end-le (drop 2 s) 2, length-drop 2 s))
    (λ _. zero-le))
    (λ _. zero-le)

-- no byte above the space is white space
pub above-space : (b : ℕ) → ascii " " < b → is_whitespace b ≡ false
unfolding is_whitespace
above-space b h =
    or-none _ _ (other _ (omega arith))
    (or-none _ _ (other _ (omega arith))
    (or-none _ _ (other _ (omega arith))
    (or-none _ _ (other _ (omega arith))
    (other _ (omega arith)))))
  where
    other : (k : ℕ) → k ≤ ascii " " → is b k ≡ false
    other k l = is-no b k (λ e. omega arith)

-- 0, which a place past the end reads as, is no white space
whitespace-null : is_whitespace 0 ≡ false
unfolding is_whitespace or is
whitespace-null = refl

-- a character of white space or a comment lies within the text
pub item-le : (s : List ℕ) → whitespace_item s ≤ length s
unfolding whitespace_item
item-le s = pick-holds (λ n. n ≤ length s) _ _ _ (λ e. test-there is_whitespace whitespace-null s 0 e) (λ _. comment-le s)

-- and so does what is skipped
pub skip-le : (s : List ℕ) → skip_whitespace s ≤ length s
unfolding skip_whitespace
skip-le s = omega (arith, many-le whitespace_item s 0 0)

-- ---- `skip_from`: the place behind white space and comments from a place on
module _ (s : List ℕ) (at : ℕ) where
  -- skipping from a place within the text ends within the text
  pub skip-from-le : at ≤ length s → at + skip_whitespace (drop at s) ≤ length s
  skip-from-le h = omega (arith, skip-le (drop at s), length-drop at s)

-- ---- the search as the library goes: by windows of two bytes
-- a text's windows of two bytes
unfoldable pub pairs : List ℕ → List (List ℕ)
pairs [] = []
pairs (x ∷ []) = []
pairs (x ∷ y ∷ r) = (x ∷ y ∷ []) ∷ pairs (y ∷ r)

-- fewer than two bytes have none
pairs-none : (l : List ℕ) → length l < 2 → length (pairs l) ≡ 0
unfolding pairs
pairs-none [] h = refl
pairs-none (x ∷ []) h = refl
pairs-none (x ∷ y ∷ r) h = absurd (omega arith)

-- two bytes or more have the first two, and those of what follows the first
pairs-more : (l w t : List ℕ) → 2 ≤ length l → w ≡ take 2 l → t ≡ drop 1 l → pairs l ≡ w ∷ pairs t
unfolding pairs
pairs-more [] w t h e f = absurd (omega arith)
pairs-more (x ∷ []) w t h e f = absurd (omega arith)
pairs-more (x ∷ y ∷ r) w t h e f = rw (e, f) refl

-- what the windows give
pub windows-pairs : (s : Windows ℕ) (l : List ℕ) → windows_rest s ≡ l → windows_size s ≡ 2 → YieldsList windows_steps (λ x. x.now) s (pairs l)
windows-pairs s l e f =
    let P : Windows ℕ → Type 0 = λ u. windows_size u ≡ 2 in
    rw (← e)
    (YieldsList-from_shown_while windows_steps (λ x. x.now) (λ u. pairs (windows_rest u)) P
    (λ u t p h. pairs-none _ (omega (arith, h.1.0, p)))
    (λ u x t p h. (h.0 ∙ p, pairs-more _ _ _ (omega (arith, h.1.0, p)) (h.1.1 ∙ ap (λ n. take n (windows_rest u)) p) h.1.2))
    s f)

-- whether two bytes end a comment
abbrev pub ends : List ℕ → Bool
ends w = pointwise eqb w (ascii "*" ∷ ascii "/" ∷ [])

-- the first place, of one or more
one-first : (m : ℕ) → ltb 0 (suc m) ≡ true
one-first m = grind (arith, nat_tests)

-- a place one behind, of one more
one-behind : (n m : ℕ) → ltb (1 + n) (suc m) ≡ ltb n m
one-behind n m = grind (arith, nat_tests)

-- one window before those of which the first that ends the comment is the n-th
window : (b : Bool) (j n m e : ℕ) → e ≡ cond (ltb n m) (j + 1 + n + 2) 0 → pick b (j + 2) e ≡ cond (ltb (cond (not b) (1 + n) 0) (suc m)) (j + cond (not b) (1 + n) 0 + 2) 0
unfolding pick
window true j n m e h =
    let z : j + 2 ≡ j + 0 + 2 = omega arith in
    z ∙ ap (λ (b : Bool). cond b (j + 0 + 2) 0) (sym (one-first m))
window false j n m e h =
    let q : j + 1 + n + 2 ≡ j + (1 + n) + 2 = omega arith in
    h ∙ ap (λ (k : ℕ). cond (ltb n m) k 0) q ∙ ap (λ (b : Bool). cond b (j + (1 + n) + 2) 0) (sym (one-behind n m))

-- a last byte ends none
last-byte : (b : Bool) (j : ℕ) → pick (and b (is 0 (ascii "/"))) (j + 2) 0 ≡ 0
unfolding pick and is
last-byte true j = refl
last-byte false j = refl

-- the test of two bytes
opened-end : (x y : ℕ) → ends (x ∷ y ∷ []) ≡ and (is x (ascii "*")) (is y (ascii "/"))
unfolding and is
opened-end x y = go (eqb x (ascii "*")) (eqb y (ascii "/"))
  where
    go : (b c : Bool) → (b && (c && true)) ≡ and b c
    go true true = refl
    go true false = refl
    go false c = refl

-- the end of a comment is two bytes behind the first window that ends it
pub end-window : (s : List ℕ) (j : ℕ) → comment_end j s ≡ cond (ltb (position_or_len ends (pairs s)) (length (pairs s))) (j + position_or_len ends (pairs s) + 2) 0
unfolding comment_end pairs
end-window [] j = refl
end-window (x ∷ []) j = last-byte (is x (ascii "*")) j
end-window (x ∷ y ∷ r) j = rw (sym (opened-end x y)) (window (ends (x ∷ y ∷ [])) j _ _ _ (end-window (y ∷ r) (j + 1)))

module _ (s : List ℕ) (r : Option ℕ)
    (e : r ≡ cond (ltb (position_or_len ends (pairs s)) (length (pairs s))) (Some (position_or_len ends (pairs s))) None) where
  -- where no window is found, no comment ends
  pub window-none : r ≡ None → None ≡ taken_answer (comment_end 2 s)
  window-none h = taken-none _ (go (ltb (position_or_len ends (pairs s)) (length (pairs s))) _ (sym h ∙ e) ∙ sym (end-window s 2))
    where
      go : (b : Bool) (n : ℕ) → None ≡ cond b (Some n) None → 0 ≡ cond b (2 + n + 2) 0
      go true n q = absurd (none-some _ q)
      go false n q = refl

  -- a window that is found ends it
  pub window-some : (i : ℕ) → r ≡ Some i → Some (i + 4) ≡ taken_answer (comment_end 2 s)
  window-some i h = taken-some _ _ (go (ltb (position_or_len ends (pairs s)) (length (pairs s))) _ (sym h ∙ e) ∙ sym (end-window s 2)) (λ z. omega arith)
    where
      go : (b : Bool) (n : ℕ) → Some i ≡ cond b (Some n) None → i + 4 ≡ cond b (2 + n + 2) 0
      go true n q = let p : i ≡ n = same_Some _ _ q in omega (arith, p)
      go false n q = absurd (none-some _ (sym q))
