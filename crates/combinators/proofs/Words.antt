-- `starts_with` and `same_text` as the library's comparisons, and what a true answer says.
use mathlib.Core.Path.{◌≡◌, refl, sym, ap, ◌∙◌}
use mathlib.Core.List.{List, [], ◌∷◌}
use mathlib.Core.Bool.{Bool, true, false, ◌&&◌}
use Prim.Native.Nat.{ℕ, ◌≤◌}
use native.Mathlib.Omega.{arith}
use lib.ListN.{length}
use lib.Dec.{eqb}
use lib.Pointwise.{pointwise}
use Rattle.std.specs.List as list
use Rattle.combinators.specs.Choice.{and, is}
use Rattle.combinators.specs.Word.{starts_with, same_text}
use Rattle.combinators.proofs.Rules.{never, and_both, and-true, is_true, is-yes, same_test}
use borrow.Author.Tests.{eq-eqb, eqb-true}

-- ---- the library's comparisons
-- a test of two bytes is the same in either order
turned : (x y : ℕ) → eqb x y ≡ is y x
unfolding is
turned x y = same_test _ _ (λ h. eq-eqb _ _ (sym (eqb-true _ _ h))) (λ h. eq-eqb _ _ (sym (eqb-true _ _ h)))

-- both of two tests
both-as : (a b c d : Bool) → a ≡ c → b ≡ d → a && b ≡ and c d
unfolding and
both-as true b c d e f = rw (← e) f
both-as false b c d e f = rw (← e) refl

-- of a word with the start of a text
pub starts-by : (s w : List ℕ) → list.starts_with eqb s w ≡ starts_with w s
unfolding starts_with
starts-by s [] = refl
starts-by [] (x ∷ w) = refl
starts-by (y ∷ s) (x ∷ w) = both-as _ _ _ _ (turned x y) (starts-by s w)

-- the word is no longer than the text
pub starts-le : (w s : List ℕ) → starts_with w s ≡ true → length w ≤ length s
unfolding starts_with
starts-le [] s e = omega arith
starts-le (x ∷ w) [] e = never e
starts-le (x ∷ w) (y ∷ s) e = let l = starts-le w s (and-true (is y x) _ e).1 in omega arith

-- ---- two texts

-- the library's comparison of two texts
pub same-by : (s t : List ℕ) → pointwise eqb s t ≡ same_text s t
unfolding same_text is
same-by [] [] = refl
same-by [] (y ∷ t) = refl
same-by (x ∷ s) [] = refl
same-by (x ∷ s) (y ∷ t) = both-as _ _ _ _ refl (same-by s t)

-- texts are the same bytes only where they are equal
pub same-is : (s t : List ℕ) → same_text s t ≡ true → s ≡ t
unfolding same_text
same-is [] [] e = refl
same-is [] (y ∷ t) e = never e
same-is (x ∷ s) [] e = never e
same-is (x ∷ s) (y ∷ t) e =
    let p = and-true (is x y) (same_text s t) e in
    ap (λ b. b ∷ s) (is_true x y p.0) ∙ ap (λ l. y ∷ l) (same-is s t p.1)

-- and every text is the same as itself
pub same_self : (s : List ℕ) → same_text s s ≡ true
unfolding same_text
same_self [] = refl
same_self (x ∷ s) = and_both _ _ (is-yes x x refl) (same_self s)
