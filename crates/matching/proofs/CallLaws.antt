-- Matching takes at most (components + 1) * (ancestors + 1) calls, the document among the ancestors. A result that fails locally takes at most one call
-- for each component, and one: it comes down a line of child combinators. A descendant combinator never gives it, so that such lines do not nest.
use Prim.Native.Nat.{ℕ, suc, ◌+◌, ◌*◌, ◌≤◌}
use mathlib.Core.Bool.{Bool, true, false}
use mathlib.Core.List.{List, [], ◌∷◌}
use mathlib.Core.Path.{◌≡◌, refl}
use native.Mathlib.Nat.{mul-suc, suc-mul}
use native.Mathlib.Numerals.{add-one}
use native.Mathlib.Omega.{arith}
use lib.ListN.{length}
use Rattle.combinators.specs.Choice.{pick}
use Rattle.syntax.specs.Selector.{Component, star, class, element, hash, child, descendant, nth, attribute, attribute_equal}
use Rattle.page.specs.Path.{Path}
use Rattle.matching.specs.Matches.{matches}
use Rattle.matching.specs.Recursion.{result_on_parent, or_else, result_on_ancestors, by_combinator, result_step, match_recursively, calls_on_parent, calls_else, calls_on_ancestors, calls_step, calls}
use Rattle.matching.specs.declared.matcher.SelectorMatch.{SelectorMatch}
use Rattle.matching.specs.declared.matcher.SelectorMatch.TheVariants.{Matches, FailsLocally, FailsCompletely}

-- the calls n of a result s, with m for the components and one, and d for the ancestors
record Bounded (m d : ℕ) (s : SelectorMatch) (n : ℕ) : Type 0 where
  all : n ≤ m * suc d
  local : s ≡ FailsLocally → n ≤ m

-- what holds of two values for each combinator and for a simple selector holds for a component
pub by-combinator : {A B : Type 0} (P : A → B → Type 0) (c : Component) {x y z : A} {a b e : B} → P x a → P y b → P z e
    → P (by_combinator c x y z) (by_combinator c a b e)
unfolding by_combinator
by-combinator P star p q r = r
by-combinator P (class c) p q r = r
by-combinator P (element n) p q r = r
by-combinator P (hash h) p q r = r
by-combinator P child p q r = p
by-combinator P descendant p q r = q
by-combinator P (nth a b) p q r = r
by-combinator P (attribute n) p q r = r
by-combinator P (attribute_equal n v) p q r = r

-- to fail completely is not to fail locally
no-complete : {A : Type 0} → FailsCompletely ≡ FailsLocally → A
no-complete e = absurd (let z : ◌≡◌ {A = ℕ} 0 1 = cc in omega arith)

-- to match is not to fail locally
no-match : {A : Type 0} → Matches ≡ FailsLocally → A
no-match e = absurd (let z : ◌≡◌ {A = ℕ} 0 1 = cc in omega arith)

-- ---- what the bound says, one component or one ancestor further
module _ (m d : ℕ) where
  -- the call itself is within the bound
  one-call : 1 ≤ suc m * suc d
  one-call = omega (arith, suc-mul m (suc d))

  -- what is within the bound for fewer components is within it for one more
  more-components : (k : ℕ) → k ≤ m * suc d → k ≤ suc m * suc d
  more-components k h = omega (arith, suc-mul m (suc d))

  -- a component and an ancestor more, with the call itself
  more_of_both : (k n : ℕ) → k ≤ m * suc d → n ≡ 0 → 1 + (k + n) ≤ suc m * suc (suc d)
  more_of_both k n h e = omega (arith, suc-mul m (suc d), mul-suc (suc m) (suc d))

  -- an ancestor more, with the call itself and the calls of a result that fails locally
  more-ancestors : (k n : ℕ) → k ≤ m → 1 + n ≤ suc m * suc d → 1 + (k + n) ≤ suc m * suc (suc d)
  more-ancestors k n h l = omega (arith, mul-suc (suc m) (suc d))

  -- ---- a descendant combinator: the second result does not fail locally
  -- the calls at the parent and at the other ancestors stay, with the call itself, within the bound for one component and one ancestor more
  bounded-else : (s t : SelectorMatch) (a b : ℕ) → Bounded m d s a → Bounded (suc m) d t (1 + b) → ¬ (t ≡ FailsLocally)
      → Bounded (suc m) (suc d) (or_else s t) (1 + (a + calls_else s b))
  unfolding or_else calls_else
  bounded-else Matches t a b h l o = record { all = more_of_both a 0 h.all refl; local = λ e. no-match e }
  bounded-else FailsLocally t a b h l o = record { all = more-ancestors a b (h.local refl) l.all; local = λ e. absurd (o e) }
  bounded-else FailsCompletely t a b h l o = record { all = more_of_both a 0 h.all refl; local = λ e. no-complete e }

-- of two results the second fails locally if both together do
else-local : (s t : SelectorMatch) → or_else s t ≡ FailsLocally → t ≡ FailsLocally
unfolding or_else
else-local Matches t e = no-match e
else-local FailsLocally t e = e
else-local FailsCompletely t e = no-complete e

-- ---- one component more
module _ (f : Path → SelectorMatch) (k : Path → ℕ) (m : ℕ) (bounded : (p : Path) → Bounded m (length p) (f p) (k p)) where
  -- a child combinator adds one call to those at the parent
  bounded-child : (p : Path) → Bounded (suc m) (length p) (result_on_parent f p) (1 + calls_on_parent k p)
  unfolding result_on_parent calls_on_parent
  bounded-child [] = record { all = one-call m 0; local = λ e. no-complete e }
  bounded-child (x ∷ up) =
      record {
        all = let l = more_of_both m (length up) (k up) 0 (bounded up).all refl in omega arith;
        local = λ e. let l : k up ≤ m = (bounded up).local e in omega arith;
      }

  -- a descendant combinator does not fail locally
  never-local : (p : Path) → ¬ (result_on_ancestors f p ≡ FailsLocally)
  unfolding result_on_ancestors
  never-local [] e = no-complete e
  never-local (x ∷ up) e = never-local up (else-local (f up) (result_on_ancestors f up) e)

  -- a descendant combinator adds one call to those at the ancestors that are tried
  bounded-descendant : (p : Path) → Bounded (suc m) (length p) (result_on_ancestors f p) (1 + calls_on_ancestors f k p)
  unfolding result_on_ancestors calls_on_ancestors
  bounded-descendant [] = record { all = one-call m 0; local = λ e. no-complete e }
  bounded-descendant (x ∷ up) =
      bounded-else m (length up) (f up) (result_on_ancestors f up) (k up) (calls_on_ancestors f k up) (bounded up) (bounded-descendant up) (never-local up)

  -- a simple component takes the calls of what is left, or one where it does not pass
  bounded-simple : (p : Path) (b : Bool) → Bounded (suc m) (length p) (pick b (f p) FailsLocally) (pick b (k p) 1)
  unfolding pick
  bounded-simple p true =
      record { all = more-components m (length p) (k p) (bounded p).all; local = λ e. let l : k p ≤ m = (bounded p).local e in omega arith }
  bounded-simple p false = record { all = one-call m (length p); local = λ e. omega arith }

-- ---- all of them
-- the calls for components on a path are at most (components + 1) × (ancestors + 1)
all-bounded : (cs : List Component) (p : Path) → Bounded (suc (length cs)) (length p) (match_recursively cs p) (calls cs p)
unfolding match_recursively calls result_step calls_step
all-bounded [] p = record { all = one-call 0 (length p); local = λ e. omega arith }
all-bounded (c ∷ cs) p =
    let m = suc (length cs) in
    by-combinator (Bounded (suc m) (length p)) c
    (bounded-child (match_recursively cs) (calls cs) m (all-bounded cs) p)
    (bounded-descendant (match_recursively cs) (calls cs) m (all-bounded cs) p)
    (bounded-simple (match_recursively cs) (calls cs) m (all-bounded cs) p (matches (c ∷ []) p))

-- the calls are at most (components + 1) * (ancestors + 1): a path has as many ancestors, with the document, as it has elements
pub few-calls : (cs : List Component) (p : Path) → calls cs p ≤ (length cs + 1) * (length p + 1)
few-calls cs p = rw (add-one (length cs), add-one (length p)) (all-bounded cs p).all
