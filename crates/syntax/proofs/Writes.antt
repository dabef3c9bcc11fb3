-- A head that is written last stands before what was written behind its place.
use mathlib.Core.Path.{◌≡◌, sym, ◌∙◌}
use mathlib.Core.List.{List, [], ◌∷◌, ◌++◌}
use Prim.Native.Nat.{ℕ, ◌+◌}
use native.Mathlib.Omega.{arith}
use lib.ListN.{length}
use lib.Seq.{sets}
use Rattle.combinators.proofs.Wiped.{sets-append, sets-apart}
use Rattle.syntax.specs.Layout.{declaration_rows}
use Rattle.syntax.specs.RuleLayout.{selector_rows, selector_texts, rule_head, rule_row}
use Rattle.syntax.specs.Selector.{RuleSet}

-- a head written before what stands behind its place is as both written one behind the other
headed : (l : List ℕ) (p : ℕ) (h xs : List ℕ) → sets (sets l (p + length h) xs) p h ≡ sets l p (h ++ xs)
headed l p h xs = sets-apart l p (p + length h) h xs (omega arith) ∙ sym (sets-append l p h xs)

-- a rule's head, written last, before its selectors and declarations makes its row
pub rule-left : (r : RuleSet) (f : ℕ) (l : List ℕ) (p : ℕ)
    → sets (sets l (p + rule_head) (selector_rows f r.selectors ++ declaration_rows (f + length (selector_texts r.selectors)) r.declarations)) p
    (r.start ∷ length r.selectors ∷ length r.declarations ∷ []) ≡ sets l p (rule_row f r)
unfolding rule_row
rule-left r f l p =
    headed l p (r.start ∷ length r.selectors ∷ length r.declarations ∷ [])
    (selector_rows f r.selectors ++ declaration_rows (f + length (selector_texts r.selectors)) r.declarations)
