-- The numbers of `an+b` in the selectors of a sheet lie from -2147483647 to 2147483647.
use mathlib.Core.Path.{◌≡◌}
use mathlib.Core.List.{List}
use Prim.Native.Nat.{ℕ, ◌≤◌, ◌<◌}
use native.Mathlib.Omega.{arith}
use lib.IntN.{ℤ, pos, negsuc}
use Rattle.combinators.specs.All.{All}
use Rattle.combinators.proofs.AllLaws.{all_weaker}
use Rattle.syntax.specs.Selector.{Component, star, class, element, hash, child, descendant, nth, attribute, attribute_equal, Selector, RuleSet}
use Rattle.syntax.specs.Signed.{signed_number}
use Rattle.selectors.specs.NthAnswer.{greatest_signed}
use Rattle.selectors.specs.Outcome.{reads}
use Rattle.selectors.specs.Selector.{greatest}
use Rattle.sheets.specs.Sheet.{sheet_of}
use Rattle.selectors.proofs.ComponentKeeps.{Small}
use Rattle.sheets.proofs.SheetBounds.{RuleSmall, sheet-keeps}

-- no further from 0 than the greatest number of `i32`; `negsuc n` is -(n + 1)
abbrev pub InRange : ℤ → Type 0
InRange (pos n) = n ≤ greatest
InRange (negsuc n) = n < greatest

-- both numbers of an+b
abbrev pub NthInRange : Component → Type 0
NthInRange star = Unit
NthInRange (class t) = Unit
NthInRange (element t) = Unit
NthInRange (hash t) = Unit
NthInRange child = Unit
NthInRange descendant = Unit
NthInRange (nth a b) = InRange a × InRange b
NthInRange (attribute n) = Unit
NthInRange (attribute_equal n v) = Unit

-- a number that fits in the form of the compiled sheet is in range
signed_range : (z : ℤ) → signed_number z ≤ greatest_signed → InRange z
unfolding signed_number
signed_range (pos n) h = omega arith
signed_range (negsuc n) h = omega arith

-- so are those of a component
nth-range : (c : Component) → Small c → NthInRange c
nth-range star h = tt
nth-range (class t) h = tt
nth-range (element t) h = tt
nth-range (hash t) h = tt
nth-range child h = tt
nth-range descendant h = tt
nth-range (nth a b) h = (signed_range a h.0, signed_range b h.1)
nth-range (attribute n) h = tt
nth-range (attribute_equal n v) h = tt

-- of all components of a selector
abbrev pub SelectorInRange : Selector → Type 0
SelectorInRange x = All NthInRange x.components

-- of all selectors of a rule
abbrev pub RuleInRange : RuleSet → Type 0
RuleInRange r = All SelectorInRange r.selectors

-- so are those of a rule
rule-range : (r : RuleSet) → RuleSmall r → RuleInRange r
rule-range r h =
    all_weaker (λ (x : Selector). All Small x.components) SelectorInRange (λ x k. all_weaker Small NthInRange nth-range x.components k) r.selectors h

-- the numbers of every an+b of a sheet are in range
pub sheet-range : (s : List ℕ) (stop : ℕ) (rs : List RuleSet) → sheet_of s ≡ reads stop rs → All RuleInRange rs
sheet-range s stop rs e = all_weaker RuleSmall RuleInRange rule-range rs (sheet-keeps s stop rs e).small
