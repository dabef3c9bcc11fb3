-- What is claimed of a test of digits that ends at the one that decides it: "Whatever digits follow those, its answer is the same (unless it looked at all); after any fewer it would still depend on
-- them" (request S-4). The laws are in proofs/Deciding.antt.
use Rattle.std.specs.Prelude.{ℕ, ◌<◌, ◌≤◌, ◌≡◌, Bool, List, ◌++◌, length, take}
use Rattle.combinators.specs.All.{All}
use Prim.Native.Char.{code as ascii}
use Rattle.decimal.specs.declared.ZeroTest.{ZeroTest}

-- the byte is a digit
abbrev pub IsDigit : ℕ → Type 0
IsDigit x = (ascii "0" ≤ x) × (x ≤ ascii "9")

-- "it would still depend on them": there are digits behind p with which the answers differ
pub record Depends (test : List ℕ → ZeroTest) (p : List ℕ) : Type 0 where
  pub one : List ℕ
  pub other : List ℕ
  pub digits-one : All IsDigit one
  pub digits-other : All IsDigit other
  pub differ : ¬ ((test (p ++ one)).zero ≡ (test (p ++ other)).zero)

-- the test of d ends at the digit that decides it; `answer` is what document 01 says of digits
pub record Decided (answer : List ℕ → Bool) (test : List ℕ → ZeroTest) (d : List ℕ) : Type 0 where
  -- "No other result or contract changes": the answer is that of document 01
  pub answered : (test d).zero ≡ answer d
  -- "how many it looked at": no more than there are
  pub counted : (test d).looked ≤ length d
  -- "Whatever digits follow those, its answer is the same (unless it looked at all)"
  pub settled : (test d).looked < length d → (e : List ℕ) → (test (take (test d).looked d ++ e)).zero ≡ (test d).zero
  -- "after any fewer it would still depend on them"
  pub needed : (j : ℕ) → j < (test d).looked → Depends test (take j d)
