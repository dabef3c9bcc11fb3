-- The stores that are lent to be written in: that they stay the same slices.
use Rattle.std.specs.Prelude.{ℕ, List, ◌≡◌, length}
use Rattle.combinators.specs.declared.lent.Stores.{Stores}

-- a call that is lent the stores gives back the same four slices, whatever it wrote in them
pub record SameStores (a b : Stores) : Type 0 where
  pub rules : b.rules.ghost_name ≡ a.rules.ghost_name
  pub tokens : b.tokens.ghost_name ≡ a.tokens.ghost_name
  pub brackets : b.brackets.ghost_name ≡ a.brackets.ghost_name
  pub texts : b.texts.ghost_name ≡ a.texts.ghost_name

-- of the same lengths
pub record SameLengths (a b : Stores) : Type 0 where
  pub rules : length b.rules.now ≡ length a.rules.now
  pub tokens : length b.tokens.now ≡ length a.tokens.now
  pub brackets : length b.brackets.now ≡ length a.brackets.now
  pub texts : length b.texts.now ≡ length a.texts.now

-- both: whatever was written, the stores can be lent on as before
pub record KeptStores (a b : Stores) : Type 0 where
  pub lengths : SameLengths a b
  pub same : SameStores a b

-- a call that leaves the work stores, tokens and brackets, as they were
pub record SameWork (a b : Stores) : Type 0 where
  pub tokens : b.tokens.now ≡ a.tokens.now
  pub brackets : b.brackets.now ≡ a.brackets.now

-- what is said of the four stores' lists, of where rows go in the first and of where texts go in the last, said of the stores together
abbrev pub of_stores : {A : Type 0} → (List ℕ → ℕ → List ℕ → List ℕ → List ℕ → ℕ → A) → Stores → ℕ → ℕ → A
of_stores f stores place fill = f stores.rules.now place stores.tokens.now stores.brackets.now stores.texts.now fill

-- the same of a statement
abbrev pub OfStores : (List ℕ → ℕ → List ℕ → List ℕ → List ℕ → ℕ → Type 0) → Stores → ℕ → ℕ → Type 0
OfStores f stores place fill = f stores.rules.now place stores.tokens.now stores.brackets.now stores.texts.now fill
