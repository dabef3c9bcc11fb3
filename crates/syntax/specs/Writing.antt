-- What fits the numbers of a row, which have 32 bits.
use Rattle.std.specs.Prelude.{ℕ, ◌^◌, ◌<◌}

-- of a component
pub record ComponentFits (first second fill : ℕ) : Type 0 where
  pub first_fits : first < 2 ^ 32
  pub second_fits : second < 2 ^ 32
  pub fill-fits : fill < 2 ^ 32

-- of a rule, before its selectors
pub record RuleHeadFits (start selectors declarations : ℕ) : Type 0 where
  pub start_fits : start < 2 ^ 32
  pub selectors-fit : selectors < 2 ^ 32
  pub declarations-fit : declarations < 2 ^ 32
