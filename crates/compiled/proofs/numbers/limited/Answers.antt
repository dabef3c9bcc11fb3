-- A value below 2^32 is the number, any other a fault where it starts.
use native.Mathlib.Omega.{arith}
use Rattle.compiled.proofs.NumberReading as laws
use Rattle.compiled.proofs.numbers.limited.Goals as goal

pub returns : goal.returns
returns c = rw c.in-Ok.ensures.1 (laws.limited-yes _ _ _ c.in-Ok.ensures.0)

pub returns-in_default : goal.returns-in_default
returns-in_default c = let h = c.in_default.ensures in laws.limited-no _ _ _ (omega arith)
