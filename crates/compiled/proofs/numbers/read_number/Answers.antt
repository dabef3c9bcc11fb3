-- A byte without its top bit is the number; otherwise it is read group by group.
use mathlib.Core.Path.{refl, ◌∙◌}
use native.Mathlib.Omega.{arith}
use Rattle.compiled.proofs.NumberReading as laws
use Rattle.compiled.proofs.numbers.read_number.Goals as goal

pub returns : goal.returns
returns c =
    let k = c.in-Some.ensures.lookup.3 in
    let t : goal.returns-raw c = laws.reading-one _ _ _ (c.from-2.ensures ∙ k.1 0) k.0 (omega arith) _ refl in
    record { value = t.0; read_within = t.1 }
