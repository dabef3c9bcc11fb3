-- Each slot has a value of its own kind, as the definition splits slots.
use native.Mathlib.Omega.{arith}
use Rattle.syntax.specs.Layout.{flag, white_space_number}
use Rattle.compiled.proofs.StyleCode as laws
use Rattle.compiled.proofs.bytes.SheetBytes.read_value.Goals as goal

pub returns-in-2 : goal.returns-in-2
returns-in-2 c = laws.value-display _ _ _ _ c.in-2.is

pub returns-in-4 : goal.returns-in-4
returns-in-4 c = let k = c.in-4.is in laws.value-content _ _ _ _ (λ z. omega (arith, z)) _ k c.read_content.ensures

pub returns-in-3 : goal.returns-in-3
unfolding white_space_number
returns-in-3 c = let k = c.in-3.is in laws.value-white-space _ _ _ _ (λ z. omega (arith, z)) _ (λ z. omega (arith, z)) k c.read_number_up_to.ensures

pub returns-in-5 : goal.returns-in-5
unfolding flag
returns-in-5 c = let k = c.in-5.is in laws.value-visibility _ _ _ _ (λ z. omega (arith, z)) _ (λ z. omega (arith, z)) (λ z. omega (arith, z)) k c.read_number_up_to-in-5.ensures

pub returns-in_default : goal.returns-in_default
returns-in_default c =
    laws.value-colour _ _ _ _ (λ z. omega (arith, z)) _ (λ z. omega (arith, z)) (λ z. omega (arith, z)) (λ z. omega (arith, z)) c.read_number_up_to-in_default.ensures
