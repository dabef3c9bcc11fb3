-- Each slot is written by its own writer, as the definition splits slots.
use native.Mathlib.Omega.{arith}
use Rattle.combinators.specs.Choice.{is}
use Rattle.syntax.specs.Layout.{flag_of}
use Rattle.compiled.proofs.Written as laws
use Rattle.compiled.proofs.styles.emit_slot.Goals as goal

pub returns-in-0 : goal.returns-in-0
returns-in-0 c = laws.wrote-as (laws.colours-bytes _ _ _ (omega arith)) c.emit_numbers-in-0.ensures

pub returns-in-2 : goal.returns-in-2
returns-in-2 c = let k = c.in-2.is in laws.wrote-as (laws.display-bytes _ _ _ (λ z. omega (arith, z)) (λ z. omega (arith, z)) k) c.emit_number.ensures

pub returns-in-3 : goal.returns-in-3
returns-in-3 c = let k = c.in-3.is in
    laws.wrote-as (laws.white-space-bytes _ _ _ (λ z. omega (arith, z)) (λ z. omega (arith, z)) (λ z. omega (arith, z)) k _ c.white_space_number-word.ensures) c.emit_numbers.ensures

pub returns-in-4 : goal.returns-in-4
returns-in-4 c = let k = c.in-4.is in
    laws.wrote-as (laws.content-bytes _ _ _ (λ z. omega (arith, z)) (λ z. omega (arith, z)) (λ z. omega (arith, z)) (λ z. omega (arith, z)) k) c.emit_number_text.ensures

pub returns-in_default : goal.returns-in_default
unfolding flag_of is
returns-in_default c =
    laws.wrote-as
    (laws.visibility-bytes _ _ _ (λ z. omega (arith, z)) (λ z. omega (arith, z)) (λ z. omega (arith, z)) (λ z. omega (arith, z)) (λ z. omega (arith, z)) _ c.flag_of-hidden.ensures)
    c.emit_numbers-in_default.ensures
