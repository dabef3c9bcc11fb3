-- A length is read and so many bytes are there, or fewer, which is a fault where the length starts.
use native.Mathlib.Omega.{arith}
use Rattle.compiled.proofs.Answers.{raised, read-end}
use Rattle.compiled.proofs.TextCode as laws
use Rattle.compiled.proofs.texts.read_text.Goals as goal

pub overflow_sub-s : goal.overflow_sub-s
overflow_sub-s c = omega (arith, read-end _ _ _ c.read_number.ensures.read_within c.in_ok-start.was)

pub returns-then-size-s : goal.returns-then-size-s
returns-then-size-s c = let t : goal.returns-then-size-s-raw c = laws.text-there _ _ _ c.read_number.ensures.value _ c.in_ok-start.was (read-end _ _ _ c.read_number.ensures.read_within c.in_ok-start.was) c.if-size-s.true in record { value = t.0; text_within = t.1 }

pub returns-else-size-s : goal.returns-else-size-s
returns-else-size-s c = let t : goal.returns-else-size-s-raw c = laws.text-short _ _ _ c.read_number.ensures.value _ c.in_ok-start.was c.if-size-s.false in record { value = t.0; text_within = t.1 }

pub returns-in_err-start : goal.returns-in_err-start
returns-in_err-start c = let t : goal.returns-in_err-start-raw c = laws.text-none _ _ _ c.read_number.ensures.value _ c.in_err-start.was _ (raised _ _ c.from_residual.ensures.1) in record { value = t.0; text_within = t.1 }
