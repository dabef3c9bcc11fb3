-- The sign, the digits behind it and their number are those of the definition.
use Rattle.selectors.proofs.NthNumbers as laws
use Rattle.selectors.proofs.nth.signed_integer.Goals as goal

pub returns : goal.returns
returns c =
    record { value = laws.integer-read _ _ c.parse_sign-sign.ensures.value _ c.parse_integer.ensures.value _ c.byte_is-minus.ensures _ c.converted-value.ensures; taken_in_bounds = laws.taken-le _ _ c.parse_sign-sign.ensures.value _ c.parse_integer.ensures.value }
