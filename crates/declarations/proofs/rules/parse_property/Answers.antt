-- A name, white space or none and a colon, or nothing is read.
use Rattle.std.proofs.Common.{◌≡◌, None, Err, ◌∙◌, arith}
use Rattle.declarations.proofs.PropertyLaws as laws
use Rattle.declarations.proofs.rules.parse_property.Goals as goal

pub skip_from-colon-requires : goal.skip_from-colon-requires
skip_from-colon-requires c = laws.name-le _ c.parse_ident.ensures.value c.in_ok-name.ensures.ok_part

pub skip_from-requires : goal.skip_from-requires
skip_from-requires c = omega (arith, laws.colon-before _ c.parse_ident.ensures.value c.in_ok-name.ensures.ok_part c.skip_from-colon.ensures.value c.byte_is.ensures c.if-byte_is.true)

pub returns-then-byte_is : goal.returns-then-byte_is
returns-then-byte_is c = record { value = laws.property-hit _ c.parse_ident.ensures.value c.in_ok-name.ensures.ok_part c.skip_from-colon.ensures.value c.byte_is.ensures c.if-byte_is.true c.skip_from.ensures.value; store_after = c.parse_ident.ensures.store_after }

pub returns-else-byte_is : goal.returns-else-byte_is
returns-else-byte_is c = record { value = laws.property-miss _ c.parse_ident.ensures.value c.in_ok-name.ensures.ok_part c.skip_from-colon.ensures.value c.byte_is.ensures c.if-byte_is.false; store_after = c.parse_ident.ensures.store_after }

pub returns-in_err-name : goal.returns-in_err-name
returns-in_err-name c =
    let n : c.parse_ident.result ≡ None = grind arith in
    let e : c.from_residual.result ≡ Err (record { name = 0 }) = grind arith in
    record { value = e ∙ laws.property-none _ c.parse_ident.ensures.value n; store_after = c.parse_ident.ensures.store_after }
