-- The token's parts are those of the definition: white space, a '+', the number, and what stands behind it.
use mathlib.Core.Path.{refl, sym, ◌∙◌}
use Rattle.lexer.proofs.Taken.{none-taken, some-taken}
use Rattle.lengths.proofs.TokenLaws as laws
use Rattle.lengths.proofs.tokens.length_of.Goals as goal

pub returns-in_default : goal.returns-in_default
returns-in_default c = let t = laws.no_number _ _ _ c.skip_optional_whitespace-w.ensures.value _ c.plus_of.ensures.value _ refl _ refl (none-taken _ (sym c.in_default.is ∙ c.parse_number.ensures.value)) in record { value = t.0; texts_after = t.1 }

pub returns-then-byte_is : goal.returns-then-byte_is
returns-then-byte_is c =
    let n = some-taken _ _ (sym c.in-Some.is ∙ c.parse_number.ensures.value) in
    let t = laws.percent _ _ _ c.skip_optional_whitespace-w.ensures.value _ c.plus_of.ensures.value _ refl _ n.0 n.1 _ c.byte_is.ensures c.if-byte_is.true in
    record { value = t.0; texts_after = t.1 }

pub returns : goal.returns
returns c =
    let n = some-taken _ _ (sym c.in-Some.is ∙ c.parse_number.ensures.value) in
    let t = laws.read_behind _ _ _ c.skip_optional_whitespace-w.ensures.value _ c.plus_of.ensures.value _ refl _ n.0 n.1 _ c.byte_is.ensures c.if-byte_is.false _ _ c.split_at.ensures.front c.split_at.ensures.back _ _ (c.length_behind.ensures.value, c.length_behind.ensures.texts_after) in
    record { value = t.0; texts_after = t.1 }
