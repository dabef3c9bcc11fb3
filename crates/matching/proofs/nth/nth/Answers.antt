-- The offset and its quotient fit 64 bits; where a is 0 the offset has to be 0, else its remainder by a 0 and its quotient not negative.
use mathlib.Core.Path.{◌∙◌, refl}
use native.Mathlib.Nat.{pos_of_ne-zero}
use borrow.Author.Tests.{ne_eqb}
use lib.IntN.{pos}
use Rattle.matching.proofs.Signed.{offset-computed, quotient-computed, nth-constant, nth-multiple, nth-other}
use Rattle.matching.proofs.nth.nth.Goals as goal

pub overflow_sub-offset : goal.overflow_sub-offset
overflow_sub-offset c = offset-computed {x = pos c.args.idx} c.ranges.a c.ranges.b refl c.requires

pub returns-then-a-eq0 : goal.returns-then-a-eq0
returns-then-a-eq0 c = nth-constant {x = pos c.args.idx} c.ranges.a c.ranges.b refl c.requires c.if-a-eq0.true

pub nonzero_rem-offset : goal.nonzero_rem-offset
nonzero_rem-offset c = (search pos_of_ne-zero, quotient-computed {x = pos c.args.idx} c.ranges.a c.ranges.b refl c.requires)

pub nonzero_div-result : goal.nonzero_div-result
nonzero_div-result c = (search pos_of_ne-zero, quotient-computed {x = pos c.args.idx} c.ranges.a c.ranges.b refl c.requires)

pub returns-then-offset-a-eq0 : goal.returns-then-offset-a-eq0
returns-then-offset-a-eq0 c = nth-multiple {x = pos c.args.idx} c.ranges.a c.ranges.b refl c.requires c.if-a-eq0.false c.if-offset-a-eq0.true

pub returns-else-offset-a-eq0 : goal.returns-else-offset-a-eq0
returns-else-offset-a-eq0 c = ne_eqb _ _ c.if-offset-a-eq0.false ∙ nth-other {x = pos c.args.idx} c.ranges.a c.ranges.b refl c.requires c.if-a-eq0.false c.if-offset-a-eq0.false
