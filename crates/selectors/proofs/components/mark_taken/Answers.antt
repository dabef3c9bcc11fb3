-- The mark with the white space on both sides, or nothing.
use borrow.Author.Rules.{rules}
use Rattle.std.proofs.iter.Serving.{serving}
use Rattle.selectors.proofs.ComponentLaws as laws
use Rattle.selectors.proofs.components.mark_taken.Goals as goal

pub then-requires : goal.then-requires
then-requires c = λ t. let h = laws.mark-before c.args.s.now _ _ c.skip_optional_whitespace-w.ensures.value _ c.byte_is.ensures c.requires t in grind serving

pub returns : goal.returns
returns c = laws.mark_by _ _ _ c.skip_optional_whitespace-w.ensures.value _ c.byte_is.ensures _ _ c.then.ensures.variant c.then.ensures.some (λ r e. search rules)
