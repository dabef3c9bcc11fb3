-- Where a name is asked for the nearest ancestor of the name is tried next, and the parent otherwise.
use Rattle.matching.proofs.ClimbLaws as laws
use Rattle.matching.proofs.matcher.next_ancestor.Goals as goal

pub returns : goal.returns
returns c =
    record {
      next = laws.next-parent _ _ _ _ _ _ _ c.args.element.rooted c.parent.result c.parent.ensures;
      any_attributes = λ attributes. laws.next-parent _ _ _ attributes _ _ _ c.args.element.rooted c.parent.result c.parent.ensures;
    }
