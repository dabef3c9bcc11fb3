-- The name is marked last, and what is told of attributes stays.
use Rattle.hints.proofs.HintLaws as laws
use Rattle.hints.proofs.hints.Hint.tell.Goals as goal

pub returns : goal.returns
returns c = laws.hint-fits _ _ _ _ _ c.mark.ensures c.tell_attributes.ensures.others c.tell_attributes.ensures.fit
