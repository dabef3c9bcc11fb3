-- In the crate's cascade nothing is said before the author's rules, in the book order the colours, wherever contents lie.
use Rattle.attributes.proofs.TurnLaws as laws
use Rattle.attributes.proofs.merging.merge_early_attributes.Goals as goal

pub returns-in-Crate-clause-by_index : goal.returns-in-Crate-clause-by_index
returns-in-Crate-clause-by_index c = laws.early-crate _ _ _ c.in-Crate.is

pub returns-in-Book-clause-by_index : goal.returns-in-Book-clause-by_index
returns-in-Book-clause-by_index c = laws.early-book _ _ _ _ c.in-Book.is c.merge_colours.ensures.out_after
