-- A selector that has styles says how many, and a fault says none.
use Rattle.visits.proofs.CodeTellLaws as laws
use borrow.Author.Rules.{rules}
use Rattle.visits.proofs.document.has_style.Goals as goal

pub returns : goal.returns
returns c = laws.styled-told _ _ _ c.style_count.ensures _ _ (λ x t. search rules) c.is_ok_and.ensures
