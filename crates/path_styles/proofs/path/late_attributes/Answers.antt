-- The attributes of the row are the element's.
use borrow.Author.Rules.{rules}
use Rattle.page.specs.Lent.{element_in}
use Rattle.path_styles.proofs.PathLaws as laws
use Rattle.path_styles.proofs.path.late_attributes.Goals as goal

pub merge_attributes-requires : goal.merge_attributes-requires
merge_attributes-requires c = rw c.attributes.ensures c.requires

pub returns-clause-out_after : goal.returns-clause-out_after
returns-clause-out_after c = laws.late-here c.args.cascade (element_in c.args.element.page c.args.element.row) _ c.attributes.ensures _ _ c.args.fill c.merge_attributes.ensures.out_after

pub returns-clause-value : goal.returns-clause-value
returns-clause-value c = rw (← c.attributes.ensures) c.merge_attributes.ensures.value

pub returns-clause-texts_after : goal.returns-clause-texts_after
returns-clause-texts_after c = search (rules, laws.contents-here (element_in c.args.element.page c.args.element.row) _ c.attributes.ensures c.args.fill _ _ _ c.merge_attributes.ensures.texts_after)
