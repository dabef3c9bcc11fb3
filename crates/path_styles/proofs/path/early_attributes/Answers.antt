-- The attributes of the row are the element's.
use Rattle.path_styles.proofs.path.early_attributes.Goals as goal

pub merge_early_attributes-requires : goal.merge_early_attributes-requires
merge_early_attributes-requires c = rw c.attributes.ensures c.requires

pub returns-clause-by_index : goal.returns-clause-by_index
returns-clause-by_index c = rw (← c.attributes.ensures) c.merge_early_attributes.ensures.by_index
