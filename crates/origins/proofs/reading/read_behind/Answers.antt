-- The reader is lent what lies from the place and from the fill on; what it leaves there is put behind what stood before.
use mathlib.Core.Path.{refl}
use Rattle.origins.proofs.ReadingLaws as laws
use Rattle.origins.proofs.reading.read_behind.Goals as goal

pub read_part-requires : goal.read_part-requires
read_part-requires c = laws.room c.requires

pub returns : goal.returns
returns c = let t = laws.rules-left c.requires c.read_part.ensures.value c.read_part.ensures.rules_after c.read_part.ensures.tokens_unchanged c.read_part.ensures.brackets_unchanged c.read_part.ensures.texts_after in record { same = record { rules = refl; tokens = refl; brackets = refl; texts = refl }; work_unchanged = record { tokens = t.1.1.0; brackets = t.1.1.1.0 }; value = t.0; rules_after = t.1.0; texts_after = t.1.1.1.1.0; rules_bounds = t.1.1.1.1.1 }
