-- Stores that stay the same, in no call, in one and in the next.
use mathlib.Core.Path.{refl, ◌∙◌}
use Rattle.combinators.specs.declared.lent.Stores.{Stores}
use Rattle.combinators.specs.Lent.{SameLengths, KeptStores}
use Rattle.combinators.proofs.LentLaws.{same-none, same-then}

-- of the same lengths
pub lengths-stay : (a : Stores) → SameLengths a a
lengths-stay a = record { rules = refl; tokens = refl; brackets = refl; texts = refl }

-- of the same lengths after both
pub lengths-kept : (a b c : Stores) → SameLengths a b → SameLengths b c → SameLengths a c
lengths-kept a b c x y = record { rules = y.rules ∙ x.rules; tokens = y.tokens ∙ x.tokens; brackets = y.brackets ∙ x.brackets; texts = y.texts ∙ x.texts }

-- both, where nothing is called
pub kept-stay : (a : Stores) → KeptStores a a
kept-stay a = record { lengths = lengths-stay a; same = same-none }

-- both, after both
pub kept-on : (a b c : Stores) → KeptStores a b → KeptStores b c → KeptStores a c
kept-on a b c x y = record { lengths = lengths-kept a b c x.lengths y.lengths; same = same-then x.same y.same }
