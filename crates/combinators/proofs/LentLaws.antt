-- Lent stores stay the same slices, and work stores as they were, before any call and throughout several.
use mathlib.Core.Path.{◌≡◌, refl, ◌∙◌}
use Rattle.combinators.specs.Lent.{SameStores, SameWork}
use Rattle.combinators.specs.declared.lent.Stores.{Stores}

-- before any call they are the same
pub same-none : {a : Stores} → SameStores a a
same-none = record { rules = refl; tokens = refl; brackets = refl; texts = refl }

-- one call after the other
pub same-then : {a b c : Stores} → SameStores a b → SameStores b c → SameStores a c
same-then p q = record { rules = q.rules ∙ p.rules; tokens = q.tokens ∙ p.tokens; brackets = q.brackets ∙ p.brackets; texts = q.texts ∙ p.texts }

-- before any call the work stores are as they were
pub work-none : {a : Stores} → SameWork a a
work-none = record { tokens = refl; brackets = refl }

-- one call after the other
pub work-then : {a b c : Stores} → SameWork a b → SameWork b c → SameWork a c
work-then p q = record { tokens = q.tokens ∙ p.tokens; brackets = q.brackets ∙ p.brackets }

-- ---- what a call says clause by clause
-- of rows and texts written, with the work stores as one claim
pub with_work : {a b : Stores} {V R T : Type 0} → SameStores a b → V × (R × ((b.tokens.now ≡ a.tokens.now) × ((b.brackets.now ≡ a.brackets.now) × T)))
    → SameStores a b × (SameWork a b × (V × (R × T)))
with_work p t = (p, (record { tokens = t.1.1.0; brackets = t.1.1.1.0 }, (t.0, (t.1.0, t.1.1.1.1))))

-- the same where a further call leaves the work stores as they were
pub with_work_back : {a b c : Stores} {V R T : Type 0} → SameStores a b → SameStores b c → SameWork b c
    → V × (R × ((b.tokens.now ≡ a.tokens.now) × ((b.brackets.now ≡ a.brackets.now) × T))) → SameStores a c × (SameWork a c × (V × (R × T)))
with_work_back p q w t = (same-then p q, (record { tokens = w.tokens ∙ t.1.1.0; brackets = w.brackets ∙ t.1.1.1.0 }, (t.0, (t.1.0, t.1.1.1.1))))

-- of texts as they were, with the rules as they were and the work stores as one claim
pub with_kept : {a b : Stores} {V R T : Type 0} → SameStores a b → R → V × ((b.tokens.now ≡ a.tokens.now) × ((b.brackets.now ≡ a.brackets.now) × T))
    → SameStores a b × (SameWork a b × (V × (R × T)))
with_kept p r t = (p, (record { tokens = t.1.0; brackets = t.1.1.0 }, (t.0, (r, t.1.1.1))))

-- ---- a loop that is lent the stores, and leaves the work stores as they were, with what it says besides
pub record Lending (R : Type 0) (a b : Stores) : Type 0 where
  pub same : SameStores a b
  pub work : SameWork a b
  pub reading : R
