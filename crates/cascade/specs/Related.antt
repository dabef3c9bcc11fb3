-- When two styles are the same but for the form of their values: every flag, origin, specificity and importance is equal, what is filled on one side is filled
-- on the other, and the values are related by R. Assumes nothing: these are definitions.
use Rattle.std.specs.Prelude.{◌≡◌, List, [], ◌∷◌}
use Rattle.cascade.specs.Slot.{Candidate, Slot, empty, held}
use Rattle.cascade.specs.Record.{Record, ComputedStyle}

-- ---- two lists, member by member
pub data Each {A B : Type 0} (P : A → B → Type 0) : List A → List B → Type 0 where
  none : Each P [] []
  next : {a : A} {b : B} {l : List A} {m : List B} → P a b → Each P l m → Each P (a ∷ l) (b ∷ m)

-- ---- two styles
pub record SameCandidate {A B : Type 0} (R : A → B → Type 0) (c : Candidate A) (d : Candidate B) : Type 0 where
  pub weights : c.weight ≡ d.weight
  pub values : R c.value d.value

pub data SameSlot {A B : Type 0} (R : A → B → Type 0) : Slot A → Slot B → Type 0 where
  both-empty : SameSlot R empty empty
  both-held : {c : Candidate A} {d : Candidate B} → SameCandidate R c d → SameSlot R (held c) (held d)

pub record SameRecord {A B : Type 0} (R : A → B → Type 0) (p : Record A) (q : Record B) : Type 0 where
  pub presence : p.present ≡ q.present
  pub all : Each (SameSlot R) p.slots q.slots

pub record SameStyle {A B : Type 0} (R : A → B → Type 0) (s : ComputedStyle A) (t : ComputedStyle B) : Type 0 where
  pub main : SameRecord R s.main t.main
  pub before : SameRecord R s.before t.before
  pub after : SameRecord R s.after t.after
