-- Where the crate's cascade and the book order leave the same: conditions on what is declared for a slot, of an element and of those above it, that ordinary
-- sheets meet. The laws are in proofs/Agreeing.antt and proofs/AgreeingStyles.antt. Assumes nothing: these are definitions.
use Rattle.std.specs.Prelude.{◌≡◌, true, false, List, [], ◌∷◌, ◌⊎◌, ℕ, ◌≤◌, ◌<◌}
use Rattle.combinators.specs.All.{All}
use Rattle.syntax.specs.Style.{agent_origin, author_origin}
use Rattle.cascade.specs.declared.slots.Weight.{Weight}
use Rattle.cascade.specs.Specificity.{LessSpecific}
use Rattle.cascade.specs.Slot.{Candidate, held_against, rank_of}
use Rattle.cascade.specs.Record.{main_record, record_count, slot_count, inherits, AttributeStyle, Sources, crate_declared, candidates_for, declares}

-- agent, user or author
pub record KnownOrigin (w : Weight) : Type 0 where
  pub least : agent_origin ≤ w.origin
  pub most : w.origin ≤ author_origin

-- ---- two declarations for a slot of one element, x before y: where y is the stronger by origin and importance, it is not less specific; and where it alone is
-- important, it is of no later origin
pub record DecidedAlike (x y : Weight) : Type 0 where
  pub stronger : rank_of x < rank_of y → ¬ (LessSpecific y.spec x.spec)
  pub important : x.important ≡ false → y.important ≡ true → y.origin ≤ x.origin

-- P holds of every two values of a list, the first of which stands before the second
abbrev pub EachPair : {A : Type 0} → (A → A → Type 0) → List A → Type 0
EachPair P [] = Unit
EachPair P (x ∷ xs) = All (P x) xs × EachPair P xs

-- all declarations for a slot of one element, in order of appearance
abbrev pub AllDecidedAlike : {A : Type 0} → List (Candidate A) → Type 0
AllDecidedAlike xs = EachPair (λ x y. DecidedAlike x.weight y.weight) xs

-- ---- an attribute that both cascades count alike for a slot: none for another record or slot matters; else it is a `style` attribute, and not important
abbrev pub CountedAlike : {A : Type 0} → ℕ → ℕ → AttributeStyle A → Type 0
CountedAlike r k a = r ≡ main_record → a.style.slot ≡ k → (a.is_style ≡ true) × (a.style.important ≡ false)

-- ---- what is declared for a slot, of an element and of those above it, the element first
module _ {A : Type 0} (r k : ℕ) where
  -- the declarations of one element
  abbrev pub declared_for : Sources A → List (Candidate A)
  declared_for x = candidates_for r k (crate_declared x)

  -- all that is said of one element for the slot counts alike: its attributes, and every two declarations
  abbrev pub SaidAlike : Sources A → Type 0
  SaidAlike x = All (CountedAlike r k) x.attributes × AllDecidedAlike (declared_for x)

  -- nothing is declared for it of any of these elements
  abbrev pub NoneDeclared : List (Sources A) → Type 0
  NoneDeclared xs = All (λ z. declared_for z ≡ []) xs

  -- every declaration of an element replaces c in the crate's cascade
  abbrev pub Replaces : Sources A → Candidate A → Type 0
  Replaces x c = All (λ y. held_against c.weight y.weight ≡ false) (declared_for x)

  -- and so every declaration of the elements above it
  abbrev pub ReplacesAll : Sources A → List (Sources A) → Type 0
  ReplacesAll x above = All (λ z. All (Replaces x) (declared_for z)) above

  -- a slot that the book order inherits too: down a path all that is said counts alike, and each declaration replaces those above it
  abbrev pub InheritedAlike : List (Sources A) → Type 0
  InheritedAlike [] = Unit
  InheritedAlike (x ∷ above) = SaidAlike x × (ReplacesAll x above × InheritedAlike above)

  -- a slot that it does not inherit, as the crate's cascade does: nothing is declared for it above, or something of the element, which replaces all that is
  abbrev pub NotInherited : Sources A → List (Sources A) → Type 0
  NotInherited x above = NoneDeclared above ⊎ (¬ (declared_for x ≡ []) × ReplacesAll x above)

  -- ---- sheets of the author alone, without `!important`
  -- a normal declaration of the author
  abbrev pub NormalAuthor : Candidate A → Type 0
  NormalAuthor c = (c.weight.origin ≡ author_origin) × (c.weight.important ≡ false)

  -- no declaration of an element is less specific than c
  abbrev pub NotLessSpecific : Sources A → Candidate A → Type 0
  NotLessSpecific x c = All (λ y. ¬ (LessSpecific y.weight.spec c.weight.spec)) (declared_for x)

  -- what they say, where no declaration is less specific than one of an element above
  abbrev pub AuthorDown : List (Sources A) → Type 0
  AuthorDown [] = Unit
  AuthorDown (x ∷ above) =
      All (CountedAlike r k) x.attributes × (All NormalAuthor (declared_for x) × (All (λ z. All (NotLessSpecific x) (declared_for z)) above × AuthorDown above))

-- ---- a slot of a pseudo record that the book order does not fill from the element's own record: nothing is declared for that record, or something for the slot, or
-- nothing for the main slot, of the element or above it
pub data NotFilled {A : Type 0} (r k : ℕ) (x : Sources A) (above : List (Sources A)) : Type 0 where
  no_record : declares r (crate_declared x) ≡ false → NotFilled r k x above
  own_value : ¬ (declared_for r k x ≡ []) → NotFilled r k x above
  none-handed : NoneDeclared main_record k (x ∷ above) → NotFilled r k x above

-- ---- an element x below others, of which both cascades leave the same style
pub record AgreesDown {A : Type 0} (x : Sources A) (above : List (Sources A)) : Type 0 where
  -- each slot of the main record that inherits
  pub inheriting : (k : ℕ) → k < slot_count → inherits k ≡ true → InheritedAlike main_record k (x ∷ above)
  -- each that does not
  pub others : (k : ℕ) → k < slot_count → inherits k ≡ false → SaidAlike main_record k x × NotInherited main_record k x above
  -- each pseudo record: something is declared for it of the element, or nothing above
  pub pseudo-records : (r : ℕ) → r < record_count → ¬ (r ≡ main_record) → (declares r (crate_declared x) ≡ true) ⊎ All (λ z. declares r (crate_declared z) ≡ false) above
  -- each of its slots
  pub pseudo-slots : (r k : ℕ) → r < record_count → ¬ (r ≡ main_record) → k < slot_count → SaidAlike r k x × NotInherited r k x above
  -- and those that inherit
  pub pseudo-inheriting : (r k : ℕ) → r < record_count → ¬ (r ≡ main_record) → k < slot_count → inherits k ≡ true → NotFilled r k x above
