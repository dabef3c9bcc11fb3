-- A slot of a style (`WithSpec` of src/lib.rs), the candidates for its value, and what a new candidate makes of it: as the crate does it, and in the order of
-- CSS Cascading Level 3. A value is of any type: an update only moves it. Assumes nothing: these are definitions.
use Rattle.std.specs.Prelude.{◌≡◌, Bool, true, false, List, [], ◌∷◌, ◌++◌, ℕ, ◌<◌, ltb, Option, Some, None}
use Rattle.combinators.specs.All.{All}
use Rattle.combinators.specs.Choice.{pick, or, is}
use Rattle.syntax.specs.Style.{agent_origin, user_origin}
use Rattle.syntax.specs.declared.styles.Value.{Value}
use Rattle.cascade.specs.declared.slots.Weight.{Weight}
use Rattle.cascade.specs.declared.slots.Candidate as code
use Rattle.cascade.specs.declared.slots.Slot as slots
use Rattle.cascade.specs.declared.slots.Rank.{Rank}
use Rattle.cascade.specs.declared.slots.Rank.TheVariants.{NormalAgent, NormalUser, NormalAuthor, ImportantAuthor, ImportantUser, ImportantAgent}
use Rattle.cascade.specs.declared.slots.Cascade.{Cascade}
use Rattle.cascade.specs.declared.slots.Cascade.TheVariants.{Crate, Book}
use Rattle.cascade.specs.Specificity.{less_then, less, LessSpecific}

-- ---- a value that a declaration offers a slot, with what weighs for it: whether it is important, its origin and its specificity
pub record Candidate (A : Type 0) : Type 0 where
  pub weight : Weight
  pub value : A

-- a slot holds nothing (`Default for WithSpec`) or the value of a candidate
pub data Slot (A : Type 0) : Type 0 where
  empty : Slot A
  held : Candidate A → Slot A

-- ---- the crate's update (`maybe_update`), in its order of tests
-- `self.important && !important`
unfoldable pub held_by_importance : Weight → Weight → Bool
held_by_importance own new = pick new.important false own.important

-- `(important && theirs > mine) || (!important && mine > theirs)`, which is false where the origins are the same, so that the crate's own test for that is not needed
unfoldable pub held_by_origin : Weight → Weight → Bool
held_by_origin own new = pick new.important (ltb own.origin new.origin) (ltb new.origin own.origin)

-- a value stays against a new one
unfoldable pub held_against : Weight → Weight → Bool
held_against own new = or (held_by_importance own new) (or (held_by_origin own new) (less new.spec own.spec))

-- an empty slot takes the candidate, and so does a filled one whose value does not stay
unfoldable pub maybe_update : {A : Type 0} → Slot A → Candidate A → Slot A
maybe_update empty x = held x
maybe_update (held c) x = pick (held_against c.weight x.weight) (held c) (held x)

-- ---- CSS Cascading Level 3, section 6.1 (numbers of sections are from memory): origin and importance
abbrev pub normal_agent : ℕ
normal_agent = 0

abbrev pub normal_user : ℕ
normal_user = 1

abbrev pub normal_author : ℕ
normal_author = 2

abbrev pub important_author : ℕ
important_author = 3

abbrev pub important_user : ℕ
important_user = 4

abbrev pub important_agent : ℕ
important_agent = 5

-- "Rank: normal agent, user, author, then important author, user, agent; then inline; then specificity; then later wins": the first part, as a number. What is no origin ranks as author.
unfoldable pub rank : ℕ → Bool → ℕ
rank o i =
    pick i (pick (is o agent_origin) important_agent (pick (is o user_origin) important_user important_author))
    (pick (is o agent_origin) normal_agent (pick (is o user_origin) normal_user normal_author))

-- that of a weight
unfoldable pub rank_of : Weight → ℕ
rank_of w = rank w.origin w.important

-- the first loses to the second wherever it stands: by origin and importance, or where these are the same by specificity
pub data Weaker (x y : Weight) : Type 0 where
  by_rank : rank_of x < rank_of y → Weaker x y
  by-specificity : rank_of x ≡ rank_of y → LessSpecific x.spec y.spec → Weaker x y

-- the same as a test
unfoldable pub weaker : Weight → Weight → Bool
weaker x y = less_then (rank_of x) (rank_of y) (less x.spec y.spec)

-- the winner of a list in order of appearance, the last of the strongest: it stands in the list, it loses to none before it, and it beats all behind it
pub record Winner {A : Type 0} (w : Candidate A) (l : List (Candidate A)) : Type 0 where
  pub earlier : List (Candidate A)
  pub later : List (Candidate A)
  pub split : l ≡ earlier ++ (w ∷ later)
  pub unbeaten : All (λ y. ¬ (Weaker w.weight y.weight)) earlier
  pub beats : All (λ y. Weaker y.weight w.weight) later

-- a slot holds the value of the winner of a list
pub record Won {A : Type 0} (s : Slot A) (l : List (Candidate A)) : Type 0 where
  pub candidate : Candidate A
  pub holds : s ≡ held candidate
  pub wins : Winner candidate l

-- ---- the update in that order
-- a value stays against a weaker one
unfoldable pub held_in_book : Weight → Weight → Bool
held_in_book own new = weaker new own

-- of two as strong the later wins
unfoldable pub book_update : {A : Type 0} → Slot A → Candidate A → Slot A
book_update empty x = held x
book_update (held c) x = pick (held_in_book c.weight x.weight) (held c) (held x)

-- ---- the update of either cascade
unfoldable pub update_by : {A : Type 0} → Cascade → Slot A → Candidate A → Slot A
update_by Crate s x = maybe_update s x
update_by Book s x = book_update s x

-- ---- what an inherited value makes of a slot in the book order. S-2: "By CSS Cascading an inherited value fills a slot only if nothing declared on the
-- element fills it."
unfoldable pub fill_update : {A : Type 0} → Slot A → Candidate A → Slot A
fill_update empty x = held x
fill_update (held c) x = held c

-- ---- what a slot is to hold by CSS Cascading Level 3. Section 4: the value that wins the cascade; section 7, "Defaulting": where the cascade results in none,
-- an inherited property takes its parent's value (7.2), any other its initial value (7.1), which here is nothing
pub data Specified {A : Type 0} (s : Slot A) (inherits : Bool) (declared : List (Candidate A)) (parent : Slot A) : Type 0 where
  by-cascade : Won s declared → Specified s inherits declared parent
  by-inheritance : declared ≡ [] → inherits ≡ true → s ≡ parent → Specified s inherits declared parent
  by_default : declared ≡ [] → inherits ≡ false → s ≡ empty → Specified s inherits declared parent

-- ---- what the code's values say
-- the number of a rank
abbrev pub rank_number : Rank → ℕ
rank_number NormalAgent = normal_agent
rank_number NormalUser = normal_user
rank_number NormalAuthor = normal_author
rank_number ImportantAuthor = important_author
rank_number ImportantUser = important_user
rank_number ImportantAgent = important_agent

-- a candidate
abbrev pub candidate_by : code.Candidate → Candidate Value
candidate_by c = record { weight = c.weight; value = c.value }

-- what a slot holds
unfoldable pub held_by : Option code.Candidate → Slot Value
held_by (Some c) = held (candidate_by c)
held_by None = empty

-- a slot
abbrev pub slot_by : slots.Slot → Slot Value
slot_by s = held_by s.held
