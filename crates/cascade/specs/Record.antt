-- Computed styles (`ComputedStyle` of src/lib.rs): three records of slots, and the cascades as folds of declarations into them. Values are of any type: in a
-- row three numbers, in a computed style what a declaration says. Assumes nothing: these are definitions.
use Rattle.std.specs.Prelude.{◌≡◌, Bool, true, false, ℕ, ◌+◌, ◌<◌, ltb, length, get_or, set, replicate}
use mathlib.Core.List.{List, [], ◌∷◌, ◌++◌, map, foldl}
use Rattle.combinators.specs.Choice.{pick, or, and, is}
use Rattle.syntax.specs.Layout.{colour_slot, white_space_slot, visibility_slot, last_slot}
use Rattle.syntax.specs.Style.{agent_origin, user_origin, author_origin}
use Rattle.cascade.specs.declared.specificity.Specificity.{Specificity}
use Rattle.cascade.specs.declared.slots.Cascade.{Cascade}
use Rattle.cascade.specs.declared.slots.Cascade.TheVariants.{Crate, Book}
use Rattle.cascade.specs.Specificity.{no_specificity, inline_specificity}
use Rattle.cascade.specs.Slot.{Candidate, Slot, empty, held, update_by, fill_update, Specified}

-- ---- a record has a slot for each slot number of the compiled sheet (`syntax`: colour, background, display, white space, content, visibility). S-9: "a sixth slot"
abbrev pub slot_count : ℕ
slot_count = last_slot + 1

pub record Record (A : Type 0) : Type 0 where
  pub present : Bool
  pub slots : List (Slot A)

-- ---- the element's own record, and those of its pseudo-elements, by the pseudo numbers of the compiled sheet
abbrev pub record_count : ℕ
record_count = 3

abbrev pub main_record : ℕ
main_record = 0

abbrev pub before_record : ℕ
before_record = 1

abbrev pub after_record : ℕ
after_record = 2

pub record ComputedStyle (A : Type 0) : Type 0 where
  pub main : Record A
  pub before : Record A
  pub after : Record A

-- each record has all its slots
pub record Formed {A : Type 0} (s : ComputedStyle A) : Type 0 where
  pub main : length s.main.slots ≡ slot_count
  pub before : length s.before.slots ≡ slot_count
  pub after : length s.after.slots ≡ slot_count

-- a record by its number, where any but the first two is the last (`is_named` keeps others away), and a slot by its record's number and its own
unfoldable pub record_in : {A : Type 0} → ComputedStyle A → ℕ → Record A
record_in s r = pick (is r main_record) s.main (pick (is r before_record) s.before s.after)

unfoldable pub slot_of : {A : Type 0} → Record A → ℕ → Slot A
slot_of p k = get_or p.slots k empty

unfoldable pub slot_in : {A : Type 0} → ComputedStyle A → ℕ → ℕ → Slot A
slot_in s r k = slot_of (record_in s r) k

-- nothing is declared
unfoldable pub empty_record : {A : Type 0} → Record A
empty_record = record { present = false; slots = replicate slot_count empty }

unfoldable pub empty_style : {A : Type 0} → ComputedStyle A
empty_style = record { main = empty_record; before = empty_record; after = empty_record }

-- ---- one slot updated; its record is then present
unfoldable pub update_record : {A : Type 0} → ℕ → (Slot A → Slot A) → Record A → Record A
update_record k u p = record { present = true; slots = set p.slots k (u (slot_of p k)) }

unfoldable pub update_style : {A : Type 0} → ℕ → ℕ → (Slot A → Slot A) → ComputedStyle A → ComputedStyle A
update_style r k u s =
    pick (is r main_record) (record { main = update_record k u s.main; before = s.before; after = s.after })
    (pick (is r before_record) (record { main = s.main; before = update_record k u s.before; after = s.after })
    (record { main = s.main; before = s.before; after = update_record k u s.after }))

-- ---- what a style of a rule or of an attribute declares: for which record and slot, and what
pub record Declared (A : Type 0) : Type 0 where
  pub pseudo : ℕ
  pub slot : ℕ
  pub candidate : Candidate A

-- it names a record and a slot that there are
unfoldable pub is_named : ℕ → ℕ → Bool
is_named r k = and (ltb r record_count) (ltb k slot_count)

-- one declaration by an update of slots (`merge_computed_style`); where it names no slot that there is, nothing changes
unfoldable pub merge_by : {A : Type 0} → (Slot A → Candidate A → Slot A) → ComputedStyle A → Declared A → ComputedStyle A
merge_by u s d = pick (is_named d.pseudo d.slot) (update_style d.pseudo d.slot (λ x. u x d.candidate) s) s

-- ---- what an element begins with: the main record is always present
-- in the crate's cascade all slots of its parent (`inherit`)
unfoldable pub inherit : {A : Type 0} → ComputedStyle A → ComputedStyle A
inherit s = record { main = record { present = true; slots = s.main.slots }; before = s.before; after = s.after }

-- in the book order nothing, for what it inherits comes behind what is declared
unfoldable pub inherit_by : {A : Type 0} → Cascade → ComputedStyle A → ComputedStyle A
inherit_by Crate s = inherit s
inherit_by Book s = inherit empty_style

-- ---- what an element hands on in the book order, from its main record. S-2: "Colour and white space inherit, with the parent's nine numbers; background,
-- display and content do not." S-9, of visibility: "It inherits in book order."
unfoldable pub inherits : ℕ → Bool
inherits k = or (is k colour_slot) (or (is k white_space_slot) (is k visibility_slot))

pub record Handed (A : Type 0) : Type 0 where
  pub colour : Slot A
  pub white_space : Slot A
  pub visibility : Slot A

unfoldable pub handed_by : {A : Type 0} → ComputedStyle A → Handed A
handed_by s =
    record {
      colour = slot_in s main_record colour_slot;
      white_space = slot_in s main_record white_space_slot;
      visibility = slot_in s main_record visibility_slot;
    }

-- what a slot hands on to slot k of record r: its value with all that weighs for it, where it holds one
unfoldable pub handed_slot : {A : Type 0} → ℕ → ℕ → Slot A → List (Declared A)
handed_slot r k empty = []
handed_slot r k (held c) = record { pseudo = r; slot = k; candidate = c } ∷ []

unfoldable pub handed_on : {A : Type 0} → ℕ → Handed A → List (Declared A)
handed_on r h =
    handed_slot r colour_slot h.colour ++ (handed_slot r white_space_slot h.white_space ++ handed_slot r visibility_slot h.visibility)

-- a record filled from what is handed on
unfoldable pub fill_record : {A : Type 0} → ℕ → Handed A → ComputedStyle A → ComputedStyle A
fill_record r h s = foldl (merge_by fill_update) s (handed_on r h)

-- "A pseudo record is present only if a rule on this element adds to it, and inherits from this element's main record."
unfoldable pub fill_pseudo : {A : Type 0} → ℕ → ComputedStyle A → ComputedStyle A
fill_pseudo r s = pick (record_in s r).present (fill_record r (handed_by s) s) s

-- ---- what an element ends with, behind its declarations: in the crate's cascade nothing more, in the book order what it inherits
unfoldable pub finish_by : {A : Type 0} → Cascade → Handed A → ComputedStyle A → ComputedStyle A
finish_by Crate parent s = s
finish_by Book parent s = fill_pseudo after_record (fill_pseudo before_record (fill_record main_record parent s))

-- ---- what the sheets and the attributes say of an element
-- a style: its slot, whether it is important, and its value
pub record Styled (A : Type 0) : Type 0 where
  pub slot : ℕ
  pub important : Bool
  pub value : A

-- a style of a rule that matches
pub record RuleStyle (A : Type 0) : Type 0 where
  pub pseudo : ℕ
  pub spec : Specificity
  pub style : Styled A

-- a style of a `style` attribute, or of `color` or `bgcolor`
pub record AttributeStyle (A : Type 0) : Type 0 where
  pub is_style : Bool
  pub style : Styled A

-- rules in reading order, attributes in attribute order
pub record Sources (A : Type 0) : Type 0 where
  pub agent : List (RuleStyle A)
  pub user : List (RuleStyle A)
  pub author : List (RuleStyle A)
  pub attributes : List (AttributeStyle A)

unfoldable pub from_rule : {A : Type 0} → ℕ → RuleStyle A → Declared A
from_rule o x =
    record {
      pseudo = x.pseudo;
      slot = x.style.slot;
      candidate = record { weight = record { important = x.style.important; origin = o; spec = x.spec }; value = x.style.value };
    }

-- a main author declaration of an attribute
unfoldable pub from_attribute : {A : Type 0} → Bool → Specificity → AttributeStyle A → Declared A
from_attribute i p x =
    record {
      pseudo = main_record;
      slot = x.style.slot;
      candidate = record { weight = record { important = i; origin = author_origin; spec = p }; value = x.style.value };
    }

-- ---- the crate's cascade (`computed_style`): agent, user, author, then the attributes, all inline and none important; the slip would be
-- "Taking inline `!important` as important in the crate's cascade"
unfoldable pub crate_declared : {A : Type 0} → Sources A → List (Declared A)
crate_declared x =
    map (from_rule agent_origin) x.agent
    ++ (map (from_rule user_origin) x.user
    ++ (map (from_rule author_origin) x.author
    ++ map (from_attribute false inline_specificity) x.attributes))

-- ---- the book order: agent, user, `color` and `bgcolor` as author values of specificity 0, author, then the `style` attributes, important where they say so
unfoldable pub colour_attributes : {A : Type 0} → List (AttributeStyle A) → List (Declared A)
colour_attributes [] = []
colour_attributes (x ∷ xs) = pick x.is_style [] (from_attribute false no_specificity x ∷ []) ++ colour_attributes xs

unfoldable pub style_attributes : {A : Type 0} → List (AttributeStyle A) → List (Declared A)
style_attributes [] = []
style_attributes (x ∷ xs) = pick x.is_style (from_attribute x.style.important inline_specificity x ∷ []) [] ++ style_attributes xs

unfoldable pub book_declared : {A : Type 0} → Sources A → List (Declared A)
book_declared x =
    map (from_rule agent_origin) x.agent
    ++ (map (from_rule user_origin) x.user
    ++ (colour_attributes x.attributes
    ++ (map (from_rule author_origin) x.author
    ++ style_attributes x.attributes)))

unfoldable pub declared_by : {A : Type 0} → Cascade → Sources A → List (Declared A)
declared_by Crate x = crate_declared x
declared_by Book x = book_declared x

-- ---- the style of a child, from its parent's and from what is said of it
unfoldable pub cascade_by : {A : Type 0} → Cascade → ComputedStyle A → Sources A → ComputedStyle A
cascade_by c parent x = finish_by c (handed_by parent) (foldl (merge_by (update_by c)) (inherit_by c parent) (declared_by c x))

-- ---- the candidates for a slot, in order of appearance
unfoldable pub candidates_for : {A : Type 0} → ℕ → ℕ → List (Declared A) → List (Candidate A)
candidates_for r k [] = []
candidates_for r k (d ∷ ds) = pick (and (is d.pseudo r) (is d.slot k)) (d.candidate ∷ []) [] ++ candidates_for r k ds

-- some declaration names a slot of a record
unfoldable pub declares : {A : Type 0} → ℕ → List (Declared A) → Bool
declares r [] = false
declares r (d ∷ ds) = or (and (is_named d.pseudo d.slot) (is d.pseudo r)) (declares r ds)

-- ---- what the book order is to leave of what is declared, below a parent: each slot of the main record by what is declared for it, else by the parent's main
-- record; a pseudo record present only if something is declared for it, and then each of its slots by that, else by the element's own main record
pub record BookDecides {A : Type 0} (parent s : ComputedStyle A) (ds : List (Declared A)) : Type 0 where
  pub main : (k : ℕ) → k < slot_count → Specified (slot_in s main_record k) (inherits k) (candidates_for main_record k ds) (slot_in parent main_record k)
  pub main-present : s.main.present ≡ true
  pub present : (r : ℕ) → r < record_count → ¬ (r ≡ main_record) → (record_in s r).present ≡ declares r ds
  pub pseudo : (r k : ℕ) → r < record_count → ¬ (r ≡ main_record) → k < slot_count
      → Specified (slot_in s r k) (and (record_in s r).present (inherits k)) (candidates_for r k ds) (slot_in s main_record k)
