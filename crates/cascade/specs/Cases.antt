-- Computed cases of both cascades, side by side: the numbers of a slot, mostly the colour of an element's own record, in the crate's cascade and in the book order.
use Rattle.std.specs.Prelude.{◌≡◌, refl, Bool, true, false, List, [], ◌∷◌, map, ℕ, ◌+◌}
use Rattle.combinators.specs.Choice.{pick, or, and, is}
use Rattle.syntax.specs.Layout.{colour_slot, background_slot, visibility_slot, flag}
use Rattle.cascade.specs.declared.specificity.Specificity.{Specificity}
use Rattle.cascade.specs.Specificity.{specificity_of, no_specificity, inline_specificity, less_then, less_by_selector, less}
use Rattle.syntax.specs.Layout.{value_numbers}
use Rattle.syntax.specs.declared.styles.Value.{Value}
use Rattle.cascade.specs.declared.slots.Cascade.{Cascade}
use Rattle.cascade.specs.declared.slots.Cascade.TheVariants.{Crate, Book}
use Rattle.cascade.specs.Slot.{Slot, empty, held, held_by_importance, held_by_origin, held_against, maybe_update, rank, rank_of, weaker, held_in_book, book_update, update_by, fill_update}
use Rattle.cascade.specs.Record.{main_record, before_record, ComputedStyle, record_in, slot_of, slot_in, empty_record, empty_style, update_record, update_style, is_named, merge_by, inherit, inherit_by, inherits, handed_by, handed_slot, handed_on, fill_record, fill_pseudo, finish_by, RuleStyle, AttributeStyle, Sources, from_rule, from_attribute, crate_declared, colour_attributes, style_attributes, book_declared, declared_by, cascade_by}
use Rattle.cascade.specs.Row.{slot_numbers}

-- ---- what is said in the cases
abbrev pub red : ℕ
red = 0xff0000

abbrev pub blue : ℕ
blue = 0x0000ff

-- the numbers of `visible` and `hidden`
abbrev visible : ℕ
visible = 0

abbrev hidden : ℕ
hidden = 1

-- where the declaration of a value starts, so that a case shows whose start goes with the value
abbrev pub start_of : ℕ → ℕ
start_of v = v + 1

-- the specificities of `p`, `.k` and `#i`
abbrev pub by_type : Specificity
by_type = record { inline = false; id = 0; class = 0; typ = 1 }

abbrev pub by_class : Specificity
by_class = record { inline = false; id = 0; class = 1; typ = 0 }

abbrev pub by_id : Specificity
by_id = record { inline = false; id = 1; class = 0; typ = 0 }

-- a rule's style for a slot, its `color`, and one of a `style` attribute or a `color` attribute
abbrev rule_for : ℕ → ℕ → Specificity → Bool → ℕ → RuleStyle Value
rule_for k r p i v = record { pseudo = r; spec = p; style = record { slot = k; important = i; value = record { number = v; second = 0; start = start_of v } } }

abbrev pub rule : ℕ → Specificity → Bool → ℕ → RuleStyle Value
rule r p i v = rule_for colour_slot r p i v

abbrev attribute : Bool → Bool → ℕ → AttributeStyle Value
attribute s i v = record { is_style = s; style = record { slot = colour_slot; important = i; value = record { number = v; second = 0; start = start_of v } } }

abbrev pub by_author : List (RuleStyle Value) → List (AttributeStyle Value) → Sources Value
by_author rs xs = record { agent = []; user = []; author = rs; attributes = xs }

abbrev by_agent : List (RuleStyle Value) → Sources Value
by_agent rs = record { agent = rs; user = []; author = []; attributes = [] }

-- a body whose slot k has v by `#b` with `!important`, in a cascade, and what is said of a link by a rule `a` of the agent
abbrev body : Cascade → ℕ → ℕ → ComputedStyle Value
body c k v = cascade_by c empty_style (by_author (rule_for k main_record by_id true v ∷ []) [])

abbrev link : ℕ → ℕ → Sources Value
link k v = by_agent (rule_for k main_record by_type false v ∷ [])

-- what is said of an element by a rule for `::before` that has nothing but a slot k
abbrev before_with : ℕ → ℕ → Sources Value
before_with k v = by_author (rule_for k before_record by_type false v ∷ []) []

-- whether a child without rules has what its parent declares for a slot
abbrev inherited_in : ℕ → Bool
inherited_in k =
    is_filled (slot_in (cascade_by Book (cascade_by Book empty_style (by_author (rule_for k main_record by_type false 1 ∷ []) [])) (by_author [] [])) main_record k)
  where
    is_filled : Slot Value → Bool
    is_filled empty = false
    is_filled (held c) = true

-- the numbers of a slot of a record that the cascade leaves, and of its colour: the crate's, then the book's
abbrev numbers_for : ℕ → ComputedStyle Value → ℕ → List ℕ
numbers_for k s r = slot_numbers (slot_in s r k)

abbrev numbers_in : ComputedStyle Value → ℕ → List ℕ
numbers_in s r = numbers_for colour_slot s r

-- ---- the cases of document 01
-- agent normal, then author important: the crate keeps the agent's, the book order takes the author's
test-agent-then-important-author :
    (numbers_in (cascade_by Crate empty_style (record { agent = rule main_record by_type false red ∷ []; user = []; author = rule main_record by_type true blue ∷ []; attributes = [] })) main_record ≡ 1 ∷ 1 ∷ 0 ∷ 0 ∷ 0 ∷ 1 ∷ 0 ∷ red ∷ 0 ∷ start_of red ∷ [])
    × (numbers_in (cascade_by Book empty_style (record { agent = rule main_record by_type false red ∷ []; user = []; author = rule main_record by_type true blue ∷ []; attributes = [] })) main_record ≡ 1 ∷ 3 ∷ 0 ∷ 0 ∷ 0 ∷ 1 ∷ 1 ∷ blue ∷ 0 ∷ start_of blue ∷ [])
unfolding pick or and is flag value_numbers specificity_of no_specificity inline_specificity less_then less_by_selector less held_by_importance held_by_origin held_against maybe_update rank rank_of weaker held_in_book book_update update_by fill_update record_in slot_of slot_in empty_record empty_style update_record update_style is_named merge_by inherit inherit_by handed_by handed_slot handed_on fill_record fill_pseudo finish_by from_rule from_attribute crate_declared colour_attributes style_attributes book_declared declared_by cascade_by slot_numbers
test-agent-then-important-author = (refl, refl)

-- the parent is coloured by `#i`, the child by `.k`: the crate keeps the parent's colour, the book order takes the child's
test-inherited-id :
    (numbers_in (cascade_by Crate (cascade_by Crate empty_style (by_author (rule main_record by_id false red ∷ []) [])) (by_author (rule main_record by_class false blue ∷ []) [])) main_record ≡ 1 ∷ 3 ∷ 0 ∷ 1 ∷ 0 ∷ 0 ∷ 0 ∷ red ∷ 0 ∷ start_of red ∷ [])
    × (numbers_in (cascade_by Book (cascade_by Book empty_style (by_author (rule main_record by_id false red ∷ []) [])) (by_author (rule main_record by_class false blue ∷ []) [])) main_record ≡ 1 ∷ 3 ∷ 0 ∷ 0 ∷ 1 ∷ 0 ∷ 0 ∷ blue ∷ 0 ∷ start_of blue ∷ [])
unfolding pick or and is flag value_numbers specificity_of no_specificity inline_specificity less_then less_by_selector less held_by_importance held_by_origin held_against maybe_update rank rank_of weaker held_in_book book_update update_by fill_update record_in slot_of slot_in empty_record empty_style update_record update_style is_named merge_by inherit inherit_by handed_by handed_slot handed_on fill_record fill_pseudo finish_by from_rule from_attribute crate_declared colour_attributes style_attributes book_declared declared_by cascade_by slot_numbers
test-inherited-id = (refl, refl)

-- ---- others
-- `style` against `#i` with `!important`: the rule wins in both
test-style-against-important :
    (numbers_in (cascade_by Crate empty_style (by_author (rule main_record by_id true red ∷ []) (attribute true false blue ∷ []))) main_record ≡ 1 ∷ 3 ∷ 0 ∷ 1 ∷ 0 ∷ 0 ∷ 1 ∷ red ∷ 0 ∷ start_of red ∷ [])
    × (numbers_in (cascade_by Book empty_style (by_author (rule main_record by_id true red ∷ []) (attribute true false blue ∷ []))) main_record ≡ 1 ∷ 3 ∷ 0 ∷ 1 ∷ 0 ∷ 0 ∷ 1 ∷ red ∷ 0 ∷ start_of red ∷ [])
unfolding pick or and is flag value_numbers specificity_of no_specificity inline_specificity less_then less_by_selector less held_by_importance held_by_origin held_against maybe_update rank rank_of weaker held_in_book book_update update_by fill_update record_in slot_of slot_in empty_record empty_style update_record update_style is_named merge_by inherit inherit_by handed_by handed_slot handed_on fill_record fill_pseudo finish_by from_rule from_attribute crate_declared colour_attributes style_attributes book_declared declared_by cascade_by slot_numbers
test-style-against-important = (refl, refl)

-- `style` with `!important` against it: the crate does not count it as important, the book order does
test-important-style-against-important :
    (numbers_in (cascade_by Crate empty_style (by_author (rule main_record by_id true red ∷ []) (attribute true true blue ∷ []))) main_record ≡ 1 ∷ 3 ∷ 0 ∷ 1 ∷ 0 ∷ 0 ∷ 1 ∷ red ∷ 0 ∷ start_of red ∷ [])
    × (numbers_in (cascade_by Book empty_style (by_author (rule main_record by_id true red ∷ []) (attribute true true blue ∷ []))) main_record ≡ 1 ∷ 3 ∷ 1 ∷ 0 ∷ 0 ∷ 0 ∷ 1 ∷ blue ∷ 0 ∷ start_of blue ∷ [])
unfolding pick or and is flag value_numbers specificity_of no_specificity inline_specificity less_then less_by_selector less held_by_importance held_by_origin held_against maybe_update rank rank_of weaker held_in_book book_update update_by fill_update record_in slot_of slot_in empty_record empty_style update_record update_style is_named merge_by inherit inherit_by handed_by handed_slot handed_on fill_record fill_pseudo finish_by from_rule from_attribute crate_declared colour_attributes style_attributes book_declared declared_by cascade_by slot_numbers
test-important-style-against-important = (refl, refl)

-- an important `style` alone: the crate writes important 0
test-important-style :
    (numbers_in (cascade_by Crate empty_style (by_author [] (attribute true true blue ∷ []))) main_record ≡ 1 ∷ 3 ∷ 1 ∷ 0 ∷ 0 ∷ 0 ∷ 0 ∷ blue ∷ 0 ∷ start_of blue ∷ [])
    × (numbers_in (cascade_by Book empty_style (by_author [] (attribute true true blue ∷ []))) main_record ≡ 1 ∷ 3 ∷ 1 ∷ 0 ∷ 0 ∷ 0 ∷ 1 ∷ blue ∷ 0 ∷ start_of blue ∷ [])
unfolding pick or and is flag value_numbers specificity_of no_specificity inline_specificity less_then less_by_selector less held_by_importance held_by_origin held_against maybe_update rank rank_of weaker held_in_book book_update update_by fill_update record_in slot_of slot_in empty_record empty_style update_record update_style is_named merge_by inherit inherit_by handed_by handed_slot handed_on fill_record fill_pseudo finish_by from_rule from_attribute crate_declared colour_attributes style_attributes book_declared declared_by cascade_by slot_numbers
test-important-style = (refl, refl)

-- a `color` attribute against an author rule: in the crate it is inline and wins, in the book order it loses
test-colour-attribute :
    (numbers_in (cascade_by Crate empty_style (by_author (rule main_record by_type false red ∷ []) (attribute false false blue ∷ []))) main_record ≡ 1 ∷ 3 ∷ 1 ∷ 0 ∷ 0 ∷ 0 ∷ 0 ∷ blue ∷ 0 ∷ start_of blue ∷ [])
    × (numbers_in (cascade_by Book empty_style (by_author (rule main_record by_type false red ∷ []) (attribute false false blue ∷ []))) main_record ≡ 1 ∷ 3 ∷ 0 ∷ 0 ∷ 0 ∷ 1 ∷ 0 ∷ red ∷ 0 ∷ start_of red ∷ [])
unfolding pick or and is flag value_numbers specificity_of no_specificity inline_specificity less_then less_by_selector less held_by_importance held_by_origin held_against maybe_update rank rank_of weaker held_in_book book_update update_by fill_update record_in slot_of slot_in empty_record empty_style update_record update_style is_named merge_by inherit inherit_by handed_by handed_slot handed_on fill_record fill_pseudo finish_by from_rule from_attribute crate_declared colour_attributes style_attributes book_declared declared_by cascade_by slot_numbers
test-colour-attribute = (refl, refl)

-- a later rule of equal specificity wins in both
test-later-rule :
    (numbers_in (cascade_by Crate empty_style (by_author (rule main_record by_type false red ∷ rule main_record by_type false blue ∷ []) [])) main_record ≡ 1 ∷ 3 ∷ 0 ∷ 0 ∷ 0 ∷ 1 ∷ 0 ∷ blue ∷ 0 ∷ start_of blue ∷ [])
    × (numbers_in (cascade_by Book empty_style (by_author (rule main_record by_type false red ∷ rule main_record by_type false blue ∷ []) [])) main_record ≡ 1 ∷ 3 ∷ 0 ∷ 0 ∷ 0 ∷ 1 ∷ 0 ∷ blue ∷ 0 ∷ start_of blue ∷ [])
unfolding pick or and is flag value_numbers specificity_of no_specificity inline_specificity less_then less_by_selector less held_by_importance held_by_origin held_against maybe_update rank rank_of weaker held_in_book book_update update_by fill_update record_in slot_of slot_in empty_record empty_style update_record update_style is_named merge_by inherit inherit_by handed_by handed_slot handed_on fill_record fill_pseudo finish_by from_rule from_attribute crate_declared colour_attributes style_attributes book_declared declared_by cascade_by slot_numbers
test-later-rule = (refl, refl)

-- an author rule that is less specific than an agent's: the crate still compares the specificities, the book order does not
test-specific-agent :
    (numbers_in (cascade_by Crate empty_style (record { agent = rule main_record by_class false red ∷ []; user = []; author = rule main_record by_type false blue ∷ []; attributes = [] })) main_record ≡ 1 ∷ 1 ∷ 0 ∷ 0 ∷ 1 ∷ 0 ∷ 0 ∷ red ∷ 0 ∷ start_of red ∷ [])
    × (numbers_in (cascade_by Book empty_style (record { agent = rule main_record by_class false red ∷ []; user = []; author = rule main_record by_type false blue ∷ []; attributes = [] })) main_record ≡ 1 ∷ 3 ∷ 0 ∷ 0 ∷ 0 ∷ 1 ∷ 0 ∷ blue ∷ 0 ∷ start_of blue ∷ [])
unfolding pick or and is flag value_numbers specificity_of no_specificity inline_specificity less_then less_by_selector less held_by_importance held_by_origin held_against maybe_update rank rank_of weaker held_in_book book_update update_by fill_update record_in slot_of slot_in empty_record empty_style update_record update_style is_named merge_by inherit inherit_by handed_by handed_slot handed_on fill_record fill_pseudo finish_by from_rule from_attribute crate_declared colour_attributes style_attributes book_declared declared_by cascade_by slot_numbers
test-specific-agent = (refl, refl)

-- an important rule that is less specific than a normal one: the same
test-specific-normal :
    (numbers_in (cascade_by Crate empty_style (by_author (rule main_record by_id false red ∷ rule main_record by_type true blue ∷ []) [])) main_record ≡ 1 ∷ 3 ∷ 0 ∷ 1 ∷ 0 ∷ 0 ∷ 0 ∷ red ∷ 0 ∷ start_of red ∷ [])
    × (numbers_in (cascade_by Book empty_style (by_author (rule main_record by_id false red ∷ rule main_record by_type true blue ∷ []) [])) main_record ≡ 1 ∷ 3 ∷ 0 ∷ 0 ∷ 0 ∷ 1 ∷ 1 ∷ blue ∷ 0 ∷ start_of blue ∷ [])
unfolding pick or and is flag value_numbers specificity_of no_specificity inline_specificity less_then less_by_selector less held_by_importance held_by_origin held_against maybe_update rank rank_of weaker held_in_book book_update update_by fill_update record_in slot_of slot_in empty_record empty_style update_record update_style is_named merge_by inherit inherit_by handed_by handed_slot handed_on fill_record fill_pseudo finish_by from_rule from_attribute crate_declared colour_attributes style_attributes book_declared declared_by cascade_by slot_numbers
test-specific-normal = (refl, refl)

-- an important value is inherited as important by the crate, so the child's own rule does not count; in the book order it does
test-inherited-important :
    (numbers_in (cascade_by Crate (cascade_by Crate empty_style (by_author (rule main_record by_type true red ∷ []) [])) (by_author (rule main_record by_id false blue ∷ []) [])) main_record ≡ 1 ∷ 3 ∷ 0 ∷ 0 ∷ 0 ∷ 1 ∷ 1 ∷ red ∷ 0 ∷ start_of red ∷ [])
    × (numbers_in (cascade_by Book (cascade_by Book empty_style (by_author (rule main_record by_type true red ∷ []) [])) (by_author (rule main_record by_id false blue ∷ []) [])) main_record ≡ 1 ∷ 3 ∷ 0 ∷ 1 ∷ 0 ∷ 0 ∷ 0 ∷ blue ∷ 0 ∷ start_of blue ∷ [])
unfolding pick or and is flag value_numbers specificity_of no_specificity inline_specificity less_then less_by_selector less held_by_importance held_by_origin held_against maybe_update rank rank_of weaker held_in_book book_update update_by fill_update record_in slot_of slot_in empty_record empty_style update_record update_style is_named merge_by inherit inherit_by handed_by handed_slot handed_on fill_record fill_pseudo finish_by from_rule from_attribute crate_declared colour_attributes style_attributes book_declared declared_by cascade_by slot_numbers
test-inherited-important = (refl, refl)

-- an inherited value against an agent's rule: in both the child's own rule counts, for in the crate it keeps the origin that it had
test-inherited-agent :
    (numbers_in (cascade_by Crate (cascade_by Crate empty_style (by_agent (rule main_record by_type false red ∷ []))) (by_agent (rule main_record by_type false blue ∷ []))) main_record ≡ 1 ∷ 1 ∷ 0 ∷ 0 ∷ 0 ∷ 1 ∷ 0 ∷ blue ∷ 0 ∷ start_of blue ∷ [])
    × (numbers_in (cascade_by Book (cascade_by Book empty_style (by_agent (rule main_record by_type false red ∷ []))) (by_agent (rule main_record by_type false blue ∷ []))) main_record ≡ 1 ∷ 1 ∷ 0 ∷ 0 ∷ 0 ∷ 1 ∷ 0 ∷ blue ∷ 0 ∷ start_of blue ∷ [])
unfolding pick or and is flag value_numbers specificity_of no_specificity inline_specificity less_then less_by_selector less held_by_importance held_by_origin held_against maybe_update rank rank_of weaker held_in_book book_update update_by fill_update record_in slot_of slot_in empty_record empty_style update_record update_style is_named merge_by inherit inherit_by handed_by handed_slot handed_on fill_record fill_pseudo finish_by from_rule from_attribute crate_declared colour_attributes style_attributes book_declared declared_by cascade_by slot_numbers
test-inherited-agent = (refl, refl)

-- ---- S-2, own link colours beat the body's
-- body `#b{color:red!important}`, link `a{color:blue}` of the agent: in the crate the link is red, in the book order it is blue by the agent's rule, and so is its child, with the same numbers
test-link :
    (numbers_in (cascade_by Crate (body Crate colour_slot red) (link colour_slot blue)) main_record ≡ 1 ∷ 3 ∷ 0 ∷ 1 ∷ 0 ∷ 0 ∷ 1 ∷ red ∷ 0 ∷ start_of red ∷ [])
    × (numbers_in (cascade_by Book (body Book colour_slot red) (link colour_slot blue)) main_record ≡ 1 ∷ 1 ∷ 0 ∷ 0 ∷ 0 ∷ 1 ∷ 0 ∷ blue ∷ 0 ∷ start_of blue ∷ [])
    × (numbers_in (cascade_by Book (cascade_by Book (body Book colour_slot red) (link colour_slot blue)) (by_author [] [])) main_record ≡ 1 ∷ 1 ∷ 0 ∷ 0 ∷ 0 ∷ 1 ∷ 0 ∷ blue ∷ 0 ∷ start_of blue ∷ [])
    × (numbers_in (cascade_by Book (body Book colour_slot red) (by_author [] [])) main_record ≡ 1 ∷ 3 ∷ 0 ∷ 1 ∷ 0 ∷ 0 ∷ 1 ∷ red ∷ 0 ∷ start_of red ∷ [])
unfolding pick or and is flag value_numbers specificity_of no_specificity inline_specificity less_then less_by_selector less held_by_importance held_by_origin held_against maybe_update rank rank_of weaker held_in_book book_update update_by fill_update record_in slot_of slot_in empty_record empty_style update_record update_style is_named merge_by inherit inherit_by handed_by handed_slot handed_on fill_record fill_pseudo finish_by from_rule from_attribute crate_declared colour_attributes style_attributes book_declared declared_by cascade_by slot_numbers
test-link = (refl, refl, refl, refl)

-- colour, white space and visibility inherit; background, display and content do not
test-inheriting : map (λ k. inherited_in k) (0 ∷ 1 ∷ 2 ∷ 3 ∷ 4 ∷ 5 ∷ []) ≡ true ∷ false ∷ false ∷ true ∷ false ∷ true ∷ []
unfolding pick or and is flag value_numbers specificity_of no_specificity inline_specificity less_then less_by_selector less held_by_importance held_by_origin held_against maybe_update rank rank_of weaker held_in_book book_update update_by fill_update record_in slot_of slot_in empty_record empty_style update_record update_style is_named merge_by inherit inherit_by handed_by handed_slot handed_on fill_record fill_pseudo finish_by from_rule from_attribute crate_declared colour_attributes style_attributes book_declared declared_by cascade_by slot_numbers inherits
test-inheriting = refl

-- a pseudo record that only a rule of the parent made present is present in the child of the crate alone
test-inherited-pseudo :
    ((record_in (cascade_by Crate (cascade_by Crate empty_style (by_author (rule before_record by_id true red ∷ []) [])) (by_author [] [])) before_record).present ≡ true)
    × ((record_in (cascade_by Book (cascade_by Book empty_style (by_author (rule before_record by_id true red ∷ []) [])) (by_author [] [])) before_record).present ≡ false)
    × (numbers_in (cascade_by Book (cascade_by Book empty_style (by_author (rule before_record by_id true red ∷ []) [])) (by_author [] [])) before_record ≡ 0 ∷ 0 ∷ 0 ∷ 0 ∷ 0 ∷ 0 ∷ 0 ∷ 0 ∷ 0 ∷ 0 ∷ [])
unfolding pick or and is flag value_numbers specificity_of no_specificity inline_specificity less_then less_by_selector less held_by_importance held_by_origin held_against maybe_update rank rank_of weaker held_in_book book_update update_by fill_update record_in slot_of slot_in empty_record empty_style update_record update_style is_named merge_by inherit inherit_by handed_by handed_slot handed_on fill_record fill_pseudo finish_by from_rule from_attribute crate_declared colour_attributes style_attributes book_declared declared_by cascade_by slot_numbers
test-inherited-pseudo = (refl, refl, refl)

-- one that a rule on the element makes present takes the element's own colour, also where that is inherited; in the crate it takes none
test-pseudo-inherits :
    (numbers_in (cascade_by Book (body Book colour_slot red) (before_with background_slot blue)) before_record ≡ 1 ∷ 3 ∷ 0 ∷ 1 ∷ 0 ∷ 0 ∷ 1 ∷ red ∷ 0 ∷ start_of red ∷ [])
    × (numbers_in (cascade_by Crate (body Crate colour_slot red) (before_with background_slot blue)) before_record ≡ 0 ∷ 0 ∷ 0 ∷ 0 ∷ 0 ∷ 0 ∷ 0 ∷ 0 ∷ 0 ∷ 0 ∷ [])
unfolding pick or and is flag value_numbers specificity_of no_specificity inline_specificity less_then less_by_selector less held_by_importance held_by_origin held_against maybe_update rank rank_of weaker held_in_book book_update update_by fill_update record_in slot_of slot_in empty_record empty_style update_record update_style is_named merge_by inherit inherit_by handed_by handed_slot handed_on fill_record fill_pseudo finish_by from_rule from_attribute crate_declared colour_attributes style_attributes book_declared declared_by cascade_by slot_numbers
test-pseudo-inherits = (refl, refl)

-- ---- S-9, `visibility`
-- body `#b{visibility:hidden!important}`, link `a{visibility:visible}` of the agent: in the crate's cascade the link is hidden, in the book order it is visible by the agent's rule, and so is its child,
-- with the same numbers. A pseudo record that only `visibility` makes present takes the element's colour
test-visibility :
    (numbers_for visibility_slot (cascade_by Crate (body Crate visibility_slot hidden) (link visibility_slot visible)) main_record ≡ 1 ∷ 3 ∷ 0 ∷ 1 ∷ 0 ∷ 0 ∷ 1 ∷ hidden ∷ 0 ∷ start_of hidden ∷ [])
    × (numbers_for visibility_slot (cascade_by Book (body Book visibility_slot hidden) (link visibility_slot visible)) main_record ≡ 1 ∷ 1 ∷ 0 ∷ 0 ∷ 0 ∷ 1 ∷ 0 ∷ visible ∷ 0 ∷ start_of visible ∷ [])
    × (numbers_for visibility_slot (cascade_by Book (cascade_by Book (body Book visibility_slot hidden) (link visibility_slot visible)) (by_author [] [])) main_record ≡ 1 ∷ 1 ∷ 0 ∷ 0 ∷ 0 ∷ 1 ∷ 0 ∷ visible ∷ 0 ∷ start_of visible ∷ [])
    × (numbers_in (cascade_by Book (body Book colour_slot red) (before_with visibility_slot hidden)) before_record ≡ 1 ∷ 3 ∷ 0 ∷ 1 ∷ 0 ∷ 0 ∷ 1 ∷ red ∷ 0 ∷ start_of red ∷ [])
unfolding pick or and is flag value_numbers specificity_of no_specificity inline_specificity less_then less_by_selector less held_by_importance held_by_origin held_against maybe_update rank rank_of weaker held_in_book book_update update_by fill_update record_in slot_of slot_in empty_record empty_style update_record update_style is_named merge_by inherit inherit_by handed_by handed_slot handed_on fill_record fill_pseudo finish_by from_rule from_attribute crate_declared colour_attributes style_attributes book_declared declared_by cascade_by slot_numbers
test-visibility = (refl, refl, refl, refl)

-- ---- where both leave the same (proofs/Agreeing.antt)
-- an author rule that is more specific than an agent's wins, and an important agent rule before an important author rule stays
test-agreeing :
    (numbers_in (cascade_by Crate empty_style (record { agent = rule main_record by_type false red ∷ []; user = []; author = rule main_record by_class false blue ∷ []; attributes = [] })) main_record ≡ 1 ∷ 3 ∷ 0 ∷ 0 ∷ 1 ∷ 0 ∷ 0 ∷ blue ∷ 0 ∷ start_of blue ∷ [])
    × (numbers_in (cascade_by Book empty_style (record { agent = rule main_record by_type false red ∷ []; user = []; author = rule main_record by_class false blue ∷ []; attributes = [] })) main_record ≡ 1 ∷ 3 ∷ 0 ∷ 0 ∷ 1 ∷ 0 ∷ 0 ∷ blue ∷ 0 ∷ start_of blue ∷ [])
    × (numbers_in (cascade_by Crate empty_style (record { agent = rule main_record by_type true red ∷ []; user = []; author = rule main_record by_class true blue ∷ []; attributes = [] })) main_record ≡ 1 ∷ 1 ∷ 0 ∷ 0 ∷ 0 ∷ 1 ∷ 1 ∷ red ∷ 0 ∷ start_of red ∷ [])
    × (numbers_in (cascade_by Book empty_style (record { agent = rule main_record by_type true red ∷ []; user = []; author = rule main_record by_class true blue ∷ []; attributes = [] })) main_record ≡ 1 ∷ 1 ∷ 0 ∷ 0 ∷ 0 ∷ 1 ∷ 1 ∷ red ∷ 0 ∷ start_of red ∷ [])
unfolding pick or and is flag value_numbers specificity_of no_specificity inline_specificity less_then less_by_selector less held_by_importance held_by_origin held_against maybe_update rank rank_of weaker held_in_book book_update update_by fill_update record_in slot_of slot_in empty_record empty_style update_record update_style is_named merge_by inherit inherit_by handed_by handed_slot handed_on fill_record fill_pseudo finish_by from_rule from_attribute crate_declared colour_attributes style_attributes book_declared declared_by cascade_by slot_numbers
test-agreeing = (refl, refl, refl, refl)

-- a child's own rule replaces what it inherits, where it is not less specific
test-agreeing-child :
    (numbers_in (cascade_by Crate (cascade_by Crate empty_style (by_author (rule main_record by_type false red ∷ []) [])) (by_author (rule main_record by_type false blue ∷ []) [])) main_record ≡ 1 ∷ 3 ∷ 0 ∷ 0 ∷ 0 ∷ 1 ∷ 0 ∷ blue ∷ 0 ∷ start_of blue ∷ [])
    × (numbers_in (cascade_by Book (cascade_by Book empty_style (by_author (rule main_record by_type false red ∷ []) [])) (by_author (rule main_record by_type false blue ∷ []) [])) main_record ≡ 1 ∷ 3 ∷ 0 ∷ 0 ∷ 0 ∷ 1 ∷ 0 ∷ blue ∷ 0 ∷ start_of blue ∷ [])
unfolding pick or and is flag value_numbers specificity_of no_specificity inline_specificity less_then less_by_selector less held_by_importance held_by_origin held_against maybe_update rank rank_of weaker held_in_book book_update update_by fill_update record_in slot_of slot_in empty_record empty_style update_record update_style is_named merge_by inherit inherit_by handed_by handed_slot handed_on fill_record fill_pseudo finish_by from_rule from_attribute crate_declared colour_attributes style_attributes book_declared declared_by cascade_by slot_numbers
test-agreeing-child = (refl, refl)
