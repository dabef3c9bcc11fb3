-- An ordinary sheet meets the condition under which both cascades leave the same style: `(p{color:red}).k{color:blue}` on a p in a p, the inner one of class k.
use mathlib.Core.Path.{◌≡◌, refl, sym, ap, subst, ◌∙◌}
use mathlib.Core.Bool.{Bool, true, false}
use mathlib.Core.List.{List, [], ◌∷◌}
use mathlib.Core.Logic.{inl}
use Prim.Native.Nat.{ℕ, ◌<◌}
use Rattle.combinators.specs.All.{All}
use Rattle.combinators.specs.Choice.{pick, or, and, is}
use Rattle.combinators.proofs.Rules.{never, is-no, is_true, is_false, or-none, and_right}
use Rattle.combinators.proofs.AllLaws.{all_weaker}
use Rattle.syntax.specs.Layout.{colour_slot, flag}
use Rattle.syntax.specs.declared.styles.Value.{Value}
use Rattle.cascade.specs.declared.specificity.Specificity.{Specificity}
use Rattle.cascade.specs.Specificity.{less_then, less_by_selector, less, LessSpecific}
use Rattle.cascade.specs.Record.{main_record, slot_count, inherits, Declared, Sources, from_rule, from_attribute, crate_declared, candidates_for, declares}
use Rattle.cascade.specs.Agreeing.{AllDecidedAlike, declared_for, SaidAlike, NotInherited, InheritedAlike, AuthorDown, AgreesDown}
use Rattle.cascade.specs.Cases.{red, blue, by_type, by_class, rule, by_author}
use Rattle.cascade.proofs.AgreeingStyles.{none-for, none-inherited, main-alone, author-agrees}
use Rattle.cascade.proofs.Orders.{less-said}

-- what the test denies is not so
not-less-specific : (a b : Specificity) → less a b ≡ false → ¬ (LessSpecific a b)
not-less-specific a b e l = never (sym e ∙ less-said a b l)

-- what is said of the inner p, and of the outer one
abbrev inner : Sources Value
inner = by_author (rule main_record by_type false red ∷ rule main_record by_class false blue ∷ []) []

abbrev outer : Sources Value
outer = by_author (rule main_record by_type false red ∷ []) []

-- none is less specific than a type selector
not-below-type : ¬ (LessSpecific by_type by_type)
unfolding less less_by_selector less_then flag pick
not-below-type = not-less-specific by_type by_type refl

-- a class selector is not less specific than a type selector
class-not-below-type : ¬ (LessSpecific by_class by_type)
unfolding less less_by_selector less_then flag pick
class-not-below-type = not-less-specific by_class by_type refl

-- so both are sheets of the author alone, without `!important`, in which specificities do not fall
ordinary-author : AuthorDown main_record colour_slot (inner ∷ outer ∷ [])
unfolding candidates_for crate_declared from_rule from_attribute pick and is
ordinary-author =
    (tt, (((refl, refl), ((refl, refl), tt)), ((((not-below-type, (class-not-below-type, tt)), tt), tt), (tt, (((refl, refl), tt), (tt, tt))))))

-- a declaration is for the colour of the main record
abbrev IsColour : Declared Value → Type 0
IsColour d = (d.pseudo ≡ main_record) × (d.slot ≡ colour_slot)

-- all of the inner p are
inner-colour : All IsColour (crate_declared inner)
unfolding crate_declared from_rule from_attribute
inner-colour = ((refl, refl), ((refl, refl), tt))

-- and all of the outer one
outer-colour : All IsColour (crate_declared outer)
unfolding crate_declared from_rule from_attribute
outer-colour = ((refl, refl), tt)

-- so nothing is declared for any other slot
none_other : (x : Sources Value) → All IsColour (crate_declared x) → (k : ℕ) → ¬ (k ≡ colour_slot) → declared_for main_record k x ≡ []
none_other x a k n = none-for main_record k (crate_declared x) (all_weaker IsColour (λ d. ¬ ((d.pseudo ≡ main_record) × (d.slot ≡ k))) (λ d e f. n (sym f.1 ∙ e.1)) (crate_declared x) a)

-- nor for any other record
no-pseudo : (r : ℕ) → ¬ (r ≡ main_record) → (ds : List (Declared Value)) → All IsColour ds → declares r ds ≡ false
unfolding declares
no-pseudo r n [] a = refl
no-pseudo r n (d ∷ ds) a = or-none _ _ (and_right _ _ (is-no d.pseudo r (λ e. n (sym e ∙ a.0.0)))) (no-pseudo r n ds a.1)

-- the colour inherits
colour-inherits : inherits colour_slot ≡ true
unfolding inherits or is
colour-inherits = refl

-- so the condition under which both cascades leave the same style holds of them
pub ordinary-agrees : AgreesDown inner (outer ∷ [])
ordinary-agrees = main-alone inner (outer ∷ []) (λ k l e. go k (is k colour_slot) refl) other (λ r h n. (no-pseudo r n (crate_declared inner) inner-colour, (no-pseudo r n (crate_declared outer) outer-colour, tt)))
  where
    go : (k : ℕ) (t : Bool) → is k colour_slot ≡ t → InheritedAlike main_record k (inner ∷ outer ∷ [])
    go k true e = subst (λ n. InheritedAlike main_record n (inner ∷ outer ∷ [])) (sym (is_true k colour_slot e)) (author-agrees main_record colour_slot (inner ∷ outer ∷ []) ordinary-author)
    go k false e = let n = is_false k colour_slot e in none-inherited main_record k (inner ∷ outer ∷ []) (tt, (tt, tt)) (none_other inner inner-colour k n, (none_other outer outer-colour k n, tt))

    other : (k : ℕ) → k < slot_count → inherits k ≡ false → SaidAlike main_record k inner × NotInherited main_record k inner (outer ∷ [])
    other k l e =
        let n : ¬ (k ≡ colour_slot) = λ f. never (sym e ∙ ap inherits f ∙ colour-inherits) in
        ((tt, subst AllDecidedAlike (sym (none_other inner inner-colour k n)) tt), inl (none_other outer outer-colour k n, tt))
