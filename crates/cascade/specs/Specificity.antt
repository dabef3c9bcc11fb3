-- Specificities (`Specificity` of src/lib.rs): that of a `style` attribute, or how many ids, classes and types a selector names; their sum, and their
-- order. Assumes nothing: these are definitions.
use Rattle.std.specs.Prelude.{◌≡◌, Bool, true, false, ℕ, ◌+◌, ◌<◌, ◌^◌, ltb}
use Rattle.combinators.specs.Choice.{pick, or}
use Rattle.syntax.specs.Layout.{flag}
use Rattle.cascade.specs.declared.specificity.Specificity.{Specificity}

-- that of a selector
unfoldable pub specificity_of : ℕ → ℕ → ℕ → Specificity
specificity_of i c t = record { inline = false; id = i; class = c; typ = t }

-- that of a selector which names nothing
unfoldable pub no_specificity : Specificity
no_specificity = specificity_of 0 0 0

-- that of a `style` attribute: "`Specificity` has a value of its own for inline and adds itself to another."
unfoldable pub inline_specificity : Specificity
inline_specificity = record { inline = true; id = 0; class = 0; typ = 0 }

-- ---- the sum (`Add for &Specificity`): a specificity has a value "for inline and adds itself to another"
-- its counts fit into 32 bits. The crate's have 16, which is enough for a selector of an accepted sheet: what counts takes two bytes at least, of 32,768
pub record SumFits (a b : Specificity) : Type 0 where
  pub id-fits : a.id + b.id < 2 ^ 32
  pub class-fits : a.class + b.class < 2 ^ 32
  pub type-fits : a.typ + b.typ < 2 ^ 32

unfoldable pub sum : Specificity → Specificity → Specificity
sum a b = record { inline = or a.inline b.inline; id = a.id + b.id; class = a.class + b.class; typ = a.typ + b.typ }

-- ---- the order (`PartialOrd for Specificity`): inline, then id, then class, then type
-- below by a number, or where it is the same by what follows
unfoldable pub less_then : ℕ → ℕ → Bool → Bool
less_then a b rest = pick (ltb a b) true (pick (ltb b a) false rest)

-- by ids, then classes, then types
unfoldable pub less_by_selector : Specificity → Specificity → Bool
less_by_selector a b = less_then a.id b.id (less_then a.class b.class (ltb a.typ b.typ))

-- the first is the less specific
unfoldable pub less : Specificity → Specificity → Bool
less a b = less_then (flag a.inline) (flag b.inline) (less_by_selector a b)

-- the same in the words of Selectors Level 3, section 9: the first of the counts in which they differ decides
pub data LessSpecific (a b : Specificity) : Type 0 where
  by-inline : a.inline ≡ false → b.inline ≡ true → LessSpecific a b
  by-id : a.inline ≡ b.inline → a.id < b.id → LessSpecific a b
  by-class : a.inline ≡ b.inline → a.id ≡ b.id → a.class < b.class → LessSpecific a b
  by-type : a.inline ≡ b.inline → a.id ≡ b.id → a.class ≡ b.class → a.typ < b.typ → LessSpecific a b
