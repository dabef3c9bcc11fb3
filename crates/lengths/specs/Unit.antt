-- The eight units of a length: "A pixel is 3,810,000 units, an inch 365,760,000, a centimetre 144,000,000, a millimetre 14,400,000, a point 5,080,000, a
-- pica 60,960,000"; "`em` and `ex` are returned as ten-thousandths with their unit", so that 10,000 are one of them.
use Rattle.std.specs.Prelude.{ℕ, ◌*◌, Bool, true, List, [], ◌∷◌, ◌≡◌, refl, leb}
use Rattle.combinators.specs.Choice.{and, is}
use Rattle.characters.specs.Literal.{text}
use Rattle.values.specs.Words.{Entry}
use Rattle.lengths.specs.declared.answers.Kind.{Kind}
use Rattle.lengths.specs.declared.answers.Kind.TheVariants.{Units, Em, Ex}

-- ---- what an answer counts
-- no length: nothing
abbrev pub no_kind : ℕ
no_kind = 0

-- units, of which a pixel has 3,810,000
abbrev pub unit_kind : ℕ
unit_kind = 1

-- ten-thousandths of an `em`
abbrev pub em_kind : ℕ
em_kind = 2

-- ten-thousandths of an `ex`
abbrev pub ex_kind : ℕ
ex_kind = 3

-- a kind by its number
unfoldable pub kind_number : Kind → ℕ
kind_number Units = unit_kind
kind_number Em = em_kind
kind_number Ex = ex_kind

-- ---- the table
-- what an answer in the unit counts, how much of it the unit is, and how much a ten-thousandth of the unit is
pub record LengthUnit : Type 0 where
  pub kind : Kind
  pub amount : ℕ
  pub factor : ℕ

-- "381 × 10,000 to the pixel"
abbrev pub ten_thousand : ℕ
ten_thousand = 10000

abbrev pub units : List (Entry LengthUnit)
units =
    record { word = text "px"; means = record { kind = Units; amount = 3810000; factor = 381 } }
    ∷ record { word = text "in"; means = record { kind = Units; amount = 365760000; factor = 36576 } }
    ∷ record { word = text "cm"; means = record { kind = Units; amount = 144000000; factor = 14400 } }
    ∷ record { word = text "mm"; means = record { kind = Units; amount = 14400000; factor = 1440 } }
    ∷ record { word = text "pt"; means = record { kind = Units; amount = 5080000; factor = 508 } }
    ∷ record { word = text "pc"; means = record { kind = Units; amount = 60960000; factor = 6096 } }
    ∷ record { word = text "em"; means = record { kind = Em; amount = 10000; factor = 1 } }
    ∷ record { word = text "ex"; means = record { kind = Ex; amount = 10000; factor = 1 } }
    ∷ []

-- ---- the table's rule

-- a test holds of every row of a table
unfoldable pub every_row : {A : Type 0} → (A → Bool) → List (Entry A) → Bool
every_row p [] = true
every_row p (e ∷ es) = and (p e.means) (every_row p es)

-- a unit is 10,000 times its factor
unfoldable pub is_exact : LengthUnit → Bool
is_exact u = is u.amount (ten_thousand * u.factor)

-- the inch has the largest factor
abbrev pub largest_factor : ℕ
largest_factor = 36576

unfoldable pub is_small : LengthUnit → Bool
is_small u = leb u.factor largest_factor

-- of every row
pub units-exact : every_row is_exact units ≡ true
unfolding every_row is_exact and is
units-exact = refl

pub units_small : every_row is_small units ≡ true
unfolding every_row is_small and
units_small = refl
