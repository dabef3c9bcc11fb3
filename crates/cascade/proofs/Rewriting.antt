-- Rows that are copied, cleared or begun, number by number and as styles. Assumes nothing.
use mathlib.Core.Path.{◌≡◌, refl, ap, ◌∙◌}
use mathlib.Core.Bool.{true}
use mathlib.Core.List.{List, [], ◌∷◌, map}
use Prim.Native.Nat.{ℕ, zero, suc, ◌+◌, ◌*◌, ◌≤◌, ◌<◌}
use native.Mathlib.Nat.{add-zero}
use native.Mathlib.Omega.{arith}
use lib.ListN.{length, get_or, set, replicate, length-set, length-replicate}
use lib.Seq.{sets, get_or-set_same, get_or-set_other}
use Rattle.combinators.specs.Choice.{pick, is}
use Rattle.combinators.specs.Store.{wiped, filled_part}
use Rattle.combinators.proofs.Wiped.{length-wiped, sets-low}
use Rattle.syntax.specs.Layout.{flag_of}
use Rattle.cascade.specs.declared.slots.Cascade.{Cascade}
use Rattle.cascade.specs.declared.slots.Cascade.TheVariants.{Crate, Book}
use Rattle.cascade.specs.Record.{slot_count, empty_record, empty_style, inherit, inherit_by}
use Rattle.cascade.specs.Row.{record_width, style_row_width, read_slot, windows, record_at, style_at, RowRoom, present_flag, present_row, inherited_row, Inherited, Emptied}
use Rattle.cascade.proofs.RowLaws.{record_same, style-same, flag_one, same-windows, same-record}

-- what was stored there, number by number
pub sets-there : (vs xs : List ℕ) (i p : ℕ) → p < length vs → i + length vs ≤ length xs → get_or (sets xs i vs) (i + p) 0 ≡ get_or vs p 0
sets-there [] xs i p h l = absurd (omega arith)
sets-there (v ∷ vs) xs i zero h l =
    rw (add-zero i) (sets-low vs (set xs i v) (suc i) i 0 (omega arith) ∙ get_or-set_same xs i v 0 (omega arith))
sets-there (v ∷ vs) xs i (suc p) h l =
    let e : i + suc p ≡ suc i + p = omega arith in
    rw e (sets-there vs (set xs i v) (suc i) p (omega arith) (omega (arith, length-set xs i v)))

-- the same from the start on
pub sets_first : (vs xs : List ℕ) (p : ℕ) → p < length vs → length vs ≤ length xs → get_or (sets xs 0 vs) p 0 ≡ get_or vs p 0
sets_first vs xs p h l = let e : 0 + p ≡ p = omega arith in rw e at (sets-there vs xs 0 p h (omega arith))

-- ---- the parent's numbers, but for the presence of the main record, are the inherited style
-- a row with a first number that says present, and the parent's numbers behind it, has the parent's main record, made present
inherit-main : (zs parent : List ℕ) → ((p : ℕ) → 0 < p → p < style_row_width → get_or zs p 0 ≡ get_or parent p 0) → get_or zs 0 0 ≡ present_flag
    → record_at zs 0 ≡ record { present = true; slots = (record_at parent 0).slots }
unfolding record_at
inherit-main zs parent f e = record_same _ _ _ _ (ap flag_of e ∙ flag_one) (ap (map read_slot) (same-windows slot_count zs parent 1 (λ p a b. f p (omega arith) (omega arith))))

-- so the row holds that style
pub inherit-by : (zs parent : List ℕ) → ((p : ℕ) → 0 < p → p < style_row_width → get_or zs p 0 ≡ get_or parent p 0) → get_or zs 0 0 ≡ present_flag → style_at zs ≡ inherit (style_at parent)
unfolding style_at inherit
inherit-by zs parent f e =
    style-same _ _ _ _ _ _ (inherit-main zs parent f e)
    (same-record zs parent record_width (λ p a b. f p (omega arith) (omega arith)))
    (same-record zs parent (2 * record_width) (λ p a b. f p (omega arith) (omega arith)))

-- the main record made present, in place
pub present-view : (xs : List ℕ) → style_row_width ≤ length xs → style_at (present_row xs) ≡ inherit (style_at xs)
unfolding present_row
present-view xs h = inherit-by (set xs 0 1) xs (λ p a b. get_or-set_other xs 0 p 1 0 (λ e. omega arith)) (get_or-set_same xs 0 1 0 (omega arith))

-- ---- the main record made present
module _ (xs : List ℕ) (h : style_row_width ≤ length xs) where
  -- marking the main record as present leaves every other number
  pub present-number : (p : ℕ) → 0 < p → get_or (set xs 0 1) p 0 ≡ get_or xs p 0
  present-number p a = get_or-set_other xs 0 p 1 0 (λ e. omega arith)

-- ---- a row of zeros
-- with n zeros written over the start of a list, each of its first n numbers is a zero
zeros-number : (n : ℕ) (xs : List ℕ) (p : ℕ) → n ≤ length xs → p < n → get_or (sets xs 0 (replicate n 0)) p 0 ≡ get_or (replicate n 0) p 0
zeros-number n xs p h l = let e : length (replicate {A = ℕ} n 0) ≡ n = length-replicate n 0 in sets_first (replicate n 0) xs p (omega (arith, e)) (omega (arith, e))

-- nothing is declared in it
pub empty-row : style_at (replicate style_row_width 0) ≡ empty_style
unfolding style_at record_at windows read_slot empty_style empty_record flag_of is pick
empty-row = refl

-- nor in a row over which zeros were written
pub empty-view : (xs : List ℕ) → style_row_width ≤ length xs → style_at (wiped 0 style_row_width xs) ≡ empty_style
empty-view xs h = all_same ∙ empty-row
  where
    all_same : style_at (wiped 0 style_row_width xs) ≡ style_at (replicate style_row_width 0)
    all_same =
        unfold style_at in unfold filled_part in
        style-same _ _ _ _ _ _
        (same-record (sets xs 0 (replicate style_row_width 0)) (replicate style_row_width 0) 0 (λ p a b. zeros-number style_row_width xs p h (omega arith)))
        (same-record (sets xs 0 (replicate style_row_width 0)) (replicate style_row_width 0) record_width (λ p a b. zeros-number style_row_width xs p h (omega arith)))
        (same-record (sets xs 0 (replicate style_row_width 0)) (replicate style_row_width 0) (2 * record_width) (λ p a b. zeros-number style_row_width xs p h (omega arith)))

-- ---- what the functions leave
-- the main record made present
pub inherited-by-crate : (k : Cascade) (xs ys : List ℕ) → k ≡ Crate → RowRoom xs → ys ≡ set xs 0 present_flag → Inherited k xs ys
inherited-by-crate k xs ys i h e =
    let n : ys ≡ inherited_row Crate xs = unfold inherited_row in unfold present_row in e in
    rw i (record { numbers = n; meaning = ap style_at n ∙ (unfold inherited_row in unfold inherit_by in present-view xs h.room) })

-- the style in it is one in which nothing is declared, its main record present
pub begin-view : (xs : List ℕ) → style_row_width ≤ length xs → style_at (present_row (wiped 0 style_row_width xs)) ≡ inherit empty_style
begin-view xs h = present-view (wiped 0 style_row_width xs) (omega (arith, h, length-wiped 0 style_row_width xs)) ∙ ap inherit (empty-view xs h)

-- the row wiped, and the main record present
pub inherited-in-book-order : (k : Cascade) (xs a ys : List ℕ) → k ≡ Book → RowRoom xs → a ≡ wiped 0 style_row_width xs → ys ≡ set a 0 present_flag → Inherited k xs ys
inherited-in-book-order k xs a ys i h e f =
    let n : ys ≡ inherited_row Book xs = unfold inherited_row in unfold present_row in (f ∙ ap (λ (r : List ℕ). set r 0 present_flag) e) in
    rw i (record { numbers = n; meaning = ap style_at n ∙ (unfold inherited_row in unfold inherit_by in begin-view xs h.room) })

-- zeros written over a row leave the row of nothing declared
pub emptied : (xs ys : List ℕ) → RowRoom xs → ys ≡ wiped 0 style_row_width xs → Emptied xs ys
emptied xs ys h e = record { numbers = e; meaning = ap style_at e ∙ empty-view xs h.room }
