-- What the code for the styles that decide leaves: one style sifted, many read from their rows, and the rows of those that decide.
use mathlib.Core.Path.{◌≡◌, refl, sym, ap, subst, ◌∙◌}
use mathlib.Core.Bool.{Bool, true, false}
use Rattle.std.proofs.Common.{Option, Some, None, is_some}
use mathlib.Core.List.{List, [], ◌∷◌, ◌++◌, foldl}
use Prim.Native.Nat.{ℕ, suc, ◌+◌, ◌-◌, ◌*◌, ◌≤◌, ◌<◌}
use native.Mathlib.Omega.{arith}
use lib.ListN.{length, drop, length-append, get_or, drop_of_length-le}
use lib.Seq.{sets, length-sets, drop-cons}
use native.Mathlib.Numerals.{add-one}
use Rattle.combinators.specs.Choice.{or}
use Rattle.combinators.proofs.Rules.{pick_true, pick-false, is-yes, is-no}
use Rattle.combinators.proofs.Wiped.{sets-append}
use Rattle.syntax.specs.Layout.{style_width, numbers_at, value_numbers, row_of_numbers}
use Rattle.syntax.specs.Stream.{texts_many}
use Rattle.syntax.specs.declared.styles.StyleNumbers.{StyleNumbers}
use Rattle.syntax.specs.declared.styles.Value.{Value}
use Rattle.syntax.proofs.RowSizes.{length-style}
use Rattle.syntax.proofs.Streams.{texts-append}
use Rattle.values.specs.Words.{Found, found, on_found}
use Rattle.cascade.specs.Record.{slot_count, Styled}
use Rattle.styles.specs.StyleCall.{in_numbers}
use Rattle.rule_styles.specs.Deciding.{Sifted, nothing_sifted, sift, listed, sifted_styles, deciding_for, deciding_from, deciding}
use Rattle.rule_styles.specs.Placing.{styled_row, styled_in}
use Rattle.rule_styles.specs.Sifting.{found_in, sifted_in}
use Rattle.rule_styles.specs.declared.deciding.Sifted as code

-- the code's `||` is `or`, where the first is true
pub or-first : (a b : Bool) → a ≡ true → a ≡ or a b
unfolding or
or-first a b e = rw e

-- whether a style was found is whether there is one
found-test : (x : Option StyleNumbers) → on_found (found_in x) (λ _. true) false ≡ is_some x
unfolding found_in on_found
found-test (Some x) = refl
found-test None = refl

-- a style that is there
found-yes : (x : StyleNumbers) → found (in_numbers x) ≡ found_in (Some x)
unfolding found_in
found-yes x = refl

-- sifted styles that agree in all parts
sifted-same : (n m i j : Found (Styled Value)) (b c : Bool) → n ≡ m → i ≡ j → b ≡ c
    → ◌≡◌ {A = Sifted Value} (record { normal = n; important = i; behind = b }) (record { normal = m; important = j; behind = c })
sifted-same n m i j b c e f g = rw (e, f, g)

-- ---- one style, sifted for a slot
module _ (s : code.Sifted) (k : ℕ) (x : StyleNumbers) where
  -- it is for another slot
  pub sifted-away : ¬ (x.slot ≡ k) → sifted_in s ≡ sift k (sifted_in s) (in_numbers x)
  unfolding sift in_numbers
  sifted-away n = pick-false _ _ _ _ (is-no x.slot k n) refl

  -- an important style for the slot becomes its important one, which lies behind the normal one where there was one before
  pub sifted-important : x.slot ≡ k → x.important ≡ true → (b : Bool) → b ≡ or s.behind (is_some s.normal)
      → sifted_in (record { normal = s.normal; important = Some x; behind = b }) ≡ sift k (sifted_in s) (in_numbers x)
  unfolding sift sifted_in
  sifted-important h e b o =
      pick_true _ _ _ _ (unfold in_numbers in is-yes x.slot k h)
      (pick_true _ _ _ _ (unfold in_numbers in e)
      (sifted-same _ _ _ _ _ _ refl (sym (found-yes x)) (o ∙ ap (or s.behind) (sym (found-test s.normal)))))

  -- a normal style for the slot becomes its normal one, and leaves the order of the two as it was
  pub sifted-normal : x.slot ≡ k → x.important ≡ false
      → sifted_in (record { normal = Some x; important = s.important; behind = s.behind })
      ≡ sift k (sifted_in s) (in_numbers x)
  unfolding sift sifted_in
  sifted-normal h e =
      pick_true _ _ _ _ (unfold in_numbers in is-yes x.slot k h)
      (pick-false _ _ _ _ (unfold in_numbers in e) (sifted-same _ _ _ _ _ _ (sym (found-yes x)) refl refl))

-- ---- many, read from their rows
-- before any style is read, neither a normal nor an important one is known
sifted-nothing : sifted_in (record { normal = None; important = None; behind = false }) ≡ nothing_sifted
unfolding sifted_in nothing_sifted found_in
sifted-nothing = refl

module _ (rows : List (List ℕ)) (k : ℕ) where
  -- what is known with the styles that are left
  abbrev pub sifted_from : Sifted Value → ℕ → Sifted Value
  sifted_from s i = foldl (sift k) s (styled_in (drop i rows))

  -- where no style is left, what is known is the result
  pub sift-none : (s : Sifted Value) (i : ℕ) → length rows ≤ i → sifted_from s i ≡ s
  unfolding styled_in
  sift-none s i h = ap (λ (l : List (List ℕ)). foldl (sift k) s (styled_in l)) (drop_of_length-le rows {i = i} h)

  -- before the first style all are left
  pub sift-begin : sifted_from (sifted_in (record { normal = None; important = None; behind = false })) 0 ≡ foldl (sift k) nothing_sifted (styled_in rows)
  sift-begin = rw sifted-nothing

  -- the style of the next row, sifted into what is known, leaves the same result with the rows behind it
  pub sift-more : (s n : code.Sifted) (i : ℕ) (x : StyleNumbers) (all : Sifted Value) → i < length rows
      → x ≡ numbers_at (get_or rows i []) → sifted_in n ≡ sift k (sifted_in s) (in_numbers x) → sifted_from (sifted_in s) i ≡ all → sifted_from (sifted_in n) (i + 1) ≡ all
  unfolding styled_in
  sift-more s n i x all h e f a =
      let q : drop i rows ≡ get_or rows i [] ∷ drop (i + 1) rows = drop-cons rows i [] h ∙ rw (add-one i) refl in
      ap (λ (y : Sifted Value). sifted_from y (i + 1)) (f ∙ ap (λ (y : StyleNumbers). sift k (sifted_in s) (in_numbers y)) e)
      ∙ ap (λ (l : List (List ℕ)). foldl (sift k) (sifted_in s) (styled_in l)) (sym q) ∙ a

-- ---- rows written
-- the row of one style is four numbers
pub styled-long : (x : Styled Value) → length (styled_row x) ≡ style_width
unfolding styled_row
styled-long x = length-style (record { slot = x.slot; important = x.important; value = x.value })

-- the rows of many styles are four numbers for each
pub styles-long : (xs : List (Styled Value)) → length (texts_many styled_row xs) ≡ length xs * style_width
unfolding texts_many
styles-long [] = refl
styles-long (x ∷ xs) = omega (arith, length-append (styled_row x) (texts_many styled_row xs), styled-long x, styles-long xs)

-- what is told of a writer: what it leaves, how many styles it wrote, and how many at most
abbrev pub Written : List ℕ → List ℕ → ℕ → ℕ → ℕ → List (Styled Value) → Type 0
Written rows left at n most xs = (left ≡ sets rows at (texts_many styled_row xs)) × ((n ≡ length xs) × (n ≤ most))

-- a style that is there
pub found-written : (rows left : List ℕ) (at : ℕ) (o : Option StyleNumbers) (x : StyleNumbers) → o ≡ Some x → left ≡ sets rows at (row_of_numbers x) → Written rows left at 1 1 (listed (found_in o))
unfolding texts_many listed on_found found_in styled_row in_numbers row_of_numbers value_numbers
found-written rows left at o x e f = rw e (f, (refl, omega arith))

-- a style that is not there writes nothing
pub missing-written : (rows : List ℕ) (at : ℕ) (o : Option StyleNumbers) → o ≡ None → Written rows rows at 0 1 (listed (found_in o))
unfolding texts_many listed on_found found_in
missing-written rows at o e = rw e (refl, (refl, omega arith))

-- at most one style written, and at most one behind it, are at most two written one behind the other
pub both-written : (rows one left : List ℕ) (at n m : ℕ) (xs ys : List (Styled Value)) → Written rows one at n 1 xs → Written one left (at + n * style_width) m 1 ys → Written rows left at (n + m) 2 (xs ++ ys)
both-written rows one left at n m xs ys p q =
    let e : at + n * style_width ≡ at + length (texts_many styled_row xs) = omega (arith, styles-long xs, p.1.0) in (
      q.0
          ∙ ap (λ (i : ℕ). sets one i (texts_many styled_row ys)) e
          ∙ ap (λ (l : List ℕ). sets l (at + length (texts_many styled_row xs)) (texts_many styled_row ys)) p.0
          ∙ sym (sets-append rows at (texts_many styled_row xs) (texts_many styled_row ys))
          ∙ ap (sets rows at) (sym (texts-append (λ f x. []) styled_row xs ys)),
      (omega (arith, p.1.0, q.1.0, length-append xs ys), omega (arith, p.1.1, q.1.1)),
    )

-- the order of the two kinds
module _ (rows left : List ℕ) (at n : ℕ) (s : code.Sifted) where
  -- where it lies behind, the important style is written behind the normal one
  pub sifted-behind : s.behind ≡ true → Written rows left at n 2 (listed (found_in s.normal) ++ listed (found_in s.important))
      → Written rows left at n 2 (sifted_styles (sifted_in s))
  unfolding sifted_styles sifted_in
  sifted-behind e w =
      let z = pick_true (listed (found_in s.normal) ++ listed (found_in s.important)) _ (listed (found_in s.important) ++ listed (found_in s.normal)) s.behind e refl in
      subst (Written rows left at n 2) z w

  -- where it does not lie behind, the important style is written before the normal one
  pub sifted-before : s.behind ≡ false → Written rows left at n 2 (listed (found_in s.important) ++ listed (found_in s.normal))
      → Written rows left at n 2 (sifted_styles (sifted_in s))
  unfolding sifted_styles sifted_in
  sifted-before e w =
      let z = pick-false (listed (found_in s.important) ++ listed (found_in s.normal)) (listed (found_in s.normal) ++ listed (found_in s.important)) _ s.behind e refl in
      subst (Written rows left at n 2) z w

-- ---- the rows of all that decide
-- the slots from one on
from-slot : (k : ℕ) (xs : List (Styled Value)) → k < slot_count → deciding_from (slot_count - k) k xs ≡ deciding_for k xs ++ deciding_from (slot_count - (k + 1)) (k + 1) xs
unfolding deciding_from
from-slot k xs h =
    let e : slot_count - k ≡ suc (slot_count - (k + 1)) = omega arith in
    let f : suc k ≡ k + 1 = omega arith in
    ap (λ (n : ℕ). deciding_from n k xs) e ∙ ap (λ (j : ℕ). deciding_for k xs ++ deciding_from (slot_count - (k + 1)) j xs) f

-- behind the last slot nothing is left
no-slot-left : (k : ℕ) (xs : List (Styled Value)) → slot_count ≤ k → deciding_from (slot_count - k) k xs ≡ []
unfolding deciding_from
no-slot-left k xs h = let e : slot_count - k ≡ 0 = omega arith in ap (λ (n : ℕ). deciding_from n k xs) e

-- in the loop over the slots: what is still to be written leaves what all leaves
pub record Keeping (xs : List (Styled Value)) (rows₀ : List ℕ) (place : ℕ) (rows : List ℕ) (kept slot : ℕ) : Type 0 where
  pub written : sets rows (place + kept * style_width) (texts_many styled_row (deciding_from (slot_count - slot) slot xs))
      ≡ sets rows₀ place (texts_many styled_row (deciding xs))
  pub counted : kept + length (deciding_from (slot_count - slot) slot xs) ≡ length (deciding xs)
  pub long : length rows ≡ length rows₀
  pub few : kept ≤ 2 * slot
  pub slots : slot ≤ slot_count

module _ (xs : List (Styled Value)) (rows₀ : List ℕ) (place : ℕ) where
  -- before the first slot nothing is kept, and all is still to be written
  pub keeping-begin : Keeping xs rows₀ place rows₀ 0 0
  unfolding deciding
  keeping-begin =
      record {
        written = let e : place + 0 * style_width ≡ place = omega arith in ap (λ (q : ℕ). sets rows₀ q (texts_many styled_row (deciding_from slot_count 0 xs))) e;
        counted = omega arith;
        long = refl;
        few = omega arith;
        slots = omega arith;
      }

  module _ (rows : List ℕ) (kept slot : ℕ) (k : Keeping xs rows₀ place rows kept slot) where
    -- when all slots are done, the rows of the styles that decide are written, and as many are counted
    pub keeping-done : slot_count ≤ slot → (rows ≡ sets rows₀ place (texts_many styled_row (deciding xs))) × (kept ≡ length (deciding xs))
    unfolding texts_many
    keeping-done h =
        let z = no-slot-left slot xs h in (
          ap (λ (l : List (Styled Value)). sets rows (place + kept * style_width) (texts_many styled_row l)) (sym z) ∙ k.written,
          omega (arith, k.counted, ap length z),
        )

    -- the styles of one slot
    module _ (s : code.Sifted) (e : sifted_in s ≡ foldl (sift slot) nothing_sifted xs) where
      -- the styles sifted for the slot are those that decide in it
      styles-now : sifted_styles (sifted_in s) ≡ deciding_for slot xs
      unfolding deciding_for
      styles-now = ap sifted_styles e

      -- with the styles of one slot written behind those that are kept, the slots from the next one on are left
      pub keeping-more : (left : List ℕ) (n : ℕ) → slot < slot_count → Written rows left (place + kept * style_width) n 2 (sifted_styles (sifted_in s))
          → Keeping xs rows₀ place left (kept + n) (slot + 1)
      keeping-more left n h w =
          let ys = deciding_for slot xs in
          let zs = deciding_from (slot_count - (slot + 1)) (slot + 1) xs in
          let q = place + kept * style_width in
          let c : n ≡ length ys = w.1.0 ∙ ap length styles-now in
          let p : left ≡ sets rows q (texts_many styled_row ys) = w.0 ∙ ap (λ (l : List (Styled Value)). sets rows q (texts_many styled_row l)) styles-now in
          let m : place + (kept + n) * style_width ≡ q + length (texts_many styled_row ys) = omega (arith, styles-long ys, c) in
          let z : deciding_from (slot_count - slot) slot xs ≡ ys ++ zs = from-slot slot xs h in
          record {
            written =
                ap (λ (i : ℕ). sets left i (texts_many styled_row zs)) m
                ∙ ap (λ (l : List ℕ). sets l (q + length (texts_many styled_row ys)) (texts_many styled_row zs)) p
                ∙ sym (sets-append rows q (texts_many styled_row ys) (texts_many styled_row zs))
                ∙ ap (sets rows q) (sym (texts-append (λ f x. []) styled_row ys zs))
                ∙ ap (λ (l : List (Styled Value)). sets rows q (texts_many styled_row l)) (sym z)
                ∙ k.written;
            counted = omega (arith, c, length-append ys zs, ap length z, k.counted);
            long = ap length p ∙ length-sets rows q (texts_many styled_row ys) ∙ k.long;
            few = omega (arith, w.1.1, k.few);
            slots = omega arith;
          }
