-- Stores that are split at a place: what is written to the parts is written to the whole, and the text of a sheet lies in the front.
use mathlib.Core.Path.{◌≡◌, refl, sym, ap, ◌∙◌}
use mathlib.Core.List.{List, [], ◌∷◌, ◌++◌}
use Prim.Native.Nat.{ℕ, zero, suc, ◌+◌, ◌-◌, ◌*◌, ◌≤◌}
use native.Mathlib.Omega.{arith}
use lib.ListN.{length, set, take, drop}
use lib.Seq.{sets, take-nil, take-take, drop-nil}
use Rattle.combinators.proofs.Lists.{lent_from, rest}
use Rattle.origins.proofs.Parts.{sets-take}
use Rattle.syntax.specs.Layout.{style_width, numbers_at}
use Rattle.syntax.specs.Stream.{read_many}
use Rattle.syntax.specs.declared.styles.Value.{Value}
use Rattle.cascade.specs.Record.{Styled}
use Rattle.std.specs.Simd.{first_chunks}
use Rattle.styles.specs.StyleCall.{in_numbers}
use Rattle.styles.proofs.StyleRows.{row-numbers}
use Rattle.rule_styles.specs.Placing.{sheet_text, styled_in, read_styled}
use Rattle.combinators.proofs.Wiped.{front-set, drop-sets}

-- ---- what is written to the front
-- numbers stored in the front of a list are stored in the list
take-sets : (n : ℕ) (vs l : List ℕ) (i : ℕ) → take n (sets l i vs) ≡ sets (take n l) i vs
take-sets n [] l i = refl
take-sets n (v ∷ vs) l i = take-sets n vs (set l i v) (suc i) ∙ ap (λ (r : List ℕ). sets r (suc i) vs) (front-set n l i v)

-- what is stored in the front, and at the start of what lies behind it, is stored in the whole
pub both-stored : (l : List ℕ) (a i : ℕ) (vs ws : List ℕ) → a ≤ length l → i + length vs ≤ a → sets (take a l) i vs ++ sets (drop a l) 0 ws ≡ sets (sets l i vs) a ws
both-stored l a i vs ws h k =
    ap (λ (r : List ℕ). r ++ sets (drop a l) 0 ws) (sym (take-sets a vs l i))
    ∙ ap (λ (r : List ℕ). take a (sets l i vs) ++ sets r 0 ws) (sym (drop-sets vs l i a k))
    ∙ sets-take a (sets l i vs) ws (omega (arith, h, lib.Seq.length-sets l i vs))

-- ---- the text of a sheet, lent from its first byte on
drop-take : (from end : ℕ) (l : List ℕ) → drop from (take end l) ≡ take (end - from) (drop from l)
drop-take zero end l = let z : end - 0 ≡ end = omega arith in rw z
drop-take (suc from) zero l = let z : 0 - suc from ≡ 0 = omega arith in rw z (drop-nil {A = ℕ} (suc from))
drop-take (suc from) (suc end) [] = sym (take-nil {A = ℕ} (suc end - suc from))
drop-take (suc from) (suc end) (x ∷ l) = let z : suc end - suc from ≡ end - from = omega arith in rw z (drop-take from end l)

-- what is lent of the front of the text store is the text of the sheet
pub text-lent : (l front : List ℕ) (end : ℕ) → front ≡ take end l → (from : ℕ) → lent_from front from ≡ sheet_text l from end
unfolding sheet_text
text-lent l front end e from = rest front from ∙ ap (drop from) e ∙ drop-take from end l

-- ---- style rows, as they are split
-- the styles in the first k rows of a part of a store are those that are read there
pub styled-chunks : (k n : ℕ) (t : List ℕ) → style_width * k ≤ n → styled_in (first_chunks style_width k (take n t)) ≡ (read_many read_styled k t).value
unfolding styled_in read_many read_styled
styled-chunks zero n t h = refl
styled-chunks (suc k) n t h =
    let fewer : style_width * k ≤ n - style_width = omega arith in
    let here : style_width ≤ n = omega arith in
    rw (take-take style_width n t here, row-numbers t, drop-take style_width n t)
    (ap (λ (l : List (Styled Value)). in_numbers (numbers_at t) ∷ l) (styled-chunks k (n - style_width) (drop style_width t) fewer))
