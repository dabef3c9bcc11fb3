-- Numbers as the code counts them: the digits of a number within the most, and one above it beyond; the parts of a number's text.
use Prim.Native.Nat.{ℕ, ◌+◌, ◌-◌, ◌*◌, ◌<◌, ◌≤◌, min}
use mathlib.Core.Path.{◌≡◌, refl, sym, ap, ◌∙◌}
use mathlib.Core.Bool.{Bool}
use mathlib.Core.Logic.{⊎_elim}
use mathlib.Core.List.{List, [], ◌∷◌, ◌++◌}
use native.Mathlib.Numerals.{add-one}
use native.Mathlib.Omega.{arith}
use borrow.Author.Tests.{lt-ltb, le-ltb}
use lib.ListN.{length, get_or, take, drop, drop_of_length-le}
use lib.Seq.{drop-cons}
use Prim.Native.Char.{code as ascii}
use Rattle.combinators.specs.Choice.{is}
use Rattle.combinators.proofs.Lists.{rest}
use Rattle.combinators.proofs.Rules.{lt-or-ge, pick_true, pick-false}
use Rattle.lexer.specs.Name.{hex_digit}
use Rattle.lexer.specs.Number.{digits, sign}
use Rattle.lexer.specs.Whitespace.{skip_whitespace}
use Rattle.values.specs.Colour.{numeral}
use Rattle.values.proofs.HeightLaws.{unsigned_of, integer_of, fraction_of}
use Rattle.lengths.specs.Length.{ten, digits_number, decimals, is_negative}
use Rattle.lengths.specs.Numeral.{most_digits, capped, unsigned_numeral, numeral_of}
use Rattle.lengths.specs.declared.numerals.Numeral.{Numeral}

-- ---- the number that digits write
-- of the digits of t behind the number v
abbrev pub worth : ℕ → List ℕ → ℕ
worth v t = numeral ten hex_digit v t

-- digits behind a number do not make it less
worth-ge : (v : ℕ) (t : List ℕ) → v ≤ worth v t
unfolding numeral
worth-ge v [] = omega arith
worth-ge v (x ∷ t) = omega (arith, worth-ge (v * ten + hex_digit x) t)

-- the digits of two texts
worth-append : (v : ℕ) (a b : List ℕ) → worth v (a ++ b) ≡ worth (worth v a) b
unfolding numeral
worth-append v [] b = refl
worth-append v (x ∷ a) b = worth-append (v * ten + hex_digit x) a b

-- one digit, and those behind it
worth-from : (t : List ℕ) (i v d : ℕ) → i < length t → d ≡ hex_digit (get_or t i 0) → worth v (drop i t) ≡ worth (v * ten + d) (drop (i + 1) t)
unfolding numeral
worth-from t i v d h e = rw (e, add-one i, drop-cons t i 0 h)

-- where no digit is left, the number is what was read
worth-end : (t : List ℕ) (i v : ℕ) → length t ≤ i → worth v (drop i t) ≡ v
unfolding numeral
worth-end t i v h = rw (drop_of_length-le t h)

-- ---- up to the most
-- a number within the most is itself
pub capped-within : (v : ℕ) → v ≤ most_digits → capped v ≡ v
unfolding capped
capped-within v h = sym (pick-false _ _ _ _ (le-ltb most_digits v h) refl)

-- a number beyond it counts as one above it
pub capped-over : (v : ℕ) → most_digits < v → capped v ≡ most_digits + 1
unfolding capped
capped-over v h = sym (pick_true _ _ _ _ (lt-ltb most_digits v h) refl)

-- so none is above that
pub capped_le : (v : ℕ) → capped v ≤ most_digits + 1
capped_le v =
    ⊎_elim (λ (h : most_digits < v). omega (arith, capped-over v h)) (λ (h : v ≤ most_digits). omega (arith, capped-within v h)) (lt-or-ge most_digits v)

-- digits behind a number beyond the most change nothing
capped-worth : (v : ℕ) (t : List ℕ) → capped (worth (capped v) t) ≡ capped (worth v t)
capped-worth v t =
    ⊎_elim
    (λ (h : most_digits < v).
    ap (λ (x : ℕ). capped (worth x t)) (capped-over v h) ∙ capped-over (worth (most_digits + 1) t) (omega (arith, worth-ge (most_digits + 1) t))
    ∙ sym (capped-over (worth v t) (omega (arith, worth-ge v t))))
    (λ (h : v ≤ most_digits). ap (λ (x : ℕ). capped (worth x t)) (capped-within v h))
    (lt-or-ge most_digits v)

-- ---- `digits_from`: the digits from i on behind the number v make what all make
module _ (v₀ : ℕ) (t : List ℕ) (v i : ℕ) (c : capped (worth v₀ t) ≡ capped (worth v (drop i t))) where
  -- where the number so far is beyond the most, so is the whole, whatever digits follow
  pub digits-over : most_digits < v → most_digits + 1 ≡ capped (worth v₀ t)
  digits-over h = sym (c ∙ capped-over (worth v (drop i t)) (omega (arith, worth-ge v (drop i t))))

  -- the digit at i makes the number ten times as large and adds its worth, and those from i + 1 on are left
  pub digits_more : i < length t → (d : ℕ) → d ≡ hex_digit (get_or t i 0) → capped (worth v₀ t) ≡ capped (worth (v * ten + d) (drop (i + 1) t))
  digits_more h d e = c ∙ ap capped (worth-from t i v d h e)

  -- where no digit is left and the number is within the most, it is the whole number
  pub digits-done : length t ≤ i → v ≤ most_digits → v ≡ capped (worth v₀ t)
  digits-done h l = sym (c ∙ ap capped (worth-end t i v h) ∙ capped-within v l)

  -- the same, whether it is within the most or not
  pub digits-least : length t ≤ i → min v (most_digits + 1) ≡ capped (worth v₀ t)
  digits-least h =
      ⊎_elim (λ (l : most_digits < v). (let e : min v (most_digits + 1) ≡ most_digits + 1 = omega arith in e) ∙ digits-over l)
      (λ (l : v ≤ most_digits). (let e : min v (most_digits + 1) ≡ v = omega arith in e) ∙ digits-done h l) (lt-or-ge most_digits v)

-- ---- `unsigned_numeral`: n digits, worth w
module _ (negative : Bool) (u : List ℕ) (n : ℕ) (e : n ≡ digits u) (w : ℕ) (ew : w ≡ capped (worth 0 (take n u))) where
  -- what stands behind the point, or nothing, are its decimals
  pub parts : (f : List ℕ) → f ≡ drop (n + 1) u → (v : ℕ) → v ≡ capped (worth w f)
      → ◌≡◌ {A = Numeral} (record { negative = negative; decimals = length f; digits = v }) (unsigned_numeral negative u)
  unfolding unsigned_numeral
  parts f ef v ev =
      let p : drop (n + 1) u ≡ drop (digits u + 1) u = ap (λ (k : ℕ). drop (k + 1) u) e in
      let q : length f ≡ length (drop (digits u + 1) u) = ap length (ef ∙ p) in
      let r : v ≡ capped (worth 0 (take (digits u) u ++ drop (digits u + 1) u)) =
      ev ∙ ap (λ (x : ℕ). capped (worth x f)) ew ∙ capped-worth (worth 0 (take n u)) f ∙ ap capped (sym (worth-append 0 (take n u) f))
      ∙ ap (λ (k : ℕ). capped (worth 0 (take k u ++ f))) e ∙ ap (λ (l : List ℕ). capped (worth 0 (take (digits u) u ++ l))) (ef ∙ p)
      in
      rw (q, r) refl

-- ---- `numeral_of`: w bytes of white space, and a sign of k
-- the number behind white space and its sign, read without a sign, is that of the whole text
pub numeral-read : (s : List ℕ) (w : ℕ) → w ≡ skip_whitespace s → (t : List ℕ) → t ≡ take (length s - w) (drop w s) → (b : Bool)
    → b ≡ is (get_or t 0 0) (ascii "-") → (k : ℕ) → k ≡ sign t → (r : Numeral) → r ≡ unsigned_numeral b (take (length t - k) (drop k t)) → r ≡ numeral_of s
unfolding numeral_of unsigned_numeral digits_number decimals is_negative integer_of fraction_of unsigned_of
numeral-read s w ew t et b eb k ek r er =
    let p : t ≡ drop (skip_whitespace s) s = et ∙ rest s w ∙ ap (λ (i : ℕ). drop i s) ew in
    er ∙ ap (unsigned_numeral b) (rest t k ∙ ap (λ (i : ℕ). drop i t) ek) ∙ ap (λ (x : Bool). unsigned_numeral x (drop (sign t) t)) eb
    ∙ ap (λ (l : List ℕ). unsigned_numeral (is (get_or l 0 0) (ascii "-")) (drop (sign l) l)) p
