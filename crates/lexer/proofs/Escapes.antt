-- How large the number is that hex digits write, and the returns of the readers of one character.
use Rattle.std.specs.Option.{option_or}
use Rattle.std.proofs.Common.{Option, Some, None, MatchOption}
use mathlib.Core.Path.{◌≡◌, refl, ap, sym, ◌∙◌}
use mathlib.Core.List.{List, [], ◌∷◌}
use mathlib.Core.Bool.{Bool, true, false, ◌&&◌}
use Prim.Native.Nat.{ℕ, zero, suc, ◌+◌, ◌-◌, ◌*◌, ◌<◌, ◌≤◌}
use native.Mathlib.Numerals.{add-one}
use native.Mathlib.Nat.{add-zero}
use native.Mathlib.Omega.{arith}
use lib.Dec.{eqb}
use lib.Pointwise.{pointwise}
use lib.ListN.{length, get_or, take, drop}
use lib.Seq.{drop-drop}
use Rattle.combinators.specs.Choice.{is}
use Prim.Native.Char.{code as ascii}
use Rattle.combinators.proofs.Rules.{pick-holds, pick_true, pick-false, told, is-no, is-no-of, within-true}
use Rattle.combinators.proofs.Lists.{first}
use Rattle.characters.specs.Utf8.{or_replacement}
use Rattle.combinators.specs.declared.taken.Taken.{Taken}
use Rattle.lexer.specs.Name.{lower, is_hex_digit, hex_digit, hex_run, maximum_digits, hex_count, hex_value, escaped_of, ident_escape_of, folded_char}

-- ---- how large the number is that hex digits write
-- what k of them write is below this
unfoldable pub power_of_sixteen : ℕ → ℕ
power_of_sixteen zero = 1
power_of_sixteen (suc k) = 16 * power_of_sixteen k

-- before the last of six digits, it is at most 16 to the fifth
power_small : (i : ℕ) → i < maximum_digits → power_of_sixteen i ≤ 1048576
unfolding power_of_sixteen
power_small zero h = omega arith
power_small (suc zero) h = omega arith
power_small (suc (suc zero)) h = omega arith
power_small (suc (suc (suc zero))) h = omega arith
power_small (suc (suc (suc (suc zero)))) h = omega arith
power_small (suc (suc (suc (suc (suc zero))))) h = omega arith
power_small (suc (suc (suc (suc (suc (suc k)))))) h = absurd (omega arith)

-- a hex digit is worth at most 15
pub digit-le : (x : ℕ) → hex_digit x ≤ 15
unfolding hex_digit
digit-le x =
    pick-holds (λ (y : ℕ). y ≤ 15) _ _ _ (λ e. omega (arith, within-true x (ascii "0") (ascii "9") e))
    (λ _. pick-holds (λ (y : ℕ). y ≤ 15) _ _ _ (λ e. omega (arith, within-true x (ascii "a") (ascii "f") e))
    (λ _. pick-holds (λ (y : ℕ). y ≤ 15) _ _ _ (λ e. omega (arith, within-true x (ascii "A") (ascii "F") e)) (λ _. omega arith)))

-- k digits more make the number at most 16 times as large each
pub value-lt : (k j a : ℕ) (s : List ℕ) → a < power_of_sixteen j → hex_value a k s < power_of_sixteen (j + k)
unfolding hex_value power_of_sixteen
value-lt zero j a s h = rw (add-zero j) h
value-lt (suc k) j a s h =
    let e : suc j + k ≡ j + suc k = omega arith in
    rw e at (value-lt k (suc j) (a * 16 + hex_digit (get_or s 0 0)) (drop 1 s) (omega (arith, digit-le (get_or s 0 0))))

-- ---- the loop of `hex_value_of`: at i, the first digits write v, and what the others write behind them is the whole
pub record Reading (s : List ℕ) (n v i : ℕ) : Type 0 where
  pub left : hex_value 0 n s ≡ hex_value v (n - i) (drop i s)
  pub small : v < power_of_sixteen i
  pub bound : i ≤ n

-- behind digits worth a, one digit makes the number 16 times a and the digit's worth, and k are left
value-step : (a k : ℕ) (s : List ℕ) → hex_value a (suc k) s ≡ hex_value (a * 16 + hex_digit (get_or s 0 0)) k (drop 1 s)
unfolding hex_value
value-step a k s = refl

-- before the first digit the value is 0, and all digits are left
pub value-begin : (s : List ℕ) (n : ℕ) → Reading s n 0 0
unfolding power_of_sixteen
value-begin s n = let d : n - 0 ≡ n = omega arith in record { left = rw d; small = omega arith; bound = omega arith }

module _ (s : List ℕ) (n v i : ℕ) (c : Reading s n v i) where
  -- with one digit more, the number is below 16 to the sixth
  pub value-fits : n ≤ maximum_digits → i < n → (b d : ℕ) → d ≡ hex_digit b → v * 16 + d < 16777216
  value-fits h l b d e = let r = c.small in omega (arith, power_small i (omega arith), digit-le b, e)

  -- the digit at i makes the number 16 times as large and adds its worth, and i + 1 digits are read
  pub value-more : i < n → (b d : ℕ) → b ≡ get_or s i 0 → d ≡ hex_digit b → Reading s n (v * 16 + d) (i + 1)
  unfolding power_of_sixteen
  value-more h b d eb ed =
      let m : n - i ≡ suc (n - (i + 1)) = omega arith in
      let r = c.small in
      record {
        left = c.left ∙ ap (λ k. hex_value v k (drop i s)) m ∙ value-step v (n - (i + 1)) (drop i s) ∙ rw (first s i, drop-drop 1 i s, ed, eb);
        small = rw (add-one i) (omega (arith, digit-le b, ed));
        bound = omega arith;
      }

  -- with all n digits read, the value is theirs
  pub value-done : n ≤ i → v ≡ hex_value 0 n s
  unfolding hex_value
  value-done h = let d : n - i ≡ 0 = omega arith in sym (rw d at c.left)

-- ---- the returns of `hex_count`
module _ (t : List ℕ) (n : ℕ) (e : n ≡ hex_run 0 maximum_digits t) where
  -- where the run ends before the end of the text, all its digits are taken
  pub short-of : ¬ (n ≡ length t) → n ≡ hex_count t
  unfolding hex_count
  short-of d = pick-false _ _ _ _ (is-no-of _ _ _ e d) e

-- ---- the returns of `nmstart_char` and `nmchar_char`: b is the first byte, and r whether p holds of it
module _ (p : ℕ → Bool) (s : List ℕ) (b : ℕ) (eb : b ≡ get_or s 0 0) (r : Bool) (er : r ≡ p b) where
  -- where p holds of the first byte, the character is that byte folded, and takes one byte
  pub char-yes : r ≡ true → (v : ℕ) → v ≡ lower b → Some (record { taken = 1; value = v }) ≡ folded_char p s
  unfolding folded_char
  char-yes e v ev = pick_true _ _ _ _ (told _ _ _ (er ∙ ap p eb) e) (rw (ev, eb))

  -- where p does not hold of the first byte, there is no character
  pub char-no : r ≡ false → None ≡ folded_char p s
  unfolding folded_char
  char-no e = pick-false _ _ _ _ (told _ _ _ (er ∙ ap p eb) e) refl

-- ---- a return of `escaped`
-- hex digits behind the backslash stand for the scalar value that they write, or U+FFFD
pub escaped-hex : (t : List ℕ) → ¬ (length t ≡ 0) → (b : ℕ) → b ≡ get_or t 0 0 → (r : Bool) → r ≡ is_hex_digit b → r ≡ true
    → (n m v : ℕ) → n ≡ hex_count t → m ≡ hex_value 0 n t → v ≡ or_replacement m → Some (record { taken = 1 + n; value = v }) ≡ escaped_of t
unfolding escaped_of
escaped-hex t d b eb r er e n m v en em ev =
    pick-false _ _ _ _ (is-no _ _ d) (pick_true _ _ _ _ (told _ _ _ (er ∙ ap is_hex_digit eb) e) (rw (ev, em, en)))

-- ---- the returns of `ident_escape`
-- the library's test of the first byte
backslash-told : (s : List ℕ) → pointwise eqb (take 1 s) (ascii "\\" ∷ []) ≡ is (get_or s 0 0) (ascii "\\")
unfolding is
backslash-told [] = refl
backslash-told (x ∷ s) = go (eqb x (ascii "\\"))
  where
    go : (b : Bool) → (b && true) ≡ b
    go true = refl
    go false = refl

-- where no backslash stands, there is no escape
pub escape-no : (s : List ℕ) (r : Bool) → r ≡ is (get_or s 0 0) (ascii "\\") → r ≡ false → None ≡ ident_escape_of s
unfolding ident_escape_of
escape-no s r er h = pick-false _ _ _ _ (told _ _ _ er h) refl

-- as the library tells it
pub escape-missing : (s : List ℕ) → pointwise eqb (take 1 s) (ascii "\\" ∷ []) ≡ false → None ≡ ident_escape_of s
escape-missing s h = escape-no s _ (backslash-told s) h

-- behind a backslash, what `escaped` reads of the rest of the text is the escape
pub escape-yes : (s t : List ℕ) → (pointwise eqb (take 1 s) (ascii "\\" ∷ []) ≡ true) × (t ≡ drop 1 s) × (length t + 1 ≡ length s)
    → (x : Option (Taken ℕ)) → x ≡ escaped_of t → x ≡ ident_escape_of s
unfolding ident_escape_of
escape-yes s t h x ex = pick_true _ _ _ _ (sym (backslash-told s) ∙ h.0) (ex ∙ ap escaped_of h.1)

-- ---- the returns of `nmstart` and `nmchar`
module _ (x a b : Option (Taken ℕ)) (ex : x ≡ a) where
  -- where the first does not, the second is the answer
  pub either_second : x ≡ None → (y : Option (Taken ℕ)) → y ≡ b → y ≡ option_or a b
  either_second h y ey = rw (sym ex ∙ h) ey

  -- both at once, as `or_else` answers
  pub either-by : {E : Type 0} (r : Option (Taken ℕ)) → MatchOption x E (λ c. r ≡ Some c) → (E → r ≡ b) → r ≡ option_or a b
  either-by {E = E} r m f = go x ex m
    where
      go : (y : Option (Taken ℕ)) → y ≡ a → MatchOption y E (λ c. r ≡ Some c) → r ≡ option_or a b
      go (Some c) e m = rw (← e) m
      go None e m = rw (← e) (f m)
