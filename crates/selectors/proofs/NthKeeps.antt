-- What the arguments of `nth-child` keep to: they lie within the text, and their numbers fit.
use mathlib.Core.Path.{◌≡◌, refl}
use mathlib.Core.Bool.{Bool}
use mathlib.Core.List.{List}
use Prim.Native.Nat.{ℕ, ◌+◌, ◌≤◌}
use native.Mathlib.Omega.{arith}
use borrow.Author.Tests.{leb-true}
use lib.IntN.{ℤ, pos}
use lib.ListN.{length, drop, length-drop}
use Prim.Native.Char.{code as ascii}
use Rattle.combinators.proofs.Lists.{byte-there}
use Rattle.combinators.proofs.Rules.{pick-holds, and-true}
use Rattle.combinators.proofs.Words.{starts-le}
use Rattle.lexer.specs.Number.{sign, digits}
use Rattle.lexer.specs.Whitespace.{skip_whitespace}
use Rattle.lexer.proofs.Comments.{skip-le}
use Rattle.lexer.proofs.Digits.{digits_le, sign_le}
use Rattle.syntax.specs.Selector.{Component, nth}
use Rattle.syntax.specs.Signed.{signed_number}
use Rattle.selectors.specs.Outcome.{Outcome, reads, fails, panics, on_outcome, or_else}
use Rattle.selectors.specs.Selector.{is_minus, greatest, converted, both_of, just_a, just_b, worded, nth_of, nth_args_of}
use Rattle.selectors.specs.NthAnswer.{greatest_signed}
use Rattle.selectors.proofs.AllLaws.{Where, where-else}
use Rattle.selectors.proofs.NthNumbers.{digits_worth, signed_le}

-- an+b, with two numbers that fit
pub record Numbered (c : Component) : Type 0 where
  pub a : ℤ
  pub b : ℤ
  pub is-nth : c ≡ nth a b
  pub first_fits : signed_number a ≤ greatest_signed
  pub second_fits : signed_number b ≤ greatest_signed

-- where it reads or panics
abbrev pub NthKeeps : List ℕ → Outcome Component → Type 0
NthKeeps s o = Where (length s) (λ n c. (n ≤ length s) × Numbered c) o

-- two numbers that fit
numbered : (a b : ℤ) → signed_number a ≤ greatest_signed → signed_number b ≤ greatest_signed → Numbered (nth a b)
numbered a b h i = record { a = a; b = b; is-nth = refl; first_fits = h; second_fits = i }

-- what holds of every case of an outcome
pub on-outcome : {A B : Type 0} (P : B → Type 0) (o : Outcome A) (f : ℕ → A → B) (b : B) (g : ℕ → B)
    → ((n : ℕ) (a : A) → o ≡ reads n a → P (f n a)) → P b → ((p : ℕ) → o ≡ panics p → P (g p)) → P (on_outcome o f b g)
unfolding on_outcome
on-outcome P (reads n a) f b g h i j = h n a refl
on-outcome P fails f b g h i j = i
on-outcome P (panics p) f b g h i j = j p refl

-- what holds of two alternatives
or-keeps : (s : List ℕ) (o o' : Outcome Component) → NthKeeps s o → NthKeeps s o' → NthKeeps s (or_else o o')
or-keeps s o o' h k = where-else (length s) (λ n c. (n ≤ length s) × Numbered c) o o' h k

-- a number that is converted fits
converted-keeps : (s t : List ℕ) (i n : ℕ) (minus : Bool) (f : ℤ → Outcome Component) → ((z : ℤ) → signed_number z ≤ greatest_signed → NthKeeps s (f z)) → i ≤ length s
    → NthKeeps s (converted t i n minus f)
unfolding converted digits_worth
converted-keeps s t i n minus f h l =
    pick-holds (NthKeeps s) _ _ _ (λ e. h _ (signed_le minus (digits_worth t i n) (leb-true (digits_worth t i n) greatest e))) (λ _. l)

-- 0 is a number that fits
zero-fits : signed_number (pos 0) ≤ greatest_signed
unfolding signed_number
zero-fits = omega arith

-- digits behind a place that has one lie within the text
digits-within : (s : List ℕ) (p : ℕ) → 1 ≤ digits (drop p s) → p + digits (drop p s) ≤ length s
digits-within s p h = omega (arith, digits_le (drop p s), length-drop p s)

-- an+b keeps to the bounds
both-keeps : (s : List ℕ) → NthKeeps s (both_of s)
unfolding both_of
both-keeps s =
    let i = sign s in
    let n = digits (drop i s) in
    let j = i + n + 1 in
    let p = j + skip_whitespace (drop j s) in
    let m = digits (drop (p + 1) s) in
    pick-holds (NthKeeps s) _ _ _
    (λ e. let t = (and-true _ _ (and-true _ _ e).1).1 in
    let l = digits-within s (p + 1) (leb-true 1 m t) in
    converted-keeps s s i n (is_minus s 0) _
    (λ a la. converted-keeps s s (p + 1) m (is_minus s p) _ (λ b lb. (l, numbered a b la lb)) (omega arith))
    (sign_le s))
    (λ _. tt)

-- an keeps to the bounds
a-keeps : (s : List ℕ) → NthKeeps s (just_a s)
unfolding just_a
a-keeps s =
    pick-holds (NthKeeps s) _ _ _
    (λ e. let l = byte-there s (sign s + digits (drop (sign s) s)) (ascii "n") (omega arith) e in
    converted-keeps s s (sign s) _ _ _ (λ a la. (omega arith, numbered a (pos 0) la zero-fits)) (sign_le s))
    (λ _. tt)

-- b keeps to the bounds
b-keeps : (s : List ℕ) → NthKeeps s (just_b s)
unfolding just_b
b-keeps s =
    pick-holds (NthKeeps s) _ _ _
    (λ e. converted-keeps s s (sign s) _ _ _ (λ b lb. (digits-within s (sign s) (leb-true 1 _ e), numbered (pos 0) b zero-fits lb)) (sign_le s))
    (λ _. tt)

-- `even` and `odd` keep to the bounds
worded-keeps : (s word : List ℕ) (a b : ℤ) → signed_number a ≤ greatest_signed → signed_number b ≤ greatest_signed → NthKeeps s (worded s word a b)
unfolding worded
worded-keeps s word a b h i = pick-holds (NthKeeps s) _ _ _ (λ e. (starts-le word s e, numbered a b h i)) (λ _. tt)

-- the numbers of words fit
words-fit : (signed_number (pos 0) ≤ greatest_signed) × (signed_number (pos 1) ≤ greatest_signed) × (signed_number (pos 2) ≤ greatest_signed)
unfolding signed_number
words-fit = (omega arith, omega arith, omega arith)

-- every alternative keeps to the bounds
pub nth-keeps : (s : List ℕ) → NthKeeps s (nth_of s)
unfolding nth_of
nth-keeps s =
    or-keeps s _ _ (worded-keeps s _ (pos 2) (pos 0) words-fit.2 words-fit.0)
    (or-keeps s _ _ (worded-keeps s _ (pos 2) (pos 1) words-fit.2 words-fit.1)
    (or-keeps s _ _ (both-keeps s) (or-keeps s _ _ (a-keeps s) (b-keeps s))))

-- an argument that stands behind w bytes keeps to the bounds
nth-from : (s : List ℕ) (w : ℕ) → w ≤ length s → (o : Outcome Component) → nth_of (drop w s) ≡ o → NthKeeps (drop w s) o
nth-from s w h o e = rw e at (nth-keeps (drop w s))

-- the arguments in brackets keep to the bounds
pub args-keeps : (s : List ℕ) → NthKeeps s (nth_args_of s)
unfolding nth_args_of
args-keeps s =
    let w = 1 + skip_whitespace (drop 1 s) in
    let d = length-drop w s in
    pick-holds (NthKeeps s) _ _ _
    (λ e. let h : w ≤ length s = let l = byte-there s 0 (ascii "(") (omega arith) e in omega (arith, skip-le (drop 1 s), length-drop 1 s) in
    on-outcome (NthKeeps s) (nth_of (drop w s)) _ _ _
    (λ n x eo. let k = nth-from s w h (reads n x) eo in
    pick-holds (NthKeeps s) _ _ _
    (λ f. let l = byte-there s (w + n + skip_whitespace (drop (w + n) s)) (ascii ")") (omega arith) f in (omega arith, k.1)) (λ _. tt))
    tt (λ p eo. let k = nth-from s w h (panics p) eo in omega arith))
    (λ _. tt)
