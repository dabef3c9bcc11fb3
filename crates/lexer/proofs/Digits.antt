-- Numbers: a reading behind another, and that what is read lies within the text.
use Rattle.std.proofs.Common.{Option, Some, None}
use mathlib.Core.Path.{◌≡◌, refl, ap, sym, ◌∙◌}
use mathlib.Core.List.{List}
use mathlib.Core.Bool.{Bool, true, false}
use Prim.Native.Nat.{ℕ, ◌+◌, ◌-◌, ◌≤◌, zero-le}
use native.Mathlib.Omega.{arith}
use borrow.Author.Tests.{ltb-true}
use Rattle.std.specs.Bool.{then_some}
use Rattle.std.proofs.lemmas.Bool.{ltb-false}
use lib.Dec.{ltb}
use lib.ListN.{length, get_or, take, drop, length-drop}
use Rattle.combinators.specs.Choice.{pick, is}
use Prim.Native.Char.{code as ascii}
use Rattle.combinators.proofs.Rules.{is-yes, is-no, pick_true, pick-false, pick-holds, either}
use Rattle.combinators.proofs.Lists.{byte-there}
use Rattle.combinators.proofs.Repeats.{many-le}
use Rattle.combinators.proofs.Repeating.{lent}
use Rattle.lexer.specs.Whitespace.{skip_whitespace}
use Rattle.lexer.specs.Taken.{taken_answer}
use Rattle.lexer.specs.Number.{one_digit, digits, decimal, unsigned, sign, signed, number}
use Rattle.lexer.proofs.Comments.{skip-le}
use Rattle.lexer.proofs.Taken.{taken-none, taken-some, some-taken, none-taken}

-- the digits lie within the text
pub digits_le : (s : List ℕ) → digits s ≤ length s
unfolding digits
digits_le s = omega (arith, many-le one_digit s 0 0)

-- ---- a reading behind another
-- w bytes and what u takes behind them; none where u takes none
abbrev pub followed : (List ℕ → ℕ) → ℕ → List ℕ → ℕ
followed u w s = pick (is (u (drop w s)) 0) 0 (w + u (drop w s))

-- u took n bytes of the part from k on, where k is w
module _ (u : List ℕ → ℕ) (s : List ℕ) (w k n : ℕ) (p : k ≡ w) (e : n ≡ u (take (length s - k) (drop k s))) where
  -- so it takes them of the rest from w on
  took : u (drop w s) ≡ n
  took = ap (λ i. u (drop i s)) (sym p) ∙ lent u s k n e

  -- where u takes no byte behind the w bytes, both together take 0
  pub followed-none : n ≡ 0 → 0 ≡ followed u w s
  followed-none z = pick_true _ _ _ _ (is-yes _ _ (took ∙ z)) refl

  -- where u takes n bytes, not 0, behind the k bytes, both together take k + n
  pub followed-some : ¬ (n ≡ 0) → k + n ≡ followed u w s
  followed-some d = pick-false _ _ _ _ (is-no _ _ (λ z. d (sym took ∙ z))) (rw (took, p))

-- u answers x of the part from k on, where k is w
module _ (u : List ℕ → ℕ) (s : List ℕ) (w k : ℕ) (x : Option ℕ) (p : k ≡ w) (e : x ≡ taken_answer (u (take (length s - k) (drop k s)))) where
  -- where it answers none, both together take no byte
  pub none-behind : x ≡ None → None ≡ taken_answer (followed u w s)
  none-behind h = taken-none _ (followed-none u s w k 0 p (sym (none-taken _ (sym h ∙ e))) refl)

  -- and where it answers n bytes, they are these and those before them
  pub some-behind : (n : ℕ) → x ≡ Some n → Some (k + n) ≡ taken_answer (followed u w s)
  some-behind n h =
      let t = some-taken n _ (sym h ∙ e) in
      taken-some _ _ (followed-some u s w k n p t.0 t.1) (λ z. t.1 (omega arith))

-- both lie within the text where each part does
pub followed-le : (u : List ℕ → ℕ) → ((l : List ℕ) → u l ≤ length l) → (s : List ℕ) (w : ℕ) → w ≤ length s → followed u w s ≤ length s
followed-le u le s w h = pick-holds (λ k. k ≤ length s) _ _ _ (λ _. zero-le) (λ _. omega (arith, le (drop w s), length-drop w s))

-- ---- a decimal, by the byte behind its n digits
module _ (s : List ℕ) (n : ℕ) (p : n ≡ digits s) where
  -- it is no full stop
  pub decimal-none : is (get_or s n 0) (ascii ".") ≡ false → None ≡ taken_answer (decimal s)
  unfolding decimal
  decimal-none e = taken-none _ (pick-false _ _ _ _ (ap (λ i. is (get_or s i 0) (ascii ".")) (sym p) ∙ e) refl)

  -- where it is a full stop, the decimal is the digits and the full stop with the digits behind them
  decimal-is : is (get_or s n 0) (ascii ".") ≡ true → followed digits (digits s + 1) s ≡ decimal s
  unfolding decimal
  decimal-is e = pick_true _ _ _ _ (ap (λ i. is (get_or s i 0) (ascii ".")) (sym p) ∙ e) refl

  module _ (m : ℕ) (em : m ≡ digits (take (length s - (n + 1)) (drop (n + 1) s))) (e : is (get_or s n 0) (ascii ".") ≡ true) where
    -- no digit stands behind the full stop
    decimal-bare : m ≡ 0 → None ≡ taken_answer (decimal s)
    decimal-bare h = taken-none _ (followed-none digits s _ _ m (ap (λ i. i + 1) p) em h ∙ decimal-is e)

    -- m digits do
    decimal-some : ¬ (m ≡ 0) → Some (n + 1 + m) ≡ taken_answer (decimal s)
    decimal-some d = taken-some _ _ (followed-some digits s _ _ m (ap (λ i. i + 1) p) em d ∙ decimal-is e) (λ z. d (omega arith))

    -- by whether there are any
    pub decimal-by : then_some (ltb 0 m) (n + 1 + m) ≡ taken_answer (decimal s)
    decimal-by = go (ltb 0 m) refl
      where
        go : (b : Bool) → ltb 0 m ≡ b → then_some b (n + 1 + m) ≡ taken_answer (decimal s)
        go true h = decimal-some (λ z. let l = ltb-true 0 m h in omega arith)
        go false h = decimal-bare (let l = ltb-false 0 m h in omega arith)

-- ---- the parts of a number lie within the text
-- a decimal ends within the text
pub decimal-le : (s : List ℕ) → decimal s ≤ length s
unfolding decimal
decimal-le s =
    pick-holds (λ k. k ≤ length s) _ _ _
    (λ e. followed-le digits digits_le s (digits s + 1) (let l = byte-there s (digits s) (ascii ".") (omega arith) e in omega arith))
    (λ _. zero-le)

-- a number without a sign
pub unsigned-le : (s : List ℕ) → unsigned s ≤ length s
unfolding unsigned
unsigned-le s = pick-holds (λ k. k ≤ length s) _ _ _ (λ _. decimal-le s) (λ _. digits_le s)

-- a sign, or none, lies within the text
pub sign_le : (s : List ℕ) → sign s ≤ length s
unfolding sign
sign_le s =
    pick-holds (λ k. k ≤ length s) _ _ _
    (λ e. either (1 ≤ length s) _ _ e (byte-there s 0 (ascii "-") (omega arith)) (byte-there s 0 (ascii "+") (omega arith)))
    (λ _. zero-le)

-- a number with a sign or none
pub signed_le : (s : List ℕ) → signed s ≤ length s
unfolding signed
signed_le s = followed-le unsigned unsigned-le s (sign s) (sign_le s)

-- a number behind white space
pub number-le : (s : List ℕ) → number s ≤ length s
unfolding number
number-le s = followed-le signed signed_le s (skip_whitespace s) (skip-le s)
