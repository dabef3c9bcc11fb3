-- Where reading a component panics: at the first digit of a number of `nth-child`, and nowhere else.
use mathlib.Core.Path.{◌≡◌, refl, sym, ap, ◌∙◌}
use mathlib.Core.Bool.{Bool, true, false}
use mathlib.Core.List.{List, [], ◌∷◌}
use Prim.Native.Nat.{ℕ, ◌+◌}
use native.Mathlib.Omega.{arith}
use borrow.Author.Tests.{le-leb}
use lib.Dec.{leb}
use lib.IntN.{ℤ}
use lib.ListN.{get_or, drop}
use lib.Seq.{get_or-drop}
use Rattle.combinators.specs.Choice.{pick, is}
use Rattle.combinators.specs.Parsed.{Parsed, ok, err}
use Rattle.combinators.specs.Repeat.{took, many}
use Rattle.combinators.proofs.Lists.{first}
use Rattle.combinators.proofs.Rules.{pick-holds, never}
use Rattle.lexer.specs.Name.{ident_of}
use Rattle.lexer.specs.Number.{is_digit, one_digit, digits}
use Rattle.lexer.specs.Whitespace.{skip_whitespace}
use Rattle.lexer.proofs.TokenBounds.{on-holds}
use Rattle.syntax.specs.Selector.{Component}
use Rattle.selectors.specs.Outcome.{Outcome, reads, fails, panics, on_outcome, behind, parsed, or_else}
use Rattle.selectors.specs.Selector.{class_of, hash_of, closed, value_of, attr_of, greatest, converted, both_of, just_a, just_b, worded, nth_of, nth_args_of, pseudo_class_of, marked, blank_of, component_of}
use Rattle.selectors.proofs.NthNumbers.{digits_worth}

-- where it panics there is a digit
abbrev pub AtDigit : {A : Type 0} → List ℕ → Outcome A → Type 0
AtDigit t (reads n a) = Unit
AtDigit t fails = Unit
AtDigit t (panics p) = is_digit (get_or t p 0) ≡ true

-- ---- by the parts of the definitions
-- two alternatives panic at digits alone, if each does
digit-else : {A : Type 0} (t : List ℕ) (o q : Outcome A) → AtDigit t o → AtDigit t q → AtDigit t (or_else o q)
unfolding or_else
digit-else t (reads n a) q h k = tt
digit-else t fails q h k = k
digit-else t (panics p) q h k = h

-- of what was read behind w bytes, by cases
digit-then : {A B : Type 0} (t : List ℕ) (w : ℕ) (o : Outcome A) (f : ℕ → A → Outcome B) → AtDigit (drop w t) o → ((n : ℕ) (a : A) → AtDigit t (f n a))
    → AtDigit t (on_outcome o f fails (λ p. panics (w + p)))
unfolding on_outcome
digit-then t w (reads n a) f h k = k n a
digit-then t w fails f h k = tt
digit-then t w (panics p) f h k = ap is_digit (sym (get_or-drop w t p 0)) ∙ h

-- of the same behind w bytes
pub digit-behind : {A B : Type 0} (t : List ℕ) (w : ℕ) (o : Outcome A) (f : A → B) → AtDigit (drop w t) o → AtDigit t (behind w o f)
unfolding behind
digit-behind t w o f h = digit-then t w o _ h (λ n a. tt)

-- of a reader that never panics
digit-parsed : {A B : Type 0} (t : List ℕ) (k : ℕ) (p : Parsed A) (f : A → B) → AtDigit t (parsed k p f)
unfolding parsed
digit-parsed t k (ok n a) f = tt
digit-parsed t k err f = tt

-- ---- the numbers of `nth-child`
-- without a digit there are none
no-digits : (u : List ℕ) → is_digit (get_or u 0 0) ≡ false → digits u ≡ 0
unfolding digits many took one_digit pick
no-digits [] e = refl
no-digits (x ∷ r) e = rw e

-- no digits stand for 1, which is not too great
one-fits : (t : List ℕ) (i : ℕ) → digits (drop i t) ≡ 0 → leb (digits_worth t i (digits (drop i t))) greatest ≡ true
unfolding digits_worth pick is
one-fits t i e = rw e (le-leb 1 greatest (omega arith))

-- where a number is too great there is a digit
digit-first : (t : List ℕ) (i : ℕ) → leb (digits_worth t i (digits (drop i t))) greatest ≡ false → is_digit (get_or t i 0) ≡ true
digit-first t i e = go (is_digit (get_or t i 0)) refl
  where
    go : (b : Bool) → is_digit (get_or t i 0) ≡ b → is_digit (get_or t i 0) ≡ true
    go true d = d
    go false d = never (sym e ∙ one-fits t i (no-digits (drop i t) (ap is_digit (first t i) ∙ d)))

-- so a number that is converted
digit-converted : (t : List ℕ) (i : ℕ) (minus : Bool) (f : ℤ → Outcome Component) → ((z : ℤ) → AtDigit t (f z)) → AtDigit t (converted t i (digits (drop i t)) minus f)
unfolding converted digits_worth
digit-converted t i minus f h = pick-holds (AtDigit t) _ _ _ (λ _. h _) (λ e. digit-first t i e)

-- `an+b` panics only at a digit, that of either number
digit-both : (t : List ℕ) → AtDigit t (both_of t)
unfolding both_of
digit-both t = pick-holds (AtDigit t) _ _ _ (λ _. digit-converted t _ _ _ (λ a. digit-converted t _ _ _ (λ b. tt))) (λ _. tt)

-- `an` panics only at a digit
digit-a : (t : List ℕ) → AtDigit t (just_a t)
unfolding just_a
digit-a t = pick-holds (AtDigit t) _ _ _ (λ _. digit-converted t _ _ _ (λ a. tt)) (λ _. tt)

-- `b` alone panics only at a digit
digit-b : (t : List ℕ) → AtDigit t (just_b t)
unfolding just_b
digit-b t = pick-holds (AtDigit t) _ _ _ (λ _. digit-converted t _ _ _ (λ b. tt)) (λ _. tt)

-- `even` and `odd` never panic
digit-worded : (t word : List ℕ) (a b : ℤ) → AtDigit t (worded t word a b)
unfolding worded
digit-worded t word a b = pick-holds (AtDigit t) _ _ _ (λ _. tt) (λ _. tt)

-- whichever form it has, an nth panics only at a digit
digit-nth : (t : List ℕ) → AtDigit t (nth_of t)
unfolding nth_of
digit-nth t =
    digit-else t _ _ (digit-worded t _ _ _)
    (digit-else t _ _ (digit-worded t _ _ _) (digit-else t _ _ (digit-both t) (digit-else t _ _ (digit-a t) (digit-b t))))

-- an nth in round brackets panics only at a digit
digit-args : (t : List ℕ) → AtDigit t (nth_args_of t)
unfolding nth_args_of
digit-args t =
    let w = 1 + skip_whitespace (drop 1 t) in
    pick-holds (AtDigit t) _ _ _
    (λ _. digit-then t w (nth_of (drop w t)) _ (digit-nth (drop w t)) (λ n x. pick-holds (AtDigit t) _ _ _ (λ _. tt) (λ _. tt))) (λ _. tt)

-- a pseudo-class panics only at a digit, that of its `nth-child`
digit-pseudo : (t : List ℕ) → AtDigit t (pseudo_class_of t)
unfolding pseudo_class_of
digit-pseudo t =
    pick-holds (AtDigit t) _ _ _
    (λ _. on-holds (AtDigit t) (ident_of (drop 1 t)) _ _
    (λ n name _. pick-holds (AtDigit t) _ _ _ (λ _. digit-behind t (1 + n) (nth_args_of (drop (1 + n) t)) _ (digit-args (drop (1 + n) t))) (λ _. tt)) (λ _. tt))
    (λ _. tt)

-- ---- attributes never panic
-- the end of an attribute, its bracket, never panics
pub digit-closed : (t : List ℕ) (j : ℕ) (c : Component) → AtDigit t (closed t j c)
unfolding closed
digit-closed t j c = pick-holds (AtDigit t) _ _ _ (λ _. tt) (λ _. tt)

-- a value, quoted or a name, never panics
pub digit_value : (t : List ℕ) (j : ℕ) (name : List ℕ) → AtDigit t (value_of t j name)
unfolding value_of
digit_value t j name =
    digit-else t _ _ (on-holds (AtDigit t) _ _ _ (λ n v _. digit-closed t (j + n) _) (λ _. tt)) (on-holds (AtDigit t) _ _ _ (λ n v _. digit-closed t (j + n) _) (λ _. tt))

-- an attribute in square brackets never panics
digit-attr : (t : List ℕ) → AtDigit t (attr_of t)
unfolding attr_of
digit-attr t =
    pick-holds (AtDigit t) _ _ _
    (λ _. on-holds (AtDigit t) (ident_of (drop 1 t)) _ _
    (λ n name _. digit-else t _ _ (digit-closed t (1 + n) _) (pick-holds (AtDigit t) _ _ _ (λ _. digit_value t (2 + n) name) (λ _. tt))) (λ _. tt))
    (λ _. tt)

-- ---- every component
-- a mark never panics, be it `>` or `*`
digit-marked : (t : List ℕ) (mark : ℕ) (c : Component) → AtDigit t (marked t mark c)
unfolding marked
digit-marked t mark c = pick-holds (AtDigit t) _ _ _ (λ _. tt) (λ _. tt)

-- white space as a combinator never panics
digit-blank : (t : List ℕ) → AtDigit t (blank_of t)
unfolding blank_of
digit-blank t = pick-holds (AtDigit t) _ _ _ (λ _. tt) (λ _. tt)

-- a class never panics
digit-class : (t : List ℕ) → AtDigit t (class_of t)
unfolding class_of
digit-class t = pick-holds (AtDigit t) _ _ _ (λ _. digit-parsed t 1 _ _) (λ _. tt)

-- a hash never panics
digit-hash : (t : List ℕ) → AtDigit t (hash_of t)
unfolding hash_of
digit-hash t = pick-holds (AtDigit t) _ _ _ (λ _. digit-parsed t 1 _ _) (λ _. tt)

-- where a component panics there is a digit
pub digit-component : (t : List ℕ) → AtDigit t (component_of t)
unfolding component_of
digit-component t =
    digit-else t _ _ (digit-marked t _ _)
    (digit-else t _ _ (digit-marked t _ _)
    (digit-else t _ _ (digit-blank t)
    (digit-else t _ _ (digit-class t)
    (digit-else t _ _ (digit-attr t) (digit-else t _ _ (digit-hash t) (digit-else t _ _ (digit-parsed t 0 _ _) (digit-pseudo t)))))))
