-- What an answer says of the bytes that a reader takes.
use Rattle.std.proofs.lemmas.Option.{same_Some, none-some}
use Rattle.std.proofs.Common.{Some, None}
use mathlib.Core.Path.{◌≡◌, refl, ap, sym, ◌∙◌}
use mathlib.Core.Bool.{Bool, true, false}
use Prim.Native.Nat.{ℕ}
use Rattle.combinators.specs.Choice.{pick, is}
use Rattle.combinators.proofs.Rules.{pick_true, pick-false, is-yes, is-no, is_true, is_false}
use Rattle.lexer.specs.Taken.{taken_answer}

-- a reader that takes no byte answers none
pub taken-none : (k : ℕ) → 0 ≡ k → None ≡ taken_answer k
unfolding taken_answer
taken-none k e = pick_true _ _ _ _ (is-yes k 0 (sym e)) refl

-- and one that takes n bytes, not 0, answers so many
pub taken-some : (n k : ℕ) → n ≡ k → ¬ (n ≡ 0) → Some n ≡ taken_answer k
unfolding taken_answer
taken-some n k e d = pick-false _ _ _ _ (is-no k 0 (λ z. d (e ∙ z))) (ap Some e)

-- an answer is of as many bytes as are taken, and of one or more
pub some-taken : (n k : ℕ) → Some n ≡ taken_answer k → (n ≡ k) × (¬ (n ≡ 0))
unfolding taken_answer pick
some-taken n k = go (is k 0) refl
  where
    go : (t : Bool) → is k 0 ≡ t → Some n ≡ pick t None (Some k) → (n ≡ k) × (¬ (n ≡ 0))
    go true h e = absurd (none-some _ (sym e))
    go false h e = let p = same_Some _ _ e in (p, (λ z. is_false k 0 h (sym p ∙ z)))

-- where there is no answer, no byte is taken
pub none-taken : (k : ℕ) → None ≡ taken_answer k → k ≡ 0
unfolding taken_answer pick
none-taken k = go (is k 0) refl
  where
    go : (t : Bool) → is k 0 ≡ t → None ≡ pick t None (Some k) → k ≡ 0
    go true h e = is_true k 0 h
    go false h e = absurd (none-some _ e)
