-- A delimiter is the first character of its token, so a scalar value, for all texts.
use Rattle.std.proofs.Common.{Option, Some, None}
use mathlib.Core.Path.{◌≡◌, refl}
use mathlib.Core.Bool.{true}
use mathlib.Core.List.{List}
use Prim.Native.Nat.{ℕ}
use lib.ListN.{drop}
use Rattle.combinators.specs.Parsed.{Parsed, ok, err, behind, or_else}
use Rattle.combinators.proofs.Rules.{pick-holds}
use Rattle.characters.specs.Utf8.{is_scalar, scalar_of}
use Rattle.combinators.specs.declared.taken.Taken.{Taken}
use Rattle.characters.proofs.RoundTrip.{written_back}
use Rattle.lexer.specs.Whitespace.{skip_whitespace}
use Rattle.lexer.specs.Name.{ident_of, identstring_of}
use Rattle.lexer.specs.Token.{Token, delim, numeric_from, numeric_of, ident_like_of, string_from, string_of, mark_of, hash_of, plus_of, minus_of, less_of, token_with, token_at, token_of}
use Rattle.lexer.proofs.TokenBounds.{on-holds}

-- ---- a reading that gives a delimiter only where it is a scalar value
abbrev Only : Parsed Token → Type 0
Only p = (n d : ℕ) → p ≡ ok n (delim d) → is_scalar d ≡ true

-- of two alternatives that give only scalar values as delimiters, the one that reads does so too
or-else-only : (p q : Parsed Token) → Only p → Only q → Only (or_else p q)
unfolding or_else
or-else-only (ok n k) q x y = x
or-else-only err q x y = y

-- a reading that gives only scalar values as delimiters does so behind i bytes too
behind-only : (i : ℕ) (p : Parsed Token) → Only p → Only (behind i p)
unfolding behind
behind-only i (ok n k) x m d e = x n d cc
behind-only i err x m d e = cc

-- a number, a percentage or a dimension is no delimiter
numeric-only : (s : List ℕ) → Only (numeric_of s)
unfolding numeric_of numeric_from
numeric-only s =
    pick-holds Only _ _ _ (λ _ n d e. cc)
    (λ _. pick-holds Only _ _ _ (λ _ n d e. cc) (λ _. on-holds Only (ident_of _) _ _ (λ m u _ n d e. cc) (λ _ n d e. cc)))

-- a name or a function is no delimiter
ident-like-only : (s : List ℕ) → Only (ident_like_of s)
unfolding ident_like_of
ident-like-only s = on-holds Only (ident_of s) _ _ (λ m b _. pick-holds Only _ _ _ (λ _ n d e. cc) (λ _ n d e. cc)) (λ _ n d e. cc)

-- and a string gives no delimiter either
string-only : (t : List ℕ) → Only (string_of t)
unfolding string_of string_from
string-only t =
    pick-holds Only _ _ _
    (λ _. pick-holds Only _ _ _ (λ _ n d e. cc) (λ _. pick-holds Only _ _ _ (λ _ n d e. cc) (λ _ n d e. cc)))
    (λ _ n d e. cc)

module _ (c : ℕ) (h : is_scalar c ≡ true) where
  -- the character c as a delimiter is a scalar value
  delim-only : (m : ℕ) → Only (ok m (delim c))
  delim-only m n d e = cc

  -- where it is no mark
  mark-only : (m : ℕ) → Only (ok m (mark_of c))
  unfolding mark_of
  mark-only m =
      let P : Token → Type 0 = λ k. Only (ok m k) in
      pick-holds P _ _ _ (λ _ n d e. cc)
      (λ _. pick-holds P _ _ _ (λ _ n d e. cc)
      (λ _. pick-holds P _ _ _ (λ _ n d e. cc)
      (λ _. pick-holds P _ _ _ (λ _ n d e. cc)
      (λ _. pick-holds P _ _ _ (λ _ n d e. cc)
      (λ _. pick-holds P _ _ _ (λ _ n d e. cc)
      (λ _. pick-holds P _ _ _ (λ _ n d e. cc)
      (λ _. pick-holds P _ _ _ (λ _ n d e. cc)
      (λ _. pick-holds P _ _ _ (λ _ n d e. cc)
      (λ _. delim-only m)))))))))

  -- whichever reader the first character c selects
  by_only : (n : ℕ) (t : List ℕ) → Only (token_with n c t)
  unfolding token_with hash_of plus_of minus_of less_of
  by_only n t =
      pick-holds Only _ _ _ (λ _. string-only t)
      (λ _. pick-holds Only _ _ _ (λ _. on-holds Only (identstring_of (drop 1 t)) _ _ (λ m b _ n d e. cc) (λ _. delim-only 1))
      (λ _. pick-holds Only _ _ _ (λ _. or-else-only _ _ (behind-only 1 _ (numeric-only (drop 1 t))) (delim-only 1))
      (λ _. pick-holds Only _ _ _
      (λ _. or-else-only _ _ (numeric-only t) (pick-holds Only _ _ _ (λ _ n d e. cc) (λ _. or-else-only _ _ (ident-like-only t) (delim-only 1))))
      (λ _. pick-holds Only _ _ _ (λ _. or-else-only _ _ (numeric-only t) (delim-only 1))
      (λ _. pick-holds Only _ _ _ (λ _. pick-holds Only _ _ _ (λ _ n d e. cc) (λ _. delim-only 1))
      (λ _. pick-holds Only _ _ _ (λ _. or-else-only _ _ (ident-like-only t) (delim-only 1))
      (λ _. pick-holds Only _ _ _ (λ _. ident-like-only t)
      (λ _. pick-holds Only _ _ _ (λ _. numeric-only t)
      (λ _. mark-only n)))))))))

-- ---- the next token
-- where no white space is
at_only : (t : List ℕ) (x : Option (Taken ℕ)) → scalar_of t ≡ x → Only (token_at t x)
unfolding token_at
at_only t (Some c) e = by_only c.value (written_back t c.taken c.value e).scalar c.taken t
at_only t None h = λ n d e. cc

-- a delimiter is a scalar value
pub delim-scalar : (s : List ℕ) (n d : ℕ) → token_of s ≡ ok n (delim d) → is_scalar d ≡ true
unfolding token_of
delim-scalar s = behind-only (skip_whitespace s) _ (at_only (drop (skip_whitespace s) s) _ refl)
