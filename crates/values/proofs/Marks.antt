-- The mark `!important`, found in the last two of a value's token rows.
use mathlib.Core.Path.{◌≡◌, refl, sym, ap, ◌∙◌}
use mathlib.Core.Bool.{Bool, true, false}
use mathlib.Core.List.{List, [], ◌∷◌}
use Prim.Native.Nat.{ℕ, zero, suc, ◌+◌, ◌-◌, ◌*◌, ◌≤◌, ◌<◌}
use native.Mathlib.Omega.{arith}
use lib.ListN.{drop}
use Prim.Native.Char.{code as ascii}
use Rattle.combinators.specs.Choice.{pick}
use Rattle.combinators.proofs.Rules.{and-gives, and-gives-false, told}
use Rattle.characters.specs.Literal.{text}
use Rattle.lexer.specs.Token.{Token}
use Rattle.lexer.specs.TokenRow.{token_width}
use Rattle.values.specs.Words.{is_word, is_delim}
use Rattle.values.specs.Value.{Value, is_mark, marked}
use Rattle.values.specs.View.{token_here, tokens_at}
use Rattle.values.proofs.TokenViews.{tokens-here, tokens_none}

-- two tokens alone, by whether they are the mark
abbrev pub two_marked : Bool → Token → Token → Value
two_marked t a b = pick t (record { tokens = []; important = true }) (record { tokens = a ∷ b ∷ []; important = false })

-- they are important where they are the mark
pub two-important : (t : Bool) (a b : Token) → (two_marked t a b).important ≡ t
unfolding pick
two-important true a b = refl
two-important false a b = refl

module _ (rows store : List ℕ) where
  -- the last two of two tokens and more, from p on
  last-two : (n p : ℕ) → (marked (tokens_at (drop p rows) store (suc (suc n)))).important
      ≡ is_mark (token_here rows store (p + n * token_width)) (token_here rows store (p + n * token_width + token_width))
  unfolding marked
  last-two zero p =
      let e : p + 0 * token_width ≡ p = omega arith in
      rw (tokens-here rows store p 1, tokens-here rows store (p + token_width) 0, tokens_none (drop (p + token_width + token_width) rows) store, e)
      (two-important (is_mark (token_here rows store p) (token_here rows store (p + token_width))) (token_here rows store p) (token_here rows store (p + token_width)))
  last-two (suc n) p =
      let e : p + suc n * token_width ≡ p + token_width + n * token_width = omega arith in
      let q = p + token_width in
      let two = tokens-here rows store q (suc n) ∙ ap (λ r. token_here rows store q ∷ r) (tokens-here rows store (q + token_width) n) in
      let mark : List Token → Bool = λ ks. (marked ks).important in
      ap mark (tokens-here rows store p (suc (suc n)) ∙ ap (λ r. token_here rows store p ∷ r) two) ∙ ap mark (sym two) ∙ last-two n q ∙ rw e

  -- fewer than two are no mark
  pub mark-few : (n : ℕ) → n < 2 → false ≡ (marked (tokens_at rows store n)).important
  unfolding marked
  mark-few zero h = rw (tokens_none rows store)
  mark-few (suc zero) h = rw (tokens-here rows store 0 0, tokens_none (drop token_width rows) store)
  mark-few (suc (suc n)) h = absurd (omega arith)

  module _ (n : ℕ) (h : 2 ≤ n) where
    abbrev m : ℕ
    m = (n - 2) * token_width

    -- n tokens, two or more
    mark-is : (marked (tokens_at rows store n)).important ≡ is_mark (token_here rows store m) (token_here rows store (m + token_width))
    mark-is =
        let e : n ≡ suc (suc (n - 2)) = omega arith in
        let z : 0 + m ≡ m = omega arith in
        ap (λ k. (marked (tokens_at rows store k)).important) e ∙ last-two (n - 2) 0 ∙ rw z

    -- two tests as the code makes them, d of the last but one and r of the last
    module _ (d : Bool) (ed : d ≡ is_delim (ascii "!") (token_here rows store m)) where
      -- where the last but one is no '!', there is no mark
      pub mark-no-sign : d ≡ false → d ≡ (marked (tokens_at rows store n)).important
      unfolding is_mark
      mark-no-sign e = e ∙ and-gives-false _ _ (told _ _ _ ed e) ∙ sym mark-is

      -- behind it the name decides
      pub mark-name : d ≡ true → (r : Bool) → r ≡ is_word (text "important") (token_here rows store ((n - 1) * token_width)) → r ≡ (marked (tokens_at rows store n)).important
      unfolding is_mark
      mark-name e r er =
          let q : (n - 1) * token_width ≡ m + token_width = omega arith in
          and-gives _ _ _ (told _ _ _ ed e) (er ∙ ap (λ p. is_word (text "important") (token_here rows store p)) q) ∙ sym mark-is
