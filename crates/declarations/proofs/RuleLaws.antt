-- `parse_rules`: declarations one behind the other, in the meaning and in the stores.
use mathlib.Core.Path.{◌≡◌, refl, sym, ap, ◌∙◌}
use mathlib.Core.Bool.{Bool, true, false}
use mathlib.Core.List.{List, [], ◌∷◌, append-nil}
use mathlib.Core.Logic.{⊎_elim}
use Prim.Native.Nat.{ℕ, zero, suc, ◌+◌, ◌-◌, ◌*◌, ◌≤◌}
use native.Mathlib.Omega.{arith}
use lib.ListN.{length, get_or, drop}
use lib.Seq.{drop-drop}
use Prim.Native.Char.{code as ascii}
use Rattle.combinators.specs.Choice.{pick, is}
use Rattle.combinators.specs.Parsed.{ok, err, on_parsed}
use Rattle.combinators.specs.Store.{most}
use Rattle.combinators.proofs.Lists.{first}
use Rattle.combinators.proofs.Rules.{lt-or-ge}
use Rattle.combinators.proofs.Wiped.{sets-append, most-first, most-second, wiped-twice, wiped-kept}
use Rattle.lexer.specs.TokenRow.{token_width}
use Rattle.lexer.specs.Whitespace.{skip_whitespace}
use Rattle.syntax.specs.Declaration.{Declaration}
use Rattle.syntax.specs.Layout.{declaration_width, declaration_text, declaration_row, declaration_rows, declaration_texts}
use Rattle.syntax.specs.Stream.{texts_many, rows_many}
use Rattle.syntax.proofs.RowSizes.{length-declaration}
use Rattle.declarations.specs.Rules.{declaration_of, starts_at, more_rules}
use Rattle.declarations.specs.Leaving.{Used, unused, used_by, used_then, text_kept, used_more, Leaves, leaves}

-- ---- one declaration, and more behind it, in the stores
-- the greater of two numbers, times a width
most-width : (a b : ℕ) → most (token_width * a) (token_width * b) ≡ token_width * most a b
most-width a b =
    ⊎_elim
    (λ h. most-first (token_width * a) (token_width * b) (omega arith) ∙ ap (λ m. token_width * m) (sym (most-first a b h)))
    (λ h. most-second (token_width * a) (token_width * b) (omega arith) ∙ ap (λ m. token_width * m) (sym (most-second a b h)))
    (lt-or-ge b a)

module _ {A B : Type 0} (a₁ : A) (a₂ : B) (d : Declaration) (ds : List Declaration) (u w : Used) (rules : List ℕ) (place : ℕ) (tokens brackets store : List ℕ) (fill : ℕ)
    (h : length (declaration_text d) ≤ u.bytes) where
  abbrev one : Leaves A
  one = leaves a₁ (d ∷ []) u rules place tokens brackets store fill

  -- one declaration and then more, each into the stores that were left, leave what all of them leave at once
  pub leaves-then : leaves a₂ ds w one.rules (place + declaration_width) one.tokens one.brackets one.store (fill + length (declaration_text d))
      ≡ leaves a₂ (d ∷ ds) (used_then u (length (declaration_text d)) w) rules place tokens brackets store fill
  unfolding leaves used_then declaration_rows declaration_texts rows_many texts_many
  leaves-then =
      rw (
        append-nil (declaration_row fill d),
        append-nil (declaration_text d),
        sets-append rules place (declaration_row fill d) (rows_many declaration_row declaration_text (fill + length (declaration_text d)) ds),
        length-declaration fill d,
        wiped-twice 0 (token_width * u.tokens) (token_width * w.tokens) tokens,
        most-width u.tokens w.tokens,
        wiped-twice 0 u.tokens w.tokens brackets,
        wiped-kept store fill u.bytes w.bytes (declaration_text d) (texts_many declaration_text ds) h,
      )

-- ---- the meaning, step by step
module _ (names : Bool) (s : List ℕ) (i : ℕ) where
  -- the rest at i, as the code has it: w is where a declaration is looked for
  module _ (w : ℕ) (ew : w ≡ i + 1 + skip_whitespace (drop (i + 1) s)) where
    -- the ';' and the white space behind it are the bytes from i up to w
    skip_is : 1 + skip_whitespace (drop 1 (drop i s)) ≡ w - i
    skip_is = let e = ap skip_whitespace (drop-drop 1 i s) in omega arith

    -- what is left at i, without those bytes, is the text from w on
    drop-is : drop (w - i) (drop i s) ≡ drop w s
    drop-is = let e : i + (w - i) ≡ w = omega arith in drop-drop (w - i) i s ∙ rw e

    -- without n bytes more it is the text from w + n on
    behind-is : (n : ℕ) → drop (w - i + n) (drop i s) ≡ drop (w + n) s
    behind-is n = let e : i + (w - i + n) ≡ w + n = omega arith in drop-drop (w - i + n) i s ∙ rw e

    -- n bytes behind the white space are at w + n in the whole text
    at-is : (n : ℕ) → i + (w - i + n) ≡ w + n
    at-is n = omega arith

    -- the end of the white space is at w in the whole text
    from_is : i + (w - i) ≡ w
    from_is = omega arith

    -- a ';' with a declaration behind it: it is the next, and reading goes on behind it
    pub more-next : is (get_or s i 0) (ascii ";") ≡ true → (l n : ℕ) (d : Declaration) → declaration_of (drop w s) ≡ ok n d
        → (more_rules (suc l) (drop i s) i ≡ record { declarations = starts_at w d ∷ (more_rules l (drop (w + n) s) (w + n)).declarations; taken = (more_rules l (drop (w + n) s) (w + n)).taken })
        × (used_more names (suc l) (drop i s) ≡ used_then (used_by (drop w s)) (text_kept names d) (used_more names l (drop (w + n) s)))
    unfolding more_rules used_more pick on_parsed
    more-next t l n d e = (rw (first s i, t, skip_is, drop-is, e, behind-is n, at-is n, from_is), rw (first s i, t, skip_is, drop-is, e, behind-is n))

    -- a semicolon behind which no declaration reads: reading ends before it
    pub more-none : is (get_or s i 0) (ascii ";") ≡ true → (l : ℕ) → declaration_of (drop w s) ≡ err
        → (more_rules (suc l) (drop i s) i ≡ record { declarations = []; taken = i }) × (used_more names (suc l) (drop i s) ≡ used_by (drop w s))
    unfolding more_rules used_more pick on_parsed
    more-none t l e = (rw (first s i, t, skip_is, drop-is, e), rw (first s i, t, skip_is, drop-is, e))

  -- without a semicolon reading ends
  pub more-stop : is (get_or s i 0) (ascii ";") ≡ false → (l : ℕ)
      → (more_rules l (drop i s) i ≡ record { declarations = []; taken = i }) × (used_more names l (drop i s) ≡ unused)
  unfolding more_rules used_more pick
  more-stop t zero = (refl, refl)
  more-stop t (suc l) = (rw (first s i, t), rw (first s i, t))
