-- Numbers that are zero: the parts that the code lends, and what the answer says of the number as an f32. Heights, by their one token.
use Prim.Native.Nat.{ℕ, zero, suc, ◌+◌, ◌-◌, ◌<◌, ◌≤◌}
use Rattle.std.specs.Prelude.{Some, MatchOption, unwrap_or}
use Rattle.std.specs.Borrow.{Bor}
use Rattle.std.specs.List.{slice_range}
use mathlib.Core.Logic.{◌⊎◌, inl, inr}
use mathlib.Core.Path.{◌≡◌, refl, sym, ap, ◌∙◌}
use mathlib.Core.Bool.{Bool, true, false}
use mathlib.Core.List.{List, [], ◌∷◌}
use native.Mathlib.Omega.{arith}
use lib.ListN.{length, get_or, take, drop, drop_of_length-le}
use Rattle.combinators.specs.Choice.{is}
use Rattle.combinators.proofs.Lists.{rest}
use Rattle.combinators.proofs.Rules.{pick_true, pick-false, told}
use Rattle.decimal.specs.Decimal.{rounds_to_zero}
use Rattle.decimal.specs.Rounded.{is_zero, decimal32}
use Rattle.decimal.proofs.Float.{zero-test}
use Rattle.lexer.specs.Number.{digits, sign}
use Rattle.lexer.specs.Whitespace.{skip_whitespace}
use Rattle.lexer.specs.Token.{Token, text_of}
use Rattle.lexer.specs.TokenRow.{token_width, kind_column, number_kind, dimension_kind}
use Rattle.std.specs.Prelude.{Option, None}
use Rattle.std.specs.Bool.{then_some}
use Rattle.values.specs.Words.{Found, found, missing, on_found}
use Rattle.values.specs.View.{token_here, first_text, second_text, tokens_at}
use Rattle.values.specs.Property.{unsigned_zero, number_zero, units, any_of, height_of}
use Rattle.values.specs.ValueAnswer.{height_answer}
use Rattle.values.proofs.TokenKinds.{is_kind, unit_of, height_by, height-told, height-more}
use Rattle.values.proofs.TokenViews.{number-text, dimension-kind, kind-told, here-text, here-number, here-unit, tokens-here, tokens_none}

-- ---- a number without a sign, with n digits before its point
-- what the code finds behind the point, or none, is what stands there
pub behind-point : (t : List ℕ) (n : ℕ) (o : Option (Bor (List ℕ))) → MatchOption o ((length t < n + 1) ⊎ (length t < length t))
    (λ x. (n + 1 ≤ length t) × (length t ≤ length t) × (x.now ≡ slice_range t (n + 1) (length t)) × (length x.now + (n + 1) ≡ length t))
    → (b : Bor (List ℕ)) → b.now ≡ [] → (x : Bor (List ℕ)) → x ≡ unwrap_or o b → x.now ≡ drop (n + 1) t
behind-point t n None (inl l) b eb x ex = ap (λ (y : Bor (List ℕ)). y.now) ex ∙ eb ∙ sym (drop_of_length-le t {i = n + 1} (omega arith))
behind-point t n None (inr l) b eb x ex = absurd (omega arith)
behind-point t n (Some y) m b eb x ex = ap (λ (y : Bor (List ℕ)). y.now) ex ∙ m.2 ∙ rest t (n + 1)

-- the parts are zero where the number is
pub zero-parts : (t : List ℕ) (n : ℕ) → n ≡ digits t → (r : Bool) (f : List ℕ) → f ≡ drop (n + 1) t → r ≡ rounds_to_zero (take n t) f → r ≡ unsigned_zero t
unfolding unsigned_zero
zero-parts t n e r f p q = q ∙ ap (rounds_to_zero (take n t)) p ∙ ap (λ k. rounds_to_zero (take k t) (drop (k + 1) t)) e

-- ---- a number with a sign or none
-- it stands behind w bytes of white space, and its sign has k
pub zero_number : (s : List ℕ) (w : ℕ) → w ≡ skip_whitespace s → (t : List ℕ) → t ≡ take (length s - w) (drop w s) → (k : ℕ) → k ≡ sign t
    → (r : Bool) → r ≡ unsigned_zero (take (length t - k) (drop k t)) → r ≡ number_zero s
unfolding number_zero
zero_number s w ew t et k ek r er =
    let p : t ≡ drop (skip_whitespace s) s = et ∙ rest s w ∙ ap (λ i. drop i s) ew in
    er ∙ ap unsigned_zero (rest t k ∙ ap (λ i. drop i t) ek) ∙ ap (λ l. unsigned_zero (drop (sign l) l)) p

-- ---- the number as an f32
-- the text of a number behind its white space, comments and sign
unfoldable pub unsigned_of : List ℕ → List ℕ
unsigned_of n =
    let t = drop (skip_whitespace n) n in
    drop (sign t) t

-- its digits before the point
unfoldable pub integer_of : List ℕ → List ℕ
integer_of n = take (digits (unsigned_of n)) (unsigned_of n)

-- and what stands behind it
unfoldable pub fraction_of : List ℕ → List ℕ
fraction_of n = drop (digits (unsigned_of n) + 1) (unsigned_of n)

-- the answer is whether the number, with either sign, rounded to the nearest f32, ties to even, equals zero
pub number-zero : (negative : Bool) (n : List ℕ) → number_zero n ≡ is_zero (decimal32 negative (integer_of n) (fraction_of n))
unfolding number_zero unsigned_zero unsigned_of integer_of fraction_of
number-zero negative n = sym (zero-test negative (integer_of n) (fraction_of n))

-- ---- heights
-- a value of no token, or of two and more
pub height-none : (rows store : List ℕ) (n : ℕ) → ¬ (n ≡ 1) → None ≡ height_answer (height_of (tokens_at rows store n))
unfolding height_answer height_of on_found
height-none rows store zero d = rw (tokens_none rows store)
height-none rows store (suc zero) d = absurd (d refl)
height-none rows store (suc (suc n)) d = rw (tokens-here rows store 0 (suc n), tokens-here rows store token_width n, height-more (token_here rows store 0) (token_here rows store token_width) _)

-- a value of one token; d that it is a dimension
module _ (rows store : List ℕ) (n : ℕ) (e : n ≡ 1) (d : Bool) (ed : d ≡ is (get_or rows kind_column 0) dimension_kind) where
  abbrev token : Token
  token = token_here rows store 0

  abbrev whole : Option Bool
  whole = height_answer (height_of (tokens_at rows store n))

  -- a value of one token has that token alone
  one : tokens_at rows store n ≡ token ∷ []
  one = ap (tokens_at rows store) e ∙ tokens-here rows store 0 0 ∙ ap (λ ks. token ∷ ks) (tokens_none (drop token_width rows) store)

  -- the test of the token is that of its row
  kind : (v : Bool) → d ≡ v → is_kind dimension_kind token ≡ v
  kind v p = kind-told rows store 0 dimension_kind dimension-kind d v ed p

  -- where the height of the token is f, the answer is that of f
  height-as : (f : Found Bool) → f ≡ height_by token → height_answer f ≡ whole
  height-as f p = ap height_answer (p ∙ sym (height-told token)) ∙ sym (ap (λ ks. height_answer (height_of ks)) one)

  -- a dimension; u that its unit is a length's
  module _ (p : d ≡ true) (u : Bool) (eu : u ≡ any_of (second_text rows store 0) units) where
    -- the kind in the row is that of dimensions
    dimension-row : is (get_or rows kind_column 0) dimension_kind ≡ true
    dimension-row = told _ _ _ ed p

    -- the test of the unit is that of the text that the row names
    unit : (v : Bool) → u ≡ v → any_of (unit_of token) units ≡ v
    unit v q = ap (λ w. any_of w units) (here-unit rows store 0 dimension-row) ∙ told _ _ _ eu q

    -- where it is, the height is zero or not as the number z is
    pub height-length : (z : Bool) → z ≡ number_zero (first_text rows store 0) → then_some u z ≡ whole
    unfolding height_answer on_found
    height-length z ez = go u refl
      where
        go : (v : Bool) → u ≡ v → then_some v z ≡ whole
        go true q =
            let f = ap found (ez ∙ sym (ap number_zero (here-number rows store 0 dimension-row))) in
            height-as (found z) (pick_true _ _ _ _ (kind true p) (pick_true _ _ _ _ (unit true q) f))
        go false q = height-as missing (pick_true _ _ _ _ (kind true p) (pick-false _ _ _ _ (unit false q) refl))

  -- no dimension; k that it is a number
  module _ (p : d ≡ false) (k : Bool) (ek : k ≡ is (get_or rows kind_column 0) number_kind) where
    -- the test of the token is that of its row
    number-kind : (v : Bool) → k ≡ v → is_kind number_kind token ≡ v
    number-kind v q = kind-told rows store 0 number_kind number-text.kind k v ek q

    -- it is; z that the number is zero
    module _ (q : k ≡ true) (z : Bool) (ez : z ≡ number_zero (first_text rows store 0)) where
      -- the test of the number is that of the text that the row names
      zero-told : (v : Bool) → z ≡ v → number_zero (text_of token) ≡ v
      zero-told v o = ap number_zero (here-text rows store 0 number_kind number-text (told _ _ _ ek q)) ∙ told _ _ _ ez o

      -- a number is a height without a unit where it is zero
      pub height-bare : then_some z true ≡ whole
      unfolding height_answer on_found
      height-bare = go z refl
        where
          go : (v : Bool) → z ≡ v → then_some v true ≡ whole
          go true o =
              height-as (found true)
              (pick-false _ _ _ _ (kind false p) (pick_true _ _ _ _ (number-kind true q) (pick_true _ _ _ _ (zero-told true o) refl)))
          go false o =
              height-as missing
              (pick-false _ _ _ _ (kind false p) (pick_true _ _ _ _ (number-kind true q) (pick-false _ _ _ _ (zero-told false o) refl)))

    -- a token that is neither a dimension nor a number is no height
    pub height-neither : k ≡ false → None ≡ whole
    unfolding height_answer on_found
    height-neither q = height-as missing (pick-false _ _ _ _ (kind false p) (pick-false _ _ _ _ (number-kind false q) refl))
