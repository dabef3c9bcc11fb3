-- A value without its mark: its tokens are the first ones, and so are their texts. What a value wrote, wiped.
use mathlib.Core.Path.{◌≡◌, refl, sym, ap, ◌∙◌}
use mathlib.Core.Bool.{Bool, true, false}
use mathlib.Core.List.{List, [], ◌∷◌, ◌++◌, append_assoc, append-nil}
use Prim.Native.Nat.{ℕ, zero, suc, ◌+◌, ◌-◌, ◌≤◌, ◌<◌}
use native.Mathlib.Omega.{arith}
use lib.ListN.{length, take, drop, replicate, set, length-replicate}
use lib.Seq.{sets, take-nil}
use Rattle.combinators.specs.Choice.{pick}
use Rattle.combinators.specs.Store.{filled_part, wiped}
use Rattle.combinators.specs.Part.{part}
use Rattle.combinators.proofs.Rules.{pick-holds}
use Rattle.combinators.proofs.Wiped.{sets-apart, wiped-over, wiped-add, take-sets}
use Rattle.lexer.specs.Token.{Token, text_of}
use Rattle.lexer.specs.TokenRow.{token_width}
use Rattle.syntax.specs.Stream.{texts_many}
use Rattle.values.specs.Value.{Placed, Bracket, opens, closes, ends, none, bracket_of, is_mark, marked, tokens_of}
use Rattle.values.specs.Layout.{pushed, depth, texts_of, brackets_after}
use Rattle.values.specs.View.{tokens_at}
use Rattle.values.proofs.Marks.{two_marked}
use Rattle.values.proofs.Nesting.{depth_le}
use Rattle.values.proofs.TokenViews.{tokens-here, tokens_none}

-- ---- the tokens that are left
-- how many they are
abbrev unmarked_count : List Token → ℕ
unmarked_count ks = pick (marked ks).important (length ks - 2) (length ks)

-- one token more before three and more
unmarked-more : (t : Bool) (n : ℕ) → pick t (suc (suc (suc n)) - 2) (suc (suc (suc n))) ≡ suc (pick t (suc (suc n) - 2) (suc (suc n)))
unfolding pick
unmarked-more true n = omega arith
unmarked-more false n = refl

-- of two tokens a mark leaves none, and what is no mark leaves both
mark-take : (t : Bool) (a b : Token) → (two_marked t a b).tokens ≡ take (pick (two_marked t a b).important 0 2) (a ∷ b ∷ [])
unfolding pick
mark-take true a b = refl
mark-take false a b = refl

-- they are the first of all
pub unmarked-take : (ks : List Token) → (marked ks).tokens ≡ take (unmarked_count ks) ks
unfolding marked pick
unmarked-take [] = refl
unmarked-take (a ∷ []) = refl
unmarked-take (a ∷ b ∷ []) = mark-take (is_mark a b) a b
unmarked-take (a ∷ b ∷ c ∷ ks) =
    rw (unmarked-more (marked (b ∷ c ∷ ks)).important (length ks)) (ap {B = List Token} (λ r. a ∷ r) (unmarked-take (b ∷ c ∷ ks)))

-- without its mark a value has no more tokens
unmarked-le : (ks : List Token) → unmarked_count ks ≤ length ks
unmarked-le ks = pick-holds (λ m. m ≤ length ks) (marked ks).important _ _ (λ _. omega arith) (λ _. omega arith)

-- the first tokens of rows
module _ (rows store : List ℕ) where
  -- the first m of n tokens that are read are the m tokens that are read
  tokens-take : (m n p : ℕ) → m ≤ n → tokens_at (drop p rows) store m ≡ take m (tokens_at (drop p rows) store n)
  tokens-take zero n p h = tokens_none (drop p rows) store
  tokens-take (suc m) zero p h = absurd (omega arith)
  tokens-take (suc m) (suc n) p h = rw (tokens-here rows store p m, tokens-here rows store p n, tokens-take m n (p + token_width) (omega arith))

  -- the tokens that are read by the count without the mark are the tokens without it
  pub tokens-unmarked : (n : ℕ) (ks : List Token) → tokens_at rows store n ≡ ks → n ≡ length ks → (m : ℕ) → m ≡ pick (marked ks).important (n - 2) n → tokens_at rows store m ≡ (marked ks).tokens
  tokens-unmarked n ks e en m em =
      let h : m ≡ unmarked_count ks = em ∙ rw en in
      let l = unmarked-le ks in
      tokens-take m n 0 (omega arith) ∙ ap (take m) e ∙ ap (λ j. take j ks) h ∙ sym (unmarked-take ks)

-- ---- their texts
-- those of the tokens of a statement
pub texts-same : (ts : List Placed) → texts_many text_of (tokens_of ts) ≡ texts_of ts
unfolding texts_many tokens_of
texts-same [] = refl
texts-same (t ∷ ts) = rw (texts-same ts)

-- texts that begin with others
pub record Begins (xs ys : List ℕ) : Type 0 where
  pub more : List ℕ
  pub whole : xs ≡ ys ++ more

-- the texts of a value begin with those of the tokens that are left
begins-mark : (t : Bool) (a b : Token) → Begins (texts_many text_of (a ∷ b ∷ [])) (texts_many text_of (two_marked t a b).tokens)
unfolding texts_many pick
begins-mark true a b = record { more = texts_many text_of (a ∷ b ∷ []); whole = refl }
begins-mark false a b = record { more = []; whole = sym (append-nil _) }

-- the texts of a value begin with those of its tokens without the mark
pub texts-begin : (ks : List Token) → Begins (texts_many text_of ks) (texts_many text_of (marked ks).tokens)
unfolding marked texts_many
texts-begin [] = record { more = []; whole = refl }
texts-begin (a ∷ []) = record { more = []; whole = sym (append-nil _) }
texts-begin (a ∷ b ∷ []) = begins-mark (is_mark a b) a b
texts-begin (a ∷ b ∷ c ∷ ks) =
    let h = texts-begin (b ∷ c ∷ ks) in
    record { more = h.more; whole = ap (λ r. text_of a ++ r) h.whole ∙ sym (append_assoc (text_of a) (texts_many text_of (marked (b ∷ c ∷ ks)).tokens) h.more) }

-- ---- stores
-- zeros over a name of n bytes and what was stored behind it
pub wiped-inner : (l : List ℕ) (f n m : ℕ) (xs : List ℕ) → length xs ≤ m → wiped f (n + m) (sets l (f + n) xs) ≡ wiped f (n + m) l
wiped-inner l f n m xs h =
    let zeros : (y : List ℕ) → wiped f n y ≡ sets y f (replicate n 0) = λ y. unfold filled_part in refl in
    let e = length-replicate {A = ℕ} n 0 in
    let p : wiped f n (sets l (f + n) xs) ≡ sets (wiped f n l) (f + n) xs =
    zeros _ ∙ sets-apart l f (f + n) (replicate n 0) xs (omega arith) ∙ ap (λ y. sets y (f + n) xs) (sym (zeros l))
    in
    wiped-add f n m _ ∙ ap (wiped (f + n) m) p ∙ wiped-over (wiped f n l) (f + n) m xs h ∙ sym (wiped-add f n m l)

-- n bytes from f on are what lies behind f of the first f + n
part-take : (f n : ℕ) (l : List ℕ) → take n (drop f l) ≡ drop f (take (f + n) l)
part-take zero n l = let e : 0 + n ≡ n = omega arith in rw e
part-take (suc f) n [] = let e : suc f + n ≡ suc (f + n) = omega arith in rw (e, take-nil)
part-take (suc f) n (x ∷ l) = let e : suc f + n ≡ suc (f + n) = omega arith in rw e (part-take f n l)

-- what is stored behind a part leaves the part as it was
pub part_apart : (l : List ℕ) (f n : ℕ) (xs : List ℕ) → part (sets l (f + n) xs) f n ≡ part l f n
unfolding part
part_apart l f n xs = part-take f n (sets l (f + n) xs) ∙ ap (drop f) (take-sets l (f + n) xs (f + n) (omega arith)) ∙ sym (part-take f n l)

-- zeros over as many brackets as there are tokens
set-wiped : (b : List ℕ) (d n c : ℕ) → d < n → wiped 0 n (set b d c) ≡ wiped 0 n b
set-wiped b d n c h =
    let e : n ≡ d + (n - d) = omega arith in
    let z : 0 + d ≡ d = omega arith in
    rw e (rw z at (wiped-inner b 0 d (n - d) (c ∷ []) (omega arith)))

-- what a token does to the brackets is wiped with all up to the n-th, where it is one of those
pushed-wiped : (x : Bracket) (b : List ℕ) (d n : ℕ) → d < n → wiped 0 n (pushed x b d) ≡ wiped 0 n b
unfolding pushed
pushed-wiped (opens c) b d n h = set-wiped b d n c h
pushed-wiped (closes c) b d n h = refl
pushed-wiped ends b d n h = refl
pushed-wiped none b d n h = refl

-- what all tokens do to the brackets is wiped with as many as there are tokens
pub brackets-wiped : (ts : List Placed) (b : List ℕ) (d n : ℕ) → d + length ts ≤ n → wiped 0 n (brackets_after ts b d) ≡ wiped 0 n b
unfolding brackets_after
brackets-wiped [] b d n h = refl
brackets-wiped (t ∷ ts) b d n h =
    brackets-wiped ts (pushed (bracket_of t.token) b d) (depth (bracket_of t.token) d) n (omega (arith, depth_le (bracket_of t.token) d))
    ∙ pushed-wiped (bracket_of t.token) b d n (omega arith)

-- as many tokens as there are, with their starts or without
pub tokens-count : (ts : List Placed) → length ts ≡ length (tokens_of ts)
unfolding tokens_of
tokens-count [] = refl
tokens-count (t ∷ ts) = ap suc (tokens-count ts)
