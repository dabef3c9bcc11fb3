-- The stores' lengths, for all texts together: what reading declarations uses never passes the least lengths of document 01.
use mathlib.Core.Path.{◌≡◌, refl, sym, ap, ◌∙◌}
use mathlib.Core.Bool.{Bool, true, false}
use mathlib.Core.List.{List, [], ◌∷◌}
use mathlib.Core.Logic.{⊎_elim}
use Prim.Native.Nat.{ℕ, zero, suc, ◌+◌, ◌-◌, ◌^◌, ◌≤◌, ◌<◌}
use native.Mathlib.Omega.{arith}
use lib.ListN.{length, get_or, drop, length-drop}
use Prim.Native.Char.{code as ascii}
use Rattle.combinators.specs.Choice.{pick, is}
use Rattle.combinators.specs.LeastLengths.{text_least, bracket_least, number_least}
use Rattle.combinators.specs.Parsed.{ok}
use Rattle.combinators.specs.Store.{most}
use Rattle.combinators.proofs.Lists.{byte-there}
use Rattle.combinators.proofs.Rules.{pick-holds, lt-or-ge, is-no}
use Rattle.lexer.specs.Whitespace.{skip_whitespace}
use Rattle.lexer.proofs.Comments.{skip-le}
use Rattle.lexer.proofs.TokenBounds.{on-holds}
use Rattle.syntax.specs.Declaration.{Declaration}
use Rattle.values.specs.Layout.{Room}
use Rattle.values.proofs.Sizes.{statement-sized}
use Rattle.declarations.specs.Rules.{property_of, declaration_of}
use Rattle.declarations.specs.Leaving.{Used, unused, used_by, used_then, text_kept, used_more, used_rules, StyleRoom}
use Rattle.declarations.proofs.Declaring.{takes}
use Rattle.declarations.proofs.PropertyLaws.{headed, name-sized}

-- ---- what is used of n bytes: a token for each at most, and two bytes of text more
pub record Small (n : ℕ) (u : Used) : Type 0 where
  pub tokens : u.tokens ≤ n
  pub bytes : u.bytes ≤ n + 2

-- reading no declaration uses nothing
unused-small : (n : ℕ) → Small n unused
unfolding unused
unused-small n = record { tokens = omega arith; bytes = omega arith }

-- what a shorter text uses is within the bounds of a longer one
small-more : (m n : ℕ) (u : Used) → m ≤ n → Small m u → Small n u
small-more m n u h s = record { tokens = omega (arith, s.tokens); bytes = omega (arith, s.bytes) }

-- one declaration uses no more tokens than its text has bytes, and two bytes more of text
pub one-small : (s : List ℕ) → Small (length s) (used_by s)
unfolding used_by
one-small s =
    on-holds (Small (length s)) (property_of s) _ _
    (λ v name e. let h = headed s v name e in
    let z = statement-sized false (drop v s) in
    let l = length-drop v s in
    record { tokens = omega (arith, h.within, z.counted, z.within); bytes = omega (arith, h.within, h.short, z.text) })
    (λ e. record { tokens = omega arith; bytes = name-sized s })

-- the greater of two numbers is within what both are within
most-le : (a b c : ℕ) → a ≤ c → b ≤ c → most a b ≤ c
unfolding most
most-le a b c h k = pick-holds (λ m. m ≤ c) _ b a (λ _. k) (λ _. h)

-- one declaration within the bounds, and more behind it within what is left, are within them together
then-small : (n : ℕ) (u w : Used) (k : ℕ) → Small n u → w.tokens ≤ n → k + w.bytes ≤ n + 2 → Small n (used_then u k w)
unfolding used_then
then-small n u w k h i j = record { tokens = most-le _ _ n h.tokens i; bytes = most-le _ _ (n + 2) h.bytes j }

-- a ';' that is found stands before the end of the text
pub semicolon-there : (s : List ℕ) (i : ℕ) {t : Bool} → t ≡ is (get_or s i 0) (ascii ";") → t ≡ true → i < length s
semicolon-there s i e f = byte-there s i (ascii ";") (omega arith) (sym e ∙ f)

-- nothing is used at the end of the text
none-used : (names : Bool) (l : ℕ) → used_more names l [] ≡ unused
unfolding used_more pick
none-used names zero = refl
none-used names (suc l) = rw (is-no 0 (ascii ";") (λ e. omega arith))

-- at the end of the text no byte is used
end-used : (names : Bool) (l : ℕ) (r : List ℕ) → length r ≡ 0 → (used_more names l r).bytes ≡ 0
unfolding unused
end-used names l [] h = ap (λ (u : Used). u.bytes) (none-used names l)
end-used names l (x ∷ r) h = absurd (omega arith)

-- by a declaration at the start of s, and by what is behind it
next_small : (names : Bool) (s : List ℕ) (n : ℕ) (d : Declaration) → declaration_of s ≡ ok n d → (r : List ℕ) → length r ≡ length s - n → (u : Used) → Small (length r) u
    → (length r ≡ 0 → u.bytes ≡ 0) → Small (length s) (used_then (used_by s) (text_kept names d) u)
next_small names s n d e r l u h z =
    let t = takes names s n d e in
    then-small (length s) _ u (text_kept names d) (one-small s) (omega (arith, h.tokens))
    (⊎_elim
    (λ (i : n < length s). omega (arith, t.sharp i, h.bytes))
    (λ i. omega (arith, t.text, t.within, z (omega arith)))
    (lt-or-ge n (length s)))

-- by declarations behind a first one
pub more-small : (names : Bool) (l : ℕ) (s : List ℕ) → Small (length s) (used_more names l s)
unfolding used_more
more-small names zero s = unused-small (length s)
more-small names (suc l) s =
    pick-holds (Small (length s)) (is (get_or s 0 0) (ascii ";")) _ _
    (λ e. let w = 1 + skip_whitespace (drop 1 s) in
    let p = semicolon-there s 0 refl e in
    let q = skip-le (drop 1 s) in
    let k = length-drop 1 s in
    let o = length-drop w s in
    on-holds (Small (length s)) (declaration_of (drop w s)) _ _
    (λ n d g. let r = drop (w + n) s in
    let m = length-drop (w + n) s in
    small-more (length (drop w s)) (length s) _ (omega arith)
    (next_small names (drop w s) n d g r (omega arith) (used_more names l r) (more-small names l r) (end-used names l r)))
    (λ _. small-more (length (drop w s)) (length s) _ (omega arith) (one-small (drop w s))))
    (λ _. unused-small (length s))

-- all declarations of a text use no more tokens than it has bytes, and two bytes more of text
pub rules-small : (names : Bool) (s : List ℕ) → Small (length s) (used_rules names s)
unfolding used_rules
rules-small names s =
    on-holds (Small (length s)) (declaration_of s) _ _
    (λ n d g. let r = drop n s in
    next_small names s n d g r (length-drop n s) (used_more names (length s) r) (more-small names (length s) r) (end-used names (length s) r))
    (λ _. one-small s)

-- ---- stores of the least lengths for N bytes of text have room for any text among them, behind as many bytes of texts kept
module _ (N : ℕ) (s rules tokens brackets store : List ℕ) (fill : ℕ) (within : length s ≤ N) (filled : fill ≤ N) (bits : N < 2 ^ 30)
    (for-store : text_least N ≤ length store) (for-brackets : bracket_least N ≤ length brackets) (for-rules : number_least N ≤ length rules)
    (for-tokens : number_least N ≤ length tokens) where
  -- stores of the least lengths have room for the tokens, brackets and texts of s
  pub least-room : Room (length s) fill tokens brackets store
  least-room = record { for-tokens = omega arith; for-brackets = omega arith; for-texts = omega arith; bits = omega arith }

  -- stores of the least lengths have the room that reading the styles of s asks for
  pub least-style-room : StyleRoom s rules tokens brackets store fill
  least-style-room =
      record {
        for-declarations = record { room = least-room; for-rules = omega arith; row-bits = omega arith; start-bits = omega arith };
        for-styles = omega arith;
      }
