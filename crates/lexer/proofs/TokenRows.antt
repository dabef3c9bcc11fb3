-- The returns of the functions that write token rows.
use mathlib.Core.Path.{◌≡◌, ◌∙◌}
use mathlib.Core.List.{List, ◌++◌}
use Prim.Native.Nat.{ℕ, ◌+◌, ◌^◌, ◌<◌}
use native.Mathlib.Omega.{arith}
use lib.ListN.{get_or}
use Rattle.lexer.specs.TokenRow.{columns_of, word, row_of, token_from, token_in, columns-back}
use Rattle.lexer.specs.declared.tokens.Token as declared

-- a number below 2^32 is its own word
pub word_same : (x : ℕ) → x < 2 ^ 32 → word x ≡ x
unfolding word
word_same x h = omega arith

-- the token that a row's numbers say
pub row_read : (rows : List ℕ) (at k a b : ℕ) → k ≡ get_or rows (at + 0) 0 → a ≡ get_or rows (at + 3) 0 → b ≡ get_or rows (at + 4) 0
    → (r : declared.Token) → r ≡ token_from k a b → r ≡ token_in rows at
unfolding token_in
row_read rows at k a b ek ea eb r e = e ∙ rw (ek, ea, eb)

-- a row that was written is read back, where its numbers have 32 bits
pub row_back : (byte start : ℕ) (k : declared.Token) (t : List ℕ) → (columns_of k).first < 2 ^ 32 → (columns_of k).second < 2 ^ 32
    → token_in (row_of byte start k ++ t) 0 ≡ k
unfolding token_in row_of
row_back byte start k t h g = rw (word_same _ h, word_same _ g) (columns-back k)
