-- Words, compared as fixed byte strings, and what tokens are.
use Rattle.std.specs.Prelude.{ℕ, zero, suc, Bool, false, List, [], ◌∷◌, map, take, drop}
use Rattle.std.specs.Borrow.{Bor}
use Rattle.combinators.specs.Choice.{pick, is}
use Rattle.combinators.specs.Word.{same_text}
use Rattle.lexer.specs.Token.{Token, ident, delim}

-- ---- what a token is

-- the name w
unfoldable pub is_word : List ℕ → Token → Bool
is_word w (ident b) = same_text b w
is_word w _ = false

-- the delimiter c
unfoldable pub is_delim : ℕ → Token → Bool
is_delim c (delim d) = is d c
is_delim c _ = false

-- ---- tables of words

-- a row of a table of words: the word, and what it stands for
pub record Entry (A : Type 0) : Type 0 where
  pub word : List ℕ
  pub means : A

-- what was found, or that nothing was
pub data Found (A : Type 0) : Type 0 where
  found : A → Found A
  missing : Found A

-- what a word stands for by the first row that has it
unfoldable pub lookup : {A : Type 0} → List ℕ → List (Entry A) → Found A
lookup w [] = missing
lookup w (e ∷ es) = let more = lookup w es in pick (same_text w e.word) (found e.means) more

unfoldable pub on_found : {A B : Type 0} → Found A → (A → B) → B → B
on_found (found a) f b = f a
on_found missing f b = b

-- what the row at a place stands for
unfoldable pub row_at : {A : Type 0} → List (Entry A) → ℕ → Found A
row_at [] n = missing
row_at (e ∷ es) zero = found e.means
row_at (e ∷ es) (suc n) = row_at es n

-- the rows of a table as the code has them
abbrev pub entries : {A : Type 0} → List (Bor (List ℕ) × A) → List (Entry A)
entries rows = map (λ r. record { word = r.0.now; means = r.1 }) rows

-- ---- tables of words as bytes: the words joined, and their lengths

unfoldable pub split : List ℕ → List ℕ → List (List ℕ)
split joined [] = []
split joined (n ∷ ns) = take n joined ∷ split (drop n joined) ns

-- the place of a word in a list, which is the list's length where it is not there
unfoldable pub word_place : List ℕ → List (List ℕ) → ℕ
word_place w [] = 0
word_place w (x ∷ xs) = pick (same_text w x) 0 (suc (word_place w xs))
