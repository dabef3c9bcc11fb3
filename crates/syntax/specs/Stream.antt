-- Rows as a stream of numbers: a reader gives a value and the numbers behind it, a writer is told where its texts start in the store.
-- Readers are total: any numbers read as something.
use Rattle.std.specs.Prelude.{ℕ, zero, suc, ◌+◌, List, [], ◌∷◌, ◌++◌, ltb, length}
use Rattle.combinators.specs.Choice.{pick}

pub record Read (A : Type 0) : Type 0 where
  pub value : A
  pub rest : List ℕ

module _ {A : Type 0} where
  -- k values, one behind the other
  unfoldable pub read_many : (List ℕ → Read A) → ℕ → List ℕ → Read (List A)
  read_many u zero t = record { value = []; rest = t }
  read_many u (suc k) t =
      let q = read_many u k (u t).rest in
      record { value = (u t).value ∷ q.value; rest = q.rest }

  -- the texts of a list of values, end to end
  unfoldable pub texts_many : (A → List ℕ) → List A → List ℕ
  texts_many x [] = []
  texts_many x (a ∷ xs) = x a ++ texts_many x xs

  -- their rows; the text of the first starts at f
  unfoldable pub rows_many : (ℕ → A → List ℕ) → (A → List ℕ) → ℕ → List A → List ℕ
  rows_many w x f [] = []
  rows_many w x f (a ∷ xs) = w f a ++ rows_many w x (f + length (x a)) xs

-- a place in n numbers, or their end where it lies behind
unfoldable pub reached : ℕ → ℕ → ℕ
reached n place = pick (ltb place n) place n
