-- What a reader answers: the bytes that it takes from the start of its text and the value that they stand for, or that it
-- does not read there (nom's `IResult`, with the bytes taken in place of the rest).
use Rattle.std.specs.Prelude.{ℕ, ◌+◌}

-- "nom combinators become enum answers with a cursor."
pub data Parsed (A : Type 0) : Type 0 where
  ok : ℕ → A → Parsed A
  err : Parsed A

-- by cases
unfoldable pub on_parsed : {A B : Type 0} → Parsed A → (ℕ → A → B) → B → B
on_parsed (ok n a) f b = f n a
on_parsed err f b = b

-- the same reading behind k bytes more
unfoldable pub behind : {A : Type 0} → ℕ → Parsed A → Parsed A
behind k (ok n a) = ok (k + n) a
behind k err = err

-- the first that reads (nom's `alt`)
unfoldable pub or_else : {A : Type 0} → Parsed A → Parsed A → Parsed A
or_else (ok n a) r = ok n a
or_else err r = r

-- the bytes that it takes: none where it does not read
unfoldable pub taken : {A : Type 0} → Parsed A → ℕ
taken (ok n a) = n
taken err = 0
