-- What a reader of sheets comes to: the bytes that it takes and what they stand for; that it does not read; or the byte where the crate
-- panics (refusal 4).
use Rattle.std.specs.Prelude.{ℕ, ◌+◌}
use Rattle.combinators.specs.Parsed.{Parsed, ok, err}

-- "`unwrap` becomes refusal 4": `panics`
pub data Outcome (A : Type 0) : Type 0 where
  reads : ℕ → A → Outcome A
  fails : Outcome A
  panics : ℕ → Outcome A

-- by cases
unfoldable pub on_outcome : {A B : Type 0} → Outcome A → (ℕ → A → B) → B → (ℕ → B) → B
on_outcome (reads n a) f b g = f n a
on_outcome fails f b g = b
on_outcome (panics p) f b g = g p

-- behind k bytes, as f of what was read
unfoldable pub behind : {A B : Type 0} → ℕ → Outcome A → (A → B) → Outcome B
behind k o f = on_outcome o (λ n a. reads (k + n) (f a)) fails (λ p. panics (k + p))

-- a reader that never panics
unfoldable pub parsed : {A B : Type 0} → ℕ → Parsed A → (A → B) → Outcome B
parsed k (ok n a) f = reads (k + n) (f a)
parsed k err f = fails

-- the first that reads or panics (nom's `alt`)
unfoldable pub or_else : {A : Type 0} → Outcome A → Outcome A → Outcome A
or_else (reads n a) o = reads n a
or_else fails o = o
or_else (panics p) o = panics p
