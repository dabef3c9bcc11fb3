-- What an answer tells of the outcome that it stands for.
use mathlib.Core.Path.{◌≡◌, refl, sym, ◌∙◌}
use mathlib.Core.List.{List}
use Prim.Native.Nat.{ℕ, ◌+◌, ◌^◌, ◌<◌}
use native.Mathlib.Omega.{arith}
use lib.ListN.{length}
use lib.Seq.{sets}
use Rattle.selectors.specs.Outcome.{Outcome, reads, fails, panics, on_outcome}
use Rattle.selectors.specs.Reading.{reading, many_reading, written}
use Rattle.std.specs.Prelude.{Option, Some, None, Result, Ok, Err, IfErr, MatchResult, ok_or}
use Rattle.selectors.specs.declared.readings.Panic.{Panic}
use Rattle.selectors.specs.declared.readings.Read.{Read}

-- what a reader answers, and one that never fails
abbrev pub Reading : Type 0
Reading = Result (Option Read) Panic

abbrev pub ManyReading : Type 0
ManyReading = Result Read Panic

-- the place of a panic, as it is answered
abbrev pub panic_at : ℕ → Panic
panic_at p = record { place = p }

-- the sizes of what was read, as they are answered
abbrev pub sized : ℕ → ℕ → ℕ → ℕ → Read
sized n count numbers text = record { taken = n; count = count; numbers = numbers; text = text }

-- what `ok_or` refuses is not there, and the error is the one that was passed
pub not-there : {A : Type 0} (o : Option A) (p q : Panic) → Err q ≡ ok_or o p → (o ≡ None) × (q ≡ p)
not-there (Some a) p q e = cc
not-there None p q e = (refl, cc)

-- ---- a panic whose place is moved
abbrev pub Moved : {A : Type 0} → Result A Panic → ℕ → Result A Panic → Type 0
Moved r n m = MatchResult r (λ x. m ≡ Ok x) (λ p. m ≡ Err (panic_at (n + p.place)))

-- where each panic's place fits a word when it is moved, it may be moved
pub moved-fits : {A : Type 0} (r : Result A Panic) (n : ℕ) → ((p : Panic) → r ≡ Err p → n + p.place < 2 ^ 64) → IfErr r (λ p. n + p.place < 2 ^ 64)
moved-fits (Ok x) n h = tt
moved-fits (Err p) n h = h p refl

-- an answer without a panic is not changed
pub moved-ok : {A : Type 0} (r m : Result A Panic) (n : ℕ) → Moved r n m → (x : A) → m ≡ Ok x → r ≡ Ok x
moved-ok (Ok y) m n h x e = sym h ∙ e
moved-ok (Err p) m n h x e = absurd (let q : ◌≡◌ {A = Result _ Panic} (Err (panic_at (n + p.place))) (Ok x) = sym h ∙ e in cc)

-- the panic before it was moved
pub moved-err : {A : Type 0} (r m : Result A Panic) (n : ℕ) → Moved r n m → (q : Panic) → m ≡ Err q → (p : ℕ) × (r ≡ Err (panic_at p)) × (q ≡ panic_at (n + p))
moved-err (Ok y) m n h q e = absurd (let z : ◌≡◌ {A = Result _ Panic} (Ok y) (Err q) = sym h ∙ e in cc)
moved-err (Err p) m n h q e = (p.place, refl, let z : ◌≡◌ {A = Result _ Panic} (Err (panic_at (n + p.place))) (Err q) = sym h ∙ e in cc)

-- an answer with something that was read is not one without
pub read-there : {A : Type 0} (r : Result (Option A) Panic) (x : A) → r ≡ Ok (Some x) → r ≡ Ok None → ⊥
read-there r x e n = let q : ◌≡◌ {A = Result (Option _) Panic} (Ok (Some x)) (Ok None) = sym e ∙ n in cc

module _ {A : Type 0} (c : A → ℕ) (w : A → List ℕ) (x : A → List ℕ) where
  -- what was read, and its sizes
  pub record ReadAs (o : Outcome A) (n count numbers text : ℕ) : Type 0 where
    pub value : A
    pub reads-it : o ≡ reads n value
    pub counts : count ≡ c value
    pub rows : numbers ≡ length (w value)
    pub texts : text ≡ length (x value)

  -- an answer with sizes says that the outcome reads, and these are the sizes of what was read
  pub read_by : (o : Outcome A) (got : Read) → Ok (Some got) ≡ reading c w x o → ReadAs o got.taken got.count got.numbers got.text
  unfolding reading on_outcome
  read_by (reads m a) got e =
      let q : got.taken ≡ m = cc in
      record { value = a; reads-it = rw q; counts = cc; rows = cc; texts = cc }
  read_by fails got e = absurd (let z : ◌≡◌ {A = ℕ} 0 1 = cc in omega arith)
  read_by (panics p) got e = absurd (let z : ◌≡◌ {A = ℕ} 0 1 = cc in omega arith)

  -- an answer that it fails says that nothing reads
  pub fails_by : (o : Outcome A) → Ok None ≡ reading c w x o → o ≡ fails
  unfolding reading on_outcome
  fails_by (reads m a) e = absurd (let z : ◌≡◌ {A = ℕ} 0 1 = cc in omega arith)
  fails_by fails e = refl
  fails_by (panics p) e = absurd (let z : ◌≡◌ {A = ℕ} 0 1 = cc in omega arith)

  -- an answer with a panic says where the crate panics
  pub panics-by : (o : Outcome A) (p : Panic) → Err p ≡ reading c w x o → o ≡ panics p.place
  unfolding reading on_outcome
  panics-by (reads m a) p e = absurd (let z : ◌≡◌ {A = ℕ} 0 1 = cc in omega arith)
  panics-by fails p e = absurd (let z : ◌≡◌ {A = ℕ} 0 1 = cc in omega arith)
  panics-by (panics q) p e =
      let h : p.place ≡ q = cc in
      rw h

  -- of one that never fails
  pub many_by : (o : Outcome A) (got : Read) → (o ≡ fails → ⊥) → Ok got ≡ many_reading c w x o → ReadAs o got.taken got.count got.numbers got.text
  unfolding many_reading on_outcome
  many_by (reads m a) got never e =
      let q : got.taken ≡ m = cc in
      record { value = a; reads-it = rw q; counts = cc; rows = cc; texts = cc }
  many_by fails got never e = absurd (never refl)
  many_by (panics p) got never e = absurd (let z : ◌≡◌ {A = ℕ} 0 1 = cc in omega arith)

  -- of a reader that never fails, too, an answer with a panic says where the crate panics
  pub many-panics-by : (o : Outcome A) (p : Panic) → Err p ≡ many_reading c w x o → o ≡ panics p.place
  unfolding many_reading on_outcome
  many-panics-by (reads m a) p e = absurd (let z : ◌≡◌ {A = ℕ} 0 1 = cc in omega arith)
  many-panics-by fails p e = absurd (let z : ◌≡◌ {A = ℕ} 0 1 = cc in omega arith)
  many-panics-by (panics q) p e =
      let h : p.place ≡ q = cc in
      rw h

-- ---- what a reader leaves: its answer, the rows from a place on and the texts from a fill on
abbrev pub Left : {A : Type 0} → (A → ℕ) → (A → List ℕ) → (A → List ℕ) → Outcome A → List ℕ → ℕ → List ℕ → ℕ → Reading → List ℕ → List ℕ → Type 0
Left c w x o rules place store fill r y z = (r ≡ reading c w x o) × ((y ≡ sets rules place (written w o)) × (z ≡ sets store fill (written x o)))

-- the same of one that never fails
abbrev pub LeftMany : {A : Type 0} → (A → ℕ) → (A → List ℕ) → (A → List ℕ) → Outcome A → List ℕ → ℕ → List ℕ → ℕ → ManyReading → List ℕ → List ℕ → Type 0
LeftMany c w x o rules place store fill r y z = (r ≡ many_reading c w x o) × ((y ≡ sets rules place (written w o)) × (z ≡ sets store fill (written x o)))

-- what was read, its sizes and where it lies
pub record Found {A : Type 0} (c : A → ℕ) (w x : A → List ℕ) (o : Outcome A) (rules : List ℕ) (place : ℕ) (store : List ℕ) (fill : ℕ) (y z : List ℕ) (n count numbers text : ℕ) : Type 0 where
  pub value : A
  pub reads-it : o ≡ reads n value
  pub counts : count ≡ c value
  pub rows : numbers ≡ length (w value)
  pub texts : text ≡ length (x value)
  pub rules-are : y ≡ sets rules place (w value)
  pub store_is : z ≡ sets store fill (x value)

module _ {A : Type 0} (c : A → ℕ) (w x : A → List ℕ) (o : Outcome A) (rules : List ℕ) (place : ℕ) (store : List ℕ) (fill : ℕ) {y z : List ℕ} where
  -- ---- returns
  -- where a value was read, the answer says its sizes, and its row and its texts are stored
  pub left-reads : {n count numbers text : ℕ} {a : A} → o ≡ reads n a → count ≡ c a → numbers ≡ length (w a) → text ≡ length (x a)
      → y ≡ sets rules place (w a) → z ≡ sets store fill (x a) → Left c w x o rules place store fill (Ok (Some (sized n count numbers text))) y z
  unfolding reading written on_outcome
  left-reads e p q t ey ez = (rw (e, p, q, t), (ey ∙ rw e, ez ∙ rw e))

  -- the same return of a reader that never fails: the answer says the sizes, and row and texts are stored
  pub left-many : {n count numbers text : ℕ} {a : A} → o ≡ reads n a → count ≡ c a → numbers ≡ length (w a) → text ≡ length (x a)
      → y ≡ sets rules place (w a) → z ≡ sets store fill (x a) → LeftMany c w x o rules place store fill (Ok (sized n count numbers text)) y z
  unfolding many_reading written on_outcome
  left-many e p q t ey ez = (rw (e, p, q, t), (ey ∙ rw e, ez ∙ rw e))

  -- where nothing was read, the answer says so and both stores are as they were
  pub left-fails : o ≡ fails → y ≡ rules → z ≡ store → Left c w x o rules place store fill (Ok None) y z
  unfolding reading written on_outcome
  left-fails e ey ez = (rw e, (ey ∙ rw e, ez ∙ rw e))

  -- where the crate panics, the answer says the place and both stores are as they were
  pub left-panics : {p : ℕ} → o ≡ panics p → y ≡ rules → z ≡ store → Left c w x o rules place store fill (Err (panic_at p)) y z
  unfolding reading written on_outcome
  left-panics e ey ez = (rw e, (ey ∙ rw e, ez ∙ rw e))

  -- where such a reader panics, the answer says the place and both stores are as they were
  pub left-many-panics : {p : ℕ} → o ≡ panics p → y ≡ rules → z ≡ store → LeftMany c w x o rules place store fill (Err (panic_at p)) y z
  unfolding many_reading written on_outcome
  left-many-panics e ey ez = (rw e, (ey ∙ rw e, ez ∙ rw e))

  -- ---- what a caller is told
  -- what was read, with stores that have its row and texts, is found there
  pub found_as : {n count numbers text : ℕ} → ReadAs c w x o n count numbers text → y ≡ sets rules place (written w o) → z ≡ sets store fill (written x o) → Found c w x o rules place store fill y z n count numbers text
  unfolding written on_outcome
  found_as a ey ez =
      record { value = a.value; reads-it = a.reads-it; counts = a.counts; rows = a.rows; texts = a.texts; rules-are = ey ∙ rw a.reads-it; store_is = ez ∙ rw a.reads-it }

  -- a caller whose answer has sizes is told what was read, how large it is and where it lies
  pub found : {r : Reading} {n count numbers text : ℕ} → Left c w x o rules place store fill r y z → r ≡ Ok (Some (sized n count numbers text)) → Found c w x o rules place store fill y z n count numbers text
  found {r} {n} {count} {numbers} {text} l e = found_as (read_by c w x o (sized n count numbers text) (sym e ∙ l.0)) l.1.0 l.1.1

  -- a caller of a reader that never fails is told the same
  pub found-many : {r : ManyReading} {n count numbers text : ℕ} → (o ≡ fails → ⊥) → LeftMany c w x o rules place store fill r y z → r ≡ Ok (sized n count numbers text)
      → Found c w x o rules place store fill y z n count numbers text
  found-many {r} {n} {count} {numbers} {text} never l e = found_as (many_by c w x o (sized n count numbers text) never (sym e ∙ l.0)) l.1.0 l.1.1

  -- nothing was read, and the stores are as they were
  pub nothing-as : o ≡ fails → y ≡ sets rules place (written w o) → z ≡ sets store fill (written x o) → (y ≡ rules) × (z ≡ store)
  unfolding written on_outcome
  nothing-as e ey ez = (ey ∙ rw e, ez ∙ rw e)

  -- a caller whose answer is a failure is told that nothing reads, and that both stores are as they were
  pub nothing : {r : Reading} → Left c w x o rules place store fill r y z → r ≡ Ok None → (o ≡ fails) × ((y ≡ rules) × (z ≡ store))
  nothing l e =
      let h = fails_by c w x o (sym e ∙ l.0) in
      (h, nothing-as h l.1.0 l.1.1)

  -- the same where the crate panics
  panicked-as : {p : ℕ} → o ≡ panics p → y ≡ sets rules place (written w o) → z ≡ sets store fill (written x o) → (y ≡ rules) × (z ≡ store)
  unfolding written on_outcome
  panicked-as e ey ez = (ey ∙ rw e, ez ∙ rw e)

  -- a caller whose answer is a panic is told where, and that both stores are as they were
  pub panicked : {r : Reading} {p : ℕ} → Left c w x o rules place store fill r y z → r ≡ Err (panic_at p) → (o ≡ panics p) × ((y ≡ rules) × (z ≡ store))
  panicked {r} {p} l e =
      let h = panics-by c w x o (panic_at p) (sym e ∙ l.0) in
      (h, panicked-as h l.1.0 l.1.1)

  -- a caller of a reader that never fails is told the same of a panic
  pub panicked-many : {r : ManyReading} {p : ℕ} → LeftMany c w x o rules place store fill r y z → r ≡ Err (panic_at p) → (o ≡ panics p) × ((y ≡ rules) × (z ≡ store))
  panicked-many {r} {p} l e =
      let h = many-panics-by c w x o (panic_at p) (sym e ∙ l.0) in
      (h, panicked-as h l.1.0 l.1.1)
