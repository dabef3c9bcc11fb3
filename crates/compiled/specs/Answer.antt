-- What the readers of compiled bytes answer for each reading, and how far it reaches into the bytes.
use Rattle.std.specs.Prelude.{ℕ, ◌+◌, ◌-◌, ◌≤◌, ◌<◌, ◌≡◌, List, length, get_or, Result, Ok, Err}
use Rattle.combinators.specs.Refusal.{no_refusal, refused_at, bad_bytes}
use Rattle.combinators.specs.declared.refusals.Refusal.{Refusal}
use Rattle.syntax.specs.Style.{StyleDecl}
use Rattle.compiled.specs.Decoded.{Decoded, read, fault, on_decoded, mapped}
use Rattle.compiled.specs.Component.{written_at}
use Rattle.compiled.specs.Sheet.{CompiledSelector, decode}
use Rattle.compiled.specs.declared.places.Fault.{Fault}
use Rattle.compiled.specs.declared.places.Read.{Read}
use Rattle.compiled.specs.declared.texts.Span.{Span}
use Rattle.compiled.specs.declared.components.Written.{Written}
use Rattle.compiled.specs.declared.components.Written.TheVariants as written

-- ---- what was read, with the place behind it
unfoldable pub read_answer : {A : Type 0} → Decoded A → Result (Read A) Fault
read_answer (read n a) = Ok (record { next = n; value = a })
read_answer (fault p) = Err (record { place = p })

-- it ends within the bytes
unfoldable pub read_within : {A : Type 0} → ℕ → Result (Read A) Fault → Type 0
read_within len (Ok r) = r.next ≤ len
read_within len (Err f) = Unit

-- a text ends where what was read ends
unfoldable pub text_within : ℕ → Result (Read Span) Fault → Type 0
text_within len (Ok r) = (r.next ≤ len) × (r.value.start + r.value.size ≡ r.next)
text_within len (Err f) = Unit

-- ---- what is only passed over
unfoldable pub place_answer : {A : Type 0} → Decoded A → Result ℕ Fault
place_answer (read n a) = Ok n
place_answer (fault p) = Err (record { place = p })

-- ---- components
-- the texts of a component lie within the bytes
abbrev pub Inside : ℕ → Written → Type 0
Inside len (written.Mark kind) = Unit
Inside len (written.Name kind x) = x.start + x.size ≤ len
Inside len (written.Numbers a b) = Unit
Inside len (written.Names x y) = (x.start + x.size ≤ len) × (y.start + y.size ≤ len)

-- it ends within the bytes, and so do its texts
unfoldable pub component_within : ℕ → Result (Read Written) Fault → Type 0
component_within len (Ok r) = (r.next ≤ len) × Inside len r.value
component_within len (Err f) = Unit

-- what the size r of a short component at i tells, whose numbers are one byte each: 1, that it is its kind alone; more, that it is a kind and a text
pub record ShortSize (t : List ℕ) (i r : ℕ) : Type 0 where
  pub some : 0 < r
  pub alone : r ≡ 1 → written_at t i ≡ read (i + 1) (written.Mark (get_or t i 0))
  pub named : 1 < r → written_at t i ≡ read (i + r) (written.Name (get_or t i 0) (record { start = i + 2; size = r - 2 }))
  pub there : r ≤ length t - i

-- ---- a selector that is passed over, with its origin
unfoldable pub selector_answer : Decoded (CompiledSelector StyleDecl) → Result (Read ℕ) Fault
selector_answer d = read_answer (mapped (λ s. s.origin) d)

-- ---- a sheet: that the bytes are one, or the place of the fault
unfoldable pub check_answer : Decoded (List (CompiledSelector StyleDecl)) → Result Unit Fault
check_answer (read n ss) = Ok tt
check_answer (fault p) = Err (record { place = p })

-- what each answer stands for
unfoldable pub refusal_of : Result Unit Fault → Refusal
refusal_of (Ok u) = no_refusal
refusal_of (Err f) = refused_at bad_bytes f.place

-- "9 the bytes do not read as a sheet to their last byte"
unfoldable pub bytes_refusal : List ℕ → Refusal
bytes_refusal t = on_decoded (decode t) (λ _ _. no_refusal) (λ p. refused_at bad_bytes p)

-- the fault lies within the bytes or at their end
unfoldable pub check_within : ℕ → Result Unit Fault → Type 0
check_within len (Ok u) = Unit
check_within len (Err f) = f.place ≤ len
