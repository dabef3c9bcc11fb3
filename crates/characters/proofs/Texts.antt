-- Well-formed texts are the texts of scalar values, and stay well formed where they are cut between scalar values or joined.
use Rattle.std.proofs.Common.{Option, Some, None}
use Prim.Native.Nat.{ℕ, zero, suc, ◌+◌, ◌≤◌, ◌<◌}
use mathlib.Core.Path.{◌≡◌, refl, sym, ap, ap₂, ◌∙◌}
use mathlib.Core.Bool.{true}
use mathlib.Core.List.{List, [], ◌∷◌, ◌++◌, append_assoc, append-nil}
use native.Mathlib.Omega.{arith}
use lib.ListN.{length, take, drop, length-drop, take-append-drop}
use lib.Seq.{drop-append_seam, drop-drop, take-add}
use Rattle.combinators.specs.Choice.{is}
use Rattle.combinators.specs.Repeat.{many}
use Rattle.combinators.proofs.Rules.{is_true, is-from}
use Rattle.combinators.proofs.Repeats.{many-took, many-stop, many-from}
use Rattle.characters.specs.Utf8.{is_scalar, utf8, scalar_of, scalar_taken, taken_of, valid, encode, Scalars, Cut}
use Rattle.characters.specs.Utf8.Scalars.{none, more}
use Rattle.characters.specs.Utf8.Cut.{start, behind}
use Rattle.combinators.specs.declared.taken.Taken.{Taken}
use Rattle.characters.proofs.RoundTrip.{Read, read_back, written_back}

-- ---- well formed behind a scalar value
-- a text is well formed where what follows its first scalar value is
pub valid-behind : (s : List ℕ) (n v : ℕ) → scalar_of s ≡ Some (record { taken = n; value = v }) → valid s ≡ valid (drop n s)
unfolding valid scalar_taken taken_of
valid-behind s n v e =
    let r = written_back s n v e in
    let m : ℕ = many scalar_taken 0 0 (drop n s) in
    let p : many scalar_taken 0 0 s ≡ n + m
    = many-took scalar_taken s 0 n r.inside-text (ap taken_of e) (λ z. omega arith)
    ∙ ap (λ i. many scalar_taken i 0 (drop n s)) (omega arith) ∙ many-from n scalar_taken (drop n s) 0 0 in
    let q : length s ≡ n + length (drop n s) = omega (arith, length-drop n s, r.inside-text) in
    ap₂ is p q ∙ is-from n m (length (drop n s))

-- so the bytes of a scalar value in front change nothing
pub valid-scalar : (v : ℕ) (t : List ℕ) → is_scalar v ≡ true → valid (utf8 v ++ t) ≡ valid t
valid-scalar v t e = valid-behind (utf8 v ++ t) (length (utf8 v)) v (read_back v t e) ∙ ap valid (drop-append_seam (utf8 v) t)

-- the empty text is well formed
valid-empty : valid [] ≡ true
unfolding valid many is
valid-empty = refl

-- ---- a well-formed text is the text of scalar values
pub record Encoded (s : List ℕ) : Type 0 where
  pub scalars : List ℕ
  pub all : Scalars scalars
  pub same : s ≡ encode scalars

-- the empty text is that of no scalar values
encoded-empty : Encoded []
unfolding encode
encoded-empty = record { scalars = []; all = none; same = refl }

-- a scalar value in front
encoded-more : (s : List ℕ) (n v : ℕ) → Read s n v → Encoded (drop n s) → Encoded s
unfolding encode
encoded-more s n v r t =
    record {
      scalars = v ∷ t.scalars;
      all = more r.scalar t.all;
      same = sym (take-append-drop n s) ∙ ap₂ (λ a b. a ++ b) r.bytes t.same;
    }

-- a text that begins with no scalar value is well formed only where it is empty
no-scalar : (s : List ℕ) → scalar_of s ≡ None → valid s ≡ true → length s ≡ 0
unfolding valid scalar_taken taken_of
no-scalar s e h = sym (is_true (many scalar_taken 0 0 s) (length s) h) ∙ many-stop scalar_taken s 0 (ap taken_of e)

-- a text, where all that is shorter is shown
encoded-step : (s : List ℕ) → 0 < length s → valid s ≡ true → ((n : ℕ) → 1 ≤ n → valid (drop n s) ≡ true → Encoded (drop n s)) → Encoded s
encoded-step s l h f = go (scalar_of s) refl
  where
    go : (x : Option (Taken ℕ)) → scalar_of s ≡ x → Encoded s
    go (Some c) e =
        let r = written_back s c.taken c.value e in
        encoded-more s c.taken c.value r (f c.taken r.some (sym (valid-behind s c.taken c.value e) ∙ h))
    go None e = absurd (omega (arith, no-scalar s e h))

-- the texts of at most k bytes
encoded : (k : ℕ) (s : List ℕ) → length s ≤ k → valid s ≡ true → Encoded s
encoded zero [] l h = encoded-empty
encoded zero (x ∷ r) l h = absurd (omega arith)
encoded (suc k) [] l h = encoded-empty
encoded (suc k) (x ∷ r) l h =
    encoded-step (x ∷ r) (omega arith) h (λ n p q. encoded k (drop n (x ∷ r)) (omega (arith, length-drop n (x ∷ r))) q)

-- every well-formed text is the bytes of scalar values
pub valid-is : (s : List ℕ) → valid s ≡ true → Encoded s
valid-is s h = encoded (length s) s (omega arith) h

-- ---- and the text of scalar values is well formed
-- in front of a text it changes nothing
valid-front : (vs t : List ℕ) → Scalars vs → valid (encode vs ++ t) ≡ valid t
unfolding encode
valid-front vs t none = refl
valid-front vs t (more {v = v} {vs = ws} e r) = ap valid (append_assoc (utf8 v) (encode ws) t) ∙ valid-scalar v (encode ws ++ t) e ∙ valid-front ws t r

-- the bytes of scalar values are well formed
pub is-valid : (vs : List ℕ) → Scalars vs → valid (encode vs) ≡ true
is-valid vs h = ap valid (sym (append-nil (encode vs))) ∙ valid-front vs [] h ∙ valid-empty

-- ---- joined and cut
-- well-formed texts joined are well formed
pub valid-append : (a b : List ℕ) → valid a ≡ true → valid b ≡ true → valid (a ++ b) ≡ true
valid-append a b p q =
    let r = valid-is a p in
    ap (λ t. valid (t ++ b)) r.same ∙ valid-front r.scalars b r.all ∙ q

-- and so are the two parts of one that is cut between scalar values
pub cut-valid : (s : List ℕ) (k : ℕ) → valid s ≡ true → Cut s k → (valid (take k s) ≡ true) × (valid (drop k s) ≡ true)
cut-valid s k h start = (valid-empty, h)
cut-valid s k h (behind {n = n} {v = v} {k = m} e c) =
    let r = written_back s n v e in
    let t = cut-valid (drop n s) m (sym (valid-behind s n v e) ∙ h) c in
    let p : take (n + m) s ≡ utf8 v ++ take m (drop n s) = take-add n m s ∙ ap (λ b. b ++ take m (drop n s)) r.bytes in
    (ap valid p ∙ valid-scalar v (take m (drop n s)) r.scalar ∙ t.0, ap valid (sym (drop-drop m n s)) ∙ t.1)
