-- Components: what is written is read back wherever it lies.
use mathlib.Core.Path.{◌≡◌, sym, ap, ◌∙◌}
use mathlib.Core.List.{List, ◌++◌}
use Prim.Native.Nat.{ℕ, ◌+◌, ◌≤◌, ◌<◌}
use native.Mathlib.Nat.{add-zero}
use native.Mathlib.Omega.{arith}
use lib.IntN.{ℤ}
use lib.ListN.{length, length-append}
use Rattle.combinators.specs.Choice.{pick, or, is}
use Rattle.syntax.specs.RuleLayout.{star_kind, attribute_equal_kind, component_kind}
use Rattle.syntax.specs.Selector.{Component, star, class, element, hash, child, descendant, nth, attribute, attribute_equal}
use Rattle.syntax.specs.Signed.{signed_number}
use Rattle.syntax.proofs.SignedBack.{signed_back}
use Rattle.syntax.proofs.Streams.{Held, held-left, held-right}
use Rattle.compiled.specs.Decoded.{read, and_then, mapped}
use Rattle.compiled.specs.Number.{number_limit, number_bytes, number_at, ranged_at}
use Rattle.compiled.specs.Text.{text_bytes, span_at}
use Rattle.compiled.specs.Component.{component_body, component_bytes, is_mark, name_at, numbers_at, names_at, body_at, written_at, mark_of, named_of, component_in, component_at}
use Rattle.compiled.specs.declared.components.Written.TheVariants.{Name, Numbers, Names}
use Rattle.compiled.proofs.Fits.{TextFits, ComponentFits}
use Rattle.compiled.proofs.Following.{then-read, mapped-read, ends_at}
use Rattle.compiled.proofs.NumberBack.{number-back, ranged-back, signed-small}
use Rattle.compiled.proofs.TextBack.{span, span-back, span-text}

-- a kind is one of nine
pub kind-le : (c : Component) → component_kind c ≤ attribute_equal_kind
unfolding component_kind
kind-le star = omega arith
kind-le (class x) = omega arith
kind-le (element x) = omega arith
kind-le (hash x) = omega arith
kind-le child = omega arith
kind-le descendant = omega arith
kind-le (nth a b) = omega arith
kind-le (attribute x) = omega arith
kind-le (attribute_equal x y) = omega arith

module _ (t : List ℕ) where
  -- the two numbers of nth
  two-numbers : (a b : ℤ) (n : ℕ) → signed_number a < number_limit → signed_number b < number_limit
      → Held t n (number_bytes (signed_number a) ++ number_bytes (signed_number b))
      → and_then (number_at t n) (λ m v. mapped (λ w. Numbers v w) (number_at t m))
      ≡ read (n + length (number_bytes (signed_number a) ++ number_bytes (signed_number b))) (Numbers (signed_number a) (signed_number b))
  two-numbers a b n ha hb h =
      let x : List ℕ = number_bytes (signed_number a) in
      let y : List ℕ = number_bytes (signed_number b) in
      let e : n + length x + length y ≡ n + length (x ++ y) = omega (arith, length-append x y) in
      then-read (number_at t n) (λ m v. mapped (λ w. Numbers v w) (number_at t m)) _ (signed_number a) (number-back t n (signed_number a) ha (held-left t n x y h))
      ∙ mapped-read (λ w. Numbers (signed_number a) w) _ _ (signed_number b) (number-back t (n + length x) (signed_number b) hb (held-right t n x y h))
      ∙ ends_at _ _ _ e

  -- a component with one text
  one-text : (kind : ℕ) (x : List ℕ) (n : ℕ) → TextFits x → Held t n (text_bytes x)
      → mapped (component_in t) (mapped (λ p. Name kind p) (span_at t n)) ≡ read (n + length (text_bytes x)) (named_of kind x)
  unfolding component_in
  one-text kind x n f h =
      mapped-read (component_in t) _ _ (Name kind (span t n x h)) (mapped-read (λ p. Name kind p) (span_at t n) _ (span t n x h) (span-back t n x h f.short))
      ∙ rw (span-text t n x h)

  -- the component with two
  two-texts : (x y : List ℕ) (n : ℕ) → TextFits x → TextFits y → Held t n (text_bytes x ++ text_bytes y)
      → mapped (component_in t) (and_then (span_at t n) (λ m p. mapped (λ q. Names p q) (span_at t m)))
      ≡ read (n + length (text_bytes x ++ text_bytes y)) (attribute_equal x y)
  unfolding component_in
  two-texts x y n fx fy h =
      let hx = held-left t n (text_bytes x) (text_bytes y) h in
      let hy = held-right t n (text_bytes x) (text_bytes y) h in
      let e : n + length (text_bytes x) + length (text_bytes y) ≡ n + length (text_bytes x ++ text_bytes y) = omega (arith, length-append (text_bytes x) (text_bytes y)) in
      mapped-read (component_in t) _ _ (Names (span t n x hx) (span t (n + length (text_bytes x)) y hy))
      (then-read (span_at t n) (λ m p. mapped (λ q. Names p q) (span_at t m)) _ (span t n x hx) (span-back t n x hx fx.short)
      ∙ mapped-read (λ q. Names (span t n x hx) q) _ _ (span t (n + length (text_bytes x)) y hy) (span-back t (n + length (text_bytes x)) y hy fy.short))
      ∙ rw (span-text t n x hx, span-text t (n + length (text_bytes x)) y hy) (ends_at _ _ _ e)

  -- what stands behind the kind is read back
  body_back : (c : Component) (n : ℕ) → ComponentFits c → Held t n (component_body c)
      → mapped (component_in t) (body_at t (component_kind c) n) ≡ read (n + length (component_body c)) c
  unfolding body_at name_at numbers_at names_at is_mark component_kind component_body pick or is mapped component_in mark_of named_of
  body_back star n f h = ends_at star _ _ (sym (add-zero n))
  body_back (class x) n f h = one-text _ x n f h
  body_back (element x) n f h = one-text _ x n f h
  body_back (hash x) n f h = one-text _ x n f h
  body_back child n f h = ends_at child _ _ (sym (add-zero n))
  body_back descendant n f h = ends_at descendant _ _ (sym (add-zero n))
  body_back (nth a b) n f h = rw (two-numbers a b n (signed-small a f.0) (signed-small b f.1) h, signed_back a, signed_back b)
  body_back (attribute x) n f h = one-text _ x n f h
  body_back (attribute_equal x y) n f h = two-texts x y n f.0 f.1 h

  -- a component is read back
  pub component-back : (c : Component) (i : ℕ) → ComponentFits c → Held t i (component_bytes c) → component_at t i ≡ read (i + length (component_bytes c)) c
  unfolding component_at written_at component_bytes
  component-back c i f h =
      let g : List ℕ = number_bytes (component_kind c) in
      let e : i + length g + length (component_body c) ≡ i + length (g ++ component_body c) = omega (arith, length-append g (component_body c)) in
      ap (mapped (component_in t))
      (then-read (ranged_at t i star_kind attribute_equal_kind) (λ n kind. body_at t kind n) _ (component_kind c)
      (ranged-back t i star_kind attribute_equal_kind (component_kind c) (omega (arith, kind-le c)) (omega arith) (kind-le c) (held-left t i g (component_body c) h)))
      ∙ body_back c (i + length g) f (held-right t i g (component_body c) h)
      ∙ ends_at c _ _ e
