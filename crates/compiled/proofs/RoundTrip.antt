-- The round trip: a sheet that fits is read back from its bytes.
use mathlib.Core.Path.{◌≡◌, sym, ◌∙◌}
use mathlib.Core.List.{List, [], ◌∷◌, ◌++◌, append-nil}
use Prim.Native.Nat.{ℕ, ◌+◌, ◌≤◌, ◌<◌}
use native.Mathlib.Nat.{add-zero}
use native.Mathlib.Omega.{arith}
use lib.ListN.{length, length-append}
use Rattle.combinators.specs.All.{All}
use Rattle.syntax.specs.RuleLayout.{pseudo_number}
use Rattle.syntax.specs.Selector.{PseudoElement, none, before, after}
use Rattle.syntax.specs.Stream.{texts_many}
use Rattle.syntax.specs.Style.{agent_origin, author_origin, StyleDecl}
use Rattle.syntax.proofs.Streams.{Held, held-left, held-right}
use Rattle.syntax.proofs.RuleRows.{pseudo-back}
use Rattle.compiled.specs.Decoded.{read, counted}
use Rattle.compiled.specs.Number.{number_limit, number_bytes, number_at, ranged_at}
use Rattle.compiled.specs.Component.{component_bytes, component_at}
use Rattle.compiled.specs.Style.{style_bytes, style_at}
use Rattle.compiled.specs.Sheet.{CompiledSelector, head_bytes, styles_bytes, selector_bytes, encode, head_at, styles_at, selector_at, selectors_at, decode}
use Rattle.compiled.proofs.Fits.{ComponentFits, StyleFits, SelectorFits, NotFalling, SheetFits}
use Rattle.compiled.proofs.Following.{then-read, mapped-read, ends_at, counted_back, selector-made, sheet-made}
use Rattle.compiled.proofs.NumberBack.{number-back, ranged-back}
use Rattle.compiled.proofs.ComponentBack.{component-back}
use Rattle.compiled.proofs.StyleBack.{style-back}

-- ---- pseudo elements
-- its number is not below the least
pseudo-ge : (p : PseudoElement) → pseudo_number none ≤ pseudo_number p
unfolding pseudo_number
pseudo-ge p = omega arith

-- the number of a pseudo element is not above that of `::after`
pseudo-le : (p : PseudoElement) → pseudo_number p ≤ pseudo_number after
unfolding pseudo_number
pseudo-le none = omega arith
pseudo-le before = omega arith
pseudo-le after = omega arith

-- the number of a pseudo element is below 2^32
pseudo-small : (p : PseudoElement) → pseudo_number p < number_limit
unfolding pseudo_number
pseudo-small p = omega (arith, pseudo-le p)

-- ---- parts of a sheet read back where their bytes lie
module _ (t : List ℕ) where
  -- the styles with their count
  styles-back : (ds : List StyleDecl) (i : ℕ) → length ds < number_limit → All StyleFits ds → Held t i (styles_bytes ds)
      → styles_at (style_at t) t i ≡ read (i + length (styles_bytes ds)) ds
  unfolding styles_at styles_bytes
  styles-back ds i l f h =
      let a : List ℕ = number_bytes (length ds) in
      let b : List ℕ = texts_many style_bytes ds in
      let e : i + length a + length b ≡ i + length (a ++ b) = omega (arith, length-append a b) in
      then-read (number_at t i) (λ n count. counted (style_at t) count n) _ (length ds) (number-back t i (length ds) l (held-left t i a b h))
      ∙ counted_back t style_bytes (style_at t) StyleFits (style-back t) ds (i + length a) f (held-right t i a b h)
      ∙ ends_at ds _ _ e

  -- the numbers before the components
  pub head-back : (origin : ℕ) (p : PseudoElement) (count least i : ℕ) → least ≤ origin → origin ≤ author_origin → count < number_limit
      → Held t i (head_bytes origin (pseudo_number p) count)
      → head_at t least i ≡ read (i + length (head_bytes origin (pseudo_number p) count)) (record { origin = origin; pseudo = pseudo_number p; count = count })
  unfolding head_at head_bytes
  head-back origin p count least i lo hi l h =
      let a : List ℕ = number_bytes origin in
      let b : List ℕ = number_bytes (pseudo_number p) in
      let c : List ℕ = number_bytes count in
      let r = held-right t i a (b ++ c) h in
      let e : i + length a + length b + length c ≡ i + length (a ++ (b ++ c)) = omega (arith, length-append a (b ++ c), length-append b c) in
      then-read (ranged_at t i least author_origin) _ _ origin (ranged-back t i least author_origin origin (omega arith) lo hi (held-left t i a (b ++ c) h))
      ∙ then-read (ranged_at t (i + length a) (pseudo_number none) (pseudo_number after)) _ _ (pseudo_number p)
      (ranged-back t (i + length a) (pseudo_number none) (pseudo_number after) (pseudo_number p) (pseudo-small p) (pseudo-ge p) (pseudo-le p) (held-left t (i + length a) b c r))
      ∙ mapped-read _ (number_at t (i + length a + length b)) _ count (number-back t (i + length a + length b) count l (held-right t (i + length a) b c r))
      ∙ ends_at _ _ _ e

  -- a selector is read back behind one of an origin that is not above its own
  pub selector-back : (s : CompiledSelector StyleDecl) (least i : ℕ) → SelectorFits s → least ≤ s.origin → Held t i (selector_bytes s)
      → selector_at (style_at t) t least i ≡ read (i + length (selector_bytes s)) s
  unfolding selector_bytes
  selector-back s least i f l h =
      let a : List ℕ = head_bytes s.origin (pseudo_number s.pseudo) (length s.components) in
      let b : List ℕ = texts_many component_bytes s.components in
      let c : List ℕ = styles_bytes s.styles in
      let r = held-right t i a (b ++ c) h in
      let e : i + length a + length b + length c ≡ i + length (a ++ (b ++ c)) = omega (arith, length-append a (b ++ c), length-append b c) in
      selector-made (style_at t) t least i _ _ _ _ s.components s.styles
      (head-back s.origin s.pseudo (length s.components) least i l f.author f.component-count (held-left t i a (b ++ c) h))
      (counted_back t component_bytes (component_at t) ComponentFits (component-back t) s.components (i + length a) f.components (held-left t (i + length a) b c r))
      (styles-back s.styles (i + length a + length b) f.style-count f.styles (held-right t (i + length a) b c r))
      ∙ rw (pseudo-back s.pseudo) (ends_at s _ _ e)

  -- selectors are read back whose origins do not fall
  selectors-back : (ss : List (CompiledSelector StyleDecl)) (least i : ℕ) → All SelectorFits ss → NotFalling least ss → Held t i (texts_many selector_bytes ss)
      → selectors_at (style_at t) t (length ss) least i ≡ read (i + length (texts_many selector_bytes ss)) ss
  unfolding selectors_at texts_many
  selectors-back [] least i f o h = ends_at [] i (i + 0) (sym (add-zero i))
  selectors-back (s ∷ ss) least i f o h =
      let a : List ℕ = selector_bytes s in
      let b : List ℕ = texts_many selector_bytes ss in
      let e : i + length a + length b ≡ i + length (a ++ b) = omega (arith, length-append a b) in
      then-read (selector_at (style_at t) t least i) _ _ s (selector-back s least i f.0 o.0 (held-left t i a b h))
      ∙ mapped-read _ _ _ ss (selectors-back ss s.origin (i + length a) f.1 o.1 (held-right t i a b h))
      ∙ ends_at (s ∷ ss) _ _ e

-- all bytes of a sheet lie at its start
pub whole : (xs : List ℕ) → Held xs 0 xs
whole xs = record { more = []; held = sym (append-nil xs) }

-- the bytes of a sheet that fits decode to the sheet, all of them
pub round_trip : (ss : List (CompiledSelector StyleDecl)) → SheetFits ss → decode (encode ss) ≡ read (length (encode ss)) ss
unfolding decode encode
round_trip ss f =
    let a : List ℕ = number_bytes (length ss) in
    let b : List ℕ = texts_many selector_bytes ss in
    let t : List ℕ = a ++ b in
    let e : 0 + length a + length b ≡ length t = omega (arith, length-append a b) in
    sheet-made (style_at t) t (0 + length a) (length ss) (0 + length a + length b) ss (number-back t 0 (length ss) f.count (held-left t 0 a b (whole t)))
    (selectors-back t ss agent_origin (0 + length a) f.selectors f.origins (held-right t 0 a b (whole t))) e
    ∙ ends_at ss _ _ e
