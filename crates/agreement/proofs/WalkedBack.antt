-- The pass over the bytes of a sheet meets the selectors that the sheet was made of, and the contents of their styles by places where their texts lie.
use Prim.Native.Nat.{ℕ, ◌+◌, ◌≤◌, ◌<◌}
use mathlib.Core.Path.{◌≡◌, refl, sym, subst, ◌∙◌}
use mathlib.Core.List.{List, [], ◌∷◌, ◌++◌, map}
use native.Mathlib.Nat.{add-zero}
use native.Mathlib.Omega.{arith}
use lib.ListN.{length, length-append}
use Rattle.combinators.specs.All.{All}
use Rattle.syntax.specs.Layout.{flag, style_slot_of, style_text_of, style_text, numbers_from}
use Rattle.syntax.specs.RuleLayout.{pseudo_number, pseudo_from}
use Rattle.syntax.specs.Stream.{texts_many}
use Rattle.syntax.specs.Style as style
use Rattle.syntax.specs.Style.{agent_origin, Style, StyleDecl}
use Rattle.syntax.proofs.Streams.{Held, held-left, held-right}
use Rattle.syntax.specs.declared.styles.Value.{Value}
use Rattle.syntax.proofs.RuleRows.{pseudo-back}
use Rattle.cascade.specs.Related.{Each, none, next}
use Rattle.cascade.specs.Record.{Styled}
use Rattle.cascade.proofs.Relating.{SameStyled}
use Rattle.compiled.specs.Decoded.{Decoded, read, on_decoded, mapped, counted}
use Rattle.compiled.specs.Number.{number_limit, number_bytes, number_at}
use Rattle.compiled.specs.Component.{component_bytes, component_at}
use Rattle.compiled.specs.Style.{style_body, style_bytes, style_numbers_at}
use Rattle.compiled.specs.Sheet.{CompiledSelector, head_bytes, styles_bytes, selector_bytes, encode, selector_at, selectors_at, styles_at}
use Rattle.compiled.proofs.Fits.{ComponentFits, StyleFits, SelectorFits, NotFalling, SheetFits}
use Rattle.compiled.proofs.Following.{held-within, then-read, mapped-read, ends_at, counted_back, selector-made, sheet-made}
use Rattle.compiled.proofs.NumberBack.{number-back}
use Rattle.compiled.proofs.ComponentBack.{component-back}
use Rattle.compiled.proofs.StyleBack.{style-some, place, text-there, numbers-back}
use Rattle.compiled.proofs.TextBack.{text-length}
use Rattle.compiled.proofs.RoundTrip.{head-back, whole}
use Rattle.styles.specs.Said.{meant}
use Rattle.styles.specs.StyleCall.{in_numbers}
use Rattle.styles.specs.Says.{Says}
use Rattle.styles.proofs.Lying.{Lies, lies_more}
use Rattle.styles.proofs.Placed.{style-says}
use Rattle.runner.specs.Walked.{walked, meant_selector, walked_style_at}
use Rattle.agreement.proofs.Declaring.{SameSelector}

module _ (t : List ℕ) where
  -- a value that is read to the end of its bytes, and of which P holds in t, whatever follows
  abbrev Reads : {A : Type 0} → Decoded A → ℕ → (List ℕ → A → Type 0) → Type 0
  Reads {A} d n P = (a : A) × (d ≡ read n a) × ((more : List ℕ) → P (t ++ more) a)

  -- the text of a content lies behind its length
  abbrev Behind : ℕ → List ℕ → Style → Type 0
  Behind n x s =
      n + length (style_body s) ≤ length t → Held t (n + length (number_bytes (length (style_text_of s)))) (style_text_of s) → Lies t (n + length (number_bytes (length (style_text_of s)))) x

  -- of a content it is the text itself: it lies behind its length, within the bytes
  content-behind : (n : ℕ) (x : List ℕ) → Behind n x (style.content x)
  unfolding style_body style_text_of
  content-behind n x w h = record { within = omega (arith, w, text-length x); there = h }

  -- so the text of a content lies where the pass says its place is
  content-lies : (d : StyleDecl) (i : ℕ) (h : Held t i (style_bytes d)) (x : List ℕ) → d.value.style ≡ style.content x → Lies t (place t d i h) x
  unfolding style_text style_bytes
  content-lies d i h x e =
      let a : List ℕ = number_bytes (flag d.important) in
      let f : List ℕ = number_bytes d.value.start in
      let b : List ℕ = number_bytes (style_slot_of d.value.style) in
      let c : List ℕ = style_body d.value.style in
      let n = i + length a + length f + length b in
      subst (Behind n x) (sym e) (content-behind n x)
      (omega (arith, held-within t i (a ++ (f ++ (b ++ c))) h (style-some d), length-append a (f ++ (b ++ c)), length-append f (b ++ c), length-append b c)) (text-there t d i h)

  -- where the bytes of a style lie, the pass reads it whole, with the same slot and importance, and its value says the style's
  style-walked : (d : StyleDecl) (i : ℕ) → StyleFits d → Held t i (style_bytes d)
      → Reads (walked_style_at t i) (i + length (style_bytes d)) (λ u x. SameStyled (Says u) x (meant d))
  style-walked d i f h = (
    in_numbers (numbers_from (place t d i h) d),
    mapped-read in_numbers (style_numbers_at t i) _ _ (numbers-back t d i h f),
    λ more. style-says (t ++ more) (place t d i h) d (λ x e. lies_more t more (place t d i h) x (content-lies d i h x e)),
  )

  -- many, one behind the other
  styles-walked : (ds : List StyleDecl) (i : ℕ) → All StyleFits ds → Held t i (texts_many style_bytes ds)
      → Reads (counted (walked_style_at t) (length ds) i) (i + length (texts_many style_bytes ds)) (λ u xs. Each (SameStyled (Says u)) xs (map meant ds))
  unfolding counted texts_many
  styles-walked [] i f h = ([], ends_at [] i (i + 0) (sym (add-zero i)), λ more. none)
  styles-walked (d ∷ ds) i f h =
      let a : List ℕ = style_bytes d in
      let b : List ℕ = texts_many style_bytes ds in
      let one = style-walked d i f.0 (held-left t i a b h) in
      let rest = styles-walked ds (i + length a) f.1 (held-right t i a b h) in
      let e : i + length a + length b ≡ i + length (a ++ b) = omega (arith, length-append a b) in (
        one.0 ∷ rest.0,
        then-read (walked_style_at t i) (λ n x. mapped (λ r. x ∷ r) (counted (walked_style_at t) (length ds) n)) _ one.0 one.1
            ∙ mapped-read (λ r. one.0 ∷ r) _ _ rest.0 rest.1
            ∙ ends_at _ _ _ e,
        λ more. next (one.2 more) (rest.2 more),
      )

  -- the same with their count before them: where the bytes of a list of styles lie, they are read whole and say those styles
  counted-walked : (ds : List StyleDecl) (i : ℕ) → length ds < number_limit → All StyleFits ds → Held t i (styles_bytes ds)
      → Reads (styles_at (walked_style_at t) t i) (i + length (styles_bytes ds)) (λ u xs. Each (SameStyled (Says u)) xs (map meant ds))
  unfolding styles_at styles_bytes
  counted-walked ds i l f h =
      let a : List ℕ = number_bytes (length ds) in
      let b : List ℕ = texts_many style_bytes ds in
      let all = styles-walked ds (i + length a) f (held-right t i a b h) in
      let e : i + length a + length b ≡ i + length (a ++ b) = omega (arith, length-append a b) in (
        all.0,
        then-read (number_at t i) (λ n count. counted (walked_style_at t) count n) _ (length ds) (number-back t i (length ds) l (held-left t i a b h))
            ∙ all.1
            ∙ ends_at _ _ _ e,
        all.2,
      )

  -- a selector, behind one of an origin that is not above its own
  selector-walked : (s : CompiledSelector StyleDecl) (least i : ℕ) → SelectorFits s → least ≤ s.origin → Held t i (selector_bytes s)
      → (w : CompiledSelector (Styled Value)) × (selector_at (walked_style_at t) t least i ≡ read (i + length (selector_bytes s)) w) × (w.origin ≡ s.origin)
      × ((more : List ℕ) → SameSelector (Says (t ++ more)) w (meant_selector s))
  unfolding selector_bytes meant_selector
  selector-walked s least i f l h =
      let a : List ℕ = head_bytes s.origin (pseudo_number s.pseudo) (length s.components) in
      let b : List ℕ = texts_many component_bytes s.components in
      let c : List ℕ = styles_bytes s.styles in
      let r = held-right t i a (b ++ c) h in
      let e : i + length a + length b + length c ≡ i + length (a ++ (b ++ c)) = omega (arith, length-append a (b ++ c), length-append b c) in
      let all = counted-walked s.styles (i + length a + length b) f.style-count f.styles (held-right t (i + length a) b c r) in (
        record { origin = s.origin; pseudo = pseudo_from (pseudo_number s.pseudo); components = s.components; styles = all.0 },
        selector-made (walked_style_at t) t least i _ _ _ _ s.components all.0
            (head-back t s.origin s.pseudo (length s.components) least i l f.author f.component-count (held-left t i a (b ++ c) h))
            (counted_back t component_bytes (component_at t) ComponentFits (component-back t) s.components (i + length a) f.components (held-left t (i + length a) b c r))
            all.1
            ∙ ends_at _ _ _ e,
        refl,
        λ more. record { origins = refl; pseudos = pseudo-back s.pseudo; components-same = refl; styles-same = all.2 more },
      )

  -- selectors whose origins do not fall
  selectors-walked : (ss : List (CompiledSelector StyleDecl)) (least i : ℕ) → All SelectorFits ss → NotFalling least ss → Held t i (texts_many selector_bytes ss)
      → Reads (selectors_at (walked_style_at t) t (length ss) least i) (i + length (texts_many selector_bytes ss)) (λ u ws. Each (SameSelector (Says u)) ws (map meant_selector ss))
  unfolding selectors_at texts_many
  selectors-walked [] least i f o h = ([], ends_at [] i (i + 0) (sym (add-zero i)), λ more. none)
  selectors-walked (s ∷ ss) least i f o h =
      let a : List ℕ = selector_bytes s in
      let b : List ℕ = texts_many selector_bytes ss in
      let one = selector-walked s least i f.0 o.0 (held-left t i a b h) in
      let rest = selectors-walked ss s.origin (i + length a) f.1 o.1 (held-right t i a b h) in
      let e : i + length a + length b ≡ i + length (a ++ b) = omega (arith, length-append a b) in (
        one.0 ∷ rest.0,
        then-read (selector_at (walked_style_at t) t least i) (λ n w. mapped (λ r. w ∷ r) (selectors_at (walked_style_at t) t (length ss) w.origin n)) _ one.0 one.1
            ∙ mapped-read (λ r. one.0 ∷ r) _ _ rest.0 (rw one.2 rest.1)
            ∙ ends_at _ _ _ e,
        λ more. next (one.3 more) (rest.2 more),
      )

-- the selectors that are met in the bytes of a sheet say, in these bytes and whatever follows them, what the sheet's selectors say
pub walked-said : (ss : List (CompiledSelector StyleDecl)) → SheetFits ss → (more : List ℕ) → Each (SameSelector (Says (encode ss ++ more))) (walked (encode ss)) (map meant_selector ss)
unfolding walked encode on_decoded
walked-said ss f more =
    let a : List ℕ = number_bytes (length ss) in
    let b : List ℕ = texts_many selector_bytes ss in
    let t : List ℕ = a ++ b in
    let all = selectors-walked t ss agent_origin (0 + length a) f.selectors f.origins (held-right t 0 a b (whole t)) in
    let e : 0 + length a + length b ≡ length t = omega (arith, length-append a b) in
    rw (sheet-made (walked_style_at t) t (0 + length a) (length ss) (0 + length a + length b) all.0 (number-back t 0 (length ss) f.count (held-left t 0 a b (whole t))) all.1 e) (all.2 more)
