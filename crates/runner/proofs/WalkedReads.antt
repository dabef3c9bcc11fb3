-- Selectors that are read from compiled bytes are walked: each is met with its styles in numbers, which are as many and end at the same place.
use mathlib.Core.Path.{◌≡◌, refl, sym, ap, ◌∙◌}
use mathlib.Core.List.{List, ◌∷◌}
use Prim.Native.Nat.{ℕ, zero, suc, ◌≤◌}
use native.Mathlib.Omega.{arith}
use lib.ListN.{length}
use Rattle.syntax.specs.Layout.{style_in}
use Rattle.syntax.specs.Style.{agent_origin, StyleDecl}
use Rattle.syntax.specs.declared.styles.Value.{Value}
use Rattle.syntax.specs.RuleLayout.{pseudo_from}
use Rattle.cascade.specs.Record.{Styled}
use Rattle.styles.specs.StyleCall.{in_numbers}
use Rattle.compiled.specs.Decoded.{Decoded, read, fault, and_then, mapped, counted}
use Rattle.compiled.specs.Number.{number_at}
use Rattle.compiled.specs.Style.{style_numbers_at, style_at}
use Rattle.compiled.specs.Sheet.{CompiledSelector, styles_at, selector_at, head_at}
use Rattle.compiled.specs.Answer.{place_answer}
use Rattle.std.proofs.Common.{Ok}
use Rattle.compiled.proofs.Answers.{place-mapped, place_read}
use Rattle.compiled.proofs.Following.{then-read, mapped-read, selector-made}
use Rattle.compiled.proofs.Walking.{steps, counted-length, selector-steps}
use Rattle.segments.proofs.SheetLaws.{head-lower}
use Rattle.runner.specs.Walked.{walked_style_at}

-- ---- styles in numbers take the bytes of the styles that they say
module _ {A B : Type 0} (f : A → B) (u : ℕ → Decoded A) where
  -- one value, where the others are known
  one_place : (k : ℕ) → ((n : ℕ) → place_answer (counted (λ m. mapped f (u m)) k n) ≡ place_answer (counted u k n)) → (d : Decoded A)
      → place_answer (and_then (mapped f d) (λ n b. mapped (λ r. b ∷ r) (counted (λ m. mapped f (u m)) k n))) ≡ place_answer (and_then d (λ n a. mapped (λ r. a ∷ r) (counted u k n)))
  one_place k h (read n a) =
      ap place_answer (then-read (mapped f (read n a)) (λ n b. mapped (λ r. b ∷ r) (counted (λ m. mapped f (u m)) k n)) n (f a) (mapped-read f (read n a) n a refl))
      ∙ place-mapped (λ r. f a ∷ r) (counted (λ m. mapped f (u m)) k n)
      ∙ h n
      ∙ sym (place-mapped (λ r. a ∷ r) (counted u k n))
      ∙ sym (ap place_answer (then-read (read n a) (λ n a. mapped (λ r. a ∷ r) (counted u k n)) n a refl))
  one_place k h (fault p) = unfold and_then mapped place_answer in refl

  -- what is made of each value that is read does not matter to the place behind them
  counted-place : (k i : ℕ) → place_answer (counted (λ m. mapped f (u m)) k i) ≡ place_answer (counted u k i)
  unfolding counted place_answer
  counted-place zero i = refl
  counted-place (suc k) i = one_place k (counted-place k) (u i)

-- behind a number that is read, two readers that end at the same place for every number end at the same place
counted-behind : {A B : Type 0} (d : Decoded ℕ) (f : ℕ → ℕ → Decoded A) (g : ℕ → ℕ → Decoded B) → ((n k : ℕ) → place_answer (f n k) ≡ place_answer (g n k))
    → place_answer (and_then d f) ≡ place_answer (and_then d g)
unfolding and_then place_answer
counted-behind (read n k) f g h = h n k
counted-behind (fault p) f g h = refl

-- styles in numbers and styles end at the same place
pub styles-place : (t : List ℕ) (i : ℕ) → place_answer (styles_at (style_at t) t i) ≡ place_answer (styles_at (walked_style_at t) t i)
unfolding styles_at style_at
styles-place t i =
    counted-behind (number_at t i) _ _
    (λ n k. counted-place (style_in t) (style_numbers_at t) k n ∙ sym (counted-place in_numbers (style_numbers_at t) k n))

-- where styles are read, their numbers are
styles-walked : (t : List ℕ) (i m : ℕ) → place_answer (styles_at (style_at t) t i) ≡ Ok m → (xs : List (Styled Value)) × (styles_at (walked_style_at t) t i ≡ read m xs)
styles-walked t i m e = place_read (styles_at (walked_style_at t) t i) (place_answer (styles_at (style_at t) t i)) (styles-place t i) m e

-- styles in numbers are as many as the styles
styles-as-many : (t : List ℕ) (i m : ℕ) (ds : List StyleDecl) (xs : List (Styled Value)) → styles_at (style_at t) t i ≡ read m ds → styles_at (walked_style_at t) t i ≡ read m xs → length xs ≡ length ds
unfolding styles_at
styles-as-many t i m ds xs e f =
    let a = steps (number_at t i) (λ n count. counted (style_at t) count n) m ds e in
    let b = steps (number_at t i) (λ n count. counted (walked_style_at t) count n) m xs f in
    let same : read b.place b.value ≡ read a.place a.value = sym b.first ∙ a.first in
    let count : b.value ≡ a.value = cc in
    counted-length (walked_style_at t) b.value b.place m xs b.rest ∙ count ∙ sym (counted-length (style_at t) a.value a.place m ds a.rest)

-- ---- a selector

-- one that is walked, with the components, the origin and as many styles as the one that is read; it is walked as well where less is asked of its origin
pub record SelectorWalked (t : List ℕ) (least i m : ℕ) (s : CompiledSelector StyleDecl) : Type 0 where
  pub met : CompiledSelector (Styled Value)
  pub told : selector_at (walked_style_at t) t least i ≡ read m met
  pub told-alone : selector_at (walked_style_at t) t agent_origin i ≡ read m met
  pub origin : met.origin ≡ s.origin
  pub origin-high : agent_origin ≤ s.origin
  pub components : met.components ≡ s.components
  pub as_many : length met.styles ≡ length s.styles

-- a selector that is read is walked
pub selector-walked : (t : List ℕ) (least i m : ℕ) (s : CompiledSelector StyleDecl) → agent_origin ≤ least → selector_at (style_at t) t least i ≡ read m s → SelectorWalked t least i m s
unfolding place_answer
selector-walked t least i m s l e =
    let w = selector-steps t least i m s e in
    let d = styles-walked t w.behind-components m (ap place_answer w.styles-read) in
    let h = head-lower t least i w.behind-head w.head l w.head_read in
    let o = w.origin in
    let a = h.1 in
    let met : CompiledSelector (Styled Value) = record { origin = w.head.origin; pseudo = pseudo_from w.head.pseudo; components = s.components; styles = d.0 } in
    let made = λ (o : ℕ). λ (e : head_at t o i ≡ read w.behind-head w.head).
    selector-made (walked_style_at t) t o i w.behind-head w.behind-components m w.head s.components d.0 e w.components-read d.1 in
    record {
      met = met;
      told = made least w.head_read;
      told-alone = made agent_origin h.0;
      origin = sym o;
      origin-high = omega arith;
      components = refl;
      as_many = styles-as-many t w.behind-components m s.styles d.0 w.styles-read d.1;
    }
