-- The selectors that have a style lie in the bytes one behind the other, whatever the bytes are.
use Prim.Native.Nat.{ℕ, zero, suc, ◌+◌, ◌≤◌, ◌<◌}
use mathlib.Core.Path.{◌≡◌, refl, ap, sym, ◌∙◌}
use mathlib.Core.Bool.{true}
use mathlib.Core.List.{List, [], ◌∷◌, map}
use native.Mathlib.Omega.{arith}
use lib.ListN.{length}
use Rattle.combinators.proofs.Rules.{never}
use Rattle.syntax.specs.Layout.{colour_slot, last_slot, style_in}
use Rattle.syntax.specs.Selector.{Component}
use Rattle.syntax.specs.Style.{agent_origin, StyleDecl}
use Rattle.compiled.specs.Decoded.{Decoded, read, on_decoded, mapped, counted}
use Rattle.compiled.specs.Number.{number_at, ranged_at}
use Rattle.compiled.specs.Component.{component_at}
use Rattle.compiled.specs.Style.{value_at, style_numbers_at, style_at}
use Rattle.compiled.specs.Sheet.{CompiledSelector, head_at, styles_at, selector_at}
use Rattle.compiled.specs.declared.sheets.Head.{Head}
use Rattle.compiled.proofs.Bounds.{Reaches, reaches_end, reaches-less, reaches_then, reaches-mapped, reaches-counted, number-reaches, ranged-reaches, head-reaches, style-reaches, styles-reach, value-reaches}
use Rattle.compiled.proofs.Walking.{steps, counted-first, counted_none, counted-length, components-long, selector-steps}
use Rattle.segments.specs.Segments.{piece}
use Rattle.segments.specs.Sweep.{piece_at}
use Rattle.segments.specs.Placed.{Placed, has_style, first_at, placed_at}
use Rattle.segments.proofs.SweepLaws.{Lies}
use Rattle.segments.proofs.BeforeLaws.{behind_all, behind_more}
use Rattle.segments.proofs.VisitLaws.{Lying}
use Rattle.segments.proofs.PassLaws.{Laid}

-- ---- a style takes two bytes or more
module _ (t : List ℕ) where
  -- fewer bytes from the same place
  weaker : {A : Type 0} (k m n : ℕ) (d : Decoded A) → m ≤ k → Reaches k (length t) n d → Reaches m (length t) n d
  weaker k m n d l h = reaches-less (length t) d k n m n h (omega arith) (omega arith) (λ g. g)

  -- whether it is important, its start, and its slot
  style-long : (i : ℕ) → Reaches 2 (length t) i (style_at t i)
  unfolding style_at style_numbers_at
  style-long i =
      reaches-mapped (length t) (style_in t) (style_numbers_at t i) 2 i
      (reaches_then (length t) (ranged_at t i 0 1) _ 1 1 i (ranged-reaches t i 0 1)
      (λ n important _. reaches_then (length t) (number_at t n) _ 1 0 n (number-reaches t n)
      (λ k from _. weaker 1 0 k _ (omega arith) (reaches_then (length t) (ranged_at t k colour_slot last_slot) _ 1 0 k (ranged-reaches t k colour_slot last_slot)
      (λ m slot l. reaches-mapped (length t) _ (value_at t from slot m) 0 m (value-reaches t from slot m l))))))

  -- styles, one or more, with their count take three
  styles-long : (i m : ℕ) (ds : List StyleDecl) → styles_at (style_at t) t i ≡ read m ds → has_style ds ≡ true → i + 3 ≤ m
  unfolding styles_at
  styles-long i m ds e h =
      let w = steps (number_at t i) (λ n count. counted (style_at t) count n) m ds e in
      let a = reaches_end (length t) i 1 w.place w.value (number_at t i) (number-reaches t i) w.first in
      let b = some w.value w.place w.rest in
      let c = a.0 in
      omega arith
    where
      some : (k n : ℕ) → counted (style_at t) k n ≡ read m ds → n + 2 ≤ m
      some zero n r = never (unfold has_style in sym (rw (counted_none (style_at t) n m ds r).1) ∙ h)
      some (suc k) n r =
          let v = counted-first (style_at t) k n m ds r in
          let a = reaches_end (length t) n 2 v.place v.value (style_at t n) (style-long n) v.first in
          let b = reaches_end (length t) v.place 0 m v.others (counted (style_at t) k v.place) (reaches-counted (length t) (style_at t) (λ q _. weaker 1 0 q _ (omega arith) (style-reaches t q)) k v.place a.1) v.rest in
          let c = a.0 in
          let d = b.0 in
          omega arith

-- ---- a selector

-- there are as many pieces as components
length-pieces : (cs : List Component) → length (map piece cs) ≡ length cs
length-pieces [] = refl
length-pieces (c ∷ cs) = ap suc (length-pieces cs)

module _ (code : List ℕ) where
  -- components that are read lie there as pieces, up to where the reading ends
  pub components-lie : (k i m : ℕ) (cs : List Component) → counted (component_at code) k i ≡ read m cs → Lies code i (map piece cs) × (behind_all code (map piece cs) i ≡ m)
  components-lie zero i m cs e =
      let w = counted_none (component_at code) i m cs e in
      rw w.1 (tt, unfold behind_all in sym w.0)
  components-lie (suc k) i m cs e =
      let w = counted-first (component_at code) k i m cs e in
      let p : piece_at code i ≡ read w.place (piece w.value) = unfold piece_at mapped in rw w.first in
      let r = components-lie k w.place m w.others w.rest in
      rw w.split ((w.place, p, r.0), behind_more code (piece w.value) (map piece w.others) i w.place p ∙ r.1)

  -- where the components begin
  first-is : (i n : ℕ) (h : Head) → head_at code agent_origin i ≡ read n h → first_at code i ≡ n
  unfolding first_at on_decoded
  first-is i n h e = rw e

  -- a selector that has a style
  pub selector-lies : (i n : ℕ) (s : CompiledSelector StyleDecl) → selector_at (style_at code) code agent_origin i ≡ read n s → has_style s.styles ≡ true → Lying code i (placed_at code i n s)
  unfolding placed_at
  selector-lies i n s e h =
      let w = selector-steps code agent_origin i n s e in
      let f = first-is i w.behind-head w.head w.head_read in
      let l = components-lie w.head.count w.behind-head w.behind-components s.components w.components-read in
      let a = (reaches_end (length code) i 3 w.behind-head w.head (head_at code agent_origin i) (head-reaches code agent_origin i) w.head_read).0 in
      let b = components-long code w.head.count w.behind-head w.behind-components s.components w.components-read in
      let c = styles-long code w.behind-components n s.styles w.styles-read h in
      let d = (reaches_end (length code) w.behind-components 1 n s.styles (styles_at (style_at code) code w.behind-components) (styles-reach code w.behind-components) w.styles-read).1 in
      let z = length-pieces s.components in
      let b2 = l.1 in
      record {
        after = omega arith;
        head = w.head;
        head_read = rw f w.head_read;
        count = sym (counted-length (component_at code) w.head.count w.behind-head w.behind-components s.components w.components-read) ∙ sym z;
        lies = rw f l.0;
        inside = rw f (let y : behind_all code (map piece s.components) w.behind-head < n = omega arith in y);
        room = omega arith;
        ends = d;
      }

  -- ---- all of them
  -- selectors that are laid out from n on are laid out from any earlier place on
  pub laid_from : (i n : ℕ) (ss : List Placed) → i ≤ n → Laid code n ss → Laid code i ss
  laid_from i n [] h y = tt
  laid_from i n (s ∷ others) h y =
      let a = y.0 in
      let b = a.after in (
        record { after = omega arith; head = a.head; head_read = a.head_read; count = a.count; lies = a.lies; inside = a.inside; room = a.room; ends = a.ends },
        y.1,
      )
