-- The document is told right, whatever stood in the part, and whatever the bytes are.
use Prim.Native.Nat.{ℕ, zero, suc, ◌+◌, ◌≤◌, ◌<◌}
use mathlib.Core.Path.{◌≡◌, refl, ap, sym, ◌∙◌}
use mathlib.Core.Bool.{Bool, true, false}
use mathlib.Core.List.{List, [], ◌∷◌}
use native.Mathlib.Omega.{arith}
use lib.ListN.{length, get_or}
use Rattle.combinators.proofs.Rules.{pick_true, pick-false}
use Rattle.combinators.proofs.Wiped.{sets-low}
use Rattle.syntax.specs.Style.{agent_origin, StyleDecl}
use Rattle.compiled.specs.Decoded.{Decoded, read, fault, on_decoded}
use Rattle.compiled.specs.Sheet.{CompiledSelector, selector_at}
use Rattle.compiled.specs.Style.{style_at}
use Rattle.compiled.proofs.Bounds.{reaches_end, selector-reaches}
use Rattle.segments.specs.Before.{no_place}
use Rattle.segments.specs.Placed.{Placed, pieces_of, has_style, placed_at, placed_from}
use Rattle.segments.specs.Visits.{to_next, Visited, block_bytes}
use Rattle.segments.specs.Pass.{block_set}
use Rattle.segments.specs.Document.{styled_from, leftmost_at, fresh_from}
use Rattle.segments.proofs.SegmentLaws.{at_top}
use Rattle.segments.proofs.SweepLaws.{pair_values}
use Rattle.segments.proofs.BeforeLaws.{leftmost-segment}
use Rattle.segments.proofs.VisitLaws.{Lying, Tells, awaits-tells}
use Rattle.segments.proofs.PassLaws.{Laid, ToldAll, first-low, length-block, block-next, block-told}
use Rattle.segments.proofs.PlacedLaws.{selector-lies, laid_from}

-- ---- the walk over the selectors
module _ (code : List ℕ) (k i : ℕ) where
  -- it ends at a fault
  module _ (q : ℕ) (e : selector_at (style_at code) code agent_origin i ≡ fault q) where
    -- no selector is placed
    pub placed-fault : placed_from code (suc k) i ≡ []
    unfolding placed_from on_decoded
    placed-fault = rw e

    -- so no selector with a style is next
    styled-fault : styled_from code (suc k) i ≡ no_place
    unfolding styled_from on_decoded
    styled-fault = rw e

    -- and the part is told of none: it stays as it was
    fresh-fault : (part : List ℕ) → fresh_from code (suc k) i part ≡ part
    unfolding fresh_from on_decoded
    fresh-fault part = rw e

  module _ (n : ℕ) (s : CompiledSelector StyleDecl) (e : selector_at (style_at code) code agent_origin i ≡ read n s) where
    -- a selector takes a byte
    selector-ends : i < n
    selector-ends = let a = (reaches_end (length code) i 4 n s (selector_at (style_at code) code agent_origin i) (selector-reaches code agent_origin i) e).0 in omega arith

    -- one that has a style
    module _ (h : has_style s.styles ≡ true) where
      -- it is placed before the others
      pub placed-styled : placed_from code (suc k) i ≡ placed_at code i n s ∷ placed_from code k n
      unfolding placed_from on_decoded
      placed-styled = rw e (sym (pick_true _ _ _ _ h refl))

      -- it is the next
      styled-styled : styled_from code (suc k) i ≡ i
      unfolding styled_from on_decoded
      styled-styled = rw e (sym (pick_true _ _ _ _ h refl))

      -- its block is written
      fresh-styled : (part : List ℕ) → fresh_from code (suc k) i part ≡ fresh_from code k n (block_set (leftmost_at code i) (styled_from code k n) i part)
      unfolding fresh_from on_decoded
      fresh-styled part = rw e (ap (fresh_from code k n) (sym (pick_true _ _ _ _ h refl)))

    -- one that has none
    module _ (h : has_style s.styles ≡ false) where
      -- only the others are placed
      pub placed-bare : placed_from code (suc k) i ≡ placed_from code k n
      unfolding placed_from on_decoded
      placed-bare = rw e (sym (pick-false _ _ _ _ h refl))

      -- the next is among them
      styled-bare : styled_from code (suc k) i ≡ styled_from code k n
      unfolding styled_from on_decoded
      styled-bare = rw e (sym (pick-false _ _ _ _ h refl))

      -- no block is written
      fresh-bare : (part : List ℕ) → fresh_from code (suc k) i part ≡ fresh_from code k n part
      unfolding fresh_from on_decoded
      fresh-bare part = rw e (ap (fresh_from code k n) (sym (pick-false _ _ _ _ h refl)))

  -- what holds at a fault, at a selector with a style and at one without holds at every place
  by-selector : (P : Type 0) → ((q : ℕ) → selector_at (style_at code) code agent_origin i ≡ fault q → P)
      → ((n : ℕ) (s : CompiledSelector StyleDecl) → selector_at (style_at code) code agent_origin i ≡ read n s → has_style s.styles ≡ true → P)
      → ((n : ℕ) (s : CompiledSelector StyleDecl) → selector_at (style_at code) code agent_origin i ≡ read n s → has_style s.styles ≡ false → P) → P
  by-selector P f g h = at (selector_at (style_at code) code agent_origin i) refl
    where
      styles : (n : ℕ) (s : CompiledSelector StyleDecl) (b : Bool) → selector_at (style_at code) code agent_origin i ≡ read n s → has_style s.styles ≡ b → P
      styles n s true e c = g n s e c
      styles n s false e c = h n s e c

      at : (d : Decoded (CompiledSelector StyleDecl)) → selector_at (style_at code) code agent_origin i ≡ d → P
      at (read n s) e = styles n s (has_style s.styles) e refl
      at (fault q) e = f q e

-- those that have a style lie one behind the other
pub placed-laid : (code : List ℕ) (k i : ℕ) → Laid code i (placed_from code k i)
unfolding placed_at
placed-laid code zero i = unfold placed_from in tt
placed-laid code (suc k) i =
    by-selector code k i (Laid code i (placed_from code (suc k) i)) (λ q e. rw (placed-fault code k i q e) tt)
    (λ n s e h. rw (placed-styled code k i n s e h) (selector-lies code i n s e h, placed-laid code k n))
    (λ n s e h. rw (placed-bare code k i n s e h) (let a = selector-ends code k i n s e in laid_from code i n (placed_from code k n) (omega arith) (placed-laid code k n)))

-- there are no more than were asked for
pub placed-few : (code : List ℕ) (k i : ℕ) → length (placed_from code k i) ≤ k
placed-few code zero i = unfold placed_from in omega arith
placed-few code (suc k) i =
    by-selector code k i (length (placed_from code (suc k) i) ≤ suc k) (λ q e. rw (placed-fault code k i q e) (let z : 0 ≤ suc k = omega arith in z))
    (λ n s e h. rw (placed-styled code k i n s e h) (let a = placed-few code k n in let z : suc (length (placed_from code k n)) ≤ suc k = omega arith in z))
    (λ n s e h. rw (placed-bare code k i n s e h) (let a = placed-few code k n in let z : length (placed_from code k n) ≤ suc k = omega arith in z))

-- ---- what the document is told

-- the leftmost segment of a selector
leftmost-tells : (code : List ℕ) (from : ℕ) (s : Placed) → Lying code from s → let v = leftmost_at code s.place in Tells code s [] v.awaited v.flags
unfolding leftmost_at on_decoded
leftmost-tells code from s y =
    rw (y.head_read, y.count, leftmost-segment code (pieces_of s) s.first y.lies) (awaits-tells code s [] 0 (at_top (pieces_of s)))

-- what the walk comes to
record Fresh (code : List ℕ) (k i : ℕ) (part left : List ℕ) : Type 0 where
  pub told : ToldAll code left (styled_from code k i) (placed_from code k i) []
  pub before : (m : ℕ) → m < i + to_next → get_or left m 0 ≡ get_or part m 0
  pub long : length left ≡ length part

module _ (code : List ℕ) (c : length code ≤ pair_values) (k i : ℕ) (part : List ℕ) where
  -- where the walk ends
  fresh-at-fault : (q : ℕ) → selector_at (style_at code) code agent_origin i ≡ fault q → Fresh code (suc k) i part (fresh_from code (suc k) i part)
  fresh-at-fault q e =
      rw (fresh-fault code k i q e part) (record { told = rw (placed-fault code k i q e) (styled-fault code k i q e); before = λ m h. refl; long = refl })

  module _ (n : ℕ) (s : CompiledSelector StyleDecl) (e : selector_at (style_at code) code agent_origin i ≡ read n s) where
    -- a selector without styles is passed over: the document is told of those behind it
    fresh-at-bare : has_style s.styles ≡ false → Fresh code k n part (fresh_from code k n part) → Fresh code (suc k) i part (fresh_from code (suc k) i part)
    fresh-at-bare h r =
        let a = selector-ends code k i n s e in
        rw (fresh-bare code k i n s e h part)
        (record {
          told = rw (placed-bare code k i n s e h, styled-bare code k i n s e h) r.told;
          before = λ m l. r.before m (omega arith);
          long = r.long;
        })

    -- at one that has a style
    fresh-at-styled : has_style s.styles ≡ true → length code < length part
        → (let own = block_set (leftmost_at code i) (styled_from code k n) i part in Fresh code k n own (fresh_from code k n own))
        → Fresh code (suc k) i part (fresh_from code (suc k) i part)
    unfolding placed_at
    fresh-at-styled h l r =
        let a = selector-ends code k i n s e in
        let y = selector-lies code i n s e h in
        let v : Visited = leftmost_at code i in
        let next = styled_from code k n in
        let left = fresh_from code k n (block_set v next i part) in
        let t = leftmost-tells code i (placed_at code i n s) y in
        let low = first-low code left n next (placed_from code k n) [] c (placed-laid code k n) r.told in
        let g = block-told code c (placed_at code i n s) [] i y v t next low part left l r.before in
        let b = block-next code c (placed_at code i n s) [] i y v t next low part left l r.before in
        rw (fresh-styled code k i n s e h part)
        (record {
          told = rw (placed-styled code k i n s e h, styled-styled code k i n s e h) (refl, g, rw b r.told);
          before = λ m z. r.before m (omega arith) ∙ unfold block_set in sets-low (block_bytes next v.awaited v.flags) part (i + to_next) m 0 z;
          long = r.long ∙ length-block v next i part;
        })

-- it tells right of every selector that has a style
fresh-right : (code : List ℕ) → length code ≤ pair_values → (k i : ℕ) (part : List ℕ) → length code < length part → Fresh code k i part (fresh_from code k i part)
fresh-right code c zero i part l = unfold fresh_from in record { told = unfold placed_from styled_from in refl; before = λ m h. refl; long = refl }
fresh-right code c (suc k) i part l =
    by-selector code k i (Fresh code (suc k) i part (fresh_from code (suc k) i part)) (λ q e. fresh-at-fault code c k i part q e)
    (λ n s e h. fresh-at-styled code c k i part n s e h l
    (fresh-right code c k n (block_set (leftmost_at code i) (styled_from code k n) i part) (let z = length-block (leftmost_at code i) (styled_from code k n) i part in omega arith)))
    (λ n s e h. fresh-at-bare code c k i part n s e h (fresh-right code c k n part l))

-- so the document is told right
pub document-told : (code : List ℕ) → length code ≤ pair_values → (k i : ℕ) (part : List ℕ) → length code < length part
    → ToldAll code (fresh_from code k i part) (styled_from code k i) (placed_from code k i) []
document-told code c k i part l = (fresh-right code c k i part l).told
