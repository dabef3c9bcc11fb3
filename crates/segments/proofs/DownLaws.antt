-- From part to part down a path, every node finds the selectors that match, whatever the parts held.
use Prim.Native.Nat.{ℕ, ◌+◌, ◌≤◌, ◌<◌}
use mathlib.Core.Path.{◌≡◌, refl, ap, sym, subst}
use mathlib.Core.List.{List, [], ◌∷◌}
use native.Mathlib.Omega.{arith}
use lib.ListN.{length, get_or}
use Rattle.page.specs.Path.{Element, Path}
use Rattle.compiled.specs.Decoded.{Decoded, read, fault, on_decoded}
use Rattle.compiled.specs.Number.{number_at}
use Rattle.compiled.proofs.Bounds.{reaches_end, number-reaches}
use Rattle.segments.specs.Segments.{alone, segment}
use Rattle.segments.specs.Sweep.{pair_at}
use Rattle.segments.specs.Placed.{Placed, pieces_of, placed_from, matching_places}
use Rattle.segments.specs.Visits.{to_next, to_awaited, to_flags}
use Rattle.segments.specs.Pass.{Passed}
use Rattle.segments.specs.Document.{styled_from}
use Rattle.segments.specs.Down.{placed_in, styled_in, pass_at, fresh_in, passed_down}
use Rattle.segments.proofs.SegmentLaws.{child-of}
use Rattle.segments.proofs.SweepLaws.{pair_values}
use Rattle.segments.proofs.BeforeLaws.{length-segment}
use Rattle.segments.proofs.PartLaws.{held-between, length-flags}
use Rattle.segments.proofs.VisitLaws.{Lying, Tells, ToldAt}
use Rattle.segments.proofs.PassLaws.{Laid, ToldAll, pass-right}
use Rattle.segments.proofs.DocumentLaws.{placed-laid, placed-few, document-told}

-- ---- a part of which only what stands before the blocks or behind them changes

-- where the blocks begin, behind the count of children
abbrev pub blocks_begin : ℕ
blocks_begin = 2

-- two parts with the same blocks
abbrev pub SameBlocks : List ℕ → List ℕ → List ℕ → Type 0
SameBlocks code part other = (m : ℕ) → blocks_begin ≤ m → m < length code + 1 → get_or other m 0 ≡ get_or part m 0

module _ (code part other : List ℕ) (f : SameBlocks code part other) (q : Path) where
  -- the same number is read
  pair-kept : (j : ℕ) → blocks_begin ≤ j → j + 1 < length code + 1 → pair_at other j ≡ pair_at part j
  unfolding pair_at
  pair-kept j l h = rw (f j l (omega arith), f (j + 1) (omega arith) h)

  -- what tells right of one selector still does
  told-at-kept : (from : ℕ) (s : Placed) → 0 < from → Lying code from s → ToldAt code part s q → ToldAt code other s q
  told-at-kept from s p y t =
      let a = y.after in
      let b = y.room in
      let d = y.ends in
      let g = ap length t.tells.right in
      let h = length-flags (segment t.tells.done (pieces_of s)) q in
      let i = length-segment t.tells.done (pieces_of s) in
      record {
        flags = t.flags;
        tells = subst (λ (m : ℕ). Tells code s q m t.flags) (sym (pair-kept (s.place + to_awaited) (omega arith) (omega arith))) t.tells;
        held = held-between t.flags part other (s.place + to_flags) blocks_begin (length code + 1) (omega arith) (omega arith) f t.held;
      }

  -- what tells right of all selectors still does
  told-all-kept : (ss : List Placed) (from p : ℕ) → 0 < from → Laid code from ss → ToldAll code part p ss q → ToldAll code other p ss q
  told-all-kept [] from p h y t = t
  told-all-kept (s ∷ others) from p h y t =
      let a = y.0.after in
      let b = y.0.room in
      let d = y.0.ends in (
        t.0,
        told-at-kept from s h y.0 t.1,
        rw (pair-kept (s.place + to_next) (omega arith) (omega arith)) (told-all-kept others s.end _ (omega arith) y.1 t.2),
      )

-- ---- the selectors of a whole sheet, at a node and down a path
module _ (code : List ℕ) where
  -- a part tells right of all selectors of a sheet
  unfoldable pub ToldIn : List ℕ → Path → Type 0
  ToldIn part path = ToldAll code part (styled_in code) (placed_in code) path

  -- what a node comes to: the selectors that match, what its children are told, and the count of its children, which stands before all blocks
  pub record PassedAt (path : Path) (e : Element) (own : List ℕ) (r : Passed) : Type 0 where
    pub matched : r.matched ≡ matching_places path (placed_in code)
    pub told : ToldIn r.part (e ∷ path)
    pub before : (m : ℕ) → m < blocks_begin → get_or r.part m 0 ≡ get_or own m 0
    pub long : length r.part ≡ length own

  -- which stays so where the blocks do
  pub told-kept : (part other : List ℕ) (path : Path) → SameBlocks code part other → ToldIn part path → ToldIn other path
  unfolding ToldIn placed_in styled_in on_decoded
  told-kept part other path f = go (number_at code 0) refl
    where
      go : (d : Decoded ℕ) → number_at code 0 ≡ d → ToldIn part path → ToldIn other path
      go (fault q) n t = rw n refl
      go (read i k) n t =
          let z = (reaches_end (length code) 0 1 i k (number_at code 0) (number-reaches code 0) n).0 in
          rw n (told-all-kept code part other f path (placed_from code k i) i (styled_from code k i) (omega arith) (placed-laid code k i) (rw n at t))

  module _ (c : length code ≤ pair_values) where
    -- a node that is told right
    pub pass-at : (path : Path) (e : Element) (above own : List ℕ) → length code < length own → ToldIn above path → PassedAt path e own (pass_at code (alone path) above own)
    unfolding ToldIn pass_at placed_in styled_in on_decoded
    pass-at path e above own l = go (number_at code 0) refl
      where
        go : (d : Decoded ℕ) → number_at code 0 ≡ d → ToldIn above path → PassedAt path e own (pass_at code (alone path) above own)
        go (fault q) n t = rw n (record { matched = rw n (unfold matching_places in refl); told = rw n refl; before = λ m h. refl; long = refl })
        go (read i k) n t =
            let z = (reaches_end (length code) 0 1 i k (number_at code 0) (number-reaches code 0) n).0 in
            let r = pass-right code above path e c (placed_from code k i) k i (styled_from code k i) own (placed-few code k i) (omega arith) (placed-laid code k i) (rw n at t) l in
            rw n (record { matched = rw n r.matched; told = rw n r.told; before = λ m h. r.before m (omega arith); long = r.long })

    -- what is told to the document is right
    pub fresh_in_lem : (part : List ℕ) → length code < length part → ToldIn (fresh_in code part) []
    unfolding ToldIn fresh_in placed_in styled_in on_decoded
    fresh_in_lem part l = go (number_at code 0) refl
      where
        go : (d : Decoded ℕ) → number_at code 0 ≡ d → ToldIn (fresh_in code part) []
        go (fault q) n = rw n refl
        go (read i k) n = rw n (document-told code c k i part l)

    -- down a path, whatever the parts of its nodes and the spare one hold
    module _ (own : Path → List ℕ) (spare : List ℕ) (l : (q : Path) → length code < length (own q)) (m : length code < length spare) where
      -- every node is told right by the one above it
      pub passed-down : (path : Path) (e : Element) → PassedAt path e (own path) (passed_down code own spare path)
      unfolding passed_down
      passed-down [] e = pass-at [] e (fresh_in code spare) (own []) (l []) (fresh_in_lem spare m)
      passed-down (d ∷ up) e = pass-at (d ∷ up) e (passed_down code own spare up).part (own (d ∷ up)) (l (d ∷ up)) (passed-down up d).told

      -- every node finds the selectors that match there
      pub matched-down : (path : Path) → (passed_down code own spare path).matched ≡ matching_places path (placed_in code)
      matched-down path = (passed-down path child-of).matched
