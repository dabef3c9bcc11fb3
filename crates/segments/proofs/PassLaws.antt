-- A node that is told right of every selector finds those that match, and tells its children right of every selector.
use Prim.Native.Nat.{ℕ, zero, suc, ◌+◌, ◌≤◌, ◌<◌}
use mathlib.Core.Path.{◌≡◌, refl, ap, ap₂, sym, ◌∙◌, subst}
use mathlib.Core.Bool.{Bool}
use mathlib.Core.List.{List, [], ◌∷◌, ◌++◌}
use native.Mathlib.Omega.{arith}
use lib.ListN.{length, get_or}
use lib.Seq.{length-sets}
use Rattle.combinators.specs.Choice.{pick}
use Rattle.combinators.proofs.Rules.{pick_true, pick-false, is-yes, is-no}
use Rattle.combinators.proofs.Wiped.{sets-low}
use Rattle.page.specs.Path.{Element, Path}
use Rattle.segments.specs.Segments.{segment, alone}
use Rattle.segments.specs.Sweep.{pair_at, pair_bytes}
use Rattle.segments.specs.Before.{no_place}
use Rattle.segments.specs.Placed.{Placed, pieces_of, matching_places}
use Rattle.segments.specs.Visits.{to_next, to_awaited, to_flags, block_bytes, Visited, visit_at}
use Rattle.segments.specs.Pass.{Passed, matched_here, block_set, pass_from}
use Rattle.segments.proofs.SegmentLaws.{asks-right}
use Rattle.segments.proofs.SweepLaws.{Holds, pair_values, pair-back}
use Rattle.segments.proofs.BeforeLaws.{segment_place, length-segment, place-to}
use Rattle.segments.proofs.VisitLaws.{Lying, Tells, Right, ToldAt, visit-right}
use Rattle.segments.proofs.PartLaws.{sets-held, held_same, held-pair, length-flags}

-- ---- a block

-- it leaves the length of the part
pub length-block : (v : Visited) (next p : ℕ) (own : List ℕ) → length (block_set v next p own) ≡ length own
unfolding block_set
length-block v next p own = length-sets own (p + to_next) (block_bytes next v.awaited v.flags)

module _ (code : List ℕ) (c : length code ≤ pair_values) (s : Placed) (q : Path) (from : ℕ) (y : Lying code from s) (v : Visited) (t : Tells code s q v.awaited v.flags) where
  -- it ends before the block of a selector that lies behind
  block-fits : (next : ℕ) → s.place + to_next + length (block_bytes next v.awaited v.flags) ≤ s.end + to_next
  unfolding block_bytes pair_bytes
  block-fits next =
      let a = ap length t.right in
      let b = length-flags (segment t.done (pieces_of s)) q in
      let d = length-segment t.done (pieces_of s) in
      let r = y.room in
      omega arith

  -- two bytes hold the place that is awaited
  awaited-low : v.awaited < pair_values
  awaited-low =
      let a = place-to code t.done (pieces_of s) s.first y.lies in
      let b = y.inside in
      let d = y.ends in
      rw t.place (let z : segment_place code t.done (pieces_of s) s.first < pair_values = omega arith in z)

  module _ (next : ℕ) (n : next < pair_values) (own part : List ℕ) (l : length code < length own) (f : (m : ℕ) → m < s.end + to_next → get_or part m 0 ≡ get_or (block_set v next s.place own) m 0) where
    -- the bytes of the block stand there
    block_held : Holds part (s.place + to_next) (block_bytes next v.awaited v.flags)
    unfolding block_set
    block_held =
        let b = block-fits next in
        let d = y.ends in
        held_same (block_bytes next v.awaited v.flags) _ part (s.place + to_next) (s.end + to_next) b f
        (sets-held (block_bytes next v.awaited v.flags) own (s.place + to_next) (omega arith))

    -- the place of the next selector is read back
    pub block-next : pair_at part (s.place + to_next) ≡ next
    unfolding block_bytes
    block-next = pair-back part (s.place + to_next) next n (held-pair next _ part (s.place + to_next) block_held).0

    -- and so is what is told of this one
    pub block-told : ToldAt code part s q
    unfolding block_bytes
    block-told =
        let i : s.place + to_next + 2 ≡ s.place + to_awaited = omega arith in
        let j : s.place + to_awaited + 2 ≡ s.place + to_flags = omega arith in
        let h : Holds part (s.place + to_awaited) (pair_bytes v.awaited ++ v.flags) = rw i at (held-pair next _ part (s.place + to_next) block_held).1 in
        let r = held-pair v.awaited v.flags part (s.place + to_awaited) h in
        let g : Holds part (s.place + to_flags) v.flags = rw j at r.1 in
        record {
          flags = v.flags;
          tells = subst (λ (m : ℕ). Tells code s q m v.flags) (sym (pair-back part (s.place + to_awaited) v.awaited awaited-low r.0)) t;
          held = g;
        }

-- ---- all selectors

-- in the bytes one behind the other, from a place on
abbrev pub Laid : List ℕ → ℕ → List Placed → Type 0
Laid code from [] = Unit
Laid code from (s ∷ others) = Lying code from s × Laid code s.end others

-- a part says right of each what is awaited and where the next one is; p is the place of the first
abbrev pub ToldAll : List ℕ → List ℕ → ℕ → List Placed → Path → Type 0
ToldAll code part p [] path = p ≡ no_place
ToldAll code part p (s ∷ others) path = (p ≡ s.place) × ToldAt code part s path × ToldAll code part (pair_at part (s.place + to_next)) others path

-- what a pass comes to
pub record Passes (code : List ℕ) (path : Path) (e : Element) (from p : ℕ) (ss : List Placed) (own : List ℕ) (r : Passed) : Type 0 where
  pub matched : r.matched ≡ matching_places path ss
  pub told : ToldAll code r.part p ss (e ∷ path)
  pub before : (m : ℕ) → m < from + to_next → get_or r.part m 0 ≡ get_or own m 0
  pub long : length r.part ≡ length own

-- the place of the first is low
pub first-low : (code part : List ℕ) (from p : ℕ) (ss : List Placed) (path : Path) → length code ≤ pair_values → Laid code from ss → ToldAll code part p ss path → p < pair_values
first-low code part from p [] path c y t = rw t (let z : no_place < pair_values = omega arith in z)
first-low code part from p (s ∷ others) path c y t = rw t.0 (let a = y.0.room in let b = y.0.ends in let z : s.place < pair_values = omega arith in z)

-- ---- a pass

-- no selector is left
pub pass-none : (code above : List ℕ) (row : Path) (k : ℕ) (own : List ℕ) → pass_from code row above k no_place own ≡ record { part = own; matched = [] }
unfolding pass_from
pass-none code above row zero own = refl
pass-none code above row (suc k) own = sym (pick_true _ _ _ _ (is-yes no_place no_place refl) refl)

-- one selector, then the others
pub pass-more : (code above : List ℕ) (row : Path) (k p : ℕ) (own : List ℕ) → 0 < p
    → let next = pair_at above (p + to_next) in
    let others = pass_from code row above k next (block_set (visit_at code row above p) next p own) in
    pass_from code row above (suc k) p own ≡ record { part = others.part; matched = matched_here (visit_at code row above p) p ++ others.matched }
unfolding pass_from
pass-more code above row k p own h = sym (pick-false _ _ _ _ (is-no p no_place (λ e. omega arith)) refl)

module _ (code above : List ℕ) (path : Path) (e : Element) (c : length code ≤ pair_values) where
  -- the first selector of a pass
  pass-one : (k from : ℕ) (s : Placed) (others : List Placed) (own : List ℕ) → 0 < from → Laid code from (s ∷ others) → ToldAt code above s path
      → ToldAll code above (pair_at above (s.place + to_next)) others path → length code < length own
      → let v = visit_at code (alone path) above s.place in
      let next = pair_at above (s.place + to_next) in
      Passes code path e s.end next others (block_set v next s.place own) (pass_from code (alone path) above k next (block_set v next s.place own))
      → Passes code path e from s.place (s ∷ others) own (pass_from code (alone path) above (suc k) s.place own)
  pass-one k from s others own h y t u l ih =
      let v : Visited = visit_at code (alone path) above s.place in
      let next = pair_at above (s.place + to_next) in
      let r : Right code s path e v = visit-right code above s path e from c y.0 t in
      let a = y.0.after in
      let low = first-low code above s.end next others path c y.1 u in
      let part = (pass_from code (alone path) above k next (block_set v next s.place own)).part in
      let g = block-told code c s (e ∷ path) from y.0 v r.tells next low own part l ih.before in
      let b = block-next code c s (e ∷ path) from y.0 v r.tells next low own part l ih.before in
      rw (pass-more code above (alone path) k s.place own (let z : 0 < s.place = omega arith in z))
      (record {
        matched = unfold matched_here matching_places in ap₂ ◌++◌ (ap (λ (x : Bool). pick x (s.place ∷ []) []) (r.matched ∙ asks-right s.components path)) ih.matched;
        told = (refl, g, rw b ih.told);
        before = λ m n. let z = y.0.room in ih.before m (omega arith) ∙ unfold block_set in sets-low (block_bytes next v.awaited v.flags) own (s.place + to_next) m 0 (omega arith);
        long = ih.long ∙ length-block v next s.place own;
      })

  -- it finds the selectors that match, and the own part tells the children right
  pub pass-right : (ss : List Placed) (k from p : ℕ) (own : List ℕ) → length ss ≤ k → 0 < from → Laid code from ss → ToldAll code above p ss path → length code < length own
      → Passes code path e from p ss own (pass_from code (alone path) above k p own)
  pass-right [] k from p own h f y t l =
      rw (t, pass-none code above (alone path) k own)
      (record { matched = unfold matching_places in refl; told = refl; before = λ m n. refl; long = refl })
  pass-right (s ∷ others) zero from p own h f y t l = absurd (omega arith)
  pass-right (s ∷ others) (suc k) from p own h f y t l =
      rw t.0
      (pass-one k from s others own f y t.1 t.2 l
      (pass-right others k s.end _ _ (omega arith) (let a = y.0.room in omega arith) y.1 t.2
      (let z = length-block (visit_at code (alone path) above s.place) (pair_at above (s.place + to_next)) s.place own in omega arith)))
