-- A node that is told right of a selector says whether it matches, and tells its children right.
use Prim.Native.Nat.{ℕ, zero, suc, ◌+◌, ◌≤◌, ◌<◌}
use mathlib.Core.Path.{◌≡◌, refl, ap, sym, ◌∙◌}
use mathlib.Core.Bool.{Bool, true, false}
use mathlib.Core.List.{List, [], ◌∷◌, ◌++◌, append-nil}
use mathlib.Core.Logic.{◌⊎◌, inl, inr}
use native.Mathlib.Omega.{arith}
use lib.ListN.{length, get_or, drop, replicate}
use Rattle.combinators.proofs.Rules.{pick_true, pick-false, is-yes, is-no, lt-or-ge}
use Rattle.syntax.specs.Layout.{flag}
use Rattle.syntax.specs.Style.{agent_origin}
use Rattle.syntax.proofs.Back.{flag-back}
use Rattle.page.specs.Path.{Element, Path}
use Rattle.matching.specs.Matches.{on_parent}
use Rattle.compiled.specs.Decoded.{read, on_decoded}
use Rattle.compiled.specs.Sheet.{head_at}
use Rattle.compiled.specs.declared.sheets.Head.{Head}
use Rattle.segments.specs.Segments.{Piece, test, direct, anywhere, steps, segment, alone, fresh, State, awaiting}
use Rattle.segments.specs.Sweep.{pair_at}
use Rattle.segments.specs.Before.{Segment, beginning, segment_before, fresh_bytes}
use Rattle.segments.specs.Placed.{Placed, pieces_of}
use Rattle.segments.specs.Visits.{to_awaited, to_flags, Visited, awaits, ended_by, ended_at, decided, visit_at}
use Rattle.segments.proofs.SegmentLaws.{asks, allowed, Arrived, asks-last, asks-other, stays, goes_on, arrived-once, child-of}
use Rattle.segments.proofs.SweepLaws.{Lies, Holds, pair_values, told, sweep-told}
use Rattle.segments.proofs.BeforeLaws.{segment_place, behind_all, place-all, length-segment, segment-lies, place-past, reading, next-segment}

-- ---- a segment of which nothing has begun

-- one zero more before or behind
zeros-more : (n : ℕ) (l : List ℕ) → replicate n 0 ++ 0 ∷ l ≡ replicate (suc n) 0 ++ l
zeros-more zero l = refl
zeros-more (suc n) l = ap (λ (r : List ℕ). 0 ∷ r) (zeros-more n l)

-- its flags are right where those of the machine are
fresh-told : (ws : List Piece) (q : Path) (others : List Bool) (s : Segment) → fresh ws ≡ allowed ws q ++ others
    → fresh_bytes (reading s ws) ≡ replicate s.steps 0 ++ told s.tests ws q
unfolding fresh allowed fresh_bytes reading told
fresh-told [] q others s e = refl
fresh-told (test c ∷ ws) q others s e = fresh-told ws q others _ e
fresh-told (direct ∷ ws) q others s e =
    let b : on_parent (asks ws) q ≡ false = sym (ap (λ (l : List Bool). get_or l 0 false) e) in
    fresh-told ws q others _ (ap (drop 1) e) ∙ sym (zeros-more s.steps (told 0 ws q)) ∙ rw b (unfold flag in refl)
fresh-told (anywhere ∷ ws) q others s e = refl

-- it begins where it did
reading-start : (ws : List Piece) (s : Segment) → (reading s ws).start ≡ s.start
unfolding reading
reading-start [] s = refl
reading-start (test c ∷ ws) s = reading-start ws _
reading-start (direct ∷ ws) s = reading-start ws _
reading-start (anywhere ∷ ws) s = refl

-- ---- a selector

-- it lies in the bytes from a place on, and has a style: its head takes three bytes, the styles with their count three, a component one
pub record Lying (code : List ℕ) (from : ℕ) (s : Placed) : Type 0 where
  pub after : from ≤ s.place
  pub head : Head
  pub head_read : head_at code agent_origin s.place ≡ read s.first head
  pub count : head.count ≡ length (pieces_of s)
  pub lies : Lies code s.first (pieces_of s)
  pub inside : behind_all code (pieces_of s) s.first < s.end
  pub room : s.place + 6 + length (pieces_of s) ≤ s.end
  pub ends : s.end ≤ length code

-- what is told of it at a node: how many of its segments are done, the place of the next, and the flags
pub record Tells (code : List ℕ) (s : Placed) (p : Path) (awaited : ℕ) (flags : List ℕ) : Type 0 where
  pub done : ℕ
  pub arrived : Arrived (pieces_of s) (record { done = done; may = allowed (segment done (pieces_of s)) p }) p
  pub place : awaited ≡ segment_place code done (pieces_of s) s.first
  pub right : flags ≡ told 0 (segment done (pieces_of s)) p

-- of a state that stays as the machine has it
same-told : (ws : List Piece) (s : State) (p : Path) → Arrived ws s p → Arrived ws (record { done = s.done; may = allowed (segment s.done ws) p }) p
unfolding awaiting
same-told ws s p a = record { bound = a.bound; begun = a.begun; undone = a.undone; others = []; told = sym (append-nil _) }

-- a segment of which nothing has begun tells right where the machine awaits it
pub awaits-tells : (code : List ℕ) (s : Placed) (q : Path) (k : ℕ) → Arrived (pieces_of s) (awaiting k (pieces_of s)) q
    → let v = awaits (reading (beginning (segment_place code k (pieces_of s) s.first)) (segment k (pieces_of s))) in Tells code s q v.awaited v.flags
unfolding awaits awaiting beginning
awaits-tells code s q k a =
    record {
      done = k;
      arrived = same-told (pieces_of s) _ q a;
      place = reading-start (segment k (pieces_of s)) _;
      right = fresh-told (segment k (pieces_of s)) q a.others _ a.told;
    }

-- ---- what is decided by what was swept
module _ (code : List ℕ) (p awaited : ℕ) (flags : List ℕ) where
  -- the segment does not end here
  decided-no : decided code p awaited (flag false ∷ flags) ≡ record { matched = false; awaited = awaited; flags = flags }
  unfolding decided
  decided-no = sym (pick-false _ _ _ _ (flag-back false) refl)

  module _ (first : ℕ) (head : Head) (e : head_at code agent_origin p ≡ read first head) where
    -- where the segment ends here, it is decided by the head of the selector
    decided-yes : decided code p awaited (flag true ∷ flags) ≡ ended_by code awaited flags first head.count
    unfolding decided ended_at on_decoded
    decided-yes = sym (pick_true _ _ _ _ (flag-back true) (rw e))

    -- and is the last
    decided-last : awaited ≡ first → decided code p awaited (flag true ∷ flags) ≡ record { matched = true; awaited = awaited; flags = flags }
    unfolding ended_by
    decided-last h = decided-yes ∙ sym (pick_true _ _ _ _ (is-yes awaited first h) refl)

    -- where another follows, the segment before it in the bytes is awaited
    decided-next : ¬ (awaited ≡ first) → decided code p awaited (flag true ∷ flags) ≡ awaits (segment_before code awaited head.count (beginning first) first)
    unfolding ended_by
    decided-next h = decided-yes ∙ sym (pick-false _ _ _ _ (is-no awaited first h) refl)

-- ---- a visit

-- what is right of one
pub record Right (code : List ℕ) (s : Placed) (p : Path) (e : Element) (v : Visited) : Type 0 where
  pub matched : v.matched ≡ asks (pieces_of s) p
  pub tells : Tells code s (e ∷ p) v.awaited v.flags

module _ (code : List ℕ) (s : Placed) (p : Path) (e : Element) (from : ℕ) (y : Lying code from s) (k : ℕ)
    (a : Arrived (pieces_of s) (record { done = k; may = allowed (segment k (pieces_of s)) p }) p) where
  -- what is swept of the segment, by whether it ends here
  abbrev swept : Bool → List ℕ
  swept b = flag b ∷ told 0 (segment k (pieces_of s)) (e ∷ p)

  -- the place where the segment begins that is awaited
  abbrev begins : ℕ
  begins = segment_place code k (pieces_of s) s.first

  -- the flags swept, of a segment that is awaited on
  right-stays : (m : Bool) → m ≡ asks (pieces_of s) p → (k < steps (pieces_of s) → asks (segment k (pieces_of s)) p ≡ false)
      → Right code s p e (record { matched = m; awaited = begins; flags = told 0 (segment k (pieces_of s)) (e ∷ p) })
  right-stays m h u = record { matched = h; tells = record { done = k; arrived = stays (pieces_of s) _ p a e u; place = refl; right = refl } }

  -- it does not end here
  right-no : asks (segment k (pieces_of s)) p ≡ false → (k < steps (pieces_of s)) ⊎ (steps (pieces_of s) ≤ k) → Right code s p e (decided code s.place begins (swept false))
  right-no h (inl l) = rw decided-no (right-stays false (sym (asks-other (pieces_of s) _ p a l)) (λ _. h))
  right-no h (inr l) =
      let b = a.bound in
      let d : k ≡ steps (pieces_of s) = omega arith in
      rw decided-no (right-stays false (sym h ∙ asks-last (pieces_of s) _ p a d) (λ _. h))

  -- where the segment holds here, what is decided is right, be it the last or not
  right-yes : asks (segment k (pieces_of s)) p ≡ true → (k < steps (pieces_of s)) ⊎ (steps (pieces_of s) ≤ k) → Right code s p e (decided code s.place begins (swept true))
  right-yes h (inl l) =
      let z = place-past code k (pieces_of s) s.first y.lies l in
      rw (decided-next code s.place begins (told 0 (segment k (pieces_of s)) (e ∷ p)) s.first y.head y.head_read (λ q. omega arith), y.count, next-segment code k (pieces_of s) s.first y.lies l)
      (record {
        matched = unfold awaits in sym (asks-other (pieces_of s) _ p a l);
        tells = awaits-tells code s (e ∷ p) (suc k) (goes_on (pieces_of s) _ p a e l h);
      })
  right-yes h (inr l) =
      let b = a.bound in
      let d : k ≡ steps (pieces_of s) = omega arith in
      rw (decided-last code s.place begins (told 0 (segment k (pieces_of s)) (e ∷ p)) s.first y.head y.head_read (ap (λ (n : ℕ). segment_place code n (pieces_of s) s.first) d ∙ place-all code (pieces_of s) s.first))
      (right-stays true (sym h ∙ asks-last (pieces_of s) _ p a d) (λ m. absurd (omega arith)))

  -- whether or not the segment holds here, what is decided by the sweep is right
  right-swept : (b : Bool) → asks (segment k (pieces_of s)) p ≡ b → Right code s p e (decided code s.place begins (swept b))
  right-swept true h = right-yes h (lt-or-ge k (steps (pieces_of s)))
  right-swept false h = right-no h (lt-or-ge k (steps (pieces_of s)))

-- what a part says of a selector
pub record ToldAt (code part : List ℕ) (s : Placed) (p : Path) : Type 0 where
  pub flags : List ℕ
  pub tells : Tells code s p (pair_at part (s.place + to_awaited)) flags
  pub held : Holds part (s.place + to_flags) flags

-- what is decided where so many segments are done, of a node with the child e
abbrev decided_by : List ℕ → Placed → Path → Element → ℕ → Visited
decided_by code s p e k =
    decided code s.place (segment_place code k (pieces_of s) s.first) (flag (asks (segment k (pieces_of s)) p) ∷ told 0 (segment k (pieces_of s)) (e ∷ p))

module _ (code part : List ℕ) (s : Placed) (p : Path) (e : Element) (from : ℕ) (c : length code ≤ pair_values) (y : Lying code from s) (t : ToldAt code part s p) where
  -- a node that is told right decides so
  visit-by : visit_at code (alone p) part s.place ≡ decided_by code s p e t.tells.done
  unfolding visit_at
  visit-by =
      let k = t.tells.done in
      let a = t.tells.arrived in
      let l = length-segment k (pieces_of s) in
      let r = y.room in
      let m = y.ends in
      rw (
        t.tells.place,
        sweep-told code part p e (length code) (segment k (pieces_of s)) (s.place + to_flags) (segment_place code k (pieces_of s) s.first) (segment-lies code k (pieces_of s) s.first y.lies)
            (omega arith) (omega arith) (omega arith) a.begun (rw t.tells.right at t.held),
      )

  -- it says whether a selector matches, and tells its children right
  pub visit-right : Right code s p e (visit_at code (alone p) part s.place)
  visit-right = rw visit-by (right-swept code s p e from y t.tells.done t.tells.arrived (asks (segment t.tells.done (pieces_of s)) p) refl)

-- two parts that tell right: the same is decided
pub visit-once : (code part other : List ℕ) (s : Placed) (p : Path) (from : ℕ) → length code ≤ pair_values → Lying code from s → ToldAt code part s p → ToldAt code other s p
    → visit_at code (alone p) part s.place ≡ visit_at code (alone p) other s.place
visit-once code part other s p from c y t u =
    visit-by code part s p child-of from c y t
    ∙ ap (decided_by code s p child-of) (arrived-once (pieces_of s) _ _ p t.tells.arrived u.tells.arrived)
    ∙ sym (visit-by code other s p child-of from c y u)
