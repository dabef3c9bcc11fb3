-- The visit of a selector as code: the block that is stored, by what was swept.
use Prim.Native.Nat.{ℕ, zero, suc, ◌+◌, ◌-◌, ◌≤◌, ◌<◌}
use mathlib.Core.Path.{◌≡◌, refl, sym, ap, subst, ◌∙◌}
use mathlib.Core.Bool.{Bool, true, false}
use mathlib.Core.List.{List, [], ◌∷◌, ◌++◌}
use native.Mathlib.Omega.{arith}
use borrow.Rule.Slice.PartMut.{put_mid}
use lib.ListN.{length, get_or, take, drop, replicate, length-replicate, length-drop}
use lib.Seq.{sets, length-take-le}
use Rattle.combinators.specs.Choice.{pick, is}
use Rattle.syntax.specs.Layout.{flag, flag_of}
use Rattle.syntax.specs.Style.{agent_origin}
use Rattle.combinators.proofs.Rules.{never, is-yes, is-no}
use Rattle.combinators.proofs.Wiped.{sets-append}
use Rattle.cascade.proofs.Windows.{part-sets}
use Rattle.page.specs.Path.{Path}
use Rattle.compiled.specs.Answer.{read_answer}
use Rattle.compiled.specs.Decoded.{Decoded, read, fault, on_decoded}
use Rattle.compiled.specs.Sheet.{head_at}
use Rattle.compiled.specs.declared.sheets.Head.{Head}
use Rattle.std.proofs.Common.{Result, Ok, Err}
use Rattle.compiled.specs.declared.places.Fault.{Fault}
use Rattle.compiled.specs.declared.places.Read.{Read}
use Rattle.compiled.proofs.Answers.{answer_read, answer-fault}
use Rattle.segments.specs.Sweep.{pair_at, pair_bytes, tests_pass, with_tests, mark_bytes, sweep_at}
use Rattle.segments.specs.Before.{Segment, beginning, segment_before, fresh_bytes}
use Rattle.segments.specs.Visits.{to_next, to_awaited, to_flags, block_bytes, Visited, awaits, ended_by, ended_at, decided, visit_at}
use Rattle.segments.specs.Pass.{block_set}
use Rattle.sweeps.specs.Swept.{swept_mark, swept_one, swept_behind}
use Rattle.visits.specs.Visiting.{to_tests, IsMarked, behind_first, swept_visit, next_awaited, awaited_visit}
use Rattle.sweeps.specs.declared.sweeping.Behind.TheVariants.{Leftmost, Others}
use Rattle.sweeps.specs.declared.sweeping.Swept.{Swept}
use Rattle.visits.specs.declared.blocks.Marked.{Marked}
use Rattle.visits.specs.declared.visiting.Awaited.{Awaited}
use Rattle.visits.specs.declared.visiting.Awaited.TheVariants as segment
use Rattle.sweeps.proofs.CodePartLaws.{tests-some}
use Rattle.sweeps.proofs.CodeSweepLaws.{one-mark, sweep-step}

module _ (s₀ s₁ s₂ : List ℕ) (p next awaited : ℕ) where
  -- ---- the return of `put_places`
  -- the place of the next selector and the awaited place, stored in turn, are both of them stored at once
  pub places-stored : s₁ ≡ sets s₀ (p + to_next) (pair_bytes next) → s₂ ≡ sets s₁ (p + to_awaited) (pair_bytes awaited) → s₂ ≡ sets s₀ (p + to_next) (pair_bytes next ++ pair_bytes awaited)
  unfolding pair_bytes
  places-stored e f = let a : p + to_awaited ≡ suc (suc (p + to_next)) = omega arith in f ∙ rw (e, a)

  -- both places stored, then the flags behind them, are the block stored whole
  pub block-stored : (flags : List ℕ) → s₁ ≡ sets s₀ (p + to_next) (pair_bytes next ++ pair_bytes awaited) → s₂ ≡ sets s₁ (p + to_flags) flags
      → s₂ ≡ sets s₀ (p + to_next) (block_bytes next awaited flags)
  unfolding block_bytes pair_bytes
  block-stored flags e f = let a : p + to_flags ≡ suc (suc (suc (suc (p + to_next)))) = omega arith in f ∙ rw (e, a)

-- ---- the return of `put_marked`
-- zeros over a part that is there
pub zeros-stored : (s : List ℕ) (at n : ℕ) → at + n ≤ length s → (zs : List ℕ) → zs ≡ replicate (length (take (at + n - at) (drop at s))) 0 → put_mid at (at + n - at) s zs ≡ sets s at (replicate n 0)
zeros-stored s at n h zs e =
    let d : at + n - at ≡ n = omega arith in
    let k : length (take (at + n - at) (drop at s)) ≡ n = ap (λ (m : ℕ). length (take m (drop at s))) d ∙ length-take-le n (drop at s) (omega (arith, h, length-drop at s)) in
    ap (λ (m : ℕ). put_mid at m s zs) d ∙ ap (put_mid at n s) (e ∙ ap (λ (m : ℕ). replicate m 0) k) ∙ part-sets s at n h (replicate n 0) (length-replicate n 0)

-- next, awaited, zeros and the mark with its tests, stored in turn, are the block
pub marked-stored : (s₀ s₁ s₂ s₃ s₄ : List ℕ) (at next awaited steps tests : ℕ) → s₁ ≡ sets s₀ (at + to_next) (pair_bytes next) → s₂ ≡ sets s₁ (at + to_awaited) (pair_bytes awaited)
    → s₃ ≡ sets s₂ (at + to_flags) (replicate steps 0) → s₄ ≡ sets s₃ (at + to_flags + steps) (with_tests ∷ pair_bytes tests)
    → s₄ ≡ sets s₀ (at + to_next) (block_bytes next awaited (replicate steps 0 ++ (with_tests ∷ pair_bytes tests)))
marked-stored s₀ s₁ s₂ s₃ s₄ at next awaited steps tests e₁ e₂ e₃ e₄ =
    let zeros : List ℕ = replicate steps 0 in
    let mark : List ℕ = with_tests ∷ pair_bytes tests in
    block-stored s₀ s₂ s₄ at next awaited _ (places-stored s₀ s₁ s₂ at next awaited e₁ e₂)
    (e₄ ∙ ap (λ (s : List ℕ). sets s (at + to_flags + steps) mark) e₃
    ∙ ap (λ (n : ℕ). sets (sets s₂ (at + to_flags) zeros) (at + to_flags + n) mark) (sym (length-replicate steps 0))
    ∙ sym (sets-append s₂ (at + to_flags) zeros mark))

-- ---- the return of `put_awaits`
-- both places and the flags of a segment that is awaited from its start, stored in turn, are its block
pub awaits-stored : (s₀ s₁ s₂ : List ℕ) (p next : ℕ) (s : Segment) (start steps tests : ℕ) → record { start = start; steps = steps; tests = tests } ≡ s
    → s₁ ≡ sets s₀ (p + to_next) (pair_bytes next ++ pair_bytes start)
    → s₂ ≡ sets s₁ (p + to_flags) (fresh_bytes (record { start = start; steps = steps; tests = tests }))
    → s₂ ≡ block_set (awaits s) next p s₀
unfolding block_set awaits
awaits-stored s₀ s₁ s₂ p next s start steps tests e f g =
    let w : Segment = record { start = start; steps = steps; tests = tests } in
    block-stored s₀ s₁ s₂ p next start (fresh_bytes w) f g ∙ ap (λ (x : Segment). sets s₀ (p + to_next) (block_bytes next x.start (fresh_bytes x))) e

-- ---- the returns of `put_stays`
module _ (code : List ℕ) (row : Path) (above s₀ s₁ s₂ : List ℕ) (p next awaited : ℕ) (one : Swept)
    (e : s₁ ≡ sets s₀ (p + to_next) (pair_bytes next ++ pair_bytes awaited)) where
  -- what is stored: both places and the flags behind the first compound
  abbrev Stays : Type 0
  Stays = s₂ ≡ sets s₀ (p + to_next) (block_bytes next awaited (behind_first code row above p one))

  -- where the first compound is the leftmost, its mark is what is stored
  pub stays-marked : (tests : ℕ) → one.behind ≡ Leftmost tests → s₂ ≡ sets s₁ (p + to_flags) (mark_bytes tests) → Stays
  stays-marked tests m f =
      let w : mark_bytes tests ≡ behind_first code row above p one = unfold behind_first swept_behind in rw m in
      block-stored s₀ s₁ s₂ p next awaited _ e (f ∙ ap (sets s₁ (p + to_flags)) w)

  -- where it is not the leftmost, the flags of the compounds left of it are stored
  pub stays-others : (first : ℕ) → one.behind ≡ Others first → (limit : ℕ) → limit ≡ length code - 1 → s₂ ≡ sets s₁ (p + to_flags) (sweep_at code row above limit (p + to_flags + 1) first) → Stays
  stays-others first m limit el f =
      let w : sweep_at code row above (length code - 1) (p + to_flags + 1) first ≡ behind_first code row above p one = unfold behind_first swept_behind in rw m in
      block-stored s₀ s₁ s₂ p next awaited _ e (f ∙ ap (λ (n : ℕ). sets s₁ (p + to_flags) (sweep_at code row above n (p + to_flags + 1) first)) el ∙ ap (sets s₁ (p + to_flags)) w)

-- ---- what is told of a visit: whether the selector matches, and the block that is stored
module _ (s₀ : List ℕ) (next p : ℕ) where
  abbrev pub Told : Visited → Bool → List ℕ → Type 0
  Told v b s₁ = (b ≡ v.matched) × (s₁ ≡ block_set v next p s₀)

  -- of one that is another
  told-as : (v w : Visited) → v ≡ w → (b : Bool) (s₁ : List ℕ) → Told w b s₁ → Told v b s₁
  told-as v w e b s₁ t = rw e t

  -- of one whose segment is awaited as before
  told-stays : (b : Bool) (awaited : ℕ) (flags s₁ : List ℕ) → s₁ ≡ sets s₀ (p + to_next) (block_bytes next awaited flags)
      → Told (record { matched = b; awaited = awaited; flags = flags }) b s₁
  unfolding block_set
  told-stays b awaited flags s₁ e = (refl, e)

-- ---- the returns of `next_awaited`
module _ (code : List ℕ) (p awaited : ℕ) (ends : Bool) where
  -- the segment does not end here
  pub awaited-stays : ends ≡ false → segment.Same false ≡ next_awaited code p awaited ends
  unfolding next_awaited pick
  awaited-stays t = rw t

  module _ (t : ends ≡ true) (r : Result (Read Head) Fault) (er : r ≡ read_answer (head_at code agent_origin p)) where
    -- of a selector that is none
    pub awaited-fault : (f : Fault) → r ≡ Err f → segment.Same false ≡ next_awaited code p awaited ends
    unfolding next_awaited on_decoded pick
    awaited-fault f q = rw (t, answer-fault (head_at code agent_origin p) r er f q)

    module _ (x : Read Head) (q : r ≡ Ok x) where
      -- where the segment that ends here is the last, the selector matches
      pub awaited-last : awaited ≡ x.next → segment.Same true ≡ next_awaited code p awaited ends
      unfolding next_awaited on_decoded pick
      awaited-last e = rw (t, answer_read (head_at code agent_origin p) r er x q, is-yes awaited x.next e)

      -- where it is not the last, the one before it in the bytes is awaited
      pub awaited-before : ¬ (awaited ≡ x.next) → segment.Before x.value.count x.next ≡ next_awaited code p awaited ends
      unfolding next_awaited on_decoded pick
      awaited-before e = rw (t, answer_read (head_at code agent_origin p) r er x q, is-no awaited x.next e)

-- ---- the returns of `visit_swept`
module _ (code flags : List ℕ) (p awaited : ℕ) where
  -- by whether it is the last
  by_last : (t : Bool) (first count : ℕ)
      → pick t (record { matched = true; awaited = awaited; flags = flags }) (awaits (segment_before code awaited count (beginning first) first))
      ≡ awaited_visit code awaited flags (pick t (segment.Same true) (segment.Before count first))
  unfolding pick awaited_visit
  by_last true first count = refl
  by_last false first count = refl

  -- for a selector by its head: what ends here is the whole selector, or the next segment is awaited
  by-head : (d : Decoded Head)
      → on_decoded d (λ first h. ended_by code awaited flags first h.count) (λ _. record { matched = false; awaited = awaited; flags = flags })
      ≡ awaited_visit code awaited flags (on_decoded d (λ first h. pick (is awaited first) (segment.Same true) (segment.Before h.count first)) (λ _. segment.Same false))
  unfolding on_decoded ended_by awaited_visit
  by-head (read first h) = by_last (is awaited first) first h.count
  by-head (fault f) = refl

  -- by what is awaited next
  decided-next : (ends : Bool) → decided code p awaited (flag ends ∷ flags) ≡ awaited_visit code awaited flags (next_awaited code p awaited ends)
  unfolding decided ended_at next_awaited flag_of flag is pick
  decided-next true = by-head (head_at code agent_origin p)
  decided-next false = unfold awaited_visit in refl

module _ (code : List ℕ) (row : Path) (above s₀ : List ℕ) (p next awaited : ℕ) (one : Swept) (r : Awaited) (er : r ≡ next_awaited code p awaited one.ends) (s₁ : List ℕ) where
  -- what is told: whether the selector matches, and the part with its block
  abbrev Sweeps : Bool → Type 0
  Sweeps b = Told s₀ next p (swept_visit code row above p awaited one) b s₁

  -- of what is awaited
  sweeps-as : (w : Visited) → awaited_visit code awaited (behind_first code row above p one) r ≡ w → (b : Bool) → Told s₀ next p w b s₁ → Sweeps b
  unfolding swept_visit
  sweeps-as w e b t =
      let flags = behind_first code row above p one in
      told-as s₀ next p _ w (decided-next code flags p awaited one.ends ∙ ap (awaited_visit code awaited flags) (sym er) ∙ e) b s₁ t

  -- where the same segment is awaited on, its flags are stored
  pub swept_same : (b : Bool) → r ≡ segment.Same b → s₁ ≡ sets s₀ (p + to_next) (block_bytes next awaited (behind_first code row above p one)) → Sweeps b
  swept_same b q s =
      let flags = behind_first code row above p one in
      sweeps-as (record { matched = b; awaited = awaited; flags = flags }) (unfold awaited_visit in rw q) b (told-stays s₀ next p b awaited flags s₁ s)

  -- where the segment before it is awaited, its fresh flags are stored
  pub swept-before : (count first : ℕ) → r ≡ segment.Before count first
      → s₁ ≡ block_set (awaits (segment_before code awaited count (beginning first) first)) next p s₀ → Sweeps false
  swept-before count first q s = sweeps-as (awaits (segment_before code awaited count (beginning first) first)) (unfold awaited_visit in rw q) false (unfold awaits in refl, s)

-- ---- the returns of `visit_marked`
-- tests that do not pass are some
pub fails-some : (code : List ℕ) (row : Path) (tests i : ℕ) → tests_pass code row tests i ≡ false → 0 < tests
unfolding tests_pass
fails-some code row zero i e = never (sym e)
fails-some code row (suc t) i e = omega arith

-- the mark of some tests has their count
pub some_tests : (tests : ℕ) → 0 < tests → with_tests ∷ pair_bytes tests ≡ mark_bytes tests
unfolding mark_bytes
some_tests zero h = absurd (omega (arith, h))
some_tests (suc t) h = refl

module _ (code : List ℕ) (row : Path) (above s₀ : List ℕ) (p next awaited tests : ℕ) (ends : Bool) (ee : ends ≡ tests_pass code row tests awaited)
    (r : Awaited) (er : r ≡ next_awaited code p awaited ends) (s₁ : List ℕ) where
  -- what is told of a segment of one compound with its mark: whether the selector matches, and the part with its block
  abbrev Ends : Bool → Type 0
  Ends b = Told s₀ next p (swept_visit code row above p awaited (swept_mark code row tests awaited)) b s₁

  -- what is awaited next, by whether the tests pass
  by-tests : r ≡ next_awaited code p awaited (tests_pass code row tests awaited)
  by-tests = er ∙ ap (next_awaited code p awaited) ee

  -- where the same segment is awaited on, the block stays
  pub marked_same : 0 < tests → (b : Bool) → r ≡ segment.Same b → s₁ ≡ sets s₀ (p + to_next) (block_bytes next awaited (with_tests ∷ pair_bytes tests)) → Ends b
  marked_same h b q e =
      let one : Swept = swept_mark code row tests awaited in
      let w : mark_bytes tests ≡ behind_first code row above p one = unfold behind_first swept_behind in refl in
      swept_same code row above s₀ p next awaited one r by-tests s₁ b q (e ∙ ap (λ (x : List ℕ). sets s₀ (p + to_next) (block_bytes next awaited x)) (some_tests tests h ∙ w))

  -- where the segment before it is awaited, its fresh flags are stored
  pub marked-before : (count first : ℕ) → r ≡ segment.Before count first → s₁ ≡ block_set (awaits (segment_before code awaited count (beginning first) first)) next p s₀ → Ends false
  marked-before count first q s = swept-before code row above s₀ p next awaited (swept_mark code row tests awaited) r by-tests s₁ count first q s

-- ---- the returns of `visit_any` and `visit`
module _ (code : List ℕ) (row : Path) (above s₀ : List ℕ) (p next : ℕ) (en : next ≡ pair_at above (p + to_next)) (awaited : ℕ) (ea : awaited ≡ pair_at above (p + to_awaited)) (s₁ : List ℕ) where
  -- what is to be told
  abbrev Visits : Bool → Type 0
  Visits b =
      let v : Visited = visit_at code row above p in
      (b ≡ v.matched) × (s₁ ≡ block_set v (pair_at above (p + to_next)) p s₀)

  -- by another, which it is
  visits-as : (w : Visited) → decided code p awaited (sweep_at code row above (length code) (p + to_flags) awaited) ≡ w → (b : Bool) → Told s₀ next p w b s₁ → Visits b
  visits-as w e b t =
      let o : visit_at code row above p ≡ w = unfold visit_at in rw (← ea) e in
      rw (o, ← en) t

  -- where there are no bytes, no selector matches and no flag is stored
  pub visit-none : length code ≤ 0 → s₁ ≡ sets s₀ (p + to_next) (pair_bytes next ++ pair_bytes awaited) → Visits false
  visit-none h e =
      let d : length code ≡ 0 = omega arith in
      let w : decided code p awaited (sweep_at code row above 0 (p + to_flags) awaited) ≡ record { matched = false; awaited = awaited; flags = [] } =
      unfold decided sweep_at flag_of is pick in refl in
      visits-as (record { matched = false; awaited = awaited; flags = [] }) (ap (λ (n : ℕ). decided code p awaited (sweep_at code row above n (p + to_flags) awaited)) d ∙ w) false
      (told-stays s₀ next p false awaited [] s₁ (block-stored s₀ s₁ s₁ p next awaited [] e refl))

  module _ (h : 0 < length code) (one : Swept) (eo : one ≡ swept_one code row above (p + to_flags) awaited) where
    -- the visit by the sweep of the whole segment is the visit by its first compound and those behind it
    visit-first : decided code p awaited (sweep_at code row above (length code) (p + to_flags) awaited) ≡ swept_visit code row above p awaited one
    unfolding swept_visit behind_first
    visit-first =
        let k = length code - 1 in
        let d : length code ≡ suc k = omega arith in
        ap (λ (n : ℕ). decided code p awaited (sweep_at code row above n (p + to_flags) awaited)) d
        ∙ ap (decided code p awaited) (sweep-step code row above k (p + to_flags) awaited)
        ∙ ap (λ (x : Swept). decided code p awaited (flag x.ends ∷ swept_behind code row above k (p + to_flags) x.behind)) (sym eo)

    -- so it is told
    pub visit-by : (b : Bool) → Told s₀ next p (swept_visit code row above p awaited one) b s₁ → Visits b
    visit-by b t = visits-as (swept_visit code row above p awaited one) visit-first b t

  -- by the count of its mark
  pub visit-mark : 0 < length code → get_or above (p + to_flags) 0 ≡ with_tests → (tests : ℕ) → tests ≡ pair_at above (p + to_tests)
      → (b : Bool) → Told s₀ next p (swept_visit code row above p awaited (swept_mark code row tests awaited)) b s₁ → Visits b
  visit-mark h m tests et b t =
      let d : p + to_tests ≡ p + to_flags + 1 = omega arith in
      let n = tests-some above (p + to_flags) (get_or above (p + to_flags) 0) refl (λ e. absurd (omega (arith, e, m))) tests (et ∙ ap (pair_at above) d) in
      visit-by h (swept_mark code row tests awaited)
      (one-mark code row above (p + to_flags) awaited (get_or above (p + to_flags) 0) refl (omega (arith, m)) tests n (tests_pass code row tests awaited) refl) b t

-- the same of a block with a mark that the parent's part holds whole
pub visit-marked : (code : List ℕ) (row : Path) (above s₀ : List ℕ) (p : ℕ) (m : Marked) → IsMarked above p 0 m → 0 < length code → (b : Bool) (s₁ : List ℕ)
    → Told s₀ m.block.next m.block.place (swept_visit code row above m.block.place m.block.awaited (swept_mark code row m.tests m.block.awaited)) b s₁
    → Told s₀ (pair_at above (p + to_next)) p (visit_at code row above p) b s₁
visit-marked code row above s₀ p m i h b s₁ t =
    let flags : p + to_flags + 0 ≡ p + to_flags = omega arith in
    let behind : p + to_tests + 0 ≡ p + to_tests = omega arith in
    visit-mark code row above s₀ p m.block.next i.next m.block.awaited i.awaited s₁ h
    (ap (λ (j : ℕ). get_or above j 0) (sym flags) ∙ i.mark) m.tests (i.tests ∙ ap (pair_at above) behind) b
    (subst (λ (q : ℕ). Told s₀ m.block.next q (swept_visit code row above q m.block.awaited (swept_mark code row m.tests m.block.awaited)) b s₁) i.place t)
