-- What a pass does not depend on: of its parent's part nothing matters but that it tells right, and of its own part nothing but how long it is. It stores the same bytes whatever that held.
use Prim.Native.Nat.{ℕ, zero, suc, ◌+◌, ◌≤◌, ◌<◌}
use mathlib.Core.Path.{◌≡◌, refl, ap, sym, ◌∙◌}
use mathlib.Core.Bool.{Bool, true, false}
use mathlib.Core.List.{List, [], ◌∷◌, ◌++◌}
use mathlib.Core.Logic.{◌⊎◌, inl, inr}
use native.Mathlib.Omega.{arith}
use lib.ListN.{length, get_or, set, length-set}
use lib.Seq.{sets, set_out, get_or-set_same, get_or-set_other}
use Rattle.combinators.specs.Choice.{pick, is}
use Rattle.combinators.proofs.Rules.{lt-or-ge}
use Rattle.page.specs.Path.{Path}
use Rattle.compiled.specs.Decoded.{Decoded, read, fault, on_decoded}
use Rattle.compiled.specs.Number.{number_at}
use Rattle.compiled.proofs.Bounds.{reaches_end, number-reaches}
use Rattle.segments.specs.Segments.{alone}
use Rattle.segments.specs.Sweep.{pair_at}
use Rattle.segments.specs.Before.{no_place}
use Rattle.segments.specs.Placed.{Placed, placed_from}
use Rattle.segments.specs.Visits.{to_next, block_bytes, Visited, visit_at}
use Rattle.segments.specs.Pass.{Passed, matched_here, block_set, pass_from}
use Rattle.segments.specs.Document.{styled_from}
use Rattle.segments.specs.Down.{placed_in, styled_in, pass_at}
use Rattle.segments.proofs.SweepLaws.{pair_values}
use Rattle.segments.proofs.VisitLaws.{visit-once}
use Rattle.segments.proofs.PassLaws.{Laid, ToldAll, length-block, pass-none, pass-more}
use Rattle.segments.proofs.DocumentLaws.{placed-laid}
use Rattle.segments.proofs.DownLaws.{ToldIn}

-- ---- the parent's part

-- two parts that tell right begin with the same selector
first-once : (code part other : List ℕ) (p q : ℕ) (ss : List Placed) (path : Path) → ToldAll code part p ss path → ToldAll code other q ss path → p ≡ q
first-once code part other p q [] path t u = t ∙ sym u
first-once code part other p q (s ∷ others) path t u = t.0 ∙ sym u.0

-- and a pass by them is the same
pass-once : (code part other : List ℕ) (path : Path) → length code ≤ pair_values → (ss : List Placed) (k from p : ℕ) (own : List ℕ) → 0 < from → Laid code from ss → ToldAll code part p ss path
    → ToldAll code other p ss path → pass_from code (alone path) part k p own ≡ pass_from code (alone path) other k p own
pass-once code part other path c [] k from p own f y t u = rw (t, pass-none code part (alone path) k own, pass-none code other (alone path) k own)
pass-once code part other path c (s ∷ others) zero from p own f y t u = unfold pass_from in refl
pass-once code part other path c (s ∷ others) (suc k) from p own f y t u =
    let a = y.0.after in
    let b = y.0.room in
    let v : Visited = visit_at code (alone path) other s.place in
    let next : ℕ = pair_at other (s.place + to_next) in
    let n : pair_at part (s.place + to_next) ≡ next = first-once code part other _ _ others path t.2 u.2 in
    let ih = pass-once code part other path c others k s.end next (block_set v next s.place own) (omega arith) y.1 (rw n at t.2) u.2 in
    rw (
      t.0,
      pass-more code part (alone path) k s.place own (let z : 0 < s.place = omega arith in z),
      pass-more code other (alone path) k s.place own (let z : 0 < s.place = omega arith in z),
      visit-once code part other s path from c y.0 t.1 u.1,
      n,
    )
    (ap (λ (r : Passed). record { part = r.part; matched = matched_here v s.place ++ r.matched }) ih)

-- over a sheet, two parts that tell right of all selectors lead to the same pass
pub pass-at-once : (code : List ℕ) → length code ≤ pair_values → (part other : List ℕ) (path : Path) (own : List ℕ) → ToldIn code part path → ToldIn code other path
    → pass_at code (alone path) part own ≡ pass_at code (alone path) other own
unfolding ToldIn pass_at placed_in styled_in on_decoded
pass-at-once code c part other path own = go (number_at code 0) refl
  where
    go : (d : Decoded ℕ) → number_at code 0 ≡ d → ToldIn code part path → ToldIn code other path → pass_at code (alone path) part own ≡ pass_at code (alone path) other own
    go (fault q) n t u = rw n
    go (read i k) n t u =
        let z = (reaches_end (length code) 0 1 i k (number_at code 0) (number-reaches code 0) n).0 in
        rw n (pass-once code part other path c (placed_from code k i) k i (styled_from code k i) own (omega arith) (placed-laid code k i) (rw n at t) (rw n at u))

-- ---- the own part: which selectors match

-- answers that match the same on both branches of a test do so whichever is taken
either-matched : (t : Bool) (a b c d : Passed) → a.matched ≡ c.matched → b.matched ≡ d.matched → (pick t a b).matched ≡ (pick t c d).matched
unfolding pick
either-matched true a b c d e f = e
either-matched false a b c d e f = f

module _ (code : List ℕ) (row : Path) (above : List ℕ) where
  -- which selectors of a pass match does not depend on the own part
  pub matched-free : (k p : ℕ) (own other : List ℕ) → (pass_from code row above k p own).matched ≡ (pass_from code row above k p other).matched
  unfolding pass_from
  matched-free zero p own other = refl
  matched-free (suc k) p own other =
      let v : Visited = visit_at code row above p in
      either-matched (is p no_place) _ _ _ _ refl (ap (λ (l : List ℕ). matched_here v p ++ l) (matched-free k (pair_at above (p + to_next)) _ _))

  -- nor does it over a whole sheet
  pub matched-at-free : (own other : List ℕ) → (pass_at code row above own).matched ≡ (pass_at code row above other).matched
  unfolding pass_at on_decoded
  matched-at-free own other = go (number_at code 0) refl
    where
      go : (d : Decoded ℕ) → number_at code 0 ≡ d → (pass_at code row above own).matched ≡ (pass_at code row above other).matched
      go (fault q) n = rw n
      go (read i k) n = rw n (matched-free k (styled_from code k i) own other)

-- ---- the own part: what is stored

-- either answer is as long
either-long : (t : Bool) (a b : Passed) (n : ℕ) → length a.part ≡ n → length b.part ≡ n → length (pick t a b).part ≡ n
unfolding pick
either-long true a b n e f = e
either-long false a b n e f = f

module _ (code : List ℕ) (row : Path) (above : List ℕ) where
  -- a pass leaves the length of the own part
  pass-long : (k p : ℕ) (own : List ℕ) → length (pass_from code row above k p own).part ≡ length own
  unfolding pass_from
  pass-long zero p own = refl
  pass-long (suc k) p own =
      let v : Visited = visit_at code row above p in
      let next : ℕ = pair_at above (p + to_next) in
      either-long (is p no_place) _ _ (length own) refl (pass-long k next (block_set v next p own) ∙ length-block v next p own)

  -- over a whole sheet, too, a pass leaves the own part as long as it was
  pub pass-at-long : (own : List ℕ) → length (pass_at code row above own).part ≡ length own
  unfolding pass_at on_decoded
  pass-at-long own = go (number_at code 0) refl
    where
      go : (d : Decoded ℕ) → number_at code 0 ≡ d → length (pass_at code row above own).part ≡ length own
      go (fault q) n = rw n
      go (read i k) n = rw n (pass-long k (styled_from code k i) own)

-- of the byte m: it is the same in both, or each is as it was
abbrev pub Alike : ℕ → List ℕ → List ℕ → List ℕ → List ℕ → Type 0
Alike m own other left right = (get_or left m 0 ≡ get_or right m 0) ⊎ ((get_or left m 0 ≡ get_or own m 0) × (get_or right m 0 ≡ get_or other m 0))

module _ (m : ℕ) (own other : List ℕ) where
  -- a byte that did not change in either
  alike-kept : (left right left' right' : List ℕ) → get_or left' m 0 ≡ get_or left m 0 → get_or right' m 0 ≡ get_or right m 0 → Alike m own other left right → Alike m own other left' right'
  alike-kept left right left' right' e f (inl h) = inl (e ∙ h ∙ sym f)
  alike-kept left right left' right' e f (inr h) = inr (e ∙ h.0, f ∙ h.1)

  -- the same byte stored in both
  set-alike : (left right : List ℕ) (j b : ℕ) → length left ≡ length right → Alike m own other left right → Alike m own other (set left j b) (set right j b)
  set-alike left right j b l h = go (lt-or-ge j m) (lt-or-ge m j) (lt-or-ge j (length left))
    where
      apart : ¬ (j ≡ m) → Alike m own other (set left j b) (set right j b)
      apart d = alike-kept left right (set left j b) (set right j b) (get_or-set_other left j m b 0 (λ e. d (sym e))) (get_or-set_other right j m b 0 (λ e. d (sym e))) h

      go : (j < m) ⊎ (m ≤ j) → (m < j) ⊎ (j ≤ m) → (j < length left) ⊎ (length left ≤ j) → Alike m own other (set left j b) (set right j b)
      go (inl k) t u = apart (λ e. omega arith)
      go (inr k) (inl t) u = apart (λ e. omega arith)
      go (inr k) (inr t) (inl u) =
          let e : j ≡ m = omega arith in
          inl (rw e (get_or-set_same left m b 0 (omega arith) ∙ sym (get_or-set_same right m b 0 (omega arith))))
      go (inr k) (inr t) (inr u) = rw (set_out left j b u, set_out right j b (let z : length right ≤ j = omega arith in z)) h

  -- where the same bytes are stored in two parts, they stay alike
  pub sets-alike : (bs left right : List ℕ) (j : ℕ) → length left ≡ length right → Alike m own other left right → Alike m own other (sets left j bs) (sets right j bs)
  sets-alike [] left right j l h = h
  sets-alike (b ∷ bs) left right j l h =
      sets-alike bs (set left j b) (set right j b) (suc j) (length-set left j b ∙ l ∙ sym (length-set right j b)) (set-alike left right j b l h)

  -- parts that are alike on both branches of a test are so whichever is taken
  either-alike : (t : Bool) (a b c d : Passed) → Alike m own other a.part c.part → Alike m own other b.part d.part → Alike m own other (pick t a b).part (pick t c d).part
  unfolding pick
  either-alike true a b c d e f = e
  either-alike false a b c d e f = f

  module _ (code : List ℕ) (row : Path) (above : List ℕ) where
    -- parts of one length that are alike stay so through a pass
    pass-alike : (k p : ℕ) (left right : List ℕ) → length left ≡ length right → Alike m own other left right
        → Alike m own other (pass_from code row above k p left).part (pass_from code row above k p right).part
    unfolding pass_from
    pass-alike zero p left right l h = h
    pass-alike (suc k) p left right l h =
        let v : Visited = visit_at code row above p in
        let next : ℕ = pair_at above (p + to_next) in
        either-alike (is p no_place) _ _ _ _ h
        (pass-alike k next (block_set v next p left) (block_set v next p right) (length-block v next p left ∙ l ∙ sym (length-block v next p right))
        (unfold block_set in sets-alike (block_bytes next v.awaited v.flags) left right (p + to_next) l h))

    -- over a whole sheet, two own parts of one length are alike after a pass
    pub pass-at-alike : length own ≡ length other → Alike m own other (pass_at code row above own).part (pass_at code row above other).part
    unfolding pass_at on_decoded
    pass-at-alike l = go (number_at code 0) refl
      where
        go : (d : Decoded ℕ) → number_at code 0 ≡ d → Alike m own other (pass_at code row above own).part (pass_at code row above other).part
        go (fault q) n = rw n (inr (refl, refl))
        go (read i k) n = rw n (pass-alike k (styled_from code k i) own other l (inr (refl, refl)))
