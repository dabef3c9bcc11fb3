-- A segment at a row as code sweeps it: one compound, and the loop over those behind it.
use Prim.Native.Nat.{ℕ, suc, ◌+◌, ◌-◌, ◌≤◌, ◌<◌}
use mathlib.Core.Path.{◌≡◌, refl, sym, ap, ◌∙◌}
use mathlib.Core.Bool.{Bool, true, false}
use mathlib.Core.List.{List, ◌∷◌}
use native.Mathlib.Numerals.{add-one}
use native.Mathlib.Omega.{arith}
use borrow.Author.Tests.{le-leb, lt-leb}
use lib.Dec.{leb, eqb}
use lib.ListN.{length, get_or, set}
use lib.Seq.{sets}
use Rattle.combinators.specs.Choice.{pick, is}
use Rattle.syntax.specs.Layout.{flag, flag_of}
use Rattle.page.specs.Path.{Path}
use Rattle.segments.specs.Sweep.{tests_pass, Ended, compound_at, without_tests, mark_bytes, marked_tests, sweep_at}
use Rattle.sweeps.specs.Swept.{swept_one, swept_behind}
use Rattle.sweeps.specs.declared.sweeping.Behind.TheVariants.{Leftmost, Others}
use Rattle.sweeps.specs.declared.sweeping.Swept.{Swept}

-- ---- the returns of `sweep_one`
module _ (code : List ℕ) (row : Path) (part : List ℕ) (j i b : ℕ) (eb : b ≡ get_or part j 0) where
  -- a compound that has a flag
  pub one-compound : b < without_tests → (e : Bool) (p : ℕ) → record { ends = e; place = p } ≡ compound_at code row (length code) (eqb b 1) i
      → record { ends = e; behind = Others p } ≡ swept_one code row part j i
  unfolding swept_one pick flag_of is
  one-compound h e p ec = rw (← eb, lt-leb without_tests b h, ← ec)

  -- where the byte is a mark, the compound is the leftmost, and ends here if its tests pass
  pub one-mark : without_tests ≤ b → (n : ℕ) → n ≡ marked_tests part j → (e : Bool) → e ≡ tests_pass code row n i
      → record { ends = e; behind = Leftmost n } ≡ swept_one code row part j i
  unfolding swept_one pick
  one-mark h n en e ee = rw (← eb, le-leb without_tests b h, ← en, ee)

-- ---- one compound, then those behind it
-- by whether the compound is marked: its flag, and its mark or what stands behind it, are those of what was swept
by-mark : (t e : Bool) (n : ℕ) (c : Ended) (code : List ℕ) (row : Path) (part : List ℕ) (k j : ℕ)
    → pick t (flag e ∷ mark_bytes n) (flag c.ends ∷ sweep_at code row part k (j + 1) c.place)
    ≡ (let s : Swept = pick t (record { ends = e; behind = Leftmost n }) (record { ends = c.ends; behind = Others c.place }) in flag s.ends ∷ swept_behind code row part k j s.behind)
unfolding pick swept_behind
by-mark true e n c code row part k j = refl
by-mark false e n c code row part k j = refl

-- what the sweep of a segment begins with
pub sweep-step : (code : List ℕ) (row : Path) (part : List ℕ) (k j i : ℕ)
    → sweep_at code row part (suc k) j i ≡ flag (swept_one code row part j i).ends ∷ swept_behind code row part k j (swept_one code row part j i).behind
unfolding sweep_at swept_one
sweep-step code row part k j i =
    by-mark (leb without_tests (get_or part j 0)) (tests_pass code row (marked_tests part j) i) (marked_tests part j)
    (compound_at code row (length code) (flag_of (get_or part j 0)) i) code row part k j

-- ---- the loop of `sweep_rest`
abbrev pub Sweeping : List ℕ → Path → List ℕ → List ℕ → ℕ → ℕ → ℕ → List ℕ → ℕ → ℕ → ℕ → Type 0
Sweeping code row above own₀ at first limit own to i left = sets own to (sweep_at code row above left (to + 1) i) ≡ sets own₀ at (sweep_at code row above limit (at + 1) first)

module _ (code : List ℕ) (row : Path) (above own₀ : List ℕ) (at first limit : ℕ) (own : List ℕ) (to i left : ℕ) (v : Sweeping code row above own₀ at first limit own to i left) where
  -- what is left in the end
  abbrev Left : List ℕ → Type 0
  Left s = s ≡ sets own₀ at (sweep_at code row above limit (at + 1) first)

  -- where no compound is left, the flags of all are stored
  pub sweep-end : left ≤ 0 → Left own
  sweep-end h =
      let d : 0 ≡ left = omega arith in
      let e : own ≡ sets own to (sweep_at code row above 0 (to + 1) i) = unfold sweep_at in refl in
      e ∙ ap (λ (n : ℕ). sets own to (sweep_at code row above n (to + 1) i)) d ∙ v

  module _ (h : 0 < left) (s : Swept) (es : s ≡ swept_one code row above (to + 1) i) (b : ℕ) (eb : b ≡ flag s.ends) (own₁ : List ℕ) (e₁ : own₁ ≡ set own to b) where
    -- one flag stored, and what is swept behind it, come to the whole
    swept : Left (sets own₁ (to + 1) (swept_behind code row above (left - 1) (to + 1) s.behind))
    swept =
        let d : suc (left - 1) ≡ left = omega arith in
        let one : sets own₁ (to + 1) (swept_behind code row above (left - 1) (to + 1) s.behind) ≡ sets own to (flag s.ends ∷ swept_behind code row above (left - 1) (to + 1) s.behind) = rw (e₁, eb, add-one to) in
        one
        ∙ ap (λ (x : Swept). sets own to (flag x.ends ∷ swept_behind code row above (left - 1) (to + 1) x.behind)) es
        ∙ ap (sets own to) (sym (sweep-step code row above (left - 1) (to + 1) i))
        ∙ ap (λ (n : ℕ). sets own to (sweep_at code row above n (to + 1) i)) d
        ∙ v

    -- it is the leftmost
    pub sweep-mark : (tests : ℕ) → s.behind ≡ Leftmost tests → (own₂ : List ℕ) → own₂ ≡ sets own₁ (to + 1) (mark_bytes tests) → Left own₂
    sweep-mark tests m own₂ e₂ =
        let w : mark_bytes tests ≡ swept_behind code row above (left - 1) (to + 1) s.behind = unfold swept_behind in rw m in
        e₂ ∙ ap (sets own₁ (to + 1)) w ∙ swept

    -- behind a compound that is not the leftmost the loop goes on, at its left neighbour
    pub sweep-more : (place : ℕ) → s.behind ≡ Others place → Sweeping code row above own₀ at first limit own₁ (to + 1) place (left - 1)
    sweep-more place m =
        let w : sweep_at code row above (left - 1) (to + 1 + 1) place ≡ swept_behind code row above (left - 1) (to + 1) s.behind = unfold swept_behind in rw m in
        ap (sets own₁ (to + 1)) w ∙ swept
