-- The visit of a selector at a row: what it comes to, by its first compound.
use Rattle.std.specs.Prelude.{ℕ, ◌+◌, ◌-◌, ◌≤◌, ◌<◌, ◌≡◌, Bool, true, false, List, ◌∷◌, length, get_or, replicate}
use Rattle.combinators.specs.Choice.{pick, is}
use Rattle.combinators.specs.Part.{part}
use Rattle.syntax.specs.Layout.{flag}
use Rattle.syntax.specs.Style.{agent_origin}
use Rattle.page.specs.Path.{Path}
use Rattle.compiled.specs.Decoded.{on_decoded}
use Rattle.compiled.specs.Sheet.{head_at}
use Rattle.segments.specs.Sweep.{pair_at, with_tests}
use Rattle.segments.specs.Before.{beginning, segment_before}
use Rattle.segments.specs.Parts.{pair_limit}
use Rattle.segments.specs.Visits.{to_next, to_awaited, to_flags, Visited, awaits, decided, visit_at}
use Rattle.sweeps.specs.Met.{row_alone}
use Rattle.sweeps.specs.Swept.{swept_mark, swept_behind}
use Rattle.sweeps.specs.declared.sweeping.Swept.{Swept}
use Rattle.sweeps.specs.declared.elements.Row.{Row}
use Rattle.visits.specs.declared.blocks.Block.{Block}
use Rattle.visits.specs.declared.blocks.Marked.{Marked}
use Rattle.visits.specs.declared.visiting.Awaited.{Awaited}
use Rattle.visits.specs.declared.visiting.Awaited.TheVariants as segment

-- from the place of a selector whose block has a mark: to the count of its tests, and to the end of the block
abbrev pub to_tests : ℕ
to_tests = 6

abbrev pub to_end : ℕ
to_end = 8

-- the block of the selector at p, in the part above: the part holds it whole, the flags of `steps` compounds say that they may not end here, and behind them stands the mark of the leftmost
pub record IsMarked (above : List ℕ) (p steps : ℕ) (m : Marked) : Type 0 where
  pub inside : p + to_end + steps ≤ length above
  pub flags : part above (p + to_flags) steps ≡ replicate steps 0
  pub mark : get_or above (p + to_flags + steps) 0 ≡ with_tests
  pub place : m.block.place ≡ p
  pub next : m.block.next ≡ pair_at above (p + to_next)
  pub next_low : m.block.next < pair_limit
  pub awaited : m.block.awaited ≡ pair_at above (p + to_awaited)
  pub tests : m.tests ≡ pair_at above (p + to_tests + steps)

-- the flags of the selector at p behind the one of its first compound
unfoldable pub behind_first : List ℕ → Path → List ℕ → ℕ → Swept → List ℕ
behind_first code row flags p one = swept_behind code row flags (length code - 1) (p + to_flags) one.behind

-- what a visit comes to, by its first compound
unfoldable pub swept_visit : List ℕ → Path → List ℕ → ℕ → ℕ → Swept → Visited
swept_visit code row flags p awaited one = decided code p awaited (flag one.ends ∷ behind_first code row flags p one)

-- ---- the same of a row and of a block
-- what the visit of the selector at p comes to
abbrev pub visited : Row → ℕ → Visited
visited r p = visit_at r.compiled.now (row_alone r.element) r.above.now p

-- the place of the selector behind it
abbrev pub next_from : Row → ℕ → ℕ
next_from r p = pair_at r.above.now (p + to_next)

-- the flags behind the one of its first compound
abbrev pub flags_behind : Row → Block → Swept → List ℕ
flags_behind r b one = behind_first r.compiled.now (row_alone r.element) r.above.now b.place one

-- what a visit comes to, by its first compound
abbrev pub visited_by : Row → Block → Swept → Visited
visited_by r b one = swept_visit r.compiled.now (row_alone r.element) r.above.now b.place b.awaited one

-- by that of a mark with so many tests
abbrev pub visited_by_mark : Row → Block → ℕ → Visited
visited_by_mark r b tests = visited_by r b (swept_mark r.compiled.now (row_alone r.element) tests b.awaited)

-- the segment that is awaited behind the row, by whether the one at `awaited` ends there: the last one matches and stays, behind another the one before it is awaited
unfoldable pub next_awaited : List ℕ → ℕ → ℕ → Bool → Awaited
next_awaited code p awaited ends =
    pick ends (on_decoded (head_at code agent_origin p) (λ first h. pick (is awaited first) (segment.Same true) (segment.Before h.count first)) (λ _. segment.Same false)) (segment.Same false)

-- what is then told
unfoldable pub awaited_visit : List ℕ → ℕ → List ℕ → Awaited → Visited
awaited_visit code awaited flags (segment.Same matched) = record { matched = matched; awaited = awaited; flags = flags }
awaited_visit code awaited flags (segment.Before count first) = awaits (segment_before code awaited count (beginning first) first)
