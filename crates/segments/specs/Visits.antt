-- What a node does with a selector. The block of the selector that begins at the place p of the bytes stands from the byte p + 1 of a part on: the place of the next selector that has
-- a style, the place of the segment that is awaited, and the flags of that segment. So no width has to be known.
use Rattle.std.specs.Prelude.{ℕ, ◌+◌, Bool, true, false, List, ◌++◌, length, get_or, drop}
use Rattle.combinators.specs.Choice.{pick, is}
use Rattle.syntax.specs.Layout.{flag_of}
use Rattle.syntax.specs.Style.{agent_origin}
use Rattle.page.specs.Path.{Path}
use Rattle.compiled.specs.Decoded.{on_decoded}
use Rattle.compiled.specs.Sheet.{head_at}
use Rattle.segments.specs.Sweep.{pair_at, pair_bytes, sweep_at}
use Rattle.segments.specs.Before.{Segment, beginning, segment_before, fresh_bytes}

-- from the place of a selector, to where its block has these
abbrev pub to_next : ℕ
to_next = 1

abbrev pub to_awaited : ℕ
to_awaited = 3

abbrev pub to_flags : ℕ
to_flags = 5

-- a block written
unfoldable pub block_bytes : ℕ → ℕ → List ℕ → List ℕ
block_bytes next awaited flags = pair_bytes next ++ (pair_bytes awaited ++ flags)

-- whether the selector matches, and what the children are told: the place of the segment that is awaited, and its flags
pub record Visited : Type 0 where
  pub matched : Bool
  pub awaited : ℕ
  pub flags : List ℕ

-- a segment of which nothing has begun
unfoldable pub awaits : Segment → Visited
awaits s = record { matched = false; awaited = s.start; flags = fresh_bytes s }

-- where a segment ends here, of a selector whose components stand from `first` on: the last matches and stays, behind another the next one is awaited
unfoldable pub ended_by : List ℕ → ℕ → List ℕ → ℕ → ℕ → Visited
ended_by code awaited flags first count =
    pick (is awaited first) (record { matched = true; awaited = awaited; flags = flags }) (awaits (segment_before code awaited count (beginning first) first))

-- the same of the selector at p, whose head says where its components are; where there is none, nothing changes
unfoldable pub ended_at : List ℕ → ℕ → ℕ → List ℕ → Visited
ended_at code p awaited flags =
    on_decoded (head_at code agent_origin p) (λ first h. ended_by code awaited flags first h.count) (λ _. record { matched = false; awaited = awaited; flags = flags })

-- by what was swept
unfoldable pub decided : List ℕ → ℕ → ℕ → List ℕ → Visited
decided code p awaited swept =
    pick (flag_of (get_or swept 0 0)) (ended_at code p awaited (drop 1 swept)) (record { matched = false; awaited = awaited; flags = drop 1 swept })

-- the selector at the place p, at a node, by the part of its parent
unfoldable pub visit_at : List ℕ → Path → List ℕ → ℕ → Visited
visit_at code row part p =
    let awaited = pair_at part (p + to_awaited) in decided code p awaited (sweep_at code row part (length code) (p + to_flags) awaited)
