-- The state of a run: one part for each depth, of as many bytes as the compiled sheet and one more. The part of an open row begins with the count of the
-- element children that it has had so far, in two bytes, the lower first. Behind it stand the blocks of the selectors (crates/segments), which its children are told.
use Rattle.std.specs.Prelude.{ℕ, suc, ◌+◌, ◌*◌, List, length}
use Rattle.std.proofs.lemmas.List.Edits.{sets}
use Rattle.combinators.specs.Part.{part}
use Rattle.page.specs.Accepted.{depth_limit}
use Rattle.segments.specs.Sweep.{pair_at, pair_bytes}

-- the depths of a page, from 0 on
abbrev pub depths : ℕ
depths = suc depth_limit

abbrev pub part_width : List ℕ → ℕ
part_width code = length code + 1

abbrev pub part_place : List ℕ → ℕ → ℕ
part_place code depth = depth * part_width code

-- the part of a depth: "Open at a row are the row and its ancestors; state kept for them may include how many element children each has had so far, and
-- beside it only the text store's fill is kept."
unfoldable pub part_of : List ℕ → ℕ → List ℕ → List ℕ
part_of code depth state = part state (part_place code depth) (part_width code)

-- one element child more; a count too large for two bytes wraps, so that nothing is asked of what the state holds
unfoldable pub raised : List ℕ → ℕ → List ℕ
raised state place = sets state place (pair_bytes (pair_at state place + 1))

-- a part written: these blocks, and no child yet
unfoldable pub opened : List ℕ → ℕ → List ℕ → List ℕ
opened state place blocks = sets (sets state place blocks) place (pair_bytes 0)
