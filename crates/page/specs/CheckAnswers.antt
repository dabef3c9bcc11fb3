-- What the parts of `check_page` answer: that a rule is kept, with what the rows behind go on from.
use Rattle.std.specs.Prelude.{ℕ, ◌+◌, ◌-◌, ◌<◌, List, ◌≡◌, leb, Option, Some, None}
use Rattle.combinators.specs.Choice.{pick, and}
use Rattle.page.specs.Rows.{NodeRow, node_at}
use Rattle.page.specs.Ancestors.{depth_of}
use Rattle.page.specs.Accepted.{attributes_before, attributes_end, texts_end, bytes_before, parent_right, depth_limit, attributes_follow, element_follows, kind_right, row_right}
use Rattle.page.specs.declared.rules.Totals.{Totals}
use Rattle.page.specs.declared.rules.Progress.{Progress}

-- where the texts of k attribute rows end, if they lie end to end
unfoldable pub attributes_answer : List ℕ → ℕ → ℕ → ℕ → Option ℕ
attributes_answer attributes k at start = pick (attributes_follow attributes k at start) (Some (attributes_end attributes k at start)) None

-- the first attribute and the byte of the row behind
unfoldable pub behind : List ℕ → NodeRow → ℕ → ℕ → Totals
behind attributes n first start = record { first = first + n.attribute_count; start = texts_end attributes n start }

-- those, if an element follows on
unfoldable pub element_answer : List ℕ → NodeRow → ℕ → ℕ → Option Totals
element_answer attributes n first start = pick (element_follows attributes n first start) (Some (behind attributes n first start)) None

-- those, if what is asked by its kind holds of a row
unfoldable pub kind_answer : List ℕ → NodeRow → ℕ → ℕ → Option Totals
kind_answer attributes n first start = pick (kind_right attributes n first start) (Some (behind attributes n first start)) None

-- the depth of a row behind another, if its parent is one and it is not too deep
unfoldable pub depth_answer : List ℕ → ℕ → Option ℕ
depth_answer nodes row =
    pick (and (parent_right nodes (row - 1) (node_at nodes row).parent) (leb (depth_of nodes row) depth_limit)) (Some (depth_of nodes row)) None

-- what is carried from row to row: the depth of the row before, and the totals
pub record Carried (nodes attributes : List ℕ) (row depth first start : ℕ) : Type 0 where
  pub deep : depth ≡ depth_of nodes (row - 1)
  pub attributes-so-far : first ≡ attributes_before nodes row
  pub bytes-so-far : start ≡ bytes_before nodes attributes row

-- what is known of a row behind another
pub record BehindRow (nodes : List ℕ) (row depth : ℕ) : Type 0 where
  pub later : 0 < row
  pub deep : depth ≡ depth_of nodes (row - 1)

-- what is carried on from a row, if it keeps the rules
unfoldable pub row_answer : List ℕ → List ℕ → ℕ → Option Progress
row_answer nodes attributes row =
    let totals : Totals = record { first = attributes_before nodes (row + 1); start = bytes_before nodes attributes (row + 1) } in
    pick (row_right nodes attributes row) (Some (record { depth = depth_of nodes row; totals = totals })) None
