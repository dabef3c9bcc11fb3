-- The ancestors of a row, its depth, and its place among the element children of its parent.
use Rattle.std.specs.Prelude.{ℕ, zero, suc, ◌+◌, Bool, List, [], ◌∷◌, ltb, length, Option, Some, None}
use Rattle.combinators.specs.Choice.{pick, and, is}
use Rattle.combinators.specs.All.{member}
use Rattle.page.specs.Rows.{node_at, element_kind}

-- the parent, its parent and so on, as long as each row is before the one below it; on an accepted page that is up to row 0. At most k are counted.
-- "`Rc`, `Weak` and `RefCell` become row numbers."
unfoldable pub ancestors_from : ℕ → List ℕ → ℕ → List ℕ
ancestors_from zero nodes row = []
ancestors_from (suc k) nodes row =
    let above = ancestors_from k nodes (node_at nodes row).parent in
    pick (ltb (node_at nodes row).parent row) ((node_at nodes row).parent ∷ above) []

-- all of them: row many are enough, since rows fall
unfoldable pub ancestors_of : List ℕ → ℕ → List ℕ
ancestors_of nodes row = ancestors_from row nodes row

-- the row and its ancestors
abbrev pub line_of : List ℕ → ℕ → List ℕ
line_of nodes row = row ∷ ancestors_of nodes row

-- depth, which is 0 at row 0
unfoldable pub depth_of : List ℕ → ℕ → ℕ
depth_of nodes row = length (ancestors_of nodes row)

-- the depth of a row that is row `from` or an ancestor of it
unfoldable pub climbed : List ℕ → ℕ → ℕ → Option ℕ
climbed nodes from row = pick (member row (line_of nodes from)) (Some (depth_of nodes row)) None

-- a row is an element with the parent p
unfoldable pub is_element_child : List ℕ → ℕ → ℕ → Bool
is_element_child nodes p row = and (is (node_at nodes row).kind element_kind) (is (node_at nodes row).parent p)

-- how many of the first k rows are
unfoldable pub element_children : List ℕ → ℕ → ℕ → ℕ
element_children nodes p zero = 0
element_children nodes p (suc k) = element_children nodes p k + pick (is_element_child nodes p k) 1 0

-- "idx counts element children up to this one"
unfoldable pub place_of : List ℕ → ℕ → ℕ
place_of nodes row = element_children nodes (node_at nodes row).parent (row + 1)
