-- How much room the path of a row asks for at most, and what styling in the fronts of the stores asks of them.
use Rattle.std.specs.Prelude.{ℕ, zero, suc, ◌+◌, ◌*◌, ◌≤◌, ◌<◌, ◌^◌, List, [], ◌∷◌, ◌≡◌, refl, ltb, length}
use Rattle.combinators.specs.Choice.{pick}
use Rattle.combinators.specs.LeastLengths.{Least}
use Rattle.origins.specs.Checks.{Lent}
use Rattle.page.specs.Accepted.{text_limit}
use Rattle.page.specs.Path.{Path}
use Rattle.page.specs.Rows.{node_at, attribute_at, attribute_number, number_bound}
use Rattle.styles.specs.Room.{values_along, attributes_along}
use Rattle.styling.specs.Styling.{CallLent}

-- no path of a call asks for more
abbrev pub room_limit : ℕ
room_limit = 3 * text_limit

-- what an attribute asks for beside the bytes of its value
abbrev pub attribute_more : ℕ
attribute_more = 2

-- a total over the limit is over it by no more than one attribute
abbrev pub room_most : ℕ
room_most = room_limit + number_bound + attribute_more

-- k attribute rows from `at` on beside a total: for each the length that it names for its value, and what it asks for beside. A total over the limit stays, for it says
-- enough.
unfoldable pub attributes_room : List ℕ → ℕ → ℕ → ℕ → ℕ
attributes_room attributes zero at total = total
attributes_room attributes (suc k) at total =
    let more = attributes_room attributes k (at + 1) (total + ((attribute_at attributes at).value_length + attribute_more)) in
    pick (ltb room_limit total) total more

-- two attributes, with values of one byte and of two
test-room : attributes_room (0 ∷ 1 ∷ 1 ∷ 1 ∷ 2 ∷ 1 ∷ 3 ∷ 2 ∷ []) 2 0 0 ≡ 7
unfolding attributes_room attribute_number pick
test-room = refl

-- those of some rows of nodes
unfoldable pub rows_room : List ℕ → List ℕ → List ℕ → ℕ → ℕ
rows_room nodes attributes [] total = total
rows_room nodes attributes (row ∷ rows) total =
    rows_room nodes attributes rows (attributes_room attributes (node_at nodes row).attribute_count (node_at nodes row).first_attribute total)

-- attribute rows that can be counted, and a total that is not too large
pub record Totals (first count total : ℕ) : Type 0 where
  pub counted : first + count < 2 ^ 64
  pub most : total ≤ room_most

-- what a path asks for
abbrev pub path_asked : Path → ℕ
path_asked p = values_along p + 2 * attributes_along p

-- what a call is lent, and stores of the least lengths for so many bytes, which are enough for the sheets and the path
pub record FrontLent (agent user author : List ℕ) (p : Path) (room : ℕ) (out rules tokens brackets texts : List ℕ) : Type 0 where
  pub lent : Lent agent user author rules tokens brackets texts
  pub call : CallLent (length agent + length user + length author) p out rules tokens brackets texts
  pub enough : length agent + length user + length author + path_asked p ≤ room
  pub least : Least room (length rules) (length tokens) (length brackets) (length texts)
