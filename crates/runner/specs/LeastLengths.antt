-- The least lengths of what a run is lent. "nodes and attributes are the list lengths divided by 6 and 4, rounded down."
use Rattle.std.specs.Prelude.{ℕ, ◌+◌, ◌*◌, ◌≤◌, ◌≡◌, refl, List, length, replicate}
use Rattle.combinators.specs.LeastLengths.{text_least}
use Rattle.cascade.specs.Row.{style_row_width}
use Rattle.page.specs.Rows.{node_width, node_count, attribute_width, attribute_rows}
use Rattle.runner.specs.State.{depths, part_width}
use Rattle.page.specs.Lent.{Page}

-- "For inline styles a run takes N as name bytes plus twice the attributes", as lent, what is left over at their ends included
abbrev pub run_text_bytes : Page → ℕ
run_text_bytes g = length g.text + 2 * attribute_rows g.attributes

-- "A run over c compiled bytes needs 65 × (c+1) bytes of state" and the numbers of a style row for each node (S-9: "A style row now has 183 numbers, and least lengths follow.")
abbrev pub state_least : List ℕ → ℕ
state_least code = depths * part_width code

abbrev pub rows_least : Page → ℕ
rows_least g = node_count g.nodes * style_row_width

-- rows and state of these lengths or longer, whatever they hold
pub record RunLent (code : List ℕ) (g : Page) (rows state : List ℕ) : Type 0 where
  pub for-rows : rows_least g ≤ length rows
  pub for-state : state_least code ≤ length state

-- 15 compiled bytes; two nodes, an attribute and half of one, 3 bytes of text
test-lengths :
    let g : Page = record { nodes = replicate (2 * node_width) 0; attributes = replicate (attribute_width + 2) 0; text = replicate 3 0 } in
    (state_least (replicate 15 0) ≡ 65 * 16) × (rows_least g ≡ 2 * 183) × (text_least (run_text_bytes g) ≡ 2 * (3 + 2) + 12)
test-lengths = (refl, refl, refl)
