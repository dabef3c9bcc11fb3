-- Which selectors match, found while a path is gone down once. Descendant steps cut a selector into segments, each a chain of compounds joined by child
-- steps. Of a selector we keep how many segments, from the left, are done above, and of the next one, for each compound, whether it may end here: what stands
-- left of it ended at the parent. Segments that are done need not be looked at again, and those right of the next one cannot have begun.
use Rattle.std.specs.Prelude.{ℕ, suc, Bool, true, false, List, [], ◌∷◌, map, ◌≡◌, refl, get_or, drop}
use Rattle.combinators.specs.Choice.{pick, or, and, is}
use Rattle.combinators.specs.Word.{starts_with, same_text}
use Rattle.characters.specs.Literal.{text}
use Rattle.characters.specs.Utf8.{utf8}
use Rattle.syntax.specs.Selector.{Component, star, class, element, hash, child, descendant, nth, attribute, attribute_equal}
use Rattle.page.specs.Path.{Path}
use Rattle.matching.specs.Matches.{step, here, on_parent, on_ancestors, name_is, named}

-- ---- a selector, rightmost first as it is compiled

-- a test of the node itself, a child step, a descendant step
pub data Piece : Type 0 where
  test : Component → Piece
  direct : Piece
  anywhere : Piece

-- a component as a piece
unfoldable pub piece : Component → Piece
piece child = direct
piece descendant = anywhere
piece star = test star
piece (class x) = test (class x)
piece (element x) = test (element x)
piece (hash x) = test (hash x)
piece (nth a b) = test (nth a b)
piece (attribute x) = test (attribute x)
piece (attribute_equal x y) = test (attribute_equal x y)

-- how many descendant steps there are: one less than segments
unfoldable pub steps : List Piece → ℕ
steps [] = 0
steps (test c ∷ ws) = steps ws
steps (direct ∷ ws) = steps ws
steps (anywhere ∷ ws) = suc (steps ws)

-- the segment number k from the left, with all left of it
unfoldable pub segment : ℕ → List Piece → List Piece
segment k [] = []
segment k (x ∷ ws) = pick (is (steps (x ∷ ws)) k) (x ∷ ws) (segment k ws)

-- ---- a segment at a node

-- the node that a path begins with, alone: an element, or the document
abbrev pub alone : Path → Path
alone [] = []
alone (e ∷ up) = e ∷ []

-- a test of the node alone
unfoldable pub tested : Path → Component → Bool
tested node c = step c (λ _. true) node

-- for each compound of the first segment whether it ends here; behind them that the leftmost may end anywhere. `ok` says whether the compound may end here, and so far does;
-- `may` says of the other compounds whether they may
unfoldable pub sweep : Path → Bool → List Piece → List Bool → List Bool
sweep node ok [] may = ok ∷ true ∷ []
sweep node ok (test c ∷ ws) may = sweep node (and ok (tested node c)) ws may
sweep node ok (direct ∷ ws) may = ok ∷ sweep node (get_or may 0 false) ws (drop 1 may)
sweep node ok (anywhere ∷ ws) may = ok ∷ true ∷ []

-- where nothing of it has begun, only the leftmost may
unfoldable pub fresh : List Piece → List Bool
fresh [] = true ∷ []
fresh (test c ∷ ws) = fresh ws
fresh (direct ∷ ws) = false ∷ fresh ws
fresh (anywhere ∷ ws) = true ∷ []

-- ---- down a path

-- what is kept of a selector on the way: how many segments are done, and which compounds of the next may end
pub record State : Type 0 where
  pub done : ℕ
  pub may : List Bool

-- what a node answers: whether the selector matches there, and what its children are told
pub record Visit : Type 0 where
  pub matched : Bool
  pub below : State

-- k segments are done, and of the next nothing has begun
unfoldable pub awaiting : ℕ → List Piece → State
awaiting k ws = record { done = k; may = fresh (segment k ws) }

-- by what was swept: a segment that ends here is done; the last one is never done, but matches
unfoldable pub settled : List Piece → ℕ → List Bool → Visit
settled ws k swept =
    let stay : State = record { done = k; may = drop 1 swept } in
    pick (is k (steps ws)) (record { matched = get_or swept 0 false; below = stay })
    (record { matched = false; below = pick (get_or swept 0 false) (awaiting (suc k) ws) stay })

-- at a node, by what it is told
unfoldable pub visit : Path → List Piece → State → Visit
visit node ws s = settled ws s.done (sweep node (get_or s.may 0 false) (segment s.done ws) (drop 1 s.may))

-- what the node that a path begins with is told
unfoldable pub arriving : List Piece → Path → State
arriving ws [] = awaiting 0 ws
arriving ws (e ∷ up) = (visit (alone up) ws (arriving ws up)).below

-- whether the selector matches there
unfoldable pub matches_down : List Component → Path → Bool
matches_down cs p = (visit (alone p) (map piece cs) (arriving (map piece cs) p)).matched

-- ---- cases

-- `a > b` at b in a, and at b in c in a; `a b > c` at c in b in c in a; `* p` at a p in the document; two steps side by side; a step at the left end, and one at the right; no component
test-down : (matches_down (element (text "b") ∷ child ∷ element (text "a") ∷ []) (named (text "b") ∷ named (text "a") ∷ []) ≡ true)
    × (matches_down (element (text "b") ∷ child ∷ element (text "a") ∷ []) (named (text "b") ∷ named (text "c") ∷ named (text "a") ∷ []) ≡ false)
    × (matches_down (element (text "c") ∷ child ∷ element (text "b") ∷ descendant ∷ element (text "a") ∷ []) (named (text "c") ∷ named (text "b") ∷ named (text "c") ∷ named (text "a") ∷ []) ≡ true)
    × (matches_down (element (text "p") ∷ descendant ∷ star ∷ []) (named (text "p") ∷ []) ≡ true)
    × (matches_down (descendant ∷ descendant ∷ []) (named (text "p") ∷ []) ≡ false)
    × (matches_down (descendant ∷ descendant ∷ []) (named (text "p") ∷ named (text "p") ∷ []) ≡ true)
    × (matches_down (element (text "p") ∷ child ∷ []) (named (text "p") ∷ []) ≡ true) × (matches_down (child ∷ element (text "p") ∷ []) (named (text "p") ∷ []) ≡ false)
    × (matches_down [] [] ≡ true)
unfolding matches_down visit settled arriving awaiting sweep fresh segment steps piece tested step here on_parent on_ancestors name_is same_text starts_with named text utf8 pick or and is
test-down = (refl, refl, refl, refl, refl, refl, refl, refl, refl)
