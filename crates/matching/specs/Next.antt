-- What the search for the next ancestor of an element answers.
use Rattle.std.specs.Prelude.{ℕ, List, MatchOption, Option}
use Rattle.matching.specs.Climb.{NextAncestor, NoneLeft}
use Rattle.matching.specs.declared.components.Selector as selector
use Rattle.matching.specs.declared.elements.Element as code

-- the row of the ancestor that a selector is tried on next, if there is one, where these are the numbers of the page's attributes
abbrev pub IsNextWith : selector.Selector → code.Element → List ℕ → Option ℕ → Type 0
IsNextWith s e attributes o =
    MatchOption o (NoneLeft s.store.now s.components.now e.page.nodes.now attributes e.page.text.now s.left e.row)
    (NextAncestor s.store.now s.components.now e.page.nodes.now attributes e.page.text.now s.left e.row)

-- the same with those that the page has
abbrev pub IsNext : selector.Selector → code.Element → Option ℕ → Type 0
IsNext s e o = IsNextWith s e e.page.attributes.now o
