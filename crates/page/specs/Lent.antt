-- A page that is lent, by the lists that its parts refer to.
use Rattle.std.specs.Prelude.{ℕ, List}
use Rattle.page.specs.Path.{Element, Path}
use Rattle.page.specs.PathOf.{element_at, path_of}
use Rattle.page.specs.declared.lent.Page as code

-- the numbers of nodes and attributes, and the byte text
pub record Page : Type 0 where
  pub nodes : List ℕ
  pub attributes : List ℕ
  pub text : List ℕ

-- what the struct of the code refers to
abbrev pub page_in : code.Page → Page
page_in g = record { nodes = g.nodes.now; attributes = g.attributes.now; text = g.text.now }

-- a row of the page as an element, and with those above it
abbrev pub element_in : code.Page → ℕ → Element
element_in g row = element_at g.nodes.now g.attributes.now g.text.now row

abbrev pub path_in : code.Page → ℕ → Path
path_in g row = path_of g.nodes.now g.attributes.now g.text.now row
