-- A selector that is lent, by the lists that its parts refer to, and what is said of it on the rows of a page that is lent.
use Rattle.std.specs.Prelude.{ℕ, List}
use Rattle.syntax.specs.Selector.{Component}
use Rattle.page.specs.declared.lent.Page as lent
use Rattle.matching.specs.Climb.{climb_of, first_reaching}
use Rattle.matching.specs.Rows.{components_at}
use Rattle.matching.specs.Topmost.{topmost, selector_top, reached_number, selector_number, RightTop, RightNumber}
use Rattle.matching.specs.declared.components.Selector as code
use Rattle.matching.specs.declared.matcher.Climbed.{Climbed}

-- its components, rightmost first
abbrev pub components_in : code.Selector → List Component
components_in s = components_at s.store.now s.components.now s.left

-- ---- on the rows of a page
abbrev pub climb_in : lent.Page → List Component → ℕ → Climbed
climb_in g cs row = climb_of g.nodes.now g.attributes.now g.text.now cs row

abbrev pub first_reaching_in : lent.Page → List Component → List ℕ → ℕ
first_reaching_in g cs rows = first_reaching g.nodes.now g.attributes.now g.text.now cs rows

abbrev pub topmost_in : lent.Page → List Component → ℕ → ℕ
topmost_in g cs row = topmost g.nodes.now g.attributes.now g.text.now cs row

abbrev pub selector_top_in : lent.Page → ℕ → List Component → ℕ
selector_top_in g row cs = selector_top g.nodes.now g.attributes.now g.text.now row cs

abbrev pub reached_number_in : lent.Page → ℕ → List Component → ℕ
reached_number_in g row cs = reached_number g.nodes.now g.attributes.now g.text.now row cs

abbrev pub selector_number_in : lent.Page → ℕ → List Component → ℕ
selector_number_in g row cs = selector_number g.nodes.now g.attributes.now g.text.now row cs

abbrev pub RightTopIn : lent.Page → List Component → ℕ → ℕ → Type 0
RightTopIn g cs row top = RightTop g.nodes.now g.attributes.now g.text.now cs row top

abbrev pub RightNumberIn : lent.Page → List Component → ℕ → ℕ → Type 0
RightNumberIn g cs row top = RightNumber g.nodes.now g.attributes.now g.text.now cs row top
