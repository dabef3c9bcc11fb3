-- What `comparison_matches` returns: whether a selector matches the path of an element, and its specificity.
use Rattle.std.specs.Prelude.{ℕ, ◌*◌, Bool, List, leb, ltb, length, Result, Ok, Err}
use Rattle.combinators.specs.Choice.{pick, is}
use Rattle.combinators.specs.Refusal.{refused, too_long, short_store, no_element}
use Rattle.combinators.specs.declared.refusals.Refusal.{Refusal}
use Rattle.syntax.specs.Layout.{flag}
use Rattle.syntax.specs.RuleLayout.{component_width}
use Rattle.syntax.specs.Selector.{Component}
use Rattle.cascade.specs.declared.specificity.Specificity.{Specificity}
use Rattle.sheets.specs.SheetAnswer.{sheet_limit}
use Rattle.page.specs.Accepted.{error_refusal, page_refusal}
use Rattle.page.specs.Path.{Path}
use Rattle.page.specs.PathOf.{path_of}
use Rattle.matching.specs.Matches.{matches}
use Rattle.matching.specs.Rows.{components_at}
use Rattle.matching.specs.Specificity.{specificity}
use Rattle.styling.specs.StyleAnswer.{is_element}
use Rattle.comparison.specs.declared.matches.Match.{Match}
use Rattle.comparison.specs.declared.matches.MatchError.{MatchError}
use Rattle.comparison.specs.declared.matches.MatchError.TheVariants.{TooLong, ShortStore, BadPage, NoElement}
use Rattle.comparison.specs.declared.matches.MatchResult.{MatchResult}

-- the most components that a selector may have here: as many as a sheet may have bytes, for each takes one
abbrev pub component_limit : ℕ
component_limit = sheet_limit

-- a refusal by its number and place; all else is 0
abbrev pub refused_match : Refusal → MatchResult
refused_match r = record { refusal = r.number; place = r.place; matches = 0; ids = 0; classes = 0; types = 0 }

-- why a row is not asked, in numbers
unfoldable pub match_refusal : MatchError → Refusal
match_refusal TooLong = refused too_long
match_refusal ShortStore = refused short_store
match_refusal (BadPage e) = error_refusal e
match_refusal NoElement = refused no_element

-- whether a selector matches, with the numbers of its specificity
unfoldable pub answered_match : Bool → Specificity → MatchResult
answered_match m s = record { refusal = 0; place = 0; matches = flag m; ids = s.id; classes = s.class; types = s.typ }

-- an answer as a struct of numbers
unfoldable pub match_result : Result Match MatchError → MatchResult
match_result (Ok m) = answered_match m.matches m.specificity
match_result (Err e) = refused_match (match_refusal e)

-- what is asked: the components, rightmost first, and the path of the row
unfoldable pub selector_match : List Component → Path → MatchResult
selector_match cs path = answered_match (matches cs path) (specificity cs)

-- of an accepted page
unfoldable pub row_match : List ℕ → ℕ → List ℕ → List ℕ → List ℕ → List ℕ → ℕ → MatchResult
row_match components count texts nodes attributes text row =
    pick (is_element nodes row) (selector_match (components_at texts components count) (path_of nodes attributes text row)) (refused_match (refused no_element))

-- of a page with a refusal, whose number is 0 where there is none
unfoldable pub page_match : Refusal → MatchResult → MatchResult
page_match r answer = pick (is r.number 0) answer (refused_match r)

-- the lowest number that applies
unfoldable pub match_called : List ℕ → ℕ → List ℕ → List ℕ → List ℕ → List ℕ → ℕ → MatchResult
match_called components count texts nodes attributes text row =
    pick (ltb component_limit count) (refused_match (refused too_long))
    (pick (leb (component_width * count) (length components))
    (page_match (page_refusal nodes attributes text) (row_match components count texts nodes attributes text row))
    (refused_match (refused short_store)))
