-- Sheets: `parse_ruleset`, `parse_at_rule`, `parse_statement` and `parse_stylesheet` of src/css/parser.rs.
use Rattle.std.specs.Prelude.{ℕ, zero, suc, ◌+◌, true, List, [], ◌∷◌, ◌++◌, map, length, get_or, drop}
use Prim.Native.Char.{code as ascii}
use Rattle.combinators.specs.Choice.{pick, is}
use Rattle.combinators.specs.Parsed.{on_parsed}
use Rattle.lexer.specs.Name.{ident_of}
use Rattle.lexer.specs.Whitespace.{skip_whitespace}
use Rattle.syntax.specs.Declaration.{Declaration}
use Rattle.syntax.specs.Selector.{RuleSet}
use Rattle.values.specs.Value.{statement_of}
use Rattle.declarations.specs.Rules.{starts_at, declarations_of}
use Rattle.selectors.specs.Outcome.{Outcome, reads, fails, panics, on_outcome, behind, or_else}
use Rattle.selectors.specs.SelectorList.{selectors_of}

-- the place behind white space and comments from i on
unfoldable pub spaced : List ℕ → ℕ → ℕ
spaced t i = i + skip_whitespace (drop i t)

-- ---- `parse_ruleset`. Behind n bytes: '{', declarations, ';' or none, '}', with white space or none between them and behind

-- the place behind a ';' at e, or e where there is none
unfoldable pub past_semicolon : List ℕ → ℕ → ℕ
past_semicolon t e = pick (is (get_or t e 0) (ascii ";")) (e + 1) e

-- where '}' should stand behind declarations that end at n
unfoldable pub before_end : List ℕ → ℕ → ℕ
before_end t n = spaced t (past_semicolon t (spaced t n))

unfoldable pub block_of : List ℕ → ℕ → Outcome (List Declaration)
block_of t n =
    let o = spaced t n in
    let d = spaced t (o + 1) in
    let r = declarations_of (drop d t) in
    let f = before_end t (d + r.taken) in
    pick (is (get_or t o 0) (ascii "{"))
    (pick (is (get_or t f 0) (ascii "}")) (reads (spaced t (f + 1)) (map (starts_at d) r.declarations)) fails)
    fails

unfoldable pub ruleset_of : List ℕ → Outcome RuleSet
ruleset_of t =
    let w = skip_whitespace t in
    on_outcome (selectors_of (drop w t)) (λ n ss. behind 0 (block_of t (w + n)) (λ ds. record { selectors = ss; declarations = ds; start = w })) fails
    (λ p. panics (w + p))

-- ---- `parse_at_rule`: '@', a name, and all to the end of the statement, its ';' included

-- a statement that goes on at n, and says nothing
unfoldable pub statement_end : List ℕ → ℕ → Outcome (List RuleSet)
statement_end t n = let r = statement_of true (drop n t) in pick r.balanced (reads (n + r.taken) []) fails

unfoldable pub at_rule_of : List ℕ → Outcome (List RuleSet)
at_rule_of t =
    let a = skip_whitespace t in
    let i = spaced t (a + 1) in
    pick (is (get_or t a 0) (ascii "@")) (on_parsed (ident_of (drop i t)) (λ n name. statement_end t (i + n)) fails) fails

-- `parse_statement`: a rule, or an at-rule, which says nothing
unfoldable pub statements_of : List ℕ → Outcome (List RuleSet)
statements_of t = or_else (behind 0 (ruleset_of t) (λ r. r ∷ [])) (at_rule_of t)

-- a rule that stands at a byte, and rules
unfoldable pub moved_by : ℕ → RuleSet → RuleSet
moved_by at r = record { selectors = r.selectors; declarations = map (starts_at at) r.declarations; start = at + r.start }

unfoldable pub moved_to : ℕ → Outcome (List RuleSet) → Outcome (List RuleSet)
moved_to at o = behind 0 o (map (moved_by at))

-- ---- `parse_stylesheet`: statements as long as they read, from the rest t on, which starts at `at`; the first number is no less than the bytes
-- left. It reads to the first byte not read, or the crate panics; it never fails. "Skipping a bad rule and reading on" would be wrong.
unfoldable pub sheet_from : ℕ → List ℕ → ℕ → Outcome (List RuleSet)
sheet_from zero t at = reads at []
sheet_from (suc l) t at =
    on_outcome (statements_of t)
    (λ n rs. behind 0 (sheet_from l (drop n t) (at + n)) (λ more. map (moved_by at) rs ++ more))
    (reads at []) (λ p. panics (at + p))

-- "The answer is the rules and the place of the first byte not read. Stopping early is an accepted answer."
unfoldable pub sheet_of : List ℕ → Outcome (List RuleSet)
sheet_of s = sheet_from (length s) s 0
