-- Where the declarations of a sheet start: within its text. So a start of a text of fewer than 2^32 bytes is a number of 32 bits.
use mathlib.Core.Path.{◌≡◌, ap}
use mathlib.Core.Bool.{false}
use mathlib.Core.List.{List, [], map}
use Prim.Native.Nat.{ℕ, zero, suc, ◌+◌, ◌≤◌}
use native.Mathlib.Omega.{arith}
use lib.ListN.{length, get_or, drop, length-drop}
use Prim.Native.Char.{code as ascii}
use Rattle.combinators.specs.Choice.{is}
use Rattle.combinators.specs.All.{All}
use Rattle.combinators.specs.Parsed.{Parsed, ok, err}
use Rattle.combinators.proofs.Lists.{byte-there}
use Rattle.combinators.proofs.Rules.{pick-holds}
use Rattle.combinators.proofs.AllLaws.{all_append, all_map, all_weaker}
use Rattle.lexer.specs.Name.{ident_of}
use Rattle.lexer.specs.Whitespace.{skip_whitespace}
use Rattle.lexer.proofs.TokenBounds.{on-holds}
use Rattle.lexer.proofs.Comments.{skip-le, skip-from-le}
use Rattle.syntax.specs.Declaration.{Declaration}
use Rattle.syntax.specs.RuleLayout.{selector_head}
use Rattle.syntax.specs.Selector.{RuleSet}
use Rattle.values.specs.Value.{value_of}
use Rattle.declarations.specs.Rules.{Rules, property_of, value_behind, declaration_of, starts_at, more_rules, declarations_of}
use Rattle.declarations.proofs.Declaring.{takes}
use Rattle.selectors.specs.Outcome.{Outcome, reads, fails, panics}
use Rattle.selectors.specs.SelectorList.{selectors_of}
use Rattle.selectors.proofs.AllLaws.{Where, where-read, where-behind, where-then, where-else}
use Rattle.selectors.proofs.SelectorBounds.{SelectorsKeep, selectors-keep}
use Rattle.sheets.specs.Sheet.{spaced, block_of, ruleset_of, statement_end, at_rule_of, statements_of, moved_by, sheet_from, sheet_of}
use Rattle.sheets.proofs.SheetBounds.{RulesKeep, statements-keep}

-- ---- declarations that start no further than a byte
abbrev pub StartWithin : ℕ → List Declaration → Type 0
StartWithin n ds = All (λ d. d.start ≤ n) ds

-- one starts within its text
own-start : (s : List ℕ) (n : ℕ) (d : Declaration) → declaration_of s ≡ ok n d → d.start ≤ length s
unfolding declaration_of value_behind
own-start s n d =
    on-holds P (property_of s) _ err
    (λ v name _. on-holds P (value_of (drop v s)) _ err (λ m value _ e. let q = of e in omega (arith, q, skip-le s)) (λ _. none))
    (λ _. none)
  where
    P : Parsed Declaration → Type 0
    P p = p ≡ ok n d → d.start ≤ length s

    none : P err
    none e = absurd (let z : ◌≡◌ {A = ℕ} 0 1 = cc in omega arith)

    of : {m : ℕ} {x : Declaration} → ◌≡◌ {A = Parsed Declaration} (ok m x) (ok n d) → x.start ≡ d.start
    of {m} {x} e = let q : x ≡ d = cc in ap (λ (y : Declaration). y.start) q

-- those that start within a text start within a longer one
further : (m n : ℕ) → m ≤ n → (ds : List Declaration) → StartWithin m ds → StartWithin n ds
further m n h ds k = all_weaker (λ (d : Declaration). d.start ≤ m) (λ (d : Declaration). d.start ≤ n) (λ d l. omega arith) ds k

-- behind a first one
more-start : (l : ℕ) (s : List ℕ) (at : ℕ) → StartWithin (at + length s) (more_rules l s at).declarations
unfolding more_rules starts_at
more-start zero s at = tt
more-start (suc l) s at =
    let w = 1 + skip_whitespace (drop 1 s) in
    pick-holds P (is (get_or s 0 0) (ascii ";")) _ _
    (λ t. let h : w ≤ length s = omega (arith, byte-there s 0 (ascii ";") (omega arith) t, skip-le (drop 1 s), length-drop 1 s) in
    on-holds P (declaration_of (drop w s)) _ _
    (λ n d e. let k = length-drop w s in
    let b = (takes false (drop w s) n d e).within in
    let r = more_rules l (drop (w + n) s) (at + (w + n)) in (
      omega (arith, own-start (drop w s) n d e),
      further (at + (w + n) + length (drop (w + n) s)) (at + length s) (omega (arith, length-drop (w + n) s)) r.declarations (more-start l (drop (w + n) s) (at + (w + n))),
    ))
    (λ _. tt))
    (λ _. tt)
  where
    P : Rules → Type 0
    P r = StartWithin (at + length s) r.declarations

-- all of a text
pub declarations-start : (s : List ℕ) → StartWithin (length s) (declarations_of s).declarations
unfolding declarations_of
declarations-start s =
    on-holds (λ (r : Rules). StartWithin (length s) r.declarations) (declaration_of s) _ _
    (λ n d e. let b = (takes false s n d e).within in (
      own-start s n d e,
      further (n + length (drop n s)) (length s) (omega (arith, length-drop n s)) (more_rules (length s) (drop n s) n).declarations (more-start (length s) (drop n s) n),
    ))
    (λ _. tt)

-- moved to where their part of a text starts
moved-start : (at m n : ℕ) → at + m ≤ n → (ds : List Declaration) → StartWithin m ds → StartWithin n (map (starts_at at) ds)
unfolding starts_at
moved-start at m n h ds k = all_map (λ (d : Declaration). d.start ≤ m) (λ (d : Declaration). d.start ≤ n) (starts_at at) (λ d l. omega arith) ds k

-- ---- of a rule: where it starts and where its declarations do
abbrev pub RuleStarts : ℕ → RuleSet → Type 0
RuleStarts n r = StartWithin n r.declarations

-- those of a block that reads
block-starts : (s : List ℕ) (n : ℕ) → Where (length s) (λ _ ds. StartWithin (length s) ds) (block_of s n)
unfolding block_of spaced
block-starts s n =
    let o = spaced s n in
    let b = spaced s (o + 1) in
    pick-holds (Where (length s) (λ (_ : ℕ) ds. StartWithin (length s) ds)) (is (get_or s o 0) (ascii "{")) _ _
    (λ e. let h : b ≤ length s = skip-from-le s (o + 1) (omega (arith, byte-there s o (ascii "{") (omega arith) e)) in
    pick-holds (Where (length s) (λ (_ : ℕ) ds. StartWithin (length s) ds)) _ _ _
    (λ _. moved-start b (length (drop b s)) (length s) (omega (arith, length-drop b s)) (declarations_of (drop b s)).declarations (declarations-start (drop b s)))
    (λ _. tt))
    (λ _. tt)

-- of a rule that reads
rule-starts : (s : List ℕ) → Where (length s) (λ _ r. RuleStarts (length s) r) (ruleset_of s)
unfolding ruleset_of
rule-starts s =
    let w = skip_whitespace s in
    where-then (length (drop w s)) (length s) (SelectorsKeep selector_head (drop w s)) (λ (_ : ℕ) r. RuleStarts (length s) r) (selectors_of (drop w s)) _ fails _
    (λ n xs _. where-behind (length s) (length s) (λ (_ : ℕ) ds. StartWithin (length s) ds) (λ (_ : ℕ) r. RuleStarts (length s) r) 0 (block_of s (w + n)) _ (λ _ ds k. k)
    (omega arith) (block-starts s (w + n)))
    tt (λ p h. omega (arith, skip-le s, length-drop w s)) (selectors-keep (drop w s))

-- an at-rule leaves no rule, and so none that starts outside the text
at-rule-starts : (s : List ℕ) → Where (length s) (λ _ rs. All (RuleStarts (length s)) rs) (at_rule_of s)
unfolding at_rule_of statement_end
at-rule-starts s =
    pick-holds W _ _ _
    (λ _. on-holds W (ident_of (drop (spaced s (skip_whitespace s + 1)) s)) _ _ (λ n name _. pick-holds W _ _ _ (λ _. tt) (λ _. tt)) (λ _. tt))
    (λ _. tt)
  where
    W : Outcome (List RuleSet) → Type 0
    W = Where (length s) (λ (_ : ℕ) rs. All (RuleStarts (length s)) rs)

-- of a statement that reads
statement-starts : (s : List ℕ) → Where (length s) (λ _ rs. All (RuleStarts (length s)) rs) (statements_of s)
unfolding statements_of
statement-starts s =
    where-else (length s) (λ (_ : ℕ) rs. All (RuleStarts (length s)) rs) _ _
    (where-behind (length s) (length s) (λ (_ : ℕ) r. RuleStarts (length s) r) (λ (_ : ℕ) rs. All (RuleStarts (length s)) rs) 0 (ruleset_of s) _ (λ _ r k. (k, tt)) (omega arith) (rule-starts s))
    (at-rule-starts s)

-- two things that hold of what is read hold together
where-both : {A : Type 0} (m : ℕ) (P Q : ℕ → A → Type 0) (o : Outcome A) → Where m P o → Where m Q o → Where m (λ n a. P n a × Q n a) o
where-both m P Q (reads n a) p q = (p, q)
where-both m P Q fails p q = tt
where-both m P Q (panics i) p q = p

-- rules moved to where their part of a text starts
moved-rules : (at m n : ℕ) → at + m ≤ n → (rs : List RuleSet) → All (RuleStarts m) rs → All (RuleStarts n) (map (moved_by at) rs)
unfolding moved_by
moved-rules at m n h rs k = all_map (RuleStarts m) (RuleStarts n) (moved_by at) (λ r l. moved-start at m n h r.declarations l) rs k

-- ---- a sheet, from a byte on
from-starts : (l : ℕ) (s : List ℕ) (at : ℕ) → Where (at + length s) (λ _ rs. All (RuleStarts (at + length s)) rs) (sheet_from l s at)
unfolding sheet_from
from-starts zero s at = tt
from-starts (suc l) s at =
    where-then (length s) (at + length s) (λ n rs. RulesKeep s n rs × All (RuleStarts (length s)) rs) (λ (_ : ℕ) rs. All (RuleStarts (at + length s)) rs) (statements_of s) _ (reads at []) _
    (λ n rs h. let e : at + n + length (drop n s) ≡ at + length s = omega (arith, h.0.within, length-drop n s) in
    where-behind (at + n + length (drop n s)) (at + length s) (λ (_ : ℕ) more. All (RuleStarts (at + n + length (drop n s))) more) (λ (_ : ℕ) rs. All (RuleStarts (at + length s)) rs) 0
    (sheet_from l (drop n s) (at + n)) _
    (λ _ more k. all_append (RuleStarts (at + length s)) (map (moved_by at) rs) more (moved-rules at (length s) (at + length s) (omega arith) rs h.1) (rw e at k))
    (omega arith) (from-starts l (drop n s) (at + n)))
    tt (λ p h. omega arith) (where-both (length s) (RulesKeep s) (λ (_ : ℕ) rs. All (RuleStarts (length s)) rs) (statements_of s) (statements-keep s) (statement-starts s))

-- every declaration of a sheet that reads starts within it
pub sheet-starts : (s : List ℕ) (stop : ℕ) (rs : List RuleSet) → sheet_of s ≡ reads stop rs → All (RuleStarts (length s)) rs
unfolding sheet_of
sheet-starts s stop rs e =
    let h : 0 + length s ≡ length s = omega arith in
    let k = where-read (0 + length s) (λ (_ : ℕ) rs. All (RuleStarts (0 + length s)) rs) (sheet_from (length s) s 0) stop rs e (from-starts (length s) s 0) in
    rw h at k
