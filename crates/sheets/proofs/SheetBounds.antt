-- How much the rules of a sheet can hold, over the definition of its meaning: where reading stopped bounds their number, the numbers of their
-- rows and the bytes of their texts; the numbers of an+b and all colours fit.
use mathlib.Core.Path.{◌≡◌, refl, ap, sym, subst, ◌∙◌}
use mathlib.Core.Bool.{true}
use mathlib.Core.List.{List, [], ◌∷◌, ◌++◌, map}
use Prim.Native.Nat.{ℕ, zero, suc, ◌+◌, ◌*◌, ◌≤◌, ◌<◌}
use native.Mathlib.Nat.{zero-add}
use native.Mathlib.Omega.{arith}
use lib.ListN.{length, get_or, drop, length-append, length-drop, length-map}
use Prim.Native.Char.{code as ascii}
use Rattle.combinators.specs.Choice.{is}
use Rattle.combinators.specs.All.{All}
use Rattle.combinators.proofs.Lists.{byte-there}
use Rattle.combinators.proofs.Rules.{pick-holds}
use Rattle.combinators.proofs.AllLaws.{all_append, all_map}
use Rattle.lexer.specs.Name.{ident_of}
use Rattle.lexer.specs.Whitespace.{skip_whitespace}
use Rattle.lexer.proofs.IdentBounds.{ident-fits}
use Rattle.lexer.proofs.TokenBounds.{on-holds}
use Rattle.lexer.proofs.Comments.{skip-le, skip-from-le}
use Rattle.syntax.specs.Declaration.{Declaration}
use Rattle.syntax.specs.Layout.{declaration_text, declaration_texts}
use Rattle.syntax.specs.RuleLayout.{selector_head, selector_texts, rule_row, rule_text, rule_rows, rule_texts}
use Rattle.syntax.specs.RuleSize.{sizes, rule_size}
use Rattle.syntax.specs.Selector.{Selector, RuleSet}
use Rattle.syntax.specs.Stream.{texts_many}
use Rattle.syntax.proofs.Back.{DeclarationsFit}
use Rattle.syntax.proofs.RowSizes.{length-rules}
use Rattle.syntax.proofs.RuleRows.{RulesFit}
use Rattle.syntax.proofs.Streams.{texts-append}
use Rattle.values.proofs.Sizes.{statement-sized}
use Rattle.declarations.specs.Leaving.{kept, rules_of}
use Rattle.declarations.specs.Rules.{Rules, starts_at, declarations_of}
use Rattle.declarations.proofs.StyleAttribute.{bounded}
use Rattle.selectors.specs.Outcome.{reads, fails}
use Rattle.sheets.specs.Rules.{block_at, rule_width}
use Rattle.selectors.specs.SelectorList.{selectors_of}
use Rattle.sheets.specs.Sheet.{spaced, past_semicolon, before_end, block_of, ruleset_of, statement_end, at_rule_of, statements_of, moved_by, moved_to, sheet_from, sheet_of}
use Rattle.selectors.proofs.AllLaws.{sizes-append, sizes-map, texts-map, Where, where-read, where-behind, where-then, where-else}
use Rattle.sheets.proofs.BlockLaws.{named-same, end-behind}
use Rattle.selectors.proofs.ComponentKeeps.{Small}
use Rattle.selectors.proofs.SelectorBounds.{SelectorsKeep, selectors-keep}

-- ---- declarations
-- the text of one does not depend on where it starts
starts-text : (at : ℕ) (d : Declaration) → declaration_text (starts_at at d) ≡ declaration_text d
unfolding declaration_text starts_at
starts-text at d = refl

-- nor do those of more
starts-texts : (at : ℕ) (ds : List Declaration) → declaration_texts (map (starts_at at) ds) ≡ declaration_texts ds
unfolding declaration_texts
starts-texts at ds = texts-map declaration_text (starts_at at) (starts-text at) ds

-- nor is it changed where names are kept
kept-text : (d : Declaration) → declaration_text (kept true 0 d) ≡ declaration_text d
unfolding declaration_text kept
kept-text d = rw (named-same d.decl)

-- keeping names changes no text
kept-texts : (r : Rules) → declaration_texts (rules_of true 0 r) ≡ declaration_texts r.declarations
unfolding declaration_texts rules_of
kept-texts r = texts-map declaration_text (kept true 0) kept-text r.declarations

-- they fit wherever they start
starts_fit : (at : ℕ) (ds : List Declaration) → DeclarationsFit ds → DeclarationsFit (map (starts_at at) ds)
unfolding starts_at
starts_fit at [] h = tt
starts_fit at (d ∷ ds) h = (h.0, starts_fit at ds h.1)

-- ---- the block of a rule whose selectors end at n: two braces, a byte or more for each declaration, texts no longer than what was read
pub record BlockKeeps (s : List ℕ) (n stop : ℕ) (ds : List Declaration) : Type 0 where
  pub begun : n < length s
  pub within : stop ≤ length s
  pub counted : n + 2 + length ds ≤ stop
  pub short : n + 2 + length (declaration_texts ds) ≤ stop
  pub fit : DeclarationsFit ds

module _ (s : List ℕ) (n : ℕ) where
  -- where '{' should stand
  abbrev opens : ℕ
  opens = spaced s n

  -- where the declarations of a block start
  abbrev begins : ℕ
  begins = spaced s (opens + 1)

  -- what is read there
  abbrev found : Rules
  found = declarations_of (drop begins s)

  -- where '}' should stand
  abbrev closes : ℕ
  closes = before_end s (begins + found.taken)

  -- it stands behind the declarations
  closes-behind : begins + found.taken ≤ closes
  unfolding spaced before_end past_semicolon
  closes-behind = end-behind s (begins + found.taken) refl refl refl

  -- where both braces are there
  braced : opens < length s → closes < length s → BlockKeeps s n (spaced s (closes + 1)) (map (starts_at begins) found.declarations)
  unfolding spaced
  braced h i =
      let b = bounded true (drop begins s) in
      let e = length-drop begins s in
      let t = ap length (starts-texts begins found.declarations ∙ sym (kept-texts found)) in
      let q = closes-behind in
      record {
        begun = omega arith;
        within = skip-from-le s (closes + 1) (omega arith);
        counted = omega (arith, b.count, length-map found.declarations (starts_at begins));
        short = omega (arith, b.sharp (omega arith));
        fit = starts_fit begins found.declarations b.fit;
      }

  -- every block that reads
  pub block-keeps : Where (length s) (BlockKeeps s n) (block_of s n)
  unfolding block_of
  block-keeps =
      pick-holds (Where (length s) (BlockKeeps s n)) (is (get_or s opens 0) (ascii "{")) _ _
      (λ e. pick-holds (Where (length s) (BlockKeeps s n)) (is (get_or s closes 0) (ascii "}")) _ _
      (λ g. braced (byte-there s opens (ascii "{") (omega arith) e) (byte-there s closes (ascii "}") (omega arith) g)) (λ _. tt))
      (λ _. tt)

-- by where it starts in the whole text
pub block-at-keeps : (at : ℕ) (s : List ℕ) (n : ℕ) → Where (length s) (BlockKeeps s n) (block_at at s n)
unfolding block_at
block-at-keeps at s n =
    where-behind (length s) (length s) (BlockKeeps s n) (BlockKeeps s n) 0 (block_of s n) (map (starts_at at))
    (λ stop ds k. let e = length-map ds (starts_at at) in
    let t = ap length (starts-texts at ds) in
    record {
      begun = k.begun;
      within = omega (arith, k.within);
      counted = omega (arith, k.counted);
      short = omega (arith, k.short);
      fit = starts_fit at ds k.fit;
    })
    (omega arith) (block-keeps s n)

-- ---- rules
-- the numbers of an+b of a rule's selectors fit
abbrev pub RuleSmall : RuleSet → Type 0
RuleSmall r = All (λ x. All Small x.components) r.selectors

-- rules read from n bytes of s: a byte or more for each, eight numbers for each byte, texts no longer than what was read
pub record RulesKeep (s : List ℕ) (n : ℕ) (rs : List RuleSet) : Type 0 where
  pub within : n ≤ length s
  pub some : 1 ≤ n
  pub counted : length rs ≤ n
  pub wide : sizes rule_size rs ≤ rule_width * n
  pub long : length (rule_texts rs) ≤ n
  pub small : All RuleSmall rs
  pub fit : RulesFit rs

-- a rule whose selectors and block keep to the bounds does
one-rule : (s : List ℕ) (n stop : ℕ) (xs : List Selector) (ds : List Declaration)
    → SelectorsKeep selector_head (drop (skip_whitespace s) s) n xs → BlockKeeps s (skip_whitespace s + n) stop ds
    → RulesKeep s (0 + (0 + stop)) (record { selectors = xs; declarations = ds; start = skip_whitespace s } ∷ [])
unfolding rule_size rule_texts rule_text texts_many sizes
one-rule s n stop xs ds h k =
    let w = skip_whitespace s in
    let e = length-drop w s in
    let t = length-append (selector_texts xs) (declaration_texts ds) in
    let u = length-append (selector_texts xs ++ declaration_texts ds) [] in
    let x = h.sharp (omega (arith, k.begun)) in
    record {
      within = omega (arith, k.within);
      some = omega (arith, k.counted);
      counted = omega (arith, k.counted);
      wide = omega (arith, h.wide, k.counted);
      long = omega (arith, k.short);
      small = (h.small, tt);
      fit = (k.fit, tt);
    }

-- every rule that reads
rule-keeps : (s : List ℕ) → Where (length s) (λ n r. RulesKeep s (0 + n) (r ∷ [])) (ruleset_of s)
unfolding ruleset_of
rule-keeps s =
    let w = skip_whitespace s in
    where-then (length (drop w s)) (length s) (SelectorsKeep selector_head (drop w s)) (λ n r. RulesKeep s (0 + n) (r ∷ [])) (selectors_of (drop w s)) _ fails _
    (λ n xs h. where-behind (length s) (length s) (BlockKeeps s (w + n)) (λ m r. RulesKeep s (0 + m) (r ∷ [])) 0 (block_of s (w + n)) _ (λ stop ds k. one-rule s n stop xs ds h k)
    (omega arith) (block-keeps s (w + n)))
    tt (λ p h. omega (arith, skip-le s, length-drop w s)) (selectors-keep (drop w s))

-- ---- at-rules, of which nothing is kept
-- no rules, kept of some bytes of a text, are within the bounds of that text
no-rules : (s : List ℕ) (n : ℕ) → 1 ≤ n → n ≤ length s → RulesKeep s n []
unfolding rule_texts texts_many sizes
no-rules s n h i =
    record { within = i; some = h; counted = omega arith; wide = omega arith; long = omega arith; small = tt; fit = tt }

-- the end of a statement lies within the text, and keeps no rules
end-keeps : (s : List ℕ) (n : ℕ) → 1 ≤ n → n ≤ length s → Where (length s) (RulesKeep s) (statement_end s n)
unfolding statement_end
end-keeps s n h i =
    pick-holds (Where (length s) (RulesKeep s)) _ _ _
    (λ _. no-rules s _ (omega arith) (omega (arith, (statement-sized true (drop n s)).within, length-drop n s))) (λ _. tt)

-- every at-rule that reads
pub at-rule-keeps : (s : List ℕ) → Where (length s) (RulesKeep s) (at_rule_of s)
unfolding at_rule_of spaced
at-rule-keeps s =
    let a = skip_whitespace s in
    let i = a + 1 + skip_whitespace (drop (a + 1) s) in
    pick-holds (Where (length s) (RulesKeep s)) _ _ _
    (λ e. let h : i ≤ length s = skip-from-le s (a + 1) (omega (arith, byte-there s a (ascii "@") (omega arith) e)) in
    on-holds (Where (length s) (RulesKeep s)) (ident_of (drop i s)) _ _
    (λ n name g. let f = ident-fits (drop i s) n name g in end-keeps s (i + n) (omega arith) (omega (arith, f.within_text, length-drop i s))) (λ _. tt))
    (λ _. tt)

-- ---- every statement that reads
-- every statement that reads, a rule or an at-rule, keeps rules within the bounds of its text
pub statements-keep : (s : List ℕ) → Where (length s) (RulesKeep s) (statements_of s)
unfolding statements_of
statements-keep s =
    where-else (length s) (RulesKeep s) _ _
    (where-behind (length s) (length s) (λ n r. RulesKeep s (0 + n) (r ∷ [])) (RulesKeep s) 0 (ruleset_of s) _ (λ n r k. k) (omega arith) (rule-keeps s)) (at-rule-keeps s)

-- ---- rules moved to a byte
-- their rows are as long
moved-size : (at : ℕ) (r : RuleSet) → rule_size (moved_by at r) ≡ rule_size r
unfolding rule_size moved_by
moved-size at r = rw (length-map r.declarations (starts_at at))

-- their texts are the same
moved-text : (at : ℕ) (r : RuleSet) → rule_text (moved_by at r) ≡ rule_text r
unfolding rule_text moved_by
moved-text at r = rw (starts-texts at r.declarations)

-- moving a rule to its place in the text leaves its selectors as they are
moved-small : (at : ℕ) (r : RuleSet) → RuleSmall r → RuleSmall (moved_by at r)
unfolding moved_by
moved-small at r h = h

-- moving a rule to its place in the text leaves its colours as they are
moved_fit : (at : ℕ) (r : RuleSet) → DeclarationsFit r.declarations → DeclarationsFit (moved_by at r).declarations
unfolding moved_by
moved_fit at r h = starts_fit at r.declarations h

-- they hold as much
moved-keep : (at : ℕ) (s : List ℕ) (n : ℕ) (rs : List RuleSet) → RulesKeep s n rs → RulesKeep s n (map (moved_by at) rs)
unfolding rule_texts
moved-keep at s n rs k =
    record {
      within = k.within;
      some = k.some;
      counted = omega (arith, k.counted, length-map rs (moved_by at));
      wide = omega (arith, k.wide, sizes-map rule_size (moved_by at) (moved-size at) rs);
      long = omega (arith, k.long, ap length (texts-map rule_text (moved_by at) (moved-text at) rs));
      small = all_map RuleSmall RuleSmall (moved_by at) (moved-small at) rs k.small;
      fit = all_map (λ r. DeclarationsFit r.declarations) (λ r. DeclarationsFit r.declarations) (moved_by at) (moved_fit at) rs k.fit;
    }

-- ---- sheets
-- rules read from `at` on of so many bytes, up to `stop`
record FromKeeps (at size stop : ℕ) (rs : List RuleSet) : Type 0 where
  within : stop ≤ at + size
  counted : at + length rs ≤ stop
  wide : rule_width * at + sizes rule_size rs ≤ rule_width * stop
  long : at + length (rule_texts rs) ≤ stop
  small : All RuleSmall rs
  fit : RulesFit rs

-- no statement left keeps to the bounds
from-none : (at size : ℕ) → FromKeeps at size at []
unfolding rule_texts texts_many sizes
from-none at size = record { within = omega arith; counted = omega arith; wide = omega arith; long = omega arith; small = tt; fit = tt }

-- some, and more behind them
from_next : (at : ℕ) (s : List ℕ) (n stop : ℕ) (rs more : List RuleSet) → RulesKeep s n rs → FromKeeps (at + n) (length (drop n s)) stop more
    → FromKeeps at (length s) (0 + stop) (rs ++ more)
unfolding rule_texts
from_next at s n stop rs more h k =
    record {
      within = omega (arith, k.within, h.within, length-drop n s);
      counted = omega (arith, k.counted, h.counted, length-append rs more);
      wide = omega (arith, k.wide, h.wide, sizes-append rule_size rs more);
      long = omega (arith, k.long, h.long, ap length (texts-append rule_row rule_text rs more), length-append (texts_many rule_text rs) (texts_many rule_text more));
      small = all_append RuleSmall rs more h.small k.small;
      fit = all_append (λ r. DeclarationsFit r.declarations) rs more h.fit k.fit;
    }

-- statements where they stand
pub moved_keeps : (at : ℕ) (s : List ℕ) → Where (length s) (RulesKeep s) (moved_to at (statements_of s))
unfolding moved_to
moved_keeps at s =
    where-behind (length s) (length s) (RulesKeep s) (RulesKeep s) 0 (statements_of s) (map (moved_by at))
    (λ n rs k. subst (λ (m : ℕ). RulesKeep s m (map (moved_by at) rs)) (sym (zero-add n)) (moved-keep at s n rs k)) (omega arith) (statements-keep s)

-- as many as read
from-keeps : (l : ℕ) (s : List ℕ) (at : ℕ) → Where (at + length s) (FromKeeps at (length s)) (sheet_from l s at)
unfolding sheet_from
from-keeps zero s at = from-none at (length s)
from-keeps (suc l) s at =
    where-then (length s) (at + length s) (RulesKeep s) (FromKeeps at (length s)) (statements_of s) _ (reads at []) _
    (λ n rs h. where-behind (at + n + length (drop n s)) (at + length s) (FromKeeps (at + n) (length (drop n s))) (FromKeeps at (length s)) 0 (sheet_from l (drop n s) (at + n)) _
    (λ stop more k. from_next at s n stop (map (moved_by at) rs) more (moved-keep at s n rs h) k) (omega (arith, h.within, length-drop n s)) (from-keeps l (drop n s) (at + n)))
    (from-none at (length s)) (λ p h. omega arith) (statements-keep s)

-- the rules of a sheet of which `stop` bytes were read: no more than that many, eight numbers for each byte, texts no longer than what was read
pub record SheetKeeps (s : List ℕ) (stop : ℕ) (rs : List RuleSet) : Type 0 where
  pub within : stop ≤ length s
  pub counted : length rs ≤ stop
  pub wide : length (rule_rows 0 rs) ≤ rule_width * stop
  pub long : length (rule_texts rs) ≤ stop
  pub small : All RuleSmall rs
  pub fit : RulesFit rs

-- every sheet that reads
pub sheet-keeps : (s : List ℕ) (stop : ℕ) (rs : List RuleSet) → sheet_of s ≡ reads stop rs → SheetKeeps s stop rs
unfolding sheet_of
sheet-keeps s stop rs e =
    let k = where-read (0 + length s) (FromKeeps 0 (length s)) (sheet_from (length s) s 0) stop rs e (from-keeps (length s) s 0) in
    record {
      within = omega (arith, k.within);
      counted = omega (arith, k.counted);
      wide = omega (arith, k.wide, length-rules 0 rs);
      long = omega (arith, k.long);
      small = k.small;
      fit = k.fit;
    }

-- the empty sheet has no rule
pub empty-sheet : sheet_of [] ≡ reads 0 []
unfolding sheet_of sheet_from
empty-sheet = refl
