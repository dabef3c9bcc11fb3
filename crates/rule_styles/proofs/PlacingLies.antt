-- Rules that were written lie there, so that their styles can be kept; and what is kept of rules, with a number for each selector, takes no more numbers than they do.
use mathlib.Core.Path.{◌≡◌, refl, ap, ◌∙◌}
use mathlib.Core.List.{List, [], ◌∷◌, ◌++◌, append_assoc}
use Prim.Native.Nat.{ℕ, suc, ◌+◌, ◌≤◌}
use native.Mathlib.Omega.{arith}
use lib.ListN.{length, get_or, length-append}
use Rattle.syntax.specs.Layout.{declaration_rows, declaration_texts, style_width}
use Rattle.syntax.specs.RuleLayout.{read_rule, selector_row, selector_text, selector_rows, selector_texts, rule_head, rule_declarations, rule_text, rule_row, rule_rows, rule_texts}
use Rattle.syntax.specs.Selector.{Selector, RuleSet}
use Rattle.syntax.specs.Stream.{Read, read_many, rows_many, texts_many}
use Rattle.syntax.proofs.RowSizes.{length-declarations}
use Rattle.syntax.proofs.RuleRows.{selectors-back, rule-back, rules-read, RulesFit}
use Rattle.syntax.proofs.Streams.{Held, held-left, held-right}
use Rattle.combinators.specs.Store.{Zeros}
use Rattle.origins.specs.Rules.{selectors_read}
use Rattle.rule_styles.specs.Deciding.{deciding}
use Rattle.rule_styles.specs.Placing.{kept_head, contents_at, styles_placed, styled_rules, rules_selectors, kept, kept_rules}
use Rattle.rule_styles.specs.PlacingRoom.{kept_width, RuleLies, EachLies, RulesKeptRoom}
use Rattle.rule_styles.proofs.PlacingRules.{kept-short, one_kept, none_kept}

-- selectors take more numbers than they are
heads-within : (f : ℕ) (ss : List Selector) → length ss ≤ length (selector_rows f ss)
unfolding selector_rows rows_many selector_row
heads-within f [] = omega arith
heads-within f (s ∷ ss) = let g = f + length (selector_text s) in omega (arith, length-append (selector_row f s) (rows_many selector_row selector_text g ss), heads-within g ss)

module _ (text : List ℕ) where
  -- ---- rules that were written
  -- of one rule that was written the head is there, and its declarations behind its selectors
  rule-lies : (f : ℕ) (r : RuleSet) (t : List ℕ) → Held text f (rule_text r) → RuleLies text (rule_row f r ++ t)
  unfolding rule_row rule_text selectors_read
  rule-lies f r t h =
      let ss = r.selectors in
      let ds = r.declarations in
      let g = f + length (selector_texts ss) in
      record {
        head = omega arith;
        declared =
            rw (append_assoc (selector_rows f ss) (declaration_rows g ds) t, selectors-back text ss f (declaration_rows g ds ++ t) (held-left text f (selector_texts ss) (declaration_texts ds) h))
            (omega (arith, length-append (declaration_rows g ds) t, length-declarations g ds));
      }

  -- what is kept of it takes no more numbers than its row, with a number for each of its selectors
  rule-room : (f : ℕ) (r : RuleSet) (t : List ℕ) (fill : ℕ) → length (kept (deciding (styles_placed text fill (rule_row f r ++ t)))) + length r.selectors ≤ length (rule_row f r)
  rule-room f r t fill =
      let g = f + length (selector_texts r.selectors) in
      let d : get_or (rule_row f r ++ t) rule_declarations 0 ≡ length r.declarations = unfold rule_row in refl in
      let n : length (rule_row f r) ≡ rule_head + length (selector_rows f r.selectors ++ declaration_rows g r.declarations) = unfold rule_row in omega arith in
      omega (
        arith,
        d,
        n,
        kept-short text fill (rule_row f r ++ t),
        length-append (selector_rows f r.selectors) (declaration_rows g r.declarations),
        length-declarations g r.declarations,
        heads-within f r.selectors,
      )

  -- of each of the rules that were written the head is there, and its declarations behind its selectors
  pub each-lies : (rs : List RuleSet) (f : ℕ) (t : List ℕ) → RulesFit rs → Held text f (rule_texts rs) → EachLies text (length rs) (rule_rows f rs ++ t)
  unfolding EachLies rule_rows rows_many rule_texts texts_many
  each-lies [] f t u h = tt
  each-lies (r ∷ rs) f t u h =
      let g = f + length (rule_text r) in
      let q : List ℕ = rows_many rule_row rule_text g rs ++ t in
      let x : Held text f (rule_text r) = held-left text f (rule_text r) (texts_many rule_text rs) h in
      rw (append_assoc (rule_row f r) (rows_many rule_row rule_text g rs) t)
      (rule-lies f r q x, rw (rule-back text f r q u.0 x) (each-lies rs g t u.1 (held-right text f (rule_text r) (texts_many rule_text rs) h)))

  module _ (rs : List RuleSet) (f : ℕ) (t : List ℕ) (u : RulesFit rs) (h : Held text f (rule_texts rs)) where
    -- behind the rows of rules lies what stood behind them
    pub written-rest : (read_many (read_rule text) (length rs) (rule_rows f rs ++ t)).rest ≡ t
    written-rest = ap (λ (r : Read (List RuleSet)). r.rest) (rules-read text rs f t u h)

    -- room to keep them, in a store that is zero from a place on
    pub written-room : (tokens : List ℕ) (place : ℕ) → Zeros tokens place → place + length (rule_rows f rs) + kept_head + kept_width + style_width ≤ length tokens + rule_head
        → RulesKeptRoom text (length rs) (rule_rows f rs ++ t) tokens place
    written-room tokens place z k =
        record { lie = each-lies rs f t u h; room = omega (arith, k, length-append (rule_rows f rs) t, ap length written-rest); zeros = z }

  -- what is kept of them takes no more numbers than their rows, with a number for each of their selectors
  pub written-within : (rs : List RuleSet) (f : ℕ) (t : List ℕ) → RulesFit rs → Held text f (rule_texts rs) → (fill : ℕ)
      → length (kept_rules (styled_rules text fill (length rs) (rule_rows f rs ++ t))) + length (rules_selectors rs) ≤ length (rule_rows f rs)
  unfolding rule_rows rows_many rule_texts texts_many rules_selectors
  written-within [] f t u h fill = omega (arith, ap length (none_kept text fill t))
  written-within (r ∷ rs) f t u h fill =
      let g = f + length (rule_text r) in
      let others = rows_many rule_row rule_text g rs in
      let x : Held text f (rule_text r) = held-left text f (rule_text r) (texts_many rule_text rs) h in
      let s = rule_row f r ++ (others ++ t) in
      let next = fill + length (contents_at text s) in
      let e : kept_rules (styled_rules text fill (suc (length rs)) ((rule_row f r ++ others) ++ t))
      ≡ kept (deciding (styles_placed text fill s)) ++ kept_rules (styled_rules text next (length rs) (others ++ t)) =
      rw (append_assoc (rule_row f r) others t) (one_kept text (length rs) s fill ∙ ap (λ (y : Read RuleSet). kept (deciding (styles_placed text fill s)) ++ kept_rules (styled_rules text next (length rs) y.rest)) (rule-back text f r (others ++ t) u.0 x)) in
      omega (
        arith,
        ap length e,
        length-append (kept (deciding (styles_placed text fill s))) (kept_rules (styled_rules text next (length rs) (others ++ t))),
        length-append r.selectors (rules_selectors rs),
        length-append (rule_row f r) others,
        rule-room f r (others ++ t) fill,
        written-within rs g t u.1 (held-right text f (rule_text r) (texts_many rule_text rs) h) next,
      )
