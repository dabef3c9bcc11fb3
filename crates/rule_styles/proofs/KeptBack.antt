-- What the call keeps of rules is read back: their selectors, and those of their styles that decide, whatever stands behind.
use mathlib.Core.Path.{◌≡◌, refl, ap}
use mathlib.Core.List.{List, [], ◌∷◌, ◌++◌, map, append_assoc}
use Prim.Native.Nat.{ℕ, ◌+◌}
use lib.ListN.{length}
use Rattle.syntax.specs.Layout.{row_of_numbers}
use Rattle.syntax.specs.RuleLayout.{rule_text, rule_row, rule_rows, rule_texts}
use Rattle.syntax.specs.Selector.{RuleSet}
use Rattle.syntax.specs.Stream.{read_many, texts_many, rows_many}
use Rattle.syntax.specs.declared.styles.StyleNumbers.{StyleNumbers}
use Rattle.syntax.specs.declared.styles.Value.{Value}
use Rattle.syntax.proofs.Back.{row-numbers-back, row-numbers-rest}
use Rattle.syntax.proofs.RuleRows.{rule-back, RulesFit}
use Rattle.syntax.proofs.Streams.{Held, held-left, held-right}
use Rattle.cascade.specs.Record.{Styled}
use Rattle.styles.specs.Said.{StyledRule}
use Rattle.styles.specs.StyleCall.{in_numbers, placed_styles, placed_rules}
use Rattle.styles.specs.Said as said
use Rattle.styles.specs.StyleCall.{rule_contents}
use Rattle.rule_styles.specs.Deciding.{deciding, deciding_rule}
use Rattle.rule_styles.specs.Placing.{styled_row, kept, kept_rules, read_styled, read_kept, rules_kept}

-- rows of styles are read back as these styles, whatever stands behind them
styles-back : (xs : List (Styled Value)) (t : List ℕ) → read_many read_styled (length xs) (texts_many styled_row xs ++ t) ≡ record { value = xs; rest = t }
unfolding read_many texts_many read_styled styled_row in_numbers
styles-back [] t = refl
styles-back (x ∷ xs) t =
    let n : StyleNumbers = record { slot = x.slot; important = x.important; value = x.value } in
    rw (append_assoc (row_of_numbers n) (texts_many styled_row xs) t, row-numbers-back n (texts_many styled_row xs ++ t), row-numbers-rest n (texts_many styled_row xs ++ t), styles-back xs t)

-- those that are kept for a rule
kept_back : (xs : List (Styled Value)) (t : List ℕ) → read_kept (kept xs ++ t) ≡ record { value = xs; rest = t }
unfolding read_kept kept
kept_back xs t = styles-back xs t

-- of rules that were written, what is kept is read back as the rules with the styles that decide
pub rules-kept : (text : List ℕ) (rs : List RuleSet) (g f : ℕ) (more others : List ℕ) → RulesFit rs → Held text g (rule_texts rs)
    → rules_kept text (length rs) (rule_rows g rs ++ more) (kept_rules (placed_rules f rs) ++ others) ≡ map deciding_rule (placed_rules f rs)
unfolding rules_kept rule_rows rows_many rule_texts texts_many kept_rules placed_rules deciding_rule
rules-kept text [] g f more others fit h = refl
rules-kept text (r ∷ rs) g f more others fit h =
    let g' = g + length (rule_text r) in
    let q = rows_many rule_row rule_text g' rs ++ more in
    let f' = f + length (rule_contents r) in
    let here = held-left text g (rule_text r) (texts_many rule_text rs) h in
    let ds = deciding (placed_styles f (said.rule_styles r)) in
    let ks = texts_many (λ (x : StyledRule Value). kept (deciding x.styles)) (placed_rules f' rs) in
    rw (
      append_assoc (rule_row g r) (rows_many rule_row rule_text g' rs) more,
      append_assoc (kept ds) ks others,
      kept_back ds (ks ++ others),
      rule-back text g r q fit.0 here,
    )
    (ap (λ (l : List (StyledRule Value)). record { selectors = r.selectors; styles = ds } ∷ l) (rules-kept text rs g' f' more others fit.1 (held-right text g (rule_text r) (texts_many rule_text rs) h)))
