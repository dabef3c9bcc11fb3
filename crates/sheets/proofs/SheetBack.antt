-- What `read_sheet` leaves reads back: the rows and texts are those of the rules that the sheet means.
use mathlib.Core.Path.{◌≡◌, refl, sym, ap}
use mathlib.Core.List.{List, ◌++◌}
use Prim.Native.Nat.{ℕ, ◌-◌, ◌<◌}
use native.Mathlib.Omega.{arith}
use lib.ListN.{length, replicate}
use Rattle.combinators.specs.Refusal.{no_refusal, refused, panic}
use Rattle.combinators.specs.declared.refusals.Refusal.{Refusal}
use Rattle.combinators.proofs.Rules.{pick-holds}
use Rattle.syntax.specs.RuleLayout.{rule_rows, rule_texts, rules_at}
use Rattle.syntax.specs.Selector.{RuleSet}
use Rattle.syntax.proofs.RuleRows.{RulesFit, rules-back}
use Rattle.selectors.specs.Outcome.{Outcome, reads, fails, panics, on_outcome}
use Rattle.sheets.specs.Sheet.{sheet_of}
use Rattle.selectors.specs.Reading.{written}
use Rattle.sheets.specs.SheetAnswer.{SheetLeft, padded, sheet_numbers, sheet_left, unchanged, read_sheet}
use Rattle.sheets.proofs.SheetBounds.{sheet-keeps}
use Rattle.sheets.proofs.SheetLaws.{sheet-never-fails}

-- ---- what lies at the start of stores
-- rules and their texts, and zeros behind them, are read back
stored_back : (rs : List RuleSet) (m n : ℕ) → RulesFit rs → rules_at (padded (rule_rows 0 rs) m) (padded (rule_texts rs) n) (length rs) ≡ rs
unfolding padded
stored_back rs m n h =
    rules-back (rule_texts rs ++ replicate (n - length (rule_texts rs)) 0) rs 0 (replicate (m - length (rule_rows 0 rs)) 0) h
    (record { more = replicate (n - length (rule_texts rs)) 0; held = refl })

-- an answer that refuses nothing says that the sheet reads, and that its rules fit
answered : (o : Outcome (List RuleSet)) → ((k : ℕ) (rs : List RuleSet) → o ≡ reads k rs → RulesFit rs) → (o ≡ fails → ⊥) → (long short : ℕ)
    → (sheet_numbers o).refusal ≡ no_refusal
    → o ≡ reads (sheet_numbers o).stop (rules_at (padded (written (rule_rows 0) o) long) (padded (written rule_texts o) short) (sheet_numbers o).count)
unfolding sheet_numbers written on_outcome
answered (reads k rs) h never long short e = ap (reads k) (sym (stored_back rs long short (h k rs refl)))
answered fails h never long short e = absurd (never refl)
answered (panics p) h never long short e = absurd (let z : panic ≡ 0 = ap (λ (r : Refusal). r.number) e in omega arith)

-- where `read_sheet` refuses nothing, the rules that lie in its stores are those that the sheet means
module _ (s rules tokens brackets texts : List ℕ) where
  abbrev Back : SheetLeft → Type 0
  Back l = l.answer.refusal ≡ no_refusal → sheet_of s ≡ reads l.answer.stop (rules_at l.rules l.texts l.answer.count)

  -- a number that is not 0 is a refusal
  not-refused : {n : ℕ} {A : Type 0} → 0 < n → refused n ≡ no_refusal → A
  not-refused {n} h e = absurd (let z : n ≡ 0 = ap (λ (r : Refusal). r.number) e in omega arith)

  -- what `read_sheet` leaves without a refusal reads back as the rules that the sheet means
  pub sheet-back : Back (read_sheet s rules tokens brackets texts)
  unfolding read_sheet unchanged sheet_left
  sheet-back =
      pick-holds Back _ _ _ (λ _ e. not-refused (omega arith) e)
      (λ _. pick-holds Back _ _ _ (λ _ e. not-refused (omega arith) e)
      (λ _. pick-holds Back _ _ _ (λ _ e. not-refused (omega arith) e)
      (λ _. answered (sheet_of s) (λ k rs e. (sheet-keeps s k rs e).fit) (sheet-never-fails s) (length rules) (length texts))))
