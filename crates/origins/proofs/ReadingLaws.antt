-- Returns of `read_behind`: one sheet, read behind what the stores hold.
use mathlib.Core.Path.{◌≡◌}
use mathlib.Core.List.{List}
use Prim.Native.Nat.{ℕ, ◌-◌, ◌≤◌}
use native.Mathlib.Omega.{arith}
use borrow.Rule.Slice.PartMut.{put_mid}
use lib.ListN.{length}
use lib.Seq.{sets}
use Rattle.combinators.proofs.Lists.{lent_from, length-rest}
use Rattle.syntax.specs.RuleLayout.{rule_rows, rule_texts}
use Rattle.selectors.specs.Reading.{many_reading, written}
use Rattle.sheets.specs.Rules.{SheetRoom}
use Rattle.sheets.specs.Sheet.{sheet_of}
use Rattle.std.specs.Prelude.{Ok, Err}
use Rattle.selectors.specs.declared.readings.Read.{Read}
use Rattle.selectors.proofs.ReadingLaws.{ManyReading, many_by}
use Rattle.sheets.proofs.SheetBounds.{sheet-keeps}
use Rattle.sheets.proofs.SheetLaws.{sheet-never-fails}
use Rattle.origins.specs.Reading.{RulesSize, RulesBounds, ReadRoom}
use Rattle.origins.proofs.Parts.{part-zeros, part-stored}

-- ---- answers
-- what was read is no more than there is
size : (s : List ℕ) (got : Read) → Ok got ≡ many_reading length (rule_rows 0) rule_texts (sheet_of s) → RulesSize s got.count got.numbers got.text
size s got e =
    let r = many_by length (rule_rows 0) rule_texts (sheet_of s) got (sheet-never-fails s) e in
    let k = sheet-keeps s got.taken r.value r.reads-it in
    record {
      counted = omega (arith, r.counts, k.within, k.counted);
      wide = omega (arith, r.rows, k.within, k.wide);
      short = omega (arith, r.texts, k.within, k.long);
      nothing = λ h. omega (arith, r.texts, k.within, k.long);
    }

module _ {s rules : List ℕ} {place : ℕ} {tokens brackets texts : List ℕ} {fill : ℕ} (o : ReadRoom s rules place tokens brackets texts fill) where
  -- the places lie in the stores
  pub place_in : place ≤ length rules
  place_in = omega (arith, o.for-rules)

  -- the fill lies within the text store
  pub fill-in : fill ≤ length texts
  fill-in = omega (arith, o.for-texts)

  -- room for the sheet in the parts
  pub room : SheetRoom s (lent_from rules place) tokens brackets (lent_from texts fill)
  room =
      let lr = length-rest rules place in
      let lt = length-rest texts fill in
      record {
        rules-zeros = part-zeros rules place place_in o.rules-zeros;
        for-rules = omega (arith, o.for-rules, lr);
        row-bits = omega (arith, o.row-bits, lr);
        work =
            record {
              tokens-zeros = o.tokens-zeros;
              brackets-zeros = o.brackets-zeros;
              store-zeros = part-zeros texts fill fill-in o.texts-zeros;
              for-tokens = o.for-tokens;
              for-brackets = o.for-brackets;
              for-texts = omega (arith, o.for-texts, lt);
              text-bits = omega (arith, o.within);
            };
      }

  -- what the call leaves, by the reader's answer
  module _ {r : ManyReading} {y x b z : List ℕ} (er : r ≡ many_reading length (rule_rows 0) rule_texts (sheet_of s))
      (ey : y ≡ sets (lent_from rules place) 0 (written (rule_rows 0) (sheet_of s))) (ex : x ≡ tokens) (eb : b ≡ brackets)
      (ez : z ≡ sets (lent_from texts fill) 0 (written rule_texts (sheet_of s))) where
    -- what the function ensures
    abbrev Left : Type 0
    Left =
        (r ≡ many_reading length (rule_rows 0) rule_texts (sheet_of s))
        × ((put_mid place (length rules - place) rules y ≡ sets rules place (written (rule_rows 0) (sheet_of s)))
        × ((x ≡ tokens)
        × ((b ≡ brackets)
        × ((put_mid fill (length texts - fill) texts z ≡ sets texts fill (written rule_texts (sheet_of s)))
        × RulesBounds s r))))

    -- what was read of the sheet is no more than there is
    bounds : (a : ManyReading) → a ≡ many_reading length (rule_rows 0) rule_texts (sheet_of s) → RulesBounds s a
    unfolding RulesBounds
    bounds (Ok got) e = size s got e
    bounds (Err p) e = tt

    -- what was stored in the lent parts is stored behind what the stores held
    pub rules-left : Left
    rules-left = (er, (part-stored rules place place_in (written (rule_rows 0) (sheet_of s)) y ey, (ex, (eb, (part-stored texts fill fill-in (written rule_texts (sheet_of s)) z ez, bounds r er)))))
