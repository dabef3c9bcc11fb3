-- Returns of the exported functions, from what the functions that they call leave.
use Prim.Native.Nat.{ℕ}
use mathlib.Core.Bool.{Bool, true, false, not}
use mathlib.Core.Path.{◌≡◌, refl, sym, ap, ◌∙◌}
use Rattle.combinators.specs.Refusal.{refused_in, refused_at, Refuses}
use Rattle.combinators.specs.declared.refusals.Refusal.{Refusal}
use Rattle.sheets.specs.SheetAnswer as sheets
use Rattle.sheets.specs.SheetAnswer.{numbers_of}
use Rattle.std.proofs.Common.{Option, Some, None, Result, Ok, Err}
use Rattle.sheets.specs.declared.answers.SheetNumbers.{SheetNumbers}
use Rattle.selectors.specs.declared.readings.Read.{Read}
use Rattle.sheets.specs.declared.sheet.SheetError.{SheetError}
use Rattle.sheets.specs.declared.sheet.SheetError.TheVariants as sheet
use Rattle.lengths.specs.HeightLength as lengths
use Rattle.lengths.specs.declared.answers.LengthNumbers.{LengthNumbers}
use Rattle.lengths.specs.declared.answers.Length.{Length}
use Rattle.lengths.specs.declared.answers.LengthError.{LengthError}
use Rattle.lengths.specs.declared.answers.LengthError.TheVariants as length
use Rattle.page.specs.Accepted.{error_refusal, refusal_of}
use Rattle.page.specs.declared.check.PageError.{PageError}
use Rattle.page.specs.declared.check.PageError.TheVariants as page
use lib.Dec.{eqb}
use Rattle.combinators.specs.Choice.{pick, is}
use Rattle.styles.specs.declared.settings.Settings.{Settings}
use Rattle.running.specs.RunAnswer.{run_refusal}
use Rattle.running.specs.declared.run.RunError.{RunError}
use Rattle.running.specs.declared.run.RunError.TheVariants as run
use Rattle.engine.specs.Style.{switch_off, settings_from}

-- ---- a refusal in a call with one text has the text 0
-- a refusal of the text 0 is made of its number and its place alone
one-text : (r : Refusal) → r.text ≡ 0 → refused_at r.number r.place ≡ r
one-text r e = ap (λ (n : ℕ). refused_in r.number n r.place) (sym e)

-- the refusals of a sheet have the text 0
sheet-text : (a : Result Read SheetError) → (numbers_of a).refusal.text ≡ 0
unfolding numbers_of sheets.refusal_of
sheet-text (Ok sheet) = refl
sheet-text (Err sheet.TooLong) = refl
sheet-text (Err sheet.ShortStore) = refl
sheet-text (Err sheet.NotUtf8) = refl
sheet-text (Err (sheet.Panic p)) = refl

-- the refusals of a length have the text 0
length-text : (a : Result (Option Length) LengthError) → (lengths.numbers_of a).refusal.text ≡ 0
unfolding lengths.numbers_of lengths.refusal_of
length-text (Ok None) = refl
length-text (Ok (Some length)) = refl
length-text (Err length.TooLong) = refl
length-text (Err length.ShortStore) = refl
length-text (Err length.NotUtf8) = refl
length-text (Err (length.BadLength p)) = refl

-- the refusals of a page have the text 0
page-text : (a : Result Unit PageError) → (refusal_of a).text ≡ 0
unfolding refusal_of error_refusal
page-text (Ok accepted) = refl
page-text (Err page.TooLarge) = refl
page-text (Err (page.BadRow row)) = refl
page-text (Err (page.BadText row)) = refl

-- ---- the numbers of a sheet, without the text
-- the numbers of a sheet, with the refusal made of its number and place, are those of the answer
pub sheet-numbers : (a : Result Read SheetError) {n : SheetNumbers} → n ≡ numbers_of a
    → ◌≡◌ {A = SheetNumbers}
    (record { refusal = refused_at n.refusal.number n.refusal.place; count = n.count; stop = n.stop; numbers = n.numbers; bytes = n.bytes }) (numbers_of a)
sheet-numbers a {n} e =
    let t : n.refusal.text ≡ 0 = ap (λ (m : SheetNumbers). m.refusal.text) e ∙ sheet-text a in
    ap (λ (r : Refusal). record { refusal = r; count = n.count; stop = n.stop; numbers = n.numbers; bytes = n.bytes }) (one-text n.refusal t) ∙ e

-- the numbers of a length, with the refusal made of its number and place, are those of the answer
pub length-numbers : (a : Result (Option Length) LengthError) {n : LengthNumbers} → n ≡ lengths.numbers_of a
    → ◌≡◌ {A = LengthNumbers}
    (record { refusal = refused_at n.refusal.number n.refusal.place; kind = n.kind; amount = n.amount }) (lengths.numbers_of a)
length-numbers a {n} e =
    let t : n.refusal.text ≡ 0 = ap (λ (m : LengthNumbers). m.refusal.text) e ∙ length-text a in
    ap (λ (r : Refusal). record { refusal = r; kind = n.kind; amount = n.amount }) (one-text n.refusal t) ∙ e

-- a refusal that an answer stands for is the page's
pub page-told : (a : Result Unit PageError) {r : Refusal} → Refuses (λ e told. told ≡ error_refusal e) a r → r ≡ refusal_of a
unfolding Refuses refusal_of
page-told (Ok accepted) h = h
page-told (Err error) h = h

-- the refusal of a page, made of its number and place, is that of the answer
pub page-refused : (a : Result Unit PageError) {r : Refusal} → r ≡ refusal_of a → refused_at r.number r.place ≡ refusal_of a
page-refused a {r} e = one-text r (ap (λ (x : Refusal). x.text) e ∙ page-text a) ∙ e

-- ---- the switch as a number
-- off at one number, and on at any other
switched_by : (t : Bool) → not t ≡ pick t false true
unfolding pick
switched_by true = refl
switched_by false = refl

pub switched : (n : ℕ) → ◌≡◌ {A = Settings} (record { document_styles = not (eqb n switch_off) }) (settings_from n)
unfolding settings_from is
switched n = ap (λ (b : Bool). record { document_styles = b }) (switched_by (eqb n switch_off))

-- ---- a run, which reads no sheet: its refusals have the text 0
-- the refusal of a run, made of its number and place, is that of the answer
pub run-refused : (e : RunError) → let r = run_refusal e in refused_at r.number r.place ≡ r
unfolding run_refusal error_refusal
run-refused run.TooLong = refl
run-refused run.ShortStore = refl
run-refused (run.BadPage page.TooLarge) = refl
run-refused (run.BadPage (page.BadRow row)) = refl
run-refused (run.BadPage (page.BadText row)) = refl
run-refused (run.BadBytes f) = refl
