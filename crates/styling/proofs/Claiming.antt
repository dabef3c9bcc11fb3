-- The claim about a style call, from its contract's own definition; and of the book order that each slot is what CSS Cascading has (result 7, S-2).
use mathlib.Core.Path.{◌≡◌, refl, ap}
use mathlib.Core.Bool.{Bool, true, false, not}
use mathlib.Core.List.{List, ◌∷◌}
use Prim.Native.Nat.{ℕ, ◌-◌, ◌≤◌}
use native.Mathlib.Omega.{arith}
use lib.Dec.{leb}
use lib.ListN.{length, take, replicate, length-append}
use lib.Seq.{take_at}
use Rattle.std.proofs.lemmas.Bool.{not-true}
use Rattle.combinators.specs.Choice.{pick, and, is}
use Rattle.combinators.specs.LeastLengths.{stores_suffice}
use Rattle.combinators.specs.Refusal.{no_refusal, refused, too_long, short_store, not_utf8, no_element}
use Rattle.combinators.specs.declared.refusals.Refusal.{Refusal}
use Rattle.combinators.proofs.Rules.{is_false}
use Rattle.syntax.specs.Selector.{RuleSet}
use Rattle.sheets.specs.SheetAnswer.{padded}
use Rattle.origins.specs.Checks.{any_too_long, all_valid}
use Rattle.origins.specs.Reading.{Sheets, rules, panicked, sheets_of}
use Rattle.cascade.specs.declared.slots.Cascade.{Cascade}
use Rattle.cascade.specs.declared.slots.Cascade.TheVariants.{Book}
use Rattle.cascade.specs.Related.{SameStyle}
use Rattle.cascade.specs.Record.{book_declared, BookDecides}
use Rattle.cascade.specs.Row.{style_row_width, style_at, RowFine}
use Rattle.cascade.proofs.RowBack.{row_fine}
use Rattle.page.specs.Accepted.{page_refusal}
use Rattle.page.specs.Path.{Element, Path}
use Rattle.page.specs.PathOf.{path_of}
use Rattle.styles.specs.declared.settings.Settings.{Settings}
use Rattle.styles.specs.Computed.{cascaded, computed_style}
use Rattle.styles.specs.Said.{Rules, sources_from, meant_rules, counted_attributes, attributes_say}
use Rattle.styles.specs.Says.{Says}
use Rattle.styles.specs.StyleCall.{placed_along, call_row, call_store}
use Rattle.styles.proofs.Called.{cascaded-formed, call-row-long, call-says-alone, book-style-decides}
use Rattle.styling.specs.Claim.{row_left, texts_left, RowSays}
use Rattle.page.specs.Lent.{Page}
use Rattle.styles.specs.Lent.{SheetTexts}
use Rattle.styling.specs.StyleAnswer.{call_bytes, is_element, StyleLeft, zeroed, unchanged, answered, styled_left, style_of}

-- what stands at the start of a store comes back
padded-front : (xs : List ℕ) (n k : ℕ) → length xs ≡ k → take k (padded xs n) ≡ xs
unfolding padded
padded-front xs n k e = take_at xs (replicate (n - length xs) 0) k e

-- filled up with zeros to a length, a list is no shorter than it was
pub padded-long : (xs : List ℕ) (n : ℕ) → length xs ≤ length (padded xs n)
unfolding padded
padded-long xs n = omega (arith, length-append xs (replicate (n - length xs) 0))

module _ (c : Cascade) (settings : Settings) (s : SheetTexts) (p : Path) (row texts rules₀ tokens brackets : List ℕ) where
  -- the row of a call is one as the writers make them
  row-is-fine : (sheets : Rules RuleSet) → RowFine (call_row c sheets settings p)
  unfolding call_row
  row-is-fine sheets = row_fine (cascaded c (placed_along sheets settings p)) (cascaded-formed c (placed_along sheets settings p))

  -- of sheets that were read
  answer-says : (sheets : Rules RuleSet) → sheets_of s.agent s.user s.author ≡ rules sheets.agent sheets.user sheets.author
      → RowSays c settings s p (answered row texts rules₀ tokens brackets (call_row c sheets settings p) (call_store sheets settings p))
  unfolding answered
  answer-says sheets e =
      let r = padded-front (call_row c sheets settings p) (length row) style_row_width (call-row-long c sheets settings p) in
      let t = padded-front (call_store sheets settings p) (length texts) (length (call_store sheets settings p)) refl in
      record {
        sheets = sheets;
        read = e;
        says = rw (r, t) (call-says-alone c sheets settings p);
        fine = rw r (row-is-fine sheets);
        within = padded-long (call_store sheets settings p) (length texts);
      }

  -- where reading three sheets is not refused, what is left says the computed style of the path
  sheets-say : (m : Sheets) → sheets_of s.agent s.user s.author ≡ m → (styled_left row texts rules₀ tokens brackets c settings p m).answer.refusal ≡ no_refusal
      → RowSays c settings s p (styled_left row texts rules₀ tokens brackets c settings p m)
  unfolding styled_left zeroed
  sheets-say (rules a u w) e h = answer-says (record { agent = a; user = u; author = w }) e
  sheets-say (panicked which byte) e h = absurd (let z : ◌≡◌ {A = ℕ} 4 0 = ap (λ (r : Refusal). r.number) h in omega (arith, z))

-- a call that refuses nothing
module _ (c : Cascade) (settings : Settings) (s : SheetTexts) (g : Page) (asked : ℕ) (row texts rules₀ tokens brackets : List ℕ) where
  abbrev path : Path
  path = path_of g.nodes g.attributes g.text asked

  abbrev Claimed : StyleLeft → Type 0
  Claimed l = l.answer.refusal ≡ no_refusal → RowSays c settings s path l

  -- one that refuses says nothing
  refusing : (r : Refusal) → ¬ (r.number ≡ 0) → Claimed (unchanged row texts rules₀ tokens brackets r)
  unfolding unchanged
  refusing r n h = absurd (n (ap (λ (q : Refusal). q.number) h))

  -- a claim that holds on both branches of a test holds of what the test picks
  pick-claims : (t : Bool) (l m : StyleLeft) → (t ≡ true → Claimed l) → (t ≡ false → Claimed m) → Claimed (pick t l m)
  unfolding pick
  pick-claims true l m h k = h refl
  pick-claims false l m h k = k refl

  -- wherever a style call refuses nothing, its row says the style computed from the sheets, the settings and the path
  pub style-says : Claimed (style_of c settings s g asked row texts rules₀ tokens brackets)
  unfolding style_of
  style-says =
      let page = page_refusal g.nodes g.attributes g.text in
      pick-claims (any_too_long (length s.agent) (length s.user) (length s.author)) _ _ (λ _. refusing (refused too_long) (λ e. omega (arith, e)))
      (λ _. pick-claims (not (and (leb style_row_width (length row)) (stores_suffice (call_bytes s g) (length rules₀) (length tokens) (length brackets) (length texts)))) _ _
      (λ _. refusing (refused short_store) (λ e. omega (arith, e)))
      (λ _. pick-claims (not (all_valid s.agent s.user s.author)) _ _ (λ _. refusing (refused not_utf8) (λ e. omega (arith, e)))
      (λ _. pick-claims (not (is page.number no_refusal.number)) _ _ (λ f. refusing page (is_false page.number 0 (not-true _ f)))
      (λ _. pick-claims (not (is_element g.nodes asked)) _ _ (λ _. refusing (refused no_element) (λ e. omega (arith, e)))
      (λ _. sheets-say c settings s path row texts rules₀ tokens brackets (sheets_of s.agent s.user s.author) refl)))))

-- ---- result 7 of the call: the row in the book order says the computed style, each slot of which is what CSS Cascading has of what is said of the element and of its parent's style
pub book-says : (settings : Settings) (s : SheetTexts) (e : Element) (up : Path) (l : StyleLeft) (h : RowSays Book settings s (e ∷ up) l)
    → SameStyle (Says (texts_left l)) (style_at (row_left l)) (computed_style Book h.sheets settings (e ∷ up))
    × BookDecides (computed_style Book h.sheets settings up) (computed_style Book h.sheets settings (e ∷ up)) (book_declared (sources_from (meant_rules h.sheets) (attributes_say (counted_attributes settings e)) (e ∷ up)))
book-says settings s e up l h = (h.says, book-style-decides h.sheets settings e up)
