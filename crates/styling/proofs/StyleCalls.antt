-- Returns of the style call: sheets that are read into stores that were cleared, the page and the row that is asked, and the refusals in their order.
use mathlib.Core.Path.{◌≡◌, refl, ap, sym, ◌∙◌}
use mathlib.Core.Bool.{Bool, true, false, not}
use Rattle.std.proofs.Common.{Option, Some, None, Result, Ok, Err}
use Rattle.std.proofs.lemmas.Bool.{not_from_true, not_from_false}
use Rattle.std.proofs.lemmas.List.{drop-replicate}
use Rattle.std.specs.Result.{IsErrAnd}
use mathlib.Core.List.{List, ◌++◌}
use Prim.Native.Nat.{ℕ, suc, ◌+◌, ◌-◌, ◌≤◌, ◌<◌}
use native.Mathlib.Omega.{arith}
use borrow.Author.Tests.{ltb-true, leb-true, le-leb}
use lib.Dec.{leb, ltb}
use lib.ListN.{length, drop, replicate}
use lib.Seq.{sets}
use Rattle.combinators.specs.Choice.{pick, and, is}
use Rattle.combinators.specs.LeastLengths.{stores_suffice}
use Rattle.combinators.specs.Refusal.{no_refusal, refused, refused_in, too_long, short_store, not_utf8, too_large, bad_row, bad_text, no_element, panic}
use Rattle.combinators.specs.Store.{cleared}
use Rattle.combinators.specs.declared.refusals.Refusal.{Refusal}
use Rattle.combinators.proofs.Cleared.{length-cleared}
use Rattle.combinators.proofs.LeastLaws.{least}
use Rattle.combinators.proofs.Rules.{pick_true, pick-false, pick-holds, is-yes, is-no, is_true, and_both, and-true}
use Rattle.syntax.specs.Selector.{RuleSet}
use Rattle.sheets.specs.SheetAnswer.{sheet_limit, padded}
use Rattle.origins.specs.Checks.{any_too_long, all_valid, Lent}
use Rattle.origins.specs.Reading.{Sheets, panicked, sheets_of, sheets_rows, sheets_texts, sheets_answer}
use Rattle.origins.specs.Reading.{SheetsRules}
use Rattle.origins.specs.declared.reading.SheetPanic.{SheetPanic}
use Rattle.origins.proofs.ChecksLaws.{none-long}
use Rattle.origins.proofs.SheetsKnown.{zeros-kept, panic-known}
use Rattle.cascade.specs.declared.slots.Cascade.{Cascade}
use Rattle.cascade.specs.Row.{style_row_width}
use Rattle.page.specs.Accepted.{first_bad_row, first_bad_text, refused_row, error_refusal, refusal_of, page_refusal}
use Rattle.page.specs.declared.check.PageError.{PageError}
use Rattle.page.specs.declared.check.PageError.TheVariants.{TooLarge, BadRow, BadText}
use Rattle.page.specs.Path.{Path}
use Rattle.page.specs.PathOf.{path_of}
use Rattle.page.specs.Rows.{attribute_rows, number_bound, node_count, node_at, element_kind}
use Rattle.page.proofs.AcceptedPages.{Accepted, accepted}
use Rattle.page.proofs.Sums.{bytes-within, attributes-before-within}
use Rattle.matching.specs.Rows.{Rooted}
use Rattle.matching.proofs.Roots.{accepted-element}
use Rattle.styles.specs.declared.settings.Settings.{Settings}
use Rattle.styles.specs.Room.{values_along, attributes_along}
use Rattle.styles.specs.Said.{Rules}
use Rattle.styles.specs.StyleCall.{call_row, call_store}
use Rattle.styles.proofs.Called.{call-row-long}
use Rattle.styles.proofs.Room.{path-values, path-attributes}
use Rattle.rule_styles.specs.Held.{sheets_from, SheetsHeld}
use Rattle.page.specs.Lent.{Page}
use Rattle.styles.specs.Lent.{SheetTexts}
use Rattle.styling.specs.declared.style.StyleError.{StyleError}
use Rattle.styling.specs.declared.style.StyleError.TheVariants.{TooLong, ShortStore, NotUtf8, BadPage, NoElement, Panic}
use Rattle.styles.specs.Answer.{TextsAnswer}
use Rattle.styling.specs.StyleAnswer.{call_bytes, is_element, style_refusal, numbers_of, StyleLeft, zeroed, unchanged, answered, styled_left, style_of}
use Rattle.styling.specs.Styling.{FewBytes, ReadRoom, CallLent, AskedLent}
use Rattle.rule_styles.proofs.SheetsHeldLaws as held

-- ---- answers in numbers
-- those of an element that was styled
pub styled-numbers : (texts : ℕ) → numbers_of (Ok texts) ≡ record { refusal = no_refusal; texts = texts }
unfolding numbers_of
styled-numbers texts = refl

-- those of a refusal
pub refused-numbers : (e : StyleError) → numbers_of (Err e) ≡ record { refusal = style_refusal e; texts = 0 }
unfolding numbers_of
refused-numbers e = refl

-- what each error that is no page's stands for
pub told-too-long : style_refusal TooLong ≡ refused too_long
unfolding style_refusal
told-too-long = refl

pub told-short-store : style_refusal ShortStore ≡ refused short_store
unfolding style_refusal
told-short-store = refl

pub told-not-utf8 : style_refusal NotUtf8 ≡ refused not_utf8
unfolding style_refusal
told-not-utf8 = refl

pub told-no-element : style_refusal NoElement ≡ refused no_element
unfolding style_refusal
told-no-element = refl

pub told-panic : (p : SheetPanic) → style_refusal (Panic p) ≡ refused_in panic p.text p.place
unfolding style_refusal
told-panic p = refl

-- ---- what is left, by its parts
-- what is left is the same where the answer and each of the five buffers are
pub left_by : {a a' : TextsAnswer} {o o' t t' y y' x x' b b' : List ℕ} → a ≡ a' → o ≡ o' → t ≡ t' → y ≡ y' → x ≡ x' → b ≡ b'
    → ◌≡◌ {A = StyleLeft} (record { answer = a; row = o; texts = t; rules = y; tokens = x; brackets = b }) (record { answer = a'; row = o'; texts = t'; rules = y'; tokens = x'; brackets = b' })
left_by p q r s t u = rw (p, q, r, s, t, u) refl

module _ (c : Cascade) (settings : Settings) (p : Path) {agent user author rules₀ tokens₀ brackets₀ texts₀ : List ℕ} (o : Lent agent user author rules₀ tokens₀ brackets₀ texts₀) (out₀ : List ℕ)
    (l : CallLent (length agent + length user + length author) p out₀ rules₀ tokens₀ brackets₀ texts₀)
    {o₁ t₁ y₁ x₁ b₁ : List ℕ} (co : o₁ ≡ cleared 0 out₀) (ct : t₁ ≡ cleared 0 texts₀) (cy : y₁ ≡ cleared 0 rules₀) (cx : x₁ ≡ cleared 0 tokens₀) (cb : b₁ ≡ cleared 0 brackets₀) where
  abbrev meant : Sheets
  meant = sheets_of agent user author

  abbrev Left : TextsAnswer → List ℕ → List ℕ → List ℕ → List ℕ → List ℕ → Type 0
  Left a k t y x b =
      ◌≡◌ {A = StyleLeft} (record { answer = a; row = k; texts = t; rules = y; tokens = x; brackets = b }) (styled_left out₀ texts₀ rules₀ tokens₀ brackets₀ c settings p meant)

  module _ {r : Result SheetsRules SheetPanic} {y₂ x₂ b₂ t₂ : List ℕ} (er : r ≡ sheets_answer meant) (ey : y₂ ≡ sets y₁ 0 (sheets_rows meant)) (ex : x₂ ≡ x₁) (eb : b₂ ≡ b₁) (et : t₂ ≡ sets t₁ 0 (sheets_texts meant)) where
    -- where the crate panics all is zero
    pub panics : {at : SheetPanic} → r ≡ Err at → {a : TextsAnswer} {q : Refusal} → q ≡ refused_in panic at.text at.place → a ≡ record { refusal = q; texts = 0 } → Left a o₁ t₂ y₂ x₂ b₂
    unfolding styled_left zeroed sheets_rows sheets_texts
    panics {at} g {a} {q} eq ea =
        let k : meant ≡ panicked at.text at.place = panic-known meant at (sym g ∙ er) in
        let ey' : y₂ ≡ y₁ = ey ∙ ap (λ (s : Sheets). sets y₁ 0 (sheets_rows s)) k in
        let et' : t₂ ≡ t₁ = et ∙ ap (λ (s : Sheets). sets t₁ 0 (sheets_texts s)) k in
        left_by (ea ∙ ap (λ (z : Refusal). record { refusal = z; texts = 0 }) eq) (zeros-kept out₀ co refl) (zeros-kept texts₀ ct et') (zeros-kept rules₀ cy ey') (zeros-kept tokens₀ cx ex) (zeros-kept brackets₀ cb eb)
        ∙ ap (styled_left out₀ texts₀ rules₀ tokens₀ brackets₀ c settings p) (sym k)

    module _ {s : SheetsRules} (g : r ≡ Ok s) where
      -- else the sheets lie in the stores
      lies : SheetsHeld s y₂ x₂ t₂
      lies =
          record {
            agent = agent;
            user = user;
            author = author;
            rows₀ = rules₀;
            tokens₀ = tokens₀;
            brackets₀ = brackets₀;
            texts₀ = texts₀;
            lent = o;
            read = sym g ∙ er;
            rows_are = ey ∙ ap (λ (z : List ℕ). sets z 0 (sheets_rows meant)) cy;
            tokens-are = ex ∙ cx;
            texts-are = et ∙ ap (λ (z : List ℕ). sets z 0 (sheets_texts meant)) ct;
          }

      -- the store of rules is as long as it was lent
      long-y : length y₂ ≡ length rules₀
      unfolding lies
      long-y = held.rows_long lies

      -- the store of tokens is as long as it was lent
      long-x : length x₂ ≡ length tokens₀
      unfolding lies
      long-x = held.tokens-long lies

      -- the text store is as long as it was lent
      long-t : length t₂ ≡ length texts₀
      unfolding lies
      long-t = held.texts-long lies

      -- the store of brackets is as long as it was lent
      long-b : length b₂ ≡ length brackets₀
      long-b = ap length (eb ∙ cb) ∙ length-cleared 0 brackets₀

      -- the row is as long as it was lent
      long-o : length o₁ ≡ length out₀
      long-o = ap length co ∙ length-cleared 0 out₀

      -- so there is room for the styles, the numbers and the path
      pub read-room : ReadRoom s p o₁ y₂ x₂ b₂ t₂
      unfolding lies
      read-room =
          record {
            row = omega (arith, long-o, l.row);
            held = lies;
            path =
                record {
                  for-rules = omega (arith, long-y, l.least.for-rules);
                  for-tokens = omega (arith, long-x, l.least.for-tokens);
                  for-brackets = omega (arith, long-b, l.least.for-brackets);
                  for-texts = omega (arith, long-t, l.least.for-texts);
                  bits = omega (arith, l.few);
                };
          }

      -- what is left of them
      pub styled : {o₂ t₃ y₃ x₃ b₃ : List ℕ} {n : ℕ}
          → o₂ ≡ call_row c (sheets_from y₂ t₂ s) settings p ++ drop style_row_width o₁ → n ≡ length (call_store (sheets_from y₂ t₂ s) settings p)
          → t₃ ≡ padded (call_store (sheets_from y₂ t₂ s) settings p) (length t₂) → y₃ ≡ replicate (length y₂) 0 → x₃ ≡ replicate (length x₂) 0 → b₃ ≡ replicate (length b₂) 0
          → {a : TextsAnswer} → a ≡ record { refusal = no_refusal; texts = n } → Left a o₂ t₃ y₃ x₃ b₃
      unfolding styled_left answered padded lies
      styled {o₂} {t₃} {y₃} {x₃} {b₃} {n} eo en et₃ ey₃ ex₃ eb₃ {a} ea =
          let R = held.read lies in
          let row = call_row c R settings p in
          let store = call_store R settings p in
          let are = held.sheets-are lies in
          let rest : drop style_row_width o₁ ≡ replicate (length out₀ - length row) 0 = ap (drop style_row_width) (zeros-kept out₀ co refl) ∙ drop-replicate style_row_width (length out₀) 0 ∙ ap (λ (i : ℕ). replicate (length out₀ - i) 0) (sym (call-row-long c R settings p)) in
          left_by
          (ea ∙ ap (λ (i : ℕ). record { refusal = no_refusal; texts = i }) (en ∙ ap (λ (q : Rules RuleSet). length (call_store q settings p)) are))
          (eo ∙ ap (λ (q : Rules RuleSet). call_row c q settings p ++ drop style_row_width o₁) are ∙ ap (λ (z : List ℕ). row ++ z) rest)
          (et₃ ∙ ap (λ (q : Rules RuleSet). call_store q settings p ++ replicate (length t₂ - length (call_store q settings p)) 0) are ∙ ap (λ (i : ℕ). store ++ replicate (i - length store) 0) long-t)
          (ey₃ ∙ ap (λ (i : ℕ). replicate i 0) long-y) (ex₃ ∙ ap (λ (i : ℕ). replicate i 0) long-x) (eb₃ ∙ ap (λ (i : ℕ). replicate i 0) long-b)
          ∙ ap (styled_left out₀ texts₀ rules₀ tokens₀ brackets₀ c settings p) (sym (held.m lies).is)

-- ---- a page that is checked
-- one that is accepted is not refused
pub page-passed : {r : Result Unit PageError} {p : Refusal} → r ≡ Ok tt → refusal_of r ≡ p → no_refusal ≡ p
unfolding refusal_of
page-passed e f = ap refusal_of (sym e) ∙ f

-- one that is not is refused by the error
pub page-failed : {r : Result Unit PageError} {e : PageError} {q p : Refusal} → r ≡ Err e → q ≡ error_refusal e → refusal_of r ≡ p → q ≡ p
unfolding refusal_of
page-failed e d f = d ∙ ap refusal_of (sym e) ∙ f

-- no error has the number 0
pub error-loud : {q : Refusal} (e : PageError) → q ≡ error_refusal e → ¬ (q.number ≡ 0)
unfolding error_refusal
error-loud TooLarge d n = let m : too_large ≡ 0 = ap (λ (r : Refusal). r.number) (sym d) ∙ n in omega arith
error-loud (BadRow row) d n = let m : bad_row ≡ 0 = ap (λ (r : Refusal). r.number) (sym d) ∙ n in omega arith
error-loud (BadText row) d n = let m : bad_text ≡ 0 = ap (λ (r : Refusal). r.number) (sym d) ∙ n in omega arith

-- ---- a page: a refusal whose number is 0 is none
unfoldable pub Quiet : Refusal → Type 0
Quiet r = r.number ≡ 0 → r ≡ no_refusal

-- a refusal whose number is not 0 has nothing to show
loud : (n place : ℕ) → Quiet (record { number = suc n; text = 0; place = place })
unfolding Quiet
loud n place e = absurd (omega (arith, e))

-- a refusal of a row has none either, and where there is no row, what comes behind decides
row-quiet : (n : ℕ) (o : Option ℕ) (r : Refusal) → 0 < n → Quiet r → Quiet (refused_row n o r)
unfolding refused_row Quiet
row-quiet n (Some row) r h q = λ (e : n ≡ 0). absurd (omega arith)
row-quiet n None r h q = q

-- a page that is refused with the number 0 is not refused
pub quiet : (nodes attributes text : List ℕ) → Quiet (page_refusal nodes attributes text)
unfolding page_refusal Quiet
quiet nodes attributes text =
    pick-holds Quiet _ _ _
    (λ _. pick-holds Quiet _ _ _ (λ _. loud _ _)
    (λ _. row-quiet bad_row (first_bad_row nodes attributes) _ (omega arith) (row-quiet bad_text (first_bad_text nodes attributes text) _ (omega arith) (λ e. refl))))
    (λ _. loud _ _)

-- ---- the call, in the order of the refusals
module _ (c : Cascade) (settings : Settings) (s : SheetTexts) (g : Page) (row : ℕ) (out texts rules₀ tokens brackets : List ℕ) where
  abbrev Called : StyleLeft → Type 0
  Called z = z ≡ style_of c settings s g row out texts rules₀ tokens brackets

  abbrev refuse : TextsAnswer → StyleLeft
  refuse a = record { answer = a; row = out; texts = texts; rules = rules₀; tokens = tokens; brackets = brackets }

  -- an answer with a refusal and the stores as they were is what the definition refuses with
  refused_as : {a : TextsAnswer} {q : Refusal} (n : ℕ) → q ≡ refused n → a ≡ record { refusal = q; texts = 0 } → refuse a ≡ unchanged out texts rules₀ tokens brackets (refused n)
  unfolding unchanged
  refused_as n eq ea = left_by (ea ∙ ap (λ (z : Refusal). record { refusal = z; texts = 0 }) eq) refl refl refl refl refl

  module _ {t : Bool} (e : t ≡ any_too_long (length s.agent) (length s.user) (length s.author)) where
    -- a sheet that is too long is refused, and the stores stay
    pub too_long_lem : t ≡ true → {a : TextsAnswer} {q : Refusal} → q ≡ refused too_long → a ≡ record { refusal = q; texts = 0 } → Called (refuse a)
    unfolding style_of
    too_long_lem f eq ea = pick_true _ _ _ _ (sym e ∙ f) (refused_as too_long eq ea)

    module _ (f : t ≡ false) where
      -- each of the three sheets is within its limit
      within : (length s.agent ≤ sheet_limit) × (length s.user ≤ sheet_limit) × (length s.author ≤ sheet_limit)
      within = none-long (length s.agent) (length s.user) (length s.author) (sym e ∙ f)

      -- all three together have at most three times the bytes that one sheet may have
      pub few_bytes : FewBytes (length s.agent + length s.user + length s.author)
      few_bytes = record { few = omega (arith, within.0, within.1, within.2) }

      module _ {v : Bool} (ev : v ≡ and (leb style_row_width (length out)) (stores_suffice (call_bytes s g) (length rules₀) (length tokens) (length brackets) (length texts))) where
        -- a row or a store that is too short is refused, and all of them stay
        pub short-store : v ≡ false → {a : TextsAnswer} {q : Refusal} → q ≡ refused short_store → a ≡ record { refusal = q; texts = 0 } → Called (refuse a)
        unfolding style_of
        short-store h eq ea = pick-false _ _ _ _ (sym e ∙ f) (pick_true _ _ _ _ (not_from_false _ (sym ev ∙ h)) (refused_as short_store eq ea))

        module _ (h : v ≡ true) where
          -- the row is long enough, and the stores suffice
          both : (leb style_row_width (length out) ≡ true) × (stores_suffice (call_bytes s g) (length rules₀) (length tokens) (length brackets) (length texts) ≡ true)
          both = and-true _ _ (sym ev ∙ h)

          -- so what is lent is what the call asks for
          pub asked-lent : AskedLent s g out rules₀ tokens brackets texts
          asked-lent = record { within = sym e ∙ f; row = leb-true _ _ both.0; least = least refl both.1 }

  -- ---- a page and a row, behind the tests of what is lent
  module _ (l : AskedLent s g out rules₀ tokens brackets texts) where
    abbrev left : Refusal → StyleLeft
    left r = unchanged out texts rules₀ tokens brackets r

    -- a row and stores of the least lengths suffice
    lengths-suffice : and (leb style_row_width (length out)) (stores_suffice (call_bytes s g) (length rules₀) (length tokens) (length brackets) (length texts)) ≡ true
    unfolding stores_suffice
    lengths-suffice =
        and_both _ _ (le-leb _ _ l.row) (and_both _ _ (le-leb _ _ l.least.for-texts) (and_both _ _ (le-leb _ _ l.least.for-brackets) (and_both _ _ (le-leb _ _ l.least.for-rules) (le-leb _ _ l.least.for-tokens))))

    -- sheets that are no UTF-8 are refused, and the stores stay
    pub not-utf8 : {x : Bool} → x ≡ all_valid s.agent s.user s.author → x ≡ false → {a : TextsAnswer} {q : Refusal} → q ≡ refused not_utf8 → a ≡ record { refusal = q; texts = 0 }
        → Called (refuse a)
    unfolding style_of
    not-utf8 i j eq ea =
        pick-false _ _ _ _ l.within (pick-false _ _ _ _ (not_from_true _ lengths-suffice) (pick_true _ _ _ _ (not_from_false _ (sym i ∙ j)) (refused_as not_utf8 eq ea)))

    -- the sheets are UTF-8
    abbrev Valid : Type 0
    Valid = all_valid s.agent s.user s.author ≡ true

    -- behind the tests of what is lent, page and row decide what the call leaves
    behind : Valid → {z : StyleLeft}
        → z ≡ pick (not (is (page_refusal g.nodes g.attributes g.text).number no_refusal.number)) (left (page_refusal g.nodes g.attributes g.text))
        (pick (not (is_element g.nodes row)) (left (refused no_element)) (styled_left out texts rules₀ tokens brackets c settings (path_of g.nodes g.attributes g.text row) (sheets_of s.agent s.user s.author))) → Called z
    unfolding style_of
    behind v e = pick-false _ _ _ _ l.within (pick-false _ _ _ _ (not_from_true _ lengths-suffice) (pick-false _ _ _ _ (not_from_true _ v) e))

    module _ {r : Refusal} (er : r ≡ page_refusal g.nodes g.attributes g.text) where
      -- a page that is refused is answered with that refusal, and the stores stay
      pub page-refused : Valid → ¬ (r.number ≡ 0) → {a : TextsAnswer} → a ≡ record { refusal = r; texts = 0 } → Called (refuse a)
      unfolding unchanged
      page-refused v h {a} ea =
          behind v
          (pick_true _ _ _ _ (not_from_false _ (is-no _ _ (λ e. h (ap (λ (q : Refusal). q.number) er ∙ e)))) (left_by (ea ∙ ap (λ (q : Refusal). record { refusal = q; texts = 0 }) er) refl refl refl refl refl))

      module _ (h : r.number ≡ 0) where
        -- the refusal of the page has the number 0
        no_number : (page_refusal g.nodes g.attributes g.text).number ≡ 0
        no_number = ap (λ (q : Refusal). q.number) (sym er) ∙ h

        -- so the page is accepted
        none : page_refusal g.nodes g.attributes g.text ≡ no_refusal
        none = unfold Quiet in quiet g.nodes g.attributes g.text no_number

        module _ {t : Bool} (et : t ≡ is_element g.nodes row) where
          -- a row that is no element is refused, and the stores stay
          pub no-element : t ≡ false → Valid → {a : TextsAnswer} {q : Refusal} → q ≡ refused no_element → a ≡ record { refusal = q; texts = 0 } → Called (refuse a)
          no-element f v {a} {q} eq ea =
              behind v
              (pick-false _ _ _ _ (not_from_true _ (is-yes _ _ no_number)) (pick_true _ _ _ _ (not_from_false _ (sym et ∙ f)) (refused_as no_element eq ea)))

          module _ (f : t ≡ true) where
            -- the row is one of the page, and its kind is that of elements
            there : (ltb row (node_count g.nodes) ≡ true) × (is (node_at g.nodes row).kind element_kind ≡ true)
            unfolding is_element
            there = and-true _ _ (sym et ∙ f)

            -- the row is one of the page
            before : row < node_count g.nodes
            before = ltb-true _ _ there.0

            -- from it parents lead to the document
            pub rooted : Rooted g.nodes row
            rooted = accepted-element g.nodes g.attributes g.text none row before (is_true _ _ there.1)

            -- the page is accepted, with all that this says
            ok : Accepted g.nodes g.attributes g.text
            ok = accepted g.nodes g.attributes g.text none

            -- its number is one of 32 bits
            pub few-rows : row < number_bound
            few-rows = omega (arith, before, ok.few)

            -- the stores are long enough to read the three sheets
            pub lent : Lent s.agent s.user s.author rules₀ tokens brackets texts
            unfolding call_bytes
            lent =
                record {
                  within = l.within;
                  least =
                      record {
                        for-texts = omega (arith, l.least.for-texts);
                        for-brackets = omega (arith, l.least.for-brackets);
                        for-rules = omega (arith, l.least.for-rules);
                        for-tokens = omega (arith, l.least.for-tokens);
                      };
                }

            abbrev path : Path
            path = path_of g.nodes g.attributes g.text row

            -- the attribute values along the path are no longer than the text of the page
            values : values_along path ≤ length g.text
            values = omega (arith, path-values g.nodes g.attributes g.text row rooted, bytes-within g.nodes g.attributes g.text ok (suc row) (omega (arith, before)))

            -- the path has no more attributes than the page has attribute rows
            attributes : attributes_along path ≤ attribute_rows g.attributes
            attributes = omega (arith, path-attributes g.nodes g.attributes g.text row rooted, attributes-before-within g.nodes g.attributes g.text ok (suc row) (omega (arith, before)))

            -- the stores are long enough for the sheets and the path together
            pub call-lent : CallLent (length s.agent + length s.user + length s.author) path out rules₀ tokens brackets texts
            unfolding call_bytes
            call-lent =
                record {
                  row = l.row;
                  few = omega (arith, values, attributes, ok.few_bytes, ok.few-attributes);
                  least =
                      record {
                        for-texts = omega (arith, values, attributes, l.least.for-texts);
                        for-brackets = omega (arith, values, attributes, l.least.for-brackets);
                        for-rules = omega (arith, values, attributes, l.least.for-rules);
                        for-tokens = omega (arith, values, attributes, l.least.for-tokens);
                      };
                }

            -- an element of an accepted page is answered with what styling leaves
            pub asked : Valid → {z : StyleLeft} → z ≡ styled_left out texts rules₀ tokens brackets c settings path (sheets_of s.agent s.user s.author) → Called z
            asked v e = behind v (pick-false _ _ _ _ (not_from_true _ (is-yes _ _ no_number)) (pick-false _ _ _ _ (not_from_true _ (sym et ∙ f)) e))

    -- the return where the page is refused: the error becomes the refusal
    module _ {r : Result Unit PageError} {e : PageError} (was : r ≡ Err e) (er : refusal_of r ≡ page_refusal g.nodes g.attributes g.text) where
      -- the error of the page is that of the call
      told-page : (q : StyleError) → q ≡ BadPage e → style_refusal q ≡ error_refusal e
      unfolding style_refusal
      told-page q h = ap style_refusal h

      pub page-answered : Valid → (o : Result ℕ StyleError) → IsErrAnd o (λ q. q ≡ BadPage e)
          → Called (refuse (numbers_of o))
      page-answered v (Err q) h = page-refused (page-failed was (told-page q h) er) v (error-loud e (told-page q h)) (refused-numbers q)
      page-answered v (Ok n) h = absurd h
