-- What a style call that refuses nothing tells: the page is accepted and the asked row is an element of it. And every element of an accepted page is styled, by any
-- call that is lent enough.
use Prim.Native.Nat.{ℕ, ◌<◌}
use mathlib.Core.Path.{◌≡◌, refl, ap, sym, ◌∙◌}
use mathlib.Core.Bool.{true, not}
use mathlib.Core.List.{List}
use native.Mathlib.Omega.{arith}
use borrow.Author.Tests.{ltb-true, lt-ltb, le-leb}
use lib.Dec.{leb}
use lib.ListN.{length}
use Rattle.std.proofs.lemmas.Bool.{not-true, not-false, not_from_true}
use Rattle.combinators.specs.Choice.{and, is}
use Rattle.combinators.specs.LeastLengths.{stores_suffice, Least}
use Rattle.combinators.specs.Refusal.{no_refusal, refused, too_long, short_store, not_utf8, no_element}
use Rattle.combinators.specs.declared.refusals.Refusal.{Refusal}
use Rattle.combinators.proofs.Rules.{pick-holds, pick-false, and_both, and-true, is_true, is_false, is-yes}
use Rattle.origins.specs.Checks.{any_too_long, all_valid}
use Rattle.origins.specs.Reading.{Sheets, rules, sheets_of}
use Rattle.cascade.specs.declared.slots.Cascade.TheVariants.{Crate}
use Rattle.cascade.specs.Row.{style_row_width}
use Rattle.page.specs.Accepted.{page_refusal}
use Rattle.page.specs.PathOf.{path_of}
use Rattle.page.specs.Rows.{node_count, node_at, element_kind}
use Rattle.styles.specs.declared.settings.Settings.{Settings}
use Rattle.page.specs.Lent.{Page}
use Rattle.styles.specs.Lent.{SheetTexts}
use Rattle.styling.specs.StyleAnswer.{call_bytes, is_element, StyleLeft, unchanged, answered, styled_left, style_of}
use Rattle.styling.proofs.StyleCalls.{Quiet, quiet}
use Rattle.agreement.specs.Calls.{StyleBuffers, style_with, StyleLent}
use Rattle.agreement.proofs.CompileTells.{Compiled}

pub record Asked (g : Page) (row : ℕ) : Type 0 where
  pub page : page_refusal g.nodes g.attributes g.text ≡ no_refusal
  pub there : row < node_count g.nodes
  pub element : (node_at g.nodes row).kind ≡ element_kind

module _ (settings : Settings) (s : SheetTexts) (g : Page) (row : ℕ) (v : StyleBuffers) where
  abbrev refusal : Refusal
  refusal = page_refusal g.nodes g.attributes g.text

  -- what is claimed of each way that a call ends
  abbrev Claimed : StyleLeft → Type 0
  Claimed l = l.answer.refusal ≡ no_refusal → Asked g row

  abbrev left : Refusal → StyleLeft
  left r = unchanged v.row v.texts v.rules v.tokens v.brackets r

  -- one that refuses claims nothing
  refusing : (r : Refusal) → ¬ (r.number ≡ 0) → Claimed (left r)
  unfolding unchanged
  refusing r n e = absurd (n (ap (λ (q : Refusal). q.number) e))

  -- a page and a row that are not refused
  asked : is refusal.number no_refusal.number ≡ true → is_element g.nodes row ≡ true → Asked g row
  unfolding is_element Quiet
  asked p e =
      let t = and-true _ _ e in
      record { page = quiet g.nodes g.attributes g.text (is_true _ _ p); there = ltb-true _ _ t.0; element = is_true _ _ t.1 }

  -- where a style call refuses nothing, the page is accepted and the row is one of its elements
  pub style-tells : (style_with settings s g row v).answer.refusal ≡ no_refusal → Asked g row
  unfolding style_of
  style-tells =
      pick-holds Claimed (any_too_long (length s.agent) (length s.user) (length s.author)) _ _ (λ _. refusing (refused too_long) (λ e. omega (arith, e)))
      (λ _. pick-holds Claimed (not (and (leb style_row_width (length v.row)) (stores_suffice (call_bytes s g) (length v.rules) (length v.tokens) (length v.brackets) (length v.texts)))) _ _
      (λ _. refusing (refused short_store) (λ e. omega (arith, e)))
      (λ _. pick-holds Claimed (not (all_valid s.agent s.user s.author)) _ _ (λ _. refusing (refused not_utf8) (λ e. omega (arith, e)))
      (λ _. pick-holds Claimed (not (is refusal.number no_refusal.number)) _ _ (λ p. refusing refusal (is_false refusal.number 0 (not-true _ p)))
      (λ p. pick-holds Claimed (not (is_element g.nodes row)) _ _ (λ _. refusing (refused no_element) (λ e. omega (arith, e)))
      (λ e _. asked (not-false _ p) (not-false _ e))))))

  -- sheets that were read
  read-styled : (m : Sheets) (a u w : List _) → m ≡ rules a u w
      → (styled_left v.row v.texts v.rules v.tokens v.brackets Crate settings (path_of g.nodes g.attributes g.text row) m).answer.refusal ≡ no_refusal
  unfolding styled_left answered
  read-styled m a u w e = rw e refl

  -- stores of the least lengths suffice
  enough : (n numbers tokens brackets bytes : ℕ) → Least n numbers tokens brackets bytes → stores_suffice n numbers tokens brackets bytes ≡ true
  unfolding stores_suffice
  enough n numbers tokens brackets bytes l =
      and_both _ _ (le-leb _ _ l.for-texts) (and_both _ _ (le-leb _ _ l.for-brackets) (and_both _ _ (le-leb _ _ l.for-rules) (le-leb _ _ l.for-tokens)))

  -- sheets that compile, and an element of an accepted page: the call, lent enough, refuses nothing
  pub element-styled : (code : List ℕ) → Compiled s code → Asked g row → StyleLent s g v → (style_with settings s g row v).answer.refusal ≡ no_refusal
  unfolding style_of is_element
  element-styled code c a l =
      let p : is refusal.number no_refusal.number ≡ true = is-yes _ _ (ap (λ (r : Refusal). r.number) a.page) in
      let e : is_element g.nodes row ≡ true = and_both _ _ (lt-ltb _ _ a.there) (is-yes _ _ a.element) in
      let m : and (leb style_row_width (length v.row)) (stores_suffice (call_bytes s g) (length v.rules) (length v.tokens) (length v.brackets) (length v.texts)) ≡ true =
      and_both _ _ (le-leb _ _ l.for-row) (enough (call_bytes s g) (length v.rules) (length v.tokens) (length v.brackets) (length v.texts) l.for-stores) in
      let x = styled_left v.row v.texts v.rules v.tokens v.brackets Crate settings (path_of g.nodes g.attributes g.text row) (sheets_of s.agent s.user s.author) in
      let whole : x ≡ style_with settings s g row v =
      pick-false x _ _ _ c.short (pick-false x _ _ _ (not_from_true _ m) (pick-false x _ _ _ (not_from_true _ c.valid) (pick-false x _ _ _ (not_from_true _ p) (pick-false x _ _ _ (not_from_true _ e) refl)))) in
      ap (λ (z : StyleLeft). z.answer.refusal) (sym whole) ∙ read-styled (sheets_of s.agent s.user s.author) _ _ _ c.read
