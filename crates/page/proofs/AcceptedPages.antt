-- What `check_page` promises: a page is accepted exactly if it is within the limits, every row keeps the rules and every text can be read; and which row
-- a refusal names.
use mathlib.Core.Path.{◌≡◌, refl, sym, ap}
use mathlib.Core.Bool.{Bool, true, false}
use mathlib.Core.List.{List}
use mathlib.Core.Logic.{◌⊎◌, inl, inr}
use Prim.Native.Nat.{ℕ, zero, suc, ◌+◌, ◌%◌, ◌≤◌, ◌<◌}
use native.Mathlib.Omega.{arith}
use borrow.Author.Tests.{leb-true, le-leb}
use lib.ListN.{length}
use Rattle.std.specs.Prelude.{Option, Some, None}
use Rattle.combinators.specs.Choice.{pick, is}
use Rattle.combinators.specs.Refusal.{no_refusal, refused, refused_at, too_large, bad_row, bad_text}
use Rattle.combinators.specs.declared.refusals.Refusal.{Refusal}
use Rattle.combinators.proofs.Rules.{pick_true, pick-false, and_both, and-true, is-yes, is-no, is_true, is_false}
use Rattle.page.specs.Rows.{node_width, node_count, attribute_width, attribute_rows}
use Rattle.page.specs.Accepted.{node_limit, attribute_limit, text_limit, within_limits, row_right, texts_right, first_fault, first_bad_row, first_bad_text, refused_row, page_refusal}
use Rattle.page.proofs.FirstFault.{fault-range, fault-passed, fault-fails, fault-none, fault-all}

-- a page that is accepted: within the limits, every row by the rules, every text readable
pub record Accepted (nodes attributes text : List ℕ) : Type 0 where
  pub some : 0 < node_count nodes
  pub few : node_count nodes ≤ node_limit
  pub few-attributes : attribute_rows attributes ≤ attribute_limit
  pub few_bytes : length text ≤ text_limit
  pub whole : length nodes % node_width ≡ 0
  pub whole-attributes : length attributes % attribute_width ≡ 0
  pub rules : (row : ℕ) → row < node_count nodes → row_right nodes attributes row ≡ true
  pub texts : (row : ℕ) → row < node_count nodes → texts_right nodes attributes text row ≡ true

-- the first of the rows that is refused: it fails a test which all rows before it pass
pub record First (right : ℕ → Bool) (rows row : ℕ) : Type 0 where
  pub there : row < rows
  pub fails : right row ≡ false
  pub passed : (m : ℕ) → m < row → right m ≡ true

module _ (right : ℕ → Bool) (rows : ℕ) where
  -- a first fault is one
  first-of : (row : ℕ) → first_fault right rows 0 ≡ Some row → First right rows row
  first-of row e =
      let b = fault-range right rows 0 row e in
      record { there = omega (arith, b.1); fails = fault-fails right rows 0 row e; passed = λ (m : ℕ) (q : m < row). fault-passed right rows 0 row m e (omega arith) q }

  -- where there is none, all rows pass
  all-of : first_fault right rows 0 ≡ None → (m : ℕ) → m < rows → right m ≡ true
  all-of e m l = fault-all right rows 0 m e (omega arith) (omega arith)

-- two refusals that are the same have the same number and the same place
numbers : {x y p q : ℕ} → refused_at x p ≡ refused_at y q → x ≡ y
numbers e = ap (λ (r : Refusal). r.number) e

-- two refusals that are the same have the same place
places : {x y p q : ℕ} → refused_at x p ≡ refused_at y q → q ≡ p
places e = sym (ap (λ (r : Refusal). r.place) e)

-- the tests in their order
abbrev tested : Bool → Bool → Option ℕ → Option ℕ → Refusal
tested w z b t =
    pick w
    (pick z (refused_at bad_row 0)
    (refused_row bad_row b (refused_row bad_text t no_refusal)))
    (refused too_large)

-- what a refusal says of the tests that led to it
accepted-tests : (w z : Bool) (b t : Option ℕ) → tested w z b t ≡ no_refusal → (w ≡ true) × (z ≡ false) × (b ≡ None) × (t ≡ None)
unfolding pick refused_row
accepted-tests true true b t e = absurd (let n : bad_row ≡ 0 = numbers e in omega arith)
accepted-tests true false (Some r) t e = absurd (let n : bad_row ≡ 0 = numbers e in omega arith)
accepted-tests true false None (Some u) e = absurd (let n : bad_text ≡ 0 = numbers e in omega arith)
accepted-tests true false None None e = (refl, refl, refl, refl)
accepted-tests false z b t e = absurd (let n : too_large ≡ 0 = numbers e in omega arith)

-- a page that is refused with 5 failed the test of the limits
limit-tests : (w z : Bool) (b t : Option ℕ) → tested w z b t ≡ refused too_large → w ≡ false
unfolding pick refused_row
limit-tests true true b t e = absurd (let n : bad_row ≡ too_large = numbers e in omega arith)
limit-tests true false (Some r) t e = absurd (let n : bad_row ≡ too_large = numbers e in omega arith)
limit-tests true false None (Some u) e = absurd (let n : bad_text ≡ too_large = numbers e in omega arith)
limit-tests true false None None e = absurd (let n : 0 ≡ too_large = numbers e in omega arith)
limit-tests false z b t e = refl

-- a page that is refused with 7 failed at a text, in the row that is named
bad-text-tests : (w z : Bool) (b t : Option ℕ) (row : ℕ) → tested w z b t ≡ refused_at bad_text row → (w ≡ true) × (z ≡ false) × (b ≡ None) × (t ≡ Some row)
unfolding pick refused_row
bad-text-tests true true b t row e = absurd (let n : bad_row ≡ bad_text = numbers e in omega arith)
bad-text-tests true false (Some r) t row e = absurd (let n : bad_row ≡ bad_text = numbers e in omega arith)
bad-text-tests true false None (Some u) row e = (refl, refl, refl, ap Some (sym (places e)))
bad-text-tests true false None None row e = absurd (let n : 0 ≡ bad_text = numbers e in omega arith)
bad-text-tests false z b t row e = absurd (let n : too_large ≡ bad_text = numbers e in omega arith)

-- a page that is refused with 6 has no row, and row 0 is named, or a row against the rules, which is named
bad-row-tests : (w z : Bool) (b t : Option ℕ) (row : ℕ) → tested w z b t ≡ refused_at bad_row row → (w ≡ true) × (((z ≡ true) × (row ≡ 0)) ⊎ (b ≡ Some row))
unfolding pick refused_row
bad-row-tests true true b t row e = (refl, inl (refl, places e))
bad-row-tests true false (Some r) t row e = (refl, inr (ap Some (sym (places e))))
bad-row-tests true false None (Some u) row e = absurd (let n : bad_text ≡ bad_row = numbers e in omega arith)
bad-row-tests true false None None row e = absurd (let n : 0 ≡ bad_row = numbers e in omega arith)
bad-row-tests false z b t row e = absurd (let n : too_large ≡ bad_row = numbers e in omega arith)

module _ (nodes attributes text : List ℕ) where
  -- a page is accepted only if all this holds
  pub accepted : page_refusal nodes attributes text ≡ no_refusal → Accepted nodes attributes text
  unfolding page_refusal within_limits first_bad_row first_bad_text
  accepted e =
      let t = accepted-tests _ _ _ _ e in
      let w = and-true _ _ t.0 in
      let limits = and-true _ _ w.0 in
      let others = and-true _ _ limits.1 in
      let widths = and-true _ _ w.1 in
      let o = is_false _ _ t.1 in
      record {
        some = positive (node_count nodes) o;
        few = leb-true _ _ limits.0;
        few-attributes = leb-true _ _ others.0;
        few_bytes = leb-true _ _ others.1;
        whole = is_true _ _ widths.0;
        whole-attributes = is_true _ _ widths.1;
        rules = all-of (row_right nodes attributes) (node_count nodes) t.2;
        texts = all-of (texts_right nodes attributes text) (node_count nodes) t.3;
      }
    where
      positive : (n : ℕ) → ¬ (n ≡ 0) → 0 < n
      positive zero d = absurd (d refl)
      positive (suc n) d = omega arith

  -- and always if it does
  pub accepts : Accepted nodes attributes text → page_refusal nodes attributes text ≡ no_refusal
  unfolding page_refusal within_limits first_bad_row first_bad_text refused_row
  accepts a =
      let n = node_count nodes in
      let r = fault-none (row_right nodes attributes) n 0 (λ (m : ℕ) _ (l : m < 0 + n). a.rules m (omega arith)) in
      let u = fault-none (texts_right nodes attributes text) n 0 (λ (m : ℕ) _ (l : m < 0 + n). a.texts m (omega arith)) in
      sym
      (pick_true _ _ _ _
      (and_both _ _ (and_both _ _ (le-leb _ _ a.few) (and_both _ _ (le-leb _ _ a.few-attributes) (le-leb _ _ a.few_bytes))) (and_both _ _ (is-yes _ _ a.whole) (is-yes _ _ a.whole-attributes)))
      (pick-false _ _ _ _ (is-no _ _ (λ (e : n ≡ 0). omega (arith, a.some))) (rw (r, u) refl)))

  -- refusal 5 says that the page is over a limit, or a list no whole count of rows
  pub refused-limit : page_refusal nodes attributes text ≡ refused too_large → within_limits nodes attributes text ≡ false
  unfolding page_refusal
  refused-limit e = limit-tests _ _ _ _ e

  -- refusal 6 names the first row against the rules, or row 0 where there is none
  pub refused-row : (row : ℕ) → page_refusal nodes attributes text ≡ refused_at bad_row row
      → ((node_count nodes ≡ 0) × (row ≡ 0)) ⊎ First (row_right nodes attributes) (node_count nodes) row
  unfolding page_refusal first_bad_row first_bad_text
  refused-row row e = go (bad-row-tests _ _ _ _ row e).1
    where
      go : ((is (node_count nodes) 0 ≡ true) × (row ≡ 0)) ⊎ (first_fault (row_right nodes attributes) (node_count nodes) 0 ≡ Some row)
          → ((node_count nodes ≡ 0) × (row ≡ 0)) ⊎ First (row_right nodes attributes) (node_count nodes) row
      go (inl t) = inl (is_true _ _ t.0, t.1)
      go (inr t) = inr (first-of (row_right nodes attributes) (node_count nodes) row t)

  -- refusal 7 names the first row with a text that cannot be read; no row is against the rules then
  pub refused-text : (row : ℕ) → page_refusal nodes attributes text ≡ refused_at bad_text row
      → ((m : ℕ) → m < node_count nodes → row_right nodes attributes m ≡ true) × First (texts_right nodes attributes text) (node_count nodes) row
  unfolding page_refusal first_bad_row first_bad_text
  refused-text row e =
      let t = bad-text-tests _ _ _ _ row e in
      (all-of (row_right nodes attributes) (node_count nodes) t.2, first-of (texts_right nodes attributes text) (node_count nodes) row t.3)
