-- The answer of `check_page`: how the code finds it.
use mathlib.Core.Path.{◌≡◌, refl, sym, ◌∙◌}
use mathlib.Core.Bool.{Bool, true, false}
use mathlib.Core.List.{List}
use Prim.Native.Nat.{ℕ}
use Rattle.std.specs.Prelude.{Option, Some, None, Ok, Err}
use Rattle.combinators.specs.Choice.{is}
use Rattle.combinators.proofs.Rules.{pick_true, pick-false, is-yes, is-no}
use Rattle.page.specs.Rows.{node_count}
use Rattle.page.specs.Accepted.{within_limits, first_bad_row, first_bad_text, refused_row, page_refusal, error_refusal, refusal_of}
use Rattle.page.specs.declared.check.PageError.TheVariants.{TooLarge, BadRow, BadText}

-- ---- `check_page`: limits, rows and texts, the first that fails
module _ (nodes attributes text : List ℕ) (t : Bool) (et : t ≡ within_limits nodes attributes text) where
  -- it is over a limit
  pub page-too-large : t ≡ false → refusal_of (Err TooLarge) ≡ page_refusal nodes attributes text
  unfolding page_refusal refusal_of error_refusal
  page-too-large e = pick-false _ _ _ _ (sym et ∙ e) refl

  module _ (y : t ≡ true) (rows : ℕ) (er : rows ≡ node_count nodes) where
    -- the return where the page has no row: refusal 6 at row 0
    pub page-empty : rows ≡ 0 → refusal_of (Err (BadRow 0)) ≡ page_refusal nodes attributes text
    unfolding page_refusal refusal_of error_refusal
    page-empty e = pick_true _ _ _ _ (sym et ∙ y) (pick_true _ _ _ _ (is-yes _ _ (sym er ∙ e)) refl)

    module _ (d : ¬ (rows ≡ 0)) (bad : Option ℕ) (eb : bad ≡ first_bad_row nodes attributes) where
      -- the page has a row, so the definition's test for none fails
      none : is (node_count nodes) 0 ≡ false
      none = is-no _ _ (λ (e : node_count nodes ≡ 0). d (er ∙ e))

      -- a row is against the rules
      pub page-bad-row : (row : ℕ) → bad ≡ Some row → refusal_of (Err (BadRow row)) ≡ page_refusal nodes attributes text
      unfolding page_refusal refused_row refusal_of error_refusal
      page-bad-row row e = pick_true _ _ _ _ (sym et ∙ y) (pick-false _ _ _ _ none (rw (← eb, e) refl))

      module _ (l : bad ≡ None) (unread : Option ℕ) (eu : unread ≡ first_bad_text nodes attributes text) where
        -- the return where a text cannot be read: refusal 7 at that row
        pub page-bad-text : (row : ℕ) → unread ≡ Some row → refusal_of (Err (BadText row)) ≡ page_refusal nodes attributes text
        unfolding page_refusal refused_row refusal_of error_refusal
        page-bad-text row e = pick_true _ _ _ _ (sym et ∙ y) (pick-false _ _ _ _ none (rw (← eb, ← eu, l, e) refl))

        -- a page of which no row and no text is at fault is accepted
        pub page-accepted : unread ≡ None → refusal_of (Ok tt) ≡ page_refusal nodes attributes text
        unfolding page_refusal refused_row refusal_of
        page-accepted e = pick_true _ _ _ _ (sym et ∙ y) (pick-false _ _ _ _ none (rw (← eb, ← eu, l, e) refl))
