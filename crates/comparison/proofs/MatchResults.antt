-- Returns of `comparison_matches` and what it calls, in the order of the refusals.
use Prim.Native.Nat.{ℕ, ◌*◌, ◌≤◌, ◌<◌}
use mathlib.Core.Bool.{Bool, true, false}
use mathlib.Core.List.{List}
use mathlib.Core.Path.{◌≡◌, refl, ap, sym, ◌∙◌}
use borrow.Author.Tests.{ltb-true, lt-ltb, le-ltb, le-leb, lt-leb}
use lib.ListN.{length}
use Rattle.std.proofs.Common.{Result, Ok, Err}
use Rattle.std.specs.Result.{IsErrAnd}
use Rattle.combinators.specs.Refusal.{no_refusal}
use Rattle.combinators.specs.declared.refusals.Refusal.{Refusal}
use Rattle.combinators.proofs.Rules.{pick_true, pick-false, and-true, is_true, is-yes, is-no-of}
use Rattle.syntax.specs.RuleLayout.{component_width}
use Rattle.cascade.specs.declared.specificity.Specificity.{Specificity}
use Rattle.page.specs.Accepted.{error_refusal, refusal_of, page_refusal}
use Rattle.page.specs.declared.check.PageError.{PageError}
use Rattle.page.specs.PathOf.{path_of}
use Rattle.matching.specs.Matches.{matches}
use Rattle.matching.specs.Rows.{components_at, Rooted}
use Rattle.matching.specs.Specificity.{specificity}
use Rattle.matching.proofs.Roots.{accepted-element}
use Rattle.comparison.specs.Matches.{component_limit, match_refusal, match_result, selector_match, row_match, page_match, match_called}
use Rattle.comparison.specs.declared.matches.Match.{Match}
use Rattle.comparison.specs.declared.matches.MatchError.{MatchError}
use Rattle.comparison.specs.declared.matches.MatchError.TheVariants.{TooLong, ShortStore, BadPage, NoElement}
use Rattle.styling.specs.StyleAnswer.{is_element}
use Rattle.styling.proofs.StyleCalls.{page-passed, page-failed, error-loud}

module _ (components : List ℕ) (count : ℕ) (texts nodes attributes text : List ℕ) (row : ℕ) where
  -- ---- a row of an accepted page
  module _ {t : Bool} (et : t ≡ is_element nodes row) where
    -- the return where the row is no element
    pub row_other : t ≡ false → match_result (Err NoElement) ≡ row_match components count texts nodes attributes text row
    unfolding row_match match_result match_refusal
    row_other f = pick-false _ _ _ _ (sym et ∙ f) refl

    module _ (e : t ≡ true) where
      -- from an element of an accepted page parents lead to the document
      pub row-rooted : page_refusal nodes attributes text ≡ no_refusal → Rooted nodes row
      unfolding is_element
      row-rooted p =
          let there = and-true _ _ (sym et ∙ e) in
          accepted-element nodes attributes text p row (ltb-true _ _ there.0) (is_true _ _ there.1)

      -- the return on an element: whether the components match its path, and their specificity
      pub row-asked : {m : Bool} → m ≡ matches (components_at texts components count) (path_of nodes attributes text row)
          → {s : Specificity} → ((store : List ℕ) → s ≡ specificity (components_at store components count))
          → match_result (Ok (record { matches = m; specificity = s })) ≡ row_match components count texts nodes attributes text row
      unfolding row_match selector_match match_result
      row-asked em es = pick_true _ _ _ _ (sym et ∙ e) (rw (em, es texts) refl)

  -- ---- the call
  abbrev Called : Result Match MatchError → Type 0
  Called o = match_result o ≡ match_called components count texts nodes attributes text row

  -- a call with more components than a selector may have is refused with 1
  pub too_many : component_limit < count → Called (Err TooLong)
  unfolding match_called match_result match_refusal
  too_many h = pick_true _ _ _ _ (lt-ltb component_limit count h) refl

  module _ (h : count ≤ component_limit) where
    -- the return where the components are fewer than were told: the store is too short
    pub too_few : length components < component_width * count → Called (Err ShortStore)
    unfolding match_called match_result match_refusal
    too_few g = pick-false _ _ _ _ (le-ltb component_limit count h) (pick-false _ _ _ _ (lt-leb (component_width * count) (length components) g) refl)

    module _ (g : component_width * count ≤ length components) where
      -- behind both tests, what the page decides is what the call answers
      of-page : (o : Result Match MatchError) → match_result o ≡ page_match (page_refusal nodes attributes text) (row_match components count texts nodes attributes text row) → Called o
      unfolding match_called
      of-page o e = pick-false _ _ _ _ (le-ltb component_limit count h) (pick_true _ _ _ _ (le-leb (component_width * count) (length components) g) e)

      module _ {r : Result Unit PageError} (er : refusal_of r ≡ page_refusal nodes attributes text) where
        module _ (passed : r ≡ Ok tt) where
          -- a page that passes is accepted
          pub accepts : page_refusal nodes attributes text ≡ no_refusal
          accepts = sym (page-passed passed er)

          -- the return where the page is accepted: what its row decides
          pub on-page : (o : Result Match MatchError) → match_result o ≡ row_match components count texts nodes attributes text row → Called o
          unfolding page_match
          on-page o p = of-page o (pick_true _ _ _ _ (is-yes _ 0 (ap (λ (q : Refusal). q.number) accepts)) p)

        -- the return where the page is refused: its number and place
        pub no-page : {e : PageError} → r ≡ Err e → (o : Result Match MatchError) → IsErrAnd o (λ q. q ≡ BadPage e) → Called o
        unfolding page_match match_result match_refusal
        no-page {e} was (Err q) d =
            let is : error_refusal e ≡ page_refusal nodes attributes text = page-failed was refl er in
            of-page (Err q) (pick-false _ _ _ _ (is-no-of (error_refusal e).number _ 0 (ap (λ (p : Refusal). p.number) is) (error-loud e refl)) (rw (d, is) refl))
        no-page was (Ok m) d = absurd d
