-- The number of a selector decides its last descendant combinator on a row and on its ancestors; and the returns and turns of the functions that find it.
use Prim.Native.Nat.{ℕ, zero, suc, ◌+◌, ◌≤◌, ◌<◌}
use mathlib.Core.Bool.{Bool, true, false}
use mathlib.Core.List.{List, [], ◌∷◌, ◌++◌, map, map-id}
use mathlib.Core.Logic.{◌⊎◌, inl, inr, ⊎_elim}
use mathlib.Core.Path.{◌≡◌, refl, sym, ap, subst, ◌∙◌}
use native.Mathlib.Numerals.{add-one}
use native.Mathlib.Omega.{arith}
use lib.Dec.{eqb}
use Rattle.std.specs.Prelude.{◌||◌, not, Option, Some, None, MatchOption, is_some}
use Rattle.std.specs.List.{list_any, range_with_len}
use Rattle.std.proofs.lemmas.List.Folds.{list_any-append}
use Rattle.std.proofs.lemmas.List.FromFn.{map-range_with_len_more}
use borrow.Author.Tests.{lt-ltb, le-ltb, ltb-true, eqb-true, eqb-false}
use Rattle.combinators.specs.Choice.{pick, is}
use Rattle.combinators.proofs.Rules.{never, pick_true, pick-false, pick-holds, is-yes, is-no, is_true, is_false}
use Rattle.syntax.specs.RuleLayout.{descendant_kind, component_kind_at}
use Rattle.syntax.specs.Selector.{Component}
use Rattle.page.specs.Ancestors.{ancestors_from, ancestors_of}
use Rattle.page.proofs.Ancestry.{below-ancestors}
use Rattle.page.specs.PathOf.{path_of}
use Rattle.page.specs.Rows.{node_at}
use Rattle.matching.specs.Matches.{matches}
use Rattle.matching.specs.Rows.{component_number, component_at, components_at, Rooted}
use Rattle.matching.specs.Rows.Rooted.{document, below}
use Rattle.matching.specs.Recursion.{by_combinator}
use Rattle.matching.specs.Climb.{reaches, climb_of, first_reaching}
use Rattle.matching.specs.Topmost.{Line, below_top, parent_reached, has_descendant, selector_top, reached_number, selector_number, RightTop, RightNumber}
use Rattle.matching.specs.Topmost.Line.{same, above}
use Rattle.matching.specs.declared.matcher.SelectorMatch.{SelectorMatch}
use Rattle.matching.specs.declared.matcher.SelectorMatch.TheVariants.{Matches, FailsLocally, FailsCompletely}
use Rattle.matching.specs.declared.matcher.Climbed.{Climbed}
use Rattle.matching.specs.declared.matcher.Climbed.TheVariants.{Ended, Descendant}
use Rattle.matching.proofs.CallLaws.{by-combinator}
use Rattle.matching.proofs.ComponentLaws.{components-none, components-more}
use Rattle.matching.proofs.PassLaws.{from-descendant, second-passed}
use Rattle.matching.proofs.PathLaws.{parent-rooted, parent-before}
use Rattle.matching.proofs.ReachLaws as reach
use Rattle.matching.proofs.ReachLaws.{first-document, first-opened, first-here, first_above}
use Rattle.matching.proofs.TopmostLaws.{line_before, line-rooted, line_on, right-top, top_within, right-above}

-- ---- where a climb leads, and what numbers say of it

-- a descendant combinator is reached on no row behind one, and on one from which parents lead to the document
unfoldable NotBehind : List ℕ → ℕ → Climbed → Type 0
NotBehind nodes row (Ended r) = Unit
NotBehind nodes row (Descendant n at) = (at ≤ row) × Rooted nodes at

-- two numbers say the same of a climb that ended
ended-alike : (s t : ℕ) (r : SelectorMatch) → below_top s (Ended r) ≡ below_top t (Ended r)
unfolding below_top
ended-alike s t Matches = refl
ended-alike s t FailsLocally = refl
ended-alike s t FailsCompletely = refl

-- so of one that reaches no descendant combinator
unreached-alike : (s t : ℕ) (x : Climbed) → reaches x ≡ false → below_top s x ≡ below_top t x
unfolding reaches
unreached-alike s t (Ended r) e = ended-alike s t r
unreached-alike s t (Descendant n at) e = never (sym e)

-- and of one that reaches it on the document, before which no number stands
document-alike : (nodes : List ℕ) (s t : ℕ) (x : Climbed) → NotBehind nodes 0 x → below_top s x ≡ below_top t x
unfolding NotBehind below_top
document-alike nodes s t (Ended r) h = ended-alike s t r
document-alike nodes s t (Descendant n at) h = le-ltb s at (omega (arith, h.0)) ∙ sym (le-ltb t at (omega (arith, h.0)))

-- what some number says of one climb, the parent of the row that is reached and the path's row say too, the one where it is yes and the other where it is no
alone : (nodes : List ℕ) (top row : ℕ) (x : Climbed) → NotBehind nodes row x → (b : Bool) → below_top top x ≡ b → below_top (pick b (parent_reached nodes x) row) x ≡ b
unfolding NotBehind below_top pick parent_reached
alone nodes top row (Ended r) h b e = ended-alike (pick b 0 row) top r ∙ e
alone nodes top row (Descendant n at) h true e =
    let l = ltb-true top at e in
    let z : ¬ (at ≡ 0) = λ q. absurd (omega (arith, l)) in
    lt-ltb (node_at nodes at).parent at (parent-before nodes at h.1 z _ refl)
alone nodes top row (Descendant n at) h false e = le-ltb row at h.0

-- the parent of the row that is reached stands at the row or before it
parent-within : (nodes : List ℕ) (top row : ℕ) (x : Climbed) → NotBehind nodes row x → below_top top x ≡ true → parent_reached nodes x ≤ row
unfolding NotBehind below_top parent_reached
parent-within nodes top row (Ended r) h e = omega arith
parent-within nodes top row (Descendant n at) h e =
    let l = ltb-true top at e in
    let z : ¬ (at ≡ 0) = λ q. absurd (omega (arith, l)) in
    omega (arith, h.0, parent-before nodes at h.1 z _ refl)

-- a climb that ends in a match
unfoldable ends_in_match : Climbed → Bool
ends_in_match (Ended Matches) = true
ends_in_match (Ended FailsLocally) = false
ends_in_match (Ended FailsCompletely) = false
ends_in_match (Descendant n at) = false

-- of any other climb, from a row before it, a number says no
before-number : (nodes : List ℕ) (top row : ℕ) (x : Climbed) → NotBehind nodes row x → ends_in_match x ≡ false → row < top → below_top top x ≡ false
unfolding NotBehind below_top ends_in_match
before-number nodes top row (Ended Matches) h u l = never (sym u)
before-number nodes top row (Ended FailsLocally) h u l = refl
before-number nodes top row (Ended FailsCompletely) h u l = refl
before-number nodes top row (Descendant n at) h u l = le-ltb top at (omega (arith, h.0))

-- what is said of an answer that may be none, where there is one
pub of-some : {T : Type 0} (A : Type 0) (P : T → Type 0) (o : Option T) → MatchOption o A P → is_some o ≡ true → {B : Type 0} → ((x : T) → P x → B) → B
of-some A P (Some x) m e f = f x m
of-some A P None m e f = never e

-- and where there is none
pub of_none : {T : Type 0} (A : Type 0) (P : T → Type 0) (o : Option T) → MatchOption o A P → is_some o ≡ false → A
of_none A P (Some x) m e = never (sym e)
of_none A P None m e = m

-- what is not true is false, and the other way round
not-true : (t : Bool) → not t ≡ true → t ≡ false
not-true true e = never e
not-true false e = refl

not-false : (t : Bool) → not t ≡ false → t ≡ true
not-false true e = refl
not-false false e = never (sym e)

-- what is no descendant combinator reaches none
reaches-none : (t : Climbed) → ((n q : ℕ) → ¬ (t ≡ Descendant n q)) → reaches t ≡ false
unfolding reaches
reaches-none (Ended r) d = refl
reaches-none (Descendant n q) d = absurd (d n q refl)

module _ (nodes attributes text : List ℕ) where
  abbrev Climb : List Component → ℕ → Climbed
  Climb cs row = climb_of nodes attributes text cs row

  -- nor behind one that stands behind that
  not-behind-on : (row row' : ℕ) → row ≤ row' → (x : Climbed) → NotBehind nodes row x → NotBehind nodes row' x
  unfolding NotBehind
  not-behind-on row row' h (Ended r) w = tt
  not-behind-on row row' h (Descendant n at) w = (omega (arith, w.0), w.1)

  -- a child combinator leads to the parent
  parent-not-behind : (cs : List Component) (row : ℕ) → Rooted nodes row → (¬ (row ≡ 0) → NotBehind nodes (node_at nodes row).parent (Climb cs (node_at nodes row).parent))
      → NotBehind nodes row (pick (is row 0) (Ended FailsCompletely) (Climb cs (node_at nodes row).parent))
  unfolding NotBehind
  parent-not-behind cs row r up =
      pick-holds (NotBehind nodes row) (is row 0) _ _ (λ _. tt)
      (λ e. let z = is_false row 0 e in not-behind-on (node_at nodes row).parent row (omega (arith, parent-before nodes row r z _ refl)) (Climb cs (node_at nodes row).parent) (up z))

  -- a climb leads to no row behind the one it starts from
  climbs-up : (cs : List Component) (row : ℕ) → Rooted nodes row → NotBehind nodes row (Climb cs row)
  unfolding climb_of NotBehind
  climbs-up [] row r = tt
  climbs-up (c ∷ cs) row r =
      by-combinator (λ (b : Bool) (x : Climbed). NotBehind nodes row x) c {x = true} {y = true} {z = true}
      (parent-not-behind cs row r (λ z. climbs-up cs _ (parent-rooted nodes row r z _ refl)))
      (omega arith, r)
      (pick-holds (NotBehind nodes row) (matches (c ∷ []) (path_of nodes attributes text row)) _ _ (λ _. climbs-up cs row r) (λ _. tt))

  -- without a descendant combinator none is reached
  unreached : (cs : List Component) → has_descendant cs ≡ false → (row : ℕ) → reaches (Climb cs row) ≡ false
  unfolding has_descendant climb_of reaches
  unreached [] e row = refl
  unreached (c ∷ cs) e row =
      by-combinator (λ (h : Bool) (x : Climbed). h ≡ false → reaches x ≡ false) c {x = has_descendant cs} {y = true} {z = has_descendant cs}
      (λ h. pick-holds (λ (x : Climbed). reaches x ≡ false) (is row 0) _ _ (λ _. refl) (λ _. unreached cs h (node_at nodes row).parent))
      (λ h. never (sym h))
      (λ h. pick-holds (λ (x : Climbed). reaches x ≡ false) (matches (c ∷ []) (path_of nodes attributes text row)) _ _ (λ _. unreached cs h row) (λ _. refl)) e

  -- with one, no climb ends in a match
  unended : (cs : List Component) → has_descendant cs ≡ true → (row : ℕ) → ends_in_match (Climb cs row) ≡ false
  unfolding has_descendant climb_of ends_in_match
  unended [] e row = never e
  unended (c ∷ cs) e row =
      by-combinator (λ (h : Bool) (x : Climbed). h ≡ true → ends_in_match x ≡ false) c {x = has_descendant cs} {y = true} {z = has_descendant cs}
      (λ h. pick-holds (λ (x : Climbed). ends_in_match x ≡ false) (is row 0) _ _ (λ _. refl) (λ _. unended cs h (node_at nodes row).parent))
      (λ h. refl)
      (λ h. pick-holds (λ (x : Climbed). ends_in_match x ≡ false) (matches (c ∷ []) (path_of nodes attributes text row)) _ _ (λ _. unended cs h row) (λ _. refl)) e

  module _ (cs : List Component) where
    abbrev First : ℕ → ℕ
    First = reach.First nodes attributes text cs

    module _ (row : ℕ) (r : Rooted nodes row) (y : ¬ (row ≡ 0)) where
      -- what holds of the rows above a row holds of it: where none is first, it is reached from none
      none-turn : (b : Bool) → reaches (Climb cs row) ≡ b → First row ≡ 0
          → (First (node_at nodes row).parent ≡ 0 → (at : ℕ) → Line nodes (node_at nodes row).parent at → ¬ (at ≡ 0) → reaches (Climb cs at) ≡ false)
          → (at : ℕ) → Line nodes row at → ¬ (at ≡ 0) → reaches (Climb cs at) ≡ false
      none-turn true e f up at w z = absurd (y (sym (first-here nodes attributes text cs row r y e) ∙ f))
      none-turn false e f up at same z = e
      none-turn false e f up at (above q w) z = up (sym (first_above nodes attributes text cs row r y e) ∙ f) at w z

    -- where none is first, it is reached from no element of the path
    none-reaches : (row : ℕ) → Rooted nodes row → First row ≡ 0 → (at : ℕ) → Line nodes row at → ¬ (at ≡ 0) → reaches (Climb cs at) ≡ false
    none-reaches row (document d) e at same z = absurd (z refl)
    none-reaches row (document d) e at (above y w) z = absurd (y refl)
    none-reaches row (below k l n r) e at w z =
        none-turn row (below k l n r) (λ q. absurd (omega arith)) (reaches (Climb cs row)) refl e (none-reaches (node_at nodes row).parent r) at w z

    -- the first is a row of the path
    first-on-line : (row : ℕ) → Rooted nodes row → Line nodes row (First row)
    first-on-line row (document d) = rw (first-document nodes attributes text cs) same
    first-on-line row (below k l n r) =
        rw (first-opened nodes attributes text cs row l)
        (pick-holds (Line nodes row) (reaches (Climb cs row)) row _ (λ _. same) (λ _. above (λ q. absurd (omega arith)) (first-on-line (node_at nodes row).parent r)))

    -- of a row: it is the first, or it is not reached from there
    abbrev Alone : ℕ → ℕ → Type 0
    Alone first at = (at ≡ first) ⊎ (reaches (Climb cs at) ≡ false)

    module _ (first : ℕ) (none : First (node_at nodes first).parent ≡ 0) where
      module _ (row : ℕ) (r : Rooted nodes row) (y : ¬ (row ≡ 0)) where
        -- what holds of the rows above a row holds of it: where none is first above the first, it is reached from the first alone
        one-turn : (b : Bool) → reaches (Climb cs row) ≡ b → First row ≡ first
            → (First (node_at nodes row).parent ≡ first → (at : ℕ) → Line nodes (node_at nodes row).parent at → ¬ (at ≡ 0) → Alone first at)
            → (at : ℕ) → Line nodes row at → ¬ (at ≡ 0) → Alone first at
        one-turn true e f up at same z = inl (sym (first-here nodes attributes text cs row r y e) ∙ f)
        one-turn true e f up at (above q w) z =
            let here : first ≡ row = sym f ∙ first-here nodes attributes text cs row r y e in
            inr (none-reaches (node_at nodes row).parent (parent-rooted nodes row r y _ refl) (ap (λ (i : ℕ). First (node_at nodes i).parent) (sym here) ∙ none) at w z)
        one-turn false e f up at same z = inr e
        one-turn false e f up at (above q w) z = up (sym (first_above nodes attributes text cs row r y e) ∙ f) at w z

      -- so of all rows of a path
      one-reaches : (row : ℕ) → Rooted nodes row → First row ≡ first → (at : ℕ) → Line nodes row at → ¬ (at ≡ 0) → Alone first at
      one-reaches row (document d) e at same z = absurd (z refl)
      one-reaches row (document d) e at (above y w) z = absurd (y refl)
      one-reaches row (below k l n r) e at w z =
          one-turn row (below k l n r) (λ q. absurd (omega arith)) (reaches (Climb cs row)) refl e (one-reaches (node_at nodes row).parent r) at w z

    -- ---- the number of a selector on a row
    module _ (row : ℕ) (r : Rooted nodes row) where
      abbrev Top : ℕ
      Top = selector_top nodes attributes text row cs

      abbrev Second : ℕ
      Second = First (node_at nodes (First row)).parent

      abbrev Says : ℕ → ℕ → Type 0
      Says top at = below_top top (Climb cs at) ≡ matches cs (path_of nodes attributes text at)

      abbrev Right : ℕ → Type 0
      Right top = RightTop nodes attributes text cs row top

      -- every number is right where none is asked for
      unasked : (top at : ℕ) → Line nodes row at → (b : Bool) → is at 0 ≡ b → (¬ (at ≡ 0) → reaches (Climb cs at) ≡ false) → Says top at
      unasked top at w true e h =
          document-alike nodes top Top (Climb cs at) (subst (λ (i : ℕ). NotBehind nodes i (Climb cs at)) (is_true at 0 e) (climbs-up cs at (line-rooted nodes row at r w)))
          ∙ (right-top nodes attributes text row r cs).decides at w
      unasked top at w false e h = unreached-alike top Top (Climb cs at) (h (is_false at 0 e)) ∙ (right-top nodes attributes text row r cs).decides at w

      -- the row, where no row reaches a descendant combinator
      right-none : First row ≡ 0 → Right row
      right-none e = record { decides = λ at w. unasked row at w (is at 0) refl (none-reaches row r e at w) }

      -- what is said where one does: by whether the selector matches that row
      abbrev Sole : ℕ
      Sole = pick (matches cs (path_of nodes attributes text (First row))) (parent_reached nodes (Climb cs (First row))) row

      -- where one row alone reaches a descendant combinator, that number decides on this row
      on-first : (at : ℕ) → Line nodes row at → at ≡ First row → Says Sole at
      on-first at w e =
          ap (λ (i : ℕ). below_top (pick (matches cs (path_of nodes attributes text i)) (parent_reached nodes (Climb cs i)) row) (Climb cs at)) (sym e)
          ∙ alone nodes Top row (Climb cs at) (not-behind-on at row (line_before nodes row at r w) (Climb cs at) (climbs-up cs at (line-rooted nodes row at r w))) (matches cs (path_of nodes attributes text at))
          ((right-top nodes attributes text row r cs).decides at w)

      -- where one row alone reaches a descendant combinator, that number decides on all rows of the path
      one-says : Second ≡ 0 → (at : ℕ) → Line nodes row at → (b : Bool) → is at 0 ≡ b → Says Sole at
      one-says f at w true e = unasked _ at w true e (λ z. absurd (z (is_true at 0 e)))
      one-says f at w false e =
          ⊎_elim (λ (q : at ≡ First row). on-first at w q) (λ (q : reaches (Climb cs at) ≡ false). unasked _ at w false e (λ z. q))
          (one-reaches (First row) f row r refl at w (is_false at 0 e))

      -- so that number is right, where one row alone reaches a descendant combinator
      right-one : Second ≡ 0 → Right Sole
      right-one f = record { decides = λ at w. one-says f at w (is at 0) refl }

      -- with a descendant combinator the number decides wherever it is asked for
      right-reached : Right (reached_number nodes attributes text row cs)
      unfolding reached_number
      right-reached =
          pick-holds Right (is (First row) 0) _ _ (λ e. right-none (is_true _ _ e))
          (λ e. pick-holds Right (is Second 0) _ _ (λ f. right-one (is_true _ _ f)) (λ f. right-top nodes attributes text row r cs))

      -- without a descendant combinator any number is right
      right-other : has_descendant cs ≡ false → (top : ℕ) → Right top
      right-other e top = record { decides = λ at w. unasked top at w (is at 0) refl (λ z. unreached cs e at) }

      -- before a number that decides no row is matched, if there is a descendant combinator
      none_before : has_descendant cs ≡ true → (top : ℕ) → Right top → (at : ℕ) → Line nodes row at → at < top → matches cs (path_of nodes attributes text at) ≡ false
      none_before h top g at w l =
          sym (g.decides at w) ∙ before-number nodes top at (Climb cs at) (climbs-up cs at (line-rooted nodes row at r w)) (unended cs h at) l

      -- the number of a selector decides, and before it no row is matched
      pub right-number : RightNumber nodes attributes text cs row (selector_number nodes attributes text row cs)
      unfolding selector_number
      right-number =
          pick-holds (RightNumber nodes attributes text cs row) (has_descendant cs) _ _
          (λ h. record { right = right-reached; none = none_before h (reached_number nodes attributes text row cs) right-reached })
          (λ h. record { right = right-other h 0; none = λ at w l. absurd (omega arith) })

      -- the parent of the row that is reached is none behind it
      parent-first : matches cs (path_of nodes attributes text (First row)) ≡ true → parent_reached nodes (Climb cs (First row)) ≤ row
      parent-first e =
          let w = first-on-line row r in
          parent-within nodes Top row (Climb cs (First row)) (not-behind-on (First row) row (line_before nodes row (First row) r w) (Climb cs (First row)) (climbs-up cs (First row) (line-rooted nodes row (First row) r w)))
          ((right-top nodes attributes text row r cs).decides (First row) w ∙ e)

      -- it is no number behind the row
      pub number-within : selector_number nodes attributes text row cs ≤ row
      unfolding selector_number reached_number
      number-within =
          pick-holds (λ (n : ℕ). n ≤ row) (has_descendant cs) _ _
          (λ h. pick-holds (λ (n : ℕ). n ≤ row) (is (First row) 0) _ _ (λ e. omega arith)
          (λ e. pick-holds (λ (n : ℕ). n ≤ row) (is Second 0) _ _
          (λ f. pick-holds (λ (n : ℕ). n ≤ row) (matches cs (path_of nodes attributes text (First row))) _ _ (λ g. parent-first g) (λ g. omega arith))
          (λ f. top_within nodes attributes text row r cs)))
          (λ h. omega arith)

      -- ---- the returns of `reached_number`
      module _ (first : ℕ) (ef : first ≡ First row) where
        -- the first row is one of the path
        pub first-is-rooted : Rooted nodes first
        first-is-rooted = rw ef (line-rooted nodes row (First row) r (first-on-line row r))

        -- no row reaches a descendant combinator
        pub number-none : first ≡ 0 → row ≡ reached_number nodes attributes text row cs
        unfolding reached_number
        number-none z = pick_true _ _ _ _ (is-yes _ _ (sym ef ∙ z)) refl

        module _ (z : ¬ (first ≡ 0)) (a : Bool) (ea : a ≡ not (is (first_reaching nodes attributes text cs (ancestors_of nodes first)) 0)) where
          -- the second row is that of the definition
          asked-above : a ≡ not (is Second 0)
          asked-above =
              ea ∙ ap (λ (rows : List ℕ). not (is (first_reaching nodes attributes text cs rows) 0)) (below-ancestors nodes first (parent-before nodes first first-is-rooted z _ refl))
              ∙ ap (λ (i : ℕ). not (is (First (node_at nodes i).parent) 0)) ef

          -- and the first is none that the definition passes over
          no-first : ¬ (First row ≡ 0)
          no-first e = z (ef ∙ e)

          -- the return where more than one row reaches a descendant combinator: the number is the selector's topmost row
          pub number_more : a ≡ true → (t : ℕ) → t ≡ Top → t ≡ reached_number nodes attributes text row cs
          unfolding reached_number
          number_more y t et = pick-false _ _ _ _ (is-no _ _ no-first) (pick-false _ _ _ _ (not-true _ (sym asked-above ∙ y)) et)

          -- only the first row reaches a descendant combinator: the matcher is asked there
          module _ (none : a ≡ false) (b : Bool) (eb : b ≡ matches cs (path_of nodes attributes text first)) where
            -- the number by what the matcher answers
            number-one : (n : ℕ) → n ≡ Sole → n ≡ reached_number nodes attributes text row cs
            unfolding reached_number
            number-one n e = pick-false _ _ _ _ (is-no _ _ no-first) (pick_true _ _ _ _ (not-false _ (sym asked-above ∙ none)) e)

            -- which it answers of the first row
            first-matched : b ≡ matches cs (path_of nodes attributes text (First row))
            first-matched = eb ∙ ap (λ (i : ℕ). matches cs (path_of nodes attributes text i)) ef

            -- and the selector matches it
            pub number-yes : b ≡ true → (t : ℕ) → t ≡ parent_reached nodes (Climb cs first) → t ≡ reached_number nodes attributes text row cs
            number-yes h t et = number-one t (pick_true _ _ _ _ (sym first-matched ∙ h) (et ∙ ap (λ (i : ℕ). parent_reached nodes (Climb cs i)) ef))

            -- the selector does not match the first row: its number is the row itself
            pub number-no : b ≡ false → row ≡ reached_number nodes attributes text row cs
            number-no h = number-one row (pick-false _ _ _ _ (sym first-matched ∙ h) refl)

    -- ---- the returns of `reached_above`
    module _ (row : ℕ) (r : Rooted nodes row) where
      -- above the document there is no row
      pub none-above : row ≡ 0 → false ≡ not (is (first_reaching nodes attributes text cs (ancestors_of nodes row)) 0)
      unfolding first_reaching ancestors_of ancestors_from is
      none-above z = rw z refl

      -- above an element there is one if there is a first from its parent on
      pub asked-from : (p : ℕ) → p ≡ (node_at nodes row).parent → ¬ (row ≡ 0) → (b : Bool) → (b ≡ true → ¬ (First p ≡ 0)) → (b ≡ false → First p ≡ 0)
          → b ≡ not (is (first_reaching nodes attributes text cs (ancestors_of nodes row)) 0)
      asked-from p ep z b some none =
          go b some none ∙ ap (λ (i : ℕ). not (is (First i) 0)) ep
          ∙ ap (λ (rows : List ℕ). not (is (first_reaching nodes attributes text cs rows) 0)) (sym (below-ancestors nodes row (parent-before nodes row r z _ refl)))
        where
          go : (b : Bool) → (b ≡ true → ¬ (First p ≡ 0)) → (b ≡ false → First p ≡ 0) → b ≡ not (is (First p) 0)
          go true some none = ap not (sym (is-no (First p) 0 (some refl)))
          go false some none = ap not (sym (is-yes (First p) 0 (none refl)))

    -- ---- the returns of `parent_reached`
    module _ (row : ℕ) (t : Climbed) (et : t ≡ Climb cs row) where
      -- a descendant combinator is reached
      pub parent-found : {n at : ℕ} → t ≡ Descendant n at → (p : ℕ) → p ≡ (node_at nodes at).parent → p ≡ parent_reached nodes (Climb cs row)
      unfolding parent_reached
      parent-found e p ep = ep ∙ ap (parent_reached nodes) (sym e ∙ et)

      -- no descendant combinator is reached: the answer is 0
      pub parent-none : {s : SelectorMatch} → t ≡ Ended s → 0 ≡ parent_reached nodes (Climb cs row)
      unfolding parent_reached
      parent-none e = ap (parent_reached nodes) (sym e ∙ et)

    -- ---- the returns of `selector_number`: with a descendant combinator and without
    module _ (row : ℕ) (r : Rooted nodes row) (b : Bool) (eb : b ≡ has_descendant cs) where
      -- what is found stands at the row or before it
      pub number-found : b ≡ true → (t : ℕ) → t ≡ reached_number nodes attributes text row cs → (t ≡ selector_number nodes attributes text row cs) × (t ≤ row)
      unfolding selector_number
      number-found h t e = let q : t ≡ selector_number nodes attributes text row cs = pick_true _ _ _ _ (sym eb ∙ h) e in (q, rw q (number-within row r))

      -- and the number is 0
      pub number-unasked : b ≡ false → (0 ≡ selector_number nodes attributes text row cs) × (0 ≤ row)
      unfolding selector_number
      number-unasked h = (pick-false _ _ _ _ (sym eb ∙ h) refl, omega arith)

    -- ---- the returns of `matches_by_number`
    -- before its number a selector matches nothing
    pub numbered-none : (row top : ℕ) → RightNumber nodes attributes text cs row top → row < top → false ≡ matches cs (path_of nodes attributes text row)
    numbered-none row top g l = sym (g.none row same l)

    -- ---- turns of `first_reaching`: the first from a row above is the first of all
    pub record Reaching (row at : ℕ) : Type 0 where
      pub rooted : Rooted nodes at
      pub same_first : First row ≡ First at

    module _ (row at : ℕ) (g : Reaching row at) where
      -- with no element left, no row reaches a descendant combinator
      pub reach-end : at ≡ 0 → First row ≡ 0
      reach-end e = g.same_first ∙ ap First e ∙ first-document nodes attributes text cs

      module _ (t : Climbed) (et : t ≡ Climb cs at) where
        -- a descendant combinator is reached
        pub reach-found : {n q : ℕ} → t ≡ Descendant n q → at ≡ First row
        unfolding reaches first_reaching
        reach-found e = pick_true _ _ _ (reaches (Climb cs at)) (ap reaches (sym et ∙ e)) refl ∙ sym g.same_first

        -- none is reached here
        left-above : ((n q : ℕ) → ¬ (t ≡ Descendant n q)) → First row ≡ first_reaching nodes attributes text cs (ancestors_of nodes at)
        unfolding first_reaching
        left-above d = g.same_first ∙ sym (pick-false _ _ _ (reaches (Climb cs at)) (ap reaches (sym et) ∙ reaches-none t d) refl)

        -- the first is sought from an ancestor on, before which there is none
        pub reach-on : ((n q : ℕ) → ¬ (t ≡ Descendant n q)) → (p : ℕ) → Rooted nodes p → first_reaching nodes attributes text cs (ancestors_of nodes at) ≡ First p → Reaching row p
        reach-on d p r ep = record { rooted = r; same_first = left-above d ∙ ep }

        -- or there is none on all ancestors
        pub reach-none : ((n q : ℕ) → ¬ (t ≡ Descendant n q)) → first_reaching nodes attributes text cs (ancestors_of nodes at) ≡ 0 → First row ≡ 0
        reach-none d e = left-above d ∙ e

-- ---- turns of `has_descendant`: what is left has one where all have
module _ (components : List ℕ) where
  abbrev Has : List ℕ → ℕ → Bool
  Has store n = has_descendant (components_at store components n)

  -- a test of one number more
  any_more : (p : ℕ → Bool) (k : ℕ) → list_any p (range_with_len 0 (suc k)) ≡ (list_any p (range_with_len 0 k) || (p k || false))
  any_more p k =
      let e : map (λ (x : ℕ). x) (range_with_len 0 (k + 1)) ≡ map (λ (x : ℕ). x) (range_with_len 0 k) ++ k ∷ [] = map-range_with_len_more (λ (x : ℕ). x) 0 k k (omega arith) in
      let f : range_with_len 0 (suc k) ≡ range_with_len 0 k ++ k ∷ [] = sym (map-id (range_with_len 0 (suc k))) ∙ (rw add-one at e) ∙ ap (λ (l : List ℕ). l ++ k ∷ []) (map-id (range_with_len 0 k)) in
      ap (list_any p) f ∙ list_any-append p (range_with_len 0 k) (k ∷ [])

  -- a descendant combinator is among the first k components exactly where one of the k rows has its kind
  pub any-descendant : (store : List ℕ) (k : ℕ) → list_any (λ i. eqb (component_number components i component_kind_at) descendant_kind) (range_with_len 0 k) ≡ Has store k
  unfolding has_descendant component_at by_combinator
  any-descendant store zero = sym (ap has_descendant (components-none store components))
  any-descendant store (suc k) =
      any_more (λ i. eqb (component_number components i component_kind_at) descendant_kind) k
      ∙ go (eqb (component_number components k component_kind_at) descendant_kind) refl (any-descendant store k)
      ∙ sym (ap has_descendant (components-more store components k))
    where
      last : (x : Bool) → (x || true) ≡ true
      last true = refl
      last false = refl

      front : (x : Bool) → (x || false) ≡ x
      front true = refl
      front false = refl

      before : Bool
      before = list_any (λ i. eqb (component_number components i component_kind_at) descendant_kind) (range_with_len 0 k)

      go : (t : Bool) → eqb (component_number components k component_kind_at) descendant_kind ≡ t
          → before ≡ Has store k → (before || (t || false)) ≡ by_combinator (component_at store components k) (Has store k) true (Has store k)
      go true e h = last before ∙ sym (ap (λ (c : Component). by_combinator c (Has store k) true (Has store k)) (from-descendant store _ _ _ _ (eqb-true _ _ e)))
      go false e h = front before ∙ h ∙ sym (second-passed store _ _ _ _ (λ y. eqb-false _ _ e y) _ _)

-- what is right for a row is right for its ancestors
pub number-above : (nodes attributes text : List ℕ) (cs : List Component) (row top at : ℕ) → RightNumber nodes attributes text cs row top → Line nodes row at → RightNumber nodes attributes text cs at top
number-above nodes attributes text cs row top at g w =
    record { right = right-above nodes attributes text cs row top at g.right w; none = λ q v l. g.none q (line_on nodes w v) l }
