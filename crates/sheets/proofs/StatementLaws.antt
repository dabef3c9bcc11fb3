-- A statement: a rule, or else an at-rule, of which nothing is kept.
use mathlib.Core.Path.{◌≡◌, refl, sym, ap, ◌∙◌}
use mathlib.Core.List.{List, [], ◌∷◌, append-nil, map}
use Prim.Native.Nat.{ℕ, ◌+◌}
use native.Mathlib.Omega.{arith}
use lib.ListN.{length}
use lib.Seq.{sets}
use Rattle.std.specs.Prelude.{Some, None, Ok, Err}
use Rattle.combinators.proofs.Rules.{pick-holds}
use Rattle.lexer.proofs.TokenBounds.{on-holds}
use Rattle.syntax.specs.RuleLayout.{rule_row, rule_text, rule_rows, rule_texts}
use Rattle.syntax.specs.Selector.{RuleSet}
use Rattle.syntax.specs.Stream.{rows_many, texts_many}
use Rattle.selectors.specs.Outcome.{Outcome, reads, fails, panics, on_outcome, behind, or_else}
use Rattle.sheets.specs.Sheet.{ruleset_of, statement_end, at_rule_of, statements_of, moved_by, moved_to}
use Rattle.sheets.specs.Rules.{WorkRoom, RuleRoom}
use Rattle.selectors.specs.Reading.{reading, written}
use Rattle.selectors.proofs.ReadingLaws.{Reading, panic_at, sized, Left, left-reads, left-panics, found, nothing, panicked}

-- ---- an at-rule says nothing, wherever it stands
record Nothing (at fill : ℕ) (o : Outcome (List RuleSet)) : Type 0 where
  stays : behind 0 o (map (moved_by at)) ≡ o
  rows : written (rule_rows fill) o ≡ []
  texts : written rule_texts o ≡ []

module _ (at fill : ℕ) where
  -- where no rule is read
  nothing_read : (n : ℕ) → Nothing at fill (reads n [])
  unfolding behind written on_outcome rule_rows rule_texts rows_many texts_many
  nothing_read n =
      let e : 0 + n ≡ n = omega arith in
      record { stays = rw e; rows = refl; texts = refl }

  -- where nothing is read
  nothing-fails : Nothing at fill fails
  unfolding behind written on_outcome
  nothing-fails = record { stays = refl; rows = refl; texts = refl }

  -- of the end of a statement
  nothing-end : (s : List ℕ) (n : ℕ) → Nothing at fill (statement_end s n)
  unfolding statement_end
  nothing-end s n = pick-holds (Nothing at fill) _ _ _ (λ _. nothing_read _) (λ _. nothing-fails)

  -- an at-rule keeps nothing
  at-rule-nothing : (s : List ℕ) → Nothing at fill (at_rule_of s)
  unfolding at_rule_of
  at-rule-nothing s =
      pick-holds (Nothing at fill) _ _ _ (λ _. on-holds (Nothing at fill) _ _ _ (λ n name e. nothing-end s _) (λ _. nothing-fails)) (λ _. nothing-fails)

-- ---- a rule, or else what stands behind it
module _ (at : ℕ) (k : Outcome (List RuleSet)) where
  -- that of a rule
  abbrev either-of : Outcome RuleSet → Outcome (List RuleSet)
  either-of o = behind 0 (or_else (behind 0 o (λ r. r ∷ [])) k) (map (moved_by at))

  -- where a rule reads it is the statement
  either-reads : (o : Outcome RuleSet) (n : ℕ) (x : RuleSet) → behind 0 o (moved_by at) ≡ reads n x → either-of o ≡ reads n (x ∷ [])
  unfolding behind on_outcome or_else
  either-reads (reads m a) n x e =
      let p : 0 + m ≡ n = cc in
      let q : moved_by at a ≡ x = cc in
      let z : 0 + (0 + m) ≡ n = omega (arith, p) in
      rw (z, q)
  either-reads fails n x e = absurd (let z : ◌≡◌ {A = ℕ} 0 1 = cc in omega arith)
  either-reads (panics p) n x e = absurd (let z : ◌≡◌ {A = ℕ} 0 1 = cc in omega arith)

  -- where the crate panics in the rule, it panics in the statement, at the same byte
  either-panics : (o : Outcome RuleSet) (p : ℕ) → behind 0 o (moved_by at) ≡ panics p → either-of o ≡ panics p
  unfolding behind on_outcome or_else
  either-panics (reads m a) p e = absurd (let z : ◌≡◌ {A = ℕ} 0 1 = cc in omega arith)
  either-panics fails p e = absurd (let z : ◌≡◌ {A = ℕ} 0 1 = cc in omega arith)
  either-panics (panics m) p e =
      let h : 0 + m ≡ p = cc in
      let z : 0 + (0 + m) ≡ p = omega (arith, h) in
      rw z

  -- where none does the other reading decides
  either_second : (o : Outcome RuleSet) → behind 0 o (moved_by at) ≡ fails → either-of o ≡ behind 0 k (map (moved_by at))
  unfolding behind on_outcome or_else
  either_second (reads m a) e = absurd (let z : ◌≡◌ {A = ℕ} 0 1 = cc in omega arith)
  either_second fails e = refl
  either_second (panics p) e = absurd (let z : ◌≡◌ {A = ℕ} 0 1 = cc in omega arith)

-- ---- one rule as a list
-- the row of one rule is that of a list of that rule alone
one-rule : (f : ℕ) (r : RuleSet) → rule_row f r ≡ rule_rows f (r ∷ [])
unfolding rule_rows rows_many
one-rule f r = sym (append-nil (rule_row f r))

-- the texts of one rule are its text
one-text : (r : RuleSet) → rule_text r ≡ rule_texts (r ∷ [])
unfolding rule_texts texts_many
one-text r = sym (append-nil (rule_text r))

-- ---- `parse_statement`: a rule, or else an at-rule, return by return
module _ (s : List ℕ) (at : ℕ) (rules : List ℕ) (place : ℕ) (tokens brackets store : List ℕ) (fill : ℕ) (o : RuleRoom s at rules place tokens brackets store fill) where
  -- that of a rule
  abbrev meant : Outcome (List RuleSet)
  meant = moved_to at (statements_of s)

  -- what the function ensures
  abbrev pub Stated : Reading → List ℕ → List ℕ → List ℕ → List ℕ → Type 0
  Stated r y x b z = (r ≡ reading length (rule_rows fill) rule_texts meant)
      × ((y ≡ sets rules place (written (rule_rows fill) meant))
      × ((x ≡ tokens) × ((b ≡ brackets) × (z ≡ sets store fill (written rule_texts meant)))))

  -- by what is left of rows and texts
  stated : {r : Reading} {y x b z : List ℕ} → Left length (rule_rows fill) rule_texts meant rules place store fill r y z → x ≡ tokens → b ≡ brackets → Stated r y x b z
  stated l ex eb = (l.0, (l.1.0, (ex, (eb, l.1.1))))

  -- that of a rule
  abbrev first : Outcome RuleSet
  first = behind 0 (ruleset_of s) (moved_by at)

  -- what `parse_ruleset` left: the rule, written at the place
  module _ {r : Reading} {y x b z : List ℕ} (e : (r ≡ reading (λ _. 1) (rule_row fill) rule_text first)
      × ((y ≡ sets rules place (written (rule_row fill) first)) × ((x ≡ tokens) × ((b ≡ brackets) × (z ≡ sets store fill (written rule_text first)))))) where
    -- its answer, rows and texts, without the other stores
    left : Left (λ _. 1) (rule_row fill) rule_text first rules place store fill r y z
    left = (e.0, (e.1.0, e.1.1.1.1))

    -- the return where a rule was read
    pub rule-stated : {n count numbers text : ℕ} → r ≡ Ok (Some (sized n count numbers text)) → Stated (Ok (Some (sized n count numbers text))) y x b z
    unfolding moved_to statements_of
    rule-stated {n} h =
        let g = found _ _ _ _ _ _ _ _ left h in
        let a = g.value in
        stated (left-reads _ _ _ _ _ _ _ _ (either-reads at (at_rule_of s) (ruleset_of s) n a g.reads-it) g.counts (g.rows ∙ ap length (one-rule fill a)) (g.texts ∙ ap length (one-text a))
        (g.rules-are ∙ ap (sets rules place) (one-rule fill a)) (g.store_is ∙ ap (sets store fill) (one-text a))) e.1.1.0 e.1.1.1.0

    -- the return where the crate panics
    pub panic-stated : {p : ℕ} → r ≡ Err (panic_at p) → Stated (Err (panic_at p)) y x b z
    unfolding moved_to statements_of
    panic-stated {p} h =
        let g = panicked _ _ _ _ _ _ _ _ left h in
        stated (left-panics _ _ _ _ _ _ _ _ (either-panics at (at_rule_of s) (ruleset_of s) p g.0) g.1.0 g.1.1) e.1.1.0 e.1.1.1.0

    -- no rule stands here: the stores are as they were, and an at-rule is looked for
    module _ (h : r ≡ Ok None) where
      -- it does not read, and the stores are as they were
      none : (first ≡ fails) × ((y ≡ rules) × (z ≡ store))
      none = nothing _ _ _ _ _ _ _ _ left h

      -- so an at-rule has room
      pub at_room : WorkRoom s x b z fill
      at_room = rw (e.1.1.0, e.1.1.1.0, none.1.1) o.work

      -- an at-rule says nothing: it writes no rows and no texts
      silent : Nothing at fill (at_rule_of s)
      silent = at-rule-nothing at fill s

      -- the meaning is that of the at-rule
      meant_is : meant ≡ at_rule_of s
      unfolding moved_to statements_of
      meant_is = either_second at (at_rule_of s) (ruleset_of s) none.0 ∙ silent.stays

      -- so what `parse_at_rule` says
      pub at-stated : {r₂ : Reading} {x₂ b₂ z₂ : List ℕ} → (r₂ ≡ reading length (rule_rows fill) rule_texts (at_rule_of s)) × ((x₂ ≡ x) × ((b₂ ≡ b) × (z₂ ≡ z))) → Stated r₂ y x₂ b₂ z₂
      at-stated e₂ = (
        e₂.0 ∙ rw meant_is,
        (none.1.0 ∙ rw (meant_is, silent.rows), (e₂.1.0 ∙ e.1.1.0, (e₂.1.1.0 ∙ e.1.1.1.0, e₂.1.1.1 ∙ none.1.1 ∙ rw (meant_is, silent.texts)))),
      )
