-- What `parse_selector` leaves, by the components that were read.
use mathlib.Core.Path.{◌≡◌, refl, sym, ap, subst, ◌∙◌}
use mathlib.Core.Bool.{Bool, true, false}
use mathlib.Core.List.{List, [], ◌∷◌, ◌++◌, reverse, reverse-reverse, append-nil}
use Prim.Native.Nat.{ℕ, suc, ◌+◌, ◌-◌, ◌*◌, ◌^◌, ◌≤◌, ◌<◌}
use native.Mathlib.Omega.{arith}
use lib.ListN.{length, get_or, take, drop, length-drop, length-append, length-reverse}
use lib.Seq.{sets, length-sets, get_or-drop}
use Rattle.std.specs.Prelude.{Some, None, Ok, Err}
use Rattle.combinators.specs.Choice.{pick, is}
use Rattle.combinators.specs.Store.{wiped, Zeros}
use Rattle.combinators.proofs.Lists.{rest}
use Rattle.combinators.proofs.Rules.{pick-false, is-no}
use Rattle.combinators.proofs.Wiped.{sets-append, sets-apart}
use Rattle.syntax.specs.RuleLayout.{component_width, component_kind_at, descendant_kind, component_kind, component_text, component_row, component_rows, component_texts, selector_head, pseudo_number, selector_row, selector_text}
use Rattle.syntax.specs.Selector.{Component, PseudoElement, Selector}
use Rattle.syntax.specs.Stream.{rows_many, texts_many}
use Rattle.syntax.proofs.RowSizes.{length-components, length-component}
use Rattle.syntax.proofs.Streams.{sets-drop, rows_append}
use Rattle.selectors.specs.Outcome.{Outcome, reads, fails, panics, on_outcome, behind}
use Rattle.selectors.specs.Selector.{body_of, without_blank, pseudo_of, pseudo_taken, selector_of}
use Rattle.selectors.specs.Components.{started_of, blank_last}
use Rattle.selectors.specs.Reading.{TextRoom, RowRoom}
use Rattle.combinators.proofs.ZeroLaws.{zeros-later, zeros-behind, zeros-back}
use Rattle.selectors.proofs.AllLaws.{where-read}
use Rattle.selectors.proofs.Gathering.{one-row}
use Rattle.selectors.proofs.BodyLaws.{is_descendant, without_last, blank-last}
use Rattle.selectors.proofs.Blanks.{blank-told, Ended, empty, ends, ended, end-texts}
use Rattle.selectors.proofs.ReadingLaws.{Reading, panic_at, sized, Left, left-reads, left-fails, left-panics, Found, found, nothing, panicked}
use Rattle.selectors.proofs.SelectorBounds.{ComponentsKeep, BodyKeeps, started-keeps, last-fewer, pseudo-within}

-- ---- `drop_blank` on the rows of components
module _ (rules₀ : List ℕ) (p fill : ℕ) (z : Zeros rules₀ p) where
  module _ (xs : List Component) (c : Component) (room : p + component_width * (length xs + 1) ≤ length rules₀) where
    abbrev rows : List ℕ
    rows = component_rows fill xs

    abbrev row : List ℕ
    row = component_row (fill + length (component_texts xs)) c

    -- the rows of the components before the last are a component's width each
    rows_long : length rows ≡ component_width * length xs
    rows_long = length-components fill xs

    -- the rows of all are those before the last, and behind them the row of the last
    parted : sets rules₀ p (component_rows fill (xs ++ c ∷ [])) ≡ sets (sets rules₀ p rows) (p + component_width * length xs) row
    unfolding component_rows component_texts
    parted =
        ap (sets rules₀ p) (rows_append component_row component_text xs (c ∷ []) fill ∙ ap (λ (l : List ℕ). rows_many component_row component_text fill xs ++ l) (one-row component_row component_text (fill + length (texts_many component_text xs)) c))
        ∙ sets-append rules₀ p (rows_many component_row component_text fill xs) (component_row (fill + length (texts_many component_text xs)) c)
        ∙ ap (λ (n : ℕ). sets (sets rules₀ p (rows_many component_row component_text fill xs)) (p + n) (component_row (fill + length (texts_many component_text xs)) c)) rows_long

    -- the last row has the kind of the last component
    kind-there : get_or (sets rules₀ p (component_rows fill (xs ++ c ∷ []))) (p + component_width * length xs + component_kind_at) 0 ≡ component_kind c
    unfolding component_row
    kind-there =
        ap (λ (l : List ℕ). get_or l (p + component_width * length xs + component_kind_at) 0) parted
        ∙ sym (get_or-drop (p + component_width * length xs) (sets (sets rules₀ p rows) (p + component_width * length xs) row) component_kind_at 0)
        ∙ ap (λ (l : List ℕ). get_or l component_kind_at 0)
        (sets-drop (sets rules₀ p rows) (p + component_width * length xs) row (omega (arith, room, length-sets rules₀ p rows)))

    -- wiping the last row leaves the rows of those before it
    taken_back : wiped (p + component_width * length xs) component_width (sets rules₀ p (component_rows fill (xs ++ c ∷ []))) ≡ sets rules₀ p rows
    taken_back =
        ap (wiped (p + component_width * length xs) component_width) parted
        ∙ zeros-back (sets rules₀ p rows) (p + component_width * length xs)
        (subst (λ (n : ℕ). Zeros (sets rules₀ p rows) (p + n)) rows_long (zeros-behind rules₀ p z rows)) row component_width (omega (arith, length-component (fill + length (component_texts xs)) c))

    -- whether the last row is that of a blank
    last-told : blank_last (sets rules₀ p (component_rows fill (xs ++ c ∷ []))) p (length xs + 1) ≡ is_descendant c
    unfolding blank_last
    last-told =
        let e : length xs + 1 - 1 ≡ length xs = omega arith in
        sym (pick-false _ _ _ _ (is-no (length xs + 1) 0 (λ h. absurd (omega arith))) refl)
        ∙ ap (λ (n : ℕ). is (get_or (sets rules₀ p (component_rows fill (xs ++ c ∷ []))) (p + component_width * n + component_kind_at) 0) descendant_kind) e
        ∙ ap (λ (k : ℕ). is k descendant_kind) kind-there ∙ blank-told c

    -- the count and the rows without the last component, where it is dropped, and with it, where it is not
    by_last : (b : Bool)
        → (pick b (length xs + 1 - 1) (length xs + 1) ≡ length (xs ++ pick b [] (c ∷ [])))
        × (pick b (wiped (p + component_width * (length xs + 1 - 1)) component_width (sets rules₀ p (component_rows fill (xs ++ c ∷ [])))) (sets rules₀ p (component_rows fill (xs ++ c ∷ [])))
        ≡ sets rules₀ p (component_rows fill (xs ++ pick b [] (c ∷ []))))
    unfolding pick
    by_last true =
        let e : length xs + 1 - 1 ≡ length xs = omega arith in
        (rw (append-nil xs) e, rw (append-nil xs, e) taken_back)
    by_last false = (sym (length-append xs (c ∷ [])), refl)

  -- the count and the rows without it
  unfoldable pub Dropped : List Component → Type 0
  Dropped ds =
      (pick (blank_last (sets rules₀ p (component_rows fill ds)) p (length ds)) (length ds - 1) (length ds) ≡ length (without_last ds))
      × (pick (blank_last (sets rules₀ p (component_rows fill ds)) p (length ds)) (wiped (p + component_width * (length ds - 1)) component_width (sets rules₀ p (component_rows fill ds))) (sets rules₀ p (component_rows fill ds))
      ≡ sets rules₀ p (component_rows fill (without_last ds)))

  -- of no components nothing is dropped
  nothing-dropped : Dropped []
  unfolding Dropped blank_last without_last without_blank pick is
  nothing-dropped = (refl, refl)

  -- where a last row of a blank is dropped, the count and the rows are those without a blank at the end
  dropped-by : (xs : List Component) (c : Component) (b : Bool) (n : ℕ) → p + component_width * (length xs + 1) ≤ length rules₀ → n ≡ length xs + 1
      → b ≡ blank_last (sets rules₀ p (component_rows fill (xs ++ c ∷ []))) p n
      → (pick b (n - 1) n ≡ length (without_last (xs ++ c ∷ [])))
      × (pick b (wiped (p + component_width * (n - 1)) component_width (sets rules₀ p (component_rows fill (xs ++ c ∷ [])))) (sets rules₀ p (component_rows fill (xs ++ c ∷ [])))
      ≡ sets rules₀ p (component_rows fill (without_last (xs ++ c ∷ []))))
  dropped-by xs c b n room e h =
      let t : b ≡ is_descendant c = h ∙ ap (blank_last (sets rules₀ p (component_rows fill (xs ++ c ∷ []))) p) e ∙ last-told xs c room in
      rw (t, e, blank-last xs c) (by_last xs c room (is_descendant c))

  -- of rows of components in reading order, the last one is dropped where it is a blank
  pub dropped : (ds : List Component) → p + component_width * length ds ≤ length rules₀ → Ended ds → Dropped ds
  unfolding Dropped
  dropped ds room (empty e) = rw e (nothing-dropped)
  dropped ds room (ends xs c e) =
      let n : length (xs ++ c ∷ []) ≡ length xs + 1 = length-append xs (c ∷ []) in
      rw e (dropped-by xs c _ (length (xs ++ c ∷ [])) (omega (arith, room, ap length e, n)) n refl)

  -- the same, of what the rows and the count are known to be
  pub dropped-as : (ds : List Component) (rules₁ : List ℕ) (count : ℕ) → Dropped ds → rules₁ ≡ sets rules₀ p (component_rows fill ds) → count ≡ length ds
      → (pick (blank_last rules₁ p count) (count - 1) count ≡ length (without_last ds))
      × (pick (blank_last rules₁ p count) (wiped (p + component_width * (count - 1)) component_width rules₁) rules₁ ≡ sets rules₀ p (component_rows fill (without_last ds)))
  unfolding Dropped
  dropped-as ds rules₁ count d e h = rw (e, h) d

-- ---- the selector of components in reading order
-- what a body without a blank at its start says of the body
module _ (n : ℕ) (ds : List Component) where
  pub record Body (o : Outcome (List Component)) : Type 0 where
    pub all : List Component
    pub is_read : o ≡ reads n all
    pub without : without_blank all ≡ ds

  -- where the components without a blank at the start read, so did the body, and they are its components but for that
  body-by : (o : Outcome (List Component)) → behind 0 o without_blank ≡ reads n ds → Body o
  unfolding behind on_outcome
  body-by (reads m cs) e =
      let z : 0 + m ≡ n = cc in
      let q : m ≡ n = omega arith in
      record { all = cs; is_read = rw q; without = cc }
  body-by fails e = absurd (let z : ◌≡◌ {A = ℕ} 0 1 = cc in omega arith)
  body-by (panics p) e = absurd (let z : ◌≡◌ {A = ℕ} 0 1 = cc in omega arith)

-- where the components without a blank at the start fail, so did the body
body-fails : (o : Outcome (List Component)) → behind 0 o without_blank ≡ fails → o ≡ fails
unfolding behind on_outcome
body-fails (reads m cs) e = absurd (let z : ◌≡◌ {A = ℕ} 0 1 = cc in omega arith)
body-fails fails e = refl
body-fails (panics p) e = absurd (let z : ◌≡◌ {A = ℕ} 0 1 = cc in omega arith)

-- where the components without a blank at the start panic, so did the body, at the same byte
body-panics : (o : Outcome (List Component)) (p : ℕ) → behind 0 o without_blank ≡ panics p → o ≡ panics p
unfolding behind on_outcome
body-panics (reads m cs) p e = absurd (let z : ◌≡◌ {A = ℕ} 0 1 = cc in omega arith)
body-panics fails p e = absurd (let z : ◌≡◌ {A = ℕ} 0 1 = cc in omega arith)
body-panics (panics r) p e =
    let z : 0 + r ≡ p = cc in
    let q : r ≡ p = omega arith in
    rw q

module _ (t : List ℕ) where
  -- where no components read, no selector does
  selector-fails : started_of t ≡ fails → selector_of t ≡ fails
  unfolding started_of selector_of on_outcome
  selector-fails e = rw (body-fails (body_of t) e)

  -- where reading the components panics, reading the selector panics at the same byte
  selector-panics : (p : ℕ) → started_of t ≡ panics p → selector_of t ≡ panics p
  unfolding started_of selector_of on_outcome
  selector-panics p e = rw (body-panics (body_of t) p e)

  module _ (n : ℕ) (ds : List Component) (e : started_of t ≡ reads n ds) where
    -- the body was read, and its components without a blank at the start are ds
    body : Body n ds (body_of t)
    unfolding started_of
    body = body-by n ds (body_of t) e

    abbrev pseudo : PseudoElement
    pseudo = pseudo_of (drop n t)

    -- the selector: its components are those, from the right, without a blank at the end
    in_order : without_blank (reverse (without_blank body.all)) ≡ reverse (without_last ds)
    unfolding without_last
    in_order =
        sym (reverse-reverse (without_blank (reverse (without_blank body.all)))) ∙ ap (λ (cs : List Component). reverse (reverse (without_blank (reverse cs)))) body.without

    -- the selector of components in reading order
    pub selector-reads : selector_of t ≡ reads (n + pseudo_taken pseudo) (record { components = reverse (without_last ds); pseudo = pseudo })
    unfolding selector_of on_outcome
    selector-reads =
        ap (λ (o : Outcome (List Component)). on_outcome o (λ m cs. reads (m + pseudo_taken (pseudo_of (drop m t))) (record { components = without_blank (reverse (without_blank cs)); pseudo = pseudo_of (drop m t) })) fails (λ p. panics p)) body.is_read
        ∙ ap (λ (cs : List Component). reads (n + pseudo_taken pseudo) (record { components = cs; pseudo = pseudo })) in_order

-- the head of a selector's row is two numbers, in front of its components
two-more : (a b : ℕ) → a ≡ b → selector_head + b ≡ suc (suc a)
two-more a b e = omega arith

-- ---- what is left
module _ {s rules₀ : List ℕ} {place : ℕ} {store₀ : List ℕ} {fill : ℕ} (r : RowRoom selector_head s rules₀ place) (q : TextRoom 4 s store₀ fill) where
  -- the rows have room for the components behind the selector's head
  pub body-rows : RowRoom 0 s rules₀ (place + selector_head)
  body-rows =
      record { zeros = zeros-later rules₀ place r.zeros selector_head; for-rows = omega (arith, r.for-rows); bits = omega (arith, r.bits) }

  -- what a return leaves
  abbrev Ends : Reading → List ℕ → List ℕ → Type 0
  Ends a y z = Left (λ x. 1) (selector_row fill) selector_text (selector_of s) rules₀ place store₀ fill a y z

  module _ {b : Reading} {rules₁ store₁ : List ℕ} (e : Left length (component_rows fill) component_texts (started_of s) rules₀ (place + selector_head) store₀ fill b rules₁ store₁) where
    -- where no components are read, no selector is read and both stores are as they were
    pub fails-left : b ≡ Ok None → Ends (Ok None) rules₁ store₁
    fails-left told =
        let n = nothing _ _ _ _ _ _ _ _ e told in
        left-fails _ _ _ _ _ _ _ _ (selector-fails s n.0) n.1.0 n.1.1

    -- where the reading of components panics, the reading of the selector panics at the same place
    pub panics-left : {p : ℕ} → b ≡ Err (panic_at p) → Ends (Err (panic_at p)) rules₁ store₁
    panics-left {p} told =
        let n = panicked _ _ _ _ _ _ _ _ e told in
        left-panics _ _ _ _ _ _ _ _ (selector-panics s p n.0) n.1.0 n.1.1

    module _ {n count numbers text' : ℕ} (told : b ≡ Ok (Some (sized n count numbers text'))) where
      -- the components that were read, their sizes and where they lie
      list : Found length (component_rows fill) component_texts (started_of s) rules₀ (place + selector_head) store₀ fill rules₁ store₁ n count numbers text'
      list = found _ _ _ _ _ _ _ _ e told

      abbrev ds : List Component
      ds = list.value

      -- their count and their texts are within the bounds of the bytes taken
      keeps : ComponentsKeep s n ds
      keeps = (where-read (length s) (BodyKeeps s) (started_of s) n ds list.reads-it (started-keeps s)).keeps

      -- the components lie within the text
      pub n_within : n ≤ length s
      n_within = keeps.within

      -- the place behind their rows
      pub rows-bits : place + selector_head + component_width * count < 2 ^ 64
      rows-bits = omega (arith, keeps.within, keeps.counted, list.counts, r.bits)

      -- without a blank at the end
      module _ {kept : ℕ} {rules₂ : List ℕ} (h₁ : kept ≡ pick (blank_last rules₁ (place + selector_head) count) (count - 1) count)
          (h₂ : rules₂ ≡ pick (blank_last rules₁ (place + selector_head) count) (wiped (place + selector_head + component_width * (count - 1)) component_width rules₁) rules₁) where
        -- with a blank at the end dropped, count and rows are those of the components without it
        without-it : (pick (blank_last rules₁ (place + selector_head) count) (count - 1) count ≡ length (without_last ds))
            × (pick (blank_last rules₁ (place + selector_head) count) (wiped (place + selector_head + component_width * (count - 1)) component_width rules₁) rules₁
            ≡ sets rules₀ (place + selector_head) (component_rows fill (without_last ds)))
        without-it =
            dropped-as rules₀ (place + selector_head) fill body-rows.zeros ds rules₁ count
            (dropped rules₀ (place + selector_head) fill body-rows.zeros ds (omega (arith, keeps.within, keeps.counted, r.for-rows)) (ended ds)) list.rules-are list.counts

        -- as many components are kept as there are without a blank at the end
        kept-is : kept ≡ length (without_last ds)
        kept-is = h₁ ∙ without-it.0

        -- the rows are those of the components without a blank at the end
        rules-are : rules₂ ≡ sets rules₀ (place + selector_head) (component_rows fill (without_last ds))
        rules-are = h₂ ∙ without-it.1

        -- no more are kept than were read
        pub kept-few : kept ≤ length s
        kept-few = omega (arith, kept-is, last-fewer ds, keeps.counted, keeps.within)

        -- with its pseudo element
        module _ {taken pseudo : ℕ}
            (i : (taken ≡ pseudo_taken (pseudo_of (take (length s - n) (drop n s)))) × (pseudo ≡ pseudo_number (pseudo_of (take (length s - n) (drop n s))))) where
          -- the bytes taken are those of the pseudo element in the text behind the components
          taken_is : taken ≡ pseudo_taken (pseudo_of (drop n s))
          taken_is = i.0 ∙ ap (λ (t : List ℕ). pseudo_taken (pseudo_of t)) (rest s n)

          -- the pseudo element's number is that of the text behind the components
          pseudo-is : pseudo ≡ pseudo_number (pseudo_of (drop n s))
          pseudo-is = i.1 ∙ ap (λ (t : List ℕ). pseudo_number (pseudo_of t)) (rest s n)

          -- the selector lies within the text
          pub taken-few : n + taken ≤ length s
          taken-few = omega (arith, taken_is, pseudo-within (drop n s), length-drop n s, n_within)

          abbrev selector : Selector
          selector = record { components = reverse (without_last ds); pseudo = pseudo_of (drop n s) }

          -- the selector reads: those components from the right, and the pseudo element
          reads-it : selector_of s ≡ reads (n + taken) selector
          reads-it = selector-reads s n ds list.reads-it ∙ ap (λ (k : ℕ). reads (n + k) selector) (sym taken_is)

          -- count, pseudo element and component rows are the selector's row
          row_is : kept ∷ pseudo ∷ component_rows fill (without_last ds) ≡ selector_row fill selector
          unfolding selector_row
          row_is = rw (kept-is, pseudo-is, reverse-reverse (without_last ds), length-reverse (without_last ds))

          -- the selector's text is that of all components, as a blank has none
          text-is : selector_text selector ≡ component_texts ds
          unfolding selector_text
          text-is = ap component_texts (reverse-reverse (without_last ds)) ∙ end-texts ds (ended ds)

          -- the head goes before the components
          pub reads-left : {rules₃ : List ℕ} → rules₃ ≡ sets rules₂ place (kept ∷ pseudo ∷ []) → Ends (Ok (Some (sized (n + taken) 1 (selector_head + component_width * kept) text'))) rules₃ store₁
          reads-left w =
              left-reads _ _ _ _ _ _ _ _ reads-it refl (two-more _ (component_width * kept) (length-components fill (without_last ds) ∙ ap (λ (k : ℕ). component_width * k) (sym kept-is)) ∙ ap length row_is)
              (list.texts ∙ ap length (sym text-is))
              (w ∙ ap (λ (l : List ℕ). sets l place (kept ∷ pseudo ∷ [])) rules-are
              ∙ sets-apart rules₀ place (place + selector_head) (kept ∷ pseudo ∷ []) (component_rows fill (without_last ds)) (omega arith)
              ∙ sym (sets-append rules₀ place (kept ∷ pseudo ∷ []) (component_rows fill (without_last ds))) ∙ ap (sets rules₀ place) row_is)
              (list.store_is ∙ ap (sets store₀ fill) (sym text-is))
