-- Turns of `parse_body`: a first component, and more behind it.
use mathlib.Core.Path.{◌≡◌, refl, ap, sym, ◌∙◌}
use mathlib.Core.Bool.{Bool, true, false}
use mathlib.Core.List.{List, [], ◌∷◌, ◌++◌}
use Prim.Native.Nat.{ℕ, zero, suc, ◌+◌, ◌-◌, ◌*◌, ◌^◌, ◌≤◌, ◌<◌}
use native.Mathlib.Numerals.{unary_clauses}
use native.Mathlib.Omega.{arith}
use lib.Dec.{eqb}
use lib.ListN.{length, drop, length-drop, length-append}
use lib.Seq.{sets, drop-drop}
use Rattle.std.specs.Prelude.{Some, None, Ok, Err, ltb}
use Rattle.std.specs.Bool.{then_some}
use Rattle.std.proofs.lemmas.Bool.{ltb-true, ltb-false}
use Rattle.combinators.specs.Choice.{pick, is}
use Rattle.combinators.specs.Store.{wiped}
use Rattle.combinators.proofs.Lists.{lent_from, rest}
use Rattle.combinators.proofs.Rules.{is_true, is-yes, is-no}
use Rattle.lexer.proofs.Bounds.{Fits, bound-two, bound-short}
use Rattle.syntax.specs.RuleLayout.{component_width, descendant_kind, component_kind, component_first, component_second, component_text, component_row, component_rows, component_texts}
use Rattle.syntax.specs.Selector.{Component, star, class, element, hash, child, descendant, nth, attribute, attribute_equal}
use Rattle.syntax.specs.Stream.{rows_many, texts_many}
use Rattle.syntax.specs.Writing.{ComponentFits}
use Rattle.syntax.proofs.RowSizes.{length-components}
use Rattle.selectors.specs.Outcome.{Outcome, reads, fails, panics, on_outcome, behind}
use Rattle.selectors.specs.Selector.{component_of, components_of, components_from}
use Rattle.selectors.specs.Components.{text_length, has_row, first_component, next_of, kept_of, started_of}
use Rattle.selectors.specs.ComponentAnswer.{component_coded, columns_of, row_of}
use Rattle.selectors.specs.Stores.{Clean}
use Rattle.selectors.specs.Reading.{written, TextRoom, RowRoom}
use Rattle.selectors.proofs.AllLaws.{where-read, where-panics, panics-no}
use Rattle.selectors.proofs.Blanks.{kept-count, kept_row, kept-text}
use Rattle.selectors.proofs.BodyLaws.{first_behind, started}
use Rattle.selectors.proofs.ComponentKeeps.{Small, next-keeps, row-numbers}
use Rattle.selectors.proofs.ComponentLaws as components
use Rattle.selectors.proofs.ComponentLaws.{read_as, Read, read_by, fails_by, panics-by}
use Rattle.selectors.specs.declared.components.Component as declared
use Rattle.combinators.specs.declared.columns.Columns.{Columns}
use Rattle.selectors.proofs.ComponentEnds.{none_left}
use Rattle.selectors.proofs.Gathering.{Gathered, gathered_none, gathered-more, gathered-as, none_yet, store-zeros, store_long, all_read, all-panics}
use Rattle.selectors.proofs.ReadingLaws.{Reading, panic_at, sized, Left, left-fails}

-- ---- a component as the code has it
-- the length of its texts
text-told : (c : Component) → text_length (component_coded c) ≡ length (component_text c)
unfolding text_length component_coded component_text
text-told star = refl
text-told (class t) = refl
text-told (element t) = refl
text-told (hash t) = refl
text-told child = refl
text-told descendant = refl
text-told (nth a b) = refl
text-told (attribute n) = refl
text-told (attribute_equal n v) = sym (length-append n v)

-- its columns
columns-told : (c : Component) → columns_of (component_coded c) ≡ record { kind = component_kind c; first = component_first c; second = component_second c }
unfolding columns_of component_coded component_kind component_first component_second
columns-told star = refl
columns-told (class t) = refl
columns-told (element t) = refl
columns-told (hash t) = refl
columns-told child = refl
columns-told descendant = refl
columns-told (nth a b) = refl
columns-told (attribute n) = refl
columns-told (attribute_equal n v) = refl

-- its row where it is kept
row_told : (c : Component) (d : declared.Component) (kept fill : ℕ) (start : Bool) → d ≡ component_coded c → kept ≡ length (kept_of start c)
    → pick (is kept 0) [] (row_of fill d) ≡ rows_many component_row component_text fill (kept_of start c)
unfolding component_row
row_told c d kept fill start e h = rw (e, columns-told c, h) (kept_row c fill start)

-- its text, kept or not
texts-told : (o : Outcome Component) (n : ℕ) (c : Component) (store : List ℕ) (fill : ℕ) (start : Bool) → o ≡ reads n c
    → sets store fill (written component_text o) ≡ sets store fill (texts_many component_text (kept_of start c))
unfolding written on_outcome
texts-told o n c store fill start e = rw e (ap (sets store fill) (sym (kept-text c 0 start)))

-- at the end of the text there is no panic
none-panics : (t : List ℕ) (p : ℕ) → length t ≤ 0 → component_of t ≡ panics p → ⊥
none-panics [] p h e = panics-no (sym e ∙ none_left)
none-panics (x ∷ t) p h e = absurd (omega arith)

-- ---- what is still to be read behind so many bytes, in so many turns or fewer
unfoldable pub rest_of : List ℕ → ℕ → ℕ → Outcome (List Component)
rest_of s turns taken = pick (is taken 0) (started_of s) (components_of turns (drop taken s))

module _ (s : List ℕ) (turns taken : ℕ) (enough : length s ≤ taken + turns) where
  -- a component of n bytes is read: what is to be read is it and what stands behind it, in turns that suffice
  record Step (n : ℕ) (c : Component) : Type 0 where
    others : ℕ
    suffice : length s ≤ taken + n + others
    rest-is : rest_of s turns taken ≡ behind n (rest_of s others (taken + n)) (λ more. kept_of (is taken 0) c ++ more)

  module _ (n : ℕ) (c : Component) (some : 1 ≤ n) (inside : taken + n ≤ length s) where
    -- behind at least one byte what is to be read is components, with no first one
    later : (t : ℕ) → rest_of s t (taken + n) ≡ components_of t (drop (taken + n) s)
    unfolding rest_of pick
    later t = rw (is-no (taken + n) 0 (λ e. absurd (omega arith)))

    -- at the start: the first component is read, and behind it components in turns for all bytes
    first-turn : is taken 0 ≡ true → first_component s ≡ reads n c → taken + n ≡ n
        → rest_of s turns taken ≡ behind n (components_of (length (drop (taken + n) s)) (drop (taken + n) s)) (λ more. kept_of true c ++ more)
    unfolding rest_of first_behind components_from on_outcome pick
    first-turn b e z = rw (b, z) (started s ∙ rw e)

    -- behind the start: a component is read, and components behind it in one turn fewer
    later-turn : (t : ℕ) → length s ≤ taken + t → is taken 0 ≡ false → component_of (drop taken s) ≡ reads n c
        → rest_of s t taken ≡ behind n (components_of (t - 1) (drop (taken + n) s)) (λ more. kept_of false c ++ more)
    unfolding rest_of components_of kept_of on_outcome pick
    later-turn zero l b e = absurd (omega arith)
    later-turn (suc t) l b e =
        let d : suc t - 1 ≡ t = omega arith in
        rw (b, e, d, drop-drop n taken s)

    -- whether at the start or behind it, a component that reads is one turn
    step : (b : Bool) → is taken 0 ≡ b → next_of b (drop taken s) ≡ reads n c → Step n c
    unfolding next_of pick
    step true b e =
        let z : taken ≡ 0 = is_true taken 0 b in
        let f : first_component s ≡ reads n c = ap (λ (i : ℕ). first_component (drop i s)) (sym z) ∙ e in
        record {
          others = length (drop (taken + n) s);
          suffice = omega (arith, length-drop (taken + n) s);
          rest-is = rw (b, later (length (drop (taken + n) s))) (first-turn b f (omega arith));
        }
    step false b e =
        record { others = turns - 1; suffice = omega (arith, enough, some, inside); rest-is = rw (b, later (turns - 1)) (later-turn turns enough b e) }

  -- where no first component reads, the components as a whole do not read
  first-none : is taken 0 ≡ true → next_of (is taken 0) (drop taken s) ≡ fails → started_of s ≡ fails
  unfolding next_of first_behind on_outcome pick
  first-none b e =
      let z : taken ≡ 0 = is_true taken 0 b in
      let f : next_of true (drop taken s) ≡ fails = ap (λ (i : Bool). next_of i (drop taken s)) (sym b) ∙ e in
      started s ∙ rw (ap (λ (i : ℕ). first_component (drop i s)) (sym z) ∙ f)

  -- where no further component reads, what is left to be read is no components
  later-none : (t : ℕ) → is taken 0 ≡ false → next_of (is taken 0) (drop taken s) ≡ fails → rest_of s t taken ≡ reads 0 []
  unfolding rest_of next_of components_of on_outcome pick
  later-none zero b e = rw b
  later-none (suc t) b e =
      let f : next_of false (drop taken s) ≡ fails = ap (λ (i : Bool). next_of i (drop taken s)) (sym b) ∙ e in
      rw (b, f)

  -- where the reader of the next component panics, what is left to read panics at the same place
  panics-at : (b : Bool) → is taken 0 ≡ b → (p : ℕ) → next_of b (drop taken s) ≡ panics p → (t : ℕ) → length s ≤ taken + t → rest_of s t taken ≡ panics p
  unfolding rest_of next_of components_of first_behind on_outcome pick
  panics-at true b p e t l =
      let z : taken ≡ 0 = is_true taken 0 b in
      let f : first_component s ≡ panics p = ap (λ (i : ℕ). first_component (drop i s)) (sym z) ∙ e in
      rw b (started s ∙ rw f)
  panics-at false b p e zero l = absurd (none-panics (drop taken s) p (omega (arith, length-drop taken s)) e)
  panics-at false b p e (suc t) l = rw (b, e)

-- ---- the reader, where so many bytes were taken
pub record Reading-on (s rules₀ : List ℕ) (place : ℕ) (store₀ : List ℕ) (fill : ℕ) (rules store : List ℕ) (taken count numbers text : ℕ) : Type 0 where
  pub turns : ℕ
  pub enough : length s ≤ taken + turns
  pub gathered : Gathered component_row component_text (started_of s) (rest_of s turns taken) rules₀ place store₀ fill taken rules store count numbers text
  pub within : taken ≤ length s
  pub counted : count ≤ taken
  pub wide : numbers ≡ component_width * count
  pub long : text ≤ taken + 2
  pub sharp : taken < length s → text ≤ taken

-- before the first component nothing is gathered
pub begin : (s rules : List ℕ) (place : ℕ) (store : List ℕ) (fill : ℕ) → Reading-on s rules place store fill rules store 0 0 0 0
unfolding rest_of pick is
begin s rules place store fill =
    record {
      turns = length s;
      enough = omega arith;
      gathered = gathered_none component_row component_text (started_of s) rules place store fill;
      within = omega arith;
      counted = omega arith;
      wide = refl;
      long = omega arith;
      sharp = λ _. omega arith;
    }

-- whether a row is kept, as a number
from_picks : (start d : Bool) → ◌≡◌ {A = ℕ} (pick (pick start (pick d false true) true) 1 0) (pick start (pick d 0 1) 1)
unfolding pick
from_picks true true = refl
from_picks true false = refl
from_picks false d = refl

-- a row that is put down where it is kept, by either
put-as : (b : Bool) (row : List ℕ) → pick b row [] ≡ pick (is (pick b 1 0) 0) [] row
unfolding pick is
put-as true row = refl
put-as false row = refl

-- what a return leaves
abbrev pub Ends : List ℕ → List ℕ → ℕ → List ℕ → ℕ → Reading → List ℕ → List ℕ → Type 0
Ends s rules place store fill r y z = Left length (component_rows fill) component_texts (started_of s) rules place store fill r y z

module _ {s rules₀ : List ℕ} {place : ℕ} {store₀ : List ℕ} {fill : ℕ} {rules store : List ℕ} {taken count numbers text : ℕ}
    (i : Reading-on s rules₀ place store₀ fill rules store taken count numbers text) (r : RowRoom 0 s rules₀ place) (q : TextRoom 4 s store₀ fill) where
  -- the store has room for the next component, behind the texts so far
  pub next-room : Clean (length (lent_from s taken)) (fill + text) store
  next-room =
      rw (rest s taken)
      (record { zeros = store-zeros i.gathered q.zeros; room = omega (arith, q.for-texts, i.long, i.within, length-drop taken s, store_long i.gathered) })

  -- the fill behind the texts so far fits a word
  pub fill-fits : fill + text < 2 ^ 64
  fill-fits = omega (arith, q.bits, i.long, i.within)

  module _ {a : components.ComponentAnswer} {store₁ : List ℕ} (e : components.Left (next_of (eqb taken 0) (lent_from s taken)) store (fill + text) a store₁) where
    abbrev found : Outcome Component
    found = next_of (is taken 0) (drop taken s)

    -- the answer is that of the next component in the text from `taken` on
    answered : components.Left found store (fill + text) a store₁
    unfolding is
    answered = rw (← rest s taken) e

    -- where nothing was written the store is as it was
    unwritten : written component_text found ≡ [] → store₁ ≡ store
    unwritten w = answered.1 ∙ ap (sets store (fill + text)) w

    -- no component reads here
    module _ (told : a ≡ Ok None) where
      -- no component reads from here on
      none : found ≡ fails
      none = fails_by found (sym told ∙ answered.0)

      -- the store is as it was before the component was tried
      same : store₁ ≡ store
      unfolding written on_outcome
      same = unwritten (rw none)

      -- not even a first one
      first-fails : taken ≡ 0 → Ends s rules₀ place store₀ fill (Ok None) rules store₁
      first-fails z =
          let y = none_yet i.gathered (omega (arith, i.counted)) in
          left-fails _ _ _ _ _ _ _ _ (first-none s i.turns taken i.enough (is-yes taken 0 z) none) y.0 (same ∙ y.1)

      -- where no further component reads, what was read so far is the whole
      stops : (taken ≡ 0 → ⊥) → Ends s rules₀ place store₀ fill (Ok (Some (sized taken count numbers text))) rules store₁
      unfolding component_rows component_texts
      stops n = rw same (all_read i.gathered 0 taken (later-none s i.turns taken i.enough i.turns (is-no taken 0 n) none) (omega arith))

      -- the return where no component reads: what was read so far, or nothing where that is none
      pub ends-there : Ends s rules₀ place store₀ fill (Ok (then_some (ltb 0 taken) (sized taken count numbers text))) rules store₁
      ends-there = by-some (ltb 0 taken) refl
        where
          by-some : (b : Bool) → ltb 0 taken ≡ b → Ends s rules₀ place store₀ fill (Ok (then_some b (sized taken count numbers text))) rules store₁
          by-some true h = stops (λ z. absurd (let l = ltb-true 0 taken h in omega arith))
          by-some false h = first-fails (let l = ltb-false 0 taken h in omega arith)

    -- the crate panics in the component: what was read before is wiped
    module _ {p : ℕ} (told : a ≡ Err (panic_at p)) where
      -- the next component panics, at the answer's byte
      panic : found ≡ panics p
      panic = panics-by found (panic_at p) (sym told ∙ answered.0)

      -- the panic lies within the text
      pub panic-within : taken + p ≤ length s
      panic-within = omega (arith, where-panics (length (drop taken s)) _ found p panic (next-keeps (is taken 0) (drop taken s)), length-drop taken s, i.within)

      -- the store is as it was before the component that panics
      panic-same : store₁ ≡ store
      unfolding written on_outcome
      panic-same = unwritten (rw panic)

      -- the return where the crate panics: rows and texts are wiped, and the byte is counted from the start of the selector
      pub panics-left : {y z : List ℕ} → y ≡ wiped place numbers rules → z ≡ wiped fill text store₁ → Ends s rules₀ place store₀ fill (Err (panic_at (taken + p))) y z
      unfolding component_rows component_texts
      panics-left ey ez =
          all-panics i.gathered r.zeros q.zeros ey (ez ∙ ap (wiped fill text) panic-same) p (taken + p)
          (panics-at s i.turns taken i.enough (is taken 0) refl p panic i.turns i.enough) refl

    -- a component reads, of n bytes
    module _ {n : ℕ} {d : declared.Component} (told : a ≡ Ok (Some (read_as n d))) where
      -- the answer's component is the one that reads
      one : Read found n d
      one = read_by found (read_as n d) (sym told ∙ answered.0)

      abbrev c : Component
      c = one.component

      -- the component takes no more than there is, its text is bounded, and its numbers are small
      keeps : Fits (drop taken s) n (component_text c) × Small c
      keeps = where-read (length (drop taken s)) _ found n c one.reads-it (next-keeps (is taken 0) (drop taken s))

      -- the length of its text
      text-is : text_length d ≡ length (component_text c)
      text-is = ap text_length one.coded ∙ text-told c

      -- its columns
      columns-are : columns_of d ≡ record { kind = component_kind c; first = component_first c; second = component_second c }
      columns-are = ap columns_of one.coded ∙ columns-told c

      -- it lies within the text
      pub taken-within : taken + n ≤ length s
      taken-within = omega (arith, keeps.0.within_text, length-drop taken s, i.within)

      -- it takes a byte or more
      pub taken_more : taken < taken + n
      taken_more = omega (arith, keeps.0.some)

      -- the texts so far are at most two bytes longer than what was taken
      pub text-short : text + text_length d ≤ taken + n + 2
      text-short = omega (arith, bound-two keeps.0.bound, i.sharp (omega (arith, taken_more, taken-within)), text-is)

      -- its numbers fit a row
      pub fits : ComponentFits (columns_of d).first (columns_of d).second (fill + text)
      fits =
          let b = row-numbers (drop taken s) (omega (arith, q.bits, length-drop taken s)) n c keeps.0 keeps.1 in
          rw columns-are (record { first_fits = omega (arith, b.0); second_fits = omega (arith, b.1); fill-fits = omega (arith, q.bits, i.long, i.within) })

      -- its row is kept, but for a blank at the start of the selector
      module _ {b : Bool} (eb : b ≡ has_row (eqb taken 0) d) where
        abbrev kept : ℕ
        kept = pick b 1 0

        -- as a number: none or one
        ek : kept ≡ pick (is taken 0) (pick (is (columns_of d).kind descendant_kind) 0 1) 1
        unfolding has_row is
        ek = ap (λ (v : Bool). pick v 1 0) eb ∙ from_picks (is taken 0) (is (columns_of d).kind descendant_kind)

        -- the row that is put down, by that number
        put : (row : List ℕ) → pick b row [] ≡ pick (is kept 0) [] row
        put row = put-as b row

        -- as many rows are kept as the definition keeps of the component
        kept-is : kept ≡ length (kept_of (is taken 0) c)
        kept-is = ek ∙ ap (λ (j : ℕ). pick (is taken 0) (pick (is j descendant_kind) 0 1) 1) (ap (λ (row : Columns). row.kind) columns-are) ∙ kept-count c 0 (is taken 0)

        -- none or one is kept, at the start or not, of a blank or not
        few : (start d : Bool) → pick start (pick d 0 1) 1 ≤ 1
        unfolding pick
        few true true = omega arith
        few true false = omega arith
        few false d = omega arith

        -- at most one row is kept of a component
        pub kept-few : kept ≤ 1
        kept-few = rw ek (few (is taken 0) (is (columns_of d).kind descendant_kind))

        -- the count of rows stays within the bytes taken
        pub count_fits : count + kept ≤ taken + n
        count_fits = omega (arith, i.counted, kept-few, taken_more)

        -- with the component's row and text stored where it is kept, the reader goes on behind it
        pub goes : {y : List ℕ} {t : ℕ} → y ≡ sets rules (place + numbers) (pick b (row_of (fill + text) d) []) → t ≡ text_length d
            → Reading-on s rules₀ place store₀ fill y store₁ (taken + n) (count + kept) (numbers + component_width * kept) (text + t)
        unfolding written on_outcome component_rows
        goes {y} {t} ey et =
            let o = step s i.turns taken i.enough n c keeps.0.some taken-within (is taken 0) refl one.reads-it in
            let x = kept-text c 0 (is taken 0) in
            record {
              turns = o.others;
              enough = o.suffice;
              gathered =
                  gathered-as (gathered-more i.gathered n (kept_of (is taken 0) c) (rest_of s o.others (taken + n)) y store₁ o.rest-is
                  (ey ∙ ap (sets rules (place + numbers)) (put _ ∙ row_told c d kept (fill + text) (is taken 0) one.coded kept-is))
                  (answered.1 ∙ texts-told found n c store (fill + text) (is taken 0) one.reads-it))
                  refl (omega (arith, kept-is)) (omega (arith, kept-is, length-components (fill + text) (kept_of (is taken 0) c)))
                  (omega (arith, et, text-is, ap length x));
              within = taken-within;
              counted = count_fits;
              wide = omega (arith, i.wide);
              long = omega (arith, text-short, et);
              sharp = λ h. omega (arith, et, text-is, bound-short keeps.0.bound (omega (arith, length-drop taken s, i.within)), i.sharp (omega (arith, taken_more, taken-within)));
            }

      -- a row that is put down is one more
      pub keeps-row : true ≡ has_row (eqb taken 0) d → {y : List ℕ} {t : ℕ} → y ≡ sets rules (place + numbers) (row_of (fill + text) d) → t ≡ text_length d
          → Reading-on s rules₀ place store₀ fill y store₁ (taken + n) (count + 1) (numbers + component_width) (text + t)
      unfolding pick
      keeps-row eb ey et = goes eb ey et

      -- a blank at the start leaves the rows as they are
      pub drops-row : false ≡ has_row (eqb taken 0) d → {t : ℕ} → t ≡ text_length d
          → Reading-on s rules₀ place store₀ fill rules store₁ (taken + n) count numbers (text + t)
      unfolding pick
      drops-row eb et = let h = goes eb refl et in simp unary_clauses at h
