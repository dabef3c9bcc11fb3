-- The selectors found at the places that a node collects are those of the sheet that have a style and match, in reading order.
use Prim.Native.Nat.{ℕ, zero, suc, ◌≤◌}
use mathlib.Core.Path.{◌≡◌, refl, ap, sym, ◌∙◌}
use mathlib.Core.Bool.{Bool, true, false}
use mathlib.Core.List.{List, [], ◌∷◌, ◌++◌}
use native.Mathlib.Omega.{arith}
use lib.ListN.{length}
use Rattle.combinators.specs.Choice.{pick, is, within}
use Rattle.combinators.proofs.Rules.{pick_true, pick-false, is-yes, is-no, is_true, within-true, within-yes}
use Rattle.syntax.specs.RuleLayout.{pseudo_number, pseudo_from}
use Rattle.syntax.specs.Selector.{none, after}
use Rattle.syntax.specs.Style.{agent_origin, author_origin, StyleDecl}
use Rattle.page.specs.Path.{Path}
use Rattle.matching.specs.Matches.{matches}
use Rattle.compiled.specs.Decoded.{Decoded, read, fault, on_decoded, and_then, mapped, counted}
use Rattle.compiled.specs.Style.{style_at}
use Rattle.compiled.specs.Number.{number_at, ranged_at}
use Rattle.compiled.specs.Sheet.{CompiledSelector, head_at, styles_at, selector_at, selectors_at, decode}
use Rattle.compiled.specs.declared.sheets.Head.{Head}
use Rattle.compiled.proofs.Walking.{steps, source, counted_none, counted-length, selector-steps, selectors-first, selectors-none, sheet-steps}
use Rattle.compiled.proofs.Following.{selector-made}
use Rattle.segments.specs.Placed.{Placed, has_style, placed_at, placed_from, matching_places}
use Rattle.segments.specs.Document.{styled_from, style_count_at, first_styled}
use Rattle.segments.specs.Down.{placed_in, with_style, matching_of, read_in}
use Rattle.segments.proofs.DocumentLaws.{placed-styled, placed-bare}

-- ---- a selector is read as well where less is asked of its origin

-- a number that is in a range is in a wider one
ranged-lower : (t : List ℕ) (i low least most n v : ℕ) → low ≤ least → ranged_at t i least most ≡ read n v → (ranged_at t i low most ≡ read n v) × (least ≤ v)
unfolding ranged_at and_then
ranged-lower t i low least most n v l e =
    let w = steps (number_at t i) (λ m x. pick (within x least most) (read m x) (fault i)) n v e in
    go w.place w.value w.first w.rest
  where
    inside : (m x : ℕ) (b : Bool) → within x least most ≡ b → pick b (read m x) (fault i) ≡ read n v → (least ≤ x) × (x ≤ most) × (read m x ≡ read n v)
    inside m x true h r = let a = within-true x least most h in (a.0, a.1, unfold pick in r)
    inside m x false h r = absurd (let q : fault i ≡ read n v = unfold pick in r in let z : ◌≡◌ {A = ℕ} 0 1 = cc in omega arith)

    go : (m x : ℕ) → number_at t i ≡ read m x → pick (within x least most) (read m x) (fault i) ≡ read n v → (ranged_at t i low most ≡ read n v) × (least ≤ v)
    go m x f r =
        let a = inside m x (within x least most) refl r in
        let p : read m x ≡ read n v = a.2 in
        let x0 : x ≡ v = cc in
        let b = a.0 in
        let d = a.1 in
        (rw f (sym (pick_true _ _ _ _ (within-yes x low most (omega arith) d) refl) ∙ p), omega arith)

-- the pseudo element and the count that are read behind an origin
abbrev behind_origin : List ℕ → ℕ → ℕ → Decoded Head
behind_origin t m o =
    and_then (ranged_at t m (pseudo_number none) (pseudo_number after)) (λ k pseudo.
    mapped (λ count. record { origin = o; pseudo = pseudo; count = count }) (number_at t k))

-- the origin that is read
head-origin : (t : List ℕ) (o m n : ℕ) (h : Head) → behind_origin t m o ≡ read n h → h.origin ≡ o
head-origin t o m n h e =
    let w = steps (ranged_at t m (pseudo_number none) (pseudo_number after)) _ n h e in
    let v = source (λ (count : ℕ). record { origin = o; pseudo = w.value; count = count }) (number_at t w.place) n h w.rest in
    ap (λ (x : Head). x.origin) v.made

-- the numbers before the components read the same where less is asked of the origin
pub head-lower : (t : List ℕ) (least i n : ℕ) (h : Head) → agent_origin ≤ least → head_at t least i ≡ read n h → (head_at t agent_origin i ≡ read n h) × (least ≤ h.origin)
unfolding head_at and_then
head-lower t least i n h l e =
    let w = steps (ranged_at t i least author_origin) (behind_origin t) n h e in
    let r = ranged-lower t i agent_origin least author_origin w.place w.value l w.first in
    let o = head-origin t w.value w.place n h w.rest in
    let a = r.1 in
    (rw r.0 w.rest, omega arith)

-- a selector reads the same where less is asked of its origin
pub selector-lower : (t : List ℕ) (least i n : ℕ) (s : CompiledSelector StyleDecl) → agent_origin ≤ least → selector_at (style_at t) t least i ≡ read n s → (selector_at (style_at t) t agent_origin i ≡ read n s) × (agent_origin ≤ s.origin)
selector-lower t least i n s l e =
    let w = selector-steps t least i n s e in
    let r = head-lower t least i w.behind-head w.head l w.head_read in
    let o = w.origin in
    let a = r.1 in
    let p : record { origin = w.head.origin; pseudo = pseudo_from w.head.pseudo; components = s.components; styles = s.styles } ≡ s = rw (← w.origin, ← w.pseudo) refl in
    (selector-made (style_at t) t agent_origin i w.behind-head w.behind-components n w.head s.components s.styles r.0 w.components-read w.styles-read ∙ ap (read n) p, omega arith)

-- ---- the selectors of a sheet

-- each of the selectors is read at its place, by any reader
abbrev pub ReadBy : {A : Type 0} → (ℕ → Decoded (CompiledSelector A)) → List Placed → List (CompiledSelector A) → Type 0
ReadBy u [] [] = Unit
ReadBy u [] (s ∷ ss) = ⊥
ReadBy u (x ∷ xs) [] = ⊥
ReadBy u (x ∷ xs) (s ∷ ss) = (u x.place ≡ read x.end s) × (x.components ≡ s.components) × ReadBy u xs ss

-- by that of compiled selectors
abbrev pub ReadAt : List ℕ → List Placed → List (CompiledSelector StyleDecl) → Type 0
ReadAt code xs ss = ReadBy (selector_at (style_at code) code agent_origin) xs ss

-- one with a style, and one without
with-yes : (s : CompiledSelector StyleDecl) (ss : List (CompiledSelector StyleDecl)) → has_style s.styles ≡ true → with_style (s ∷ ss) ≡ s ∷ with_style ss
unfolding with_style
with-yes s ss h = ap (λ (l : List (CompiledSelector StyleDecl)). l ++ with_style ss) (sym (pick_true _ _ _ _ h refl))

-- one without is left out
with-no : (s : CompiledSelector StyleDecl) (ss : List (CompiledSelector StyleDecl)) → has_style s.styles ≡ false → with_style (s ∷ ss) ≡ with_style ss
unfolding with_style
with-no s ss h = ap (λ (l : List (CompiledSelector StyleDecl)). l ++ with_style ss) (sym (pick-false _ _ _ _ h refl))

-- those that have a style are read at their places
pub placed-read : (code : List ℕ) (k least i m : ℕ) (ss : List (CompiledSelector StyleDecl)) → agent_origin ≤ least → selectors_at (style_at code) code k least i ≡ read m ss → ReadAt code (placed_from code k i) (with_style ss)
placed-read code zero least i m ss l e = rw (selectors-none code least i m ss e).1 (unfold placed_from with_style in tt)
placed-read code (suc k) least i m ss l e =
    let w = selectors-first code k least i m ss e in
    let a = selector-lower code least i w.place w.selector l w.first in
    rw w.split (go w.place w.selector w.others (has_style w.selector.styles) refl a.0 (placed-read code k w.selector.origin w.place m w.others a.1 w.rest))
  where
    go : (n : ℕ) (s : CompiledSelector StyleDecl) (others : List (CompiledSelector StyleDecl)) (b : Bool) → has_style s.styles ≡ b → selector_at (style_at code) code agent_origin i ≡ read n s
        → ReadAt code (placed_from code k n) (with_style others) → ReadAt code (placed_from code (suc k) i) (with_style (s ∷ others))
    go n s others true h r t = rw (placed-styled code k i n s r h, with-yes s others h) (unfold placed_at in (r, refl, t))
    go n s others false h r t = rw (placed-bare code k i n s r h, with-no s others h) t

-- at the places of those that match the matching ones are found
pub matching-read : {A : Type 0} (u : ℕ → Decoded (CompiledSelector A)) (xs : List Placed) (ss : List (CompiledSelector A)) (path : Path) → ReadBy u xs ss
    → read_in u (matching_places path xs) ≡ matching_of path ss
matching-read u [] [] path r = unfold read_in matching_places matching_of in refl
matching-read u [] (s ∷ ss) path r = absurd r
matching-read u (x ∷ xs) [] path r = absurd r
matching-read u (x ∷ xs) (s ∷ ss) path r = go (matches s.components path) refl (matching-read u xs ss path r.2)
  where
    go : (b : Bool) → matches s.components path ≡ b → read_in u (matching_places path xs) ≡ matching_of path ss → read_in u (matching_places path (x ∷ xs)) ≡ matching_of path (s ∷ ss)
    go true h t = unfold read_in matching_places matching_of on_decoded pick in rw (r.1, h, r.0, t)
    go false h t = unfold read_in matching_places matching_of on_decoded pick in rw (r.1, h, t)

-- the selectors of a sheet that have a style are read at their places
pub sheet-read : (code : List ℕ) (m : ℕ) (ss : List (CompiledSelector StyleDecl)) → decode code ≡ read m ss → ReadAt code (placed_in code) (with_style ss)
unfolding placed_in on_decoded
sheet-read code m ss e =
    let w = sheet-steps code m ss e in
    rw w.count-read (placed-read code w.count agent_origin w.behind-count m ss (omega arith) w.selectors-read)

-- ---- the first selector that has a style, found without reading styles

-- how many styles a selector has; behind the count of none the next one stands
pub record StyleCount (code : List ℕ) (i n : ℕ) (s : CompiledSelector StyleDecl) : Type 0 where
  pub place : ℕ
  pub told : style_count_at code i ≡ read place (length s.styles)
  pub none-behind : length s.styles ≡ 0 → n ≡ place

-- as many styles are read as their count says
styles-counted : (t : List ℕ) (i m : ℕ) (ds : List StyleDecl) → styles_at (style_at t) t i ≡ read m ds → (n : ℕ) × (number_at t i ≡ read n (length ds)) × (length ds ≡ 0 → m ≡ n)
unfolding styles_at
styles-counted t i m ds e =
    let w = steps (number_at t i) (λ n count. counted (style_at t) count n) m ds e in
    let k = counted-length (style_at t) w.value w.place m ds w.rest in
    (w.place, rw k w.first, λ h. (counted_none (style_at t) w.place m ds (rw (sym k ∙ h) at w.rest)).0)

-- the count is read behind the components
pub style-count : (code : List ℕ) (i n : ℕ) (s : CompiledSelector StyleDecl) → selector_at (style_at code) code agent_origin i ≡ read n s → StyleCount code i n s
unfolding style_count_at and_then
style-count code i n s e =
    let w = selector-steps code agent_origin i n s e in
    let c = styles-counted code w.behind-components n s.styles w.styles-read in
    record { place = c.0; told = rw (w.head_read, w.components-read) c.1; none-behind = c.2 }

-- a list of styles has one exactly if its count is not 0
pub has-style : (ds : List StyleDecl) → has_style ds ≡ pick (is (length ds) 0) false true
unfolding has_style
has-style [] = pick_true _ _ _ _ (is-yes 0 0 refl) refl
has-style (d ∷ ds) = pick-false _ _ _ _ (is-no _ 0 (λ e. omega arith)) refl

-- by whether a selector has styles, the next is the first styled one or this is
count-styled : (code : List ℕ) (k i n p : ℕ) (s : CompiledSelector StyleDecl) (b : Bool) → is (length s.styles) 0 ≡ b → (length s.styles ≡ 0 → n ≡ p) → first_styled code k n ≡ styled_from code k n
    → pick b (first_styled code k p) i ≡ pick (pick b false true) i (styled_from code k n)
unfolding pick
count-styled code k i n p s true h f t = rw (← f (is_true _ _ h)) t
count-styled code k i n p s false h f t = refl

-- one selector that is passed over or found
first-step : (code : List ℕ) (k i n : ℕ) (s : CompiledSelector StyleDecl) → selector_at (style_at code) code agent_origin i ≡ read n s → StyleCount code i n s → first_styled code k n ≡ styled_from code k n
    → first_styled code (suc k) i ≡ styled_from code (suc k) i
unfolding first_styled styled_from on_decoded
first-step code k i n s r c t = rw (c.told, r, has-style s.styles) (count-styled code k i n c.place s (is (length s.styles) 0) refl c.none-behind t)

-- the walk that reads no styles finds the same
pub first-styled : (code : List ℕ) (k least i m : ℕ) (ss : List (CompiledSelector StyleDecl)) → agent_origin ≤ least → selectors_at (style_at code) code k least i ≡ read m ss → first_styled code k i ≡ styled_from code k i
first-styled code zero least i m ss l e = unfold first_styled styled_from in refl
first-styled code (suc k) least i m ss l e =
    let w = selectors-first code k least i m ss e in
    let a = selector-lower code least i w.place w.selector l w.first in
    first-step code k i w.place w.selector a.0 (style-count code i w.place w.selector a.0) (first-styled code k w.selector.origin w.place m w.others a.1 w.rest)
