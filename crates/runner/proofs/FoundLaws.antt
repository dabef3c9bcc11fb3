-- The selectors found at the places that a row's pass collects declare what all selectors of the sheet that match declare: one without styles has no place, and declares nothing.
use Prim.Native.Nat.{ℕ, zero, suc, ◌≤◌, ◌<◌}
use mathlib.Core.Path.{◌≡◌, refl, ap, sym, ◌∙◌}
use mathlib.Core.Bool.{Bool, true, false}
use mathlib.Core.List.{List, [], ◌∷◌, ◌++◌, map, append_assoc}
use native.Mathlib.Omega.{arith}
use lib.ListN.{length}
use Rattle.combinators.specs.Choice.{pick}
use Rattle.combinators.specs.Refusal.{no_refusal, refused_at, bad_bytes}
use Rattle.combinators.specs.declared.refusals.Refusal.{Refusal}
use Rattle.combinators.proofs.Rules.{never}
use Rattle.syntax.specs.Style.{agent_origin, StyleDecl}
use Rattle.syntax.specs.declared.styles.Value.{Value}
use Rattle.syntax.specs.RuleLayout.{pseudo_number}
use Rattle.cascade.specs.Record.{Declared, Styled, from_rule}
use Rattle.page.specs.Path.{Path}
use Rattle.matching.specs.Matches.{matches}
use Rattle.matching.specs.Specificity.{specificity}
use Rattle.styles.specs.Said.{rule_style}
use Rattle.compiled.specs.Decoded.{Decoded, read, fault, on_decoded}
use Rattle.compiled.specs.Sheet.{CompiledSelector, selector_at, selectors_at, decode}
use Rattle.compiled.specs.Answer.{bytes_refusal}
use Rattle.compiled.specs.Style.{style_at}
use Rattle.compiled.proofs.Bounds.{reaches_end, sheet-reaches}
use Rattle.compiled.proofs.Following.{then-read, mapped-read, sheet-made}
use Rattle.compiled.proofs.Walking.{selectors-first, selectors-none, sheet-steps}
use Rattle.segments.specs.Placed.{has_style, placed_at, placed_from, matching_places}
use Rattle.segments.specs.Down.{placed_in, matching_of}
use Rattle.segments.proofs.DocumentLaws.{placed-styled, placed-bare}
use Rattle.segments.proofs.SheetLaws.{ReadBy, selector-lower, matching-read}
use Rattle.runner.specs.Walked.{walked, walked_style_at}
use Rattle.runner.specs.PageRows.{selectors_declare}
use Rattle.runner.specs.Run.{found_at}
use Rattle.runner.proofs.WalkedReads.{SelectorWalked, selector-walked}

-- ---- what selectors declare

-- what some selectors and then others declare is what the first declare and then what the others do
pub declared-append : {A : Type 0} (a b : List (CompiledSelector (Styled A))) → selectors_declare (a ++ b) ≡ selectors_declare a ++ selectors_declare b
unfolding selectors_declare
declared-append [] b = refl
declared-append (s ∷ a) b =
    rw (declared-append a b)
    (sym (append_assoc (map (λ x. from_rule s.origin (rule_style (pseudo_number s.pseudo) (specificity s.components) x)) s.styles) (selectors_declare a) (selectors_declare b)))

module _ (s : CompiledSelector (Styled Value)) (ss others : List (CompiledSelector (Styled Value))) (path : Path) (e : selectors_declare (matching_of path ss) ≡ selectors_declare (matching_of path others)) where
  -- the same selector before what declares the same
  declared-more : selectors_declare (matching_of path (s ∷ ss)) ≡ selectors_declare (matching_of path (s ∷ others))
  unfolding matching_of
  declared-more =
      let first : List (CompiledSelector (Styled Value)) = pick (matches s.components path) (s ∷ []) [] in
      declared-append first (matching_of path ss) ∙ ap (λ (l : List (Declared Value)). selectors_declare first ++ l) e ∙ sym (declared-append first (matching_of path others))

  -- one without styles before it
  declared-bare : s.styles ≡ [] → selectors_declare (matching_of path ss) ≡ selectors_declare (matching_of path (s ∷ others))
  unfolding matching_of
  declared-bare n = e ∙ none (matches s.components path)
    where
      none : (b : Bool) → selectors_declare (matching_of path others) ≡ selectors_declare (pick b (s ∷ []) [] ++ matching_of path others)
      none true = unfold pick selectors_declare in rw n
      none false = unfold pick in refl

-- ---- the selectors of a sheet

-- k of them from i on: all are walked, those that have a style are read at their places, and the others declare nothing
record Found (code : List ℕ) (k least i m : ℕ) : Type 0 where
  pub all : List (CompiledSelector (Styled Value))
  pub told : selectors_at (walked_style_at code) code k least i ≡ read m all
  pub styled : List (CompiledSelector (Styled Value))
  pub there : ReadBy (selector_at (walked_style_at code) code agent_origin) (placed_from code k i) styled
  pub same : (path : Path) → selectors_declare (matching_of path styled) ≡ selectors_declare (matching_of path all)

-- a list of no more than none
no_more : (xs : List (Styled Value)) (ds : List StyleDecl) → length xs ≡ length ds → has_style ds ≡ false → xs ≡ []
unfolding has_style
no_more [] ds l h = refl
no_more (x ∷ xs) [] l h = absurd (omega arith)
no_more (x ∷ xs) (d ∷ ds) l h = never (sym h)

module _ (code : List ℕ) (k least i n m : ℕ) (s : CompiledSelector StyleDecl) (l : agent_origin ≤ least) (e : selector_at (style_at code) code least i ≡ read n s) (r : Found code k s.origin n m) where
  -- one selector more, which is walked so
  module _ (w : SelectorWalked code least i n s) where
    -- with one selector more, which is walked, all are walked
    more-told : selectors_at (walked_style_at code) code (suc k) least i ≡ read m (w.met ∷ r.all)
    unfolding selectors_at
    more-told =
        then-read (selector_at (walked_style_at code) code least i) _ n w.met w.told
        ∙ mapped-read (λ ss. w.met ∷ ss) (selectors_at (walked_style_at code) code k w.met.origin n) m r.all (ap (λ (o : ℕ). selectors_at (walked_style_at code) code k o n) w.origin ∙ r.told)

    -- it is found where it has a style
    found-more : (b : Bool) → has_style s.styles ≡ b → Found code (suc k) least i m
    unfolding placed_at
    found-more true h =
        record {
          all = w.met ∷ r.all;
          told = more-told;
          styled = w.met ∷ r.styled;
          there = rw (placed-styled code k i n s (selector-lower code least i n s l e).0 h) (w.told-alone, sym w.components, r.there);
          same = λ path. declared-more w.met r.styled r.all path (r.same path);
        }
    found-more false h =
        record {
          all = w.met ∷ r.all;
          told = more-told;
          styled = r.styled;
          there = rw (placed-bare code k i n s (selector-lower code least i n s l e).0 h) r.there;
          same = λ path. declared-bare w.met r.styled r.all path (r.same path) (no_more w.met.styles s.styles w.as_many h);
        }

-- of no selectors, all are walked and none is read
found_none : (code : List ℕ) (least i m : ℕ) → m ≡ i → Found code 0 least i m
unfolding selectors_at placed_from
found_none code least i m e = record { all = []; told = rw e; styled = []; there = tt; same = λ path. refl }

-- selectors that are read
found : (code : List ℕ) (k least i m : ℕ) (ss : List (CompiledSelector StyleDecl)) → agent_origin ≤ least → selectors_at (style_at code) code k least i ≡ read m ss → Found code k least i m
found code zero least i m ss l e = found_none code least i m (selectors-none code least i m ss e).0
found code (suc k) least i m ss l e =
    let w = selectors-first code k least i m ss e in
    let s = selector-walked code least i w.place w.selector l w.first in
    found-more code k least i w.place m w.selector l w.first (found code k w.selector.origin w.place m w.others s.origin-high w.rest) s
    (has_style w.selector.styles) refl

-- bytes that are not refused are decoded
pub decoded : (code : List ℕ) → bytes_refusal code ≡ no_refusal → (n : ℕ) × (ss : List (CompiledSelector StyleDecl)) × (decode code ≡ read n ss)
unfolding bytes_refusal on_decoded
decoded code e = go (decode code) refl e
  where
    go : (d : Decoded (List (CompiledSelector StyleDecl))) → decode code ≡ d → on_decoded d (λ _ _. no_refusal) (λ p. refused_at bad_bytes p) ≡ no_refusal
        → (n : ℕ) × (ss : List (CompiledSelector StyleDecl)) × (decode code ≡ read n ss)
    go (read n ss) q h = (n, ss, q)
    go (fault p) q h = absurd (let z : bad_bytes ≡ 0 = ap (λ (r : Refusal). r.number) h in omega arith)

-- so there are bytes: what is read takes one
pub some_bytes : (code : List ℕ) → bytes_refusal code ≡ no_refusal → 0 < length code
some_bytes code e = let d = decoded code e in omega (arith, reaches_end (length code) 0 1 d.0 d.1 (decode code) (sheet-reaches code) d.2)

-- at the places of those that match and have a style, what is found declares what all that match do
pub found-declares : (code : List ℕ) → bytes_refusal code ≡ no_refusal → (path : Path)
    → selectors_declare (found_at code (matching_places path (placed_in code))) ≡ selectors_declare (matching_of path (walked code))
unfolding placed_in walked on_decoded
found-declares code e path =
    let d = decoded code e in
    let w = sheet-steps code d.0 d.1 d.2 in
    let f = found code w.count agent_origin w.behind-count d.0 d.1 (omega arith) w.selectors-read in
    rw (w.count-read, sheet-made (walked_style_at code) code w.behind-count w.count d.0 f.all w.count-read f.told w.whole)
    (ap selectors_declare (matching-read (selector_at (walked_style_at code) code agent_origin) (placed_from code w.count w.behind-count) f.styled path f.there) ∙ f.same path)
