-- A group of selectors is read up to the block behind it, each selector with its pseudo element.
use mathlib.Core.Path.{◌≡◌, refl, ap, sym, subst, ◌∙◌}
use mathlib.Core.List.{List, [], ◌∷◌, ◌++◌, append_assoc}
use Prim.Native.Nat.{ℕ, zero, suc, ◌+◌, ◌≤◌}
use native.Mathlib.Nat.{add-zero}
use native.Mathlib.Omega.{arith}
use lib.ListN.{length, drop, length-append, length-drop}
use lib.Seq.{drop-append-add, drop-append_seam, drop-drop}
use Prim.Native.Char.{code as ascii}
use Rattle.combinators.specs.Choice.{pick, is}
use Rattle.lexer.specs.Whitespace.{whitespace_item}
use Rattle.lexer.proofs.SyntaxWhitespace.{skips-blank}
use Rattle.lexer.proofs.SyntaxWhitespace as blanks
use Rattle.syntax.specs.Selector as syntax
use Rattle.syntax.specs.Selector.{PseudoElement, Selector}
use Rattle.selectors.specs.Outcome.{reads, on_outcome, behind}
use Rattle.selectors.specs.Selector.{selector_of}
use Rattle.selectors.specs.SelectorList.{more_selectors, more_from, selectors_of}
use Rattle.grammar.specs.Nth.{Blanks}
use Rattle.grammar.specs.Selectors.{Complex, written, meaning, Agrees, written_pseudo, Chosen, Tight, Group, last, several, written_chosen, written_group, means_chosen, means_group}
use Rattle.grammar.proofs.Places.{Unblank, blank-first}
use Rattle.grammar.proofs.SelectorsRead.{Ends, block, another, complex-item, selector-read, pseudo-read}

-- ---- a selector of a group
-- white space behind it is read with it where no pseudo element stands between
record ChosenRead (c : Chosen) (t : List ℕ) : Type 0 where
  taken : ℕ
  left : Blanks
  first : selector_of (written_chosen c ++ t) ≡ reads taken (means_chosen c)
  rest : drop taken (written_chosen c ++ t) ≡ left.bytes ++ t
  whole : taken + length left.bytes ≡ length (written_chosen c)
  tight : Tight c.pseudo c.gap → left.bytes ≡ []

-- behind a pseudo element before a comma there is none
tight-gap : (p : PseudoElement) (b : Blanks) → ¬ (p ≡ syntax.none) → Tight p b → b.bytes ≡ []
unfolding Tight
tight-gap syntax.none b d h = absurd (d refl)
tight-gap syntax.before b d h = h
tight-gap syntax.after b d h = h

-- what is written, with t behind it
chosen-onto : (c : Chosen) (t : List ℕ) → written_chosen c ++ t ≡ written c.selector ++ (written_pseudo c.pseudo ++ (c.gap.bytes ++ t))
unfolding written_chosen
chosen-onto c t =
    append_assoc (written c.selector) (written_pseudo c.pseudo ++ c.gap.bytes) t
    ∙ ap (λ (l : List ℕ). written c.selector ++ l) (append_assoc (written_pseudo c.pseudo) c.gap.bytes t)

-- and how long it is
chosen-length : (c : Chosen) → length (written_chosen c) ≡ length (written c.selector) + length (written_pseudo c.pseudo) + length c.gap.bytes
unfolding written_chosen
chosen-length c =
    omega (arith, length-append (written c.selector) (written_pseudo c.pseudo ++ c.gap.bytes), length-append (written_pseudo c.pseudo) c.gap.bytes)

-- white space that is empty
abbrev nothing : Blanks
nothing = record { bytes = []; blank = blanks.none }

module _ (g : Complex) (a : Agrees g) (b : Blanks) (t : List ℕ) where
  -- without a pseudo element it is read with the white space
  plain-read : Ends t → ChosenRead (record { selector = g; agrees = a; pseudo = syntax.none; gap = b }) t
  unfolding means_chosen meaning written_pseudo
  plain-read h =
      let c : Chosen = record { selector = g; agrees = a; pseudo = syntax.none; gap = b } in
      record {
        taken = length (written g) + length b.bytes;
        left = nothing;
        first = ap selector_of (chosen-onto c t) ∙ selector-read g b.bytes t a b.blank h;
        rest = ap (drop (length (written g) + length b.bytes)) (chosen-onto c t) ∙ drop-append-add (written g) (b.bytes ++ t) (length b.bytes) ∙ drop-append_seam b.bytes t;
        whole = omega (arith, chosen-length c);
        tight = λ k. refl;
      }

  -- with one it is read up to the white space
  marked-read : (p : PseudoElement) → ¬ (p ≡ syntax.none) → ChosenRead (record { selector = g; agrees = a; pseudo = p; gap = b }) t
  unfolding means_chosen
  marked-read p d =
      let c : Chosen = record { selector = g; agrees = a; pseudo = p; gap = b } in
      let r = b.bytes ++ t in
      record {
        taken = length (written g) + length (written_pseudo p);
        left = b;
        first = ap selector_of (chosen-onto c t) ∙ pseudo-read g p r a d;
        rest = ap (drop (length (written g) + length (written_pseudo p))) (chosen-onto c t) ∙ drop-append-add (written g) (written_pseudo p ++ r) (length (written_pseudo p)) ∙ drop-append_seam (written_pseudo p) r;
        whole = omega (arith, chosen-length c);
        tight = tight-gap p b d;
      }

  -- by its pseudo element
  by-pseudo : (p : PseudoElement) → Ends t → ChosenRead (record { selector = g; agrees = a; pseudo = p; gap = b }) t
  by-pseudo syntax.none h = plain-read h
  by-pseudo syntax.before h = marked-read syntax.before (λ e. absurd (let z : ◌≡◌ {A = ℕ} 0 1 = cc in omega arith))
  by-pseudo syntax.after h = marked-read syntax.after (λ e. absurd (let z : ◌≡◌ {A = ℕ} 0 1 = cc in omega arith))

-- a selector of a group is read
chosen-read : (c : Chosen) (t : List ℕ) → Ends t → ChosenRead c t
chosen-read c t h = by-pseudo c.selector c.agrees c.gap t c.pseudo h

-- it begins with no white space
chosen-item : (c : Chosen) (t : List ℕ) → whitespace_item (written_chosen c ++ t) ≡ 0
chosen-item c t = ap whitespace_item (chosen-onto c t) ∙ complex-item c.selector (written_pseudo c.pseudo ++ (c.gap.bytes ++ t))

-- ---- selectors one behind the other
-- one selector is read, and those behind it where there are as many turns as bytes; in all n bytes and ss, and left is the white space behind them
record Selects (u : List ℕ) (n : ℕ) (ss : List Selector) : Type 0 where
  one : ℕ
  others : ℕ
  selector : Selector
  selectors : List Selector
  first : selector_of u ≡ reads one selector
  more : (l : ℕ) → length (drop one u) ≤ l → more_selectors l (drop one u) ≡ reads others selectors
  sum : one + others ≡ n
  all : selector ∷ selectors ≡ ss

-- so the group is read
selects-group : {u : List ℕ} {n : ℕ} {ss : List Selector} → Selects u n ss → selectors_of u ≡ reads n ss
unfolding selectors_of more_from on_outcome behind
selects-group {u} h = rw (h.first, h.more (length (drop h.one u)) (omega arith), h.sum, h.all)

-- behind a comma and white space it is read too
selects-behind : (l : ℕ) (b : Blanks) {u : List ℕ} {n : ℕ} {ss : List Selector} → whitespace_item u ≡ 0 → length u ≤ l → Selects u n ss
    → more_selectors (suc l) (ascii "," ∷ (b.bytes ++ u)) ≡ reads (1 + length b.bytes + n) ss
unfolding more_selectors pick is on_outcome behind
selects-behind l b {u} {n} {ss} z k h =
    let x = ascii "," ∷ (b.bytes ++ u) in
    let w : drop (1 + length b.bytes) x ≡ u = let i : 1 + length b.bytes ≡ suc (length b.bytes) = omega arith in rw i (drop-append_seam b.bytes u) in
    let v : drop (1 + length b.bytes + h.one) x ≡ drop h.one u = sym (drop-drop h.one (1 + length b.bytes) x) ∙ ap (drop h.one) w in
    let m = h.more l (omega (arith, length-drop h.one u)) in
    let s : 1 + length b.bytes + h.one + h.others ≡ 1 + length b.bytes + n = omega (arith, h.sum) in
    rw (skips-blank b.bytes u b.blank z, w, h.first, v, m, s, h.all)

-- a group before a block
abbrev opened : List ℕ → List ℕ
opened x = ascii "{" ∷ x

-- no other selector stands there, nor behind white space
others-none : (l : ℕ) (b : Blanks) (x : List ℕ) → more_selectors l (b.bytes ++ opened x) ≡ reads 0 []
unfolding more_selectors pick
others-none zero b x = refl
others-none (suc l) b x = rw (blank-first (λ (y : ℕ). is y (ascii ",")) unblank (opened x) b.blank (unfold is in refl))
  where
    unblank : Unblank (λ (y : ℕ). is y (ascii ","))
    unblank = unfold is in record { of_space = refl; of-tab = refl; of-line-feed = refl; of-carriage-return = refl; of-form-feed = refl; of-solidus = refl }

-- a group of selectors, before a block: what is read of it, and the white space that is left
pub record GroupRead (g : Group) (x : List ℕ) : Type 0 where
  pub taken : ℕ
  pub left : Blanks
  pub selectors : selectors_of (written_group g ++ (ascii "{" ∷ x)) ≡ reads taken (means_group g)
  pub rest : drop taken (written_group g ++ (ascii "{" ∷ x)) ≡ left.bytes ++ (ascii "{" ∷ x)
  pub whole : taken + length left.bytes ≡ length (written_group g)

record Steps (g : Group) (x : List ℕ) : Type 0 where
  taken : ℕ
  left : Blanks
  selects : Selects (written_group g ++ opened x) taken (means_group g)
  rest : drop taken (written_group g ++ opened x) ≡ left.bytes ++ opened x
  whole : taken + length left.bytes ≡ length (written_group g)

-- it begins with no white space
pub group-item : (g : Group) (t : List ℕ) → whitespace_item (written_group g ++ t) ≡ 0
unfolding written_group
group-item (last c) t = chosen-item c t
group-item (several c h b g) t =
    ap whitespace_item (append_assoc (written_chosen c) (ascii "," ∷ (b.bytes ++ written_group g)) t) ∙ chosen-item c _

-- the last selector of a group is read, up to the block
last-steps : (c : Chosen) (x : List ℕ) → Steps (last c) x
unfolding written_group means_group
last-steps c x =
    let r = chosen-read c (opened x) (block x) in
    record {
      taken = r.taken;
      left = r.left;
      selects =
          record {
            one = r.taken;
            others = 0;
            selector = means_chosen c;
            selectors = [];
            first = r.first;
            more = λ l h. ap (more_selectors l) r.rest ∙ others-none l r.left x;
            sum = add-zero r.taken;
            all = refl;
          };
      rest = r.rest;
      whole = r.whole;
    }

-- a selector, a comma and a group, before t
module _ (c : Chosen) (h : Tight c.pseudo c.gap) (b : Blanks) (g : Group) (x : List ℕ) where
  abbrev tail : List ℕ
  tail = ascii "," ∷ (b.bytes ++ (written_group g ++ opened x))

  -- how they are written
  several-onto : written_group (several c h b g) ++ opened x ≡ written_chosen c ++ tail
  unfolding written_group
  several-onto =
      append_assoc (written_chosen c) (ascii "," ∷ (b.bytes ++ written_group g)) (opened x)
      ∙ ap (λ (l : List ℕ). written_chosen c ++ (ascii "," ∷ l)) (append_assoc b.bytes (written_group g) (opened x))

  -- and how long they are
  several-length : length (written_group (several c h b g)) ≡ length (written_chosen c) + (1 + length b.bytes + length (written_group g))
  unfolding written_group
  several-length =
      omega (arith, length-append (written_chosen c) (ascii "," ∷ (b.bytes ++ written_group g)), length-append b.bytes (written_group g))

  module _ (k : Steps g x) where
    -- those behind the comma, where there are turns enough
    several-more : (l : ℕ) → length tail ≤ l → more_selectors l tail ≡ reads (1 + length b.bytes + k.taken) (means_group g)
    several-more zero q = absurd (omega arith)
    several-more (suc l) q =
        selects-behind l b (group-item g (opened x)) (omega (arith, length-append b.bytes (written_group g ++ opened x))) k.selects

    -- the selector before it, with nothing left between
    several-selects : Selects (written_chosen c ++ tail) (length (written_chosen c) + (1 + length b.bytes + k.taken)) (means_chosen c ∷ means_group g)
    several-selects =
        let r = chosen-read c tail (another _) in
        let e : r.taken ≡ length (written_chosen c) = omega (arith, r.whole, ap (λ (l : List ℕ). length l) (r.tight h)) in
        let d : drop r.taken (written_chosen c ++ tail) ≡ tail = r.rest ∙ ap (λ (l : List ℕ). l ++ tail) (r.tight h) in
        record {
          one = r.taken;
          others = 1 + length b.bytes + k.taken;
          selector = means_chosen c;
          selectors = means_group g;
          first = r.first;
          more = λ l q. ap (more_selectors l) d ∙ several-more l (subst (λ (u : List ℕ). length u ≤ l) d q);
          sum = omega (arith, e);
          all = refl;
        }

    -- so they are read, up to the white space that the last one leaves
    several-steps : Steps (several c h b g) x
    unfolding means_group
    several-steps =
        record {
          taken = length (written_chosen c) + (1 + length b.bytes + k.taken);
          left = k.left;
          selects = subst (λ (u : List ℕ). Selects u (length (written_chosen c) + (1 + length b.bytes + k.taken)) (means_chosen c ∷ means_group g)) (sym several-onto) several-selects;
          rest =
              ap (drop (length (written_chosen c) + (1 + length b.bytes + k.taken))) several-onto
              ∙ drop-append-add (written_chosen c) tail (1 + length b.bytes + k.taken)
              ∙ (behind-comma k.taken ∙ k.rest);
          whole = omega (arith, k.whole, several-length);
        }
      where
        behind-comma : (n : ℕ) → drop (1 + length b.bytes + n) tail ≡ drop n (written_group g ++ opened x)
        behind-comma n = let i : 1 + length b.bytes + n ≡ suc (length b.bytes + n) = omega arith in rw i (drop-append-add b.bytes (written_group g ++ opened x) n)

-- every group is read up to the block, by as many selectors as it has
steps : (g : Group) (x : List ℕ) → Steps g x
steps (last c) x = last-steps c x
steps (several c h b g) x = several-steps c h b g x (steps g x)

-- a group of the grammar, before a block, is read to its end but for white space behind a pseudo element, and its selectors are what it means
pub group-read : (g : Group) (x : List ℕ) → GroupRead g x
group-read g x =
    let k = steps g x in
    record { taken = k.taken; left = k.left; selectors = selects-group k.selects; rest = k.rest; whole = k.whole }
