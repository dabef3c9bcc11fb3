-- How much selectors can hold, over their definitions: a byte or more for each component and each selector, texts no longer than what was
-- read, but for two bytes where a backslash ends the text.
use mathlib.Core.Path.{◌≡◌, refl, ap, sym, subst, ◌∙◌}
use mathlib.Core.List.{List, [], ◌∷◌, reverse}
use mathlib.Core.Logic.{⊎_elim}
use Prim.Native.Nat.{ℕ, zero, suc, ◌+◌, ◌*◌, ◌≤◌, ◌<◌}
use native.Mathlib.Omega.{arith}
use lib.ListN.{length, get_or, drop, length-append, length-drop, length-reverse}
use Prim.Native.Char.{code as ascii}
use Rattle.combinators.specs.Choice.{is}
use Rattle.combinators.specs.Word.{starts_with}
use Rattle.combinators.specs.All.{All}
use Rattle.combinators.proofs.Lists.{byte-there}
use Rattle.combinators.proofs.Rules.{pick-holds, lt-or-ge, is_false}
use Rattle.combinators.proofs.Words.{starts-le}
use Rattle.combinators.proofs.AllLaws.{all-reverse}
use Rattle.characters.specs.Literal.{text}
use Rattle.lexer.specs.Name.{ident_of}
use Rattle.lexer.specs.Whitespace.{skip_whitespace}
use Rattle.lexer.proofs.Bounds.{Fits, bound-two, bound-short}
use Rattle.lexer.proofs.Comments.{skip-le}
use Rattle.lexer.proofs.IdentBounds.{ident-fits}
use Rattle.lexer.proofs.TokenBounds.{on-holds}
use Rattle.syntax.specs.RuleLayout.{component_width, component_text, component_texts, selector_head, selector_text, selector_texts}
use Rattle.syntax.specs.RuleSize.{sizes, selector_size}
use Rattle.syntax.specs.Selector.{Component, element, PseudoElement, Selector}
use Rattle.syntax.specs.Stream.{texts_many}
use Rattle.selectors.specs.Outcome.{reads, fails}
use Rattle.selectors.specs.Selector.{component_of, components_of, components_from, some_of, with_element_of, without_element_of, body_of, without_blank, pseudo_of, pseudo_taken, selector_of}
use Rattle.selectors.specs.Components.{started_of}
use Rattle.selectors.specs.SelectorList.{more_selectors, more_from, selectors_of}
use Rattle.selectors.proofs.AllLaws.{Where, where-behind, where-then, where-else}
use Rattle.selectors.proofs.ComponentKeeps.{Small, component-keeps}
use Rattle.selectors.proofs.BodyLaws.{is_descendant, without_last, blank-first, first-none}
use Rattle.selectors.proofs.Blanks.{ended, end-texts, first-texts}

-- ---- components
-- read from n bytes of s: within the text, a byte or more for each; their texts are no longer, but for two bytes at the end of s; the numbers
-- ---- selectors one behind the other: e numbers, and four for each byte taken
pub record ComponentsKeep (s : List ℕ) (n : ℕ) (cs : List Component) : Type 0 where
  pub within : n ≤ length s
  pub counted : length cs ≤ n
  pub long : length (component_texts cs) ≤ n + 2
  pub sharp : n < length s → length (component_texts cs) ≤ n
  pub empty : n ≤ 0 → length (component_texts cs) ≤ 0
  pub small : All Small cs

-- no component takes nothing
no-components : (s : List ℕ) → ComponentsKeep s 0 []
unfolding component_texts texts_many
no-components s =
    record { within = omega arith; counted = omega arith; long = omega arith; sharp = λ _. omega arith; empty = λ _. omega arith; small = tt }

-- one, and more behind it
next-component : (s : List ℕ) (n m : ℕ) (c : Component) (cs : List Component) → Fits s n (component_text c) → Small c → ComponentsKeep (drop n s) m cs
    → ComponentsKeep s (n + m) (c ∷ cs)
unfolding component_texts texts_many
next-component s n m c cs f h k =
    let d = length-drop n s in
    let t = length-append (component_text c) (texts_many component_text cs) in
    let w = k.within in
    let i = f.within_text in
    record {
      within = omega arith;
      counted = omega (arith, k.counted, f.some);
      long = ⊎_elim (λ g. omega (arith, bound-short f.bound g, k.long)) (λ g. omega (arith, bound-two f.bound, k.empty (omega arith))) (lt-or-ge n (length s));
      sharp = λ g. ⊎_elim (λ j. omega (arith, bound-short f.bound j, k.sharp (omega arith))) (λ j. absurd (omega arith)) (lt-or-ge n (length s));
      empty = λ g. absurd (omega (arith, f.some));
      small = (h, k.small);
    }

-- components one behind the other keep to the bounds, in any number of turns
components-keep : (l : ℕ) (s : List ℕ) → Where (length s) (ComponentsKeep s) (components_of l s)
unfolding components_of
components-keep zero s = no-components s
components-keep (suc l) s =
    where-then (length s) (length s) (λ n c. Fits s n (component_text c) × Small c) (ComponentsKeep s) (component_of s) _ (reads 0 []) _
    (λ n c h. where-behind (length (drop n s)) (length s) (ComponentsKeep (drop n s)) (ComponentsKeep s) n (components_of l (drop n s)) _
    (λ m cs k. next-component s n m c cs h.0 h.1 k) (omega (arith, h.0.within_text, length-drop n s)) (components-keep l (drop n s)))
    (no-components s) (λ p h. h) (component-keeps s)

-- the components of a whole text keep to the bounds
components_from_lem : (s : List ℕ) → Where (length s) (ComponentsKeep s) (components_from s)
unfolding components_from
components_from_lem s = components-keep (length s) s

-- ---- the body of a selector: a byte or more
pub record BodyKeeps (s : List ℕ) (n : ℕ) (cs : List Component) : Type 0 where
  pub some : 1 ≤ n
  pub keeps : ComponentsKeep s n cs

-- the text of a type selector is its name
element-text : (name : List ℕ) → component_text (element name) ≡ name
unfolding component_text
element-text name = refl

-- a type selector, and components behind it
with-element : (s : List ℕ) → Where (length s) (BodyKeeps s) (with_element_of s)
unfolding with_element_of
with-element s =
    on-holds (Where (length s) (BodyKeeps s)) (ident_of s) _ _
    (λ n name e. let f = ident-fits s n name e in
    where-behind (length (drop n s)) (length s) (ComponentsKeep (drop n s)) (BodyKeeps s) n (components_from (drop n s)) _
    (λ m cs k. record { some = omega (arith, f.some); keeps = next-component s n m (element name) cs (subst (Fits s n) (sym (element-text name)) f) tt k })
    (omega (arith, f.within_text, length-drop n s)) (components_from_lem (drop n s)))
    (λ _. tt)

-- components without a type selector keep to the bounds
without-element : (s : List ℕ) → Where (length s) (BodyKeeps s) (without_element_of s)
unfolding without_element_of some_of
without-element s =
    where-then (length s) (length s) (ComponentsKeep s) (BodyKeeps s) (components_from s) _ fails _
    (λ n cs k. pick-holds (Where (length s) (BodyKeeps s)) (is (length cs) 0) _ _ (λ _. tt) (λ e. record { some = some-taken n (length cs) (is_false (length cs) 0 e) k.counted; keeps = k }))
    tt (λ p h. h) (components_from_lem s)
  where
    some-taken : (n c : ℕ) → (c ≡ 0 → ⊥) → c ≤ n → 1 ≤ n
    some-taken n zero h i = absurd (h refl)
    some-taken n (suc c) h i = omega arith

-- the components of a selector, with a type selector or without, keep to the bounds
body-keeps : (s : List ℕ) → Where (length s) (BodyKeeps s) (body_of s)
unfolding body_of
body-keeps s = where-else (length s) (BodyKeeps s) _ _ (with-element s) (without-element s)

-- ---- a blank dropped at either end
-- dropping a blank at the start leaves no more components
fewer : (cs : List Component) → length (without_blank cs) ≤ length cs
fewer [] = rw first-none (omega arith)
fewer (c ∷ cs) = rw (blank-first c cs) (pick-holds (λ (l : List Component). length l ≤ suc (length cs)) (is_descendant c) _ _ (λ _. omega arith) (λ _. omega arith))

-- nor does dropping one at the end
pub last-fewer : (cs : List Component) → length (without_last cs) ≤ length cs
unfolding without_last
last-fewer cs = omega (arith, length-reverse (without_blank (reverse cs)), fewer (reverse cs), length-reverse cs)

-- of which holds what held of all
all-fewer : (P : Component → Type 0) (cs : List Component) → All P cs → All P (without_blank cs)
all-fewer P [] h = rw first-none tt
all-fewer P (c ∷ cs) h = rw (blank-first c cs) (pick-holds (All P) (is_descendant c) _ _ (λ _. h.1) (λ _. h))

-- without a blank at the start
first-keeps : (s : List ℕ) (n : ℕ) (cs : List Component) → BodyKeeps s n cs → BodyKeeps s (0 + n) (without_blank cs)
first-keeps s n cs b =
    let k = b.keeps in
    let t = ap length (first-texts cs) in
    record {
      some = omega (arith, b.some);
      keeps =
          record {
            within = omega (arith, k.within);
            counted = omega (arith, k.counted, fewer cs);
            long = omega (arith, k.long);
            sharp = λ g. omega (arith, k.sharp (omega arith));
            empty = λ g. omega (arith, k.empty (omega arith));
            small = all-fewer Small cs k.small;
          };
    }

-- as the code reads it
pub started-keeps : (s : List ℕ) → Where (length s) (BodyKeeps s) (started_of s)
unfolding started_of
started-keeps s = where-behind (length s) (length s) (BodyKeeps s) (BodyKeeps s) 0 (body_of s) without_blank (first-keeps s) (omega arith) (body-keeps s)

-- ---- selectors one behind the other: e numbers, and four for each byte taken
pub record SelectorKeeps (s : List ℕ) (n : ℕ) (x : Selector) : Type 0 where
  pub some : 1 ≤ n
  pub within : n ≤ length s
  pub counted : length x.components ≤ n
  pub long : length (selector_text x) ≤ n + 2
  pub sharp : n < length s → length (selector_text x) ≤ n
  pub small : All Small x.components

-- the pseudo element lies within the text
pub pseudo-within : (s : List ℕ) → pseudo_taken (pseudo_of s) ≤ length s
unfolding pseudo_of pseudo_taken
pseudo-within s =
    pick-holds (λ (p : PseudoElement). pseudo_taken p ≤ length s) (starts_with (text "::before") s) _ _ (λ e. starts-le (text "::before") s e)
    (λ _. pick-holds (λ (p : PseudoElement). pseudo_taken p ≤ length s) (starts_with (text "::after") s) _ _ (λ e. starts-le (text "::after") s e) (λ _. omega arith))

module _ (cs : List Component) (p : PseudoElement) where
  -- what is made of the components that were read
  abbrev made : Selector
  made = record { components = without_blank (reverse (without_blank cs)); pseudo = p }

  -- the selector has the texts of the components that it was made of
  made-texts : selector_text made ≡ component_texts cs
  unfolding selector_text without_last
  made-texts = end-texts (without_blank cs) (ended (without_blank cs)) ∙ first-texts cs

  -- the selector has no more components than it was made of
  made-fewer : length made.components ≤ length cs
  made-fewer = omega (arith, fewer (reverse (without_blank cs)), length-reverse (without_blank cs), fewer cs)

  -- of which all numbers fit
  made-small : All Small cs → All Small made.components
  made-small h = all-fewer Small (reverse (without_blank cs)) (all-reverse Small (without_blank cs) (all-fewer Small cs h))

  -- behind a pseudo element of k bytes or none
  made-keeps : (s : List ℕ) (n k : ℕ) → BodyKeeps s n cs → k ≤ length (drop n s) → SelectorKeeps s (n + k) made
  made-keeps s n k b h =
      let c = b.keeps in
      let t = ap length made-texts in
      record {
        some = omega (arith, b.some);
        within = omega (arith, c.within, length-drop n s);
        counted = omega (arith, made-fewer, c.counted);
        long = omega (arith, c.long);
        sharp = λ g. omega (arith, c.sharp (omega arith));
        small = made-small c.small;
      }

-- every selector that reads keeps to the bounds
pub selector-keeps : (s : List ℕ) → Where (length s) (SelectorKeeps s) (selector_of s)
unfolding selector_of
selector-keeps s =
    where-then (length s) (length s) (BodyKeeps s) (SelectorKeeps s) (body_of s) _ fails _
    (λ n cs b. made-keeps cs (pseudo_of (drop n s)) s n (pseudo_taken (pseudo_of (drop n s))) b (pseudo-within (drop n s))) tt (λ p h. h) (body-keeps s)

-- ---- selectors one behind the other: e numbers, and four for each byte taken
pub record SelectorsKeep (e : ℕ) (s : List ℕ) (n : ℕ) (xs : List Selector) : Type 0 where
  pub within : n ≤ length s
  pub counted : length xs ≤ n
  pub wide : sizes selector_size xs ≤ component_width * n + e
  pub long : length (selector_texts xs) ≤ n + 2
  pub sharp : n < length s → length (selector_texts xs) ≤ n
  pub empty : n ≤ 0 → length (selector_texts xs) ≤ 0
  pub small : All (λ x. All Small x.components) xs

-- no selector takes nothing
no-selectors : (e : ℕ) (s : List ℕ) → SelectorsKeep e s 0 []
unfolding selector_texts texts_many sizes
no-selectors e s =
    record { within = omega arith; counted = omega arith; wide = omega arith; long = omega arith; sharp = λ _. omega arith; empty = λ _. omega arith; small = tt }

-- one behind w bytes, and more behind it
next-selector : (e : ℕ) (s : List ℕ) (w n m : ℕ) (x : Selector) (xs : List Selector) → w ≤ length s → selector_head ≤ component_width * w + e → SelectorKeeps (drop w s) n x
    → SelectorsKeep 0 (drop (w + n) s) m xs → SelectorsKeep e s (w + n + m) (x ∷ xs)
unfolding selector_texts texts_many sizes selector_size
next-selector e s w n m x xs h q f k =
    let d = length-drop w s in
    let g = length-drop (w + n) s in
    let t = length-append (selector_text x) (texts_many selector_text xs) in
    let i = f.within in
    let j = k.within in
    record {
      within = omega arith;
      counted = omega (arith, k.counted, f.some);
      wide = omega (arith, k.wide, f.counted);
      long = ⊎_elim (λ o. omega (arith, f.sharp o, k.long)) (λ o. omega (arith, f.long, k.empty (omega arith))) (lt-or-ge n (length (drop w s)));
      sharp = λ o. omega (arith, f.sharp (omega arith), k.sharp (omega arith));
      empty = λ o. absurd (omega (arith, f.some));
      small = (f.small, k.small);
    }

-- one at the start, and more behind it
first-selector : (s : List ℕ) (n m : ℕ) (x : Selector) (xs : List Selector) → SelectorKeeps s n x → SelectorsKeep 0 (drop n s) m xs → SelectorsKeep selector_head s (n + m) (x ∷ xs)
first-selector s n m x xs f k =
    let z : 0 + n ≡ n = omega arith in
    rw z at (next-selector selector_head s 0 n m x xs (omega arith) (omega arith) f (rw z k))

-- selectors behind a first one keep to the bounds
more-keep : (l : ℕ) (s : List ℕ) → Where (length s) (SelectorsKeep 0 s) (more_selectors l s)
unfolding more_selectors
more-keep zero s = no-selectors 0 s
more-keep (suc l) s =
    let w = 1 + skip_whitespace (drop 1 s) in
    pick-holds (Where (length s) (SelectorsKeep 0 s)) (is (get_or s 0 0) (ascii ",")) _ _
    (λ e. let h : w ≤ length s = omega (arith, byte-there s 0 (ascii ",") (omega arith) e, skip-le (drop 1 s), length-drop 1 s) in
    where-then (length (drop w s)) (length s) (SelectorKeeps (drop w s)) (SelectorsKeep 0 s) (selector_of (drop w s)) _ (reads 0 []) _
    (λ n x f. where-behind (length (drop (w + n) s)) (length s) (SelectorsKeep 0 (drop (w + n) s)) (SelectorsKeep 0 s) (w + n) (more_selectors l (drop (w + n) s)) _
    (λ m xs k. next-selector 0 s w n m x xs h (omega arith) f k) (omega (arith, h, f.within, length-drop w s, length-drop (w + n) s)) (more-keep l (drop (w + n) s)))
    (no-selectors 0 s) (λ p i. omega (arith, h, length-drop w s)) (selector-keeps (drop w s)))
    (λ _. no-selectors 0 s)

-- a list of selectors keeps to the bounds
pub selectors-keep : (s : List ℕ) → Where (length s) (SelectorsKeep selector_head s) (selectors_of s)
unfolding selectors_of more_from
selectors-keep s =
    where-then (length s) (length s) (SelectorKeeps s) (SelectorsKeep selector_head s) (selector_of s) _ (reads 0 []) _
    (λ n x f. where-behind (length (drop n s)) (length s) (SelectorsKeep 0 (drop n s)) (SelectorsKeep selector_head s) n (more_selectors (length (drop n s)) (drop n s)) _
    (λ m xs k. first-selector s n m x xs f k) (omega (arith, f.within, length-drop n s)) (more-keep (length (drop n s)) (drop n s)))
    (no-selectors selector_head s) (λ p h. h) (selector-keeps s)
