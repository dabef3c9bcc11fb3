-- Bytes that lie at a place of a sheet, and values read one behind the other.
use mathlib.Core.Path.{◌≡◌, ap, sym, ◌∙◌, refl}
use mathlib.Core.List.{List, [], ◌∷◌, ◌++◌}
use Prim.Native.Nat.{ℕ, suc, ◌+◌, ◌-◌, ◌≤◌, ◌<◌}
use native.Mathlib.Nat.{add-zero}
use native.Mathlib.Omega.{arith}
use lib.ListN.{length, get_or, length-drop, length-append}
use Rattle.combinators.specs.All.{All}
use Rattle.combinators.proofs.Lists.{first}
use Rattle.combinators.proofs.Rules.{pick_true, is-yes}
use Rattle.syntax.specs.RuleLayout.{pseudo_from}
use Rattle.syntax.specs.Selector.{Component}
use Rattle.syntax.specs.Stream.{texts_many}
use Rattle.syntax.specs.Style.{agent_origin}
use Rattle.syntax.proofs.Streams.{Held, held-left, held-right}
use Rattle.compiled.specs.Decoded.{Decoded, read, fault, and_then, mapped, counted}
use Rattle.compiled.specs.Component.{component_at}
use Rattle.compiled.specs.Sheet.{styles_at, head_at, selector_at, CompiledSelector, selectors_at, whole_at, decode_by}
use Rattle.compiled.specs.declared.sheets.Head.{Head}
use Rattle.compiled.specs.Number.{number_at}

-- ---- bytes at a place
module _ (t : List ℕ) (n : ℕ) (xs : List ℕ) (h : Held t n xs) where
  -- the sheet does not end before they do
  pub held-within : 1 ≤ length xs → n + length xs ≤ length t
  held-within l =
      let e : length t - n ≡ length xs + length h.more = sym (length-drop n t) ∙ ap length h.held ∙ length-append xs h.more in
      omega arith

module _ (t : List ℕ) (n b : ℕ) (xs : List ℕ) (h : Held t n (b ∷ xs)) where
  -- the first of them is there
  pub held-there : n < length t
  held-there =
      let e : length t - n ≡ suc (length (xs ++ h.more)) = sym (length-drop n t) ∙ ap length h.held in
      omega arith

  -- it is the byte at that place
  pub held-byte : get_or t n 0 ≡ b
  held-byte = sym (first t n) ∙ ap (λ (l : List ℕ). get_or l 0 0) h.held

  -- the others lie behind it
  pub held_next : Held t (n + 1) xs
  held_next = held-right t n (b ∷ []) xs h

-- ---- one behind the other
module _ {A B : Type 0} (d : Decoded A) (f : ℕ → A → Decoded B) where
  -- what is read first decides what is read behind it
  pub then-read : (n : ℕ) (a : A) → d ≡ read n a → and_then d f ≡ f n a
  unfolding and_then
  then-read n a e = rw e

  -- a fault of the first reading is that of both
  pub then-fault : (p : ℕ) → d ≡ fault p → and_then d f ≡ fault p
  unfolding and_then
  then-fault p e = rw e

module _ {A B : Type 0} (f : A → B) (d : Decoded A) where
  -- as f of what was read
  pub mapped-read : (n : ℕ) (a : A) → d ≡ read n a → mapped f d ≡ read n (f a)
  unfolding mapped
  mapped-read n a e = rw e

  -- a fault stays one, whatever is made of values
  pub mapped-fault : (p : ℕ) → d ≡ fault p → mapped f d ≡ fault p
  unfolding mapped
  mapped-fault p e = rw e

-- a value read at i whose bytes end at one of two names for the same place
pub ends_at : {A : Type 0} (a : A) (m n : ℕ) → m ≡ n → read m a ≡ read n a
ends_at a m n e = rw e

-- where the head of a selector, its components and its styles are read one behind the other, the selector is
pub selector-made : {A : Type 0} (style : ℕ → Decoded A) (t : List ℕ) (least i n m k : ℕ) (h : Head) (cs : List Component) (ds : List A) → head_at t least i ≡ read n h
    → counted (component_at t) h.count n ≡ read m cs → styles_at style t m ≡ read k ds
    → selector_at style t least i ≡ read k (record { origin = h.origin; pseudo = pseudo_from h.pseudo; components = cs; styles = ds })
unfolding selector_at
selector-made style t least i n m k h cs ds e f g =
    then-read (head_at t least i) _ n h e ∙ then-read (counted (component_at t) h.count n) _ m cs f ∙ mapped-read _ (styles_at style t m) k ds g

-- where the count of a sheet and so many selectors are read, and the bytes end behind them, the sheet is
pub sheet-made : {A : Type 0} (style : ℕ → Decoded A) (t : List ℕ) (n k m : ℕ) (ss : List (CompiledSelector A)) → number_at t 0 ≡ read n k
    → selectors_at style t k agent_origin n ≡ read m ss → m ≡ length t → decode_by style t ≡ read m ss
unfolding decode_by whole_at
sheet-made style t n k m ss e f l =
    then-read (number_at t 0) _ n k e ∙ then-read (selectors_at style t k agent_origin n) _ m ss f ∙ sym (pick_true _ _ _ _ (is-yes m (length t) l) refl)

-- where a value that P holds of is read back from its bytes, so is a list of them
module _ {A : Type 0} (t : List ℕ) (w : A → List ℕ) (u : ℕ → Decoded A) (P : A → Type 0)
    (back : (a : A) (i : ℕ) → P a → Held t i (w a) → u i ≡ read (i + length (w a)) a) where
  -- a list of values that each are read back from their bytes is read back from all of them, one behind the other
  pub counted_back : (xs : List A) (i : ℕ) → All P xs → Held t i (texts_many w xs) → counted u (length xs) i ≡ read (i + length (texts_many w xs)) xs
  unfolding counted texts_many
  counted_back [] i p h = ends_at [] i (i + 0) (sym (add-zero i))
  counted_back (a ∷ xs) i p h =
      let e : i + length (w a) + length (texts_many w xs) ≡ i + length (w a ++ texts_many w xs) = omega (arith, length-append (w a) (texts_many w xs)) in
      then-read (u i) (λ n b. mapped (λ r. b ∷ r) (counted u (length xs) n)) _ a (back a i p.0 (held-left t i (w a) (texts_many w xs) h))
      ∙ mapped-read (λ r. a ∷ r) _ _ xs (counted_back xs (i + length (w a)) p.1 (held-right t i (w a) (texts_many w xs) h))
      ∙ ends_at (a ∷ xs) _ _ e
