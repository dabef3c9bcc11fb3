-- The first word of a text that White_Space parts, and a loop over its words.
use Rattle.std.specs.Prelude.{Option, MatchOption}
use Rattle.std.specs.Bool.{then_some}
use Prim.Native.Nat.{ℕ, zero, suc, ◌-◌, ◌≤◌}
use mathlib.Core.Bool.{Bool, true, false, not}
use mathlib.Core.List.{List}
use mathlib.Core.Path.{◌≡◌, refl, sym, ap, ap₂, subst, ◌∙◌}
use native.Mathlib.Omega.{arith}
use borrow.Author.Tests.{eq-eqb, eqb-true}
use lib.Dec.{eqb}
use lib.ListN.{length, take, drop, length-take, length-drop}
use Rattle.combinators.specs.Choice.{or, is}
use Rattle.combinators.specs.Repeat.{many}
use Rattle.combinators.specs.Word.{same_text}
use Rattle.combinators.proofs.Lists.{rest}
use Rattle.combinators.proofs.Rules.{never, is-yes, is-no, pick_true, pick-false, or_left}
use Rattle.characters.specs.Trim.{white_taken, word_taken, trimmed_start}
use Rattle.matching.specs.Texts.{word_length, word_among, has_word, NoWord, FirstWord}

-- ---- a text that begins with a bytes of White_Space, and behind them with a word of n bytes
module _ (s : List ℕ) (a : ℕ) (white : a ≡ many white_taken 0 0 s) (n : ℕ) (word : n ≡ many word_taken 0 0 (take (length s - a) (drop a s))) where
  -- what is left behind a bytes is what is left behind the White_Space in front
  front : take (length s - a) (drop a s) ≡ trimmed_start s
  unfolding trimmed_start
  front = rest s a ∙ ap (λ (k : ℕ). drop k s) white

  -- the word that stands there has n bytes
  long : n ≡ word_length (trimmed_start s)
  unfolding word_length
  long = word ∙ ap (many word_taken 0 0) front

  -- where it has none, no word is left
  no-word : n ≡ 0 → NoWord s
  no-word e = record { none = sym long ∙ e }

  -- and any other is the first
  pub first-word : ¬ (n ≡ 0) → n ≤ length (take (length s - a) (drop a s)) → (w others : List ℕ) → w ≡ take n (take (length s - a) (drop a s)) → others ≡ drop n (take (length s - a) (drop a s))
      → FirstWord s w others
  first-word h l w others ew eo =
      record {
        some = λ z. h (long ∙ z);
        word = ew ∙ ap₂ take long front;
        left = eo ∙ ap₂ drop long front;
        shorter = omega (arith, ap length eo, length-drop n (take (length s - a) (drop a s)), length-take (length s - a) (drop a s));
      }

  -- what is told of the two parts of a split
  pub split-told : {T : Type 0} (P : T → Type 0) (x : T) (o : Option T) → o ≡ then_some (not (eqb n 0)) x → (¬ (n ≡ 0) → P x) → MatchOption o (NoWord s) P
  split-told P x o e p = subst (λ (r : Option _). MatchOption r (NoWord s) P) (sym e) (go (eqb n 0) refl)
    where
      go : (b : Bool) → eqb n 0 ≡ b → MatchOption (then_some (not b) x) (NoWord s) P
      go true h = no-word (eqb-true n 0 h)
      go false h = p (λ z. never (sym h ∙ eq-eqb n 0 z))

-- ---- the loop
-- where no word is left, none is among those that are
none-among : (k : ℕ) (w left : List ℕ) → NoWord left → false ≡ word_among k w left
unfolding word_among
none-among zero w left e = refl
none-among (suc k) w left e = pick_true _ _ _ (is (word_length (trimmed_start left)) 0) (is-yes _ 0 e.none) refl

-- w is among the words that are left of a text exactly if it is among all
pub record Splitting (w s left : List ℕ) : Type 0 where
  pub words : ℕ
  pub enough : length left ≤ words
  pub same : word_among words w left ≡ has_word w s

-- before the first word all are left
pub split-begin : (w s : List ℕ) → Splitting w s s
unfolding has_word
split-begin w s = record { words = length s; enough = omega arith; same = refl }

module _ (w s left : List ℕ) (v : Splitting w s left) where
  -- where no word is left the word was not found
  pub split-end : NoWord left → false ≡ has_word w s
  split-end e = none-among v.words w left e ∙ v.same

  module _ (found others : List ℕ) (f : FirstWord left found others) where
    -- a test of k + 1 words compares the first, and asks the others with k
    opened : (k : ℕ) → or (same_text found w) (word_among k w others) ≡ word_among (suc k) w left
    unfolding word_among
    opened k =
        pick-false _ _ _ (is (word_length (trimmed_start left)) 0) (is-no _ 0 f.some)
        (ap₂ (λ (x y : List ℕ). or (same_text x w) (word_among k w y)) f.word f.left)

    -- the comparison of the first, or the answer of the others, is the answer for the whole text
    turned : or (same_text found w) (word_among (v.words - 1) w others) ≡ has_word w s
    turned =
        let h = v.enough in
        let l = f.shorter in
        let e : suc (v.words - 1) ≡ v.words = omega arith in
        opened (v.words - 1) ∙ ap (λ (k : ℕ). word_among k w left) e ∙ v.same

    -- a word of the text that is the one sought is found
    pub split-found : same_text found w ≡ true → true ≡ has_word w s
    split-found e = sym (or_left _ _ e) ∙ turned

    -- a word that is not the one sought is passed over, and those behind it are left
    pub split-more : same_text found w ≡ false → Splitting w s others
    unfolding or
    split-more e =
        let h = v.enough in
        let l = f.shorter in
        let step : word_among (v.words - 1) w others ≡ or (same_text found w) (word_among (v.words - 1) w others) = rw e in
        record { words = v.words - 1; enough = omega arith; same = step ∙ turned }
