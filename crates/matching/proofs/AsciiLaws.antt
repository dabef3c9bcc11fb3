-- The loops over White_Space and over a word: spaces and visible ASCII characters are told by their byte.
use Prim.Native.Nat.{ℕ, ◌+◌, ◌-◌, ◌≤◌, ◌<◌}
use mathlib.Core.Bool.{Bool, true, false}
use mathlib.Core.List.{List}
use mathlib.Core.Path.{◌≡◌, refl, sym, ap, ◌∙◌}
use native.Mathlib.Omega.{arith}
use Rattle.std.specs.Prelude.{Some}
use Rattle.std.specs.Char.{is_ascii_graphic}
use Rattle.std.proofs.lemmas.Grind.{common_steps}
use lib.ListN.{length, take, drop, get_or, length-drop}
use Rattle.combinators.specs.Choice.{pick, or, and, is, within}
use Rattle.combinators.specs.Repeat.{many}
use Rattle.combinators.specs.All.{member}
use Rattle.combinators.proofs.Lists.{first, rest}
use Rattle.combinators.proofs.Repeating.{Repeating, repeat-more, repeat-stop}
use Rattle.combinators.proofs.Repeats.{many-from}
use Rattle.combinators.proofs.Rules.{or-none, within-false, within-past, within-true}
use Rattle.characters.specs.Trim.{white_taken, word_taken}
use Rattle.characters.specs.Utf8.{scalar_of}
use Rattle.characters.specs.WhiteSpace.{is_white_space, in_ranges}
use Rattle.characters.proofs.Reading.{at_ascii}
use Rattle.characters.proofs.Trimming.{white-value, word_value}
use Rattle.characters.proofs.WhiteSpaces.{white-space-ranges}

-- a visible ASCII character is no White_Space
graphic-is-none : (b : ℕ) → 0x21 ≤ b → b ≤ 0x7e → is_white_space b ≡ false
unfolding in_ranges
graphic-is-none b l h =
    white-space-ranges b
    ∙ or-none _ _ (within-past b 0x09 0x0d (omega arith)) (or-none _ _ (within-past b 0x20 0x20 (omega arith))
    (or-none _ _ (sym (within-false b 0x85 0x85 (omega arith))) (or-none _ _ (sym (within-false b 0xa0 0xa0 (omega arith)))
    (or-none _ _ (sym (within-false b 0x1680 0x1680 (omega arith))) (or-none _ _ (sym (within-false b 0x2000 0x200a (omega arith)))
    (or-none _ _ (sym (within-false b 0x2028 0x2028 (omega arith))) (or-none _ _ (sym (within-false b 0x2029 0x2029 (omega arith)))
    (or-none _ _ (sym (within-false b 0x202f 0x202f (omega arith))) (or-none _ _ (sym (within-false b 0x205f 0x205f (omega arith)))
    (or-none _ _ (sym (within-false b 0x3000 0x3000 (omega arith))) refl))))))))))

-- the space, U+0020, is White_Space
space-is-white : is_white_space 0x20 ≡ true
unfolding is_white_space member or is
space-is-white = refl

-- the library's test of a visible ASCII character
graphic-within : (b : ℕ) → is_ascii_graphic b ≡ within b 0x21 0x7e
unfolding within and
graphic-within b = grind (arith, common_steps)

-- ---- the byte b at i
module _ (s : List ℕ) (i : ℕ) (inside : i < length s) (b : ℕ) (eb : b ≡ get_or s i 0) where
  -- the text goes on there
  some_left : ¬ (length (drop i s) ≡ 0)
  some_left z = absurd (omega (arith, length-drop i s))

  -- a byte of ASCII is read as a character
  one_byte : b ≤ 0x7f → Some (record { taken = 1; value = b }) ≡ scalar_of (drop i s)
  one_byte h = at_ascii (drop i s) some_left b (eb ∙ sym (first s i)) h

  -- ---- a visible character
  module _ (g : Bool) (eg : g ≡ is_ascii_graphic b) (yes-graphic : g ≡ true) where
    -- it lies between `!` and `~`
    between_ends : (0x21 ≤ b) × (b ≤ 0x7e)
    between_ends = within-true b 0x21 0x7e (sym (graphic-within b) ∙ sym eg ∙ yes-graphic)

    -- a graphic ASCII character is no White_Space
    no-white : is_white_space b ≡ false
    no-white = graphic-is-none b between_ends.0 between_ends.1

    -- a visible ASCII character is a byte of one_byte UTF-8
    ascii : b ≤ 0x7f
    ascii = let h = between_ends.1 in omega arith

    -- a run of White_Space ends before a graphic ASCII character
    pub graphic-stops : Repeating white_taken s i → i ≡ many white_taken 0 0 s
    unfolding pick
    graphic-stops c = repeat-stop _ _ _ c (sym (white-value (drop i s) _ (one_byte ascii) 1 b refl _ false (sym no-white) refl))

    -- a word goes on with it
    pub graphic-goes-on : Repeating word_taken s i → Repeating word_taken s (i + 1)
    unfolding pick
    graphic-goes-on c =
        repeat-more _ _ _ c 1 (sym (word_value (drop i s) _ (one_byte ascii) some_left 1 b refl _ false (sym no-white) refl)) (omega arith) (λ z. absurd (omega arith))

  -- ---- a space, which is White_Space and ends a word
  module _ (e : b ≡ 0x20) where
    -- the byte of a space is White_Space
    white : true ≡ is_white_space b
    white = sym (ap is_white_space e ∙ space-is-white)

    -- White_Space goes on with it
    pub space-goes-on : Repeating white_taken s i → Repeating white_taken s (i + 1)
    unfolding pick
    space-goes-on c =
        repeat-more _ _ _ c 1 (sym (white-value (drop i s) _ (one_byte (omega arith)) 1 b refl _ true white refl)) (omega arith) (λ z. absurd (omega arith))

    -- a word ends before it
    pub space-stops : Repeating word_taken s i → i ≡ many word_taken 0 0 s
    unfolding pick
    space-stops c = repeat-stop _ _ _ c (sym (word_value (drop i s) _ (one_byte (omega arith)) some_left 1 b refl _ true white refl))

-- what is left is counted by itself
pub counted-on : (u : List ℕ → ℕ) (s : List ℕ) (i : ℕ) → Repeating u s i → (n : ℕ) → n ≡ many u 0 0 (take (length s - i) (drop i s)) → i + n ≡ many u 0 0 s
counted-on u s i c n e =
    let z : many u (i + 0) 0 (drop i s) ≡ i + many u 0 0 (drop i s) = many-from i u (drop i s) 0 0 in
    let k : i + 0 ≡ i = omega arith in
    ap (λ (m : ℕ). i + m) (e ∙ ap (many u 0 0) (rest s i)) ∙ sym z ∙ ap (λ (j : ℕ). many u j 0 (drop i s)) k ∙ c.left
