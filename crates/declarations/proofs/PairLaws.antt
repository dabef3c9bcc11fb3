-- Three pairs of hex digits, and the colour that they are.
use Prim.Native.Nat.{ℕ, ◌<◌, ◌≤◌}
use mathlib.Core.Path.{◌≡◌, refl, sym}
use mathlib.Core.List.{List, [], ◌∷◌}
use lib.ListN.{length, take, drop}
use Rattle.combinators.proofs.Rules.{at_most, above}
use Rattle.syntax.specs.Declaration.{Colour}
use Rattle.syntax.specs.Layout.{colour_number}
use Rattle.values.specs.Words.{Found, found, missing, on_found}
use Rattle.values.specs.Colour.{rgb, rgb_of, parse_hex}
use Rattle.values.specs.ColourAnswer.{number_answer, colour_answer}
use Rattle.std.specs.Prelude.{Option, Some, None}
use Rattle.values.proofs.ColourLaws.{no-colour, a-colour, number-found, number-missing}
use Rattle.values.proofs.WordLaws.{found-holds}
use Rattle.declarations.specs.Attribute.{pairs, faulty_colour}

-- what is missing whatever the number is, is missing
none_of : (f : Found ℕ) (g : ℕ → Found Colour) → ((v : ℕ) → g v ≡ missing) → on_found f g missing ≡ missing
none_of f g h = found-holds (λ (x : Found Colour). x ≡ missing) f g missing (λ v _. h v) refl

module _ (t : List ℕ) where
  -- one of the pairs is no number: the first
  pub first-missing : parse_hex 255 (take 2 t) ≡ missing → pairs t ≡ missing
  unfolding pairs rgb_of on_found
  first-missing e = rw e

  -- where the second pair is no number there is no colour
  pub second-missing : parse_hex 255 (take 2 (drop 2 t)) ≡ missing → pairs t ≡ missing
  unfolding pairs rgb_of on_found
  second-missing e = rw e (none_of (parse_hex 255 (take 2 t)) (λ _. missing) (λ _. refl))

  -- where the third pair is no number there is no colour
  pub third-missing : parse_hex 255 (take 2 (drop 4 t)) ≡ missing → pairs t ≡ missing
  unfolding pairs rgb_of on_found
  third-missing e =
      let g = parse_hex 255 (take 2 (drop 2 t)) in
      rw e (none_of (parse_hex 255 (take 2 t)) (λ _. on_found g (λ _. missing) missing) (λ _. none_of g (λ _. missing) (λ _. refl)))

  -- three pairs that are numbers are a colour
  all_found : (r g b : ℕ) → parse_hex 255 (take 2 t) ≡ found r → parse_hex 255 (take 2 (drop 2 t)) ≡ found g
      → parse_hex 255 (take 2 (drop 4 t)) ≡ found b → found (rgb r g b) ≡ pairs t
  unfolding pairs rgb_of on_found
  all_found r g b er eg eb = rw (er, eg, eb)

  -- fewer than six bytes are no colour
  pub short : length t < 6 → faulty_colour t ≡ missing
  unfolding faulty_colour
  short h = sym (above _ _ _ 6 (length t) h refl)

  -- six or more are one where they are pairs
  pub long : 6 ≤ length t → faulty_colour t ≡ pairs t
  unfolding faulty_colour
  long h = sym (at_most _ _ _ 6 (length t) h refl)

-- the pairs are among the first six bytes
pub first-six : (t : List ℕ) → pairs (take 6 t) ≡ pairs t
unfolding pairs
first-six [] = refl
first-six (a ∷ []) = refl
first-six (a ∷ b ∷ []) = refl
first-six (a ∷ b ∷ c ∷ []) = refl
first-six (a ∷ b ∷ c ∷ d ∷ []) = refl
first-six (a ∷ b ∷ c ∷ d ∷ e ∷ []) = refl
first-six (a ∷ b ∷ c ∷ d ∷ e ∷ f ∷ r) = refl

-- ---- `pair_colour`

module _ (t : List ℕ) where
  -- the returns: the first pair is no number
  pub first-none : (x : Option ℕ) → x ≡ number_answer (parse_hex 255 (take 2 t)) → x ≡ None → None ≡ colour_answer (pairs t)
  first-none x ex h = no-colour _ (sym (first-missing t (number-missing x _ ex h)))

  -- the answer where the second pair is no number
  pub second_none : (y : Option ℕ) → y ≡ number_answer (parse_hex 255 (take 2 (drop 2 t))) → y ≡ None → None ≡ colour_answer (pairs t)
  second_none y ey h = no-colour _ (sym (second-missing t (number-missing y _ ey h)))

  -- the answer where the third pair is no number
  pub third-none : (z : Option ℕ) → z ≡ number_answer (parse_hex 255 (take 2 (drop 4 t))) → z ≡ None → None ≡ colour_answer (pairs t)
  third-none z ez h = no-colour _ (sym (third-missing t (number-missing z _ ez h)))

  -- the answer where all three are
  pub three-pairs : (x : Option ℕ) → x ≡ number_answer (parse_hex 255 (take 2 t)) → (r : ℕ) → x ≡ Some r
      → (y : Option ℕ) → y ≡ number_answer (parse_hex 255 (take 2 (drop 2 t))) → (g : ℕ) → y ≡ Some g
      → (z : Option ℕ) → z ≡ number_answer (parse_hex 255 (take 2 (drop 4 t))) → (b : ℕ) → z ≡ Some b
      → (w : ℕ) → w ≡ colour_number (rgb r g b) → Some w ≡ colour_answer (pairs t)
  three-pairs x ex r hx y ey g hy z ez b hz w ew =
      a-colour _ _ w ew (all_found t r g b (number-found x _ ex r hx) (number-found y _ ey g hy) (number-found z _ ez b hz))
