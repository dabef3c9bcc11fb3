-- Returns of `length_behind` and `length_of`: what the code reads of a value is the token of the definition.
use Prim.Native.Nat.{ℕ, ◌+◌, ◌-◌, ◌≤◌}
use mathlib.Core.Path.{◌≡◌, refl, sym, ap, ◌∙◌}
use mathlib.Core.Bool.{Bool, true, false}
use mathlib.Core.List.{List, []}
use native.Mathlib.Omega.{arith}
use lib.ListN.{length, get_or, take, drop}
use lib.Seq.{sets, drop-drop}
use Rattle.std.specs.Int.{from_bool}
use Prim.Native.Char.{code as ascii}
use Rattle.combinators.specs.Choice.{pick, is}
use Rattle.combinators.specs.Parsed.{Parsed, ok, err, on_parsed, behind}
use Rattle.combinators.specs.Part.{part}
use Rattle.combinators.proofs.Lists.{rest, byte-there}
use Rattle.combinators.proofs.Rules.{pick_true, pick-false, pick-holds, is-yes, is-no, told}
use Rattle.lexer.specs.Name.{ident_of, name_answer, name_text}
use Rattle.lexer.specs.Token.{Token, number, dimension, percentage, numeric_from}
use Rattle.lexer.specs.Whitespace.{skip_whitespace}
use Rattle.lexer.specs.declared.Written.{Written}
use Rattle.lexer.proofs.Bounds.{Fits, bound-two}
use Rattle.lexer.proofs.IdentBounds.{ident-fits}
use Rattle.lexer.proofs.TokenAnswers.{name-ok}
use Rattle.lexer.proofs.NameAnswers.{unnamed-from}
use Rattle.syntax.proofs.Streams.{held-part, sets-held}
use Rattle.lengths.specs.Number as numbers
use Rattle.lengths.specs.Number.{numeric_of, plus, text_start, numeric_token}
use Rattle.lengths.specs.Length.{dimension_length, number_length, token_length, only_whitespace, length_of}
use Rattle.lengths.specs.Reading.{length_behind, name_behind, unit_text}
use Rattle.std.specs.Prelude.{Option, Some, None, Result, Ok}
use Rattle.lengths.specs.declared.answers.Length.{Length}
use Rattle.lengths.specs.declared.answers.LengthError.{LengthError}

-- ---- `plus_of`: a '+' that is there takes one byte
pub plus-read : (t : List ℕ) (b : Bool) → b ≡ is (get_or t 0 0) (ascii "+") → (k : ℕ) → k ≡ from_bool b → (k ≡ plus t) × (k ≤ length t)
unfolding plus
plus-read t true e k ek = (ek ∙ pick_true _ _ _ _ (sym e) refl, omega (arith, ek, byte-there t 0 (ascii "+") (omega arith) (sym e)))
plus-read t false e k ek = (ek ∙ pick-false _ _ _ _ (sym e) refl, omega (arith, ek))

-- ---- `length_behind`, by the name that is read behind the number
module _ (place : ℕ) (n t : List ℕ) where
  -- a name behind the number is its unit, and the value a dimension where only white space follows, else no length
  behind-unit : (m : ℕ) (u : List ℕ) → ident_of t ≡ ok m u → length_behind place n t ≡ pick (only_whitespace (drop m t)) (dimension_length place n u) (Ok None)
  unfolding length_behind on_parsed
  behind-unit m u e = rw e

  -- without a name the value is the number alone where only white space follows, else no length
  behind-none : ident_of t ≡ err → length_behind place n t ≡ pick (only_whitespace t) (number_length n) (Ok None)
  unfolding length_behind on_parsed
  behind-none e = rw e

  -- what was read of what stands behind the number
  module _ (st : List ℕ) (room : length t + 2 ≤ length st) (x : Option Written) (z : List ℕ)
      (w : (x ≡ name_answer (ident_of t)) × (z ≡ sets st 0 (name_text (ident_of t)))) where
    module _ (m l : ℕ) (q : x ≡ Some (record { taken = m; length = l })) where
      abbrev name : List ℕ
      name = name_text (ident_of t)

      -- a name reads behind the number, and the answer has the length of its text
      read : (ident_of t ≡ ok m name) × (l ≡ length name)
      read = name-ok (ident_of t) m l (sym q ∙ w.0)

      -- the name takes no more than there is, and its text is bounded
      fits : Fits t m name
      fits = ident-fits t m name read.0

      -- the unit lies within the text
      pub unit-within : m ≤ length t
      unit-within = fits.within_text

      -- its name is read back from the store
      unit-back : part z 0 l ≡ name
      unit-back = rw (w.1, read.1) (held-part (sets st 0 name) 0 name (sets-held st 0 name (omega (arith, bound-two fits.bound, room, unit-within))))

      module _ (b : Bool) (eb : b ≡ only_whitespace (take (length t - m) (drop m t))) where
        -- the code's test of what stands behind the unit is the definition's
        alone : (v : Bool) → b ≡ v → only_whitespace (drop m t) ≡ v
        alone v e = ap only_whitespace (sym (rest t m)) ∙ told _ _ _ eb e

        -- nothing stands behind the unit
        pub unit-alone : b ≡ true → (u : List ℕ) → u ≡ part z 0 l → (r : (Result (Option Length) LengthError)) → r ≡ dimension_length place n u
            → r ≡ length_behind place n t
        unit-alone e u eu r er = er ∙ ap (dimension_length place n) (eu ∙ unit-back) ∙ pick_true _ _ _ _ (alone true e) refl ∙ sym (behind-unit m name read.0)

        -- where something stands behind the unit, the value is no length
        pub unit-followed : b ≡ false → Ok None ≡ length_behind place n t
        unit-followed e = pick-false _ _ _ _ (alone false e) refl ∙ sym (behind-unit m name read.0)

    module _ (q : x ≡ None) (b : Bool) (eb : b ≡ only_whitespace t) where
      -- no name reads behind the number
      none : ident_of t ≡ err
      none = unnamed-from (ident_of t) (sym q ∙ w.0)

      -- nothing stands behind the number
      pub number-alone : b ≡ true → (r : Option Length) → Ok r ≡ number_length n → Ok r ≡ length_behind place n t
      number-alone e r er = er ∙ pick_true _ _ _ _ (told _ _ _ eb e) refl ∙ sym (behind-none none)

      -- where something stands behind the number, the value is no length
      pub number-followed : b ≡ false → Ok None ≡ length_behind place n t
      number-followed e = pick-false _ _ _ _ (told _ _ _ eb e) refl ∙ sym (behind-none none)

-- ---- the length of each kind of token
module _ (place : ℕ) (n u : List ℕ) where
  -- the length of a dimension is that of its number with its unit
  of-dimension : token_length place (dimension n u) ≡ dimension_length place n u
  unfolding token_length
  of-dimension = refl

  -- the length of a number is that of a number without a unit
  of_number : token_length place (number n) ≡ number_length n
  unfolding token_length
  of_number = refl

  -- a percentage is no length
  of-percentage : token_length place (percentage n) ≡ Ok None
  unfolding token_length
  of-percentage = refl

-- ---- `length_of`: the token at the start of the number's text
module _ (s : List ℕ) where
  abbrev rest_of : List ℕ
  rest_of = drop (text_start s) s

  -- where there is no such token, the value is no length
  length-err : numeric_of rest_of ≡ err → Ok None ≡ length_of s
  unfolding length_of numeric_token on_parsed behind
  length-err e = rw e

  -- the length of a value is that of its token where only white space follows it, else there is none
  length-ok : (i : ℕ) (k : Token) → numeric_of rest_of ≡ ok i k
      → length_of s ≡ pick (only_whitespace (drop (text_start s + i) s)) (token_length (skip_whitespace s) k) (Ok None)
  unfolding length_of numeric_token on_parsed behind
  length-ok i k e = rw e

  -- where a token reads, the value is its length where only white space follows, else none
  length_at : (i : ℕ) (k : Token) (a : (Result (Option Length) LengthError)) → numeric_of rest_of ≡ ok i k → token_length (skip_whitespace s) k ≡ a
      → pick (only_whitespace (drop i rest_of)) a (Ok None) ≡ length_of s
  length_at i k a e ea =
      ap (λ (x : (Result (Option Length) LengthError)). pick (only_whitespace (drop i rest_of)) x (Ok None)) (sym ea)
      ∙ ap (λ (l : List ℕ). pick (only_whitespace l) (token_length (skip_whitespace s) k) (Ok None)) (drop-drop i (text_start s) s) ∙ sym (length-ok i k e)

module _ (s st : List ℕ) (w : ℕ) (ew : w ≡ skip_whitespace s) (p : ℕ) (ep : p ≡ plus (take (length s - w) (drop w s)))
    (t : List ℕ) (et : t ≡ take (length s - (w + p)) (drop (w + p) s)) (n : ℕ) (en : n ≡ numbers.number t) where
  -- the number's text starts behind the white space and a '+'
  start_is : w + p ≡ text_start s
  unfolding text_start
  start_is =
      let q : p ≡ plus (drop w s) = ep ∙ ap plus (rest s w) in
      ap (λ (k : ℕ). w + k) q ∙ ap (λ (k : ℕ). k + plus (drop k s)) ew

  -- the text that the code reads is the value from there on
  text-is : t ≡ drop (text_start s) s
  text-is = et ∙ rest s (w + p) ∙ ap (λ (k : ℕ). drop k s) start_is

  -- the text that goes to the store is the name behind the number
  text-of : unit_text s ≡ name_behind t n
  unfolding unit_text
  text-of = ap (λ (l : List ℕ). name_behind l (numbers.number l)) (sym text-is) ∙ ap (name_behind t) (sym en)

  -- where no name stands behind the number, the store is as it was
  kept : name_behind t n ≡ [] → st ≡ sets st 0 (unit_text s)
  kept e = sym (ap (sets st 0) (text-of ∙ e))

  -- the token is the one at the start of that text
  token-is : numeric_of (drop (text_start s) s) ≡ numeric_of t
  token-is = ap numeric_of (sym text-is)

  -- a value without a number is no length, and the store is as it was
  pub no_number : n ≡ 0 → (Ok None ≡ length_of s) × (st ≡ sets st 0 (unit_text s))
  unfolding numeric_of name_behind
  no_number z =
      (length-err s (token-is ∙ sym (pick_true _ _ _ _ (is-yes _ _ (sym en ∙ z)) refl)), kept (sym (pick_true _ _ _ _ (is-yes _ _ z) refl)))

  module _ (d : ¬ (n ≡ 0)) (b : Bool) (eb : b ≡ is (get_or t n 0) (ascii "%")) where
    -- where there is a number, the token is what follows from its length
    token-from : numeric_of (drop (text_start s) s) ≡ numeric_from n t
    unfolding numeric_of
    token-from = token-is ∙ sym (pick-false _ _ _ _ (is-no _ _ (λ z. d (en ∙ z))) refl) ∙ ap (λ (k : ℕ). numeric_from k t) (sym en)

    -- a percentage is no length, and the store is as it was
    pub percent : b ≡ true → (Ok None ≡ length_of s) × (st ≡ sets st 0 (unit_text s))
    unfolding numeric_from name_behind
    percent e =
        let q = token-from ∙ sym (pick_true _ _ _ _ (told _ _ _ eb e) refl) in (
          pick-holds (λ (a : (Result (Option Length) LengthError)). Ok None ≡ a) _ _ _ (λ _. refl) (λ _. refl) ∙ length_at s (n + 1) (percentage (take n t)) (Ok None) q (of-percentage _ _ []),
          kept (sym (pick-false _ _ _ _ (is-no _ _ d) (pick_true _ _ _ _ (told _ _ _ eb e) refl))),
        )

    module _ (e : b ≡ false) where
      -- the token by the name behind the number
      token-by : numeric_of (drop (text_start s) s) ≡ on_parsed (ident_of (drop n t)) (λ m u. ok (n + m) (dimension (take n t) u)) (ok n (number (take n t)))
      unfolding numeric_from
      token-by = token-from ∙ sym (pick-false _ _ _ _ (told _ _ _ eb e) refl)

      -- what stands behind the number is the rest of the token, and what stands behind that
      whole : (x : Parsed (List ℕ)) → ident_of (drop n t) ≡ x → length_behind w (take n t) (drop n t) ≡ length_of s
      unfolding on_parsed
      whole (ok m u) i =
          behind-unit w (take n t) (drop n t) m u i ∙ ap (λ (l : List ℕ). pick (only_whitespace l) (dimension_length w (take n t) u) (Ok None)) (drop-drop m n t)
          ∙ ap (λ (l : List ℕ). pick (only_whitespace (drop (n + m) l)) (dimension_length w (take n t) u) (Ok None)) text-is
          ∙ length_at s (n + m) (dimension (take n t) u) (dimension_length w (take n t) u) (token-by ∙ rw i refl)
          (of-dimension (skip_whitespace s) (take n t) u ∙ ap (λ (k : ℕ). dimension_length k (take n t) u) (sym ew))
      whole err i =
          behind-none w (take n t) (drop n t) i ∙ ap (λ (l : List ℕ). pick (only_whitespace (drop n l)) (number_length (take n t)) (Ok None)) text-is
          ∙ length_at s n (number (take n t)) (number_length (take n t)) (token-by ∙ rw i refl) (of_number (skip_whitespace s) (take n t) [])

      -- the return where the number is no percentage: what stands behind it decides, and its name is stored
      pub read_behind : (a u : List ℕ) → a ≡ take n t → u ≡ drop n t → (r : (Result (Option Length) LengthError)) (z : List ℕ)
          → (r ≡ length_behind w a u) × (z ≡ sets st 0 (name_text (ident_of u))) → (r ≡ length_of s) × (z ≡ sets st 0 (unit_text s))
      unfolding name_behind
      read_behind a u ea eu r z p = (
        p.0 ∙ rw (ea, eu) (whole (ident_of (drop n t)) refl),
        p.1 ∙ rw eu (ap (sets st 0) (pick-false _ _ _ _ (is-no _ _ d) (pick-false _ _ _ _ (told _ _ _ eb e) refl) ∙ sym text-of)),
      )
