-- One character of a name: it takes a byte or more, no more than there are, and its text keeps to the bound.
use Rattle.std.specs.Option.{option_or}
use Rattle.std.proofs.Common.{Option, Some, None}
use mathlib.Core.Path.{◌≡◌, refl, ap}
use mathlib.Core.List.{List, [], ◌∷◌}
use mathlib.Core.Bool.{true, false}
use Prim.Native.Nat.{ℕ, zero, suc, ◌+◌, ◌<◌, ◌≤◌}
use native.Mathlib.Omega.{arith}
use lib.ListN.{length, get_or, drop, length-drop}
use Rattle.combinators.specs.Choice.{pick, or, and, is, within}
use Prim.Native.Char.{code as ascii}
use Rattle.combinators.proofs.Rules.{pick-holds, is_true, within-true}
use Rattle.combinators.proofs.Rules as rules
use Rattle.combinators.proofs.Lists.{inside, test-there}
use Rattle.characters.specs.Utf8.{utf8, or_replacement, replacement_character, scalar_of, taken_of}
use Rattle.combinators.specs.declared.taken.Taken.{Taken}
use Rattle.characters.proofs.Scalars.{utf8-ascii, utf8-le, utf8-small, or-replacement-same}
use Rattle.characters.proofs.RoundTrip.{written_back}
use Rattle.lexer.specs.Name.{is_nmstart, is_nmchar, lower, folded_char, is_hex_digit, hex_run, maximum_digits, hex_count, hex_value, behind_one, escaped_of, ident_escape_of, nmchar_of, bytes_of, char_taken, char_text}
use Rattle.lexer.specs.Number.{is_digit}
use Rattle.lexer.proofs.Bounds.{Bound, short, lone, Fits}
use Rattle.lexer.proofs.Escapes.{power_of_sixteen, value-lt}

-- what a reading of one character keeps to
abbrev pub Fine : List ℕ → Option (Taken ℕ) → Type 0
Fine s (Some c) = Fits s c.taken (utf8 c.value)
Fine s None = Unit

-- ---- a letter, a digit, '_' or '-'
-- what can start a name is a character of names
pub nmstart-nmchar : (x : ℕ) → is_nmstart x ≡ true → is_nmchar x ≡ true
unfolding is_nmchar
nmstart-nmchar x e = rules.or_left _ _ e

-- 0, which a place past the end reads as, is no character of names
nmchar-null : is_nmchar 0 ≡ false
unfolding is_nmchar is_nmstart is_digit or and within is
nmchar-null = refl

-- what can start a name is at most 'z'
nmstart-le : (x : ℕ) → is_nmstart x ≡ true → x ≤ ascii "z"
unfolding is_nmstart
nmstart-le x e =
    rules.either (x ≤ ascii "z") _ _ e (λ w. omega (arith, is_true x (ascii "_") w))
    (λ h. rules.either (x ≤ ascii "z") _ _ h (λ w. omega (arith, within-true x (ascii "a") (ascii "z") w)) (λ w. omega (arith, within-true x (ascii "A") (ascii "Z") w)))

-- and so is every character of names
nmchar-le : (x : ℕ) → is_nmchar x ≡ true → x ≤ ascii "z"
unfolding is_nmchar is_digit
nmchar-le x e =
    rules.either (x ≤ ascii "z") _ _ e (nmstart-le x)
    (λ h. rules.either (x ≤ ascii "z") _ _ h (λ w. omega (arith, within-true x (ascii "0") (ascii "9") w)) (λ w. omega (arith, is_true x (ascii "-") w)))

-- folded, it is still ASCII
lower-le : (x : ℕ) → x ≤ ascii "z" → lower x ≤ 0x7f
unfolding lower
lower-le x h = pick-holds (λ (y : ℕ). y ≤ 0x7f) _ _ _ (λ w. omega (arith, within-true x (ascii "A") (ascii "Z") w)) (λ _. omega arith)

-- so it stands for one byte
pub lower-byte : (x : ℕ) → is_nmchar x ≡ true → utf8 (lower x) ≡ lower x ∷ []
lower-byte x e = utf8-ascii _ (lower-le x (nmchar-le x e))

-- a character that is no escape takes one byte that is there, or nothing, and its text keeps to the bound
nmchar-char-fine : (s : List ℕ) → Fine s (folded_char is_nmchar s)
unfolding folded_char
nmchar-char-fine s =
    pick-holds (Fine s) _ _ _
    (λ e. record {
      some = omega arith;
      within_text = test-there is_nmchar nmchar-null s 0 e;
      bound = short (omega (arith, ap length (lower-byte (get_or s 0 0) e)));
    })
    (λ _. tt)

-- ---- an escape
-- 0 is no hex digit
hex-null : is_hex_digit 0 ≡ false
unfolding is_hex_digit or and within
hex-null = refl

-- such a byte is there
hex-there : (s : List ℕ) → is_hex_digit (get_or s 0 0) ≡ true → 1 ≤ length s
hex-there s e = test-there is_hex_digit hex-null s 0 e

-- the end n of a run of at most k hex digits that begins at i
record Run (i k : ℕ) (s : List ℕ) (n : ℕ) : Type 0 where
  low : i ≤ n
  high : n ≤ i + k
  within_text : n ≤ i + length s

-- `hex_run` ends at i or later, after at most k bytes more, within the text
run : (k i : ℕ) (s : List ℕ) → Run i k s (hex_run i k s)
unfolding hex_run
run zero i s = record { low = omega arith; high = omega arith; within_text = omega arith }
run (suc k) i s =
    pick-holds (Run i (suc k) s) (is_hex_digit (get_or s 0 0)) (hex_run (i + 1) k (drop 1 s)) i
    (λ e. let r = run k (i + 1) (drop 1 s) in
    let l = length-drop 1 s in
    let h = hex-there s e in
    record { low = omega (arith, r.low); high = omega (arith, r.high); within_text = omega (arith, r.within_text) })
    (λ _. record { low = omega arith; high = omega arith; within_text = omega arith })

-- the digits taken are one or more, and in the text
record Count (t : List ℕ) (n : ℕ) : Type 0 where
  some : 1 ≤ n
  within_text : n ≤ length t

-- no more than six are taken
pub count-six : (t : List ℕ) → hex_count t ≤ maximum_digits
unfolding hex_count
count-six t = pick-holds (λ (n : ℕ). n ≤ maximum_digits) _ _ _ (λ _. omega arith) (λ _. omega (arith, (run maximum_digits 0 t).high))

-- one is, where there is one
first_run : (t : List ℕ) → is_hex_digit (get_or t 0 0) ≡ true → 1 ≤ hex_run 0 maximum_digits t
unfolding hex_run pick
first_run t e = rw e (omega (arith, (run 5 1 (drop 1 t)).low))

-- so it is with what an escape takes
count : (t : List ℕ) → is_hex_digit (get_or t 0 0) ≡ true → Count t (hex_count t)
unfolding hex_count
count t e =
    let h = hex-there t e in
    let r = run maximum_digits 0 t in
    pick-holds (Count t) _ _ _ (λ _. record { some = omega arith; within_text = h })
    (λ _. record { some = first_run t e; within_text = omega (arith, r.within_text) })

-- what k digits write is no longer than the backslash and the digits
hex-length : (k v : ℕ) → 1 ≤ k → v < power_of_sixteen k → length (utf8 (or_replacement v)) ≤ 1 + k
unfolding power_of_sixteen
hex-length zero v h l = absurd (omega arith)
hex-length (suc zero) v h l = rw (or-replacement-same v (omega arith)) (omega (arith, utf8-small v (omega arith)))
hex-length (suc (suc zero)) v h l = rw (or-replacement-same v (omega arith)) (omega (arith, utf8-small v (omega arith)))
hex-length (suc (suc (suc k))) v h l = omega (arith, utf8-le (or_replacement v))

-- no digit writes 0
no_digit : 0 < power_of_sixteen 0
unfolding power_of_sixteen
no_digit = omega arith

-- U+FFFD has three bytes
replacement-three : length (utf8 replacement_character) ≤ 1 + 2
unfolding utf8 pick
replacement-three = omega arith

module _ (s : List ℕ) (h : get_or s 0 0 ≡ ascii "\\") where
  -- the backslash stands before the end of the text
  backslash : 1 ≤ length s
  backslash = inside s 0 0x5b h

  -- the end of the text
  end_fits : length (drop 1 s) ≡ 0 → Fits s 1 (utf8 replacement_character)
  end_fits e =
      record {
        some = omega arith;
        within_text = backslash;
        bound = lone replacement-three (omega (arith, length-drop 1 s, backslash)) h;
      }

  -- a backslash and hex digits take bytes of the text, and what they stand for keeps to the bound
  hex-fits : is_hex_digit (get_or (drop 1 s) 0 0) ≡ true
      → Fits s (1 + hex_count (drop 1 s)) (utf8 (or_replacement (hex_value 0 (hex_count (drop 1 s)) (drop 1 s))))
  hex-fits e =
      let n = hex_count (drop 1 s) in
      let c = count (drop 1 s) e in
      let z : 0 + n ≡ n = omega arith in
      let v = value-lt n 0 0 (drop 1 s) no_digit in
      record {
        some = omega arith;
        within_text = omega (arith, c.within_text, length-drop 1 s, backslash);
        bound = short (hex-length n _ c.some (rw z at v));
      }

  -- a backslash and the next character take bytes of the text, and what they stand for keeps to the bound
  next-char : (x : Option (Taken ℕ)) → scalar_of (drop 1 s) ≡ x → Fine s (behind_one x)
  unfolding behind_one
  next-char (Some c) e =
      let r = written_back (drop 1 s) c.taken c.value e in
      record {
        some = omega arith;
        within_text = omega (arith, r.inside-text, length-drop 1 s, backslash);
        bound = short (omega (arith, r.long));
      }
  next-char None e = tt

  -- by what stands behind the backslash
  escaped-fine : Fine s (escaped_of (drop 1 s))
  unfolding escaped_of
  escaped-fine =
      pick-holds (Fine s) _ _ _ (λ e. end_fits (is_true _ _ e))
      (λ _. pick-holds (Fine s) _ _ _ hex-fits (λ _. next-char (scalar_of (drop 1 s)) refl))

-- an escape that reads keeps to the bounds
escape-fine : (s : List ℕ) → Fine s (ident_escape_of s)
unfolding ident_escape_of
escape-fine s = pick-holds (Fine s) _ _ _ (λ e. escaped-fine s (is_true _ _ e)) (λ _. tt)

-- ---- either of both
-- where both alternatives keep to the bounds, so does the first that reads
either-fine : (s : List ℕ) (a b : Option (Taken ℕ)) → Fine s a → Fine s b → Fine s (option_or a b)
either-fine s (Some c) b p q = p
either-fine s None b p q = q

-- every character of a name
nmchar-fine : (s : List ℕ) → Fine s (nmchar_of s)
unfolding nmchar_of
nmchar-fine s = either-fine s _ _ (nmchar-char-fine s) (escape-fine s)

-- what a reading says of the bytes that it takes and of its text
pub char_of : (s : List ℕ) (n v : ℕ) → nmchar_of s ≡ Some (record { taken = n; value = v }) → Fits s n (utf8 v)
char_of s n v e = rw e at (nmchar-fine s)

-- it takes no more than there is
fine_le : (s : List ℕ) (x : Option (Taken ℕ)) → Fine s x → taken_of x ≤ length s
unfolding taken_of
fine_le s (Some v) c = c.within_text
fine_le s None c = omega arith

-- and its text keeps to the bound
fine-bound : (s : List ℕ) (x : Option (Taken ℕ)) → Fine s x → Bound s (taken_of x) (bytes_of x)
unfolding taken_of bytes_of
fine-bound s (Some v) c = c.bound
fine-bound s None c = short (omega arith)

-- what `char_taken` counts is there
pub char-le : (s : List ℕ) → char_taken s ≤ length s
unfolding char_taken
char-le s = fine_le s _ (nmchar-fine s)

-- and `char_text` keeps to the bound
pub char-bound : (s : List ℕ) → Bound s (char_taken s) (char_text s)
unfolding char_taken char_text
char-bound s = fine-bound s _ (nmchar-fine s)
