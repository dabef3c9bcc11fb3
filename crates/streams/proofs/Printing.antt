-- What a hole of a format writes of a number that is to have zeros in front, and what is written of a text, character by character.
use Rattle.std.proofs.Common.{◌≡◌, ℕ, ◌-◌, ◌++◌, List, [], Bool, true, false, length, sym, ap, ◌∙◌, arith, IsUtf8}
use Rattle.std.proofs.lemmas.List.{append-nil, nil_from_length}
use Rattle.std.proofs.lemmas.Str.{chars-nil, chars_past_char}
use Rattle.std.specs.Prelude.{replicate, chars}
use Rattle.std.specs.Char.{encode_utf8}
use Rattle.std.specs.Fmt.{padded_integral, format_spec, shown_prefix, char_count}
use Rattle.std.specs.List.{flat_map}
use Rattle.streams.specs.Printed.{escape, shown, escaped}

-- the digits stand behind as many zeros (48) as they are short of the width; the options are those of `{code:02x}` and its like: blanks (32) as fill, the side left
-- to the type (0), zeros in front (4), the width, and no precision (2 ^ 64 - 1)
pub zeros-before : (width : ℕ) (prefix digits : List ℕ)
    → padded_integral (format_spec 32 0 4 width 18446744073709551615) false (shown_prefix (format_spec 32 0 4 width 18446744073709551615) prefix) digits ≡ replicate (width - length digits) 48 ++ digits
unfolding padded_integral char_count
zeros-before width prefix digits =
    let e : width - length digits - 0 - 0 ≡ width - length digits = omega arith in
    rw (e, append-nil)

module _ (plain : ℕ → Bool) where
  -- nothing is written of no text
  pub escaped-end : (text : List ℕ) → length text ≡ 0 → escaped plain text ≡ []
  unfolding escaped
  escaped-end text h = ap (λ t. flat_map (shown plain) (chars t)) (nil_from_length text h) ∙ ap (flat_map (shown plain)) chars-nil

  -- of a text what is written of its first character, and of the rest
  pub escaped-next : (text rest : List ℕ) (c : ℕ) → IsUtf8 text → text ≡ encode_utf8 c ++ rest → escaped plain text ≡ shown plain c ++ escaped plain rest
  unfolding escaped
  escaped-next text rest c u e = ap (flat_map (shown plain)) (chars_past_char text rest c u e)

  -- a character that stands for itself, and one that does not
  pub stands : (c : ℕ) (b : Bool) → b ≡ plain c → b ≡ true → shown plain c ≡ encode_utf8 c
  unfolding shown
  stands c b e h = rw (sym e ∙ h)

  pub stands-not : (c : ℕ) (b : Bool) → b ≡ plain c → b ≡ false → shown plain c ≡ escape c
  unfolding shown
  stands-not c b e h = rw (sym e ∙ h)
