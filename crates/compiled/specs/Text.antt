-- Texts of a compiled sheet: the length, then the bytes.
use Rattle.std.specs.Prelude.{ℕ, ◌+◌, ◌≡◌, refl, List, [], ◌∷◌, ◌++◌, leb, length}
use Rattle.combinators.specs.Choice.{pick}
use Rattle.combinators.specs.Part.{part}
use Rattle.compiled.specs.Decoded.{Decoded, read, fault, and_then, mapped}
use Rattle.compiled.specs.declared.texts.Span.{Span}
use Rattle.compiled.specs.Number.{group_bytes, number_bytes, limited, groups_at, number_at}

-- a text is its length, then its bytes: "Texts are compared as bytes and need not be UTF-8"
unfoldable pub text_bytes : List ℕ → List ℕ
text_bytes x = number_bytes (length x) ++ x

-- a text that runs out is a fault where its length starts
unfoldable pub span_at : List ℕ → ℕ → Decoded Span
span_at t i = and_then (number_at t i) (λ n v. pick (leb (n + v) (length t)) (read (n + v) (record { start = n; size = v })) (fault i))

-- the text that lies there
unfoldable pub text_in : List ℕ → Span → List ℕ
text_in t x = part t x.start x.size

unfoldable pub text_at : List ℕ → ℕ → Decoded (List ℕ)
text_at t i = mapped (text_in t) (span_at t i)

-- a text, written and read
pub case-text : text_bytes (0x70 ∷ 0x71 ∷ []) ≡ 0x02 ∷ 0x70 ∷ 0x71 ∷ []
unfolding text_bytes number_bytes group_bytes pick
case-text = refl

pub case-read : text_at (0xff ∷ 0x02 ∷ 0x70 ∷ 0x71 ∷ 0x72 ∷ []) 1 ≡ read 4 (0x70 ∷ 0x71 ∷ [])
unfolding text_at text_in span_at part and_then mapped number_at groups_at limited pick
case-read = refl

-- a text that runs out
pub case-short : text_at (0xff ∷ 0x82 ∷ 0x00 ∷ 0x70 ∷ []) 1 ≡ fault 1
unfolding text_at text_in span_at part and_then mapped number_at groups_at limited pick
case-short = refl
