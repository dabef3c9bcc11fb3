-- Names, hashes and strings for derivations: what passes a test is one, so that its proof is computed.
use mathlib.Core.Path.{◌≡◌}
use mathlib.Core.Bool.{Bool, true, false}
use mathlib.Core.List.{List, [], ◌∷◌, map}
use Prim.Native.Nat.{ℕ, ◌≤◌}
use lib.ListN.{length}
use Rattle.combinators.specs.Choice.{and}
use Rattle.combinators.proofs.Rules.{never, and-true}
use Rattle.lexer.specs.Name.{lower}
use Rattle.lexer.proofs.SyntaxName.{Each, none, more, IdentSequence, started, ident_start, ident_code_point}
use Rattle.lexer.specs.Token.{is_quote}
use Rattle.lexer.proofs.SyntaxString.{ordinary, plain}
use Rattle.values.specs.Colour.{all_of}
use Rattle.grammar.specs.Selectors.{Name, unprocessed, Within, nothing, byte, Quoted}
use Rattle.grammar.specs.Tokens.{Ident, Hashed}

-- an ident-start code point, and ident code points behind it
unfoldable pub is_spelt : List ℕ → Bool
is_spelt [] = false
is_spelt (x ∷ r) = and (ident_start x) (all_of ident_code_point r)

-- a test of all bytes holds of each
pub each_of : (p : ℕ → Bool) (r : List ℕ) → all_of p r ≡ true → Each p r
unfolding all_of
each_of p [] h = none
each_of p (x ∷ r) h = let q = and-true (p x) (all_of p r) h in more q.0 (each_of p r q.1)

-- so such a text is an ident sequence
pub spelt-sequence : (w : List ℕ) → is_spelt w ≡ true → IdentSequence w
unfolding is_spelt
spelt-sequence [] h = never h
spelt-sequence (x ∷ r) h = let q = and-true (ident_start x) (all_of ident_code_point r) h in started q.0 (each_of ident_code_point r q.1)

-- a name that is spelt so, in letters of either case
unfoldable pub ident : (w : List ℕ) → is_spelt w ≡ true → Ident
ident w h = record { bytes = w; sequence = spelt-sequence w h }

-- one without capital letters
unfoldable pub spelt : (w : List ℕ) → is_spelt w ≡ true → map lower w ≡ w → Name
spelt w h s = record { bytes = w; sequence = spelt-sequence w h; small = s }

-- a hash of ident code points
unfoldable pub hashed : (w : List ℕ) → all_of ident_code_point w ≡ true → 1 ≤ length w → Hashed
hashed w h s = record { bytes = w; are = each_of ident_code_point w h; some = s }

-- a plain text stands for itself
pub plain-within : (q : ℕ) (w : List ℕ) → plain q w ≡ true → Within q w w
unfolding plain
plain-within q [] h = nothing
plain-within q (x ∷ r) h = let p = and-true (ordinary q x) (plain q r) h in byte p.0 (plain-within q r p.1)

-- a plain text between quotes is a string that stands for itself
unfoldable pub quoted : (q : ℕ) (w : List ℕ) → is_quote q ≡ true → plain q w ≡ true → all_of unprocessed w ≡ true → Quoted
quoted q w h p u = record { quote = q; bytes = w; body = w; quotes = h; stands = plain-within q w p; unchanged = each_of unprocessed w u }
