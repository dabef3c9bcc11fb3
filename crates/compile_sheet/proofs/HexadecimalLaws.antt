-- The digits and the pair that a hole `{:02x}` of a format writes, and the line, pair by pair.
use mathlib.Core.Path.{◌≡◌, refl, sym, ap, ◌∙◌}
use mathlib.Core.Bool.{false}
use mathlib.Core.List.{List, [], ◌∷◌, ◌++◌}
use Prim.Native.Nat.{ℕ, ◌+◌, ◌-◌, ◌*◌, ◌/◌, ◌%◌, ◌≤◌, ◌<◌}
use native.Mathlib.Omega.{arith}
use lib.ListN.{length, get_or, take, drop, length-drop}
use Rattle.std.proofs.Common.{inl, inr, append_assoc, take_all}
use Rattle.std.proofs.lemmas.List.{nil_from_length, take_more, length-append, length-take-le, take-append-drop}
use borrow.Author.Tests.{lt-ltb, le-ltb}
use Rattle.std.proofs.lemmas.Bool.Decides.{eqb_tells}
use Rattle.std.specs.Fmt.{digit_glyph, digits}
use Prim.Native.Char.{code as ascii}
use Rattle.combinators.specs.Part.{part}
use Rattle.combinators.specs.Store.{Store, emits}
use Rattle.combinators.specs.Writer.{written, SameStore}
use Rattle.combinators.specs.declared.writer.Writer.{Writer}
use Rattle.combinators.proofs.Emitted.{then, filled-part}
use Rattle.combinators.proofs.Rules.{lt-or-ge, pick_true, pick-false}
use Rattle.streams.specs.Printed.{hexadecimal}
use Rattle.compile_sheet.specs.Hexadecimal.{base, decimal_base, pair_width, piece_length, hex_digit, hex_pair, next_pair, hex_pairs, ended_pairs, hex_line, RoomFor}

-- ---- a digit
-- a digit below ten is written as a decimal digit
pub decimal : (n : ℕ) → n < decimal_base → ascii "0" + n ≡ hex_digit n
unfolding hex_digit
decimal n h = pick_true _ _ _ _ (lt-ltb n decimal_base h) refl

-- from ten on a digit is a letter
pub letter : (n : ℕ) → decimal_base ≤ n → ascii "a" + (n - decimal_base) ≡ hex_digit n
unfolding hex_digit
letter n h = pick-false _ _ _ _ (le-ltb n decimal_base h) refl

-- a format writes the digit
glyph : (n : ℕ) → digit_glyph false n ≡ hex_digit n
glyph n =
    elim (lt-or-ge n decimal_base) [
      | inl h ↦ rw (lt-ltb n decimal_base h) (decimal n h)
      | inr h ↦ let e : 87 + n ≡ ascii "a" + (n - decimal_base) = omega arith in rw (le-ltb n decimal_base h) (e ∙ letter n h)
    ]

-- ---- the pair of digits of a byte
-- a format writes its two digits, of which the first may be a zero in front
pub pair : (b : ℕ) → b < 256 → hexadecimal 2 b ≡ hex_pair b
unfolding hexadecimal digits hex_pair
pair b h =
    let second : b / base / base ≡ 0 = omega arith in
    let first : b / base % base ≡ b / base = omega arith in
    let both : (d : ℕ) → d ≡ hex_digit (b / base) → d ∷ digit_glyph false (b % base) ∷ [] ≡ hex_pair b =
    λ d e. ap (λ x. x ∷ digit_glyph false (b % base) ∷ []) e ∙ ap (λ x. hex_digit (b / base) ∷ x ∷ []) (glyph (b % base)) in
    elim (eqb_tells (b / base) 0) [
      | inl e ↦ rw e.0 (both 48 (glyph 0 ∙ ap hex_digit (sym e.1)))
      | inr e ↦ rw (e.0, second, first) (both (digit_glyph false (b / base)) (glyph (b / base)))
    ]

-- ---- the line
-- a byte behind others is written as a space and its pair
pub next-pair : (a : ℕ) (s : List ℕ) (b : ℕ) → hex_pairs (a ∷ s) ++ (ascii " " ∷ hex_pair b) ≡ hex_pairs (a ∷ (s ++ b ∷ []))
unfolding hex_pairs
next-pair a [] b = refl
next-pair a (c ∷ s) b =
    append_assoc (hex_pair a) (ascii " " ∷ hex_pairs (c ∷ s)) (ascii " " ∷ hex_pair b) ∙ ap (λ t. hex_pair a ++ (ascii " " ∷ t)) (next-pair c s b)

-- nothing stands before the end where there is no byte, and else the pairs of a first byte and of those behind it
pub none-ended : (s : List ℕ) (end : ℕ) → length s < 1 → end ∷ [] ≡ ended_pairs s end
unfolding hex_pairs
none-ended s end h = rw (nil_from_length s (omega arith))

pub some-ended : (s : List ℕ) (end : ℕ) → 1 ≤ length s → ended_pairs (get_or s 0 0 ∷ take (length s - 1) (drop 1 s)) end ≡ ended_pairs s end
some-ended [] end h = absurd (let z : ⊥ = omega (arith, h) in z)
some-ended (a ∷ s) end h = ap (λ t. ended_pairs (a ∷ t) end) (take_all _ s (omega arith))

-- each byte takes so many of them
pairs-width : (b : ℕ) (s : List ℕ) → length (hex_pairs (b ∷ s)) + 1 ≡ pair_width * length (b ∷ s)
unfolding hex_pairs hex_pair
pairs-width b [] = refl
pairs-width b (c ∷ s) = let e = pairs-width c s in omega (arith, e)

ended-fits : (s : List ℕ) (end n : ℕ) → RoomFor (length s) n → length (ended_pairs s end) ≤ n
unfolding hex_pairs
ended-fits [] end n h = h.0
ended-fits (b ∷ s) end n h = omega (arith, h.1, pairs-width b s, length-append (hex_pairs (b ∷ s)) (end ∷ []))

-- what is written of a first byte and of those behind it, so far
pub record Lining (u v : Writer) (first : ℕ) (rest : List ℕ) (i : ℕ) : Type 0 where
  pub same_store : SameStore u v
  pub work : written v ≡ emits (written u) (hex_pairs (first ∷ take i rest))

module _ (u v : Writer) (first : ℕ) (rest : List ℕ) where
  -- the first byte's pair
  pub lining-begin : SameStore u v → written v ≡ emits (written u) (hex_pair first) → Lining u v first rest 0
  unfolding hex_pairs
  lining-begin s e = record { same_store = s; work = e }

  module _ (i : ℕ) (c : Lining u v first rest i) where
    -- another byte behind them
    pub lining-more : i < length rest → (w : Writer) → SameStore v w → written w ≡ emits (written v) (next_pair (get_or rest i 0)) → Lining u w first rest (i + 1)
    lining-more l w same e =
        let p : hex_pairs (first ∷ take i rest) ++ next_pair (get_or rest i 0) ≡ hex_pairs (first ∷ take (i + 1) rest) =
        next-pair first (take i rest) _ ∙ ap (λ t. hex_pairs (first ∷ t)) (sym (take_more rest i 0 l)) in
        record { same_store = same ∙ c.same_store; work = then _ _ _ _ _ c.work e ∙ ap (emits (written u)) p }

    -- and the end behind the last
    pub lining-done : (end : ℕ) → length rest ≤ i → (o : Store ℕ) → o ≡ emits (written v) (end ∷ []) → o ≡ emits (written u) (ended_pairs (first ∷ rest) end)
    lining-done end h o e = then _ _ _ _ _ c.work e ∙ ap (λ t. emits (written u) (ended_pairs (first ∷ t) end)) (take_all i rest h)

-- ---- a piece
module _ (s : List ℕ) (end : ℕ) where
  -- from the start of a store on it is the filled part, as far as the store goes
  pub piece-put : (l m : List ℕ) (f : ℕ) → record { bytes = m; fill = f } ≡ emits (record { bytes = l; fill = 0 }) (ended_pairs s end)
      → part m 0 f ≡ take (length l) (ended_pairs s end)
  unfolding part
  piece-put l m f e = ap (λ (o : Store ℕ). take o.fill o.bytes) e ∙ filled-part (ended_pairs s end) l 0 (omega arith)

  -- all of it where there is room
  pub piece-whole : (n : ℕ) → RoomFor (length s) n → take n (ended_pairs s end) ≡ ended_pairs s end
  piece-whole n h = take_all n (ended_pairs s end) (ended-fits s end n h)

-- ---- the line, piece by piece
-- what is ended by a space, and a line behind it, is one line
joined : (a b : ℕ) (s t : List ℕ) → ended_pairs (a ∷ s) (ascii " ") ++ hex_line (b ∷ t) ≡ hex_line ((a ∷ s) ++ b ∷ t)
unfolding hex_line hex_pairs hex_pair
joined a b [] t = refl
joined a b (c ∷ s) t = ap (λ k. hex_pair a ++ (ascii " " ∷ k)) (joined c b s t)

both : (p q : List ℕ) → 1 ≤ length p → 1 ≤ length q → ended_pairs p (ascii " ") ++ hex_line q ≡ hex_line (p ++ q)
both [] q h k = absurd (let z : ⊥ = omega (arith, h) in z)
both (a ∷ s) [] h k = absurd (let z : ⊥ = omega (arith, k) in z)
both (a ∷ s) (b ∷ t) h k = joined a b s t

-- behind what is written, a piece and the line of those behind it are the line of what was left
pub line-piece : (done s p q all : List ℕ) → p ≡ take piece_length s → q ≡ drop piece_length s → piece_length < length s → done ++ hex_line s ≡ all
    → (done ++ ended_pairs p (ascii " ")) ++ hex_line q ≡ all
line-piece done s p q all ep eq h e =
    let one : 1 ≤ length p = omega (arith, ap length ep, length-take-le piece_length s (omega (arith, h))) in
    let some : 1 ≤ length q = omega (arith, ap length eq, length-drop piece_length s, h) in
    append_assoc done (ended_pairs p (ascii " ")) (hex_line q) ∙ ap (λ k. done ++ k) (both p q one some ∙ ap hex_line (rw (ep, eq) (take-append-drop piece_length s))) ∙ e
