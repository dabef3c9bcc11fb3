-- White_Space at the end of a text does not change the colour that its first six bytes write.
use Prim.Native.Nat.{ℕ, zero, suc, ◌+◌, ◌-◌, ◌<◌, ◌≤◌}
use mathlib.Core.Path.{◌≡◌, refl, sym, ap, ◌∙◌}
use mathlib.Core.Bool.{Bool, true, false}
use mathlib.Core.List.{List, [], ◌∷◌}
use mathlib.Core.Logic.{⊎_elim}
use native.Mathlib.Omega.{arith}
use lib.ListN.{length, get_or, take, drop, length-drop}
use lib.Seq.{get_or-drop, take-take, take_all, length-take-le}
use Prim.Native.Char.{code as ascii}
use Rattle.combinators.specs.Choice.{pick, or, and, is, within}
use Rattle.combinators.specs.Repeat.{many}
use Rattle.combinators.specs.All.{member}
use Rattle.combinators.proofs.Rules.{never, pick_true, pick-false, pick-holds, either, or-none, and_both, and_left, and_right, and-true, is-no, is_true, within-past, lt-or-ge}
use Rattle.combinators.proofs.Lists.{rest, front-two}
use Rattle.combinators.proofs.Repeats.{many-stop}
use Rattle.characters.specs.Trim.{white_taken, trimmed_start}
use Rattle.characters.specs.WhiteSpace.{white_space, is_white_space}
use Rattle.std.specs.Prelude.{Option, None}
use Rattle.characters.proofs.RoundTrip.{ascii-read}
use Rattle.characters.proofs.Trimming.{white-value}
use Rattle.lexer.specs.Name.{is_hex_digit, hex_digit}
use Rattle.values.specs.Words.{missing}
use Rattle.values.specs.Colour.{all_of, without_plus, digits_in, parse_hex}
use Rattle.values.specs.ColourAnswer.{colour_answer}
use Rattle.values.proofs.ColourLaws.{no-colour, bad-read, no_plus}
use Rattle.declarations.specs.Attribute.{all_white, trimmed_end, trimmed, pairs, faulty_colour}
use Rattle.std.specs.Array.{IsFirstChunk}
use Rattle.declarations.proofs.PairLaws.{first-six, first-missing, second-missing, third-missing, short, long}

-- ---- bytes that no pair has

-- whether a test fails
unfoldable fails : Bool → Bool
fails t = pick t false true

-- a test whose failing holds is false
fails-false : (t : Bool) → fails t ≡ true → t ≡ false
unfolding fails pick
fails-false true e = never e
fails-false false e = refl

-- a byte that is neither a hex digit nor a '+'
unfoldable unread : ℕ → Bool
unread x = and (fails (is_hex_digit x)) (fails (is x (ascii "+")))

module _ (x : ℕ) (e : unread x ≡ true) where
  -- it is no hex digit
  no_digit : is_hex_digit x ≡ false
  unfolding unread
  no_digit = fails-false _ (and-true _ _ e).0

  -- a byte that no digit is read from is no `+`
  no_sign : is x (ascii "+") ≡ false
  unfolding unread
  no_sign = fails-false _ (and-true _ _ e).1

-- such is every byte behind ASCII
high-unread : (x : ℕ) → 0x7f < x → unread x ≡ true
unfolding unread fails is_hex_digit
high-unread x h =
    and_both _ _
    (sym (pick-false _ _ _ _ (or-none _ _ (within-past x (ascii "0") (ascii "9") (omega arith))
    (or-none _ _ (within-past x (ascii "a") (ascii "f") (omega arith)) (within-past x (ascii "A") (ascii "F") (omega arith)))) refl))
    (sym (pick-false _ _ _ _ (is-no x (ascii "+") (λ e. omega arith)) refl))

-- what holds of every entry of a table holds of what is in it
member-holds : (p : ℕ → Bool) (v : ℕ) (xs : List ℕ) → all_of p xs ≡ true → member v xs ≡ true → p v ≡ true
unfolding all_of member
member-holds p v [] e h = never h
member-holds p v (x ∷ xs) e h =
    let a = and-true (p x) (all_of p xs) e in
    either (p v ≡ true) (is v x) (member v xs) h (λ i. ap p (is_true v x i) ∙ a.0) (λ m. member-holds p v xs a.1 m)

-- the table of White_Space, computed
table-unread : all_of unread white_space ≡ true
unfolding all_of unread fails pick and or is within is_hex_digit
table-unread = refl

-- so a character of White_Space is such
white-unread : (x : ℕ) → is_white_space x ≡ true → unread x ≡ true
unfolding is_white_space
white-unread x e = member-holds unread x white_space table-unread e

-- a text that begins with White_Space begins with such a byte
white-first : (x : ℕ) (r : List ℕ) → ¬ (white_taken (x ∷ r) ≡ 0) → unread x ≡ true
white-first x r n = ⊎_elim (λ h. high-unread x h) (λ h. go h (is_white_space x) refl) (lt-or-ge 0x7f x)
  where
    go : x ≤ 0x7f → (t : Bool) → is_white_space x ≡ t → unread x ≡ true
    go h true e = white-unread x e
    go h false e = absurd (n (sym (white-value (x ∷ r) _ (sym (ascii-read x r h)) 1 x refl (is_white_space x) false refl e) ∙ sym (pick-false 0 1 0 false refl refl)))

-- so does one that has nothing but White_Space
white-unread-first : (x : ℕ) (r : List ℕ) → all_white (x ∷ r) ≡ true → unread x ≡ true
unfolding all_white
white-unread-first x r e =
    white-first x r (λ z. let m = many-stop white_taken (x ∷ r) 0 z in let l = is_true (many white_taken 0 0 (x ∷ r)) (length (x ∷ r)) e in absurd (omega arith))

-- ---- pairs with such a byte

module _ (x y : ℕ) where
  -- a pair whose first byte is such is no number
  first-unread : unread x ≡ true → parse_hex 255 (x ∷ y ∷ []) ≡ missing
  unfolding parse_hex all_of
  first-unread e =
      ap (digits_in is_hex_digit 16 hex_digit 255) (sym (no_plus (x ∷ y ∷ []) false (sym (no_sign x e)) refl))
      ∙ sym (bad-read is_hex_digit 16 hex_digit 255 (x ∷ y ∷ []) (λ z. omega arith) (and_left _ _ (no_digit x e)))

  -- nor is one whose second is
  second-unread : unread y ≡ true → parse_hex 255 (x ∷ y ∷ []) ≡ missing
  unfolding parse_hex without_plus all_of
  second-unread e =
      pick-holds (λ (n : ℕ). digits_in is_hex_digit 16 hex_digit 255 (drop n (x ∷ y ∷ [])) ≡ missing) _ _ _
      (λ _. sym (bad-read is_hex_digit 16 hex_digit 255 (y ∷ []) (λ z. omega arith) (and_left _ _ (no_digit y e))))
      (λ _. sym (bad-read is_hex_digit 16 hex_digit 255 (x ∷ y ∷ []) (λ z. omega arith) (and_right _ _ (and_left _ _ (no_digit y e)))))

-- so is no pair with such a byte at i
pair-unread : (s : List ℕ) → 2 ≤ length s → (i : ℕ) → i < 2 → unread (get_or s i 0) ≡ true → parse_hex 255 (take 2 s) ≡ missing
pair-unread s h zero l e = rw (front-two s h) (first-unread _ _ e)
pair-unread s h (suc zero) l e = rw (front-two s h) (second-unread _ _ e)
pair-unread s h (suc (suc i)) l e = absurd (omega arith)

-- six bytes with such a byte at i are no pairs
pairs-unread : (t : List ℕ) → 6 ≤ length t → (i : ℕ) → i < 6 → unread (get_or t i 0) ≡ true → pairs t ≡ missing
pairs-unread t h i l e =
    ⊎_elim (λ a. first-missing t (at 0 (omega arith) a (omega arith)))
    (λ b. ⊎_elim (λ c. second-missing t (at 2 b c (omega arith))) (λ d. third-missing t (at 4 d l (omega arith))) (lt-or-ge i 4))
    (lt-or-ge i 2)
  where
    at : (k : ℕ) → k ≤ i → i < k + 2 → k + 2 ≤ 6 → parse_hex 255 (take 2 (drop k t)) ≡ missing
    at k a b c =
        let q : k + (i - k) ≡ i = omega arith in
        pair-unread (drop k t) (omega (arith, length-drop k t)) (i - k) (omega arith)
        (ap unread (get_or-drop k t (i - k) 0 ∙ ap (λ j. get_or t j 0) q) ∙ e)

-- ---- a text cut at n

-- m bytes from k on, where the text is cut behind them
part_cut : (k m n : ℕ) (l : List ℕ) → k + m ≤ n → take m (drop k (take n l)) ≡ take m (drop k l)
part_cut zero m n l h = take-take m n l (omega arith)
part_cut (suc k) m zero l h = absurd (omega arith)
part_cut (suc k) m (suc n) [] h = refl
part_cut (suc k) m (suc n) (x ∷ l) h = part_cut k m n l (omega arith)

module _ (t : List ℕ) (n : ℕ) where
  -- a cut behind the six bytes
  pairs-cut : 6 ≤ n → pairs (take n t) ≡ pairs t
  unfolding pairs
  pairs-cut h = rw (part_cut 0 2 n t (omega arith), part_cut 2 2 n t (omega arith), part_cut 4 2 n t (omega arith))

  -- a cut within the text, before a byte that no pair has
  cut-within : n < length t → unread (get_or t n 0) ≡ true → faulty_colour (take n t) ≡ faulty_colour t
  cut-within h e =
      ⊎_elim
      (λ a. short (take n t) (omega (arith, length-take-le n t (omega arith)))
      ∙ ⊎_elim (λ b. sym (short t b)) (λ b. sym (long t b ∙ pairs-unread t b n a e)) (lt-or-ge (length t) 6))
      (λ a. long (take n t) (omega (arith, length-take-le n t (omega arith))) ∙ pairs-cut a ∙ sym (long t (omega arith)))
      (lt-or-ge n 6)

-- ---- `trimmed_end`

-- a text without its end is cut at a byte that no pair has, if at all
record Trimmed (t : List ℕ) : Type 0 where
  count : ℕ
  same : trimmed_end t ≡ take count t
  behind : count < length t → unread (get_or t count 0) ≡ true

-- so is every text
trimmed-is : (t : List ℕ) → Trimmed t
unfolding trimmed_end
trimmed-is [] = record { count = 0; same = refl; behind = λ h. absurd (omega arith) }
trimmed-is (x ∷ r) = go (all_white (x ∷ r)) refl (trimmed-is r)
  where
    go : (w : Bool) → all_white (x ∷ r) ≡ w → Trimmed r → Trimmed (x ∷ r)
    go true e c = record { count = 0; same = sym (pick_true _ _ _ _ e refl); behind = λ h. white-unread-first x r e }
    go false e c =
        record {
          count = suc c.count;
          same = sym (pick-false _ _ _ _ e (ap (λ l. x ∷ l) (sym c.same)));
          behind = λ h. c.behind (omega arith);
        }

-- White_Space at the end of the text changes nothing
pub faulty-trimmed : (t : List ℕ) → faulty_colour (trimmed_end t) ≡ faulty_colour t
faulty-trimmed t =
    let c = trimmed-is t in
    ap faulty_colour c.same
    ∙ ⊎_elim (λ h. cut-within t c.count h (c.behind h)) (λ h. ap faulty_colour (take_all c.count t h)) (lt-or-ge c.count (length t))

-- ---- `parse_faulty_color`

-- of a text s, with n bytes of White_Space at its start
module _ (s : List ℕ) (n : ℕ) (e : n ≡ many white_taken 0 0 s) where
  -- what is lent behind them is as good as the trimmed text
  lent-trimmed : faulty_colour (take (length s - n) (drop n s)) ≡ faulty_colour (trimmed s)
  unfolding trimmed trimmed_start
  lent-trimmed = ap faulty_colour (rest s n ∙ ap (λ k. drop k s) e) ∙ sym (faulty-trimmed _)

  -- the returns: fewer than six bytes
  pub trimmed-short : length (take (length s - n) (drop n s)) < 6 → None ≡ colour_answer (faulty_colour (trimmed s))
  trimmed-short h = no-colour _ (sym (short _ h) ∙ lent-trimmed)

  -- where six bytes or more are left, the pairs of the first six are those of the text trimmed at both ends
  pub trimmed-long : (ds : List ℕ) → IsFirstChunk (take (length s - n) (drop n s)) ds 6 → (r : Option ℕ) → r ≡ colour_answer (pairs ds)
      → r ≡ colour_answer (faulty_colour (trimmed s))
  trimmed-long ds h r er = er ∙ ap colour_answer (ap pairs h.same ∙ first-six _ ∙ sym (long _ h.enough) ∙ lent-trimmed)
