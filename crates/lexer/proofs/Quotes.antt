-- The characters of a quoted string: what one takes and stands for, where the string ends, and how long its text is.
use Rattle.std.specs.Prelude.{option_to_list}
use Rattle.std.proofs.lemmas.Option.{same_Some, none-some}
use Rattle.std.proofs.Common.{Option, Some, None}
use mathlib.Core.Path.{◌≡◌, refl, sym, ap, ◌∙◌}
use mathlib.Core.List.{List, [], ◌∷◌}
use mathlib.Core.Logic.{◌⊎◌, inl, inr, ⊎_elim}
use Prim.Native.Nat.{ℕ, ◌+◌, ◌-◌, ◌≤◌}
use native.Mathlib.Omega.{arith}
use lib.ListN.{length, get_or, take, drop, length-drop}
use lib.Seq.{sets}
use Prim.Native.Char.{code as ascii}
use Rattle.combinators.specs.Repeat.{many}
use Rattle.combinators.specs.Store.{Store, emits}
use Rattle.combinators.proofs.Rules.{pick-holds, is_true, is_false}
use Rattle.combinators.proofs.Lists.{rest, first}
use Rattle.combinators.proofs.Repeats.{many-le}
use Rattle.combinators.proofs.Emitted.{emits_none}
use Rattle.characters.specs.Utf8.{taken_of}
use Rattle.lexer.specs.Quoted.{one_byte, no_byte, escaped_byte, quoted_of, text_of, quoted_answer, quoted_taken, quoted_text, string_end, string_text}
use Rattle.combinators.specs.declared.taken.Taken.{Taken}
use Rattle.lexer.specs.declared.Written.{Written}
use Rattle.lexer.proofs.Bounds.{repeated-short, many-stops}
use Rattle.lexer.proofs.Writing.{Writing, Wrote, writing_more, writing-none}

-- a character takes no more than there is, and stands for no more than it takes
record Fine (s : List ℕ) (c : Option (Taken (Option ℕ))) : Type 0 where
  pub within_text : taken_of c ≤ length s
  pub small : length (text_of c) ≤ taken_of c
  pub some : (k : Taken (Option ℕ)) → c ≡ Some k → 1 ≤ taken_of c

-- by the cases of a turn
fine-byte : (s : List ℕ) (n b : ℕ) → n ≤ length s → 1 ≤ n → Fine s (Some (one_byte n b))
unfolding taken_of text_of
fine-byte s n b h l = record { within_text = h; small = l; some = λ _ _. l }

-- bytes that stand for nothing, no more than there are, are fine
fine-skip : (s : List ℕ) (n : ℕ) → n ≤ length s → 1 ≤ n → Fine s (Some (no_byte n))
unfolding taken_of text_of
fine-skip s n h l = record { within_text = h; small = omega arith; some = λ _ _. l }

-- the end of a string, which takes nothing, is fine
fine-stop : (s : List ℕ) → Fine s None
unfolding taken_of text_of
fine-stop s = record { within_text = omega arith; small = omega arith; some = λ _ e. absurd (none-some _ e) }

-- what stands behind a backslash takes no more than there is, and stands for no more than it takes
fine-escaped : (s : List ℕ) → ¬ (length s ≡ 0) → Fine s (Some (escaped_byte s))
unfolding escaped_byte
fine-escaped s h =
    pick-holds (λ c. Fine s (Some c)) _ _ _ (λ _. fine-skip s 1 (omega arith) (omega arith))
    (λ e. let d = is_false _ _ e in
    pick-holds (λ c. Fine s (Some c)) _ _ _ (λ _. fine-skip s 2 (omega arith) (omega arith)) (λ _. fine-byte s 2 _ (omega arith) (omega arith)))

-- every character of a string takes no more than there is, and stands for no more than it takes
fine : (q : ℕ) (s : List ℕ) → Fine s (quoted_of q s)
unfolding quoted_of
fine q s =
    pick-holds (Fine s) _ _ _ (λ _. fine-stop s)
    (λ e. let h = is_false _ _ e in
    pick-holds (Fine s) _ _ _ (λ _. fine-stop s)
    (λ _. pick-holds (Fine s) _ _ _ (λ _. fine-stop s)
    (λ _. pick-holds (Fine s) _ _ _ (λ _. fine-escaped s h) (λ _. fine-byte s 1 _ (omega arith) (omega arith)))))

-- one character takes no more than there is
pub quoted-le : (q : ℕ) (s : List ℕ) → quoted_taken q s ≤ length s
unfolding quoted_taken
quoted-le q s = (fine q s).within_text

-- and stands for no more than it takes
pub quoted-short : (q : ℕ) (s : List ℕ) → length (quoted_text q s) ≤ quoted_taken q s
unfolding quoted_taken quoted_text
quoted-short q s = (fine q s).small

-- ---- the returns of `emit_quoted`
module _ (q : ℕ) (s : List ℕ) (x : Option (Taken (Option ℕ))) (e : x ≡ quoted_of q s) where
  -- where a byte of text was read: so many bytes are taken, for one byte
  pub turn_byte : (c : Taken (Option ℕ)) → x ≡ Some c → (b : ℕ) → c.value ≡ Some b
      → (Some (record { taken = c.taken; length = 1 }) ≡ quoted_answer (quoted_of q s)) × (b ∷ [] ≡ quoted_text q s)
  unfolding quoted_answer quoted_text text_of
  turn_byte c h b k = rw (← e, h, k) (refl, refl)

  -- bytes that stand for nothing
  pub turn-none : (c : Taken (Option ℕ)) → x ≡ Some c → c.value ≡ None
      → (Some (record { taken = c.taken; length = 0 }) ≡ quoted_answer (quoted_of q s)) × ([] ≡ quoted_text q s)
  unfolding quoted_answer quoted_text text_of
  turn-none c h k = rw (← e, h, k) (refl, refl)

  -- the end of the string
  pub turn-stop : x ≡ None → (None ≡ quoted_answer (quoted_of q s)) × ([] ≡ quoted_text q s)
  unfolding quoted_answer quoted_text text_of
  turn-stop h = rw (← e, h) (refl, refl)

-- what an answer says of the character
answer-some : (c : Option (Taken (Option ℕ))) (k m : ℕ) → Some (record { taken = k; length = m }) ≡ quoted_answer c → (taken_of c ≡ k) × (m ≡ length (text_of c)) × (¬ (c ≡ None))
unfolding quoted_answer taken_of text_of
answer-some (Some c) k m e =
    let q : record { taken = k; length = m } ≡ record { taken = c.taken; length = length (option_to_list c.value) } = same_Some _ _ e in
    (sym (ap (λ w. w.taken) q), ap (λ w. w.length) q, (λ z. none-some _ (sym z)))
answer-some None k m e = absurd (none-some _ (sym e))

-- where there is no answer, the string is at its end
answer-none : (c : Option (Taken (Option ℕ))) → None ≡ quoted_answer c → c ≡ None
unfolding quoted_answer
answer-none (Some c) e = absurd (none-some _ e)
answer-none None e = refl

-- nothing is written where the text is empty
pub kept : (o : Store ℕ) (t : List ℕ) → [] ≡ t → o ≡ emits o t
kept o t h = sym (emits_none o) ∙ ap (emits o) h

-- ---- the string as a whole
-- it ends within the text
pub string-le : (q : ℕ) (s : List ℕ) → string_end q s ≤ length s
unfolding string_end
string-le q s = omega (arith, many-le (quoted_taken q) s 0 0)

-- its text is no longer than what it takes
pub string-short : (q : ℕ) (s : List ℕ) → length (string_text q s) ≤ string_end q s
unfolding string_end string_text
string-short q s = repeated-short (quoted_taken q) (quoted_text q) (quoted-le q) (quoted-short q) s

-- ---- what stands at the end of a string
-- a character that takes nothing is the end of the text, the quote or a line feed
abbrev Ends : ℕ → List ℕ → Type 0
Ends q s = (length s ≡ 0) ⊎ ((get_or s 0 0 ≡ q) ⊎ (get_or s 0 0 ≡ ascii "\n"))

-- a character takes a byte
quoted-some : (q : ℕ) (s : List ℕ) → ¬ (quoted_of q s ≡ None) → ¬ (quoted_taken q s ≡ 0)
unfolding quoted_taken
quoted-some q s d = go (quoted_of q s) d (fine q s)
  where
    go : (c : Option (Taken (Option ℕ))) → ¬ (c ≡ None) → Fine s c → ¬ (taken_of c ≡ 0)
    go (Some c) d f z = let l = f.some c refl in omega arith
    go None d f z = d refl

-- by the tests of one turn
quoted-stop : (q : ℕ) (s : List ℕ) → quoted_of q s ≡ None → Ends q s
unfolding quoted_of
quoted-stop q s =
    pick-holds P _ _ _ (λ e _. inl (is_true _ _ e))
    (λ _. pick-holds P _ _ _ (λ e _. inr (inl (is_true _ _ e)))
    (λ _. pick-holds P _ _ _ (λ e _. inr (inr (is_true _ _ e)))
    (λ _. pick-holds P _ _ _ (λ _ e. absurd (none-some _ (sym e))) (λ _ e. absurd (none-some _ (sym e))))))
  where
    P : Option (Taken (Option ℕ)) → Type 0
    P c = c ≡ None → Ends q s

-- a character that takes nothing is none
taken-stop : (q : ℕ) (s : List ℕ) → quoted_taken q s ≡ 0 → quoted_of q s ≡ None
taken-stop q s h = go (quoted_of q s) refl
  where
    go : (c : Option (Taken (Option ℕ))) → quoted_of q s ≡ c → quoted_of q s ≡ None
    go (Some c) e = absurd (quoted-some q s (λ z. none-some _ (sym z ∙ e)) h)
    go None e = e

-- the characters of a string end at the end of the text, at the quote or at a line feed
pub string-at : (q : ℕ) (s : List ℕ) → (string_end q s ≡ length s) ⊎ ((get_or s (string_end q s) 0 ≡ q) ⊎ (get_or s (string_end q s) 0 ≡ ascii "\n"))
unfolding string_end
string-at q s =
    let m = many (quoted_taken q) 0 0 s in
    ⊎_elim inl
    (λ z. ⊎_elim (λ e. inl (omega (arith, length-drop m s, e, many-le (quoted_taken q) s 0 0)))
    (λ h. inr (rw (first s m) at h)) (quoted-stop q (drop m s) (taken-stop q (drop m s) z)))
    (many-stops (quoted_taken q) s)

-- ---- the loop of `emit_string`
-- what it leaves: the bytes taken, the length of the text, and the text in the store
abbrev pub Ended : ℕ → List ℕ → Store ℕ → List ℕ → ℕ → ℕ → Type 0
Ended q s v st i n = ((i ≡ string_end q s) × (n ≡ length (string_text q s))) × (st ≡ sets v.bytes v.fill (string_text q s))

-- the loop's end says so
string-wrote : (q : ℕ) (s : List ℕ) (v w : Store ℕ) (i n : ℕ) → Wrote (quoted_taken q) (quoted_text q) s v w i n → Ended q s v w.bytes i n
unfolding string_end string_text
string-wrote q s v w i n e = ((e.0, e.1), e.2)

module _ (q : ℕ) (s : List ℕ) (v w : Store ℕ) (i n : ℕ) (c : Writing (quoted_taken q) (quoted_text q) s v w i n) where
  -- the text so far is no longer than the whole
  pub string-small : n ≤ length s
  unfolding string_end string_text
  string-small = let l = string-short q s in let h = string-le q s in omega (arith, c.text)

  -- a turn is lent the rest of the text
  module _ (y : Option Written) (x : Store ℕ) (ey : y ≡ quoted_answer (quoted_of q (take (length s - i) (drop i s))))
      (ex : x ≡ emits w (quoted_text q (take (length s - i) (drop i s)))) where
    answered : y ≡ quoted_answer (quoted_of q (drop i s))
    answered = rw (rest s i) at ey

    stored : x ≡ emits w (quoted_text q (drop i s))
    stored = rw (rest s i) at ex

    -- a turn that answers takes a byte
    pub string-some : (k m : ℕ) → y ≡ Some (record { taken = k; length = m }) → ¬ (k ≡ 0)
    unfolding quoted_taken
    string-some k m h z =
        let a = answer-some (quoted_of q (drop i s)) k m (sym h ∙ answered) in
        quoted-some q (drop i s) a.2 (a.0 ∙ z)

    -- behind a turn that takes k bytes for m bytes of text, what is left to read and to write has the result of the whole
    pub string-more : (k m : ℕ) → y ≡ Some (record { taken = k; length = m }) → Writing (quoted_taken q) (quoted_text q) s v x (i + k) (n + m)
    unfolding quoted_taken quoted_text
    string-more k m h =
        let a = answer-some (quoted_of q (drop i s)) k m (sym h ∙ answered) in
        writing_more _ _ _ _ _ _ _ c k m x a.0 (omega (arith, a.0, quoted-le q (drop i s)))
        (string-some k m h) a.1 stored

    -- where a turn answers none, the string ends: what was taken and written is all of it
    pub string-stop : y ≡ None → Ended q s v x.bytes i n
    unfolding quoted_taken quoted_text taken_of text_of
    string-stop h =
        let e = answer-none (quoted_of q (drop i s)) (sym h ∙ answered) in
        string-wrote q s v x i n (writing-none _ _ _ _ _ _ _ c 0 x (sym (ap taken_of e)) refl (ap text_of e) stored)
