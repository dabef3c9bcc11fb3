-- The characters of a name: one and those behind it, where they end, how long their text is, and the loop of `emit_nmchars`.
use Rattle.std.proofs.Common.{Option, Some, None}
use mathlib.Core.Path.{◌≡◌, ap, sym, ◌∙◌}
use mathlib.Core.List.{List, ◌++◌}
use Prim.Native.Nat.{ℕ, ◌+◌, ◌-◌, ◌≤◌}
use native.Mathlib.Omega.{arith}
use lib.ListN.{length, take, drop}
use lib.Seq.{sets}
use Rattle.combinators.specs.Repeat.{many, texts}
use Rattle.combinators.specs.Store.{Store, emits}
use Rattle.combinators.proofs.Lists.{rest}
use Rattle.combinators.proofs.Repeats.{many-le, many-took, many-from, texts-took}
use Rattle.characters.specs.Utf8.{utf8, taken_of}
use Rattle.combinators.specs.declared.taken.Taken.{Taken}
use Rattle.lexer.specs.Name.{nmchar_of, bytes_of, char_taken, char_text, chars_end, chars_text}
use Rattle.lexer.proofs.Bounds.{Bound, bound-two, repeated}
use Rattle.lexer.proofs.Writing.{Writing, Wrote, writing_more, writing-stop, writing-small}
use Rattle.lexer.proofs.Characters.{char_of, char-le, char-bound}

-- ---- one character
-- the bytes that it takes
takes : (s : List ℕ) (x : Option (Taken ℕ)) → nmchar_of s ≡ x → char_taken s ≡ taken_of x
unfolding char_taken
takes s x e = ap taken_of e

-- the text that it stands for
stands : (s : List ℕ) (k v : ℕ) → nmchar_of s ≡ Some (record { taken = k; value = v }) → char_text s ≡ utf8 v
unfolding char_text bytes_of
stands s k v e = ap bytes_of e

-- a character, and those behind it
module _ (s : List ℕ) (n v : ℕ) (e : nmchar_of s ≡ Some (record { taken = n; value = v })) where
  -- a character takes a byte or more
  nonzero : ¬ (n ≡ 0)
  nonzero q = omega (arith, (char_of s n v e).some)

  -- the reader of characters takes the bytes of that one
  takes-n : char_taken s ≡ n
  unfolding taken_of
  takes-n = takes s _ e

  -- they end where those behind it end
  pub chars-step : chars_end s ≡ n + chars_end (drop n s)
  unfolding chars_end
  chars-step =
      many-took char_taken s 0 n (char_of s n v e).within_text takes-n nonzero
      ∙ ap (λ k. many char_taken k 0 (drop n s)) (omega arith) ∙ many-from n char_taken (drop n s) 0 0

  -- and their text is its bytes and the text of those behind it
  pub chars-text-step : chars_text s ≡ utf8 v ++ chars_text (drop n s)
  unfolding chars_text
  chars-text-step =
      texts-took char_taken char_text s n (char_of s n v e).within_text takes-n nonzero
      ∙ ap (λ b. b ++ texts char_taken char_text 0 (drop n s)) (stands s n v e)

-- ---- all of them
-- their text keeps to the bound
pub chars-bound : (s : List ℕ) → Bound s (chars_end s) (chars_text s)
unfolding chars_end chars_text
chars-bound s = repeated char_taken char_text char-le char-bound s

-- they end within the text
pub chars-le : (s : List ℕ) → chars_end s ≤ length s
unfolding chars_end
chars-le s = omega (arith, many-le char_taken s 0 0)

-- so their text is at most two bytes longer than what is read
chars-text-le : (s : List ℕ) → length (chars_text s) ≤ length s + 2
chars-text-le s = omega (arith, bound-two (chars-bound s), chars-le s)

-- ---- the loop of `emit_nmchars`
-- i bytes are read and n bytes of text are emitted; v is what the store was at the start, w what it is
abbrev pub Chars : List ℕ → Store ℕ → Store ℕ → ℕ → ℕ → Type 0
Chars s v w i n = Writing char_taken char_text s v w i n

-- what the loop leaves: the bytes taken, the length of the text, and the text in the store
abbrev pub Emitted : List ℕ → List ℕ → ℕ → List ℕ → ℕ → ℕ → Type 0
Emitted s st₀ fill st i n = ((i ≡ chars_end s) × (n ≡ length (chars_text s))) × (st ≡ sets st₀ fill (chars_text s))

-- the loop's end says so
emitted : (s : List ℕ) (v w : Store ℕ) (i n : ℕ) → Wrote char_taken char_text s v w i n → Emitted s v.bytes v.fill w.bytes i n
unfolding chars_end chars_text
emitted s v w i n e = ((e.0, e.1), e.2)

-- a character that is read takes a byte or more
pub chars-some : (x : Option (Taken ℕ)) (t : List ℕ) → x ≡ nmchar_of t → (k v : ℕ) → x ≡ Some (record { taken = k; value = v }) → 1 ≤ k
chars-some x t ex k v h = (char_of t k v (sym ex ∙ h)).some

module _ (s : List ℕ) (v w : Store ℕ) (i n : ℕ) (c : Chars s v w i n) where
  -- no more text is emitted than the text has bytes, and two
  pub chars-small : n ≤ length s + 2
  unfolding chars_text
  chars-small = writing-small _ _ _ _ _ _ _ c (chars-text-le s)

  -- a turn that reads a character y for k bytes
  pub chars-more : (x : Option (Taken ℕ)) → x ≡ nmchar_of (take (length s - i) (drop i s)) → (k y : ℕ) → x ≡ Some (record { taken = k; value = y }) → (z : Store ℕ)
      → z ≡ emits w (utf8 y) → (m : ℕ) → m ≡ length (utf8 y) → Chars s v z (i + k) (n + m)
  unfolding taken_of
  chars-more x ex k y h z ez m em =
      let e : nmchar_of (drop i s) ≡ Some (record { taken = k; value = y }) = ap nmchar_of (sym (rest s i)) ∙ sym ex ∙ h in
      let r = char_of (drop i s) k y e in
      let t = stands (drop i s) k y e in
      writing_more _ _ _ _ _ _ _ c k m z (takes (drop i s) _ e) r.within_text (λ q. omega (arith, r.some))
      (em ∙ ap length (sym t)) (ez ∙ ap (emits _) (sym t))

  -- the return where no character is left: what was taken and written is all of it
  pub chars-stop : (x : Option (Taken ℕ)) → x ≡ nmchar_of (take (length s - i) (drop i s)) → x ≡ None → Emitted s v.bytes v.fill w.bytes i n
  unfolding taken_of
  chars-stop x ex h =
      let e : nmchar_of (drop i s) ≡ None = ap nmchar_of (sym (rest s i)) ∙ sym ex ∙ h in
      emitted s v w i n (writing-stop _ _ _ _ _ _ _ c (takes (drop i s) _ e))
