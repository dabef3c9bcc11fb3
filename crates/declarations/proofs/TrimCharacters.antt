-- Of well-formed text, `trimmed_end` takes the characters of White_Space at the end: it is `str::trim_end`.
use Prim.Native.Nat.{ℕ, ◌+◌, ◌/◌, ◌≤◌}
use mathlib.Core.Path.{◌≡◌, refl, sym, ap, ap₂, ◌∙◌}
use mathlib.Core.Bool.{Bool, true, false}
use mathlib.Core.List.{List, [], ◌∷◌, ◌++◌}
use native.Mathlib.Omega.{arith}
use lib.ListN.{length, length-append}
use lib.Seq.{drop-append_seam}
use Rattle.combinators.specs.Choice.{pick, and, is}
use Rattle.combinators.specs.Repeat.{many}
use Rattle.combinators.proofs.Rules.{pick_true, pick-false, pick-holds, at_most, and_both, and-gives, and-gives-false, and-true, is-no, is-from}
use Rattle.combinators.proofs.Repeats.{many-took, many-stop, many-from}
use Rattle.characters.specs.Trim.{white_taken}
use Rattle.characters.specs.Utf8.{utf8, continuation, is_continuation, is_scalar, lead_of, scalar_of, encode, Scalars}
use Rattle.characters.specs.Utf8.Scalars.{none, more}
use Rattle.characters.specs.WhiteSpace.{is_white_space}
use Rattle.std.specs.Prelude.{None}
use Rattle.characters.proofs.Scalars.{utf8-some, continuation-range}
use Rattle.characters.proofs.RoundTrip.{read_back, continues}
use Rattle.characters.proofs.Reading.{at_none}
use Rattle.characters.proofs.Trimming.{white-value, white-none}
use Rattle.values.specs.Colour.{all_of}
use Rattle.declarations.specs.Attribute.{all_white, trimmed_end}

-- characters without those of White_Space at the end
unfoldable pub without_end : List ℕ → List ℕ
without_end [] = []
without_end (v ∷ vs) = pick (all_of is_white_space (v ∷ vs)) [] (v ∷ without_end vs)

-- ---- a text that begins with a character

-- where the reader takes none, not all is White_Space
not-all : (s : List ℕ) → 1 ≤ length s → white_taken s ≡ 0 → all_white s ≡ false
unfolding all_white
not-all s l e = rw (many-stop white_taken s 0 e) (is-no 0 (length s) (λ z. omega arith))

-- the empty text has nothing else
empty-white : all_white [] ≡ true
unfolding all_white many is
empty-white = refl

module _ (v : ℕ) (t : List ℕ) (h : is_scalar v ≡ true) where
  -- what the reader takes of it
  white-character : (w : Bool) → is_white_space v ≡ w → white_taken (utf8 v ++ t) ≡ pick w (length (utf8 v)) 0
  white-character w e = sym (white-value (utf8 v ++ t) _ (sym (read_back v t h)) (length (utf8 v)) v refl (is_white_space v) w refl e)

  -- where it takes the character, what follows decides
  behind-white : white_taken (utf8 v ++ t) ≡ length (utf8 v) → all_white (utf8 v ++ t) ≡ all_white t
  unfolding all_white
  behind-white e =
      let n = length (utf8 v) in
      let m : ℕ = many white_taken 0 0 t in
      let q = length-append (utf8 v) t in
      let p : many white_taken 0 0 (utf8 v ++ t) ≡ n + m
      = many-took white_taken (utf8 v ++ t) 0 n (omega arith) e (λ z. omega (arith, utf8-some v))
      ∙ ap₂ (λ i l. many white_taken i 0 l) (omega arith) (drop-append_seam (utf8 v) t) ∙ many-from n white_taken t 0 0 in
      ap₂ is p q ∙ is-from n m (length t)

  -- all of it is White_Space where the character is, and all that follows
  all_white_lem : all_white (utf8 v ++ t) ≡ and (is_white_space v) (all_white t)
  all_white_lem = go (is_white_space v) refl
    where
      go : (w : Bool) → is_white_space v ≡ w → all_white (utf8 v ++ t) ≡ and w (all_white t)
      go true e = and-gives true _ _ refl (behind-white (white-character true e ∙ sym (pick_true _ _ _ _ refl refl)))
      go false e = not-all (utf8 v ++ t) (omega (arith, length-append (utf8 v) t, utf8-some v)) (white-character false e ∙ sym (pick-false _ _ _ _ refl refl)) ∙ and-gives-false false _ refl

-- ---- bytes within a character

-- a continuation byte begins no character
no-character : (x : ℕ) (r : List ℕ) → is_continuation x ≡ true → None ≡ scalar_of (x ∷ r)
unfolding lead_of
no-character x r e =
    let c = continuation-range x e in
    at_none (x ∷ r) (λ z. omega arith) x refl (omega arith) (at_most _ _ _ x 0xc1 (omega arith) refl)

-- a continuation byte begins no White_Space
continuation-first : (x : ℕ) (r : List ℕ) → is_continuation x ≡ true → all_white (x ∷ r) ≡ false
continuation-first x r e = not-all (x ∷ r) (omega arith) (sym (white-none (x ∷ r) None (no-character x r e) refl))

-- so the end is behind it
pass : (cs t : List ℕ) → all_of is_continuation cs ≡ true → trimmed_end (cs ++ t) ≡ cs ++ trimmed_end t
unfolding trimmed_end all_of
pass [] t e = refl
pass (c ∷ cs) t e =
    let p = and-true (is_continuation c) (all_of is_continuation cs) e in
    sym (pick-false _ _ _ _ (continuation-first c (cs ++ t) p.0) (ap (λ l. c ∷ l) (sym (pass cs t p.1))))

-- a byte, and continuation bytes
data Formed : List ℕ → Type 0 where
  formed : {b : ℕ} {cs : List ℕ} → all_of is_continuation cs ≡ true → Formed (b ∷ cs)

-- such are the bytes of a character
utf8-formed : (v : ℕ) → Formed (utf8 v)
unfolding utf8 all_of
utf8-formed v =
    pick-holds Formed _ _ _ (λ _. formed refl)
    (λ _. pick-holds Formed _ _ _ (λ _. formed (one v))
    (λ _. pick-holds Formed _ _ _ (λ _. formed (two (v / 64) v)) (λ _. formed (and_both _ _ (continues (v / 4096)) (two (v / 64) v)))))
  where
    one : (a : ℕ) → all_of is_continuation (continuation a ∷ []) ≡ true
    one a = and_both _ _ (continues a) refl

    two : (a b : ℕ) → all_of is_continuation (continuation a ∷ continuation b ∷ []) ≡ true
    two a b = and_both _ _ (continues a) (one b)

-- the end of a text that begins with a character is before it or behind it
end-behind : (l t : List ℕ) → Formed l → trimmed_end (l ++ t) ≡ pick (all_white (l ++ t)) [] (l ++ trimmed_end t)
unfolding trimmed_end
end-behind [] t x' = elim x' [ ]
end-behind (b ∷ cs) t (formed e) = ap (λ r. pick (all_white (b ∷ cs ++ t)) [] (b ∷ r)) (pass cs t e)

-- ---- all characters

-- a text of White_Space is one of such characters
all-characters : (vs : List ℕ) → Scalars vs → all_white (encode vs) ≡ all_of is_white_space vs
unfolding encode all_of
all-characters [] none = empty-white
all-characters (v ∷ vs) (more h hs) = all_white_lem v (encode vs) h ∙ ap (and (is_white_space v)) (all-characters vs hs)

-- the bytes of characters, or of none
encode-pick : (w : Bool) (v : ℕ) (vs : List ℕ) → pick w [] (utf8 v ++ encode vs) ≡ encode (pick w [] (v ∷ vs))
unfolding encode pick
encode-pick true v vs = refl
encode-pick false v vs = refl

-- well-formed text without the White_Space at its end is the text of its characters without those at their end
pub trim_end : (vs : List ℕ) → Scalars vs → trimmed_end (encode vs) ≡ encode (without_end vs)
unfolding encode without_end trimmed_end
trim_end [] none = refl
trim_end (v ∷ vs) (more h hs) =
    end-behind (utf8 v) (encode vs) (utf8-formed v)
    ∙ ap₂ (λ w l. pick w [] (utf8 v ++ l)) (all-characters (v ∷ vs) (more h hs)) (trim_end vs hs)
    ∙ encode-pick (all_of is_white_space (v ∷ vs)) v (without_end vs)
