-- Names: what a name is, in one run of characters, and the returns of the readers of names.
use Rattle.std.proofs.lemmas.Option.{same_Some, none-some}
use Rattle.std.proofs.Common.{Option, Some, None}
use mathlib.Core.Path.{◌≡◌, refl, ap, sym, ◌∙◌}
use mathlib.Core.List.{List, [], ◌∷◌, ◌++◌}
use mathlib.Core.Bool.{Bool, true, false}
use Prim.Native.Nat.{ℕ, ◌+◌, ◌-◌, ◌≤◌}
use mir.Val.{bool_byte}
use native.Mathlib.Nat.{zero-add}
use native.Mathlib.Omega.{arith}
use borrow.Author.Tests.{ltb-true}
use Rattle.std.specs.Bool.{then_some}
use Rattle.std.proofs.lemmas.Bool.{ltb-false}
use lib.Dec.{ltb}
use lib.ListN.{length, get_or, take, drop}
use lib.Seq.{sets}
use Rattle.combinators.specs.Choice.{pick, or, and, is, within}
use Prim.Native.Char.{code as ascii}
use Rattle.combinators.specs.Parsed.{Parsed, ok, err, behind}
use Rattle.combinators.proofs.Rules.{pick_true, pick-false, or_left, is_true, is-yes-of, is-no-of}
use Rattle.combinators.proofs.Lists.{rest, inside, front-one, byte-there}
use Rattle.characters.specs.Utf8.{utf8}
use Rattle.combinators.specs.declared.taken.Taken.{Taken}
use Rattle.lexer.specs.Whitespace.{skip_whitespace}
use Rattle.lexer.specs.Name.{is_nmstart, is_nmchar, lower, ident_escape_of, nmstart_of, nmchar_of, chars_end, chars_text, name_from, dash, name_of, chars_of, name_answer, name_text}
use Rattle.lexer.specs.Number.{is_digit}
use Rattle.lexer.specs.declared.Written.{Written}
use Rattle.lexer.proofs.Bounds.{none_of}
use Rattle.lexer.proofs.Escapes.{char-yes, char-no}
use Rattle.lexer.proofs.CharacterRuns.{Emitted, chars-bound, chars-step, chars-text-step}

-- ---- what starts a name is a character of names too
-- a backslash neither starts a name nor continues one
slash-no : (is_nmstart (ascii "\\") ≡ false) × (is_nmchar (ascii "\\") ≡ false)
unfolding is_nmstart is_nmchar is_digit or and within is
slash-no = (refl, refl)

-- a '-' is one that is not folded
dash-yes : (is_nmchar (ascii "-") ≡ true) × (lower (ascii "-") ≡ ascii "-") × (utf8 (ascii "-") ≡ ascii "-" ∷ [])
unfolding is_nmstart is_nmchar is_digit lower utf8 or and within is pick
dash-yes = (refl, refl, refl)

-- a character of names that is no escape
pub char-plain : (s : List ℕ) → is_nmchar (get_or s 0 0) ≡ true → nmchar_of s ≡ Some (record { taken = 1; value = lower (get_or s 0 0) })
unfolding nmchar_of
char-plain s e = rw (← char-yes is_nmchar s _ refl _ refl e _ refl)

-- one that starts a name
pub start_plain : (s : List ℕ) → is_nmstart (get_or s 0 0) ≡ true → nmstart_of s ≡ nmchar_of s
unfolding nmstart_of is_nmchar
start_plain s e = rw (← char-yes is_nmstart s _ refl _ refl e _ refl) (sym (char-plain s (or_left _ _ e)))

-- at a backslash, what starts a name is any character of names
start-escape : (s : List ℕ) → get_or s 0 0 ≡ ascii "\\" → nmstart_of s ≡ nmchar_of s
unfolding nmstart_of nmchar_of
start-escape s e =
    rw (← char-no is_nmstart s _ refl _ refl (ap is_nmstart e ∙ slash-no.0), ← char-no is_nmchar s _ refl _ refl (ap is_nmchar e ∙ slash-no.1))

-- where the first byte can start no name and is no backslash, nothing starts a name
start_none : (s : List ℕ) → is_nmstart (get_or s 0 0) ≡ false → is (get_or s 0 0) (ascii "\\") ≡ false → nmstart_of s ≡ None
unfolding nmstart_of ident_escape_of pick
start_none s e d = rw (← char-no is_nmstart s _ refl _ refl e, d)

-- what starts a name reads as a character of a name does
pub start-same : (s : List ℕ) (n v : ℕ) → nmstart_of s ≡ Some (record { taken = n; value = v }) → nmchar_of s ≡ Some (record { taken = n; value = v })
start-same s n v e = go (is_nmstart (get_or s 0 0)) refl (is (get_or s 0 0) (ascii "\\")) refl
  where
    go : (a : Bool) → is_nmstart (get_or s 0 0) ≡ a → (b : Bool) → is (get_or s 0 0) (ascii "\\") ≡ b → nmchar_of s ≡ Some (record { taken = n; value = v })
    go true p b q = sym (start_plain s p) ∙ e
    go false p true q = sym (start-escape s (is_true _ _ q)) ∙ e
    go false p false q = absurd (let z = start_none s p q in let w : ◌≡◌ {A = ℕ} 0 1 = cc in omega arith)

-- ---- a name is one run of characters from its start, a '-' or not
-- with a text b in front, a name that starts behind it is b and its characters
from_start : (b u : List ℕ) (n v : ℕ) → nmstart_of u ≡ Some (record { taken = n; value = v }) → name_from b u (Some (record { taken = n; value = v })) ≡ ok (length b + chars_end u) (b ++ chars_text u)
unfolding name_from
from_start b u n v e =
    let c = start-same u n v e in
    rw (← chars-step u n v c, ← chars-text-step u n v c)

-- a '-' is a character of the name
dashed : (t : List ℕ) → get_or t 0 0 ≡ ascii "-" → nmchar_of t ≡ Some (record { taken = 1; value = ascii "-" })
dashed t e = char-plain t (ap is_nmchar e ∙ dash-yes.0) ∙ ap (λ x. Some (record { taken = 1; value = x })) (ap lower e ∙ dash-yes.1)

-- a '-' with the start of a name behind it: the name is the run of characters from the '-' on
with-dash : (t : List ℕ) → get_or t 0 0 ≡ ascii "-" → (n v : ℕ) → nmstart_of (drop 1 t) ≡ Some (record { taken = n; value = v })
    → name_from (take 1 t) (drop 1 t) (Some (record { taken = n; value = v })) ≡ ok (chars_end t) (chars_text t)
with-dash t e n v h =
    let c = dashed t e in
    let p : take 1 t ≡ ascii "-" ∷ [] = front-one t (inside t 0 0x2c e) ∙ ap (λ x. x ∷ []) e in
    let a = chars-step t 1 (ascii "-") c in
    let b = chars-text-step t 1 (ascii "-") c ∙ ap (λ x. x ++ chars_text (drop 1 t)) dash-yes.2 in
    from_start (take 1 t) (drop 1 t) n v h ∙ rw (p, a, b)

-- where a name starts, behind a '-' or not, it is the run of characters from the start of the text on
pub name-some : (t : List ℕ) (n v : ℕ) → nmstart_of (drop (dash t) t) ≡ Some (record { taken = n; value = v }) → name_of t ≡ ok (chars_end t) (chars_text t)
unfolding name_of dash pick
name-some t n v e = go (is (get_or t 0 0) (ascii "-")) refl e
  where
    go : (b : Bool) → is (get_or t 0 0) (ascii "-") ≡ b → nmstart_of (drop (pick b 1 0) t) ≡ Some (record { taken = n; value = v })
        → name_from (take (pick b 1 0) t) (drop (pick b 1 0) t) (nmstart_of (drop (pick b 1 0) t)) ≡ ok (chars_end t) (chars_text t)
    go true p h = ap (name_from (take 1 t) (drop 1 t)) h ∙ with-dash t (is_true _ _ p) n v h
    go false p h = ap (name_from [] t) h ∙ from_start [] t n v h ∙ rw (zero-add)

-- where no name starts behind the '-' or without it, there is no name
pub name-none : (t : List ℕ) → nmstart_of (drop (dash t) t) ≡ None → name_of t ≡ err
unfolding name_of name_from
name-none t e = ap (name_from (take (dash t) t) (drop (dash t) t)) e

-- ---- `dash_of`
module _ (t : List ℕ) (r : Bool) (er : r ≡ is (get_or t 0 0) (ascii "-")) (n : ℕ) (en : n ≡ bool_byte r) where
  -- a '-' counts as one byte
  pub dash-is : n ≡ dash t
  unfolding dash pick
  dash-is = en ∙ flag r ∙ ap (λ b. pick b 1 0) er
    where
      flag : (b : Bool) → bool_byte b ≡ pick b 1 0
      flag true = refl
      flag false = refl

  -- which is there
  pub dash-there : n ≤ length t
  dash-there = go r er en
    where
      go : (b : Bool) → b ≡ is (get_or t 0 0) (ascii "-") → n ≡ bool_byte b → n ≤ length t
      go true e k = omega (arith, k, byte-there t 0 (ascii "-") (omega arith) (sym e))
      go false e k = omega (arith, k)

-- ---- the returns of `parse_name` and `parse_chars`
-- the answer and the store that a reading leaves
abbrev pub Named : Parsed (List ℕ) → List ℕ → ℕ → Option Written → List ℕ → Type 0
Named p st fill r z = (r ≡ name_answer p) × (z ≡ sets st fill (name_text p))

-- of a name: the bytes taken, the length of its text, and the text in the store
named_ok : (p : Parsed (List ℕ)) (n : ℕ) (b : List ℕ) → p ≡ ok n b → (st z : List ℕ) (fill i m : ℕ) → i ≡ n → m ≡ length b → z ≡ sets st fill b
    → Named p st fill (Some (record { taken = i; length = m })) z
unfolding name_answer name_text
named_ok p n b e st z fill i m ei em ez = rw (e, ei, em) (refl, ez)

-- where there is no name, the answer says so and the store is as it was
named-err : (p : Parsed (List ℕ)) → p ≡ err → (st z : List ℕ) (fill : ℕ) → z ≡ st → Named p st fill None z
unfolding name_answer name_text
named-err p e st z fill ez = rw e (refl, ez)

module _ (t : List ℕ) (d : ℕ) (ed : d ≡ dash t) (x : Option (Taken ℕ)) (ex : x ≡ nmstart_of (take (length t - d) (drop d t))) where
  -- what the call on the rest of the text says of what stands behind the '-'
  started : nmstart_of (drop (dash t) t) ≡ x
  started = ap (λ k. nmstart_of (drop k t)) (sym ed) ∙ ap nmstart_of (sym (rest t d)) ∙ sym ex

  -- where `nmstart` reads, what `emit_nmchars` took and wrote is the name
  pub named : (n v : ℕ) → x ≡ Some (record { taken = n; value = v }) → (st z : List ℕ) (fill i m : ℕ) → Emitted t st fill z i m → Named (name_of t) st fill (Some (record { taken = i; length = m })) z
  named n v h st z fill i m w = named_ok _ _ _ (name-some t n v (started ∙ h)) st z fill i m w.0.0 w.0.1 w.1

  -- where `nmstart` does not read, there is no name and the store is as it was
  pub not_named : x ≡ None → (st : List ℕ) (fill : ℕ) → Named (name_of t) st fill None st
  not_named h st fill = named-err _ (name-none t (started ∙ h)) st st fill refl

module _ (t st z : List ℕ) (fill i m : ℕ) (w : Emitted t st fill z i m) where
  -- where one character or more was read, there is a name
  chars-named : ¬ (i ≡ 0) → Named (chars_of t) st fill (Some (record { taken = i; length = m })) z
  unfolding chars_of
  chars-named d = named_ok _ _ _ (sym (pick-false _ _ _ _ (is-no-of _ _ _ w.0.0 d) refl)) st z fill i m w.0.0 w.0.1 w.1

  -- where the run of characters takes no byte, nothing is read and nothing was written
  chars-not-named : i ≡ 0 → Named (chars_of t) st fill None z
  unfolding chars_of
  chars-not-named h =
      let e : chars_end t ≡ 0 = sym w.0.0 ∙ h in
      let b = none_of t (chars_text t) (rw e at (chars-bound t)) in
      named-err _ (sym (pick_true _ _ _ _ (is-yes-of _ _ _ w.0.0 h) refl)) st z fill (w.1 ∙ ap (sets st fill) b)

  -- the return, by whether it takes a byte
  pub chars-read : Named (chars_of t) st fill (then_some (ltb 0 i) (record { taken = i; length = m })) z
  chars-read = go (ltb 0 i) refl
    where
      go : (b : Bool) → ltb 0 i ≡ b → Named (chars_of t) st fill (then_some b (record { taken = i; length = m })) z
      go true e = chars-named (λ h. let l = ltb-true 0 i e in omega arith)
      go false e = chars-not-named (let l = ltb-false 0 i e in omega arith)

-- ---- the returns of `parse_ident` and `parse_identstring`: the same behind white space
-- a name behind k bytes takes these too, and has the same text in the store
behind-ok : (p : Parsed (List ℕ)) (k : ℕ) (st z : List ℕ) (fill n m : ℕ) → Named p st fill (Some (record { taken = n; length = m })) z → Named (behind k p) st fill (Some (record { taken = k + n; length = m })) z
unfolding name_answer name_text behind
behind-ok (ok i b) k st z fill n m w =
    let q : record { taken = n; length = m } ≡ record { taken = i; length = length b } = same_Some _ _ w.0 in
    (ap (λ x. Some (record { taken = k + x.taken; length = x.length })) q, w.1)
behind-ok err k st z fill n m w = absurd (none-some _ (sym w.0))

-- where there is no name behind k bytes, there is none at all
behind-err : (p : Parsed (List ℕ)) (k : ℕ) (st z : List ℕ) (fill : ℕ) → Named p st fill None z → Named (behind k p) st fill None z
unfolding name_answer name_text behind
behind-err (ok i b) k st z fill w = absurd (none-some _ w.0)
behind-err err k st z fill w = w

module _ (f : List ℕ → Parsed (List ℕ)) (s : List ℕ) (k : ℕ) (ek : k ≡ skip_whitespace s) (x : Option Written) (st z : List ℕ) (fill : ℕ)
    (w : Named (f (take (length s - k) (drop k s))) st fill x z) where
  -- what the reader f answers of the part that it was lent, it answers of the rest of the text
  lent-part : Named (f (drop k s)) st fill x z
  lent-part = rw (rest s k) at w

  -- a name that f reads behind the white space is answered with the white space among the bytes taken
  pub behind-text : (n m : ℕ) → x ≡ Some (record { taken = n; length = m }) → Named (behind (skip_whitespace s) (f (drop (skip_whitespace s) s))) st fill (Some (record { taken = k + n; length = m })) z
  behind-text n m h = rw (← ek) (behind-ok (f (drop k s)) k st z fill n m (rw h at lent-part))

  -- where f reads no name behind the white space, the answer is that there is none
  pub behind-none : x ≡ None → Named (behind (skip_whitespace s) (f (drop (skip_whitespace s) s))) st fill None z
  behind-none h = rw (← ek) (behind-err (f (drop k s)) k st z fill (rw h at lent-part))
