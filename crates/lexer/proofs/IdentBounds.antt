-- What a name takes, and how long its text is.
use Rattle.std.proofs.lemmas.Option.{same_Some, none-some}
use Rattle.std.proofs.Common.{Option, Some, None}
use mathlib.Core.Path.{◌≡◌, refl, ap, sym, ◌∙◌}
use mathlib.Core.List.{List}
use Prim.Native.Nat.{ℕ, ◌+◌, ◌≤◌}
use native.Mathlib.Omega.{arith}
use lib.ListN.{length, take, drop}
use Rattle.combinators.specs.Parsed.{Parsed, ok, err}
use Rattle.combinators.proofs.Rules.{pick-holds, is_false}
use Rattle.combinators.specs.declared.taken.Taken.{Taken}
use Rattle.lexer.specs.Whitespace.{skip_whitespace}
use Rattle.lexer.specs.Name.{nmstart_of, chars_end, chars_text, name_from, dash, name_of, chars_of, ident_of, identstring_of, name_answer}
use Rattle.lexer.specs.declared.Written.{Written}
use Rattle.lexer.proofs.Comments.{skip-le}
use Rattle.lexer.proofs.Bounds.{Keeps, behind-keeps, Fits}
use Rattle.lexer.proofs.Characters.{char_of}
use Rattle.lexer.proofs.CharacterRuns.{chars-bound, chars-le}
use Rattle.lexer.proofs.Idents.{start-same, name-some, name-none}

-- what an answer keeps to
abbrev pub NameKeeps : List ℕ → Parsed (List ℕ) → Type 0
NameKeeps s p = Keeps (λ b. b) s p

-- one character of a name or more keep to the bounds
chars-fit : (t : List ℕ) → 1 ≤ chars_end t → Fits t (chars_end t) (chars_text t)
chars-fit t h = record { some = h; within_text = chars-le t; bound = chars-bound t }

-- by what starts the name
name-at : (t : List ℕ) (x : Option (Taken ℕ)) → nmstart_of (drop (dash t) t) ≡ x → name_of t ≡ name_from (take (dash t) t) (drop (dash t) t) x
unfolding name_of
name-at t x e = ap (name_from (take (dash t) t) (drop (dash t) t)) e

-- a name that starts with v takes what v takes, or more
name-from : (b u : List ℕ) (i v n : ℕ) (c : List ℕ) → nmstart_of u ≡ Some (record { taken = i; value = v }) → name_from b u (Some (record { taken = i; value = v })) ≡ ok n c → 1 ≤ n
unfolding name_from
name-from b u i v n c e h =
    let q : length b + (i + chars_end (drop i u)) ≡ n = cc in
    omega (arith, q, (char_of u i v (start-same u i v e)).some)

-- a name at the start of a text
pub name-keeps : (t : List ℕ) → NameKeeps t (name_of t)
name-keeps t = go (nmstart_of (drop (dash t) t)) refl
  where
    go : (x : Option (Taken ℕ)) → nmstart_of (drop (dash t) t) ≡ x → NameKeeps t (name_of t)
    go (Some c) h =
        let e = name-some t c.taken c.value h in
        rw e (chars-fit t (name-from _ _ c.taken c.value _ _ h (sym (name-at t _ h) ∙ e)))
    go None h = rw (name-none t h) tt

-- one character of a name or more
pub chars-keeps : (t : List ℕ) → NameKeeps t (chars_of t)
unfolding chars_of
chars-keeps t =
    pick-holds (NameKeeps t) _ _ _ (λ _. tt) (λ e. chars-fit t (let d = is_false (chars_end t) 0 e in omega arith))

-- a name behind white space
pub ident-keeps : (s : List ℕ) → NameKeeps s (ident_of s)
unfolding ident_of
ident-keeps s = behind-keeps (λ b. b) s (skip_whitespace s) _ (skip-le s) (name-keeps (drop (skip_whitespace s) s))

-- one character of a name or more behind white space
pub identstring-keeps : (s : List ℕ) → NameKeeps s (identstring_of s)
unfolding identstring_of
identstring-keeps s = behind-keeps (λ b. b) s (skip_whitespace s) _ (skip-le s) (chars-keeps (drop (skip_whitespace s) s))

-- where a name was read
pub ident-fits : (s : List ℕ) (n : ℕ) (b : List ℕ) → ident_of s ≡ ok n b → Fits s n b
ident-fits s n b e = rw e at (ident-keeps s)

-- where characters of a name were read
pub identstring-fits : (s : List ℕ) (n : ℕ) (b : List ℕ) → identstring_of s ≡ ok n b → Fits s n b
identstring-fits s n b e = rw e at (identstring-keeps s)

-- what an answer says of the bytes taken
pub answer_le : (p : Parsed (List ℕ)) (t : List ℕ) → NameKeeps t p → (x : Option Written) → x ≡ name_answer p → (n m : ℕ) → x ≡ Some (record { taken = n; length = m }) → n ≤ length t
unfolding name_answer
answer_le (ok i b) t f x ex n m h = rw (ap (λ w. w.taken) (same_Some _ _ (sym h ∙ ex))) f.within_text
answer_le err t f x ex n m h = absurd (none-some _ (sym ex ∙ h))
