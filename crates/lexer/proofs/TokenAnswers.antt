-- What the readers of tokens answer, and what they leave in the store: by the cases of what was read.
use Rattle.std.specs.Option.{option_or, IsSomeAnd}
use Rattle.std.proofs.lemmas.Option.{same_Some, none-some}
use Rattle.std.proofs.Common.{Some, None, Option, MatchOption, ap}
use mathlib.Core.Path.{◌≡◌, refl, sym}
use mathlib.Core.List.{List}
use Prim.Native.Nat.{ℕ, ◌+◌}
use lib.ListN.{length}
use lib.Seq.{sets}
use Rattle.combinators.specs.Parsed.{Parsed, ok, err, behind, or_else}
use Rattle.lexer.specs.Name.{name_answer, name_text}
use Rattle.lexer.specs.Token.{Token, delim, coded, text_of, token_answer, token_text, or_delim}
use Rattle.combinators.specs.declared.taken.Taken.{Taken}
use Rattle.lexer.specs.declared.tokens.Token as declared
use Rattle.lexer.specs.declared.tokens.Token.TheVariants as code

-- the answer and the store that a reading leaves
abbrev pub Lexes : Parsed Token → List ℕ → ℕ → Option (Taken declared.Token) → List ℕ → Type 0
Lexes p st fill r z = (r ≡ token_answer p) × (z ≡ sets st fill (token_text p))

-- of a token: the bytes taken, the token with the lengths of its texts, and the texts in the store
pub lexes-ok : (p : Parsed Token) (n : ℕ) (k : Token) → p ≡ ok n k → (r : Option (Taken declared.Token)) → r ≡ Some (record { taken = n; value = coded k }) → (st z : List ℕ) (fill : ℕ)
    → z ≡ sets st fill (text_of k) → Lexes p st fill r z
unfolding token_answer token_text
lexes-ok p n k e r er st z fill ez = rw e (er, ez)

-- where there is no token, the answer says so and the store is as it was
pub lexes-err : (p : Parsed Token) → p ≡ err → (st z : List ℕ) (fill : ℕ) → z ≡ st → Lexes p st fill None z
unfolding token_answer token_text
lexes-err p e st z fill ez = rw e (refl, ez)

-- what is read by an equal definition
pub lexes-as : (p q : Parsed Token) → p ≡ q → (st z : List ℕ) (fill : ℕ) (r : Option (Taken declared.Token)) → Lexes q st fill r z → Lexes p st fill r z
lexes-as p q e st z fill r w = rw e w

-- where nothing was read, nothing is stored
pub lexes-none : (p : Parsed Token) (st z : List ℕ) (fill : ℕ) → Lexes p st fill None z → (p ≡ err) × (z ≡ st)
unfolding token_answer token_text
lexes-none (ok n x) st z fill w = absurd (none-some _ w.0)
lexes-none err st z fill w = (refl, w.1)

-- ---- behind i bytes
-- a token behind i bytes takes these too, and has the same text in the store
pub lexes-behind : (p : Parsed Token) (i : ℕ) (st z : List ℕ) (fill m : ℕ) (k : declared.Token) → Lexes p st fill (Some (record { taken = m; value = k })) z
    → Lexes (behind i p) st fill (Some (record { taken = i + m; value = k })) z
unfolding behind token_answer token_text
lexes-behind (ok n x) i st z fill m k w =
    let q : record { taken = m; value = k } ≡ record { taken = n; value = coded x } = same_Some _ _ w.0 in
    (ap (λ r. Some (record { taken = i + r.taken; value = r.value })) q, w.1)
lexes-behind err i st z fill m k w = absurd (none-some _ (sym w.0))

-- where there is no token behind i bytes, there is none at all
pub lexes-behind-none : (p : Parsed Token) (i : ℕ) (st z : List ℕ) (fill : ℕ) → Lexes p st fill None z → Lexes (behind i p) st fill None z
unfolding behind token_answer token_text
lexes-behind-none (ok n x) i st z fill w = absurd (none-some _ w.0)
lexes-behind-none err i st z fill w = w

-- where what was read is told behind i bytes, as `map` does, and none where none was, it is the token behind them
pub lexes-moved : (p : Parsed Token) (i : ℕ) (st z : List ℕ) (fill : ℕ) {P : Taken declared.Token → Taken declared.Token → Type 0} (x y : Option (Taken declared.Token)) → Lexes p st fill x z
    → MatchOption x (y ≡ None) (λ v. IsSomeAnd y (P v)) → ((v b : Taken declared.Token) → P v b → b ≡ record { taken = i + v.taken; value = v.value }) → Lexes (behind i p) st fill y z
lexes-moved p i st z fill (Some v) (Some b) w m e = rw (e v b m) (lexes-behind p i st z fill v.taken v.value w)
lexes-moved p i st z fill (Some v) None w m e = absurd m
lexes-moved p i st z fill None y w m e = rw m (lexes-behind-none p i st z fill w)

-- ---- of two alternatives
-- where the first alternative reads, its token is the answer of both
pub lexes-first : (p q : Parsed Token) (st z : List ℕ) (fill m : ℕ) (k : declared.Token) → Lexes p st fill (Some (record { taken = m; value = k })) z
    → Lexes (or_else p q) st fill (Some (record { taken = m; value = k })) z
unfolding or_else token_answer token_text
lexes-first (ok n x) q st z fill m k w = w
lexes-first err q st z fill m k w = absurd (none-some _ (sym w.0))

-- where the first alternative leaves no token, what the second leaves is left
pub lexes-second : (p q : Parsed Token) (st z : List ℕ) (fill : ℕ) → Lexes p st fill None z → (y : Option (Taken declared.Token)) (v : List ℕ)
    → Lexes q z fill y v → Lexes (or_else p q) st fill y v
unfolding or_else
lexes-second p q st z fill w y v x = let e = lexes-none p st z fill w in rw (e.0, ← e.1) x

-- ---- a delimiter
-- a delimiter takes one byte and leaves the store as it was
pub delim-lexes : (c : ℕ) (st : List ℕ) (fill : ℕ) → Lexes (ok 1 (delim c)) st fill (Some (record { taken = 1; value = code.Delim c })) st
unfolding token_answer token_text coded text_of
delim-lexes c st fill = (refl, refl)

-- `or_delim` keeps a token, and makes a delimiter where there is none
pub delim-by : (a : Option (Taken declared.Token)) (c : ℕ) → option_or a (Some (record { taken = 1; value = code.Delim c })) ≡ or_delim a c
unfolding or_delim
delim-by (Some r) c = refl
delim-by None c = refl

-- what was read, or else the delimiter
pub read-or-delim : (p : Parsed Token) (c : ℕ) (st z : List ℕ) (fill : ℕ) (a r : Option (Taken declared.Token)) → Lexes p st fill a z → r ≡ or_delim a c
    → Lexes (or_else p (ok 1 (delim c))) st fill r z
unfolding or_delim
read-or-delim p c st z fill (Some x) r w e = rw e (lexes-first p _ st z fill x.taken x.value w)
read-or-delim p c st z fill None r w e = rw e (lexes-second p _ st z fill w _ _ (delim-lexes c z fill))

-- ---- what a name's answer says of what was read
-- an answer with a name: a name of so many bytes was read, and the length is that of its text
pub name-ok : (p : Parsed (List ℕ)) (n m : ℕ) → Some (record { taken = n; length = m }) ≡ name_answer p → (p ≡ ok n (name_text p)) × (m ≡ length (name_text p))
unfolding name_answer name_text
name-ok (ok i b) n m e =
    let q : record { taken = n; length = m } ≡ record { taken = i; length = length b } = same_Some _ _ e in
    (ap (λ w. ok w.taken b) (sym q), ap (λ w. w.length) q)
name-ok err n m e = absurd (none-some _ (sym e))
