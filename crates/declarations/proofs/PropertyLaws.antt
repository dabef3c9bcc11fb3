-- A property's name and what stands between it and its value.
use mathlib.Core.Path.{◌≡◌, refl, sym, ap, ◌∙◌}
use mathlib.Core.Bool.{Bool, true, false}
use mathlib.Core.List.{List}
use Prim.Native.Nat.{ℕ, ◌+◌, ◌≤◌, ◌<◌}
use native.Mathlib.Omega.{arith}
use lib.ListN.{length, get_or, drop}
use Prim.Native.Char.{code as ascii}
use Rattle.combinators.specs.Choice.{pick, is}
use Rattle.combinators.specs.Parsed.{Parsed, ok, err, on_parsed}
use Rattle.combinators.proofs.Lists.{byte-there}
use Rattle.lexer.specs.Name.{ident_of, name_answer, name_text}
use Rattle.lexer.specs.Whitespace.{skip_whitespace}
use Rattle.std.specs.Prelude.{Option, Some, None, Ok, Err}
use Rattle.lexer.specs.declared.Written.{Written}
use Rattle.lexer.proofs.Bounds.{Fits, bound-two, bound-short}
use Rattle.lexer.proofs.Comments.{skip-from-le}
use Rattle.lexer.proofs.IdentBounds.{ident-fits}
use Rattle.lexer.proofs.NameAnswers.{NameRead, named-from, unnamed-from}
use Rattle.declarations.specs.Rules.{colon_behind, property_of}
use Rattle.declarations.specs.Leaving.{property_answer}

-- ---- the meaning, where there is a name
module _ (s : List ℕ) (n : ℕ) (name : List ℕ) (e : ident_of s ≡ ok n name) where
  -- with ':' behind the name, the property reads, and its value starts behind the white space there
  colon-there : (c : ℕ) → c ≡ n + skip_whitespace (drop n s) → is (get_or s c 0) (ascii ":") ≡ true → property_of s ≡ ok (c + 1 + skip_whitespace (drop (c + 1) s)) name
  unfolding property_of colon_behind on_parsed pick
  colon-there c ec t = rw (e, ← ec, t)

  -- a name without a colon behind it is no property
  colon-missing : (c : ℕ) → c ≡ n + skip_whitespace (drop n s) → is (get_or s c 0) (ascii ":") ≡ false → property_of s ≡ err
  unfolding property_of colon_behind on_parsed pick
  colon-missing c ec t = rw (e, ← ec, t)

-- where no name reads, there is no property
no_name : (s : List ℕ) → ident_of s ≡ err → property_of s ≡ err
unfolding property_of on_parsed
no_name s e = rw e

-- ---- the answer
-- a property that is read is answered with the place of its value and the length of its name
answer-hit : (s : List ℕ) (v : ℕ) (name : List ℕ) → property_of s ≡ ok v name → Ok (record { value = v; name = length name }) ≡ property_answer s
unfolding property_answer on_parsed
answer-hit s v name e = rw e

-- where no property reads, the answer has the length of the name that was written
answer-miss : (s : List ℕ) → property_of s ≡ err → (m : ℕ) → m ≡ length (name_text (ident_of s)) → Err (record { name = m }) ≡ property_answer s
unfolding property_answer on_parsed
answer-miss s e m em = rw (e, em)

-- ---- the returns of `parse_property`
module _ (s : List ℕ) {x : Option Written} (ex : x ≡ name_answer (ident_of s)) where
  -- the return where no name reads: nothing was written
  pub property-none : x ≡ None → Err (record { name = 0 }) ≡ property_answer s
  unfolding name_text
  property-none h = let e = unnamed-from (ident_of s) (sym h ∙ ex) in answer-miss s (no_name s e) 0 (rw e)

  module _ {n m : ℕ} (h : x ≡ Some (record { taken = n; length = m })) where
    -- the answer has the bytes that the name takes and the length of its text
    found : NameRead (ident_of s) n m
    found = named-from (ident_of s) n m (sym h ∙ ex)

    -- the name that was read is within the bounds of the text
    fits : Fits s n found.name
    fits = ident-fits s n found.name found.reads

    -- the name is within the text
    pub name-le : n ≤ length s
    name-le = fits.within_text

    -- then white space up to c
    module _ {c : ℕ} (ec : c ≡ n + skip_whitespace (drop n s)) where
      -- and a test for ':'
      module _ {t : Bool} (et : t ≡ is (get_or s c 0) (ascii ":")) where
        -- the return where no ':' follows the name
        pub property-miss : t ≡ false → Err (record { name = m }) ≡ property_answer s
        unfolding name_text
        property-miss f =
            answer-miss s (colon-missing s n found.name found.reads c ec (sym et ∙ f)) m
            (found.long ∙ ap (λ (p : Parsed (List ℕ)). length (name_text p)) (sym found.reads))

        -- a ':' that is found stands before the end of the text
        pub colon-before : t ≡ true → c < length s
        colon-before f = byte-there s c (ascii ":") (omega arith) (sym et ∙ f)

        -- the return where ':' follows: the value starts behind it and the white space there
        pub property-hit : t ≡ true → {v : ℕ} → v ≡ c + 1 + skip_whitespace (drop (c + 1) s) → Ok (record { value = v; name = m }) ≡ property_answer s
        property-hit f {v} ev = rw (ev, found.long) (answer-hit s _ found.name (colon-there s n found.name found.reads c ec (sym et ∙ f)))

-- ---- what a property takes: its name, which is shorter, and ':' at least
pub record Headed (s : List ℕ) (v : ℕ) (name : List ℕ) : Type 0 where
  pub within : v ≤ length s
  pub named : name_text (ident_of s) ≡ name
  pub short : length name < v

-- where the name was read, by the test for ':'
module _ (s : List ℕ) (n : ℕ) (b : List ℕ) (e : ident_of s ≡ ok n b) where
  abbrev c : ℕ
  c = n + skip_whitespace (drop n s)

  -- by the test for ':', a property that reads stays within the text, and its name is shorter than what it takes
  headed-by : (t : Bool) → is (get_or s c 0) (ascii ":") ≡ t → (v : ℕ) (name : List ℕ) → property_of s ≡ ok v name → Headed s v name
  unfolding name_text
  headed-by true et v name ep =
      let f = ident-fits s n b e in
      let l = byte-there s c (ascii ":") (omega arith) et in
      let q : ◌≡◌ {A = Parsed (List ℕ)} (ok (c + 1 + skip_whitespace (drop (c + 1) s)) b) (ok v name) = sym (colon-there s n b e c refl et) ∙ ep in
      let ev : c + 1 + skip_whitespace (drop (c + 1) s) ≡ v = cc in
      let en : b ≡ name = cc in
      record {
        within = omega (arith, skip-from-le s (c + 1) (omega arith));
        named = ap name_text e ∙ en;
        short = omega (arith, bound-short f.bound (omega arith), ap length en);
      }
  headed-by false et v name ep = absurd (let q : ◌≡◌ {A = Parsed (List ℕ)} err (ok v name) = sym (colon-missing s n b e c refl et) ∙ ep in let z : ◌≡◌ {A = ℕ} 0 1 = cc in omega arith)

-- a property that reads stays within the text, and its name is shorter than what it takes
pub headed : (s : List ℕ) (v : ℕ) (name : List ℕ) → property_of s ≡ ok v name → Headed s v name
headed s v name ep = go (ident_of s) refl
  where
    go : (p : Parsed (List ℕ)) → ident_of s ≡ p → Headed s v name
    go (ok n b) e = headed-by s n b e _ refl v name ep
    go err e = absurd (let q : ◌≡◌ {A = Parsed (List ℕ)} err (ok v name) = sym (no_name s e) ∙ ep in let z : ◌≡◌ {A = ℕ} 0 1 = cc in omega arith)

-- a name, or none, is two bytes longer than the text at most
pub name-sized : (s : List ℕ) → length (name_text (ident_of s)) ≤ length s + 2
unfolding name_text
name-sized s = go (ident_of s) refl
  where
    go : (p : Parsed (List ℕ)) → ident_of s ≡ p → length (name_text p) ≤ length s + 2
    go (ok n b) e = let f = ident-fits s n b e in omega (arith, f.within_text, bound-two f.bound)
    go err e = omega arith
