-- What the answer of a reader of names says of what was read.
use Rattle.std.proofs.lemmas.Option.{same_Some, none-some}
use Rattle.std.proofs.Common.{Some, None, ap, sym}
use mathlib.Core.Path.{◌≡◌, refl}
use mathlib.Core.List.{List}
use Prim.Native.Nat.{ℕ}
use lib.ListN.{length}
use Rattle.combinators.specs.Parsed.{Parsed, ok, err}
use Rattle.lexer.specs.Name.{name_answer}

-- the name, the bytes that it takes and how long it is
pub record NameRead (p : Parsed (List ℕ)) (n m : ℕ) : Type 0 where
  pub name : List ℕ
  pub reads : p ≡ ok n name
  pub long : m ≡ length name

-- where the answer is a text, a name was read
pub named-from : (p : Parsed (List ℕ)) (n m : ℕ) → Some (record { taken = n; length = m }) ≡ name_answer p → NameRead p n m
unfolding name_answer
named-from (ok i b) n m e =
    let q : record { taken = n; length = m } ≡ record { taken = i; length = length b } = same_Some _ _ e in
    record { name = b; reads = ap (λ w. ok w.taken b) (sym q); long = ap (λ w. w.length) q }
named-from err n m e = absurd (none-some _ (sym e))

-- where the answer is none, none was
pub unnamed-from : (p : Parsed (List ℕ)) → None ≡ name_answer p → p ≡ err
unfolding name_answer
unnamed-from (ok i b) e = absurd (none-some _ e)
unnamed-from err e = refl
