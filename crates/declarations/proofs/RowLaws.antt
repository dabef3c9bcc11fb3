-- Declarations written to rows, and their texts kept.
use mathlib.Core.Path.{◌≡◌, refl, sym, ap, ◌∙◌}
use mathlib.Core.List.{List}
use Prim.Native.Nat.{ℕ, ◌+◌, ◌-◌}
use native.Mathlib.Omega.{arith}
use lib.ListN.{length, drop, replicate, length-replicate, length-drop}
use lib.Seq.{sets, length-take-le}
use Rattle.combinators.specs.Store.{filled_part, wiped}
use Rattle.combinators.specs.Part.{part}
use Rattle.combinators.proofs.Wiped.{sets_over, wiped-apart, wiped-add}
use Rattle.values.specs.declared.properties.DeclNumbers.{DeclNumbers}
use Rattle.declarations.specs.DeclRow.{shift, kept_text, Keeping}

-- ---- `keep_text`: the text of a declaration moved down to the fill, and zeros behind it
module _ (d : DeclNumbers) (store : List ℕ) (f n t : ℕ) (k : Keeping d store f n t) where
  abbrev from : ℕ
  from = f + shift d n

  -- the part that is kept has all bytes of the declaration's text
  length-kept : length (part store from d.text) ≡ d.text
  unfolding part
  length-kept = length-take-le d.text (drop from store) (omega (arith, length-drop from store, k.inside, k.among))

  -- so the text is left, and zeros behind it
  pub kept-left : (m : ℕ) → m ≡ shift d n → (y z : List ℕ) → y ≡ sets store f (part store (f + m) d.text) → z ≡ wiped (f + d.text) (n + t - d.text) y
      → z ≡ sets (wiped f (n + t) store) f (kept_text d store f n)
  unfolding kept_text
  kept-left m em y z ey ez =
      let x = part store from d.text in
      let N = d.text in
      let M = n + t - N in
      let l = length-kept in
      let e : n + t ≡ N + M = omega (arith, k.among) in
      let zeros : wiped f N store ≡ sets store f (replicate N 0) = unfold filled_part in refl in
      let p : wiped (f + N) M (sets store f x) ≡ sets (wiped (f + N) M store) f x = wiped-apart store f (f + N) M x (omega arith) in
      let q : wiped f (n + t) store ≡ sets (wiped (f + N) M store) f (replicate N 0) =
      ap (λ j. wiped f j store) e ∙ wiped-add f N M store ∙ ap (wiped (f + N) M) zeros ∙ wiped-apart store f (f + N) M (replicate N 0) (omega (arith, length-replicate {A = ℕ} N 0))
      in
      let o : sets (sets (wiped (f + N) M store) f (replicate N 0)) f x ≡ sets (wiped (f + N) M store) f x =
      sets_over (wiped (f + N) M store) f (replicate N 0) x (omega (arith, length-replicate {A = ℕ} N 0))
      in
      ez ∙ ap (wiped (f + N) M) (ey ∙ ap (λ j. sets store f (part store (f + j) N)) em) ∙ p ∙ sym o ∙ ap (λ l. sets l f x) (sym q)
