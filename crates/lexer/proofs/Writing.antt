-- A loop that reads with u and emits what each reading stands for, b, for every reader: what is left to do at i is what was to
-- be done.
use mathlib.Core.Path.{◌≡◌, refl, ap, sym, ◌∙◌}
use mathlib.Core.List.{List, []}
use Prim.Native.Nat.{ℕ, ◌+◌, ◌≤◌}
use native.Mathlib.Nat.{add-zero}
use native.Mathlib.Omega.{arith}
use lib.ListN.{length, drop, length-drop, length-append}
use lib.Seq.{sets}
use Rattle.combinators.specs.Repeat.{many, texts}
use Rattle.combinators.specs.Store.{Store, emits}
use Rattle.combinators.proofs.Repeats.{many_more, many-stop, texts-more, texts-stop}
use Rattle.combinators.proofs.Emitted.{onto, emits_none, emits-bytes}

-- i bytes are read and n bytes of text are emitted; v is what the store was at the start, w what it is
pub record Writing (u : List ℕ → ℕ) (b : List ℕ → List ℕ) (s : List ℕ) (v w : Store ℕ) (i n : ℕ) : Type 0 where
  pub end : many u 0 0 s ≡ many u i 0 (drop i s)
  pub text : n + length (texts u b 0 (drop i s)) ≡ length (texts u b 0 s)
  pub stored : emits w (texts u b 0 (drop i s)) ≡ emits v (texts u b 0 s)
  pub within_text : i ≤ length s

-- what the loop leaves: the bytes read, the length of their text, and the text in the store
abbrev pub Wrote : (List ℕ → ℕ) → (List ℕ → List ℕ) → List ℕ → Store ℕ → Store ℕ → ℕ → ℕ → Type 0
Wrote u b s v w i n = (i ≡ many u 0 0 s) × (n ≡ length (texts u b 0 s)) × (w.bytes ≡ sets v.bytes v.fill (texts u b 0 s))

-- before the first byte nothing is written, and all of the text is left
pub writing-begin : (u : List ℕ → ℕ) (b : List ℕ → List ℕ) (s : List ℕ) (v : Store ℕ) → Writing u b s v v 0 0
writing-begin u b s v = record { end = refl; text = omega arith; stored = refl; within_text = omega arith }

module _ (u : List ℕ → ℕ) (b : List ℕ → List ℕ) (s : List ℕ) (v w : Store ℕ) (i n : ℕ) (c : Writing u b s v w i n) where
  -- a turn that reads k bytes and emits the m bytes that they stand for
  pub writing_more : (k m : ℕ) (x : Store ℕ) → u (drop i s) ≡ k → k ≤ length (drop i s) → ¬ (k ≡ 0) → m ≡ length (b (drop i s))
      → x ≡ emits w (b (drop i s)) → Writing u b s v x (i + k) (n + m)
  writing_more k m x eu le d em ex =
      let e = texts-more u b s i k le eu d in
      let a = length-append (b (drop i s)) (texts u b 0 (drop (i + k) s)) in
      let l = length-drop i s in
      let h = c.within_text in
      record {
        end = c.end ∙ many_more u s i k le eu d;
        text = omega (arith, em, a) ∙ ap (λ (t : List ℕ). n + length t) (sym e) ∙ c.text;
        stored = onto _ _ _ _ ex ∙ sym (ap (emits _) e) ∙ c.stored;
        within_text = omega arith;
      }

  -- nothing is left to read or to emit
  done : many u i 0 (drop i s) ≡ i → texts u b 0 (drop i s) ≡ [] → Wrote u b s v w i n
  done p q = (
    sym (c.end ∙ p),
    sym (add-zero n) ∙ ap (λ (t : List ℕ). n + length t) (sym q) ∙ c.text,
    ap (λ (o : Store ℕ). o.bytes) (sym (ap (emits _) q ∙ emits_none _) ∙ c.stored) ∙ emits-bytes (texts u b 0 s) v.bytes v.fill,
  )

  -- where the reader takes none, what was is all of it
  pub writing-stop : u (drop i s) ≡ 0 → Wrote u b s v w i n
  writing-stop e = done (many-stop u (drop i s) i e) (texts-stop u b (drop i s) e)

  -- the same behind a turn that stands for nothing
  pub writing-none : (k : ℕ) (x : Store ℕ) → k ≡ u (drop i s) → k ≡ 0 → b (drop i s) ≡ []
      → x ≡ emits w (b (drop i s)) → Wrote u b s v x i n
  writing-none k x ek h eb ex =
      let e = writing-stop (sym ek ∙ h) in
      let p : x.bytes ≡ w.bytes = ap (λ (o : Store ℕ). o.bytes) (ex ∙ ap (emits _) eb ∙ emits_none _) in
      (e.0, e.1, p ∙ e.2)

  -- the bytes emitted so far are no more than those of the whole text
  pub writing-small : length (texts u b 0 s) ≤ length s + 2 → n ≤ length s + 2
  writing-small h = omega (arith, c.text)
