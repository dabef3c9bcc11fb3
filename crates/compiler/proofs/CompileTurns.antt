-- Returns of `compile_texts`: the sheets are read, written and judged, whatever the buffers held.
use mathlib.Core.Path.{◌≡◌, refl, ap, ap₂, sym, ◌∙◌}
use mathlib.Core.List.{List, [], ◌∷◌, ◌++◌}
use mathlib.Core.Logic.{⊎_elim}
use Prim.Native.Nat.{ℕ, suc, ◌+◌, ◌≤◌, ◌<◌}
use native.Mathlib.Omega.{arith}
use borrow.Author.Tests.{le-leb, lt-leb}
use lib.ListN.{length, take, drop, set, replicate, length-append, length-set, length-drop, take-append-drop}
use lib.Seq.{sets, length-sets, length-take-le, set-append_left}
use Rattle.combinators.specs.Store.{cleared}
use Rattle.combinators.proofs.Cleared.{length-cleared}
use Rattle.combinators.proofs.Rules.{pick_true, pick-false, lt-or-ge}
use Rattle.sheets.proofs.SheetLaws.{stored}
use Rattle.origins.specs.Checks.{Lent}
use Rattle.origins.specs.Reading.{Sheets, panicked, sheets_of, sheets_rows, sheets_texts, sheets_rules, sheets_answer}
use Rattle.origins.specs.Reading.{SheetsRules}
use Rattle.std.specs.Prelude.{Result, Ok, Err}
use Rattle.origins.specs.declared.reading.SheetPanic.{SheetPanic}
use Rattle.origins.proofs.SheetsKnown.{zeros_of, zeros-kept, Came, came, panic-known, rows_held, texts_held, texts-length, texts-lie}
use Rattle.compiled.specs.Sheet.{encode}
use Rattle.compiler.specs.Selectors.{selectors_of}
use Rattle.compiler.specs.CompileAnswer.{refusal_of, room_of, numbers_of, CompileLeft, zeroed, answered, answered_within, compiled_left}
use Rattle.compiler.specs.Written.{selectors_from, Lying, fill_of, written_in}
use Rattle.compiler.specs.declared.answers.CompileNumbers.{CompileNumbers}
use Rattle.compiler.specs.declared.compile.Compiled.{Compiled}
use Rattle.compiler.specs.declared.compile.CompileError.{CompileError}
use Rattle.compiler.specs.declared.compile.CompileError.TheVariants.{Panic, NoRoom}
use Rattle.compiler.proofs.SheetsLying.{selectors-are, lying}
use Rattle.compiler.proofs.WritingLaws.{room_within}

-- ---- bytes within the room
-- the fill tells that they fit
fill-fits : (room bytes : ℕ) (b : List ℕ) → bytes ≡ fill_of room b → bytes ≤ room → (length b ≤ room) × (bytes ≡ length b)
unfolding fill_of
fill-fits room bytes b e h =
    ⊎_elim
    (λ (k : room < length b). absurd (omega (arith, h, e ∙ sym (pick-false _ _ _ _ (lt-leb (length b) room k) refl))))
    (λ (k : length b ≤ room). (k, e ∙ sym (pick_true _ _ _ _ (le-leb (length b) room k) refl)))
    (lt-or-ge room (length b))

-- or that they do not
fill-over : (room bytes : ℕ) (b : List ℕ) → bytes ≡ fill_of room b → room < bytes → room < length b
unfolding fill_of
fill-over room bytes b e h =
    ⊎_elim (λ (k : room < length b). k)
    (λ (k : length b ≤ room). absurd (omega (arith, h, k, e ∙ sym (pick_true _ _ _ _ (le-leb (length b) room k) refl))))
    (lt-or-ge room (length b))

-- what is stored in the first part of a list
sets_first : (vs p q : List ℕ) (i : ℕ) → i + length vs ≤ length p → sets (p ++ q) i vs ≡ sets p i vs ++ q
sets_first [] p q i h = refl
sets_first (v ∷ vs) p q i h =
    ap (λ (r : List ℕ). sets r (suc i) vs) (set-append_left p q i v (omega arith)) ∙ sets_first vs (set p i v) q (suc i) (simp length-set (omega arith))

-- bytes that fit lie at the start of the buffer
written-whole : (room : ℕ) (b l : List ℕ) → room ≤ length l → length b ≤ room → written_in room b l ≡ sets l 0 b
unfolding written_in
written-whole room b l h k =
    sym (sets_first b (take room l) (drop room l) 0 (omega (arith, k, length-take-le room l h))) ∙ ap (λ (r : List ℕ). sets r 0 b) (take-append-drop room l)

-- whatever is written within the room, the buffer is as long as it was
written-length : (room : ℕ) (b l : List ℕ) → room ≤ length l → length (written_in room b l) ≡ length l
unfolding written_in
written-length room b l h =
    omega (arith, h, length-append (sets (take room l) 0 b) (drop room l), length-sets (take room l) 0 b, length-take-le room l h, length-drop room l)

-- ---- what is left, by its parts
-- what is left is the same where the answer and each of the five buffers are
left_by : {a a' : CompileNumbers} {k k' t t' y y' x x' b b' : List ℕ} → a ≡ a' → k ≡ k' → t ≡ t' → y ≡ y' → x ≡ x' → b ≡ b'
    → ◌≡◌ {A = CompileLeft} (record { answer = a; compiled = k; texts = t; rules = y; tokens = x; brackets = b }) (record { answer = a'; compiled = k'; texts = t'; rules = y'; tokens = x'; brackets = b' })
left_by p q r s t u = rw (p, q, r, s, t, u) refl

module _ {agent user author rules₀ tokens₀ brackets₀ texts₀ : List ℕ} (o : Lent agent user author rules₀ tokens₀ brackets₀ texts₀) (compiled₀ : List ℕ)
    {k₁ t₁ y₁ x₁ b₁ : List ℕ} (ck : k₁ ≡ cleared 0 compiled₀) (ct : t₁ ≡ cleared 0 texts₀) (cy : y₁ ≡ cleared 0 rules₀) (cx : x₁ ≡ cleared 0 tokens₀)
    (cb : b₁ ≡ cleared 0 brackets₀) where
  abbrev meant : Sheets
  meant = sheets_of agent user author

  abbrev Left : Result Compiled CompileError → List ℕ → List ℕ → List ℕ → List ℕ → List ℕ → Type 0
  Left a k t y x b =
      ◌≡◌ {A = CompileLeft} (record { answer = numbers_of a; compiled = k; texts = t; rules = y; tokens = x; brackets = b }) (compiled_left compiled₀ texts₀ rules₀ tokens₀ brackets₀ meant)

  module _ {r : Result SheetsRules SheetPanic} {y₂ x₂ b₂ t₂ : List ℕ} (er : r ≡ sheets_answer meant) (ey : y₂ ≡ sets y₁ 0 (sheets_rows meant)) (ex : x₂ ≡ x₁) (eb : b₂ ≡ b₁)
      (et : t₂ ≡ sets t₁ 0 (sheets_texts meant)) where
    -- where the crate panics all is zero
    pub panics : {p : SheetPanic} → r ≡ Err p → Left (Err (Panic p)) k₁ t₂ y₂ x₂ b₂
    unfolding compiled_left zeroed numbers_of refusal_of sheets_rows sheets_texts
    panics {p} g =
        let q : meant ≡ panicked p.text p.place = panic-known meant p (sym g ∙ er) in
        let ey' : y₂ ≡ y₁ = ey ∙ ap (λ (s : Sheets). sets y₁ 0 (sheets_rows s)) q in
        let et' : t₂ ≡ t₁ = et ∙ ap (λ (s : Sheets). sets t₁ 0 (sheets_texts s)) q in
        left_by refl (zeros-kept compiled₀ ck refl) (zeros-kept texts₀ ct et') (zeros-kept rules₀ cy ey') (zeros-kept tokens₀ cx ex) (zeros-kept brackets₀ cb eb)
        ∙ ap (compiled_left compiled₀ texts₀ rules₀ tokens₀ brackets₀) (sym q)

    module _ {s : SheetsRules} (g : r ≡ Ok s) where
      -- the three sheets came to rules, and s says where they lie
      m : Came meant s
      m = came meant s (sym g ∙ er)

      -- the rules store has the rows of all three sheets at its start, and zeros behind them
      rows₂ : y₂ ≡ sets (cleared 0 rules₀) 0 (rows_held o m)
      unfolding sheets_rows
      rows₂ = ey ∙ ap (λ (v : Sheets). sets y₁ 0 (sheets_rows v)) m.is ∙ ap (λ (l : List ℕ). sets l 0 (rows_held o m)) cy

      -- the text store has the texts of all three sheets at its start, and zeros behind them
      texts₂ : t₂ ≡ sets (cleared 0 texts₀) 0 (texts_held o m)
      unfolding sheets_texts
      texts₂ = et ∙ ap (λ (v : Sheets). sets t₁ 0 (sheets_texts v)) m.is ∙ ap (λ (l : List ℕ). sets l 0 (texts_held o m)) ct

      -- what lies there can be written
      pub lies : Lying y₂ t₂ x₂ s
      lies = lying o m rows₂ texts₂ x₂ (ex ∙ cx)

      -- the bytes that the selectors of the three sheets compile to
      bytes : List ℕ
      bytes = encode (selectors_of m.agent m.user m.author)

      module _ {w : ℕ} {k₃ y₃ x₃ : List ℕ} (es : x₃ ≡ x₂) (ew : w ≡ fill_of (room_of (length k₁)) (encode (selectors_from y₂ t₂ s)))
          (ek : k₃ ≡ written_in (room_of (length k₁)) (encode (selectors_from y₂ t₂ s)) k₁) (ec : y₃ ≡ cleared 0 y₂) where
        -- the fill is that of these bytes within the room
        w-is : w ≡ fill_of (room_of (length k₁)) bytes
        unfolding bytes
        w-is = ew ∙ ap (λ ss. fill_of (room_of (length k₁)) (encode ss)) (selectors-are o m rows₂ texts₂)

        -- what is written is these bytes, as far as the room goes
        k-is : k₃ ≡ written_in (room_of (length k₁)) bytes k₁
        unfolding bytes
        k-is = ek ∙ ap (λ ss. written_in (room_of (length k₁)) (encode ss) k₁) (selectors-are o m rows₂ texts₂)

        -- the buffer is as long as before they were written
        k-long : length k₃ ≡ length k₁
        k-long = ap length k-is ∙ written-length (room_of (length k₁)) bytes k₁ (room_within (length k₁))

        -- clearing the buffer left its room as it was
        same-room : room_of (length k₁) ≡ room_of (length compiled₀)
        same-room = ap (λ (l : List ℕ). room_of (length l)) ck ∙ ap room_of (length-cleared 0 compiled₀)

        -- the rules store is zero throughout, as it was cleared
        rules-zero : y₃ ≡ replicate (length rules₀) 0
        rules-zero =
            ec ∙ zeros_of y₂ rules₀ (ap length rows₂ ∙ length-sets (cleared 0 rules₀) 0 (rows_held o m) ∙ length-cleared 0 rules₀)

        module _ {q : ℕ} (eq : q ≡ room_of (length k₃)) where
          -- the room that is asked for behind the writing is the one before it
          q-is : q ≡ room_of (length k₁)
          q-is = eq ∙ ap room_of k-long

          -- the bytes fit into the room: the answer is the compiled sheet
          pub fits : w ≤ q → Left (Ok (record { bytes = w; texts = s.end })) k₃ t₂ y₃ x₃ b₂
          unfolding compiled_left answered_within answered numbers_of sheets_texts sheets_rules bytes
          fits h =
              let z = fill-fits (room_of (length k₁)) w bytes w-is (omega (arith, h, q-is)) in
              let ex' : s.end ≡ length (texts_held o m) = ap (λ (v : SheetsRules). v.end) m.lie ∙ sym (texts-length o m) in
              left_by (ap₂ (λ (b t : ℕ). numbers_of (Ok (record { bytes = b; texts = t }))) z.1 ex')
              (k-is ∙ written-whole (room_of (length k₁)) bytes k₁ (room_within (length k₁)) z.0 ∙ ap (λ (l : List ℕ). sets l 0 bytes) ck
              ∙ stored bytes compiled₀ (omega (arith, z.0, same-room, room_within (length compiled₀))))
              (texts₂ ∙ texts-lie o m) rules-zero (es ∙ zeros-kept tokens₀ cx ex) (zeros-kept brackets₀ cb eb)
              ∙ pick_true _ _ _ _ (le-leb (length bytes) (room_of (length compiled₀)) (omega (arith, z.0, same-room))) refl
              ∙ ap (compiled_left compiled₀ texts₀ rules₀ tokens₀ brackets₀) (sym m.is)

          -- the bytes pass the room: the answer is refusal 10, and the buffers are cleared
          pub over : q < w → {k₄ t₄ : List ℕ} → k₄ ≡ cleared 0 k₃ → t₄ ≡ cleared 0 t₂ → Left (Err NoRoom) k₄ t₄ y₃ x₃ b₂
          unfolding compiled_left answered_within zeroed numbers_of refusal_of bytes
          over h {k₄} {t₄} ek₄ et₄ =
              let z = fill-over (room_of (length k₁)) w bytes w-is (omega (arith, h, q-is)) in
              left_by refl (ek₄ ∙ zeros_of k₃ compiled₀ (k-long ∙ ap length ck ∙ length-cleared 0 compiled₀))
              (et₄ ∙ zeros_of t₂ texts₀ (ap length texts₂ ∙ length-sets (cleared 0 texts₀) 0 (texts_held o m) ∙ length-cleared 0 texts₀)) rules-zero (es ∙ zeros-kept tokens₀ cx ex) (zeros-kept brackets₀ cb eb)
              ∙ pick-false _ _ _ _ (lt-leb (length bytes) (room_of (length compiled₀)) (omega (arith, z, same-room))) refl
              ∙ ap (compiled_left compiled₀ texts₀ rules₀ tokens₀ brackets₀) (sym m.is)
