-- Returns of `write_within` and what it calls: the bytes of three sheets from their rows.
use mathlib.Core.Path.{◌≡◌, refl, ap, sym, ◌∙◌}
use mathlib.Core.List.{List, [], ◌∷◌, ◌++◌, append_assoc}
use mathlib.Core.Logic.{⊎_elim}
use Prim.Native.Nat.{ℕ, ◌+◌, ◌-◌, ◌^◌, ◌≤◌, ◌<◌, min}
use native.Mathlib.Nat.{zero-add}
use native.Mathlib.Omega.{arith}
use borrow.Author.Tests.{lt-ltb, le-ltb, le-leb, lt-leb}
use lib.ListN.{length, take, drop, length-append}
use lib.Seq.{length-take-le}
use Rattle.combinators.specs.Store.{Store, emits}
use Rattle.combinators.proofs.Emitted.{then, emits-fill, emits-over, sets-emitted}
use Rattle.combinators.proofs.Lists.{rest}
use Rattle.combinators.proofs.Rules.{pick_true, pick-false, lt-or-ge}
use Rattle.syntax.specs.RuleLayout.{read_rule, rules_at}
use Rattle.syntax.specs.Stream.{read_many, texts_many}
use Rattle.syntax.specs.Style.{agent_origin, user_origin, author_origin, StyleDecl}
use Rattle.origins.specs.Reading.{rules_from}
use Rattle.origins.specs.declared.reading.SheetRules.{SheetRules}
use Rattle.origins.specs.Reading.{SheetsRules}
use Rattle.compiled.specs.Number.{number_limit, number_bytes}
use Rattle.compiled.specs.Sheet.{CompiledSelector, selector_bytes, encode}
use Rattle.compiler.specs.Selectors.{sheet_selectors, selectors_of}
use Rattle.compiled.specs.Sheet.{compiled_limit}
use Rattle.compiler.specs.CompileAnswer.{room_of}
use Rattle.compiler.specs.Writing.{SelectorsFew}
use Rattle.compiler.specs.Written.{selectors_from, fill_of, written_in}

-- ---- the room of a buffer
-- a buffer above the limit has the limit as its room
pub room-limit : (n : ℕ) → compiled_limit < n → compiled_limit ≡ room_of n
unfolding room_of
room-limit n h = pick_true _ _ _ _ (lt-ltb compiled_limit n h) refl

-- a buffer up to the limit is all room
pub room_whole : (n : ℕ) → n ≤ compiled_limit → n ≡ room_of n
unfolding room_of
room_whole n h = pick-false _ _ _ _ (le-ltb compiled_limit n h) refl

-- the smaller of the two is the room
pub room_least : (n : ℕ) → min n compiled_limit ≡ room_of n
room_least n =
    ⊎_elim (λ (h : compiled_limit < n). (let e : min n compiled_limit ≡ compiled_limit = omega arith in e) ∙ room-limit n h) (λ (h : n ≤ compiled_limit). (let e : min n compiled_limit ≡ n = omega arith in e) ∙ room_whole n h) (lt-or-ge compiled_limit n)

-- it is no more than there is
pub room_within : (n : ℕ) → room_of n ≤ n
room_within n =
    ⊎_elim (λ (h : compiled_limit < n). omega (arith, room-limit n h)) (λ (h : n ≤ compiled_limit). omega (arith, room_whole n h)) (lt-or-ge compiled_limit n)

-- the bytes of two lists of selectors
texts-both : (xs ys : List (CompiledSelector StyleDecl)) → texts_many selector_bytes (xs ++ ys) ≡ texts_many selector_bytes xs ++ texts_many selector_bytes ys
unfolding texts_many
texts-both [] ys = refl
texts-both (x ∷ xs) ys =
    ap (λ (r : List ℕ). selector_bytes x ++ r) (texts-both xs ys) ∙ sym (append_assoc (selector_bytes x) (texts_many selector_bytes xs) (texts_many selector_bytes ys))

-- ---- a sheet
-- the selectors of the rules that lie in a sheet's part of the stores are those of the sheet
pub sheet-written : (rows texts : List ℕ) (s : SheetRules) (origin : ℕ) (o₀ o₁ : Store ℕ)
    → o₁ ≡ emits o₀ (texts_many selector_bytes (sheet_selectors origin (read_many (read_rule (take (length texts - s.from) (drop s.from texts))) s.count (drop s.place rows)).value))
    → o₁ ≡ emits o₀ (texts_many selector_bytes (sheet_selectors origin (rules_from rows texts s)))
unfolding rules_from rules_at
sheet-written rows texts s origin o₀ o₁ e =
    e ∙ ap (λ (t : List ℕ). emits o₀ (texts_many selector_bytes (sheet_selectors origin (read_many (read_rule t) s.count (drop s.place rows)).value))) (rest texts s.from)

-- ---- three sheets: the count of their selectors, then the agent's, the user's and the author's
module _ (rows texts : List ℕ) (s : SheetsRules) where
  -- the compiled selectors of the agent's rules
  a : List (CompiledSelector StyleDecl)
  a = sheet_selectors agent_origin (rules_from rows texts s.agent)

  -- the compiled selectors of the user's rules
  u : List (CompiledSelector StyleDecl)
  u = sheet_selectors user_origin (rules_from rows texts s.user)

  -- the compiled selectors of the author's rules
  w : List (CompiledSelector StyleDecl)
  w = sheet_selectors author_origin (rules_from rows texts s.author)

  abbrev all : List (CompiledSelector StyleDecl)
  all = selectors_from rows texts s

  -- all selectors are as many as those of the three sheets together
  total : length all ≡ length a + length u + length w
  unfolding a u w selectors_from selectors_of
  total = omega (arith, length-append a (u ++ w), length-append u w)

  -- their bytes, in the order of writing
  bytes-are : ((number_bytes (length all) ++ texts_many selector_bytes a) ++ texts_many selector_bytes u) ++ texts_many selector_bytes w ≡ encode all
  unfolding a u w selectors_from selectors_of encode
  bytes-are =
      let n : List ℕ = number_bytes (length all) in
      let x : List ℕ = texts_many selector_bytes a in
      let y : List ℕ = texts_many selector_bytes u in
      let z : List ℕ = texts_many selector_bytes w in
      append_assoc (n ++ x) y z ∙ append_assoc n x (y ++ z)
      ∙ ap (λ (r : List ℕ). n ++ r) (ap (λ (r : List ℕ). x ++ r) (sym (texts-both u w)) ∙ sym (texts-both a (u ++ w)))

  -- the count and the three sheets, one behind the other
  pub all-written : (o₀ o₁ o₂ o₃ o₄ : Store ℕ) (count : ℕ) → count ≡ length all → o₁ ≡ emits o₀ (number_bytes count)
      → o₂ ≡ emits o₁ (texts_many selector_bytes (sheet_selectors agent_origin (rules_from rows texts s.agent)))
      → o₃ ≡ emits o₂ (texts_many selector_bytes (sheet_selectors user_origin (rules_from rows texts s.user)))
      → o₄ ≡ emits o₃ (texts_many selector_bytes (sheet_selectors author_origin (rules_from rows texts s.author))) → o₄ ≡ emits o₀ (encode all)
  unfolding a u w
  all-written o₀ o₁ o₂ o₃ o₄ count ec e₁ e₂ e₃ e₄ =
      let n : List ℕ = number_bytes (length all) in
      let x : List ℕ = texts_many selector_bytes a in
      let y : List ℕ = texts_many selector_bytes u in
      let z : List ℕ = texts_many selector_bytes w in
      let f₁ : o₁ ≡ emits o₀ n = e₁ ∙ ap (λ (k : ℕ). emits o₀ (number_bytes k)) ec in
      then o₀ o₃ o₄ ((n ++ x) ++ y) z (then o₀ o₂ o₃ (n ++ x) y (then o₀ o₁ o₂ n x f₁ e₂) e₃) e₄ ∙ ap (emits o₀) bytes-are

  module _ (few : length all < number_limit) where
    -- a number can tell how many each has
    pub agent-few : SelectorsFew (drop s.agent.place rows) s.agent.count
    unfolding a rules_from rules_at
    agent-few = record { texts = drop s.agent.from texts; origin = agent_origin; few = omega (arith, few, total) }

    -- the count of the user's selectors fits a number of the bytes
    pub user-few : SelectorsFew (drop s.user.place rows) s.user.count
    unfolding u rules_from rules_at
    user-few = record { texts = drop s.user.from texts; origin = user_origin; few = omega (arith, few, total) }

    -- the count of the author's selectors fits a number of the bytes
    pub author-few : SelectorsFew (drop s.author.place rows) s.author.count
    unfolding w rules_from rules_at
    author-few = record { texts = drop s.author.from texts; origin = author_origin; few = omega (arith, few, total) }

    -- their sums fit, and are what there is
    module _ {i j k : ℕ} (ei : (origin : ℕ) (t : List ℕ) → i ≡ length (sheet_selectors origin (read_many (read_rule t) s.agent.count (drop s.agent.place rows)).value))
        (ej : (origin : ℕ) (t : List ℕ) → j ≡ length (sheet_selectors origin (read_many (read_rule t) s.user.count (drop s.user.place rows)).value))
        (ek : (origin : ℕ) (t : List ℕ) → k ≡ length (sheet_selectors origin (read_many (read_rule t) s.author.count (drop s.author.place rows)).value)) where
      -- the three counts together are the count of all selectors
      pub counts : i + j + k ≡ length all
      unfolding a u w rules_from rules_at
      counts = omega (arith, total, ei agent_origin (drop s.agent.from texts), ej user_origin (drop s.user.from texts), ek author_origin (drop s.author.from texts))

      -- the three counts together fit a word
      pub counts-fit : i + j + k < 2 ^ 64
      counts-fit = omega (arith, counts, few)

      -- the counts of the agent's and the user's selectors together fit a word
      pub first-fit : i + j < 2 ^ 64
      first-fit = omega (arith, counts, few)

-- ---- within the room r of a buffer
module _ (l : List ℕ) {r : ℕ} (e : r ≡ room_of (length l)) where
  -- it is a part of the buffer
  pub room_fits : r ≤ length l
  room_fits = omega (arith, e, room_within (length l))

  -- the part of the buffer that is the room has that length
  pub room-long : r ≡ length (take r l)
  room-long = sym (length-take-le r l room_fits)

  -- the fill tells whether the bytes fit, and what fits is there
  pub within : (bytes ys : List ℕ) (f : ℕ) → record { bytes = ys; fill = f } ≡ emits (record { bytes = take r l; fill = 0 }) bytes
      → (f ≡ fill_of (room_of (length l)) bytes) × (ys ++ drop r l ≡ written_in (room_of (length l)) bytes l)
  unfolding fill_of written_in
  within bytes ys f h =
      let g : f ≡ (emits (record { bytes = take r l; fill = 0 }) bytes).fill = ap (λ (o : Store ℕ). o.fill) h in
      rw (← e) (
        ⊎_elim
            (λ (k : r < length bytes). pick-false _ _ _ _ (lt-leb (length bytes) r k)
            (g ∙ emits-over bytes (take r l) 0 (omega arith) (omega (arith, room-long)) ∙ ap (λ (n : ℕ). n + 1) (sym room-long)))
            (λ (k : length bytes ≤ r). pick_true _ _ _ _ (le-leb (length bytes) r k)
            (g ∙ emits-fill bytes (take r l) 0 (omega (arith, room-long)) ∙ zero-add (length bytes)))
            (lt-or-ge r (length bytes)),
        ap (λ (v : List ℕ). v ++ drop r l) (sets-emitted (take r l) ys bytes 0 f h),
      )
