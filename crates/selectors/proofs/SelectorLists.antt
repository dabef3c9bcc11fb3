-- Cases of `parse_selectors`: a first selector, and those behind it.
use mathlib.Core.Path.{◌≡◌, refl, ap, sym, subst, ◌∙◌}
use mathlib.Core.Bool.{Bool, true, false}
use mathlib.Core.List.{List, [], ◌∷◌}
use Prim.Native.Nat.{ℕ, zero, suc, ◌+◌, ◌-◌, ◌*◌, ◌≤◌, ◌<◌}
use native.Mathlib.Nat.{zero-add}
use native.Mathlib.Omega.{arith}
use lib.ListN.{length, drop, get_or, length-drop}
use lib.Seq.{drop-drop}
use Rattle.std.specs.Prelude.{Some, None, Ok, Err}
use Prim.Native.Char.{code as ascii}
use Rattle.combinators.specs.Choice.{pick, is}
use Rattle.combinators.specs.Store.{wiped}
use Rattle.combinators.proofs.Lists.{lent_from, rest, first, byte-there, length-rest}
use Rattle.combinators.proofs.Rules.{pick-holds}
use Rattle.lexer.specs.Whitespace.{skip_whitespace}
use Rattle.syntax.specs.RuleLayout.{component_width, selector_head, selector_row, selector_text, selector_rows, selector_texts}
use Rattle.syntax.specs.RuleSize.{selector_size}
use Rattle.syntax.specs.Selector.{Selector}
use Rattle.syntax.proofs.RowSizes.{length-selector}
use Rattle.selectors.specs.Outcome.{Outcome, reads, fails, panics, on_outcome, behind}
use Rattle.selectors.specs.Selector.{selector_of}
use Rattle.selectors.specs.SelectorList.{more_selectors, more_from, selectors_of}
use Rattle.selectors.specs.Reading.{TextRoom, RowRoom}
use Rattle.selectors.proofs.AllLaws.{where-read, where-panics, reads-no, behind-never, then_never}
use Rattle.selectors.proofs.Gathering.{Gathered, gathered_none, gathered_next, gathered-as, rules-zeros, store-zeros, rules-long, store_long, many_read, many-panics}
use Rattle.selectors.proofs.ReadingLaws.{Reading, ManyReading, panic_at, sized, Left, LeftMany, Found, found, nothing, panicked}
use Rattle.selectors.proofs.SelectorBounds.{SelectorKeeps, selector-keeps}

-- ---- what is still to be read where the next selector may start at `next`, `gap` bytes behind the last; behind one of n bytes there are `turns n`
-- turns or fewer
unfoldable next_of : List ℕ → (ℕ → ℕ) → ℕ → ℕ → Outcome (List Selector)
next_of s turns gap next =
    on_outcome (selector_of (drop next s)) (λ n x. behind (gap + n) (more_selectors (turns n) (drop (next + n) s)) (λ xs. x ∷ xs)) (reads 0 []) (λ p. panics (gap + p))

-- at the start of the text nothing stands before the first selector, so 0 bytes more are counted
first_by : (o : Outcome Selector) (f : ℕ → Outcome (List Selector))
    → on_outcome o (λ n x. behind n (f n) (λ xs. x ∷ xs)) (reads 0 []) (λ p. panics p)
    ≡ on_outcome o (λ n x. behind (0 + n) (f (0 + n)) (λ xs. x ∷ xs)) (reads 0 []) (λ p. panics (0 + p))
unfolding on_outcome
first_by (reads n x) f = rw (zero-add n)
first_by fails f = refl
first_by (panics p) f = rw (zero-add p)

-- a list is what may be read at its start, with no gap before it
first-is : (s : List ℕ) → selectors_of s ≡ next_of s (λ n. length (drop (0 + n) s)) 0 0
unfolding selectors_of more_from next_of
first-is s = first_by (selector_of s) (λ n. more_selectors (length (drop n s)) (drop n s))

-- whether a ',' stands behind so many bytes, and what follows it
module _ (s : List ℕ) (taken : ℕ) {b : Bool} (eb : b ≡ is (get_or s taken 0) (ascii ",")) where
  -- without a ',' no more selectors are read, however many turns there are
  none-follows : b ≡ false → (t : ℕ) → more_selectors t (drop taken s) ≡ reads 0 []
  unfolding more_selectors pick
  none-follows f zero = refl
  none-follows f (suc t) = rw (first s taken, sym eb ∙ f)

  -- a ',' that is found stands before the end of the text
  comma-there : b ≡ true → taken < length s
  comma-there f = byte-there s taken (ascii ",") (omega arith) (sym eb ∙ f)

  module _ (f : b ≡ true) {next : ℕ} (en : next ≡ taken + 1 + skip_whitespace (drop (taken + 1) s)) where
    -- the bytes of the ',' and of the white space behind it
    gap : ℕ
    gap = 1 + skip_whitespace (drop 1 (drop taken s))

    -- the next selector may start behind those bytes
    gap_is : next ≡ taken + gap
    unfolding gap
    gap_is =
        let e : skip_whitespace (drop 1 (drop taken s)) ≡ skip_whitespace (drop (taken + 1) s) = ap skip_whitespace (drop-drop 1 taken s) in
        omega (arith, en, e)

    -- by what reads there: the rest behind that selector is the same, counted from the ',' or from the start of the text
    by_next : (g t : ℕ) → next ≡ taken + g → (o : Outcome Selector)
        → on_outcome o (λ n x. behind (g + n) (more_selectors t (drop (g + n) (drop taken s))) (λ xs. x ∷ xs)) (reads 0 []) (λ p. panics (g + p))
        ≡ on_outcome o (λ n x. behind (g + n) (more_selectors t (drop (next + n) s)) (λ xs. x ∷ xs)) (reads 0 []) (λ p. panics (g + p))
    unfolding on_outcome
    by_next g t e (reads n x) =
        let q : taken + (g + n) ≡ next + n = omega (arith, e) in
        rw (drop-drop (g + n) taken s, q)
    by_next g t e fails = refl
    by_next g t e (panics p) = refl

    -- what is read behind the gap is what may be read at `next`
    by-gap : (g t : ℕ) → next ≡ taken + g
        → on_outcome (selector_of (drop g (drop taken s))) (λ n x. behind (g + n) (more_selectors t (drop (g + n) (drop taken s))) (λ xs. x ∷ xs)) (reads 0 []) (λ p. panics (g + p))
        ≡ next_of s (λ _. t) g next
    unfolding next_of
    by-gap g t e = by_next g t e (selector_of (drop g (drop taken s))) ∙ ap
        (λ (l : List ℕ). on_outcome (selector_of l) (λ n x. behind (g + n) (more_selectors t (drop (next + n) s)) (λ xs. x ∷ xs)) (reads 0 []) (λ p. panics (g + p)))
        (drop-drop g taken s ∙ ap (λ (k : ℕ). drop k s) (sym e))

    -- with a ',' there, what is left is a selector behind it, or none, in one turn fewer
    one_follows : (t : ℕ) → length s ≤ taken + t → more_selectors t (drop taken s) ≡ next_of s (λ _. t - 1) gap next
    unfolding more_selectors pick gap
    one_follows zero l = absurd (omega (arith, comma-there f))
    one_follows (suc t) l =
        let d : suc t - 1 ≡ t = omega arith in
        rw (first s taken, sym eb ∙ f, d) (by-gap gap t gap_is)

-- ---- the reader, where the next selector may start
pub record Reading-on (s rules₀ : List ℕ) (place : ℕ) (store₀ : List ℕ) (fill : ℕ) (rules store : List ℕ) (taken count numbers text next : ℕ) : Type 0 where
  turns : ℕ → ℕ
  enough : (n : ℕ) → length s ≤ next + n + turns n
  gap : ℕ
  next-is : next ≡ taken + gap
  gathered : Gathered selector_row selector_text (selectors_of s) (next_of s turns gap next) rules₀ place store₀ fill taken rules store count numbers text
  pub within : next ≤ length s
  pub counted : count ≤ next
  pub wide : numbers ≤ component_width * next
  pub long : text ≤ next

-- before the first selector nothing is taken or written, and the whole list is still to be read
pub begin : (s rules : List ℕ) (place : ℕ) (store : List ℕ) (fill : ℕ) → Reading-on s rules place store fill rules store 0 0 0 0 0
begin s rules place store fill =
    record {
      turns = λ n. length (drop (0 + n) s);
      enough = λ n. omega (arith, length-drop (0 + n) s);
      gap = 0;
      next-is = refl;
      gathered =
          subst (λ (o : Outcome (List Selector)). Gathered selector_row selector_text (selectors_of s) o rules place store fill 0 rules store 0 0 0) (first-is s)
          (gathered_none selector_row selector_text (selectors_of s) rules place store fill);
      within = omega arith;
      counted = omega arith;
      wide = omega arith;
      long = omega arith;
    }

-- what a return leaves
abbrev pub Ends : List ℕ → List ℕ → ℕ → List ℕ → ℕ → ManyReading → List ℕ → List ℕ → Type 0
Ends s rules place store fill r y z = LeftMany length (selector_rows fill) selector_texts (selectors_of s) rules place store fill r y z

module _ {s rules₀ : List ℕ} {place : ℕ} {store₀ : List ℕ} {fill : ℕ} {rules store : List ℕ} {taken count numbers text next : ℕ}
    (i : Reading-on s rules₀ place store₀ fill rules store taken count numbers text next) (u : RowRoom selector_head s rules₀ place) (v : TextRoom 4 s store₀ fill) where
  -- the rest that is lent
  abbrev lent : List ℕ
  lent = lent_from s next

  -- the rows have room for the rest, behind those so far
  pub next-rows : RowRoom selector_head lent rules (place + numbers)
  next-rows =
      record {
        zeros = rules-zeros i.gathered u.zeros;
        for-rows = omega (arith, u.for-rows, i.wide, i.within, length-rest s next, rules-long i.gathered);
        bits = omega (arith, u.bits, i.wide, i.within, length-rest s next);
      }

  -- the text store has room for the rest, behind the texts so far
  pub next-texts : TextRoom 4 lent store (fill + text)
  next-texts =
      record {
        zeros = store-zeros i.gathered v.zeros;
        for-texts = omega (arith, v.for-texts, i.long, i.within, length-rest s next, store_long i.gathered);
        bits = omega (arith, v.bits, i.long, i.within, length-rest s next);
      }

  module _ {r : Reading} {y z : List ℕ} (e : Left (λ _. 1) (selector_row (fill + text)) selector_text (selector_of lent) rules (place + numbers) store (fill + text) r y z) where
    -- where no selector follows, those that were read so far are the whole list
    pub no-selector : r ≡ Ok None → Ends s rules₀ place store₀ fill (Ok (sized taken count numbers text)) y z
    unfolding next_of on_outcome selector_rows selector_texts
    no-selector g =
        let n = nothing _ _ _ _ _ _ _ _ e g in
        rw (n.1.0, n.1.1) (many_read i.gathered 0 taken (rw (← rest s next, n.0)) (omega arith))

    -- the crate panics in the selector: what was read before is wiped
    module _ {p : ℕ} (g : r ≡ Err (panic_at p)) where
      -- the panic lies within the text
      pub panic-within : next + p ≤ length s
      panic-within = omega (arith, where-panics (length lent) _ (selector_of lent) p (panicked _ _ _ _ _ _ _ _ e g).0 (selector-keeps lent), length-rest s next, i.within)

      -- the return where the crate panics: rows and texts are wiped, and the byte is counted from the start of the list
      pub panics-left : {y' z' : List ℕ} → y' ≡ wiped place numbers y → z' ≡ wiped fill text z → Ends s rules₀ place store₀ fill (Err (panic_at (next + p))) y' z'
      unfolding next_of on_outcome selector_rows selector_texts
      panics-left ey ez =
          let n = panicked _ _ _ _ _ _ _ _ e g in
          many-panics i.gathered u.zeros v.zeros (ey ∙ ap (wiped place numbers) n.1.0) (ez ∙ ap (wiped fill text) n.1.1)
          (i.gap + p) (next + p) (rw (← rest s next, n.0)) (omega (arith, i.next-is))

    -- a selector reads: it is gathered with those before it
    module _ {n o row more : ℕ} (g : r ≡ Ok (Some (sized n o row more))) where
      -- the selector that was read, its sizes and where it lies
      one : Found (λ _. 1) (selector_row (fill + text)) selector_text (selector_of lent) rules (place + numbers) store (fill + text) y z n o row more
      one = found _ _ _ _ _ _ _ _ e g

      -- what it takes, its components and its texts are within their bounds
      keeps : SelectorKeeps lent n one.value
      keeps = where-read (length lent) (SelectorKeeps lent) (selector_of lent) n one.value one.reads-it (selector-keeps lent)

      -- the selector ends within the text
      pub taken-within : next + n ≤ length s
      taken-within = omega (arith, keeps.within, length-rest s next, i.within)

      -- there are no more selectors than bytes taken
      pub count-few : count + 1 ≤ next + n
      count-few = omega (arith, i.counted, keeps.some)

      -- their rows stay within a component's width for each byte taken, and one head
      pub numbers-few : numbers + row ≤ component_width * (next + n) + selector_head
      unfolding selector_size
      numbers-few = omega (arith, i.wide, one.rows, length-selector (fill + text) one.value, keeps.counted)

      -- their texts are at most two bytes longer than what was taken
      pub text-few : text + more ≤ next + n + 2
      text-few = omega (arith, i.long, one.texts, keeps.long)

      -- the selector is gathered with those before it, and what is left stands behind it
      read-on : Gathered selector_row selector_text (selectors_of s) (more_selectors (i.turns n) (drop (next + n) s)) rules₀ place store₀ fill (next + n) y z (count + 1) (numbers + row) (text + more)
      unfolding next_of on_outcome
      read-on =
          gathered-as (gathered_next i.gathered (i.gap + n) one.value _ y z (rw (← rest s next, one.reads-it)) one.rules-are one.store_is)
          (omega (arith, i.next-is)) refl (omega (arith, one.rows)) (omega (arith, one.texts))

      module _ {b : Bool} (eb : b ≡ is (get_or s (next + n) 0) (ascii ",")) where
        -- where no ',' follows a selector, it is the last of the list
        pub no-comma : b ≡ false → Ends s rules₀ place store₀ fill (Ok (sized (next + n) (count + 1) (numbers + row) (text + more))) y z
        unfolding selector_rows selector_texts
        no-comma f = many_read read-on 0 (next + n) (none-follows s (next + n) eb f (i.turns n)) (omega arith)

        -- a ',' that follows lies within the text
        pub comma-within : b ≡ true → next + n < length s
        comma-within f = comma-there s (next + n) eb f

        -- a ',' follows: the list goes on behind it and the white space there
        module _ (f : b ≡ true) {next' : ℕ} (en : next' ≡ next + n + 1 + skip_whitespace (drop (next + n + 1) s)) (l : next' ≤ length s) where
          -- with the ',' passed, the reader goes on at the next selector
          pub goes : Reading-on s rules₀ place store₀ fill y z (next + n) (count + 1) (numbers + row) (text + more) next'
          goes =
              let there = comma-there s (next + n) eb f in
              let many-turns = i.enough n in
              record {
                turns = λ _. i.turns n - 1;
                enough = λ m. omega (arith, many-turns, there, en);
                gap = gap s (next + n) eb f en;
                next-is = gap_is s (next + n) eb f en;
                gathered =
                    subst (λ (q : Outcome (List Selector)). Gathered selector_row selector_text (selectors_of s) q rules₀ place store₀ fill (next + n) y z (count + 1) (numbers + row) (text + more))
                    (one_follows s (next + n) eb f en (i.turns n) many-turns) read-on;
                within = l;
                counted = omega (arith, count-few, en);
                wide = omega (arith, numbers-few, en);
                long = omega (arith, i.long, one.texts, keeps.sharp (omega (arith, there, length-rest s next)), en);
              }

-- ---- reading selectors never fails
-- reading further selectors, in any number of turns, reads or panics
more-never : (l : ℕ) (t : List ℕ) → more_selectors l t ≡ fails → ⊥
unfolding more_selectors
more-never zero t e = reads-no e
more-never (suc l) t e =
    pick-holds (λ (o : Outcome (List Selector)). o ≡ fails → ⊥) (is (get_or t 0 0) (ascii ",")) _ _
    (λ _. then_never (selector_of (drop (1 + skip_whitespace (drop 1 t)) t)) _ (reads 0 []) _ (λ n x. behind-never _ _ _ (more-never l _)) reads-no) (λ _. reads-no) e

-- a list of selectors always reads or panics
pub selectors-never : (t : List ℕ) → selectors_of t ≡ fails → ⊥
unfolding selectors_of more_from
selectors-never t e = then_never (selector_of t) _ (reads 0 []) _ (λ n x. behind-never n _ _ (more-never _ (drop n t))) reads-no e
