-- Things read one behind the other, their rows and texts gathered in the stores: what the loops over components, selectors and statements share.
use mathlib.Core.Path.{◌≡◌, refl, ap, sym, ◌∙◌}
use mathlib.Core.List.{List, [], ◌∷◌, ◌++◌, append_assoc, append-nil}
use Prim.Native.Nat.{ℕ, ◌+◌, ◌≤◌}
use native.Mathlib.Omega.{arith}
use lib.ListN.{length, length-append}
use lib.Seq.{sets, length-sets}
use Rattle.std.specs.Prelude.{Some, Ok, Err}
use Rattle.combinators.specs.Store.{wiped, Zeros}
use Rattle.combinators.proofs.Wiped.{sets-append}
use Rattle.syntax.specs.Stream.{rows_many, texts_many}
use Rattle.syntax.proofs.Streams.{texts-append, rows_append}
use Rattle.selectors.specs.Outcome.{Outcome, reads, fails, panics, on_outcome, behind}
use Rattle.selectors.proofs.ReadingLaws.{panic_at, sized, Left, LeftMany, left-reads, left-many, left-panics, left-many-panics}
use Rattle.combinators.proofs.ZeroLaws.{zeros-behind, zeros-back}
use Rattle.combinators.proofs.Lists.{nil-of}

module _ {A : Type 0} (w : ℕ → A → List ℕ) (x : A → List ℕ) where
  -- the rows of one thing are its row
  pub one-row : (f : ℕ) (a : A) → rows_many w x f (a ∷ []) ≡ w f a
  unfolding rows_many
  one-row f a = append-nil (w f a)

  -- the texts of one thing are its text
  pub one-text : (a : A) → texts_many x (a ∷ []) ≡ x a
  unfolding texts_many
  one-text a = append-nil (x a)

  -- so many were read in k bytes, and `rest` is what comes behind them
  pub record Gathered (whole rest : Outcome (List A)) (rules₀ : List ℕ) (place : ℕ) (store₀ : List ℕ) (fill k : ℕ) (rules store : List ℕ) (count numbers text : ℕ) : Type 0 where
    pub done : List A
    pub whole_is : whole ≡ behind k rest (λ more. done ++ more)
    pub rules-are : rules ≡ sets rules₀ place (rows_many w x fill done)
    pub store_is : store ≡ sets store₀ fill (texts_many x done)
    pub count-is : count ≡ length done
    pub numbers-are : numbers ≡ length (rows_many w x fill done)
    pub text-is : text ≡ length (texts_many x done)

  module _ (whole : Outcome (List A)) (rules₀ : List ℕ) (place : ℕ) (store₀ : List ℕ) (fill : ℕ) where
    -- before anything is gathered what is left is the whole
    behind-none : (o : Outcome (List A)) → o ≡ behind 0 o (λ more. [] ++ more)
    unfolding behind on_outcome
    behind-none (reads n a) =
        let e : 0 + n ≡ n = omega arith in
        rw e
    behind-none fails = refl
    behind-none (panics p) =
        let e : 0 + p ≡ p = omega arith in
        rw e

    -- the invariant before the first thing
    pub gathered_none : Gathered whole whole rules₀ place store₀ fill 0 rules₀ store₀ 0 0 0
    unfolding rows_many texts_many
    gathered_none = record { done = []; whole_is = behind-none whole; rules-are = refl; store_is = refl; count-is = refl; numbers-are = refl; text-is = refl }

    -- some behind others, and more
    behind-next : (k n : ℕ) (done xs : List A) (o : Outcome (List A))
        → behind k (behind n o (λ more. xs ++ more)) (λ more. done ++ more) ≡ behind (k + n) o (λ more. (done ++ xs) ++ more)
    unfolding behind on_outcome
    behind-next k n done xs (reads m more) =
        let e : k + (n + m) ≡ k + n + m = omega arith in
        rw (e, append_assoc done xs more)
    behind-next k n done xs fails = refl
    behind-next k n done xs (panics p) =
        let e : k + (n + p) ≡ k + n + p = omega arith in
        rw e

module _ {A : Type 0} {w : ℕ → A → List ℕ} {x : A → List ℕ} {whole : Outcome (List A)} {rules₀ : List ℕ} {place : ℕ} {store₀ : List ℕ} {fill : ℕ} {rest : Outcome (List A)} {k : ℕ} {rules store : List ℕ} {count numbers text : ℕ}
    (g : Gathered w x whole rest rules₀ place store₀ fill k rules store count numbers text) where
  -- things xs read in n bytes, with their rows and texts stored behind the others, are gathered with them
  pub gathered-more : (n : ℕ) (xs : List A) (rest' : Outcome (List A)) (rules' store' : List ℕ) → rest ≡ behind n rest' (λ more. xs ++ more)
      → rules' ≡ sets rules (place + numbers) (rows_many w x (fill + text) xs) → store' ≡ sets store (fill + text) (texts_many x xs)
      → Gathered w x whole rest' rules₀ place store₀ fill (k + n) rules' store' (count + length xs) (numbers + length (rows_many w x (fill + text) xs)) (text + length (texts_many x xs))
  gathered-more n xs rest' rules' store' e p q =
      let d = g.done in
      let rs = rows_many w x fill d in
      let ts = texts_many x d in
      record {
        done = d ++ xs;
        whole_is = g.whole_is ∙ ap (λ (o : Outcome (List A)). behind k o (λ more. d ++ more)) e ∙ behind-next w x whole rules₀ place store₀ fill k n d xs rest';
        rules-are =
            p ∙ rw (g.rules-are, g.numbers-are, g.text-is) (sym (sets-append rules₀ place rs (rows_many w x (fill + length ts) xs)))
            ∙ ap (sets rules₀ place) (sym (rows_append w x d xs fill));
        store_is = q ∙ rw (g.store_is, g.text-is) (sym (sets-append store₀ fill ts (texts_many x xs))) ∙ ap (sets store₀ fill) (sym (texts-append w x d xs));
        count-is = omega (arith, g.count-is, length-append d xs);
        numbers-are =
            rw (rows_append w x d xs fill, g.text-is) (omega (arith, g.numbers-are, length-append rs (rows_many w x (fill + length ts) xs)));
        text-is = rw (texts-append w x d xs) (omega (arith, g.text-is, length-append ts (texts_many x xs)));
      }

  -- one thing read in n bytes, with its row and its text stored behind the others, is gathered with them
  pub gathered_next : (n : ℕ) (a : A) (rest' : Outcome (List A)) (rules' store' : List ℕ) → rest ≡ behind n rest' (λ more. a ∷ more)
      → rules' ≡ sets rules (place + numbers) (w (fill + text) a) → store' ≡ sets store (fill + text) (x a)
      → Gathered w x whole rest' rules₀ place store₀ fill (k + n) rules' store' (count + 1) (numbers + length (w (fill + text) a)) (text + length (x a))
  gathered_next n a rest' rules' store' e p q =
      let r = one-row w x (fill + text) a in
      let t = one-text w x a in
      rw (← r, ← t) (gathered-more n (a ∷ []) rest' rules' store' e (p ∙ rw (← r)) (q ∙ rw (← t)))

  -- the stores are zero behind what was gathered
  pub rules-zeros : Zeros rules₀ place → Zeros rules (place + numbers)
  rules-zeros z = rw (g.rules-are, g.numbers-are) (zeros-behind rules₀ place z (rows_many w x fill g.done))

  -- the store of texts is zero behind what was gathered
  pub store-zeros : Zeros store₀ fill → Zeros store (fill + text)
  store-zeros z = rw (g.store_is, g.text-is) (zeros-behind store₀ fill z (texts_many x g.done))

  -- the stores keep their lengths
  pub rules-long : length rules ≡ length rules₀
  rules-long = rw g.rules-are (length-sets rules₀ place (rows_many w x fill g.done))

  -- the store of texts keeps its length
  pub store_long : length store ≡ length store₀
  store_long = rw g.store_is (length-sets store₀ fill (texts_many x g.done))

  -- as long as there is none the stores are as they were
  pub none_yet : count ≤ 0 → (rules ≡ rules₀) × (store ≡ store₀)
  unfolding rows_many texts_many
  none_yet h =
      let e : g.done ≡ [] = nil-of g.done (omega (arith, g.count-is)) in
      (g.rules-are ∙ rw e, g.store_is ∙ rw e)

  -- what was gathered is told as well by numbers that are equal
  pub gathered-as : {k' count' numbers' text' : ℕ} → k ≡ k' → count ≡ count' → numbers ≡ numbers' → text ≡ text'
      → Gathered w x whole rest rules₀ place store₀ fill k' rules store count' numbers' text'
  gathered-as p q r s = rw (← p, ← q, ← r, ← s) g

  -- where nothing more is read, the whole is what was gathered
  end_is : (n : ℕ) → rest ≡ reads n [] → whole ≡ reads (k + n) g.done
  unfolding behind on_outcome
  end_is n e = g.whole_is ∙ rw (e, append-nil g.done)

  -- the return where nothing more is read: what was gathered is left
  pub all_read : (n m : ℕ) → rest ≡ reads n [] → m ≡ k + n
      → Left length (rows_many w x fill) (texts_many x) whole rules₀ place store₀ fill (Ok (Some (sized m count numbers text))) rules store
  all_read n m e h = left-reads length (rows_many w x fill) (texts_many x) whole rules₀ place store₀ fill (end_is n e ∙ rw h) g.count-is g.numbers-are g.text-is g.rules-are g.store_is

  -- where nothing more is read, a reader that never fails leaves what was gathered
  pub many_read : (n m : ℕ) → rest ≡ reads n [] → m ≡ k + n
      → LeftMany length (rows_many w x fill) (texts_many x) whole rules₀ place store₀ fill (Ok (sized m count numbers text)) rules store
  many_read n m e h = left-many length (rows_many w x fill) (texts_many x) whole rules₀ place store₀ fill (end_is n e ∙ rw h) g.count-is g.numbers-are g.text-is g.rules-are g.store_is

  -- what was written is taken back
  module _ (u : Zeros rules₀ place) (v : Zeros store₀ fill) {y z : List ℕ} (ey : y ≡ wiped place numbers rules) (ez : z ≡ wiped fill text store) where
    -- the rows are as they were before anything was gathered
    rules-back : y ≡ rules₀
    rules-back = ey ∙ rw g.rules-are (zeros-back rules₀ place u (rows_many w x fill g.done) numbers (omega (arith, g.numbers-are)))

    -- the texts are as they were before anything was gathered
    store-back : z ≡ store₀
    store-back = ez ∙ rw g.store_is (zeros-back store₀ fill v (texts_many x g.done) text (omega (arith, g.text-is)))

    -- the crate panics: rows and texts are wiped, and the whole panics at that byte
    module _ (p m : ℕ) (e : rest ≡ panics p) (h : m ≡ k + p) where
      -- the whole panics where what is left panics, counted from the start
      panic-is : whole ≡ panics m
      unfolding behind on_outcome
      panic-is = g.whole_is ∙ rw (e, h)

      -- the return where the crate panics: both stores are as they were
      pub all-panics : Left length (rows_many w x fill) (texts_many x) whole rules₀ place store₀ fill (Err (panic_at m)) y z
      all-panics = left-panics length (rows_many w x fill) (texts_many x) whole rules₀ place store₀ fill panic-is rules-back store-back

      -- the same return of a reader that never fails
      pub many-panics : LeftMany length (rows_many w x fill) (texts_many x) whole rules₀ place store₀ fill (Err (panic_at m)) y z
      many-panics = left-many-panics length (rows_many w x fill) (texts_many x) whole rules₀ place store₀ fill panic-is rules-back store-back
