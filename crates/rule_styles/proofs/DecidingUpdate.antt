-- The updates of both cascades settle the styles of one rule: those all have one origin and one specificity, so an important one stays against a normal one,
-- and of two of a kind the later wins.
use mathlib.Core.Path.{◌≡◌, refl, sym, ap, ◌∙◌}
use mathlib.Core.Bool.{Bool, true, false}
use Prim.Native.Nat.{ℕ, ◌≤◌}
use native.Mathlib.Omega.{arith}
use lib.Dec.{ltb}
use borrow.Author.Tests.{le-ltb}
use Rattle.combinators.specs.Choice.{pick, is}
use Rattle.combinators.proofs.Rules.{pick_true, pick-false, pick-holds, or_left, or-none}
use Rattle.syntax.specs.Layout.{flag}
use Rattle.syntax.specs.Style.{agent_origin, user_origin}
use Rattle.cascade.specs.declared.specificity.Specificity.{Specificity}
use Rattle.cascade.specs.declared.slots.Weight.{Weight}
use Rattle.cascade.specs.declared.slots.Cascade.{Cascade}
use Rattle.cascade.specs.declared.slots.Cascade.TheVariants.{Crate, Book}
use Rattle.cascade.specs.Specificity.{less_by_selector, less}
use Rattle.cascade.specs.Slot.{Candidate, Slot, empty, held, held_by_importance, held_by_origin, held_against, maybe_update, rank, rank_of, weaker, held_in_book, book_update, update_by, normal_author, important_author}
use Rattle.cascade.specs.Record.{Styled}
use Rattle.cascade.proofs.Orders.{then-lower, then-higher, then_equal}
use Rattle.rule_styles.proofs.DecidingSlot.{Settled}

-- ---- a value of one weight stays against one of another, in either cascade
unfoldable pub stays : Cascade → Weight → Weight → Bool
stays Crate own new = held_against own new
stays Book own new = held_in_book own new

-- an empty slot takes a candidate
fills : {A : Type 0} (c : Cascade) (y : Candidate A) → update_by c empty y ≡ held y
unfolding update_by maybe_update book_update
fills Crate y = refl
fills Book y = refl

-- a filled one keeps what stays against it
keeps : {A : Type 0} (c : Cascade) (z y : Candidate A) → stays c z.weight y.weight ≡ true → update_by c (held z) y ≡ held z
unfolding update_by maybe_update book_update stays
keeps Crate z y e = sym (pick_true _ _ _ _ e refl)
keeps Book z y e = sym (pick_true _ _ _ _ e refl)

-- and takes it where that does not
takes : {A : Type 0} (c : Cascade) (z y : Candidate A) → stays c z.weight y.weight ≡ false → update_by c (held z) y ≡ held y
unfolding update_by maybe_update book_update stays
takes Crate z y e = sym (pick-false _ _ _ _ e refl)
takes Book z y e = sym (pick-false _ _ _ _ e refl)

-- ---- the weights of one origin and one specificity
abbrev weight_of : ℕ → Specificity → Bool → Weight
weight_of o p i = record { important = i; origin = o; spec = p }

-- no specificity is less than itself
less-self : (p : Specificity) → less p p ≡ false
unfolding less less_by_selector
less-self p =
    sym (then_equal (flag p.inline) (flag p.inline) _ false refl
    (then_equal p.id p.id _ false refl
    (then_equal p.class p.class _ false refl
    (sym (le-ltb p.typ p.typ (omega arith))))))

-- a normal value ranks no higher than a normal author one
rank-normal : (o : ℕ) → rank o false ≤ normal_author
unfolding rank pick
rank-normal o = pick-holds (λ n. n ≤ normal_author) (is o agent_origin) _ _ (λ e. omega arith) (λ e. pick-holds (λ n. n ≤ normal_author) (is o user_origin) _ _ (λ f. omega arith) (λ f. omega arith))

-- every important value ranks at least as high as an important one of the author
rank-important : (o : ℕ) → important_author ≤ rank o true
unfolding rank pick
rank-important o = pick-holds (λ n. important_author ≤ n) (is o agent_origin) _ _ (λ e. omega arith) (λ e. pick-holds (λ n. important_author ≤ n) (is o user_origin) _ _ (λ f. omega arith) (λ f. omega arith))

module _ (o : ℕ) (p : Specificity) where
  -- in the crate's cascade a value of the same importance does not stay, nor a normal one against an important one
  crate-yields : (i j : Bool) → held_by_importance (weight_of o p i) (weight_of o p j) ≡ false → held_against (weight_of o p i) (weight_of o p j) ≡ false
  unfolding held_against held_by_origin
  crate-yields i j e =
      let z : ltb o o ≡ false = le-ltb o o (omega arith) in
      or-none _ _ e (or-none _ _ (pick-holds (λ t. t ≡ false) j _ _ (λ f. z) (λ f. z)) (less-self p))

  -- in the book order a value of the same rank does not stay
  book-yields : (i : Bool) → held_in_book (weight_of o p i) (weight_of o p i) ≡ false
  unfolding held_in_book weaker rank_of
  book-yields i = sym (then_equal (rank o i) (rank o i) _ false refl (sym (less-self p)))

  -- of two of a kind the first does not stay
  yields_alike : (c : Cascade) (i : Bool) → stays c (weight_of o p i) (weight_of o p i) ≡ false
  unfolding stays held_by_importance
  yields_alike Crate true = crate-yields true true (sym (pick_true _ _ _ _ refl refl))
  yields_alike Crate false = crate-yields false false (sym (pick-false _ _ _ _ refl refl))
  yields_alike Book i = book-yields i

  -- a normal one does not stay against an important one
  yields-normal : (c : Cascade) → stays c (weight_of o p false) (weight_of o p true) ≡ false
  unfolding stays held_by_importance held_in_book weaker rank_of
  yields-normal Crate = crate-yields false true (sym (pick_true _ _ _ _ refl refl))
  yields-normal Book = sym (then-higher (rank o true) (rank o false) _ (omega (arith, rank-normal o, rank-important o)))

  -- an important one stays against a normal one
  stays-important : (c : Cascade) → stays c (weight_of o p true) (weight_of o p false) ≡ true
  unfolding stays held_against held_by_importance held_in_book weaker rank_of
  stays-important Crate = or_left _ _ (sym (pick-false _ _ _ _ refl refl))
  stays-important Book = sym (then-lower (rank o false) (rank o true) _ (omega (arith, rank-normal o, rank-important o)))

-- ---- candidates of such weights
module _ {A : Type 0} (c : Cascade) (o : ℕ) (p : Specificity) where
  -- the update of the cascade
  abbrev u : Slot A → Candidate A → Slot A
  u = update_by c

  -- a slot's own value stays, or it does not, against every candidate of a weight
  data Answer (z : Candidate A) (w : Weight) : Type 0 where
    stay : ((y : Candidate A) → y.weight ≡ w → u (held z) y ≡ held z) → Answer z w
    give : ((y : Candidate A) → y.weight ≡ w → u (held z) y ≡ held y) → Answer z w

  -- one of the two holds
  answer : (z : Candidate A) (w : Weight) → Answer z w
  answer z w = go (stays c z.weight w) refl
    where
      go : (t : Bool) → stays c z.weight w ≡ t → Answer z w
      go true e = stay (λ y f. keeps c z y (ap (stays c z.weight) f ∙ e))
      go false e = give (λ y f. takes c z y (ap (stays c z.weight) f ∙ e))

  -- of two candidates of one weight the second alone decides
  again : (i : Bool) (x : Slot A) (a b : Candidate A) → a.weight ≡ weight_of o p i → b.weight ≡ weight_of o p i → u (u x a) b ≡ u x b
  again i empty a b e f = rw (fills c a, fills c b) (takes c a b (rw (e, f) (yields_alike o p c i)))
  again i (held z) a b e f = go (answer z (weight_of o p i))
    where
      go : Answer z (weight_of o p i) → u (u (held z) a) b ≡ u (held z) b
      go (stay h) = rw (h a e)
      go (give h) = rw (h a e, h b f) (takes c a b (rw (e, f) (yields_alike o p c i)))

  -- an important one takes the place of a normal one
  over-normal : (n i : Candidate A) → n.weight ≡ weight_of o p false → i.weight ≡ weight_of o p true → u (held n) i ≡ held i
  over-normal n i e f = takes c n i (rw (e, f) (yields-normal o p c))

  -- a normal one does not take that of an important one
  over-important : (i n : Candidate A) → i.weight ≡ weight_of o p true → n.weight ≡ weight_of o p false → u (held i) n ≡ held i
  over-important i n e f = keeps c i n (rw (e, f) (stays-important o p c))

  -- the later takes the place of the earlier of its kind
  over-alike : (j : Bool) (a b : Candidate A) → a.weight ≡ weight_of o p j → b.weight ≡ weight_of o p j → u (held a) b ≡ held b
  over-alike j a b e f = takes c a b (rw (e, f) (yields_alike o p c j))

  -- a normal one behind an important one behind a normal one
  late-normal : (x : Slot A) (a i b : Candidate A) → a.weight ≡ weight_of o p false → i.weight ≡ weight_of o p true → b.weight ≡ weight_of o p false → u (u (u x a) i) b ≡ u (u x b) i
  late-normal empty a i b ea ei eb = rw (fills c a, fills c b, over-normal a i ea ei, over-normal b i eb ei) (over-important i b ei eb)
  late-normal (held z) a i b ea ei eb = go (answer z (weight_of o p false)) (answer z (weight_of o p true))
    where
      go : Answer z (weight_of o p false) → Answer z (weight_of o p true) → u (u (u (held z) a) i) b ≡ u (u (held z) b) i
      go (stay h) (stay k) = rw (h a ea, h b eb, k i ei) (h b eb)
      go (stay h) (give k) = rw (h a ea, h b eb, k i ei) (over-important i b ei eb)
      go (give h) k = rw (h a ea, h b eb, over-normal a i ea ei, over-normal b i eb ei) (over-important i b ei eb)

  -- an important one behind a normal one behind an important one
  late-important : (x : Slot A) (a n b : Candidate A) → a.weight ≡ weight_of o p true → n.weight ≡ weight_of o p false → b.weight ≡ weight_of o p true → u (u (u x a) n) b ≡ u (u x n) b
  late-important empty a n b ea en eb = rw (fills c a, fills c n, over-important a n ea en, over-normal n b en eb) (over-alike true a b ea eb)
  late-important (held z) a n b ea en eb = go (answer z (weight_of o p false)) (answer z (weight_of o p true))
    where
      go : Answer z (weight_of o p false) → Answer z (weight_of o p true) → u (u (u (held z) a) n) b ≡ u (u (held z) n) b
      go h (stay k) = rw (k a ea)
      go (stay h) (give k) = rw (k a ea, h n en, k b eb, over-important a n ea en) (over-alike true a b ea eb)
      go (give h) (give k) = rw (k a ea, h n en, over-important a n ea en, over-normal n b en eb) (over-alike true a b ea eb)

-- ---- the styles of a rule
-- what one offers its slot
unfoldable pub candidate_of : {A : Type 0} → ℕ → Specificity → Styled A → Candidate A
candidate_of o p d = record { weight = record { important = d.important; origin = o; spec = p }; value = d.value }

-- and what the slot then holds
unfoldable pub update_from : {A : Type 0} → Cascade → ℕ → Specificity → Slot A → Styled A → Slot A
update_from c o p x d = update_by c x (candidate_of o p d)

-- what a style offers weighs by the rule's origin and specificity and by whether the style is important
weighs : {A : Type 0} (o : ℕ) (p : Specificity) (i : Bool) (d : Styled A) → d.important ≡ i → (candidate_of o p d).weight ≡ weight_of o p i
unfolding candidate_of
weighs o p i d e = rw e

-- they settle in both cascades
pub rule-settled : {A : Type 0} (c : Cascade) (o : ℕ) (p : Specificity) → Settled {A = A} (update_from c o p)
unfolding update_from
rule-settled c o p =
    record {
      normal-again = λ x a b e f. again c o p false x (candidate_of o p a) (candidate_of o p b) (weighs o p false a e) (weighs o p false b f);
      important-again = λ x a b e f. again c o p true x (candidate_of o p a) (candidate_of o p b) (weighs o p true a e) (weighs o p true b f);
      normal-late = λ x a i b e g f. late-normal c o p x (candidate_of o p a) (candidate_of o p i) (candidate_of o p b) (weighs o p false a e) (weighs o p true i g) (weighs o p false b f);
      important-late = λ x a n b e g f. late-important c o p x (candidate_of o p a) (candidate_of o p n) (candidate_of o p b) (weighs o p true a e) (weighs o p false n g) (weighs o p true b f);
    }
