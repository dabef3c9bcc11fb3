-- Components of selectors: what the readers of parts say of the definition, and their returns.
use mathlib.Core.Path.{◌≡◌, refl, sym, ap, ◌∙◌}
use mathlib.Core.Bool.{Bool, true, false}
use mathlib.Core.List.{List, [], ◌∷◌}
use Prim.Native.Nat.{ℕ, ◌+◌, ◌≤◌, ◌<◌}
use native.Mathlib.Nat.{zero-add}
use native.Mathlib.Omega.{arith}
use borrow.Author.Tests.{le-leb, lt-leb, ne_eqb}
use lib.ListN.{length, get_or, take, drop}
use lib.Seq.{sets}
use lib.Pointwise.{pointwise}
use lib.Dec.{eqb}
use Rattle.std.specs.Prelude.{Option, Some, None, is_some, IfSome, MatchOption, Result, Ok, Err, ltb, ◌&&◌}
use Rattle.std.specs.Borrow.{Bor}
use Rattle.std.specs.Bool.{then_some}
use Rattle.std.proofs.lemmas.Bool.{ltb-true, ltb-false}
use Prim.Native.Char.{code as ascii}
use Rattle.combinators.specs.Choice.{pick, is}
use Rattle.combinators.specs.declared.taken.Taken.{Taken}
use Rattle.combinators.specs.Parsed.{Parsed, ok, err}
use Rattle.combinators.proofs.Lists.{byte-there}
use Rattle.combinators.proofs.Rules.{pick_true, pick-false, told}
use Rattle.lexer.specs.Name.{ident_of, identstring_of, name_text}
use Rattle.lexer.specs.Whitespace.{skip_whitespace}
use Rattle.lexer.specs.declared.Written.{Written}
use Rattle.lexer.proofs.Idents as idents
use Rattle.syntax.specs.Selector as syntax
use Rattle.syntax.specs.Selector.{star, child, descendant, class, element, hash}
use Rattle.syntax.specs.RuleLayout.{component_text}
use Rattle.lexer.proofs.NameAnswers.{named-from, unnamed-from}
use Rattle.selectors.specs.Outcome.{Outcome, reads, fails, panics, on_outcome, parsed, or_else}
use Rattle.selectors.specs.Selector.{class_of, hash_of, marked, blank_of}
use Rattle.selectors.specs.Reading.{written}
use Rattle.selectors.specs.Stores.{Clean}
use Rattle.selectors.specs.ComponentAnswer.{component_coded, component_answer, mark_of, mark_taken}
use Rattle.selectors.specs.declared.components.Component as declared
use Rattle.selectors.specs.declared.components.Component.TheVariants as code
use Rattle.selectors.specs.declared.readings.Panic.{Panic}

-- ---- what a reader leaves: its answer, and the store
-- what a reader of components answers
abbrev pub ComponentAnswer : Type 0
ComponentAnswer = Result (Option (Taken declared.Component)) Panic

-- a component and the bytes that it takes, as they are answered
abbrev pub read_as : ℕ → declared.Component → Taken declared.Component
read_as n d = record { taken = n; value = d }

abbrev pub Left : Outcome syntax.Component → List ℕ → ℕ → ComponentAnswer → List ℕ → Type 0
Left o st fill r z = (r ≡ component_answer o) × (z ≡ sets st fill (written component_text o))

-- nothing was read, and nothing written
pub left-none : (o : Outcome syntax.Component) → fails ≡ o → (st : List ℕ) (fill : ℕ) → Left o st fill (Ok None) st
unfolding component_answer written on_outcome
left-none o e st fill = rw (← e) (refl, refl)

-- a component is answered as the code has it
pub answer-bare : (o : Outcome syntax.Component) (n : ℕ) (c : syntax.Component) (d : declared.Component) → component_coded c ≡ d → reads n c ≡ o → Ok (Some (read_as n d)) ≡ component_answer o
unfolding component_answer on_outcome
answer-bare o n c d b e = rw (← e, b)

-- `>`, `*` and white space have no texts
bare : (component_coded child ≡ code.Child) × (component_coded star ≡ code.Star) × (component_coded descendant ≡ code.Descendant)
unfolding component_coded
bare = (refl, refl, refl)

-- what does not read is answered as no component
pub answer-none : (o : Outcome syntax.Component) → fails ≡ o → Ok None ≡ component_answer o
unfolding component_answer on_outcome
answer-none o e = rw (← e)

-- ---- what an answer says of the component
pub record Read (o : Outcome syntax.Component) (n : ℕ) (d : declared.Component) : Type 0 where
  pub component : syntax.Component
  pub reads-it : o ≡ reads n component
  pub coded : d ≡ component_coded component

-- an answer with a component says that it was read
pub read_by : (o : Outcome syntax.Component) (got : Taken declared.Component) → Ok (Some got) ≡ component_answer o → Read o got.taken got.value
unfolding component_answer on_outcome
read_by (reads m c) got e = let q : got.taken ≡ m = cc in record { component = c; reads-it = rw q; coded = cc }
read_by fails got e = absurd (let z : ◌≡◌ {A = ℕ} 0 1 = cc in omega arith)
read_by (panics p) got e = absurd (let z : ◌≡◌ {A = ℕ} 0 1 = cc in omega arith)

-- an answer without a component says that none reads
pub fails_by : (o : Outcome syntax.Component) → Ok None ≡ component_answer o → o ≡ fails
unfolding component_answer on_outcome
fails_by (reads m c) e = absurd (let z : ◌≡◌ {A = ℕ} 0 1 = cc in omega arith)
fails_by fails e = refl
fails_by (panics p) e = absurd (let z : ◌≡◌ {A = ℕ} 0 1 = cc in omega arith)

-- an answer with a panic says where the crate panics
pub panics-by : (o : Outcome syntax.Component) (p : Panic) → Err p ≡ component_answer o → o ≡ panics p.place
unfolding component_answer on_outcome
panics-by (reads m c) p e = absurd (let z : ◌≡◌ {A = ℕ} 0 1 = cc in omega arith)
panics-by fails p e = absurd (let z : ◌≡◌ {A = ℕ} 0 1 = cc in omega arith)
panics-by (panics q) p e = let h : p.place ≡ q = cc in rw h

-- ---- the first of two that reads or panics
module _ {A : Type 0} (o o' : Outcome A) where
  -- where the first alternative fails the second decides
  pub or-fails : o ≡ fails → or_else o o' ≡ o'
  unfolding or_else
  or-fails e = rw e

  -- where the first alternative reads it decides
  pub or-reads : (n : ℕ) (a : A) → o ≡ reads n a → or_else o o' ≡ reads n a
  unfolding or_else
  or-reads n a e = rw e

-- of three alternatives it does not matter which two are taken together
pub or_assoc : {A : Type 0} (o o' o'' : Outcome A) → or_else (or_else o o') o'' ≡ or_else o (or_else o' o'')
unfolding or_else
or_assoc (reads n a) o' o'' = refl
or_assoc fails o' o'' = refl
or_assoc (panics p) o' o'' = refl

-- ---- `mark_taken`: white space or none, and a mark
module _ (s : List ℕ) (mark w : ℕ) (ew : w ≡ skip_whitespace s) (t : Bool) (et : t ≡ is (get_or s w 0) mark) where
  -- a mark that is found stands before the end of the text
  pub mark-before : 1 ≤ mark → t ≡ true → w + 1 ≤ length s
  mark-before h e = let l = byte-there s w mark (omega arith) (told _ _ _ et e) in omega arith

  -- with the mark there, it and the white space around it are taken
  pub mark-there : t ≡ true → (r : ℕ) → r ≡ w + 1 + skip_whitespace (drop (w + 1) s) → Some r ≡ mark_taken s mark
  unfolding mark_taken
  mark-there e r er = pick_true _ _ _ _ (rw (← ew) (told _ _ _ et e)) (rw (← ew, ← er))

  -- without it nothing is taken
  pub mark-missing : t ≡ false → None ≡ mark_taken s mark
  unfolding mark_taken
  mark-missing e = pick-false _ _ _ _ (rw (← ew) (told _ _ _ et e)) refl

  -- so much is taken where it is there
  pub mark_by : (P : ℕ → Type 0) (o : Option ℕ) → is_some o ≡ t → IfSome o P → ((r : ℕ) → P r → r ≡ w + 1 + skip_whitespace (drop (w + 1) s)) → o ≡ mark_taken s mark
  mark_by P (Some r) v q f = mark-there (sym v) r (f r q)
  mark_by P None v q f = mark-missing (sym v)

-- by the bytes that it takes
module _ (s : List ℕ) (mark : ℕ) (c : syntax.Component) (o : Option ℕ) (er : o ≡ mark_taken s mark) where
  abbrev behind-mark : ℕ
  behind-mark = skip_whitespace s + 1 + skip_whitespace (drop (skip_whitespace s + 1) s)

  -- by the test for the mark
  marked_by : (b : Bool) → is (get_or s (skip_whitespace s) 0) mark ≡ b → ((r : ℕ) → o ≡ Some r → reads r c ≡ marked s mark c) × (o ≡ None → fails ≡ marked s mark c)
  unfolding marked mark_taken pick
  marked_by true e = (λ r h. let q : Some r ≡ Some behind-mark = sym h ∙ er ∙ rw e in let k : r ≡ behind-mark = cc in rw (k, e), λ h. absurd (let q : ◌≡◌ {A = Option ℕ} None (Some behind-mark) = sym h ∙ er ∙ rw e in cc))
  marked_by false e = (λ r h. absurd (let q : ◌≡◌ {A = Option ℕ} (Some r) None = sym h ∙ er ∙ rw e in cc), λ h. rw e)

  -- where bytes were taken the mark reads as its component
  marked-some : (r : ℕ) → o ≡ Some r → reads r c ≡ marked s mark c
  marked-some r h = (marked_by _ refl).0 r h

  -- where none were it does not
  marked-none : o ≡ None → fails ≡ marked s mark c
  marked-none h = (marked_by _ refl).1 h

-- ---- the returns of `parse_mark`
module _ (s : List ℕ) (x : Option ℕ) (ei : x ≡ mark_taken s (ascii ">")) where
  -- where `>` takes bytes it is the component
  pub mark-child : (i : ℕ) → x ≡ Some i → Ok (Some (read_as i code.Child)) ≡ component_answer (mark_of s)
  unfolding mark_of
  mark-child i h = answer-bare _ i child code.Child bare.0 (sym (or-reads _ _ i child (sym (marked-some s (ascii ">") child x ei i h))))

  module _ (h : x ≡ None) (y : Option ℕ) (ej : y ≡ mark_taken s (ascii "*")) where
    -- where `>` takes no bytes, `*` or white space decides
    no-child : (o : Outcome syntax.Component) → o ≡ or_else (marked s (ascii "*") star) (blank_of s) → o ≡ mark_of s
    unfolding mark_of
    no-child o e = e ∙ sym (or-fails _ _ (sym (marked-none s (ascii ">") child x ei h)))

    -- else, where `*` takes bytes it is
    pub mark-star : (j : ℕ) → y ≡ Some j → Ok (Some (read_as j code.Star)) ≡ component_answer (mark_of s)
    mark-star j l = answer-bare _ j star code.Star bare.1 (no-child _ (sym (or-reads _ _ j star (sym (marked-some s (ascii "*") star y ej j l)))))

    module _ (l : y ≡ None) (k : ℕ) (ek : k ≡ skip_whitespace s) where
      -- where `*` takes none either, white space decides
      no-star : (o : Outcome syntax.Component) → o ≡ blank_of s → o ≡ mark_of s
      no-star o e = no-child o (e ∙ sym (or-fails _ _ (sym (marked-none s (ascii "*") star y ej l))))

      -- by whether white space takes bytes: it is the component, or there is none
      pub mark-blank : Ok (then_some (ltb 0 k) (read_as k code.Descendant)) ≡ component_answer (mark_of s)
      mark-blank = by-some (ltb 0 k) refl
        where
          by-some : (b : Bool) → ltb 0 k ≡ b → Ok (then_some b (read_as k code.Descendant)) ≡ component_answer (mark_of s)
          by-some true m = answer-bare _ k descendant code.Descendant bare.2 (no-star _ (unfold blank_of in rw (← ek) (pick_true _ _ _ _ (le-leb 1 k (ltb-true 0 k m)) refl)))
          by-some false m = answer-none _ (no-star _ (unfold blank_of in rw (← ek) (pick-false _ _ _ _ (lt-leb 1 k (omega (arith, ltb-false 0 k m))) refl)))

-- ---- components that have one text
pub record Texted (con : List ℕ → syntax.Component) (made : ℕ → declared.Component) : Type 0 where
  pub coded-is : (b : List ℕ) → component_coded (con b) ≡ made (length b)
  pub text-is : (b : List ℕ) → component_text (con b) ≡ b

-- a class is a component of one text
class-texted : Texted class code.Class
unfolding component_coded component_text
class-texted = record { coded-is = λ b. refl; text-is = λ b. refl }

-- a hash is a component of one text
hash-texted : Texted hash code.Hash
unfolding component_coded component_text
hash-texted = record { coded-is = λ b. refl; text-is = λ b. refl }

-- an element is a component of one text
element-texted : Texted element code.Element
unfolding component_coded component_text
element-texted = record { coded-is = λ b. refl; text-is = λ b. refl }

module _ (k : ℕ) (p : Parsed (List ℕ)) (con : List ℕ → syntax.Component) (made : ℕ → declared.Component) (tx : Texted con made) (o : Outcome syntax.Component) (eo : parsed k p con ≡ o)
    (st z : List ℕ) (fill : ℕ) (x : Option Written) (w : idents.Named p st fill x z) where
  -- the name that was read
  text-by : (n m : ℕ) (b : List ℕ) → p ≡ ok n b → m ≡ length b → Left (parsed k p con) st fill (Ok (Some (read_as (k + n) (made m)))) z
  unfolding parsed component_answer written on_outcome name_text
  text-by n m b e l = (rw (e, l, tx.coded-is b), w.1 ∙ rw (e, tx.text-is b))

  -- a name that was read makes the component, with its text in the store
  left-text : (n m : ℕ) → x ≡ Some (record { taken = n; length = m }) → Left o st fill (Ok (Some (read_as (k + n) (made m)))) z
  left-text n m h = let q = named-from p n m (sym h ∙ w.0) in rw (← eo) (text-by n m q.name q.reads q.long)

  -- where no name was read there is no component, and the store is as it was
  none-by : p ≡ err → Left (parsed k p con) st fill (Ok None) z
  unfolding parsed component_answer written on_outcome name_text
  none-by e = (rw e, w.1 ∙ rw e)

  -- without a name there is none, and the store is as it was
  left-unnamed : x ≡ None → Left o st fill (Ok None) z
  left-unnamed h = rw (← eo) (none-by (unnamed-from p (sym h ∙ w.0)))

-- ---- the returns of `parse_class` and `parse_hash`
-- the definition o is a mark, and what f reads behind it
pub record BehindMark (mark : ℕ) (f : List ℕ → Parsed (List ℕ)) (con : List ℕ → syntax.Component) (made : ℕ → declared.Component) (o : List ℕ → Outcome syntax.Component) : Type 0 where
  pub texted : Texted con made
  pub mark-some : 0 < mark
  pub definition : (s : List ℕ) → pick (is (get_or s 0 0) mark) (parsed 1 (f (drop 1 s)) con) fails ≡ o s

-- a class is a name behind a full stop
pub class-behind : BehindMark (ascii ".") ident_of class code.Class class_of
unfolding class_of
class-behind = record { texted = class-texted; mark-some = omega arith; definition = λ s. refl }

-- a hash is a name behind a number sign
pub hash-behind : BehindMark (ascii "#") identstring_of hash code.Hash hash_of
unfolding hash_of
hash-behind = record { texted = hash-texted; mark-some = omega arith; definition = λ s. refl }

-- what stripping a mark tells: none, or that it is there and what stands behind it
abbrev Stripped : List ℕ → ℕ → Option (Bor (List ℕ)) → Type 0
Stripped s mark o =
    MatchOption o (pointwise eqb (take 1 s) (mark ∷ []) ≡ false)
    (λ x. (pointwise eqb (take 1 s) (mark ∷ []) ≡ true) × (x.now ≡ drop 1 s) × (length x.now + 1 ≡ length s))

-- it tests the first byte
first-told : (s : List ℕ) (mark : ℕ) → 0 < mark → pointwise eqb (take 1 s) (mark ∷ []) ≡ is (get_or s 0 0) mark
unfolding is
first-told [] mark h = sym (ne_eqb 0 mark (λ e. absurd (omega arith)))
first-told (x ∷ s) mark h = go (eqb x mark)
  where
    go : (b : Bool) → (b && true) ≡ b
    go true = refl
    go false = refl

module _ {mark : ℕ} {f : List ℕ → Parsed (List ℕ)} {con : List ℕ → syntax.Component} {made : ℕ → declared.Component} {o : List ℕ → Outcome syntax.Component} (d : BehindMark mark f con made o)
    (s : List ℕ) (st : List ℕ) (fill : ℕ) where
  -- without the mark there is no component
  pub text-missing : (q : Option (Bor (List ℕ))) → Stripped s mark q → q ≡ None → Left (o s) st fill (Ok None) st
  text-missing None w e = left-none _ (pick-false _ _ _ _ (sym (first-told s mark d.mark-some) ∙ w) refl ∙ d.definition s) st fill
  text-missing (Some u) w e = absurd (let z : ◌≡◌ {A = Option (Bor (List ℕ))} (Some u) None = e in cc)

  module _ (q : Option (Bor (List ℕ))) (v : Stripped s mark q) (u : Bor (List ℕ)) (e : q ≡ Some u) where
    -- what is lent is what stands behind the mark
    behind-mark-as : (q : Option (Bor (List ℕ))) → Stripped s mark q → q ≡ Some u → (is (get_or s 0 0) mark ≡ true) × ((u.now ≡ drop 1 s) × (length u.now + 1 ≡ length s))
    behind-mark-as None v e = absurd (let z : ◌≡◌ {A = Option (Bor (List ℕ))} None (Some u) = e in cc)
    behind-mark-as (Some x) v e =
        let z : x ≡ u = cc in
        rw (← z) (sym (first-told s mark d.mark-some) ∙ v.0, (v.1, v.2))

    -- which is one byte shorter
    pub text-shorter : length u.now + 1 ≡ length s
    text-shorter = (behind-mark-as q v e).1.1

    module _ (z : List ℕ) (x : Option Written) (w : idents.Named (f u.now) st fill x z) where
      -- the definition, of what was lent
      text_at : parsed 1 (f u.now) con ≡ o s
      text_at =
          let h = behind-mark-as q v e in
          ap (λ (l : List ℕ). parsed 1 (f l) con) h.1.0 ∙ pick_true _ _ _ _ h.0 refl ∙ d.definition s

      -- the return where the name was read
      pub text-read : (n m : ℕ) → x ≡ Some (record { taken = n; length = m }) → Left (o s) st fill (Ok (Some (read_as (1 + n) (made m)))) z
      text-read = left-text 1 _ con made d.texted _ text_at st z fill x w

      -- the return where it was not
      pub text-unread : x ≡ None → Left (o s) st fill (Ok None) z
      text-unread = left-unnamed 1 _ con made d.texted _ text_at st z fill x w

-- ---- the returns of `parse_element`
module _ (s st z : List ℕ) (fill : ℕ) (x : Option Written) (w : idents.Named (ident_of s) st fill x z) where
  -- the return where a name was read: an element
  pub element-read : (n m : ℕ) → x ≡ Some (record { taken = n; length = m }) → Left (parsed 0 (ident_of s) element) st fill (Ok (Some (read_as n (code.Element m)))) z
  element-read n m h =
      let q = left-text 0 _ element code.Element element-texted _ refl st z fill x w n m h in
      (ap (λ (k : ℕ). Ok (Some (read_as k (code.Element m)))) (sym (zero-add n)) ∙ q.0, q.1)

  -- the return where it was not
  pub element-unnamed : x ≡ None → Left (parsed 0 (ident_of s) element) st fill (Ok None) z
  element-unnamed = left-unnamed 0 _ element code.Element element-texted _ refl st z fill x w

-- a store that is the same is as clean
pub clean-same : (n f : ℕ) (st z : List ℕ) → z ≡ st → Clean n f st → Clean n f z
clean-same n f st z e c = rw e c
