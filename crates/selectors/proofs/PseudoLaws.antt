-- Pseudo-classes: the name `nth-child`, read to the store and wiped, and its arguments.
use mathlib.Core.Path.{◌≡◌, refl, sym, ap, ◌∙◌}
use mathlib.Core.Bool.{Bool, true, false}
use mathlib.Core.List.{List, [], ◌∷◌}
use Prim.Native.Nat.{ℕ, ◌+◌, ◌-◌, ◌≤◌}
use native.Mathlib.Omega.{arith}
use lib.ListN.{length, get_or, take, drop, length-drop}
use lib.Seq.{sets}
use Rattle.std.specs.Prelude.{Option, Some, None, Ok, Err}
use Rattle.std.specs.Bool.{then_some}
use Prim.Native.Char.{code as ascii}
use Rattle.combinators.specs.Choice.{pick, is}
use Rattle.combinators.specs.Parsed.{Parsed, ok, err, on_parsed}
use Rattle.combinators.specs.Store.{wiped}
use Rattle.combinators.specs.Part.{part}
use Rattle.combinators.specs.Word.{same_text}
use Rattle.combinators.proofs.Lists.{rest, byte-there}
use Rattle.combinators.proofs.Rules.{pick_true, pick-false, pick-holds, told}
use Rattle.characters.specs.Literal.{text}
use Rattle.characters.specs.Utf8.{utf8}
use Rattle.lexer.specs.Name.{ident_of, name_text}
use Rattle.lexer.specs.declared.Written.{Written}
use Rattle.lexer.proofs.Bounds.{bound-two}
use Rattle.lexer.proofs.IdentBounds.{ident-fits}
use Rattle.lexer.proofs.Idents as idents
use Rattle.lexer.proofs.TokenBounds.{on-holds}
use Rattle.syntax.specs.Selector as syntax
use Rattle.syntax.specs.RuleLayout.{component_text}
use Rattle.syntax.proofs.Streams.{held-part, sets-held}
use Rattle.lexer.proofs.NameAnswers.{NameRead, named-from, unnamed-from}
use Rattle.selectors.specs.Outcome.{Outcome, reads, fails, panics, on_outcome, behind}
use Rattle.selectors.specs.Selector.{nth_args_of, pseudo_class_of}
use Rattle.selectors.specs.Reading.{written}
use Rattle.selectors.specs.ComponentAnswer.{component_answer, nth_child_name}
use Rattle.selectors.specs.Stores.{Clean}
use Rattle.selectors.proofs.AllLaws.{where-read, where-panics}
use Rattle.selectors.proofs.NthKeeps.{Numbered, args-keeps}
use Rattle.selectors.proofs.NthLaws.{answer-panic}
use Rattle.combinators.proofs.ZeroLaws.{zeros-back}
use Rattle.selectors.proofs.ComponentLaws.{ComponentAnswer, read_as, answer-bare, answer-none, read_by, fails_by, panics-by}
use Rattle.selectors.proofs.ReadingLaws.{panic_at}
use Rattle.selectors.specs.declared.components.Component as declared

-- nothing read has no text
pub none-textless : written component_text fails ≡ []
unfolding written on_outcome
none-textless = refl

-- ---- the returns of `nth_child_name`
-- the bytes of the name
nth-child-bytes : 0x6e ∷ 0x74 ∷ 0x68 ∷ 0x2d ∷ 0x63 ∷ 0x68 ∷ 0x69 ∷ 0x6c ∷ 0x64 ∷ [] ≡ text "nth-child"
unfolding text utf8 pick
nth-child-bytes = refl

-- a text that was stored is read back
read_back : (st z b : List ℕ) (fill m : ℕ) → z ≡ sets st fill b → m ≡ length b → fill + length b ≤ length st → part z fill m ≡ b
read_back st z b fill m ez em h = rw (ez, em) (held-part (sets st fill b) fill b (sets-held st fill b h))

-- by the name that was read
module _ (s : List ℕ) where
  -- without a name there is no `nth-child`
  name-none : ident_of s ≡ err → None ≡ nth_child_name s
  unfolding nth_child_name on_parsed
  name-none e = rw e

  -- the name `nth-child` takes its bytes
  name-known : (n : ℕ) (b : List ℕ) → ident_of s ≡ ok n b → same_text b (text "nth-child") ≡ true → Some n ≡ nth_child_name s
  unfolding nth_child_name on_parsed pick
  name-known n b e t = rw (e, t)

  -- any other name takes none
  name-other : (n : ℕ) (b : List ℕ) → ident_of s ≡ ok n b → same_text b (text "nth-child") ≡ false → None ≡ nth_child_name s
  unfolding nth_child_name on_parsed pick
  name-other n b e t = rw (e, t)

module _ (s st z : List ℕ) (fill : ℕ) (x : Option Written) (w : idents.Named (ident_of s) st fill x z) where
  -- the return where there is no name
  pub child-unnamed : x ≡ None → (None ≡ nth_child_name s) × (z ≡ st)
  unfolding name_text
  child-unnamed h =
      let e = unnamed-from _ (sym h ∙ w.0) in
      (name-none s e, w.1 ∙ ap (λ (p : Parsed (List ℕ)). sets st fill (name_text p)) e)

  module _ (c : Clean (length s) fill st) (n m : ℕ) (h : x ≡ Some (record { taken = n; length = m })) where
    -- the name that was read
    name : NameRead (ident_of s) n m
    name = named-from _ n m (sym h ∙ w.0)

    -- it is in the store
    stored : z ≡ sets st fill name.name
    unfolding name_text
    stored = w.1 ∙ ap (λ (p : Parsed (List ℕ)). sets st fill (name_text p)) name.reads

    -- the store has the name
    there : fill + length name.name ≤ length st
    there = let f = ident-fits s n name.name name.reads in omega (arith, f.within_text, bound-two f.bound, c.room)

    -- what is compared is the name
    named-part : part z fill m ≡ name.name
    named-part = read_back st z name.name fill m stored name.long there

    -- it is compared and wiped
    module _ (v : List ℕ) (ev : v ≡ part z fill m) (k : Bool) (ek : k ≡ same_text v (0x6e ∷ 0x74 ∷ 0x68 ∷ 0x2d ∷ 0x63 ∷ 0x68 ∷ 0x69 ∷ 0x6c ∷ 0x64 ∷ []))
        (y : List ℕ) (ey : y ≡ wiped fill m z) where
      -- the code's test is the definition's
      test : k ≡ same_text name.name (text "nth-child")
      test = ek ∙ rw (ev ∙ named-part, nth-child-bytes)

      -- the store is as it was
      wiped-back : y ≡ st
      wiped-back = ey ∙ ap (wiped fill m) stored ∙ zeros-back st fill c.zeros name.name m (omega (arith, name.long))

      -- the return where it is `nth-child`; the store is as it was
      pub child-known : k ≡ true → (Some n ≡ nth_child_name s) × (y ≡ st)
      child-known e = (name-known s n name.name name.reads (told _ _ _ test e), wiped-back)

      -- the return where it is another; the store is as it was
      pub child-other : k ≡ false → (None ≡ nth_child_name s) × (y ≡ st)
      child-other e = (name-other s n name.name name.reads (told _ _ _ test e), wiped-back)

      -- the return behind a name, by that test
      pub child-named : (then_some k n ≡ nth_child_name s) × (y ≡ st)
      child-named = go k refl
        where
          go : (b : Bool) → k ≡ b → (then_some k n ≡ nth_child_name s) × (y ≡ st)
          go true e = rw e (child-known e)
          go false e = rw e (child-other e)

-- ---- the returns of `parse_pseudo_class`
-- where the first byte is ':', the text has a byte
pub colon-there : (s : List ℕ) (t : Bool) → t ≡ is (get_or s 0 0) (ascii ":") → t ≡ true → 1 ≤ length s
colon-there s t et e = let l = byte-there s 0 (ascii ":") (omega arith) (told _ _ _ et e) in omega arith

-- a name that is `nth-child`
record Known (s : List ℕ) (k : ℕ) : Type 0 where
  name : List ℕ
  reading : ident_of s ≡ ok k name
  same_name : same_text name (text "nth-child") ≡ true

module _ (s : List ℕ) (o : Option ℕ) (ek : o ≡ nth_child_name s) where
  -- by the name that was read
  known_by : (k n : ℕ) (b : List ℕ) → ident_of s ≡ ok n b → (t : Bool) → same_text b (text "nth-child") ≡ t → o ≡ Some k → Known s k
  known_by k n b e true q d =
      let p : Some k ≡ Some n = sym d ∙ ek ∙ sym (name-known s n b e q) in
      let l : k ≡ n = cc in
      record { name = b; reading = rw l e; same_name = q }
  known_by k n b e false q d = absurd (let p : ◌≡◌ {A = Option ℕ} (Some k) None = sym d ∙ ek ∙ sym (name-other s n b e q) in cc)

  -- bytes taken say that `nth-child` was read
  known : (k : ℕ) → o ≡ Some k → Known s k
  known k d = go (ident_of s) refl
    where
      go : (p : Parsed (List ℕ)) → ident_of s ≡ p → Known s k
      go (ok n b) e = known_by k n b e _ refl d
      go err e = absurd (let p : ◌≡◌ {A = Option ℕ} (Some k) None = sym d ∙ ek ∙ sym (name-none s e) in cc)

  -- it was not, so nothing f makes of it is read
  other-by : (f : ℕ → List ℕ → Outcome syntax.Component) (n : ℕ) (b : List ℕ) → ident_of s ≡ ok n b → o ≡ None → (t : Bool) → same_text b (text "nth-child") ≡ t
      → pick (same_text b (text "nth-child")) (f n b) fails ≡ fails
  other-by f n b e z true q = absurd (let p : ◌≡◌ {A = Option ℕ} None (Some n) = sym z ∙ ek ∙ sym (name-known s n b e q) in cc)
  other-by f n b e z false q = sym (pick-false _ _ _ _ q refl)

  -- no bytes taken say that nothing can be read behind the name
  other : (f : ℕ → List ℕ → Outcome syntax.Component) → o ≡ None → on_parsed (ident_of s) (λ n b. pick (same_text b (text "nth-child")) (f n b) fails) fails ≡ fails
  other f z = go (ident_of s) refl
    where
      go : (p : Parsed (List ℕ)) → ident_of s ≡ p → on_parsed p (λ n b. pick (same_text b (text "nth-child")) (f n b) fails) fails ≡ fails
      go (ok n b) e = unfold on_parsed in other-by f n b e z _ refl
      go err e = unfold on_parsed in refl

-- the arguments as a component
module _ (u : List ℕ) (k : ℕ) where
  -- the arguments that stand behind k bytes, as a component
  abbrev pub args : Outcome syntax.Component
  args = behind k (nth_args_of u) (λ c. c)

  -- arguments that read are the component that they say
  pub args_read : (n : ℕ) (c : syntax.Component) → nth_args_of u ≡ reads n c → args ≡ reads (k + n) c
  unfolding behind on_outcome
  args_read n c e = rw e

  -- arguments that do not read are no component
  pub args-fail : nth_args_of u ≡ fails → args ≡ fails
  unfolding behind on_outcome
  args-fail e = rw e

  -- where the crate panics the place counts from the colon
  pub args-panic : (p : ℕ) → nth_args_of u ≡ panics p → args ≡ panics (k + p)
  unfolding behind on_outcome
  args-panic p e = rw e

module _ (s st : List ℕ) (t : Bool) (et : t ≡ is (get_or s 0 0) (ascii ":")) where
  -- without a colon there is no pseudo-class
  pub pseudo-missing : t ≡ false → (Ok None ≡ component_answer (pseudo_class_of s)) × (st ≡ st)
  unfolding pseudo_class_of
  pseudo-missing e = (answer-none _ (pick-false _ _ _ _ (told _ _ _ et e) refl), refl)

  module _ (e : t ≡ true) (z : List ℕ) (o : Option ℕ) (w : (o ≡ nth_child_name (take (length s - 1) (drop 1 s))) × (z ≡ st)) where
    -- of the rest of the text
    lent : o ≡ nth_child_name (drop 1 s)
    lent = w.0 ∙ ap nth_child_name (rest s 1)

    -- another name than `nth-child` is none
    pub pseudo-other : o ≡ None → (Ok None ≡ component_answer (pseudo_class_of s)) × (z ≡ st)
    unfolding pseudo_class_of
    pseudo-other h =
        (answer-none _ (pick_true _ _ _ _ (told _ _ _ et e) (sym (other (drop 1 s) o lent (λ n b. behind (1 + n) (nth_args_of (drop (1 + n) s)) (λ c. c)) h))), w.1)

    module _ (k : ℕ) (d : o ≡ Some k) where
      -- the name that was read
      q : Known (drop 1 s) k
      q = known (drop 1 s) o lent k d

      -- it lies within the text
      pub child-le : 1 ≤ length s → 1 + k ≤ length s
      child-le l = let f = ident-fits (drop 1 s) k q.name q.reading in omega (arith, f.within_text, length-drop 1 s)

      -- the definition goes on with the arguments
      pseudo-is : args (drop (1 + k) s) (1 + k) ≡ pseudo_class_of s
      unfolding pseudo_class_of on_parsed pick
      pseudo-is = rw (told _ _ _ et e, q.reading, q.same_name)

      -- by the answer for the arguments, which stand behind the name
      module _ (r : ComponentAnswer) (er : r ≡ component_answer (nth_args_of (take (length s - (1 + k)) (drop (1 + k) s)))) where
        -- of the rest of the text
        read : r ≡ component_answer (nth_args_of (drop (1 + k) s))
        read = er ∙ ap (λ (u : List ℕ). component_answer (nth_args_of u)) (rest s (1 + k))

        -- the return where the arguments do not read
        pub pseudo-none : r ≡ Ok None → (Ok None ≡ component_answer (pseudo_class_of s)) × (z ≡ st)
        pseudo-none h = (answer-none _ (sym (args-fail _ (1 + k) (fails_by _ (sym h ∙ read))) ∙ pseudo-is), w.1)

        module _ (n : ℕ) (x : declared.Component) (h : r ≡ Ok (Some (read_as n x))) where
          -- they lie within the text
          pub pseudo-le : 1 ≤ length s → 1 + k + n ≤ length s
          pseudo-le l =
              let g = read_by _ (read_as n x) (sym h ∙ read) in
              omega (arith, child-le l, (where-read (length (drop (1 + k) s)) _ _ n g.component g.reads-it (args-keeps (drop (1 + k) s))).0, length-drop (1 + k) s)

          -- the return where they do
          pub pseudo-nth : (Ok (Some (read_as (1 + k + n) x)) ≡ component_answer (pseudo_class_of s)) × (z ≡ st)
          pseudo-nth =
              let g = read_by _ (read_as n x) (sym h ∙ read) in
              (answer-bare _ _ g.component x (sym g.coded) (sym (args_read _ (1 + k) n g.component g.reads-it) ∙ pseudo-is), w.1)

        module _ (p : ℕ) (h : r ≡ Err (panic_at p)) where
          -- it lies within the text
          pub pseudo-panic-le : 1 ≤ length s → 1 + k + p ≤ length s
          pseudo-panic-le l = omega (arith, child-le l, where-panics (length (drop (1 + k) s)) _ _ p (panics-by _ (panic_at p) (sym h ∙ read)) (args-keeps (drop (1 + k) s)), length-drop (1 + k) s)

          -- the return where the crate panics
          pub pseudo-panic : (Err (panic_at (1 + k + p)) ≡ component_answer (pseudo_class_of s)) × (z ≡ st)
          pseudo-panic = (answer-panic _ _ (sym (args-panic _ (1 + k) p (panics-by _ (panic_at p) (sym h ∙ read))) ∙ pseudo-is), w.1)

-- an+b has no text
nth-textless : (c : syntax.Component) → Numbered c → component_text c ≡ []
unfolding component_text
nth-textless c h = rw h.is-nth

-- the text of a pseudo-class is empty
args-textless : (u : List ℕ) (k : ℕ) (o : Outcome syntax.Component) → nth_args_of u ≡ o → written component_text (args u k) ≡ []
unfolding written on_outcome
args-textless u k (reads n c) e = rw (args_read u k n c e) (nth-textless c (where-read (length u) _ _ n c e (args-keeps u)).1)
args-textless u k fails e = rw (args-fail u k e)
args-textless u k (panics p) e = rw (args-panic u k p e)

-- by the parts of the definition
pub pseudo-textless : (s : List ℕ) → written component_text (pseudo_class_of s) ≡ []
unfolding pseudo_class_of
pseudo-textless s =
    pick-holds (λ (o : Outcome syntax.Component). written component_text o ≡ []) _ _ _
    (λ _. on-holds (λ (o : Outcome syntax.Component). written component_text o ≡ []) (ident_of (drop 1 s)) _ _
    (λ n b _. pick-holds (λ (o : Outcome syntax.Component). written component_text o ≡ []) _ _ _ (λ _. args-textless (drop (1 + n) s) (1 + n) _ refl) (λ _. none-textless)) (λ _. none-textless))
    (λ _. none-textless)
