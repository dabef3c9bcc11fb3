-- Keywords: what the first name of a value that a table has stands for.
use Prim.Native.Nat.{ℕ, zero, suc, ◌+◌, ◌*◌, ◌-◌, ◌≤◌, ◌<◌}
use mathlib.Core.Path.{◌≡◌, refl, sym, ap, subst, ◌∙◌}
use mathlib.Core.Bool.{Bool, true, false}
use mathlib.Core.List.{List, [], ◌∷◌}
use Rattle.std.specs.Prelude.{Option, Some, None, is_some, unwrap_or, MatchOption, IfSome, IsSomeAnd}
use native.Mathlib.Omega.{arith}
use lib.ListN.{get_or, drop}
use denote.Param.Members.{Mut, Called}
use Rattle.std.proofs.lemmas.Iterator.Adapters.{option_map_id}
use Rattle.std.specs.Iterator.Runs.{SomeRun, Run, CallKeepsClosure, AllItemsGive, IsFirstToGive, ItemsCountUp}
use Rattle.combinators.specs.Choice.{is}
use Rattle.combinators.proofs.Rules.{pick_true, pick-false, told}
use Rattle.lexer.specs.Token.{Token, ident}
use Rattle.lexer.specs.TokenRow.{token_width, kind_column, ident_kind}
use Rattle.syntax.specs.Declaration.{WhiteSpace, normal}
use Rattle.values.specs.Words.{Entry, Found, found, missing, lookup, on_found}
use Rattle.values.specs.View.{token_here, first_text, tokens_at}
use Rattle.values.specs.Property.{first_word, overflows, overflow_of, displays, display_of, white_spaces, white_space_of, visibilities, visibility_of}
use Rattle.values.specs.KeywordAnswer.{overflow_word, white_space_word, overflow_answer}
use Rattle.values.specs.declared.keywords.WhiteSpace as declared_white_space
use Rattle.values.proofs.TokenKinds.{is_kind, first-told, visibility-told, visibility-more}
use Rattle.values.proofs.TokenViews.{ident-text, kind-told, here-text, tokens-here, tokens_none, next-token, no-token}
use Rattle.values.proofs.WordLaws.{mapped, found_as, on-found-as, lookup-mapped}

module _ {A : Type 0} (table : List (Entry A)) where
  -- the first word of a value is that of its first token, or else that of the others
  first-or : (k : Token) (ks : List Token) → first_word table (k ∷ ks) ≡ on_found (first_word table (k ∷ [])) (λ a. found a) (first_word table ks)
  unfolding first_word on_found
  first-or (ident b) ks = go (lookup b table) (first_word table ks)
    where
      go : (x m : Found A) → on_found x (λ a. found a) m ≡ on_found (on_found x (λ a. found a) missing) (λ a. found a) m
      go (found a) m = refl
      go missing m = refl
  first-or _ ks = refl

  module _ (rows store : List ℕ) where
    -- ---- `word_at`: the token whose row starts at `at`, and b that it is a name
    module _ (at : ℕ) (b : Bool) (e : b ≡ is (get_or rows (at + kind_column) 0) ident_kind) where
      -- the test of the token is that of its row
      named : (v : Bool) → b ≡ v → is_kind ident_kind (token_here rows store at) ≡ v
      named v p = kind-told rows store at ident_kind ident-text.kind b v e p

      -- it is one, with the text w
      pub name-there : b ≡ true → (w : List ℕ) → w ≡ first_text rows store at → (r : Option A) → r ≡ on_found (lookup w table) Some None
          → r ≡ on_found (first_word table (token_here rows store at ∷ [])) Some None
      name-there p w ew r er =
          er ∙ ap (λ x. on_found (lookup x table) Some None) (ew ∙ sym (here-text rows store at ident_kind ident-text (told _ _ _ e p)))
          ∙ ap (λ (f : Found A). on_found f Some None) (pick_true _ _ _ _ (named true p) (go (lookup _ table)) ∙ sym (first-told table _ []))
        where
          go : (x : Found A) → x ≡ on_found x (λ a. found a) (first_word table [])
          go (found a) = unfold on_found in refl
          go missing = unfold on_found first_word in refl

      -- a token that is no name stands for nothing
      pub name-none : b ≡ false → None ≡ on_found (first_word table (token_here rows store at ∷ [])) Some None
      unfolding first_word on_found
      name-none p = ap (λ (f : Found A). on_found f Some None) (pick-false _ _ _ _ (named false p) refl ∙ sym (first-told table _ []))

    -- ---- `first_word`: what the i-th token stands for
    abbrev word : ℕ → Option A
    word i = on_found (first_word table (token_here rows store (i * token_width) ∷ [])) Some None

    module _ (n : ℕ) where
      -- what the tokens from the i-th on stand for
      abbrev from : ℕ → Found A
      from i = first_word table (tokens_at (drop (i * token_width) rows) store (n - i))

      -- that of the i-th, or else that of those behind it
      turn : (i : ℕ) → i < n → from i ≡ on_found (first_word table (token_here rows store (i * token_width) ∷ [])) (λ a. found a) (from (i + 1))
      turn i h = ap (first_word table) (next-token rows store n i h) ∙ first-or _ _

      -- a token that stands for nothing is passed
      passed : (i : ℕ) → i < n → word i ≡ None → from i ≡ from (i + 1)
      unfolding on_found
      passed i h e = turn i h ∙ go _ _ e
        where
          go : (x m : Found A) → on_found x Some None ≡ None → on_found x (λ a. found a) m ≡ m
          go (found a) m p = absurd (let z : true ≡ false = ap is_some p in cc)
          go missing m p = refl

      -- so all before the i-th are passed
      all-passed : (i : ℕ) → i ≤ n → ((k : ℕ) → k < i → word k ≡ None) → first_word table (tokens_at rows store n) ≡ from i
      all-passed zero h e = let d : n - 0 ≡ n = omega arith in rw d
      all-passed (suc i) h e =
          let d : i + 1 ≡ suc i = omega arith in
          all-passed i (omega arith) (λ k l. e k (omega arith)) ∙ passed i (omega arith) (e i (omega arith)) ∙ ap from d

      -- where none stands for anything, nothing is found
      pub none-found : ((k : ℕ) → k < n → word k ≡ None) → None ≡ on_found (first_word table (tokens_at rows store n)) Some None
      unfolding first_word on_found
      none-found e = sym (ap (λ f. on_found f Some None) (all-passed n (omega arith) e ∙ ap (first_word table) (no-token rows store n n (omega arith))))

      -- what the first stands for that stands for anything is found
      pub first-found : (i : ℕ) → i < n → (a : A) → word i ≡ Some a → ((k : ℕ) → k < i → word k ≡ None)
          → Some a ≡ on_found (first_word table (tokens_at rows store n)) Some None
      unfolding on_found
      first-found i h a p e = sym p ∙ go _ _ p ∙ sym (ap (λ f. on_found f Some None) (all-passed i (omega arith) e ∙ turn i h))
        where
          go : (x m : Found A) → on_found x Some None ≡ Some a → on_found x Some None ≡ on_found (on_found x (λ a. found a) m) Some None
          go (found b) m q = refl
          go missing m q = absurd (let z : false ≡ true = ap is_some q in cc)

      -- the word at which the calls over the tokens' numbers stopped
      pub run-found : {S F : Type 0} {steps : S → Option ℕ → S → Type 0} (s : S) (g : Mut F (ℕ × Unit {0}) (Option A)) (f : F)
          → ((p : Run steps) → p.from ≡ s → ItemsCountUp p 0 n)
          → ((i : ℕ) (r : Option A) (q : F) → Called g f (i, tt) r q → (q ≡ f) × (r ≡ word i))
          → (r : Option A)
          → SomeRun steps s (λ p. MatchOption r ((p.whole ≡ true) × AllItemsGive p g f None) (λ y. (i : ℕ) × (i < p.len) × (p.len ≡ i + 1) × IsFirstToGive p g f (Some y) None i))
          → r ≡ on_found (first_word table (tokens_at rows store n)) Some None
      run-found {F} s g f u k r (p, e, m) = go r m
        where
          keeps : CallKeepsClosure g f
          keeps x r q c = (k x.0 r q c).0

          up : ItemsCountUp p 0 n
          up = u p e

          at-is : (i : ℕ) → i < p.len → p.at i ≡ Some i
          at-is i h = let z : 0 + i ≡ i = omega arith in sym (option_map_id _) ∙ up.3 i h ∙ ap Some z

          go : (r : Option A) → MatchOption r ((p.whole ≡ true) × AllItemsGive p g f None) (λ y. (i : ℕ) × (i < p.len) × (p.len ≡ i + 1) × IsFirstToGive p g f (Some y) None i)
              → r ≡ on_found (first_word table (tokens_at rows store n)) Some None
          go None c =
              none-found (λ j h. sym (k j None f (subst (λ o. IfSome o (λ x. Called g f (x, tt {0}) None f)) (at-is j (omega (arith, up.1 c.0))) (c.1 keeps j))).1)
          go (Some y) c =
              let t = c.3 keeps in
              first-found c.0 (omega (arith, c.1, up.0)) y
              (sym (k c.0 (Some y) f (subst (λ o. IsSomeAnd o (λ x. Called g f (x, tt {0}) (Some y) f)) (at-is c.0 c.1) t.0)).1)
              (λ j h. sym (k j None f (subst (λ o. IsSomeAnd o (λ x. Called g f (x, tt {0}) None f)) (at-is j (omega (arith, c.1))) (t.1 j h))).1)

-- ---- the code's tables
-- the first word of a table stands for f of what it stands for
first-mapped : {A B : Type 0} (f : A → B) (es : List (Entry A)) (ks : List Token) → first_word (mapped f es) ks ≡ found_as f (first_word es ks)
unfolding first_word
first-mapped f es [] = unfold found_as on_found in refl
first-mapped f es (ident b ∷ ks) = rw (lookup-mapped f b es, first-mapped f es ks) (go (lookup b es) (first_word es ks))
  where
    go : (x m : Found _) → on_found (found_as f x) (λ a. found a) (found_as f m) ≡ found_as f (on_found x (λ a. found a) m)
    go (found a) m = unfold found_as on_found in refl
    go missing m = unfold found_as on_found in refl
first-mapped f es (_ ∷ ks) = first-mapped f es ks

-- a value names an overflow
pub overflow-told : (ks : List Token) → on_found (first_word (mapped overflow_word overflows) ks) Some None ≡ overflow_answer (overflow_of ks)
unfolding overflow_answer overflow_of
overflow-told ks = ap (λ f. on_found f Some None) (first-mapped overflow_word overflows ks) ∙ on-found-as overflow_word (first_word overflows ks) Some None

-- a value names `none`, or does not
pub display-told : (ks : List Token) (r : Option Bool) → r ≡ on_found (first_word displays ks) Some None → unwrap_or r false ≡ display_of ks
unfolding display_of
display-told ks r e = go (first_word displays ks) e
  where
    go : (x : Found Bool) → r ≡ on_found x Some None → unwrap_or r false ≡ on_found x (λ a. a) false
    go (found a) e = unfold on_found in ap (λ o. unwrap_or o false) e
    go missing e = unfold on_found in ap (λ o. unwrap_or o false) e

-- a value names a white space, or it is `normal`
pub white-space-told : (ks : List Token) (r : Option declared_white_space.WhiteSpace) → r ≡ on_found (first_word (mapped white_space_word white_spaces) ks) Some None
    → unwrap_or r (white_space_word normal) ≡ white_space_word (white_space_of ks)
unfolding white_space_of
white-space-told ks r e = go (first_word white_spaces ks) (e ∙ ap (λ f. on_found f Some None) (first-mapped white_space_word white_spaces ks))
  where
    go : (x : Found WhiteSpace) → r ≡ on_found (found_as white_space_word x) Some None
        → unwrap_or r (white_space_word normal) ≡ white_space_word (on_found x (λ a. a) normal)
    go (found a) e = unfold found_as on_found in ap (λ o. unwrap_or o (white_space_word normal)) e
    go missing e = unfold found_as on_found in ap (λ o. unwrap_or o (white_space_word normal)) e

-- ---- `parse_visibility`: a value of n tokens
-- no token, or two and more, are no visibility
pub visibility-none : (rows store : List ℕ) (n : ℕ) → ¬ (n ≡ 1) → None ≡ on_found (visibility_of (tokens_at rows store n)) Some None
unfolding visibility_of on_found
visibility-none rows store zero d = rw (tokens_none rows store)
visibility-none rows store (suc zero) d = absurd (d refl)
visibility-none rows store (suc (suc n)) d = rw (tokens-here rows store 0 (suc n), tokens-here rows store token_width n, visibility-more (token_here rows store 0) (token_here rows store token_width) _)

-- one token is a visibility where it is a word of the table
pub visibility-one : (rows store : List ℕ) (n : ℕ) → n ≡ 1
    → on_found (first_word visibilities (token_here rows store 0 ∷ [])) Some None ≡ on_found (visibility_of (tokens_at rows store n)) Some None
visibility-one rows store n e =
    let one : tokens_at rows store n ≡ token_here rows store 0 ∷ [] = ap (tokens_at rows store) e ∙ tokens-here rows store 0 0 ∙ ap (λ ks. token_here rows store 0 ∷ ks) (tokens_none (drop token_width rows) store) in
    sym (ap (λ ks. on_found (visibility_of ks) Some None) one ∙ ap (λ f. on_found f Some None) (visibility-told _))
