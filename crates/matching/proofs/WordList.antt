-- The class test looks for a word of a whitespace-separated list of words: what `has_word` finds in the bytes of a text are the words of its characters.
use Prim.Native.Nat.{ℕ, zero, suc, ◌+◌, ◌≤◌}
use mathlib.Core.Bool.{Bool, true, false}
use mathlib.Core.List.{List, [], ◌∷◌, ◌++◌, append_assoc}
use mathlib.Core.Logic.{◌⊎◌, inl, inr, ⊎_elim}
use mathlib.Core.Path.{◌≡◌, refl, sym, ap, subst, ◌∙◌}
use native.Mathlib.Omega.{arith}
use lib.ListN.{length, take, drop, length-append}
use lib.Seq.{take-append_seam, drop-append_seam}
use Rattle.combinators.specs.All.{All}
use Rattle.combinators.specs.Choice.{pick, or, is}
use Rattle.combinators.specs.Repeat.{many}
use Rattle.combinators.specs.Word.{same_text}
use Rattle.combinators.proofs.Repeats.{many-took, many-stop, many-from}
use Rattle.combinators.proofs.Rules.{never, pick_true, pick-false, pick-holds, is-yes, is-no, either, or_left, or-second, Exactly}
use Rattle.combinators.proofs.Words.{same-is, same_self}
use Rattle.characters.specs.Trim.{white_of, white_taken, word_of, word_taken, trimmed_start}
use Rattle.characters.specs.Utf8.{is_scalar, utf8, scalar_of, valid, encode, Scalars}
use Rattle.characters.specs.Utf8.Scalars.{none, more}
use Rattle.characters.specs.WhiteSpace.{is_white_space}
use Rattle.std.specs.Prelude.{Option, option_map, unwrap_or}
use Rattle.combinators.specs.declared.taken.Taken.{Taken}
use Rattle.characters.proofs.RoundTrip.{read_back}
use Rattle.characters.proofs.Scalars.{utf8-some}
use Rattle.characters.proofs.Texts.{valid-is}
use Rattle.matching.specs.Texts.{word_length, word_among, has_word}
use Rattle.matching.specs.Documents.{Some, is_selectors_white_space, longer, pieces, without_empty, words, WordOf, PlainText}

-- ---- two things that each follow from the other

-- where P holds exactly if Q does, and Q exactly if R does, P holds exactly if R does
pub exactly-then : (P Q R : Type 0) → Exactly P Q → Exactly Q R → Exactly P R
exactly-then P Q R f g = ((λ p. g.0 (f.0 p)), (λ r. f.1 (g.1 r)))

-- where P holds exactly if Q does, and R exactly if S does, P or R holds exactly if Q or S does
pub exactly-either : (P Q R S : Type 0) → Exactly P Q → Exactly R S → Exactly (P ⊎ R) (Q ⊎ S)
exactly-either P Q R S f g = (⊎_elim (λ p. inl (f.0 p)) (λ r. inr (g.0 r)), ⊎_elim (λ q. inl (f.1 q)) (λ s. inr (g.1 s)))

-- ---- a text up to the first character that passes a test, and what is left from there on
unfoldable pub front : (ℕ → Bool) → List ℕ → List ℕ
front f [] = []
front f (v ∷ vs) = pick (f v) [] (v ∷ front f vs)

unfoldable pub behind : (ℕ → Bool) → List ℕ → List ℕ
behind f [] = []
behind f (v ∷ vs) = pick (f v) (v ∷ vs) (behind f vs)

-- a test that fails where the other holds
unfoldable no : Bool → Bool
no true = false
no false = true

module _ (f : ℕ → Bool) where
  -- by whether the first character passes: both parts of a text are the text, where those behind that character are
  joined_by : (t : Bool) (v : ℕ) (vs : List ℕ) → front f vs ++ behind f vs ≡ vs → pick t [] (v ∷ front f vs) ++ pick t (v ∷ vs) (behind f vs) ≡ v ∷ vs
  unfolding pick
  joined_by true v vs e = refl
  joined_by false v vs e = ap (λ l. v ∷ l) e

  -- the two are the text
  pub joined : (vs : List ℕ) → front f vs ++ behind f vs ≡ vs
  unfolding front behind
  joined [] = refl
  joined (v ∷ vs) = joined_by (f v) v vs (joined vs)

  -- and what is left has scalar values where the text has
  left-scalars : (vs : List ℕ) → Scalars vs → Scalars (behind f vs)
  unfolding behind
  left-scalars vs none = none
  left-scalars vs (more {v = v} {vs = ws} e h) = pick-holds Scalars (f v) (v ∷ ws) (behind f ws) (λ _. more e h) (λ _. left-scalars ws h)

-- ---- the bytes of a text

-- the bytes of two texts in a row are those of the first and then those of the second
encode-append : (a b : List ℕ) → encode (a ++ b) ≡ encode a ++ encode b
unfolding encode
encode-append [] b = refl
encode-append (v ∷ a) b = ap (λ t. utf8 v ++ t) (encode-append a b) ∙ sym (append_assoc (utf8 v) (encode a) (encode b))

-- a reader that takes the bytes of one character, unless it passes a test
abbrev Takes : (ℕ → Bool) → (List ℕ → ℕ) → Type 0
Takes f u = (v : ℕ) (t : List ℕ) → is_scalar v ≡ true → u (utf8 v ++ t) ≡ pick (f v) 0 (length (utf8 v))

module _ (f : ℕ → Bool) (u : List ℕ → ℕ) (takes : Takes f u) where
  -- repeated it takes the bytes up to the first character that does
  repeated-by : (v : ℕ) (vs : List ℕ) → is_scalar v ≡ true → many u 0 0 (encode vs) ≡ length (encode (front f vs)) → (t : Bool) → f v ≡ t
      → many u 0 0 (utf8 v ++ encode vs) ≡ length (encode (pick t [] (v ∷ front f vs)))
  unfolding pick encode
  repeated-by v vs s e true h = many-stop u (utf8 v ++ encode vs) 0 (takes v (encode vs) s ∙ ap (λ t. pick t 0 (length (utf8 v))) h)
  repeated-by v vs s e false h =
      let n = length (utf8 v) in
      let l = utf8-some v in
      many-took u (utf8 v ++ encode vs) 0 n (omega (arith, length-append (utf8 v) (encode vs))) (takes v (encode vs) s ∙ ap (λ t. pick t 0 n) h) (λ z. omega arith)
      ∙ ap (many u (0 + n) 0) (drop-append_seam (utf8 v) (encode vs))
      ∙ ap (λ i. many u i 0 (encode vs)) (omega arith)
      ∙ many-from n u (encode vs) 0 0 ∙ ap (λ m. n + m) e ∙ sym (length-append (utf8 v) (encode (front f vs)))

  -- repeated, the reader takes the bytes of the text up to the first character that passes the test
  repeated : (vs : List ℕ) → Scalars vs → many u 0 0 (encode vs) ≡ length (encode (front f vs))
  unfolding front encode many
  repeated vs none = refl
  repeated vs (more {v = v} {vs = ws} s h) = repeated-by v ws s (repeated ws h) (f v) refl

  -- so the bytes that it takes, and those that it leaves, are the bytes of the two parts of the text
  seam : (vs : List ℕ) → encode vs ≡ encode (front f vs) ++ encode (behind f vs)
  seam vs = ap encode (sym (joined f vs)) ∙ encode-append (front f vs) (behind f vs)

  -- the bytes that it takes are those of the text up to there
  taken : (vs : List ℕ) → Scalars vs → take (many u 0 0 (encode vs)) (encode vs) ≡ encode (front f vs)
  taken vs h =
      ap (λ n. take n (encode vs)) (repeated vs h) ∙ ap (take (length (encode (front f vs)))) (seam vs) ∙ take-append_seam (encode (front f vs)) (encode (behind f vs))

  -- the bytes that it leaves are those of the text from there on
  left : (vs : List ℕ) → Scalars vs → drop (many u 0 0 (encode vs)) (encode vs) ≡ encode (behind f vs)
  left vs h =
      ap (λ n. drop n (encode vs)) (repeated vs h) ∙ ap (drop (length (encode (front f vs)))) (seam vs) ∙ drop-append_seam (encode (front f vs)) (encode (behind f vs))

-- a character that is no White_Space
unfoldable is_word_character : ℕ → Bool
is_word_character v = no (is_white_space v)

-- the reader of a word takes the bytes of one character, unless that is White_Space
word-takes : Takes is_white_space word_taken
unfolding word_taken word_of
word-takes v t s =
    let l = utf8-some v in
    sym (pick-false _ _ _ _ (is-no _ _ (λ z. omega (arith, length-append (utf8 v) t))) refl) ∙ ap word_of (read_back v t s)

-- the reader of white space takes the bytes of one character, unless that is no White_Space
white-takes : Takes is_word_character white_taken
unfolding white_taken white_of is_word_character
white-takes v t s = ap white_of (read_back v t s) ∙ turned (is_white_space v) (length (utf8 v))
  where
    turned : (b : Bool) (n : ℕ) → pick b n 0 ≡ pick (no b) 0 n
    turned true n = unfold pick no in refl
    turned false n = unfold pick no in refl

-- ---- the words of a text begin with what stands before its first white space
module _ (white : ℕ → Bool) where
  -- the pieces but the first
  unfoldable pub others : List ℕ → List (List ℕ)
  others [] = []
  others (v ∷ vs) = pick (white v) (pieces white vs) (others vs)

  -- by whether the first character is white: the pieces are the first one, and the others
  split_by : (t : Bool) (v : ℕ) (vs : List ℕ) → pieces white vs ≡ front white vs ∷ others vs
      → pick t ([] ∷ pieces white vs) (longer v (pieces white vs)) ≡ pick t [] (v ∷ front white vs) ∷ pick t (pieces white vs) (others vs)
  unfolding pick longer
  split_by true v vs e = refl
  split_by false v vs e = ap (longer v) e

  -- the first piece, and the others
  pub first_piece : (vs : List ℕ) → pieces white vs ≡ front white vs ∷ others vs
  unfolding pieces front others
  first_piece [] = refl
  first_piece (v ∷ vs) = split_by (white v) v vs (first_piece vs)

  -- by whether the first character is white: the other pieces, the empty ones left out, are the words behind the first piece
  others_by : (t : Bool) (v : ℕ) (vs : List ℕ) → white v ≡ t → without_empty (others vs) ≡ words white (behind white vs)
      → without_empty (pick t (pieces white vs) (others vs)) ≡ words white (pick t (v ∷ vs) (behind white vs))
  unfolding words pieces
  others_by true v vs e h = unfold pick without_empty in rw e
  others_by false v vs e h = unfold pick in h

  -- the other pieces are those of what is left, where the empty ones do not count
  others-left : (vs : List ℕ) → without_empty (others vs) ≡ words white (behind white vs)
  unfolding others behind
  others-left [] = unfold words pieces without_empty in refl
  others-left (v ∷ vs) = others_by (white v) v vs refl (others-left vs)

  -- what stands before the first white space is no word where it is empty, else the first
  words-front : (vs : List ℕ) → words white vs ≡ without_empty (front white vs ∷ others vs)
  unfolding words
  words-front vs = ap without_empty (first_piece vs)

  -- a text whose first piece is not empty has that as its first word, and behind it the words of what is left
  word_first : (vs : List ℕ) (x : ℕ) (p : List ℕ) → front white vs ≡ x ∷ p → words white vs ≡ (x ∷ p) ∷ words white (behind white vs)
  word_first vs x p e = words-front vs ∙ ap (λ q. without_empty (q ∷ others vs)) e ∙ (unfold without_empty in ap (λ l. (x ∷ p) ∷ l) (others-left vs))

-- white space in front changes no words
unspaced-by : (t : Bool) (v : ℕ) (vs : List ℕ) → is_white_space v ≡ t → words is_white_space (behind is_word_character vs) ≡ words is_white_space vs
    → words is_white_space (pick (no t) (v ∷ vs) (behind is_word_character vs)) ≡ words is_white_space (v ∷ vs)
unfolding pick no
unspaced-by true v vs e h = h ∙ (unfold words pieces without_empty in rw e)
unspaced-by false v vs e h = refl

-- white space in front of a text changes none of its words
unspaced : (vs : List ℕ) → words is_white_space (behind is_word_character vs) ≡ words is_white_space vs
unfolding behind is_word_character
unspaced [] = refl
unspaced (v ∷ vs) = unspaced-by (is_white_space v) v vs refl (unspaced vs)

-- behind it a word begins, or nothing is left
ended_by : (t : Bool) (v : ℕ) (vs : List ℕ) → is_white_space v ≡ t → (front is_white_space (behind is_word_character vs) ≡ [] → behind is_word_character vs ≡ [])
    → front is_white_space (pick (no t) (v ∷ vs) (behind is_word_character vs)) ≡ [] → pick (no t) (v ∷ vs) (behind is_word_character vs) ≡ []
unfolding pick no
ended_by true v vs e h p = h p
ended_by false v vs e h p = absurd (omega (arith, ap length (front-one v vs e ∙ p)))
  where
    front-one : (v : ℕ) (vs : List ℕ) → is_white_space v ≡ false → v ∷ front is_white_space vs ≡ front is_white_space (v ∷ vs)
    front-one v vs e = unfold front in rw e

-- where no word begins behind the white space, nothing is left there
ended : (vs : List ℕ) → front is_white_space (behind is_word_character vs) ≡ [] → behind is_word_character vs ≡ []
unfolding behind is_word_character
ended [] p = refl
ended (v ∷ vs) p = ended_by (is_white_space v) v vs refl (ended vs) p

-- ---- the test finds exactly the words

-- some word has the bytes w
abbrev Found : List ℕ → List (List ℕ) → Type 0
Found w l = Some (λ x. encode x ≡ w) l

-- the test that looks at no more than n words finds exactly those of a text
abbrev Right : List ℕ → ℕ → List ℕ → Type 0
Right w n t = Exactly (word_among n w (encode t) ≡ true) (Found w (words is_white_space t))

-- the empty text has no words
no_words : words is_white_space [] ≡ []
unfolding words pieces without_empty
no_words = refl

module _ (w : List ℕ) (k : ℕ) (vs : List ℕ) (h : Scalars vs) where
  -- the text from its first word on
  abbrev text : List ℕ
  text = behind is_word_character vs

  -- the text from its first word on has scalar values, as the whole has
  text-scalars : Scalars text
  text-scalars = left-scalars is_word_character vs h

  -- and behind that word
  abbrev more-text : List ℕ
  more-text = behind is_white_space text

  -- the bytes without White_Space in front are those of the text from its first word on
  trimmed : trimmed_start (encode vs) ≡ encode text
  unfolding trimmed_start
  trimmed = left is_word_character white_taken white-takes vs h

  -- a test of k + 1 words compares the first one, and asks what is left behind it with k
  opened : word_among (suc k) w (encode vs) ≡ pick (is (length (encode (front is_white_space text))) 0) false (or (same_text (encode (front is_white_space text)) w) (word_among k w (encode more-text)))
  unfolding word_among word_length
  opened =
      rw (trimmed, taken is_white_space word_taken word-takes text text-scalars, left is_white_space word_taken word-takes text text-scalars, repeated is_white_space word_taken word-takes text text-scalars)

  -- where no word is left, the test finds none, and there is none
  at-end : front is_white_space text ≡ [] → Right w (suc k) vs
  at-end e = ((λ p. never (fails ∙ p)), (λ q. absurd (subst (Found w) none-there q)))
    where
      empty : length (encode (front is_white_space text)) ≡ 0
      empty = ap (λ p. length (encode p)) e ∙ (unfold encode in refl)

      fails : false ≡ word_among (suc k) w (encode vs)
      fails = pick_true _ _ _ _ (is-yes _ _ empty) refl ∙ sym opened

      none-there : words is_white_space vs ≡ []
      none-there = sym (unspaced vs) ∙ ap (words is_white_space) (ended vs e) ∙ no_words

  -- a word, and what is left behind it
  module _ (x : ℕ) (p : List ℕ) (e : front is_white_space text ≡ x ∷ p) where
    -- a word has at least one byte
    some_bytes : 1 ≤ length (encode (x ∷ p))
    unfolding encode
    some_bytes = omega (arith, utf8-some x, length-append (utf8 x) (encode p))

    -- the text behind a word is shorter, so fewer turns suffice for it
    shorter : length (encode vs) ≤ suc k → length (encode more-text) ≤ k
    shorter l =
        let a = ap length (seam is_word_character white_taken white-takes vs) ∙ length-append (encode (front is_word_character vs)) (encode text) in
        let b = ap length (seam is_white_space word_taken word-takes text ∙ ap (λ q. encode q ++ encode more-text) e) ∙ length-append (encode (x ∷ p)) (encode more-text) in
        omega (arith, some_bytes)

    -- where a word is left, the test compares it, or asks what is left behind it
    asked : word_among (suc k) w (encode vs) ≡ or (same_text (encode (x ∷ p)) w) (word_among k w (encode more-text))
    asked =
        opened ∙ ap (λ q. pick (is (length (encode q)) 0) false (or (same_text (encode q) w) (word_among k w (encode more-text)))) e
        ∙ sym (pick-false _ _ _ _ (is-no _ _ (λ z. omega (arith, some_bytes))) refl)

    -- the words of the text are that word and those behind it
    listed : words is_white_space vs ≡ (x ∷ p) ∷ words is_white_space more-text
    listed = sym (unspaced vs) ∙ word_first is_white_space text x p e

    -- where the test finds exactly the words of what is left, it finds exactly those of the text
    at-word : Right w k more-text → Right w (suc k) vs
    at-word r = (there, back)
      where
        there : word_among (suc k) w (encode vs) ≡ true → Found w (words is_white_space vs)
        there q =
            subst (Found w) (sym listed)
            (either (Found w ((x ∷ p) ∷ words is_white_space more-text)) _ _ (sym asked ∙ q) (λ m. inl (same-is (encode (x ∷ p)) w m)) (λ m. inr (r.0 m)))

        back : Found w (words is_white_space vs) → word_among (suc k) w (encode vs) ≡ true
        back q =
            asked
            ∙ ⊎_elim (λ (m : encode (x ∷ p) ≡ w). or_left _ _ (ap (same_text (encode (x ∷ p))) (sym m) ∙ same_self (encode (x ∷ p))))
            (λ (m : Found w (words is_white_space more-text)). or-second _ _ (r.1 m))
            (subst (Found w) listed q)

-- the empty text, and one that is not
none_found : (w vs : List ℕ) → Scalars vs → length (encode vs) ≤ 0 → Found w (words is_white_space vs) → word_among 0 w (encode vs) ≡ true
unfolding encode
none_found w vs none l q = absurd (subst (Found w) no_words q)
none_found w vs (more {v = v} {vs = ws} s h) l q = absurd (omega (arith, utf8-some v, length-append (utf8 v) (encode ws)))

-- by whether a word is left: the test finds exactly the words of a text of k + 1 bytes, where it does of k
found-by : (w : List ℕ) (k : ℕ) (vs : List ℕ) → Scalars vs → length (encode vs) ≤ suc k → ((t : List ℕ) → Scalars t → length (encode t) ≤ k → Right w k t)
    → (q : List ℕ) → front is_white_space (behind is_word_character vs) ≡ q → Right w (suc k) vs
found-by w k vs h l f [] e = at-end w k vs h e
found-by w k vs h l f (x ∷ p) e = at-word w k vs h x p e (f _ (left-scalars is_white_space _ (left-scalars is_word_character vs h)) (shorter w k vs h x p e l))

-- the texts of at most k bytes
found : (w : List ℕ) (k : ℕ) (vs : List ℕ) → Scalars vs → length (encode vs) ≤ k → Right w k vs
found w zero vs h l = ((λ p. never (no-turn ∙ p)), none_found w vs h l)
  where
    no-turn : false ≡ word_among 0 w (encode vs)
    no-turn = unfold word_among in refl
found w (suc k) vs h l = found-by w k vs h l (found w k) _ refl

-- by section 6.3.1 of Selectors Level 3 (the number is from memory): a text is a whitespace-separated list of words, one of which is exactly w. White space
-- is that of Unicode here, as in the crate; a word has at least one character and no white space.
pub has-word-exactly : (w vs : List ℕ) → Scalars vs → Exactly (has_word w (encode vs) ≡ true) (Some (λ x. encode x ≡ w) (words is_white_space vs))
unfolding has_word
has-word-exactly w vs h = found w (length (encode vs)) vs h (omega arith)

-- ---- by characters

-- the value of a character that was read
unfoldable value_of : ℕ → Option (Taken ℕ) → ℕ
value_of d s = unwrap_or (option_map (λ (x : Taken ℕ). x.value) s) d

-- two texts with the same bytes have the same characters
pub encode-once : (a b : List ℕ) → Scalars a → Scalars b → encode a ≡ encode b → a ≡ b
unfolding encode
encode-once a b none none e = refl
encode-once a b none (more {v = v} {vs = vs} s h) e = absurd (omega (arith, ap length e, utf8-some v, length-append (utf8 v) (encode vs)))
encode-once a b (more {v = v} {vs = vs} s h) none e = absurd (omega (arith, ap length e, utf8-some v, length-append (utf8 v) (encode vs)))
encode-once a b (more {v = v} {vs = vs} s h) (more {v = u} {vs = us} r g) e = ap (λ l. v ∷ l) (encode-once vs us h g (behind-first v u vs us (first-same v u vs us s r e) e)) ∙ ap (λ x. x ∷ us) (first-same v u vs us s r e)
  where
    first-same : (v u : ℕ) (vs us : List ℕ) → is_scalar v ≡ true → is_scalar u ≡ true → utf8 v ++ encode vs ≡ utf8 u ++ encode us → v ≡ u
    first-same v u vs us s r e = unfold value_of in ap (value_of 0) (sym (read_back v (encode vs) s) ∙ ap scalar_of e ∙ read_back u (encode us) r)

    behind-first : (v u : ℕ) (vs us : List ℕ) → v ≡ u → utf8 v ++ encode vs ≡ utf8 u ++ encode us → encode vs ≡ encode us
    behind-first v u vs us d e =
        sym (drop-append_seam (utf8 v) (encode vs)) ∙ ap (drop (length (utf8 v))) e ∙ ap (λ x. drop (length (utf8 x)) (utf8 u ++ encode us)) d ∙ drop-append_seam (utf8 u) (encode us)

-- every word of a text has scalar values where the text has
pieces-scalars : (white : ℕ → Bool) (vs : List ℕ) → Scalars vs → All Scalars (pieces white vs)
unfolding pieces
pieces-scalars white vs none = (none, tt)
pieces-scalars white vs (more {v = v} {vs = ws} s h) =
    pick-holds (All Scalars) (white v) _ _ (λ _. (none, pieces-scalars white ws h)) (λ _. longer-scalars v s (pieces white ws) (pieces-scalars white ws h))
  where
    longer-scalars : (v : ℕ) → is_scalar v ≡ true → (ps : List (List ℕ)) → All Scalars ps → All Scalars (longer v ps)
    longer-scalars v s [] h = unfold longer in (more s none, tt)
    longer-scalars v s (p ∷ ps) h = unfold longer in (more s h.0, h.1)

-- without the empty ones, pieces of scalar values are of scalar values still
kept-scalars : (ps : List (List ℕ)) → All Scalars ps → All Scalars (without_empty ps)
unfolding without_empty
kept-scalars [] h = tt
kept-scalars ([] ∷ ps) h = kept-scalars ps h.1
kept-scalars ((v ∷ p) ∷ ps) h = (h.0, kept-scalars ps h.1)

-- a list of words has one with the bytes of w exactly if it has w
by-characters : (w : List ℕ) → Scalars w → (l : List (List ℕ)) → All Scalars l → Exactly (Some (λ x. encode x ≡ encode w) l) (Some (λ x. x ≡ w) l)
by-characters w s [] h = ((λ q. q), (λ q. q))
by-characters w s (x ∷ l) h = exactly-either _ _ _ _ ((λ e. encode-once x w h.0 s e), (λ e. ap encode e)) (by-characters w s l h.1)

-- the same law where the word, too, is given by its characters
pub has-word-of-characters : (w vs : List ℕ) → Scalars w → Scalars vs → Exactly (has_word (encode w) (encode vs) ≡ true) (Some (λ x. x ≡ w) (words is_white_space vs))
has-word-of-characters w vs s h = exactly-then _ _ _ (has-word-exactly (encode w) vs h) (by-characters w s (words is_white_space vs) all)
  where
    all : All Scalars (words is_white_space vs)
    all = unfold words in kept-scalars (pieces is_white_space vs) (pieces-scalars is_white_space vs h)

-- tests that agree on a text give it the same words
same-pieces : (f g : ℕ → Bool) (vs : List ℕ) → All (λ v. f v ≡ g v) vs → pieces f vs ≡ pieces g vs
unfolding pieces
same-pieces f g [] h = refl
same-pieces f g (v ∷ vs) h = ap (λ t. pick t ([] ∷ pieces f vs) (longer v (pieces f vs))) h.0 ∙ ap (λ ps. pick (g v) ([] ∷ ps) (longer v ps)) (same-pieces f g vs h.1)

-- tests that agree on the characters of a text give it the same words
pub same-words : (f g : ℕ → Bool) (vs : List ℕ) → All (λ v. f v ≡ g v) vs → words f vs ≡ words g vs
unfolding words
same-words f g vs h = ap without_empty (same-pieces f g vs h)

-- ---- by the bytes of an attribute's value

-- what is well formed is a list of words, one of which is exactly w, where the test finds it
pub word-exactly : (w t : List ℕ) → valid t ≡ true → Exactly (has_word w t ≡ true) (WordOf is_white_space w t)
word-exactly w t h = (there, back)
  where
    there : has_word w t ≡ true → WordOf is_white_space w t
    there q =
        let r = valid-is t h in
        record { characters = r.scalars; scalars = r.all; in-utf8 = r.same; some = (has-word-exactly w r.scalars r.all).0 (ap (has_word w) (sym r.same) ∙ q) }

    back : WordOf is_white_space w t → has_word w t ≡ true
    back r = ap (has_word w) r.in-utf8 ∙ (has-word-exactly w r.characters r.scalars).1 r.some

-- where the only white space of a text is the document's, so are its words
pub plain_word : (w t : List ℕ) → PlainText t → Exactly (WordOf is_white_space w t) (WordOf is_selectors_white_space w t)
plain_word w t p = (there, back)
  where
    same : (vs : List ℕ) → Scalars vs → t ≡ encode vs → words is_white_space vs ≡ words is_selectors_white_space vs
    same vs s e =
        let d : p.characters ≡ vs = encode-once p.characters vs p.scalars s (sym p.in-utf8 ∙ e) in
        same-words is_white_space is_selectors_white_space vs (subst (All (λ v. is_white_space v ≡ is_selectors_white_space v)) d p.plain)

    there : WordOf is_white_space w t → WordOf is_selectors_white_space w t
    there r =
        record { characters = r.characters; scalars = r.scalars; in-utf8 = r.in-utf8; some = subst (Some (λ x. encode x ≡ w)) (same r.characters r.scalars r.in-utf8) r.some }

    back : WordOf is_selectors_white_space w t → WordOf is_white_space w t
    back r =
        record { characters = r.characters; scalars = r.scalars; in-utf8 = r.in-utf8; some = subst (Some (λ x. encode x ≡ w)) (sym (same r.characters r.scalars r.in-utf8)) r.some }
