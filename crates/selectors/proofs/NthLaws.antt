-- The arguments of `nth-child`: the returns of the readers.
use mathlib.Core.Path.{◌≡◌, refl, sym, ap, ◌∙◌}
use mathlib.Core.Bool.{Bool, true, false}
use mathlib.Core.List.{List, [], ◌∷◌}
use mathlib.Core.Logic.{◌⊎◌, inl, inr}
use Prim.Native.Nat.{ℕ, zero, suc, ◌+◌, ◌-◌, ◌≤◌}
use native.Mathlib.Omega.{arith}
use borrow.Author.Tests.{le-leb, lt-leb}
use lib.Dec.{leb}
use lib.IntN.{ℤ, pos}
use lib.ListN.{length, get_or, take, drop, length-drop}
use lib.Seq.{drop-drop}
use Prim.Native.Char.{code as ascii}
use Rattle.combinators.specs.Choice.{pick, and, is}
use Rattle.combinators.specs.Word.{starts_with}
use Rattle.combinators.specs.declared.taken.Taken.{Taken}
use Rattle.combinators.proofs.Lists.{rest, first, byte-there}
use Rattle.combinators.proofs.Rules.{pick_true, pick-false, told, and_both, and_left, and_right}
use Rattle.characters.specs.Literal.{text}
use Rattle.characters.specs.Utf8.{utf8}
use Rattle.lexer.specs.Number.{sign, digits}
use Rattle.lexer.specs.Whitespace.{skip_whitespace}
use Rattle.syntax.specs.Selector.{Component, nth}
use Rattle.syntax.specs.Signed.{signed_number}
use Rattle.std.specs.Prelude.{Some, None, Ok, Err}
use Rattle.selectors.specs.Outcome.{Outcome, reads, fails, panics, on_outcome, or_else}
use Rattle.selectors.specs.Selector.{is_minus, is_sign, signed, greatest, converted, both_of, just_a, just_b, worded, nth_of, nth_args_of}
use Rattle.selectors.specs.ComponentAnswer.{component_coded, component_answer}
use Rattle.selectors.specs.NthAnswer.{integer_by, integer_of}
use Rattle.selectors.specs.declared.components.Component as declared
use Rattle.selectors.specs.declared.components.Component.TheVariants as code
use Rattle.selectors.specs.declared.nth.SignedInteger.{SignedInteger}
use Rattle.selectors.proofs.NthNumbers.{digits_worth, integer-is, number_fits, number-over, goes_on, stops}
use Rattle.selectors.proofs.NthKeeps.{nth-keeps}
use Rattle.selectors.proofs.ComponentLaws.{ComponentAnswer, read_as, answer-bare, answer-none, Read, read_by, fails_by, panics-by}
use Rattle.selectors.proofs.ReadingLaws.{panic_at}
use Rattle.selectors.proofs.AllLaws.{where-read, where-panics}

-- the bytes that an argument takes and its two numbers, as they are answered
abbrev pub numbers : ℕ → ℕ → ℕ → Taken declared.Component
numbers n a b = read_as n (code.Nth a b)

-- an argument that reads is answered with its bytes and its two numbers
answer-nth : (o : Outcome Component) (n : ℕ) (x y : ℤ) → reads n (nth x y) ≡ o → (a b : ℕ) → a ≡ signed_number x → b ≡ signed_number y → Ok (Some (numbers n a b)) ≡ component_answer o
unfolding component_coded
answer-nth o n x y e a b ea eb = answer-bare o n (nth x y) (code.Nth a b) (rw (ea, eb)) e

-- one where the crate panics is answered with the place
pub answer-panic : (o : Outcome Component) (p : ℕ) → panics p ≡ o → Err (panic_at p) ≡ component_answer o
unfolding component_answer on_outcome
answer-panic o p e = rw (← e)

-- the bytes of the first sign, and of the digits behind it
abbrev i-of : List ℕ → ℕ
i-of s = sign s

abbrev n-of : List ℕ → ℕ
n-of s = digits (drop (sign s) s)

-- a number that is not 0
positive : (k : ℕ) → ¬ (k ≡ 0) → 1 ≤ k
positive zero f = absurd (f refl)
positive (suc k) f = omega arith

-- the bytes of a sign that is there, and of none
one : pick {A = ℕ} true 1 0 ≡ 1
unfolding pick
one = refl

-- no sign takes no byte
none : pick {A = ℕ} false 1 0 ≡ 0
unfolding pick
none = refl

-- ---- the returns of `just_a` and `just_b`
module _ (s : List ℕ) (x : SignedInteger) (ex : x ≡ integer_of s) where
  abbrev i : ℕ
  i = sign s

  abbrev n : ℕ
  n = digits (drop i s)

  -- the three parts of the number
  sign-is : x.sign ≡ i
  unfolding integer_of
  sign-is = ap (λ (r : SignedInteger). r.sign) ex

  -- the number takes its sign and its digits
  taken_is : x.taken ≡ i + n
  unfolding integer_of
  taken_is = ap (λ (r : SignedInteger). r.taken) ex

  -- its value is that of the digits behind the sign, negative where the sign is a minus
  value-is : x.value ≡ integer_by s i n (is_minus s 0)
  unfolding integer_of
  value-is = ap (λ (r : SignedInteger). r.value) ex

  -- by the byte behind both
  module _ (t : Bool) (et : t ≡ is (get_or s x.taken 0) (ascii "n")) where
    -- the test, of the place that the definition has
    letter : (v : Bool) → t ≡ v → is (get_or s (i + n) 0) (ascii "n") ≡ v
    letter v e = ap (λ (k : ℕ). is (get_or s k 0) (ascii "n")) (sym taken_is) ∙ told _ _ _ et e

    -- a letter `n` that is found stands before the end of the text
    pub letter-there : t ≡ true → x.taken + 1 ≤ length s
    letter-there e = let h = byte-there s x.taken (ascii "n") (omega arith) (told _ _ _ et e) in omega arith

    -- without the letter `n` there is no an
    pub a-none : t ≡ false → Ok None ≡ component_answer (just_a s)
    unfolding just_a
    a-none e = answer-none _ (pick-false _ _ _ _ (letter false e) refl)

    -- a letter, but the number is too great
    pub a-over : t ≡ true → x.value ≡ None → Err (panic_at x.sign) ≡ component_answer (just_a s)
    unfolding just_a
    a-over e h =
        (rw sign-is (answer-panic _ _ (pick_true _ _ _ _ (letter true e) (stops s i n _ _ (number-over s i n _ _ value-is h)))))

    -- a letter, and it fits
    pub a-number : t ≡ true → (w : ℕ) → x.value ≡ Some w → Ok (Some (numbers (x.taken + 1) w 0)) ≡ component_answer (just_a s)
    unfolding just_a signed_number
    a-number e w h =
        let p = number_fits s i n _ _ value-is w h in
        rw taken_is (answer-nth _ _ _ (pos 0) (pick_true _ _ _ _ (letter true e) (goes_on s i n _ _ p.0)) w 0 p.1 refl)

  -- by whether there are digits
  pub b-none : x.taken ≡ x.sign → Ok None ≡ component_answer (just_b s)
  unfolding just_b
  b-none e = answer-none _ (pick-false _ _ _ _ (lt-leb 1 n (omega (arith, sign-is, taken_is))) refl)

  module _ (d : ¬ (x.taken ≡ x.sign)) where
    -- there is one digit at least
    some-digits : leb 1 n ≡ true
    some-digits = le-leb 1 n (positive n (λ e. d (omega (arith, e, sign-is, taken_is))))

    -- the number is too great
    pub b-over : x.value ≡ None → Err (panic_at x.sign) ≡ component_answer (just_b s)
    unfolding just_b
    b-over h = (rw sign-is (answer-panic _ _ (pick_true _ _ _ _ some-digits (stops s i n _ _ (number-over s i n _ _ value-is h)))))

    -- digits that fit are b
    pub b-number : (w : ℕ) → x.value ≡ Some w → Ok (Some (numbers x.taken 0 w)) ≡ component_answer (just_b s)
    unfolding just_b signed_number
    b-number w h =
        let p = number_fits s i n _ _ value-is w h in
        rw taken_is (answer-nth _ _ (pos 0) _ (pick_true _ _ _ _ some-digits (goes_on s i n _ _ p.0)) 0 w refl p.1)

-- ---- the returns of `both_of`
-- what is within the rest of the text is within the text
pub within : (s : List ℕ) (p n : ℕ) → p ≤ length s → n ≤ length (take (length s - p) (drop p s)) → p + n ≤ length s
within s p n h l = omega (arith, ap length (rest s p), length-drop p s)

-- a number at the start of the rest of the text from p on
module _ (s : List ℕ) (p : ℕ) (x : SignedInteger) (ex : x ≡ integer_of (take (length s - p) (drop p s))) where
  abbrev u : List ℕ
  u = drop p s

  -- the number is that of the text from p on
  at_rest : x ≡ integer_of u
  at_rest = ex ∙ ap integer_of (rest s p)

  -- its sign is the one at p
  sign-of-rest : (v : Bool) → is_sign u 0 ≡ v → is_sign s p ≡ v
  unfolding is_sign is_minus
  sign-of-rest v e = rw (first s p) at e

  -- and so is its minus
  minus-of-rest : is_minus u 0 ≡ is_minus s p
  unfolding is_minus
  minus-of-rest = rw (first s p)

  -- the bytes of the sign
  rest-sign : x.sign ≡ sign u
  unfolding integer_of
  rest-sign = ap (λ (r : SignedInteger). r.sign) at_rest

  -- by whether there is one
  sign-by : (b : Bool) → is_sign u 0 ≡ b → x.sign ≡ pick b 1 0
  unfolding sign is_sign is_minus
  sign-by b e = rest-sign ∙ rw e

  -- where no byte is taken for a sign, there is none at p
  no_sign : x.sign ≡ 0 → is_sign s p ≡ false
  no_sign z = sign-of-rest false (go (is_sign u 0) refl)
    where
      go : (b : Bool) → is_sign u 0 ≡ b → is_sign u 0 ≡ false
      go true e = absurd (let q = sign-by true e ∙ one in omega arith)
      go false e = e

  -- a part that begins with a sign has it there
  a-sign : ¬ (x.sign ≡ 0) → (is_sign s p ≡ true) × (x.sign ≡ 1)
  a-sign d = go (is_sign u 0) refl
    where
      go : (b : Bool) → is_sign u 0 ≡ b → (is_sign s p ≡ true) × (x.sign ≡ 1)
      go true e = (sign-of-rest true e, sign-by true e ∙ one)
      go false e = absurd (d (sign-by false e ∙ none))

  module _ (h : x.sign ≡ 1) where
    abbrev m : ℕ
    m = digits (drop (p + 1) s)

    -- the sign takes one byte
    one-sign : sign u ≡ 1
    one-sign = sym rest-sign ∙ h

    -- the digits behind the sign
    rest-taken : x.taken ≡ 1 + m
    unfolding integer_of
    rest-taken = ap (λ (r : SignedInteger). r.taken) at_rest ∙ rw (one-sign, drop-drop 1 p s)

    -- the digits behind it write the same number, counted from either place
    worth-at : (n : ℕ) → digits_worth u 1 n ≡ digits_worth s (p + 1) n
    unfolding digits_worth
    worth-at n = rw (drop-drop 1 p s)

    -- the number with its sign is that of the definition
    rest-value : x.value ≡ integer_by s (p + 1) m (is_minus s p)
    unfolding integer_of
    rest-value =
        ap (λ (r : SignedInteger). r.value) at_rest
        ∙ rw (one-sign, drop-drop 1 p s, minus-of-rest) (integer-is u 1 m (is_minus s p) ∙ rw (worth-at m) (sym (integer-is s (p + 1) m (is_minus s p))))

    -- there is one digit at least behind the sign
    rest-digits : ¬ (x.taken ≡ x.sign) → 1 ≤ m
    rest-digits d = positive m (λ e. d (rest-taken ∙ omega (arith, e, h)))

  -- the sign lies within the text
  pub both-sign-le : p ≤ length s → x.taken ≤ length (take (length s - p) (drop p s)) → p + x.sign ≤ length s
  unfolding integer_of
  both-sign-le lp lx = omega (arith, rest-sign, ap (λ (r : SignedInteger). r.taken) at_rest, within s p x.taken lp lx)

-- the definition, where e is behind the first number and p at the sign of the second
abbrev both_at : List ℕ → ℕ → ℕ → Outcome Component
both_at s e p =
    pick (and (is (get_or s e 0) (ascii "n")) (and (is_sign s p) (leb 1 (digits (drop (p + 1) s)))))
    (converted s (i-of s) (n-of s) (is_minus s 0)
    (λ a. converted s (p + 1) (digits (drop (p + 1) s)) (is_minus s p) (λ b. reads (p + 1 + digits (drop (p + 1) s)) (nth a b))))
    fails

-- the same as the definition
both_is : (s : List ℕ) (e : ℕ) → e ≡ i-of s + n-of s → (p : ℕ) → p ≡ e + 1 + skip_whitespace (drop (e + 1) s) → both_of s ≡ both_at s e p
unfolding both_of
both_is s e h p q = rw (q, h)

module _ (s : List ℕ) (x : SignedInteger) (ex : x ≡ integer_of s) (t : Bool) (et : t ≡ is (get_or s x.taken 0) (ascii "n")) where
  -- the return where no `n` follows the first number
  pub both-none : t ≡ false → Ok None ≡ component_answer (both_of s)
  both-none e =
      (answer-none _ (pick-false _ _ _ _ (and_left _ _ (told _ _ _ et e)) refl ∙ sym (both_is s x.taken (taken_is s x ex) _ refl)))

  -- then white space up to w, and the reading from there on
  module _ (e : t ≡ true) (p : ℕ) (ep : p ≡ x.taken + 1 + skip_whitespace (drop (x.taken + 1) s)) (y : SignedInteger)
      (ey : y ≡ integer_of (take (length s - p) (drop p s))) where
    -- the places of the definition are those of the code
    both : both_of s ≡ both_at s x.taken p
    both = both_is s x.taken (taken_is s x ex) p ep

    -- the return where no sign stands behind the `n`
    pub both-no-sign : y.sign ≡ 0 → Ok None ≡ component_answer (both_of s)
    both-no-sign z = answer-none _ (pick-false _ _ _ _ (and_right _ _ (and_left _ _ (no_sign s p y ey z))) refl ∙ sym both)

    module _ (d : ¬ (y.sign ≡ 0)) where
      -- the sign at p is there, and takes one byte
      q : (is_sign s p ≡ true) × (y.sign ≡ 1)
      q = a-sign s p y ey d

      -- the return where no digits stand behind that sign
      pub both-no-digits : y.taken ≡ y.sign → Ok None ≡ component_answer (both_of s)
      both-no-digits z =
          (answer-none _ (pick-false _ _ _ _ (and_right _ _ (and_right _ _ (lt-leb 1 (digits (drop (p + 1) s)) (omega (arith, q.1, rest-taken s p y ey q.1))))) refl ∙ sym both))

      module _ (f : ¬ (y.taken ≡ y.sign)) where
        -- the `n`, the sign and a digit behind it are all there
        all : and (is (get_or s x.taken 0) (ascii "n")) (and (is_sign s p) (leb 1 (digits (drop (p + 1) s)))) ≡ true
        all = and_both _ _ (told _ _ _ et e) (and_both _ _ q.0 (le-leb _ _ (rest-digits s p y ey q.1 f)))

        -- the first number is too great
        pub both-over-a : x.value ≡ None → Err (panic_at x.sign) ≡ component_answer (both_of s)
        both-over-a h =
            rw (sign-is s x ex) (answer-panic _ _ (pick_true _ _ _ _ all (stops s (i-of s) (n-of s) _ _ (number-over s (i-of s) (n-of s) _ _ (value-is s x ex) h)) ∙ sym both))

        module _ (a : ℕ) (ha : x.value ≡ Some a) where
          -- the first number is within its limit, and a is that number with its sign
          fa : (leb (digits_worth s (i-of s) (n-of s)) greatest ≡ true) × (a ≡ signed_number (signed (is_minus s 0) (digits_worth s (i-of s) (n-of s))))
          fa = number_fits s (i-of s) (n-of s) _ _ (value-is s x ex) a ha

          -- where the second number does not fit the crate panics there
          pub both-over-b : y.value ≡ None → Err (panic_at (p + y.sign)) ≡ component_answer (both_of s)
          both-over-b h =
              rw q.1 (answer-panic _ _ (pick_true _ _ _ _ all (stops s (p + 1) _ _ _ (number-over s (p + 1) _ _ _ (rest-value s p y ey q.1) h) ∙ goes_on s (i-of s) (n-of s) _ _ fa.0) ∙ sym both))

          -- where both fit it is an+b
          pub both-numbers : (b : ℕ) → y.value ≡ Some b → Ok (Some (numbers (p + y.taken) a b)) ≡ component_answer (both_of s)
          both-numbers b hb =
              let fb = number_fits s (p + 1) _ _ _ (rest-value s p y ey q.1) b hb in
              let ew : p + y.taken ≡ p + 1 + digits (drop (p + 1) s) = omega (arith, rest-taken s p y ey q.1) in
              rw ew (answer-nth _ _ _ _ (pick_true _ _ _ _ all (goes_on s (p + 1) _ _ _ fb.0 ∙ goes_on s (i-of s) (n-of s) _ _ fa.0) ∙ sym both) a b fa.1 fb.1)

    -- the return where the sign or the digits are missing
    pub both-no-number : (y.sign ≡ 0) ⊎ ((¬ (y.sign ≡ 0)) × (y.taken ≡ y.sign)) → Ok None ≡ component_answer (both_of s)
    both-no-number (inl z) = both-no-sign z
    both-no-number (inr z) = both-no-digits z.0 z.1

-- ---- the returns of `parse_nth`
-- the first of two that reads or panics: the first does
or-first : (o o' : Outcome Component) (r : ComponentAnswer) → r ≡ component_answer o → (r ≡ Ok None → ⊥) → r ≡ component_answer (or_else o o')
unfolding or_else component_answer on_outcome
or-first (reads n x) o' r e h = e
or-first fails o' r e h = absurd (h e)
or-first (panics p) o' r e h = e

-- where the first alternative is not read, the answer is that of the second
or-second : (o o' : Outcome Component) → Ok None ≡ component_answer o → (r : ComponentAnswer) → r ≡ component_answer o' → r ≡ component_answer (or_else o o')
unfolding or_else
or-second o o' e r h = go o (fails_by o e)
  where
    go : (o : Outcome Component) → o ≡ fails → r ≡ component_answer (or_else o o')
    go o e = rw e h

-- the bounds of what was read
module _ (s word : List ℕ) (x y : ℤ) (t : Bool) (et : t ≡ starts_with word s) where
  -- a word that is there is read with its numbers
  word-there : t ≡ true → (a b : ℕ) → a ≡ signed_number x → b ≡ signed_number y → Ok (Some (numbers (length word) a b)) ≡ component_answer (worded s word x y)
  unfolding worded
  word-there e a b ea eb = answer-nth _ _ x y (pick_true _ _ _ _ (told _ _ _ et e) refl) a b ea eb

  -- a word that is not there is not read
  word-missing : t ≡ false → Ok None ≡ component_answer (worded s word x y)
  unfolding worded
  word-missing e = answer-none _ (pick-false _ _ _ _ (told _ _ _ et e) refl)

-- the bytes of `even`
even-bytes : text "even" ≡ 0x65 ∷ 0x76 ∷ 0x65 ∷ 0x6e ∷ []
unfolding text utf8 pick
even-bytes = refl

-- the bytes of `odd`
odd-bytes : text "odd" ≡ 0x6f ∷ 0x64 ∷ 0x64 ∷ []
unfolding text utf8 pick
odd-bytes = refl

-- 0, 1 and 2 with their sign
signed-numbers : (0 ≡ signed_number (pos 0)) × (2 ≡ signed_number (pos 1)) × (4 ≡ signed_number (pos 2))
unfolding signed_number
signed-numbers = (refl, refl, refl)

module _ (s : List ℕ) (t : Bool) (et : t ≡ starts_with (0x65 ∷ 0x76 ∷ 0x65 ∷ 0x6e ∷ []) s) where
  -- the code's test is the definition's
  even-test : t ≡ starts_with (text "even") s
  even-test = et ∙ ap (λ (w : List ℕ). starts_with w s) (sym even-bytes)

  -- `even` is read as 2n+0
  pub nth-even : t ≡ true → Ok (Some (numbers 4 4 0)) ≡ component_answer (nth_of s)
  unfolding nth_of
  nth-even e =
      or-first _ _ _
      (ap (λ (n : ℕ). Ok (Some (numbers n 4 0))) (sym (ap length even-bytes)) ∙ word-there s (text "even") (pos 2) (pos 0) t even-test e 4 0 signed-numbers.2 signed-numbers.0) (λ e. cc)

  module _ (e : t ≡ false) (q : Bool) (eq : q ≡ starts_with (0x6f ∷ 0x64 ∷ 0x64 ∷ []) s) where
    -- the code's test of `odd` is the definition's
    odd-test : q ≡ starts_with (text "odd") s
    odd-test = eq ∙ ap (λ (w : List ℕ). starts_with w s) (sym odd-bytes)

    -- where the text is not `even`, the other forms decide
    no-even : (r : ComponentAnswer) → r ≡ component_answer (or_else (worded s (text "odd") (pos 2) (pos 1)) (or_else (both_of s) (or_else (just_a s) (just_b s)))) → r ≡ component_answer (nth_of s)
    unfolding nth_of
    no-even r h = or-second _ _ (word-missing s (text "even") (pos 2) (pos 0) t even-test e) r h

    -- `odd` is read as 2n+1
    pub nth-odd : q ≡ true → Ok (Some (numbers 3 4 2)) ≡ component_answer (nth_of s)
    nth-odd f =
        no-even _
        (or-first _ _ _
        (ap (λ (n : ℕ). Ok (Some (numbers n 4 2))) (sym (ap length odd-bytes)) ∙ word-there s (text "odd") (pos 2) (pos 1) q odd-test f 4 2 signed-numbers.2 signed-numbers.1) (λ e. cc))

    module _ (f : q ≡ false) (r : ComponentAnswer) (er : r ≡ component_answer (both_of s)) where
      -- where it is no word, an+b, an or b decides
      no_word : (x : ComponentAnswer) → x ≡ component_answer (or_else (both_of s) (or_else (just_a s) (just_b s))) → x ≡ component_answer (nth_of s)
      no_word x h = no-even x (or-second _ _ (word-missing s (text "odd") (pos 2) (pos 1) q odd-test f) x h)

      -- an+b, where both numbers are there
      pub nth-both : (r ≡ Ok None → ⊥) → r ≡ component_answer (nth_of s)
      nth-both h = no_word r (or-first _ _ r er h)

      module _ (n : r ≡ Ok None) (r' : ComponentAnswer) (er' : r' ≡ component_answer (just_a s)) where
        -- where it is not an+b either, an or b decides
        no_both : (x : ComponentAnswer) → x ≡ component_answer (or_else (just_a s) (just_b s)) → x ≡ component_answer (nth_of s)
        no_both x h = no_word x (or-second _ _ (sym n ∙ er) x h)

        -- an, where the second is not
        pub nth-a : (r' ≡ Ok None → ⊥) → r' ≡ component_answer (nth_of s)
        nth-a h = no_both r' (or-first _ _ r' er' h)

        -- b, where the first is not
        pub nth-b : r' ≡ Ok None → (x : ComponentAnswer) → x ≡ component_answer (just_b s) → x ≡ component_answer (nth_of s)
        nth-b h x ex = no_both x (or-second _ _ (sym h ∙ er') x ex)

-- ---- the returns of `parse_nth_child_args`
module _ (s : List ℕ) (t : Bool) (et : t ≡ is (get_or s 0 0) (ascii "(")) where
  -- without an opening bracket there are no arguments
  pub args_none : t ≡ false → Ok None ≡ component_answer (nth_args_of s)
  unfolding nth_args_of
  args_none e = answer-none _ (pick-false _ _ _ _ (told _ _ _ et e) refl)

  -- an opening bracket that is found stands before the end of the text
  pub bracket-there : t ≡ true → 1 ≤ length s
  bracket-there e = let h = byte-there s 0 (ascii "(") (omega arith) (told _ _ _ et e) in omega arith

  -- then white space up to w, and the reading from there on
  module _ (e : t ≡ true) (w : ℕ) (ew : w ≡ 1 + skip_whitespace (drop 1 s)) (lw : w ≤ length s) (r : ComponentAnswer)
      (er : r ≡ component_answer (nth_of (take (length s - w) (drop w s)))) where
    -- of the rest of the text
    lent : r ≡ component_answer (nth_of (drop w s))
    lent = er ∙ ap (λ (u : List ℕ). component_answer (nth_of u)) (rest s w)

    -- the definition where nothing is read
    args-fail : nth_of (drop w s) ≡ fails → fails ≡ nth_args_of s
    unfolding nth_args_of on_outcome pick
    args-fail h = rw (told _ _ _ et e, ← ew, h)

    -- where the crate panics in the argument, it panics in the brackets, counted from the first
    args-panics : (p : ℕ) → nth_of (drop w s) ≡ panics p → panics (w + p) ≡ nth_args_of s
    unfolding nth_args_of on_outcome pick
    args-panics p h = rw (told _ _ _ et e, ← ew, h)

    -- where there is a reading, by the byte behind white space
    args_by : (n : ℕ) (x : Component) → nth_of (drop w s) ≡ reads n x → (end : ℕ) → end ≡ w + n + skip_whitespace (drop (w + n) s)
        → pick (is (get_or s end 0) (ascii ")")) (reads (end + 1) x) fails ≡ nth_args_of s
    unfolding nth_args_of on_outcome pick
    args_by n x h end q = rw (told _ _ _ et e, ← ew, h, q)

    -- where no argument was read there are none
    pub args-not-read : r ≡ Ok None → Ok None ≡ component_answer (nth_args_of s)
    args-not-read h = answer-none _ (args-fail (fails_by _ (sym h ∙ lent)))

    module _ (p : ℕ) (h : r ≡ Err (panic_at p)) where
      -- it panics within the text
      pub args-panic-le : w + p ≤ length s
      args-panic-le = omega (arith, where-panics (length (drop w s)) _ _ p (panics-by _ (panic_at p) (sym h ∙ lent)) (nth-keeps (drop w s)), length-drop w s)

      -- where the crate panics the place counts from the bracket
      pub args-panic : Err (panic_at (w + p)) ≡ component_answer (nth_args_of s)
      args-panic = answer-panic _ _ (args-panics p (panics-by _ (panic_at p) (sym h ∙ lent)))

    module _ (n : ℕ) (d : declared.Component) (h : r ≡ Ok (Some (read_as n d))) where
      -- the argument that was read
      got : Read (nth_of (drop w s)) n d
      got = read_by _ (read_as n d) (sym h ∙ lent)

      -- it lies within the text
      pub args-le : w + n ≤ length s
      args-le = omega (arith, (where-read (length (drop w s)) _ _ n got.component got.reads-it (nth-keeps (drop w s))).0, length-drop w s)

      -- then white space up to the end, and a test for the closing bracket
      module _ (end : ℕ) (ee : end ≡ w + n + skip_whitespace (drop (w + n) s)) (u : Bool) (eu : u ≡ is (get_or s end 0) (ascii ")")) where
        -- without a closing bracket there are none
        pub args-open : u ≡ false → Ok None ≡ component_answer (nth_args_of s)
        args-open f = answer-none _ (pick-false _ _ _ _ (told _ _ _ eu f) refl ∙ args_by n _ got.reads-it end ee)

        -- with it what was read are the arguments
        pub args_read : u ≡ true → Ok (Some (read_as (end + 1) d)) ≡ component_answer (nth_args_of s)
        args_read f = answer-bare _ (end + 1) got.component d (sym got.coded) (pick_true _ _ _ _ (told _ _ _ eu f) refl ∙ args_by n _ got.reads-it end ee)
