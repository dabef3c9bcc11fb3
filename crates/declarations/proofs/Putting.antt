-- A declaration put down: what it says by its stores, and that its text is among what they hold.
use mathlib.Core.Path.{◌≡◌, refl, ap, ◌∙◌}
use mathlib.Core.Bool.{Bool, true, false}
use mathlib.Core.List.{List}
use Prim.Native.Nat.{ℕ, ◌+◌, ◌≤◌}
use native.Mathlib.Omega.{arith}
use lib.ListN.{length}
use lib.Seq.{sets}
use Rattle.combinators.specs.Choice.{pick, is}
use Rattle.combinators.specs.Store.{wiped}
use Rattle.combinators.specs.Part.{part}
use Rattle.combinators.proofs.Parts.{part-le}
use Rattle.lexer.specs.Token.{Token, text_of}
use Rattle.syntax.specs.Declaration.{Decl, color, background_color, height, max_height, overflow, overflow_y, display, white_space, content, visibility, unknown}
use Rattle.syntax.specs.Layout.{flag, decl_text}
use Rattle.syntax.specs.Stream.{texts_many}
use Rattle.values.specs.Property.{decl_of}
use Rattle.values.specs.View.{tokens_at}
use Rattle.values.specs.DeclAnswer.{decl_answer, text_length, kind_of, value_number, numbers_of}
use Rattle.values.specs.declared.properties.Decl as declared
use Rattle.values.specs.declared.properties.Decl.TheVariants as code
use Rattle.values.specs.declared.properties.DeclNumbers.{DeclNumbers}
use Rattle.values.proofs.DeclLaws.{Textless, decl-text}
use Rattle.declarations.specs.DeclRow.{named_decl, named_by, named_numbers_by, shift, kept_text, Keeping, row_by, Narrow}
use Rattle.declarations.specs.Leaving.{PutRoom, decl_said, Put}

-- ---- a declaration as the code has it, without its name if asked
-- leaving out the name in the code's answer is the answer for the declaration without its name
pub named-answer : (names : Bool) (d : Decl) → named_by names (decl_answer d) ≡ decl_answer (named_decl names d)
unfolding named_by decl_answer named_decl pick
named-answer names (color c) = refl
named-answer names (background_color c) = refl
named-answer names (height z) = refl
named-answer names (max_height z) = refl
named-answer names (overflow o) = refl
named-answer names (overflow_y o) = refl
named-answer names (display n) = refl
named-answer names (white_space w) = refl
named-answer names (content t) = refl
named-answer names (visibility z) = refl
named-answer true (unknown t) = refl
named-answer false (unknown t) = refl

-- leaving it out of the numbers of a declaration gives those of the declaration without it
pub named-numbers : (names : Bool) (x : declared.Decl) → named_numbers_by names (numbers_of x) ≡ numbers_of (named_by names x)
unfolding named_by named_numbers_by numbers_of kind_of value_number text_length pick is
named-numbers names (code.Color v) = refl
named-numbers names (code.BackgroundColor v) = refl
named-numbers names (code.Height z) = refl
named-numbers names (code.MaxHeight z) = refl
named-numbers names (code.Overflow v) = refl
named-numbers names (code.OverflowY v) = refl
named-numbers names (code.Display z) = refl
named-numbers names (code.WhiteSpace v) = refl
named-numbers names (code.Content n) = refl
named-numbers names (code.Visibility z) = refl
named-numbers names (code.Unknown n) = refl

-- so it does in the code's answer, as numbers
pub numbers-answer : (names : Bool) (d : Decl) → named_numbers_by names (numbers_of (decl_answer d)) ≡ numbers_of (decl_answer (named_decl names d))
numbers-answer names d = named-numbers names (decl_answer d) ∙ ap numbers_of (named-answer names d)

-- a declaration whose text is at most t bytes long, where it is a content, and at most n, where it is a name
unfoldable pub Bounded : ℕ → ℕ → Decl → Type 0
Bounded n t (color c) = Unit
Bounded n t (background_color c) = Unit
Bounded n t (height z) = Unit
Bounded n t (max_height z) = Unit
Bounded n t (overflow o) = Unit
Bounded n t (overflow_y o) = Unit
Bounded n t (display z) = Unit
Bounded n t (white_space w) = Unit
Bounded n t (content b) = length b ≤ t
Bounded n t (visibility z) = Unit
Bounded n t (unknown b) = length b ≤ n

-- is among n bytes of name and t bytes behind them
pub text-among : (names : Bool) (n t : ℕ) (d : Decl) → Bounded n t d → shift (numbers_of (decl_answer (named_decl names d))) n + (numbers_of (decl_answer (named_decl names d))).text ≤ n + t
unfolding shift numbers_of kind_of value_number text_length decl_answer named_decl Bounded pick is
text-among names n t (color c) b = omega arith
text-among names n t (background_color c) b = omega arith
text-among names n t (height z) b = omega arith
text-among names n t (max_height z) b = omega arith
text-among names n t (overflow o) b = omega arith
text-among names n t (overflow_y o) b = omega arith
text-among names n t (display z) b = omega arith
text-among names n t (white_space w) b = omega arith
text-among names n t (content x) b = omega arith
text-among names n t (visibility z) b = omega arith
text-among true n t (unknown x) b = omega arith
text-among false n t (unknown x) b = omega arith

-- a declaration without a text is within any bounds
textless-bounded : (n t : ℕ) (d : Decl) → Textless d → Bounded n t d
unfolding Bounded decl_text
textless-bounded n t (color c) h = tt
textless-bounded n t (background_color c) h = tt
textless-bounded n t (height z) h = tt
textless-bounded n t (max_height z) h = tt
textless-bounded n t (overflow o) h = tt
textless-bounded n t (overflow_y o) h = tt
textless-bounded n t (display z) h = tt
textless-bounded n t (white_space w) h = tt
textless-bounded n t (content b) h = omega (arith, ap length h.none)
textless-bounded n t (visibility z) h = tt
textless-bounded n t (unknown b) h = omega (arith, ap length h.none)

-- a declaration's text is its name, where it is unknown, or what its strings say
pub decl-bounded : (name : List ℕ) (ks : List Token) (n t : ℕ) → length name ≤ n → length (texts_many text_of ks) ≤ t → Bounded n t (decl_of name ks)
decl-bounded name ks n t h k = unfold Bounded in decl-text (Bounded n t) name ks (textless-bounded n t) h k

-- ---- `put_declared`: from the declaration x that the code read, its numbers m, and those with the name left out or not, y
module _ (names important : Bool) {start : ℕ} {tokens : List ℕ} {count : ℕ} {store : List ℕ} {f n t : ℕ} (room : PutRoom start tokens count store f n t)
    {v : List ℕ} (ev : v ≡ part store f n) {x : declared.Decl} (ex : x ≡ decl_answer (decl_of v (tokens_at tokens store count)))
    {m y : DeclNumbers} (em : m ≡ numbers_of x) (ey : y ≡ named_numbers_by names m) where
  abbrev said : Decl
  said = decl_of (part store f n) (tokens_at tokens store count)

  -- the numbers that the code has are those of the declaration that the stores say
  said-is : y ≡ numbers_of (decl_said names tokens count store f n)
  unfolding decl_said
  said-is =
      ey ∙ ap (named_numbers_by names) (em ∙ ap numbers_of (ex ∙ ap (λ w. decl_answer (decl_of w (tokens_at tokens store count))) ev))
      ∙ numbers-answer names said

  -- its text is at most t bytes long, where it is a content, and at most n, where it is a name
  bounded : Bounded n t said
  bounded = decl-bounded (part store f n) (tokens_at tokens store count) n t (part-le store f n) room.texts

  -- the text to be kept lies among the n bytes of name and the t bytes behind them
  among : shift y n + y.text ≤ n + t
  unfolding decl_said
  among = rw said-is (text-among names n t said bounded)

  -- so it can be moved down within the store
  pub put-keeping : Keeping y store f n t
  put-keeping = record { inside = room.inside; among = among; bits = omega (arith, room.bits) }

  -- the numbers of its row fit 32 bits
  pub put-narrow : Narrow y start f
  put-narrow = record { text-fits = omega (arith, among, room.bits); start_fits = room.start-bits; fill-fits = omega (arith, room.bits) }

  -- with the text moved down and the row written, the declaration is put down
  pub put-done : {rules rules' store' : List ℕ} {place : ℕ} → store' ≡ sets (wiped f (n + t) store) f (kept_text y store f n)
      → rules' ≡ sets rules place (row_by (flag important) start f y) → Put names important start tokens count rules place store f n t y.text rules' store'
  unfolding numbers_of
  put-done {rules} {rules'} {store'} {place} es er =
      record {
        kept = ap (λ (d : DeclNumbers). d.text) said-is;
        row = er ∙ ap (λ d. sets rules place (row_by (flag important) start f d)) said-is;
        left = es ∙ ap (λ d. sets (wiped f (n + t) store) f (kept_text d store f n)) said-is;
      }
