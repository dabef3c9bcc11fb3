-- White space and comments in the terms of CSS Syntax Level 3 (section 4.2, the definitions of newline and whitespace; section
-- 4.3.2, Consume comments): a text of them is skipped whole. The document ends an unclosed comment at the end of the text too; here
-- it is no comment, so the law speaks of closed ones.
use mathlib.Core.Path.{◌≡◌, refl, ap, ◌∙◌}
use mathlib.Core.List.{List, [], ◌∷◌, ◌++◌, append_assoc}
use mathlib.Core.Bool.{Bool, true, false}
use Prim.Native.Nat.{ℕ, ◌+◌}
use native.Mathlib.Omega.{arith}
use lib.ListN.{length, get_or, length-append}
use lib.Seq.{drop-append_seam}
use Rattle.combinators.specs.Choice.{pick, or, and, is}
use Prim.Native.Char.{code as ascii}
use Rattle.combinators.specs.Repeat.{many}
use Rattle.combinators.proofs.Rules.{is_true, and-true}
use Rattle.combinators.proofs.Repeats.{many-took, many-stop}
use Rattle.lexer.specs.Whitespace.{comment_end, comment_of, is_whitespace, whitespace_item, skip_whitespace}

-- newline: preprocessing makes a line feed of a carriage return and of a form feed
pub data Newline : ℕ → Type 0 where
  line-feed : Newline (ascii "\n")
  carriage-return : Newline (ascii "\r")
  form-feed : Newline (ascii "\u{c}")

-- whitespace: a newline, a character tabulation or a space
pub data White : ℕ → Type 0 where
  newline : {x : ℕ} → Newline x → White x
  tab : White (ascii "\t")
  blank-space : White (ascii " ")

-- no asterisk of the body is followed by a solidus in it; the body may end in an asterisk, as in "/***/"
abbrev pub NoEnd : List ℕ → Type 0
NoEnd body = (p q : List ℕ) → ¬ (body ≡ p ++ (ascii "*" ∷ ascii "/" ∷ q))

-- "/*", and what follows up to and including the first "*/"
pub data Comment : List ℕ → Type 0 where
  closed : (body : List ℕ) → NoEnd body → Comment (ascii "/" ∷ ascii "*" ∷ (body ++ (ascii "*" ∷ ascii "/" ∷ [])))

-- white space and comments, any number of them
pub data Blank : List ℕ → Type 0 where
  none : Blank []
  white : (x : ℕ) (b : List ℕ) → White x → Blank b → Blank (x ∷ b)
  comment : (c b : List ℕ) → Comment c → Blank b → Blank (c ++ b)

-- ---- what the document calls so, the reader takes whole
-- a newline is white space of the reader
newline-is : {x : ℕ} → Newline x → is_whitespace x ≡ true
unfolding is_whitespace or is
newline-is line-feed = refl
newline-is carriage-return = refl
newline-is form-feed = refl

-- and so is all white space
white-is : {x : ℕ} → White x → is_whitespace x ≡ true
unfolding is_whitespace or is
white-is (newline n) = newline-is n
white-is tab = refl
white-is blank-space = refl

-- no end stands at the first byte of a body, whatever follows its closing asterisk
no-end-here : (x : ℕ) (b r : List ℕ) → NoEnd (x ∷ b) → and (is x (ascii "*")) (is (get_or (b ++ (ascii "*" ∷ r)) 0 0) (ascii "/")) ≡ false
no-end-here x b r h = go b h (and (is x (ascii "*")) (is (get_or (b ++ (ascii "*" ∷ r)) 0 0) (ascii "/"))) refl
  where
    go : (b : List ℕ) → NoEnd (x ∷ b) → (t : Bool) → and (is x (ascii "*")) (is (get_or (b ++ (ascii "*" ∷ r)) 0 0) (ascii "/")) ≡ t → t ≡ false
    go b h false e = refl
    go [] h true e = absurd (let p = is_true _ _ (and-true _ _ e).1 in omega arith)
    go (y ∷ b) h true e = absurd (h [] b (rw (is_true x _ (and-true _ _ e).0, is_true y _ (and-true _ _ e).1)))

-- an end is found where it stands
end-here : (i : ℕ) (r : List ℕ) → comment_end i (ascii "*" ∷ ascii "/" ∷ r) ≡ i + 2
unfolding comment_end pick and is
end-here i r = refl

-- the first end behind a body is the one that closes the comment
end-found : (b r : List ℕ) (i : ℕ) → NoEnd b → comment_end i (b ++ (ascii "*" ∷ ascii "/" ∷ r)) ≡ i + length b + 2
unfolding comment_end pick
end-found [] r i h = end-here i r ∙ omega arith
end-found (x ∷ b) r i h = rw (no-end-here x b (ascii "/" ∷ r) h) (end-found b r (i + 1) (λ p q e. h (x ∷ p) q (ap (λ l. x ∷ l) e)) ∙ omega arith)

-- a character of white space is taken
white-taken : {x : ℕ} → White x → (l : List ℕ) → whitespace_item (x ∷ l) ≡ 1
unfolding whitespace_item pick
white-taken w l = rw (white-is w)

-- "/*" begins a comment
opened : (l : List ℕ) → whitespace_item (ascii "/" ∷ ascii "*" ∷ l) ≡ comment_end 2 l
unfolding whitespace_item is_whitespace or comment_of pick is
opened l = refl

-- a comment is taken to its end
comment-taken : {c : List ℕ} → Comment c → (l : List ℕ) → whitespace_item (c ++ l) ≡ length c
comment-taken (closed b h) l =
    ap whitespace_item (ap (λ t. (ascii "/") ∷ ascii "*" ∷ t) (append_assoc b (ascii "*" ∷ ascii "/" ∷ []) l))
    ∙ opened _ ∙ end-found b l 2 h ∙ omega (arith, length-append b (ascii "*" ∷ ascii "/" ∷ []))

-- ---- what the reader takes whole is skipped
-- one item that the reader takes to its end is skipped, and what follows is skipped as by itself
skips-item : (c l : List ℕ) (i : ℕ) → whitespace_item (c ++ l) ≡ length c → ¬ (length c ≡ 0)
    → many whitespace_item i 0 (c ++ l) ≡ many whitespace_item (i + length c) 0 l
skips-item c l i e d =
    many-took whitespace_item (c ++ l) i (length c) (omega (arith, length-append c l)) e d
    ∙ ap (many whitespace_item (i + length c) 0) (drop-append_seam c l)

-- a comment is not empty
comment-some : {c : List ℕ} → Comment c → ¬ (length c ≡ 0)
comment-some (closed b h) e = omega arith

-- all of them, counted on from i
skips-from : {b : List ℕ} → Blank b → (t : List ℕ) (i : ℕ) → whitespace_item t ≡ 0 → many whitespace_item i 0 (b ++ t) ≡ i + length b
skips-from none t i e = many-stop whitespace_item t i e ∙ omega arith
skips-from (white x b w r) t i e =
    skips-item (x ∷ []) (b ++ t) i (white-taken w _) (λ z. omega arith) ∙ skips-from r t (i + 1) e ∙ omega arith
skips-from (comment c b w r) t i e =
    ap (many whitespace_item i 0) (append_assoc c b t)
    ∙ skips-item c (b ++ t) i (comment-taken w _) (comment-some w)
    ∙ skips-from r t (i + length c) e ∙ omega (arith, length-append c b)

-- white space and closed comments are skipped, up to the first byte that begins neither
pub skips-blank : (b t : List ℕ) → Blank b → whitespace_item t ≡ 0 → skip_whitespace (b ++ t) ≡ length b
unfolding skip_whitespace
skips-blank b t h e = skips-from h t 0 e ∙ omega arith

-- " /***/": the body is "*"
test-blank : (t : List ℕ) → whitespace_item t ≡ 0
    → skip_whitespace (ascii " " ∷ ascii "/" ∷ ascii "*" ∷ ascii "*" ∷ ascii "*" ∷ ascii "/" ∷ t) ≡ 6
test-blank t = skips-blank _ t (white (ascii " ") _ blank-space (comment _ _ (closed (ascii "*" ∷ []) star) none))
  where
    star : NoEnd (ascii "*" ∷ [])
    star p q e = let l = ap length e in omega (arith, length-append p (ascii "*" ∷ ascii "/" ∷ q))
