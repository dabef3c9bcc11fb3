-- What a component keeps to: it takes a byte or more, and no more than there are; its text is no longer than what it takes, or two bytes
-- longer where a backslash ends the text.
use mathlib.Core.Path.{◌≡◌, refl}
use mathlib.Core.Bool.{Bool}
use mathlib.Core.List.{List, [], ◌++◌}
use Prim.Native.Nat.{ℕ, ◌+◌, ◌^◌, ◌≤◌, ◌<◌}
use native.Mathlib.Omega.{arith}
use borrow.Author.Tests.{leb-true}
use lib.ListN.{length, get_or, drop, length-append, length-drop}
use Prim.Native.Char.{code as ascii}
use Rattle.combinators.specs.Choice.{pick, is}
use Rattle.combinators.specs.Parsed.{Parsed, ok, err, on_parsed}
use Rattle.combinators.proofs.Lists.{byte-there}
use Rattle.combinators.proofs.Rules.{pick-holds}
use Rattle.lexer.specs.Name.{ident_of}
use Rattle.lexer.specs.Whitespace.{skip_whitespace}
use Rattle.lexer.proofs.Bounds.{short, Fits, fits-behind, bound-two, bound-short}
use Rattle.lexer.proofs.Comments.{skip-le, skip-from-le}
use Rattle.lexer.proofs.IdentBounds.{NameKeeps, ident-keeps, identstring-keeps, ident-fits}
use Rattle.lexer.proofs.TokenBounds.{on-holds}
use Rattle.syntax.specs.RuleLayout.{component_first, component_second, component_text}
use Rattle.syntax.specs.Selector.{Component, star, class, element, hash, child, descendant, nth, attribute, attribute_equal}
use Rattle.syntax.specs.Signed.{signed_number}
use Rattle.selectors.specs.Outcome.{Outcome, reads, fails, panics, parsed, or_else}
use Rattle.selectors.specs.Selector.{class_of, hash_of, closed, value_of, attr_of, nth_args_of, pseudo_class_of, marked, blank_of, component_of}
use Rattle.selectors.specs.NthAnswer.{greatest_signed}
use Rattle.selectors.specs.Components.{first_component, next_of}
use Rattle.selectors.proofs.AllLaws.{Where, where-else}
use Rattle.selectors.proofs.NthKeeps.{Numbered, NthKeeps, args-keeps}
use Rattle.selectors.proofs.AttrLaws.{quoted-keeps}
use Rattle.selectors.proofs.PseudoLaws.{args, args_read, args-fail, args-panic}

-- the numbers of an+b fit
abbrev pub Small : Component → Type 0
Small star = Unit
Small (class t) = Unit
Small (element t) = Unit
Small (hash t) = Unit
Small child = Unit
Small descendant = Unit
Small (nth a b) = (signed_number a ≤ greatest_signed) × (signed_number b ≤ greatest_signed)
Small (attribute n) = Unit
Small (attribute_equal n v) = Unit

-- where a component reads, its text and its numbers fit; where the crate panics, it does within the text
abbrev pub ComponentKeeps : List ℕ → Outcome Component → Type 0
ComponentKeeps s o = Where (length s) (λ n c. Fits s n (component_text c) × Small c) o

-- ---- by the parts of the definition
-- what two alternatives keep to, the one that reads or panics keeps to
or-keeps : (s : List ℕ) (o o' : Outcome Component) → ComponentKeeps s o → ComponentKeeps s o' → ComponentKeeps s (or_else o o')
or-keeps s o o' h k = where-else (length s) (λ n c. Fits s n (component_text c) × Small c) o o' h k

-- a text that is no longer than what it takes
short-fits : (s : List ℕ) (n : ℕ) (b : List ℕ) → 1 ≤ n → n ≤ length s → length b ≤ n → Fits s n b
short-fits s n b h i l = record { some = h; within_text = i; bound = short l }

-- a mark, of a component without text
marked-keeps : (s : List ℕ) (mark : ℕ) (c : Component) → 0 < mark → component_text c ≡ [] → Small c → ComponentKeeps s (marked s mark c)
unfolding marked
marked-keeps s mark c h e m =
    let w = skip_whitespace s in
    pick-holds (ComponentKeeps s) _ _ _
    (λ t. let l = byte-there s w mark h t in
    (rw e (short-fits s (w + 1 + skip_whitespace (drop (w + 1) s)) [] (omega arith) (skip-from-le s (w + 1) (omega arith)) (omega arith)), m))
    (λ _. tt)

-- white space as a component keeps to the bounds
blank-keeps : (s : List ℕ) → ComponentKeeps s (blank_of s)
unfolding blank_of component_text
blank-keeps s =
    pick-holds (ComponentKeeps s) _ _ _ (λ t. (short-fits s (skip_whitespace s) [] (leb-true 1 (skip_whitespace s) t) (skip-le s) (omega arith), tt)) (λ _. tt)

-- a text behind k bytes
parsed-keeps : (s : List ℕ) (k : ℕ) (p : Parsed (List ℕ)) (con : List ℕ → Component) → ((b : List ℕ) → component_text (con b) ≡ b) → ((b : List ℕ) → Small (con b)) → k ≤ length s
    → NameKeeps (drop k s) p → ComponentKeeps s (parsed k p con)
unfolding parsed
parsed-keeps s k (ok n b) con e m h f = (rw (e b) (fits-behind s k n b h f), m b)
parsed-keeps s k err con e m h f = tt

-- the texts of components with one
texts : ((b : List ℕ) → component_text (class b) ≡ b) × ((b : List ℕ) → component_text (hash b) ≡ b) × ((b : List ℕ) → component_text (element b) ≡ b)
unfolding component_text
texts = (λ b. refl, λ b. refl, λ b. refl)

-- a class keeps to the bounds
class-keeps : (s : List ℕ) → ComponentKeeps s (class_of s)
unfolding class_of
class-keeps s =
    pick-holds (ComponentKeeps s) _ _ _
    (λ t. let l = byte-there s 0 (ascii ".") (omega arith) t in parsed-keeps s 1 _ class texts.0 (λ b. tt) (omega arith) (ident-keeps (drop 1 s))) (λ _. tt)

-- a hash keeps to the bounds
hash-keeps : (s : List ℕ) → ComponentKeeps s (hash_of s)
unfolding hash_of
hash-keeps s =
    pick-holds (ComponentKeeps s) _ _ _
    (λ t. let l = byte-there s 0 (ascii "#") (omega arith) t in parsed-keeps s 1 _ hash texts.1 (λ b. tt) (omega arith) (identstring-keeps (drop 1 s))) (λ _. tt)

-- an element keeps to the bounds
element-keeps : (s : List ℕ) → ComponentKeeps s (parsed 0 (ident_of s) element)
element-keeps s = parsed-keeps s 0 _ element texts.2 (λ b. tt) (omega arith) (ident-keeps s)

-- ---- attributes
-- a value behind j bytes, whose name is shorter
one-value-keeps : (s : List ℕ) (j : ℕ) (name : List ℕ) → j ≤ length s → length name ≤ j → (n : ℕ) (v : List ℕ) → Fits (drop j s) n v → ComponentKeeps s (closed s (j + n) (attribute_equal name v))
unfolding closed component_text
one-value-keeps s j name h l n v f =
    let d = length-drop j s in
    pick-holds (ComponentKeeps s) _ _ _
    (λ t. let k = byte-there s (j + n) (ascii "]") (omega arith) t in
    let m = bound-short f.bound (omega arith) in
    (short-fits s (j + n + 1) (name ++ v) (omega arith) (omega arith) (omega (arith, length-append name v)), tt))
    (λ _. tt)

-- a value keeps to the bounds as a quoted string and as a name
form-keeps : (s : List ℕ) (j : ℕ) (name : List ℕ) → j ≤ length s → length name ≤ j → (p : Parsed (List ℕ)) → NameKeeps (drop j s) p
    → ComponentKeeps s (on_parsed p (λ n v. closed s (j + n) (attribute_equal name v)) fails)
unfolding on_parsed
form-keeps s j name h l (ok n v) f = one-value-keeps s j name h l n v f
form-keeps s j name h l err f = tt

-- an attribute with a value keeps to the bounds
value_keeps : (s : List ℕ) (j : ℕ) (name : List ℕ) → j ≤ length s → length name ≤ j → ComponentKeeps s (value_of s j name)
unfolding value_of
value_keeps s j name h l =
    or-keeps s _ _ (form-keeps s j name h l _ (quoted-keeps (drop j s))) (form-keeps s j name h l _ (ident-keeps (drop j s)))

-- what follows a name of n bytes
named-keeps : (s : List ℕ) (n : ℕ) (name : List ℕ) → Fits (drop 1 s) n name
    → ComponentKeeps s (or_else (closed s (1 + n) (attribute name)) (pick (is (get_or s (1 + n) 0) (ascii "=")) (value_of s (2 + n) name) fails))
unfolding closed component_text
named-keeps s n name f =
    let d = length-drop 1 s in
    or-keeps s _ _
    (pick-holds (ComponentKeeps s) _ _ _
    (λ t. let k = byte-there s (1 + n) (ascii "]") (omega arith) t in
    let m = bound-short f.bound (omega arith) in
    (short-fits s (1 + n + 1) name (omega arith) (omega arith) (omega arith), tt)) (λ _. tt))
    (pick-holds (ComponentKeeps s) _ _ _
    (λ t. let k = byte-there s (1 + n) (ascii "=") (omega arith) t in
    let m = bound-short f.bound (omega arith) in
    value_keeps s (2 + n) name (omega arith) (omega arith)) (λ _. tt))

-- an attribute keeps to the bounds
attr-keeps : (s : List ℕ) → ComponentKeeps s (attr_of s)
unfolding attr_of
attr-keeps s =
    pick-holds (ComponentKeeps s) _ _ _
    (λ _. on-holds (ComponentKeeps s) (ident_of (drop 1 s)) _ _ (λ n b e. named-keeps s n b (ident-fits (drop 1 s) n b e)) (λ _. tt)) (λ _. tt)

-- an+b has no text, and its numbers fit
nth-keeps : (s : List ℕ) (n : ℕ) (c : Component) → Numbered c → 1 ≤ n → n ≤ length s → Fits s n (component_text c) × Small c
unfolding component_text
nth-keeps s n c h l m = rw h.is-nth (short-fits s n [] l m (omega arith), (h.first_fits, h.second_fits))

-- the arguments of `nth-child` keep to the bounds as a component
args-component : (s : List ℕ) (k : ℕ) → 1 ≤ k → k ≤ length s → (o : Outcome Component) → nth_args_of (drop k s) ≡ o → NthKeeps (drop k s) o → ComponentKeeps s (args (drop k s) k)
args-component s k h l (reads n c) e m = rw (args_read (drop k s) k n c e) (nth-keeps s (k + n) c m.1 (omega arith) (omega (arith, m.0, length-drop k s)))
args-component s k h l fails e m = rw (args-fail (drop k s) k e) tt
args-component s k h l (panics p) e m = rw (args-panic (drop k s) k p e) (omega (arith, length-drop k s))

-- a pseudo-class keeps to the bounds
pseudo-keeps : (s : List ℕ) → ComponentKeeps s (pseudo_class_of s)
unfolding pseudo_class_of
pseudo-keeps s =
    pick-holds (ComponentKeeps s) _ _ _
    (λ t. let l = byte-there s 0 (ascii ":") (omega arith) t in
    on-holds (ComponentKeeps s) (ident_of (drop 1 s)) _ _
    (λ n b e. let f = ident-fits (drop 1 s) n b e in
    pick-holds (ComponentKeeps s) _ _ _
    (λ _. args-component s (1 + n) (omega arith) (omega (arith, f.within_text, length-drop 1 s)) _ refl (args-keeps (drop (1 + n) s))) (λ _. tt)) (λ _. tt))
    (λ _. tt)

-- `>` and `*` have no text
bare : (component_text child ≡ []) × (component_text star ≡ [])
unfolding component_text
bare = (refl, refl)

-- every component keeps to the bounds
pub component-keeps : (s : List ℕ) → ComponentKeeps s (component_of s)
unfolding component_of
component-keeps s =
    or-keeps s _ _ (marked-keeps s _ child (omega arith) bare.0 tt)
    (or-keeps s _ _ (marked-keeps s _ star (omega arith) bare.1 tt)
    (or-keeps s _ _ (blank-keeps s)
    (or-keeps s _ _ (class-keeps s)
    (or-keeps s _ _ (attr-keeps s) (or-keeps s _ _ (hash-keeps s) (or-keeps s _ _ (element-keeps s) (pseudo-keeps s)))))))

-- the next one: a type selector at the start of a selector, or else any
pub next-keeps : (start : Bool) (s : List ℕ) → ComponentKeeps s (next_of start s)
unfolding next_of first_component
next-keeps start s = pick-holds (ComponentKeeps s) start _ _ (λ _. or-keeps s _ _ (element-keeps s) (component-keeps s)) (λ _. component-keeps s)

-- the numbers that go to its row
module _ (s : List ℕ) (bits : length s + 2 < 2 ^ 32) (n : ℕ) where
  -- a text no longer than what a component stands for has a length of 32 bits
  text-bits : (t b : List ℕ) → Fits s n b → length t ≤ length b → length t < 2 ^ 32
  text-bits t b f h = omega (arith, bound-two f.bound, f.within_text)

  -- the two numbers of a component that keeps to the bounds fit 32 bits
  pub row-numbers : (c : Component) → Fits s n (component_text c) → Small c → (component_first c < 2 ^ 32) × (component_second c < 2 ^ 32)
  unfolding component_text component_first component_second
  row-numbers star f h = (omega arith, omega arith)
  row-numbers (class t) f h = (text-bits t t f (omega arith), omega arith)
  row-numbers (element t) f h = (text-bits t t f (omega arith), omega arith)
  row-numbers (hash t) f h = (text-bits t t f (omega arith), omega arith)
  row-numbers child f h = (omega arith, omega arith)
  row-numbers descendant f h = (omega arith, omega arith)
  row-numbers (nth a b) f h = (omega (arith, h.0), omega (arith, h.1))
  row-numbers (attribute t) f h = (text-bits t t f (omega arith), omega arith)
  row-numbers (attribute_equal t v) f h = (text-bits t (t ++ v) f (omega (arith, length-append t v)), text-bits v (t ++ v) f (omega (arith, length-append t v)))
