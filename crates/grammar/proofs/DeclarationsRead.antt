-- A declaration of the grammar is read whole, before what may stand behind a value.
use mathlib.Core.Path.{◌≡◌, refl, ap, sym, ◌∙◌}
use mathlib.Core.List.{List, ◌∷◌, ◌++◌, append_assoc, append-nil}
use Prim.Native.Nat.{ℕ, suc, ◌+◌}
use native.Mathlib.Omega.{arith}
use lib.ListN.{length, drop, length-append}
use lib.Seq.{get_or-append_seam, get_or-append-add, drop-append-add, drop-append_seam}
use Prim.Native.Char.{code as ascii}
use Rattle.combinators.specs.Choice.{pick, or, and, is, within}
use Rattle.combinators.specs.Parsed.{ok, on_parsed}
use Rattle.lexer.specs.Name.{ident_of}
use Rattle.lexer.specs.Token.{Token}
use Rattle.lexer.specs.Whitespace.{is_whitespace, comment_of, whitespace_item, skip_whitespace}
use Rattle.lexer.proofs.SyntaxName.{ident_start, ident_code_point, letter, sequence-unskipped, ident-sequence}
use Rattle.lexer.proofs.SyntaxWhitespace.{skips-blank}
use Rattle.syntax.specs.Declaration as syntax
use Rattle.syntax.specs.Declaration.{Decl}
use Rattle.values.specs.Property.{decl_of}
use Rattle.values.specs.Value.{value_of}
use Rattle.declarations.specs.Rules.{colon_behind, property_of, value_behind, declaration_of}
use Rattle.grammar.specs.Nth.{Blanks}
use Rattle.grammar.specs.Tokens.{closer, Ident, folded}
use Rattle.grammar.specs.Values.{Values, end, then, block, written_values, means_values, Apart, Outermost, Unmarked, Some, DeclarationValue, Importance, written_importance, is_marked}
use Rattle.grammar.specs.Balanced.{Balanced, written_balanced, AnyValue}
use Rattle.grammar.specs.Declarations.{Declared, known, other, property, known_values, written_value, means_known, means_declared}
use Rattle.grammar.specs.Sheets.{Item, written_item, means_item}
use Rattle.grammar.proofs.ComponentsRead.{Ended}
use Rattle.grammar.proofs.SelectorsRead.{blank-ended}
use Rattle.grammar.proofs.TokensRead.{atom-begins, opening-begins}
use Rattle.grammar.proofs.ValuesRead.{unspaced, Halts, follows, then-onto, block-onto, ValueEnds, mark-halts, ends-halt, marked-read, value_read}
use Rattle.grammar.proofs.BalancedRead.{unbanged-plain, calm_pass, balanced-behind}
use Rattle.grammar.proofs.DeclarationsMeant.{declared-meant, other-meant, known-value}

-- ---- white space before a value
-- which the reader skips with the colon
unfoldable lead : Values → Blanks
lead (end b) = b
lead (then b a v) = b
lead (block b o w v) = b

-- what is left is the value without it
unfoldable unled : Values → Values
unled (end b) = end unspaced
unled (then b a v) = then unspaced a v
unled (block b o w v) = block unspaced o w v

-- both make up what is written
lead-onto : (v : Values) → written_values v ≡ (lead v).bytes ++ written_values (unled v)
unfolding written_values lead unled
lead-onto (end b) = sym (append-nil b.bytes)
lead-onto (then b a v) = refl
lead-onto (block b o w v) = refl

-- without the white space before it, a value has the same tokens
unled-means : (v : Values) → means_values (unled v) ≡ means_values v
unfolding means_values unled
unled-means (end b) = refl
unled-means (then b a v) = refl
unled-means (block b o w v) = refl

-- and it is a declaration's value still
unled-value : (v : Values) → DeclarationValue v → DeclarationValue (unled v)
unfolding Apart Outermost Unmarked Some unled
unled-value (end b) h = absurd h.some
unled-value (then b a v) h = record { some = tt; apart = h.apart; outermost = h.outermost; unmarked = h.unmarked }
unled-value (block b o w v) h = record { some = tt; apart = h.apart; outermost = h.outermost; unmarked = h.unmarked }

-- it begins with no white space
unled-item : (v : Values) (z : List ℕ) → DeclarationValue v → Halts z → whitespace_item (written_values (unled v) ++ z) ≡ 0
unfolding Some Apart unled
unled-item (end b) z h g = absurd h.some
unled-item (then b a v) z h g =
    ap whitespace_item (then-onto unspaced a v z) ∙ (atom-begins a (written_values v ++ z) (follows a v z h.apart.0 h.apart.1 g)).item
unled-item (block b o w v) z h g = ap whitespace_item (block-onto unspaced o w v z) ∙ (opening-begins o (written_values w ++ (closer o ∷ (written_values v ++ z)))).item

-- ---- a value in a declaration: white space, and what is read behind it
record ValueRead (w : List ℕ) (m : Importance) (t name : List ℕ) (means : Decl) : Type 0 where
  before : Blanks
  left : List ℕ
  onto : w ++ written_importance m ≡ before.bytes ++ left
  item : whitespace_item (left ++ t) ≡ 0
  tokens : List Token
  reads : value_of (left ++ t) ≡ ok (length left) (record { tokens = tokens; important = is_marked m })
  meant : decl_of name tokens ≡ means

-- component values are read whole, with their mark, and come to the declaration that their tokens mean
values-read : (v : Values) (m : Importance) (t name : List ℕ) (means : Decl) → DeclarationValue v → decl_of name (means_values v) ≡ means → ValueEnds t
    → ValueRead (written_values v) m t name means
values-read v m t name means h e z =
    let u = written_values (unled v) ++ written_importance m in
    record {
      before = lead v;
      left = u;
      onto = ap (λ (r : List ℕ). r ++ written_importance m) (lead-onto v) ∙ append_assoc (lead v).bytes (written_values (unled v)) (written_importance m);
      item = ap whitespace_item (append_assoc (written_values (unled v)) (written_importance m) t) ∙ unled-item v (written_importance m ++ t) h (mark-halts m t (ends-halt z));
      tokens = means_values v;
      reads =
          value_read (unled v) m t (unled-value v h) z ∙ ap (λ (ks : List Token). ok (length u) (record { tokens = ks; important = is_marked m })) (unled-means v);
      meant = e;
    }

-- of a text in which brackets match, whatever its tokens are
any-read : (v : Balanced) (m : Importance) (t name : List ℕ) (means : Decl) → AnyValue v → ((ks : List Token) → decl_of name ks ≡ means) → ValueEnds t
    → ValueRead (written_balanced v) m t name means
any-read v m t name means h e z =
    let k = balanced-behind v (written_importance m ++ t) h.some h.clear h.tight (mark-halts m t (ends-halt z)) in
    let r = k.rest in
    let p = calm_pass r (written_importance m ++ t) (k.keeps-clear h.clear) (k.keeps_outside h.outside) (k.keeps-tight h.tight) (k.keeps-calm h.calm) (mark-halts m t (ends-halt z)) in
    record {
      before = k.before;
      left = written_balanced r ++ written_importance m;
      onto = ap (λ (l : List ℕ). l ++ written_importance m) k.parts ∙ append_assoc k.before.bytes (written_balanced r) (written_importance m);
      item = ap whitespace_item (append_assoc (written_balanced r) (written_importance m) t) ∙ k.item;
      tokens = p.ks;
      reads = marked-read (written_balanced r) m t p.passes (unbanged-plain p.ks (p.unbanged refl)) z;
      meant = e p.ks;
    }

-- the value of every declaration is read whole, whether its property is known or not
declared-read : (d : Declared) (m : Importance) (t : List ℕ) → ValueEnds t → ValueRead (written_value d) m t (folded (property d)) (means_declared d)
unfolding written_value property means_declared
declared-read (known n b k h) m t z = values-read (known_values b k) m t (folded n) (means_known k) (known-value b k) (declared-meant n b k h) z
declared-read (other n d v h) m t z = any-read v m t (folded n) (syntax.unknown (folded n)) h (λ ks. other-meant (folded n) ks d) z

-- ---- a declaration
-- its name is read whole, in small letters, where it ends
ident-read : (n : Ident) (t : List ℕ) → Ended t → ident_of (n.bytes ++ t) ≡ ok (length n.bytes) (folded n)
unfolding folded
ident-read n t h = ident-sequence n.bytes t n.sequence h.no-character h.no-escape

-- no white space begins with the marks of a block
pub block-items : (r : List ℕ) → (whitespace_item (ascii "}" ∷ r) ≡ 0) × (whitespace_item (ascii ";" ∷ r) ≡ 0) × (whitespace_item (ascii ":" ∷ r) ≡ 0)
    × (whitespace_item (ascii "{" ∷ r) ≡ 0)
unfolding whitespace_item is_whitespace comment_of pick or is
block-items r = (refl, refl, refl, refl)

-- the colon behind a name, with white space or none around it
colon-read : (a g r name : List ℕ) → skip_whitespace (g ++ (ascii ":" ∷ r)) ≡ length g → (m : ℕ) → skip_whitespace r ≡ m
    → colon_behind (length a) name (a ++ (g ++ (ascii ":" ∷ r))) ≡ ok (length a + length g + 1 + m) name
unfolding colon_behind pick is
colon-read a g r name e m d =
    let s = a ++ (g ++ (ascii ":" ∷ r)) in
    let c : length a + length g + 1 ≡ length a + (length g + 1) = omega arith in
    rw (
      drop-append_seam a (g ++ (ascii ":" ∷ r)),
      e,
      get_or-append-add a (g ++ (ascii ":" ∷ r)) (length g) 0,
      get_or-append_seam g (ascii ":") r 0,
      c,
      drop-append-add a (g ++ (ascii ":" ∷ r)) (length g + 1),
      drop-append-add g (ascii ":" ∷ r) 1,
      d,
    )

-- a name ends before a colon
colon-ended : (r : List ℕ) → Ended (ascii ":" ∷ r)
unfolding ident_code_point ident_start letter or and within is
colon-ended r = record { no-character = refl; no-escape = λ q. omega arith; no-round = refl }

module _ (d : Item) (t : List ℕ) (z : ValueEnds t) where
  -- the parts of a declaration: its name, the white space before the colon and behind it, its value with its mark
  abbrev k : ValueRead (written_value d.declared) d.importance t (folded (property d.declared)) (means_declared d.declared)
  k = declared-read d.declared d.importance t z

  abbrev a : List ℕ
  a = (property d.declared).bytes

  abbrev g : List ℕ
  g = d.before_colon.bytes

  abbrev l : List ℕ
  l = k.before.bytes

  abbrev u : List ℕ
  u = k.left

  -- a declaration is written as its name, white space, a colon, white space and the value with its mark
  item-parts : written_item d ≡ a ++ (g ++ (ascii ":" ∷ (l ++ u)))
  unfolding written_item
  item-parts = ap (λ (r : List ℕ). a ++ (g ++ (ascii ":" ∷ r))) k.onto

  -- with t behind it
  item-onto : written_item d ++ t ≡ a ++ (g ++ (ascii ":" ∷ (l ++ (u ++ t))))
  item-onto =
      ap (λ (r : List ℕ). r ++ t) item-parts ∙ append_assoc a (g ++ (ascii ":" ∷ (l ++ u))) t
      ∙ ap (λ (r : List ℕ). a ++ r) (append_assoc g (ascii ":" ∷ (l ++ u)) t ∙ ap (λ (r : List ℕ). g ++ (ascii ":" ∷ r)) (append_assoc l u t))

  -- and how long it is
  item-length : length (written_item d) ≡ length a + length g + 1 + length l + length u
  item-length = omega (arith, ap length item-parts, length-append a (g ++ (ascii ":" ∷ (l ++ u))), length-append g (ascii ":" ∷ (l ++ u)), length-append l u)

  -- the name and the colon are read
  property-read : property_of (a ++ (g ++ (ascii ":" ∷ (l ++ (u ++ t))))) ≡ ok (length a + length g + 1 + length l) (folded (property d.declared))
  unfolding property_of on_parsed
  property-read =
      let r = l ++ (u ++ t) in
      rw (ident-read (property d.declared) (g ++ (ascii ":" ∷ r)) (blank-ended (ascii ":" ∷ r) d.before_colon.blank (colon-ended r)))
      (colon-read a g r (folded (property d.declared)) (skips-blank g (ascii ":" ∷ r) d.before_colon.blank (block-items r).2) (length l) (skips-blank l (u ++ t) k.before.blank k.item))

  -- the value stands behind them
  value-behind : drop (length a + length g + 1 + length l) (a ++ (g ++ (ascii ":" ∷ (l ++ (u ++ t))))) ≡ u ++ t
  value-behind =
      let e : length a + length g + 1 + length l ≡ length a + (length g + suc (length l)) = omega arith in
      rw e
      (drop-append-add a (g ++ (ascii ":" ∷ (l ++ (u ++ t)))) (length g + suc (length l)) ∙ drop-append-add g (ascii ":" ∷ (l ++ (u ++ t))) (suc (length l))
      ∙ drop-append_seam l (u ++ t))

  -- it is read whole
  pub declaration-read : declaration_of (written_item d ++ t) ≡ ok (length (written_item d)) (means_item 0 d)
  unfolding declaration_of value_behind on_parsed means_item
  declaration-read =
      rw (
        item-onto,
        property-read,
        value-behind,
        k.reads,
        k.meant,
        sequence-unskipped (property d.declared).sequence (g ++ (ascii ":" ∷ (l ++ (u ++ t)))),
        item-length,
      )
