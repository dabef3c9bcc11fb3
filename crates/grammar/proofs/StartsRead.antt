-- A start points at what it says: a declaration that is read from a sheet or from a `style` attribute stands where it says (specs/Starts.antt), and the styles start where a
-- declaration stands that asks for them. A start is counted part by part, so what is to be shown is that a part's starts, moved to where it begins, are those of the whole.
use mathlib.Core.Path.{◌≡◌, refl, ap, sym, ◌∙◌, subst}
use mathlib.Core.Bool.{Bool, true, false}
use mathlib.Core.List.{List, [], ◌∷◌, map}
use mathlib.Core.Logic.{◌⊎◌, inl, inr}
use Prim.Native.Nat.{ℕ, zero, suc, ◌+◌, ◌≤◌, ◌<◌}
use native.Mathlib.Omega.{arith}
use lib.ListN.{length, drop}
use lib.Seq.{drop-drop, get_or-drop}
use Rattle.combinators.specs.Choice.{pick, or}
use Rattle.combinators.specs.All.{All}
use Rattle.combinators.specs.Repeat.{many}
use Rattle.combinators.specs.Parsed.{Parsed, ok, err, on_parsed, behind}
use Rattle.combinators.proofs.AllLaws.{all_append, all_map, all_weaker}
use Rattle.combinators.proofs.Repeats.{many-stop, many-end, many-stopped}
use Rattle.combinators.proofs.Rules.{never, pick-holds, lt-or-ge, and-true}
use Rattle.lexer.specs.Name.{name_of, ident_of}
use Rattle.lexer.specs.Whitespace.{whitespace_item, skip_whitespace}
use Rattle.lexer.proofs.TokenBounds.{on-holds}
use Rattle.syntax.specs.Declaration.{Decl, color, background_color, height, max_height, overflow, overflow_y, display, white_space, content, visibility, unknown, Declaration}
use Rattle.syntax.specs.Selector.{RuleSet}
use Rattle.syntax.specs.Style.{StyleDecl, display_none}
use Rattle.values.specs.Property.{decl_of}
use Rattle.values.specs.Value.{Value, value_of}
use Rattle.declarations.specs.Attribute.{style_attribute}
use Rattle.declarations.specs.Rules.{Rules, colon_behind, property_of, value_behind, declaration_of, starts_at, more_rules, declarations_of}
use Rattle.declarations.specs.Styles.{one, style_of, zero_height, any_decl, own_styles, first_zero, styles_of}
use Rattle.selectors.specs.Outcome.{Outcome, reads, fails, panics, or_else}
use Rattle.selectors.specs.Outcome as outcome
use Rattle.selectors.specs.SelectorList.{selectors_of}
use Rattle.selectors.proofs.NthKeeps.{on-outcome}
use Rattle.sheets.specs.Sheet.{spaced, block_of, ruleset_of, statement_end, at_rule_of, statements_of, moved_by, sheet_from, sheet_of}
use Rattle.grammar.specs.Starts.{ReadsAtStart, SheetReadsAtStarts, itself, zero-height, AskedFor, SheetStylesRead}

-- ---- one declaration
-- behind white space and comments stand none
skipped-all : (s : List ℕ) → skip_whitespace (drop (skip_whitespace s) s) ≡ 0
unfolding skip_whitespace
skipped-all s = by (lt-or-ge w (length s))
  where
    w : ℕ
    w = many whitespace_item 0 0 s

    by : (w < length s) ⊎ (length s ≤ w) → many whitespace_item 0 0 (drop w s) ≡ 0
    by (inl h) = many-stop whitespace_item (drop w s) 0 (many-stopped whitespace_item s 0 h)
    by (inr h) = many-end whitespace_item s 0 w h

-- what was read behind k bytes is read behind none and then k
behind-none : {A : Type 0} (k : ℕ) (p : Parsed A) → behind k p ≡ behind k (behind 0 p)
unfolding behind
behind-none k (ok n a) = ap (λ (i : ℕ). ok i a) (omega arith)
behind-none k err = refl

-- reading on behind what was read behind k bytes
on-behind : {A B : Type 0} (g : Parsed B → Parsed B) → g err ≡ err → (k : ℕ) (p : Parsed A) (f h : ℕ → A → Parsed B) → ((n : ℕ) (a : A) → f (k + n) a ≡ g (h n a))
    → on_parsed (behind k p) f err ≡ g (on_parsed p h err)
unfolding on_parsed behind
on-behind g z k (ok n a) f h e = e n a
on-behind g z k err f h e = sym z

-- a reading of a declaration that starts k bytes later
unfoldable later : ℕ → Parsed Declaration → Parsed Declaration
later k p = on_parsed p (λ n d. ok (k + n) (starts_at k d)) err

-- a colon that is read or not, k bytes later
picked : {A : Type 0} (k : ℕ) (b : Bool) (m n : ℕ) (a : A) → m ≡ k + n → pick b (ok m a) err ≡ behind k (pick b (ok n a) err)
unfolding pick behind
picked k true m n a e = ap (λ (i : ℕ). ok i a) e
picked k false m n a e = refl

-- a value that is read or not, behind v bytes of what starts k bytes later
valued : (k v : ℕ) (name : List ℕ) (p : Parsed Value)
    → on_parsed p (λ m value. ok (k + v + m) (record { decl = decl_of name value.tokens; important = value.important; start = k })) err
    ≡ later k (on_parsed p (λ m value. ok (v + m) (record { decl = decl_of name value.tokens; important = value.important; start = 0 })) err)
unfolding on_parsed later starts_at
valued k v name (ok m value) =
    let e : k + v + m ≡ k + (v + m) = omega arith in
    let z : k ≡ k + 0 = omega arith in
    ap (λ (i : ℕ). ok i (record { decl = decl_of name value.tokens; important = value.important; start = k })) e
    ∙ ap (λ (i : ℕ). ok (k + (v + m)) (record { decl = decl_of name value.tokens; important = value.important; start = i })) z
valued k v name err = refl

module _ (s : List ℕ) where
  -- the first byte that is neither white space nor of a comment, and the text from there on
  abbrev first : ℕ
  first = skip_whitespace s

  abbrev rest : List ℕ
  rest = drop first s

  -- a name is read there
  ident-there : ident_of s ≡ behind first (ident_of rest)
  unfolding ident_of
  ident-there = rw (skipped-all s) (behind-none first (name_of rest))

  -- so is the colon behind it
  colon-there : (n : ℕ) (name : List ℕ) → colon_behind (first + n) name s ≡ behind first (colon_behind n name rest)
  unfolding colon_behind
  colon-there n name =
      let k = skip_whitespace (drop (first + n) s) in
      let near : first + n + k ≡ first + (n + k) = omega arith in
      let far : first + (n + k + 1) ≡ first + (n + k) + 1 = omega arith in
      rw (drop-drop n first s, get_or-drop first s (n + k) 0, drop-drop (n + k + 1) first s, near, far)
      (picked first _ _ _ name (omega arith))

  -- and all up to the value
  property-there : property_of s ≡ behind first (property_of rest)
  unfolding property_of behind
  property-there = rw ident-there (on-behind (behind first) refl first (ident_of rest) _ _ colon-there)

  -- and the value
  value_there : (v : ℕ) (name : List ℕ) → value_behind (first + v) name s ≡ later first (value_behind v name rest)
  unfolding value_behind
  value_there v name = rw (drop-drop v first s, skipped-all s) (valued first v name (value_of (drop (first + v) s)))

  -- a declaration reads as it does from there on
  declaration-there : declaration_of s ≡ later first (declaration_of rest)
  unfolding declaration_of later on_parsed
  declaration-there = rw property-there (on-behind (later first) refl first (property_of rest) _ _ value_there)

-- the name of a property that reads
name-of : (t : List ℕ) (v : ℕ) (name : List ℕ) → property_of t ≡ ok v name → (n : ℕ) × (ident_of t ≡ ok n name)
unfolding property_of colon_behind
name-of t v name =
    on-holds P (ident_of t) _ err
    (λ n x h. pick-holds P _ _ _ (λ _ e. let q : x ≡ name = cc in (n, h ∙ ap (ok n) q)) (λ _. none))
    (λ _. none)
  where
    P : Parsed (List ℕ) → Type 0
    P p = p ≡ ok v name → (n : ℕ) × (ident_of t ≡ ok n name)

    none : P err
    none e = absurd (let z : ◌≡◌ {A = ℕ} 0 1 = cc in omega arith)

-- one that is read where no white space is stands at the first byte
read-directly : (t : List ℕ) → skip_whitespace t ≡ 0 → (n : ℕ) (d : Declaration) → declaration_of t ≡ ok n d → ReadsAtStart t d
unfolding declaration_of value_behind
read-directly t z n d r =
    on-holds P (property_of t) _ err
    (λ v name h. on-holds P (value_of (drop v t)) _ err (λ m value _ e. of v m name value (name-of t v name h) e) (λ _. none))
    (λ _. none) r
  where
    P : Parsed Declaration → Type 0
    P p = p ≡ ok n d → ReadsAtStart t d

    none : P err
    none e = absurd (let z : ◌≡◌ {A = ℕ} 0 1 = cc in omega arith)

    of : (v m : ℕ) (name : List ℕ) (value : Value) → ((n : ℕ) × (ident_of t ≡ ok n name))
        → P (ok (v + m) (record { decl = decl_of name value.tokens; important = value.important; start = skip_whitespace t }))
    of v m name value i e =
        let x : ℕ → Declaration = λ k. record { decl = decl_of name value.tokens; important = value.important; start = k } in
        let q : x (skip_whitespace t) ≡ d = cc in
        subst (ReadsAtStart t) q (record {
          name = name;
          taken = i.0;
          value = value.tokens;
          whole = v + m;
          directly = skipped-all t;
          named = rw z i.1;
          of-name = refl;
          declares = ap (λ (k : ℕ). declaration_of (drop k t)) z ∙ r ∙ sym e ∙ ap (λ (k : ℕ). ok (v + m) (x k)) z;
        })

-- where a part of a text begins, what stands there in the part stands in the text
moved-read : (s : List ℕ) (at : ℕ) (d : Declaration) → ReadsAtStart (drop at s) d → ReadsAtStart s (starts_at at d)
unfolding starts_at
moved-read s at d r =
    let e : drop (at + d.start) s ≡ drop d.start (drop at s) = sym (drop-drop d.start at s) in
    record {
      name = r.name;
      taken = r.taken;
      value = r.value;
      whole = r.whole;
      directly = ap skip_whitespace e ∙ r.directly;
      named = ap ident_of e ∙ r.named;
      of-name = r.of-name;
      declares = ap declaration_of e ∙ r.declares;
    }

-- every declaration that is read from the start of a text
pub declaration-read : (s : List ℕ) (n : ℕ) (d : Declaration) → declaration_of s ≡ ok n d → ReadsAtStart s d
unfolding later
declaration-read s n d e =
    let w = skip_whitespace s in
    on-holds P (declaration_of (drop w s)) _ err
    (λ m x h q. let y : starts_at w x ≡ d = cc in subst (ReadsAtStart s) y (moved-read s w x (read-directly (drop w s) (skipped-all s) m x h)))
    (λ _ q. absurd (let z : ◌≡◌ {A = ℕ} 0 1 = cc in omega arith))
    (sym (declaration-there s) ∙ e)
  where
    P : Parsed Declaration → Type 0
    P p = p ≡ ok n d → ReadsAtStart s d

-- ---- declarations
-- behind a first one, where the rest s of a text starts at a byte
more-read : (l : ℕ) (whole s : List ℕ) (at : ℕ) → drop at whole ≡ s → All (ReadsAtStart whole) (more_rules l s at).declarations
unfolding more_rules
more-read zero whole s at e = tt
more-read (suc l) whole s at e =
    let w = 1 + skip_whitespace (drop 1 s) in
    let on : (k : ℕ) → drop (at + k) whole ≡ drop k s = λ k. sym (drop-drop k at whole) ∙ ap (drop k) e in
    pick-holds P _ _ _
    (λ _. on-holds P (declaration_of (drop w s)) _ _
    (λ n d h. (
      moved-read whole (at + w) d (subst (λ (x : List ℕ). ReadsAtStart x d) (sym (on w)) (declaration-read (drop w s) n d h)),
      more-read l whole (drop (w + n) s) (at + (w + n)) (on (w + n)),
    ))
    (λ _. tt))
    (λ _. tt)
  where
    P : Rules → Type 0
    P r = All (ReadsAtStart whole) r.declarations

-- every declaration of a text, as of a `style` attribute, stands where it says
pub attribute-starts-read : (s : List ℕ) → All (ReadsAtStart s) (declarations_of s).declarations
unfolding declarations_of
attribute-starts-read s =
    on-holds (λ (r : Rules). All (ReadsAtStart s) r.declarations) (declaration_of s) _ _
    (λ n d h. (declaration-read s n d h, more-read (length s) s (drop n s) n refl))
    (λ _. tt)

-- those of a part of a text
moved_all : (s : List ℕ) (at : ℕ) (ds : List Declaration) → All (ReadsAtStart (drop at s)) ds → All (ReadsAtStart s) (map (starts_at at) ds)
moved_all s at ds k = all_map (ReadsAtStart (drop at s)) (ReadsAtStart s) (starts_at at) (moved-read s at) ds k

-- ---- rules
-- P holds of what is read, where something is
abbrev Read : {A : Type 0} → (A → Type 0) → Outcome A → Type 0
Read P (reads n a) = P a
Read P fails = Unit
Read P (panics p) = Unit

-- of what is read by a law for all that may be
of-read : {A : Type 0} (P : A → Type 0) (o : Outcome A) (n : ℕ) (a : A) → o ≡ reads n a → Read P o → P a
of-read P o n a e h = subst (Read P) e h

-- of what is made of what is read
read_behind : {A B : Type 0} (P : A → Type 0) (Q : B → Type 0) (k : ℕ) (o : Outcome A) (f : A → B) → ((a : A) → P a → Q (f a)) → Read P o → Read Q (outcome.behind k o f)
unfolding outcome.behind outcome.on_outcome
read_behind P Q k (reads n a) f h r = h a r
read_behind P Q k fails f h r = tt
read_behind P Q k (panics p) f h r = tt

-- of the first of two that reads
read-else : {A : Type 0} (P : A → Type 0) (o q : Outcome A) → Read P o → Read P q → Read P (or_else o q)
unfolding or_else
read-else P (reads n a) q h k = h
read-else P fails q h k = k
read-else P (panics p) q h k = tt

-- the declarations of a rule
abbrev RuleReads : List ℕ → RuleSet → Type 0
RuleReads s r = All (ReadsAtStart s) r.declarations

-- of a block
block_read : (s : List ℕ) (n : ℕ) → Read (All (ReadsAtStart s)) (block_of s n)
unfolding block_of
block_read s n =
    let b = spaced s (spaced s n + 1) in
    pick-holds (Read (All (ReadsAtStart s))) _ _ _
    (λ _. pick-holds (Read (All (ReadsAtStart s))) _ _ _ (λ _. moved_all s b (declarations_of (drop b s)).declarations (attribute-starts-read (drop b s))) (λ _. tt))
    (λ _. tt)

-- of a rule that reads
rule-read : (s : List ℕ) → Read (RuleReads s) (ruleset_of s)
unfolding ruleset_of
rule-read s =
    let w = skip_whitespace s in
    on-outcome (Read (RuleReads s)) (selectors_of (drop w s)) _ fails _
    (λ n xs _. read_behind (All (ReadsAtStart s)) (RuleReads s) 0 (block_of s (w + n)) _ (λ ds k. k) (block_read s (w + n)))
    tt (λ p _. tt)

-- an at-rule leaves no rule
at-rule-read : (s : List ℕ) → Read (SheetReadsAtStarts s) (at_rule_of s)
unfolding at_rule_of statement_end
at-rule-read s =
    pick-holds W _ _ _
    (λ _. on-holds W (ident_of (drop (spaced s (skip_whitespace s + 1)) s)) _ _ (λ n name _. pick-holds W _ _ _ (λ _. tt) (λ _. tt)) (λ _. tt))
    (λ _. tt)
  where
    W : Outcome (List RuleSet) → Type 0
    W = Read (SheetReadsAtStarts s)

-- of a statement that reads
statement-read : (s : List ℕ) → Read (SheetReadsAtStarts s) (statements_of s)
unfolding statements_of
statement-read s =
    read-else (SheetReadsAtStarts s) _ _ (read_behind (RuleReads s) (SheetReadsAtStarts s) 0 (ruleset_of s) _ (λ r k. (k, tt)) (rule-read s)) (at-rule-read s)

-- rules of a part of a text
moved-rules : (s : List ℕ) (at : ℕ) (rs : List RuleSet) → SheetReadsAtStarts (drop at s) rs → SheetReadsAtStarts s (map (moved_by at) rs)
unfolding moved_by
moved-rules s at rs k = all_map (RuleReads (drop at s)) (RuleReads s) (moved_by at) (λ r h. moved_all s at r.declarations h) rs k

-- a sheet, from a byte of a text on
from-read : (l : ℕ) (whole s : List ℕ) (at : ℕ) → drop at whole ≡ s → Read (SheetReadsAtStarts whole) (sheet_from l s at)
unfolding sheet_from
from-read zero whole s at e = tt
from-read (suc l) whole s at e =
    on-outcome (Read (SheetReadsAtStarts whole)) (statements_of s) _ (reads at []) _
    (λ n rs h. let k = of-read (SheetReadsAtStarts s) (statements_of s) n rs h (statement-read s) in
    read_behind (SheetReadsAtStarts whole) (SheetReadsAtStarts whole) 0 (sheet_from l (drop n s) (at + n)) _
    (λ more m. all_append (RuleReads whole) (map (moved_by at) rs) more (moved-rules whole at rs (subst (λ (x : List ℕ). SheetReadsAtStarts x rs) (sym e) k)) m)
    (from-read l whole (drop n s) (at + n) (sym (drop-drop n at whole) ∙ ap (drop n) e)))
    tt (λ p _. tt)

-- every declaration of a sheet stands where it says
pub sheet-starts-read : (s : List ℕ) (stop : ℕ) (rs : List RuleSet) → sheet_of s ≡ reads stop rs → SheetReadsAtStarts s rs
unfolding sheet_of
sheet-starts-read s stop rs e = of-read (SheetReadsAtStarts s) (sheet_from (length s) s 0) stop rs e (from-read (length s) s s 0 refl)

-- ---- styles
module _ (P : Declaration → Type 0) where
  -- the style that a declaration asks for by itself
  own-asked : (d : Declaration) → P d → All (AskedFor P) (style_of d.important d.start d.decl)
  unfolding style_of one pick
  own-asked d h = by d.decl refl
    where
      asked : (k : Decl) → d.decl ≡ k → (x : StyleDecl) → x.value.start ≡ d.start → style_of d.important d.start k ≡ x ∷ [] → All (AskedFor P) (x ∷ [])
      asked k e x s q = (record { declaration = d; holds = h; asks = itself (ap (style_of d.important d.start) e ∙ q); same_start = s }, tt)

      by : (k : Decl) → d.decl ≡ k → All (AskedFor P) (style_of d.important d.start k)
      by (color c) e = asked _ e _ refl refl
      by (background_color c) e = asked _ e _ refl refl
      by (height z) e = tt
      by (max_height z) e = tt
      by (overflow o) e = tt
      by (overflow_y o) e = tt
      by (display true) e = asked _ e _ refl refl
      by (display false) e = tt
      by (white_space k) e = asked _ e _ refl refl
      by (content t) e = asked _ e _ refl refl
      by (visibility k) e = asked _ e _ refl refl
      by (unknown n) e = tt

  -- those of declarations
  owns-asked : (ds : List Declaration) → All P ds → All (AskedFor P) (own_styles ds)
  unfolding own_styles
  owns-asked [] h = tt
  owns-asked (d ∷ ds) h = all_append (AskedFor P) (style_of d.important d.start d.decl) (own_styles ds) (own-asked d h.0) (owns-asked ds h.1)

  -- the display that is made from the first zero height
  first-asked : (ds : List Declaration) → All P ds → any_decl zero_height ds ≡ true → AskedFor P (record { value = record { style = display_none; start = first_zero ds }; important = false })
  unfolding any_decl first_zero or
  first-asked [] h e = never e
  first-asked (d ∷ ds) h e =
      pick-holds (λ (n : ℕ). AskedFor P (record { value = record { style = display_none; start = n }; important = false })) (zero_height d.decl) _ _
      (λ q. record { declaration = d; holds = h.0; asks = zero-height q; same_start = refl })
      (λ q. first-asked ds h.1 (rw q at e))

  -- every style of declarations is asked for by one of them, and starts where that does
  pub styles-asked : (ds : List Declaration) → All P ds → All (AskedFor P) (styles_of ds)
  unfolding styles_of one
  styles-asked ds h =
      all_append (AskedFor P) (own_styles ds) _ (owns-asked ds h)
      (pick-holds (All (AskedFor P)) _ _ _ (λ e. (first-asked ds h (and-true (any_decl zero_height ds) _ e).0, tt)) (λ _. tt))

-- every style of a `style` attribute starts where a declaration stands that asks for it
pub attribute-styles-start-read : (s : List ℕ) → All (AskedFor (ReadsAtStart s)) (style_attribute s)
unfolding style_attribute
attribute-styles-start-read s = styles-asked (ReadsAtStart s) (declarations_of s).declarations (attribute-starts-read s)

-- so does every style of a sheet
pub styles-start-read : (s : List ℕ) (stop : ℕ) (rs : List RuleSet) → sheet_of s ≡ reads stop rs → SheetStylesRead s rs
styles-start-read s stop rs e =
    all_weaker (RuleReads s) (λ r. All (AskedFor (ReadsAtStart s)) (styles_of r.declarations)) (λ r k. styles-asked (ReadsAtStart s) r.declarations k) rs
    (sheet-starts-read s stop rs e)
