-- Returns and turns of the functions that write rules and count their selectors.
use mathlib.Core.Path.{◌≡◌, refl, sym, ap, ◌∙◌}
use mathlib.Core.List.{List, [], ◌∷◌, ◌++◌, map}
use Prim.Native.Nat.{ℕ, zero, suc, ◌+◌, ◌*◌, ◌-◌, ◌≤◌, ◌<◌}
use native.Mathlib.Omega.{arith}
use lib.ListN.{length, get_or, drop, length-append, length-map}
use lib.Seq.{sets, get_or-drop, drop-drop}
use Rattle.combinators.specs.Store.{Store, emits, wiped, Zeros}
use Rattle.combinators.proofs.Emitted.{emits_none}
use Rattle.syntax.specs.Layout.{declarations_at, style_width, read_style, styles_at}
use Rattle.syntax.specs.RuleLayout as layout
use Rattle.syntax.specs.RuleLayout.{rule_head, rule_declarations, read_selector, read_rule}
use Rattle.syntax.specs.Selector.{Selector, RuleSet}
use Rattle.syntax.specs.Stream.{read_many, texts_many}
use Rattle.syntax.specs.Style.{StyleDecl}
use Rattle.syntax.proofs.Streams.{texts-append}
use Rattle.declarations.specs.Styles.{styles_of}
use Rattle.declarations.specs.StyleNumbers.{style_count}
use Rattle.declarations.proofs.StyleLaws.{count-styles}
use Rattle.combinators.proofs.ZeroLaws.{zeros-back}
use Rattle.origins.specs.Rules.{selectors_read, rule_styles, EachRoom}
use Rattle.origins.proofs.WalkLaws.{many-length}
use Rattle.compiled.specs.Sheet.{selector_bytes}
use Rattle.compiler.specs.Selectors.{compiled_selector, styled_selectors, rule_selectors, sheet_selectors}
use Rattle.compiler.specs.Writing.{styled_bytes, rule_bytes, RuleLent, RulesLent}
use Rattle.compiler.proofs.EmittingLaws.{Emitting, emitting-more, emitting-done, emitting-past}

-- ---- selectors of a rule with its styles
module _ (origin : ℕ) where
  -- of a rule without a style there are none
  none-styled : (ds : List StyleDecl) (ss : List Selector) → length ds ≡ 0 → styled_selectors origin ds ss ≡ []
  unfolding styled_selectors
  none-styled [] ss h = refl
  none-styled (d ∷ ds) ss h = absurd (omega (arith, h))

  -- a rule that has a style has all its selectors compiled
  all-styled : (ds : List StyleDecl) (ss : List Selector) → ¬ (length ds ≡ 0) → styled_selectors origin ds ss ≡ map (compiled_selector origin ds) ss
  unfolding styled_selectors
  all-styled [] ss h = absurd (h refl)
  all-styled (d ∷ ds) ss h = refl

  -- the bytes of compiled selectors are those of the selectors, each with the rule's styles
  styled-bytes : (ds : List StyleDecl) (ss : List Selector) → texts_many selector_bytes (map (compiled_selector origin ds) ss) ≡ texts_many (styled_bytes origin ds) ss
  unfolding texts_many styled_bytes
  styled-bytes ds [] = refl
  styled-bytes ds (s ∷ ss) = ap (λ (l : List ℕ). styled_bytes origin ds s ++ l) (styled-bytes ds ss)

  -- the bytes of a sheet's selectors, rule by rule
  sheet-bytes : (rs : List RuleSet) → texts_many (rule_bytes origin) rs ≡ texts_many selector_bytes (sheet_selectors origin rs)
  unfolding texts_many sheet_selectors rule_bytes
  sheet-bytes [] = refl
  sheet-bytes (r ∷ rs) =
      ap (λ (l : List ℕ). texts_many selector_bytes (rule_selectors origin r) ++ l) (sheet-bytes rs)
      ∙ sym (texts-append (λ _ _. []) selector_bytes (rule_selectors origin r) (sheet_selectors origin rs))

  -- the bytes of all rules are those of their compiled selectors
  pub rules-written : (rs : List RuleSet) (o₀ o₁ : Store ℕ) → o₁ ≡ emits o₀ (texts_many (rule_bytes origin) rs)
      → o₁ ≡ emits o₀ (texts_many selector_bytes (sheet_selectors origin rs))
  rules-written rs o₀ o₁ p = p ∙ ap (emits o₀) (sheet-bytes rs)

-- ---- returns of `count_rule`: a rule at a place
module _ (rows : List ℕ) (at declarations count : ℕ) (d : (texts : List ℕ) → drop declarations rows ≡ (selectors_read texts (drop at rows)).rest)
    (e : count ≡ get_or rows (at + rule_declarations) 0) (x : ℕ) (f : x ≡ style_count (drop declarations rows) count) (origin : ℕ) (texts : List ℕ) where
  -- the count is that of the styles which the rule's declarations mean
  count-is : x ≡ length (styles_of (read_rule texts (drop at rows)).value.declarations)
  unfolding read_rule selectors_read declarations_at
  count-is = f ∙ count-styles texts (drop declarations rows) count ∙ rw (d texts, e, get_or-drop at rows rule_declarations 0)

  -- a rule without a style counts with no selectors
  pub rule-uncounted : x ≡ 0 → 0 ≡ length (rule_selectors origin (read_rule texts (drop at rows)).value)
  unfolding rule_selectors
  rule-uncounted h = sym (ap length (none-styled origin _ _ (sym count-is ∙ h)))

  -- a rule that has a style counts with all its selectors
  pub rule-counted : ¬ (x ≡ 0) → (n : ℕ) → n ≡ get_or rows (at + layout.rule_selectors) 0 → n ≡ length (rule_selectors origin (read_rule texts (drop at rows)).value)
  unfolding rule_selectors read_rule
  rule-counted h n g =
      let t = drop at rows in
      sym (ap length (all-styled origin _ _ (λ z. h (count-is ∙ z)))
      ∙ length-map (read_rule texts t).value.selectors (compiled_selector origin (styles_of (read_rule texts t).value.declarations))
      ∙ many-length (read_selector texts) (get_or t layout.rule_selectors 0) (drop rule_head t)
      ∙ get_or-drop at rows layout.rule_selectors 0
      ∙ sym g)

-- ---- returns of `emit_styled`: a rule at a place with so many styles, whose rows lie in a store with texts of their own
module _ (rows : List ℕ) (at origin : ℕ) (tokens : List ℕ) (styles : ℕ) (own texts : List ℕ) where
  abbrev ds : List StyleDecl
  ds = styles_at tokens own styles

  -- the bytes of its selectors
  abbrev styled_text : List ℕ
  styled_text = texts_many selector_bytes (styled_selectors origin ds (read_rule texts (drop at rows)).value.selectors)

  -- as many styles are read as were counted
  long : length ds ≡ styles
  unfolding styles_at
  long = many-length (read_style own) styles tokens

  -- a rule without styles writes nothing
  pub styled-none : styles ≡ 0 → (o : Store ℕ) → o ≡ emits o styled_text
  unfolding texts_many
  styled-none h o = sym (emits_none o) ∙ ap (emits o) (ap (texts_many selector_bytes) (sym (none-styled origin ds _ (long ∙ h))))

  -- a rule with styles writes the bytes of all its selectors
  pub styled-all : ¬ (styles ≡ 0) → (n : ℕ) → n ≡ get_or rows (at + layout.rule_selectors) 0 → (first : ℕ) → drop first rows ≡ drop (at + rule_head) rows → (o₀ o₁ : Store ℕ)
      → o₁ ≡ emits o₀ (texts_many (styled_bytes origin ds) (read_many (read_selector texts) n (drop first rows)).value) → o₁ ≡ emits o₀ styled_text
  unfolding read_rule
  styled-all h n g first l o₀ o₁ p =
      let q : (read_many (read_selector texts) n (drop first rows)).value ≡ (read_rule texts (drop at rows)).value.selectors =
      rw (g, l, get_or-drop at rows layout.rule_selectors 0, drop-drop rule_head at rows) in
      p ∙ ap (λ (ss : List Selector). emits o₀ (texts_many (styled_bytes origin ds) ss)) q
      ∙ ap (emits o₀) (sym (ap (texts_many selector_bytes) (all-styled origin ds _ (λ z. h (sym long ∙ z))) ∙ styled-bytes origin ds _))

-- ---- returns of `emit_rule`: the styles lie in the store of tokens, which was zero, and are taken back
-- with the styles taken back, the store of tokens is as it was, and the bytes of the rule's selectors are written
pub rule-written : (rows : List ℕ) (at origin : ℕ) (texts x y z : List ℕ) (n : ℕ) → Zeros x 0 → y ≡ sets x 0 (rule_styles (drop at rows))
    → style_width * n ≡ length (rule_styles (drop at rows))
    → ((texts : List ℕ) → styles_at y texts n ≡ styles_of (read_rule texts (drop at rows)).value.declarations) → (o₀ o₁ : Store ℕ)
    → o₁ ≡ emits o₀ (texts_many selector_bytes (styled_selectors origin (styles_at y texts n) (read_rule texts (drop at rows)).value.selectors))
    → z ≡ wiped 0 (style_width * n) y → (z ≡ x) × (o₁ ≡ emits o₀ (rule_bytes origin (read_rule texts (drop at rows)).value))
unfolding rule_bytes rule_selectors
rule-written rows at origin texts x y z n zx ey en m o₀ o₁ p ez = (
  ez ∙ ap (wiped 0 (style_width * n)) ey ∙ zeros-back x 0 zx (rule_styles (drop at rows)) (style_width * n) (omega (arith, en)),
  p ∙ ap (λ (ds : List StyleDecl). emits o₀ (texts_many selector_bytes (styled_selectors origin ds (read_rule texts (drop at rows)).value.selectors))) (m texts),
)

-- ---- turns of `emit_rules`
-- a rule that can be asked for its styles
pub lent-first : (n : ℕ) (t tokens : List ℕ) → 0 < n → RulesLent n t tokens → RuleLent t tokens
unfolding EachRoom
lent-first zero t tokens h o = absurd (omega arith)
lent-first (suc k) t tokens h o = record { room = o.room.each.0; zeros = o.zeros }

-- the rules behind the first can be asked for their styles too
pub lent-next : (n : ℕ) (t tokens : List ℕ) → 0 < n → RulesLent n t tokens → (x : List ℕ) → x ≡ tokens → (next : List ℕ) → ((texts : List ℕ) → next ≡ (read_rule texts t).rest)
    → RulesLent (n - 1) next x
unfolding EachRoom
lent-next zero t tokens h o x ex next e = absurd (omega arith)
lent-next (suc k) t tokens h o x ex next e =
    let q : suc k - 1 ≡ k = omega arith in
    rw (ex, q)
    (record { room = record { texts = o.room.texts; each = rw (e o.room.texts) o.room.each.1 }; zeros = o.zeros })

module _ (rows : List ℕ) (count at origin : ℕ) (tokens₀ texts : List ℕ) (o₀ : Store ℕ) where
  pub record Writing (n place : ℕ) (tokens : List ℕ) (o : Store ℕ) : Type 0 where
    pub emitted : Emitting (read_rule texts) (rule_bytes origin) rows count at o₀ n place o
    pub lent : RulesLent n (drop place rows) tokens
    pub same : tokens ≡ tokens₀

  module _ (n place : ℕ) (tokens : List ℕ) (o : Store ℕ) (c : Writing n place tokens o) where
    -- a turn: one rule is written, and the rules behind it are left
    pub writing_more : 0 < n → (x : List ℕ) → x ≡ tokens → (o₁ : Store ℕ) → o₁ ≡ emits o (rule_bytes origin (read_rule texts (drop place rows)).value)
        → (next : ℕ) → ((texts : List ℕ) → drop next rows ≡ (read_rule texts (drop place rows)).rest) → Writing (n - 1) next x o₁
    writing_more h x ex o₁ e next d =
        record {
          emitted = emitting-more (read_rule texts) (rule_bytes origin) rows count at o₀ n place o c.emitted h o₁ e next (d texts);
          lent = lent-next n (drop place rows) tokens h c.lent x ex (drop next rows) d;
          same = ex ∙ c.same;
        }

    -- the bytes of all rules, and the store of tokens as it was
    abbrev Whole : Type 0
    Whole = (tokens ≡ tokens₀) × (o ≡ emits o₀ (texts_many selector_bytes (sheet_selectors origin (read_many (read_rule texts) count (drop at rows)).value)))

    -- with no rule left they are written
    pub writing-done : n ≤ 0 → Whole
    writing-done h = (c.same, rules-written origin _ _ _ (emitting-done (read_rule texts) (rule_bytes origin) rows count at o₀ n place o c.emitted h))

    -- with the store full, what is left to write changes nothing more
    pub writing-past : o.fill ≡ length o.bytes + 1 → Whole
    writing-past h = (c.same, rules-written origin _ _ _ (emitting-past (read_rule texts) (rule_bytes origin) rows count at o₀ n place o c.emitted h))

  -- a turn, by how many rules were written before
  pub writing-next : (i place : ℕ) (tokens : List ℕ) (o : Store ℕ) → Writing (count - i) place tokens o → i < count → (x : List ℕ) → x ≡ tokens → (o₁ : Store ℕ)
      → o₁ ≡ emits o (rule_bytes origin (read_rule texts (drop place rows)).value)
      → (next : ℕ) → ((texts : List ℕ) → drop next rows ≡ (read_rule texts (drop place rows)).rest) → Writing (count - (i + 1)) next x o₁
  writing-next i place tokens o c h x ex o₁ e next d =
      let q : count - (i + 1) ≡ count - i - 1 = omega arith in
      rw q (writing_more (count - i) place tokens o c (omega arith) x ex o₁ e next d)

-- ---- turns of `count_selectors`
module _ (rows : List ℕ) (count at : ℕ) where
  -- how many selectors n rules from a place on have
  abbrev pub selectors_from : ℕ → List ℕ → ℕ → ℕ → ℕ
  selectors_from origin texts n place = length (sheet_selectors origin (read_many (read_rule texts) n (drop place rows)).value)

  -- what is counted and what is left make what was to be counted
  pub record Counting (total place n : ℕ) : Type 0 where
    pub left : (origin : ℕ) (texts : List ℕ) → total + selectors_from origin texts n place ≡ selectors_from origin texts count at

  -- n rules have the selectors of the first and of the n - 1 behind it
  one_less : (origin : ℕ) (texts : List ℕ) (n place next : ℕ) → 0 < n → drop next rows ≡ (read_rule texts (drop place rows)).rest
      → selectors_from origin texts n place ≡ length (rule_selectors origin (read_rule texts (drop place rows)).value) + selectors_from origin texts (n - 1) next
  unfolding read_many sheet_selectors
  one_less origin texts zero place next h e = absurd (omega arith)
  one_less origin texts (suc k) place next h e =
      let q : suc k - 1 ≡ k = omega arith in
      rw (q, e) (length-append (rule_selectors origin (read_rule texts (drop place rows)).value) (sheet_selectors origin (read_many (read_rule texts) k (read_rule texts (drop place rows)).rest).value))

  -- no rules have no selectors
  none_left : (origin : ℕ) (texts : List ℕ) (n place : ℕ) → n ≤ 0 → selectors_from origin texts n place ≡ 0
  unfolding read_many sheet_selectors
  none_left origin texts zero place h = refl
  none_left origin texts (suc k) place h = absurd (omega arith)

  module _ (total place n : ℕ) (c : Counting total place n) where
    -- the rule at the place has r selectors with a style: they are added to the count
    module _ (h : 0 < n) (r : ℕ) (e : (origin : ℕ) (texts : List ℕ) → r ≡ length (rule_selectors origin (read_rule texts (drop place rows)).value)) where
      -- with the rule's selectors added, the rules behind it are left to be counted
      pub counting_more : (next : ℕ) → ((texts : List ℕ) → drop next rows ≡ (read_rule texts (drop place rows)).rest) → Counting (total + r) next (n - 1)
      counting_more next d = record { left = λ origin texts. omega (arith, c.left origin texts, one_less origin texts n place next h (d texts), e origin texts) }

    -- with no rule left the selectors of all rules are counted
    pub counting-done : n ≤ 0 → (origin : ℕ) (texts : List ℕ) → total ≡ selectors_from origin texts count at
    counting-done h origin texts = omega (arith, c.left origin texts, none_left origin texts n place h)

  -- a turn, by how many rules were counted before
  pub counting-next : (total place i : ℕ) → Counting total place (count - i) → i < count → (r : ℕ)
      → ((origin : ℕ) (texts : List ℕ) → r ≡ length (rule_selectors origin (read_rule texts (drop place rows)).value))
      → (next : ℕ) → ((texts : List ℕ) → drop next rows ≡ (read_rule texts (drop place rows)).rest) → Counting (total + r) next (count - (i + 1))
  counting-next total place i c h r e next d =
      let q : count - (i + 1) ≡ count - i - 1 = omega arith in
      rw q (counting_more total place (count - i) c (omega arith) r e next d)
