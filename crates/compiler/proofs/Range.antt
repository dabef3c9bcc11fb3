-- The compiled sheet of any three sheets is in range: what sheets of no more than the limit mean is written as bytes that read back.
use mathlib.Core.Path.{◌≡◌, refl, subst}
use mathlib.Core.Bool.{Bool, true, false}
use mathlib.Core.List.{List, [], ◌∷◌, ◌++◌, map, append-nil, reverse, reverse-reverse}
use Prim.Native.Nat.{ℕ, ◌+◌, ◌*◌, ◌^◌, ◌≤◌, ◌<◌}
use native.Mathlib.Omega.{arith}
use lib.IntN.{ℤ, pos, negsuc}
use lib.ListN.{length, length-append, length-map}
use Rattle.combinators.specs.Choice.{pick, and}
use Rattle.combinators.specs.All.{All}
use Rattle.combinators.proofs.Rules.{pick-holds}
use Rattle.combinators.proofs.AllLaws.{all_append, all-reverse, all_weaker, all_both}
use Rattle.syntax.specs.Declaration.{Decl, color, background_color, height, max_height, overflow, overflow_y, display, white_space, content, visibility, unknown, Declaration}
use Rattle.syntax.specs.Layout.{declaration_width, decl_text, declaration_text, declaration_texts, style_text_of, style_text}
use Rattle.syntax.specs.RuleLayout.{component_text, component_texts, selector_head, selector_text, selector_texts, rule_text, rule_rows, rule_texts}
use Rattle.syntax.specs.RuleSize.{sizes, selector_size, rule_size}
use Rattle.syntax.specs.Selector.{Component, star, class, element, hash, child, descendant, nth, attribute, attribute_equal, Selector, RuleSet}
use Rattle.syntax.specs.Stream.{texts_many}
use Rattle.syntax.specs.Style as style
use Rattle.syntax.specs.Style.{agent_origin, user_origin, author_origin, StyleDecl}
use Rattle.syntax.proofs.Back as back
use Rattle.syntax.proofs.Back.{DeclarationsFit}
use Rattle.syntax.proofs.RowSizes.{length-rules}
use Rattle.declarations.specs.Styles.{one, style_of, hides_overflow, zero_height, any_decl, own_styles, first_zero, styles_of}
use Rattle.declarations.proofs.StyleAttribute.{styles-fit}
use Rattle.selectors.specs.Outcome.{reads}
use Rattle.sheets.specs.Rules.{rule_width}
use Rattle.sheets.specs.Sheet.{sheet_of}
use Rattle.sheets.specs.SheetAnswer.{sheet_limit}
use Rattle.selectors.proofs.AllLaws.{each-size, each-text}
use Rattle.sheets.proofs.SheetBounds.{sheet-keeps}
use Rattle.sheets.proofs.StartBounds.{StartWithin, RuleStarts, sheet-starts}
use Rattle.sheets.proofs.NthRange.{InRange, NthInRange, SelectorInRange, RuleInRange, sheet-range}
use Rattle.compiled.specs.Decoded.{read}
use Rattle.compiled.specs.Number.{number_limit}
use Rattle.compiled.specs.Sheet.{CompiledSelector, encode, decode}
use Rattle.compiled.proofs.Fits.{SignedFits, ComponentFits, StyleFits, SelectorFits, NotFalling, SheetFits}
use Rattle.compiled.proofs.RoundTrip.{round_trip}
use Rattle.compiler.specs.Selectors.{compiled_selector, styled_selectors, rule_selectors, sheet_selectors, selectors_of}

-- ---- components
-- a number of an+b fits
signed-fits : (z : ℤ) → InRange z → SignedFits z
signed-fits (pos n) h = omega arith
signed-fits (negsuc n) h = omega arith

-- a component whose texts have m bytes at most
component-fits : (m : ℕ) → m < number_limit → (c : Component) → length (component_text c) ≤ m → NthInRange c → ComponentFits c
unfolding component_text
component-fits m l star h r = tt
component-fits m l (class t) h r = record { short = omega arith }
component-fits m l (element t) h r = record { short = omega arith }
component-fits m l (hash t) h r = record { short = omega arith }
component-fits m l child h r = tt
component-fits m l descendant h r = tt
component-fits m l (nth a b) h r = (signed-fits a r.0, signed-fits b r.1)
component-fits m l (attribute n) h r = record { short = omega arith }
component-fits m l (attribute_equal n v) h r =
    (record { short = omega (arith, length-append n v) }, record { short = omega (arith, length-append n v) })

module _ (m : ℕ) (l : m < number_limit) where
  -- each component of a selector fits where its numbers are in range
  components-fit : (x : Selector) → length (selector_text x) ≤ m → SelectorInRange x → All ComponentFits x.components
  unfolding selector_text component_texts
  components-fit x h r =
      let t = all-reverse (λ (c : Component). length (component_text c) ≤ m) (reverse x.components) (each-text component_text m (reverse x.components) h) in
      all_both (λ (c : Component). length (component_text c) ≤ m) NthInRange ComponentFits (λ c. component-fits m l c) x.components
      (subst (All (λ (c : Component). length (component_text c) ≤ m)) (reverse-reverse x.components) t) r

  -- and each selector of a rule
  selectors-fit : (r : RuleSet) → length (rule_text r) ≤ m → RuleInRange r → All (λ x. All ComponentFits x.components) r.selectors
  unfolding rule_text selector_texts
  selectors-fit r h k =
      let e = length-append (texts_many selector_text r.selectors) (declaration_texts r.declarations) in
      all_both (λ (x : Selector). length (selector_text x) ≤ m) SelectorInRange (λ x. All ComponentFits x.components) components-fit r.selectors
      (each-text selector_text m r.selectors (omega arith)) k

-- ---- how many: by the numbers of a rule's row
-- selectors take two numbers each at least
selectors-sized : (xs : List Selector) → selector_head * length xs ≤ sizes selector_size xs
unfolding sizes selector_size
selectors-sized [] = omega arith
selectors-sized (x ∷ xs) = omega (arith, selectors-sized xs)

-- a rule's selectors take two numbers of its row each, and its declarations five
pub rule-sized : (r : RuleSet) → selector_head * length r.selectors + declaration_width * length r.declarations ≤ rule_size r
unfolding rule_size
rule-sized r = omega (arith, selectors-sized r.selectors)

-- the components of a selector take four each
components-sized : (m : ℕ) (x : Selector) → selector_size x ≤ m → length x.components ≤ m
unfolding selector_size
components-sized m x h = omega arith

-- so no selector has more than the rule's row has numbers
components-few : (m : ℕ) (r : RuleSet) → rule_size r ≤ m → All (λ x. length x.components ≤ m) r.selectors
unfolding rule_size
components-few m r h =
    all_weaker (λ (x : Selector). selector_size x ≤ m) (λ x. length x.components ≤ m) (components-sized m) r.selectors (each-size selector_size m r.selectors (omega arith))

-- ---- styles
-- one for a declaration at most
own-few : (i : Bool) (s : ℕ) (d : Decl) → length (style_of i s d) ≤ 1
unfolding style_of one pick
own-few i s (color c) = omega arith
own-few i s (background_color c) = omega arith
own-few i s (height z) = omega arith
own-few i s (max_height z) = omega arith
own-few i s (overflow o) = omega arith
own-few i s (overflow_y o) = omega arith
own-few i s (display true) = omega arith
own-few i s (display false) = omega arith
own-few i s (white_space w) = omega arith
own-few i s (content t) = omega arith
own-few i s (visibility z) = omega arith
own-few i s (unknown n) = omega arith

-- declarations have no more styles of their own than they are
owns-few : (ds : List Declaration) → length (own_styles ds) ≤ length ds
unfolding own_styles
owns-few [] = omega arith
owns-few (d ∷ ds) =
    omega (arith, length-append (style_of d.important d.start d.decl) (own_styles ds), own-few d.important d.start d.decl, owns-few ds)

-- and one that is added
pub styles-few : (ds : List Declaration) → length (styles_of ds) ≤ length ds + 1
unfolding styles_of one
styles-few ds =
    let t : List StyleDecl = pick (and (any_decl zero_height ds) (any_decl hides_overflow ds)) (one false (first_zero ds) style.display_none) [] in
    let h : length t ≤ 1 = pick-holds (λ (l : List StyleDecl). length l ≤ 1) _ _ _ (λ _. omega arith) (λ _. omega arith) in
    omega (arith, length-append (own_styles ds) t, owns-few ds)

-- a style has no text but that of its declaration
own-text : (m : ℕ) (i : Bool) (s : ℕ) (d : Decl) → length (decl_text d) ≤ m → All (λ x. length (style_text x) ≤ m) (style_of i s d)
unfolding decl_text style_text style_text_of style_of one pick
own-text m i s (color c) h = (omega arith, tt)
own-text m i s (background_color c) h = (omega arith, tt)
own-text m i s (height z) h = tt
own-text m i s (max_height z) h = tt
own-text m i s (overflow o) h = tt
own-text m i s (overflow_y o) h = tt
own-text m i s (display true) h = (omega arith, tt)
own-text m i s (display false) h = tt
own-text m i s (white_space w) h = (omega arith, tt)
own-text m i s (content t) h = (h, tt)
own-text m i s (visibility z) h = (omega arith, tt)
own-text m i s (unknown n) h = tt

-- nor have those of declarations
owns-text : (m : ℕ) (ds : List Declaration) → length (declaration_texts ds) ≤ m → All (λ x. length (style_text x) ≤ m) (own_styles ds)
unfolding own_styles declaration_texts texts_many declaration_text
owns-text m [] h = tt
owns-text m (d ∷ ds) h =
    let e = length-append (decl_text d.decl) (declaration_texts ds) in
    all_append (λ (x : StyleDecl). length (style_text x) ≤ m) (style_of d.important d.start d.decl) (own_styles ds)
    (own-text m d.important d.start d.decl (omega arith)) (owns-text m ds (omega arith))

-- nor has the one that is added
styles-text : (m : ℕ) (ds : List Declaration) → length (declaration_texts ds) ≤ m → All (λ x. length (style_text x) ≤ m) (styles_of ds)
unfolding styles_of one style_text style_text_of
styles-text m ds h =
    all_append (λ (x : StyleDecl). length (style_text x) ≤ m) (own_styles ds) _ (owns-text m ds h)
    (pick-holds (All (λ (x : StyleDecl). length (style_text x) ≤ m)) _ _ _ (λ _. (omega arith, tt)) (λ _. tt))

-- a style starts where its declaration does
own-start : (m : ℕ) (i : Bool) (s : ℕ) (d : Decl) → s ≤ m → All (λ x. x.value.start ≤ m) (style_of i s d)
unfolding style_of one pick
own-start m i s (color c) h = (h, tt)
own-start m i s (background_color c) h = (h, tt)
own-start m i s (height z) h = tt
own-start m i s (max_height z) h = tt
own-start m i s (overflow o) h = tt
own-start m i s (overflow_y o) h = tt
own-start m i s (display true) h = (h, tt)
own-start m i s (display false) h = tt
own-start m i s (white_space w) h = (h, tt)
own-start m i s (content t) h = (h, tt)
own-start m i s (visibility z) h = (h, tt)
own-start m i s (unknown n) h = tt

-- so do those of declarations
owns-start : (m : ℕ) (ds : List Declaration) → StartWithin m ds → All (λ x. x.value.start ≤ m) (own_styles ds)
unfolding own_styles
owns-start m [] h = tt
owns-start m (d ∷ ds) h =
    all_append (λ (x : StyleDecl). x.value.start ≤ m) (style_of d.important d.start d.decl) (own_styles ds)
    (own-start m d.important d.start d.decl h.0) (owns-start m ds h.1)

-- the first zero height is one of them
first-start : (m : ℕ) (ds : List Declaration) → StartWithin m ds → first_zero ds ≤ m
unfolding first_zero
first-start m [] h = omega arith
first-start m (d ∷ ds) h = pick-holds (λ (n : ℕ). n ≤ m) (zero_height d.decl) _ _ (λ _. h.0) (λ _. first-start m ds h.1)

-- and the style that is added starts there
styles-start : (m : ℕ) (ds : List Declaration) → StartWithin m ds → All (λ x. x.value.start ≤ m) (styles_of ds)
unfolding styles_of one
styles-start m ds h =
    all_append (λ (x : StyleDecl). x.value.start ≤ m) (own_styles ds) _ (owns-start m ds h)
    (pick-holds (All (λ (x : StyleDecl). x.value.start ≤ m)) _ _ _ (λ _. (first-start m ds h, tt)) (λ _. tt))

-- the styles of declarations fit
styles-in : (m b : ℕ) → m < number_limit → b < number_limit → (ds : List Declaration) → length (declaration_texts ds) ≤ m → StartWithin b ds → DeclarationsFit ds → All StyleFits (styles_of ds)
styles-in m b l i ds h k f =
    all_both (λ (x : StyleDecl). back.StyleFits x.value.style) (λ x. (length (style_text x) ≤ m) × (x.value.start ≤ b)) StyleFits
    (λ x c t. record { colour = c; start = omega (arith, t.1); text = record { short = omega (arith, t.0) } }) (styles_of ds) (styles-fit ds f)
    (all_both (λ (x : StyleDecl). length (style_text x) ≤ m) (λ x. x.value.start ≤ b) (λ x. (length (style_text x) ≤ m) × (x.value.start ≤ b)) (λ x p q. (p, q)) (styles_of ds) (styles-text m ds h) (styles-start b ds k))

-- ---- the selectors of a rule
-- a rule whose row has m numbers at most, and whose texts have m bytes at most; its declarations start no further than b; its numbers of an+b and its colours fit
pub record RuleHolds (m b : ℕ) (r : RuleSet) : Type 0 where
  pub size : rule_size r ≤ m
  pub text : length (rule_text r) ≤ m
  pub range : RuleInRange r
  pub starts : RuleStarts b r
  pub fit : DeclarationsFit r.declarations

-- those of a rule with the styles ds fit
made-fit : (origin m : ℕ) (ds : List StyleDecl) → origin ≤ author_origin → m < number_limit → length ds < number_limit → All StyleFits ds
    → (xs : List Selector) → All (λ x. length x.components ≤ m) xs → All (λ x. All ComponentFits x.components) xs → All SelectorFits (map (compiled_selector origin ds) xs)
unfolding compiled_selector
made-fit origin m ds a l c f [] h k = tt
made-fit origin m ds a l c f (x ∷ xs) h k =
    (record { author = a; component-count = omega (arith, h.0); components = k.0; style-count = c; styles = f }, made-fit origin m ds a l c f xs h.1 k.1)

-- of a rule that may have no style
styled-fit : (origin m : ℕ) (ds : List StyleDecl) → origin ≤ author_origin → m < number_limit → length ds < number_limit → All StyleFits ds
    → (xs : List Selector) → All (λ x. length x.components ≤ m) xs → All (λ x. All ComponentFits x.components) xs → All SelectorFits (styled_selectors origin ds xs)
unfolding styled_selectors
styled-fit origin m [] a l c f xs h k = tt
styled-fit origin m (d ∷ ds) a l c f xs h k = made-fit origin m (d ∷ ds) a l c f xs h k

-- there are no more of them than the rule has
styled-few : (origin : ℕ) (ds : List StyleDecl) (xs : List Selector) → length (styled_selectors origin ds xs) ≤ length xs
unfolding styled_selectors
styled-few origin [] xs = omega arith
styled-few origin (d ∷ ds) xs = omega (arith, length-map xs (compiled_selector origin (d ∷ ds)))

-- they are all of one origin
made-origin : (origin : ℕ) (ds : List StyleDecl) (xs : List Selector) → All (λ s. s.origin ≡ origin) (map (compiled_selector origin ds) xs)
unfolding compiled_selector
made-origin origin ds [] = tt
made-origin origin ds (x ∷ xs) = (refl, made-origin origin ds xs)

-- of a rule that may have no style
styled-origin : (origin : ℕ) (ds : List StyleDecl) (xs : List Selector) → All (λ s. s.origin ≡ origin) (styled_selectors origin ds xs)
unfolding styled_selectors
styled-origin origin [] xs = tt
styled-origin origin (d ∷ ds) xs = made-origin origin (d ∷ ds) xs

-- a rule has no more declarations, and no more styles but one, than a fifth of the numbers of its row
pub rule-styles : (m : ℕ) (r : RuleSet) → rule_size r ≤ m → declaration_width * length (styles_of r.declarations) ≤ m + declaration_width
rule-styles m r h = omega (arith, styles-few r.declarations, rule-sized r)

-- the selectors of a rule fit
pub rule_fits : (origin m b : ℕ) (r : RuleSet) → origin ≤ author_origin → m + declaration_width < number_limit → b < number_limit → RuleHolds m b r → All SelectorFits (rule_selectors origin r)
unfolding rule_selectors rule_text
rule_fits origin m b r a l i h =
    let e = length-append (selector_texts r.selectors) (declaration_texts r.declarations) in
    let t = h.text in
    styled-fit origin m (styles_of r.declarations) a (omega arith) (omega (arith, rule-styles m r h.size))
    (styles-in m b (omega arith) i r.declarations (omega arith) h.starts h.fit)
    r.selectors (components-few m r h.size) (selectors-fit m (omega arith) r t h.range)

-- ---- the selectors of a sheet
-- the selectors of a sheet fit where the rows, texts, numbers and colours of its rules keep to their bounds
sheet-fit : (origin m b : ℕ) → origin ≤ author_origin → m + declaration_width < number_limit → b < number_limit → (rs : List RuleSet) → All (RuleHolds m b) rs → All SelectorFits (sheet_selectors origin rs)
unfolding sheet_selectors
sheet-fit origin m b a l i [] h = tt
sheet-fit origin m b a l i (r ∷ rs) h =
    all_append SelectorFits (rule_selectors origin r) (sheet_selectors origin rs) (rule_fits origin m b r a l i h.0) (sheet-fit origin m b a l i rs h.1)

-- the compiled selectors of a sheet are of its origin
sheet-origin : (origin : ℕ) (rs : List RuleSet) → All (λ s. s.origin ≡ origin) (sheet_selectors origin rs)
unfolding sheet_selectors rule_selectors
sheet-origin origin [] = tt
sheet-origin origin (r ∷ rs) =
    all_append (λ (s : CompiledSelector StyleDecl). s.origin ≡ origin) (styled_selectors origin (styles_of r.declarations) r.selectors) (sheet_selectors origin rs)
    (styled-origin origin (styles_of r.declarations) r.selectors) (sheet-origin origin rs)

-- are no more than half the numbers of its rows
sheet-sized : (origin : ℕ) (rs : List RuleSet) → selector_head * length (sheet_selectors origin rs) ≤ sizes rule_size rs
unfolding sheet_selectors rule_selectors sizes
sheet-sized origin [] = omega arith
sheet-sized origin (r ∷ rs) =
    let xs = styled_selectors origin (styles_of r.declarations) r.selectors in
    omega (arith, length-append xs (sheet_selectors origin rs), styled-few origin (styles_of r.declarations) r.selectors, rule-sized r, sheet-sized origin rs)

-- wherever its texts start in the store
pub sheet-few : (origin fill : ℕ) (rs : List RuleSet) → selector_head * length (sheet_selectors origin rs) ≤ length (rule_rows fill rs)
sheet-few origin fill rs = omega (arith, sheet-sized origin rs, length-rules fill rs)

-- ---- a sheet that was read
module _ (s : List ℕ) (stop : ℕ) (rs : List RuleSet) (e : sheet_of s ≡ reads stop rs) where
  -- each of its rules
  rules-hold : All (RuleHolds (rule_width * stop) (length s)) rs
  unfolding rule_texts
  rules-hold =
      let k = sheet-keeps s stop rs e in
      let m = rule_width * stop in
      let z = each-size rule_size m rs (omega (arith, k.wide, length-rules 0 rs)) in
      let t = each-text rule_text m rs (omega (arith, k.long)) in
      all_both (λ (r : RuleSet). (rule_size r ≤ m) × ((length (rule_text r) ≤ m) × RuleStarts (length s) r)) (λ r. RuleInRange r × DeclarationsFit r.declarations) (RuleHolds m (length s))
      (λ r a b. record { size = a.0; text = a.1.0; range = b.0; starts = a.1.1; fit = b.1 }) rs
      (all_both (λ (r : RuleSet). rule_size r ≤ m) (λ r. (length (rule_text r) ≤ m) × RuleStarts (length s) r) (λ r. (rule_size r ≤ m) × ((length (rule_text r) ≤ m) × RuleStarts (length s) r)) (λ r a b. (a, b)) rs z
      (all_both (λ (r : RuleSet). length (rule_text r) ≤ m) (RuleStarts (length s)) (λ r. (length (rule_text r) ≤ m) × RuleStarts (length s) r) (λ r a b. (a, b)) rs t (sheet-starts s stop rs e)))
      (all_both RuleInRange (λ (r : RuleSet). DeclarationsFit r.declarations) (λ r. RuleInRange r × DeclarationsFit r.declarations) (λ r a b. (a, b)) rs (sheet-range s stop rs e) k.fit)

  module _ (l : length s ≤ sheet_limit) where
    -- so there are few bytes read
    stop-small : stop ≤ sheet_limit
    stop-small = omega (arith, (sheet-keeps s stop rs e).within)

    -- the selectors of a sheet that was read are in range
    read-fit : (origin : ℕ) → origin ≤ author_origin → All SelectorFits (sheet_selectors origin rs)
    read-fit origin h = sheet-fit origin (rule_width * stop) (length s) h (omega (arith, stop-small)) (omega arith) rs rules-hold

-- ---- origins
-- selectors that follow an origin follow a lower one
from-lower : (least origin : ℕ) (ss : List (CompiledSelector StyleDecl)) → least ≤ origin → NotFalling origin ss → NotFalling least ss
from-lower least origin [] h f = tt
from-lower least origin (s ∷ ss) h f = (omega (arith, f.0), f.1)

-- selectors of one origin, and behind them others that follow it
of-origin : (least origin : ℕ) (ss ts : List (CompiledSelector StyleDecl)) → least ≤ origin → All (λ s. s.origin ≡ origin) ss → NotFalling origin ts → NotFalling least (ss ++ ts)
of-origin least origin [] ts h a f = from-lower least origin ts h f
of-origin least origin (s ∷ ss) ts h a f = (omega (arith, a.0), of-origin s.origin origin ss ts (omega (arith, a.0)) a.1 f)

-- the selectors of three sheets, agent before user, user before author
three-origins : (agent user author : List RuleSet) → NotFalling agent_origin (selectors_of agent user author)
unfolding selectors_of
three-origins agent user author =
    let a = sheet_selectors agent_origin agent in
    let u = sheet_selectors user_origin user in
    let w = sheet_selectors author_origin author in
    of-origin agent_origin agent_origin a (u ++ w) (omega arith) (sheet-origin agent_origin agent)
    (of-origin agent_origin user_origin u w (omega arith) (sheet-origin user_origin user)
    (subst (NotFalling user_origin) (append-nil w) (of-origin user_origin author_origin w [] (omega arith) (sheet-origin author_origin author) tt)))

-- how many they are, by the numbers of the rows of the three sheets
pub three-few : (f g h : ℕ) (agent user author : List RuleSet)
    → selector_head * length (selectors_of agent user author) ≤ length (rule_rows f agent) + length (rule_rows g user) + length (rule_rows h author)
unfolding selectors_of
three-few f g h agent user author =
    let a = sheet_selectors agent_origin agent in
    let u = sheet_selectors user_origin user in
    let w = sheet_selectors author_origin author in
    omega (arith, length-append a (u ++ w), length-append u w, sheet-few agent_origin f agent, sheet-few user_origin g user, sheet-few author_origin h author)

-- ---- three sheets that were read, none above the limit
module _ (agent user author : List ℕ) {a u w : ℕ} {agentRules userRules authorRules : List RuleSet} (ea : sheet_of agent ≡ reads a agentRules)
    (eu : sheet_of user ≡ reads u userRules) (ew : sheet_of author ≡ reads w authorRules) where
  -- their selectors are no more than four for each byte read
  pub selectors-read : selector_head * length (selectors_of agentRules userRules authorRules) ≤ rule_width * (a + u + w)
  selectors-read =
      omega (
        arith,
        three-few 0 0 0 agentRules userRules authorRules,
        (sheet-keeps agent a agentRules ea).wide,
        (sheet-keeps user u userRules eu).wide,
        (sheet-keeps author w authorRules ew).wide,
      )

  module _ (la : length agent ≤ sheet_limit) (lu : length user ≤ sheet_limit) (lw : length author ≤ sheet_limit) where
    -- so their count is a number of 32 bits
    pub selectors-bits : length (selectors_of agentRules userRules authorRules) < 2 ^ 32
    selectors-bits =
        omega (arith, selectors-read, stop-small agent a agentRules ea la, stop-small user u userRules eu lu, stop-small author w authorRules ew lw)

    -- each of them fits
    selectors-in : All SelectorFits (selectors_of agentRules userRules authorRules)
    unfolding selectors_of
    selectors-in =
        all_append SelectorFits (sheet_selectors agent_origin agentRules) _ (read-fit agent a agentRules ea la agent_origin (omega arith))
        (all_append SelectorFits (sheet_selectors user_origin userRules) _ (read-fit user u userRules eu lu user_origin (omega arith))
        (read-fit author w authorRules ew lw author_origin (omega arith)))

    -- the compiled sheet of any three sheets is in range
    pub sheets-fit : SheetFits (selectors_of agentRules userRules authorRules)
    sheets-fit = record { count = omega (arith, selectors-bits); selectors = selectors-in; origins = three-origins agentRules userRules authorRules }

    -- so it is read back from its bytes
    pub compiled-back : decode (encode (selectors_of agentRules userRules authorRules))
        ≡ read (length (encode (selectors_of agentRules userRules authorRules))) (selectors_of agentRules userRules authorRules)
    compiled-back = round_trip (selectors_of agentRules userRules authorRules) sheets-fit
