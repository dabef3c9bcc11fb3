-- Three sheets that lie in the stores: what their styles ask for, what is kept of them, and that it stays whatever is written behind it.
use mathlib.Core.Path.{◌≡◌, refl, ap, sym, ◌∙◌}
use mathlib.Core.Bool.{Bool, true, false}
use mathlib.Core.List.{List, [], ◌∷◌, ◌++◌}
use Prim.Native.Nat.{ℕ, ◌+◌, ◌-◌, ◌^◌, ◌≤◌, ◌<◌}
use native.Mathlib.Omega.{arith}
use lib.ListN.{length, drop, length-append, length-drop}
use lib.Seq.{sets}
use Rattle.combinators.specs.Choice.{pick, and}
use Rattle.combinators.specs.Store.{Zeros}
use Rattle.syntax.specs.Declaration.{Decl, color, background_color, height, max_height, overflow, overflow_y, display, white_space, content, visibility, unknown, Declaration}
use Rattle.syntax.specs.Layout.{decl_text, declaration_text, declaration_texts, style_text_of, style_text, style_texts}
use Rattle.syntax.specs.RuleLayout.{read_rule, selector_texts, rule_text, rule_rows, rule_texts}
use Rattle.syntax.specs.Selector.{RuleSet}
use Rattle.syntax.specs.Stream.{Read, read_many, texts_many}
use Rattle.syntax.specs.Style as style
use Rattle.syntax.specs.Style.{StyleDecl}
use Rattle.syntax.proofs.RuleRows.{rules-read, RulesFit}
use Rattle.syntax.proofs.Streams.{Held}
use Rattle.declarations.specs.Styles.{one, style_of, zero_height, hides_overflow, any_decl, own_styles, first_zero, styles_of}
use Rattle.origins.specs.declared.reading.SheetRules.{SheetRules}
use Rattle.styles.specs.Said as said
use Rattle.styles.specs.StyleCall.{rule_contents, rules_contents, placed_rules}
use Rattle.rule_styles.specs.Placing.{sheet_text, rules_contents_at, styled_rules, rules_selectors, kept_rules}
use Rattle.rule_styles.specs.PlacingRoom.{ContentsRoom, RulesKeptRoom}
use Rattle.rule_styles.proofs.PlacingLies.{written-room, written-rest, written-within}
use Rattle.rule_styles.proofs.Written.{rules-contents, rules-styled}

-- ---- contents are among the texts of their rules
own-short : (i : Bool) (s : ℕ) (d : Decl) → length (style_texts (style_of i s d)) ≤ length (decl_text d)
unfolding style_texts texts_many style_text style_text_of style_of one decl_text pick
own-short i s (color c) = omega arith
own-short i s (background_color c) = omega arith
own-short i s (height z) = omega arith
own-short i s (max_height z) = omega arith
own-short i s (overflow o) = omega arith
own-short i s (overflow_y o) = omega arith
own-short i s (display true) = omega arith
own-short i s (display false) = omega arith
own-short i s (white_space w) = omega arith
own-short i s (content b) = omega (arith, length-append b [])
own-short i s (visibility z) = omega arith
own-short i s (unknown b) = omega arith

-- the texts of two lists of styles are as long as those of each together
texts-length : (xs ys : List StyleDecl) → length (style_texts (xs ++ ys)) ≡ length (style_texts xs) + length (style_texts ys)
unfolding style_texts texts_many
texts-length [] ys = omega arith
texts-length (x ∷ xs) ys = omega (arith, length-append (style_text x) (texts_many style_text (xs ++ ys)), length-append (style_text x) (texts_many style_text xs), texts-length xs ys)

-- the contents of the declarations' own styles are no longer than the texts of the declarations
owns-short : (ds : List Declaration) → length (style_texts (own_styles ds)) ≤ length (declaration_texts ds)
unfolding own_styles declaration_texts texts_many declaration_text
owns-short [] = unfold style_texts in omega arith
owns-short (d ∷ ds) =
    omega (arith, texts-length (style_of d.important d.start d.decl) (own_styles ds), own-short d.important d.start d.decl, owns-short ds, length-append (decl_text d.decl) (declaration_texts ds))

-- the style that is added has no content
added-short : (z : Bool) (s : ℕ) → length (style_texts (pick z (one false s style.display_none) [])) ≡ 0
unfolding pick one style_texts texts_many style_text style_text_of
added-short true s = refl
added-short false s = refl

-- the contents of a rule's styles are no longer than the rule's texts
rule-short : (r : RuleSet) → length (rule_contents r) ≤ length (rule_text r)
unfolding rule_contents said.rule_styles styles_of rule_text
rule-short r =
    let ds = r.declarations in
    let z = and (any_decl zero_height ds) (any_decl hides_overflow ds) in
    omega (arith, texts-length (own_styles ds) (pick z (one false (first_zero ds) style.display_none) []), added-short z (first_zero ds), owns-short ds, length-append (selector_texts r.selectors) (declaration_texts ds))

-- the contents of all rules' styles are no longer than the rules' texts
pub contents-short : (rs : List RuleSet) → length (rules_contents rs) ≤ length (rule_texts rs)
unfolding rules_contents rule_texts texts_many
contents-short [] = omega arith
contents-short (r ∷ rs) = omega (arith, rule-short r, contents-short rs, length-append (rule_contents r) (rules_contents rs), length-append (rule_text r) (rule_texts rs))

-- ---- a sheet whose rules lie in rows and texts
pub record SheetLies (rows texts : List ℕ) (end : ℕ) (x : SheetRules) (rs : List RuleSet) : Type 0 where
  pub behind : List ℕ
  pub counted : x.count ≡ length rs
  pub rows_at : drop x.place rows ≡ rule_rows 0 rs ++ behind
  pub held : Held (sheet_text texts x.from end) 0 (rule_texts rs)
  pub ordered : x.from ≤ end
  pub fit : RulesFit rs

-- the text that is lent is that of the sheet
module _ {rows texts : List ℕ} {end : ℕ} {x : SheetRules} {rs : List RuleSet} (l : SheetLies rows texts end x rs) {its : List ℕ} (e : its ≡ sheet_text texts x.from end) where
  -- so the texts of its rules lie there
  held : Held its 0 (rule_texts rs)
  held = rw e l.held

  -- where the store is zero from a place on and long enough, it has room for what is kept of the sheet
  pub sheet-room : (tokens : List ℕ) (place : ℕ) → Zeros tokens place → place + length (rule_rows 0 rs) + 64 ≤ length tokens → RulesKeptRoom its x.count (drop x.place rows) tokens place
  sheet-room tokens place z h = rw (l.counted, l.rows_at) (written-room its rs 0 l.behind l.fit held tokens place z (omega arith))

  -- the contents that are read of the sheet are those of its rules
  contents-are : rules_contents_at its x.count (drop x.place rows) ≡ rules_contents rs
  contents-are = rw (l.counted, l.rows_at) (rules-contents its rs 0 l.behind l.fit held)

  -- the styles that are read of the sheet are those of its rules, with contents placed from the fill on
  styled-are : (fill : ℕ) → styled_rules its fill x.count (drop x.place rows) ≡ placed_rules fill rs
  styled-are fill = rw (l.counted, l.rows_at) (rules-styled its rs 0 fill l.behind l.fit held)

  -- where its contents fit, the store of contents has the room that making its styles asks for
  pub sheet-contents-room : (store : List ℕ) (fill : ℕ) → fill + length (rules_contents rs) ≤ length store → fill + length (rules_contents rs) < 2 ^ 32
      → ContentsRoom store fill (rules_contents_at its x.count (drop x.place rows))
  sheet-contents-room store fill h b = rw contents-are (record { room = h; bits = b })

  -- what is kept of it, its contents, and where its rules end
  pub sheet-kept : (tokens t : List ℕ) (place fill : ℕ) → t ≡ sets tokens place (kept_rules (styled_rules its fill x.count (drop x.place rows))) → t ≡ sets tokens place (kept_rules (placed_rules fill rs))
  sheet-kept tokens t place fill g = g ∙ ap (λ k. sets tokens place (kept_rules k)) (styled-are fill)

  -- the place behind what is kept of the sheet is the one by its rules
  pub sheet-place : (place r fill : ℕ) → r ≡ place + length (kept_rules (styled_rules its fill x.count (drop x.place rows))) → r ≡ place + length (kept_rules (placed_rules fill rs))
  sheet-place place r fill g = g ∙ ap (λ k. place + length (kept_rules k)) (styled-are fill)

  -- what is written is the contents of its rules
  pub sheet-contents : (store t : List ℕ) (fill : ℕ) → t ≡ sets store fill (rules_contents_at its x.count (drop x.place rows)) → t ≡ sets store fill (rules_contents rs)
  sheet-contents store t fill g = g ∙ ap (sets store fill) contents-are

  -- the fill behind its contents is the one by its rules
  pub sheet-fill : (r fill : ℕ) → r ≡ fill + length (rules_contents_at its x.count (drop x.place rows)) → r ≡ fill + length (rules_contents rs)
  sheet-fill r fill g = g ∙ ap (λ (k : List ℕ). fill + length k) contents-are

  -- the place where reading its rules ends is the place behind their rows
  pub sheet-end : (r : ℕ) → drop r rows ≡ (read_many (read_rule its) x.count (drop x.place rows)).rest → x.place + length (rule_rows 0 rs) < length rows → r ≡ x.place + length (rule_rows 0 rs)
  sheet-end r g h =
      let left : (read_many (read_rule its) x.count (drop x.place rows)).rest ≡ l.behind = rw (l.counted, l.rows_at) (written-rest its rs 0 l.behind l.fit held) in
      let b : length rows - r ≡ length l.behind = sym (length-drop r rows) ∙ ap length (g ∙ left) in
      let d : length rows - x.place ≡ length (rule_rows 0 rs) + length l.behind = sym (length-drop x.place rows) ∙ ap length l.rows_at ∙ length-append (rule_rows 0 rs) l.behind in
      omega (arith, b, d, h)

module _ {rows texts : List ℕ} {end : ℕ} {x : SheetRules} {rs : List RuleSet} (l : SheetLies rows texts end x rs) where
  -- no longer than its rows, with a number for each of its selectors
  pub sheet-kept-short : (fill : ℕ) → length (kept_rules (placed_rules fill rs)) + length (rules_selectors rs) ≤ length (rule_rows 0 rs)
  sheet-kept-short fill =
      rw (← rules-styled (sheet_text texts x.from end) rs 0 fill l.behind l.fit l.held) (written-within (sheet_text texts x.from end) rs 0 l.behind l.fit l.held fill)

  -- the rules that lie there
  pub sheet-rules : (read_many (read_rule (sheet_text texts x.from end)) x.count (drop x.place rows)).value ≡ rs
  sheet-rules = rw (l.counted, l.rows_at) (ap (λ (y : Read (List RuleSet)). y.value) (rules-read (sheet_text texts x.from end) rs 0 l.behind l.fit l.held))
