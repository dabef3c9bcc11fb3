-- Returns of `styles_of_rule`, and that rules which were written can be asked for their styles.
use mathlib.Core.Path.{◌≡◌, refl, ap, sym, ◌∙◌}
use mathlib.Core.List.{List, [], ◌∷◌, ◌++◌, append_assoc}
use Prim.Native.Nat.{ℕ, ◌+◌, ◌*◌, ◌^◌, ◌≤◌, ◌<◌}
use native.Mathlib.Nat.{add-zero}
use native.Mathlib.Omega.{arith}
use lib.ListN.{length, drop, get_or, length-append}
use lib.Seq.{sets, get_or-drop}
use Rattle.combinators.proofs.Lists.{lent_from, rest}
use Rattle.combinators.proofs.AllLaws.{all_weaker}
use Rattle.syntax.specs.Layout.{read_declaration, declarations_at, declaration_rows, declaration_texts, declaration_width, style_width, styles_at}
use Rattle.syntax.specs.RuleLayout.{rule_declarations, read_rule, selector_rows, selector_texts, rule_text, rule_row, rule_rows, rule_texts}
use Rattle.syntax.specs.RuleSize.{rule_size}
use Rattle.syntax.specs.Selector.{RuleSet}
use Rattle.syntax.specs.Stream.{rows_many, texts_many}
use Rattle.syntax.proofs.RowSizes.{length-declarations, length-rules}
use Rattle.syntax.proofs.RuleRows.{selectors-back, rule-back, RulesFit}
use Rattle.syntax.proofs.Streams.{Held, held-left, held-right}
use Rattle.declarations.specs.Styles.{styles_of}
use Rattle.declarations.specs.StyleNumbers.{style_numbers, style_count}
use Rattle.declarations.proofs.StyleLaws.{reads-styles, count-styles, styles-few}
use Rattle.selectors.specs.Outcome.{reads}
use Rattle.sheets.specs.Rules.{rule_width}
use Rattle.sheets.specs.Sheet.{sheet_of}
use Rattle.combinators.specs.LeastLengths.{number_least}
use Rattle.combinators.specs.All.{All}
use Rattle.selectors.proofs.AllLaws.{each-size}
use Rattle.sheets.proofs.SheetBounds.{sheet-keeps}
use Rattle.origins.specs.Rules.{selectors_read, rule_styles, RuleRoom, EachRoom}
use Rattle.origins.proofs.WalkLaws.{many-length}

-- ---- returns of `styles_of_rule`: a rule at a place, whose declarations lie from another on
module _ (rows : List ℕ) (at d place count : ℕ) (e : (texts : List ℕ) → drop d rows ≡ (selectors_read texts (drop at rows)).rest)
    (p : drop place rows ≡ drop (d + 0) rows) (c : count ≡ get_or rows (at + rule_declarations) 0) where
  -- the rows that are lent
  abbrev lent : List ℕ
  lent = lent_from rows place

  -- the count that was read is the rule's count of declarations
  count-is : count ≡ get_or (drop at rows) rule_declarations 0
  count-is = c ∙ sym (get_or-drop at rows rule_declarations 0)

  -- the rows that are lent are those behind the rule's selectors, with any texts
  lent_is : (texts : List ℕ) → lent ≡ (selectors_read texts (drop at rows)).rest
  lent_is texts = rest rows place ∙ p ∙ ap (λ (n : ℕ). drop n rows) (add-zero d) ∙ e texts

  -- the declarations that are read there are the rule's
  declared-is : (texts : List ℕ) → declarations_at lent texts count ≡ (read_rule texts (drop at rows)).value.declarations
  unfolding read_rule selectors_read declarations_at
  declared-is texts = rw (lent_is texts, count-is)

  -- where there is room for the rule, the rows of its declarations are there
  pub declared-there : (l : ℕ) → RuleRoom (drop at rows) l → declaration_width * count ≤ length lent
  declared-there l o = rw (lent_is o.texts, count-is) o.declared

  -- and there is room for their styles
  pub room : (l : ℕ) → RuleRoom (drop at rows) l → (n : ℕ) → n ≡ count → style_width * (n + 1) ≤ l
  room l o n e = rw (e, count-is) o.styled

  -- the styles are no more than the declarations, whose count is a number of 32 bits
  pub bits : (n : ℕ) → n ≡ style_count lent count → count < 2 ^ 32 → n < 2 ^ 32
  unfolding declarations_at
  bits n en h =
      omega (arith, en, h, count-styles [] lent count, styles-few (declarations_at lent [] count), many-length (read_declaration []) count lent)

  -- the style numbers of those declarations are the styles of the rule
  numbers-are : style_numbers lent count ≡ rule_styles (drop at rows)
  unfolding rule_styles
  numbers-are = rw (lent_is [], count-is) refl

  -- the store of styles holds those of the rule, and reads back as what its declarations mean
  pub styles-left : (n : ℕ) (x y : List ℕ) → y ≡ sets x 0 (style_numbers lent count) → n ≡ style_count lent count
      → ((texts : List ℕ) → styles_at y texts n ≡ styles_of (declarations_at lent texts count))
      → (y ≡ sets x 0 (rule_styles (drop at rows)))
      × ((style_width * n ≡ length (rule_styles (drop at rows)))
      × ((texts : List ℕ) → styles_at y texts n ≡ styles_of (read_rule texts (drop at rows)).value.declarations))
  styles-left n x y ey en m = (
    ey ∙ ap (λ (v : List ℕ). sets x 0 v) numbers-are,
    (
      omega (arith, en, count-styles [] lent count, (reads-styles [] lent count).long, ap length numbers-are),
      λ texts. m texts ∙ ap styles_of (declared-is texts),
    ),
  )

-- ---- rules that were written
module _ (texts : List ℕ) (l : ℕ) where
  -- a rule that was written has room for its styles in a store of so many numbers
  rule-room : (f : ℕ) (r : RuleSet) (t : List ℕ) → Held texts f (rule_text r) → style_width * (length r.declarations + 1) ≤ l → RuleRoom (rule_row f r ++ t) l
  unfolding rule_row rule_text selectors_read
  rule-room f r t h k =
      let ss = r.selectors in
      let ds = r.declarations in
      let g = f + length (selector_texts ss) in
      record {
        texts = texts;
        declared =
            rw (append_assoc (selector_rows f ss) (declaration_rows g ds) t, selectors-back texts ss f (declaration_rows g ds ++ t) (held-left texts f (selector_texts ss) (declaration_texts ds) h))
            (omega (arith, length-append (declaration_rows g ds) t, length-declarations g ds));
        styled = k;
      }

  -- each of the rules that were written has that room
  pub each-room : (rs : List RuleSet) (f : ℕ) (t : List ℕ) → RulesFit rs → Held texts f (rule_texts rs)
      → All (λ r. style_width * (length r.declarations + 1) ≤ l) rs → EachRoom texts (length rs) (rule_rows f rs ++ t) l
  unfolding EachRoom rule_rows rows_many rule_texts texts_many
  each-room [] f t u h k = tt
  each-room (r ∷ rs) f t u h k =
      let g = f + length (rule_text r) in
      let q : List ℕ = rows_many rule_row rule_text g rs ++ t in
      let x : Held texts f (rule_text r) = held-left texts f (rule_text r) (texts_many rule_text rs) h in
      rw (append_assoc (rule_row f r) (rows_many rule_row rule_text g rs) t)
      (rule-room f r q x k.0, rw (rule-back texts f r q u.0 x) (each-room rs g t u.1 (held-right texts f (rule_text r) (texts_many rule_text rs) h) k.1))

-- the declarations of a rule take no more numbers than its row has, and a sheet's rows have eight for each of its bytes
declarations-sized : (m l : ℕ) → rule_width * m + 64 ≤ l → (r : RuleSet) → rule_size r ≤ rule_width * m → style_width * (length r.declarations + 1) ≤ l
unfolding rule_size
declarations-sized m l h r k = omega arith

-- a store of the least length has room for a style for each declaration of each rule, and one more
pub styles-few-enough : (s : List ℕ) (stop : ℕ) (rs : List RuleSet) → sheet_of s ≡ reads stop rs → (n l : ℕ) → length s ≤ n → number_least n ≤ l
    → All (λ r. style_width * (length r.declarations + 1) ≤ l) rs
styles-few-enough s stop rs e n l h k =
    let q = sheet-keeps s stop rs e in
    all_weaker (λ (r : RuleSet). rule_size r ≤ rule_width * stop) (λ (r : RuleSet). style_width * (length r.declarations + 1) ≤ l)
    (declarations-sized stop l (omega (arith, q.within))) rs (each-size rule_size (rule_width * stop) rs (omega (arith, q.wide, length-rules 0 rs)))
