-- Returns of `place_style`, and the loop of `place_styles`.
use mathlib.Core.Path.{◌≡◌, refl, sym, ap, ◌∙◌}
use mathlib.Core.List.{List, [], ◌++◌}
use Prim.Native.Nat.{ℕ, zero, suc, ◌+◌, ◌*◌, ◌^◌, ◌≤◌, ◌<◌}
use native.Mathlib.Nat.{add-zero}
use native.Mathlib.Omega.{arith}
use lib.ListN.{length, drop, length-append}
use lib.Seq.{sets, length-sets, drop-drop}
use Rattle.combinators.specs.Part.{part}
use Rattle.combinators.specs.Store.{Store, emits}
use Rattle.combinators.proofs.Emitted.{sets-emitted, emits-fill}
use Rattle.combinators.proofs.Rules.{pick_true, pick-false, is-yes, is-no}
use Rattle.combinators.proofs.Wiped.{sets-append, drop-sets}
use Rattle.syntax.specs.Layout.{content_slot, style_width, numbers_at, row_of_numbers}
use Rattle.syntax.specs.Stream.{read_many, texts_many}
use Rattle.syntax.specs.declared.styles.StyleNumbers.{StyleNumbers}
use Rattle.syntax.proofs.RowSizes.{length-style}
use Rattle.rule_styles.specs.Placing.{read_numbers, numbers_of, StyleRowRoom, content_of, placed_value, placed_numbers, contents_of, placed_all}
use Rattle.rule_styles.specs.PlacingRoom.{ContentsRoom, StyleRowsRoom}

-- ---- one style, whose content is placed at the fill
module _ (text : List ℕ) (fill : ℕ) (x : StyleNumbers) where
  -- the content of a style of the content slot is the text that its numbers name
  content-is : x.slot ≡ content_slot → part text x.value.number x.value.second ≡ content_of text x
  unfolding content_of
  content-is h = pick_true _ _ _ _ (is-yes _ _ h) refl

  -- the style that says where it lies
  content-lies : x.slot ≡ content_slot → (size : ℕ) → size ≡ length (part text x.value.number x.value.second)
      → record { slot = x.slot; important = x.important; value = record { number = fill; second = size; start = x.value.start } } ≡ placed_numbers text fill x
  unfolding placed_numbers placed_value
  content-lies h size e =
      ap (λ v. record { slot = x.slot; important = x.important; value = v }) (pick_true _ _ _ _ (is-yes _ _ h) (rw (e, content-is h) refl))

  -- any other has no text
  other_none : ¬ (x.slot ≡ content_slot) → [] ≡ content_of text x
  unfolding content_of
  other_none h = pick-false _ _ _ _ (is-no _ _ h) refl

  -- and any other style stays as it is
  other-stays : ¬ (x.slot ≡ content_slot) → x ≡ placed_numbers text fill x
  unfolding placed_numbers placed_value
  other-stays h = ap (λ v. record { slot = x.slot; important = x.important; value = v }) (pick-false _ _ _ _ (is-no _ _ h) refl)

-- ---- returns of `place_style`: the style that is read from a row
module _ (tokens text contents : List ℕ) (at fill : ℕ) (style : StyleNumbers) (e : style ≡ numbers_at (drop at tokens)) where
  -- what it leaves: the style's row with its new place, its content at the fill, and the fill behind it
  abbrev Left : List ℕ → List ℕ → ℕ → Type 0
  Left t z r =
      (t ≡ sets tokens at (row_of_numbers (placed_numbers text fill (numbers_at (drop at tokens)))))
      × ((z ≡ sets contents fill (content_of text (numbers_at (drop at tokens)))) × (r ≡ fill + length (content_of text (numbers_at (drop at tokens)))))

  -- the style is a content, a part of the text
  module _ (h : style.slot ≡ content_slot) (found : List ℕ) (f : found ≡ part text style.value.number style.value.second) where
    -- which is its content
    content-found : found ≡ content_of text (numbers_at (drop at tokens))
    content-found = f ∙ content-is text fill style h ∙ ap (content_of text) e

    -- there is room for it, and its numbers are of 32 bits
    pub content-room : ContentsRoom contents fill (content_of text (numbers_at (drop at tokens))) → ContentsRoom contents fill found
    content-room r = rw content-found r

    -- it is copied, and its row says where it lies
    pub content-placed : ContentsRoom contents fill (content_of text (numbers_at (drop at tokens))) → (t z : List ℕ) (r : ℕ) → record { bytes = z; fill = r } ≡ emits (record { bytes = contents; fill = fill }) found
        → t ≡ sets tokens at (row_of_numbers (record { slot = style.slot; important = style.important; value = record { number = fill; second = length found; start = style.value.start } }))
        → Left t z r
    content-placed room t z r ez et = (
      et ∙ ap (λ (x : StyleNumbers). sets tokens at (row_of_numbers x)) (content-lies text fill style h (length found) (ap length f) ∙ ap (placed_numbers text fill) e),
      (
        sets-emitted contents z found fill r ez ∙ ap (sets contents fill) content-found,
        ap (λ (o : Store ℕ). o.fill) ez ∙ emits-fill found contents fill (content-room room).room ∙ ap (λ (l : List ℕ). fill + length l) content-found,
      ),
    )

  -- any other style is written as it is, and the contents and their fill stay
  pub other-placed : ¬ (style.slot ≡ content_slot) → (t : List ℕ) → t ≡ sets tokens at (row_of_numbers style) → Left t contents fill
  other-placed h t et =
      rw (← e) (
        et ∙ ap (λ (x : StyleNumbers). sets tokens at (row_of_numbers x)) (other-stays text fill style h),
        (
          ap (sets contents fill) (other_none text fill style h),
          sym (add-zero fill) ∙ ap (λ (l : List ℕ). fill + length l) (other_none text fill style h),
        ),
      )

-- ---- many styles
module _ (text : List ℕ) (k : ℕ) (t : List ℕ) where
  -- the contents of the first style at the start of a stream, and of the others
  one-content : contents_of text (numbers_of (suc k) t) ≡ content_of text (numbers_at t) ++ contents_of text (numbers_of k (drop style_width t))
  unfolding contents_of numbers_of read_many read_numbers texts_many
  one-content = refl

  -- the row of the first style, placed, and those of the others, placed behind its content
  one-row : (f : ℕ) → texts_many row_of_numbers (placed_all text f (numbers_of (suc k) t))
      ≡ row_of_numbers (placed_numbers text f (numbers_at t)) ++ texts_many row_of_numbers (placed_all text (f + length (content_of text (numbers_at t))) (numbers_of k (drop style_width t)))
  unfolding placed_all numbers_of read_many read_numbers texts_many
  one-row f = refl

-- of no style there is no row
no_row : (text : List ℕ) (f : ℕ) (t : List ℕ) → texts_many row_of_numbers (placed_all text f (numbers_of zero t)) ≡ []
unfolding placed_all numbers_of read_many texts_many
no_row text f t = refl

-- of no style there is no content
no-content : (text t : List ℕ) → contents_of text (numbers_of zero t) ≡ []
unfolding contents_of numbers_of read_many texts_many
no-content text t = refl

-- ---- the loop of `place_styles`
module _ (tokens₀ : List ℕ) (at count : ℕ) (sheet contents₀ : List ℕ) (fill : ℕ) where
  -- the rows of n styles from a place on
  abbrev rows_from : List ℕ → ℕ → ℕ → ℕ → List ℕ
  rows_from tokens f place n = texts_many row_of_numbers (placed_all sheet f (numbers_of n (drop place tokens)))

  -- the contents of n styles from a place on, one behind the other
  abbrev contents_from : List ℕ → ℕ → ℕ → List ℕ
  contents_from tokens place n = contents_of sheet (numbers_of n (drop place tokens))

  -- what is left to place leaves what the whole leaves
  pub record Placing (tokens contents : List ℕ) (f place n : ℕ) : Type 0 where
    pub rows_left : sets tokens place (rows_from tokens f place n) ≡ sets tokens₀ at (rows_from tokens₀ fill at count)
    pub contents-left : sets contents f (contents_from tokens place n) ≡ sets contents₀ fill (contents_from tokens₀ at count)
    pub fill-left : f + length (contents_from tokens place n) ≡ fill + length (contents_from tokens₀ at count)
    pub row_room : place + style_width * n ≤ length tokens
    pub row-length : length tokens ≡ length tokens₀
    pub contents-length : length contents ≡ length contents₀

  module _ (s : StyleRowsRoom tokens₀ at count) (r : ContentsRoom contents₀ fill (contents_from tokens₀ at count)) where
    -- before the first style none is placed, and all are left
    pub placing-begin : (n place : ℕ) → n ≡ count → place ≡ at → Placing tokens₀ contents₀ fill place n
    placing-begin n place e q = rw (e, q) (record { rows_left = refl; contents-left = refl; fill-left = refl; row_room = s.room; row-length = refl; contents-length = refl })

    module _ (tokens contents : List ℕ) (f place : ℕ) where
      -- the numbers of the next style that is to be placed
      abbrev x : StyleNumbers
      x = numbers_at (drop place tokens)

      -- there is room for the next style's row, and for its content
      next-room : (k : ℕ) → Placing tokens contents f place (suc k) → StyleRowRoom tokens place × ContentsRoom contents f (content_of sheet x)
      next-room k c =
          let e = ap length (one-content sheet k (drop place tokens)) ∙ length-append (content_of sheet x) (contents_of sheet (numbers_of k (drop style_width (drop place tokens)))) in
          let b : f + length (content_of sheet x) ≤ length contents = omega (arith, e, r.room, c.fill-left, c.contents-length) in
          let d : f + length (content_of sheet x) < 2 ^ 32 = omega (arith, e, r.bits, c.fill-left) in
          (record { room = omega (arith, c.row_room) }, record { room = b; bits = d })

      -- with the next style placed and its content stored, one style less is left to place
      next-placed : (k : ℕ) → Placing tokens contents f place (suc k) → (t z : List ℕ) (g : ℕ) → t ≡ sets tokens place (row_of_numbers (placed_numbers sheet f x))
          → z ≡ sets contents f (content_of sheet x) → g ≡ f + length (content_of sheet x) → Placing t z g (place + style_width) k
      next-placed k c t z g et ez eg =
          let row = row_of_numbers (placed_numbers sheet f x) in
          let w : length row ≡ style_width = length-style (placed_numbers sheet f x) in
          let rest = drop style_width (drop place tokens) in
          let d : drop (place + style_width) t ≡ rest =
          ap (drop (place + style_width)) et ∙ drop-sets row tokens place (place + style_width) (omega (arith, w)) ∙ sym (drop-drop style_width place tokens) in
          let others = texts_many row_of_numbers (placed_all sheet (f + length (content_of sheet x)) (numbers_of k rest)) in
          let es = length-append (content_of sheet x) (contents_of sheet (numbers_of k rest)) in
          record {
            rows_left =
                rw (d, et, eg)
                (ap (λ (n : ℕ). sets (sets tokens place row) (place + n) others) (sym w) ∙ sym (sets-append tokens place row others)
                ∙ ap (sets tokens place) (sym (one-row sheet k (drop place tokens) f)) ∙ c.rows_left);
            contents-left =
                rw (d, ez, eg)
                (sym (sets-append contents f (content_of sheet x) (contents_of sheet (numbers_of k rest)))
                ∙ ap (sets contents f) (sym (one-content sheet k (drop place tokens))) ∙ c.contents-left);
            fill-left = rw (d, eg) (omega (arith, es, ap length (one-content sheet k (drop place tokens)), c.fill-left));
            row_room = omega (arith, ap length et, length-sets tokens place row, c.row_room);
            row-length = ap length et ∙ length-sets tokens place row ∙ c.row-length;
            contents-length = ap length ez ∙ length-sets contents f (content_of sheet x) ∙ c.contents-length;
          }

      -- room for the next, while any is left
      pub placing-room : (n : ℕ) → Placing tokens contents f place n → 0 < n → StyleRowRoom tokens place × ContentsRoom contents f (content_of sheet x)
      placing-room zero c h = absurd (omega arith)
      placing-room (suc k) c h = next-room k c

      -- a turn: the next style is placed, with its content, and the styles behind it are left
      pub placing-more : (n m : ℕ) → Placing tokens contents f place n → n ≡ suc m → (t z : List ℕ) (g next : ℕ)
          → t ≡ sets tokens place (row_of_numbers (placed_numbers sheet f x)) → z ≡ sets contents f (content_of sheet x)
          → g ≡ f + length (content_of sheet x) → next ≡ place + style_width → Placing t z g next m
      placing-more n m c h t z g next et ez eg q = rw q (next-placed m (rw h at c) t z g et ez eg)

      -- when no style is left, the rows of all are placed, their contents are stored, and the fill is behind them
      pub placing-done : (n : ℕ) → Placing tokens contents f place n → n ≤ 0
          → (tokens ≡ sets tokens₀ at (rows_from tokens₀ fill at count))
          × ((contents ≡ sets contents₀ fill (contents_from tokens₀ at count)) × (f ≡ fill + length (contents_from tokens₀ at count)))
      placing-done zero c h = (
        ap (sets tokens place) (sym (no_row sheet f (drop place tokens))) ∙ c.rows_left,
        (
          ap (sets contents f) (sym (no-content sheet (drop place tokens))) ∙ c.contents-left,
          omega (arith, c.fill-left, ap length (no-content sheet (drop place tokens))),
        ),
      )
      placing-done (suc k) c h = absurd (omega arith)
