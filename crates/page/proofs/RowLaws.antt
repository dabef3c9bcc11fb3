-- The rules of a row: how the code finds that a row keeps them or does not.
use mathlib.Core.Path.{◌≡◌, refl, sym, ap, ap₂, ◌∙◌}
use mathlib.Core.Bool.{Bool, true, false}
use mathlib.Core.List.{List}
use Prim.Native.Nat.{ℕ, zero, suc, ◌+◌, ◌-◌, ◌≤◌, ◌<◌}
use native.Mathlib.Omega.{arith}
use native.Mathlib.Nat.{not-suc-le-zero}
use native.Mathlib.Numerals.{add-one}
use borrow.Author.Tests.{ltb-true, ltb-false, le-leb, lt-leb}
use lib.Dec.{leb, ltb}
use Rattle.std.specs.Prelude.{Option, Some, None}
use Rattle.std.specs.Bool.{then_some}
use Rattle.combinators.specs.Choice.{pick, or, and, is}
use Rattle.combinators.specs.All.{member}
use Rattle.combinators.proofs.Rules.{never, pick_true, pick-false, pick-holds, and_both, and_left, and_right, and-gives, and-true, either, is-yes, is-no, is_true}
use Rattle.page.specs.Rows.{NodeRow, node_at, node_count, element_kind, other_kind, attribute_at, attribute_rows}
use Rattle.page.specs.Ancestors.{ancestors_from, ancestors_of, line_of, depth_of, climbed}
use Rattle.page.specs.Accepted.{attributes_before, attributes_end, texts_end, bytes_before, ends_in_zeros, is_document, is_parent, parent_right, depth_limit, attributes_follow, element_follows, kind_right, row_right, first_bad_row}
use Rattle.page.specs.CheckAnswers.{attributes_answer, behind, element_answer, kind_answer, depth_answer, BehindRow, Carried, row_answer}
use Rattle.page.specs.declared.rules.Totals.{Totals}
use Rattle.page.specs.declared.rules.Progress.{Progress}
use Rattle.page.proofs.Ancestry.{below-depth, depth-most}
use Rattle.page.proofs.FirstFault.{Seeking, seek-begin, seek-on, seek_stop, seek-done}

-- ---- an answer that is there if a test holds
module _ {A : Type 0} (t : Bool) (x : A) where
  -- where there is one, the test held, and it is this one
  pub picked : (y : A) → Some y ≡ pick t (Some x) None → (t ≡ true) × (y ≡ x)
  unfolding pick
  picked y e = go t e
    where
      go : (t : Bool) → Some y ≡ pick t (Some x) None → (t ≡ true) × (y ≡ x)
      go true e = (refl, cc)
      go false e = absurd (cc)

  -- where there is none, it failed
  pub not_picked : None ≡ pick t (Some x) None → t ≡ false
  unfolding pick
  not_picked e = go t e
    where
      go : (t : Bool) → None ≡ pick t (Some x) None → t ≡ false
      go true e = absurd (cc)
      go false e = refl

-- ---- `follow_attributes`: the texts of those left end where those of all end
pub record Following (attributes : List ℕ) (first count start at left end : ℕ) : Type 0 where
  pub work : attributes_answer attributes left at end ≡ attributes_answer attributes count first start
  pub sum : at + left ≡ first + count

module _ (attributes : List ℕ) (first count start at left end : ℕ) (i : Following attributes first count start at left end) where
  -- with no attribute row left, the texts end here
  pub following-done : left ≤ 0 → Some end ≡ attributes_answer attributes count first start
  unfolding attributes_answer attributes_follow attributes_end pick
  following-done h =
      let z : left ≡ 0 = omega arith in
      sym (ap (λ (k : ℕ). attributes_answer attributes k at end) z) ∙ i.work

  module _ (l : 0 < left) (s : ℕ) (es : s ≡ (attribute_at attributes at).name_start) where
    -- the answer at this row is that of all
    here : attributes_answer attributes (suc (left - 1)) at end ≡ attributes_answer attributes count first start
    here = let z : suc (left - 1) ≡ left = omega arith in ap (λ (k : ℕ). attributes_answer attributes k at end) z ∙ i.work

    -- its name does not start where it should
    pub name-breaks : ¬ (s ≡ end) → None ≡ attributes_answer attributes count first start
    unfolding attributes_answer attributes_follow
    name-breaks d = pick-false _ _ _ _ (and_left _ _ (is-no _ _ (λ (e : (attribute_at attributes at).name_start ≡ end). d (es ∙ e)))) refl ∙ here

    module _ (y : s ≡ end) (n v : ℕ) (en : n ≡ (attribute_at attributes at).name_length) (ev : v ≡ (attribute_at attributes at).value_start) where
      -- its value does not start behind its name
      pub value-breaks : ¬ (v ≡ end + n) → None ≡ attributes_answer attributes count first start
      unfolding attributes_answer attributes_follow
      value-breaks d =
          pick-false _ _ _ _
          (and_right _ _ (and_left _ _ (is-no _ _ (λ (e : (attribute_at attributes at).value_start ≡ end + (attribute_at attributes at).name_length). d (ev ∙ e ∙ ap (λ (k : ℕ). end + k) (sym en)))))) refl
          ∙ here

      -- a name and a value that follow on from the total: the next attribute begins behind them
      pub following-on : v ≡ end + n → (w : ℕ) → w ≡ (attribute_at attributes at).value_length → Following attributes first count start (at + 1) (left - 1) (end + n + w)
      unfolding attributes_answer attributes_follow attributes_end
      following-on e w ew =
          record {
            work =
                rw (en, ew)
                (ap
                (λ (t : Bool).
                pick t (Some (attributes_end attributes (left - 1) (at + 1) (end + (attribute_at attributes at).name_length + (attribute_at attributes at).value_length))) None)
                (and-gives _ _ _ (is-yes _ _ (sym es ∙ y)) (and-gives _ _ _ (is-yes _ _ (sym ev ∙ e ∙ ap (λ (k : ℕ). end + k) en)) refl))
                ∙ here);
            sum = omega (arith, i.sum);
          }

-- ---- `check_element`: name and attributes, where they start and end
module _ (attributes : List ℕ) (n : NodeRow) (first start s : ℕ) (es : s ≡ n.name_start) where
  -- its name does not start where it should
  pub element-start : ¬ (s ≡ start) → None ≡ element_answer attributes n first start
  unfolding element_answer element_follows
  element-start d = pick-false _ _ _ _ (and_left _ _ (and_left _ _ (is-no _ _ (λ (e : n.name_start ≡ start). d (es ∙ e))))) refl

  module _ (f : ℕ) (ef : f ≡ n.first_attribute) where
    -- its attributes do not start where those of the rows before end
    pub element-first : ¬ (f ≡ first) → None ≡ element_answer attributes n first start
    unfolding element_answer element_follows
    element-first d = pick-false _ _ _ _ (and_left _ _ (and_right _ _ (is-no _ _ (λ (e : n.first_attribute ≡ first). d (ef ∙ e))))) refl

    module _ (k m : ℕ) (ek : k ≡ n.attribute_count) (em : m ≡ attribute_rows attributes) where
      -- they end past the attribute rows lent
      pub element-past : m < first + k → None ≡ element_answer attributes n first start
      unfolding element_answer element_follows
      element-past h =
          let l : attribute_rows attributes < first + n.attribute_count = rw (← ek, ← em) h in
          pick-false _ _ _ _ (and_right _ _ (and_left _ _ (lt-leb (first + n.attribute_count) (attribute_rows attributes) l))) refl

      module _ (b : ℕ) (eb : b ≡ n.name_length) (r : Option ℕ) (er : r ≡ attributes_answer attributes k first (start + b)) where
        -- what was asked of the element's attributes
        follows : r ≡ attributes_answer attributes n.attribute_count first (start + n.name_length)
        follows = rw (← ek, ← eb) er

        -- their texts do not lie end to end
        pub element-breaks : r ≡ None → None ≡ element_answer attributes n first start
        unfolding element_answer element_follows attributes_answer
        element-breaks e = pick-false _ _ _ _ (and_right _ _ (and_right _ _ (not_picked _ _ (sym e ∙ follows)))) refl

        -- the return where name and attributes lie in place: the totals go on behind them
        pub element-ends : s ≡ start → f ≡ first → first + k ≤ m → (end : ℕ) → r ≡ Some end → Some (record { first = first + k; start = end }) ≡ element_answer attributes n first start
        unfolding element_answer element_follows attributes_answer behind texts_end
        element-ends ys yf h end e =
            let l : first + n.attribute_count ≤ attribute_rows attributes = rw (← ek, ← em) h in
            let o = picked _ _ end (sym e ∙ follows) in
            let g : n.first_attribute ≡ first = sym ef ∙ yf in
            pick_true _ _ _ _
            (and_both _ _ (and_both _ _ (is-yes _ _ (sym es ∙ ys)) (is-yes _ _ g)) (and_both _ _ (le-leb (first + n.attribute_count) (attribute_rows attributes) l) o.0))
            (rw (ek, o.1, g))

-- ---- `check_kind`: other content, or an element, from where the rows before leave off
module _ (attributes : List ℕ) (n : NodeRow) (first start : ℕ) (z : ends_in_zeros n ≡ true) where
  -- a row that ends in zeros has no name
  no_name : n.name_length ≡ 0
  unfolding ends_in_zeros
  no_name = is_true _ _ (and-true _ _ (and-true _ _ z).0).1

  -- a row that ends in zeros has no attributes
  no-attributes : n.attribute_count ≡ 0
  unfolding ends_in_zeros
  no-attributes = is_true _ _ (and-true _ _ (and-true _ _ z).1).1

  -- behind a row that ends in zeros the totals are as before it
  pub no-texts : texts_end attributes n start ≡ start
  unfolding texts_end attributes_end
  no-texts = let e : start + 0 ≡ start = omega arith in rw (no-attributes, no_name, e)

  -- a row that ends in zeros has no attributes, so their total stays
  pub no_more : first + n.attribute_count ≡ first
  no_more = omega (arith, no-attributes)

module _ (attributes : List ℕ) (n : NodeRow) (first start kind : ℕ) (ek : kind ≡ n.kind) where
  -- other content that ends in zeros goes on from where the rows before leave off
  pub other-right : kind ≡ other_kind → (z : Bool) → z ≡ ends_in_zeros n → z ≡ true → Some (record { first = first; start = start }) ≡ kind_answer attributes n first start
  unfolding kind_answer kind_right behind
  other-right y z e t =
      let s : ends_in_zeros n ≡ true = sym e ∙ t in
      pick_true _ _ _ _ (sym (pick_true _ _ _ _ (is-yes _ _ (sym ek ∙ y)) (sym s))) (rw (no-texts attributes n first start s, no_more attributes n first start s))

  -- and other content that does not is against the rules
  pub other-wrong : kind ≡ other_kind → (z : Bool) → z ≡ ends_in_zeros n → z ≡ false → None ≡ kind_answer attributes n first start
  unfolding kind_answer kind_right
  other-wrong y z e t = pick-false _ _ _ _ (sym (pick_true _ _ _ _ (is-yes _ _ (sym ek ∙ y)) (sym (sym e ∙ t)))) refl

  module _ (d : ¬ (kind ≡ other_kind)) where
    -- what is asked of a row that is no other content
    no_other : (v : Bool) → v ≡ and (is n.kind element_kind) (element_follows attributes n first start) → kind_right attributes n first start ≡ v
    unfolding kind_right
    no_other v e = sym (pick-false _ _ _ _ (is-no _ _ (λ (e : n.kind ≡ other_kind). d (ek ∙ e))) e)

    -- an element is asked for its name and attributes
    pub element-decides : kind ≡ element_kind → (r : Option Totals) → r ≡ element_answer attributes n first start → r ≡ kind_answer attributes n first start
    unfolding kind_answer element_answer
    element-decides y r e =
        e ∙ ap (λ (t : Bool). pick t (Some (behind attributes n first start)) None)
        (sym (no_other (element_follows attributes n first start) (and-gives _ _ _ (is-yes _ _ (sym ek ∙ y)) refl)))

    -- a kind that there is not
    pub no_kind : ¬ (kind ≡ element_kind) → None ≡ kind_answer attributes n first start
    unfolding kind_answer
    no_kind z = pick-false _ _ _ _ (no_other false (sym (and_left _ _ (is-no _ _ (λ (e : n.kind ≡ element_kind). z (ek ∙ e)))))) refl

-- ---- `check_parent`
-- ancestors come before their row
ancestor-before : (nodes : List ℕ) (k row x : ℕ) → member x (ancestors_from k nodes row) ≡ true → x < row
unfolding ancestors_from member
ancestor-before nodes zero row x e = never e
ancestor-before nodes (suc k) row x e =
    let p = (node_at nodes row).parent in
    pick-holds (λ (a : List ℕ). member x a ≡ true → x < row) (ltb p row) _ _
    (λ (t : ltb p row ≡ true) (m : or (is x p) (member x (ancestors_from k nodes p)) ≡ true).
    let l : p < row = ltb-true p row t in
    either (x < row) _ _ m (λ (q : is x p ≡ true). let z : x ≡ p = is_true x p q in omega arith)
    (λ (q : member x (ancestors_from k nodes p) ≡ true). let z : x < p = ancestor-before nodes k p x q in omega arith))
    (λ t (m : false ≡ true). never m) e

-- the rows of a line do not come behind its row
pub line_before : (nodes : List ℕ) (row x : ℕ) → member x (line_of nodes row) ≡ true → x ≤ row
unfolding member ancestors_of
line_before nodes row x e =
    either (x ≤ row) _ _ e (λ (q : is x row ≡ true). let z : x ≡ row = is_true x row q in omega arith)
    (λ (q : member x (ancestors_from row nodes row) ≡ true). let z : x < row = ancestor-before nodes row row x q in omega arith)

module _ (nodes : List ℕ) (row depth : ℕ) (h : BehindRow nodes row depth) (p : ℕ) (ep : p ≡ (node_at nodes row).parent) (t : Bool) (et : t ≡ is_parent nodes p) where
  -- its parent can be none
  pub parent-none : t ≡ false → None ≡ depth_answer nodes row
  unfolding depth_answer parent_right
  parent-none n = pick-false _ _ _ _ (and_left _ _ (and_left _ _ (rw (← ep) (sym et ∙ n)))) refl

  module _ (r : Option ℕ) (er : r ≡ climbed nodes (row - 1) p) where
    -- its parent is not the row before, nor an ancestor of it
    pub parent-away : r ≡ None → None ≡ depth_answer nodes row
    unfolding depth_answer parent_right climbed
    parent-away e = pick-false _ _ _ _ (and_left _ _ (and_right _ _ (rw (← ep) (not_picked _ _ (sym e ∙ er))))) refl

    module _ (above : ℕ) (e : r ≡ Some above) where
      -- its parent is in the line of the row before
      open-parent : member p (line_of nodes (row - 1)) ≡ true
      unfolding climbed
      open-parent = (picked _ _ above (sym e ∙ er)).0

      -- so it lies one deeper than its parent
      own-depth : depth_of nodes row ≡ above + 1
      unfolding climbed
      own-depth =
          let b : p ≤ row - 1 = line_before nodes (row - 1) p open-parent in
          let l : (node_at nodes row).parent < row = rw (← ep) (omega (arith, h.later)) in
          let d : above ≡ depth_of nodes p = (picked _ _ above (sym e ∙ er)).1 in
          let u : depth_of nodes row ≡ suc (depth_of nodes p) = rw ep (below-depth nodes row l) in
          omega arith

      -- it is not too deep
      parent-right : t ≡ true → above < depth_limit → Some (above + 1) ≡ depth_answer nodes row
      unfolding depth_answer parent_right
      parent-right y l =
          let s : depth_of nodes row ≤ depth_limit = omega (arith, own-depth) in
          pick_true _ _ _ _ (and_both _ _ (and_both _ _ (rw (← ep) (sym et ∙ y)) (rw (← ep) open-parent)) (le-leb (depth_of nodes row) depth_limit s)) (ap Some (sym own-depth))

      -- a parent at the greatest depth has no children
      too-deep : depth_limit ≤ above → None ≡ depth_answer nodes row
      unfolding depth_answer
      too-deep l =
          let s : depth_limit < depth_of nodes row = omega (arith, own-depth) in
          pick-false _ _ _ _ (and_right _ _ (lt-leb (depth_of nodes row) depth_limit s)) refl

      -- so the depth is told where the parent leaves room for a level more
      pub depth-told : t ≡ true → then_some (ltb above depth_limit) (above + 1) ≡ depth_answer nodes row
      depth-told y = go (ltb above depth_limit) refl
        where
          go : (b : Bool) → ltb above depth_limit ≡ b → then_some b (above + 1) ≡ depth_answer nodes row
          go true l = parent-right y (ltb-true above depth_limit l)
          go false l = too-deep (ltb-false above depth_limit l)

      -- and it is no greater than the row
      pub depth-within : above + 1 ≤ row
      depth-within = omega (arith, own-depth, depth-most nodes row)

-- ---- `check_row`: row 0, or a row by its parent and its kind
module _ (nodes attributes : List ℕ) where
  -- the rules of a row behind row 0
  pub later-right : (row : ℕ) → 0 < row
      → row_right nodes attributes row
      ≡ and (parent_right nodes (row - 1) (node_at nodes row).parent)
      (and (leb (depth_of nodes row) depth_limit) (kind_right attributes (node_at nodes row) (attributes_before nodes row) (bytes_before nodes attributes row)))
  unfolding row_right
  later-right zero h = absurd (not-suc-le-zero h)
  later-right (suc before) h = let e : suc before - 1 ≡ before = omega arith in rw e

  module _ (row : ℕ) (o : row ≡ 0) (d : Bool) (e : d ≡ is_document (node_at nodes 0)) where
    -- the row that is looked at is row 0
    first-row : (r : Option Progress) → r ≡ row_answer nodes attributes 0 → r ≡ row_answer nodes attributes row
    first-row r f = f ∙ ap (row_answer nodes attributes) (sym o)

    -- row 0 is the document, behind which all is as before it
    pub document-right : (before : Progress) → Carried nodes attributes row before.depth before.totals.first before.totals.start → d ≡ true → Some before ≡ row_answer nodes attributes row
    unfolding row_answer row_right is_document attributes_before bytes_before
    document-right before known t =
        let z : ends_in_zeros (node_at nodes 0) ≡ true = (and-true _ _ (sym e ∙ t)).1 in
        let l : depth_of nodes 0 ≡ 0 = omega (arith, depth-most nodes 0) in
        let b : depth_of nodes (0 - 1) ≡ 0 = omega (arith, depth-most nodes 0) in
        let at : Carried nodes attributes 0 before.depth before.totals.first before.totals.start = rw (← o) known in
        let p : before.depth ≡ 0 = at.deep ∙ b in
        let q : before.totals.first ≡ 0 = at.attributes-so-far in
        let r : before.totals.start ≡ 0 = at.bytes-so-far in
        first-row _
        (pick_true _ _ _ _ (sym e ∙ t)
        (ap Some (begins before (depth_of nodes 0) _ _ (p ∙ sym l) (q ∙ sym (no_more attributes (node_at nodes 0) 0 0 z)) (r ∙ sym (no-texts attributes (node_at nodes 0) 0 0 z)))))
      where
        begins : (b : Progress) (d f s : ℕ) → b.depth ≡ d → b.totals.first ≡ f → b.totals.start ≡ s → b ≡ record { depth = d; totals = record { first = f; start = s } }
        begins b d f s e g h = rw (← e, ← g, ← h) refl

    -- a row 0 that is not all zeros is wrong
    pub document-wrong : d ≡ false → None ≡ row_answer nodes attributes row
    unfolding row_answer row_right
    document-wrong t = first-row _ (pick-false _ _ _ _ (sym e ∙ t) refl)

    -- so what is carried on is as before, or nothing
    pub document-only : (before : Progress) → Carried nodes attributes row before.depth before.totals.first before.totals.start → then_some d before ≡ row_answer nodes attributes row
    document-only before known = go d refl
      where
        go : (t : Bool) → d ≡ t → then_some t before ≡ row_answer nodes attributes row
        go true t = document-right before known t
        go false t = document-wrong t

-- three tests fail where the first two do, or the last
first_two : (a b c : Bool) → and a b ≡ false → and a (and b c) ≡ false
unfolding and
first_two true b c e = and_left b c e
first_two false b c e = refl

module _ (nodes attributes : List ℕ) (row depth first start : ℕ) (here : Carried nodes attributes row depth first start) (l : 0 < row) where
  module _ (c : Option ℕ) (ec : c ≡ depth_answer nodes row) where
    -- its parent is wrong, or it lies too deep
    pub row-misplaced : c ≡ None → None ≡ row_answer nodes attributes row
    unfolding row_answer depth_answer
    row-misplaced e = pick-false _ _ _ _ (later-right nodes attributes row l ∙ first_two _ _ _ (not_picked _ _ (sym e ∙ ec))) refl

    module _ (own : ℕ) (e : c ≡ Some own) (k : Option Totals) (ek : k ≡ kind_answer attributes (node_at nodes row) first start) where
      -- what was asked of its kind
      asked : k ≡ kind_answer attributes (node_at nodes row) (attributes_before nodes row) (bytes_before nodes attributes row)
      asked = rw (← here.attributes-so-far, ← here.bytes-so-far) ek

      -- what its kind asks does not hold
      pub row-against : k ≡ None → None ≡ row_answer nodes attributes row
      unfolding row_answer kind_answer behind
      row-against f = pick-false _ _ _ _ (later-right nodes attributes row l ∙ and_right _ _ (and_right _ _ (not_picked _ _ (sym f ∙ asked)))) refl

      -- where parent and texts are right the row is, and the totals go on
      pub row-right : (next : Totals) → k ≡ Some next → Some (record { depth = own; totals = next }) ≡ row_answer nodes attributes row
      unfolding row_answer depth_answer kind_answer behind attributes_before bytes_before
      row-right next f =
          let o = picked _ _ own (sym e ∙ ec) in
          let t = and-true _ _ o.0 in
          let b = picked _ _ next (sym f ∙ asked) in
          pick_true _ _ _ _ (later-right nodes attributes row l ∙ and_both _ _ t.0 (and_both _ _ t.1 b.0))
          (rw add-one (totals (depth_of nodes row) _ o.1 b.1))
        where
          reached : ℕ → Totals → Option Progress
          reached d x = Some (record { depth = d; totals = x })

          totals : (d : ℕ) (x : Totals) → own ≡ d → next ≡ x → reached own next ≡ reached d x
          totals d x e f = ap₂ reached e f

-- ---- `first_bad_row`: the rows before keep the rules, and what they leave is carried
pub record Checking (nodes attributes : List ℕ) (rows row depth first start : ℕ) : Type 0 where
  pub seek : Seeking (row_right nodes attributes) rows row
  pub here : Carried nodes attributes row depth first start

module _ (nodes attributes : List ℕ) (rows : ℕ) where
  -- before row 0 nothing is counted
  pub checking-begin : Checking nodes attributes rows 0 0 0 0
  unfolding attributes_before bytes_before
  checking-begin =
      let o : 0 ≡ depth_of nodes (0 - 1) = omega (arith, depth-most nodes 0) in
      record { seek = seek-begin (row_right nodes attributes) rows; here = record { deep = o; attributes-so-far = refl; bytes-so-far = refl } }

  module _ (row depth first start : ℕ) (i : Checking nodes attributes rows row depth first start) where
    -- with no row left, no row is against the rules
    pub checking-done : rows ≤ row → rows ≡ node_count nodes → None ≡ first_bad_row nodes attributes
    unfolding first_bad_row
    checking-done h e = rw (← e) (seek-done (row_right nodes attributes) rows row i.seek h)

    module _ (l : row < rows) (r : Option Progress) (er : r ≡ row_answer nodes attributes row) where
      -- the row keeps the rules
      pub checking-on : (next : Progress) → r ≡ Some next → Checking nodes attributes rows (row + 1) next.depth next.totals.first next.totals.start
      unfolding row_answer
      checking-on next e =
          let t = picked _ _ next (sym e ∙ er) in
          let b : row + 1 - 1 ≡ row = omega arith in
          record {
            seek = seek-on (row_right nodes attributes) rows row i.seek l t.0;
            here = record { deep = rw b (ap (λ (p : Progress). p.depth) t.1); attributes-so-far = ap (λ (p : Progress). p.totals.first) t.1; bytes-so-far = ap (λ (p : Progress). p.totals.start) t.1 };
          }

      -- the row is against the rules
      pub checking-stop : r ≡ None → rows ≡ node_count nodes → Some row ≡ first_bad_row nodes attributes
      unfolding row_answer first_bad_row
      checking-stop e n = rw (← n) (seek_stop (row_right nodes attributes) rows row i.seek l (not_picked _ _ (sym e ∙ er)))
