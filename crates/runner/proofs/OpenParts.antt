-- What the state holds before a row of an accepted page: in the part of each open row how many element children it has had so far, and behind the count what is right to tell its
-- children of every selector. A step of any row keeps that, and so an element finds the selectors that match at its path.
use Prim.Native.Nat.{ℕ, zero, suc, ◌+◌, ◌*◌, ◌≤◌, ◌<◌}
use mathlib.Core.Path.{◌≡◌, refl, sym, subst, ◌∙◌}
use mathlib.Core.List.{List, [], ◌∷◌, ◌++◌}
use native.Mathlib.Omega.{arith}
use native.Mathlib.Nat.{suc-mul, mul-le-mul_right}
use lib.ListN.{length}
use lib.Seq.{sets, length-sets}
use Rattle.combinators.proofs.Parts.{length_part}
use Rattle.cascade.proofs.Windows.{sets-high}
use Rattle.page.specs.Path.{Element, Path}
use Rattle.page.specs.Rows.{node_count, node_at, element_kind, other_kind}
use Rattle.page.specs.Ancestors.{ancestors_of, line_of, depth_of, element_children, place_of}
use Rattle.page.specs.Accepted.{depth_limit}
use Rattle.page.specs.PathOf.{element_at, path_of}
use Rattle.page.proofs.AcceptedPages.{Accepted}
use Rattle.page.proofs.Ancestry.{top-ancestors}
use Rattle.page.proofs.RowFacts.{one_deeper, shallow}
use Rattle.page.proofs.Paths.{path-document, path-element, place-counts, none_yet}
use Rattle.compiled.specs.Sheet.{compiled_limit}
use Rattle.styles.specs.declared.settings.Settings.{Settings}
use Rattle.segments.specs.Sweep.{pair_at, pair_bytes}
use Rattle.segments.specs.Placed.{matching_places}
use Rattle.segments.specs.Pass.{Passed}
use Rattle.segments.specs.Down.{placed_in, pass_at, fresh_in}
use Rattle.segments.proofs.SegmentLaws.{child-of}
use Rattle.segments.proofs.SweepLaws.{pair_values, pair-back}
use Rattle.segments.proofs.PartLaws.{sets-held}
use Rattle.segments.proofs.DownLaws.{blocks_begin, ToldIn, PassedAt, told-kept, pass-at, fresh_in_lem}
use Rattle.runner.specs.State.{depths, part_width, part_place, part_of, raised, opened}
use Rattle.runner.specs.Run.{document_step, element_step}
use Rattle.runner.proofs.StateParts.{part_pair, part-kept, raised-part, opened-part, opened-kept, length-raised, length-opened}
use Rattle.runner.proofs.OpenRows.{Below, weaken, children-same, child-counted, children-few, ancestors-before, parent-most, parent-no-other, line-next, parent-line}

-- ---- parts by their depths

-- the part of every depth has room
room : (code state : List ℕ) (d : ℕ) → depths * part_width code ≤ length state → d ≤ depth_limit → part_place code d + part_width code ≤ length state
room code state d l h =
    let m : suc d * part_width code ≤ depths * part_width code = mul-le-mul_right (part_width code) (omega arith) in
    omega (arith, suc-mul d (part_width code))

module _ (code : List ℕ) where
  -- a part ends before those of greater depths
  part-before : (k d : ℕ) → k < d → part_place code k + part_width code ≤ part_place code d
  part-before k d h =
      let m : suc k * part_width code ≤ d * part_width code = mul-le-mul_right (part_width code) h in
      omega (arith, suc-mul k (part_width code))

  -- it is as wide as every part
  pub part-long : (state : List ℕ) (d : ℕ) → part_place code d + part_width code ≤ length state → length (part_of code d state) ≡ part_width code
  unfolding part_of
  part-long state d r = length_part state (part_place code d) (part_width code) r

  -- two states with the same parts of lesser depths
  abbrev pub SameAbove : ℕ → List ℕ → List ℕ → Type 0
  SameAbove d state other = (k : ℕ) → k < d → part_of code k other ≡ part_of code k state

  module _ (some : 0 < length code) (state : List ℕ) (d : ℕ) (r : part_place code d + part_width code ≤ length state) where
    -- a raised count leaves them
    raised-above : SameAbove d state (raised state (part_place code d))
    unfolding part_of raised pair_bytes
    raised-above k h =
        part-kept state (pair_bytes (pair_at state (part_place code d) + 1)) (part_place code d) (let z : part_place code d + 2 ≤ length state = omega arith in z) (part_place code k) (part_width code)
        (part-before k d h)

    -- so does a part that is opened
    pub opened-above : (blocks : List ℕ) → length blocks ≡ part_width code → SameAbove d state (opened state (part_place code d) blocks)
    unfolding part_of
    opened-above blocks l k h = opened-kept state (part_place code d) blocks (omega arith) (omega arith) (part_place code k) (part_width code) (part-before k d h)

-- ---- the parts of open rows
module _ (code nodes attributes text : List ℕ) where
  abbrev path_at : ℕ → Path
  path_at row = path_of nodes attributes text row

  -- a part is that of row r before row t
  pub record PartRight (t r : ℕ) (own : List ℕ) : Type 0 where
    pub count : pair_at own 0 ≡ element_children nodes r t
    pub told : (e : Element) → ToldIn code own (e ∷ path_at r)

  -- so it is of all rows of a line, the deepest first; other content has no part
  abbrev pub Open : ℕ → List ℕ → List ℕ → Type 0
  Open t state [] = Unit
  Open t state (r ∷ l) = (¬ ((node_at nodes r).kind ≡ other_kind) → PartRight t r (part_of code (length l) state)) × Open t state l

  -- before row i: the rows open at the row before it have their parts; before row 0 nothing is asked of the state
  abbrev pub Ready : ℕ → List ℕ → Type 0
  Ready zero state = Unit
  Ready (suc i) state = Open (suc i) state (line_of nodes i)

  -- the end of a line
  open-end : (t : ℕ) (state pre l : List ℕ) → Open t state (pre ++ l) → Open t state l
  open-end t state [] l h = h
  open-end t state (x ∷ pre) l h = open-end t state pre l h.1

  -- the same part, before a later row up to which there is no child more
  part_stays : (t t' r : ℕ) (own own' : List ℕ) → own' ≡ own → element_children nodes r t' ≡ element_children nodes r t → PartRight t r own → PartRight t' r own'
  part_stays t t' r own own' e k h = rw e (record { count = h.count ∙ sym k; told = h.told })

  -- states with the same parts of a line, and rows that are no child of one in it
  open_kept : (l : List ℕ) (b t t' : ℕ) (state state' : List ℕ) → Below b l → ((r : ℕ) → r < b → element_children nodes r t' ≡ element_children nodes r t) → SameAbove code (length l) state state'
      → Open t state l → Open t' state' l
  open_kept [] b t t' state state' bl k s h = tt
  open_kept (r ∷ l) b t t' state state' bl k s h = (
    λ z. part_stays t t' r (part_of code (length l) state) (part_of code (length l) state') (s (length l) (omega arith)) (k r bl.0) (h.0 z),
    open_kept l b t t' state state' bl.1 k (λ d m. s d (omega arith)) h.1,
  )

  -- a part that tells right, with the count of a row's children stored
  counted-right : (t r c : ℕ) (own : List ℕ) → blocks_begin ≤ length own → c < pair_values → c ≡ element_children nodes r t → ((e : Element) → ToldIn code own (e ∷ path_at r))
      → PartRight t r (sets own 0 (pair_bytes c))
  unfolding pair_bytes
  counted-right t r c own l f k told =
      record {
        count = pair-back (sets own 0 (pair_bytes c)) 0 c f (sets-held (pair_bytes c) own 0 l) ∙ k;
        told = λ e. told-kept code own (sets own 0 (pair_bytes c)) (e ∷ path_at r) (λ m h _. sets-high (pair_bytes c) own 0 m h) (told e);
      }

  -- the own part of row i, opened below the parts of a line
  opened-open : 0 < length code → (i t b : ℕ) (l state blocks : List ℕ) → Below b l → part_place code (length l) + part_width code ≤ length state → element_children nodes i t ≡ 0
      → length blocks ≡ part_width code → ((e : Element) → ToldIn code blocks (e ∷ path_at i)) → Open t state l → Open t (opened state (part_place code (length l)) blocks) (i ∷ l)
  unfolding part_of
  opened-open some i t b l state blocks bl r k n told h = (
    λ z. rw (opened-part state (part_place code (length l)) (part_width code) blocks n r) (counted-right t i 0 blocks (omega arith) (omega arith) (sym k) told),
    open_kept l b t t state (opened state (part_place code (length l)) blocks) bl (λ r q. refl) (opened-above code some state (length l) r blocks n) h,
  )

-- ---- what each step leaves in the parts of open rows
module _ (code : List ℕ) (few : length code ≤ compiled_limit) (some : 0 < length code) (nodes attributes text : List ℕ) (ok : Accepted nodes attributes text) where
  abbrev OpenAt : ℕ → List ℕ → List ℕ → Type 0
  OpenAt t state l = Open code nodes attributes text t state l

  abbrev ReadyAt : ℕ → List ℕ → Type 0
  ReadyAt i state = Ready code nodes attributes text i state

  -- the document opens its part
  module _ (state texts : List ℕ) (long : depths * part_width code ≤ length state) where
    abbrev fresh : List ℕ
    fresh = fresh_in code (part_of code 1 state)

    abbrev document_passed : Passed
    document_passed = pass_at code [] fresh (part_of code 0 state)

    -- what its pass comes to
    document-passed : (e : Element) → PassedAt code [] e (part_of code 0 state) document_passed
    document-passed e =
        let w = part-long code state 0 (room code state 0 long (omega arith)) in
        let w₁ = part-long code state 1 (room code state 1 long (omega arith)) in
        pass-at code few [] e fresh (part_of code 0 state) (omega arith) (fresh_in_lem code few (part_of code 1 state) (omega arith))

    -- its state stays as long
    pub document-long : length (document_step code state texts).state ≡ length state
    unfolding document_step
    document-long = length-opened (sets state (part_place code 1) fresh) (part_place code 0) _ ∙ length-sets state (part_place code 1) fresh

    -- and is ready for the row behind it
    pub document-ready : ReadyAt 1 (document_step code state texts).state
    unfolding document_step
    document-ready =
        let top : ancestors_of nodes 0 ≡ [] = top-ancestors nodes 0 (omega arith) in
        let r = room code state 0 long (omega arith) in
        let w = part-long code state 0 r in
        let l = length-sets state (part_place code 1) fresh in
        rw top
        (opened-open code nodes attributes text some 0 1 0 [] (sets state (part_place code 1) fresh) document_passed.part tt (omega arith)
        (none_yet nodes attributes text ok 0 1 ok.some (omega arith))
        ((document-passed child-of).long ∙ w)
        (λ e. rw (path-document nodes attributes text ok) (document-passed e).told) tt)

  module _ (i : ℕ) (there : suc i < node_count nodes) (state : List ℕ) (long : depths * part_width code ≤ length state) (ready : ReadyAt (suc i) state) where
    abbrev p : ℕ
    p = (node_at nodes (suc i)).parent

    abbrev at : ℕ
    at = part_place code (depth_of nodes p)

    -- the parent is open, with all above it
    parent-opened : OpenAt (suc i) state (line_of nodes p)
    parent-opened =
        let e = parent-line nodes attributes text ok i there in
        open-end code nodes attributes text (suc i) state e.0 (line_of nodes p) (subst (λ (l : List ℕ). OpenAt (suc i) state l) e.1 ready)

    -- the part at the parent's depth counts its element children before the row, and what lies behind the count is right for any child
    parent-part : PartRight code nodes attributes text (suc i) p (part_of code (depth_of nodes p) state)
    unfolding depth_of
    parent-part = parent-opened.0 (parent-no-other nodes attributes text ok i there)

    -- all of the line are before the row
    line-below : Below (suc i) (line_of nodes p)
    line-below =
        let most = parent-most nodes attributes text ok i there in
        (omega arith, weaken (ancestors_of nodes p) p (suc i) (omega arith) (ancestors-before nodes attributes text ok p (omega arith)))

    -- a row below it is not too deep
    parent-shallow : suc (depth_of nodes p) ≤ depth_limit
    parent-shallow =
        omega (arith, one_deeper nodes attributes text ok (suc i) there (omega arith), shallow nodes attributes text ok (suc i) there)

    -- other content changes nothing
    pub other-ready : (node_at nodes (suc i)).kind ≡ other_kind → ReadyAt (suc (suc i)) state
    other-ready e =
        rw (line-next nodes attributes text ok i there) (
          λ z. absurd (z e),
          open_kept code nodes attributes text (line_of nodes p) (suc i) (suc i) (suc (suc i)) state state line-below
              (λ r q. children-same nodes r (suc i) (λ (k : (node_at nodes (suc i)).kind ≡ element_kind) z. omega (arith, e, k))) (λ d m. refl) parent-opened,
        )

    -- what the parent's part has counted so far
    count-right : pair_at state at ≡ element_children nodes p (suc i)
    unfolding part_of
    count-right = sym (part_pair state at (part_width code) (omega arith)) ∙ parent-part.count

    module _ (element : (node_at nodes (suc i)).kind ≡ element_kind) where
      abbrev e : Element
      e = element_at nodes attributes text (suc i)

      -- the count of the parent's part and 1 is the element's place among its parent's element children
      pub place-right : pair_at state at + 1 ≡ place_of nodes (suc i)
      place-right = omega (arith, count-right, place-counts nodes (suc i) element)

      abbrev counted : List ℕ
      counted = raised state at

      -- the parts of the parent and of the element have room
      parent-room : at + part_width code ≤ length state
      parent-room = room code state (depth_of nodes p) long (omega (arith, parent-shallow))

      -- in the state with the raised count
      own_room : part_place code (suc (depth_of nodes p)) + part_width code ≤ length counted
      own_room = omega (arith, room code state (suc (depth_of nodes p)) long parent-shallow, length-raised state at)

      -- the parent has one child more
      raised-right : PartRight code nodes attributes text (suc (suc i)) p (part_of code (depth_of nodes p) counted)
      unfolding part_of
      raised-right =
          let w = part-long code state (depth_of nodes p) parent-room in
          let f = children-few nodes attributes text ok p (suc i) (omega arith) in
          let c = count-right in
          let k = child-counted nodes (suc i) element in
          rw (raised-part state at (part_width code))
          (counted-right code nodes attributes text (suc (suc i)) p (pair_at state at + 1) (part_of code (depth_of nodes p) state) (omega arith) (omega arith) (omega arith) parent-part.told)

      -- with all above it
      raised-open : OpenAt (suc (suc i)) counted (line_of nodes p)
      unfolding depth_of
      raised-open =
          let most = parent-most nodes attributes text ok i there in
          let before : Below p (ancestors_of nodes p) = ancestors-before nodes attributes text ok p (omega arith) in (
            λ z. raised-right,
            open_kept code nodes attributes text (ancestors_of nodes p) p (suc i) (suc (suc i)) state counted before
                (λ (r : ℕ) (l : r < p). children-same nodes r (suc i) (λ k (z : p ≡ r). omega (arith, z, l)))
                (raised-above code some state (depth_of nodes p) parent-room) parent-opened.1,
          )

      abbrev passed : Passed
      passed = pass_at code (e ∷ []) (part_of code (depth_of nodes p) counted) (part_of code (suc (depth_of nodes p)) counted)

      -- what the element's pass comes to
      element-passed : (c : Element) → PassedAt code (path_of nodes attributes text (suc i)) c (part_of code (suc (depth_of nodes p)) counted) passed
      element-passed c =
          let w = part-long code counted (suc (depth_of nodes p)) own_room in
          rw (path-element nodes attributes text ok (suc i) there (omega arith) element)
          (pass-at code few (e ∷ path_of nodes attributes text p) c (part_of code (depth_of nodes p) counted) (part_of code (suc (depth_of nodes p)) counted) (omega arith) (raised-right.told e))

      -- it finds the selectors that match at the element's path
      pub found_of : passed.matched ≡ matching_places (path_of nodes attributes text (suc i)) (placed_in code)
      found_of = (element-passed child-of).matched

      module _ (settings : Settings) (parent texts : List ℕ) where
        -- the state stays as long
        pub element-long : length (element_step code settings e (depth_of nodes p) parent state texts).state ≡ length state
        unfolding element_step
        element-long = length-opened counted (part_place code (suc (depth_of nodes p))) _ ∙ length-raised state at

        -- and the own part is open below the parent's
        pub element-ready : ReadyAt (suc (suc i)) (element_step code settings e (depth_of nodes p) parent state texts).state
        unfolding element_step depth_of
        element-ready =
            let w = part-long code counted (suc (depth_of nodes p)) own_room in
            rw (line-next nodes attributes text ok i there)
            (opened-open code nodes attributes text some (suc i) (suc (suc i)) (suc i) (line_of nodes p) counted passed.part line-below own_room
            (none_yet nodes attributes text ok (suc i) (suc (suc i)) there (omega arith)) ((element-passed child-of).long ∙ w) (λ c. (element-passed c).told) raised-open)
