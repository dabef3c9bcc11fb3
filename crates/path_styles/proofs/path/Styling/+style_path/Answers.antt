-- The row of the parent, by the same function, then that of the element; at the document, which has no row of its own, the empty style.
use native.Mathlib.Omega.{arith}
use Rattle.matching.proofs.PathLaws.{parent-rooted, parent-before, top-path}
use Rattle.path_styles.proofs.PathLaws as laws
use Rattle.styles.proofs.KeptStores.{kept-stay, kept-on}
use Rattle.path_styles.proofs.path.Styling.+style_path.Goals as goal

pub returns-in_default : goal.returns-in_default
returns-in_default t c =
    let a = c.args in
    let n = top-path _ _ _ _ c.args.element.rooted c.in_default.ensures in
    record {
      out_after = laws.top-row a.self.now.cascade a.self.now.kept a.self.now.settings _ _ _ _ c.told-out c.clear_row.ensures n;
      value = laws.top-fill a.self.now.kept a.self.now.settings _ n;
      texts_after = laws.top-texts a.self.now.kept a.self.now.settings _ _ n;
      same_kept = laws.same-already a.self.now.kept _ _ _;
      kept = kept-stay _;
    }

pub invariant_of-style_path : goal.invariant_of-style_path
invariant_of-style_path t c = record { rooted = parent-rooted _ _ c.args.element.rooted c.in-Some.ensures.1 _ c.in-Some.ensures.0 }

pub style_path-fill-requires : goal.style_path-fill-requires
style_path-fill-requires t c =
    let a = c.args in
    let q = c.requires in
    let e = c.in-Some.ensures.0 in
    let z = c.in-Some.ensures.1 in (omega (arith, parent-before _ _ a.element.rooted z _ e, c.decreases), (laws.steady-above a.self.now.kept q.steady z _ e, laws.room-above a.self.now.kept _ _ _ (laws.path-by _ _ _ _ a.element.rooted z _ e) _ _ _ _ q.path_room))

pub style_element-requires : goal.style_element-requires
style_element-requires t c =
    let a = c.args in
    let q = c.requires in
    let r = c.style_path-fill in
    let e = c.in-Some.ensures.0 in
    let z = c.in-Some.ensures.1 in
    record {
      steady = laws.steady-still a.self.now.kept q.steady r.ensures.same_kept r.ensures.kept.lengths.texts;
      element_room = laws.room-here a.self.now.kept _ _ _ (laws.path-by _ _ _ _ a.element.rooted z _ e) _ _ _ _ q.path_room a.self.now.settings _ _ _ _ _ r.ensures.value r.ensures.kept.lengths.rules r.ensures.kept.lengths.tokens r.ensures.kept.lengths.brackets r.ensures.kept.lengths.texts;
    }

pub returns : goal.returns
returns t c =
    let a = c.args in
    let q = c.requires in
    let r = c.style_path-fill.ensures in
    let m = c.style_element.ensures in
    let n = laws.path-by _ _ _ _ a.element.rooted c.in-Some.ensures.1 _ c.in-Some.ensures.0 in
    record {
      out_after = laws.below_row a.self.now.cascade a.self.now.kept a.self.now.settings _ _ _ _ _ _ _ _ n (q.steady.kept _ _ _ r.same_kept) r.value r.out_after m.out_after;
      value = laws.below-fill a.self.now.kept a.self.now.settings _ _ _ _ _ n r.value m.value;
      texts_after = laws.below-texts a.self.now.kept a.self.now.settings _ _ _ _ _ _ _ _ n r.texts_after m.texts_after;
      same_kept = laws.same-twice a.self.now.kept r.same_kept m.same_kept;
      kept = kept-on _ _ _ r.kept m.kept;
    }
