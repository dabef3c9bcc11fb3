-- What is inherited, the rules of agent and user, the attributes that come early, the author's rules, the other attributes: what is kept stays the same between them.
use native.Mathlib.Omega.{arith}
use Rattle.styles.proofs.KeptStores.{kept-on}
use Rattle.path_styles.proofs.PathLaws as laws
use Rattle.path_styles.proofs.path.Styling.declare_element.Goals as goal

pub merge_early-requires : goal.merge_early-requires
merge_early-requires c = laws.early-of c.args.self.now.kept _ c.args.fill _ _ _ _ c.requires.element_room

pub merge_sheet-requires : goal.merge_sheet-requires
merge_sheet-requires c =
    record {
      texts_in = record { begins = c.requires.steady.author-in.begins; ends = omega (arith, c.requires.steady.author-in.ends, c.merge_early.ensures.kept.lengths.texts) };
      right_tops = (c.requires.steady.tops _ _ _ c.merge_early.ensures.same_kept).author-tops;
    }

pub merge_late-requires : goal.merge_late-requires
merge_late-requires c = laws.room-again c.args.self.now.kept _ c.args.fill _ _ c.requires.element_room c.merge_early.ensures.kept.lengths

pub returns : goal.returns
returns c =
    let a = c.args in
    let early = c.merge_early.ensures in
    let late = c.merge_late.ensures in
    record {
      out_after = laws.element-row a.self.now.cascade _ _ _ _ _ _ _ _ c.begin_element.ensures (early.by_index a.fill) _ (laws.author-still a.self.now.kept _ _ _ _ _ _ c.requires.steady early.same_kept) c.merge_sheet.ensures late.out_after;
      value = late.value;
      texts_after = laws.texts-again _ _ _ _ _ _ late.texts_after early.texts_unchanged;
      same_kept = laws.same-twice a.self.now.kept early.same_kept late.same_kept;
      kept = kept-on _ _ _ early.kept late.kept;
    }
