-- Each test says one field of the record, and the numbers are read from the block.
use mathlib.Core.Path.{refl, sym, ◌∙◌}
use native.Mathlib.Omega.{arith}
use Rattle.combinators.proofs.Parts.{part-whole}
use Rattle.std.specs.Cmp.Lexicographic.{same_text}
use Rattle.std.proofs.lemmas.Bool.{not-false}
use Rattle.visits.proofs.visiting.marked_block.Goals as goal

pub returns : goal.returns
returns g c = record {
  inside = omega (arith, c.saturating_sub.ensures, c.if-place-saturating_sub.false);
  flags = sym (part-whole _ _ _) ∙ same_text _ _ (sym (not-false _ (sym c.ne.ensures ∙ c.if-ne.false)));
  mark = c.if-above-mark-ne-WITH_TESTS.false;
  place = refl;
  next = c.pair_there.ensures.value;
  next_low = c.pair_there.ensures.upper_bound;
  awaited = c.pair_there-2.ensures.value;
  tests = c.pair_there-3.ensures.value;
}
