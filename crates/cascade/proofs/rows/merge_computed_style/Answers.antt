-- A record or a slot that there is not changes nothing; else the slot is read, updated and put back.
use mathlib.Core.Path.{◌≡◌, refl}
use mathlib.Core.Bool.{false}
use native.Mathlib.Omega.{arith}
use Rattle.std.proofs.lemmas.Grind.{common_steps}
use Rattle.combinators.specs.Choice.{and}
use Rattle.cascade.specs.Record.{is_named}
use Rattle.cascade.proofs.Merging.{merged, merged-nothing}
use borrow.Author.Rules.{rules}
use Rattle.cascade.proofs.rows.merge_computed_style.Goals as goal

pub returns-then-pseudo-ge-RECORD_COUNT : goal.returns-then-pseudo-ge-RECORD_COUNT
unfolding is_named and
returns-then-pseudo-ge-RECORD_COUNT c =
    let e : is_named c.args.pseudo c.args.style.slot ≡ false = grind (arith, common_steps) in
    merged-nothing _ _ _ _ c.requires e refl

pub returns : goal.returns
returns c = search (rules, merged)
