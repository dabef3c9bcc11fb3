-- The kind is one of two, and the value is the one asked for.
use mathlib.Core.Path.{◌≡◌, ◌∙◌}
use Rattle.combinators.specs.Choice.{or, is}
use Rattle.declarations.proofs.Styling as laws
use Rattle.declarations.proofs.styles.has_value.Goals as goal
use Rattle.declarations.proofs.styles.has_value.Goals.{then-found-kind, else-found-kind}

pub returns-then-is_kind : goal.returns-then-is_kind
returns-then-is_kind c =
    let k = c.number_at-found.result in
    let either : c.if-found-kind.is_kind ≡ or (is k c.args.kind) (is k c.args.other) =
    elim c.if-found-kind.branch [
      | then-found-kind w ↦ w.is_kind-is ∙ laws.first-kind _ _ _ w.if-found-kind.true
      | else-found-kind w ↦ w.is_kind-is ∙ laws.second-kind _ _ _ w.if-found-kind.false
    ] in
    laws.value-of-kind c.args.rows.now c.args.at _ _ c.number_at-found.ensures c.number_at.ensures _ _ _ _ either c.if-is_kind.true

pub returns-else-is_kind : goal.returns-else-is_kind
returns-else-is_kind c =
    let k = c.number_at-found.result in
    let either : c.if-found-kind.is_kind ≡ or (is k c.args.kind) (is k c.args.other) =
    elim c.if-found-kind.branch [
      | then-found-kind w ↦ w.is_kind-is ∙ laws.first-kind _ _ _ w.if-found-kind.true
      | else-found-kind w ↦ w.is_kind-is ∙ laws.second-kind _ _ _ w.if-found-kind.false
    ] in
    laws.value_none c.args.rows.now c.args.at _ c.number_at-found.ensures _ _ _ _ either c.if-is_kind.false
