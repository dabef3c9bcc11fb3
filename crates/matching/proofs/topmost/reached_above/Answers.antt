-- Above the document there is no row; above an element the first is sought from its parent on.
use mathlib.Core.Path.{sym, ◌∙◌}
use Rattle.matching.proofs.NumberLaws as laws
use Rattle.matching.proofs.topmost.reached_above.Goals as goal

pub returns-in_default : goal.returns-in_default
returns-in_default c = laws.none-above _ _ _ _ _ c.args.element.rooted c.in_default.ensures

pub returns : goal.returns
returns c =
    let up = c.in-Some.ensures in
    laws.asked-from _ _ _ _ _ c.args.element.rooted _ up.0 up.1 _
    (λ e z. laws.of-some _ _ _ c.first_reaching.ensures (sym c.is_some.ensures ∙ e) (λ x w. w.1 (w.0 ∙ z)))
    (λ e. laws.of_none _ _ _ c.first_reaching.ensures (sym c.is_some.ensures ∙ e))
