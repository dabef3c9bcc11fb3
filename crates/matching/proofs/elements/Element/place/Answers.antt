-- The siblings stand behind their parent, so that counting from there is counting all; where there is no such part, all rows are counted.
use mathlib.Core.List.{List}
use mathlib.Core.Path.{ap, ◌∙◌}
use Prim.Native.Nat.{ℕ, ◌-◌}
use Rattle.page.specs.Ancestors.{element_children}
use Rattle.matching.proofs.PlaceLaws.{place-behind}
use Rattle.matching.proofs.elements.Element.place.Goals as goal

pub returns-in-Some : goal.returns-in-Some
returns-in-Some c =
    let p = c.parent_of-parent.result in
    let e = ap (λ (q : List ℕ). element_children q p (c.args.self.row - p)) c.in-Some.ensures.lookup.0.2 in
    place-behind _ _ c.args.self.rooted _ c.parent_of-parent.ensures.value c.if-parent-self.true _ (c.element_children.ensures.value ∙ e)
