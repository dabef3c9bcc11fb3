-- What is asked for is enough, so that stores that suffice for it suffice in front; the whole of them suffices anyway.
use mathlib.Core.Path.{refl, ap}
use Prim.Native.Nat.{ℕ, ◌+◌}
use Rattle.combinators.proofs.LeastLaws.{least}
use Rattle.styling.proofs.FrontLaws as laws
use Rattle.styling.proofs.style.ElementCall.style_in_front.Goals as goal

pub style_front-requires : goal.style_front-requires
style_front-requires c =
    let e = c.args.self.now.element in
    let l = least c.suffice.ensures c.if-suffice.true in
    record {
      front_lent = laws.front-lent c.requires.lent c.requires.call_lent e.page.nodes.now e.page.attributes.now e.page.text.now e.row _ _ refl c.path_room.ensures.value (ap (λ (n : ℕ). n + c.path_room.result) c.bytes.ensures) l;
    }

pub style_texts-requires : goal.style_texts-requires
style_texts-requires c = record { lent = c.requires.lent; call_lent = c.requires.call_lent }
