-- What is left to place leaves what the whole leaves.
use Rattle.rule_styles.proofs.PlacingStyles as laws
use native.Mathlib.Omega.{arith}
use Rattle.rule_styles.proofs.placing.place_styles.Goals as goal

pub loop-i-init : goal.loop-i-init
loop-i-init c = laws.placing-begin _ _ _ _ _ _ c.requires.style_rows_room c.requires.contents_room _ _ (omega arith) (omega arith)

pub place_style-f-requires : goal.place_style-f-requires
place_style-f-requires c =
    let t = laws.placing-room _ _ _ _ _ _ c.requires.style_rows_room c.requires.contents_room _ _ _ _ _ c.loop-i.invariant (omega arith) in record { style_row_room = t.0; contents_room = t.1 }

pub loop-i-preserved : goal.loop-i-preserved
loop-i-preserved c = laws.placing-more _ _ _ _ _ _ c.requires.style_rows_room c.requires.contents_room _ _ _ _ _ _ c.loop-i.invariant (omega arith) _ _ _ _ c.place_style-f.ensures.tokens_after c.place_style-f.ensures.contents_after c.place_style-f.ensures.value (omega arith)

pub shape_of-tokens : goal.shape_of-tokens
shape_of-tokens c = c.loop-i.invariant.row-length

pub shape_of-contents : goal.shape_of-contents
shape_of-contents c = c.loop-i.invariant.contents-length

pub returns : goal.returns
returns c = let t : goal.returns-raw c = laws.placing-done _ _ _ _ _ _ c.requires.style_rows_room c.requires.contents_room _ _ _ _ _ c.loop-i.invariant (omega arith) in record { tokens_after = t.0; contents_after = t.1.0; value = t.1.1 }
