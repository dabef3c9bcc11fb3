-- What is left to keep leaves what the whole leaves; what is kept of a rule takes no more numbers than the rule, so the room of the whole is that of each step.
use Rattle.rule_styles.proofs.PlacingRules as laws
use native.Mathlib.Omega.{arith}
use Rattle.rule_styles.proofs.placing.style_rules.Goals as goal

pub loop-init : goal.loop-init
loop-init c = laws.styling-begin _ _ _ _ _ _ _ _ c.requires.rules_kept_room c.requires.contents_room _ (omega arith)

pub style_rule-next-requires : goal.style_rule-next-requires
style_rule-next-requires c =
    let t = laws.styling-room _ _ _ _ _ _ _ _ c.requires.rules_kept_room c.requires.contents_room _ _ _ _ _ _ c.loop.invariant (omega arith) in record { rule_kept_room = t.0; contents_room = t.1 }

pub loop-preserved : goal.loop-preserved
loop-preserved c = laws.styling-more _ _ _ _ _ _ _ _ c.requires.rules_kept_room c.requires.contents_room _ _ _ _ _ _ _ c.loop.invariant (omega arith) _ _ _ c.style_rule-next.ensures.tokens_after c.style_rule-next.ensures.contents_after c.style_rule-next.ensures.value _ c.skip_rule-rows.ensures

pub shape_of-tokens : goal.shape_of-tokens
shape_of-tokens c = c.loop.invariant.row-length

pub shape_of-contents : goal.shape_of-contents
shape_of-contents c = c.loop.invariant.contents-length

pub returns : goal.returns
returns c = let t : goal.returns-raw c = laws.styling-done _ _ _ _ _ _ _ _ c.requires.rules_kept_room c.requires.contents_room _ _ _ _ _ _ c.loop.invariant (omega arith) in record { tokens_after = t.0; contents_after = t.1.0; rules_value = t.1.1.0; place_value = t.1.1.1.0; fill_value = t.1.1.1.1 }
