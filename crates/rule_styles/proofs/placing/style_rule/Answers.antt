-- The styles are made and placed behind room for what is kept of them, read back from there, and wiped where the store was zero.
use Rattle.rule_styles.proofs.PlacingRule as laws
use Rattle.rule_styles.proofs.placing.style_rule.Goals as goal

pub styles_of_rule-count-requires : goal.styles_of_rule-count-requires
styles_of_rule-count-requires c = laws.rule-room _ _ _ c.requires.rule_kept_room

pub place_styles-behind-requires : goal.place_styles-behind-requires
place_styles-behind-requires c =
    let t = laws.styles-room _ _ _ c.requires.rule_kept_room _ _ c.styles_of_rule-count.ensures.tokens_after c.styles_of_rule-count.ensures.result_value _ _ _ c.requires.contents_room in record { style_rows_room = t.0; contents_room = t.1 }

pub keep_rule-next-requires : goal.keep_rule-next-requires
keep_rule-next-requires c = laws.keep-room _ _ _ c.requires.rule_kept_room _ _ c.styles_of_rule-count.ensures.tokens_after c.styles_of_rule-count.ensures.result_value _ _ _ _ _ _ c.place_styles-behind.ensures.tokens_after c.place_styles-behind.ensures.contents_after c.place_styles-behind.ensures.value

pub returns : goal.returns
returns c = let t : goal.returns-raw c = laws.rule-left _ _ _ c.requires.rule_kept_room _ _ c.styles_of_rule-count.ensures.tokens_after c.styles_of_rule-count.ensures.result_value _ _ _ _ _ _ c.place_styles-behind.ensures.tokens_after c.place_styles-behind.ensures.contents_after c.place_styles-behind.ensures.value _ _ c.keep_rule-next.ensures.tokens_after c.keep_rule-next.ensures.value in record { tokens_after = t.0; contents_after = t.1.0; value = t.1.1 }
