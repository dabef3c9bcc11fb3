-- The kinds and the name of the seven tokens are those of the definition, or there is no colour.
use Rattle.values.proofs.ColourValues as laws
use Rattle.values.proofs.colour_values.rgb_tokens.Goals as goal
use Rattle.values.proofs.colour_values.rgb_tokens.Goals.{else-is_rgb-via-then-is_rgb+else-is_rgb_list, else-is_rgb-via-else-is_rgb}

pub returns-then-is_rgb_list : goal.returns-then-is_rgb_list
returns-then-is_rgb_list c = laws.rgb-listed _ _ _ c.is_rgb.ensures c.if-is_rgb.true _ c.is_rgb_list.ensures c.if-is_rgb_list.true _ c.rgb_value.ensures

pub returns-else-is_rgb : goal.returns-else-is_rgb
returns-else-is_rgb c =
    elim c.else-is_rgb.branch [
      | else-is_rgb-via-then-is_rgb+else-is_rgb_list w ↦ laws.rgb-unlisted _ _ _ c.is_rgb.ensures w.if-is_rgb.true _ w.is_rgb_list.ensures w.if-is_rgb_list.false
      | else-is_rgb-via-else-is_rgb w ↦ laws.rgb-unnamed _ _ _ c.is_rgb.ensures w.if-is_rgb.false
    ]
