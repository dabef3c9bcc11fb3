-- The texts of the three rows are those of the three numbers.
use Rattle.values.proofs.ColourValues as laws
use Rattle.values.proofs.colour_values.rgb_value.Goals as goal

pub returns : goal.returns
returns c = laws.value-here _ _ _ _ _ c.text.ensures c.text-2.ensures c.text-3.ensures _ c.rgb_colour.ensures
