-- Each property reads the value as its row of the table does.
use Rattle.values.proofs.DeclLaws as laws
use Rattle.values.proofs.properties.decl_at.Goals as goal

pub returns-in-BackgroundColor : goal.returns-in-BackgroundColor
returns-in-BackgroundColor c name = rw c.in-BackgroundColor.is (laws.background-color-made name _ c.map.result _ c.parse_color.ensures c.map.ensures.cases)

pub returns-in-Background : goal.returns-in-Background
returns-in-Background c name = rw c.in-Background.is (laws.background-made name _ c.map-in-Background.result _ c.parse_background_color.ensures c.map-in-Background.ensures.cases)

pub returns-in-Color : goal.returns-in-Color
returns-in-Color c name = rw c.in-Color.is (laws.color-made name _ c.map-in-Color.result _ c.parse_color-in-Color.ensures c.map-in-Color.ensures.cases)

pub returns-in-Height : goal.returns-in-Height
returns-in-Height c name = rw c.in-Height.is (laws.height-made name _ c.map-in-Height.result _ c.parse_height.ensures c.map-in-Height.ensures.cases)

pub returns-in-MaxHeight : goal.returns-in-MaxHeight
returns-in-MaxHeight c name = rw c.in-MaxHeight.is (laws.max-height-made name _ c.map-in-MaxHeight.result _ c.parse_height-in-MaxHeight.ensures c.map-in-MaxHeight.ensures.cases)

pub returns-in-Overflow : goal.returns-in-Overflow
returns-in-Overflow c name = rw c.in-Overflow.is (laws.overflow-made name _ c.map-in-Overflow.result _ c.parse_overflow.ensures c.map-in-Overflow.ensures.cases)

pub returns-in-OverflowY : goal.returns-in-OverflowY
returns-in-OverflowY c name = rw c.in-OverflowY.is (laws.overflow-y-made name _ c.map-in-OverflowY.result _ c.parse_overflow-in-OverflowY.ensures c.map-in-OverflowY.ensures.cases)

pub returns-in-Content : goal.returns-in-Content
returns-in-Content c name = rw c.in-Content.is (laws.content-made name _ c.map-in-Content.result _ c.parse_content.ensures c.map-in-Content.ensures.cases)

pub returns-in-Display : goal.returns-in-Display
returns-in-Display c name = rw c.in-Display.is (laws.display-made name _ _ c.parse_display.ensures)

pub returns-in-WhiteSpace : goal.returns-in-WhiteSpace
returns-in-WhiteSpace c name = rw c.in-WhiteSpace.is (laws.white-space-made name _ _ c.parse_white_space.ensures)

pub returns-in-Visibility : goal.returns-in-Visibility
returns-in-Visibility c name = rw c.in-Visibility.is (laws.visibility-made name _ c.map-in-Visibility.result _ c.parse_visibility.ensures c.map-in-Visibility.ensures.cases)
