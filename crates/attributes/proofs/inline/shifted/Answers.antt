-- A content's start is counted from `base` on, any other value stays.
use Rattle.attributes.proofs.InlineLaws.{shifted-content, shifted-other}
use Rattle.attributes.proofs.inline.shifted.Goals as goal

pub returns-then-style-eq-CONTENT_SLOT : goal.returns-then-style-eq-CONTENT_SLOT
returns-then-style-eq-CONTENT_SLOT c = shifted-content _ _ c.if-style-eq-CONTENT_SLOT.true

pub returns-else-style-eq-CONTENT_SLOT : goal.returns-else-style-eq-CONTENT_SLOT
returns-else-style-eq-CONTENT_SLOT c = shifted-other _ _ c.if-style-eq-CONTENT_SLOT.false
