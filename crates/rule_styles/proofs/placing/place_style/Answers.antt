-- A content is copied and its row says where it lies; any other row is written as it was read.
use Rattle.rule_styles.proofs.PlacingStyles as laws
use borrow.Author.Rules.{rules}
use Rattle.rule_styles.proofs.placing.place_style.Goals as goal

pub overflow_cast-value-then-style-eq-CONTENT_SLOT : goal.overflow_cast-value-then-style-eq-CONTENT_SLOT
overflow_cast-value-then-style-eq-CONTENT_SLOT c = search (rules, laws.content-room c.args.tokens.now c.args.text.now c.args.contents.now c.args.at c.args.fill _ c.style_at-style.ensures c.if-style-eq-CONTENT_SLOT.true _ c.part_of-content.ensures c.requires.contents_room)

pub returns-then-style-eq-CONTENT_SLOT : goal.returns-then-style-eq-CONTENT_SLOT
returns-then-style-eq-CONTENT_SLOT c = let t : goal.returns-then-style-eq-CONTENT_SLOT-raw c = laws.content-placed c.args.tokens.now c.args.text.now c.args.contents.now c.args.at c.args.fill _ c.style_at-style.ensures c.if-style-eq-CONTENT_SLOT.true _ c.part_of-content.ensures c.requires.contents_room _ _ _ c.emit_all.ensures c.write_style.ensures in record { tokens_after = t.0; contents_after = t.1.0; value = t.1.1 }

pub returns-else-style-eq-CONTENT_SLOT : goal.returns-else-style-eq-CONTENT_SLOT
returns-else-style-eq-CONTENT_SLOT c = let t : goal.returns-else-style-eq-CONTENT_SLOT-raw c = laws.other-placed c.args.tokens.now c.args.text.now c.args.contents.now c.args.at c.args.fill _ c.style_at-style.ensures c.if-style-eq-CONTENT_SLOT.false _ c.write_style-else-style-eq-CONTENT_SLOT.ensures in record { tokens_after = t.0; contents_after = t.1.0; value = t.1.1 }
