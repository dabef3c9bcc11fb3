-- The refusals 1, 2 and 3 in their order, each by its own test; what is left is read.
use Rattle.sheets.proofs.SheetLaws as laws
use Rattle.sheets.proofs.sheet.read_sheet.Goals as goal

pub returns-then-s-gt-SHEET_LIMIT-clause-stores_after : goal.returns-then-s-gt-SHEET_LIMIT-clause-stores_after
returns-then-s-gt-SHEET_LIMIT-clause-stores_after c = laws.too_long_lem c.args.s.now c.args.stores.now.rules.now c.args.stores.now.tokens.now c.args.stores.now.brackets.now c.args.stores.now.texts.now c.if-s-gt-SHEET_LIMIT.true

pub read_text-requires : goal.read_text-requires
read_text-requires c = laws.lent c.args.s.now c.args.stores.now.rules.now c.args.stores.now.tokens.now c.args.stores.now.brackets.now c.args.stores.now.texts.now c.if-s-gt-SHEET_LIMIT.false c.suffice.ensures c.if-not-suffice.false

pub returns-clause-stores_after : goal.returns-clause-stores_after
returns-clause-stores_after c = laws.read c.args.s.now c.args.stores.now.rules.now c.args.stores.now.tokens.now c.args.stores.now.brackets.now c.args.stores.now.texts.now c.if-s-gt-SHEET_LIMIT.false c.suffice.ensures c.if-not-suffice.false c.is_valid.ensures c.if-not-is_valid.false c.read_text.ensures.stores_after

pub returns-then-not-is_valid-clause-stores_after : goal.returns-then-not-is_valid-clause-stores_after
returns-then-not-is_valid-clause-stores_after c = laws.not-utf8 c.args.s.now c.args.stores.now.rules.now c.args.stores.now.tokens.now c.args.stores.now.brackets.now c.args.stores.now.texts.now c.if-s-gt-SHEET_LIMIT.false c.suffice.ensures c.if-not-suffice.false c.is_valid.ensures c.if-not-is_valid.true

pub returns-then-not-suffice-clause-stores_after : goal.returns-then-not-suffice-clause-stores_after
returns-then-not-suffice-clause-stores_after c = laws.short-store c.args.s.now c.args.stores.now.rules.now c.args.stores.now.tokens.now c.args.stores.now.brackets.now c.args.stores.now.texts.now c.if-s-gt-SHEET_LIMIT.false c.suffice.ensures c.if-not-suffice.true
