-- A value that is too long and stores that are too short are refused; stores of the least lengths have room for the reader, whose answer is told in numbers.
use borrow.Author.Rules.{rules}
use Rattle.comparison.proofs.AttributeResults as results
use Rattle.comparison.proofs.values_read.read_styles.Goals as goal

pub returns-in_err-check_value-clause-called : goal.returns-in_err-check_value-clause-called
returns-in_err-check_value-clause-called c = results.style-refused c.args.value.now c.args.stores.now.rules.now c.args.stores.now.tokens.now c.args.stores.now.brackets.now c.args.stores.now.texts.now (results.told _ c.check_value.ensures (search rules)) c.in_err-check_value.was _ c.from_residual.ensures.1

pub parse_style_attribute-requires : goal.parse_style_attribute-requires
parse_style_attribute-requires c = results.style-room c.args.value.now c.args.stores.now.rules.now c.args.stores.now.tokens.now c.args.stores.now.brackets.now c.args.stores.now.texts.now (results.told _ c.check_value.ensures (search rules)) c.in_ok-check_value.was

pub returns-clause-called : goal.returns-clause-called
returns-clause-called c = results.style-called c.args.value.now c.args.stores.now.rules.now c.args.stores.now.tokens.now c.args.stores.now.brackets.now c.args.stores.now.texts.now (results.told _ c.check_value.ensures (search rules)) c.in_ok-check_value.was c.parse_style_attribute.ensures.stores_after
