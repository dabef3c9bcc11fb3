-- A value that is too long and stores that are too short are refused; stores of the least lengths have room for the reader, whose answer is told in numbers.
use Rattle.comparison.proofs.AttributeResults as results
use Rattle.comparison.proofs.values_read.read_colour.Goals as goal

pub returns-in_err-check_value-clause-called : goal.returns-in_err-check_value-clause-called
returns-in_err-check_value-clause-called c = results.colour-refused c.args.value.now c.args.stores.now.tokens.now c.args.stores.now.brackets.now c.args.stores.now.texts.now (results.told _ c.check_value.ensures c.stores_suffice-suffice.ensures) c.in_err-check_value.was _ c.from_residual.ensures.1

pub parse_color_attribute-requires : goal.parse_color_attribute-requires
parse_color_attribute-requires c = results.colour-room c.args.value.now c.args.stores.now.tokens.now c.args.stores.now.brackets.now c.args.stores.now.texts.now (results.told _ c.check_value.ensures c.stores_suffice-suffice.ensures) c.in_ok-check_value.was

pub returns-clause-called : goal.returns-clause-called
returns-clause-called c = results.colour-read c.args.value.now c.args.stores.now.tokens.now c.args.stores.now.brackets.now c.args.stores.now.texts.now (results.told _ c.check_value.ensures c.stores_suffice-suffice.ensures) c.in_ok-check_value.was c.parse_color_attribute.ensures.work_after
