-- The declaration is made of the tokens, its text is kept, and its row is put down.
use Rattle.declarations.proofs.Putting as laws
use Rattle.declarations.proofs.rules.put_declared.Goals as goal

pub keep_text-requires : goal.keep_text-requires
keep_text-requires c = laws.put-keeping c.args.names c.args.value.important c.requires c.part_of.ensures (rw c.tokens.ensures at c.decl_of-read.ensures) c.from.ensures c.named_numbers-decl.ensures

pub put_declaration-requires : goal.put_declaration-requires
put_declaration-requires c = laws.put-narrow c.args.names c.args.value.important c.requires c.part_of.ensures (rw c.tokens.ensures at c.decl_of-read.ensures) c.from.ensures c.named_numbers-decl.ensures

pub returns-clause-put : goal.returns-clause-put
returns-clause-put c = laws.put-done c.args.names c.args.value.important c.requires c.part_of.ensures (rw c.tokens.ensures at c.decl_of-read.ensures) c.from.ensures c.named_numbers-decl.ensures c.keep_text.ensures c.put_declaration.ensures
