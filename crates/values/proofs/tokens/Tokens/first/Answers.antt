-- Rows that are cut to so many tokens are read as so many.
use Rattle.values.proofs.TokenViews as laws
use Rattle.values.proofs.tokens.Tokens.first.Goals as goal

pub returns : goal.returns
returns c = laws.tokens-cut c.args.rows.now c.args.store.now c.args.count c.requires
