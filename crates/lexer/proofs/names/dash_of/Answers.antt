-- A byte that is '-' is there.
use Rattle.lexer.proofs.Idents as laws
use Rattle.lexer.proofs.names.dash_of.Goals as goal

pub returns-clause-value : goal.returns-clause-value
returns-clause-value c = laws.dash-is _ _ c.byte_is.ensures _ c.from.ensures

pub returns-clause-upper_bound : goal.returns-clause-upper_bound
returns-clause-upper_bound c = laws.dash-there _ _ c.byte_is.ensures _ c.from.ensures
