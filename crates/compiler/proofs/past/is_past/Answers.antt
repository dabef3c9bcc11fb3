-- A fill within the length, and one past it, which says that something did not fit exactly if it is just above.
use Rattle.compiler.proofs.EmittingLaws as laws
use Rattle.compiler.proofs.past.is_past.Goals as goal

pub returns-then-fill-length : goal.returns-then-fill-length
returns-then-fill-length c = laws.beyond-end _ _ c.if-fill-length.true

pub returns-else-fill-length : goal.returns-else-fill-length
returns-else-fill-length c = laws.before-end _ _ c.if-fill-length.false
