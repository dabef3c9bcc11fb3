-- The two alternatives of `nmstart_of` in their order: a plain character, and an escape where there is none.
use Rattle.std.proofs.Common.{rules}
use Rattle.lexer.specs.Name.{nmstart_of}
use Rattle.lexer.proofs.Escapes as laws
use Rattle.lexer.proofs.names.nmstart.Goals as goal

pub returns : goal.returns
unfolding nmstart_of
returns c = laws.either-by _ _ _ c.nmstart_char.ensures _ c.or_else.ensures (λ h. search rules)
