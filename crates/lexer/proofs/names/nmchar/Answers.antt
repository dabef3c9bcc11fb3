-- The two alternatives of `nmchar_of` in their order: a plain character, and an escape where there is none.
use Rattle.std.proofs.Common.{rules}
use Rattle.lexer.specs.Name.{nmchar_of}
use Rattle.lexer.proofs.Escapes as laws
use Rattle.lexer.proofs.names.nmchar.Goals as goal

pub returns : goal.returns
unfolding nmchar_of
returns c = laws.either-by _ _ _ c.nmchar_char.ensures _ c.or_else.ensures (λ h. search rules)
