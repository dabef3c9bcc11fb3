-- The cases of `escaped_of` in their order: the end of the text, hex digits, of which there are at most six, and the next character.
use Rattle.std.proofs.Common.{arith, sym, ◌∙◌}
use Rattle.characters.proofs.Scalars.{scalar-some}
use Rattle.lexer.proofs.Characters.{count-six}
use Rattle.lexer.proofs.names.escaped.Goals as goal

pub overflow_add-result : goal.overflow_add-result
overflow_add-result c = omega (arith, c.hex_count-n.ensures, count-six c.args.t.now)

pub hex_value_of-requires : goal.hex_value_of-requires
hex_value_of-requires c = omega (arith, c.hex_count-n.ensures, count-six c.args.t.now)

pub behind-requires : goal.behind-requires
behind-requires c = let e = sym c.scalar_at.ensures ∙ c.in_ok-scalar_at.was in omega (arith, scalar-some _ _ _ e)
