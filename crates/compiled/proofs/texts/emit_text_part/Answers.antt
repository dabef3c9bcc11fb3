-- The part that is lent is the text of the definition.
use mathlib.Core.Path.{ap}
use Rattle.compiled.specs.Text.{text_bytes}
use Rattle.compiled.proofs.Written as laws
use borrow.Author.Rules.{rules}
use Rattle.compiled.proofs.texts.emit_text_part.Goals as goal

pub emit_text-requires : goal.emit_text-requires
emit_text-requires c = laws.part-short _ _ _ _ c.part_of.ensures (search rules)

pub returns : goal.returns
returns c = laws.wrote-as (ap text_bytes c.part_of.ensures) c.emit_text.ensures
