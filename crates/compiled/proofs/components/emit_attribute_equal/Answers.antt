-- The kind and the two texts are emitted one behind the other.
use Prim.Native.Nat.{◌+◌}
use Rattle.std.proofs.lemmas.List.{append_assoc}
use Rattle.combinators.specs.Part.{part}
use Rattle.syntax.specs.RuleLayout.{attribute_equal_kind}
use Rattle.compiled.specs.Number.{number_bytes}
use Rattle.compiled.specs.Text.{text_bytes}
use Rattle.compiled.proofs.Written as laws
use Rattle.compiled.proofs.components.emit_attribute_equal.Goals as goal

pub returns : goal.returns
returns c = let a = c.args in
    laws.wrote-as (append_assoc (number_bytes attribute_equal_kind) (text_bytes (part a.texts.now a.start a.first)) (text_bytes (part a.texts.now (a.start + a.first) a.second)))
    (laws.wrote-then c.emit_number_text.ensures c.emit_text_part.ensures)
