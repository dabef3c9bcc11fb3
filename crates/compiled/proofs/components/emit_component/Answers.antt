-- Each kind is written by its own writer, as the definition splits kinds.
use mathlib.Core.Path.{sym}
use Rattle.combinators.proofs.Rules.{told}
use Rattle.compiled.proofs.Written as laws
use Rattle.compiled.proofs.components.emit_component.Goals as goal

pub returns-then-is_mark : goal.returns-then-is_mark
returns-then-is_mark c = laws.wrote-as (sym (laws.mark-bytes _ _ _ _ _ (told _ _ _ c.is_mark.ensures c.if-is_mark.true))) c.emit_number.ensures

pub returns-then-kind-eq-NTH : goal.returns-then-kind-eq-NTH
returns-then-kind-eq-NTH c = laws.wrote-as (sym (laws.nth-bytes _ _ _ _ _ c.if-kind-eq-NTH.true)) c.emit_numbers.ensures

pub returns-then-is_name : goal.returns-then-is_name
returns-then-is_name c = laws.wrote-as (sym (laws.named-bytes _ _ _ _ _ (told _ _ _ c.is_name.ensures c.if-is_name.true))) c.emit_number_text.ensures

pub returns-else-is_name : goal.returns-else-is_name
returns-else-is_name c =
    laws.wrote-as (sym (laws.equal-bytes _ _ _ _ _ (told _ _ _ c.is_mark.ensures c.if-is_mark.false) c.if-kind-eq-NTH.false (told _ _ _ c.is_name.ensures c.if-is_name.false)))
    c.emit_attribute_equal.ensures
