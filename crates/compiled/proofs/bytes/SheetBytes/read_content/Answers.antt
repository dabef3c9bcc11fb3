-- The text's start and length are the value, which fit 32 bits since the bytes are so few; or its fault is.
use mathlib.Core.Path.{◌∙◌, ◌≡◌}
use Rattle.std.proofs.Common.{rules}
use Rattle.compiled.specs.Style.{content_at}
use Rattle.compiled.proofs.Answers.{raised, mapped_answer, mapped-answer}
use Rattle.compiled.proofs.StyleCode as laws
use Rattle.compiled.proofs.bytes.SheetBytes.read_content.Goals as goal

pub map-requires : goal.map-requires
map-requires c = let h = laws.text-numbers _ _ c.read_text.ensures.text_within c.args.self.few _ c.in_ok-read_text.was in search (rules, h.0, h.1)

pub returns-in_err-read_text : goal.returns-in_err-read_text
unfolding content_at
returns-in_err-read_text c = raised _ _ c.from_residual.ensures.1 ∙ mapped-answer _ _ _ c.read_text.ensures.value _ c.in_err-read_text.was

pub returns : goal.returns
unfolding content_at
returns c =
    let e : c.map.result.value ≡ record { number = c.in_ok-read_text.field-0.value.start; second = c.in_ok-read_text.field-0.value.size; start = c.args.from } = search rules in
    rw (c.map.ensures.next, e) (mapped_answer _ _ _ c.read_text.ensures.value _ c.in_ok-read_text.was)
